-- Of two places comes the text on them, of which nothing is put, or the refusal of one of them.
use Rattle.std.proofs.Common.{◌≡◌, ◌≤◌, ℕ, Bool, List, [], ◌∷◌, ◌++◌, Result, Ok, Err, false, sym, ap, subst, ◌∙◌, inl, inr, lit≤}
use Rattle.dwz_model.specs.declared.fault.GraphErr.{GraphErr}
use Rattle.dwz_model.specs.declared.fault.GraphErr.TheVariants.{NoMemory, Refused}
use Rattle.dwz_model.specs.declared.fault.Refusal.{Refusal}
use Rattle.dwz_model.specs.declared.place.Place.{Place as PlaceAsked}
use Rattle.dwz_def_reading.specs.Documents.{Doc}
use Rattle.dwz_def_reading.specs.Files.{ReadAll, no_files_before}
use Rattle.dwz_def_reading.specs.Places.{Place}
use Rattle.dwz_outside.specs.declared.puts.Put.{Put}
use Rattle.dwz_text.specs.Lines.{Text}
use Rattle.dwz_words.specs.Asked.{places_asked}
use Rattle.dwz_words.specs.declared.options.Options.{Options}
use Rattle.dwz_run_course.specs.declared.output.Output.{Output}
use Rattle.dwz_run_course.specs.declared.output.Said.{Said}
use Rattle.dwz_run_course.specs.declared.output.Said.TheVariants.{Parts}
use Rattle.dwz_run_course.specs.declared.output.TextPart.{TextPart}
use Rattle.dwz_run_course.specs.Answers.{CanBeSaid, IsAnswer}
use Rattle.dwz_def_explain.specs.Places.{Explains}
use Rattle.dwz_explain.specs.Answers.{Answers}
use Rattle.dwz_def_run.specs.Tells.{TellsWhy, answer_of, asked_place}

-- two places as numbers of files and offsets
abbrev numbers_of : PlaceAsked × PlaceAsked → (ℕ × ℕ) × (ℕ × ℕ)
numbers_of ps = ((ps.0.file, ps.0.offset), (ps.1.file, ps.1.offset))

-- a place that is refused is of `.debug_info`
of_section : (docs : List (Doc ℕ)) (p q : Place) (r : Refusal) → Explains docs p q (Err r) → r.section ≤ 9
of_section docs p q r (inl first) = subst (λ (s : Refusal). s.section ≤ 9) (sym first.1) (lit≤ tt)
of_section docs p q r (inr second) = subst (λ (s : Refusal). s.section ≤ 9) (sym second.3) (lit≤ tt)

-- an answer has one part
pub one_part : (parts pushed before : List TextPart) (part : TextPart) → parts ≡ pushed → pushed ≡ before ++ part ∷ [] → before ≡ [] → parts ≡ part ∷ []
one_part parts pushed before part are more none = are ∙ (more ∙ ap (λ (ps : List TextPart). ps ++ part ∷ []) none)

module _ (o : Options) (contents : List (List ℕ)) (docs : List (Doc ℕ)) (reads : ReadAll no_files_before contents docs)
    (places : PlaceAsked × PlaceAsked) (asked : numbers_of places ≡ places_asked o) where
  -- the places are those that are asked for
  abbrev Said_of : (ℕ × ℕ) × (ℕ × ℕ) → Result Text Refusal → Type 0
  Said_of ps = Explains docs (asked_place ps.0) (asked_place ps.1)

  of_asked : (r : Result Text Refusal) → Said_of (numbers_of places) r → Said_of (places_asked o) r
  of_asked r is = subst (λ (ps : (ℕ × ℕ) × (ℕ × ℕ)). Said_of ps r) asked is

  pub untold : (e : GraphErr) → Answers (Said_of (numbers_of places)) (Err e) → IsAnswer (TellsWhy o contents) (Err e)
  untold (Refused r) is = (inr (docs, reads, of_asked (Err r) is), of_section docs (asked_place (numbers_of places).0) (asked_place (numbers_of places).1) r is)
  untold NoMemory is = tt

  pub told : (text : Text) → Said_of (numbers_of places) (Ok text) → (out : Output) (parts : List TextPart) → out.puts ≡ [] → out.said ≡ Parts parts
      → out.differs ≡ false → out.partly ≡ false → parts ≡ record { text = text; is_summary = false } ∷ [] → IsAnswer (TellsWhy o contents) (Ok out)
  told text is out parts puts said same whole one =
      let by : List Put → Said → Bool → Bool → Output = λ p s d b. record { puts = p; said = s; differs = d; partly = b } in
      let all = said ∙ ap (λ (ps : List TextPart). Parts ps) one in
      let is_answer : out ≡ answer_of text = ap (λ (p : List Put). by p out.said out.differs out.partly) puts ∙ (ap (λ (s : Said). by [] s out.differs out.partly) all
      ∙ (ap (λ (d : Bool). by [] (Parts (record { text = text; is_summary = false } ∷ [])) d out.partly) same
      ∙ ap (by [] (Parts (record { text = text; is_summary = false } ∷ [])) false) whole)) in
      ((docs, reads, (text, of_asked (Ok text) is, is_answer)), subst CanBeSaid (sym said) tt)
