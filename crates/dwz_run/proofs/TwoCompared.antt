-- What comes of files that are compared: the line on them, or the first refusal.
use Rattle.std.proofs.Common.{◌≡◌, ℕ, Bool, false, List, [], ◌∷◌, Option, Ok, Err, sym, ap, subst, ◌∙◌}
use Rattle.dwz_model.specs.declared.fault.GraphErr.{GraphErr}
use Rattle.dwz_model.specs.declared.fault.GraphErr.TheVariants.{NoMemory, Refused}
use Rattle.dwz_def_reading.specs.Finished.{FinishedDocs, finished_meaning}
use Rattle.dwz_def_reading.proofs.FinishedLemmas.{finished_agrees}
use Rattle.dwz_def_check.specs.Answer.{IsSameOf}
use Rattle.dwz_def_check.specs.declared.same.Same.{Same}
use Rattle.dwz_def_check.specs.Texts.{check_text}
use Rattle.dwz_graph.specs.Files.{FilesFail}
use Rattle.dwz_outside.specs.declared.puts.Put.{Put}
use Rattle.dwz_text.specs.Lines.{Text}
use Rattle.dwz_run_course.specs.declared.output.Output.{Output}
use Rattle.dwz_run_course.specs.declared.output.Said.{Said}
use Rattle.dwz_run_course.specs.declared.output.Said.TheVariants.{Parts}
use Rattle.dwz_run_course.specs.declared.output.TextPart.{TextPart}
use Rattle.dwz_run_course.specs.Answers.{CanBeSaid, IsAnswer}
use Rattle.dwz_def_run.specs.Compares.{ComparesTwo, answer_on, tells_apart}
use Rattle.dwz_run.proofs.FinishedPlaced.{finished_placed}

-- files that don't read are refused with their first fault
pub unread : (common : Option (List ℕ)) (files : List (List ℕ)) (e : GraphErr) → FilesFail e (finished_meaning common files) → IsAnswer (ComparesTwo common files) (Err e)
unread common files NoMemory fail = tt
unread common files (Refused r) fail = let first = ((finished_agrees common files).err r).0 fail in (first, finished_placed common files r first)

-- and of files that read comes the line on them
pub compared : (common : Option (List ℕ)) (files : List (List ℕ)) (said : FinishedDocs) (same : Same) (text : Text) → finished_meaning common files ≡ Ok said → IsSameOf said same
    → text ≡ check_text same → (out : Output) (parts : List TextPart) → out.puts ≡ [] → out.said ≡ Parts parts → out.differs ≡ tells_apart same → out.partly ≡ false
    → parts ≡ record { text = text; is_summary = false } ∷ [] → IsAnswer (ComparesTwo common files) (Ok out)
compared common files said same text means is line out parts puts saying differs whole one =
    let by : List Put → Said → Bool → Bool → Output = λ p s d b. record { puts = p; said = s; differs = d; partly = b } in
    let part : Text → TextPart = λ t. record { text = t; is_summary = false } in
    let all : out.said ≡ Parts (part (check_text same) ∷ []) = saying ∙ ap (λ (ps : List TextPart). Parts ps) one ∙ ap (λ (t : Text). Parts (part t ∷ [])) line in
    let answers : out ≡ answer_on same =
    ap (λ (p : List Put). by p out.said out.differs out.partly) puts ∙ ap (λ (s : Said). by [] s out.differs out.partly) all
    ∙ ap (λ (d : Bool). by [] (Parts (part (check_text same) ∷ [])) d out.partly) differs
    ∙ ap (by [] (Parts (part (check_text same) ∷ [])) (tells_apart same)) whole in
    ((said, ((finished_agrees common files).ok said).0 means, same, is, answers), subst CanBeSaid (sym saying) tt)
