-- Of options and contents at most one thing comes.
use Rattle.std.proofs.Common.{◌≡◌, ◌↔◌, ℕ, Bool, true, false, List, [], ◌∷◌, Result, Ok, Err, refl, sym, ap, subst, ◌∙◌, inl, inr}
use Rattle.dwz_def_reading.specs.Refusal.{Refusal}
use Rattle.dwz_def_reading.specs.Documents.{Doc}
use Rattle.dwz_def_reading.specs.Files.{First, ReadAll, no_files_before}
use Rattle.dwz_def_reading.proofs.FileLemmas.{files_agree}
use Rattle.dwz_words.specs.declared.options.Options.{Options}
use Rattle.dwz_run_course.specs.Outcome.{Outcome, refuses, writes}
use Rattle.dwz_def_readback.specs.Prunable.{IsPrunable}
use Rattle.dwz_def_output.specs.Written.{ArePrunable, ReadAs}
use Rattle.dwz_def_explain.specs.Places.{Explains}
use Rattle.dwz_def_explain.proofs.PlaceLemmas.{one_answer}
use Rattle.dwz_text.specs.Lines.{Text}
use Rattle.dwz_def_run.specs.Out.{IsRefused, Out, OutBy, Slims, output_of, run_for, sup_name}
use Rattle.dwz_def_run.specs.Tells.{IsTold, IsUntold, TellsWhy, answer_of, first_asked, second_asked}
use Rattle.dwz_def_run.proofs.Compared.{one_compared}
use Rattle.dwz_def_run.proofs.Expanded.{one_expanded}
use Rattle.dwz_def_output.specs.Refusals.{OutFault}
use Rattle.dwz_def_output.proofs.OneRefusal.{one_refusal}

-- contents read as one list of documents, or have one first fault
one_reading : (contents : List (List ℕ)) (d e : List (Doc ℕ)) → ReadAll no_files_before contents d → ReadAll no_files_before contents e → d ≡ e
one_reading contents d e a b =
    let p = ((files_agree no_files_before 0 contents).ok d).1 a in
    let q = ((files_agree no_files_before 0 contents).ok e).1 b in
    cc

one_fault : (contents : List (List ℕ)) (p q : Refusal) → First no_files_before 0 contents p → First no_files_before 0 contents q → p ≡ q
one_fault contents p q a b =
    let x = ((files_agree no_files_before 0 contents).err p).1 a in
    let y = ((files_agree no_files_before 0 contents).err q).1 b in
    cc

not_both : (contents : List (List ℕ)) (d : List (Doc ℕ)) (q : Refusal) → ReadAll no_files_before contents d → First no_files_before 0 contents q → ⊥
not_both contents d q a b =
    let x = ((files_agree no_files_before 0 contents).ok d).1 a in
    let y = ((files_agree no_files_before 0 contents).err q).1 b in
    cc

-- and the same files are prunable
same_flag : (P : Type 0) (a b : Bool) → (a ≡ true) ↔ P → (b ≡ true) ↔ P → a ≡ b
same_flag P true b x y = sym (y.1 (x.0 refl))
same_flag P false true x y = x.1 (y.0 refl)
same_flag P false false x y = refl

flags_one : (contents : List (List ℕ)) (docs : List (Doc ℕ)) (a b : List Bool) → ArePrunable contents docs a → ArePrunable contents docs b → a ≡ b
flags_one [] [] [] [] x y = refl
flags_one [] [] [] (q ∷ b) x y = absurd y
flags_one [] [] (p ∷ a) b x y = absurd x
flags_one [] (d ∷ docs) a b x y = absurd x
flags_one (c ∷ contents) [] a b x y = absurd x
flags_one (c ∷ contents) (d ∷ docs) [] b x y = absurd x
flags_one (c ∷ contents) (d ∷ docs) (p ∷ a) [] x y = absurd y
flags_one (c ∷ contents) (d ∷ docs) (p ∷ a) (q ∷ b) x y =
    ap (λ (t : Bool). t ∷ a) (same_flag (IsPrunable c d.units) p q x.0 y.0) ∙ ap (λ (ts : List Bool). q ∷ ts) (flags_one contents docs a b x.1 y.1)

same_flags : (contents : List (List ℕ)) (d e : List (Doc ℕ)) (a b : List Bool) → d ≡ e → ArePrunable contents d a → ArePrunable contents e b → a ≡ b
same_flags contents d e a b same x y = flags_one contents e a b (subst (λ (docs : List (Doc ℕ)). ArePrunable contents docs a) same x) y

-- so a refusal is one of the same run
moved : (o : Options) (contents : List (List ℕ)) (d e : List (Doc ℕ)) (a b : List Bool) (q : Refusal) → IsRefused o contents d a q → ReadAs contents e b
    → OutFault (sup_name o) (run_for o contents e b) q
moved o contents d e a b q is read =
    let docs = one_reading contents d e is.read.reads read.reads in
    let flags = same_flags contents d e a b docs is.read.prunable read.prunable in
    subst (λ (p : List Bool). OutFault (sup_name o) (run_for o contents e p) q) flags (subst (λ (x : List (Doc ℕ)). OutFault (sup_name o) (run_for o contents x a) q) docs is.fault)

-- of files that are slimmed
one_slimmed : (o : Options) (contents : List (List ℕ)) (a b : Outcome) → Slims o contents a → Slims o contents b → a ≡ b
one_slimmed o contents (writes a) (writes b) x y =
    let docs = one_reading contents x.0 y.0 x.2.read.reads y.2.read.reads in
    let flags = same_flags contents x.0 y.0 x.1 y.1 docs x.2.read.prunable y.2.read.prunable in
    ap writes (x.3 ∙ ap (λ (d : List (Doc ℕ)). output_of o (run_for o contents d x.1)) docs ∙ ap (λ (p : List Bool). output_of o (run_for o contents y.0 p)) flags ∙ sym y.3)
one_slimmed o contents (writes a) (refuses q) x (inl y) = absurd (not_both contents x.0 q x.2.read.reads y)
one_slimmed o contents (writes a) (refuses q) x (inr y) =
    absurd (x.2.free q (moved o contents y.0 x.0 y.1 x.1 q y.2 x.2.read))
one_slimmed o contents (refuses p) (writes b) (inl x) y = absurd (not_both contents y.0 p y.2.read.reads x)
one_slimmed o contents (refuses p) (writes b) (inr x) y =
    absurd (y.2.free p (moved o contents x.0 y.0 x.1 y.1 p x.2 y.2.read))
one_slimmed o contents (refuses p) (refuses q) (inl x) (inl y) = ap refuses (one_fault contents p q x y)
one_slimmed o contents (refuses p) (refuses q) (inl x) (inr y) = absurd (not_both contents y.0 p y.2.read.reads x)
one_slimmed o contents (refuses p) (refuses q) (inr x) (inl y) = absurd (not_both contents x.0 q x.2.read.reads y)
one_slimmed o contents (refuses p) (refuses q) (inr x) (inr y) =
    ap refuses (one_refusal (sup_name o) (run_for o contents x.0 x.1) p q x.2.fault (moved o contents y.0 x.0 y.1 x.1 q y.2 x.2.read))

-- ---- two entries that are explained

module _ (o : Options) (contents : List (List ℕ)) where
  -- what is said of them is one, whichever documents the contents read as
  one_said : (d e : List (Doc ℕ)) (r s : Result Text Refusal) → ReadAll no_files_before contents d → ReadAll no_files_before contents e
      → Explains d (first_asked o) (second_asked o) r → Explains e (first_asked o) (second_asked o) s → r ≡ s
  one_said d e r s a b x y =
      let same = one_reading contents d e a b in
      one_answer e (first_asked o) (second_asked o) r s (subst (λ (docs : List (Doc ℕ)). Explains docs (first_asked o) (second_asked o) r) same x) y

  abbrev Said : Type 0
  Said = Result Text Refusal

  one_text : (a b : Said) (s t : Text) → a ≡ Ok s → b ≡ Ok t → a ≡ b → s ≡ t
  one_text a b s t x y e = cc

  one_untold : (a b : Said) (p q : Refusal) → a ≡ Err p → b ≡ Err q → a ≡ b → p ≡ q
  one_untold a b p q x y e = cc

  told_or_not : (d e : List (Doc ℕ)) (text : Text) (q : Refusal) → ReadAll no_files_before contents d → ReadAll no_files_before contents e
      → IsTold o d text → IsUntold o e q → ⊥
  told_or_not d e text q a b x y = let same = one_said d e (Ok text) (Err q) a b x y in cc

  one_told : (a b : Outcome) → TellsWhy o contents a → TellsWhy o contents b → a ≡ b
  one_told (writes a) (writes b) x y =
      let text = one_text (Ok x.2.0) (Ok y.2.0) x.2.0 y.2.0 refl refl (one_said x.0 y.0 (Ok x.2.0) (Ok y.2.0) x.1 y.1 x.2.1 y.2.1) in
      ap writes (x.2.2 ∙ ap answer_of text ∙ sym y.2.2)
  one_told (writes a) (refuses q) x (inl y) = absurd (not_both contents x.0 q x.1 y)
  one_told (writes a) (refuses q) x (inr y) = absurd (told_or_not x.0 y.0 x.2.0 q x.1 y.1 x.2.1 y.2)
  one_told (refuses p) (writes b) (inl x) y = absurd (not_both contents y.0 p y.1 x)
  one_told (refuses p) (writes b) (inr x) y = absurd (told_or_not y.0 x.0 y.2.0 p y.1 x.1 y.2.1 x.2)
  one_told (refuses p) (refuses q) (inl x) (inl y) = ap refuses (one_fault contents p q x y)
  one_told (refuses p) (refuses q) (inl x) (inr y) = absurd (not_both contents y.0 p y.1 x)
  one_told (refuses p) (refuses q) (inr x) (inl y) = absurd (not_both contents x.0 q x.1 y)
  one_told (refuses p) (refuses q) (inr x) (inr y) = ap refuses (one_untold (Err p) (Err q) p q refl refl (one_said x.0 y.0 (Err p) (Err q) x.1 y.1 x.2 y.2))

-- ---- either way

pub one_outcome : (o : Options) (contents : List (List ℕ)) (a b : Outcome) → Out o contents a → Out o contents b → a ≡ b
one_outcome o contents a b x y = by o.explain o.check o.expand x y where
  by : (explain check expand : Bool) → OutBy explain check expand o contents a → OutBy explain check expand o contents b → a ≡ b
  by true check expand s t = one_told o contents a b s t
  by false true expand s t = one_compared o contents a b s t
  by false false true s t = one_expanded o contents a b s t
  by false false false s t = one_slimmed o contents a b s t
