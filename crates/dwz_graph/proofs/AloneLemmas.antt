-- Files that are read by themselves on one thread are read as by several.
use Rattle.std.proofs.Common.{◌≡◌, ℕ, suc, List, [], ◌∷◌, Result, Ok, Err, refl, subst}
use Rattle.dwz_def_reading.specs.Reading.{◌>>=◌}
use Rattle.dwz_model.specs.declared.fault.GraphErr.{GraphErr}
use Rattle.dwz_model.specs.declared.fault.Refusal.{Refusal}
use Rattle.dwz_def_reading.specs.Documents.{Doc}
use Rattle.dwz_def_reading.specs.Files.{Limits, file_meaning, files_meaning, given_rule, limits_after, refused_in, with_doc}
use Rattle.dwz_def_reading.specs.Finished.{files_meaning_by}
use Rattle.dwz_unit.specs.declared.mode.FileKind.TheVariants.{Given as OfGiven}
use Rattle.dwz_unit.specs.Rows.{units_of}
use Rattle.dwz_graph.specs.declared.file.File.{File}
use Rattle.dwz_graph.specs.ByRule.{AreReadBy}
use Rattle.dwz_graph.specs.Files.{AreRead, AreReadFrom, AreReadFromBy, FilesFail, HoldsOrFails}
use Rattle.dwz_graph.proofs.RuleLemmas.{given_reads}

same_meaning : (l : Limits) (n : ℕ) (contents : List (List ℕ)) → files_meaning_by (λ (k : ℕ). given_rule) l n contents ≡ files_meaning l n contents
unfolding files_meaning files_meaning_by
same_meaning l n [] = refl
same_meaning l n (bytes ∷ contents) = λ i. refused_in n (file_meaning l bytes) >>= λ x. same_meaning (limits_after l bytes x.0) (suc n) contents i >>= with_doc x.1

all_given : (l : Limits) (n : ℕ) (contents : List (List ℕ)) (files : List File) (end : Limits) → AreReadBy given_rule OfGiven l n contents files end → AreRead l n contents files end
all_given l n [] [] end is = is
all_given l n [] (f ∷ files) end is = absurd is
all_given l n (bytes ∷ contents) [] end is = absurd is
all_given l n (bytes ∷ contents) (f ∷ files) end is = (given_reads l n bytes (Ok f) is.0, all_given (limits_after l bytes (units_of f.units)) (suc n) contents files end is.1)

pub given_hold : {X : Type 0} (l : Limits) (contents : List (List ℕ)) (files : X → List File) (r : Result X GraphErr)
    → HoldsOrFails (λ x. AreReadFromBy given_rule OfGiven l contents (files x)) r (files_meaning_by (λ (k : ℕ). given_rule) l 0 contents)
    → HoldsOrFails (λ x. AreReadFrom l contents (files x)) r (files_meaning l 0 contents)
given_hold l contents files (Ok x) h = record { end = h.end; are = all_given l 0 contents (files x) h.end h.are }
given_hold l contents files (Err e) h = subst (λ (m : Result (List (Doc ℕ)) Refusal). FilesFail e m) (same_meaning l 0 contents) h
