-- What units and files mean, one by one.
use Rattle.std.proofs.Common.{◌≡◌, ℕ, zero, suc, List, [], ◌∷◌, Some, slice_get, Ok, refl, sym, ap, ◌∙◌}
use Rattle.dwz_bytes.specs.Reading.{◌>>=◌}
use Rattle.dwz_def_reading.specs.Units.{RawUnit}
use Rattle.dwz_def_reading.specs.Trees.{End, Entry}
use Rattle.dwz_def_reading.proofs.PartLemmas.{bind_ok}
use Rattle.dwz_def_reading.specs.Documents.{Doc, DwUnit}
use Rattle.dwz_def_reading.specs.Meanings.{Around, MeanUnits, scope_of}
use Rattle.dwz_def_reading.specs.Meant.{entries_meaning, kind_meaning, node_meaning, unit_meaning, unit_with, with_next}
use Rattle.dwz_def_reading.proofs.MeaningUnits.{unit_agrees}
use Rattle.dwz_def_reading.specs.Files.{Limits, files_meaning}

pub unit_meant : (around : Around ℕ) (us : List RawUnit) (vs : List (DwUnit ℕ)) → MeanUnits around us vs → (n : ℕ) (u : RawUnit) → slice_get us n ≡ Some u
    → (v : DwUnit ℕ) × (unit_meaning around u ≡ Ok v) × (slice_get vs n ≡ Some v)
unit_meant around [] vs m n u e = absurd cc
unit_meant around (w ∷ us) [] m n u e = absurd m
unit_meant around (w ∷ us) (v ∷ vs) m zero u e =
    let same : w ≡ u = cc in
    (v, ap (unit_meaning around) (sym same) ∙ ((unit_agrees around w).ok v).1 m.0, refl)
unit_meant around (w ∷ us) (v ∷ vs) m (suc n) u e = unit_meant around us vs m.1 n u e

pub no_files : (l : Limits) (n : ℕ) (docs : List (Doc ℕ)) → files_meaning l n [] ≡ Ok docs → [] ≡ docs
unfolding files_meaning
no_files l n docs e = cc

pub root_is : (around : Around ℕ) (u : RawUnit) (v : DwUnit ℕ) → unit_meaning around u ≡ Ok v → entries_meaning (scope_of around u) (Entry u.root u.below End) ≡ Ok (Entry v.root v.below End)
unfolding entries_meaning
root_is around u v e =
    let s = scope_of around u in
    let x = bind_ok (kind_meaning s u.kind) (λ kind. node_meaning s u.root >>= λ root. entries_meaning s u.below >>= unit_with around u kind root) v e in
    let y = bind_ok (node_meaning s u.root) (λ root. entries_meaning s u.below >>= unit_with around u x.0 root) v x.2 in
    let z = bind_ok (entries_meaning s u.below) (unit_with around u x.0 y.0) v y.2 in
    let is : record { at = around.place u.at; kind = x.0; root = y.0; below = z.0 } ≡ v = cc in
    (λ i. y.1 i >>= λ d. entries_meaning s u.below >>= λ below. Ok End >>= with_next d below)
    ∙ (λ i. z.1 i >>= λ below. Ok End >>= with_next y.0 below)
    ∙ (λ i. Ok (Entry (is i).root (is i).below End))
