-- The type of a type unit after is an entry of it.
use Rattle.std.proofs.Common.{◌≡◌, ℕ, List, refl, ap, subst, ◌∙◌, inl, inr}
use Rattle.dwz_def_reading.specs.Documents.{DwUnit}
use Rattle.dwz_def_tops.specs.Shown.{HasMain, HaveMains, keys}
use Rattle.dwz_def_tops.proofs.MainLemmas.{keys_map, main_by}
use Rattle.dwz_def_tops.specs.Spots.{EntryName, FileUnit}
use Rattle.dwz_def_plan.specs.Moves.{Move, image_in}
use Rattle.dwz_def_images.specs.After.{Replaces}
use Rattle.dwz_def_images.specs.Units.{kept_unit}
use Rattle.dwz_def_images.proofs.EntryLemmas.{kept_type}
use Rattle.dwz_def_images.proofs.OldLemmas.{in_units}

pub out_mains : (units : List (FileUnit EntryName)) (m : Move) (outs : List (DwUnit EntryName)) → Replaces units m outs → HaveMains outs
out_mains units m outs r = λ v is. elim (r.after.from v is) [
  | inl n ↦ λ signature main q. absurd (let z = ap (λ (w : DwUnit EntryName). w.kind) n.is in cc)
  | inr k ↦
      let u = k.unit.unit in
      subst (λ (w : DwUnit EntryName). HasMain w) k.is
      (main_by (image_in m) u u.kind refl (r.old.mains u (in_units 0 units k.number k.unit k.nth)) (kept_unit m units k.number k.unit) refl (root_at k.number k.unit)
      (λ s t e. ap keys (kept_type m units k.number k.unit s t e) ∙ keys_map (image_in m) u.below))
] where
  root_at : (i : ℕ) (u : FileUnit EntryName) → (kept_unit m units i u).root.at ≡ image_in m u.unit.root.at
  root_at i u = refl
