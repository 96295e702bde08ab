-- The keys of units one behind the other.
use Rattle.std.proofs.Common.{◌≡◌, List, [], ◌∷◌, ◌++◌, refl, sym, ap, ◌∙◌, append_assoc}
use Rattle.dwz_def_reading.specs.Documents.{DwUnit}
use Rattle.dwz_def_tops.specs.Shown.{unit_keys, units_keys}

pub keys_joined : {K : Type 0} (xs ys : List (DwUnit K)) → units_keys (xs ++ ys) ≡ units_keys xs ++ units_keys ys
unfolding units_keys
keys_joined [] ys = refl
keys_joined {K} (u ∷ xs) ys = ap (λ (w : List K). unit_keys u ++ w) (keys_joined xs ys) ∙ sym (append_assoc (unit_keys u) (units_keys xs) (units_keys ys))
