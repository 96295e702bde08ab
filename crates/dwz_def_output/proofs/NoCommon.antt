-- Where nothing is to stand in a common file there is none.
use Rattle.std.proofs.Common.{◌≡◌, ◌||◌, ℕ, suc, Bool, true, false, List, [], ◌∷◌, refl}
use Rattle.std.specs.List.{list_any}
use Rattle.dwz_def_reading.specs.Documents.{DwUnit}
use Rattle.dwz_def_tops.specs.Spots.{EntryName}
use Rattle.dwz_def_images.specs.Homes.{Common}
use Rattle.dwz_def_images.specs.Moves.{Move}
use Rattle.dwz_def_images.specs.Plan.{PartialUnit}
use Rattle.dwz_def_images.specs.Units.{partial_unit, partial_units}
use Rattle.dwz_def_output.specs.FilesAfter.{is_common}

pub none_there : (m : Move) (n : ℕ) (parts : List PartialUnit) → partial_units m Common n parts ≡ [] → list_any is_common parts ≡ false
unfolding partial_units
none_there m n [] none = refl
none_there m n (part ∷ parts) none = by (none_there m (suc n) parts) (is_common part) none where
  by : (partial_units m Common (suc n) parts ≡ [] → list_any is_common parts ≡ false) → (b : Bool)
      → elim b as (λ _. List (DwUnit EntryName)) [ true ↦ partial_unit m n ∷ partial_units m Common (suc n) parts | false ↦ partial_units m Common (suc n) parts ] ≡ []
      → (b || list_any is_common parts) ≡ false
  by rest true e = absurd cc
  by rest false e = rest e
