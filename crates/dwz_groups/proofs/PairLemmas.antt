-- A pair that is read at an index that there is, whatever is read elsewhere.
use Rattle.std.proofs.Common.{◌≡◌, ℕ, ◌<◌, List, length, get_or}
use Rattle.std.proofs.lemmas.List.{get_or_default}
use Rattle.dwz_groups.specs.declared.groups.Edge.{Edge}

unfoldable pub none : Edge
none = record { key = 0; value = 0 }

pub one : (pairs : List Edge) (i : ℕ) → i < length pairs → get_or pairs i (get_or pairs i none) ≡ get_or pairs i none
one pairs i l = get_or_default pairs i (get_or pairs i none) none l
