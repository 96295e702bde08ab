-- What is written of partial units, by the numbers of their tops.
use Rattle.std.specs.Prelude.{◌≡◌, ℕ, suc, List, [], ◌∷◌}
use Rattle.dwz_def_tops.specs.Spots.{EntryName}
use Rattle.dwz_def_reading.specs.Lists.{In}
use Rattle.dwz_groups.specs.declared.groups.Edge.{Edge}
use Rattle.dwz_layout_items.specs.declared.order.Item.{Item}
use Rattle.dwz_layout_items.specs.declared.partial.SpaceRow.{SpaceRow}
use Rattle.dwz_layout_items.specs.declared.partial.TopSpaces.{TopSpaces}
use Rattle.dwz_layout_items.specs.Chains.{Up, down, inner_at, names_at, partial_lines}
use Rattle.dwz_layout_items.specs.Order.{Names, order_lines}
use Rattle.dwz_plan.specs.declared.plan.Partial.{Partial}

abbrev pub file_pair : ℕ → Partial → Edge
file_pair n part = record { key = part.file; value = n }

-- the number of each partial unit, the first of which has that number, under that of its file
unfoldable pub file_pairs : ℕ → List Partial → List Edge
file_pairs n [] = []
file_pairs n (part ∷ parts) = file_pair n part ∷ file_pairs (suc n) parts

-- the items are those of a partial unit with these tops, where these lead out to the spaces that each stands in
abbrev pub IsPart : List SpaceRow → List TopSpaces → List ℕ → List Item → Type 0
IsPart rows of_tops tops items =
    (n : Names EntryName) (ups : ℕ → List ℕ) → ((t : ℕ) → In t tops → Up rows (inner_at of_tops t) (ups t))
    → order_lines n items ≡ partial_lines n (λ t. down (ups t)) (names_at of_tops) tops
