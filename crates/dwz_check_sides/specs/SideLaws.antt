-- Laws on the numbers of name lists.
use Rattle.std.specs.Prelude.{◌≡◌, ◌↔◌, ℕ, ◌≤◌, ◌^◌, List}
use Rattle.dwz_check_sides.specs.declared.lists.NameLists.{NameLists}
use Rattle.dwz_check_sides.specs.Names.{AreApart, IsListNumber, Keeps}

-- equal lists alone have equal numbers
abbrev pub ListNumberLaw : Type 0
ListNumberLaw =
    (known : NameLists) (bound : ℕ) → bound ≤ 2 ^ 32 → AreApart known bound → (names others : List (List ℕ)) (n m : ℕ)
    → IsListNumber known names n → IsListNumber known others m → (n ≡ m) ↔ (names ≡ others)

-- where what had a number has it still, lists have the numbers that they had; and so after several steps
pub record KeptNumberLaw : Type 0 where
  pub numbers : (old new : NameLists) → Keeps old new → (names : List (List ℕ)) (n : ℕ) → IsListNumber old names n
      → IsListNumber new names n
  pub steps : (old now new : NameLists) → Keeps old now → Keeps now new → Keeps old new
