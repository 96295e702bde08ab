-- The numbers of line tables by their places.
use Rattle.std.specs.Prelude.{◌≡◌, ℕ, List, Option, Some, IfSome}
use Rattle.std.specs.BTreeMap.{is_at}
use Rattle.std.specs.Map.{lookup}
use Rattle.std.specs.Ordering.{nat_cmp}
use Rattle.dwz_graph_resolve.specs.declared.places.Numbered.{Numbered}

-- the number beside a place
abbrev pub number_in : List (ℕ × ℕ) → ℕ → Option ℕ
number_in rows place = lookup (is_at (nat_cmp place)) rows

-- the table that was asked for last has that number
abbrev pub IsLast : List (ℕ × ℕ) → Option Numbered → Type 0
IsLast rows last = IfSome last (λ l. number_in rows l.place ≡ Some l.table)
