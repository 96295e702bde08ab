-- What is known of tops and spaces, by their numbers.
use Rattle.std.specs.Prelude.{ℕ, Bool, true, false, List, map, slice_index_or}
use Rattle.dwz_groups.specs.declared.tops.TopRow.{TopRow}
use Rattle.dwz_plan.specs.declared.plan.Home.{Home}
use Rattle.dwz_plan.specs.declared.plan.Home.TheVariants.{Common, Local, Stay}
use Rattle.dwz_layout_order.specs.declared.marks.TopMark.{TopMark}

-- the top goes nowhere
abbrev pub stays_in : Home → Bool
stays_in (Common part) = false
stays_in (Local part) = false
stays_in Stay = true

-- of a top of which nothing is known
abbrev pub no_mark : TopMark
no_mark = record { stays = true; pinned = false }

abbrev pub mark_at : List TopMark → ℕ → TopMark
mark_at marks top = slice_index_or marks top no_mark

abbrev pub flag_at : List Bool → ℕ → Bool
flag_at flags n = slice_index_or flags n false

abbrev pub pinned_row : List TopRow → ℕ → Bool
pinned_row rows top = slice_index_or (map (λ row. row.pinned) rows) top false

-- by the top's row, and by where it goes
abbrev pub mark_of : List TopRow → List Home → ℕ → TopMark
mark_of rows homes top = record { stays = stays_in (slice_index_or homes top Stay); pinned = pinned_row rows top }
