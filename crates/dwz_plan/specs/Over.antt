-- The plan of rows over a finished common file: its partial units stand first, what is taken goes there, and of the other tops of the files
-- those that are free are planned by themselves.
use Rattle.std.specs.Prelude.{◌≡◌, ℕ, suc, ◌+◌, ◌-◌, ◌<◌, ◌≤◌, Bool, List, [], ◌∷◌, ◌++◌, Option, Some, None, ◌==◌, ◌&&◌, length, map, nat_le, take}
use Rattle.std.specs.Prelude.{slice_index, slice_index_or, unwrap_or, if◌then◌else◌}
use Rattle.std.specs.List.{position_or_len, range_with_len}
use Rattle.dwz_def_reading.specs.Rows.{has}
use Rattle.dwz_def_taken.specs.declared.fixed.Fixed.{Fixed}
use Rattle.dwz_def_taken.specs.Takes.{image_at, is_free}
use Rattle.dwz_groups.specs.declared.tops.TopRow.{TopRow}
use Rattle.dwz_groups.specs.declared.tops.Tops.{Tops}
use Rattle.dwz_plan.specs.declared.plan.Home.{Home as Place}
use Rattle.dwz_plan.specs.declared.plan.Home.TheVariants.{Common as InCommon, Local as InFile, Stay as InUnit}
use Rattle.dwz_plan.specs.declared.plan.Partial.{Partial}
use Rattle.dwz_plan.specs.declared.plan.Scope.TheVariants.{Each}
use Rattle.dwz_plan.specs.Gained.{IsPlanOf, kept_by}
use Rattle.dwz_plan.specs.Planned.{Planned, imports_from}
use Rattle.dwz_plan.specs.Rows.{Given, TopFacts, given, rows_from}

-- ---- the files alone

-- The last units are those of the common file: how many the files have.
abbrev pub own_units : Tops → Fixed → ℕ
own_units tops fixed = length tops.files_of_units - length fixed.roots

-- how many of these rows stand before the first that is of none of so many units
abbrev pub count_own : ℕ → List TopRow → ℕ
count_own units rows = position_or_len (λ row. nat_le units row.unit) rows

abbrev pub own_count : Tops → Fixed → ℕ
own_count tops fixed = count_own (own_units tops fixed) tops.rows

-- the row of a top that may move only if it is free
abbrev pub free_row : Bool → TopRow → TopRow
free_row free row = record {
  place = row.place;
  unit = row.unit;
  weight = row.weight;
  movable = row.movable && free;
  pinned = row.pinned;
}

-- the first row has that number
unfoldable pub free_rows : Fixed → ℕ → List TopRow → List TopRow
free_rows fixed n [] = []
free_rows fixed n (row ∷ rows) = free_row (is_free fixed n) row ∷ free_rows fixed (suc n) rows

-- only free tops of the files may move
abbrev pub free_tops : Tops → Fixed → Tops
free_tops tops fixed = record {
  rows = free_rows fixed 0 (take (own_count tops fixed) tops.rows);
  targets = take (own_count tops fixed) tops.targets;
  files_of_units = take (own_units tops fixed) tops.files_of_units;
  files = tops.files;
}

-- what they are planned from: each file by itself
abbrev pub given_free : Tops → List ℕ → Fixed → Given
given_free tops least fixed = given Each (free_tops tops fixed) (take (own_count tops fixed) least)

-- ---- the partial units of the common file

-- the units that take the partial unit, of which the first has that number
unfoldable pub takers_from : ℕ → ℕ → List (List ℕ) → List ℕ
takers_from part unit [] = []
takers_from part unit (parts ∷ takes) =
    if has part parts then unit ∷ takers_from part (suc unit) takes else takers_from part (suc unit) takes

-- the numbers of the rows of a unit, of which the first has that number
unfoldable pub tops_in : ℕ → ℕ → List TopRow → List ℕ
tops_in unit n [] = []
tops_in unit n (row ∷ rows) = if row.unit == unit then n ∷ tops_in unit (suc n) rows else tops_in unit (suc n) rows

-- its users are the units that take it, and its tops its own
abbrev pub standing_part : Tops → Fixed → ℕ → Partial
standing_part tops fixed part = record {
  file = tops.files;
  users = takers_from part 0 (take (own_units tops fixed) fixed.takes);
  tops = tops_in (own_units tops fixed + part) 0 tops.rows;
}

unfoldable pub standing_parts : Tops → Fixed → List Partial
standing_parts tops fixed = map (standing_part tops fixed) (range_with_len 0 (length fixed.roots))

-- ---- homes

-- with so many partial units before it
abbrev pub place_behind : ℕ → Place → Place
place_behind parts (InCommon n) = InCommon (parts + n)
place_behind parts (InFile n) = InFile (parts + n)
place_behind parts InUnit = InUnit

abbrev pub unit_at : List TopRow → ℕ → ℕ
unit_at rows n = slice_index (map (λ row. row.unit) rows) n

-- a top that is taken goes to the partial unit of its image; any other as planned, and one that isn't of the files stays
abbrev pub place_by : Tops → Fixed → List Place → Option ℕ → ℕ → Place
place_by tops fixed places (Some image) n = InCommon (unit_at tops.rows image - own_units tops fixed)
place_by tops fixed places None n = place_behind (length fixed.roots) (slice_index_or places n InUnit)

unfoldable pub place_over : Tops → Fixed → List Place → ℕ → Place
place_over tops fixed places n = place_by tops fixed places (image_at fixed n) n

-- its image stands for it
unfoldable pub stand_over : Fixed → List ℕ → ℕ → ℕ
stand_over fixed stands n = unwrap_or (image_at fixed n) (slice_index_or stands n n)

-- ---- the plan

abbrev pub all_rows : Tops → List ℕ → List TopFacts
all_rows tops least = rows_from tops.files_of_units 0 tops.rows least

-- of all tops, by the plan of the free ones
unfoldable pub planned_over : Tops → List ℕ → Fixed → Planned → Planned
planned_over tops least fixed free = record {
  partials = standing_parts tops fixed ++ free.partials;
  homes = map (place_over tops fixed free.homes) (range_with_len 0 (length tops.rows));
  stand_ins = map (stand_over fixed free.stand_ins) (range_with_len 0 (length tops.rows));
  kept = map (kept_by (λ a. place_over tops fixed free.homes a.number) (all_rows tops least)) (range_with_len 0 (length tops.files_of_units));
  imports = map (λ unit. imports_from unit 0 (standing_parts tops fixed ++ free.partials)) (range_with_len 0 (length tops.files_of_units));
}

abbrev pub IsPlanOver : Tops → List ℕ → Fixed → Planned → Type 0
IsPlanOver tops least fixed plan = (free : Planned) × IsPlanOf (given_free tops least fixed) free × (plan ≡ planned_over tops least fixed free)

-- an image is a row of one of the units of the common file
abbrev pub IsImageRow : Tops → Fixed → Option ℕ → Type 0
IsImageRow tops fixed None = Unit {0}
IsImageRow tops fixed (Some n) = (n < length tops.rows) × (own_units tops fixed ≤ unit_at tops.rows n)
