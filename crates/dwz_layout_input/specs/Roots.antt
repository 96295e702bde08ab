-- Which line table the root of a partial unit names.
use Rattle.std.specs.Prelude.{◌≡◌, ℕ, Bool, List, None, Option, length, slice_index_or}
use Rattle.std.specs.List.{list_any}
use Rattle.dwz_def_tops.specs.Alike.{any_attr, any_in}
use Rattle.dwz_def_tops.specs.Spots.{EntryName, FileUnit, Top, tops_of}
use Rattle.dwz_layout_numbers.specs.Befores.{is_pair_file}
use Rattle.dwz_def_reading.specs.Documents.{Attr, first_named}
use Rattle.dwz_def_reading.specs.Lists.{In}
use Rattle.dwz_def_images.specs.Moves.{Move, first_unit, has_path, line_attrs, root_of}
use Rattle.dwz_def_images.specs.Plan.{PartialUnit}
use Rattle.dwz_layout_order.specs.Orders.{ShowsLine}
use Rattle.dwz_layout.specs.declared.order.Sort.TheVariants.{Partial as PartialSort}
use Rattle.dwz_def_tops.specs.Lists.{Nth}
use Rattle.dwz_unit.specs.Rows.{EntryRow}

-- all tops of a partial unit are of one of these units
pub record IsOfOneUnit (units : List (FileUnit EntryName)) (part : PartialUnit) : Type 0 where
  pub some : (t : Top) × In t part.tops
  pub there : (t : Top) → In t part.tops → In t (tops_of units)
  pub unit : (t : Top) → In t part.tops → t.unit ≡ first_unit part.tops

-- for each partial unit of tops of one of these units the offset of the line table that its root names, if it names one
pub record AreLines (m : Move) (units : List (FileUnit EntryName)) (lines : List (Option ℕ)) : Type 0 where
  pub len : length lines ≡ length m.parts
  pub each : (n : ℕ) (part : PartialUnit) → Nth 0 m.parts n part → IsOfOneUnit units part
      → ShowsLine (PartialSort (slice_index_or lines n None)) (line_attrs units part)

-- ---- inner: no public clause cites what follows

-- a value of an entry numbers a file
abbrev pub numbers_file : EntryRow → Bool
numbers_file row = list_any (λ a. is_pair_file a.pair) row.entry.attrs

-- an entry of a top has a path as its file
abbrev pub path_in : Top → Bool
path_in t = any_in (any_attr (λ a. has_path a.value.plain)) t

-- DW_AT_stmt_list (10) of the unit of a top
abbrev pub root_line : List (FileUnit EntryName) → Top → Option (Attr EntryName)
root_line units t = first_named 0x10 (root_of units t.unit)
