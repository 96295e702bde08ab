-- The move of files over a finished common file.
use Rattle.std.specs.Prelude.{ℕ, suc, ◌+◌, ◌-◌, List, [], ◌∷◌, ◌++◌, length, map, Option, None, ◌&&◌, ◌||◌, nat_le, slice_get}
use Rattle.std.specs.Prelude.{unwrap_or}
use Rattle.std.specs.List.{filter}
use Rattle.std.specs.Option.{is_some, option_map}
use Rattle.dwz_def_reading.specs.Documents.{Attr, DwUnit, Partial, attr_map, entries_map, node_map, unit_map}
use Rattle.dwz_def_reading.specs.Rows.{has}
use Rattle.dwz_def_tops.specs.Alike.{Together}
use Rattle.dwz_def_tops.specs.Deciding.{Test, alike_test}
use Rattle.dwz_def_tops.specs.Spots.{ASpace, ATop, FileUnit, Nothing, PartialOf, PartialRoot, RootOf, Row, EntryName, Top, UnitOf, rows_of_root, row_tops}
use Rattle.dwz_def_images.specs.Homes.{Common, Rule, moves, numbers_from, rep}
use Rattle.dwz_def_images.specs.Moves.{Move, part_at, root_in_part, row_in_part}
use Rattle.dwz_def_images.specs.Plan.{PartialUnit, image_by, partials, stand_in}
use Rattle.dwz_def_taken.specs.declared.fixed.Fixed.{Fixed}
use Rattle.dwz_def_taken.specs.Beside.{Reused, look_units, own_tops, together}
use Rattle.dwz_def_taken.specs.Takes.{free_rule, image_at, takes_of}

-- ---- a plan over partial units that stand already

-- partial units that stand before the others, with what is in each and in its root; and which top of theirs a top is in the end
pub record StandingParts : Type 0 where
  pub parts : List PartialUnit
  pub rows : ℕ → Option Row
  pub roots : ℕ → Option (List (Attr EntryName))
  pub image : ℕ → Option ℕ

abbrev pub none_standing : StandingParts
none_standing = record { parts = []; rows = λ n. None; roots = λ n. None; image = λ n. None }

-- tops that are in one of those leave their units for it; the others as the rule says
abbrev pub plan_over : StandingParts → Rule → List (FileUnit EntryName) → List ℕ → Move
plan_over s rule units files = record {
  gone = λ n. is_some (s.image n) || moves rule units n;
  stand = λ n. unwrap_or (s.image n) (stand_in rule units n);
  parts = s.parts ++ partials rule units files;
  rows = λ n. unwrap_or (s.rows n) (row_in_part n (part_at n (s.parts ++ partials rule units files)));
  roots = λ n. unwrap_or (s.roots n) (root_in_part units (part_at n (s.parts ++ partials rule units files)));
}

-- ---- the partial units of the common file, as they stand

-- its units and their roots by their numbers among partial units; all else keeps its name
abbrev pub as_part : ℕ → EntryName → EntryName
as_part first (UnitOf i) = PartialOf (i - first)
as_part first (RootOf i) = PartialRoot (i - first)
as_part first s = s

abbrev pub top_map : (EntryName → EntryName) → Top → Top
top_map f t = record {
  file = t.file;
  unit = t.unit;
  language = t.language;
  spaces = t.spaces;
  number = t.number;
  node = node_map f t.node;
  below = entries_map f t.below;
}

unfoldable pub row_map : (EntryName → EntryName) → Row → Row
row_map f Nothing = Nothing
row_map f (ATop t next) = ATop (top_map f t) (row_map f next)
row_map f (ASpace e inner next) = ASpace (node_map f e) (row_map f inner) (row_map f next)

-- what stands in the root of a partial unit
abbrev pub common_row : Reused → ℕ → Row
common_row r p = row_map (as_part (length r.units)) (rows_of_root (together r) (length r.units + p))

-- the units that take it
abbrev pub takers : Fixed → List (FileUnit EntryName) → ℕ → List ℕ
takers fixed units p = filter (λ u. has p (takes_of fixed u)) (numbers_from 0 units)

abbrev pub common_part : Reused → Fixed → ℕ → PartialUnit
common_part r fixed p = record { home = Common; users = takers fixed r.units p; tops = row_tops (common_row r p) }

unfoldable pub common_parts : Reused → Fixed → ℕ → List (FileUnit EntryName) → List PartialUnit
common_parts r fixed p [] = []
common_parts r fixed p (f ∷ commons) = common_part r fixed p ∷ common_parts r fixed (suc p) commons

-- the attributes of its root
abbrev pub common_root : Reused → FileUnit EntryName → List (Attr EntryName)
common_root r f = map (attr_map (as_part (length r.units))) f.unit.root.attrs

abbrev pub standing_of : Reused → Fixed → StandingParts
standing_of r fixed = record {
  parts = common_parts r fixed 0 r.commons;
  rows = λ n. option_map (λ f. common_row r n) (slice_get r.commons n);
  roots = λ n. option_map (common_root r) (slice_get r.commons n);
  image = image_at fixed;
}

-- The move: what is taken stands in the common file; of what is left those move whose groups gain, each file by itself.
abbrev pub move_over : Reused → Fixed → List ℕ → Move
move_over r fixed files = plan_over (standing_of r fixed) (free_rule r fixed) r.units files

-- ---- copies as one

-- two tops of the common file are alike
abbrev pub common_test : Reused → Test
common_test r = λ m n. alike_test Together (look_units r) m n && (nat_le (own_tops r) m && nat_le (own_tops r) n)

-- of its tops that are alike to one of its own the first; any other top stands for itself
abbrev pub copy : Reused → ℕ → ℕ
copy r n = rep (common_test r) (look_units r) n

abbrev pub copy_of : Reused → EntryName → EntryName
copy_of r = image_by (copy r)

-- ---- the units of the common file as they stand

abbrev pub as_partial : {P : Type 0} → DwUnit P → DwUnit P
as_partial u = record { at = u.at; kind = Partial; root = u.root; below = u.below }

-- by their numbers among partial units
abbrev pub standing_unit : Reused → FileUnit EntryName → DwUnit EntryName
standing_unit r f = as_partial (unit_map (as_part (length r.units)) f.unit)
