-- The partial units of a move that is held serve their users.
use Rattle.std.proofs.Common.{◌≡◌, ℕ, List, [], map, refl}
use Rattle.dwz_def_reading.specs.Documents.{Node, language}
use Rattle.dwz_def_reading.specs.Lists.{In}
use Rattle.dwz_def_tops.specs.Seen.{Named, named_value}
use Rattle.dwz_def_tops.proofs.ShownLemmas.{EntryWith, entry_under}
use Rattle.dwz_def_tops.proofs.Members.{in_map_from}
use Rattle.dwz_def_tops.specs.Spots.{EntryName, FileUnit, PartialRoot, Top, rows_of_root, tops_of}
use Rattle.dwz_def_tops.proofs.RowLemmas.{unit_row}
use Rattle.dwz_def_tops.proofs.Tops.{unit_of}
use Rattle.dwz_def_plan.specs.IsPlan.{OfTop}
use Rattle.dwz_def_plan.specs.Moves.{Move}
use Rattle.dwz_def_images.specs.After.{AreOld}
use Rattle.dwz_def_images.specs.Held.{IsHeld, NamesNoRoot, Serves}
use Rattle.dwz_def_images.specs.Images.{units_in}
use Rattle.dwz_def_images.proofs.OldLemmas.{in_units, no_new_named}
use Rattle.dwz_def_images.proofs.OldRows.{item_under, row_kinded, tops_somewhere}

-- a top has the attributes of an old entry
pub top_with : (units : List (FileUnit EntryName)) (t : Top) → In t (tops_of units) → EntryWith (units_in units) t.node.attrs
top_with units t there =
    let o = unit_of units t there in
    let r = unit_row units t.unit o.unit o.nth o.compile in
    let k = row_kinded o.unit.file t.unit (language o.unit.unit) [] r.first (rows_of_root units t.unit) o.unit.unit.below r.is in
    let s = tops_somewhere (rows_of_root units t.unit) k t o.in_row in
    let under = item_under o.unit.file t.unit (language o.unit.unit) [] r.first (rows_of_root units t.unit) o.unit.unit.below r.is s.names (OfTop t) s.has in
    entry_under (units_in units) o.unit.unit s.names t.node (in_units 0 units t.unit o.unit o.nth) under

-- so no top of units before names the root of a partial unit
pub names_no_root : (units : List (FileUnit EntryName)) → AreOld units → (t : Top) → In t (tops_of units) → NamesNoRoot t.node
names_no_root units old t there = λ a n is ref. no_new_named units old t.node.attrs (top_with units t there) a is (PartialRoot n) ref

pub held_serves : (units : List (FileUnit EntryName)) (m : Move) → AreOld units → IsHeld units m → Serves units m
held_serves units m old h = record {
  held = h.held;
  used = h.used;
  spaces = h.spaces;
  kinds = h.kinds;
  apart = λ n part nth i user names s has. names_no_root units old s (h.tops n part nth names s has);
}
