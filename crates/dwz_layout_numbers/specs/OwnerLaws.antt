-- What holds of owners.
use Rattle.std.specs.Prelude.{◌≡◌, ℕ, ◌+◌, Bool, List, length, map, Ok, Some, slice_get}
use Rattle.dwz_def_reading.specs.Units.{RawUnit}
use Rattle.dwz_def_reading.specs.Documents.{Doc}
use Rattle.dwz_def_reading.specs.Meanings.{Around}
use Rattle.dwz_def_reading.specs.Meant.{units_meaning}
use Rattle.dwz_def_reading.specs.Lists.{Each, In}
use Rattle.dwz_unit.specs.Rows.{EntryRow, rows_of}
use Rattle.dwz_def_tops.specs.Lists.{Nth}
use Rattle.dwz_def_tops.specs.Spots.{EntryName, FileUnit, Top, name_list, tops_of, units_of}
use Rattle.dwz_graph.specs.Index.{Index}
use Rattle.dwz_graph.specs.Names.{names_from, top_in}
use Rattle.dwz_def_images.specs.IsPlan.{Has, OfTop}
use Rattle.dwz_def_images.specs.Moves.{Move, image_in}
use Rattle.dwz_def_images.specs.Plan.{PartialUnit}
use Rattle.dwz_plan.specs.Planned.{Planned}
use Rattle.dwz_plan.specs.ShowsMove.{ShowsMove}
use Rattle.dwz_def_images.specs.After.{ArePlaced}
use Rattle.dwz_layout_numbers.specs.Owners.{AreUnitNumbers, IsFileWritten, IsOwner, owner_by}
use Rattle.dwz_layout_numbers.specs.Whole.{IsFileAt}

-- a top of these units whose number is among those of a partial unit's tops stands in that partial unit
abbrev pub HoldTops : List (FileUnit EntryName) → Move → Type 0
HoldTops units m =
    (n : ℕ) (part : PartialUnit) → Nth 0 m.parts n part → (t : Top) → In t (tops_of units) → In t.number (map (λ x. x.number) part.tops)
    → Has (name_list t) (OfTop t) (m.rows n)

-- what is known of files whose tops move: no two of their units and entries stand at one place; what partial units hold; the plan, and the
-- numbers of units
pub record AreMoved (docs : List (Doc ℕ)) (m : Move) (planned : Planned) (written : List Bool) (commons : ℕ) (parts olds : List ℕ) : Type
    0 where
  pub placed : Each (λ doc. ArePlaced doc.units) docs
  pub holds : HoldTops (units_of docs) m
  pub shows : ShowsMove m (units_of docs) (length docs) planned
  pub numbers : AreUnitNumbers m (units_of docs) written commons parts olds

-- In a file that is written, the owner of an entry that stands for itself is the unit in which its name stands; `kept` is the number of
-- the entry's own unit.
abbrev pub OwnersLaw : Type 0
OwnersLaw =
    (docs : List (Doc ℕ)) (m : Move) (planned : Planned) (written : List Bool) (commons : ℕ) (parts olds : List ℕ)
    → AreMoved docs m planned written commons parts olds
    → (file : ℕ) (x : Index) (start : ℕ) (f : IsFileAt docs file x start) → IsFileWritten written file
    → (around : Around ℕ) (raw : List RawUnit) → units_meaning around raw ≡ Ok f.doc.units
    → (entry : ℕ) (row : EntryRow) (s : EntryName) → slice_get (rows_of raw) entry ≡ Some row
    → slice_get (names_from f.starts.unit f.starts.top f.doc.units) entry ≡ Some s
    → image_in m s ≡ s → (kept : ℕ) → slice_get olds (f.starts.unit + row.unit) ≡ Some kept
    → IsOwner m (units_of docs) written s (owner_by planned parts kept (top_in s))
