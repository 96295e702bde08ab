-- Which least alike tops say what of files and a finished common file.
use Rattle.std.specs.Prelude.{◌≡◌, ◌↔◌, ℕ, ◌+◌, ◌-◌, ◌≤◌, Bool, false, List, ◌++◌, length, map, slice_index, slice_index_or}
use Rattle.dwz_def_reading.specs.Documents.{Doc}
use Rattle.dwz_def_reading.specs.Lists.{In}
use Rattle.dwz_def_tops.specs.Alike.{Movable}
use Rattle.dwz_def_tops.specs.Deciding.{AreMovable, is_movable}
use Rattle.dwz_def_tops.specs.Spots.{EntryName, FileUnit, Top, tops_of, units_of}
use Rattle.dwz_def_taken.specs.Beside.{CommonAlike, Reused, look_units, own_tops, reused_of, together}
use Rattle.dwz_def_taken.specs.Laws.{ArePlacedOver}
use Rattle.dwz_def_taken.specs.Takes.{InPart}
use Rattle.dwz_label.specs.Nodes.{AreLeast}
use Rattle.dwz_match.specs.Kin.{AreKinBy}
use Rattle.dwz_match.specs.MatchRows.{AreSameKin}

-- of the tops that looks go over the least alike ones are classes: a top of the files that may move has that of a top of the common file
-- exactly if it is alike to it
abbrev pub ClassLaw : Type 0
ClassLaw =
    (docs : List (Doc ℕ)) (common : Doc ℕ) (least : List ℕ) → ArePlacedOver docs common
    → AreLeast (look_units (reused_of docs common)) least
    → (t c : Top) (p : ℕ) → In t (tops_of (units_of docs)) → Movable (units_of docs) t.number → InPart (reused_of docs common) p c
    → (slice_index least t.number ≡ slice_index least c.number) ↔ CommonAlike (reused_of docs common) t.number c.number

-- and by those of the files alone, the first ones of each file are one exactly for what is alike there
abbrev pub KinLaw : Type 0
KinLaw =
    (units : List (FileUnit EntryName)) (least : List ℕ) (count : ℕ) (kin : List ℕ) → AreLeast units least
    → AreKinBy least (map (λ t. t.file) (tops_of units)) count kin → AreSameKin units kin

-- of the tops of the common file, as looks go over them: whether each may move
pub record AreCommonFlags (r : Reused) (flags : List Bool) : Type 0 where
  pub len : own_tops r + length flags ≡ length (tops_of (together r))
  pub each : (t : Top) → In t (tops_of (look_units r)) → own_tops r ≤ t.number
      → slice_index_or flags (t.number - own_tops r) false ≡ is_movable (look_units r) t

-- flags of the files, and behind them those of the common file, are those of all tops that looks go over
abbrev pub FlagsLaw : Type 0
FlagsLaw =
    (docs : List (Doc ℕ)) (common : Doc ℕ) (own others : List Bool) → ArePlacedOver docs common → AreMovable (units_of docs) own
    → AreCommonFlags (reused_of docs common) others → AreMovable (look_units (reused_of docs common)) (own ++ others)

-- which are as many as those of the files and of the common file
abbrev pub CountLaw : Type 0
CountLaw =
    (docs : List (Doc ℕ)) (common : Doc ℕ) → ArePlacedOver docs common
    → length (tops_of (look_units (reused_of docs common))) ≡ length (tops_of (together (reused_of docs common)))
