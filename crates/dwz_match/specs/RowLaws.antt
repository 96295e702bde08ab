-- Which rows show files with a finished common file beside them.
use Rattle.std.specs.Prelude.{◌≡◌, ◌↔◌, ℕ, Bool, List, length, map}
use Rattle.dwz_def_reading.specs.Documents.{Doc}
use Rattle.dwz_def_reading.specs.Lists.{In}
use Rattle.dwz_def_tops.specs.Deciding.{AreMovable}
use Rattle.dwz_def_tops.specs.Spots.{tops_of, units_of}
use Rattle.dwz_def_taken.specs.Beside.{Reused, look_units, reused_of, together}
use Rattle.dwz_def_taken.specs.Laws.{ArePlacedOver}
use Rattle.dwz_def_taken.specs.Takes.{HasSpace, PartRefers}
use Rattle.dwz_label.specs.Nodes.{AreLeast}
use Rattle.dwz_law_taken.specs.Shown.{ShowReused}
use Rattle.dwz_match.specs.MatchRows.{AreSameKin, ShowMatch, ShowRefers}
use Rattle.dwz_match.specs.Parts.{HavePartTops}
use Rattle.dwz_match.specs.Units.{MovesIn}
use Rattle.dwz_takes.specs.declared.rows.Rows.{Rows}
use Rattle.dwz_takes.specs.Images.{AreApart}
use Rattle.dwz_takes.specs.Takes.{list_at}

-- Rows have the name lists of spaces, each under one number, of units with tops that may move and of partial units; and what partial units
-- refer to.
pub record ShowSpaces (r : Reused) (name : ℕ → List (List ℕ)) (rows : Rows) : Type 0 where
  pub unit_names : (u t n : ℕ) → In t (list_at rows.unit_tops u) → In n (list_at rows.unit_names u) ↔ HasSpace r.units u (name n)
  pub part_names : (p n : ℕ) → In n (list_at rows.part_names p) ↔ HasSpace r.commons p (name n)
  pub named : (p : ℕ) (names : List (List ℕ)) → HasSpace r.commons p names → (n : ℕ) × (name n ≡ names)
  pub part_targets : (p q : ℕ) → In q (list_at rows.part_targets p) ↔ PartRefers r p q

-- Their classes are the least alike tops of those that looks go over; their units have the tops that may move, and partial units theirs.
pub record HaveTops (docs : List (Doc ℕ)) (common : Doc ℕ) (movable : List Bool) (rows : Rows) : Type 0 where
  pub flags : AreMovable (units_of docs) movable
  pub classes : AreLeast (look_units (reused_of docs common)) rows.classes
  pub unit_tops : (u t : ℕ) → In t (list_at rows.unit_tops u) ↔ MovesIn (map (λ t. t.unit) (tops_of (units_of docs))) movable u t
  pub part_tops : HavePartTops (reused_of docs common) rows.part_tops

-- such rows show files and the common file, and a top is in one unit's list
abbrev pub RowsLaw : Type 0
RowsLaw =
    (docs : List (Doc ℕ)) (common : Doc ℕ) (movable : List Bool) (name : ℕ → List (List ℕ)) (rows : Rows) → ArePlacedOver docs common
    → HaveTops docs common movable rows → ShowSpaces (reused_of docs common) name rows
    → ShowReused (reused_of docs common) name rows × AreApart rows

-- and with kin and targets, all that is asked for
abbrev pub MatchLaw : Type 0
MatchLaw =
    (docs : List (Doc ℕ)) (common : Doc ℕ) (movable : List Bool) (name : ℕ → List (List ℕ)) (rows : Rows) (kin : List ℕ)
    (targets : List (List ℕ))
    → ArePlacedOver docs common → HaveTops docs common movable rows → ShowSpaces (reused_of docs common) name rows
    → length rows.unit_tops ≡ length (together (reused_of docs common)) → AreSameKin (units_of docs) kin
    → ShowRefers (units_of docs) targets
    → ShowMatch (reused_of docs common) name rows kin targets
