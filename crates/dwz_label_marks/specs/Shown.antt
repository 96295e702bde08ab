-- What labels show of tops that tell them apart, whatever the labels are.
use Rattle.std.specs.Prelude.{◌≡◌, ◌↔◌, ℕ, Bool, List, [], length, slice_index_or}
use Rattle.dwz_def_reading.specs.Lists.{In}
use Rattle.dwz_def_tops.specs.Alike.{Movable}
use Rattle.dwz_def_tops.specs.Deciding.{AreMovable}
use Rattle.dwz_def_tops.specs.Spots.{EntryName, FileUnit, Top, tops_of}
use Rattle.dwz_def_tops.specs.Targets.{targets_of}
use Rattle.dwz_label.specs.Nodes.{AreTopNodes, SameBare}
use Rattle.dwz_label.specs.Shown.{AreFirstEquals, AreMadeOf, AreShown, nth_label}
use Rattle.dwz_label_marks.specs.Marks.{marks_of}
use Rattle.dwz_label_marks.specs.Told.{Tells}
use Rattle.dwz_nodes.specs.Graph.{Node}

-- two tops that may move have equal labels exactly if their languages, name lists and bare trees are the same
pub record TellApart (units : List (FileUnit EntryName)) (labels : List (List ℕ)) : Type 0 where
  pub len : length labels ≡ length (tops_of units)
  pub are : (t u : Top) → In t (tops_of units) → In u (tops_of units) → Movable units t.number → Movable units u.number
      → (nth_label labels t.number ≡ nth_label labels u.number) ↔ SameBare t u

-- of each top whether it may move, and of those that may labels that tell them apart, and their targets
pub record ShowApart (units : List (FileUnit EntryName)) (labels : List (List ℕ)) (movable : List Bool) (targets : List (List ℕ)) : Type 0
  where
    pub flags : AreMovable units movable
    pub labels_are : TellApart units labels
    pub targets_len : length targets ≡ length (tops_of units)
    pub targets_are : (t : Top) → In t (tops_of units) → Movable units t.number → slice_index_or targets t.number [] ≡ targets_of t

-- where lists show tops so, the nodes that are made of them, and of the first of equal labels, are those of the tops
abbrev pub ApartLaw : Type 0
ApartLaw =
    (units : List (FileUnit EntryName)) (labels : List (List ℕ)) (movable : List Bool) (targets : List (List ℕ))
    → (firsts : List ℕ) (g : List Node)
    → ShowApart units labels movable targets → AreFirstEquals labels movable firsts → AreMadeOf firsts movable targets g
    → AreTopNodes units g

-- the labels of the tops that may move tell their marks, by these names
pub record TellMarks (units : List (FileUnit EntryName)) (names labels : List (List ℕ)) : Type 0 where
  pub len : length labels ≡ length (tops_of units)
  pub are : (t : Top) → In t (tops_of units) → Movable units t.number → Tells names (marks_of t) (nth_label labels t.number)

-- such labels tell tops apart
abbrev pub TellLaw : Type 0
TellLaw = (units : List (FileUnit EntryName)) (names labels : List (List ℕ)) → TellMarks units names labels → TellApart units labels

-- and so do labels that are whole
abbrev pub ShownLaw : Type 0
ShownLaw =
    (units : List (FileUnit EntryName)) (labels : List (List ℕ)) (movable : List Bool) (targets : List (List ℕ))
    → AreShown units labels movable targets → ShowApart units labels movable targets
