-- Inner: nodes tell what looks across files tell, and rows of units what `CrossSame` asks.
use Rattle.std.specs.Prelude.{◌≡◌, ◌↔◌, ℕ, Bool, true, false, List, length, reverse, Option}
use Rattle.dwz_def_reading.specs.Lists.{EachPair, In}
use Rattle.dwz_def_reading.specs.Documents.{Doc, DwUnit, Node as EntryNode, OfType, node_map}
use Rattle.dwz_def_reading.specs.Finished.{FinishedDocs, ReadFinished}
use Rattle.dwz_def_reading.specs.Places.{Place}
use Rattle.dwz_def_tops.specs.Seen.{Seen, all_seen}
use Rattle.dwz_def_cross.specs.Tops.{CrossTop, StandsAlong, WithCommon, units_with_common, whole_units}
use Rattle.dwz_def_cross.specs.CrossLook.{CrossAlike, CrossEqual, CrossLook, CrossNode}
use Rattle.dwz_def_cross.specs.CrossSame.{EachTwo, UnitsAlike}
use Rattle.dwz_label.specs.Shown.{AreFirstEquals, AreMadeOf}
use Rattle.dwz_nodes.specs.Graph.{IsClosed, Node}
use Rattle.dwz_nodes.specs.Looks.{Alike, IsRefined, LookEqual}
use Rattle.dwz_def_check.specs.Answer.{IsSameAnswer, SameBy, beside_common}
use Rattle.dwz_def_check.specs.CrossNames.{AreSides, AtPath, CrossName, IsNameOf, IsNamedSide, IsNthTop, IsWellRead, Side, cross_names}
use Rattle.dwz_def_check.specs.CrossLabels.{cross_label, cross_top_map, lone_label}
use Rattle.dwz_def_check.specs.CrossNodes.{AreAllFree, AreCrossNodes, AreInLists, IsNthLone, new_side, node_count, old_side}
use Rattle.dwz_def_check.specs.CrossLists.{AreImported, IsListedRow, KeepsPlain, NumberedUnit, own_units}
use Rattle.dwz_def_check.specs.CrossRows.{IsCrossRow, RowsSame, SameMembers, UnitRow}
use Rattle.dwz_def_check.specs.declared.same.Same.{Same}

-- ---- names

-- a place has one name at most
abbrev pub OneNameLaw : Type 0 → Type 0
OneNameLaw P = (s : Side P) → IsWellRead s.files → (p : P) (x y : CrossName) → IsNameOf s p x → IsNameOf s p y → x ≡ y

-- and an entry has one
abbrev pub EachNameLaw : Type 0 → Type 0
EachNameLaw P = (s : Side P) → IsWellRead s.files → (d : Seen P) → In d (all_seen (units_with_common s.files))
    → (x : CrossName) × IsNameOf s d.at x

-- the list of all names has each place with its name
abbrev pub AllNamesLaw : Type 0 → Type 0
AllNamesLaw P = (s : Side P) → IsWellRead s.files → (p : P) (x : CrossName) → IsNameOf s p x ↔ In (p, x) (cross_names s)

-- so a side is named that calls each place as this list does
abbrev pub NamedSideLaw : Type 0 → Type 0
NamedSideLaw P = (s : Side P) → IsWellRead s.files → ((p : P) (x : CrossName) → In (p, x) (cross_names s) → s.name p ≡ x) → IsNamedSide s

-- files that were read, with their common one or without one, are read so that each entry has a name
abbrev pub WellReadLaw : Type 0
WellReadLaw =
    (common : Option (List ℕ)) (files : List (List ℕ)) (said : FinishedDocs) → ReadFinished common files said → (doc : Doc Place) → In doc said.docs
    → IsWellRead (beside_common said doc)

-- ---- labels

-- whatever the tops are
abbrev pub AnyTops : {P Q : Type 0} → CrossTop P → CrossTop Q → Type 0
AnyTops a b = Unit {0}

-- labels are equal exactly if tops are, whatever the tops are that their references go into; and so for roots and spaces
abbrev pub LabelsLaw : Type 0 → Type 0 → Type 0
LabelsLaw P Q = (s : Side P) (t : Side Q) → AreSides s t → (m n : ℕ) (a : CrossTop P) (b : CrossTop Q) → IsNthTop s m a → IsNthTop t n b
    → (cross_label (cross_top_map s.name a) ≡ cross_label (cross_top_map t.name b)) ↔ CrossEqual AnyTops s.files t.files a b

abbrev pub LoneLabelsLaw : Type 0 → Type 0 → Type 0
LoneLabelsLaw P Q = (s : Side P) (t : Side Q) → AreSides s t → (m n : ℕ) (d : EntryNode P) (e : EntryNode Q) → IsNthLone s m d → IsNthLone t n e
    → (lone_label (node_map s.name d) ≡ lone_label (node_map t.name e)) ↔ CrossNode AnyTops s.files t.files d e

-- ---- nodes

-- nodes that are made of lists, and of the first of equal labels, are those of the files that the lists show
abbrev pub MadeCrossLaw : Type 0 → Type 0 → Type 0
MadeCrossLaw P Q = (s : Side P) (t : Side Q) (labels : List (List ℕ)) (movable : List Bool) (targets : List (List ℕ)) (firsts : List ℕ) (g : List Node)
    → AreInLists s labels targets → AreInLists t labels targets → AreAllFree (length labels) movable → AreFirstEquals labels movable firsts
    → AreMadeOf firsts movable targets g → AreCrossNodes s t g

-- where there are no others, each target is a node
abbrev pub ClosedCrossLaw : Type 0 → Type 0 → Type 0
ClosedCrossLaw P Q = (v : WithCommon P) (w : WithCommon Q) (name : P → CrossName) (other : Q → CrossName) (g : List Node)
    → AreSides (old_side v w name) (new_side v w other) → AreCrossNodes (old_side v w name) (new_side v w other) g → length g ≡ node_count v w
    → IsClosed g

-- a look of a depth finds two nodes equal exactly if it finds their tops equal
abbrev pub CrossLooksLaw : Type 0 → Type 0 → Type 0
CrossLooksLaw P Q = (s : Side P) (t : Side Q) (g : List Node) → AreSides s t → AreCrossNodes s t g
    → (k m n : ℕ) (a : CrossTop P) (b : CrossTop Q) → IsNthTop s m a → IsNthTop t n b → LookEqual g k m n ↔ CrossLook s.files t.files k a b

-- so alike nodes are alike tops, and roots or spaces with equal tags and attributes, whose targets are alike
abbrev pub CrossAlikeLaw : Type 0 → Type 0 → Type 0
CrossAlikeLaw P Q = (s : Side P) (t : Side Q) (g : List Node) → AreSides s t → AreCrossNodes s t g
    → (m n : ℕ) (a : CrossTop P) (b : CrossTop Q) → IsNthTop s m a → IsNthTop t n b → Alike g m n ↔ CrossAlike s.files t.files a b

abbrev pub LoneAlikeLaw : Type 0 → Type 0 → Type 0
LoneAlikeLaw P Q = (s : Side P) (t : Side Q) (g : List Node) → AreSides s t → AreCrossNodes s t g
    → (m n : ℕ) (d : EntryNode P) (e : EntryNode Q) → IsNthLone s m d → IsNthLone t n e
    → Alike g m n ↔ CrossNode (CrossAlike s.files t.files) s.files t.files d e

-- ---- rows

-- units mean the same exactly if their rows are the same
abbrev pub UnitRowsLaw : Type 0 → Type 0 → Type 0
UnitRowsLaw P Q = (s : Side P) (t : Side Q) (g : List Node) (classes : List ℕ) → AreSides s t → AreCrossNodes s t g → IsRefined g classes
    → (u : DwUnit P) (x : DwUnit Q) → In u s.files.own → In x t.files.own → (row other : UnitRow) → IsCrossRow s classes u row
    → IsCrossRow t classes x other → RowsSame row other ↔ UnitsAlike s.files t.files u x

-- the type of a type unit is named by a path in the unit's top, which leads to it from the root down, turned round
abbrev pub TypePathLaw : Type 0 → Type 0
TypePathLaw P = (s : Side P) → IsWellRead s.files → (x : NumberedUnit P) → In x (own_units s) → (signature : ℕ) (main : P)
    → x.unit.kind ≡ OfType signature main
    → (path : List ℕ) × IsNameOf s main (AtPath x.top path) × StandsAlong (reverse path) x.unit.root x.unit.below main

-- rows that are made of lists are those of units
abbrev pub ListedRowLaw : Type 0 → Type 0
ListedRowLaw P = (s : Side P) (classes : List ℕ) (keeps : ℕ → Bool) (x : NumberedUnit P) (parts : List (NumberedUnit P))
    → IsWellRead s.files → In x (own_units s) → AreImported s x.unit parts → KeepsPlain s keeps → (row : UnitRow)
    → IsListedRow classes keeps x parts x.unit.kind row → IsCrossRow s classes x.unit row

-- and the answer on files is that on their rows
abbrev pub RowsAnswerLaw : Type 0 → Type 0 → Type 0
RowsAnswerLaw P Q = (s : Side P) (t : Side Q) (g : List Node) (classes : List ℕ) → AreSides s t → AreCrossNodes s t g → IsRefined g classes
    → (rows others : List UnitRow) → EachTwo (IsCrossRow s classes) (whole_units s.files.own) rows
    → EachTwo (IsCrossRow t classes) (whole_units t.files.own) others → (same : Same) → SameBy RowsSame rows others same
    ↔ IsSameAnswer s.files t.files same

-- ---- all of it

-- lists of labels and targets of two files, one of each for each node, and the nodes that are made of them
pub record AreMadeFrom {P Q : Type 0} (s : Side P) (t : Side Q) (g : List Node) : Type 0 where
  pub labels : List (List ℕ)
  pub targets : List (List ℕ)
  pub movable : List Bool
  pub firsts : List ℕ
  pub count : length labels ≡ node_count s.files t.files
  pub old : AreInLists s labels targets
  pub new : AreInLists t labels targets
  pub free : AreAllFree (length labels) movable
  pub are_first : AreFirstEquals labels movable firsts
  pub made : AreMadeOf firsts movable targets g

-- Of two files that were read, with a common one or without one, names are given by the list of all names, nodes are made of labels and
-- targets, and units have rows of their classes: then each target is a node, and the answer on rows is the answer on the files.
abbrev pub DecidedLaw : Type 0
DecidedLaw =
    (common : Option (List ℕ)) (files : List (List ℕ)) (said : FinishedDocs) → ReadFinished common files said → (a b : Doc Place) → In a said.docs
    → In b said.docs
    → (name : Place → CrossName)
    → let v = beside_common said a in
    let w = beside_common said b in
    let s = old_side v w name in
    let t = new_side v w name in
    ((p : Place) (x : CrossName) → In (p, x) (cross_names s) → name p ≡ x) → ((p : Place) (x : CrossName) → In (p, x) (cross_names t) → name p ≡ x)
    → (g : List Node) → AreMadeFrom s t g
    → IsClosed g
    × ((classes : List ℕ) → IsRefined g classes → (rows others : List UnitRow) → EachTwo (IsCrossRow s classes) (whole_units v.own) rows
    → EachTwo (IsCrossRow t classes) (whole_units w.own) others → (same : Same) → SameBy RowsSame rows others same ↔ IsSameAnswer v w same)

-- lists in one strict order have the same members exactly if they are equal
abbrev pub SortedLaw : Type 0 → Type 0
SortedLaw X = (before : X → X → Bool) → ((x : X) → before x x ≡ false) → ((x y z : X) → before x y ≡ true → before y z ≡ true → before x z ≡ true)
    → (xs ys : List X) → EachPair (λ x y. before x y ≡ true) xs → EachPair (λ x y. before x y ≡ true) ys → SameMembers xs ys ↔ (xs ≡ ys)
