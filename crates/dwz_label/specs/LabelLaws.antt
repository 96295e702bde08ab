-- Laws on labels and on nodes of tops.
use Rattle.std.specs.Prelude.{◌≡◌, ◌↔◌, ℕ, ◌<◌, ◌^◌, Bool, true, List}
use Rattle.std.specs.List.{AllZip}
use Rattle.dwz_def_reading.specs.Spelling.{uleb}
use Rattle.dwz_def_reading.specs.Lists.{In}
use Rattle.dwz_nodes.specs.Graph.{IsClosed, Node}
use Rattle.dwz_nodes.specs.Looks.{IsRefined, LookEqual}
use Rattle.dwz_def_tops.specs.Alike.{Look, Movable, SameTop, TopScope}
use Rattle.dwz_def_tops.specs.Deciding.{Test, alike_test}
use Rattle.dwz_def_tops.specs.Spots.{EntryName, FileUnit, Top, tops_of}
use Rattle.dwz_def_tops.specs.Targets.{targets_of}
use Rattle.dwz_label.specs.Labels.{label_of, number}
use Rattle.dwz_label.specs.Nodes.{AreLeast, AreTopNodes, HaveOneLeast, SameBare}
use Rattle.dwz_label.specs.Shown.{AreFirstEquals, AreMadeOf, AreShown}

-- labels are equal exactly if languages, name lists and bare trees are
abbrev pub LabelLaw : Type 0
LabelLaw = (a b : Top) → (label_of a ≡ label_of b) ↔ SameBare a b

-- a number of 64 bits has its shortest LEB128 spelling (DWARF 5, 7.6)
abbrev pub NumberLaw : Type 0
NumberLaw = (n : ℕ) → n < 2 ^ 64 → number n ≡ uleb n

-- the tops of two targets pass the test
abbrev pub Passing : Test → ℕ → ℕ → Type 0
Passing test m n = test m n ≡ true

-- Two tops are the same along a test of the tops of their targets exactly if they are the same but for these, and each two of these
-- pass the test.
abbrev pub BareLaw : Type 0
BareLaw = (test : Test) (a b : Top) → SameTop (Passing test) a b ↔ (SameBare a b × AllZip (Passing test) (targets_of a) (targets_of b))

-- each target is a node
abbrev pub ClosedNodesLaw : Type 0
ClosedNodesLaw = (units : List (FileUnit EntryName)) (g : List Node) → AreTopNodes units g → IsClosed g

-- a look of a depth finds two movable tops equal exactly if it finds their nodes equal
abbrev pub LooksLaw : Type 0
LooksLaw =
    (units : List (FileUnit EntryName)) (g : List Node) → AreTopNodes units g
    → (k m n : ℕ) → Movable units m → Movable units n → LookEqual g k m n ↔ Look (tops_of units) k m n

-- the least alike nodes are the least alike tops
abbrev pub LeastLaw : Type 0
LeastLaw = (units : List (FileUnit EntryName)) (g : List Node) (least : List ℕ) → AreTopNodes units g → IsRefined g least
    → AreLeast units least

-- two tops are alike, in either scope, exactly if both may move, they are in one scope, and their least alike tops are one
abbrev pub OneLeastLaw : Type 0
OneLeastLaw =
    (scope : TopScope) (units : List (FileUnit EntryName)) (least : List ℕ) (a b : Top) → AreLeast units least
    → In a (tops_of units) → In b (tops_of units)
    → (alike_test scope units a.number b.number ≡ true) ↔ HaveOneLeast scope units least a b

-- where lists show tops, the nodes that are made of them, and of the first of equal labels, are those of the tops
abbrev pub MadeLaw : Type 0
MadeLaw =
    (units : List (FileUnit EntryName)) (labels : List (List ℕ)) (movable : List Bool) (targets : List (List ℕ))
    → (firsts : List ℕ) (g : List Node)
    → AreShown units labels movable targets → AreFirstEquals labels movable firsts → AreMadeOf firsts movable targets g
    → AreTopNodes units g
