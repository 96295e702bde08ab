-- What ways between nodes say of the tops that these show.
use Rattle.std.specs.Prelude.{◌≡◌, ℕ, List}
use Rattle.dwz_model.specs.Lists.{In}
use Rattle.dwz_nodes.specs.Graph.{Node}
use Rattle.dwz_nodes.specs.Looks.{Alike as AlikeNodes}
use Rattle.dwz_def_tops.specs.Alike.{Alike, Movable}
use Rattle.dwz_def_tops.specs.Spots.{EntryName, FileUnit, Top, tops_of}
use Rattle.dwz_label.specs.Nodes.{AreTopNodes}
use Rattle.dwz_def_explain.specs.Chain.{BothLead, IsLeastChain}
use Rattle.dwz_def_explain.specs.Explained.{IsExplained}
use Rattle.dwz_def_explain.specs.What.{IsWhat}
use Rattle.dwz_def_explain.specs.declared.verdict.Verdict.TheVariants.{Differ}
use Rattle.dwz_def_explain.specs.declared.verdict.What.{What}
use Rattle.dwz_nodes_chains.specs.LeastWays.{IsApart}

-- two tops whose nodes are alike are alike
abbrev pub AlikeLaw : Type 0
AlikeLaw =
    (units : List (FileUnit EntryName)) (g : List Node) → AreTopNodes units g
    → (m n : ℕ) → Movable units m → Movable units n → AlikeNodes g m n → Alike units m n

-- the least way has the numbers of the least chain
abbrev pub ChainLaw : Type 0
ChainLaw =
    (units : List (FileUnit EntryName)) (g : List Node) → AreTopNodes units g
    → (a b : Top) → In a (tops_of units) → In b (tops_of units) → Movable units a.number → Movable units b.number
    → (way : List ℕ) (m n : ℕ) → IsApart g a.number b.number way m n → IsLeastChain (tops_of units) a b way

-- they are the tops of these nodes
abbrev pub AreOfNodes : ℕ → ℕ → Top → Top → Type 0
AreOfNodes m n c d = (c.number ≡ m) × (d.number ≡ n)

-- the chain leads to the tops of the nodes at the way's end
abbrev pub EndLaw : Type 0
EndLaw =
    (units : List (FileUnit EntryName)) (g : List Node) → AreTopNodes units g
    → (a b : Top) → In a (tops_of units) → In b (tops_of units) → Movable units a.number → Movable units b.number
    → (way : List ℕ) (m n : ℕ) → IsApart g a.number b.number way m n → BothLead (AreOfNodes m n) (tops_of units) way a b

-- the way, and what differs between the tops of the nodes at its end, are what is said of a and b
abbrev pub DifferLaw : Type 0
DifferLaw =
    (units : List (FileUnit EntryName)) (g : List Node) → AreTopNodes units g
    → (a b : Top) → In a (tops_of units) → In b (tops_of units) → Movable units a.number → Movable units b.number
    → (way : List ℕ) (m n : ℕ) → IsApart g a.number b.number way m n
    → (c d : Top) → In c (tops_of units) → In d (tops_of units) → AreOfNodes m n c d
    → (what : What) → IsWhat c d what → IsExplained units a b (Differ way what)
