-- What is told of two tops by themselves.
use Rattle.std.specs.Prelude.{◌<◌, ◌^◌, length, Option, Some, None}
use Rattle.dwz_def_reading.specs.Documents.{Entries, Node}
use Rattle.dwz_def_reading.specs.Trees.{End, Entry, size}
use Rattle.dwz_def_tops.specs.Alike.{SameTop}
use Rattle.dwz_def_tops.specs.Spots.{EntryName, Top}
use Rattle.dwz_def_explain.specs.Chain.{Whichever}
use Rattle.dwz_def_explain.specs.What.{IsWhat}
use Rattle.dwz_def_explain.specs.declared.verdict.What.{What}

-- that they are the same by themselves, or what differs
abbrev pub TellsWhat : Top → Top → Option What → Type 0
TellsWhat x y None = SameTop Whichever x y
TellsWhat x y (Some what) = IsWhat x y what

-- an entry has so few attributes that 32 bits count them
abbrev pub HasFewAttributes : Node EntryName → Type 0
HasFewAttributes e = length e.attrs < 2 ^ 32

abbrev pub EachNode : (Node EntryName → Type 0) → Entries EntryName → Type 0
EachNode P End = Unit {0}
EachNode P (Entry e children next) = P e × EachNode P children × EachNode P next

-- 32 bits count the entries below it, and the attributes of each entry
pub record IsShort (t : Top) : Type 0 where
  pub entries : size t.below < 2 ^ 32
  pub attributes : HasFewAttributes t.node
  pub attributes_below : EachNode HasFewAttributes t.below
