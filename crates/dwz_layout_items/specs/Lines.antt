-- Units entry by entry: in preorder with their depths, and as steps into entries and out of lists of children (DWARF 5, 2.3).
use Rattle.std.specs.Prelude.{ℕ, suc, ◌-◌, Bool, true, false, List, [], ◌∷◌, ◌++◌, nat_lt, replicate}
use Rattle.dwz_def_reading.specs.Documents.{DwUnit, Entries, Node, entries_map, node_map}
use Rattle.dwz_def_reading.specs.Trees.{End, Entry}
use Rattle.dwz_def_tops.specs.Spots.{ASpace, ATop, EntryName, Nothing, Row}

-- an entry without its children, and how deep it stands: a root has depth 1
pub record Line (K : Type 0) : Type 0 where
  pub depth : ℕ
  pub node : Node K

abbrev pub line : {K : Type 0} → ℕ → Node K → Line K
line depth node = record { depth = depth; node = node }

-- entries that stand so deep, with all below them, in preorder
unfoldable pub lines : {K : Type 0} → ℕ → Entries K → List (Line K)
lines depth End = []
lines depth (Entry e children next) = line depth e ∷ lines (suc depth) children ++ lines depth next

abbrev pub unit_lines : {K : Type 0} → DwUnit K → List (Line K)
unit_lines u = line 1 u.root ∷ lines 2 u.below

-- ---- steps

-- an entry, and whether children follow; or the end of a list of children (7.5.3)
pub data Step (K : Type 0) : Type 0 where
  Enter : Node K → (children : Bool) → Step K
  Leave : Step K

abbrev pub any : {K : Type 0} → Entries K → Bool
any End = false
any (Entry e children next) = true

abbrev pub if_steps : {K : Type 0} → Entries K → List (Step K) → List (Step K)
if_steps End steps = []
if_steps (Entry e children next) steps = steps

unfoldable pub steps : {K : Type 0} → Entries K → List (Step K)
steps End = Leave ∷ []
steps (Entry e children next) = Enter e (any children) ∷ if_steps children (steps children) ++ steps next

-- how a unit is written, entry by entry
abbrev pub unit_steps : {K : Type 0} → DwUnit K → List (Step K)
unit_steps u = Enter u.root (any u.below) ∷ if_steps u.below (steps u.below)

-- how deep the first line is; behind all lines a root would follow
abbrev pub depth_of : {K : Type 0} → List (Line K) → ℕ
depth_of [] = 1
depth_of (l ∷ lines) = l.depth

-- An entry has children if the next one stands deeper, and behind it as many lists end as the next one stands higher.
unfoldable pub steps_of : {K : Type 0} → List (Line K) → List (Step K)
steps_of [] = []
steps_of (l ∷ lines) = Enter l.node (nat_lt l.depth (depth_of lines)) ∷ replicate (l.depth - depth_of lines) Leave ++ steps_of lines

-- ---- rows of tops and spaces

-- what stands in a row that stands so deep, where places are replaced
unfoldable pub row_lines : (EntryName → EntryName) → ℕ → Row → List (Line EntryName)
row_lines f depth Nothing = []
row_lines f depth (ATop t next) = line depth (node_map f t.node) ∷ lines (suc depth) (entries_map f t.below) ++ row_lines f depth next
row_lines f depth (ASpace e inner next) = line depth (node_map f e) ∷ row_lines f (suc depth) inner ++ row_lines f depth next
