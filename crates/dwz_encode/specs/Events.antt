-- Used in proofs alone: a unit as entries and ends of lists, one after the other, and the shapes and bytes that they leave.
use Rattle.std.specs.Prelude.{ℕ, Bool, List, [], ◌∷◌, ◌++◌, map}
use Rattle.dwz_def_reading.specs.Trees.{End, Entry}
use Rattle.dwz_def_reading.specs.Documents.{Attr, DwUnit, Entries, Node}
use Rattle.dwz_layout.specs.Stored.{StoredAttr, entry_bytes, shape_for}
use Rattle.dwz_def_encoding.specs.Writing.{DeclarationShape, Numbering, any, pair_of, stored, table_of, tree_bytes, with_shape}

-- an entry, or the end of a list of children
pub data Event : Type 0 where
  NewEntry : (tag : ℕ) → (children : Bool) → List StoredAttr → Event
  EndOfList : Event

-- the shapes of a unit's entries so far, each once, and the bytes of its tree
pub record Tree : Type 0 where
  pub shapes : List DeclarationShape
  pub body : List ℕ

abbrev pub tree : List DeclarationShape → List ℕ → Tree
tree shapes body = record { shapes = shapes; body = body }

abbrev pub with_entry : ℕ → Bool → List StoredAttr → Tree → Tree
with_entry tag children attrs w =
    let s = shape_for tag children attrs in
    let shapes = with_shape w.shapes s in
    tree shapes (w.body ++ entry_bytes shapes s attrs)

abbrev pub after : Event → Tree → Tree
after (NewEntry tag children attrs) w = with_entry tag children attrs w
after EndOfList w = tree w.shapes (w.body ++ 0 ∷ [])

unfoldable pub run : List Event → Tree → Tree
run [] w = w
run (e ∷ events) w = run events (after e w)

-- ---- those of a unit

abbrev pub stored_attr : {K : Type 0} → Numbering K → ℕ → Attr K → StoredAttr
stored_attr n unit a = record { pair = pair_of a; raw = stored n unit a }

abbrev pub entry_event : {K : Type 0} → Numbering K → ℕ → Node K → Entries K → Event
entry_event n unit e children = NewEntry e.tag (any children) (map (stored_attr n unit) e.attrs)

abbrev pub if_children : {K : Type 0} → Entries K → List Event → List Event
if_children End events = []
if_children (Entry e children next) events = events

unfoldable pub events : {K : Type 0} → Numbering K → ℕ → Entries K → List Event
events n unit End = EndOfList ∷ []
events n unit (Entry e children next) = entry_event n unit e children
    ∷ (if_children children (events n unit children) ++ events n unit next)

abbrev pub unit_events : {K : Type 0} → Numbering K → ℕ → DwUnit K → List Event
unit_events n unit u = entry_event n unit u.root u.below ∷ if_children u.below (events n unit u.below)

abbrev pub unit_tree : {K : Type 0} → Numbering K → ℕ → DwUnit K → Tree
unit_tree n unit u = tree (table_of u) (tree_bytes n unit u)
