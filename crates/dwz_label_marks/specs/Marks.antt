-- Marks: what is told of a top to see whether another one is the same, with names in place of all that may be long: a text, a path, an
-- expression, a location list, a name list, a tag with the names of the attributes. Two lists of marks are equal exactly if the languages,
-- the name lists and the bare trees are.
use Rattle.std.specs.Prelude.{ℕ, pos, zero, suc, ◌+◌, Bool, true, false, List, [], ◌∷◌, ◌++◌, length, map, Option, Some, None, ◌==◌}
use Rattle.std.specs.List.{flat_map}
use Rattle.dwz_def_reading.specs.Documents.{Attr, Entries, File, Flag, Node, Num, Plain, Ref, Value}
use Rattle.dwz_def_reading.specs.Trees.{End, Entry, size}
use Rattle.dwz_def_tops.specs.Spots.{EntryName, Top, Within, name_list}
use Rattle.dwz_label.specs.Labels.{each_counted, number, place_label, plain_label}

-- a number, or bytes that have a name
pub data Mark : Type 0 where
  Plainly : ℕ → Mark
  Named : List ℕ → Mark

-- ---- values

-- what is told by a number: a flag, an entry, no file, and a number of which no width is kept
abbrev pub direct : Plain → Option ℕ
direct (Flag false) = Some 0
direct (Flag true) = Some 1
direct Ref = Some 3
direct (File None) = Some 4
direct (Num zero (pos n)) = Some (n + 5)
direct _ = None

abbrev pub mark_or : List ℕ → Option ℕ → Mark
mark_or bytes (Some n) = Plainly n
mark_or bytes None = Named bytes

-- all else is told by a name
abbrev pub plain_mark : Plain → Mark
plain_mark p = mark_or (plain_label p) (direct p)

-- of an entry that is named its path in its top, whichever top that is; or that it is in none
abbrev pub target_marks : EntryName → List Mark
target_marks (Within top path) = Plainly (suc (length path)) ∷ map Plainly path
target_marks _ = Plainly 0 ∷ []

-- how many entries a value names, unless it has an expression
abbrev pub usual : Plain → ℕ
usual Ref = 1
usual _ = 0

-- no value is told by 2: where another number of entries is named, it stands before the value
abbrev pub count_marks : Bool → ℕ → List Mark
count_marks true count = []
count_marks false count = Plainly 2 ∷ (Plainly count ∷ [])

abbrev pub value_marks : Value EntryName → List Mark
value_marks v = count_marks (length v.refs == usual v.plain) (length v.refs) ++ (plain_mark v.plain ∷ flat_map target_marks v.refs)

-- ---- entries

abbrev pub name_label : Attr EntryName → List ℕ
name_label a = number a.name

-- the tag of an entry and the names of its attributes
abbrev pub shape_label : Node EntryName → List ℕ
shape_label e = number e.tag ++ each_counted name_label e.attrs

-- an entry that has so many entries below it
abbrev pub node_marks : ℕ → Node EntryName → List Mark
node_marks below e = Named (shape_label e) ∷ (Plainly below ∷ flat_map (λ a. value_marks a.value) e.attrs)

-- the entries in preorder
unfoldable pub entries_marks : Entries EntryName → List Mark
entries_marks End = []
entries_marks (Entry e children next) = node_marks (size children) e ++ (entries_marks children ++ entries_marks next)

-- a top: where it stands, its entry, and all below it
unfoldable pub marks_of : Top → List Mark
marks_of t = Named (place_label t.language (name_list t)) ∷ (node_marks (size t.below) t.node ++ entries_marks t.below)
