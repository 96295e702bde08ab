-- Documents: what the debug information of a file says, whichever bytes say it. Places are of any type: offsets where bytes were
-- read, names where nothing is placed yet.
use Rattle.std.specs.Prelude.{ℕ, ℤ, Bool, false, List, [], ◌∷◌, map, Option, Some, None, ◌==◌, if◌then◌else◌}
use Rattle.dwz_model.specs.declared.place.Base.{Base}
use Rattle.dwz_def_reading.specs.Trees.{End, Entry, Forest}

-- a part of an expression (DWARF 5, 2.5): bytes that mean the same in each place, or an operand that names an entry, with its
-- width in bytes, whether it is a ULEB128 number, and what its number is counted from; the entry stands beside the parts
pub data Part : Type 0 where
  Same : List ℕ → Part
  Operand : (width : ℕ) → (uleb : Bool) → Base → Part

-- what an attribute says (7.5.5), without the entries that it names:
-- a number, and how many bytes it has where its form doesn't say whether it is signed and its top bit is set, else 0; a flag;
-- bytes; a text; the path of a file, or no file; an entry; the signature of a type; an address; an index into a table of
-- addresses or range lists; an offset into another section; an expression; the expressions of a location list
pub data Plain : Type 0 where
  Num : (width : ℕ) → ℤ → Plain
  Flag : Bool → Plain
  Block : List ℕ → Plain
  Text : List ℕ → Plain
  File : Option (List ℕ) → Plain
  Ref : Plain
  Sig : ℕ → Plain
  Addr : ℕ → Plain
  Index : ℕ → Plain
  Sec : ℕ → Plain
  Expr : List Part → Plain
  Loc : List (List Part) → Plain

-- the value of an attribute: its plain part, the entries that it names, in order, and whether an expression of it has an address: by
-- itself (DW_OP_addr; DWARF 5, 2.5.1.1), by its index (DW_OP_addrx, DW_OP_constx), or in an expression inside it
pub record Value (P : Type 0) : Type 0 where
  pub plain : Plain
  pub refs : List P
  pub address : Bool

-- a value that names no entry, and one that is an entry: no expression
abbrev pub only : {P : Type 0} → Plain → Value P
only plain = record { plain = plain; refs = []; address = false }

abbrev pub ref : {P : Type 0} → P → Value P
ref p = record { plain = Ref; refs = p ∷ []; address = false }

-- an attribute (2.2): its name, its form, the number that the form stores (0 where it stores none), and its value
pub record Attr (P : Type 0) : Type 0 where
  pub name : ℕ
  pub form : ℕ
  pub raw : ℤ
  pub value : Value P

-- an entry without its children
pub record Node (P : Type 0) : Type 0 where
  pub at : P
  pub tag : ℕ
  pub attrs : List (Attr P)

-- entries with all below them, one behind the other
abbrev pub Entries : Type 0 → Type 0
Entries P = Forest (Node P)

-- a compile unit, or a type unit with the signature of its type and the type's entry; a partial unit is only written
pub data Kind (P : Type 0) : Type 0 where
  Compile : Kind P
  OfType : (signature : ℕ) → (main : P) → Kind P
  Partial : Kind P

-- a unit: its place, its kind, its root, and the children of the root
pub record DwUnit (P : Type 0) : Type 0 where
  pub at : P
  pub kind : Kind P
  pub root : Node P
  pub below : Entries P

-- the debug information of a file, and the machine that the file is for
pub record Doc (P : Type 0) : Type 0 where
  pub machine : ℕ
  pub units : List (DwUnit P)

-- ---- the language of a unit (3.1.1)

-- the first attribute with a name
unfoldable pub first_named : {P : Type 0} → ℕ → List (Attr P) → Option (Attr P)
first_named name [] = None
first_named name (a ∷ attrs) = if a.name == name then Some a else first_named name attrs

abbrev pub number_in : Plain → Option ℤ
number_in (Num width z) = Some z
number_in _ = None

abbrev pub number_of_attr : {P : Type 0} → Option (Attr P) → Option ℤ
number_of_attr None = None
number_of_attr (Some a) = number_in a.value.plain

-- the number of the root's first DW_AT_language, where it is a number
abbrev pub language : {P : Type 0} → DwUnit P → Option ℤ
language u = number_of_attr (first_named 0x13 u.root.attrs)

-- ---- the same with other places

abbrev pub value_map : {P Q : Type 0} → (P → Q) → Value P → Value Q
value_map f v = record { plain = v.plain; refs = map f v.refs; address = v.address }

abbrev pub attr_map : {P Q : Type 0} → (P → Q) → Attr P → Attr Q
attr_map f a = record { name = a.name; form = a.form; raw = a.raw; value = value_map f a.value }

abbrev pub node_map : {P Q : Type 0} → (P → Q) → Node P → Node Q
node_map f e = record { at = f e.at; tag = e.tag; attrs = map (attr_map f) e.attrs }

unfoldable pub entries_map : {P Q : Type 0} → (P → Q) → Entries P → Entries Q
entries_map f End = End
entries_map f (Entry e children next) = Entry (node_map f e) (entries_map f children) (entries_map f next)

abbrev pub kind_map : {P Q : Type 0} → (P → Q) → Kind P → Kind Q
kind_map f Compile = Compile
kind_map f (OfType signature main) = OfType signature (f main)
kind_map f Partial = Partial

abbrev pub unit_map : {P Q : Type 0} → (P → Q) → DwUnit P → DwUnit Q
unit_map f u = record { at = f u.at; kind = kind_map f u.kind; root = node_map f u.root; below = entries_map f u.below }
