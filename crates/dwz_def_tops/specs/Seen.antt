-- What stands after, against what stood before: entries and units along a function of places, for places of any type.
use Rattle.std.specs.Prelude.{◌⊎◌, ◌≡◌, ◌↔◌, ℕ, List, [], ◌∷◌, ◌++◌, map, Some, None}
use Rattle.dwz_def_reading.specs.Documents.{Attr, Compile, DwUnit, Entries, Kind, Node, OfType, Partial, Value, kind_map, ref, value_map}
use Rattle.dwz_def_reading.specs.Lists.{In}
use Rattle.dwz_def_reading.specs.Trees.{End, Entry}
use Rattle.dwz_def_tops.specs.Spaces.{IsSpace, IsUnder, space_text}

-- ---- an entry as it is compared: its place, its tag, the names and values of its attributes, and the places of its children

pub record Named (P : Type 0) : Type 0 where
  pub name : ℕ
  pub value : Value P

pub record Seen (P : Type 0) : Type 0 where
  pub at : P
  pub tag : ℕ
  pub attrs : List (Named P)
  pub children : List P

abbrev pub named_value : {P : Type 0} → Attr P → Named P
named_value a = record { name = a.name; value = a.value }

-- the places of entries beside each other
unfoldable pub heads : {P : Type 0} → Entries P → List P
heads End = []
heads (Entry e children next) = e.at ∷ heads next

abbrev pub see : {P : Type 0} → Node P → Entries P → Seen P
see e children = record { at = e.at; tag = e.tag; attrs = map named_value e.attrs; children = heads children }

unfoldable pub seen : {P : Type 0} → Entries P → List (Seen P)
seen End = []
seen (Entry e children next) = see e children ∷ (seen children ++ seen next)

-- all entries of units but their roots
unfoldable pub seen_below : {P : Type 0} → List (DwUnit P) → List (Seen P)
seen_below [] = []
seen_below (u ∷ units) = seen u.below ++ seen_below units

unfoldable pub seen_roots : {P : Type 0} → List (DwUnit P) → List (Seen P)
seen_roots [] = []
seen_roots (u ∷ units) = see u.root u.below ∷ seen_roots units

abbrev pub all_seen : {P : Type 0} → List (DwUnit P) → List (Seen P)
all_seen units = seen_roots units ++ seen_below units

-- the entries of tops: no spaces
unfoldable pub seen_tops : {P : Type 0} → Entries P → List (Seen P)
seen_tops End = []
seen_tops {P} (Entry e children next) = elim (space_text e) as (λ _. List (Seen P)) [
  | None ↦ see e children
      ∷ (seen children ++ seen_tops next)
  | Some text ↦ seen_tops children ++ seen_tops next
]

abbrev pub seen_inside : {P : Type 0} → Kind P → Entries P → List (Seen P)
seen_inside (OfType signature main) below = seen below
seen_inside _ below = seen_tops below

-- all entries of tops and of type units but the roots of these
unfoldable pub seen_inner : {P : Type 0} → List (DwUnit P) → List (Seen P)
seen_inner [] = []
seen_inner (u ∷ units) = seen_inside u.kind u.below ++ seen_inner units

abbrev pub named_map : {P Q : Type 0} → (P → Q) → Named P → Named Q
named_map f a = record { name = a.name; value = value_map f a.value }

abbrev pub seen_map : {P Q : Type 0} → (P → Q) → Seen P → Seen Q
seen_map f e = record { at = f e.at; tag = e.tag; attrs = map (named_map f) e.attrs; children = map f e.children }

-- ---- imports expanded (DWARF 5, 3.2.5), spaces with one name list taken together

abbrev pub IsPartial : {P : Type 0} → Kind P → Type 0
IsPartial Partial = Unit {0}
IsPartial _ = ⊥

-- a child of the root
abbrev pub IsChild : {P : Type 0} → Node P → Entries P → Type 0
IsChild e End = ⊥
IsChild e (Entry d children next) = (d ≡ e) ⊎ IsChild e next

-- the entry is an import (DW_TAG_imported_unit with DW_AT_import) of that partial unit
pub record IsImport {P : Type 0} (units : List (DwUnit P)) (e : Node P) (v : DwUnit P) : Type 0 where
  pub unit : In v units
  pub partial : IsPartial v.kind
  pub tag : e.tag ≡ 0x3d
  pub names : In (record { name = 0x18; value = ref v.root.at }) (map named_value e.attrs)

-- the place is that of an entry in spaces with these names, or for no names in the root, which is no space and imports no partial
-- unit
pub record HasAt {P : Type 0} (units : List (DwUnit P)) (names : List (List ℕ)) (f : Entries P) (p : P) : Type 0 where
  pub entry : Node P
  pub under : IsUnder names entry f
  pub no_space : space_text entry ≡ None
  pub no_import : (v : DwUnit P) → IsImport units entry v → ⊥
  pub at : entry.at ≡ p

-- it stands so in the unit, or in a partial unit that a child of the unit's root imports
abbrev pub Expands : {P : Type 0} → List (DwUnit P) → DwUnit P → List (List ℕ) → P → Type 0
Expands {P} units u names p =
    HasAt units names u.below p ⊎ ((e : Node P) × (v : DwUnit P) × IsChild e u.below × IsImport units e v × HasAt units names v.below p)

-- ---- sameness along a function of places

-- the entry at the image of an entry of a top or of a type unit is this entry with each place replaced by its image
abbrev pub EntriesSame : {P Q : Type 0} → (P → Q) → List (DwUnit P) → List (DwUnit Q) → Type 0
EntriesSame {P} f before after = (e : Seen P) → In e (seen_inner before) → In (seen_map f e) (seen_below after)

-- the same entry with each place replaced; forms and stored numbers aren't looked at
pub record IsShown {P Q : Type 0} (g : P → Q) (e : Node P) (d : Node Q) : Type 0 where
  pub at : d.at ≡ g e.at
  pub tag : d.tag ≡ e.tag
  pub attrs : map named_value d.attrs ≡ map (named_map g) (map named_value e.attrs)

-- an entry in spaces with these names that is no space has that image
abbrev pub HasImage : {P Q : Type 0} → (P → Q) → List (List ℕ) → Entries P → Q → Type 0
HasImage {P} f names below q = (e : Node P) × IsUnder names e below × (space_text e ≡ None) × (f e.at ≡ q)

-- The spaces of the unit after are just the images of the spaces, with their name lists, tags and attributes. For each name list it
-- has, its imports expanded, just the images of what stands under these names. And each name list in a partial unit that it imports
-- is that of a space.
pub record InsideSame {P Q : Type 0} (f : P → Q) (after : List (DwUnit Q)) (u : DwUnit P) (v : DwUnit Q) : Type 0 where
  pub spaces : (names : List (List ℕ)) (d : Node P) → IsSpace names d u.below → (e : Node Q) × IsSpace names e v.below × IsShown f d e
  pub no_more : (names : List (List ℕ)) (e : Node Q) → IsSpace names e v.below → (d : Node P) × IsSpace names d u.below × IsShown f d e
  pub children : (names : List (List ℕ)) (q : Q) → Expands after v names q ↔ HasImage f names u.below q
  pub imported : (e : Node Q) (w : DwUnit Q) → IsChild e v.below → IsImport after e w → (names : List (List ℕ)) (b : Node Q)
      → IsSpace names b w.below
      → (d : Node P) × IsSpace names d u.below

abbrev pub InCompile : {P : Type 0} → Kind P → Type 0 → Type 0
InCompile Compile T = T
InCompile _ T = Unit {0}

-- The unit after has the unit's kind, with the place of its type replaced; the root has its tag and attributes; and a compile unit
-- has the same inside it.
pub record UnitSame {P Q : Type 0} (f : P → Q) (after : List (DwUnit Q)) (u : DwUnit P) (v : DwUnit Q) : Type 0 where
  pub there : In v after
  pub kind : v.kind ≡ kind_map f u.kind
  pub root : IsShown f u.root v.root
  pub inside : InCompile u.kind (InsideSame f after u v)

abbrev pub UnitsSame : {P Q : Type 0} → (P → Q) → List (DwUnit P) → List (DwUnit Q) → Type 0
UnitsSame {P} {Q} f before after = (u : DwUnit P) → In u before → (v : DwUnit Q) × UnitSame f after u v

-- the root at the image of a type unit's root is this root with each place replaced, its children in order
abbrev pub TypesSame : {P Q : Type 0} → (P → Q) → List (DwUnit P) → List (DwUnit Q) → Type 0
TypesSame {P} f before after =
    (u : DwUnit P) (signature : ℕ) (main : P) → In u before → u.kind ≡ OfType signature main
    → In (seen_map f (see u.root u.below)) (seen_roots after)

-- what sameness along a function of places says of entries, of units, and of the roots of type units
pub record SameAlong {P Q : Type 0} (f : P → Q) (before : List (DwUnit P)) (after : List (DwUnit Q)) : Type 0 where
  pub entries : EntriesSame f before after
  pub units : UnitsSame f before after
  pub types : TypesSame f before after

-- ---- references name entries

-- each reference names an entry
abbrev pub Closed : {P : Type 0} → List (DwUnit P) → Type 0
Closed {P} units =
    (e : Seen P) (a : Named P) (p : P) → In e (all_seen units) → In a e.attrs → In p a.value.refs → (d : Seen P) × In d (all_seen units)
    × (d.at ≡ p)
