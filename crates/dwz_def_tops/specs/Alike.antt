-- Which tops may move, and which are alike.
use Rattle.std.specs.Prelude.{◌⊎◌, ◌≡◌, ℕ, zero, suc, Bool, true, false, List, [], ◌∷◌, ◌++◌, Option, Some, None, ◌==◌}
use Rattle.std.specs.Prelude.{◌&&◌, ◌||◌, not}
use Rattle.std.specs.List.{list_any}
use Rattle.dwz_def_reading.specs.Documents.{Attr, Entries, Expr, Loc, Node, Operand, Part, Plain, Same, Value}
pub use Rattle.dwz_def_reading.specs.Modes.{binding_forms}
use Rattle.dwz_def_reading.specs.Lists.{In}
use Rattle.dwz_def_reading.specs.Rows.{has}
use Rattle.dwz_def_reading.specs.Trees.{End, Entry}
use Rattle.dwz_def_tops.specs.Spots.{EntryName, FileUnit, Top, Within, name_list, tops_of}

-- ---- in a top's tree

-- an entry passes the test
unfoldable pub any_entry : (Node EntryName → Bool) → Entries EntryName → Bool
any_entry test End = false
any_entry test (Entry e children next) = test e || (any_entry test children || any_entry test next)

abbrev pub any_in : (Node EntryName → Bool) → Top → Bool
any_in test t = test t.node || any_entry test t.below

-- an attribute of the entry passes the test
abbrev pub any_attr : (Attr EntryName → Bool) → Node EntryName → Bool
any_attr test e = list_any test e.attrs

-- ---- bound: what says where it stands, or is named by what stands

abbrev pub is_operand : Part → Bool
is_operand (Same bytes) = false
is_operand (Operand width uleb base) = true

-- an expression names an entry
abbrev pub has_operand : Plain → Bool
has_operand (Expr parts) = list_any is_operand parts
has_operand (Loc exprs) = list_any (list_any is_operand) exprs
has_operand _ = false

-- the parts of expressions, one behind the other
unfoldable pub joined_parts : List (List Part) → List Part
joined_parts [] = []
joined_parts (parts ∷ exprs) = parts ++ joined_parts exprs

-- an expression that means something else in another unit or at another place: it names an entry, or has an address
abbrev pub holds_place : {P : Type 0} → Value P → Bool
holds_place v = has_operand v.plain || v.address

-- the number of the unit that a top stands in
unfoldable pub unit_in : List Top → ℕ → Option ℕ
unit_in [] n = None
unit_in (t ∷ tops) n = elim (t.number == n) as (λ _. Option ℕ) [ true ↦ Some t.unit | false ↦ unit_in tops n ]

abbrev pub is_number : Option ℕ → ℕ → Bool
is_number None n = false
is_number (Some m) n = m == n

-- a reference leaves the unit, or names an entry that is in no top
abbrev pub leaves : List Top → ℕ → EntryName → Bool
leaves tops unit (Within t path) = not (is_number (unit_in tops t) unit)
leaves tops unit _ = true

abbrev pub attr_binds : List Top → ℕ → Attr EntryName → Bool
attr_binds tops unit a =
    has a.form binding_forms || (holds_place a.value || list_any (leaves tops unit) a.value.refs)

-- DW_TAG_imported_unit is 3d
abbrev pub entry_binds : List Top → ℕ → Node EntryName → Bool
entry_binds tops unit e = e.tag == 0x3d || any_attr (attr_binds tops unit) e

-- the spot is in the top
abbrev pub is_in : ℕ → EntryName → Bool
is_in n (Within t path) = t == n
is_in n _ = false

-- an operand of an expression in the attribute names an entry of the top
abbrev pub operand_names : ℕ → Attr EntryName → Bool
operand_names n a = has_operand a.value.plain && list_any (is_in n) a.value.refs

-- an operand anywhere names one of its entries
abbrev pub names_in_unit : ℕ → FileUnit EntryName → Bool
names_in_unit n f = any_attr (operand_names n) f.unit.root || any_entry (any_attr (operand_names n)) f.unit.below

abbrev pub is_named : List (FileUnit EntryName) → ℕ → Bool
is_named units n = list_any (names_in_unit n) units

abbrev pub binds_itself : List (FileUnit EntryName) → Top → Bool
binds_itself units t = any_in (entry_binds (tops_of units) t.unit) t || is_named units t.number

-- a reference in the top's tree goes into the other
abbrev pub refers_to : ℕ → Top → Bool
refers_to n t = any_in (any_attr (λ a. list_any (is_in n) a.value.refs)) t

-- Bound by itself, or by a chain of so many references into a top that is.
unfoldable pub Bound : List (FileUnit EntryName) → ℕ → ℕ → Type 0
Bound units zero n = (t : Top) × In t (tops_of units) × (t.number ≡ n) × (binds_itself units t ≡ true)
Bound units (suc k) n = Bound units k n ⊎ ((t : Top) × (m : ℕ) × In t (tops_of units) × (t.number ≡ n) × (refers_to m t ≡ true)
    × Bound units k m)

-- a top, and no chain of references binds it
pub record Movable (units : List (FileUnit EntryName)) (n : ℕ) : Type 0 where
  pub top : Top
  pub is_top : In top (tops_of units)
  pub number : top.number ≡ n
  pub free : (k : ℕ) → Bound units k n → ⊥

-- ---- alike: the same language, the same bare tree within spaces with the same names, and R of the tops of the targets of each two
-- references

-- references to entries in tops go to the same path; of two others nothing is asked
abbrev pub SameTarget : (ℕ → ℕ → Type 0) → EntryName → EntryName → Type 0
SameTarget R (Within s p) (Within t q) = (p ≡ q) × R s t
SameTarget R (Within s p) _ = ⊥
SameTarget R _ (Within t q) = ⊥
SameTarget R _ _ = Unit {0}

abbrev pub SameRefs : (ℕ → ℕ → Type 0) → List EntryName → List EntryName → Type 0
SameRefs R [] [] = Unit {0}
SameRefs R (a ∷ as') (b ∷ bs) = SameTarget R a b × SameRefs R as' bs
SameRefs R _ _ = ⊥

abbrev pub SameValue : (ℕ → ℕ → Type 0) → Value EntryName → Value EntryName → Type 0
SameValue R a b = (a.plain ≡ b.plain) × SameRefs R a.refs b.refs

-- names and values; neither forms nor stored numbers
abbrev pub SameAttrs : (ℕ → ℕ → Type 0) → List (Attr EntryName) → List (Attr EntryName) → Type 0
SameAttrs R [] [] = Unit {0}
SameAttrs R (a ∷ attrs) (b ∷ others) = (a.name ≡ b.name) × SameValue R a.value b.value × SameAttrs R attrs others
SameAttrs R _ _ = ⊥

abbrev pub SameNode : (ℕ → ℕ → Type 0) → Node EntryName → Node EntryName → Type 0
SameNode R d e = (d.tag ≡ e.tag) × SameAttrs R d.attrs e.attrs

abbrev pub SameEntries : (ℕ → ℕ → Type 0) → Entries EntryName → Entries EntryName → Type 0
SameEntries R End End = Unit {0}
SameEntries R (Entry d f g) (Entry e f' g') = SameNode R d e × SameEntries R f f' × SameEntries R g g'
SameEntries R _ _ = ⊥

abbrev pub SameTop : (ℕ → ℕ → Type 0) → Top → Top → Type 0
SameTop R a b = (a.language ≡ b.language) × (name_list a ≡ name_list b) × SameNode R a.node b.node × SameEntries R a.below b.below

-- looks of each depth
abbrev pub LookOf : (ℕ → ℕ → Type 0) → List Top → ℕ → ℕ → Type 0
LookOf R tops m n = (a b : Top) → In a tops → In b tops → a.number ≡ m → b.number ≡ n → SameTop R a b

unfoldable pub Look : List Top → ℕ → ℕ → ℕ → Type 0
Look tops zero m n = Unit {0}
Look tops (suc k) m n = LookOf (Look tops k) tops m n

-- both are movable, and looks of every depth find them equal
pub record Alike (units : List (FileUnit EntryName)) (m n : ℕ) : Type 0 where
  pub first : Movable units m
  pub second : Movable units n
  pub equal : (k : ℕ) → Look (tops_of units) k m n

-- all files are one scope, or each file is one
pub data TopScope : Type 0 where
  Together : TopScope
  Apart : TopScope

abbrev pub InScope : TopScope → Top → Top → Type 0
InScope Together a b = Unit {0}
InScope Apart a b = a.file ≡ b.file

-- a test finds tops alike exactly if they are, and in one scope
pub record IsAlike (scope : TopScope) (units : List (FileUnit EntryName)) (alike : ℕ → ℕ → Bool) : Type 0 where
  pub decides : (m n : ℕ) → alike m n ≡ true → Alike units m n
  pub scoped : (a b : Top) → In a (tops_of units) → In b (tops_of units) → alike a.number b.number ≡ true → InScope scope a b
  pub decided : (a b : Top) → In a (tops_of units) → In b (tops_of units) → InScope scope a b → Alike units a.number b.number
      → alike a.number b.number ≡ true
