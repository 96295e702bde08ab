-- Entries and their attributes, as they are stored (DWARF 5, 7.5.2 and 7.5.3): how they are spelled, how they are read, and why
-- one isn't.
use Rattle.std.specs.Prelude.{◌≡◌, ◌≢◌, ◌⊎◌, ℕ, ◌+◌, ◌-◌, ◌<◌, ◌≤◌, Bool, true, false, List, [], ◌∷◌, ◌++◌, length, drop, Option, Some}
use Rattle.std.specs.Prelude.{None, Result, Ok, Err, ◌==◌, ◌&&◌, not, nat_lt, if◌then◌else◌}
use Rattle.dwz_model.specs.declared.fault.Fault.{Fault}
use Rattle.dwz_model.specs.declared.fault.Reason.{Reason}
use Rattle.dwz_model.specs.declared.fault.Reason.TheVariants.{UnsupportedForm, Truncated, BadNumber, NoSuchCode, BadRoot, TooDeep, TooMany}
use Rattle.dwz_model.specs.declared.place.Pair.{Pair}
use Rattle.dwz_bytes.specs.declared.error.ByteErr.{ByteErr}
use Rattle.dwz_bytes.specs.declared.error.ByteErr.TheVariants.{Short, Wide}
use Rattle.dwz_bytes.specs.Input.{Input}
use Rattle.dwz_bytes.specs.Laws.{IsCutShort}
use Rattle.dwz_bytes.specs.Reading.{◌>>=◌, uleb_at}
use Rattle.dwz_bytes.specs.Spelling.{SpellsUleb, fits_u64, groups_value}
use Rattle.dwz_codes.specs.Forms.{form_rows}
use Rattle.dwz_codes.specs.Rows.{RowView}
use Rattle.dwz_def_reading.specs.Abbrevs.{Declaration, find_decl}
use Rattle.dwz_def_reading.specs.Faults.{info_fault}
use Rattle.dwz_codes.specs.Rows.{has}
use Rattle.std.specs.List.{filter}
use Rattle.dwz_def_reading.specs.Trees.{EntryReader, FaultOf, FrontOf, Position, TwoParts}
use Rattle.dwz_def_reading.specs.Values.{IsTooBig, IsValueFault, Raw, SpellsValue, value_at}

-- an attribute as it is stored: where its value begins and ends, its name and form, and what the value stores
pub record RawAttr : Type 0 where
  pub at : ℕ
  pub end : ℕ
  pub pair : Pair
  pub raw : Raw

-- an entry as it is stored, without its children: where it begins, and whether its declaration says that it has children
pub record RawEntry : Type 0 where
  pub at : ℕ
  pub tag : ℕ
  pub children : Bool
  pub attrs : List RawAttr

-- what is read: how many entries there may be in all, how deep an entry may be, where a root has depth 1, whether there may be
-- compile and type units, and partial units, and which forms, in units whose root has that tag, for a root and for other entries
pub record Mode : Type 0 where
  pub entries : ℕ
  pub depth : ℕ
  pub whole : Bool
  pub partial : Bool
  pub forms : ℕ → Bool → List RowView

-- the forms of a file by itself: none leads to a supplementary file
abbrev pub own_forms : ℕ → Bool → List RowView
own_forms tag is_root = form_rows

-- the files that are given: no entry is deeper than 256, and no unit is partial
abbrev pub given : ℕ → Mode
given entries = record { entries = entries; depth = 256; whole = true; partial = false; forms = own_forms }

-- the codes of the forms that are written in a common file: no address, no index, no text by its slot; and for a root the number of a
-- line table (DWARF 5, 7.5.6)
abbrev pub codes_of_all : List ℕ
codes_of_all = 0x0a ∷ 0x03 ∷ 0x04 ∷ 0x09 ∷ 0x0b ∷ 0x05 ∷ 0x06 ∷ 0x07 ∷ 0x08 ∷ 0x0c ∷ 0x19 ∷ 0x0d ∷ 0x0f ∷ 0x21 ∷ 0x0e ∷ 0x10 ∷ 0x13 ∷ 0x20 ∷ 0x18
    ∷ 0x1e ∷ []

abbrev pub codes_of_common : Bool → List ℕ
codes_of_common true = 0x17 ∷ codes_of_all
codes_of_common false = codes_of_all

abbrev pub forms_of_common : ℕ → Bool → List RowView
forms_of_common tag is_root = filter (λ row. has row.code (codes_of_common is_root)) form_rows

-- a common file that is finished: all units are partial
abbrev pub of_common : ℕ → Mode
of_common entries = record { entries = entries; depth = 256; whole = false; partial = true; forms = forms_of_common }

-- what reading the entries of a unit needs: the unit's abbreviation table, the tag that its root has to have, where the unit
-- ends, and what is read
pub record UnitContext : Type 0 where
  pub table : List Declaration
  pub root_tag : ℕ
  pub end : ℕ
  pub mode : Mode

-- the forms of the entry at a position
abbrev pub forms_at : UnitContext → Position → List RowView
forms_at c p = c.mode.forms c.root_tag (p.depth == 1)

-- where a root stands, behind so many entries of other units
abbrev pub root_position : ℕ → Position
root_position before = record { before = before; depth = 1 }

-- ---- how they are spelled

-- the value of the pair's form, and its place
pub record IsAttr (rows : List RowView) (pair : Pair) (a : RawAttr) (start : ℕ) (bytes : List ℕ) : Type 0 where
  pub place : a.at ≡ start
  pub end : a.end ≡ start + length bytes
  pub same : a.pair ≡ pair
  pub value : SpellsValue rows pair bytes a.raw

-- a value for each pair, in order
abbrev pub SpellsAttrs : List RowView → List Pair → List RawAttr → ℕ → List ℕ → Type 0
SpellsAttrs rows [] [] start bytes = bytes ≡ []
SpellsAttrs rows (pair ∷ pairs) (a ∷ attrs) start bytes = TwoParts (IsAttr rows pair a) (SpellsAttrs rows pairs attrs) start bytes
SpellsAttrs rows _ _ start bytes = ⊥

-- the code of a declaration of the table
pub record SpellsCode (table : List Declaration) (d : Declaration) (bytes : List ℕ) : Type 0 where
  pub code : ℕ
  pub spelled : SpellsUleb bytes code
  pub some_code : 0 < code
  pub declared : find_decl table code ≡ Some d

-- an entry of that declaration may stand there: a root has the tag that its unit asks for, no entry is too deep, and there is
-- room for it
pub record MayStand (c : UnitContext) (p : Position) (d : Declaration) : Type 0 where
  pub root : p.depth ≡ 1 → d.tag ≡ c.root_tag
  pub depth : p.depth ≤ c.mode.depth
  pub room : p.before < c.mode.entries

-- an entry is the code of its declaration, and the values of its attributes
pub record SpellsEntry (c : UnitContext) (p : Position) (e : RawEntry) (start : ℕ) (bytes : List ℕ) : Type 0 where
  pub place : e.at ≡ start
  pub decl : Declaration
  pub tag : e.tag ≡ decl.tag
  pub children : e.children ≡ decl.children
  pub stands : MayStand c p decl
  pub parts : TwoParts (λ s b. SpellsCode c.table decl b) (SpellsAttrs (forms_at c p) decl.pairs e.attrs) start bytes

-- an entry, or the code 0 that ends a sibling list; no such list begins with a root
abbrev pub SpellsFront : UnitContext → FrontOf RawEntry
SpellsFront c p start None bytes = (p.depth ≢ 1) × SpellsUleb bytes 0
SpellsFront c p start (Some e) bytes = SpellsEntry c p e start bytes

-- ---- reading

-- goes on unless a test says that there is a fault
abbrev pub unless_so : Bool → Fault → Result (Unit {0}) Fault
unless_so true f = Err f
unless_so false f = Ok tt

-- a fault of a value in an entry: a form that isn't read is placed at the entry
abbrev pub place_of_value_fault : ℕ → ℕ → Reason → ℕ
place_of_value_fault entry at (UnsupportedForm form) = entry
place_of_value_fault entry at _ = at

abbrev pub fault_in_entry : ℕ → Fault → Fault
fault_in_entry entry f = record { section = f.section; at = place_of_value_fault entry f.at f.reason; reason = f.reason }

abbrev pub in_entry : {X : Type 0} → ℕ → Result X Fault → Result X Fault
in_entry entry (Ok x) = Ok x
in_entry entry (Err f) = Err (fault_in_entry entry f)

abbrev pub with_value : ℕ → ℕ → Pair → Raw → List RawAttr × Input → Result (List RawAttr × Input) Fault
with_value at end pair raw x = Ok (record { at = at; end = end; pair = pair; raw = raw } ∷ x.0, x.1)

-- the values of an entry's attributes
unfoldable pub attrs_at : List RowView → ℕ → List Pair → Input → Result (List RawAttr × Input) Fault
attrs_at rows entry [] i = Ok ([], i)
attrs_at rows entry (pair ∷ pairs) i = in_entry entry (value_at rows pair i) >>= λ x. attrs_at rows entry pairs x.1 >>= with_value i.at
    x.1.at pair x.0

-- a code ends with its unit at the latest
abbrev pub code_fault : UnitContext → ByteErr → Fault
code_fault c (Short at) = info_fault c.end Truncated
code_fault c (Wide at) = info_fault at BadNumber

abbrev pub code_or_fault : {X : Type 0} → UnitContext → Result X ByteErr → Result X Fault
code_or_fault c (Ok x) = Ok x
code_or_fault c (Err e) = Err (code_fault c e)

abbrev pub entry_of : ℕ → Declaration → List RawAttr × Input → Result (Option RawEntry × Input) Fault
entry_of at d x = Ok (Some (record { at = at; tag = d.tag; children = d.children; attrs = x.0 }), x.1)

abbrev pub is_wrong_root : UnitContext → Position → Declaration → Bool
is_wrong_root c p d = p.depth == 1 && not (d.tag == c.root_tag)

-- an entry whose declaration is known
abbrev pub after_decl : UnitContext → Position → ℕ → Input → Declaration → Result (Option RawEntry × Input) Fault
after_decl c p at i d =
    unless_so (is_wrong_root c p d) (info_fault at BadRoot)
    >>= λ root. unless_so (nat_lt c.mode.depth p.depth) (info_fault at TooDeep)
    >>= λ depth. unless_so (nat_lt c.mode.entries (p.before + 1)) (info_fault at TooMany)
    >>= λ room. attrs_at (forms_at c p) at d.pairs i >>= entry_of at d

abbrev pub declared_at : ℕ → Option Declaration → Result Declaration Fault
declared_at at None = Err (info_fault at NoSuchCode)
declared_at at (Some d) = Ok d

abbrev pub after_zero : Position → ℕ → Input → Result (Option RawEntry × Input) Fault
after_zero p at i = if p.depth == 1 then Err (info_fault at BadRoot) else Ok (None, i)

abbrev pub after_code : UnitContext → Position → ℕ → ℕ × Input → Result (Option RawEntry × Input) Fault
after_code c p at code =
    if code.0 == 0 then after_zero p at code.1 else (declared_at at (find_decl c.table code.0) >>= after_decl c p at code.1)

-- the front of an entry, or the end of a sibling list
unfoldable pub front_at : UnitContext → EntryReader RawEntry
front_at c p i = code_or_fault c (uleb_at i) >>= after_code c p i.at

-- among bytes from start on, the entry is read again from its own place
pub record IsReadAgain (c : UnitContext) (start : ℕ) (bytes : List ℕ) (p : Position) (e : RawEntry) : Type 0 where
  pub from : start ≤ e.at
  pub to : e.at < start + length bytes
  pub behind : Input
  pub read : front_at c p (record { at = e.at; rest = drop (e.at - start) bytes }) ≡ Ok (Some e, behind)

-- ---- why there is none

-- from a place on the values of the pairs stand up to one that can't be read
pub record IsAttrFault (rows : List RowView) (entry : ℕ) (pairs : List Pair) (start : ℕ) (bytes : List ℕ) (f : Fault) : Type 0 where
  pub earlier : List Pair
  pub pair : Pair
  pub later : List Pair
  pub which : pairs ≡ earlier ++ pair ∷ later
  pub attrs : List RawAttr
  pub front : List ℕ
  pub spelled : SpellsAttrs rows earlier attrs start front
  pub rest : List ℕ
  pub parts : bytes ≡ front ++ rest
  pub fault : Fault
  pub is_fault : IsValueFault rows pair (record { at = start + length front; rest = rest }) fault
  pub placed : f ≡ fault_in_entry entry fault

-- the code of a declaration stands there
pub record HasDeclaredCode (table : List Declaration) (bytes : List ℕ) : Type 0 where
  pub decl : Declaration
  pub front : List ℕ
  pub code : SpellsCode table decl front
  pub rest : List ℕ
  pub parts : bytes ≡ front ++ rest

-- a code stands there that no declaration of the table has
pub record IsUndeclared (table : List Declaration) (bytes : List ℕ) : Type 0 where
  pub code : ℕ
  pub front : List ℕ
  pub spelled : SpellsUleb front code
  pub some_code : 0 < code
  pub undeclared : find_decl table code ≡ None
  pub rest : List ℕ
  pub parts : bytes ≡ front ++ rest

-- the code 0 stands there
pub record BeginsWithZero (bytes : List ℕ) : Type 0 where
  pub front : List ℕ
  pub zero : SpellsUleb front 0
  pub rest : List ℕ
  pub parts : bytes ≡ front ++ rest

-- The entry's declaration is known. The faults of an entry that may not stand there come in this order, and then those of its
-- values.
abbrev pub IsDeclaredFault : UnitContext → Position → Declaration → ℕ → ℕ → List ℕ → Fault → Type 0
IsDeclaredFault c p d at start bytes f =
    ((f ≡ info_fault at BadRoot) × (p.depth ≡ 1) × (d.tag ≢ c.root_tag))
    ⊎ (((f ≡ info_fault at TooDeep) × (p.depth ≡ 1 → d.tag ≡ c.root_tag) × (c.mode.depth < p.depth))
    ⊎ (((f ≡ info_fault at TooMany) × (p.depth ≡ 1 → d.tag ≡ c.root_tag) × (p.depth ≤ c.mode.depth) × (c.mode.entries ≤ p.before))
    ⊎ (MayStand c p d × IsAttrFault (forms_at c p) at d.pairs start bytes f)))

-- no front of an entry, and no end of a sibling list, is read there, for one of these reasons
abbrev pub IsFrontFault : UnitContext → FaultOf
IsFrontFault c p start bytes f =
    ((f ≡ info_fault c.end Truncated) × IsCutShort bytes)
    ⊎ (((f ≡ info_fault start BadNumber) × IsTooBig groups_value fits_u64 bytes)
    ⊎ (((f ≡ info_fault start BadRoot) × (p.depth ≡ 1) × BeginsWithZero bytes)
    ⊎ (((f ≡ info_fault start NoSuchCode) × IsUndeclared c.table bytes)
    ⊎ ((h : HasDeclaredCode c.table bytes) × IsDeclaredFault c p h.decl start (start + length h.front) h.rest f))))
