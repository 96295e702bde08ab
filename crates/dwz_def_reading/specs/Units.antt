-- Units (DWARF 5, 7.5.1): headers, the tree of entries behind each, and `.debug_info` as a row of units.
use Rattle.std.specs.Prelude.{◌≡◌, ◌≢◌, ◌⊎◌, ℕ, zero, suc, ◌+◌, ◌<◌, Bool, true, false, List, [], ◌∷◌, ◌++◌, length, take, drop, Option}
use Rattle.std.specs.Prelude.{Some, None, Result, Ok, Err, ◌==◌, ◌&&◌, ◌||◌, not, nat_lt, if◌then◌else◌}
use Rattle.dwz_model.specs.declared.fault.Fault.{Fault}
use Rattle.dwz_model.specs.declared.fault.Reason.{Reason}
use Rattle.dwz_model.specs.declared.fault.Reason.TheVariants.{Truncated, DwarfFormat, Version, UnitType, AddressSize, BadRoot}
use Rattle.dwz_bytes.specs.Input.{Input, past}
use Rattle.dwz_bytes.specs.Reading.{◌>>=◌}
use Rattle.dwz_bytes.specs.Spelling.{le_value}
use Rattle.dwz_def_reading.specs.Abbrevs.{Declaration, IsBadTable, SpellsTable, table_at}
use Rattle.dwz_def_reading.specs.Entries.{IsFrontFault, Mode, RawEntry, SpellsEntry, SpellsFront, UnitContext, front_at, root_position, unless_so}
use Rattle.dwz_def_reading.specs.Faults.{bad_abbrev, info_fault}
use Rattle.dwz_def_reading.specs.FirstOf.{of_first}
use Rattle.dwz_def_reading.specs.Parts.{StandsAt}
use Rattle.dwz_def_reading.specs.Trees.{Behind, Cut, EachEntry, Faulty, Forest, ForestReader, Here, IfChildren, Inside, Position, SpellsForest}
use Rattle.dwz_def_reading.specs.Trees.{TwoParts, after_front, children_by, first_below, siblings_at, size}

-- a compile unit (3.1.1), a type unit with its signature and the offset of its type from the unit's first byte (3.1.4), or a
-- partial unit (3.1.1)
pub data RawKind : Type 0 where
  CompileUnit : RawKind
  TypeUnit : (signature : ℕ) → (type_offset : ℕ) → RawKind
  PartialUnit : RawKind

-- a unit as it is stored: where it begins and ends, the offset of its abbreviation table, its kind, its root, and the children
-- of the root
pub record RawUnit : Type 0 where
  pub at : ℕ
  pub end : ℕ
  pub table_offset : ℕ
  pub kind : RawKind
  pub root : RawEntry
  pub below : Forest RawEntry

-- how many entries a unit has, and how many units have
abbrev pub entry_count : RawUnit → ℕ
entry_count u = size u.below + 1

unfoldable pub entries_in : List RawUnit → ℕ
entries_in [] = 0
entries_in (u ∷ units) = entry_count u + entries_in units

-- P holds of each entry of a unit at its position, behind so many entries of other units
abbrev pub EachEntryOf : (Position → RawEntry → Type 0) → ℕ → RawUnit → Type 0
EachEntryOf P before u = P (root_position before) u.root × EachEntry P (first_below (root_position before)) u.below

-- ---- the header (7.5.1.1, 7.5.1.3), for the 32-bit format (7.4)

-- the number of so many bytes at a place of the header
abbrev pub field : ℕ → ℕ → List ℕ → ℕ
field at width bytes = le_value (take width (drop at bytes))

abbrev pub unit_length : List ℕ → ℕ
unit_length bytes = field 0 4 bytes

abbrev pub version : List ℕ → ℕ
version bytes = field 4 2 bytes

abbrev pub unit_type : List ℕ → ℕ
unit_type bytes = field 6 1 bytes

abbrev pub address_size : List ℕ → ℕ
address_size bytes = field 7 1 bytes

abbrev pub debug_abbrev_offset : List ℕ → ℕ
debug_abbrev_offset bytes = field 8 4 bytes

-- the kind of a unit by its type: DW_UT_compile is 1, DW_UT_type is 2, DW_UT_partial is 3
abbrev pub kind_by : Bool → Bool → List ℕ → RawKind
kind_by true is_partial bytes = TypeUnit (field 12 8 bytes) (field 20 4 bytes)
kind_by false true bytes = PartialUnit
kind_by false false bytes = CompileUnit

abbrev pub kind_of : List ℕ → RawKind
kind_of bytes = kind_by (unit_type bytes == 2) (unit_type bytes == 3) bytes

-- how many bytes the header has
abbrev pub header_size : RawKind → ℕ
header_size CompileUnit = 12
header_size (TypeUnit signature type_offset) = 24
header_size PartialUnit = 12

-- the tag that the root has to have: DW_TAG_compile_unit, DW_TAG_type_unit, DW_TAG_partial_unit
abbrev pub root_tag : RawKind → ℕ
root_tag CompileUnit = 0x11
root_tag (TypeUnit signature type_offset) = 0x41
root_tag PartialUnit = 0x3c

-- which types of units are read
abbrev pub is_read : Mode → ℕ → Bool
is_read mode type = (mode.whole && (type == 1 || type == 2)) || (mode.partial && type == 3)

-- the bytes that the length says: those of the unit, with the length itself
abbrev pub unit_size : List ℕ → ℕ
unit_size bytes = unit_length bytes + 4

-- The tests of a header, from the unit's first byte to the section's end, in their order: the first that is true names the fault,
-- which is placed at the unit.
pub record HeaderTest : Type 0 where
  pub fails : Bool
  pub reason : Reason

abbrev pub test : Bool → Reason → HeaderTest
test fails reason = record { fails = fails; reason = reason }

abbrev pub header_tests : Mode → List ℕ → List HeaderTest
header_tests mode bytes =
    test (nat_lt (length bytes) 4) Truncated
    ∷ test (not (nat_lt (unit_length bytes) 0xfffffff0)) DwarfFormat
    ∷ test (nat_lt (length bytes) (unit_size bytes) || nat_lt (unit_size bytes) 12) Truncated
    ∷ test (not (version bytes == 5)) Version
    ∷ test (not (is_read mode (unit_type bytes))) UnitType
    ∷ test (not (address_size bytes == 8)) AddressSize
    ∷ test (unit_type bytes == 2 && nat_lt (unit_size bytes) 24) Truncated
    ∷ []

abbrev pub reason_if_failed : HeaderTest → Option Reason
reason_if_failed t = if t.fails then Some t.reason else None

-- the reason of the first test that fails
unfoldable pub header_reason : Mode → List ℕ → Option Reason
header_reason mode bytes = of_first reason_if_failed (header_tests mode bytes)

-- ---- how a unit is spelled

-- the header of a unit of that size, kind and abbreviation offset
pub record SpellsHeader (mode : Mode) (kind : RawKind) (len offset : ℕ) (bytes : List ℕ) : Type 0 where
  pub size : length bytes ≡ header_size kind
  pub unit_length : field 0 4 bytes + 4 ≡ len
  pub is_32_bit : field 0 4 bytes < 0xfffffff0
  pub version : version bytes ≡ 5
  pub unit_type : is_read mode (unit_type bytes) ≡ true
  pub of_kind : kind ≡ kind_of bytes
  pub address_size : address_size bytes ≡ 8
  pub names_table : debug_abbrev_offset bytes ≡ offset

-- a sibling list of a unit
abbrev pub SpellsSiblings : UnitContext → Position → Forest RawEntry → ℕ → List ℕ → Type 0
SpellsSiblings c p list start bytes = SpellsForest (λ e. e.children) (SpellsFront c) list p start bytes

-- a root, and the list of its children if it says that it has some
abbrev pub SpellsTree : UnitContext → ℕ → RawEntry → Forest RawEntry → ℕ → List ℕ → Type 0
SpellsTree c before root below start bytes =
    TwoParts (SpellsEntry c (root_position before) root)
    (λ s b. IfChildren root.children below (SpellsSiblings c (first_below (root_position before)) below s b) b) start bytes

-- each byte is 0
abbrev pub AreZeros : List ℕ → Type 0
AreZeros [] = Unit {0}
AreZeros (b ∷ bytes) = (b ≡ 0) × AreZeros bytes

-- the table that stands at an offset of `.debug_abbrev`, for a unit of that kind with that end
pub record IsContext (abbrevs : List ℕ) (offset : ℕ) (kind : RawKind) (end : ℕ) (mode : Mode) (c : UnitContext) : Type 0 where
  pub stands : StandsAt SpellsTable abbrevs offset c.table
  pub same_root : c.root_tag ≡ root_tag kind
  pub same_end : c.end ≡ end
  pub same_mode : c.mode ≡ mode

-- a unit, behind so many entries of other units: its header, its tree, and zero bytes up to its end
pub record SpellsUnit (abbrevs : List ℕ) (mode : Mode) (before : ℕ) (u : RawUnit) (start : ℕ) (bytes : List ℕ) : Type 0 where
  pub place : u.at ≡ start
  pub end : u.end ≡ start + length bytes
  pub context : UnitContext
  pub is_context : IsContext abbrevs u.table_offset u.kind u.end mode context
  pub header : List ℕ
  pub is_header : SpellsHeader mode u.kind (length bytes) u.table_offset header
  pub tree : List ℕ
  pub is_tree : SpellsTree context before u.root u.below (start + length header) tree
  pub padding : List ℕ
  pub zeros : AreZeros padding
  pub parts : bytes ≡ header ++ (tree ++ padding)

-- `.debug_info` is a row of units without gaps
abbrev pub SpellsUnits : List ℕ → Mode → ℕ → List RawUnit → ℕ → List ℕ → Type 0
SpellsUnits abbrevs mode before [] start bytes = bytes ≡ []
SpellsUnits abbrevs mode before (u ∷ units) start bytes =
    TwoParts (SpellsUnit abbrevs mode before u) (SpellsUnits abbrevs mode (before + entry_count u) units) start bytes

-- ---- reading

-- bytes end inside the tree
abbrev pub cut_tree : UnitContext → Input → Fault
cut_tree c i = info_fault c.end Truncated

-- the sibling lists of a unit
abbrev pub unit_siblings_at : UnitContext → Position → Input → Result (Forest RawEntry × Input) Fault
unit_siblings_at c = siblings_at (λ e. e.children) (front_at c) (cut_tree c)

-- one front, and the lists behind it
abbrev pub unit_siblings_by : ForestReader RawEntry → UnitContext → ForestReader RawEntry
unit_siblings_by read c p i = front_at c p i >>= after_front (λ e. e.children) read p

abbrev pub Tree : Type 0
Tree = RawEntry × Forest RawEntry

abbrev pub with_root : RawEntry → Forest RawEntry × Input → Result (Tree × Input) Fault
with_root root x = Ok ((root, x.0), x.1)

-- a front at depth 1 is never the end of a list, so the first case doesn't come
abbrev pub after_root : UnitContext → ℕ → Option RawEntry × Input → Result (Tree × Input) Fault
after_root c before (None, i) = Err (info_fault i.at BadRoot)
after_root c before (Some root, i) = children_by (unit_siblings_at c) (root_position before) root.children i >>= with_root root

-- the tree of a unit
unfoldable pub tree_at : UnitContext → ℕ → Input → Result (Tree × Input) Fault
tree_at c before i = front_at c (root_position before) i >>= after_root c before

-- how many zero bytes stand at the front
unfoldable pub zero_count : List ℕ → ℕ
zero_count [] = 0
zero_count (b ∷ bytes) = if b == 0 then suc (zero_count bytes) else 0

-- all bytes are 0, or the first that isn't is a fault
abbrev pub zeros_at : Input → Result (Unit {0}) Fault
zeros_at i = unless_so (nat_lt (zero_count i.rest) (length i.rest)) (info_fault (i.at + zero_count i.rest) BadRoot)

abbrev pub unit_header_at : Input → Option Reason → Result (Unit {0}) Fault
unit_header_at i None = Ok tt
unit_header_at i (Some reason) = Err (info_fault i.at reason)

-- the bytes of the unit behind its header
abbrev pub behind_header : Input → Input
behind_header i = record {
  at = i.at + header_size (kind_of i.rest);
  rest = drop (header_size (kind_of i.rest)) (take (unit_size i.rest) i.rest);
}

abbrev pub context_of : Input → Mode → List Declaration → UnitContext
context_of i mode table = record { table = table; root_tag = root_tag (kind_of i.rest); end = i.at + unit_size i.rest; mode = mode }

abbrev pub unit_of : Input → Tree → Unit {0} → Result (RawUnit × Input) Fault
unit_of i tree zeros =
    Ok (
      record {
        at = i.at;
        end = i.at + unit_size i.rest;
        table_offset = debug_abbrev_offset i.rest;
        kind = kind_of i.rest;
        root = tree.0;
        below = tree.1;
      },
      past (unit_size i.rest) i,
    )

abbrev pub after_tree : Input → Tree × Input → Result (RawUnit × Input) Fault
after_tree i tree = zeros_at tree.1 >>= unit_of i tree.0

abbrev pub after_table : Mode → ℕ → Input → List Declaration → Result (RawUnit × Input) Fault
after_table mode before i table = tree_at (context_of i mode table) before (behind_header i) >>= after_tree i

abbrev pub after_header : List ℕ → Mode → ℕ → Input → Unit {0} → Result (RawUnit × Input) Fault
after_header abbrevs mode before i header = table_at abbrevs (debug_abbrev_offset i.rest) >>= after_table mode before i

-- a unit, behind so many entries
unfoldable pub unit_at : List ℕ → Mode → ℕ → Input → Result (RawUnit × Input) Fault
unit_at abbrevs mode before i = unit_header_at i (header_reason mode i.rest) >>= after_header abbrevs mode before i

abbrev pub with_unit : RawUnit → List RawUnit → Result (List RawUnit) Fault
with_unit u units = Ok (u ∷ units)

-- the units behind one that is read
abbrev pub after_unit : (ℕ → Input → Result (List RawUnit) Fault) → ℕ → RawUnit × Input → Result (List RawUnit) Fault
after_unit read before u = read (before + entry_count u.0) u.1 >>= with_unit u.0

abbrev pub is_empty : List ℕ → Bool
is_empty [] = true
is_empty (b ∷ bytes) = false

-- none where no bytes are left, and else a unit and those behind it
abbrev pub units_by : (ℕ → Input → Result (List RawUnit) Fault) → List ℕ → Mode → ℕ → Input → Result (List RawUnit) Fault
units_by read abbrevs mode before i = if is_empty i.rest then Ok [] else (unit_at abbrevs mode before i >>= after_unit read before)

-- at most k units
unfoldable pub units_from : List ℕ → Mode → ℕ → ℕ → Input → Result (List RawUnit) Fault
units_from abbrevs mode zero before i = Ok []
units_from abbrevs mode (suc k) before i = units_by (units_from abbrevs mode k) abbrevs mode before i

-- all units from an input on, behind so many entries: each takes a byte at least
unfoldable pub units_at : List ℕ → Mode → ℕ → Input → Result (List RawUnit) Fault
units_at abbrevs mode before i = units_from abbrevs mode (length i.rest) before i

-- ---- why units aren't read

-- some front of the list has a fault, and all before it is spelled
abbrev pub IsSiblingsFault : UnitContext → Position → ℕ → List ℕ → Fault → Type 0
IsSiblingsFault c p start bytes f = (cut : Cut RawEntry) × Faulty (λ e. e.children) (SpellsFront c) (IsFrontFault c) cut p f start bytes

-- the place is at the root or below it: a root has no sibling
abbrev pub IsDown : Cut RawEntry → Type 0
IsDown Here = Unit {0}
IsDown (Inside e cut) = Unit {0}
IsDown (Behind e children cut) = ⊥

-- the root has a fault, or all before some place below it is spelled and what begins there has one
abbrev pub IsTreeFault : UnitContext → ℕ → ℕ → List ℕ → Fault → Type 0
IsTreeFault c before start bytes f =
    (cut : Cut RawEntry) × IsDown cut × Faulty (λ e. e.children) (SpellsFront c) (IsFrontFault c) cut (root_position before) f start bytes

-- some zero bytes, and then another byte
pub record IsOtherByte (bytes : List ℕ) (behind : ℕ) : Type 0 where
  pub front : List ℕ
  pub zeros : AreZeros front
  pub byte : ℕ
  pub other : byte ≢ 0
  pub rest : List ℕ
  pub parts : bytes ≡ front ++ byte ∷ rest
  pub place : behind ≡ length front

-- a tree stands there, and behind it, where the unit goes on with zero bytes, another byte
pub record IsBadPadding (c : UnitContext) (before start : ℕ) (bytes : List ℕ) (f : Fault) : Type 0 where
  pub root : RawEntry
  pub below : Forest RawEntry
  pub tree : List ℕ
  pub is_tree : SpellsTree c before root below start tree
  pub rest : List ℕ
  pub parts : bytes ≡ tree ++ rest
  pub behind : ℕ
  pub other : IsOtherByte rest behind
  pub placed : f ≡ info_fault (start + length tree + behind) BadRoot

-- the header is good, and the table is not, or one stands there and the tree or what follows it has a fault
pub record IsFaultBehindHeader (abbrevs : List ℕ) (mode : Mode) (before : ℕ) (i : Input) (f : Fault) : Type 0 where
  pub header : header_reason mode i.rest ≡ None
  pub fault : ((place : ℕ) × (f ≡ bad_abbrev place) × IsBadTable abbrevs (debug_abbrev_offset i.rest) place)
      ⊎ ((table : List Declaration) × StandsAt SpellsTable abbrevs (debug_abbrev_offset i.rest) table
      × (IsTreeFault (context_of i mode table) before (behind_header i).at (behind_header i).rest f
      ⊎ IsBadPadding (context_of i mode table) before (behind_header i).at (behind_header i).rest f))

-- the unit that begins there, behind so many entries, has that fault: the first test of its header that fails, or one behind it
abbrev pub IsUnitFault : List ℕ → Mode → ℕ → Input → Fault → Type 0
IsUnitFault abbrevs mode before i f =
    ((reason : Reason) × (header_reason mode i.rest ≡ Some reason) × (f ≡ info_fault i.at reason)) ⊎ IsFaultBehindHeader abbrevs mode before
    i f

-- units stand there, and the one behind them has that fault
pub record IsUnitsFault (abbrevs : List ℕ) (mode : Mode) (before start : ℕ) (bytes : List ℕ) (f : Fault) : Type 0 where
  pub units : List RawUnit
  pub front : List ℕ
  pub spelled : SpellsUnits abbrevs mode before units start front
  pub rest : List ℕ
  pub some : 0 < length rest
  pub parts : bytes ≡ front ++ rest
  pub is_fault : IsUnitFault abbrevs mode (before + entries_in units) (record { at = start + length front; rest = rest }) f
