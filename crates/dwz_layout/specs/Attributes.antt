-- What is written of an entry: its attributes, with numbers of entries in place of places.
use Rattle.std.specs.Prelude.{ℕ, zero, suc, pos, ◌+◌, ◌-◌, Bool, true, false, List, [], ◌∷◌, ◌++◌, map, nat_lt, ◌==◌, if◌then◌else◌, Option}
use Rattle.std.specs.Prelude.{Some, None, Result, Ok, Err, slice_index}
use Rattle.std.specs.Option.{option_map_or}
use Rattle.dwz_model.specs.declared.fault.Fault.{Fault}
use Rattle.dwz_model.specs.declared.place.Pair.{Pair}
use Rattle.dwz_def_reading.specs.Entries.{RawAttr}
use Rattle.dwz_def_reading.specs.Values.{Bytes, Number, Raw}
use Rattle.dwz_def_reading.specs.Documents.{Part, Same}
use Rattle.dwz_def_reading.specs.Documents as document
use Rattle.dwz_def_reading.specs.Exprs.{Expression, any_operands, expr_at, parts_of}
use Rattle.dwz_def_reading.specs.Meanings.{block_begins, bytes_of}
use Rattle.dwz_def_reading.specs.Patching.{filled}
use Rattle.dwz_def_tops.specs.Deciding.{same_bool}
use Rattle.dwz_unit.specs.Rows.{EntryRow}
use Rattle.dwz_def_encoding.specs.Placing.{CommonUnit, UnitRole, NewUnit, OldUnit, ref_form, reach_by}
use Rattle.dwz_def_encoding.specs.Writing.{base_place}
use Rattle.dwz_layout.specs.declared.known.ValueCounts.{ValueCounts}
use Rattle.dwz_layout.specs.declared.known.EntryTable.{EntryTable}
use Rattle.dwz_layout.specs.declared.known.SpaceRow.{SpaceRow}
use Rattle.dwz_layout.specs.declared.known.TextAt.{TextAt}
use Rattle.dwz_layout.specs.declared.known.TextAt.TheVariants.{Own, Pooled, Shared}
use Rattle.dwz_layout.specs.declared.order.Sort.{Sort}
use Rattle.dwz_layout.specs.declared.order.Sort.TheVariants.{Compile, OfType, Partial}
use Rattle.dwz_layout.specs.declared.walk.Entry.{Entry}
use Rattle.dwz_layout.specs.declared.walk.Origin.{Origin}
use Rattle.dwz_layout.specs.declared.walk.Origin.TheVariants.{Chained, Imported, OwnRoot, Read as OfRow}
use Rattle.dwz_layout.specs.declared.ways.Rewrite.{Rewrite}
use Rattle.dwz_layout.specs.declared.ways.Rewrite.TheVariants.{AsEntry, AsExpression, AsFile, AsRead, AsText, Dropped, KeepsText}
use Rattle.dwz_layout.specs.declared.ways.WritingContext.{WritingContext as HereOfCode}
use Rattle.dwz_layout.specs.Known.{file_at, firsts_of, owner_of, reference_at, row_at, space_at, text_at, text_held, unit_of_part}
use Rattle.dwz_layout.specs.Stored.{StoredAttr}
use Rattle.dwz_layout.specs.Ways.{holder_view, rewrite_of}

-- ---- what an attribute stores

-- what was read; the number of an entry of any file, or that of the root of a unit; an expression whose operands name entries
pub data Content : Type 0 where
  Read : Raw → Content
  OfEntry : (number : ℕ) → Content
  OfRoot : (unit : ℕ) → Content
  OfParts : List Part → (numbers : List ℕ) → Content

pub record OutAttr : Type 0 where
  pub pair : Pair
  pub content : Content

abbrev pub plain_pair : ℕ → ℕ → Pair
plain_pair name form = record { name = name; form = form; constant = pos 0 }

-- ---- references

-- the unit that is written, counted over all files, the common one first; and what holds it
pub record WritingContext : Type 0 where
  pub unit : ℕ
  pub holder : UnitRole

abbrev pub here_view : HereOfCode → WritingContext
here_view h = record { unit = h.unit; holder = holder_view h.holder }

abbrev pub holder_by : Bool → Sort → UnitRole
holder_by true sort = CommonUnit
holder_by false (Compile root) = OldUnit
holder_by false (OfType root signature main) = OldUnit
holder_by false (Partial line) = NewUnit

abbrev pub is_common : EntryTable → ℕ → Bool
is_common k unit = nat_lt unit k.commons

abbrev pub here_of : EntryTable → ℕ → Sort → WritingContext
here_of k unit sort = record { unit = unit; holder = holder_by (is_common k unit) sort }

-- The form of a reference to what stands in a unit: DW_FORM_ref4 in this one, DW_FORM_ref_addr in another one of the same file, and else
-- DW_FORM_ref_sup4. What is named stands in the same file or in the common one.
abbrev pub form_to : EntryTable → ℕ → ℕ → ℕ
form_to k here unit = ref_form (reach_by (unit == here) (same_bool (is_common k unit) (is_common k here)))

abbrev pub entry_attr : EntryTable → ℕ → ℕ → ℕ → OutAttr
entry_attr k here name number = record { pair = plain_pair name (form_to k here (owner_of k number)); content = OfEntry number }

-- ---- expressions

abbrev pub parts_or : List ℕ → Result Expression Fault → List Part
parts_or bytes (Ok e) = parts_of e
parts_or bytes (Err f) = Same bytes ∷ []

-- the parts of the expression that an attribute stores
abbrev pub expr_parts : RawAttr → List Part
expr_parts a = parts_or (bytes_of a.raw) (expr_at (any_operands 1) (record { at = block_begins a; rest = bytes_of a.raw }))

unfoldable pub operand_count : List Part → ℕ
operand_count [] = 0
operand_count (Same bytes ∷ parts) = operand_count parts
operand_count (document.Operand width uleb base ∷ parts) = suc (operand_count parts)

-- so many references of a file, from the one with that number on
unfoldable pub references_from : EntryTable → ℕ → ℕ → ℕ → List ℕ
references_from k file n zero = []
references_from k file n (suc count) = reference_at k file n ∷ references_from k file (n + 1) count

-- DW_FORM_exprloc
abbrev pub expr_attr : EntryTable → ℕ → ℕ → ℕ → List Part → OutAttr
expr_attr k file name n parts =
    record { pair = plain_pair name 0x18; content = OfParts parts (references_from k file n (operand_count parts)) }

-- ---- texts and files

-- DW_FORM_strp, DW_FORM_strp_sup
abbrev pub text_form : TextAt → ℕ
text_form (Own offset) = 0x0e
text_form (Shared offset) = 0x1d
text_form (Pooled offset) = 0x0e

abbrev pub text_offset : TextAt → ℕ
text_offset (Own offset) = offset
text_offset (Shared offset) = offset
text_offset (Pooled offset) = offset

abbrev pub text_attr : ℕ → TextAt → OutAttr
text_attr name t = record { pair = plain_pair name (text_form t); content = Read (Number (pos (text_offset t))) }

-- DW_FORM_udata
abbrev pub file_attr : ℕ → ℕ → OutAttr
file_attr name number = record { pair = plain_pair name 0x0f; content = Read (Number (pos number)) }

abbrev pub read_attr : RawAttr → OutAttr
read_attr a = record { pair = a.pair; content = Read a.raw }

-- ---- the attributes of an entry that was read

-- a value of that name and form that ends there
abbrev pub value_read : ℕ → Pair → Raw → RawAttr
value_read end pair raw = record { at = 0; end = end; pair = pair; raw = raw }

-- what is written of an attribute; the first that it names, of the entries, texts and files that are named in its file, have these numbers
abbrev pub out_by : EntryTable → ℕ → ℕ → ValueCounts → RawAttr → Rewrite → List OutAttr
out_by k file here next a Dropped = []
out_by k file here next a AsRead = read_attr a ∷ []
out_by k file here next a KeepsText = read_attr a ∷ []
out_by k file here next a AsText = text_attr a.pair.name (text_at k file next.text) ∷ []
out_by k file here next a AsFile = file_attr a.pair.name (file_at k file next.file) ∷ []
out_by k file here next a AsEntry = entry_attr k here a.pair.name (reference_at k file next.reference) ∷ []
out_by k file here next a AsExpression = expr_attr k file a.pair.name next.reference (expr_parts a) ∷ []

abbrev pub out_attr : EntryTable → ℕ → WritingContext → ValueCounts → RawAttr → List OutAttr
out_attr k file here next a = out_by k file here.unit next a (rewrite_of here.holder a.pair)

-- what those behind it name
abbrev pub after_by : ValueCounts → RawAttr → Rewrite → ValueCounts
after_by next a Dropped = next
after_by next a AsRead = next
after_by next a KeepsText = record { reference = next.reference; text = next.text + 1; file = next.file }
after_by next a AsText = record { reference = next.reference; text = next.text + 1; file = next.file }
after_by next a AsFile = record { reference = next.reference; text = next.text; file = next.file + 1 }
after_by next a AsEntry = record { reference = next.reference + 1; text = next.text; file = next.file }
after_by next a AsExpression = record { reference = next.reference + operand_count (expr_parts a); text = next.text; file = next.file }

abbrev pub after : WritingContext → ValueCounts → RawAttr → ValueCounts
after here next a = after_by next a (rewrite_of here.holder a.pair)

unfoldable pub out_attrs : EntryTable → ℕ → WritingContext → ValueCounts → List RawAttr → List OutAttr
out_attrs k file here next [] = []
out_attrs k file here next (a ∷ attrs) = out_attr k file here next a ++ out_attrs k file here (after here next a) attrs

-- ---- other entries

-- the name of a space of a partial unit: as the space has it that it comes from, or where that text is written
abbrev pub name_by : TextAt → RawAttr → Rewrite → OutAttr
name_by text a AsText = text_attr 0x03 text
name_by text a _ = read_attr a

-- the first DW_AT_name (3)
unfoldable pub name_attrs : UnitRole → TextAt → List RawAttr → List OutAttr
name_attrs h text [] = []
name_attrs h text (a ∷ attrs) = if a.pair.name == 0x03 then name_by text a (rewrite_of h a.pair) ∷ [] else name_attrs h text attrs

abbrev pub space_attrs : EntryTable → UnitRole → SpaceRow → List OutAttr
space_attrs k h s = option_map_or (λ (r : EntryRow). name_attrs h (text_held h s) r.entry.attrs) (row_at k s.row) []

-- DW_AT_stmt_list (10) of a partial unit
abbrev pub line_attrs : Option ℕ → List OutAttr
line_attrs None = []
line_attrs (Some line) = record { pair = plain_pair 0x10 0x17; content = Read (Number (pos line)) } ∷ []

-- DW_AT_import (18)
abbrev pub import_attr : EntryTable → ℕ → ℕ → OutAttr
import_attr k here unit = record { pair = plain_pair 0x18 (form_to k here unit); content = OfRoot unit }

abbrev pub row_attrs : EntryTable → WritingContext → Origin → EntryRow → List OutAttr
row_attrs k here (OfRow r) x = out_attrs k r.file here (firsts_of k r) x.entry.attrs
row_attrs k here _ x = []

abbrev pub attrs_of : EntryTable → WritingContext → Origin → List OutAttr
attrs_of k here (OfRow r) = option_map_or (row_attrs k here (OfRow r)) (row_at k r) []
attrs_of k here (OwnRoot line) = line_attrs line
attrs_of k here (Chained chain space) = space_attrs k here.holder (space_at k space)
attrs_of k here (Imported part) = import_attr k here.unit (unit_of_part k part) ∷ []

-- DW_TAG_partial_unit, DW_TAG_namespace, DW_TAG_imported_unit; an entry that isn't there has no attributes, and a tag all the same
abbrev pub tag_of : EntryTable → Origin → ℕ
tag_of k (OfRow r) = option_map_or (λ (x : EntryRow). x.entry.tag) (row_at k r) 0x3d
tag_of k (OwnRoot line) = 0x3c
tag_of k (Chained chain space) = 0x39
tag_of k (Imported part) = 0x3d

-- ---- numbers

-- where entries stand, by their numbers among all files, and the roots of units, each in its own file; and where the unit begins that is
-- written. Each number is 0 where none has a place yet.
pub record Numbers : Type 0 where
  pub places : List ℕ
  pub roots : List ℕ
  pub unit : ℕ

abbrev pub no_numbers : Numbers
no_numbers = record { places = []; roots = []; unit = 0 }

-- DW_FORM_ref4 (13) is counted from the unit
abbrev pub counted : Numbers → ℕ → ℕ → ℕ
counted n form place = if form == 0x13 then place - n.unit else place

-- the numbers of operands
unfoldable pub operand_numbers : Numbers → List Part → List ℕ → List ℕ
operand_numbers n [] numbers = []
operand_numbers n (Same bytes ∷ parts) numbers = operand_numbers n parts numbers
operand_numbers n (document.Operand width uleb base ∷ parts) [] = []
operand_numbers n (document.Operand width uleb base ∷ parts) (x ∷ numbers) = (slice_index n.places x - base_place n.unit base)
    ∷ operand_numbers n parts numbers

abbrev pub raw_of : Numbers → ℕ → Content → Raw
raw_of n form (Read raw) = raw
raw_of n form (OfEntry number) = Number (pos (counted n form (slice_index n.places number)))
raw_of n form (OfRoot unit) = Number (pos (counted n form (slice_index n.roots unit)))
raw_of n form (OfParts parts numbers) = Bytes (filled parts (operand_numbers n parts numbers))

abbrev pub stored_of : Numbers → OutAttr → StoredAttr
stored_of n a = record { pair = a.pair; raw = raw_of n a.pair.form a.content }

abbrev pub stored_all : Numbers → List OutAttr → List StoredAttr
stored_all n attrs = map (stored_of n) attrs

-- ---- entries

-- an entry with its tag, whether children follow, what its attributes store, and how many lists end behind it
pub record Call : Type 0 where
  pub tag : ℕ
  pub children : Bool
  pub attrs : List StoredAttr
  pub ends : ℕ

abbrev pub call_of : EntryTable → WritingContext → Numbers → Entry → Call
call_of k here n e = record {
  tag = tag_of k e.origin;
  children = e.children;
  attrs = stored_all n (attrs_of k here e.origin);
  ends =
      e.ends;
}

abbrev pub calls_of : EntryTable → WritingContext → Numbers → List Entry → List Call
calls_of k here n entries = map (call_of k here n) entries
