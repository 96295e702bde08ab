-- The units that are written, as they are stored.
use Rattle.std.proofs.Common.{ℕ, ◌+◌, ◌-◌, List, [], ◌∷◌, length}
use Rattle.dwz_def_reading.specs.Documents.{Attr, Compile, DwUnit, Entries, Kind, Node, OfType, Partial}
use Rattle.dwz_def_reading.specs.Entries.{RawAttr, RawEntry}
use Rattle.dwz_def_reading.specs.Trees.{End, Entry, Forest}
use Rattle.dwz_def_reading.specs.Units.{CompileUnit, PartialUnit, RawKind, RawUnit, TypeUnit}
use Rattle.dwz_def_reading.specs.Values.{value_bytes}
use Rattle.dwz_def_encoding.specs.Writing.{DeclarationShape, Numbering, any, code_bytes, code_in, declaration_shape, pair_of, stored, table_of, table_offset, written_unit_size}

-- the attributes of an entry of which the first begins at a place
unfoldable pub raw_attrs : {K : Type 0} → Numbering K → ℕ → ℕ → List (Attr K) → List RawAttr
raw_attrs n unit at [] = []
raw_attrs n unit at (a ∷ attrs) =
    record { at = at; end = at + length (value_bytes a.form (stored n unit a)); pair = pair_of a; raw = stored n unit a } ∷ raw_attrs n unit (at + length (value_bytes a.form (stored n unit a))) attrs

abbrev pub code_of : {K : Type 0} → List DeclarationShape → Node K → Entries K → List ℕ
code_of table e children = code_bytes (code_in 1 table (declaration_shape e children))

abbrev pub raw_entry : {K : Type 0} → Numbering K → ℕ → List DeclarationShape → Node K → Entries K → RawEntry
raw_entry n unit table e children =
    record { at = n.place e.at; tag = e.tag; children = any children; attrs = raw_attrs n unit (n.place e.at + length (code_of table e children)) e.attrs }

unfoldable pub raw_entries : {K : Type 0} → Numbering K → ℕ → List DeclarationShape → Entries K → Forest RawEntry
raw_entries n unit table End = End
raw_entries n unit table (Entry e children next) = Entry (raw_entry n unit table e children) (raw_entries n unit table children) (raw_entries n unit table next)

abbrev pub raw_kind : {K : Type 0} → Numbering K → ℕ → Kind K → RawKind
raw_kind n unit Compile = CompileUnit
raw_kind n unit (OfType signature main) = TypeUnit signature (n.place main - unit)
raw_kind n unit Partial = PartialUnit

abbrev pub raw_unit : {K : Type 0} → Numbering K → List (List ℕ) → DwUnit K → RawUnit
raw_unit n tables u = record {
  at = n.place u.at;
  end = n.place u.at + written_unit_size n (n.place u.at) u;
  table_offset = table_offset tables u;
  kind = raw_kind n (n.place u.at) u.kind;
  root = raw_entry n (n.place u.at) (table_of u) u.root u.below;
  below = raw_entries n (n.place u.at) (table_of u) u.below;
}

unfoldable pub raw_units : {K : Type 0} → Numbering K → List (List ℕ) → List (DwUnit K) → List RawUnit
raw_units n tables [] = []
raw_units n tables (u ∷ units) = raw_unit n tables u ∷ raw_units n tables units
