-- Inner: The copies of the attributes of an entry, one after the other.
use Rattle.std.specs.Prelude.{◌≡◌, ◌↔◌, ℕ, ◌+◌, List, ◌++◌, length, map, Result, Ok, Err, Some, slice_get, slice_index, slice_range}
use Rattle.std.specs.Borrow.{Bor}
use Rattle.dwz_model.specs.Lists.{Each}
use Rattle.dwz_model.specs.declared.fault.Fault.{Fault}
use Rattle.dwz_model.specs.declared.fault.ReadErr.{ReadErr}
use Rattle.dwz_model.specs.declared.fault.ReadErr.TheVariants.{NoMemory, Refused}
use Rattle.dwz_def_reading.specs.Documents.{Attr, Node, attr_map}
use Rattle.dwz_def_reading.specs.Entries.{RawAttr}
use Rattle.dwz_def_reading.specs.FirstOf.{OfFirst}
use Rattle.dwz_def_reading.specs.Meanings.{without_siblings}
use Rattle.dwz_def_reading.specs.Meant.{node_meaning}
use Rattle.dwz_def_reading.specs.Units.{entries_in}
use Rattle.dwz_def_output.specs.Refusals.{operands_of_attrs}
use Rattle.dwz_def_expand.specs.Refusals.{sites_of}
use Rattle.dwz_def_expand.specs.Source.{Copy}
use Rattle.dwz_graph.specs.Parts.{AreParted, HasLine}
use Rattle.dwz_graph.specs.Surroundings.{AreAmong, place_among}
use Rattle.dwz_unit.specs.Rows.{EntryRow, rows_of}
use Rattle.dwz_label_entries.specs.Plain.{KnowsLine}
use Rattle.dwz_check_labels.specs.Values.{AreAttrsMeant}
use Rattle.dwz_encode.specs.Shown.{HeldAttr, attr_held, held_of}
use Rattle.dwz_expand_layout.specs.declared.entries.NewAttr.{NewAttr}
use Rattle.dwz_expand_layout.specs.declared.entries.NewOperand.{NewOperand}
use Rattle.dwz_expand_layout.specs.Entries.{attr_view}
use Rattle.dwz_expand_passes.specs.declared.files.SourceEntry.{SourceEntry}
use Rattle.dwz_expand_passes.specs.Copied.{AreAt, IsAt, IsWithin, Refuses, Speaks, copied_attr}
use Rattle.dwz_expand_passes.specs.Known.{LeadWithin, Setting, raw_of, scope}

-- ---- references

-- the references of each entry are there, and lead to entries that have copies, or none
pub record RefsReady (x : SourceEntry) : Type 0 where
  pub refs : LeadWithin x x.file.refs.now
  pub starts : length x.file.starts.now ≡ entries_in (raw_of x) + 1

abbrev pub refs_at : SourceEntry → ℕ → List ℕ
refs_at x i = slice_range x.file.refs.now (slice_index x.file.starts.now i) (slice_index x.file.starts.now (i + 1))

-- ---- attributes

-- with other things for places, those of an entry
abbrev pub all_said : Setting → List (Attr ℕ) → List (Attr ℕ)
all_said q attrs = map (attr_map q.place) attrs

-- what copies store, and what is to be stored
abbrev pub held_by : Setting → List NewOperand → NewAttr → HeldAttr (Copy ℕ)
held_by q operands a = attr_held q.keys (attr_view operands a)

abbrev pub held_for : Setting → Attr ℕ → HeldAttr (Copy ℕ)
held_for q b = held_of (copied_attr q (attr_map q.place b))

-- the first of them that can't be copied, where the first has that number
abbrev pub FirstRefused : Setting → ℕ → List (Attr ℕ) → Fault → Type 0
FirstRefused q index attrs = OfFirst (Refuses q) (sites_of q.unit q.source index (all_said q attrs))

-- Values are left, whose references these are; copies of the attributes before them were made, and all attributes are these.
pub record Remain (x : SourceEntry) (q : Setting) (values : List RawAttr) (refs : List ℕ) (all : List (Attr ℕ)) (attrs : List NewAttr)
    (operands : List NewOperand) : Type 0 where
  pub left : List (Attr ℕ)
  pub meant : AreAttrsMeant (scope q) (place_among q.around.common (raw_of x)) refs values left
  pub among : AreAmong q.around.common (raw_of x) refs
  pub at : (k : ℕ) (a : RawAttr) → slice_get (without_siblings values) k ≡ Some a → IsAt q (length attrs + k) a
  pub lines : (j : ℕ) (a : RawAttr) → slice_get values j ≡ Some a → KnowsLine (scope q) a x.file.tables.now x.line
  pub shows : map (held_by q operands) attrs ++ map (held_for q) left ≡ map (held_for q) all
  pub within : Each (λ a. IsWithin (length operands) a.content) attrs
  pub faults : (f : Fault) → FirstRefused q 0 all f ↔ FirstRefused q (length attrs) left f

abbrev pub PutsAttr : SourceEntry → Setting → List RawAttr → List (Attr ℕ) → List NewAttr → List NewOperand → Result (Bor (List ℕ)) ReadErr
    → Type 0
PutsAttr x q values all attrs operands (Ok rest) = Remain x q values rest.now all attrs operands
PutsAttr x q values all attrs operands (Err NoMemory) = Unit {0}
PutsAttr x q values all attrs operands (Err (Refused f)) = FirstRefused q 0 all f

-- each was copied; or there is a first that can't be
abbrev pub AnswersAll : {Y : Type 0} → Setting → List (Attr ℕ) → List NewAttr → List NewOperand → Result Y ReadErr → Type 0
AnswersAll q all attrs operands (Ok y) = (map (held_by q operands) attrs ≡ map (held_for q) all) × ((f : Fault) → ¬ FirstRefused q 0 all f)
AnswersAll q all attrs operands (Err NoMemory) = Unit {0}
AnswersAll q all attrs operands (Err (Refused f)) = FirstRefused q 0 all f

-- the operands of attributes were added, without those of `DW_AT_sibling`
abbrev pub SpeaksAttrs : Setting → List RawAttr → List NewOperand → List NewOperand → Type 0
SpeaksAttrs q attrs old new = Speaks q (operands_of_attrs (scope q) (without_siblings attrs)) old new

-- ---- entries

-- the entry with a number, in the unit of the setting, means this one; and its values stand where it is told
pub record IsEntryOf (x : SourceEntry) (q : Setting) (i : ℕ) (row : EntryRow) (d : Node ℕ) : Type 0 where
  pub found : slice_get (rows_of (raw_of x)) i ≡ Some row
  pub is_unit : slice_get (raw_of x) row.unit ≡ Some q.raw
  pub means : node_meaning (scope q) row.entry ≡ Ok d
  pub at : AreAt q row.entry.attrs
  pub parts : AreParted q.around (raw_of x) (entries_in (raw_of x)) x.file.refs.now x.file.starts.now
  pub among : AreAmong q.around.common (raw_of x) x.file.refs.now
  pub line : HasLine q.around q.raw x.file.tables.now x.line
