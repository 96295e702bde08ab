-- What is known of a file whose entries are copied, and of the common file beside which it was read. Numbers stand for places.
use Rattle.std.specs.Prelude.{◌≡◌, ℕ, ◌+◌, ◌-◌, ◌<◌, ◌≤◌, ◌^◌, Bool, true, false, List, [], length, map, Option, Some, None, Result, Ok, Err}
use Rattle.std.specs.Prelude.{slice_get}
use Rattle.dwz_model.specs.Lists.{Each}
use Rattle.dwz_model.specs.declared.fault.Fault.{Fault}
use Rattle.dwz_model.specs.declared.fault.ReadErr.{ReadErr}
use Rattle.dwz_model.specs.declared.fault.ReadErr.TheVariants.{NoMemory, Refused}
use Rattle.dwz_def_reading.specs.Documents.{Attr, DwUnit, Node, attr_map, unit_map}
use Rattle.dwz_def_reading.specs.Entries.{RawAttr}
use Rattle.dwz_def_reading.specs.FirstOf.{OfFirst}
use Rattle.dwz_def_reading.specs.Meanings.{Around, Common, all_places, scope_of, targets, without_siblings}
use Rattle.dwz_def_reading.specs.Meant.{units_meaning}
use Rattle.dwz_def_reading.specs.NamedLists.{list_of_attr}
use Rattle.dwz_def_reading.specs.Units.{CompileUnit, PartialUnit, RawKind, RawUnit, TypeUnit, entries_in}
use Rattle.dwz_def_encoding.specs.Placing.{CommonUnit, NewUnit, OldUnit, UnitRole}
use Rattle.dwz_def_output.specs.Refusals.{operands_of_attr, operands_of_attrs}
use Rattle.dwz_def_cross.specs.Tops.{WithCommon}
use Rattle.dwz_def_expand.specs.Chosen.{Choice, choice, chosen_attr}
use Rattle.dwz_def_expand.specs.OneFile.{named_in_attr}
use Rattle.dwz_def_expand.specs.Refusals.{SiteFault, Where, sites_of}
use Rattle.dwz_def_expand.specs.Source.{Copy, copy, copy_for, source_places}
use Rattle.dwz_graph.specs.Parts.{AreParted, HaveLines}
use Rattle.dwz_graph.specs.Resolved.{sources_view}
use Rattle.dwz_graph.specs.Surroundings.{AreAmong, behind_own}
use Rattle.dwz_unit.specs.Rows.{EntryRow, rows_of, units_of}
use Rattle.dwz_check_labels.specs.Files.{AreHeres, IsHereOf, texts_in}
use Rattle.dwz_expand_sources.specs.Imports.{same}
use Rattle.dwz_encode.specs.Shown.{Keys, attr_held, held_of}
use Rattle.dwz_layout.specs.Ways.{holder_view}
use Rattle.dwz_expand_sources.specs.Sources.{Sources}
use Rattle.dwz_expand_sources.specs.Rows.{AreCopies}
use Rattle.dwz_expand_layout.specs.declared.entries.NewAttr.{NewAttr}
use Rattle.dwz_expand_layout.specs.declared.entries.NewOperand.{NewOperand}
use Rattle.dwz_expand_layout.specs.Entries.{attr_view}
use Rattle.dwz_expand_passes.specs.declared.files.Known.{Known}
use Rattle.dwz_expand_passes.specs.declared.files.SourceEntry.{SourceEntry}
use Rattle.dwz_expand_passes.specs.declared.files.SourceFile.{SourceFile}
use Rattle.dwz_expand_passes.specs.Known.{KnowsCopies, KnowsKeys}
use Rattle.dwz_expand_passes.specs.Paths.{IsPathsOf}

-- ---- one file

-- its units, as they are stored
abbrev pub raw_in : SourceFile → List RawUnit
raw_in f = units_of f.units.now

-- what is kept of it can be looked up
pub record IsFileReady (f : SourceFile) : Type 0 where
  pub heres : AreHeres (raw_in f) f.heres.now
  pub starts : length f.starts.now ≡ entries_in (raw_in f) + 1
  pub lines : length f.lines.now ≡ length (raw_in f)

-- it says this, with what surrounds its units; its references and line tables are those of its entries and units
pub record KnowsFile (f : SourceFile) (around : Around ℕ) (said : List (DwUnit ℕ)) : Type 0 where
  pub texts : texts_in around.common ≡ f.common_strs.now
  pub means : units_meaning around (raw_in f) ≡ Ok said
  pub among : AreAmong around.common (raw_in f) f.refs.now
  pub parts : AreParted around (raw_in f) (entries_in (raw_in f)) f.refs.now f.starts.now
  pub lines : HaveLines around (raw_in f) (length (raw_in f)) f.tables.now f.lines.now

-- the values of its entries, which have these places, stand where it is told
abbrev pub StandSo : SourceFile → Around ℕ → (ℕ → ℕ) → Where ℕ → Type 0
StandSo f around place stands =
    (i : ℕ) (row : EntryRow) (u : RawUnit) → slice_get (rows_of (raw_in f)) i ≡ Some row → slice_get (raw_in f) row.unit ≡ Some u
    → (index : ℕ) (a : RawAttr) → slice_get (without_siblings row.entry.attrs) index ≡ Some a
    → (stands.value (place row.entry.at) index ≡ a.at)
    × ((k : ℕ) → stands.named (place row.entry.at) index k ≡ named_in_attr (list_of_attr (scope_of around u) a) (operands_of_attr
    (scope_of around u) a) k a.at)

-- ---- the file and its common one

abbrev pub common_of : Option SourceFile → Option (Common ℕ)
common_of None = None
common_of (Some c) = Some (record { entries = all_places (raw_in c); place = behind_own; strs = c.sections.now.strs.bytes.now })

abbrev pub around_beside : SourceFile → Option (Common ℕ) → Around ℕ
around_beside f common = record { sources = sources_view f.sections.now; all = all_places (raw_in f); place = λ n. n; common = common }

abbrev pub around_at : Known → Around ℕ
around_at x = around_beside x.own (common_of x.common)

-- how many entries there are
abbrev pub common_count : Option SourceFile → ℕ
common_count None = 0
common_count (Some c) = entries_in (raw_in c)

abbrev pub entry_count : Known → ℕ
entry_count x = entries_in (raw_in x.own) + common_count x.common

abbrev pub IsCommonReady : Option SourceFile → Type 0
IsCommonReady None = Unit {0}
IsCommonReady (Some c) = IsFileReady c × Each (λ j. j < entries_in (raw_in c)) c.refs.now

pub record IsKnownReady (x : Known) : Type 0 where
  pub own : IsFileReady x.own
  pub refs : Each (λ j. j < entry_count x) x.own.refs.now
  pub common : IsCommonReady x.common
  pub copies : (s : Sources) × (roots : List ℕ) × AreCopies s roots x.copies.now × (x.copies.now.unit < length s.units)
  pub many : length x.copies.now.first ≡ entry_count x
  pub few : entry_count x < 2 ^ 32

-- forms are those of the definition
abbrev pub forms_of : Known → WithCommon ℕ → Choice ℕ
forms_of x w = choice same w (sources_view x.own.sections.now)

-- the common file, whose units are read without another one
abbrev pub KnowsCommon : Option SourceFile → List (DwUnit ℕ) → Where ℕ → Type 0
KnowsCommon None common stands = common ≡ []
KnowsCommon (Some c) common stands =
    (said : List (DwUnit ℕ)) × KnowsFile c (around_beside c None) said × (common ≡ map (unit_map behind_own) said)
    × StandSo c (around_beside c None) behind_own stands

-- Both say this, and the new unit at hand is one of theirs; copies have these numbers, and values stand there.
pub record Knows (x : Known) (w : WithCommon ℕ) (keys : Keys (Copy ℕ)) (stands : Where ℕ) : Type 0 where
  pub own : KnowsFile x.own (around_at x) w.own
  pub own_stands : StandSo x.own (around_at x) (λ n. n) stands
  pub common : KnowsCommon x.common w.common stands
  pub copies : KnowsCopies w x.copies.now
  pub unit : x.copies.now.unit ≡ x.unit
  pub keys_are : KnowsKeys w keys
  pub paths : IsPathsOf ((forms_of x w).paths x.unit) x.paths.now

-- ---- an entry

-- each of its attributes was copied; or there is a first that can't be
abbrev pub AnswersEntry : {Y : Type 0} → Known → WithCommon ℕ → Keys (Copy ℕ) → Where ℕ → Node ℕ → List NewAttr → List NewOperand
    → Result Y ReadErr
    → Type 0
AnswersEntry x w keys stands e attrs operands (Ok y) =
    (map (λ (a : NewAttr). attr_held keys (attr_view operands a)) attrs
    ≡ map (λ (a : Attr ℕ). held_of (chosen_attr (forms_of x w) (copy x.unit e.at) (attr_map (copy_for same
    (source_places same w) x.unit) a)))
    e.attrs)
    × ((f : Fault) → ¬ OfFirst (SiteFault same (source_places same w) (forms_of x w) stands) (sites_of x.unit e.at 0 e.attrs) f)
AnswersEntry x w keys stands e attrs operands (Err NoMemory) = Unit {0}
AnswersEntry x w keys stands e attrs operands (Err (Refused f)) =
    OfFirst (SiteFault same (source_places same w) (forms_of x w) stands) (sites_of x.unit e.at 0 e.attrs) f

-- what holds a unit of a file
abbrev pub holder_for : RawKind → UnitRole
holder_for CompileUnit = OldUnit
holder_for (TypeUnit signature type_offset) = OldUnit
holder_for PartialUnit = NewUnit

abbrev pub IsRole : Bool → RawKind → UnitRole → Type 0
IsRole true kind role = role ≡ CommonUnit
IsRole false kind role = role ≡ holder_for kind

-- the entry with a number of a file, by where it was read
pub record IsSource (k : Known) (f : SourceFile) (first : ℕ) (is_common : Bool) (i : ℕ) (x : SourceEntry) : Type 0 where
  pub known : x.known ≡ k
  pub file : x.file ≡ f
  pub first_is : x.first ≡ first
  pub row : EntryRow
  pub found : slice_get (rows_of (raw_in f)) i ≡ Some row
  pub here : IsHereOf (raw_in f) row.unit x.here.now
  pub line : slice_get f.lines.now row.unit ≡ Some x.line
  pub role : (u : RawUnit) → slice_get (raw_in f) row.unit ≡ Some u → IsRole is_common u.kind (holder_view x.role)

-- ---- the operands of its copy

-- They are those of the expressions of the entry with a number of a file, in order, each with the copy of the entry to which it leads; places
-- of the file stand for these, and these are named so.
pub record SpeaksAs (f : SourceFile) (around : Around ℕ) (place : ℕ → ℕ) (named : ℕ → Copy ℕ) (keys : Keys (Copy ℕ)) (i : ℕ)
    (operands : List NewOperand) : Type 0 where
  pub row : EntryRow
  pub found : slice_get (rows_of (raw_in f)) i ≡ Some row
  pub u : RawUnit
  pub is_unit : slice_get (raw_in f) row.unit ≡ Some u
  pub are : map (λ (o : NewOperand). o.operand) operands ≡ operands_of_attrs (scope_of around u) (without_siblings row.entry.attrs)
  pub lead : map (λ (o : NewOperand). keys.row o.copy) operands
      ≡ map named (map place (targets (scope_of around u) (operands_of_attrs (scope_of around u) (without_siblings row.entry.attrs))))

-- of an entry of a file or of its common one, in the new unit with a number
pub record SpeaksEntry (own_file : SourceFile) (common_file : Option SourceFile) (unit : ℕ) (w : WithCommon ℕ) (keys : Keys (Copy ℕ)) (entry : ℕ)
    (operands : List NewOperand) : Type 0 where
  pub own : entry < entries_in (raw_in own_file)
      → SpeaksAs own_file (around_beside own_file (common_of common_file)) (λ n. n) (copy_for same (source_places same w) unit) keys entry operands
  pub common : (c : SourceFile) → common_file ≡ Some c → entries_in (raw_in own_file) ≤ entry
      → SpeaksAs c (around_beside c None) behind_own (copy_for same (source_places same w) unit) keys (entry - entries_in (raw_in own_file)) operands
