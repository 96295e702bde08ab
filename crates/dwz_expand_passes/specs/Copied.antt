-- Inner: What a value of an entry stores in the new file, or why it can't be copied.
use Rattle.std.specs.Prelude.{◌≡◌, ℕ, pos, ◌-◌, ◌≤◌, ◌==◌, Bool, true, false, List, [], ◌∷◌, ◌++◌, length, map, Option, Some, None, Result}
use Rattle.std.specs.Prelude.{Ok, Err, slice_get}
use Rattle.std.specs.Prelude.{if◌then◌else◌}
use Rattle.dwz_model.specs.Lists.{Each}
use Rattle.dwz_model.specs.declared.fault.Fault.{Fault}
use Rattle.dwz_model.specs.declared.fault.ReadErr.{ReadErr}
use Rattle.dwz_model.specs.declared.fault.ReadErr.TheVariants.{NoMemory, Refused}
use Rattle.dwz_model.specs.declared.place.Pair.{Pair}
use Rattle.dwz_def_reading.specs.Classes.{Class, OfCommonEntry, OfInfoEntry, OfTextInLineStr, OfTextInStr, OfUnitEntry}
use Rattle.dwz_def_reading.specs.Meanings.{number_of}
use Rattle.dwz_def_reading.specs.Meant.{meaning}
use Rattle.dwz_def_reading.specs.Values.{Raw}
use Rattle.dwz_graph.specs.Named.{value_refs}
use Rattle.dwz_graph.specs.Surroundings.{AreAmong}
use Rattle.dwz_label_entries.specs.Plain.{KnowsLine}
use Rattle.dwz_expand_passes.specs.declared.files.SourceEntry.{SourceEntry}
use Rattle.dwz_def_reading.specs.Documents.{Attr, Value, attr_map}
use Rattle.dwz_def_reading.specs.declared.exprs.Operand.{Operand}
use Rattle.dwz_def_reading.specs.Entries.{RawAttr}
use Rattle.dwz_def_reading.specs.FirstOf.{OfFirst}
use Rattle.dwz_def_reading.specs.Meanings.{targets, without_siblings}
use Rattle.dwz_def_reading.specs.Meant.{attr_with}
use Rattle.dwz_def_reading.specs.NamedLists.{list_of_attr}
use Rattle.dwz_def_output.specs.Refusals.{operands_of_attr}
use Rattle.dwz_def_expand.specs.Chosen.{chosen_attr}
use Rattle.dwz_def_expand.specs.OneFile.{named_in_attr, nth_at}
use Rattle.dwz_def_expand.specs.Refusals.{IsLost, Site, SiteFault, not_imported, with_numbers}
use Rattle.dwz_def_expand.specs.Source.{Copy, copy, source_places, unit_for}
use Rattle.dwz_expand_sources.specs.Imports.{same}
use Rattle.dwz_encode.specs.Shown.{attr_held, held_of}
use Rattle.dwz_expand_sources.specs.declared.copies.CopyAt.{CopyAt}
use Rattle.dwz_expand_layout.specs.declared.entries.Content.{Content}
use Rattle.dwz_expand_layout.specs.declared.entries.Content.TheVariants.{Expression, OfCopy, Stored}
use Rattle.dwz_expand_layout.specs.declared.entries.NewAttr.{NewAttr}
use Rattle.dwz_expand_layout.specs.declared.entries.NewOperand.{NewOperand}
use Rattle.dwz_expand_layout.specs.Entries.{attr_view}
use Rattle.dwz_expand_passes.specs.Known.{Fits, Setting, copied, place_named, raw_of, scope}

-- ---- places that are named

abbrev pub Lost : Setting → ℕ → Type 0
Lost q p = IsLost same (source_places same q.w) q.unit p

-- the copy of a place was found
pub record IsCopied (q : Setting) (p : ℕ) (c : CopyAt) : Type 0 where
  pub known : unit_for same (source_places same q.w) q.unit p ≡ Some c.unit
  pub key : q.keys.row c.number ≡ copied q p

-- or there is none
abbrev pub IsAnswer : Setting → ℕ → Option CopyAt → Type 0
IsAnswer q p None = Lost q p
IsAnswer q p (Some c) = IsCopied q p c

abbrev pub AnswersCopy : Setting → ℕ → (section : ℕ) × ℕ → Result CopyAt ReadErr → Type 0
AnswersCopy q p place (Ok c) = IsCopied q p c
AnswersCopy q p place (Err NoMemory) = ⊥
AnswersCopy q p place (Err (Refused f)) = Lost q p × (f ≡ not_imported place)

-- the place with a number is lost, which was named there
abbrev pub LostAt : Setting → (ℕ → (section : ℕ) × ℕ) → ℕ × ℕ → Fault → Type 0
LostAt q at ref f = Lost q ref.1 × (f ≡ not_imported (at ref.0))

-- the first of places that is lost
abbrev pub FirstLost : Setting → (ℕ → (section : ℕ) × ℕ) → List ℕ → Fault → Type 0
FirstLost q at places = OfFirst (LostAt q at) (with_numbers 0 places)

-- where operands of a section stand
abbrev pub operand_places : ℕ → List Operand → ℕ → ℕ → (section : ℕ) × ℕ
operand_places section operands at k = (section, nth_at operands k at)

-- a place isn't lost, or it is, and the fault is at the operand in a location list that names it
abbrev pub Checks : {Y : Type 0} → Setting → (place at : ℕ) → Result Y ReadErr → Type 0
Checks q p at (Ok y) = ¬ Lost q p
Checks q p at (Err NoMemory) = Unit {0}
Checks q p at (Err (Refused f)) = Lost q p × (f ≡ not_imported (7, at))

-- the operand was added that names a place, or the place is lost
abbrev pub AddsOperand : {Y : Type 0} → Setting → Operand → ℕ → List NewOperand → List NewOperand → Result Y ReadErr → Type 0
AddsOperand q o p old new (Ok y) = (copy : ℕ) × (new ≡ old ++ record { operand = o; copy = copy } ∷ []) ×
    (q.keys.row copy ≡ copied q p) × ¬ Lost q p
AddsOperand q o p old new (Err NoMemory) = Unit {0}
AddsOperand q o p old new (Err (Refused f)) = Lost q p × (f ≡ not_imported (1, o.at))

-- operands were added, with the copies of these places
pub record Added (q : Setting) (read : List Operand) (places : List ℕ) (old new : List NewOperand) : Type 0 where
  pub more : List NewOperand
  pub grown : new ≡ old ++ more
  pub operands : map (λ o. o.operand) more ≡ read
  pub keys : map (λ o. q.keys.row o.copy) more ≡ map (copied q) places

-- operands were added, with the copies of the entries to which they lead
abbrev pub Speaks : Setting → List Operand → List NewOperand → List NewOperand → Type 0
Speaks q read old new = Added q read (map q.place (targets (scope q) read)) old new

-- those of an attribute
abbrev pub SpeaksAttr : Setting → RawAttr → List NewOperand → List NewOperand → Type 0
SpeaksAttr q a old new = Speaks q (operands_of_attr (scope q) a) old new

-- none of the places is lost, and the operands were added that name them; or the first is
abbrev pub AddsAll : {Y : Type 0} → Setting → List Operand → List ℕ → List NewOperand → List NewOperand → Result Y ReadErr → Type 0
AddsAll q read places old new (Ok y) = Added q read places old new × Each (λ p. ¬ Lost q p) places
AddsAll q read places old new (Err NoMemory) = Unit {0}
AddsAll q read places old new (Err (Refused f)) = (at : ℕ) → FirstLost q (operand_places 1 read at) places f

-- ---- values

-- the attribute, as the document has it
abbrev pub said : Setting → RawAttr → Value ℕ → Attr ℕ
said q a v = attr_map q.place (attr_with a v)

abbrev pub site : Setting → ℕ → Attr ℕ → Site ℕ
site q index b = record { unit = q.unit; source = q.source; index = index; attr = b }

-- it can't be copied
abbrev pub Refuses : Setting → Site ℕ → Fault → Type 0
Refuses q s = SiteFault same (source_places same q.w) q.choice q.stands s

-- the copy of an attribute
abbrev pub copied_attr : Setting → Attr ℕ → Attr (Copy ℕ)
copied_attr q b = chosen_attr q.choice (copy q.unit q.source) (attr_map (copied q) b)

-- an attribute stores that
abbrev pub Shows : Setting → Attr ℕ → List NewOperand → NewAttr → Type 0
Shows q b operands new = attr_held q.keys (attr_view operands new) ≡ held_of (copied_attr q b)

-- its operands are there
abbrev pub IsWithin : ℕ → Content → Type 0
IsWithin count (Stored raw) = Unit {0}
IsWithin count (OfCopy number) = Unit {0}
IsWithin count (Expression e) = (e.first ≤ e.end) × (e.end ≤ count)

-- where the value with that number stands, and the operands in it
pub record IsAt (q : Setting) (index : ℕ) (a : RawAttr) : Type 0 where
  pub value : q.stands.value q.source index ≡ a.at
  pub named : (k : ℕ) → q.stands.named q.source index k ≡ named_in_attr (list_of_attr (scope q) a) (operands_of_attr (scope q) a) k a.at

-- the same of all values of an entry
abbrev pub AreAt : Setting → List RawAttr → Type 0
AreAt q attrs = (index : ℕ) (a : RawAttr) → slice_get (without_siblings attrs) index ≡ Some a → IsAt q index a

-- only an implicit_const has a constant, which is its number
abbrev pub KeepsConstant : Pair → Raw → Type 0
KeepsConstant pair raw = pair.constant ≡ (if pair.form == 0x21 then number_of raw else pos 0)

-- a value that stands there, is the one with that number and means that; and the entries that it names are the first of the references
pub record Asks (x : SourceEntry) (q : Setting) (index : ℕ) (a : RawAttr) (v : Value ℕ) (refs others : List ℕ) : Type 0 where
  pub fits : Fits x q
  pub at : IsAt q index a
  pub means : meaning (scope q) a ≡ Ok v
  pub line : KnowsLine (scope q) a x.file.tables.now x.line
  pub among : AreAmong q.around.common (raw_of x) refs
  pub named : map (place_named q (raw_of x)) refs ≡ value_refs (said q a v).value ++ others

-- how many entries a content names
abbrev pub names_many : Content → ℕ
names_many (Stored raw) = 0
names_many (OfCopy number) = 1
names_many (Expression e) = e.end - e.first

-- an attribute shows the copy of one; operands were added that are its own
pub record IsCopyOf (q : Setting) (b : Attr ℕ) (old new : List NewOperand) (a : NewAttr) : Type 0 where
  pub shows : Shows q b new a
  pub within : IsWithin (length new) a.content
  pub more : List NewOperand
  pub grown : new ≡ old ++ more
  pub many : names_many a.content ≡ length (value_refs b.value)

-- where it can be copied
pub record IsCopyAnswer (q : Setting) (index : ℕ) (a : RawAttr) (v : Value ℕ) (operands : List NewOperand) (new : NewAttr) : Type 0 where
  pub free : (f : Fault) → ¬ Refuses q (site q index (said q a v)) f
  pub is : IsCopyOf q (said q a v) operands operands new

-- the copy of the attribute, or why there is none
abbrev pub Answers : Setting → ℕ → RawAttr → Value ℕ → List NewOperand → List NewOperand → Result NewAttr ReadErr → Type 0
Answers q index a v old new (Ok b) = ((f : Fault) → ¬ Refuses q (site q index (said q a v)) f) × IsCopyOf q (said q a v) old new b
Answers q index a v old new (Err NoMemory) = Unit {0}
Answers q index a v old new (Err (Refused f)) = Refuses q (site q index (said q a v)) f

-- ---- classes

-- values of the class are entries
abbrev pub is_entry : Class → Bool
is_entry OfUnitEntry = true
is_entry OfInfoEntry = true
is_entry OfCommonEntry = true
is_entry _ = false

-- the section in which texts of the class stand
abbrev pub IsTextIn : Class → SourceEntry → List ℕ → Type 0
IsTextIn OfTextInStr x section = section ≡ x.file.sections.now.strs.bytes.now
IsTextIn OfTextInLineStr x section = section ≡ x.file.sections.now.line_strs.bytes.now
IsTextIn _ x section = ⊥
