-- The operands of a list, as they are kept.
use Rattle.std.specs.Prelude.{◌≡◌, ℕ, ◌+◌, ◌<◌, ◌^◌, Bool, true, false, List, [], ◌∷◌, ◌++◌, length, map, Option, Some, None, Result, Ok}
use Rattle.std.specs.Prelude.{Err, nat_lt, if◌then◌else◌}
use Rattle.dwz_model.specs.declared.fault.Fault.{Fault}
use Rattle.dwz_model.specs.declared.fault.Reason.TheVariants.{BadList}
use Rattle.dwz_def_reading.specs.Faults.{Fails, info_fault}
use Rattle.dwz_def_reading.specs.Texts.{slot, slot_place}
use Rattle.dwz_model.specs.declared.fault.ReadErr.{ReadErr}
use Rattle.dwz_model.specs.declared.fault.ReadErr.TheVariants.{NoMemory, Refused}
use Rattle.dwz_def_reading.specs.Lists.{In}
use Rattle.dwz_def_reading.specs.Units.{RawUnit}
use Rattle.dwz_def_reading.specs.declared.exprs.Operand.{Operand}
use Rattle.dwz_def_reading.specs.Exprs.{first_unnamed}
use Rattle.dwz_def_reading.specs.LocLists.{LocList}
use Rattle.dwz_def_reading.specs.Meanings.{MeaningContext}
use Rattle.dwz_def_reading.specs.Classes.{names_list}
use Rattle.dwz_def_reading.specs.Meant.{list_read}
use Rattle.dwz_def_reading.specs.Shared.{NamedList, of_unit}
use Rattle.dwz_graph_resolve.specs.declared.lists.ListSlot.{ListSlot}
use Rattle.dwz_graph_resolve.specs.declared.state.State.{State}
use Rattle.dwz_graph_resolve.specs.State.{IsState}
use Rattle.dwz_graph_resolve.specs.declared.operands.ListOperand.{ListOperand}
use Rattle.dwz_graph_resolve.specs.ListRows.{AreOfFile, operand_view}
use Rattle.dwz_graph_resolve.specs.Operands.{IsUnnamed, is_named}

-- each stands before 2^32
abbrev pub AreSmall : List Operand → Type 0
AreSmall operands = (o : Operand) → In o operands → o.at < 2 ^ 32

-- each operand names an entry of the file with that number, and was added
pub record AreOperands (raw : List RawUnit) (file : ℕ) (s : MeaningContext ℕ) (operands : List Operand) (old new : List ListOperand) : Type
    0 where
  pub more : List ListOperand
  pub added : new ≡ old ++ more
  pub views : AreSmall operands → map (operand_view raw) more ≡ map (of_unit s.unit) operands
  pub of_file : AreOfFile raw file more
  pub named : first_unnamed (is_named s) operands ≡ None

abbrev pub NamesRows : {Y : Type 0} → List RawUnit → ℕ → MeaningContext ℕ → List Operand → List ListOperand → List ListOperand
    → Result Y ReadErr
    → Type 0
NamesRows raw file s operands old new (Ok y) = AreOperands raw file s operands old new
NamesRows raw file s operands old new (Err NoMemory) = Unit {0}
NamesRows raw file s operands old new (Err (Refused f)) = IsUnnamed s 7 operands f

-- ---- a list

abbrev pub named_list : MeaningContext ℕ → Option ℕ → ℕ → LocList → NamedList
named_list s slot place list = record { unit = s.unit; from = place; slot = slot; list = list }

-- a list stands at the place, and it is kept as one that is named, through that slot if there is one
pub record HasList (raw : List RawUnit) (s : MeaningContext ℕ) (n : ℕ) (slot : Option ℕ) (place : ℕ) (before : List NamedList)
    (old new : State) : Type 0 where
  pub list : LocList
  pub read : list_read s place ≡ Ok list
  pub refs : new.refs.items ≡ old.refs.items
  pub keeps : IsState raw s n (before ++ named_list s slot place list ∷ []) new

abbrev pub Walks : {Y : Type 0} → List RawUnit → MeaningContext ℕ → ℕ → ℕ → List NamedList → State → State → Result Y ReadErr → Type 0
Walks raw s n place before old new (Ok y) = HasList raw s n None place before old new
Walks raw s n place before old new (Err e) = Fails e (list_read s place)

-- the list at a place that a value names
abbrev pub list_there : MeaningContext ℕ → ℕ → ℕ → Result LocList Fault
list_there s at place = if nat_lt place (length s.around.sources.lists) then list_read s place else Err (info_fault at BadList)

abbrev pub AddsAt : {Y : Type 0} → List RawUnit → MeaningContext ℕ → ℕ → Option ℕ → ℕ → ℕ → List NamedList → State → State
    → Result Y ReadErr
    → Type 0
AddsAt raw s n slot at place before old new (Ok y) = (place < length s.around.sources.lists) × HasList raw s n slot place before old new
AddsAt raw s n slot at place before old new (Err e) = Fails e (list_there s at place)

abbrev pub AddsList : {Y : Type 0} → List RawUnit → MeaningContext ℕ → ℕ → ℕ → ℕ → List NamedList → State → State → Result Y ReadErr
    → Type 0
AddsList raw s n at place before old new result = AddsAt raw s n None at place before old new result

-- the list of an offset, if it is one's
abbrev pub IsUnchanged : {Y : Type 0} → State → State → Result Y ReadErr → Type 0
IsUnchanged old new (Ok y) = new ≡ old
IsUnchanged old new (Err e) = ⊥

abbrev pub AddsIf : {Y : Type 0} → Bool → List RawUnit → MeaningContext ℕ → ℕ → ℕ → ℕ → List NamedList → State → State → Result Y ReadErr
    → Type 0
AddsIf true raw s n at offset before old new result = AddsList raw s n at offset before old new result
AddsIf false raw s n at offset before old new result = IsUnchanged old new result

abbrev pub AddsOffset : {Y : Type 0} → List RawUnit → MeaningContext ℕ → ℕ → ℕ → ℕ → ℕ → List NamedList → State → State
    → Result Y ReadErr → Type 0
AddsOffset raw s n name at offset before old new result = AddsIf (names_list name) raw s n at offset before old new result

-- the slot of an index, and the place of the list that it holds
abbrev pub IsSlotAt : List ℕ → ℕ → ℕ → Option ListSlot → Type 0
IsSlotAt section base index None = slot section base index ≡ None
IsSlotAt section base index (Some x) = (offset : ℕ) × (slot section base index ≡ Some offset) × (x.at ≡ slot_place base index)
    × (x.place ≡ base + offset)

-- the list of an index
abbrev pub BySlot : {Y : Type 0} → List RawUnit → MeaningContext ℕ → ℕ → ℕ → ℕ → ℕ → Option ℕ → List NamedList → State → State
    → Result Y ReadErr
    → Type 0
BySlot raw s n base at index None before old new (Ok y) = ⊥
BySlot raw s n base at index None before old new (Err e) = Fails {Y = LocList} e (Err (info_fault at BadList))
BySlot raw s n base at index (Some offset) before old new result = AddsAt raw s n (Some (slot_place base index)) at (base + offset) before
    old new result

abbrev pub AddsIndexed : {Y : Type 0} → List RawUnit → MeaningContext ℕ → ℕ → Option ℕ → ℕ → ℕ → List NamedList → State → State
    → Result Y ReadErr
    → Type 0
AddsIndexed raw s n None at index before old new (Ok y) = ⊥
AddsIndexed raw s n None at index before old new (Err e) = Fails {Y = LocList} e (Err (info_fault at BadList))
AddsIndexed raw s n (Some base) at index before old new result = BySlot raw s n base at index (slot s.around.sources.lists base index)
    before old new result
