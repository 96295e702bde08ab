-- What steps store under numbers are the events of a unit, and those of entries that are laid.
use Rattle.std.proofs.Common.{◌≡◌, ℕ, pos, zero, suc, ◌-◌, Bool, List, [], ◌∷◌, ◌++◌, map, replicate, slice_index, refl, sym, ap, ◌∙◌, arith}
use Rattle.std.specs.Prelude.{nat_lt, ◌==◌, if◌then◌else◌}
use Rattle.std.proofs.lemmas.List.{map-append}
use Rattle.dwz_def_reading.specs.Trees.{End, Entry}
use Rattle.dwz_def_reading.specs.Values.{Bytes, Number, Raw}
use Rattle.dwz_def_reading.specs.Documents.{Attr, DwUnit, Entries, Expr, Node, Part, Plain, Same}
use Rattle.dwz_def_reading.specs.Documents as document
use Rattle.dwz_def_reading.specs.Classes.{OfCommonEntry, OfExpression, OfInfoEntry, OfUnitEntry}
use Rattle.dwz_def_reading.specs.Classes.{Class, class_of}
use Rattle.dwz_def_reading.specs.Patching.{filled, number_in_width}
use Rattle.dwz_layout_items.specs.Lines.{Enter, Leave, Line, Step, depth_of as line_depth, if_steps, steps, steps_of, unit_steps, any as line_any}
use Rattle.dwz_def_reading.specs.Lists.{Each}
use Rattle.dwz_def_encoding.specs.Writing.{Numbering, any, base_place, expr_bytes, first_place, parts_bytes, stored_as}
use Rattle.dwz_def_encoding.proofs.WriteLengths.{Fixed, FixedAs, FixedEntries, FixedUnit}
use Rattle.dwz_layout.specs.declared.known.EntryTable.{EntryTable}
use Rattle.dwz_layout.specs.declared.walk.Slot.{Slot}
use Rattle.dwz_layout.specs.Attributes.{Content, Numbers, OfEntry, OfParts, OfRoot, OutAttr, Read, WritingContext, attrs_of, calls_of, counted, operand_numbers, raw_of, stored_of, tag_of}
use Rattle.dwz_layout.specs.Entries.{depth_of, entries_of}
use Rattle.dwz_layout.specs.Stored.{StoredAttr}
use Rattle.dwz_encode.specs.Events.{EndOfList, Event, NewEntry, events, if_children, stored_attr, unit_events}
use Rattle.dwz_encode.specs.Shown.{Held, HeldAttr, HeldLine, Key, Keys, Parts, Value, attr_held, content_held, expr_held, first_held, held_as, held_of, line_held, slot_held}
use Rattle.dwz_encode.proofs.PassLemmas.{calls_events}

-- ---- what is stored under numbers, in a unit that begins at a place: a ref4 (13) is counted from the unit

abbrev pub raw_held : {K : Type 0} → Numbering K → ℕ → ℕ → Held K → Raw
raw_held n unit form (Value raw) = raw
raw_held n unit form (Key k) = Number (pos (if form == 0x13 then n.place k - unit else n.place k))
raw_held n unit form (Parts parts refs) = Bytes (parts_bytes n unit parts refs)

abbrev pub stored_held : {K : Type 0} → Numbering K → ℕ → HeldAttr K → StoredAttr
stored_held n unit a = record { pair = a.pair; raw = raw_held n unit a.pair.form a.held }

-- ---- steps of lines: an entry, and whether children follow; or the end of a list of children

pub data HeldStep (K : Type 0) : Type 0 where
  Begin : HeldLine K → (children : Bool) → HeldStep K
  Finish : HeldStep K

abbrev pub event_of : {K : Type 0} → Numbering K → ℕ → HeldStep K → Event
event_of n unit (Begin l children) = NewEntry l.tag children (map (stored_held n unit) l.attrs)
event_of n unit Finish = EndOfList

abbrev pub held_depth : {K : Type 0} → List (HeldLine K) → ℕ
held_depth [] = 1
held_depth (l ∷ lines) = l.depth

unfoldable pub held_steps : {K : Type 0} → List (HeldLine K) → List (HeldStep K)
held_steps [] = []
held_steps (l ∷ lines) = Begin l (nat_lt l.depth (held_depth lines)) ∷ replicate (l.depth - held_depth lines) Finish ++ held_steps lines

-- those of a unit's entries have no depths
abbrev pub node_line : {K : Type 0} → ℕ → Node K → HeldLine K
node_line depth e = record { depth = depth; key = e.at; tag = e.tag; attrs = map held_of e.attrs }

abbrev pub step_event : {K : Type 0} → Numbering K → ℕ → Step K → Event
step_event n unit (Enter e children) = NewEntry e.tag children (map (stored_held n unit) (map held_of e.attrs))
step_event n unit Leave = EndOfList

leaves : {K : Type 0} (n : Numbering K) (unit count : ℕ) → map (event_of n unit) (replicate count Finish) ≡ replicate count EndOfList
leaves n unit zero = refl
leaves n unit (suc count) = ap (λ (es : List Event). EndOfList ∷ es) (leaves n unit count)

other_leaves : {K : Type 0} (n : Numbering K) (unit count : ℕ) → map (step_event n unit) (replicate count Leave) ≡ replicate count EndOfList
other_leaves n unit zero = refl
other_leaves n unit (suc count) = ap (λ (es : List Event). EndOfList ∷ es) (other_leaves n unit count)

depth_same : {K : Type 0} (lines : List (Line K)) → held_depth (map line_held lines) ≡ line_depth lines
depth_same [] = refl
depth_same (l ∷ lines) = refl

-- the steps of lines have the same events, held or not
pub lines_events : {K : Type 0} (n : Numbering K) (unit : ℕ) (lines : List (Line K)) → map (event_of n unit) (held_steps (map line_held lines)) ≡ map (step_event n unit) (steps_of lines)
unfolding held_steps steps_of
lines_events n unit [] = refl
lines_events {K} n unit (l ∷ lines) =
    let d = depth_same lines in
    let held = held_depth (map line_held lines) in
    let ends : List (HeldStep K) = replicate (l.depth - held) Finish in
    let leave : List (Step K) = replicate (l.depth - line_depth lines) Leave in
    let first = NewEntry l.node.tag in
    let attrs = map (stored_held n unit) (map held_of l.node.attrs) in
    ap (λ (es : List Event). first (nat_lt l.depth held) attrs ∷ es) (map-append (event_of n unit) ends (held_steps (map line_held lines)))
    ∙ (λ i. first (nat_lt l.depth held) attrs ∷ (leaves n unit (l.depth - held) i ++ lines_events n unit lines i))
    ∙ (λ i. first (nat_lt l.depth (d i)) attrs ∷ (replicate (l.depth - d i) EndOfList ++ map (step_event n unit) (steps_of lines)))
    ∙ ap (λ (es : List Event). first (nat_lt l.depth (line_depth lines)) attrs ∷ es)
    (sym (map-append (step_event n unit) leave (steps_of lines) ∙ ap (λ (es : List Event). es ++ map (step_event n unit) (steps_of lines)) (other_leaves n unit (l.depth - line_depth lines))))

-- ---- a unit

module _ {K : Type 0} (n : Numbering K) (unit : ℕ) where
  -- a reference in the form that counts from the unit, and in the other ones
  unit_held : (refs : List K) → raw_held n unit 0x13 (first_held refs) ≡ Number (pos (first_place n refs - unit))
  unit_held [] = ap (λ (m : ℕ). Number (pos m)) (omega arith)
  unit_held (k ∷ refs) = refl

  info_held : (refs : List K) → raw_held n unit 0x10 (first_held refs) ≡ Number (pos (first_place n refs))
  info_held [] = refl
  info_held (k ∷ refs) = refl

  common_held : (refs : List K) → raw_held n unit 0x1c (first_held refs) ≡ Number (pos (first_place n refs))
  common_held [] = refl
  common_held (k ∷ refs) = refl

  expr_is : (form : ℕ) (plain : Plain) (refs : List K) → raw_held n unit form (expr_held plain refs) ≡ Bytes (expr_bytes n unit plain refs)
  expr_is form (Expr parts) refs = refl
  expr_is form _ refs = refl

  held_stored : (c : Class) (a : Attr K) → FixedAs c a → raw_held n unit a.form (held_as c a) ≡ stored_as c n unit a
  held_stored OfUnitEntry a fixed = ap (λ (f : ℕ). raw_held n unit f (first_held a.value.refs)) fixed ∙ unit_held a.value.refs
  held_stored OfInfoEntry a fixed = ap (λ (f : ℕ). raw_held n unit f (first_held a.value.refs)) fixed ∙ info_held a.value.refs
  held_stored OfCommonEntry a fixed = ap (λ (f : ℕ). raw_held n unit f (first_held a.value.refs)) fixed ∙ common_held a.value.refs
  held_stored OfExpression a fixed = expr_is a.form a.value.plain a.value.refs
  held_stored _ a fixed = refl

  pub attrs_stored : (attrs : List (Attr K)) → Each Fixed attrs → map (stored_held n unit) (map held_of attrs) ≡ map (stored_attr n unit) attrs
  attrs_stored [] fixed = refl
  attrs_stored (a ∷ attrs) fixed =
      let one = held_stored (class_of a.form) a fixed.0 in
      (λ i. let s : StoredAttr = record { pair = (stored_attr n unit a).pair; raw = one i } in s ∷ attrs_stored attrs fixed.1 i)

  any_same : (f : Entries K) → line_any f ≡ any f
  any_same End = refl
  any_same (Entry e c next) = refl

  if_events : (children : Entries K) → map (step_event n unit) (steps children) ≡ events n unit children → map (step_event n unit) (if_steps children (steps children))
      ≡ if_children children (events n unit children)
  if_events End e = refl
  if_events (Entry d c next) e = e

  pub steps_events : (f : Entries K) → FixedEntries f → map (step_event n unit) (steps f) ≡ events n unit f
  unfolding steps events
  steps_events End fixed = refl
  steps_events (Entry e children next) fixed =
      let inner = if_events children (steps_events children fixed.1) in
      let split = map-append (step_event n unit) (if_steps children (steps children)) (steps next) in
      (λ i. NewEntry e.tag (any_same children i) (attrs_stored e.attrs fixed.0 i) ∷ split i)
      ∙ (λ i. NewEntry e.tag (any children) (map (stored_attr n unit) e.attrs) ∷ (inner i ++ steps_events next fixed.2 i))

  pub unit_steps_events : (u : DwUnit K) → FixedUnit u → map (step_event n unit) (unit_steps u) ≡ unit_events n unit u
  unit_steps_events u fixed =
      (λ i. NewEntry u.root.tag (any_same u.below i) (attrs_stored u.root.attrs fixed.0 i) ∷ if_events u.below (steps_events u.below fixed.1) i)

-- ---- entries that are laid

module _ {K : Type 0} (keys : Keys K) (n : Numbering K) (m : Numbers) where
  -- a name has the number of what it names
  abbrev pub RowAgrees : ℕ → Type 0
  RowAgrees number = n.place (keys.row number) ≡ slice_index m.places number

  abbrev pub ContentAgrees : Content → Type 0
  ContentAgrees (Read raw) = Unit {0}
  ContentAgrees (OfEntry number) = RowAgrees number
  ContentAgrees (OfRoot unit) = n.place (keys.root unit) ≡ slice_index m.roots unit
  ContentAgrees (OfParts parts numbers) = Each RowAgrees numbers

  abbrev pub AttrAgrees : OutAttr → Type 0
  AttrAgrees a = ContentAgrees a.content

  parts_same : (parts : List Part) (numbers : List ℕ) → Each RowAgrees numbers → parts_bytes n m.unit parts (map keys.row numbers) ≡ filled parts (operand_numbers m parts numbers)
  unfolding parts_bytes filled operand_numbers
  parts_same [] numbers agree = refl
  parts_same (Same bytes ∷ parts) numbers agree = ap (λ (w : List ℕ). bytes ++ w) (parts_same parts numbers agree)
  parts_same (document.Operand width uleb base ∷ parts) [] agree = refl
  parts_same (document.Operand width uleb base ∷ parts) (x ∷ numbers) agree =
      (λ i. number_in_width uleb width (agree.0 i - base_place m.unit base) ++ parts_same parts numbers agree.1 i)

  content_stored : (form : ℕ) (c : Content) → ContentAgrees c → raw_held n m.unit form (content_held keys c) ≡ raw_of m form c
  content_stored form (Read raw) agrees = refl
  content_stored form (OfEntry number) agrees = ap (λ (p : ℕ). Number (pos (counted m form p))) agrees
  content_stored form (OfRoot unit) agrees = ap (λ (p : ℕ). Number (pos (counted m form p))) agrees
  content_stored form (OfParts parts numbers) agrees = ap Bytes (parts_same parts numbers agrees)

  pub held_attrs : (attrs : List OutAttr) → Each AttrAgrees attrs → map (stored_held n m.unit) (map (attr_held keys) attrs) ≡ map (stored_of m) attrs
  held_attrs [] agrees = refl
  held_attrs (a ∷ attrs) agrees =
      let one = content_stored a.pair.form a.content agrees.0 in
      (λ i. let s : StoredAttr = record { pair = a.pair; raw = one i } in s ∷ held_attrs attrs agrees.1 i)

  module _ (k : EntryTable) (here : WritingContext) where
    abbrev pub SlotAgrees : Slot → Type 0
    SlotAgrees s = Each AttrAgrees (attrs_of k here s.origin)

    slot_depth : (slots : List Slot) → held_depth (map (slot_held keys k here) slots) ≡ depth_of slots
    slot_depth [] = refl
    slot_depth (s ∷ slots) = refl

    pub slots_events : (slots : List Slot) → Each SlotAgrees slots → map (event_of n m.unit) (held_steps (map (slot_held keys k here) slots)) ≡ calls_events (calls_of k here m (entries_of slots))
    unfolding held_steps calls_events entries_of
    slots_events [] agree = refl
    slots_events (s ∷ slots) agree =
        let d = slot_depth slots in
        let held = held_depth (map (slot_held keys k here) slots) in
        let ends : List (HeldStep K) = replicate (s.depth - held) Finish in
        let tag = tag_of k s.origin in
        let attrs = map (stored_held n m.unit) (map (attr_held keys) (attrs_of k here s.origin)) in
        ap (λ (es : List Event). NewEntry tag (nat_lt s.depth held) attrs ∷ es) (map-append (event_of n m.unit) ends (held_steps (map (slot_held keys k here) slots)))
        ∙ (λ i. NewEntry tag (nat_lt s.depth held) (held_attrs (attrs_of k here s.origin) agree.0 i) ∷ (leaves n m.unit (s.depth - held) i ++ slots_events slots agree.1 i))
        ∙ (λ i. NewEntry tag (nat_lt s.depth (d i)) (map (stored_of m) (attrs_of k here s.origin)) ∷ (replicate (s.depth - d i) EndOfList ++ calls_events (calls_of k here m (entries_of slots))))
