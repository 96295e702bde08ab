-- Where no operand of a file is too narrow, each has room for its new number: in the units as they were read.
use Rattle.std.proofs.Common.{◌≡◌, ℕ, ◌+◌, ◌-◌, Bool, true, false, List, [], ◌∷◌, ◌++◌, map, refl, sym, ap, subst, ◌∙◌, inl, inr}
use Rattle.std.proofs.lemmas.List.{map-append}
use Rattle.dwz_model.specs.declared.place.Base.{Base}
use Rattle.dwz_model.specs.declared.place.Base.TheVariants.{Unit as FromUnit, Info as FromInfo}
use Rattle.dwz_def_reading.specs.Entries.{RawAttr, RawEntry}
use Rattle.dwz_def_reading.specs.Lists.{Each, In}
use Rattle.dwz_def_reading.specs.Trees.{End, Entry, Forest}
use Rattle.dwz_def_reading.specs.Units.{RawUnit}
use Rattle.dwz_def_reading.proofs.ListFacts.{in_left, in_right}
use Rattle.dwz_def_reading.specs.declared.exprs.Operand.{Operand}
use Rattle.dwz_def_reading.specs.Documents.{Attr, DwUnit, Entries, Part, Value}
use Rattle.dwz_def_reading.specs.Exprs.{Expression, parts_from, parts_of}
use Rattle.dwz_def_reading.specs.Meanings.{Around, IsExpression, IsListBySlot, IsLocList, MeanAttrs, MeanEntries, MeanUnits, MeansAs, MeansAttr, MeansUnit}
use Rattle.dwz_def_reading.specs.Classes.{OfExpression, OfListIndex, OfOffset}
use Rattle.dwz_def_reading.specs.Classes.{Class}
use Rattle.dwz_def_reading.specs.Meanings.{MeaningContext, Sources, alone, block_begins, bytes_of, expr_context, leads_to, offset_of, scope_of, target_of, targets, without_siblings}
use Rattle.dwz_def_reading.specs.Classes.{class_of, names_list}
use Rattle.dwz_def_reading.specs.NamedLists.{AnyEntryNames, AnyNames, AnyUnitNames, NamesAs, NamesList, lists_of_units}
use Rattle.dwz_def_reading.specs.Shared.{ListOperand, NamedList, of_unit, operands_in_lists, operands_of, own_operands}
use Rattle.dwz_def_reading.proofs.ExprLemmas.{expr_agrees}
use Rattle.dwz_def_reading.proofs.NamedLemmas.{units_name}
use Rattle.dwz_def_reading.proofs.PassLemmas.{own_in}
use Rattle.dwz_def_reading.proofs.DecideLemmas.{if_false, if_true}
use Rattle.dwz_def_tops.specs.Alike.{joined_parts}
use Rattle.dwz_def_encoding.specs.Fitting.{EachAttr, FitsWidth, HasRoom, HasRoomAs, OperandsHaveRoom, PlainHasRoom, UnitHasRoom}
use Rattle.dwz_def_encoding.specs.Meant.{led_to, place_counted}
use Rattle.dwz_def_encoding.specs.Writing.{Numbering, base_place}
use Rattle.dwz_def_output.specs.Refusals.{all_of_unit, operands_as, operands_of_attr, operands_of_attrs, operands_of_entries, operands_of_unit, operands_of_units, operands_read}

-- an operand of a unit has room for its new number, under new places
abbrev pub RoomFor : Numbering ℕ → ListOperand → Type 0
RoomFor n o = FitsWidth o.operand.uleb o.operand.width (n.place (led_to o.unit o.operand) - base_place (n.place o.unit) o.operand.base)

-- so does each of these
abbrev pub AllRoom : Numbering ℕ → ℕ → List Operand → Type 0
AllRoom n unit os = (o : Operand) → In o os → RoomFor n (of_unit unit o)

module _ (n : Numbering ℕ) (s : MeaningContext ℕ) (place : s.around.place ≡ (λ p. p)) where
  leads_same : (base : Base) (number : ℕ) → place_counted base s.unit number ≡ leads_to s base number
  leads_same FromUnit number = refl
  leads_same FromInfo number = refl

  one_room : (o : Operand) → RoomFor n (of_unit s.unit o) → FitsWidth o.uleb o.width (n.place (s.around.place (target_of s o)) - base_place (n.place s.unit) o.base)
  one_room o h =
      let same : led_to s.unit o ≡ s.around.place (target_of s o) = leads_same o.base o.number ∙ ap (λ (f : ℕ → ℕ). f (target_of s o)) (sym place) in
      subst (λ (p : ℕ). FitsWidth o.uleb o.width (n.place p - base_place (n.place s.unit) o.base)) same h

  parts_before : (os : List Operand) (at : ℕ) (bytes : List ℕ) (rest : List Part) (refs : List ℕ) → AllRoom n s.unit os → OperandsHaveRoom n (n.place s.unit) rest refs
      → OperandsHaveRoom n (n.place s.unit) (parts_from at bytes os ++ rest) (targets s os ++ refs)
  unfolding parts_from
  parts_before [] at bytes rest refs room h = h
  parts_before (o ∷ os) at bytes rest refs room h = (one_room o (room o (inl refl)), parts_before os _ _ rest refs (λ p there. room p (inr there)) h)

  parts_room : (os : List Operand) (at : ℕ) (bytes : List ℕ) → AllRoom n s.unit os → OperandsHaveRoom n (n.place s.unit) (parts_from at bytes os) (targets s os)
  unfolding parts_from
  parts_room [] at bytes room = tt
  parts_room (o ∷ os) at bytes room = (one_room o (room o (inl refl)), parts_room os _ _ (λ p there. room p (inr there)))

  exprs_room : (exprs : List Expression) → AllRoom n s.unit (operands_of exprs) → OperandsHaveRoom n (n.place s.unit) (joined_parts (map parts_of exprs)) (targets s (operands_of exprs))
  unfolding joined_parts operands_of
  exprs_room [] room = tt
  exprs_room (e ∷ exprs) room =
      subst (OperandsHaveRoom n (n.place s.unit) (joined_parts (map parts_of (e ∷ exprs)))) (sym (map-append (λ o. s.around.place (target_of s o)) e.operands (operands_of exprs)))
      (parts_before e.operands e.at e.bytes (joined_parts (map parts_of exprs)) (targets s (operands_of exprs)) (λ o there. room o (in_left o e.operands (operands_of exprs) there))
      (exprs_room exprs (λ o there. room o (in_right o e.operands (operands_of exprs) there))))

  -- ---- attributes

  -- the operands of its expression, and of the list that it names
  module _ (r : RawAttr) (b : Attr ℕ) (means : MeansAttr s r b) (spoken : AllRoom n s.unit (operands_of_attr s r))
      (listed : (l : NamedList) → NamesList s r l → AllRoom n l.unit (own_operands l)) where
    expr_room : class_of r.pair.form ≡ OfExpression → IsExpression s r b.value → PlainHasRoom n (n.place s.unit) b.value.plain b.value.refs
    unfolding operands_of_attr
    expr_room class m =
        let read : operands_as (class_of r.pair.form) s r ≡ m.expression.operands =
        ap (λ (c : Class). operands_as c s r) class ∙ ap operands_read (((expr_agrees (expr_context s 1) (record { at = block_begins r; rest = bytes_of r.raw })).ok m.expression).1 m.spelled) in
        let room : AllRoom n s.unit m.expression.operands = subst (AllRoom n s.unit) read spoken in
        subst (λ (x : Value ℕ). PlainHasRoom n (n.place s.unit) x.plain x.refs) (sym m.value) (parts_room m.expression.operands m.expression.at m.expression.bytes room)

    list_room : (l : NamedList) → l.unit ≡ s.unit → NamesList s r l → (p : ℕ) → (m : IsLocList s p b.value) → own_operands l ≡ operands_of m.list.exprs
        → PlainHasRoom n (n.place s.unit) b.value.plain b.value.refs
    list_room l unit names p m same =
        let room : AllRoom n s.unit (operands_of m.list.exprs) = subst (AllRoom n s.unit) same (subst (λ (u : ℕ). AllRoom n u (own_operands l)) unit (listed l names)) in
        subst (λ (x : Value ℕ). PlainHasRoom n (n.place s.unit) x.plain x.refs) (sym m.value) (exprs_room m.list.exprs room)

    offset_room : class_of r.pair.form ≡ OfOffset → (x : Bool) → names_list r.pair.name ≡ x → MeansAs OfOffset s r b.value → PlainHasRoom n (n.place s.unit) b.value.plain b.value.refs
    offset_room class false names m = subst (λ (v : Value ℕ). PlainHasRoom n (n.place s.unit) v.plain v.refs) (sym (if_false (names_list r.pair.name) _ _ names m)) tt
    offset_room class true names m =
        let is = if_true (names_list r.pair.name) _ _ names m in
        let l : NamedList = record { unit = s.unit; from = offset_of r; slot = _; list = is.list } in
        let named : NamesList s r l = subst (λ (c : Class). NamesAs c s r l) (sym class) (names, record { unit = refl; from = refl; slot_is = refl; within = is.within; stands = is.stands }) in
        list_room l refl named (offset_of r) is refl

    index_room : class_of r.pair.form ≡ OfListIndex → IsListBySlot s (offset_of r) b.value → PlainHasRoom n (n.place s.unit) b.value.plain b.value.refs
    index_room class is =
        let l : NamedList = record { unit = s.unit; from = is.base + is.offset; slot = _; list = is.list.list } in
        let named : NamesList s r l = subst (λ (c : Class). NamesAs c s r l) (sym class)
        (record {
          base = is.base;
          is_base = is.is_base;
          offset = is.offset;
          slot = is.slot;
          named = record { unit = refl; from = refl; slot_is = refl; within = is.list.within; stands = is.list.stands };
        }) in
        list_room l refl named (is.base + is.offset) is.list refl

    attr_room : HasRoom n (n.place s.unit) b
    attr_room = subst (λ (form : ℕ). HasRoomAs (class_of form) n (n.place s.unit) b) (sym means.form) (by (class_of r.pair.form) refl means.value) where
      by : (c : Class) → class_of r.pair.form ≡ c → MeansAs c s r b.value → HasRoomAs c n (n.place s.unit) b
      by OfExpression e m = expr_room e m
      by OfOffset e m = offset_room e (names_list r.pair.name) refl m
      by OfListIndex e m = index_room e m
      by _ e m = tt

  attrs_room : (raw : List RawAttr) (attrs : List (Attr ℕ)) → AllRoom n s.unit (operands_of_attrs s raw) → ((l : NamedList) → AnyNames s raw l → AllRoom n l.unit (own_operands l))
      → MeanAttrs s raw attrs → Each (HasRoom n (n.place s.unit)) attrs
  unfolding operands_of_attrs
  attrs_room [] [] spoken listed h = tt
  attrs_room (r ∷ raw) (b ∷ attrs) spoken listed h = (
    attr_room r b h.0 (λ o there. spoken o (in_left o (operands_of_attr s r) (operands_of_attrs s raw) there)) (λ l is. listed l (inl is)),
    attrs_room raw attrs (λ o there. spoken o (in_right o (operands_of_attr s r) (operands_of_attrs s raw) there)) (λ l is. listed l (inr is)) h.1,
  )
  attrs_room _ _ spoken listed h = absurd h

  entries_room : (f : Forest RawEntry) (g : Entries ℕ) → AllRoom n s.unit (operands_of_entries s f) → ((l : NamedList) → AnyEntryNames s f l → AllRoom n l.unit (own_operands l))
      → MeanEntries s f g → EachAttr (HasRoom n (n.place s.unit)) g
  unfolding operands_of_entries
  entries_room End End spoken listed h = tt
  entries_room (Entry r f f') (Entry d g g') spoken listed h =
      let own = operands_of_attrs s (without_siblings r.attrs) in
      let below = operands_of_entries s f in
      let next = operands_of_entries s f' in (
        attrs_room (without_siblings r.attrs) d.attrs (λ o there. spoken o (in_left o own (below ++ next) there)) (λ l is. listed l (inl is)) h.0.attrs,
        entries_room f g (λ o there. spoken o (in_right o own (below ++ next) (in_left o below next there))) (λ l is. listed l (inr (inl is))) h.1,
        entries_room f' g' (λ o there. spoken o (in_right o own (below ++ next) (in_right o below next there))) (λ l is. listed l (inr (inr is))) h.2,
      )
  entries_room _ _ spoken listed h = absurd h

-- ---- units

in_unit : (unit : ℕ) (o : Operand) (os : List Operand) → In o os → In (of_unit unit o) (all_of_unit unit os)
in_unit unit o [] h = absurd h
in_unit unit o (p ∷ os) (inl same) = inl (ap (of_unit unit) same)
in_unit unit o (p ∷ os) (inr later) = inr (in_unit unit o os later)

module _ (n : Numbering ℕ) (around : Around ℕ) (place : around.place ≡ (λ p. p)) where
  unit_room : (u : RawUnit) (v : DwUnit ℕ) → AllRoom n u.at (operands_of_unit around u) → ((l : NamedList) → AnyUnitNames around (u ∷ []) l → AllRoom n l.unit (own_operands l))
      → MeansUnit around u v → UnitHasRoom n v
  unit_room u v spoken listed h =
      let s = scope_of around u in
      let roots = operands_of_attrs s (without_siblings u.root.attrs) in
      let below = operands_of_entries s u.below in
      let at : u.at ≡ v.at = ap (λ (f : ℕ → ℕ). f u.at) (sym place) ∙ sym h.place in
      subst (λ (p : ℕ). Each (HasRoom n (n.place p)) v.root.attrs × EachAttr (HasRoom n (n.place p)) v.below) at (
        attrs_room n s place (without_siblings u.root.attrs) v.root.attrs (λ o there. spoken o (in_left o roots below there)) (λ l is. listed l (inl (inl is))) h.root.attrs,
        entries_room n s place u.below v.below (λ o there. spoken o (in_right o roots below there)) (λ l is. listed l (inl (inr is))) h.below,
      )

  pub units_room : (raw : List RawUnit) (units : List (DwUnit ℕ)) → ((o : ListOperand) → In o (operands_of_units around raw) → RoomFor n o)
      → ((l : NamedList) → AnyUnitNames around raw l → AllRoom n l.unit (own_operands l)) → MeanUnits around raw units → Each (UnitHasRoom n) units
  unfolding operands_of_units
  units_room [] [] spoken listed h = tt
  units_room (u ∷ raw) (v ∷ units) spoken listed h =
      let own = all_of_unit u.at (operands_of_unit around u) in
      let rest = operands_of_units around raw in (
        unit_room u v (λ o there. spoken (of_unit u.at o) (in_left (of_unit u.at o) own rest (in_unit u.at o (operands_of_unit around u) there)))
            (λ l x. listed l (elim x [ inl y ↦ inl y | inr z ↦ absurd z ])) h.0,
        units_room raw units (λ o there. spoken o (in_right o own rest there)) (λ l x. listed l (inr x)) h.1,
      )
  units_room _ _ spoken listed h = absurd h

-- of a file: where the operands of its expressions, and those of its lists, have room
pub file_room : (n : Numbering ℕ) (sources : Sources) (raw : List RawUnit) (units : List (DwUnit ℕ)) → ((o : ListOperand) → In o (operands_of_units (alone sources raw) raw) → RoomFor n o)
    → ((o : ListOperand) → In o (operands_in_lists (lists_of_units (alone sources raw) raw)) → RoomFor n o) → MeanUnits (alone sources raw) raw units → Each (UnitHasRoom n) units
file_room n sources raw units spoken listed means =
    units_room n (alone sources raw) refl raw units spoken
    (λ l is o own. listed (of_unit l.unit o) (own_in l o (lists_of_units (alone sources raw) raw) ((units_name (alone sources raw) raw l).1 is) own)) means
