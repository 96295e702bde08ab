-- The location lists that units name are just those that one of their attributes names.
use Rattle.std.proofs.Common.{◌≡◌, ◌↔◌, ◌⊎◌, ℕ, ◌+◌, ◌<◌, Bool, true, false, cond, List, [], ◌∷◌, ◌++◌, length, Option, Some, None, Result, Ok, Err, refl, sym, ap, subst, ◌∙◌, inl, inr, ltb, arith}
use Rattle.std.proofs.lemmas.Bool.{ltb-false, ltb-true}
use Rattle.std.proofs.lemmas.List.{length-append, length-drop}
use Rattle.dwz_model.specs.declared.fault.Fault.{Fault}
use Rattle.dwz_bytes.specs.Input.{input}
use Rattle.dwz_def_reading.specs.Entries.{RawAttr, RawEntry}
use Rattle.dwz_def_reading.specs.Exprs.{ExprContext, FieldItem}
use Rattle.dwz_model.specs.Lists.{In}
use Rattle.dwz_def_reading.specs.LocLists.{EndsList, LocList, SpellsList, SpellsListEntry, list_at}
use Rattle.dwz_def_reading.specs.Meanings.{Around, MeaningContext, expr_context, loclists_base, offset_of, scope_of, without_siblings}
use Rattle.dwz_def_reading.specs.Classes.{Class, class_of, names_list}
use Rattle.dwz_def_reading.specs.Meant.{list_read}
use Rattle.dwz_def_reading.specs.Classes.{OfOffset, OfListIndex}
use Rattle.dwz_def_reading.specs.NamedLists.{AnyEntryNames, AnyNames, AnyUnitNames, IsNamedAt, IsNamedBySlot, NamesAs, NamesList, by_base, by_offset, list_of_attr, lists_as, lists_of_attrs}
use Rattle.dwz_def_reading.specs.NamedLists.{lists_of_entries, lists_of_unit, lists_of_units, named_at, named_by}
use Rattle.dwz_def_reading.specs.Sequences.{SpellsRow, value_only}
use Rattle.dwz_def_reading.specs.Shared.{NamedList}
use Rattle.dwz_def_reading.specs.Texts.{IsSlot, slot, slot_place}
use Rattle.dwz_def_reading.specs.Trees.{End, Entry, Forest}
use Rattle.dwz_def_reading.specs.Units.{RawUnit}
use Rattle.dwz_def_reading.proofs.LocListLemmas.{list_reads, stands_agree}
use Rattle.dwz_def_reading.proofs.PartLemmas.{bind_ok}
use Rattle.dwz_def_reading.proofs.TextLemmas.{here_slot, slot_here}
use Rattle.dwz_model.proofs.ListFacts.{in_cases, in_left, in_right}

-- ---- a list has a byte

row_some : (c : ExprContext) (entries : List (List FieldItem)) (start : ℕ) (bytes : List ℕ) → SpellsRow (SpellsListEntry c) EndsList entries start bytes → 0 < length bytes
row_some c [] start bytes is = omega (arith, ap length is)
row_some c (e ∷ entries) start bytes is = let more = row_some c entries _ is.second_bytes is.second in omega (arith, more, ap length is.parts, length-append is.first_bytes is.second_bytes)

pub list_some : (c : ExprContext) (l : LocList) (start : ℕ) (bytes : List ℕ) → SpellsList c l start bytes → start < l.end
list_some c l start bytes s = let some = row_some c s.entries start bytes s.spelled in let end = s.end in omega (arith, some, end)

-- ---- one of several

in_both : {X : Type 0} {P Q : Type 0} (x : X) (xs ys : List X) → In x xs ↔ P → In x ys ↔ Q → In x (xs ++ ys) ↔ (P ⊎ Q)
in_both x xs ys p q = (
  λ h. elim (in_cases x xs ys h) [ inl a ↦ inl (p.0 a) | inr b ↦ inr (q.0 b) ],
  λ h. elim h [ inl a ↦ in_left x xs ys (p.1 a) | inr b ↦ in_right x xs ys (q.1 b) ],
)

-- ---- an attribute

module _ {P : Type 0} (s : MeaningContext P) where
  named_is : (slot : Option ℕ) (place : ℕ) (l : NamedList) → In l (named_at s slot place) ↔ IsNamedAt s slot place l
  named_is slot place l = by (ltb place (length s.around.sources.lists)) refl (list_read s place) refl where
    by : (b : Bool) → ltb place (length s.around.sources.lists) ≡ b → (r : Result LocList Fault) → list_read s place ≡ r → In l (named_by s slot place r) ↔ IsNamedAt s slot place l
    by false e (Err f) is = (λ no. absurd no, λ n. let within = n.within in let out = ltb-false place (length s.around.sources.lists) e in absurd (omega (arith, within, out)))
    by false e (Ok x) is =
        let out = ltb-false place (length s.around.sources.lists) e in
        let b = bind_ok (list_at (expr_context s 7) (input s.around.sources.lists place)) value_only x is in
        let t = (((list_reads (expr_context s 7)).agrees (input s.around.sources.lists place)).ok b.0).0 b.1 in
        let some = list_some (expr_context s 7) b.0.0 place t.front t.spelled in
        let end = t.spelled.end in
        absurd (omega (arith, some, end, ap length t.parts, length-append t.front b.0.1.rest, length-drop place s.around.sources.lists, out))
    by true e (Err f) is =
        let within = ltb-true place (length s.around.sources.lists) e in
        (λ no. absurd no, λ n. let read = ((stands_agree (list_reads (expr_context s 7)) s.around.sources.lists place (omega (arith, within))).ok l.list).1 n.stands in absurd cc)
    by true e (Ok x) is =
        let within = ltb-true place (length s.around.sources.lists) e in
        let agrees = stands_agree (list_reads (expr_context s 7)) s.around.sources.lists place (omega (arith, within)) in
        let made : LocList → NamedList = λ y. record { unit = s.unit; from = place; slot = slot; list = y } in
        let named : IsNamedAt s slot place (record { unit = s.unit; from = place; slot = slot; list = x }) =
        record { unit = refl; from = refl; slot_is = refl; within = within; stands = (agrees.ok x).0 is } in (
          λ h. elim h [ inl same ↦ subst (IsNamedAt s slot place) same named | inr none ↦ absurd none ],
          λ n.
              let read = (agrees.ok l.list).1 n.stands in
              let same : x ≡ l.list = (let both : Ok x ≡ Ok l.list = sym is ∙ read in cc) in
              inl (λ i. record { unit = sym n.unit i; from = sym n.from i; slot = sym n.slot_is i; list = same i }),
        )

  slot_is : (index : ℕ) (l : NamedList) → In l (by_base s index (loclists_base s)) ↔ IsNamedBySlot s index l
  slot_is index l = by_b (loclists_base s) refl where
    one : {X : Type 0} (o : Option X) (x y : X) → o ≡ Some x → o ≡ Some y → x ≡ y
    one {X} o x y p q = let same : Some x ≡ Some y = sym p ∙ q in cc

    never : {X : Type 0} (o : Option X) (x : X) → o ≡ Some x → o ≡ None → ⊥
    never {X} o x p q = let no : Some x ≡ None = sym p ∙ q in cc

    at_base : (base other number : ℕ) → loclists_base s ≡ Some base → loclists_base s ≡ Some other → IsSlot s.around.sources.lists other index number
        → slot s.around.sources.lists base index ≡ Some number
    at_base base other number is_base is is_slot =
        let same : other ≡ base = one (loclists_base s) other base is is_base in
        here_slot s.around.sources.lists base index number (subst (λ (b : ℕ). IsSlot s.around.sources.lists b index number) same is_slot)

    by_o : (base : ℕ) → loclists_base s ≡ Some base → (o : Option ℕ) → slot s.around.sources.lists base index ≡ o → In l (by_offset s base index o) ↔ IsNamedBySlot s index l
    by_o base is_base None none = (λ no. absurd no, λ n. never _ n.offset (at_base base n.base n.offset is_base n.is_base n.slot) none)
    by_o base is_base (Some offset) some = (
      λ h. record {
        base = base;
        is_base = is_base;
        offset = offset;
        slot = slot_here s.around.sources.lists base index offset some;
        named =
            (named_is (Some (slot_place base index)) (base + offset) l).0 h;
      },
      λ n.
          let same_base : n.base ≡ base = one (loclists_base s) n.base base n.is_base is_base in
          let same : n.offset ≡ offset = one _ n.offset offset (at_base base n.base n.offset is_base n.is_base n.slot) some in
          (named_is (Some (slot_place base index)) (base + offset) l).1
          (subst (λ (m : ℕ). IsNamedAt s (Some (slot_place base index)) (base + m) l) same (subst (λ (m : ℕ). IsNamedAt s (Some (slot_place m index)) (m + n.offset) l) same_base n.named)),
    )

    by_b : (o : Option ℕ) → loclists_base s ≡ o → In l (by_base s index o) ↔ IsNamedBySlot s index l
    by_b None none = (λ no. absurd no, λ n. never (loclists_base s) n.base n.is_base none)
    by_b (Some base) some = by_o base some (slot s.around.sources.lists base index) refl

  offset_is : (a : RawAttr) (b : Bool) → names_list a.pair.name ≡ b → (l : NamedList)
      → In l (cond b (named_at s None (offset_of a)) []) ↔ ((names_list a.pair.name ≡ true) × IsNamedAt s None (offset_of a) l)
  offset_is a true e l = let n = named_is None (offset_of a) l in (λ h. (e, n.0 h), λ h. n.1 h.1)
  offset_is a false e l = (λ no. absurd no, λ h. let no : true ≡ false = sym h.0 ∙ e in absurd cc)

  none_named : (l : NamedList) → In l [] ↔ ⊥
  none_named l = (λ no. no, λ no. no)

  as_is : (c : Class) (a : RawAttr) (l : NamedList) → In l (lists_as c s a) ↔ NamesAs c s a l
  as_is OfOffset a l = offset_is a (names_list a.pair.name) refl l
  as_is OfListIndex a l = slot_is (offset_of a) l
  as_is _ a l = none_named l

  pub attr_is : (a : RawAttr) (l : NamedList) → In l (list_of_attr s a) ↔ NamesList s a l
  unfolding list_of_attr
  attr_is a l = as_is (class_of a.pair.form) a l

  attrs_are : (attrs : List RawAttr) (l : NamedList) → In l (lists_of_attrs s attrs) ↔ AnyNames s attrs l
  unfolding lists_of_attrs
  attrs_are [] l = none_named l
  attrs_are (a ∷ attrs) l = in_both l (list_of_attr s a) (lists_of_attrs s attrs) (attr_is a l) (attrs_are attrs l)

  entries_are : (f : Forest RawEntry) (l : NamedList) → In l (lists_of_entries s f) ↔ AnyEntryNames s f l
  unfolding lists_of_entries
  entries_are End l = none_named l
  entries_are (Entry e children next) l =
      in_both l (lists_of_attrs s (without_siblings e.attrs)) (lists_of_entries s children ++ lists_of_entries s next) (attrs_are (without_siblings e.attrs) l)
      (in_both l (lists_of_entries s children) (lists_of_entries s next) (entries_are children l) (entries_are next l))

-- the lists that units name
pub units_name : {P : Type 0} (around : Around P) (units : List RawUnit) (l : NamedList) → In l (lists_of_units around units) ↔ AnyUnitNames around units l
unfolding lists_of_units
units_name around [] l = (λ no. no, λ no. no)
units_name around (u ∷ units) l =
    in_both l (lists_of_unit around u) (lists_of_units around units)
    (in_both l (lists_of_attrs (scope_of around u) (without_siblings u.root.attrs)) (lists_of_entries (scope_of around u) u.below) (attrs_are (scope_of around u) (without_siblings u.root.attrs) l)
    (entries_are (scope_of around u) u.below l))
    (units_name around units l)

-- ---- each list that is named has a byte

module _ {P : Type 0} (s : MeaningContext P) where
  at_some : (slot : Option ℕ) (place : ℕ) (l : NamedList) → IsNamedAt s slot place l → l.from < l.list.end
  at_some slot place l n = let from = n.from in let some = list_some (expr_context s 7) l.list place n.stands.front n.stands.spelled in omega (arith, from, some)

  as_some : (c : Class) (a : RawAttr) (l : NamedList) → NamesAs c s a l → l.from < l.list.end
  as_some OfOffset a l n = at_some None (offset_of a) l n.1
  as_some OfListIndex a l n = at_some (Some (slot_place n.base (offset_of a))) (n.base + n.offset) l n.named
  as_some _ a l n = absurd n

  attrs_some : (attrs : List RawAttr) (l : NamedList) → AnyNames s attrs l → l.from < l.list.end
  attrs_some [] l n = absurd n
  attrs_some (a ∷ attrs) l (inl is) = as_some (class_of a.pair.form) a l is
  attrs_some (a ∷ attrs) l (inr later) = attrs_some attrs l later

  entries_some : (f : Forest RawEntry) (l : NamedList) → AnyEntryNames s f l → l.from < l.list.end
  entries_some End l n = absurd n
  entries_some (Entry e children next) l (inl is) = attrs_some (without_siblings e.attrs) l is
  entries_some (Entry e children next) l (inr (inl below)) = entries_some children l below
  entries_some (Entry e children next) l (inr (inr later)) = entries_some next l later

pub units_some : {P : Type 0} (around : Around P) (units : List RawUnit) (l : NamedList) → AnyUnitNames around units l → l.from < l.list.end
units_some around [] l n = absurd n
units_some around (u ∷ units) l (inl (inl is)) = attrs_some (scope_of around u) (without_siblings u.root.attrs) l is
units_some around (u ∷ units) l (inl (inr below)) = entries_some (scope_of around u) u.below l below
units_some around (u ∷ units) l (inr later) = units_some around units l later
