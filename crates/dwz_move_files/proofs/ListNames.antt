-- The attributes that are location lists, and the lists that attributes name.
use Rattle.std.proofs.Common.{◌≡◌, ◌⊎◌, ℕ, ◌+◌, Bool, true, false, cond, List, [], ◌∷◌, ◌++◌, Option, Some, None, Result, Ok, Err, refl, sym, ap, subst, ◌∙◌, inl, inr, ⊎_elim}
use Rattle.std.proofs.lemmas.Bool.{false≢true}
use Rattle.dwz_model.specs.declared.fault.Fault.{Fault}
use Rattle.dwz_def_reading.specs.Entries.{RawAttr, RawEntry}
use Rattle.dwz_def_reading.specs.Lists.{In}
use Rattle.dwz_def_reading.specs.Trees.{End, Entry, Forest}
use Rattle.dwz_def_reading.specs.Units.{RawUnit}
use Rattle.dwz_def_reading.specs.Texts.{slot, slot_place}
use Rattle.dwz_def_reading.proofs.ListFacts.{in_cases, in_left, in_right}
use Rattle.dwz_def_reading.specs.Documents.{Attr, DwUnit, Entries, Plain, Sec, Value, only}
use Rattle.dwz_def_reading.specs.LocLists.{LocList, SpellsList}
use Rattle.dwz_def_reading.specs.Meanings.{Around, IfSo, IsFileBy, IsListBySlot, IsLocList, MeanAttrs, MeanEntries, MeanUnits, MeansAs, MeansAttr}
use Rattle.dwz_def_reading.specs.Classes.{OfAddress, OfBlock, OfCommonEntry, OfCommonText}
use Rattle.dwz_def_reading.specs.Classes.{Class}
use Rattle.dwz_def_reading.specs.Classes.{OfConstant, OfExpression, OfFlag, OfIndex, OfInfoEntry, OfListIndex, OfOffset, OfSignature, OfText, OfTextBySlot, OfTextInLineStr, OfTextInStr, OfUnitEntry}
use Rattle.dwz_def_reading.specs.Meanings.{MeaningContext, constant_value, expr_context, loc_value, loclists_base, number_of, offset_of, scope_of, stmt_list}
use Rattle.dwz_def_reading.specs.Classes.{Unread}
use Rattle.dwz_def_reading.specs.Classes.{class_of, names_file, names_list}
use Rattle.dwz_def_reading.specs.Meant.{list_read}
use Rattle.dwz_def_reading.specs.Meanings.{without_siblings}
use Rattle.dwz_def_reading.specs.NamedLists.{AnyEntryNames, AnyNames, AnyUnitNames, NamesAs, NamesList, by_base, by_offset, list_of_attr, lists_as, lists_of_units, named_by}
use Rattle.dwz_def_reading.specs.Sequences.{StandsFrom}
use Rattle.dwz_def_reading.specs.Shared.{NamedList}
use Rattle.dwz_def_reading.proofs.NamedLemmas.{attr_is, units_name}
use Rattle.dwz_move_files.proofs.UnitAttrs.{entries_attrs, in_list, unit_attrs, units_attrs}

if_true : {P : Type 0} (Q : Type 0) (b : Bool) → b ≡ true → IfSo b P Q → P
if_true Q true e h = h
if_true Q false e h = absurd (false≢true e)

-- ---- an attribute names one list

module _ (s : MeaningContext ℕ) where
  one_read : (slot : Option ℕ) (place : ℕ) (r : Result LocList Fault) (x y : NamedList) → In x (named_by s slot place r) → In y (named_by s slot place r) → x ≡ y
  one_read slot place (Ok l) x y (inl p) (inl q) = sym p ∙ q
  one_read slot place (Ok l) x y (inl p) (inr q) = absurd q
  one_read slot place (Ok l) x y (inr p) q = absurd p
  one_read slot place (Err f) x y p q = absurd p

  one_if : (b : Bool) (place : ℕ) (x y : NamedList) → In x (cond b (named_by s None place (list_read s place)) []) → In y (cond b (named_by s None place (list_read s place)) []) → x ≡ y
  one_if true place x y p q = one_read None place (list_read s place) x y p q
  one_if false place x y p q = absurd p

  one_offset : (base index : ℕ) (o : Option ℕ) (x y : NamedList) → In x (by_offset s base index o) → In y (by_offset s base index o) → x ≡ y
  one_offset base index None x y p q = absurd p
  one_offset base index (Some offset) x y p q = one_read (Some (slot_place base index)) (base + offset) (list_read s (base + offset)) x y p q

  one_base : (index : ℕ) (o : Option ℕ) (x y : NamedList) → In x (by_base s index o) → In y (by_base s index o) → x ≡ y
  one_base index None x y p q = absurd p
  one_base index (Some base) x y p q = one_offset base index (slot s.around.sources.lists base index) x y p q

  one_as : (c : Class) (a : RawAttr) (x y : NamedList) → In x (lists_as c s a) → In y (lists_as c s a) → x ≡ y
  one_as OfOffset a x y p q = one_if (names_list a.pair.name) (offset_of a) x y p q
  one_as OfListIndex a x y p q = one_base (offset_of a) (loclists_base s) x y p q
  one_as _ a x y p q = absurd p

  one_list : (a : RawAttr) (x y : NamedList) → NamesList s a x → NamesList s a y → x ≡ y
  unfolding list_of_attr
  one_list a x y p q = one_as (class_of a.pair.form) a x y ((attr_is s a x).1 p) ((attr_is s a y).1 q)

-- ---- an attribute that is a list

-- the attribute is that list of the unit
pub record IsListOf (s : MeaningContext ℕ) (b : Attr ℕ) (l : NamedList) : Type 0 where
  pub value : b.value ≡ loc_value s l.list
  pub unit : l.unit ≡ s.unit
  pub stands : StandsFrom (SpellsList (expr_context s 7)) s.around.sources.lists l.from l.list

record Made (s : MeaningContext ℕ) (r : RawAttr) (b : Attr ℕ) : Type 0 where
  list : NamedList
  names : NamesList s r list
  is : IsListOf s b list

loc_plain : (s : MeaningContext ℕ) (place : ℕ) (v : Value ℕ) → IsLocList s place v → in_list v.plain ≡ true
unfolding in_list
loc_plain s place v is = ap (λ (w : Value ℕ). in_list w.plain) is.value

module _ (s : MeaningContext ℕ) (r : RawAttr) (b : Attr ℕ) (means : MeansAttr s r b) where
  abbrev v : Value ℕ
  v = b.value

  -- it is no list, or names one
  abbrev Either : Type 0
  Either = (in_list v.plain ≡ false) ⊎ Made s r b

  other : (plain : Plain) → in_list plain ≡ false → v ≡ only plain → Either
  other plain e is = inl (ap (λ (w : Value ℕ). in_list w.plain) is ∙ e)

  of_file : (o : Option ℕ) → IsFileBy o s (number_of r.raw) v → Either
  unfolding in_list
  of_file None m = other _ refl m.1
  of_file (Some place) m = other _ refl m.value

  constant : (file : Bool) → IfSo file (IsFileBy (stmt_list s) s (number_of r.raw) v) (v ≡ constant_value r) → Either
  unfolding in_list
  constant true m = of_file (stmt_list s) m
  constant false m = other _ refl m

  at_offset : class_of r.pair.form ≡ OfOffset → (x : Bool) → names_list r.pair.name ≡ x → IfSo x (IsLocList s (offset_of r) v) (v ≡ only (Sec (offset_of r))) → Either
  unfolding in_list
  at_offset e false names m = other _ refl m
  at_offset e true names m =
      let l : NamedList = record { unit = s.unit; from = offset_of r; slot = None; list = m.list } in
      let named : NamesList s r l = subst (λ (c : Class). NamesAs c s r l) (sym e) (names, record { unit = refl; from = refl; slot_is = refl; within = m.within; stands = m.stands }) in
      inr (record { list = l; names = named; is = record { value = m.value; unit = refl; stands = m.stands } })

  at_index : class_of r.pair.form ≡ OfListIndex → IsListBySlot s (offset_of r) v → Either
  at_index e m =
      let l : NamedList = record { unit = s.unit; from = m.base + m.offset; slot = Some (slot_place m.base (offset_of r)); list = m.list.list } in
      let named : NamesList s r l = subst (λ (c : Class). NamesAs c s r l) (sym e)
      (record { base = m.base; is_base = m.is_base; offset = m.offset; slot = m.slot; named = record { unit = refl; from = refl; slot_is = refl; within = m.list.within; stands = m.list.stands } }) in
      inr (record { list = l; names = named; is = record { value = m.list.value; unit = refl; stands = m.list.stands } })

  by_class : (c : Class) → class_of r.pair.form ≡ c → MeansAs c s r v → Either
  unfolding in_list
  by_class OfAddress e m = other _ refl m
  by_class OfBlock e m = other _ refl m
  by_class OfConstant e m = constant (names_file r.pair.name) m
  by_class OfFlag e m = other _ refl m
  by_class OfText e m = other _ refl m
  by_class OfTextInStr e m = other _ refl m.value
  by_class OfTextInLineStr e m = other _ refl m.value
  by_class OfTextBySlot e m = other _ refl m.text.value
  by_class OfUnitEntry e m = inl (ap (λ (w : Value ℕ). in_list w.plain) m.1)
  by_class OfInfoEntry e m = inl (ap (λ (w : Value ℕ). in_list w.plain) m.1)
  by_class OfSignature e m = other _ refl m
  by_class OfOffset e m = at_offset e (names_list r.pair.name) refl m
  by_class OfExpression e m = inl (ap (λ (w : Value ℕ). in_list w.plain) m.value)
  by_class OfListIndex e m = at_index e m
  by_class OfIndex e m = other _ refl m
  by_class OfCommonEntry e m = inl (ap (λ (w : Value ℕ). in_list w.plain) m.2.1)
  by_class OfCommonText e m = other _ refl m.2.value
  by_class Unread e m = absurd m

  made : in_list v.plain ≡ true → Made s r b
  made e = ⊎_elim (λ no. absurd (false≢true (sym no ∙ e))) (λ m. m) (by_class (class_of r.pair.form) refl means.value)

  -- a class whose values may be lists
  lists_so : (c : Class) → class_of r.pair.form ≡ c → (l : NamedList) → NamesAs c s r l → MeansAs c s r v → Made s r b
  lists_so OfOffset e l n m =
      let is = if_true (v ≡ only (Sec (offset_of r))) (names_list r.pair.name) n.0 m in
      ⊎_elim (λ no. absurd (false≢true (sym no ∙ loc_plain s (offset_of r) v is))) (λ w. w) (at_offset e (names_list r.pair.name) refl m)
  lists_so OfListIndex e l n m = ⊎_elim (λ no. absurd (false≢true (sym no ∙ loc_plain s (m.base + m.offset) v m.list))) (λ w. w) (at_index e m)
  lists_so _ e l n m = absurd n

  -- and it is the list that it names
  named_so : (l : NamedList) → NamesList s r l → IsListOf s b l
  named_so l n =
      let m = lists_so (class_of r.pair.form) refl l n means.value in
      subst (IsListOf s b) (one_list s r m.list l m.names n) m.is

-- ---- those of units

module _ (around : Around ℕ) where
  -- the list of an attribute of one of these units
  pub record OfUnits (raw : List RawUnit) (b : Attr ℕ) (l : NamedList) : Type 0 where
    pub u : RawUnit
    pub in_raw : In u raw
    pub is : IsListOf (scope_of around u) b l

  -- an attribute that is a list is one that is named
  record Found (s : MeaningContext ℕ) (Names : NamedList → Type 0) (b : Attr ℕ) : Type 0 where
    list : NamedList
    names : Names list
    is : IsListOf s b list

  attrs_found : (s : MeaningContext ℕ) (raw : List RawAttr) (attrs : List (Attr ℕ)) → MeanAttrs s raw attrs → (b : Attr ℕ) → In b attrs → in_list b.value.plain ≡ true → Found s (AnyNames s raw) b
  attrs_found s [] [] m b there e = absurd there
  attrs_found s [] (a ∷ attrs) m b there e = absurd m
  attrs_found s (r ∷ raw) [] m b there e = absurd m
  attrs_found s (r ∷ raw) (a ∷ attrs) m b (inl same) e =
      let w = made s r b (subst (MeansAttr s r) same m.0) e in
      record { list = w.list; names = inl w.names; is = w.is }
  attrs_found s (r ∷ raw) (a ∷ attrs) m b (inr later) e = let w = attrs_found s raw attrs m.1 b later e in record { list = w.list; names = inr w.names; is = w.is }

  entries_found : (s : MeaningContext ℕ) (f : Forest RawEntry) (g : Entries ℕ) → MeanEntries s f g → (b : Attr ℕ) → In b (entries_attrs g) → in_list b.value.plain ≡ true
      → Found s (AnyEntryNames s f) b
  unfolding entries_attrs
  entries_found s End End m b there e = absurd there
  entries_found s End (Entry d c n) m b there e = absurd m
  entries_found s (Entry r f f') End m b there e = absurd m
  entries_found s (Entry r f f') (Entry d c n) m b there e = ⊎_elim
      (λ own. (let w = attrs_found s (without_siblings r.attrs) d.attrs m.0.attrs b own e in record { list = w.list; names = inl w.names; is = w.is }))
      (λ rest. ⊎_elim
      (λ below. (let w = entries_found s f c m.1 b below e in record { list = w.list; names = inr (inl w.names); is = w.is }))
      (λ later. (let w = entries_found s f' n m.2 b later e in record { list = w.list; names = inr (inr w.names); is = w.is }))
      (in_cases b (entries_attrs c) (entries_attrs n) rest))
      (in_cases b d.attrs (entries_attrs c ++ entries_attrs n) there)

  record FoundIn (raw : List RawUnit) (b : Attr ℕ) : Type 0 where
    list : NamedList
    names : AnyUnitNames around raw list
    is : OfUnits raw b list

  units_found : (raw : List RawUnit) (said : List (DwUnit ℕ)) → MeanUnits around raw said → (b : Attr ℕ) → In b (units_attrs said) → in_list b.value.plain ≡ true → FoundIn raw b
  unfolding units_attrs unit_attrs
  units_found [] [] m b there e = absurd there
  units_found [] (v ∷ said) m b there e = absurd m
  units_found (u ∷ raw) [] m b there e = absurd m
  units_found (u ∷ raw) (v ∷ said) m b there e = ⊎_elim
      (λ own. ⊎_elim
      (λ root. (let w = attrs_found (scope_of around u) (without_siblings u.root.attrs) v.root.attrs m.0.root.attrs b root e in
      record { list = w.list; names = inl (inl w.names); is = record { u = u; in_raw = inl refl; is = w.is } }))
      (λ below. (let w = entries_found (scope_of around u) u.below v.below m.0.below b below e in
      record { list = w.list; names = inl (inr w.names); is = record { u = u; in_raw = inl refl; is = w.is } }))
      (in_cases b v.root.attrs (entries_attrs v.below) own))
      (λ later. (let w = units_found raw said m.1 b later e in record { list = w.list; names = inr w.names; is = record { u = w.is.u; in_raw = inr w.is.in_raw; is = w.is.is } }))
      (in_cases b (v.root.attrs ++ entries_attrs v.below) (units_attrs said) there)

  -- a list that is named is that of an attribute
  record Names (s : MeaningContext ℕ) (attrs : List (Attr ℕ)) (l : NamedList) : Type 0 where
    b : Attr ℕ
    there : In b attrs
    is : IsListOf s b l

  attrs_name : (s : MeaningContext ℕ) (raw : List RawAttr) (attrs : List (Attr ℕ)) → MeanAttrs s raw attrs → (l : NamedList) → AnyNames s raw l → Names s attrs l
  attrs_name s [] attrs m l n = absurd n
  attrs_name s (r ∷ raw) [] m l n = absurd m
  attrs_name s (r ∷ raw) (a ∷ attrs) m l (inl is) = record { b = a; there = inl refl; is = named_so s r a m.0 l is }
  attrs_name s (r ∷ raw) (a ∷ attrs) m l (inr later) = let w = attrs_name s raw attrs m.1 l later in record { b = w.b; there = inr w.there; is = w.is }

  entries_name : (s : MeaningContext ℕ) (f : Forest RawEntry) (g : Entries ℕ) → MeanEntries s f g → (l : NamedList) → AnyEntryNames s f l → Names s (entries_attrs g) l
  unfolding entries_attrs
  entries_name s End g m l n = absurd n
  entries_name s (Entry r f f') End m l n = absurd m
  entries_name s (Entry r f f') (Entry d c n') m l (inl is) = let w = attrs_name s (without_siblings r.attrs) d.attrs m.0.attrs l is in
      record { b = w.b; there = in_left w.b d.attrs (entries_attrs c ++ entries_attrs n') w.there; is = w.is }
  entries_name s (Entry r f f') (Entry d c n') m l (inr (inl below)) =
      let w = entries_name s f c m.1 l below in
      record { b = w.b; there = in_right w.b d.attrs (entries_attrs c ++ entries_attrs n') (in_left w.b (entries_attrs c) (entries_attrs n') w.there); is = w.is }
  entries_name s (Entry r f f') (Entry d c n') m l (inr (inr later)) =
      let w = entries_name s f' n' m.2 l later in
      record { b = w.b; there = in_right w.b d.attrs (entries_attrs c ++ entries_attrs n') (in_right w.b (entries_attrs c) (entries_attrs n') w.there); is = w.is }

  record NamesIn (raw : List RawUnit) (said : List (DwUnit ℕ)) (l : NamedList) : Type 0 where
    b : Attr ℕ
    there : In b (units_attrs said)
    is : OfUnits raw b l

  units_names : (raw : List RawUnit) (said : List (DwUnit ℕ)) → MeanUnits around raw said → (l : NamedList) → AnyUnitNames around raw l → NamesIn raw said l
  unfolding units_attrs unit_attrs
  units_names [] said m l n = absurd n
  units_names (u ∷ raw) [] m l n = absurd m
  units_names (u ∷ raw) (v ∷ said) m l (inl (inl is)) =
      let w = attrs_name (scope_of around u) (without_siblings u.root.attrs) v.root.attrs m.0.root.attrs l is in
      record {
        b = w.b;
        there = in_left w.b (v.root.attrs ++ entries_attrs v.below) (units_attrs said) (in_left w.b v.root.attrs (entries_attrs v.below) w.there);
        is =
            record { u = u; in_raw = inl refl; is = w.is };
      }
  units_names (u ∷ raw) (v ∷ said) m l (inl (inr below)) =
      let w = entries_name (scope_of around u) u.below v.below m.0.below l below in
      record {
        b = w.b;
        there = in_left w.b (v.root.attrs ++ entries_attrs v.below) (units_attrs said) (in_right w.b v.root.attrs (entries_attrs v.below) w.there);
        is =
            record { u = u; in_raw = inl refl; is = w.is };
      }
  units_names (u ∷ raw) (v ∷ said) m l (inr later) =
      let w = units_names raw said m.1 l later in
      record { b = w.b; there = in_right w.b (v.root.attrs ++ entries_attrs v.below) (units_attrs said) w.there; is = record { u = w.is.u; in_raw = inr w.is.in_raw; is = w.is.is } }

  module _ (raw : List RawUnit) (said : List (DwUnit ℕ)) (means : MeanUnits around raw said) where
    pub list_there : (b : Attr ℕ) → In b (units_attrs said) → in_list b.value.plain ≡ true → (l : NamedList) × In l (lists_of_units around raw) × OfUnits raw b l
    list_there b there e = let w = units_found raw said means b there e in (w.list, (units_name around raw w.list).1 w.names, w.is)

    pub list_from : (l : NamedList) → In l (lists_of_units around raw) → (b : Attr ℕ) × In b (units_attrs said) × OfUnits raw b l
    list_from l there = let w = units_names raw said means l ((units_name around raw l).0 there) in (w.b, w.there, w.is)
