-- The operands of what is read name entries of their unit, or of their file, as their numbers are counted.
use Rattle.std.proofs.Common.{◌≡◌, ℕ, ◌+◌, Bool, true, false, List, [], ◌∷◌, ◌++◌, map, refl, sym, ap, subst, ◌∙◌, inl, inr}
use Rattle.std.proofs.lemmas.List.{map-append}
use Rattle.dwz_def_reading.specs.Base.{Base}
use Rattle.dwz_def_reading.specs.Base.TheVariants.{Unit as FromUnit, Info as FromInfo}
use Rattle.dwz_def_reading.specs.Entries.{RawAttr, RawEntry}
use Rattle.dwz_def_reading.specs.Lists.{Each, In}
use Rattle.dwz_def_reading.specs.Rows.{has}
use Rattle.dwz_def_reading.specs.Trees.{End, Entry, Forest}
use Rattle.dwz_def_reading.specs.Units.{RawUnit}
use Rattle.dwz_def_reading.specs.declared.exprs.Operand.{Operand}
use Rattle.dwz_def_reading.specs.Documents.{Attr, DwUnit, Entries, Part, Value}
use Rattle.dwz_def_reading.specs.Exprs.{AreNamed, Expression, parts_from, parts_of}
use Rattle.dwz_def_reading.specs.Meanings.{IfSo, IsExpression, IsListBySlot, IsLocList, MeanAttrs, MeanEntries, MeanUnits, MeansAs, MeansAttr, MeansUnit}
use Rattle.dwz_def_reading.specs.Classes.{OfExpression, OfListIndex, OfOffset, Class, class_of, names_list}
use Rattle.dwz_def_reading.specs.Meanings.{MeaningContext, Sources, all_places, entries_for, expr_context, leads_to, loc_value, loclists_base, offset_of, places_of, scope_of, target_of}
use Rattle.dwz_def_reading.specs.Meanings.{targets, without_siblings}
use Rattle.dwz_def_reading.specs.NamedLists.{AnyEntryNames, AnyNames, AnyUnitNames, NamesAs, NamesList, lists_of_units}
use Rattle.dwz_def_reading.specs.Shared.{NamedList, operands_of, own_operands}
use Rattle.dwz_def_reading.proofs.MeaningLemmas.{has_in}
use Rattle.dwz_def_reading.proofs.NamedLemmas.{units_name}
use Rattle.dwz_def_reading.proofs.DecideLemmas.{if_true}
use Rattle.dwz_def_tops.specs.Alike.{joined_parts}
use Rattle.dwz_def_tops.specs.Shown.{keys}
use Rattle.dwz_def_encoding.specs.Bases.{Bases}
use Rattle.dwz_def_encoding.specs.Carried.{AttrOperands, ExprIn, OperandsStand, OperandsStandAs}
use Rattle.dwz_def_encoding.specs.Fitting.{EachAttr}
use Rattle.dwz_def_encoding.specs.Meant.{ListSays, OperandIn, OperandsIn, Own, Tells, all_entry_keys, entry_keys, led_to, own_of, place_counted}
use Rattle.dwz_def_encoding.proofs.ReadAgain.{bases_read}
use Rattle.dwz_def_readback.proofs.ReadBuilt.{own}
use Rattle.dwz_def_reading.proofs.ReadNamed.{expr_named, list_named}
use Rattle.dwz_def_readback.proofs.ReadPlaces.{entries_places}

-- ---- in a unit that is read

-- all entries of a file, and those of the unit, are known, and its location lists
record Knows (t : Tells ℕ) (w : Own ℕ) (s : MeaningContext ℕ) : Type 0 where
  place : s.around.place ≡ (λ n. n)
  own : (n : ℕ) → In n s.own → In n w.keys
  all : (n : ℕ) → In n s.around.all → In n t.all
  lists : s.around.sources.lists ≡ t.lists
  name : (unit n : ℕ) → t.name unit n ≡ n
  at : s.unit ≡ w.at
  base : loclists_base s ≡ w.bases.lists

named_split : (names : Operand → Bool) (a b : List Operand) → AreNamed names (a ++ b) → AreNamed names a × AreNamed names b
named_split names [] b h = (tt, h)
named_split names (o ∷ a) b h = (let r = named_split names a b h.1 in ((h.0, r.0), r.1))

module _ (t : Tells ℕ) (w : Own ℕ) (s : MeaningContext ℕ) (knows : Knows t w s) where
  abbrev Named : List Operand → Type 0
  Named os = AreNamed (λ o. has (target_of s o) (entries_for s o.base)) os

  operand_read : (base : Base) (n : ℕ) → has n (entries_for s base) ≡ true → OperandIn t w base n
  operand_read FromUnit n h = knows.own n (has_in n s.own h)
  operand_read FromInfo n h = knows.all n (has_in n s.around.all h)

  one_read : (o : Operand) → has (target_of s o) (entries_for s o.base) ≡ true → OperandIn t w o.base (s.around.place (target_of s o))
  one_read o h = subst (OperandIn t w o.base) (ap (λ (f : ℕ → ℕ). f (target_of s o)) (sym knows.place)) (operand_read o.base (target_of s o) h)

  parts_read : (os : List Operand) (at : ℕ) (bytes : List ℕ) → Named os → OperandsIn t w (parts_from at bytes os) (targets s os)
  unfolding parts_from
  parts_read [] at bytes named = tt
  parts_read (o ∷ os) at bytes named = (one_read o named.0, parts_read os _ _ named.1)

  parts_before : (os : List Operand) (at : ℕ) (bytes : List ℕ) (rest : List Part) (refs : List ℕ) → Named os → OperandsIn t w rest refs
      → OperandsIn t w (parts_from at bytes os ++ rest) (targets s os ++ refs)
  unfolding parts_from
  parts_before [] at bytes rest refs named h = h
  parts_before (o ∷ os) at bytes rest refs named h = (one_read o named.0, parts_before os _ _ rest refs named.1 h)

  expr_read : (a : RawAttr) (v : Value ℕ) → IsExpression s a v → ExprIn t w v.plain v.refs
  expr_read a v m =
      subst (λ (x : Value ℕ). ExprIn t w x.plain x.refs) (sym m.value) (parts_read m.expression.operands m.expression.at m.expression.bytes (expr_named (expr_context s 1) m.expression _ _ m.spelled))

  -- ---- location lists

  exprs_read : (exprs : List Expression) → Named (operands_of exprs) → OperandsIn t w (joined_parts (map parts_of exprs)) (targets s (operands_of exprs))
  unfolding joined_parts operands_of
  exprs_read [] named = tt
  exprs_read (e ∷ exprs) named =
      let both = named_split (λ o. has (target_of s o) (entries_for s o.base)) e.operands (operands_of exprs) named in
      subst (OperandsIn t w (joined_parts (map parts_of (e ∷ exprs)))) (sym (map-append (λ o. s.around.place (target_of s o)) e.operands (operands_of exprs)))
      (parts_before e.operands e.at e.bytes (joined_parts (map parts_of exprs)) (targets s (operands_of exprs)) both.0 (exprs_read exprs both.1))

  leads_same : (base : Base) (number : ℕ) → leads_to s base number ≡ place_counted base s.unit number
  leads_same FromUnit number = refl
  leads_same FromInfo number = refl

  refs_same : (unit : ℕ) → unit ≡ s.unit → (os : List Operand) → targets s os ≡ map (λ o. t.name unit (led_to unit o)) os
  refs_same unit e [] = refl
  refs_same unit e (o ∷ os) =
      let one : s.around.place (target_of s o) ≡ t.name unit (led_to unit o) =
      ap (λ (f : ℕ → ℕ). f (target_of s o)) knows.place ∙ leads_same o.base o.number ∙ ap (λ (u : ℕ). place_counted o.base u o.number) (sym e) ∙ sym (knows.name unit (led_to unit o)) in
      ap (λ (k : ℕ). k ∷ targets s os) one ∙ ap (λ (ks : List ℕ). t.name unit (led_to unit o) ∷ ks) (refs_same unit e os)

  list_says : (r : RawAttr) (b : Attr ℕ) → MeansAttr s r b → (l : NamedList) → l.unit ≡ s.unit → NamesList s r l → In l t.named → b.value ≡ loc_value s l.list → Named (own_operands l) → ListSays t w b
  list_says r b means l unit names there value named = record {
    scope = s;
    section = knows.lists;
    base = knows.base;
    unit = knows.name s.unit s.unit ∙ knows.at;
    old = r;
    name = sym means.name;
    form = sym means.form;
    raw = sym means.raw;
    list = l;
    there = there;
    names = names;
    plain = ap (λ (v : Value ℕ). v.plain) value;
    address = ap (λ (v : Value ℕ). v.address) value;
    refs = ap (λ (v : Value ℕ). v.refs) value ∙ refs_same l.unit unit (own_operands l);
    operands = subst (OperandsIn t w (joined_parts (map parts_of l.list.exprs))) (sym (ap (λ (v : Value ℕ). v.refs) value)) (exprs_read l.list.exprs named);
  }

  named_in : (place : ℕ) (v : Value ℕ) → (m : IsLocList s place v) → Named (operands_of m.list.exprs)
  named_in place v m = list_named (expr_context s 7) m.list place m.stands.front m.stands.spelled

  module _ (r : RawAttr) (b : Attr ℕ) (means : MeansAttr s r b) (into : (l : NamedList) → NamesList s r l → In l t.named) where
    offset_read : class_of r.pair.form ≡ OfOffset → (x : Bool) → names_list r.pair.name ≡ x → MeansAs OfOffset s r b.value → IfSo x (ListSays t w b) (Unit {0})
    offset_read e false names m = tt
    offset_read e true names m =
        let is = if_true (names_list r.pair.name) _ _ names m in
        let l : NamedList = record { unit = s.unit; from = offset_of r; slot = _; list = is.list } in
        let named : NamesList s r l = subst (λ (c : Class). NamesAs c s r l) (sym e) (names, record { unit = refl; from = refl; slot_is = refl; within = is.within; stands = is.stands }) in
        list_says r b means l refl named (into l named) is.value (named_in (offset_of r) b.value is)

    index_read : class_of r.pair.form ≡ OfListIndex → IsListBySlot s (offset_of r) b.value → ListSays t w b
    index_read e is =
        let l : NamedList = record { unit = s.unit; from = is.base + is.offset; slot = _; list = is.list.list } in
        let named : NamesList s r l = subst (λ (c : Class). NamesAs c s r l) (sym e)
        (record {
          base = is.base;
          is_base = is.is_base;
          offset = is.offset;
          slot = is.slot;
          named = record { unit = refl; from = refl; slot_is = refl; within = is.list.within; stands = is.list.stands };
        }) in
        list_says r b means l refl named (into l named) is.list.value (named_in (is.base + is.offset) b.value is.list)

    attr_read : AttrOperands t w b
    attr_read = subst (λ (form : ℕ). OperandsStandAs (class_of form) t w b) (sym means.form) (by (class_of r.pair.form) refl means.value) where
      by : (c : Class) → class_of r.pair.form ≡ c → MeansAs c s r b.value → OperandsStandAs c t w b
      by OfExpression e m = expr_read r b.value m
      by OfOffset e m = subst (λ (name : ℕ). IfSo (names_list name) (ListSays t w b) (Unit {0})) (sym means.name) (offset_read e (names_list r.pair.name) refl m)
      by OfListIndex e m = index_read e m
      by _ e m = tt

  attrs_read : (raw : List RawAttr) (attrs : List (Attr ℕ)) → ((l : NamedList) → AnyNames s raw l → In l t.named) → MeanAttrs s raw attrs → Each (AttrOperands t w) attrs
  attrs_read [] [] into h = tt
  attrs_read (r ∷ raw) (b ∷ attrs) into h = (attr_read r b h.0 (λ l x. into l (inl x)), attrs_read raw attrs (λ l x. into l (inr x)) h.1)
  attrs_read _ _ into h = absurd h

  entries_read : (f : Forest RawEntry) (g : Entries ℕ) → ((l : NamedList) → AnyEntryNames s f l → In l t.named) → MeanEntries s f g → EachAttr (AttrOperands t w) g
  entries_read End End into h = tt
  entries_read (Entry r f f') (Entry d g g') into h =
      (attrs_read (without_siblings r.attrs) d.attrs (λ l x. into l (inl x)) h.0.attrs, entries_read f g (λ l x. into l (inr (inl x))) h.1, entries_read f' g' (λ l x. into l (inr (inr x))) h.2)
  entries_read _ _ into h = absurd h

-- ---- in a file that is read

-- what is told of a file is its location lists, the names of places, and its entries
abbrev pub reading : {K : Type 0} → List ℕ → List NamedList → (ℕ → K) → List K → Tells K
reading lists named name all = record { strs = []; line_strs = []; offsets = []; line = []; common_strs = []; lists = lists; named = named; name = λ unit. name; all = all; common = [] }

-- the lists that the units of a file name
abbrev pub lists_in : Sources → List RawUnit → List NamedList
lists_in sources raw = lists_of_units (own sources (all_places raw)) raw

module _ (sources : Sources) (all : List ℕ) where
  entries_of : (u : RawUnit) (v : DwUnit ℕ) → MeansUnit (own sources all) u v → entry_keys v ≡ places_of u
  entries_of u v h = ap (λ (w : ℕ). w ∷ keys v.below) h.root.place ∙ ap (λ (w : List ℕ). u.root.at ∷ w) (entries_places (scope_of (own sources all) u) u.below v.below refl h.below)

  module _ (named : List NamedList) (whole : List ℕ) (same : all ≡ whole) where
    abbrev told : Tells ℕ
    told = reading sources.lists named (λ n. n) whole

    unit_read : (u : RawUnit) (v : DwUnit ℕ) → ((l : NamedList) → AnyUnitNames (own sources all) (u ∷ []) l → In l named) → MeansUnit (own sources all) u v → OperandsStand told v
    unit_read u v into h =
        let s = scope_of (own sources all) u in
        let knows : Knows told (own_of v) s = record {
          place = refl;
          own = λ n is. subst (In n) (sym (entries_of u v h)) is;
          all = λ n is. subst (In n) same is;
          lists = refl;
          name = λ unit n. refl;
          at = sym h.place;
          base = ap (λ (b : Bases). b.lists) (bases_read s v.root.attrs h.root.attrs);
        } in (
          attrs_read told (own_of v) s knows (without_siblings u.root.attrs) v.root.attrs (λ l x. into l (inl (inl x))) h.root.attrs,
          entries_read told (own_of v) s knows u.below v.below (λ l x. into l (inl (inr x))) h.below,
        )

    units_read : (raw : List RawUnit) (units : List (DwUnit ℕ)) → ((l : NamedList) → AnyUnitNames (own sources all) raw l → In l named) → MeanUnits (own sources all) raw units
        → Each (OperandsStand told) units
    units_read [] [] into h = tt
    units_read (u ∷ raw) (v ∷ units) into h = (unit_read u v (λ l x. into l (elim x [ inl y ↦ inl y | inr z ↦ absurd z ])) h.0, units_read raw units (λ l x. into l (inr x)) h.1)
    units_read _ _ into h = absurd h

  all_of : (raw : List RawUnit) (units : List (DwUnit ℕ)) → MeanUnits (own sources all) raw units → all_places raw ≡ all_entry_keys units
  unfolding all_places all_entry_keys
  all_of [] [] h = refl
  all_of (u ∷ raw) (v ∷ units) h = ap (λ (w : List ℕ). w ++ all_places raw) (sym (entries_of u v h.0)) ∙ ap (λ (w : List ℕ). entry_keys v ++ w) (all_of raw units h.1)
  all_of _ _ h = absurd h

-- the operands of a file name its entries
abbrev pub OperandsRead : Sources → List RawUnit → List (DwUnit ℕ) → Type 0
OperandsRead sources raw units = Each (OperandsStand (reading sources.lists (lists_in sources raw) (λ n. n) (all_entry_keys units))) units

pub file_read : (sources : Sources) (raw : List RawUnit) (units : List (DwUnit ℕ)) → MeanUnits (own sources (all_places raw)) raw units → OperandsRead sources raw units
file_read sources raw units h =
    units_read sources (all_places raw) (lists_in sources raw) (all_entry_keys units) (all_of sources (all_places raw) raw units h) raw units
    (λ l x. (units_name (own sources (all_places raw)) raw l).1 x) h
