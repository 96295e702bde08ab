-- The location lists that units name after are those that they named, with new numbers, so they share nothing.
use Rattle.std.proofs.Common.{◌≡◌, ℕ, ◌+◌, Bool, true, false, List, [], ◌∷◌, map, Option, Some, None, Result, Ok, Err, cond, refl, sym, ap, subst, ◌∙◌, inl, inr}
use Rattle.dwz_def_reading.specs.Entries.{RawAttr}
use Rattle.dwz_def_reading.specs.Lists.{Each, In}
use Rattle.dwz_def_reading.specs.Texts.{slot}
use Rattle.dwz_def_reading.specs.Trees.{End, Entry}
use Rattle.dwz_def_reading.proofs.ListFacts.{in_cases, in_left, in_map, in_right}
use Rattle.dwz_def_reading.specs.Fault.{Fault}
use Rattle.dwz_def_reading.specs.Documents.{Attr, DwUnit, Entries}
use Rattle.dwz_def_reading.specs.LocLists.{LocList}
use Rattle.dwz_def_reading.specs.Meanings.{Around, MeaningContext, loclists_base, number_of, offset_of, scope_of, without_siblings}
use Rattle.dwz_def_reading.specs.Classes.{OfListIndex, OfOffset, Class, class_of, names_list}
use Rattle.dwz_def_reading.specs.Meant.{list_read}
use Rattle.dwz_def_reading.specs.NamedLists.{AnyEntryNames, AnyNames, AnyUnitNames, NamesAs, NamesList, by_base, by_offset, list_of_attr, lists_as, lists_of_units, named_at, named_by}
use Rattle.dwz_def_reading.specs.PatchedLists.{named_with}
use Rattle.dwz_def_reading.specs.Shared.{IsShared, ListOperand, NamedList, NoneShared, of_unit, operands_in_lists, own_operands}
use Rattle.dwz_def_reading.proofs.NamedAgain.{none_again}
use Rattle.dwz_def_reading.proofs.NamedLemmas.{attr_is, units_name}
use Rattle.dwz_def_reading.proofs.DecideLemmas.{if_true}
use Rattle.dwz_def_reading.proofs.FoundLemmas.{lists_in}
use Rattle.dwz_def_tops.specs.Shown.{unit_keys, units_keys}
use Rattle.dwz_def_encoding.specs.Fitting.{AttrFits, EntriesFit, FitsAs, UnitFits}
use Rattle.dwz_def_encoding.specs.Meant.{AttrSays, EntriesSay, IsAround, ListSays, Own, SaysAs, Tells, UnitsSay, own_of}
use Rattle.dwz_def_encoding.specs.Sound.{SoundAttr, SoundEntries, SoundUnit}
use Rattle.dwz_def_encoding.specs.Writing.{DeclarationShape, Numbering, pair_of, stored, stored_as, table_of}
use Rattle.dwz_def_encoding.proofs.ListMeans.{list_again, unit_again}
use Rattle.dwz_def_encoding.proofs.RawUnits.{raw_attrs, raw_entries, raw_unit, raw_units}
use Rattle.dwz_def_encoding.proofs.ScopeIs.{IsScope}
use Rattle.dwz_def_encoding.proofs.UnitsMean.{all_stay, unit_scope}

-- ---- an attribute names one list

abbrev AtMostOne : {X : Type 0} → List X → Type 0
AtMostOne {X} xs = (x y : X) → In x xs → In y xs → x ≡ y

none_most : {X : Type 0} (x y : X) → In x [] → In y [] → x ≡ y
none_most x y p q = absurd p

module _ {P : Type 0} (s : MeaningContext P) where
  by_most : (o : Option ℕ) (place : ℕ) (r : Result LocList Fault) → AtMostOne (named_by s o place r)
  by_most o place (Ok l) x y (inl p) (inl q) = sym p ∙ q
  by_most o place (Ok l) x y (inl p) (inr q) = absurd q
  by_most o place (Ok l) x y (inr p) q = absurd p
  by_most o place (Err f) x y p q = absurd p

  offset_most : (base index : ℕ) (o : Option ℕ) → AtMostOne (by_offset s base index o)
  offset_most base index None = none_most
  offset_most base index (Some offset) = by_most _ (base + offset) (list_read s (base + offset))

  base_most : (index : ℕ) (o : Option ℕ) → AtMostOne (by_base s index o)
  base_most index None = none_most
  base_most index (Some base) = offset_most base index (slot s.around.sources.lists base index)

  cond_most : (b : Bool) (place : ℕ) → AtMostOne (cond b (named_at s None place) [])
  cond_most true place = by_most None place (list_read s place)
  cond_most false place = none_most

  as_most : (c : Class) (a : RawAttr) → AtMostOne (lists_as c s a)
  as_most OfOffset a = cond_most (names_list a.pair.name) (offset_of a)
  as_most OfListIndex a = base_most (offset_of a) (loclists_base s)
  as_most _ a = none_most

  attr_most : (a : RawAttr) → AtMostOne (list_of_attr s a)
  unfolding list_of_attr
  attr_most a = as_most (class_of a.pair.form) a

  one_named : (a : RawAttr) (l m : NamedList) → NamesList s a l → NamesList s a m → l ≡ m
  one_named a l m p q = attr_most a l m ((attr_is s a l).1 p) ((attr_is s a m).1 q)

-- ---- in the units that are written

module _ {K P : Type 0} (n : Numbering K) (g : K → P) (t : Tells K) (number : ℕ → ℕ) where
  -- it is one of the lists that were named, with its new numbers, in the unit where that stands
  pub record IsAgain (l : NamedList) : Type 0 where
    pub list : NamedList
    pub there : In list t.named
    pub is_it : named_with (λ u. n.place (t.name u u)) number list ≡ l

module _ {K P : Type 0} (n : Numbering K) (g : K → P) (unit : ℕ) (t : Tells K) (own : Own K) (s : MeaningContext P) (is : IsScope n g unit t own s) where
  abbrev Again : NamedList → Type 0
  Again l = IsAgain n g t is.lists.number l

  says_again : (a : Attr K) → FitsAs OfListIndex n unit a → (says : ListSays t own a) → (b : RawAttr) → b.pair ≡ pair_of a → number_of b.raw ≡ a.raw → (l : NamedList) → NamesList s b l → Again l
  says_again a fits says b pair raw l names =
      let named = list_again n g unit t own s is a says fits b (ap (λ p. p.form) pair) (ap (λ p. p.name) pair) raw in
      let units : n.place (t.name says.list.unit says.list.unit) ≡ s.unit = unit_again n g unit t own s is a says in
      let same : named_with (λ u. n.place (t.name u u)) is.lists.number says.list ≡ named_with (λ u. s.unit) is.lists.number says.list =
      ap (λ (u : ℕ). record { unit = u; from = says.list.from; slot = says.list.slot; list = (named_with (λ u. s.unit) is.lists.number says.list).list }) units in
      record { list = says.list; there = says.there; is_it = same ∙ one_named s b _ l named names }

  attr_again : (a : Attr K) (b : RawAttr) → b.pair ≡ pair_of a → b.raw ≡ stored n unit a → AttrFits n unit a → AttrSays t own a → (l : NamedList) → NamesList s b l → Again l
  attr_again a b pair raw fits says l names = by (class_of a.form) refl fits says raw (subst (λ (f : ℕ). NamesAs (class_of f) s b l) (ap (λ p. p.form) pair) names) where
    by : (c : Class) → class_of a.form ≡ c → FitsAs c n unit a → SaysAs c t own a → b.raw ≡ stored_as c n unit a → NamesAs c s b l → Again l
    by OfOffset e fits says raw' named =
        let name : names_list a.name ≡ true = ap names_list (sym (ap (λ p. p.name) pair)) ∙ named.0 in
        says_again a fits (if_true (names_list a.name) _ _ name says) b pair (ap number_of raw') l names
    by OfListIndex e fits says raw' named = says_again a fits says b pair (ap number_of raw') l names
    by _ e fits says raw' named = absurd named

  attrs_again : (attrs : List (Attr K)) (at : ℕ) → Each (AttrFits n unit) attrs → Each (AttrSays t own) attrs → (l : NamedList) → AnyNames s (raw_attrs n unit at attrs) l → Again l
  unfolding raw_attrs
  attrs_again [] at fits says l names = absurd names
  attrs_again (a ∷ attrs) at fits says l (inl x) = attr_again a _ refl refl fits.0 says.0 l x
  attrs_again (a ∷ attrs) at fits says l (inr r) = attrs_again attrs _ fits.1 says.1 l r

  node_again : (attrs : List (Attr K)) (at : ℕ) → Each SoundAttr attrs → Each (AttrFits n unit) attrs → Each (AttrSays t own) attrs → (l : NamedList)
      → AnyNames s (without_siblings (raw_attrs n unit at attrs)) l → Again l
  node_again attrs at sound fits says l names = attrs_again attrs at fits says l (subst (λ (w : List RawAttr). AnyNames s w l) (all_stay n unit attrs at sound) names)

  entries_again : (table : List DeclarationShape) (f : Entries K) → SoundEntries f → EntriesFit n unit f → EntriesSay t own f → (l : NamedList) → AnyEntryNames s (raw_entries n unit table f) l
      → Again l
  unfolding raw_entries
  entries_again table End sound fits says l names = absurd names
  entries_again table (Entry e children next) sound fits says l (inl x) = node_again e.attrs _ sound.0.attrs fits.0 says.0 l x
  entries_again table (Entry e children next) sound fits says l (inr (inl x)) = entries_again table children sound.1 fits.1 says.1 l x
  entries_again table (Entry e children next) sound fits says l (inr (inr x)) = entries_again table next sound.2 fits.2 says.2 l x

module _ {K P : Type 0} (n : Numbering K) (g : K → P) (tables : List (List ℕ)) (t : Tells K) (keys : List K) (around : Around P) (is : IsAround n g t keys around)
    (within : (k : K) → In k t.all → In k keys) where
  units_again : (units : List (DwUnit K)) → ((k : K) → In k (units_keys units) → In k keys) → Each SoundUnit units → Each (UnitFits n) units → UnitsSay t units → (l : NamedList)
      → AnyUnitNames around (raw_units n tables units) l → IsAgain n g t is.lists.number l
  unfolding raw_units units_keys unit_keys
  units_again [] inside sound fits says l names = absurd names
  units_again (u ∷ units) inside sound fits says l (inl x) =
      let unit = n.place u.at in
      let s = scope_of around (raw_unit n tables u) in
      let scope = unit_scope n g tables t keys around is within u (λ k there. inside k (in_left k (unit_keys u) (units_keys units) (inr there))) in
      elim x [
        | inl a ↦ node_again n g unit t (own_of u) s scope u.root.attrs _ sound.0.root.attrs fits.0.root says.0.root l a
        | inr b ↦ entries_again n g unit t (own_of u) s scope (table_of u) u.below sound.0.below fits.0.below says.0.below l b
      ]
  units_again (u ∷ units) inside sound fits says l (inr r) = units_again units (λ k there. inside k (in_right k (unit_keys u) (units_keys units) there)) sound.1 fits.1 says.1 l r

-- ---- fewer lists share no more

module _ (few many : List NamedList) (into : (l : NamedList) → In l few → In l many) where
  operands_into : (some : List NamedList) → ((l : NamedList) → In l some → In l many) → (o : ListOperand) → In o (operands_in_lists some) → In o (operands_in_lists many)
  unfolding operands_in_lists
  operands_into [] to o h = absurd h
  operands_into (l ∷ some) to o h = elim (in_cases o (map (of_unit l.unit) (own_operands l)) (operands_in_lists some) h) [
    | inl a ↦ lists_in many l o (to l (inl refl)) a
    | inr b ↦ operands_into some (λ m there. to m (inr there)) o b
  ]

  shared_into : (o : ListOperand) → IsShared few o → IsShared many o
  shared_into o (inl c) = inl (c.0, operands_into few into c.0 c.1, c.2)
  shared_into o (inr (inl r)) = inr (inl (r.0, into r.0 r.1, r.2))
  shared_into o (inr (inr r)) = inr (inr (r.0, into r.0 r.1, r.2))

  pub none_fewer : NoneShared many → NoneShared few
  none_fewer none place h = none place (h.0, operands_into few into h.0 h.1, (h.2.0, shared_into h.0 h.2.1))

-- so the lists that the units name share nothing
pub units_share_none : {K P : Type 0} (n : Numbering K) (g : K → P) (tables : List (List ℕ)) (t : Tells K) (keys : List K) (around : Around P) → IsAround n g t keys around
    → ((k : K) → In k t.all → In k keys)
    → (units : List (DwUnit K)) → ((k : K) → In k (units_keys units) → In k keys) → Each SoundUnit units → Each (UnitFits n) units → UnitsSay t units
    → NoneShared (lists_of_units around (raw_units n tables units))
units_share_none {K} n g tables t keys around is within units inside sound fits says =
    let unit : ℕ → ℕ = λ u. n.place (t.name u u) in
    let all = map (named_with unit is.lists.number) t.named in
    none_fewer (lists_of_units around (raw_units n tables units)) all
    (λ l there.
    (let o = units_again n g tables t keys around is within units inside sound fits says l ((units_name around (raw_units n tables units) l).0 there) in
    subst (λ (m : NamedList). In m all) o.is_it (in_map (named_with unit is.lists.number) o.list t.named o.there)))
    (none_again unit is.lists.number t.named is.none_shared)
