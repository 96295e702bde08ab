-- Each value of a new unit is sound, and says what its form says.
use Rattle.std.proofs.Common.{◌≡◌, ◌⊎◌, ℕ, ◌+◌, ◌<◌, ◌≤◌, true, false, List, [], ◌∷◌, ◌++◌, ◌==◌, map, Some, None, refl, sym, ap, subst, ◌∙◌, arith, inl, inr}
use Rattle.std.proofs.lemmas.Bool.{eq-eqb}
use Rattle.dwz_def_reading.specs.Lists.{Each, In, Nth}
use Rattle.dwz_def_reading.specs.Base.{Base}
use Rattle.dwz_def_reading.specs.Base.TheVariants.{Unit as FromUnit, Info as FromInfo}
use Rattle.dwz_def_reading.proofs.ListFacts.{in_map}
use Rattle.dwz_def_reading.proofs.Members.{each_in, nth_get}
use Rattle.dwz_def_reading.specs.Rows.{has}
use Rattle.dwz_def_reading.specs.Classes.{Class, OfCommonEntry, OfCommonText, OfExpression, OfListIndex, OfOffset, class_of, names_list}
use Rattle.dwz_def_reading.specs.Documents.{Attr, DwUnit, Expr, Node, Part, Plain, Text, Value, attr_map, only, ref, value_map}
use Rattle.dwz_def_reading.specs.Exprs.{AreNamed, Expression, parts_from, parts_of}
use Rattle.dwz_def_reading.specs.Files.{sources_of}
use Rattle.dwz_def_reading.specs.Meanings.{IsExpression, MeaningContext, MeansAs, Sources, entries_for, expr_context, loc_value, offset_of, scope_of, target_of, targets}
use Rattle.dwz_def_reading.specs.Modes.{binding_forms}
use Rattle.dwz_def_reading.specs.NamedLists.{NamesAs, NamesList}
use Rattle.dwz_def_reading.specs.Places.{Place, at_file}
use Rattle.dwz_def_reading.specs.Shared.{NamedList, operands_of, own_operands}
use Rattle.dwz_def_reading.specs.Units.{root_tag}
use Rattle.dwz_def_reading.specs.declared.exprs.Operand.{Operand}
use Rattle.dwz_def_reading.proofs.MeaningLemmas.{has_in}
use Rattle.dwz_def_reading.proofs.NamedLemmas.{attr_is}
use Rattle.dwz_def_reading.proofs.ReadNamed.{expr_named, list_named}
use Rattle.dwz_def_reading.proofs.DecideLemmas.{if_true}
use Rattle.dwz_def_tops.specs.Alike.{joined_parts}
use Rattle.dwz_def_tops.specs.Shown.{keys}
use Rattle.dwz_def_encoding.specs.Bases.{Bases, bases_of}
use Rattle.dwz_def_encoding.specs.Carried.{ExprIn, OfFile}
use Rattle.dwz_def_encoding.specs.Meant.{ListSays, OperandIn, OperandsIn, Own, Tells, entry_keys, led_to, own_of, place_counted}
use Rattle.dwz_def_encoding.specs.Placing.{with_form}
use Rattle.dwz_def_encoding.proofs.Carrying.{Computed, Listed, came_is}
use Rattle.dwz_def_encoding.proofs.ChosenTexts.{Good}
use Rattle.dwz_def_encoding.proofs.ReadAgain.{keys_read}
use Rattle.dwz_def_cross.specs.Tops.{whole_units}
use Rattle.dwz_def_expand.specs.Chosen.{chosen_as, chosen_attr, paths_at, paths_of_unit}
use Rattle.dwz_def_expand.specs.OneFile.{OneFile, ReadsOne, around, part, said_by_file, same_place}
use Rattle.dwz_def_expand.specs.Output.{forms, number_of_unit, sites_of_file, sources_by_file}
use Rattle.dwz_def_expand.specs.Refusals.{AllCopied, CanCopy, IsLost, nodes, sites}
use Rattle.dwz_def_expand.specs.Source.{Copy, copy, copy_for, source_units}
use Rattle.dwz_def_expand.proofs.FileLemmas.{test}
use Rattle.dwz_law_expand.specs.Told.{IsOfBytes, told}
use Rattle.dwz_law_expand.proofs.CameLemmas.{came}
use Rattle.dwz_law_expand.proofs.CopyLemmas.{in_file, in_unit, stands_there}
use Rattle.dwz_law_expand.proofs.FoundLemmas.{AttrSaid, attr_said, found_attr}
use Rattle.dwz_law_expand.proofs.GoodLemmas.{Asked, GoodName, PathsOf, StandsThere, entry_good, kind_good, string_good, text_bytes}
use Rattle.dwz_law_expand.proofs.HeldLemmas.{IsFree}
use Rattle.dwz_law_expand.proofs.OriginLemmas.{Origin, apart, new, own_bases, places, source_at, w}
use Rattle.dwz_law_expand.proofs.SiteLemmas.{site, site_from}
use Rattle.dwz_law_expand.proofs.ListLemmas.{class_bound, common_strs, in_places, is_list_class, leads_same, list_site, listed_class, names_too, which}

module _ (f : OneFile) (reads : ReadsOne f) (bytes : IsOfBytes f) (copied : AllCopied same_place (forms f) (said_by_file f)) (n : ℕ) (su : DwUnit Place) (nth : Nth 0 (source_units same_place (said_by_file f)) n su) (d : Node Place)
    (is_source : In d (su.root ∷ nodes su.below)) (origin : Origin f reads bytes n su d) (i : ℕ) (a : Attr Place) (attr_nth : Nth 0 d.attrs i a) where
  abbrev pub g : Place → Copy Place
  g = copy_for same_place (places f reads bytes) n

  abbrev pub s : MeaningContext Place
  s = scope_of (around f origin.number) origin.raw

  abbrev pub t : Tells (Copy Place)
  t = told f

  abbrev pub own : Own (Copy Place)
  own = own_of (new f reads bytes n su)

  abbrev pub b : Attr (Copy Place)
  b = attr_map g a

  pub x : AttrSaid s (IsFree (root_tag origin.raw.kind) origin.root) origin.node.raw i a
  x = attr_said s (IsFree (root_tag origin.raw.kind) origin.root) origin.raw d origin.node i a attr_nth

  pub site_there : In (site n d.at i a) (sites same_place (said_by_file f))
  site_there = site_from 0 (source_units same_place (said_by_file f)) n su nth d is_source i a attr_nth

  pub can : CanCopy same_place (places f reads bytes) (forms f) (site n d.at i a)
  can = each_in (CanCopy same_place (places f reads bytes) (forms f)) (site n d.at i a) (sites same_place (said_by_file f)) copied site_there

  abbrev Kept : Place → Type 0
  Kept p = ¬ IsLost same_place (places f reads bytes) n p

  -- ---- operands

  own_keys : entry_keys origin.unit ≡ map s.around.place s.own
  own_keys =
      ap (λ (p : Place). p ∷ keys origin.unit.below) origin.said.means.root.place
      ∙ ap (λ (ks : List Place). s.around.place origin.raw.root.at ∷ ks) (keys_read s origin.raw.below origin.unit.below origin.said.means.below)

  operand_in : (base : Base) (m : ℕ) → has m (entries_for s base) ≡ true → Kept (s.around.place m) → OperandIn t own base (g (s.around.place m))
  operand_in FromUnit m is kept =
      let key : In (s.around.place m) (entry_keys origin.unit) = subst (λ (ks : List Place). In (s.around.place m) ks) (sym own_keys) (in_map s.around.place m s.own (has_in m s.own is)) in
      in_unit same_place test (w f reads bytes) (apart f reads bytes) (forms f) n su nth (s.around.place m) (origin.here (s.around.place m) key kept)
  operand_in FromInfo m is kept = in_file same_place test (w f reads bytes) (apart f reads bytes) (forms f) n (s.around.place m) kept

  abbrev Named : List Operand → Type 0
  Named os = AreNamed (λ o. has (target_of s o) (entries_for s o.base)) os

  parts_in : (os : List Operand) (at : ℕ) (bs : List ℕ) → Named os → Each Kept (targets s os) → OperandsIn t own (parts_from at bs os) (map g (targets s os))
  unfolding parts_from
  parts_in [] at bs named kept = tt
  parts_in (o ∷ os) at bs named kept = (operand_in o.base (target_of s o) named.0 kept.0, parts_in os _ _ named.1 kept.1)

  parts_before : (os : List Operand) (at : ℕ) (bs : List ℕ) (rest : List Part) (refs : List (Copy Place)) → Named os → Each Kept (targets s os) → OperandsIn t own rest refs
      → OperandsIn t own (parts_from at bs os ++ rest) (map g (targets s os) ++ refs)
  unfolding parts_from
  parts_before [] at bs rest refs named kept h = h
  parts_before (o ∷ os) at bs rest refs named kept h = (operand_in o.base (target_of s o) named.0 kept.0, parts_before os _ _ rest refs named.1 kept.1 h)

  named_split : (xs ys : List Operand) → Named (xs ++ ys) → Named xs × Named ys
  named_split [] ys h = (tt, h)
  named_split (o ∷ xs) ys h = (let r = named_split xs ys h.1 in ((h.0, r.0), r.1))

  kept_split : (xs ys : List Operand) → Each Kept (targets s (xs ++ ys)) → Each Kept (targets s xs) × Each Kept (targets s ys)
  kept_split [] ys h = (tt, h)
  kept_split (o ∷ xs) ys h = (let r = kept_split xs ys h.1 in ((h.0, r.0), r.1))

  joined_targets : (xs ys : List Operand) → map g (targets s (xs ++ ys)) ≡ map g (targets s xs) ++ map g (targets s ys)
  joined_targets [] ys = refl
  joined_targets (o ∷ xs) ys = ap (λ (ks : List (Copy Place)). g (s.around.place (target_of s o)) ∷ ks) (joined_targets xs ys)

  exprs_in : (exprs : List Expression) → Named (operands_of exprs) → Each Kept (targets s (operands_of exprs)) → OperandsIn t own (joined_parts (map parts_of exprs)) (map g (targets s (operands_of exprs)))
  unfolding joined_parts operands_of
  exprs_in [] named kept = tt
  exprs_in (e ∷ exprs) named kept =
      let both = named_split e.operands (operands_of exprs) named in
      let keeps = kept_split e.operands (operands_of exprs) kept in
      subst (OperandsIn t own (joined_parts (map parts_of (e ∷ exprs)))) (sym (joined_targets e.operands (operands_of exprs)))
      (parts_before e.operands e.at e.bytes (joined_parts (map parts_of exprs)) (map g (targets s (operands_of exprs))) both.0 keeps.0 (exprs_in exprs both.1 keeps.1))

  -- those of an expression
  expr_in : IsExpression s x.old a.value → ExprIn t own b.value.plain b.value.refs
  expr_in m =
      let plain : a.value.plain ≡ Expr (parts_of m.expression) = ap (λ (v : Value Place). v.plain) m.value in
      let refs : a.value.refs ≡ targets s m.expression.operands = ap (λ (v : Value Place). v.refs) m.value in
      let named = expr_named (expr_context s 1) m.expression _ _ m.spelled in
      let kept = subst (Each Kept) refs can.imported in
      subst (λ (p : Plain). ExprIn t own p (map g a.value.refs)) (sym plain)
      (subst (λ (ks : List Place). OperandsIn t own (parts_of m.expression) (map g ks)) (sym refs) (parts_in m.expression.operands m.expression.at m.expression.bytes named kept))

  pub class_old : class_of x.old.pair.form ≡ class_of a.form
  class_old = ap class_of (sym x.means.form)

  pub value_as : (k : Class) → class_of a.form ≡ k → MeansAs k s x.old a.value
  value_as k e = subst (λ (q : Class). MeansAs q s x.old a.value) (class_old ∙ e) x.means.value

  computed_in : (k : Computed b) → OperandsIn t own (parts_of k.expression) b.value.refs
  computed_in k = subst (λ (p : Plain). ExprIn t own p b.value.refs) k.plain (expr_in (value_as OfExpression k.class))

  -- ---- location lists

  -- in a unit that isn't partial
  abbrev pub IsOwnList : Type 0
  IsOwnList = (origin.number ≡ 0) × (number_of_unit f origin.raw.at ≡ n) × (su.at ≡ at_file 0 origin.raw.at) × (own.bases ≡ bases_of s)

  name_is : IsOwnList → (unit m : ℕ) → unit ≡ s.unit → t.name unit m ≡ g (at_file 0 m)
  name_is is unit m e = ap (λ (k : ℕ). copy_for same_place (sources_by_file f) k (at_file 0 m)) (ap (number_of_unit f) e ∙ is.1)

  pub place_is : IsOwnList → (m : ℕ) → s.around.place m ≡ at_file 0 m
  place_is is m = ap (λ (h : ℕ → Place). h m) origin.said.place ∙ ap (λ (k : ℕ). at_file k m) is.0

  refs_named : IsOwnList → (unit : ℕ) → unit ≡ s.unit → (os : List Operand) → map g (targets s os) ≡ map (λ o. t.name unit (led_to unit o)) os
  refs_named is unit e [] = refl
  refs_named is unit e (o ∷ os) =
      let one : g (s.around.place (target_of s o)) ≡ t.name unit (led_to unit o) =
      ap g (place_is is (target_of s o)) ∙ ap (λ (m : ℕ). g (at_file 0 m)) (leads_same s o.base o.number ∙ ap (λ (u : ℕ). place_counted o.base u o.number) (sym e)) ∙ sym (name_is is unit (led_to unit o) e) in
      ap (λ (k : Copy Place). k ∷ map g (targets s os)) one ∙ ap (λ (ks : List (Copy Place)). t.name unit (led_to unit o) ∷ ks) (refs_named is unit e os)

  list_told : IsOwnList → (l : NamedList) → NamesList s x.old l → In l t.named
  list_told is l names =
      let at : d.at ≡ at_file origin.number origin.node.raw.at = origin.node.means.place ∙ ap (λ (h : ℕ → Place). h origin.node.raw.at) origin.said.place in
      let zero_file : (d.at.file == 0) ≡ true = eq-eqb d.at.file 0 (ap (λ (p : Place). p.file) at ∙ is.0) in
      let found = found_attr f reads origin.number origin.raw origin.unit origin.said (IsFree (root_tag origin.raw.kind) origin.root) d origin.node i a x in
      list_site f (sites_of_file f) (site n d.at i a) site_there zero_file (record { scope = s; attr = x.old }) found l ((attr_is s x.old l).1 names)

  list_says : IsOwnList → (l : NamedList) → l.unit ≡ s.unit → NamesList s x.old l → a.value ≡ loc_value s l.list → Named (own_operands l) → ListSays t own b
  list_says is l unit names value named =
      let refs : a.value.refs ≡ targets s (own_operands l) = ap (λ (v : Value Place). v.refs) value in
      let kept = subst (Each Kept) refs can.imported in
      record {
        scope = in_places s;
        section = ap (λ (q : Sources). q.lists) origin.said.sources ∙ ap (λ (k : ℕ). (sources_of (part f k).bytes).lists) is.0;
        base = sym (ap (λ (q : Bases). q.lists) is.3);
        unit = name_is is s.unit s.unit refl ∙ ap g (sym is.2);
        old = x.old;
        name = sym x.means.name;
        form = sym x.means.form;
        raw = sym x.means.raw;
        list = l;
        there = list_told is l names;
        names = names_too s (class_of x.old.pair.form) x.old l names;
        plain = ap (λ (v : Value Place). v.plain) value;
        address = ap (λ (v : Value Place). v.address) value;
        refs = ap (map g) refs ∙ refs_named is l.unit unit (own_operands l);
        operands = subst (λ (ks : List Place). OperandsIn t own (joined_parts (map parts_of l.list.exprs)) (map g ks)) (sym refs) (exprs_in l.list.exprs named kept);
      }

  list_by : IsOwnList → Listed b → ListSays t own b
  list_by is k = by k.class where
    names_as : (q : Class) → class_of a.form ≡ q → (l : NamedList) → NamesAs q s x.old l → NamesList s x.old l
    names_as q e l h = subst (λ (r : Class). NamesAs r s x.old l) (sym (class_old ∙ e)) h

    by : ((class_of a.form ≡ OfOffset) × (names_list a.name ≡ true)) ⊎ (class_of a.form ≡ OfListIndex) → ListSays t own b
    by (inl c) =
        let name : names_list x.old.pair.name ≡ true = ap names_list (sym x.means.name) ∙ c.1 in
        let m = if_true (names_list x.old.pair.name) _ _ name (value_as OfOffset c.0) in
        let l : NamedList = record { unit = s.unit; from = offset_of x.old; slot = None; list = m.list } in
        list_says is l refl (names_as OfOffset c.0 l (name, record { unit = refl; from = refl; slot_is = refl; within = m.within; stands = m.stands })) m.value
        (list_named (expr_context s 7) m.list (offset_of x.old) m.stands.front m.stands.spelled)
    by (inr c) =
        let m = value_as OfListIndex c in
        let l : NamedList = record { unit = s.unit; from = m.base + m.offset; slot = Some _; list = m.list.list } in
        list_says is l refl
        (names_as OfListIndex c l
        (record { base = m.base; is_base = m.is_base; offset = m.offset; slot = m.slot; named = record { unit = refl; from = refl; slot_is = refl; within = m.list.within; stands = m.list.stands } })) m.list.value
        (list_named (expr_context s 7) m.list.list (m.base + m.offset) m.list.stands.front m.list.stands.spelled)

  -- none binds in a partial unit
  pub no_list : (root_tag origin.raw.kind ≡ 0x3c) × (origin.root ≡ false) → ((class_of a.form ≡ OfOffset) × (names_list a.name ≡ true)) ⊎ (class_of a.form ≡ OfListIndex) → ⊥
  no_list is k =
      let free : has x.old.pair.form binding_forms ≡ false = x.held.may is.0 is.1 in
      let list : is_list_class (class_of x.old.pair.form) ≡ true = ap is_list_class class_old ∙ listed_class b k in
      (let both : true ≡ false = sym (class_bound x.old.pair.form list) ∙ free in cc)

  list_asked : Listed b → ListSays t own b
  list_asked k = elim origin.lists [ inl is ↦ list_by is k | inr is ↦ absurd (no_list is k.class) ]

  -- ---- a value

  one_ref : (refs : List Place) (k : Copy Place) → map g refs ≡ k ∷ [] → (p : Place) × In p refs × (g p ≡ k)
  one_ref [] k e = absurd cc
  one_ref (p ∷ refs) k e = (let same : g p ≡ k = cc in (p, inl refl, same))

  entry_asked : (k : Copy Place) → b.value ≡ ref k → StandsThere n t own k
  entry_asked k value =
      let o = one_ref a.value.refs k (ap (λ (v : Value (Copy Place)). v.refs) value) in
      subst (λ (j : Copy Place). StandsThere n t own j) o.2
      (stands_there same_place test (w f reads bytes) (apart f reads bytes) (forms f) t refl n su nth o.0 (each_in Kept o.0 a.value.refs can.imported o.1))

  paths_asked : PathsOf (forms f) n d.at t own b s.around.sources (bases_of s) (sources_of f.file.bytes)
  paths_asked =
      let at = source_at f reads bytes n su nth in
      let got = nth_get 0 (whole_units (w f reads bytes).own) n n at.unit at.whole_nth (omega arith) in
      record {
        texts = refl;
        line = refl;
        paths = ap (paths_of_unit (sources_of f.file.bytes)) got ∙ ap (λ (q : Bases). paths_at (sources_of f.file.bytes) q.line) (sym (own_bases f reads bytes n su nth));
      }

  asked : Asked (forms f) n d.at t own b s.around.sources (bases_of s) origin.facts
  asked = record {
    entry = entry_asked;
    sources = sources_of f.file.bytes;
    paths = paths_asked;
    row = λ name class held none. can.row (record { constant = class; file = name; copied = held; none = none });
    expression = computed_in;
    list = list_asked;
  }

  good_name : GoodName t own b
  good_name = record {
    some = subst (λ (m : ℕ). 0 < m) (sym x.means.name) x.held.pair.some_name;
    fits = subst (λ (m : ℕ). m ≤ 0xffff) (sym x.means.name) x.held.pair.name_fits;
    other = λ e. x.no_sibling (sym x.means.name ∙ e);
  }

  by_class : (k : Class) → class_of a.form ≡ k → (k ≡ OfCommonEntry) ⊎ ((k ≡ OfCommonText) ⊎ ((k ≡ OfCommonEntry → ⊥) × (k ≡ OfCommonText → ⊥))) → Good t own (chosen_attr (forms f) (copy n d.at) b)
  by_class k e (inl entry) =
      let m = value_as OfCommonEntry (e ∙ entry) in
      let value : b.value ≡ ref (g (m.0.place (offset_of x.old))) = ap (λ (v : Value Place). value_map g v) m.2.1 in
      subst (λ (q : Class). Good t own (with_form b (chosen_as q (forms f) n d.at b))) (sym (e ∙ entry)) (entry_good (forms f) n d.at t own b good_name _ value (entry_asked _ value))
  by_class k e (inr (inl text)) =
      let m = value_as OfCommonText (e ∙ text) in
      let are = common_strs f.common f.file origin.number (origin.number == 0) bytes.1 (around f origin.number).sources m.0 m.1 in
      let value : b.value ≡ only (Text m.2.text) = ap (λ (v : Value Place). value_map g v) m.2.value in
      subst (λ (q : Class). Good t own (with_form b (chosen_as q (forms f) n d.at b))) (sym (e ∙ text))
      (string_good t own b good_name m.2.text value m.2.stands.spelled.no_zero (text_bytes m.0.strs are (offset_of x.old) m.2.text m.2.stands) (in_places s))
  by_class k e (inr (inr other)) =
      kind_good (forms f) n d.at t own b s.around.sources (bases_of s) origin.facts asked
      (came_is (OfFile s.around.sources) (bases_of s) b (came origin.number s origin.said.place (IsFree (root_tag origin.raw.kind) origin.root) origin.node.raw i a x g k e other.0 other.1))

  pub attr_good : Good t own (chosen_attr (forms f) (copy n d.at) b)
  attr_good = by_class (class_of a.form) refl (which (class_of a.form))
