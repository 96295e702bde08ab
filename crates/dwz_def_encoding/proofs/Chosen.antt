-- Units whose references have their forms are sound, and each reference names what its form says.
use Rattle.std.proofs.Common.{◌≡◌, ◌⊎◌, ℕ, ◌<◌, ◌^◌, Bool, true, false, List, [], ◌∷◌, length, map, Some, refl, sym, ap, subst, ◌∙◌, cond, eqb}
use Rattle.std.proofs.Math.Logic.{inl, inr}
use Rattle.dwz_def_reading.specs.Documents.{Attr, Compile, DwUnit, Entries, Kind, OfType, Partial, Plain, first_named}
use Rattle.dwz_def_reading.specs.Lists.{Each, In}
use Rattle.dwz_def_reading.specs.Classes.{OfListIndex, OfOffset}
use Rattle.dwz_def_reading.specs.Classes.{Class, class_of, names_list}
use Rattle.dwz_def_reading.specs.Trees.{End, Entry}
use Rattle.dwz_def_reading.proofs.ListFacts.{in_left, in_right}
use Rattle.dwz_def_encoding.specs.Bases.{Bases, bases_in, offset_in}
use Rattle.dwz_def_encoding.specs.Carried.{ApartIn, AttrOperands, AttrPaths, AttrTexts, BasesStand, CarriedAttr, CarriedEntries, CarriedUnit, ClosedIn, ComesFromItself, ExprIn, FileStands, From}
use Rattle.dwz_def_encoding.specs.Carried.{OperandsStand, OperandsStandAs, SectionsStand, UnitPaths, UnitTexts}
use Rattle.dwz_def_reading.specs.LinesWritten.{AreTexts}
use Rattle.dwz_def_reading.proofs.DecideLemmas.{if_true}
use Rattle.dwz_def_encoding.specs.Fitting.{EachAttr}
use Rattle.dwz_def_encoding.specs.Meant.{AttrSays, EntriesSay, KindSays, NodeSays, Own, SaysAs, Tells, UnitSays, UnitsSay, all_entry_keys, entry_keys, own_of}
use Rattle.dwz_def_encoding.specs.Placing.{Forms, KeyedForms, UnitForms, UnitRole, fit, fit_as, fit_attr, fit_node, fit_unit, fit_units, has_key, holder_of, lines_bytes, reach_by, ref_form, texts_bytes}
use Rattle.dwz_def_encoding.specs.Placing.{unit_forms}
use Rattle.dwz_def_encoding.specs.Placing.{with_form, with_keys}
use Rattle.dwz_def_tops.specs.Shown.{unit_keys, units_keys}
use Rattle.dwz_def_tops.specs.Seen.{Seen, all_seen, see, seen_below, seen_roots}
use Rattle.dwz_def_encoding.specs.Sound.{SoundAttr, SoundEntries, SoundUnit}
use Rattle.dwz_def_tops.specs.Lists.{NoneTwice}
use Rattle.dwz_def_encoding.proofs.Carrying.{Computed, Listed, Reference, carried_is}
use Rattle.dwz_def_encoding.proofs.ReadAgain.{same_bases}
use Rattle.dwz_def_encoding.proofs.ValuesMean.{so_yes}
use Rattle.dwz_def_encoding.proofs.Places.{IsSame}
use Rattle.dwz_def_tops.proofs.SeenLemmas.{root_in, seen_in}
use Rattle.dwz_def_encoding.proofs.Rising.{entries_are_keys}
use Rattle.dwz_def_encoding.proofs.WriteLengths.{FixedUnit}
use Rattle.dwz_def_tops.proofs.Members.{each_in}
use Rattle.dwz_def_encoding.proofs.ChosenNames.{EntriesName, NamesAll, NodeNames, SeenNames, each_fixed, entries_name, fit_all_keys, fit_entry_keys, fit_units_keys, has_in, node_names, offset_fit}
use Rattle.dwz_def_encoding.proofs.ChosenNames.{unit_apart}
use Rattle.dwz_def_encoding.proofs.ChosenValues.{chosen, chosen_sound, common_says_it, form_is, info_says_it, refs_are}
use Rattle.dwz_def_encoding.proofs.ChosenTexts.{AttrAt, FileAt, Good, SectionsAt, SourcesAt, TextFor, file_good, slot_good}
use Rattle.dwz_def_encoding.proofs.ChosenValues.{unit_says_it}
use Rattle.dwz_def_encoding.proofs.ChosenTexts.{text_good}

pub none_has : {K : Type 0} (same : K → K → Bool) (is : IsSame same) (k : K) (ks : List K) → In k ks → has_key same k ks ≡ false → ⊥
unfolding has_key
none_has same is k [] there e = there
none_has {K} same is k (x ∷ xs) there e = go (λ i r. none_has same is k xs i r) (same x k) refl e where
  go : (In k xs → has_key same k xs ≡ false → ⊥) → (t : Bool) → same x k ≡ t → (elim t as (λ _. Bool) [ true ↦ true | false ↦ has_key same k xs ]) ≡ false → ⊥
  go rest true q r = cc
  go rest false q r = elim there [
    | inl i ↦ (let yes : same x k ≡ true = subst (λ (y : K). same x y ≡ true) i (is.refl_is x) in cc)
    | inr j ↦ rest j r
  ]

-- ---- what a root says is as it was

first_fit : {K : Type 0} (x : UnitForms K) (name : ℕ) (attrs : List (Attr K)) → offset_in (first_named name (map (fit_attr x) attrs)) ≡ offset_in (first_named name attrs)
unfolding first_named
first_fit x name [] = refl
first_fit x name (a ∷ attrs) = by (first_fit x name attrs) (eqb a.name name) where
  by : offset_in (first_named name (map (fit_attr x) attrs)) ≡ offset_in (first_named name attrs) → (b : Bool) → offset_in (cond b (Some (fit_attr x a)) (first_named name (map (fit_attr x) attrs)))
      ≡ offset_in (cond b (Some a) (first_named name attrs))
  by rest true = offset_fit x a
  by rest false = rest

pub bases_fit : {K : Type 0} (f : KeyedForms K) (u : DwUnit K) → bases_in (fit_unit f u) ≡ bases_in u
bases_fit f u = same_bases _ _ _ _ _ _ (first_fit (unit_forms f u) 0x72 u.root.attrs) (first_fit (unit_forms f u) 0x10 u.root.attrs) (first_fit (unit_forms f u) 0x8c u.root.attrs)

own_fit : {K : Type 0} (f : KeyedForms K) (u : DwUnit K) → own_of u ≡ own_of (fit_unit f u)
own_fit {K} f u =
    ap (λ (ks : List K). record { at = u.at; keys = ks; bases = bases_in u }) (sym (fit_entry_keys f u))
    ∙ ap (λ (b : Bases). record { at = u.at; keys = entry_keys (fit_unit f u); bases = b }) (sym (bases_fit f u))

-- ---- each value is written as its form says

module _ {K : Type 0} (f : KeyedForms K) (is : IsSame f.same) (from : From) (t : Tells K) (small : length t.strs < 2 ^ 32) (u : DwUnit K) (within : (k : K) → In k t.all → In k f.keys)
    (other : (k : K) → In k t.common → In k f.keys → ⊥)
    (entries : (k : K) → In k (unit_keys u) → In k f.keys) (apart : In u.at t.all → ⊥) (sections_at : SectionsAt (holder_of f.is_common u.kind) from (unit_forms f u) t)
    (itself : ComesFromItself (holder_of f.is_common u.kind) (bases_in u) (f.origin u.at)) where
  abbrev x : UnitForms K
  x = unit_forms f u

  abbrev own : Own K
  own = own_of u

  abbrev At : Attr K → Type 0
  At a = AttrAt (holder_of f.is_common u.kind) f.texts f.paths (bases_in u).line (f.origin u.at).line a × AttrOperands t own a

  -- a name of the unit that is an entry's is one of the unit's entries
  inside : (k : K) → In k t.all ⊎ In k t.common → has_key f.same k (unit_keys u) ≡ true → In k (entry_keys u)
  unfolding unit_keys
  inside k there e =
      let found = has_in f.same is k (unit_keys u) e in
      let all : In k t.all = elim there [ inl a ↦ a | inr c ↦ absurd (other k c (entries k found)) ] in
      elim found [ inl p ↦ absurd (apart (subst (λ (y : K). In y t.all) (sym p) all)) | inr r ↦ r ]

  ref_says : (a : Attr K) (r : Reference a) → In r.target t.all ⊎ In r.target t.common → AttrSays t own (fit_attr x a)
  ref_says a r there = subst (AttrSays t own) (sym (form_is a r x)) (by (has_key f.same r.target (unit_keys u)) (has_key f.same r.target f.keys) refl refl) where
    by : (b c : Bool) → has_key f.same r.target (unit_keys u) ≡ b → has_key f.same r.target f.keys ≡ c → AttrSays t own (chosen a (ref_form (reach_by b c)))
    by true c p q = unit_says_it a r t own (inside r.target there p)
    by false true p q = info_says_it a r t own (elim there [ inl all ↦ all | inr common ↦ absurd (other r.target common (has_in f.same is r.target f.keys q)) ])
    by false false p q = common_says_it a r t own (elim there [ inl all ↦ absurd (none_has f.same is r.target f.keys (within r.target all) q) | inr common ↦ common ])

  expression_good : (a : Attr K) (k : Computed a) → AttrOperands t own a → Good t own (fit_attr x a)
  expression_good a k there =
      let stays : fit_attr x a ≡ a = ap (λ (c : Class). with_form a (fit_as c x a)) k.class in
      let operands = subst (λ (p : Plain). ExprIn t own p a.value.refs) k.plain (subst (λ (c : Class). OperandsStandAs c t own a) k.class there) in
      record {
        sound = subst SoundAttr (sym stays) k.sound;
        says = subst (AttrSays t own) (sym stays) (subst (λ (c : Class). SaysAs c t own a) (sym k.class)
            (record { context = k.context; expression = k.expression; start = k.start; bytes = k.bytes; spelled = k.spelled; plain = k.plain; address = k.address; operands = operands }));
      }

  list_good : (a : Attr K) → Listed a → AttrOperands t own a → Good t own (fit_attr x a)
  list_good a k there = record { sound = subst SoundAttr (sym (k.stays x)) k.sound; says = subst (AttrSays t own) (sym (k.stays x)) (by k.class) } where
    by : ((class_of a.form ≡ OfOffset) × (names_list a.name ≡ true)) ⊎ (class_of a.form ≡ OfListIndex) → AttrSays t own a
    by (inl c) = subst (λ (d : Class). SaysAs d t own a) (sym c.0) (so_yes (names_list a.name) _ _ c.1
        (if_true (names_list a.name) _ _ c.1 (subst (λ (d : Class). OperandsStandAs d t own a) c.0 there)))
    by (inr c) = subst (λ (d : Class). SaysAs d t own a) (sym c) (subst (λ (d : Class). OperandsStandAs d t own a) c there)

  attr_good : (a : Attr K) → CarriedAttr from (f.origin u.at) a → Each (λ k. In k t.all ⊎ In k t.common) a.value.refs → At a → Good t own (fit_attr x a)
  attr_good a carried names at = elim (carried_is from (f.origin u.at) a carried) [
    | inl r ↦ record {
      sound = subst SoundAttr (sym (form_is a r x)) (chosen_sound a r (reach_by (has_key f.same r.target (unit_keys u)) (has_key f.same r.target f.keys)));
      says =
          ref_says a r (subst (Each (λ k. In k t.all ⊎ In k t.common)) (refs_are a r) names).0;
    }
    | inr rest ↦ elim rest [
      | inl p ↦ text_good from t small own a p (holder_of f.is_common u.kind) x refl sections_at at.0.0
      | inr more ↦ elim more [
        | inl s ↦ slot_good from (f.origin u.at) t small own a s (holder_of f.is_common u.kind) x refl refl itself sections_at at.0.0
        | inr last ↦ elim last [
          | inl n ↦ file_good from (f.origin u.at) t own a n (holder_of f.is_common u.kind) x refl itself sections_at at.0.0 at.0.1
          | inr other ↦ elim other [
            | inl k ↦ expression_good a k at.1
            | inr final ↦ elim final [
              | inl k ↦ list_good a k at.1
              | inr o ↦ record { sound = subst SoundAttr (sym (o.stays x)) o.sound; says = subst (AttrSays t own) (sym (o.stays x)) (o.says t own) }
            ]
          ]
        ]
      ]
    ]
  ]

  record GoodAttrs (attrs : List (Attr K)) : Type 0 where
    sound : Each SoundAttr attrs
    says : Each (AttrSays t own) attrs

  attrs_good : (attrs : List (Attr K)) → Each (CarriedAttr from (f.origin u.at)) attrs → Each (NamesAll t) attrs → Each At attrs → GoodAttrs (map (fit_attr x) attrs)
  attrs_good [] carried names at = record { sound = tt; says = tt }
  attrs_good (a ∷ attrs) carried names at =
      let one = attr_good a carried.0 names.0 at.0 in
      let rest = attrs_good attrs carried.1 names.1 at.1 in
      record { sound = (one.sound, rest.sound); says = (one.says, rest.says) }

  record GoodEntries (g : Entries K) : Type 0 where
    sound : SoundEntries g
    says : EntriesSay t own g

  entries_good : (g : Entries K) → CarriedEntries from (f.origin u.at) g → EntriesName t g → EachAttr At g → GoodEntries (fit x g)
  unfolding fit
  entries_good End carried names at = record { sound = tt; says = tt }
  entries_good (Entry e children next) carried names at =
      let one = attrs_good e.attrs carried.0.attrs names.0 at.0 in
      let a = entries_good children carried.1 names.1 at.1 in
      let b = entries_good next carried.2 names.2 at.2 in
      record { sound = (record { some_tag = carried.0.some_tag; tag_fits = carried.0.tag_fits; attrs = one.sound }, a.sound, b.sound); says = (one.says, a.says, b.says) }

  unit_good : CarriedUnit from (f.origin u.at) u → NodeNames t u.root → EntriesName t u.below → Each At u.root.attrs → EachAttr At u.below → SoundUnit (fit_unit f u) × UnitSays t (fit_unit f u)
  unit_good carried root below root_at below_at =
      let same = own_fit f u in
      let a = attrs_good u.root.attrs carried.root.attrs root root_at in
      let b = entries_good u.below carried.below below below_at in (
        record { kind = carried.kind; root = record { some_tag = carried.root.some_tag; tag_fits = carried.root.tag_fits; attrs = a.sound }; below = b.sound },
        record {
          kind = subst (λ (w : Own K). KindSays w.keys u.kind) same carried.main;
          root = subst (λ (w : Own K). NodeSays t w (fit_node x u.root)) same a.says;
          below = subst (λ (w : Own K). EntriesSay t w (fit x u.below)) same b.says;
        },
      )

-- ---- the units of a file

file_at : {K : Type 0} (from : From) (f : Forms K) (x : UnitForms K) (t : Tells K) (units : List (DwUnit K)) → f.offsets ≡ x.offsets → f.shared ≡ x.shared → SectionsStand false from f t units
    → FileAt from x t
file_at from f x t units offsets shared at = record {
  sources = subst (λ (w : List ℕ). SourcesAt from w t) offsets at.1;
  shared = at.2.strs ∙ ap texts_bytes shared;
  few = at.2.few;
}

sections_common : {K : Type 0} (kind : Kind K) (from : From) (f : Forms K) (x : UnitForms K) (t : Tells K) (units : List (DwUnit K)) (b : Bool) → f.texts ≡ x.texts → f.paths ≡ x.paths
    → f.offsets ≡ x.offsets → f.shared ≡ x.shared → SectionsStand b from f t units → SectionsAt (holder_of b kind) from x t
sections_common kind from f x t units true texts paths offsets shared at =
    record { strs = at.1.strs ∙ ap texts_bytes texts; line = at.1.line ∙ ap lines_bytes paths; few = at.1.few; are_texts = subst AreTexts paths at.1.are_texts }
sections_common Compile from f x t units false texts paths offsets shared at = file_at from f x t units offsets shared at
sections_common (OfType signature main) from f x t units false texts paths offsets shared at = file_at from f x t units offsets shared at
sections_common Partial from f x t units false texts paths offsets shared at = file_at from f x t units offsets shared at

small_strs : {K : Type 0} (from : From) (f : Forms K) (t : Tells K) (units : List (DwUnit K)) (b : Bool) → SectionsStand b from f t units → length t.strs < 2 ^ 32
small_strs from f t units true at = at.0
small_strs from f t units false at = at.0

-- the texts and paths of the common file, and no others, are asked for
text_for : {K : Type 0} (kind : Kind K) (texts paths : List (List ℕ)) (a : Attr K) → TextFor (holder_of false kind) texts paths a
text_for Compile texts paths a = tt
text_for (OfType signature main) texts paths a = tt
text_for Partial texts paths a = tt

module _ {K : Type 0} (P Q R : Attr K → Type 0) (join : (a : Attr K) → P a → Q a → R a) where
  pub join_attrs : (attrs : List (Attr K)) → Each P attrs → Each Q attrs → Each R attrs
  join_attrs [] p q = tt
  join_attrs (a ∷ attrs) p q = (join a p.0 q.0, join_attrs attrs p.1 q.1)

  pub join_entries : (g : Entries K) → EachAttr P g → EachAttr Q g → EachAttr R g
  join_entries End p q = tt
  join_entries (Entry e children next) p q = (join_attrs e.attrs p.0 q.0, join_entries children p.1 q.1, join_entries next p.2 q.2)

module _ {K : Type 0} (P : Attr K → Type 0) (all : (a : Attr K) → P a) where
  pub all_attrs : (attrs : List (Attr K)) → Each P attrs
  all_attrs [] = tt
  all_attrs (a ∷ attrs) = (all a, all_attrs attrs)

  pub all_entries : (g : Entries K) → EachAttr P g
  all_entries End = tt
  all_entries (Entry e children next) = (all_attrs e.attrs, all_entries children, all_entries next)

record TextsFor {K : Type 0} (h : UnitRole) (texts paths : List (List ℕ)) (u : DwUnit K) : Type 0 where
  root : Each (TextFor h texts paths) u.root.attrs
  below : EachAttr (TextFor h texts paths) u.below

texts_for : {K : Type 0} (u : DwUnit K) (from : From) (f : Forms K) (t : Tells K) (units : List (DwUnit K)) (b : Bool) → In u units → SectionsStand b from f t units
    → TextsFor (holder_of b u.kind) f.texts f.paths u
texts_for u from f t units true there at =
    let is = each_in (UnitTexts f.texts) u units at.1.texts there in
    let are = each_in (UnitPaths f.paths) u units at.1.paths there in
    record {
      root = join_attrs (AttrTexts f.texts) (AttrPaths f.paths) _ (λ a p q. (p, q)) u.root.attrs is.0 are.0;
      below = join_entries (AttrTexts f.texts) (AttrPaths f.paths) _ (λ a p q. (p, q)) u.below is.1 are.1;
    }
texts_for u from f t units false there at = record { root = all_attrs _ (text_for u.kind f.texts f.paths) u.root.attrs; below = all_entries _ (text_for u.kind f.texts f.paths) u.below }

keys_within : {K : Type 0} (units : List (DwUnit K)) (u : DwUnit K) → In u units → (k : K) → In k (unit_keys u) → In k (units_keys units)
unfolding units_keys
keys_within [] u there k is = there
keys_within {K} (w ∷ units) u (inl e) k is = in_left k (unit_keys w) (units_keys units) (subst (λ (y : DwUnit K). In k (unit_keys y)) (sym e) is)
keys_within (w ∷ units) u (inr r) k is = in_right k (unit_keys w) (units_keys units) (keys_within units u r k is)

module _ {K : Type 0} (f : Forms K) (is : IsSame f.same) (from : From) (t : Tells K) (units : List (DwUnit K)) (all : t.all ≡ all_entry_keys units) (once : NoneTwice (units_keys units))
    (carried : Each (λ u. CarriedUnit from (f.origin u.at) u) units) (closed : ClosedIn t units) (apart : ApartIn t units) (stand : SectionsStand f.is_common from f t units)
    (bases : Each (BasesStand f) units) (operands : Each (OperandsStand t) units) where
  abbrev file : KeyedForms K
  file = with_keys f (units_keys units)

  one_good : (u : DwUnit K) → In u units → SoundUnit (fit_unit file u) × UnitSays t (fit_unit file u)
  one_good u there =
      let within : (k : K) → In k t.all → In k (units_keys units) = λ k k_is. entries_are_keys units k (subst (In k) all k_is) in
      let inside : (k : K) → In k (unit_keys u) → In k (units_keys units) = keys_within units u there in
      let alone : In u.at t.all → ⊥ = λ k_is. unit_apart units u once there (subst (In u.at) all k_is) in
      let names : (s : Seen K) → In s (all_seen units) → SeenNames t s = λ s s_is a k attr ref. closed s a k s_is attr ref in
      let root = node_names t u.root u.below (names (see u.root u.below) (in_left (see u.root u.below) (seen_roots units) (seen_below units) (root_in units u there))) in
      let below = entries_name t u.below (λ s i. names s (in_right s (seen_roots units) (seen_below units) (seen_in units u s there i))) in
      let own = each_in (BasesStand f) u units bases there in
      let exprs = each_in (OperandsStand t) u units operands there in
      let texts = texts_for u from f t units f.is_common there stand in
      let h = holder_of f.is_common u.kind in
      unit_good file is from t (small_strs from f t units f.is_common stand) u within apart inside alone (sections_common u.kind from f (unit_forms file u) t units f.is_common refl refl refl refl stand)
      own.own
      (each_in (λ v. CarriedUnit from (f.origin v.at) v) u units carried there) root below
      (join_attrs (AttrAt h f.texts f.paths (bases_in u).line (f.origin u.at).line) (AttrOperands t (own_of u)) _ (λ a p q. (p, q)) u.root.attrs
      (join_attrs (TextFor h f.texts f.paths) (FileStands h (bases_in u).line (f.origin u.at).line) (AttrAt h f.texts f.paths (bases_in u).line (f.origin u.at).line) (λ a p q. (p, q)) u.root.attrs
      texts.root own.root) exprs.0)
      (join_entries (AttrAt h f.texts f.paths (bases_in u).line (f.origin u.at).line) (AttrOperands t (own_of u)) _ (λ a p q. (p, q)) u.below
      (join_entries (TextFor h f.texts f.paths) (FileStands h (bases_in u).line (f.origin u.at).line) (AttrAt h f.texts f.paths (bases_in u).line (f.origin u.at).line) (λ a p q. (p, q)) u.below
      texts.below own.below) exprs.1)

  each_good : (some : List (DwUnit K)) → ((u : DwUnit K) → In u some → In u units) → Each SoundUnit (map (fit_unit file) some) × Each (UnitSays t) (map (fit_unit file) some)
  each_good [] into = (tt, tt)
  each_good (u ∷ some) into =
      let one = one_good u (into u (inl refl)) in
      let rest = each_good some (λ v there. into v (inr there)) in
      ((one.0, rest.0), (one.1, rest.1))

  -- they are sound, and say what was read
  pub units_good : Each SoundUnit (fit_units f units) × UnitsSay t (fit_units f units)
  unfolding fit_units
  units_good = each_good units (λ u there. there)

pub fit_units_names : {K : Type 0} (f : Forms K) (units : List (DwUnit K)) → units_keys (fit_units f units) ≡ units_keys units
unfolding fit_units
fit_units_names f units = fit_units_keys (with_keys f (units_keys units)) units

pub fit_units_fixed : {K : Type 0} (f : Forms K) (units : List (DwUnit K)) → Each FixedUnit (fit_units f units)
unfolding fit_units
fit_units_fixed f units = each_fixed (with_keys f (units_keys units)) units

pub fit_units_all : {K : Type 0} (f : Forms K) (units : List (DwUnit K)) → all_entry_keys (fit_units f units) ≡ all_entry_keys units
unfolding fit_units
fit_units_all f units = fit_all_keys (with_keys f (units_keys units)) units
