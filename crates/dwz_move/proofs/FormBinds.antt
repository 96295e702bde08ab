-- What binds where no value is an expression: forms tell, and the tops that references go into.
use Rattle.std.proofs.Common.{◌≡◌, ℕ, ◌+◌, ◌<◌, ◌≤◌, Bool, true, false, List, [], ◌∷◌, ◌++◌, Option, None, drop, get_or, length, map, refl, sym, ap, subst, ◌∙◌, arith, ⊎_elim, length-append}
use Rattle.std.specs.Prelude.{◌||◌, ◌&&◌, ◌==◌, cond, count_by, not, slice_index_or}
use Rattle.std.specs.List.{list_any}
use Rattle.std.proofs.lemmas.Bool.{eqb-false, eqb-true, false≢true, or_cases}
use Rattle.std.proofs.lemmas.List.{drop_all, map-append}
use Rattle.std.proofs.lemmas.List.Folds.{list_any-append}
use Rattle.std.proofs.lemmas.List.Sums.{sum_by-cons}
use Rattle.std.proofs.lemmas.Option.{slice_get-get_or}
use Rattle.dwz_def_tops.specs.Alike.{attr_binds, binding_forms, leaves}
use Rattle.dwz_def_tops.specs.Spots.{EntryName, Top}
use Rattle.dwz_def_tops.proofs.Targets.{or_first, or_second}
use Rattle.dwz_def_reading.specs.Classes.{class_of}
use Rattle.dwz_def_reading.specs.Entries.{RawAttr}
use Rattle.dwz_def_reading.specs.Rows.{has}
use Rattle.dwz_def_reading.specs.Units.{RawUnit}
use Rattle.dwz_def_reading.specs.Documents.{Attr, attr_map}
use Rattle.dwz_def_reading.specs.Meanings.{MeaningContext}
use Rattle.dwz_def_reading.specs.Meant.{attr_with}
use Rattle.dwz_def_reading.proofs.CaseFacts.{or_left, or_right}
use Rattle.dwz_def_reading.proofs.ListFacts.{drop_here}
use Rattle.dwz_graph.specs.Named.{attrs_refs, value_refs}
use Rattle.dwz_graph.specs.Names.{top_in}
use Rattle.dwz_graph.specs.Rows.{AreAttrsMeant}
use Rattle.dwz_graph.proofs.StepLemmas.{no_value, sibling, value}
use Rattle.dwz_model.specs.declared.place.Pair.{Pair}
use Rattle.dwz_unit.specs.Named.{names_entry}
use Rattle.dwz_move.specs.Bound.{AreInto, pairs_bind}
use Rattle.dwz_move.specs.Values.{is_entry}
use Rattle.dwz_move.proofs.BindLemmas.{first_into, names_alone}
use Rattle.dwz_move.proofs.BindSteps.{binds_in, into_rest}
use Rattle.dwz_move.proofs.OtherValues.{AreOthers}

-- ---- references that leave, one after the other

module _ (tops : List Top) (unit : ℕ) (name : ℕ → EntryName) (into : List (Option ℕ)) (places : List ℕ) where
  abbrev leaving : List ℕ → Bool
  leaving ps = list_any (leaves tops unit) (map name ps)

  -- Whether one of these places from number k on leaves is what is asked; and the tops of these stand from there on.
  pub record LeavesLeft (k : ℕ) : Type 0 where
    pub tops_are : AreInto name (drop k into) (drop k places)
    pub asks : leaving (drop k places) ≡ leaving places

  pub leaves_all : AreInto name into places → LeavesLeft 0
  leaves_all h = record { tops_are = h; asks = refl }

  -- the next place
  pub record NextLeaves (k : ℕ) : Type 0 where
    pub p : ℕ
    pub top : slice_index_or into k None ≡ top_in (name p)
    pub more : leaves tops unit (name p) ≡ false → LeavesLeft (k + 1)
    pub here : leaves tops unit (name p) ≡ true → true ≡ leaving places

  pub leaves_next : (k : ℕ) → k < length places → LeavesLeft k → NextLeaves k
  leaves_next k lt h =
      let p = get_or places k 0 in
      let next = drop_here places k p (slice_get-get_or places k 0 lt) in
      let stand = subst (λ (ps : List ℕ). AreInto name (drop k into) ps) next h.tops_are in
      let asks : (leaves tops unit (name p) || leaving (drop (k + 1) places)) ≡ leaving places = sym (ap leaving next) ∙ h.asks in
      record {
        p = p;
        top = first_into name into k p (drop (k + 1) places) stand;
        more = λ no. record {
          tops_are = into_rest name into k (p ∷ []) (drop (k + 1) places) stand;
          asks = sym (ap (λ (b : Bool). b || leaving (drop (k + 1) places)) no) ∙ asks;
        };
        here = λ yes. sym (ap (λ (b : Bool). b || leaving (drop (k + 1) places)) yes) ∙ asks;
      }

  pub leaves_none : (k : ℕ) → length places ≤ k → LeavesLeft k → false ≡ leaving places
  leaves_none k le h = sym (ap leaving (drop_all k places le)) ∙ h.asks

-- ---- values, one after the other

abbrev pairs_in : List RawAttr → List Pair
pairs_in values = map (λ (a : RawAttr). a.pair) values

module _ (raw : List RawUnit) (s : MeaningContext ℕ) (tops : List Top) (unit : ℕ) (name : ℕ → EntryName) where
  -- a form binds
  pub form_binds_all : (values : List RawAttr) (numbers : List ℕ) (attrs : List (Attr ℕ)) → AreAttrsMeant raw s numbers values attrs → pairs_bind (pairs_in values) ≡ true
      → true ≡ binds_in tops unit name attrs
  form_binds_all [] numbers attrs m e = absurd (false≢true e)
  form_binds_all (a ∷ values) numbers attrs m e = by (a.pair.name == 0x01) refl (form_binds_all values) where
    told : (b : Bool) → (a.pair.name == 0x01) ≡ b → ((not b && has a.pair.form binding_forms) || pairs_bind (pairs_in values)) ≡ true
    told b is = sym (ap (λ (x : Bool). (not x && has a.pair.form binding_forms) || pairs_bind (pairs_in values)) is) ∙ e

    by : (b : Bool) → (a.pair.name == 0x01) ≡ b
        → ((numbers : List ℕ) (attrs : List (Attr ℕ)) → AreAttrsMeant raw s numbers values attrs → pairs_bind (pairs_in values) ≡ true → true ≡ binds_in tops unit name attrs)
        → true ≡ binds_in tops unit name attrs
    by true is later = later numbers attrs (sibling raw s numbers a values attrs (eqb-true a.pair.name 0x01 is) m) (told true is)
    by false is later =
        let x = value raw s numbers a values attrs (eqb-false a.pair.name 0x01 is) m in
        let own = attr_binds tops unit (attr_map name (attr_with a x.value)) in
        let split : (own || binds_in tops unit name x.left) ≡ binds_in tops unit name attrs = sym (ap (binds_in tops unit name) x.parts) in
        ⊎_elim
        (λ h. sym (or_first own (binds_in tops unit name x.left) (or_first (has a.pair.form binding_forms) _ h)) ∙ split)
        (λ h. sym (or_second own (binds_in tops unit name x.left) (sym (later (drop (length (value_refs x.value)) numbers) x.left x.rest h))) ∙ split)
        (or_cases (has a.pair.form binding_forms) (pairs_bind (pairs_in values)) (told false is))

  leaving_both : (ps qs : List ℕ) → list_any (leaves tops unit) (map name (ps ++ qs)) ≡ (list_any (leaves tops unit) (map name ps) || list_any (leaves tops unit) (map name qs))
  leaving_both ps qs = ap (list_any (leaves tops unit)) (map-append name ps qs) ∙ list_any-append (leaves tops unit) (map name ps) (map name qs)

  -- no form binds: so many entries are named, and it is these that may leave
  pub record AllNamed (values : List RawAttr) (attrs : List (Attr ℕ)) : Type 0 where
    pub counts : count_by names_entry (pairs_in values) ≡ length (attrs_refs attrs)
    pub binds : binds_in tops unit name attrs ≡ list_any (leaves tops unit) (map name (attrs_refs attrs))

  pub all_named : (values : List RawAttr) (numbers : List ℕ) (attrs : List (Attr ℕ)) → AreAttrsMeant raw s numbers values attrs → AreOthers values → pairs_bind (pairs_in values) ≡ false
      → AllNamed values attrs
  all_named [] numbers attrs m others e =
      subst (λ (w : List (Attr ℕ)). AllNamed [] w) (sym (no_value raw s numbers attrs m)) (record { counts = refl; binds = refl })
  all_named (a ∷ values) numbers attrs m others e = by (a.pair.name == 0x01) refl (λ numbers attrs m e. all_named values numbers attrs m others.1 e) where
    told : (b : Bool) → (a.pair.name == 0x01) ≡ b → ((not b && has a.pair.form binding_forms) || pairs_bind (pairs_in values)) ≡ false
    told b is = sym (ap (λ (x : Bool). (not x && has a.pair.form binding_forms) || pairs_bind (pairs_in values)) is) ∙ e

    count : (b : Bool) → (a.pair.name == 0x01) ≡ b
        → count_by names_entry (pairs_in (a ∷ values)) ≡ cond (not b && is_entry (class_of a.pair.form)) 1 0 + count_by names_entry (pairs_in values)
    count b is = sum_by-cons (λ (p : Pair). cond (names_entry p) 1 0) a.pair (pairs_in values) ∙ ap (λ (x : Bool). cond (not x && is_entry (class_of a.pair.form)) 1 0 + count_by names_entry (pairs_in values)) is

    by : (b : Bool) → (a.pair.name == 0x01) ≡ b
        → ((numbers : List ℕ) (attrs : List (Attr ℕ)) → AreAttrsMeant raw s numbers values attrs → pairs_bind (pairs_in values) ≡ false → AllNamed values attrs)
        → AllNamed (a ∷ values) attrs
    by true is later =
        let h = later numbers attrs (sibling raw s numbers a values attrs (eqb-true a.pair.name 0x01 is) m) (told true is) in
        record { counts = (let none = count true is in let more = h.counts in omega arith); binds = h.binds }
    by false is later =
        let x = value raw s numbers a values attrs (eqb-false a.pair.name 0x01 is) m in
        let free = told false is in
        let n = names_alone tops unit name s a x.value x.means (or_left (has a.pair.form binding_forms) (pairs_bind (pairs_in values)) free) others.0 in
        let h = later (drop (length (value_refs x.value)) numbers) x.left x.rest (or_right (has a.pair.form binding_forms) (pairs_bind (pairs_in values)) free) in
        subst (λ (w : List (Attr ℕ)). AllNamed (a ∷ values) w) (sym x.parts) (record {
          counts = count false is ∙ (λ i. n.counts i + h.counts i) ∙ sym (length-append (value_refs x.value) (attrs_refs x.left));
          binds = (λ i. n.binds i || h.binds i) ∙ sym (leaving_both (value_refs x.value) (attrs_refs x.left));
        })
