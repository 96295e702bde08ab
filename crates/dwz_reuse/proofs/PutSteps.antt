-- What edges an entry's values put, and what is left.
use Rattle.std.proofs.Common.{◌≡◌, ◌≢◌, ◌↔◌, ◌⊎◌, ℕ, ◌+◌, ◌<◌, ◌≤◌, Bool, true, List, ◌∷◌, ◌++◌, Option, drop, length, Some, Ok, slice_get, sym, ap, subst, ◌∙◌, arith, inl, inr, ⊎_elim}
use Rattle.std.specs.Prelude.{◌||◌, slice_index}
use Rattle.std.proofs.lemmas.Bool.{false≢true, or_cases}
use Rattle.std.proofs.lemmas.List.{drop_all}
use Rattle.dwz_def_tops.specs.Alike.{any_attr}
use Rattle.dwz_def_tops.specs.Spots.{EntryName}
use Rattle.dwz_def_tops.proofs.Targets.{or_first, or_second}
use Rattle.dwz_def_reading.specs.Entries.{RawAttr}
use Rattle.dwz_def_reading.specs.Units.{RawUnit}
use Rattle.dwz_def_reading.specs.Lists.{In}
use Rattle.dwz_def_reading.proofs.ListFacts.{drop_here}
use Rattle.dwz_graph.specs.Rows.{AreAttrsMeant, AreRowsMeant, IsEntryMeant, node_refs}
use Rattle.dwz_graph.proofs.StepLemmas.{entry, no_row, no_value, row, sibling, value}
use Rattle.dwz_def_reading.specs.Documents.{Attr, Node, Value, attr_map, node_map}
use Rattle.dwz_def_reading.specs.Meanings.{MeaningContext}
use Rattle.dwz_def_reading.specs.Meant.{attr_with, meaning}
use Rattle.dwz_graph.specs.Named.{attrs_refs, value_refs}
use Rattle.dwz_groups.specs.declared.groups.Edge.{Edge}
use Rattle.dwz_unit.specs.Rows.{EntryRow}
use Rattle.dwz_move.specs.Bound.{AreInto, EachInto}
use Rattle.dwz_move.proofs.BindSteps.{into_first, into_rest}
use Rattle.dwz_move.proofs.MarkSteps.{said}
use Rattle.dwz_move.proofs.RowMarks.{rows_said}
use Rattle.dwz_reuse.specs.Puts.{PutsIf, goes_into}

-- from a unit, to one of which a test says so
abbrev pub Told : ℕ → (ℕ → Bool) → Edge → Type 0
Told unit test e = (e.key ≡ unit) × (test e.value ≡ true)

-- what was put, and what is left, are what was there and what is asked for
abbrev pub AreBoth : ℕ → (ℕ → Bool) → List Edge → List Edge → (ℕ → Bool) → Type 0
AreBoth unit left old now all = (e : Edge) → (In e now ⊎ Told unit left e) ↔ (In e old ⊎ Told unit all e)

both_next : (unit : ℕ) (left here later all : ℕ → Bool) (old now new : List Edge) → ((n : ℕ) → left n ≡ (here n || later n)) → PutsIf unit (λ n. here n ≡ true) now new → AreBoth unit left old now all
    → AreBoth unit later old new all
both_next unit left here later all old now new split puts h e = (
  λ x. ⊎_elim
      (λ y. ⊎_elim (λ o. (h e).0 (inl o)) (λ (t : (e.key ≡ unit) × (here e.value ≡ true)). (h e).0 (inr (t.0, split e.value ∙ or_first (here e.value) (later e.value) t.1))) ((puts e).0 y))
      (λ (t : Told unit later e). (h e).0 (inr (t.0, split e.value ∙ or_second (here e.value) (later e.value) t.1))) x,
  λ x. ⊎_elim
      (λ o. inl ((puts e).1 (inl o)))
      (λ (t : Told unit left e). ⊎_elim (λ y. inl ((puts e).1 (inr (t.0, y)))) (λ y. inr (t.0, y)) (or_cases (here e.value) (later e.value) (sym (split e.value) ∙ t.1)))
      ((h e).1 x),
)

both_end : (unit : ℕ) (left all : ℕ → Bool) (old now : List Edge) → ((n : ℕ) → left n ≡ true → ⊥) → AreBoth unit left old now all → PutsIf unit (λ n. all n ≡ true) old now
both_end unit left all old now none h e = (
  λ x. (h e).0 (inl x),
  λ x. ⊎_elim (λ o. o) (λ (t : Told unit left e). absurd (none e.value t.1)) ((h e).1 x),
)

-- ---- values

pub record PutLeft (unit : ℕ) (raw : List RawUnit) (s : MeaningContext ℕ) (name : ℕ → EntryName) (values : List RawAttr) (into : List (Option ℕ)) (old now : List Edge) (all : ℕ → Bool) : Type 0 where
  pub numbers : List ℕ
  pub attrs : List (Attr ℕ)
  pub meant : AreAttrsMeant raw s numbers values attrs
  pub units_are : AreInto name into (attrs_refs attrs)
  pub each : AreBoth unit (said goes_into name attrs) old now all

module _ (unit : ℕ) (raw : List RawUnit) (s : MeaningContext ℕ) (name : ℕ → EntryName) where
  pub put_all : (numbers : List ℕ) (i : ℕ) (r : EntryRow) (d : Node ℕ) (into : List (Option ℕ)) (old : List Edge) → IsEntryMeant raw s i numbers r d → AreInto name into (node_refs d)
      → PutLeft unit raw s name r.entry.attrs into old old (λ n. any_attr (goes_into n) (node_map name d))
  put_all numbers i r d into old m h = record { numbers = numbers; attrs = d.attrs; meant = entry raw s i numbers r d m; units_are = h; each = λ e. (λ x. x, λ x. x) }

  pub put_sibling : (values : List RawAttr) (j : ℕ) (a : RawAttr) (into : List (Option ℕ)) (old now : List Edge) (all : ℕ → Bool) → slice_get values j ≡ Some a → a.pair.name ≡ 0x01
      → PutLeft unit raw s name (drop j values) into old now all → PutLeft unit raw s name (drop (j + 1) values) into old now all
  put_sibling values j a into old now all is e h = record {
    numbers = h.numbers;
    attrs = h.attrs;
    meant = sibling raw s h.numbers a (drop (j + 1) values) h.attrs e (subst (λ (vs : List RawAttr). AreAttrsMeant raw s h.numbers vs h.attrs) (drop_here values j a is) h.meant);
    units_are = h.units_are;
    each = h.each;
  }

  pub put_more : (values : List RawAttr) (j : ℕ) (a : RawAttr) (into rest : List (Option ℕ)) (old now new : List Edge) (all : ℕ → Bool) → slice_get values j ≡ Some a → a.pair.name ≢ 0x01
      → ((v : Value ℕ) → meaning s a ≡ Ok v → AreInto name into (value_refs v) → PutsIf unit (λ n. goes_into n (attr_map name (attr_with a v)) ≡ true) now new)
      → ((v : Value ℕ) → meaning s a ≡ Ok v → rest ≡ drop (length (value_refs v)) into)
      → PutLeft unit raw s name (drop j values) into old now all → PutLeft unit raw s name (drop (j + 1) values) rest old new all
  put_more values j a into rest old now new all is ne puts behind h =
      let n = value raw s h.numbers a (drop (j + 1) values) h.attrs ne (subst (λ (vs : List RawAttr). AreAttrsMeant raw s h.numbers vs h.attrs) (drop_here values j a is) h.meant) in
      let both : AreInto name into (value_refs n.value ++ attrs_refs n.left) = subst (λ (as' : List (Attr ℕ)). AreInto name into (attrs_refs as')) n.parts h.units_are in
      let m = puts n.value n.means (into_first name into (value_refs n.value) (attrs_refs n.left) both) in
      let A : Attr EntryName = attr_map name (attr_with a n.value) in
      let split : (k : ℕ) → said goes_into name h.attrs k ≡ (goes_into k A || said goes_into name n.left k) = λ k. ap (λ (as' : List (Attr ℕ)). said goes_into name as' k) n.parts in
      let z : 0 + length (value_refs n.value) ≡ length (value_refs n.value) = omega arith in
      record {
        numbers = drop (length (value_refs n.value)) h.numbers;
        attrs = n.left;
        meant = n.rest;
        units_are = subst (λ (w : List (Option ℕ)). AreInto name w (attrs_refs n.left)) (ap (λ (k : ℕ). drop k into) z ∙ sym (behind n.value n.means))
            (into_rest name into 0 (value_refs n.value) (attrs_refs n.left) both);
        each = both_next unit (said goes_into name h.attrs) (λ k. goes_into k A) (said goes_into name n.left) all old now new split m h.each;
      }

  pub put_none : (values : List RawAttr) (j : ℕ) (into : List (Option ℕ)) (old now : List Edge) (all : ℕ → Bool) → length values ≤ j → PutLeft unit raw s name (drop j values) into old now all
      → PutsIf unit (λ n. all n ≡ true) old now
  put_none values j into old now all le h =
      let none = no_value raw s h.numbers h.attrs (subst (λ (vs : List RawAttr). AreAttrsMeant raw s h.numbers vs h.attrs) (drop_all j values le) h.meant) in
      both_end unit (said goes_into name h.attrs) all old now (λ n t. false≢true (sym (ap (λ (as' : List (Attr ℕ)). said goes_into name as' n) none) ∙ t)) h.each

-- ---- entries

pub record RowsPutLeft (unit : ℕ) (raw : List RawUnit) (s : MeaningContext ℕ) (name : ℕ → EntryName) (into : List (Option ℕ)) (starts : List ℕ) (i end : ℕ) (old now : List Edge) (all : ℕ
    → Bool) : Type 0 where
  pub numbers : List ℕ
  pub rows : List EntryRow
  pub after : List EntryRow
  pub ds : List (Node ℕ)
  pub meant : AreRowsMeant raw s i end numbers rows after ds
  pub units_are : EachInto name into starts i ds
  pub each : AreBoth unit (rows_said goes_into name ds) old now all

module _ (unit : ℕ) (raw : List RawUnit) (s : MeaningContext ℕ) (name : ℕ → EntryName) (into : List (Option ℕ)) (starts : List ℕ) (end : ℕ) where
  pub rows_all : (first : ℕ) (numbers : List ℕ) (rows after : List EntryRow) (ds : List (Node ℕ)) (old : List Edge) → AreRowsMeant raw s first end numbers rows after ds
      → EachInto name into starts first ds → RowsPutLeft unit raw s name into starts first end old old (rows_said goes_into name ds)
  rows_all first numbers rows after ds old m h = record { numbers = numbers; rows = rows; after = after; ds = ds; meant = m; units_are = h; each = λ e. (λ x. x, λ x. x) }

  pub rows_more : (i : ℕ) (old now new : List Edge) (all : ℕ → Bool) → i < end
      → ((numbers : List ℕ) (r : EntryRow) (d : Node ℕ) → IsEntryMeant raw s i numbers r d → AreInto name (drop (slice_index starts i) into) (node_refs d)
      → PutsIf unit (λ n. any_attr (goes_into n) (node_map name d) ≡ true) now new)
      → RowsPutLeft unit raw s name into starts i end old now all → RowsPutLeft unit raw s name into starts (i + 1) end old new all
  rows_more i old now new all lt puts h =
      let n = row raw s i end h.numbers h.rows h.after h.ds lt h.meant in
      let both : EachInto name into starts i (n.d ∷ n.left) = subst (λ (ds : List (Node ℕ)). EachInto name into starts i ds) n.ds_are h.units_are in
      let m = puts h.numbers n.row n.d n.entry both.0 in
      let split : (k : ℕ) → rows_said goes_into name h.ds k ≡ (any_attr (goes_into k) (node_map name n.d) || rows_said goes_into name n.left k) =
      λ k. ap (λ (ds : List (Node ℕ)). rows_said goes_into name ds k) n.ds_are in
      record {
        numbers = drop (length (node_refs n.d)) h.numbers;
        rows = n.others;
        after = h.after;
        ds = n.left;
        meant = n.rest;
        units_are = both.1;
        each = both_next unit (rows_said goes_into name h.ds) (λ k. any_attr (goes_into k) (node_map name n.d)) (rows_said goes_into name n.left) all old now new split m h.each;
      }

  pub rows_none : (i : ℕ) (old now : List Edge) (all : ℕ → Bool) → end ≤ i → RowsPutLeft unit raw s name into starts i end old now all → PutsIf unit (λ n. all n ≡ true) old now
  rows_none i old now all le h =
      let none = no_row raw s i end h.numbers h.rows h.after h.ds le h.meant in
      both_end unit (rows_said goes_into name h.ds) all old now (λ n t. false≢true (sym (ap (λ (ds : List (Node ℕ)). rows_said goes_into name ds n) none.1) ∙ t)) h.each
