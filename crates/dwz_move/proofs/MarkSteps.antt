-- What is marked by an entry's values, and what is left.
use Rattle.std.proofs.Common.{◌≡◌, ◌≢◌, ◌↔◌, ◌⊎◌, ℕ, ◌+◌, ◌<◌, Bool, true, List, ◌++◌, Option, drop, length, map, Some, Ok, slice_get, refl, sym, ap, subst, ◌∙◌, arith, inl, inr, ⊎_elim}
use Rattle.std.specs.Prelude.{◌||◌}
use Rattle.std.specs.List.{list_any}
use Rattle.std.proofs.lemmas.Bool.{or_cases}
use Rattle.dwz_def_tops.specs.Alike.{any_attr}
use Rattle.dwz_def_tops.specs.Spots.{EntryName}
use Rattle.dwz_def_tops.proofs.Targets.{or_first, or_second}
use Rattle.dwz_def_reading.specs.Entries.{RawAttr}
use Rattle.dwz_def_reading.specs.Units.{RawUnit}
use Rattle.dwz_def_reading.proofs.ListFacts.{drop_here}
use Rattle.dwz_graph.specs.Rows.{AreAttrsMeant, IsEntryMeant, node_refs}
use Rattle.dwz_graph.proofs.StepLemmas.{entry, sibling, value}
use Rattle.dwz_def_reading.specs.Documents.{Attr, Node, Value, attr_map, node_map}
use Rattle.dwz_def_reading.specs.Meanings.{MeaningContext}
use Rattle.dwz_def_reading.specs.Meant.{attr_with, meaning}
use Rattle.dwz_graph.specs.Named.{attrs_refs, value_refs}
use Rattle.dwz_groups.specs.Spreading.{IsMarked}
use Rattle.dwz_unit.specs.Rows.{EntryRow}
use Rattle.dwz_move.specs.Bound.{AreInto}
use Rattle.dwz_move.specs.Marked.{MarksIf}
use Rattle.dwz_move.proofs.BindSteps.{into_first, into_rest}

-- for each top whether an attribute says so of it
abbrev pub Test : Type 0
Test = ℕ → Attr EntryName → Bool

abbrev pub said : Test → (ℕ → EntryName) → List (Attr ℕ) → ℕ → Bool
said test name attrs n = list_any (test n) (map (attr_map name) attrs)

-- These values mean attributes. Marked is what was marked or is said by those before them: together with what these say it is all.
pub record MarkLeft (test : Test) (raw : List RawUnit) (s : MeaningContext ℕ) (name : ℕ → EntryName) (values : List RawAttr) (into : List (Option ℕ)) (old now : List Bool) (all : ℕ
    → Bool) : Type 0 where
  pub numbers : List ℕ
  pub attrs : List (Attr ℕ)
  pub meant : AreAttrsMeant raw s numbers values attrs
  pub tops_are : AreInto name into (attrs_refs attrs)
  pub len : length now ≡ length old
  pub each : (n : ℕ) → n < length old → (IsMarked now n ⊎ (said test name attrs n ≡ true)) ↔ (IsMarked old n ⊎ (all n ≡ true))

module _ (test : Test) (raw : List RawUnit) (s : MeaningContext ℕ) (name : ℕ → EntryName) where
  pub mark_all : (numbers : List ℕ) (i : ℕ) (r : EntryRow) (d : Node ℕ) (into : List (Option ℕ)) (old : List Bool) → IsEntryMeant raw s i numbers r d → AreInto name into (node_refs d)
      → MarkLeft test raw s name r.entry.attrs into old old (λ n. any_attr (test n) (node_map name d))
  mark_all numbers i r d into old m h = record { numbers = numbers; attrs = d.attrs; meant = entry raw s i numbers r d m; tops_are = h; len = refl; each = λ n l. (λ x. x, λ x. x) }

  pub mark_sibling : (values : List RawAttr) (j : ℕ) (a : RawAttr) (into : List (Option ℕ)) (old now : List Bool) (all : ℕ → Bool) → slice_get values j ≡ Some a → a.pair.name ≡ 0x01
      → MarkLeft test raw s name (drop j values) into old now all → MarkLeft test raw s name (drop (j + 1) values) into old now all
  mark_sibling values j a into old now all is e h = record {
    numbers = h.numbers;
    attrs = h.attrs;
    meant = sibling raw s h.numbers a (drop (j + 1) values) h.attrs e (subst (λ (vs : List RawAttr). AreAttrsMeant raw s h.numbers vs h.attrs) (drop_here values j a is) h.meant);
    tops_are = h.tops_are;
    len = h.len;
    each = h.each;
  }

  pub mark_more : (values : List RawAttr) (j : ℕ) (a : RawAttr) (into rest : List (Option ℕ)) (old now new : List Bool) (all : ℕ → Bool) → slice_get values j ≡ Some a → a.pair.name ≢ 0x01
      → ((v : Value ℕ) → meaning s a ≡ Ok v → AreInto name into (value_refs v) → MarksIf (λ n. test n (attr_map name (attr_with a v)) ≡ true) now new)
      → ((v : Value ℕ) → meaning s a ≡ Ok v → rest ≡ drop (length (value_refs v)) into)
      → MarkLeft test raw s name (drop j values) into old now all → MarkLeft test raw s name (drop (j + 1) values) rest old new all
  mark_more values j a into rest old now new all is ne marks behind h =
      let n = value raw s h.numbers a (drop (j + 1) values) h.attrs ne (subst (λ (vs : List RawAttr). AreAttrsMeant raw s h.numbers vs h.attrs) (drop_here values j a is) h.meant) in
      let both : AreInto name into (value_refs n.value ++ attrs_refs n.left) = subst (λ (as' : List (Attr ℕ)). AreInto name into (attrs_refs as')) n.parts h.tops_are in
      let m = marks n.value n.means (into_first name into (value_refs n.value) (attrs_refs n.left) both) in
      let A : Attr EntryName = attr_map name (attr_with a n.value) in
      let split : (k : ℕ) → said test name h.attrs k ≡ (test k A || said test name n.left k) = λ k. ap (λ (as' : List (Attr ℕ)). said test name as' k) n.parts in
      let z : 0 + length (value_refs n.value) ≡ length (value_refs n.value) = omega arith in
      record {
        numbers = drop (length (value_refs n.value)) h.numbers;
        attrs = n.left;
        meant = n.rest;
        tops_are = subst (λ (w : List (Option ℕ)). AreInto name w (attrs_refs n.left)) (ap (λ (k : ℕ). drop k into) z ∙ sym (behind n.value n.means))
            (into_rest name into 0 (value_refs n.value) (attrs_refs n.left) both);
        len = m.len ∙ h.len;
        each = λ k l. (
            let low : k < length now = (let e = h.len in omega arith) in
            let here = m.each k low in
            let was = h.each k l in (
              λ x. ⊎_elim
                  (λ y. ⊎_elim (λ o. was.0 (inl o)) (λ t. was.0 (inr (split k ∙ or_first (test k A) (said test name n.left k) t))) (here.0 y))
                  (λ t. was.0 (inr (split k ∙ or_second (test k A) (said test name n.left k) t))) x,
              λ x. ⊎_elim
                  (λ o. inl (here.1 (inl o)))
                  (λ t. ⊎_elim (λ y. inl (here.1 (inr y))) (λ y. inr y) (or_cases (test k A) (said test name n.left k) (sym (split k) ∙ t)))
                  (was.1 x),
            ));
      }
