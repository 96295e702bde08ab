-- What is marked by entries, one behind the other, and what is left.
use Rattle.std.proofs.Common.{◌≡◌, ◌↔◌, ◌⊎◌, ℕ, ◌+◌, ◌<◌, ◌≤◌, Bool, true, List, ◌∷◌, Option, drop, length, map, refl, sym, ap, subst, ◌∙◌, arith, inl, inr, ⊎_elim}
use Rattle.std.specs.Prelude.{◌||◌, slice_index}
use Rattle.std.specs.List.{list_any}
use Rattle.std.proofs.lemmas.Bool.{false≢true, or_cases}
use Rattle.dwz_def_tops.specs.Alike.{any_attr}
use Rattle.dwz_def_tops.specs.Spots.{EntryName}
use Rattle.dwz_def_tops.proofs.Targets.{or_first, or_second}
use Rattle.dwz_def_reading.specs.Units.{RawUnit}
use Rattle.dwz_graph.specs.Rows.{AreRowsMeant, IsEntryMeant, node_refs}
use Rattle.dwz_graph.proofs.StepLemmas.{no_row, row}
use Rattle.dwz_def_reading.specs.Documents.{Node, node_map}
use Rattle.dwz_def_reading.specs.Meanings.{MeaningContext}
use Rattle.dwz_groups.specs.Spreading.{IsMarked}
use Rattle.dwz_unit.specs.Rows.{EntryRow}
use Rattle.dwz_move.specs.Bound.{AreInto, EachInto}
use Rattle.dwz_move.specs.Marked.{MarksIf}
use Rattle.dwz_move.proofs.MarkSteps.{Test}

-- an attribute of one of the entries says so of a top
abbrev pub rows_said : Test → (ℕ → EntryName) → List (Node ℕ) → ℕ → Bool
rows_said test name ds n = list_any (any_attr (test n)) (map (node_map name) ds)

-- The rows from number i on mean entries. Marked is what was marked or is said by those before them: together with what these say it is all.
pub record RowsMarkLeft (test : Test) (raw : List RawUnit) (s : MeaningContext ℕ) (name : ℕ → EntryName) (into : List (Option ℕ)) (starts : List ℕ) (i end : ℕ) (old now : List Bool) (all : ℕ
    → Bool) : Type 0 where
  pub numbers : List ℕ
  pub rows : List EntryRow
  pub after : List EntryRow
  pub ds : List (Node ℕ)
  pub meant : AreRowsMeant raw s i end numbers rows after ds
  pub tops_are : EachInto name into starts i ds
  pub len : length now ≡ length old
  pub each : (n : ℕ) → n < length old → (IsMarked now n ⊎ (rows_said test name ds n ≡ true)) ↔ (IsMarked old n ⊎ (all n ≡ true))

module _ (test : Test) (raw : List RawUnit) (s : MeaningContext ℕ) (name : ℕ → EntryName) (into : List (Option ℕ)) (starts : List ℕ) (end : ℕ) where
  pub rows_mark_all : (first : ℕ) (numbers : List ℕ) (rows after : List EntryRow) (ds : List (Node ℕ)) (old : List Bool) → AreRowsMeant raw s first end numbers rows after ds
      → EachInto name into starts first ds → RowsMarkLeft test raw s name into starts first end old old (rows_said test name ds)
  rows_mark_all first numbers rows after ds old m h = record { numbers = numbers; rows = rows; after = after; ds = ds; meant = m; tops_are = h; len = refl; each = λ n l. (λ x. x, λ x. x) }

  pub rows_mark_more : (i : ℕ) (old now new : List Bool) (all : ℕ → Bool) → i < end
      → ((numbers : List ℕ) (r : EntryRow) (d : Node ℕ) → IsEntryMeant raw s i numbers r d → AreInto name (drop (slice_index starts i) into) (node_refs d)
      → MarksIf (λ n. any_attr (test n) (node_map name d) ≡ true) now new)
      → RowsMarkLeft test raw s name into starts i end old now all → RowsMarkLeft test raw s name into starts (i + 1) end old new all
  rows_mark_more i old now new all lt marks h =
      let n = row raw s i end h.numbers h.rows h.after h.ds lt h.meant in
      let both : EachInto name into starts i (n.d ∷ n.left) = subst (λ (ds : List (Node ℕ)). EachInto name into starts i ds) n.ds_are h.tops_are in
      let m = marks h.numbers n.row n.d n.entry both.0 in
      let split : (k : ℕ) → rows_said test name h.ds k ≡ (any_attr (test k) (node_map name n.d) || rows_said test name n.left k) = λ k. ap (λ (ds : List (Node ℕ)). rows_said test name ds k)
      n.ds_are in
      record {
        numbers = drop (length (node_refs n.d)) h.numbers;
        rows = n.others;
        after = h.after;
        ds = n.left;
        meant = n.rest;
        tops_are = both.1;
        len = m.len ∙ h.len;
        each = λ k l. (
            let low : k < length now = (let e = h.len in omega arith) in
            let here = m.each k low in
            let was = h.each k l in
            let own = any_attr (test k) (node_map name n.d) in (
              λ x. ⊎_elim
                  (λ y. ⊎_elim (λ o. was.0 (inl o)) (λ t. was.0 (inr (split k ∙ or_first own (rows_said test name n.left k) t))) (here.0 y))
                  (λ t. was.0 (inr (split k ∙ or_second own (rows_said test name n.left k) t))) x,
              λ x. ⊎_elim
                  (λ o. inl (here.1 (inl o)))
                  (λ t. ⊎_elim (λ y. inl (here.1 (inr y))) (λ y. inr y) (or_cases own (rows_said test name n.left k) (sym (split k) ∙ t)))
                  (was.1 x),
            ));
      }

  pub rows_mark_none : (i : ℕ) (old now : List Bool) (all : ℕ → Bool) → end ≤ i → RowsMarkLeft test raw s name into starts i end old now all → MarksIf (λ n. all n ≡ true) old now
  rows_mark_none i old now all le h =
      let none = no_row raw s i end h.numbers h.rows h.after h.ds le h.meant in
      record {
        len = h.len;
        each = λ n l. (
          λ x. (h.each n l).0 (inl x),
          λ x. ⊎_elim (λ o. o) (λ t. absurd (false≢true (sym (ap (λ (ds : List (Node ℕ)). rows_said test name ds n) none.1) ∙ t))) ((h.each n l).1 x),
        );
      }
