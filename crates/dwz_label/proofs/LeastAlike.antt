-- The least alike nodes are the least alike tops, since alike nodes are those of alike tops, or one bound top's.
use Rattle.std.proofs.Common.{◌≡◌, ℕ, ◌<◌, ◌≤◌, true, false, List, length, sym, subst, ◌∙◌, ⊎_elim, arith}
use Rattle.std.specs.Prelude.{slice_index}
use Rattle.std.proofs.lemmas.Bool.{cases_Bool, false≢true}
use Rattle.dwz_def_reading.specs.Lists.{In}
use Rattle.dwz_def_reading.proofs.DecideLemmas.{if_true}
use Rattle.dwz_nodes.specs.Graph.{Node, label_at}
use Rattle.dwz_nodes.specs.Looks.{Alike as AlikeNodes, IsLeastBelow, IsRefined}
use Rattle.dwz_def_tops.specs.Alike.{Alike, Movable, TopScope}
use Rattle.dwz_def_tops.specs.Deciding.{alike_test, is_movable}
use Rattle.dwz_def_tops.specs.Spots.{EntryName, FileUnit, Top, tops_of}
use Rattle.dwz_def_tops.proofs.AlikeBound.{movable_decides}
use Rattle.dwz_def_tops.proofs.AlikeLaws.{alike_joins, alike_turns, test_decides}
use Rattle.dwz_def_tops.proofs.TopNumbers.{tops_numbers, top_at}
use Rattle.dwz_label.specs.Nodes.{AreLeast, AreTopNodes, HaveOneLeast}
use Rattle.dwz_label.proofs.Choices.{by_if}
use Rattle.dwz_label.proofs.NodeLooks.{bound_node, movable_node, node_looks, top_below}

module _ (units : List (FileUnit EntryName)) (g : List Node) (nodes : AreTopNodes units g) where
  -- a node with the label of a movable top's is a movable top's
  label_movable : (a b : Top) → In a (tops_of units) → In b (tops_of units) → Movable units a.number → label_at g a.number ≡ label_at g b.number → is_movable units b ≡ true
  label_movable a b i j m e = ⊎_elim (λ t. t)
      (λ (f : is_movable units b ≡ false).
      let own : Movable units b.number = subst (λ (n : ℕ). Movable units n) (e ∙ (bound_node units g nodes b j f).label) (movable_node units g nodes a i m).label.is.movable in
      absurd (false≢true (sym f ∙ (movable_decides units b j).1 own)))
      (cases_Bool (is_movable units b))

  from_nodes : (a b : Top) → In a (tops_of units) → In b (tops_of units) → is_movable units a ≡ true → AlikeNodes g a.number b.number → Alike units a.number b.number
  from_nodes a b i j f h =
      let m = (movable_decides units a i).0 f in
      let n = (movable_decides units b j).0 (label_movable a b i j m (h 1).0) in
      record { first = m; second = n; equal = λ k. (node_looks units g nodes k a.number b.number m n).0 (h k) }

  to_nodes : (m n : ℕ) → Alike units m n → AlikeNodes g m n
  to_nodes m n h k = (node_looks units g nodes k m n h.first h.second).1 (h.equal k)

  from_bound : (a b : Top) → In a (tops_of units) → In b (tops_of units) → is_movable units a ≡ false → AlikeNodes g a.number b.number → a.number ≡ b.number
  from_bound a b i j f h =
      let e : label_at g a.number ≡ label_at g b.number = (h 1).0 in
      let own = (bound_node units g nodes a i f).label in ⊎_elim
      (λ (t : is_movable units b ≡ true). absurd (false≢true (sym f ∙ label_movable b a j i ((movable_decides units b j).0 t) (sym e))))
      (λ (t : is_movable units b ≡ false). sym own ∙ e ∙ (bound_node units g nodes b j t).label)
      (cases_Bool (is_movable units b))

  module _ (least : List ℕ) (refined : IsRefined g least) where
    answer : (t : Top) → In t (tops_of units) → IsLeastBelow (length g) (AlikeNodes g t.number) (slice_index least t.number)
    answer t i = refined.each t.number (let l = top_below units t i in let len = nodes.len in omega arith)

    answer_below : (t : Top) → In t (tops_of units) → slice_index least t.number < length (tops_of units)
    answer_below t i = let a = (answer t i).inside in let len = nodes.len in omega arith

    top_of_answer : (t : Top) → In t (tops_of units) → (u : Top) × In u (tops_of units) × (u.number ≡ slice_index least t.number)
    top_of_answer t i = top_at 0 (tops_of units) (slice_index least t.number) (tops_numbers units) (omega arith) (let l = answer_below t i in omega arith)

    at_answer : (t u : Top) → (i : In t (tops_of units)) → u.number ≡ slice_index least t.number → AlikeNodes g t.number u.number
    at_answer t u i e = subst (λ (n : ℕ). AlikeNodes g t.number n) (sym e) (answer t i).is

    movable_answer : (t : Top) → In t (tops_of units) → is_movable units t ≡ true → IsLeastBelow (length (tops_of units)) (Alike units t.number) (slice_index least t.number)
    movable_answer t i f =
        let u = top_of_answer t i in
        record {
          inside = answer_below t i;
          is = subst (λ (n : ℕ). Alike units t.number n) u.2 (from_nodes t u.0 i u.1 f (at_answer t u.0 i u.2));
          least = λ k low h. (answer t i).least k (let len = nodes.len in omega arith) (to_nodes t.number k h);
        }

    bound_answer : (t : Top) → In t (tops_of units) → is_movable units t ≡ false → slice_index least t.number ≡ t.number
    bound_answer t i f = let u = top_of_answer t i in sym u.2 ∙ sym (from_bound t u.0 i u.1 f (at_answer t u.0 i u.2))

    pub least_tops : AreLeast units least
    least_tops = record {
      len = refined.len ∙ nodes.len;
      each = λ t i. by_if (is_movable units t) _ _ (movable_answer t i) (bound_answer t i);
    }

-- ---- tops with one least alike top

module _ (units : List (FileUnit EntryName)) (least : List ℕ) (are : AreLeast units least) where
  least_of : (t : Top) → In t (tops_of units) → is_movable units t ≡ true → IsLeastBelow (length (tops_of units)) (Alike units t.number) (slice_index least t.number)
  least_of t i f = if_true (is_movable units t) _ _ f (are.each t i)

  alike_least : (a b : Top) → In a (tops_of units) → In b (tops_of units) → Alike units a.number b.number → slice_index least a.number ≤ slice_index least b.number
  alike_least a b i j h =
      let x = least_of a i ((movable_decides units a i).1 h.first) in
      let y = least_of b j ((movable_decides units b j).1 h.second) in
      x.least (slice_index least b.number) y.inside (alike_joins units a.number b.number (slice_index least b.number) h y.is)

  alike_same : (a b : Top) → In a (tops_of units) → In b (tops_of units) → Alike units a.number b.number → slice_index least a.number ≡ slice_index least b.number
  alike_same a b i j h =
      let l = alike_least a b i j h in
      let m = alike_least b a j i (alike_turns units a.number b.number h) in
      omega arith

  same_alike : (a b : Top) → In a (tops_of units) → In b (tops_of units) → is_movable units a ≡ true → is_movable units b ≡ true
      → slice_index least a.number ≡ slice_index least b.number → Alike units a.number b.number
  same_alike a b i j f h e =
      let x = (least_of a i f).is in
      let y : Alike units b.number (slice_index least a.number) = subst (λ (n : ℕ). Alike units b.number n) (sym e) (least_of b j h).is in
      alike_joins units a.number (slice_index least a.number) b.number x (alike_turns units b.number (slice_index least a.number) y)

  pub alike_joined : (scope : TopScope) (a b : Top) → In a (tops_of units) → In b (tops_of units)
      → (alike_test scope units a.number b.number ≡ true → HaveOneLeast scope units least a b) × (HaveOneLeast scope units least a b → alike_test scope units a.number b.number ≡ true)
  alike_joined scope a b i j =
      let d = test_decides scope units a b i j in (
        λ e. (
            let h = d.0 e in
            record {
              first = (movable_decides units a i).1 h.1.first;
              second = (movable_decides units b j).1 h.1.second;
              scoped = h.0;
              same = alike_same a b i j h.1;
            }),
        λ h. d.1 (h.scoped, same_alike a b i j h.first h.second h.same),
      )
