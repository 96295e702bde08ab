-- Nodes made from labels that tell tops apart: the first of equal labels is the least top with the same bare tree.
use Rattle.std.proofs.Common.{◌≡◌, ℕ, ◌<◌, Bool, true, false, List, [], length, get_or, sym, ap, subst, ◌∙◌, arith}
use Rattle.std.specs.Prelude.{if◌then◌else◌, slice_index, slice_index_or}
use Rattle.std.proofs.lemmas.Bool.{cond-false, cond-true}
use Rattle.dwz_def_reading.specs.Lists.{In}
use Rattle.dwz_def_reading.proofs.DecideLemmas.{if_false, if_true}
use Rattle.dwz_nodes.specs.Graph.{Node, node, node_at}
use Rattle.dwz_nodes.specs.Looks.{IsLeastBelow}
use Rattle.dwz_def_tops.specs.Alike.{Movable}
use Rattle.dwz_def_tops.specs.Deciding.{is_movable}
use Rattle.dwz_def_tops.specs.Spots.{EntryName, FileUnit, Top, tops_of}
use Rattle.dwz_def_tops.proofs.AlikeBound.{movable_decides}
use Rattle.dwz_def_tops.proofs.TopNumbers.{tops_numbers, top_at}
use Rattle.dwz_label.specs.Nodes.{AreTopNodes, IsLikeness}
use Rattle.dwz_label.specs.Shown.{AreFirstEquals, AreMadeOf, nth_label}
use Rattle.dwz_label.proofs.Choices.{by_if}
use Rattle.dwz_label.proofs.NodeLooks.{top_below}
use Rattle.dwz_label_marks.specs.Shown.{ShowApart}

module _ (units : List (FileUnit EntryName)) (labels : List (List ℕ)) (movable : List Bool) (targets : List (List ℕ)) (firsts : List ℕ) (g : List Node)
    (shown : ShowApart units labels movable targets) (are : AreFirstEquals labels movable firsts) (made : AreMadeOf firsts movable targets g) where
  many : length firsts ≡ length (tops_of units)
  many = are.len ∙ shown.flags.len

  node_is : (t : Top) → In t (tops_of units) → node_at g t.number ≡ node (slice_index firsts t.number) (if slice_index_or movable t.number false then slice_index_or targets t.number [] else [])
  node_is t i = made.each t.number (let l = top_below units t i in let m = many in omega arith)

  flag_below : (t : Top) → In t (tops_of units) → t.number < length movable
  flag_below t i = let l = top_below units t i in let m = shown.flags.len in omega arith

  first_is : (t : Top) → In t (tops_of units) → is_movable units t ≡ true → IsLeastBelow (length (tops_of units)) (IsLikeness units t) (slice_index firsts t.number)
  first_is t i f =
      let free = (movable_decides units t i).0 f in
      let r = if_true (slice_index_or movable t.number false) _ _ (shown.flags.each t i ∙ f) (are.each t.number (flag_below t i)) in
      let low : slice_index firsts t.number < length (tops_of units) = (let l = r.inside in let m = shown.flags.len in omega arith) in
      let u = top_at 0 (tops_of units) (slice_index firsts t.number) (tops_numbers units) (omega arith) (omega arith) in
      let flag : is_movable units u.0 ≡ true = sym (shown.flags.each u.0 u.1) ∙ ap (λ (k : ℕ). get_or movable k false) u.2 ∙ r.is.0 in
      let moves = (movable_decides units u.0 u.1).0 flag in
      let equal : nth_label labels t.number ≡ nth_label labels u.0.number = r.is.1 ∙ ap (nth_label labels) (sym u.2) in
      record {
        inside = low;
        is = record { top = u.0; is_top = u.1; number = u.2; movable = subst (λ (k : ℕ). Movable units k) u.2 moves; same = (shown.labels_are.are t u.0 i u.1 free moves).0 equal };
        least = λ m inside like. (
            let v = like.top in
            let n = like.number in
            let own = subst (λ (k : ℕ). Movable units k) (sym n) like.movable in
            let same : nth_label labels t.number ≡ nth_label labels v.number = (shown.labels_are.are t v i like.is_top free own).1 like.same in
            let up_to = r.least v.number (flag_below v like.is_top) (shown.flags.each v like.is_top ∙ (movable_decides units v like.is_top).1 own, same) in
            omega arith);
      }

  pub made_apart : AreTopNodes units g
  made_apart = record {
    len = made.len ∙ many;
    each = λ t i. by_if (is_movable units t) _ _
        (λ f. record {
          label = subst (λ (k : ℕ). IsLeastBelow (length (tops_of units)) (IsLikeness units t) k) (sym (ap (λ (x : Node). x.label) (node_is t i))) (first_is t i f);
          targets = ap (λ (x : Node). x.targets) (node_is t i)
              ∙ cond-true (slice_index_or movable t.number false) (slice_index_or targets t.number []) [] (shown.flags.each t i ∙ f) ∙ shown.targets_are t i ((movable_decides units t i).0 f);
        })
        (λ f. record {
          label = ap (λ (x : Node). x.label) (node_is t i) ∙ if_false (slice_index_or movable t.number false) _ _ (shown.flags.each t i ∙ f) (are.each t.number (flag_below t i));
          targets = ap (λ (x : Node). x.targets) (node_is t i) ∙ cond-false (slice_index_or movable t.number false) (slice_index_or targets t.number []) [] (shown.flags.each t i ∙ f);
        });
  }
