-- Nodes made from lists that show tops: the first of equal labels is the least top with the same bare tree.
use Rattle.std.proofs.Common.{◌≡◌, ℕ, ◌<◌, Bool, true, false, List, [], length, get_or, sym, ap, subst, ◌∙◌, arith}
use Rattle.std.specs.Prelude.{All, if◌then◌else◌, slice_index, slice_index_or}
use Rattle.std.proofs.lemmas.Bool.{cond-false, cond-true}
use Rattle.dwz_def_reading.specs.Lists.{In}
use Rattle.dwz_def_reading.proofs.DecideLemmas.{if_false, if_true}
use Rattle.dwz_nodes.specs.Graph.{IsClosed, Node, node, node_at}
use Rattle.dwz_nodes.specs.Looks.{IsLeastBelow}
use Rattle.dwz_def_tops.specs.Alike.{Movable}
use Rattle.dwz_def_tops.specs.Deciding.{is_movable}
use Rattle.dwz_def_tops.specs.Spots.{EntryName, FileUnit, Top, tops_of}
use Rattle.dwz_def_tops.proofs.AlikeBound.{movable_decides}
use Rattle.dwz_def_tops.proofs.TopNumbers.{tops_numbers, top_at}
use Rattle.dwz_label.specs.Labels.{label_of}
use Rattle.dwz_label.specs.Nodes.{AreTopNodes, IsLikeness}
use Rattle.dwz_label.specs.Shown.{AreFirstEquals, AreMadeOf, AreShown, nth_label}
use Rattle.dwz_label.proofs.Choices.{by_if}
use Rattle.dwz_label.proofs.LabelLemmas.{bare_label, label_bare}
use Rattle.dwz_label.proofs.NodeLooks.{top_below}

chosen : (free : Bool) (ts : List ℕ) (count : ℕ) → All (λ t. t < count) ts → All (λ t. t < count) (if free then ts else [])
chosen true ts count inside = inside
chosen false ts count inside = λ k d l. absurd (omega arith)

pub made_closed : (firsts : List ℕ) (movable : List Bool) (targets : List (List ℕ)) (g : List Node) → length targets ≡ length firsts
    → All (λ ts. All (λ t. t < length targets) ts) targets → AreMadeOf firsts movable targets g → IsClosed g
made_closed firsts movable targets g many inside made n l =
    let size : length g ≡ length targets = made.len ∙ sym many in
    subst (λ (k : ℕ). All (λ t. t < k) (node_at g n).targets) (sym size)
    (subst (λ (x : Node). All (λ t. t < length targets) x.targets) (sym (made.each n (omega (arith, size, l))))
    (chosen (slice_index_or movable n false) (slice_index_or targets n []) (length targets) (inside n [] (omega arith))))

module _ (units : List (FileUnit EntryName)) (labels : List (List ℕ)) (movable : List Bool) (targets : List (List ℕ)) (firsts : List ℕ) (g : List Node)
    (shown : AreShown units labels movable targets) (are : AreFirstEquals labels movable firsts) (made : AreMadeOf firsts movable targets g) where
  many : length firsts ≡ length (tops_of units)
  many = are.len ∙ shown.flags.len

  node_is : (t : Top) → In t (tops_of units) → node_at g t.number ≡ node (slice_index firsts t.number) (if slice_index_or movable t.number false then slice_index_or targets t.number [] else [])
  node_is t i = made.each t.number (let l = top_below units t i in let m = many in omega arith)

  flag_below : (t : Top) → In t (tops_of units) → t.number < length movable
  flag_below t i = let l = top_below units t i in let m = shown.flags.len in omega arith

  first_is : (t : Top) → In t (tops_of units) → is_movable units t ≡ true → IsLeastBelow (length (tops_of units)) (IsLikeness units t) (slice_index firsts t.number)
  first_is t i f =
      let free = (movable_decides units t i).0 f in
      let r = if_true (slice_index_or movable t.number false) _ _ (shown.flags.each t i ∙ f) (are.each t.number (flag_below t i)) in
      let low : slice_index firsts t.number < length (tops_of units) = (let l = r.inside in let m = shown.flags.len in omega arith) in
      let u = top_at 0 (tops_of units) (slice_index firsts t.number) (tops_numbers units) (omega arith) (omega arith) in
      let flag : is_movable units u.0 ≡ true = sym (shown.flags.each u.0 u.1) ∙ ap (λ (k : ℕ). get_or movable k false) u.2 ∙ r.is.0 in
      let moves = (movable_decides units u.0 u.1).0 flag in
      let equal : label_of t ≡ label_of u.0 = sym (shown.labels_are t i free) ∙ r.is.1 ∙ ap (nth_label labels) (sym u.2) ∙ shown.labels_are u.0 u.1 moves in
      record {
        inside = low;
        is = record { top = u.0; is_top = u.1; number = u.2; movable = subst (λ (k : ℕ). Movable units k) u.2 moves; same = label_bare t u.0 equal };
        least = λ m inside like. (
            let v = like.top in
            let n = like.number in
            let own = subst (λ (k : ℕ). Movable units k) (sym n) like.movable in
            let same : nth_label labels t.number ≡ nth_label labels v.number = shown.labels_are t i free ∙ bare_label t v like.same ∙ sym (shown.labels_are v like.is_top own) in
            let up_to = r.least v.number (flag_below v like.is_top) (shown.flags.each v like.is_top ∙ (movable_decides units v like.is_top).1 own, same) in
            omega arith);
      }

  pub made_nodes : AreTopNodes units g
  made_nodes = record {
    len = made.len ∙ many;
    each = λ t i. by_if (is_movable units t) _ _
        (λ f. record {
          label = subst (λ (k : ℕ). IsLeastBelow (length (tops_of units)) (IsLikeness units t) k) (sym (ap (λ (x : Node). x.label) (node_is t i))) (first_is t i f);
          targets = ap (λ (x : Node). x.targets) (node_is t i)
              ∙ cond-true (slice_index_or movable t.number false) (slice_index_or targets t.number []) [] (shown.flags.each t i ∙ f) ∙ shown.targets_are t i ((movable_decides units t i).0 f);
        })
        (λ f. record {
          label = ap (λ (x : Node). x.label) (node_is t i) ∙ if_false (slice_index_or movable t.number false) _ _ (shown.flags.each t i ∙ f) (are.each t.number (flag_below t i));
          targets = ap (λ (x : Node). x.targets) (node_is t i) ∙ cond-false (slice_index_or movable t.number false) (slice_index_or targets t.number []) [] (shown.flags.each t i ∙ f);
        });
  }
