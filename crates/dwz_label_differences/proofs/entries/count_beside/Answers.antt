use Rattle.std.proofs.Common.{◌≡◌, ◌∷◌, ap, arith, length, subst}
use Rattle.std.proofs.lemmas.List.{length-drop}
use Rattle.dwz_label_differences.proofs.EntryLemmas.{AreBeside, all_beside, one_beside}
use Rattle.dwz_label_differences.proofs.entries.count_beside.Goals as goal

pub beside-preserved : goal.beside-preserved
beside-preserved c =
    let shape : c.beside.left.now ≡ c.in-Some.first.now ∷ c.in-Some.others.now = c.in-Some.ensures.cases.0 in
    record {
      few = (
          let few = c.beside.invariant.few in
          let long = ap length shape in
          let less = length-drop c.in-Some.first.now.below c.in-Some.others.now in
          let next = ap length c.behind-left.ensures in
          omega (arith, few, long, less, next));
      counted = λ f h.
          one_beside f c.in-Some.first.now c.in-Some.others.now c.behind-left.result.now c.beside.count c.behind-left.ensures
          (subst (λ rows. AreBeside f rows c.beside.count) shape (c.beside.invariant.counted f h));
    }

pub returns : goal.returns
returns c = λ f h. all_beside f c.beside.left.now c.beside.count c.in_default.ensures.cases (c.beside.invariant.counted f h)
