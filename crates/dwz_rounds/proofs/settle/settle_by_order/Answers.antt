use Rattle.std.proofs.Common.{◌<◌, ℕ, List, Bool, All, length, sym, subst, arith}
use Rattle.dwz_rounds.specs.Settling.{AreByKey}
use Rattle.dwz_rounds.proofs.Passing.{all-below}
use Rattle.dwz_rounds.proofs.Settling.{partly-inside}
use Rattle.dwz_rounds.proofs.Firsts.{put-all}
use Rattle.dwz_rounds.proofs.settle.settle_by_order.Goals as goal

pub by_key-requires : goal.by_key-requires
by_key-requires c = partly-inside c.args.keys.now c.args.classes.now c.args.todo.now c.requires.partly

pub put_firsts-requires-clause-nodes : goal.put_firsts-requires-clause-nodes
put_firsts-requires-clause-nodes c =
    let partly = c.requires.partly in
    subst (λ (l : List ℕ). All (λ a. a < length c.args.classes.now) l) (sym c.as_slice.ensures.value)
    (all-below c.in_ok-groups.groups.nodes.items (length c.args.classes.now) (λ a h. let i = partly.inside a (c.in_ok-groups.ensures.same.back a h) in let e = partly.len in omega arith))

pub returns : goal.returns
returns c =
    let keys = c.args.keys.now in
    let todo : List ℕ = c.args.todo.now in
    let nodes : List ℕ = c.as_slice.result.now in
    let news : List Bool = c.as_slice-2.result.now in
    let by : AreByKey keys todo nodes news = subst (λ (q : List ℕ × List Bool). AreByKey keys todo q.0 q.1) (λ j. (sym c.as_slice.ensures.value j, sym c.as_slice-2.ensures.value j))
    c.in_ok-groups.ensures in
    let x = c.put_firsts.ensures.put keys todo c.requires.few c.requires.partly by in
    put-all keys todo nodes news c.args.classes.now c.requires.partly by c.put_firsts.new.classes x.0 c.put_firsts.ensures.len x.1
