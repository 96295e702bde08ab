use Rattle.std.proofs.Common.{◌≡◌, ◌-◌, ◌+◌, ◌*◌, ◌^◌, ◌++◌, ◌∷◌, [], ℕ, Bool, List, Vec, Global, ap, false, get_or, map, ◌∙◌, sym, arith}
use Rattle.std.specs.List.{filter, range_with_len}
use Rattle.dwz_check_rows.specs.Keys.{key}
use Rattle.dwz_check_rows.proofs.KeyLemmas.{kept, passed}
use Rattle.dwz_check_rows.proofs.keys.top_keys.Goals as goal
use Rattle.dwz_check_rows.proofs.keys.top_keys.Goals.{then-plain-node+in_ok-push, else-plain-node}

pub loop-node-init : goal.loop-node-init
loop-node-init c = record {
  is = (let none : c.args.unit.now.top - c.args.unit.now.top ≡ 0 = omega arith in
      c.new-keys.ensures.items
      ∙ sym (ap (λ k. map (key c.args.classes.now c.args.columns.now.names) (filter (λ n. get_or c.args.columns.now.plain n false) (range_with_len c.args.unit.now.top k))) none));
  low = omega arith;
}

pub loop-node-preserved : goal.loop-node-preserved
loop-node-preserved c =
    let n = c.loop-node.node in
    let f : ℕ → ℕ = key c.args.classes.now c.args.columns.now.names in
    let p : ℕ → Bool = λ k. get_or c.args.columns.now.plain k false in
    let start = c.loop-node.auto.node in
    record {
      is = elim c.if-plain-node.branch [
        | then-plain-node+in_ok-push w ↦ kept f p c.args.unit.now.top n c.loop-node.keys.items c.if-plain-node.keys.items start
            (sym (ap (λ (bs : List Bool). get_or bs n false) c.as_slice-plain.ensures) ∙ w.if-plain-node.true) c.loop-node.invariant.is
            (ap (λ (v : Vec ℕ Global). v.items) w.keys-is ∙ (w.in_ok-push.ensures.items
            ∙ ap (λ k. c.loop-node.keys.items ++ k ∷ []) (w.key_of.ensures ∙ ap (λ (ns : List ℕ). get_or ns n 0 * 2 ^ 32 + get_or c.args.classes.now n 0) c.as_slice-names.ensures)))
        | else-plain-node w ↦ passed f p c.args.unit.now.top n c.loop-node.keys.items c.if-plain-node.keys.items start
            (sym (ap (λ (bs : List Bool). get_or bs n false) c.as_slice-plain.ensures) ∙ w.if-plain-node.false) c.loop-node.invariant.is
            (ap (λ (v : Vec ℕ Global). v.items) w.keys-is)
      ];
      low = let end = c.loop-node-test.true in omega arith;
    }

pub returns : goal.returns
returns c =
    let low = c.loop-node.invariant.low in
    let end = c.loop-node-test.false in
    let same : c.loop-node.node - c.args.unit.now.top ≡ c.args.unit.now.tops_end - c.args.unit.now.top = omega arith in
    c.loop-node.invariant.is
    ∙ ap (λ k. map (key c.args.classes.now c.args.columns.now.names) (filter (λ n. get_or c.args.columns.now.plain n false) (range_with_len c.args.unit.now.top k))) same
