use Rattle.std.proofs.Common.{◌≡◌, ℕ, ◌*◌, ◌≤◌, List, length, sym, ap, subst, ◌∙◌}
use Rattle.std.specs.Global.{Vec}
use Rattle.std.proofs.lemmas.Result.{IfOk-weaker}
use Rattle.dwz_label.specs.Stretches.{AreStretches}
use Rattle.dwz_label.proofs.Wholes.{front_whole}
use Rattle.dwz_label.proofs.stretches.labels_by.Goals as goal

pub returns : goal.returns
returns g c =
    let label : ℕ → List ℕ = g.W.LabelWriter.label c.args.writer.now in
    let count : ℕ = c.args.count in
    let len : ℕ = c.stretch_len-len.result in
    let parts : List (Vec (List (List ℕ))) = c.as_slice.result.now in
    let shown = c.as_slice.ensures.value in
    let many : length parts ≡ c.args.workers = ap (λ (ps : List (Vec (List (List ℕ)))). length ps) shown ∙ c.in_ok-parts.ensures.many in
    let enough : count ≤ 16 * length parts * len = subst (λ (n : ℕ). count ≤ 16 * n * len) (sym many) c.stretch_len-len.ensures in
    let are = subst (λ (ps : List (Vec (List (List ℕ)))). AreStretches label count len ps) (sym shown) c.in_ok-parts.ensures.each in
    IfOk-weaker c.join_stretches.result _ _ (λ labels is. is ∙ front_whole label count len (16 * length parts) enough) (c.join_stretches.ensures label count len are)
