use Rattle.std.proofs.Common.{◌≡◌, ◌∷◌, [], ℕ, List, ap, arith, inl, inr, length, slice_get, subst, sym, ◌∙◌}
use Rattle.std.proofs.lemmas.List.{length-append}
use Rattle.dwz_graph.specs.Here.{Here}
use Rattle.dwz_check_index.proofs.Shown.{pushed}
use Rattle.dwz_unit.specs.Rows.{units_of}
use Rattle.dwz_check_labels.specs.Files.{IsHereOf}
use Rattle.dwz_check_labels.proofs.heres.heres_of.Goals as goal

pub loop-n-preserved : goal.loop-n-preserved
loop-n-preserved c =
    let old = c.loop-n.heres.items in
    let one = c.here_in.result in
    let more = c.in_ok-push.ensures.items in
    record {
      many = ap (λ (w : List Here). length w) more ∙ (let n = c.loop-n.invariant.many in omega (arith, length-append old (one ∷ [])));
      each = λ k h found. elim (pushed old one k h (ap (λ (w : List Here). slice_get w k) (sym more) ∙ found)) [
        | inl a ↦ c.loop-n.invariant.each k h a
        | inr b ↦
            let at : c.loop-n.n ≡ k = sym (b.0 ∙ c.loop-n.invariant.many) in
            subst (λ (w : Here). IsHereOf (units_of c.args.units.now) k w) b.1 (subst (λ (m : ℕ). IsHereOf (units_of c.args.units.now) m one) at c.here_in.ensures)
      ];
    }

pub returns : goal.returns
returns c = (let n = c.loop-n.invariant.many in let end = c.len-n-end.ensures in let test = c.loop-n-test.false in record { many = omega arith; each = c.loop-n.invariant.each })
