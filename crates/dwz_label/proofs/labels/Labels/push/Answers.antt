use Rattle.std.proofs.Common.{◌≡◌, ℕ, ◌+◌, [], ◌∷◌, ◌++◌, length, sym, ap, subst, ◌∙◌, arith, List, length-append}
use Rattle.dwz_groups.specs.Parts.{parts_of, Rise}
use Rattle.dwz_groups.proofs.PartLemmas.{parts_of-push, Rise-push}
use Rattle.dwz_label.proofs.labels.Labels.push.Goals as goal

pub invariant_of-self-in-Ok : goal.invariant_of-self-in-Ok
invariant_of-self-in-Ok c =
    let es : List ℕ = c.self.inside.ends.items in
    let ts : List ℕ = c.self.inside.bytes.items in
    let items : c.push.new.self.items ≡ es ++ c.len-end.result ∷ [] = c.in-Ok.ensures.items in
    let all : c.extend_from_slice.new.self.items ≡ ts ++ c.args.label.now = c.in_ok-extend_from_slice.ensures.items in
    let end : c.len-end.result ≡ length c.extend_from_slice.new.self.items = omega arith in
    let m = ap (λ (l : List ℕ). length l) all in
    subst (λ (n : ℕ). Rise 0 c.push.new.self.items n) end
    (subst (λ (l : List ℕ). Rise 0 l c.len-end.result) (sym items) (Rise-push 0 es (length ts) c.len-end.result c.self.invariant (omega (arith, length-append ts c.args.label.now))))

pub returns-in-Ok-clause-ok : goal.returns-in-Ok-clause-ok
returns-in-Ok-clause-ok c =
    let es : List ℕ = c.self.inside.ends.items in
    let ts : List ℕ = c.self.inside.bytes.items in
    let items : c.push.new.self.items ≡ es ++ c.len-end.result ∷ [] = c.in-Ok.ensures.items in
    let all : c.extend_from_slice.new.self.items ≡ ts ++ c.args.label.now = c.in_ok-extend_from_slice.ensures.items in
    let m = ap (λ (l : List ℕ). length l) all in
    let end : c.len-end.result ≡ length c.extend_from_slice.new.self.items = omega arith in
    let sum : c.len-end.result ≡ length ts + length c.args.label.now = omega (arith, length-append ts c.args.label.now) in
    (λ i. parts_of 0 (items i) (all i)) ∙ (parts_of-push 0 es ts c.args.label.now c.len-end.result c.self.invariant sum ∙ ap (λ (g : List (List ℕ)). g ++ c.args.label.now ∷ []) c.self.view_is)
