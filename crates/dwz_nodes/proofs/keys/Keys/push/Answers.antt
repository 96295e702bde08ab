use Rattle.std.proofs.Common.{◌≡◌, ℕ, ◌+◌, [], ◌∷◌, ◌++◌, length, sym, ap, subst, ◌∙◌, arith, List, length-append}
use Rattle.dwz_nodes.specs.Keys.{key}
use Rattle.dwz_nodes.specs.Parts.{parts_of, Rise}
use Rattle.dwz_nodes.proofs.Parts.{parts_of-push, Rise-push}
use Rattle.dwz_nodes.proofs.keys.Keys.push.Goals as goal

pub invariant_of-self : goal.invariant_of-self
invariant_of-self c =
    let es : List ℕ = c.self.inside.ends.items in
    let ws : List ℕ = c.self.inside.words.items in
    let more : List ℕ = (key c.args.nodes.now c.args.classes.now c.args.a) in
    let m : ℕ = length c.put_row.new.words.items in
    let all : c.put_row.new.words.items ≡ ws ++ more = c.in-Ok.ensures.words in
    let len = ap (λ (l : List ℕ). length l) all in
    let items : c.put_row.new.ends.items ≡ es ++ m ∷ [] = c.in-Ok.ensures.end in
    subst (λ (l : List ℕ). Rise 0 l m) (sym items) (Rise-push 0 es (length ws) m c.self.invariant (omega (arith, length-append ws more)))

pub returns-in-Ok-clause-appended : goal.returns-in-Ok-clause-appended
returns-in-Ok-clause-appended c =
    let es : List ℕ = c.self.inside.ends.items in
    let ws : List ℕ = c.self.inside.words.items in
    let more : List ℕ = (key c.args.nodes.now c.args.classes.now c.args.a) in
    let m : ℕ = length c.put_row.new.words.items in
    let all : c.put_row.new.words.items ≡ ws ++ more = c.in-Ok.ensures.words in
    let len = ap (λ (l : List ℕ). length l) all in
    let items : c.put_row.new.ends.items ≡ es ++ m ∷ [] = c.in-Ok.ensures.end in
    let sum : m ≡ length ws + length more = omega (arith, length-append ws more) in
    (λ i. parts_of 0 (items i) (all i)) ∙ (parts_of-push 0 es ws more m c.self.invariant sum ∙ ap (λ (g : List (List ℕ)). g ++ more ∷ []) c.self.view_is)
