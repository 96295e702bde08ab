use Rattle.std.proofs.Common.{◌≡◌, ℕ, ◌<◌, IfSome, List, length, ap, subst, ◌∙◌}
use Rattle.std.specs.Prelude.{slice_index}
use Rattle.dwz_nodes.specs.Graph.{Node, label_at, targets_at}
use Rattle.dwz_nodes.specs.Looks.{IsLeastBelow}
use Rattle.dwz_rounds.proofs.Opening.{label-level}
use Rattle.dwz_rounds.proofs.labels.label_classes.Goals as goal

pub returns-then-have_as_many : goal.returns-then-have_as_many
returns-then-have_as_many c =
    let nodes : List Node = c.args.nodes.now in
    let labels : List ℕ = c.in-Some.labels.items in
    let classes : List ℕ = c.in_ok-classes.classes.items in
    let value : c.as_slice.result.now ≡ labels = c.as_slice.ensures.value in
    label-level nodes labels classes
    (subst (λ o. IfSome o (λ v. length v.items ≡ length nodes)) c.in-Some.is c.in_ok-labels.ensures.len)
    (subst (λ o. IfSome o (λ v. (a : ℕ) → a < length nodes → slice_index v.items a ≡ label_at nodes a)) c.in-Some.is c.in_ok-labels.ensures.each)
    (c.in_ok-classes.ensures.len ∙ ap (λ (x : List ℕ). length x) value)
    (subst (λ (x : List ℕ). (a : ℕ) → a < length x → IsLeastBelow (length x) (λ b. slice_index x a ≡ slice_index x b) (slice_index classes a)) value c.in_ok-classes.ensures.each)
    (subst (λ (x : List ℕ). (a : ℕ) → a < length nodes → length (targets_at nodes a) ≡ length (targets_at nodes (slice_index x a))) c.as_slice-2.ensures.value
    (c.have_as_many.ensures c.if-have_as_many.true))
