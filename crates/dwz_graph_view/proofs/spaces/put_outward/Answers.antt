use Rattle.std.proofs.Common.{◌∷◌, [], ap, map, sym, ◌∙◌, arith}
use Rattle.std.proofs.lemmas.List.{map-append}
use Rattle.dwz_graph_view.proofs.SpaceSteps.{none_left, one_more, outer_less}
use Rattle.dwz_graph_view.proofs.spaces.put_outward.Goals as goal

pub returns-in_default : goal.returns-in_default
returns-in_default c = λ l number bytes said read way.
    none_left bytes c.args.file.now c.args.index.now c.outward.at (map (λ t. t.now) c.outward.names.items) _ (sym c.in_default.ensures) (c.outward.invariant l number bytes said read way)

pub returns-then-space-at : goal.returns-then-space-at
returns-then-space-at c = λ l number bytes said read way. (
    let less = outer_less bytes c.args.file.now c.args.index.now c.outward.at c.in-Some.space (map (λ t. t.now) c.outward.names.items) _ (sym c.in-Some.ensures)
    (c.outward.invariant l number bytes said read way) in
    let not_less = c.if-space-at.true in
    absurd (omega arith))

pub outward-preserved : goal.outward-preserved
outward-preserved c = λ l number bytes said read way.
    one_more bytes c.args.file.now c.args.index.now c.outward.at c.in-Some.space c.space_name.result.now (map (λ t. t.now) c.outward.names.items) (map (λ t. t.now) c.push.new.self.items) _
    (sym c.in-Some.ensures) (λ unit name is. c.space_name.ensures l number bytes unit name read is)
    (ap (map (λ t. t.now)) c.in_ok-push.ensures.items ∙ map-append (λ t. t.now) c.outward.names.items (c.space_name.result ∷ []))
    (c.outward.invariant l number bytes said read way)
