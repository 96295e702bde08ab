use Rattle.std.proofs.Common.{ap, arith, refl, ◌∙◌, ◌++◌, map, get_or}
use Rattle.std.proofs.lemmas.List.{take_all}
use Rattle.dwz_imports.specs.Stored.{edge}
use Rattle.dwz_imports.proofs.RowParts.{parts_next}
use Rattle.dwz_imports.proofs.collecting.put_parts.Goals as goal

pub loop-part-preserved : goal.loop-part-preserved
loop-part-preserved c =
    parts_next c.args.unit c.args.parts.now c.loop-part.part-index c.args.edges.now.items c.loop-part.edges.items c.push.new.self.items
    (get_or c.args.parts.now c.loop-part.part-index 0) c.loop-part-test.true refl
    c.loop-part.invariant c.in_ok-push.ensures.items

pub returns : goal.returns
returns c = c.loop-part.invariant ∙ ap (λ ps. c.args.edges.now.items ++ map (edge c.args.unit) ps) (take_all c.loop-part.part-index c.args.parts.now (omega (arith, c.loop-part-test.false)))
