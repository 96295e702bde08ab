use Rattle.std.proofs.Common.{IfSome, Option, subst, ◌∙◌}
use Rattle.dwz_unit.specs.Rows.{units_of}
use Rattle.dwz_graph_resolve.specs.Stretches.{IsStretch}
use Rattle.dwz_graph_resolve.specs.declared.stretches.Stretch.{Stretch}
use Rattle.dwz_graph_resolve.proofs.stretches.read_whole.Goals as goal

pub returns : goal.returns
returns g c =
    let raw = units_of c.args.units.now in
    let s = c.args.around.now in
    record {
      stretch = subst (λ (o : Option Stretch). IfSome o (IsStretch s raw c.args.file)) c.in-Some.is (c.in_ok-whole.ensures s raw c.args.file c.in_ok-all.ensures);
      first = c.if-whole-ne0.false;
      end = c.if-whole-len.false ∙ c.len.ensures;
    }
