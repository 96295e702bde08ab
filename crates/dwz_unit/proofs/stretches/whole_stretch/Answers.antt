use Rattle.std.proofs.Common.{IfSome, Option, subst}
use Rattle.dwz_unit.specs.Stretches.{IsStretch}
use Rattle.dwz_unit.specs.declared.stretches.Stretch.{Stretch}
use Rattle.dwz_unit.proofs.stretches.whole_stretch.Goals as goal

pub returns : goal.returns
returns g c =
    let info = c.args.info.now in
    let s = c.args.tables.now in
    record {
      stretch = subst (λ (o : Option Stretch). IfSome o (IsStretch info c.args.mode s)) c.in-Some.is (c.in_ok-whole.ensures info s c.in_ok-all.ensures);
      first = c.if-whole-ne0.false;
      end = c.if-whole-info.false;
    }
