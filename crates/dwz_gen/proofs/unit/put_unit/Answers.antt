use Rattle.dwz_gen.proofs.UnitLemmas.{unit_joined}
use Rattle.dwz_gen.proofs.unit.put_unit.Goals as goal

pub returns : goal.returns
returns c =
    unit_joined c.args.own c.args.shared c.args.out.now.items c.extend_from_slice.new.self.items c.put_fixed.new.out.items
    c.extend_from_slice-2.new.self.items c.put_fixed-2.new.out.items c.push.new.self.items
    c.in_ok-extend_from_slice.ensures.items c.in_ok-put_fixed.ensures.ok c.in_ok-extend_from_slice-2.ensures.items
    c.in_ok-put_fixed-2.ensures.ok c.in_ok-push.ensures.items
