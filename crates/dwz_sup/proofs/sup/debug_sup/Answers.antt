use Rattle.std.proofs.Common.{◌∙◌, sym}
use Rattle.dwz_sup.proofs.WrittenLemmas.{sup_joined}
use Rattle.dwz_sup.proofs.sup.debug_sup.Goals as goal

pub returns : goal.returns
returns c =
    c.new.ensures
    ∙ sup_joined c.args.supplementary c.args.name.now c.args.sum.now c.flag_of.result 32 c.new-bytes.result.items c.put_fixed.new.out.items c.push.new.self.items c.extend_from_slice.new.self.items
    c.push-2.new.self.items c.put_uleb.new.out.items c.extend_from_slice-2.new.self.items c.new-bytes.ensures.items c.flag_of.ensures (sym c.told-sum) c.in_ok-put_fixed.ensures.ok
    c.in_ok-push.ensures.items
    c.in_ok-extend_from_slice.ensures.items c.in_ok-push-2.ensures.items c.in_ok-put_uleb.ensures.ok c.in_ok-extend_from_slice-2.ensures.items
