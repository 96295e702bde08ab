use Rattle.std.proofs.Common.{Bool, List, length, sym, subst}
use Rattle.dwz_groups.specs.Spreading.{IsSpread}
use Rattle.dwz_takes.specs.Blocked.{AreBlocked}
use Rattle.dwz_takes.proofs.BlockFacts.{blocked_by, turned_inside}
use Rattle.dwz_takes.proofs.staying.blocked.Goals as goal

pub spread-requires-clause-inside : goal.spread-requires-clause-inside
spread-requires-clause-inside c = turned_inside (length c.args.kin.now) c.args.targets.now c.in_ok-sources.sources c.requires.targets_len c.in_ok-sources.ensures

pub returns : goal.returns
returns c =
    subst (λ (bs : List Bool). AreBlocked c.args.kin.now c.args.images.now c.args.targets.now bs) (sym c.new.ensures)
    (blocked_by c.args.kin.now c.args.images.now c.args.targets.now c.in_ok-sources.sources c.in_ok-split.split.items c.in_ok-marks.marks.items c.in_ok-split.ensures
    c.in_ok-sources.ensures
    (subst (λ (bs : List Bool). IsSpread c.in_ok-sources.sources bs c.in_ok-marks.marks.items) c.as_slice.ensures.value c.in_ok-marks.ensures))
