use Rattle.std.proofs.Common.{sym, subst, ◌∙◌}
use Rattle.std.specs.List.Sorted.{IsStrictlyIncreasing}
use Rattle.dwz_run_files.proofs.FileFacts.{sets_there, units_ascend}
use Rattle.dwz_run_files.proofs.StepsFound.{ranges_found}
use Rattle.dwz_run_files.proofs.numbers.address_ranges.Goals as goal

pub ranges-requires-clause-reads : goal.ranges-requires-clause-reads
ranges-requires-clause-reads c = (let r = c.requires.moved in sets_there r.1 c.args.work.now c.args.moved.now r.2)

pub ranges-requires-clause-rises : goal.ranges-requires-clause-rises
ranges-requires-clause-rises c =
    let r = c.requires.moved in
    subst IsStrictlyIncreasing (sym (c.as_slice.ensures.value
    ∙ c.in_ok-starts.ensures)) (units_ascend r.1 c.args.work.now c.args.moved.now r.2)

pub returns : goal.returns
returns c beside f is begin =
    ranges_found f c.args.work.now c.args.moved.now is c.args.units_at.now begin c.as_slice.result.now c.as_slice-2.result.now
    c.ranges-2.result
    c.requires.many (c.as_slice.ensures.value ∙ c.in_ok-starts.ensures) (c.as_slice-2.ensures.value
    ∙ c.in_ok-low.ensures) c.ranges-2.ensures
