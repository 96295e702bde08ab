use Rattle.std.proofs.Common.{ap}
use Rattle.dwz_test_reuse.proofs.taken.taken.Goals as goal

pub match_common-requires-clause-common : goal.match_common-requires-clause-common
match_common-requires-clause-common g c κs within =
    (c.args.common.now, ap (λ gr. gr.common) c.in_ok-graph.ensures.contents)
