use Rattle.std.proofs.Common.{subst}
use Rattle.dwz_run_files.specs.Prepared.{IsRank}
use Rattle.dwz_run_files.proofs.sections.new_or_old.Goals as goal

pub new_file-requires-clause-work : goal.new_file-requires-clause-work
new_file-requires-clause-work g c κs within = (let r = c.requires.work in (r.0, r.1, r.2, subst (IsRank r.1 c.args.number) c.in-Some.is r.3))

pub returns-in-None : goal.returns-in-None
returns-in-None g c beside f is rank = subst (IsRank f c.args.number) c.in-None.is rank

pub returns-in_ok-new-in-Some : goal.returns-in_ok-new-in-Some
returns-in_ok-new-in-Some g c beside f work rank = c.in_ok-new-in-Some.ensures beside f work (subst (IsRank f c.args.number) c.in-Some.is rank)
