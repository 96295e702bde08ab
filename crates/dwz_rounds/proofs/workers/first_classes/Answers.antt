use Rattle.std.proofs.Common.{IfSome, subst}
use Rattle.dwz_rounds.specs.Rounds.{IsLevel}
use Rattle.dwz_rounds.proofs.Opening.{level-round}
use Rattle.dwz_rounds.proofs.workers.first_classes.Goals as goal

pub returns-in-Some : goal.returns-in-Some
returns-in-Some g c = level-round c.args.nodes.now c.requires.closed 0 c.args.one.now c.in-Some.classes.items c.requires.one
    (subst (λ o. IfSome o (λ v. IsLevel c.args.nodes.now 1 v.items)) c.in-Some.is c.in_ok-found.ensures)
