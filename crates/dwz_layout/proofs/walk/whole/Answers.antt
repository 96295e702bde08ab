use Rattle.dwz_layout.specs.declared.walk.Origin.TheVariants.{OwnRoot}
use Rattle.dwz_layout.specs.Entries.{slot}
use Rattle.dwz_layout.proofs.WalkLemmas.{alone_is}
use Rattle.dwz_layout.proofs.walk.whole.Goals as goal

pub returns-in-Partial : goal.returns-in-Partial
returns-in-Partial c = rw c.in-Partial.is (alone_is c.args.known.now (slot c.args.depth (OwnRoot c.in-Partial.line)) c.alone.result.slot c.alone.result.run c.alone.ensures.slot c.alone.ensures.run)
