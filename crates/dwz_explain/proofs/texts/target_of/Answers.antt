use Rattle.dwz_graph.specs.Files.{docs_of}
use Rattle.dwz_explain.proofs.ChainText.{target_goes, target_low, target_none}
use Rattle.dwz_explain.proofs.texts.target_of.Goals as goal

pub returns-then-i-targets-clause-there : goal.returns-then-i-targets-clause-there
returns-then-i-targets-clause-there c =
    target_low (docs_of c.args.run.now.graph.now.given) c.args.run.now.tops.now c.requires.asked.outline c.args.top c.args.number c.get-targets.result.now c.get-targets.ensures c.if-i-targets.true

pub returns-then-i-targets-clause-target : goal.returns-then-i-targets-clause-target
returns-then-i-targets-clause-target c =
    target_goes (docs_of c.args.run.now.graph.now.given) c.args.run.now.tops.now c.requires.asked.outline c.args.top c.args.number c.get-targets.result.now c.get-targets.ensures

pub returns-else-i-targets-clause-target : goal.returns-else-i-targets-clause-target
returns-else-i-targets-clause-target c =
    target_none (docs_of c.args.run.now.graph.now.given) c.args.run.now.tops.now c.requires.asked.outline c.args.top c.args.number c.get-targets.result.now c.get-targets.ensures c.if-i-targets.false
