use Rattle.dwz_nodes_chains.proofs.LinkLemmas.{fewer, linked, room}
use Rattle.dwz_nodes_chains.proofs.links.put_below.Goals as goal

pub raise-requires-clause-room : goal.raise-requires-clause-room
raise-requires-clause-room c = room c.args.links.now.above.items c.args.links.now.heights.items c.args.low c.requires.links c.requires.low.0 c.requires.low.1

pub returns-clause-links : goal.returns-clause-links
returns-clause-links c =
    linked c.args.links.now.above.items c.args.links.now.heights.items c.raise.new.heights.items c.args.low c.args.high c.requires.links c.requires.low.0 c.requires.high.0
    c.requires.low.1 c.requires.high.1 c.requires.other c.raise.ensures

pub returns-clause-fewer : goal.returns-clause-fewer
returns-clause-fewer c =
    fewer c.args.links.now.above.items c.args.links.now.heights.items c.raise.new.heights.items c.args.low c.args.high c.requires.links c.requires.low.0 c.requires.high.0
    c.requires.low.1 c.requires.high.1 c.requires.other c.raise.ensures
