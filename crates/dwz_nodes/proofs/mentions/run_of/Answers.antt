use Rattle.std.proofs.Common.{sym, arith}
use Rattle.dwz_nodes.specs.declared.mentions.Mention.{Mention}
use Rattle.dwz_nodes.proofs.Runs.{rising, run-is}
use Rattle.dwz_nodes.proofs.mentions.run_of.Goals as goal

abbrev none : Mention
none = record { source = 0; position = 0; number = 0 }

pub slice_bounds-result-count : goal.slice_bounds-result-count
slice_bounds-result-count c =
    let s = c.begin_of-start.ensures in
    let e = c.begin_of-end.ensures in
    let r = rising c.args.mentions.now c.args.a c.begin_of-start.result c.begin_of-end.result s.within e.within s.begin e.begin none in
    omega arith

pub slice_bounds-result-start : goal.slice_bounds-result-start
slice_bounds-result-start c =
    let s = c.begin_of-start.ensures in
    let e = c.begin_of-end.ensures in
    let r = rising c.args.mentions.now c.args.a c.begin_of-start.result c.begin_of-end.result s.within e.within s.begin e.begin none in
    omega arith

pub returns : goal.returns
returns c =
    let s = c.begin_of-start.ensures in
    let e = c.begin_of-end.ensures in
    sym (run-is c.args.mentions.now c.args.a c.begin_of-start.result c.begin_of-end.result s.within e.within s.begin e.begin none)
