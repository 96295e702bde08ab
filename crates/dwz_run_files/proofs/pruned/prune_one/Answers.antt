use Rattle.dwz_def_reading.proofs.ListFacts.{got_there}
use Rattle.dwz_encode_texts.specs.Used.{order_uses}
use Rattle.dwz_run_files.proofs.PruneSteps.{keeps_some, looked_up, offsets_few, own_pruned, own_texts}
use Rattle.dwz_run_files.proofs.pruned.prune_one.Goals as goal

pub prune_by_units-requires-clause-few : goal.prune_by_units-requires-clause-few
prune_by_units-requires-clause-few c =
    let b = got_there c.args.graph.now.given c.args.number c.requires.there in
    offsets_few c.args.graph.now.given c.args.number b.0 c.file-file.result.now (c.file-file.ensures b.0 b.1)

pub prune_by_units-requires-clause-texts : goal.prune_by_units-requires-clause-texts
prune_by_units-requires-clause-texts c =
    let b = got_there c.args.graph.now.given c.args.number c.requires.there in
    let first = c.in-Some-get.first.now in
    let units = c.as_slice.result.now in
    let of_file = looked_up c.args.graph.now.given c.args.known.now c.args.written.now c.args.number b.0 c.in-Some-Some.rank first
    c.in-Some-Some.field-0.now c.in-Some.order.now units b.1
    c.in-Some-Some.ensures.lookup.0 c.in-Some-Some.ensures.lookup.1 c.in-Some-Some.field-0-is c.in-Some.ensures.lookup.0
    c.in-Some.ensures.lookup.1 c.as_slice.ensures
    c.in-Some-get.ensures.lookup.0 c.in-Some-get.ensures.lookup.1 in
    own_texts c.args.graph.now.given c.args.number b.0 c.file-file.result.now (c.file-file.ensures b.0 b.1)
    (order_uses c.args.known.now first units)
    (c.requires.texts c.args.number b.0 first units of_file)

pub returns : goal.returns
returns c =
    let b = got_there c.args.graph.now.given c.args.number c.requires.there in
    let first = c.in-Some-get.first.now in
    let units = c.as_slice.result.now in
    let of_file = looked_up c.args.graph.now.given c.args.known.now c.args.written.now c.args.number b.0 c.in-Some-Some.rank first
    c.in-Some-Some.field-0.now c.in-Some.order.now units b.1
    c.in-Some-Some.ensures.lookup.0 c.in-Some-Some.ensures.lookup.1 c.in-Some-Some.field-0-is c.in-Some.ensures.lookup.0
    c.in-Some.ensures.lookup.1 c.as_slice.ensures
    c.in-Some-get.ensures.lookup.0 c.in-Some-get.ensures.lookup.1 in
    keeps_some c.args.graph.now.given c.args.known.now c.args.written.now c.args.number c.args.prunes b.0 first units c.in_ok-pruned.pruned
    c.if-not-prunes.false of_file
    (own_pruned c.args.graph.now.given c.args.number b.0 c.file-file.result.now (c.file-file.ensures b.0 b.1)
    (order_uses c.args.known.now first units) c.in_ok-pruned.pruned c.in_ok-pruned.ensures)
