use Rattle.std.proofs.lemmas.Option.{slice_get-get_or}
use Rattle.dwz_graph_resolve.proofs.MarkLemmas.{marks_put}
use Rattle.dwz_graph_resolve.proofs.list_parts.mark.Goals as goal

pub loop-place-preserved : goal.loop-place-preserved
loop-place-preserved c = marks_put c.args.marks.now.items c.loop-place.marks.items c.put.new.marks.items c.args.places.now c.loop-place.place-index _ c.args.number
    (slice_get-get_or c.args.places.now c.loop-place.place-index _ c.loop-place-test.true) c.put.ensures c.loop-place.invariant
