use Rattle.std.proofs.Common.{ap, drop, map, ◌∙◌}
use Rattle.dwz_graph.specs.Surroundings.{entries_among}
use Rattle.dwz_check_labels.specs.Files.{common_of, place_of, raw_of}
use Rattle.dwz_check_labels.proofs.RefLemmas.{counted_told, front_of}
use Rattle.dwz_check_labels.proofs.refs.put_next.Goals as goal

pub put_entry_names-requires-clause-there : goal.put_entry_names-requires-clause-there
put_entry_names-requires-clause-there c = c.part.ensures.within (entries_among (common_of c.args.source.now.common) (raw_of c.args.source.now)) c.requires.refs

pub returns : goal.returns
returns c = λ said name places others k named many. (
    let x = c.args.source.now in
    let left = drop c.args.next c.args.refs.now in
    let are = ap (map (place_of x)) c.part.ensures.part ∙ front_of (place_of x) left places others c.args.count named many in
    counted_told name (map (place_of x) c.part.result.now) places c.args.count c.args.out.now.items c.put_number.new.out.items c.put_entry_names.new.out.items c.args.tops.now.items
    c.put_entry_names.new.tops.items are many c.in_ok-put_number.ensures (c.in_ok-put_entry_names.ensures said name k))
