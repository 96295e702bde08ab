use Rattle.std.proofs.Common.{◌≡◌, length, ◌∙◌, subst, arith}
use Rattle.dwz_def_tops.specs.Spots.{tops_of, units_of}
use Rattle.dwz_def_taken.specs.Beside.{own_tops, reused_of}
use Rattle.dwz_graph.specs.Files.{docs_of}
use Rattle.dwz_layout_numbers.proofs.WholeLemmas.{all_inside}
use Rattle.dwz_layout_input.proofs.Fits.{whole}
use Rattle.dwz_check_index.specs.Both.{from_top}
use Rattle.dwz_check_index.specs.Index.{IsCrossIndex}
use Rattle.dwz_check_index.specs.declared.index.CrossStarts.{CrossStarts}
use Rattle.dwz_run_files.proofs.UnitsFew.{entries_room, tops_counted}
use Rattle.dwz_run_files.proofs.standing.standing_common.Goals as goal

pub tops-requires-clause-few : goal.tops-requires-clause-few
tops-requires-clause-few c =
    let kept = c.requires.kept in entries_room c.args.graph.now.given kept.0 c.indexes.result.now kept.1 c.indexes.ensures

pub tops-requires-clause-inside : goal.tops-requires-clause-inside
tops-requires-clause-inside c =
    let given = c.args.graph.now.given in
    all_inside (docs_of given) c.indexes.result.now c.indexes.ensures (whole given c.requires.kept.0 c.requires.kept.1)

pub overflow_cast-starts : goal.overflow_cast-starts
overflow_cast-starts c =
    let kept = c.requires.kept in
    let counted = tops_counted c.args.graph.now.given kept.0 c.indexes.result.now kept.1 c.indexes.ensures c.in_ok-tops.tops.items
    c.in_ok-tops.ensures in
    let few = counted.1 in omega (arith, few, c.len.ensures)

pub read-requires : goal.read-requires
read-requires c =
    let kept = c.requires.kept in
    let counted = tops_counted c.args.graph.now.given kept.0 c.indexes.result.now kept.1 c.indexes.ensures c.in_ok-tops.tops.items
    c.in_ok-tops.ensures in
    let few = counted.1 in
    let room = c.requires.room in
    record { room = record { tops = omega (arith, few, room, c.len.ensures); lone = omega (arith, room) } }

pub returns-clause-index : goal.returns-clause-index
returns-clause-index c = λ around doc means. (
    let kept = c.requires.kept in
    let ds = docs_of c.args.graph.now.given in
    let counted = tops_counted c.args.graph.now.given kept.0 c.indexes.result.now kept.1 c.indexes.ensures c.in_ok-tops.tops.items
    c.in_ok-tops.ensures in
    let long = counted.0 in
    let number : c.len.result ≡ length (tops_of (units_of ds)) = omega (arith, long, c.len.ensures) in
    let starts : from_top c.len.result ≡ from_top (own_tops (reused_of ds doc)) = (λ i. from_top (number i)) in
    subst (λ (s : CrossStarts). IsCrossIndex s doc.units c.in_ok-index.index) starts
    (c.in_ok-index.ensures.names around doc.units means))
