use Rattle.std.proofs.Common.{drop}
use Rattle.dwz_graph.specs.Resolved.{stored}
use Rattle.dwz_graph.specs.Named.{attrs_refs}
use Rattle.dwz_check_labels.specs.Files.{place_of, scope_at}
use Rattle.dwz_check_labels.proofs.ValueLemmas.{next_attr, skipped, told}
use Rattle.dwz_check_labels.proofs.values.put_attr.Goals as goal

pub returns-then-pair-eq-DW_AT_SIBLING : goal.returns-then-pair-eq-DW_AT_SIBLING
returns-then-pair-eq-DW_AT_SIBLING c = λ said name u at values attrs k here line h. (
    let x = c.args.source.now in
    skipped (scope_at x u) (place_of x) (stored at c.args.end c.args.pair.now c.args.raw.now) values name attrs (drop c.args.next c.args.refs.now) c.args.out.now.items c.args.tops.now.items
    c.if-pair-eq-DW_AT_SIBLING.true h)

pub returns : goal.returns
returns c = λ said name u at values attrs k here line h. (
    let x = c.args.source.now in
    let a = stored at c.args.end c.args.pair.now c.args.raw.now in
    let refs = drop c.args.next c.args.refs.now in
    let n = next_attr (scope_at x u) (place_of x) refs a values attrs c.if-pair-eq-DW_AT_SIBLING.false h in
    told (scope_at x u) (place_of x) a values name attrs refs (drop c.in_ok-behind.behind c.args.refs.now) c.args.out.now.items c.put_number.new.out.items c.put_value.new.out.items
    c.args.tops.now.items c.put_value.new.tops.items n c.in_ok-put_number.ensures (c.in_ok-behind.ensures said name u at n.value (attrs_refs n.left) k here line n.means n.named))
