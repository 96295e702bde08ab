use Rattle.std.proofs.Common.{drop}
use Rattle.dwz_graph.specs.Resolved.{stored}
use Rattle.dwz_graph.proofs.StepLemmas.{value}
use Rattle.dwz_label_entries.specs.Sources.{raw_of, scope_at}
use Rattle.dwz_label_entries.proofs.ValueLemmas.{skipped, told}
use Rattle.dwz_label_entries.proofs.values.put_attr.Goals as goal

pub returns-then-pair-eq-DW_AT_SIBLING : goal.returns-then-pair-eq-DW_AT_SIBLING
returns-then-pair-eq-DW_AT_SIBLING c = λ u name at values attrs k line h. (
    let x = c.args.source.now in
    skipped (raw_of x) (scope_at x u) (stored at c.args.end c.args.pair.now c.args.raw.now) values name attrs (drop c.args.next x.refs.now) c.args.out.now.items c.if-pair-eq-DW_AT_SIBLING.true h)

pub returns : goal.returns
returns c = λ u name at values attrs k line h. (
    let x = c.args.source.now in
    let a = stored at c.args.end c.args.pair.now c.args.raw.now in
    let refs = drop c.args.next x.refs.now in
    let n = value (raw_of x) (scope_at x u) refs a values attrs c.if-pair-eq-DW_AT_SIBLING.false h in
    told (raw_of x) (scope_at x u) a values name attrs refs (drop c.in_ok-behind.behind x.refs.now) c.args.out.now.items c.put_number.new.out.items c.put_value.new.out.items n
    c.in_ok-put_number.ensures
    (c.in_ok-behind.ensures u name at n.value k line n.means n.targets))
