use Rattle.std.proofs.Common.{drop, refl}
use Rattle.dwz_label_entries.specs.Sources.{raw_of, scope_at}
use Rattle.dwz_label_entries.proofs.RowsLemmas.{done, next}
use Rattle.dwz_label_entries.proofs.entries.put_rows.Goals as goal

pub loop-i-init : goal.loop-i-init
loop-i-init c = λ u name rows after ds k own m. record { rows = rows; ds = ds; own = own; are = m; bytes = refl }

pub loop-i-preserved : goal.loop-i-preserved
loop-i-preserved c = λ u name rows after ds k own m. (
    let x = c.args.source.now in
    let h = c.loop-i.invariant u name rows after ds k own m in
    let n = next (raw_of x) (scope_at x u) name c.args.here.now.number c.loop-i.i c.args.end (drop c.loop-i.at x.refs.now) after c.loop-i.out.items _ c.loop-i-test.true h in
    n.more (drop c.in_ok-at.at x.refs.now) c.put_entry.new.out.items (c.in_ok-at.ensures u name n.row n.d k n.own n.entry))

pub returns : goal.returns
returns c = λ u name rows after ds k own m. (
    let x = c.args.source.now in
    done (raw_of x) (scope_at x u) name c.args.here.now.number c.loop-i.i c.args.end (drop c.loop-i.at x.refs.now) after c.loop-i.out.items _ c.loop-i-test.false
    (c.loop-i.invariant u name rows after ds k own m))
