use Rattle.std.proofs.Common.{◌<◌, ◌-◌, ◌≤◌, ◌∙◌, get_or, length, ap, arith}
use Rattle.dwz_layout_items.specs.Order.{order_lines}
use Rattle.dwz_layout_items.proofs.ChainLemmas.{depth_none, depth_up, got, lines_none, lines_up, no_row}
use Rattle.dwz_layout_items.proofs.LineLemmas.{order_one}
use Rattle.dwz_layout_items.proofs.partial.+put_spaces.Goals as goal

pub returns-then-inner-eq0-clause-depth : goal.returns-then-inner-eq0-clause-depth
returns-then-inner-eq0-clause-depth t c = λ ups u. depth_none c.args.rows.now c.args.inner ups (omega arith) u

pub returns-then-inner-eq0-clause-lines : goal.returns-then-inner-eq0-clause-lines
returns-then-inner-eq0-clause-lines t c = λ names ups u. lines_none names c.args.rows.now c.args.inner c.args.chain ups (order_lines names c.args.order.now.items) (omega arith) u

pub put_spaces-requires : goal.put_spaces-requires
put_spaces-requires t c =
    let k = c.args.inner - 1 in
    let lt : k < length c.args.rows.now = omega arith in
    let up : (get_or c.args.rows.now k no_row).outer ≤ k = c.requires.rising k (get_or c.args.rows.now k no_row) (got c.args.rows.now k lt) in
    let d = c.decreases in
    (omega arith, (c.requires.rising, (omega arith, omega arith)))

pub overflow_add-result : goal.overflow_add-result
overflow_add-result t c =
    let k = c.args.inner - 1 in
    let lt : k < length c.args.rows.now = omega arith in
    let up : (get_or c.args.rows.now k no_row).outer ≤ k = c.requires.rising k (get_or c.args.rows.now k no_row) (got c.args.rows.now k lt) in
    omega (arith, c.in_ok-depth.ensures.deep)

pub returns-clause-depth : goal.returns-clause-depth
returns-clause-depth t c = λ ups u. depth_up c.args.rows.now c.args.inner c.in_ok-depth.depth ups c.requires.within (omega arith) u c.in_ok-depth.ensures.depth

pub returns-clause-lines : goal.returns-clause-lines
returns-clause-lines t c = λ names ups u.
    lines_up names c.args.rows.now c.args.inner c.in_ok-depth.depth c.args.chain ups (order_lines names c.args.order.now.items) (order_lines names c.put_spaces.new.order.items)
    (order_lines names c.push.new.self.items)
    c.requires.within (omega arith) u c.in_ok-depth.ensures.depth (c.in_ok-depth.ensures.lines names)
    (ap (order_lines names) c.in_ok-push.ensures.items ∙ order_one names c.put_spaces.new.order.items _)

pub returns-clause-deep : goal.returns-clause-deep
returns-clause-deep t c =
    let k = c.args.inner - 1 in
    let lt : k < length c.args.rows.now = omega arith in
    let up : (get_or c.args.rows.now k no_row).outer ≤ k = c.requires.rising k (get_or c.args.rows.now k no_row) (got c.args.rows.now k lt) in
    omega (arith, c.in_ok-depth.ensures.deep)
