use Rattle.std.proofs.Common.{sym, ◌∙◌}
use Rattle.dwz_abbrev.specs.ReadViews.{read_views}
use Rattle.dwz_unit.proofs.JoinLemmas.{made_whole, read_to_end}
use Rattle.dwz_unit.proofs.joins.read_whole.Goals as goal

pub returns-clause-read : goal.returns-clause-read
returns-clause-read c =
    let section = c.args.pairs.now.section in
    let row = c.read_up_to.new.pairs.row in
    let read = c.in_ok-rows.field-0 in
    made_whole section row c.args.offset c.args.first read.rows c.new.result.items c.joined.result c.joined.ensures.ok
    (read_to_end section c.args.offset (read_views row read.rows) read.starts.items read.stop (sym c.is_some.ensures ∙ c.if-is_some.false) c.in_ok-rows.ensures.read)
    c.new.ensures.items
