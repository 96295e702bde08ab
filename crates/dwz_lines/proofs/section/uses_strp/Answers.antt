use Rattle.std.proofs.Common.{ap, ◌∙◌}
use Rattle.std.specs.Prelude.{◌||◌}
use Rattle.dwz_lines.specs.TableViews.{sections}
use Rattle.dwz_lines.proofs.SectionLemmas.{fits, no_row, none_is, one_more, row_ends, table_is}
use Rattle.dwz_lines.proofs.section.uses_strp.Goals as goal

pub behind-place-requires : goal.behind-place-requires
behind-place-requires c =
    let s = sections c.args.strs.now c.args.line_strs.now in
    fits s c.args.line.now c.loop-place.place c.loop-place.uses c.loop-place.invariant c.loop-place-test.true c.in-Ok.table
    (table_is s c.args.line.now c.loop-place.place c.in-Ok.table c.in-Ok.ensures)

pub loop-place-preserved : goal.loop-place-preserved
loop-place-preserved c =
    let s = sections c.args.strs.now c.args.line_strs.now in
    let is = table_is s c.args.line.now c.loop-place.place c.in-Ok.table c.in-Ok.ensures in
    rw c.behind-place.ensures (one_more s c.args.line.now c.loop-place.place c.loop-place.uses c.loop-place.invariant c.loop-place-test.true c.in-Ok.table is c.either-uses.result
    (c.either-uses.ensures ∙ ap (λ b. c.loop-place.uses || b) c.has_strp.ensures))

pub returns-in-Err-Refused : goal.returns-in-Err-Refused
returns-in-Err-Refused c =
    let s = sections c.args.strs.now c.args.line_strs.now in
    let refused = rw c.in-Err-Refused.field-0-is at c.in-Err-Refused.ensures in
    no_row s c.args.line.now c.loop-place.place c.loop-place.uses c.loop-place.invariant c.loop-place-test.true (none_is s c.args.line.now c.loop-place.place c.in-Err-Refused.field-0-0 refused)

pub returns : goal.returns
returns c = row_ends (sections c.args.strs.now c.args.line_strs.now) c.args.line.now c.loop-place.place c.loop-place.uses c.loop-place.invariant c.loop-place-test.false
