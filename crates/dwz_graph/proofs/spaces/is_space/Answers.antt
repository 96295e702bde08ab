use Rattle.std.proofs.Common.{ap, ◌∙◌}
use Rattle.dwz_unit.specs.declared.rows.RawEntry.{RawEntry as EntryOfCode}
use Rattle.dwz_unit.specs.Rows.{units_of}
use Rattle.dwz_unit.proofs.RowsFound.{row_is}
use Rattle.dwz_graph.proofs.SpaceLemmas.{by_name, no_space}
use Rattle.dwz_graph.proofs.spaces.is_space.Goals as goal

pub returns-then-entry-ne-DW_TAG_NAMESPACE : goal.returns-then-entry-ne-DW_TAG_NAMESPACE
returns-then-entry-ne-DW_TAG_NAMESPACE c = λ row found. (
    let is = row_is (units_of c.args.units.now) c.args.entry c.entry.result row c.entry.ensures.entry found in
    no_space row.entry c.entry.result.tag (ap (λ (e : EntryOfCode). e.tag) is) c.if-entry-ne-DW_TAG_NAMESPACE.true)

pub returns : goal.returns
returns c = λ row found. (
    let is = row_is (units_of c.args.units.now) c.args.entry c.entry.result row c.entry.ensures.entry found in
    c.has_text_name.ensures row found ∙ by_name row.entry c.entry.result.tag (ap (λ (e : EntryOfCode). e.tag) is) c.if-entry-ne-DW_TAG_NAMESPACE.false)
