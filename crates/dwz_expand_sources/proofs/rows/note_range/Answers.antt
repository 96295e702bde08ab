use Rattle.std.proofs.Common.{◌∙◌, arith}
use Rattle.std.proofs.lemmas.List.{length-set}
use Rattle.dwz_expand_sources.specs.Rows.{copy_at}
use Rattle.dwz_expand_sources.proofs.NotedLemmas.{range_end, range_on}
use Rattle.dwz_expand_sources.proofs.rows.note_range.Goals as goal

pub loop-entry-preserved : goal.loop-entry-preserved
loop-entry-preserved c =
    let g = c.loop-entry.invariant in
    let at = g.number in
    let len = g.len in
    record {
      number = omega arith;
      len = length-set c.loop-entry.row c.loop-entry.entry (copy_at c.args.unit c.loop-entry.at) ∙ len;
      row = range_on c.args.unit c.loop-entry.at c.loop-entry.entry c.args.range.now.end c.loop-entry.row c.loop-entry-test.true ∙ g.row;
    }

pub returns-clause-row : goal.returns-clause-row
returns-clause-row c = range_end c.args.unit c.loop-entry.at c.loop-entry.entry c.args.range.now.end c.loop-entry.row c.loop-entry-test.false ∙ c.loop-entry.invariant.row
