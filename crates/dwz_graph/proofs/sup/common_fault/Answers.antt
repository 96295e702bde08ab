use Rattle.std.proofs.Common.{◌∙◌}
use Rattle.dwz_def_reading.specs.Finished.{is_of_common, sum_fault}
use Rattle.dwz_def_reading.specs.Supplementary.{read_sup}
use Rattle.dwz_graph.proofs.SupLemmas.{is_there, none_common, some_common}
use Rattle.dwz_graph.proofs.FileLemmas.{content_is}
use Rattle.dwz_graph.proofs.sup.common_fault.Goals as goal

pub returns-then-is_none : goal.returns-then-is_none
returns-then-is_none c =
    none_common c.args.bytes.now (is_there c.args.bytes.now c.args.elf.now c.section.result c.is_none.result _ c.requires.elf c.section.ensures c.is_none.ensures c.if-is_none.true)

pub returns : goal.returns
returns c =
    let bytes = c.args.bytes.now in
    let there = is_there bytes c.args.elf.now c.section.result c.is_none.result _ c.requires.elf c.section.ensures c.is_none.ensures c.if-is_none.false in
    let section = content_is bytes c.content.result.now c.args.elf.now 9 c.requires.elf c.content.ensures in
    let sum = c.sum_of-sum.ensures in
    c.common_section.ensures ∙ (λ i. sum_fault is_of_common (sum i) (section i) (read_sup (section i))) ∙ some_common bytes there
