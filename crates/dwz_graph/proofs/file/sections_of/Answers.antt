use Rattle.std.proofs.Common.{◌∙◌}
use Rattle.dwz_graph.proofs.FileLemmas.{content_is, range_short}
use Rattle.dwz_graph.proofs.file.sections_of.Goals as goal

pub returns-clause-sources : goal.returns-clause-sources
returns-clause-sources c = λ is.
    let bytes = c.args.bytes.now in
    let elf = c.args.elf.now in
    let strs = c.new.ensures ∙ content_is bytes c.content.result.now elf 3 is c.content.ensures in
    let line_strs = c.new-2.ensures ∙ content_is bytes c.content-2.result.now elf 4 is c.content-2.ensures in
    let offsets = content_is bytes c.content-3.result.now elf 5 is c.content-3.ensures in
    let line = content_is bytes c.content-4.result.now elf 6 is c.content-4.ensures in
    let lists = content_is bytes c.content-5.result.now elf 7 is c.content-5.ensures in
    λ i. record { strs = strs i; line_strs = line_strs i; offsets = offsets i; line = line i; lists = lists i }

pub returns-clause-aranges : goal.returns-clause-aranges
returns-clause-aranges c = λ is. content_is c.args.bytes.now c.content-6.result.now c.args.elf.now 8 is c.content-6.ensures

pub invariant_of-result : goal.invariant_of-result
invariant_of-result c = record { short = range_short c.args.bytes.now c.content-5.result.now _ c.content-5.ensures c.requires }
