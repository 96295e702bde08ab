use Rattle.std.proofs.Common.{◌≡◌, ℕ, List, Option, Some, ap, sym, subst, ◌∙◌}
use Rattle.dwz_model.specs.declared.fault.Fault.{Fault}
use Rattle.dwz_def_reading.specs.Finished.{debug_sup, file_sum_fault, is_of_file, sum_fault}
use Rattle.dwz_def_reading.specs.Supplementary.{read_sup}
use Rattle.dwz_graph.specs.ByRule.{IsGoodCommon, bytes_beside}
use Rattle.dwz_graph.specs.declared.rule.Beside.{Beside}
use Rattle.dwz_graph.proofs.SupLemmas.{is_there, none_file, some_file}
use Rattle.dwz_graph.proofs.FileLemmas.{content_is}
use Rattle.dwz_graph.proofs.sup.file_fault.Goals as goal

pub returns-then-is_none : goal.returns-then-is_none
returns-then-is_none c =
    none_file (bytes_beside c.args.common.now) c.args.bytes.now
    (is_there c.args.bytes.now c.args.elf.now c.section.result c.is_none.result _ c.requires.elf c.section.ensures c.is_none.ensures c.if-is_none.true)

pub returns-in-None : goal.returns-in-None
returns-in-None c =
    let bytes : List ℕ = c.args.bytes.now in
    let there = is_there bytes c.args.elf.now c.section.result c.is_none.result _ c.requires.elf c.section.ensures c.is_none.ensures c.if-is_none.false in
    subst (λ (o : Option Beside). Some c.fault.result ≡ file_sum_fault (bytes_beside o) (debug_sup bytes)) (sym c.in-None.is) (ap (λ (f : Fault). Some f) c.fault.ensures)
    ∙ some_file (bytes_beside c.args.common.now) bytes there

pub returns-in-Some : goal.returns-in-Some
returns-in-Some c =
    let bytes : List ℕ = c.args.bytes.now in
    let there = is_there bytes c.args.elf.now c.section.result c.is_none.result _ c.requires.elf c.section.ensures c.is_none.ensures c.if-is_none.false in
    let section = content_is bytes c.content.result.now c.args.elf.now 9 c.requires.elf c.content.ensures in
    let good : IsGoodCommon (Some c.in-Some.common) = subst IsGoodCommon c.in-Some.is c.requires.common in
    let sum = good.sum in
    subst (λ (o : Option Beside). c.file_section.result ≡ file_sum_fault (bytes_beside o) (debug_sup bytes)) (sym c.in-Some.is)
    (c.file_section.ensures ∙ (λ i. sum_fault is_of_file (sum i) (section i) (read_sup (section i))))
    ∙ some_file (bytes_beside c.args.common.now) bytes there
