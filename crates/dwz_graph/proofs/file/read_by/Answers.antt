use Rattle.std.proofs.lemmas.Result.{err_from_is_err_and}
use Rattle.dwz_graph.specs.Files.{limits_view}
use Rattle.dwz_graph.proofs.OpenedLemmas.{opened_fails, opened_reads}
use Rattle.dwz_graph.proofs.file.read_by.Goals as goal

pub returns-in_err-resolved : goal.returns-in_err-resolved
returns-in_err-resolved c =
    let p = err_from_is_err_and c.from_residual-in_err-resolved.result c.from_residual-in_err-resolved.ensures.1 in
    rw (p.1, p.2) (opened_fails c.args.rule.now (limits_view c.args.left.now) c.args.bytes.now c.in_ok-elf.field-0 c.in_ok-elf.ensures.ok c.in_err-resolved.field-0.0 c.in_err-resolved.ensures.answers)

pub returns : goal.returns
returns c =
    let l = limits_view c.args.left.now in
    let o = c.in_ok-elf.field-0 in
    let r = c.in_ok-resolved.ensures in
    opened_reads c.args.rule.now l c.args.bytes.now o c.in_ok-elf.ensures.ok c.args.number c.in_ok-resolved.resolved r.within r.operands r.of_file r.starts r.lines r.answers
