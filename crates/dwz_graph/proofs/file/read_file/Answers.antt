use Rattle.std.proofs.Common.{Ok}
use Rattle.std.proofs.lemmas.Result.{err_from_is_err_and}
use Rattle.dwz_graph.specs.Files.{limits_view}
use Rattle.dwz_graph.specs.declared.rule.Rule.TheVariants.{Given}
use Rattle.dwz_graph.proofs.OpenedLemmas.{opened_fails, opened_reads}
use Rattle.dwz_graph.proofs.RuleLemmas.{given_reads}
use Rattle.dwz_graph.proofs.file.read_file.Goals as goal

pub returns-in_err-resolved : goal.returns-in_err-resolved
returns-in_err-resolved g c =
    let p = err_from_is_err_and c.from_residual-in_err-resolved.result c.from_residual-in_err-resolved.ensures.1 in
    rw (p.1, p.2) (opened_fails Given (limits_view c.args.left.now) c.args.bytes.now c.in_ok-elf.field-0 c.in_ok-elf.ensures.ok c.in_err-resolved.field-0.0 c.in_err-resolved.ensures.answers)

pub returns : goal.returns
returns g c =
    let l = limits_view c.args.left.now in
    let o = c.in_ok-elf.field-0 in
    let r = c.in_ok-resolved.ensures in
    given_reads l c.args.number c.args.bytes.now (Ok (record { elf = o.elf; sections = o.around.sections; units = o.units; resolved = c.in_ok-resolved.resolved }))
    (opened_reads Given l c.args.bytes.now o c.in_ok-elf.ensures.ok c.args.number c.in_ok-resolved.resolved r.within r.operands r.of_file r.starts r.lines r.answers)
