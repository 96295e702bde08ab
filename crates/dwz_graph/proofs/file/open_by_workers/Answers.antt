use Rattle.std.proofs.lemmas.Result.{err_from_is_err_and}
use Rattle.dwz_graph.specs.Files.{limits_view}
use Rattle.dwz_graph.proofs.HeadedLemmas.{headed_abbrevs, headed_fails, headed_info, headed_opened, headed_short}
use Rattle.dwz_graph.proofs.file.open_by_workers.Goals as goal

pub returns-in_err-elf-clause-err : goal.returns-in_err-elf-clause-err
returns-in_err-elf-clause-err g c =
    let p = err_from_is_err_and c.from_residual.result c.from_residual.ensures.1 in
    rw (p.1, p.2) c.in_err-elf.ensures.err

pub returns-in_err-units-clause-err : goal.returns-in_err-units-clause-err
returns-in_err-units-clause-err g c =
    let p = err_from_is_err_and c.from_residual-in_err-units.result c.from_residual-in_err-units.ensures.1 in
    rw (p.1, p.2) (headed_fails c.args.rule.now (limits_view c.args.left.now) c.args.bytes.now c.in_ok-elf.field-0 c.in_ok-elf.ensures.ok c.in_err-units.field-0.0 c.in_err-units.ensures.answers)

pub returns-clause-ok : goal.returns-clause-ok
returns-clause-ok g c =
    let o = c.with_units.ensures in
    headed_opened c.args.rule.now (limits_view c.args.left.now) c.args.bytes.now c.in_ok-elf.field-0 c.in_ok-elf.ensures.ok c.requires c.with_units.result c.in_ok-units.units _
    c.in_ok-units.ensures.answers c.in_ok-units.ensures.source o.elf o.units o.sources o.aranges o.common

pub units_by-requires-clause-info : goal.units_by-requires-clause-info
units_by-requires-clause-info g c κs lives = headed_info c.args.rule.now (limits_view c.args.left.now) c.args.bytes.now c.in_ok-elf.field-0 c.in_ok-elf.ensures.ok

pub units_by-requires-clause-abbrevs : goal.units_by-requires-clause-abbrevs
units_by-requires-clause-abbrevs g c κs lives = headed_abbrevs c.args.rule.now (limits_view c.args.left.now) c.args.bytes.now c.in_ok-elf.field-0 c.in_ok-elf.ensures.ok

pub with_units-requires-clause-short : goal.with_units-requires-clause-short
with_units-requires-clause-short g c = headed_short c.args.rule.now (limits_view c.args.left.now) c.args.bytes.now c.in_ok-elf.field-0 c.in_ok-elf.ensures.ok

pub with_units-requires-clause-elf : goal.with_units-requires-clause-elf
with_units-requires-clause-elf g c = c.in_ok-elf.ensures.ok.elf
