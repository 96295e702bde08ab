use Rattle.std.proofs.Common.{◌-◌, arith}
use Rattle.dwz_elf.proofs.NameLemmas.{ends_here, ends_nowhere}
use Rattle.dwz_elf.proofs.name.names_end.Goals as goal

pub returns-else-table-end-ne0 : goal.returns-else-table-end-ne0
returns-else-table-end-ne0 c =
    ends_here c.args.table.now c.loop-end.end (c.loop-end.end - 1) (omega arith) c.loop-end.invariant.0 c.if-table-end-ne0.false c.loop-end.invariant.1

pub returns-after-loop-end : goal.returns-after-loop-end
returns-after-loop-end c = ends_nowhere c.args.table.now c.loop-end.end (omega arith) c.loop-end.invariant.1
