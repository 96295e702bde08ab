use Rattle.std.proofs.Common.{arith}
use Rattle.dwz_def_reading.proofs.OffsetLemmas.{whole}
use Rattle.dwz_strs.proofs.offset_tables.count_at.Goals as goal

pub size_at-requires : goal.size_at-requires
size_at-requires c = (whole c.args.rest.now c.requires).long

pub overflow_sub-result : goal.overflow_sub-result
overflow_sub-result c = let w = whole c.args.rest.now c.requires in omega (arith, w.low, c.size_at.ensures)
