use Rattle.std.proofs.Common.{arith}
use Rattle.dwz_elf.proofs.LayoutLemmas.{keep_least}
use Rattle.dwz_elf.proofs.output.file_of.Goals as goal

pub front-requires : goal.front-requires
front-requires c = omega (arith, keep_least c.args.elf.now, c.requires.keep)
