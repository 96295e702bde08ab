use Rattle.std.proofs.Common.{sym}
use Rattle.dwz_graph.proofs.FileLemmas.{content_is}
use Rattle.dwz_graph.proofs.sup.sum_of.Goals as goal

pub returns : goal.returns
returns c =
    let bytes = c.args.bytes.now in
    let elf = c.args.elf.now in
    let info = content_is bytes c.content-info.result.now elf 1 c.requires.elf c.content-info.ensures in
    let strs = content_is bytes c.content-strs.result.now elf 3 c.requires.elf c.content-strs.ensures in
    let abbrevs = content_is bytes c.content-abbrev.result.now elf 2 c.requires.elf c.content-abbrev.ensures in
    rw (sym info, sym strs, sym abbrevs) c.checksum.ensures
