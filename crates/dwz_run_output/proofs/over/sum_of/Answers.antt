use Rattle.std.proofs.Common.{sym, arith}
use Rattle.dwz_graph.proofs.FileLemmas.{content_is}
use Rattle.dwz_run_output.proofs.StandingRead.{shown_short, standing_short}
use Rattle.dwz_run_output.proofs.over.sum_of.Goals as goal

pub checksum-requires : goal.checksum-requires
checksum-requires c =
    let bytes = c.args.common.now in
    let short = standing_short c.requires.0 bytes c.args.file.now c.requires.1 in
    let info = shown_short bytes c.content-info.result.now _ c.content-info.ensures in
    let strs = shown_short bytes c.content-strs.result.now _ c.content-strs.ensures in
    let abbrevs = shown_short bytes c.content-abbrev.result.now _ c.content-abbrev.ensures in omega (arith, short, info, strs, abbrevs)

pub returns : goal.returns
returns c =
    let bytes = c.args.common.now in
    let elf = c.args.file.now.elf in
    let info = content_is bytes c.content-info.result.now elf 1 c.requires.1.elf c.content-info.ensures in
    let strs = content_is bytes c.content-strs.result.now elf 3 c.requires.1.elf c.content-strs.ensures in
    let abbrevs = content_is bytes c.content-abbrev.result.now elf 2 c.requires.1.elf c.content-abbrev.ensures in
    rw (sym info, sym strs, sym abbrevs) c.checksum.ensures
