use Rattle.dwz_elf.proofs.OutputLemmas.{moved_end}
use Rattle.dwz_elf.proofs.output.put_header.Goals as goal

pub returns : goal.returns
returns c =
    moved_end c.args.old.now _ _ _ _ _ _ c.args.out.now.items c.in-Some.place c.args.place c.in-Some.is c.before-2.ensures c.behind.ensures
    c.in_ok-extend_from_slice.ensures.items c.in_ok-put_number.ensures.bytes c.in_ok-put_number-2.ensures.bytes c.in_ok-extend_from_slice-2.ensures.items
