use Rattle.dwz_elf.proofs.OutputLemmas.{sup_written}
use Rattle.dwz_elf.proofs.output.put_sup_header.Goals as goal

pub returns : goal.returns
returns c =
    sup_written c.args.elf.now c.args.at c.names_size.result c.len-size.result c.args.edits.now.sup c.in-Some.sup _ _ c.in-Some.is c.names_size.ensures c.len-size.ensures
    c.in_ok-put_numbers.ensures
