use Rattle.dwz_def_reading.proofs.ListFacts.{whole_rest}
use Rattle.dwz_elf.proofs.NameLemmas.{named}
use Rattle.dwz_elf.proofs.name.name_of.Goals as goal

pub returns : goal.returns
returns c =
    named c.args.table.now _ c.front_of-front.result.now c.args.end c.args.at _ _ _ (whole_rest c.args.table.now c.args.at) c.requires c.if-at-end.false
    c.front_of-front.ensures c.code_of.ensures c.is_debug.ensures c.is_index.ensures
