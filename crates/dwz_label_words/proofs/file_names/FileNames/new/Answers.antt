use Rattle.dwz_label_words.proofs.FoundLemmas.{none_found}
use Rattle.dwz_label_words.proofs.file_names.FileNames.new.Goals as goal

pub invariant_of-result : goal.invariant_of-result
invariant_of-result c =
    none_found c.args.names c.args.strs.now c.args.tables.now c.args.declarations c.in_ok-new.field-0 c.in_ok-new-2.field-0 c.in_ok-new-3.field-0
    c.in_ok-new.ensures c.in_ok-new-2.ensures c.in_ok-new-3.ensures
