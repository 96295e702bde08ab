use Rattle.dwz_expand_file.proofs.HeaderLemmas.{kept_place}
use Rattle.dwz_expand_file.proofs.without.table_place.Goals as goal

pub returns : goal.returns
returns c = kept_place c.args.input.now c.args.file.now c.args.headers.now c.keep_end.result c.max.result c.requires.file c.requires.headers c.keep_end.ensures c.max.ensures
