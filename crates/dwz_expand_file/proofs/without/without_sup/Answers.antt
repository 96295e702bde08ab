use Rattle.dwz_expand_file.proofs.AnswerLemmas.{is_whole, place_short}
use Rattle.dwz_expand_file.proofs.without.without_sup.Goals as goal

pub moved_behind-requires-clause-whole : goal.moved_behind-requires-clause-whole
moved_behind-requires-clause-whole c = is_whole c.args.input.now c.requires.reads

pub moved_behind-requires-clause-short : goal.moved_behind-requires-clause-short
moved_behind-requires-clause-short c = place_short c.args.input.now c.requires.reads c.requires.bytes c.requires.few
