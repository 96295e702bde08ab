use Rattle.dwz_graph.specs.Surroundings.{entries_among}
use Rattle.dwz_check_labels.specs.Files.{common_of, raw_of}
use Rattle.dwz_check_labels.proofs.entries.refs_of.Goals as goal

pub returns-clause-within : goal.returns-clause-within
returns-clause-within c = c.part.ensures.within (entries_among (common_of c.args.source.now.common) (raw_of c.args.source.now)) c.requires.ready.refs
