use Rattle.dwz_show_entries.proofs.CountLemmas.{counted}
use Rattle.dwz_show_entries.proofs.walk.counts_of.Goals as goal

pub returns : goal.returns
returns c = λ bytes here. counted c.args.graph.now.given bytes c.file-file.result.now c.len.result c.entries.result (c.file-file.ensures bytes here) c.len.ensures c.entries.ensures
