use Rattle.dwz_graph.specs.Files.{docs_of}
use Rattle.dwz_move_files.proofs.OutlineLemmas.{few_rows}
use Rattle.dwz_move_files.proofs.outline.gathered.Goals as goal

pub returns-clause-draft : goal.returns-clause-draft
returns-clause-draft c = c.gather.ensures.draft c.in_ok-named.ensures

pub returns-clause-few : goal.returns-clause-few
returns-clause-few c = few_rows (docs_of c.args.graph.now.given) c.gather.result (c.gather.ensures.draft c.in_ok-named.ensures) c.gather.ensures.few
