use Rattle.dwz_graph.specs.Files.{docs_of}
use Rattle.dwz_move_files.proofs.OutlineLemmas.{few_rows}
use Rattle.dwz_move_files.proofs.outline.gathered_by.Goals as goal

pub returns-clause-draft : goal.returns-clause-draft
returns-clause-draft g c = c.gather_by.ensures.draft c.in_ok-named.ensures

pub returns-clause-few : goal.returns-clause-few
returns-clause-few g c = few_rows (docs_of c.args.graph.now.given) c.gather_by.result (c.gather_by.ensures.draft c.in_ok-named.ensures) c.gather_by.ensures.few
