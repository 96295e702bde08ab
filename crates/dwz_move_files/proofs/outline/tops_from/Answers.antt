use Rattle.dwz_graph.specs.Files.{docs_of}
use Rattle.dwz_move_files.proofs.OutlineLemmas.{all_tops, keys_within}
use Rattle.dwz_move_files.proofs.outline.tops_from.Goals as goal

pub targets_of-requires : goal.targets_of-requires
targets_of-requires c = keys_within (docs_of c.args.graph.now.given) c.args.draft c.requires.draft

pub returns : goal.returns
returns c =
    all_tops (docs_of c.args.graph.now.given) c.args.draft c.requires.draft c.in_ok-targets.targets c.in_ok-targets.ensures c.with_units.result c.with_units.ensures.rows c.with_units.ensures.targets
    c.with_units.ensures.units c.with_units.ensures.files
