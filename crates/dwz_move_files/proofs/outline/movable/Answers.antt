use Rattle.std.proofs.Common.{arith}
use Rattle.std.proofs.lemmas.Result.{IfOk-weaker}
use Rattle.dwz_graph.specs.Files.{docs_of}
use Rattle.dwz_move_files.proofs.OutlineLemmas.{are_movable, inside, keys_within, long, seeds_many}
use Rattle.dwz_move_files.proofs.outline.movable.Goals as goal

pub targets_of-requires : goal.targets_of-requires
targets_of-requires c = keys_within (docs_of c.args.graph.now.given) c.in_ok-draft.draft c.in_ok-draft.ensures.draft

pub movable_by-requires-clause-few : goal.movable_by-requires-clause-few
movable_by-requires-clause-few c =
    let d = c.in_ok-draft.ensures.draft in
    let few = c.in_ok-draft.ensures.few in
    let many = long (docs_of c.args.graph.now.given) c.in_ok-draft.draft d c.in_ok-targets.targets c.in_ok-targets.ensures in
    let rows = d.rows_len in
    omega arith

pub movable_by-requires-clause-len : goal.movable_by-requires-clause-len
movable_by-requires-clause-len c =
    seeds_many (docs_of c.args.graph.now.given) c.in_ok-draft.draft c.in_ok-draft.ensures.draft c.in_ok-targets.targets c.in_ok-targets.ensures c.as_slice.result.now c.as_slice.ensures.value

pub movable_by-requires-clause-inside : goal.movable_by-requires-clause-inside
movable_by-requires-clause-inside c = inside (docs_of c.args.graph.now.given) c.in_ok-draft.draft c.in_ok-draft.ensures.draft c.in_ok-targets.targets c.in_ok-targets.ensures

pub returns : goal.returns
returns c =
    let d = c.in_ok-draft.ensures.draft in
    IfOk-weaker c.movable_by.result _ _
    (λ flags are. are_movable (docs_of c.args.graph.now.given) c.in_ok-draft.draft d c.in_ok-targets.targets c.in_ok-targets.ensures c.as_slice.result.now c.as_slice.ensures.value flags are)
    c.movable_by.ensures
