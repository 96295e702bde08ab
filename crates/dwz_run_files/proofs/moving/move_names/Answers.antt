use Rattle.std.proofs.Common.{◌∙◌, ap, get_or, set, arith}
use Rattle.std.proofs.lemmas.List.{get_or_default}
use Rattle.std.proofs.lemmas.List.Edits.{map_over_more}
use Rattle.dwz_layout.specs.declared.known.SpaceRow.{SpaceRow}
use Rattle.dwz_layout.specs.declared.known.TextAt.TheVariants.{Own}
use Rattle.dwz_run_files.specs.Moved.{moved_space}
use Rattle.dwz_run_files.proofs.moving.move_names.Goals as goal

none : SpaceRow
none = record { row = record { file = 0; entry = 0 }; text = Own 0; common = Own 0 }

pub loop-space-preserved : goal.loop-space-preserved
unfolding none
loop-space-preserved c =
    let spaces = c.loop-space.spaces in
    let i = c.loop-space.space-index in
    let x = get_or spaces i none in
    ap (λ (w : SpaceRow). set spaces i w) c.moved_name.ensures ∙ map_over_more (moved_space c.args.pruned.now) c.args.spaces.now spaces i
    x c.loop-space-test.true c.loop-space.invariant
    (get_or_default spaces i none x (omega (arith, c.loop-space.auto.spaces, c.loop-space-test.true)))
