use Rattle.std.proofs.Common.{◌≡◌, ◌++◌, drop, map, take}
use Rattle.dwz_run_files.specs.Moved.{moved_space}
use Rattle.dwz_run_files.proofs.moving.move_names.Given as goal

abbrev pub invariant-loop-space : goal.invariant-loop-space
invariant-loop-space l = l.spaces ≡ map (moved_space l.pruned) (take l.space-index l.fn.spaces) ++ drop l.space-index l.fn.spaces
