use Rattle.std.proofs.Common.{◌≡◌, map, take}
use Rattle.dwz_encode_common.specs.Numbers.{numbers_in_file}
use Rattle.dwz_encode_common.proofs.numbers.path_numbers.Given as goal

abbrev pub invariant-loop-file : goal.invariant-loop-file
invariant-loop-file l = map (λ numbers. numbers.items) l.all.items ≡ map (numbers_in_file l.paths) (take l.file-index l.files)
