use Rattle.std.proofs.Common.{◌≡◌, length}
use Rattle.dwz_run_files.proofs.listed.no_numbers.Given as goal

abbrev pub invariant-loop : goal.invariant-loop
invariant-loop l = length l.numbers.items ≡ l.counter
