-- Forty typedefs, each of the next, and a base type behind them: alike only where the base types are.
use Rattle.std.proofs.Common.{◌≡◌, true, false, [], ◌∷◌, refl}
use Rattle.dwz_def_tops.specs.Alike.{Apart}
use Rattle.dwz_def_tops.specs.Deciding.{alike_test}
use Rattle.dwz_def_tops.specs.Spots.{units_of}
use Rattle.dwz_test_definitions.proofs.Files.{deep_doc}
use Rattle.dwz_test_definitions.proofs.Runs.{run_in}

sizes_differ : alike_test Apart (units_of (deep_doc 4 8 ∷ [])) 0 41 ≡ false
unfolding run_in
sizes_differ = refl

sizes_equal : alike_test Apart (units_of (deep_doc 4 4 ∷ [])) 0 41 ≡ true
unfolding run_in
sizes_equal = refl
