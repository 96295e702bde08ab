use Rattle.std.proofs.Common.{ℕ}
use Rattle.dwz_def_reading.specs.Places.{Place}
use Rattle.dwz_expand_passes.proofs.RenamedLemmas.{renamed_law}
use Rattle.dwz_expand_passes.proofs.laws.place_laws.Goals as goal

pub returns : goal.returns
returns c = renamed_law ℕ Place
