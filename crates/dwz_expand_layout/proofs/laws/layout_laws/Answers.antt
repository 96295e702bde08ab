use Rattle.std.proofs.Common.{ℕ}
use Rattle.dwz_def_reading.specs.Places.{Place}
use Rattle.dwz_expand_layout.proofs.LawLemmas.{layout_law}
use Rattle.dwz_expand_layout.proofs.laws.layout_laws.Goals as goal

pub returns-clause-places : goal.returns-clause-places
returns-clause-places c = layout_law Place

pub returns-clause-numbers : goal.returns-clause-numbers
returns-clause-numbers c = layout_law ℕ
