-- The rule by which tops of files move.
use Rattle.std.specs.Prelude.{ℕ, List}
use Rattle.dwz_def_reading.specs.Documents.{Doc}
use Rattle.dwz_def_tops.specs.Alike.{Apart, TopScope, Together}
use Rattle.dwz_def_tops.specs.Deciding.{alike_test}
use Rattle.dwz_def_tops.specs.Spots.{units_of}
use Rattle.dwz_def_images.specs.Gain.{gain_rule}
use Rattle.dwz_def_images.specs.Homes.{Rule}
use Rattle.dwz_plan.specs.declared.plan.Scope.{Scope}
use Rattle.dwz_plan.specs.declared.plan.Scope.TheVariants.{Each, Together as AllTogether}

-- the scope in which tops are alike, where these files share
abbrev pub alike_scope : Scope → TopScope
alike_scope AllTogether = Together
alike_scope Each = Apart

-- alike tops move whose groups gain
abbrev pub rule_by : Scope → List (Doc ℕ) → Rule
rule_by sharing docs = gain_rule (alike_test (alike_scope sharing) (units_of docs)) (units_of docs)
