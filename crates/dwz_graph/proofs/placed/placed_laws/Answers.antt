use Rattle.std.proofs.Common.{◌≡◌, ℕ, List, Option, Some, None, refl}
use Rattle.dwz_def_reading.specs.Finished.{GivenCommon, rule_of_back, rule_of_common}
use Rattle.dwz_def_reading.specs.Meanings.{all_places}
use Rattle.dwz_def_reading.specs.Units.{RawUnit}
use Rattle.dwz_graph.proofs.PlacedFiles.{means_placed}
use Rattle.dwz_graph.proofs.placed.placed_laws.Goals as goal

own : (common : Option GivenCommon) (number : ℕ) (bytes : List ℕ) (units : List RawUnit) → ((rule_of_back common number).around bytes units).all ≡ all_places units
own None number bytes units = refl
own (Some c) number bytes units = refl

pub returns-clause-common : goal.returns-clause-common
returns-clause-common c number l bytes raw doc e = means_placed (rule_of_common number) (λ b units. refl) l bytes raw doc e

pub returns-clause-back : goal.returns-clause-back
returns-clause-back c common number l bytes raw doc e = means_placed (rule_of_back common number) (own common number) l bytes raw doc e
