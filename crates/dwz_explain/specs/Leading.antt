-- Inner: two tops from which a chain leads on.
use Rattle.std.specs.Prelude.{◌≡◌, ℕ, List}
use Rattle.dwz_def_reading.specs.Lists.{In}
use Rattle.dwz_def_tops.specs.Alike.{Movable}
use Rattle.dwz_def_tops.specs.Spots.{EntryName, FileUnit, Top, tops_of}
use Rattle.dwz_def_explain.specs.Chain.{BothLead}

-- it holds of any two tops
abbrev pub AnyTwo : Top → Top → Type 0
AnyTwo x y = Unit {0}

-- they may move, have these numbers, and the chain leads from them to some two tops
pub record LeadsOn (units : List (FileUnit EntryName)) (chain : List ℕ) (a b : ℕ) (x y : Top) : Type 0 where
  pub first_there : In x (tops_of units)
  pub second_there : In y (tops_of units)
  pub first_moves : Movable units x.number
  pub second_moves : Movable units y.number
  pub first_is : x.number ≡ a
  pub second_is : y.number ≡ b
  pub leads : BothLead AnyTwo (tops_of units) chain x y
