-- Why two tops aren't alike: the same references lead from both to two tops that differ by themselves.
use Rattle.std.specs.Prelude.{◌≡◌, ◌⊎◌, ℕ, suc, ◌<◌, List, [], ◌∷◌, length, Some, slice_get}
use Rattle.dwz_model.specs.Lists.{In}
use Rattle.dwz_def_tops.specs.Alike.{SameTop}
use Rattle.dwz_def_tops.specs.Spots.{Top}
use Rattle.dwz_def_tops.specs.Targets.{targets_of}

-- ---- two tops by themselves

-- whichever tops references go into: it holds of any two
abbrev pub Whichever : ℕ → ℕ → Type 0
Whichever m n = Unit {0}

-- they differ in language, in name list or in bare tree
abbrev pub DifferThemselves : Top → Top → Type 0
DifferThemselves a b = SameTop Whichever a b → ⊥

-- ---- chains

-- the reference of a with the number i, counted from 0, goes into b
abbrev pub GoesInto : ℕ → Top → Top → Type 0
GoesInto i a b = slice_get (targets_of a) i ≡ Some b.number

-- the references with that number go from a and from b into two tops of which R holds
pub record BothGo (R : Top → Top → Type 0) (tops : List Top) (i : ℕ) (a b : Top) : Type 0 where
  pub first : Top
  pub second : Top
  pub first_there : In first tops
  pub second_there : In second tops
  pub first_goes : GoesInto i a first
  pub second_goes : GoesInto i b second
  pub holds : R first second

-- the references with these numbers, one after the other, lead from a and from b to two tops of which R holds
abbrev pub BothLead : (Top → Top → Type 0) → List Top → List ℕ → Top → Top → Type 0
BothLead R tops [] a b = R a b
BothLead R tops (i ∷ chain) a b = BothGo (BothLead R tops chain) tops i a b

-- a chain for a and b: it leads to two tops that differ by themselves
abbrev pub TellsApart : List Top → List ℕ → Top → Top → Type 0
TellsApart tops chain a b = BothLead DifferThemselves tops chain a b

-- the depth of the looks that see what stands at its end
abbrev pub look_depth : List ℕ → ℕ
look_depth chain = suc (length chain)

-- ---- the least chain

-- where the two first differ, the number of the one is lower
abbrev pub IsLowerChain : List ℕ → List ℕ → Type 0
IsLowerChain (i ∷ chain) (j ∷ other) = (i < j) ⊎ ((i ≡ j) × IsLowerChain chain other)
IsLowerChain _ _ = ⊥

-- the one is shorter than the other, or as long and lower
abbrev pub IsEarlierChain : List ℕ → List ℕ → Type 0
IsEarlierChain chain other = (length chain < length other) ⊎ ((length chain ≡ length other) × IsLowerChain chain other)

-- it tells a and b apart, and none that is earlier does
pub record IsLeastChain (tops : List Top) (a b : Top) (chain : List ℕ) : Type 0 where
  pub tells : TellsApart tops chain a b
  pub least : (other : List ℕ) → TellsApart tops other a b → IsEarlierChain other chain → ⊥
