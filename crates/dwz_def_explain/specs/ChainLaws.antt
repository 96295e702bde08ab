-- Inner: laws on chains: what they say of looks.
use Rattle.std.specs.Prelude.{◌≡◌, ◌↔◌, ℕ, ◌<◌, List}
use Rattle.dwz_model.specs.Lists.{In}
use Rattle.dwz_def_tops.specs.Alike.{Alike, Look, Movable}
use Rattle.dwz_def_tops.specs.Spots.{EntryName, FileUnit, Top, tops_of}
use Rattle.dwz_def_explain.specs.Chain.{IsLeastChain, TellsApart, look_depth}

-- a look of that depth tells the tops with these numbers apart, and no look of a lesser depth does
pub record IsLeastDepth (units : List (FileUnit EntryName)) (m n d : ℕ) : Type 0 where
  pub fails : Look (tops_of units) d m n → ⊥
  pub holds : (k : ℕ) → k < d → Look (tops_of units) k m n

-- the depth of the least chain is the least depth at which a look tells the two tops apart
abbrev pub DepthLaw : Type 0
DepthLaw =
    (units : List (FileUnit EntryName)) (a b : Top) → In a (tops_of units) → In b (tops_of units)
    → (chain : List ℕ) → IsLeastChain (tops_of units) a b chain → IsLeastDepth units a.number b.number (look_depth chain)

-- two tops that may move are alike exactly if no chain tells them apart
abbrev pub NoChainLaw : Type 0
NoChainLaw =
    (units : List (FileUnit EntryName)) (a b : Top) → In a (tops_of units) → In b (tops_of units)
    → Movable units a.number → Movable units b.number
    → Alike units a.number b.number ↔ ((chain : List ℕ) → TellsApart (tops_of units) chain a b → ⊥)

-- there is one least chain at most
abbrev pub OneChainLaw : Type 0
OneChainLaw =
    (tops : List Top) (a b : Top) (chain other : List ℕ) → IsLeastChain tops a b chain → IsLeastChain tops a b other → chain ≡ other
