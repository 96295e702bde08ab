-- Inner: how a search goes. What it passes by is told apart by no look that finds the pairs so far equal.
use Rattle.std.specs.Prelude.{◌≡◌, ℕ, suc, ◌+◌, ◌<◌, ◌≤◌, List, length, slice_index, slice_index_or}
use Rattle.dwz_nodes.specs.Graph.{Node, targets_at}
use Rattle.dwz_nodes.specs.Looks.{LookEqual}
use Rattle.dwz_nodes_chains.specs.LeastWays.{DifferHere, IsApart, target_at}
use Rattle.dwz_nodes_chains.specs.Links.{AreLinks, peaks}
use Rattle.dwz_nodes_chains.specs.declared.pairs.NodePair.{NodePair}

-- ---- pairs

-- the pair with the number v
abbrev pub pair_at : List NodePair → ℕ → NodePair
pair_at pairs v = slice_index_or pairs v (record { first = 0; second = 0; from = 0; by = 0 })

-- a look of depth k finds its nodes equal
abbrev pub PairEqual : List Node → List NodePair → ℕ → ℕ → Type 0
PairEqual g pairs k v = LookEqual g k (pair_at pairs v).first (pair_at pairs v).second

-- it finds all pairs before the number q equal
abbrev pub AllEqual : List Node → List NodePair → ℕ → ℕ → Type 0
AllEqual g pairs k q = (v : ℕ) → v < q → PairEqual g pairs k v

-- it finds their targets with the number i equal
abbrev pub TargetsEqual : List Node → List NodePair → ℕ → ℕ → ℕ → Type 0
TargetsEqual g pairs k v i = LookEqual g k (target_at g (pair_at pairs v).first i) (target_at g (pair_at pairs v).second i)

-- those targets are there, and differ by themselves
pub record TargetsDiffer (g : List Node) (pairs : List NodePair) (at number : ℕ) : Type 0 where
  pub at_there : at < length pairs
  pub number_there : number < length (targets_at g (pair_at pairs at).first)
  pub differ : DifferHere g (target_at g (pair_at pairs at).first number) (target_at g (pair_at pairs at).second number)

-- ---- what was passed

-- a look that finds the pairs before the number q equal, finds equal the targets of the pairs before p, and of p those before the number n
pub record IsFollowed (g : List Node) (pairs : List NodePair) (q p n : ℕ) : Type 0 where
  pub whole : (k : ℕ) → AllEqual g pairs k q → (v : ℕ) → v < p
      → (i : ℕ) → i < length (targets_at g (pair_at pairs v).first) → TargetsEqual g pairs k v i
  pub part : (k : ℕ) → AllEqual g pairs k q → (i : ℕ) → i < n → TargetsEqual g pairs k p i

-- p, the pair with the number v, is of targets of an earlier one, and when it was come by all before these had been passed
pub record IsReached (g : List Node) (pairs : List NodePair) (v : ℕ) (p : NodePair) : Type 0 where
  pub from : p.from < v
  pub by : p.by < length (targets_at g (pair_at pairs p.from).first)
  pub first_is : p.first ≡ target_at g (pair_at pairs p.from).first p.by
  pub second_is : p.second ≡ target_at g (pair_at pairs p.from).second p.by
  pub followed : IsFollowed g pairs v p.from p.by

-- the pairs of a search: nodes that don't differ by themselves, each pair but the first reached from an earlier one
pub record AreReached (g : List Node) (pairs : List NodePair) : Type 0 where
  pub some : 0 < length pairs
  pub first_in : (v : ℕ) → v < length pairs → (pair_at pairs v).first < length g
  pub second_in : (v : ℕ) → v < length pairs → (pair_at pairs v).second < length g
  pub same : AllEqual g pairs 1 (length pairs)
  pub each : (v : ℕ) → 0 < v → v < length pairs → IsReached g pairs v (pair_at pairs v)

-- ---- the search

-- a look that finds all pairs equal finds each node and the one above it equal
abbrev pub LinksEqual : List Node → List NodePair → List ℕ → Type 0
LinksEqual g pairs above = (k : ℕ) → AllEqual g pairs k (length pairs) → (x : ℕ) → x < length g → LookEqual g k x (slice_index above x)

-- it has passed all before the target with the number n of the pair p
pub record IsSearch (g : List Node) (pairs : List NodePair) (above heights : List ℕ) (p n : ℕ) : Type 0 where
  pub reached : AreReached g pairs
  pub links : AreLinks above heights
  pub len : length above ≡ length g
  pub count : length pairs + peaks above ≡ length g
  pub equal : LinksEqual g pairs above
  pub followed : IsFollowed g pairs (length pairs) p n

-- pairs that stand before others
pub record Extends (old new : List NodePair) : Type 0 where
  pub more : length old ≤ length new
  pub kept : (v : ℕ) → v < length old → pair_at new v ≡ pair_at old v

-- ---- the way back

-- What is left of the way from a pair on: the least way from there to these two nodes; and looks of its depth and one more find all earlier
-- pairs equal.
pub record IsLastPart (g : List Node) (pairs : List NodePair) (row : ℕ) (way : List ℕ) (first second : ℕ) : Type 0 where
  pub apart : IsApart g (pair_at pairs row).first (pair_at pairs row).second way first second
  pub before : AllEqual g pairs (suc (length way)) row
