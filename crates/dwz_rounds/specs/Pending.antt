-- Nodes that are numbered by class, and those whose sources have to be looked at again.
use Rattle.std.specs.Prelude.{◌≡◌, ℕ, ◌<◌, ◌≤◌, ◌⊎◌, Contains, List, length, slice_index}
use Rattle.dwz_nodes.specs.Graph.{Node, targets_at}
use Rattle.dwz_nodes.specs.Looks.{Alike}
use Rattle.dwz_nodes.specs.Keys.{key}
use Rattle.dwz_nodes.specs.Among.{Among}

-- a has one of these among its targets
abbrev pub PointsAt : List Node → List ℕ → ℕ → Type 0
PointsAt g pending a = (t : ℕ) × Among pending t × Contains (targets_at g a) t

-- Nodes that are alike have one number. The pending nodes are whole classes. There are numbers before these, under which nodes
-- that have one number now had one key; and of the nodes that had one number then, those that aren't pending have one now.
pub record IsPending (g : List Node) (numbers pending : List ℕ) : Type 0 where
  pub len : length numbers ≡ length g
  pub inside : (a : ℕ) → Among pending a → a < length g
  pub sound : (a b : ℕ) → a < length g → b < length g → Alike g a b → slice_index numbers a ≡ slice_index numbers b
  pub whole : (a b : ℕ) → a < length g → b < length g → slice_index numbers a ≡ slice_index numbers b → Among pending a → Among pending b
  pub before : List ℕ
  pub keys : (a b : ℕ) → a < length g → b < length g → slice_index numbers a ≡ slice_index numbers b → key g before a ≡ key g before b
  pub kept : (a b : ℕ) → a < length g → b < length g → slice_index before a ≡ slice_index before b
      → ¬ (Among pending a) → ¬ (Among pending b) → slice_index numbers a ≡ slice_index numbers b

-- the nodes to look at: those that point at a pending node, and all of the classes that are taken whole
pub record IsVisit (g : List Node) (numbers pending visit wholes : List ℕ) : Type 0 where
  pub inside : (a : ℕ) → Among visit a → a < length g
  pub from : (a : ℕ) → Among visit a → PointsAt g pending a ⊎ Among wholes (slice_index numbers a)
  pub points : (a : ℕ) → a < length g → PointsAt g pending a → Among visit a
  pub whole : (a : ℕ) → a < length g → Among wholes (slice_index numbers a) → Among visit a

-- parts of keys that tell nodes apart just as their numbers and keys do
pub record TellApart (g : List Node) (numbers : List ℕ) (part : ℕ → List ℕ) : Type 0 where
  pub number : (a b : ℕ) → a < length g → b < length g → part a ≡ part b → slice_index numbers a ≡ slice_index numbers b
  pub key_is : (a b : ℕ) → a < length g → b < length g → part a ≡ part b → key g numbers a ≡ key g numbers b
  pub back : (a b : ℕ) → a < length g → b < length g → slice_index numbers a ≡ slice_index numbers b → key g numbers a ≡ key g numbers b
      → part a ≡ part b

-- What a pass over the nodes to look at makes of the numbers: where the parts of their keys differ they have different numbers, and
-- where they are the same one number, which is a new one, or the old one where the class was taken whole. All others keep their number.
pub record IsSplit (g : List Node) (part : ℕ → List ℕ) (numbers visit wholes : List ℕ) (count : ℕ) (next pending : List ℕ) : Type 0 where
  pub len : length next ≡ length numbers
  pub kept : (a : ℕ) → a < length g → ¬ (Among visit a) → slice_index next a ≡ slice_index numbers a
  pub same : (a b : ℕ) → Among visit a → Among visit b → part a ≡ part b → slice_index next a ≡ slice_index next b
  pub apart : (a b : ℕ) → Among visit a → Among visit b → slice_index next a ≡ slice_index next b → part a ≡ part b
  pub old : (a : ℕ) → Among visit a → ((slice_index next a ≡ slice_index numbers a) × Among wholes (slice_index numbers a))
      ⊎ (count ≤ slice_index next a)
  pub new : (a : ℕ) → Among pending a → (a < length g) × (count ≤ slice_index next a)
  pub all : (a : ℕ) → a < length g → count ≤ slice_index next a → Among pending a

-- the list has got those of the members from here to there that are of the class
pub record AreOfClass (numbers members : List ℕ) (class from to : ℕ) (old new : List ℕ) : Type 0 where
  pub only : (a : ℕ) → Among new a → Among old a ⊎ (slice_index numbers a ≡ class)
  pub kept : (a : ℕ) → Among old a → Among new a
  pub all : (i : ℕ) → from ≤ i → i < to → slice_index numbers (slice_index members i) ≡ class → Among new (slice_index members i)

-- the new list has the old one's nodes, and all nodes of some classes
pub record AreWithWholes (numbers old new wholes : List ℕ) : Type 0 where
  pub from : (a : ℕ) → Among new a → Among old a ⊎ Among wholes (slice_index numbers a)
  pub kept : (a : ℕ) → Among old a → Among new a
  pub whole : (a : ℕ) → a < length numbers → Among wholes (slice_index numbers a) → Among new a

-- the two lists have the same numbers
pub record AreSame (xs ys : List ℕ) : Type 0 where
  pub there : (a : ℕ) → Among xs a → Among ys a
  pub back : (a : ℕ) → Among ys a → Among xs a
