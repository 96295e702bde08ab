-- Keys of nodes under classes.
use Rattle.std.specs.Prelude.{◌≡◌, ℕ, ◌*◌, ◌%◌, ◌<◌, ◌^◌, List, [], ◌∷◌, bit_xor, fold, length, map, slice_index, slice_index_or}
use Rattle.std.specs.List.{range_with_len}
use Rattle.dwz_nodes.specs.Graph.{Node, label_at, targets_at}

-- a node's label, and the classes of its targets
abbrev pub key : List Node → List ℕ → ℕ → List ℕ
key g classes a = label_at g a ∷ map (λ t. slice_index classes t) (targets_at g a)

-- the hash after one more word: the word goes in by exclusive or, then comes the product by an odd number
abbrev pub mixed : ℕ → ℕ → ℕ
mixed hash word = bit_xor hash word * 11400714819323198485 % 2 ^ 64

-- the hash of the words in order
abbrev pub words_hash : List ℕ → ℕ
words_hash words = fold mixed 14695981039346656037 words

-- the key at the place a
abbrev pub key_at : List (List ℕ) → ℕ → List ℕ
key_at keys a = slice_index_or keys a []

-- the keys of all nodes, in order
abbrev pub all_keys : List Node → List ℕ → List (List ℕ)
all_keys g classes = map (key g classes) (range_with_len 0 (length g))

-- these are the keys of all nodes
pub record AreKeys (g : List Node) (classes : List ℕ) (keys : List (List ℕ)) : Type 0 where
  pub len : length keys ≡ length g
  pub each : (a : ℕ) → a < length g → key_at keys a ≡ key g classes a

-- these are the keys of the nodes of a list
pub record AreKeysOf (key : ℕ → List ℕ) (visit : List ℕ) (keys : List (List ℕ)) : Type 0 where
  pub len : length keys ≡ length visit
  pub each : (i : ℕ) → i < length visit → key_at keys i ≡ key (slice_index visit i)
