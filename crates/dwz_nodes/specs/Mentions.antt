-- Where pending nodes are targets, and what that makes of keys.
use Rattle.std.specs.Prelude.{◌≡◌, ℕ, ◌==◌, ◌<◌, ◌⊎◌, AllPairs, Contains, List, [], ◌∷◌, map, slice_index}
use Rattle.std.specs.List.{filter, flat_map}
use Rattle.dwz_nodes.specs.Uses.{uses_at}
use Rattle.dwz_nodes.specs.declared.uses.Use.{Use}
use Rattle.dwz_nodes.specs.Among.{Among}
use Rattle.dwz_nodes.specs.declared.mentions.Mention.{Mention}

-- a node with this number is the target at this place
abbrev pub mention : ℕ → Use → Mention
mention number u = record { source = u.source; position = u.position; number = number }

-- the mentions of a node
abbrev pub mentions_at : List (List Use) → List ℕ → ℕ → List Mention
mentions_at rows numbers t = map (mention (slice_index numbers t)) (uses_at rows t)

-- less by the source, or by the position, or by the number
abbrev pub ComesBefore : Mention → Mention → Type 0
ComesBefore m n =
    (m.source < n.source)
    ⊎ ((m.source ≡ n.source) × ((m.position < n.position) ⊎ ((m.position ≡ n.position) × (m.number < n.number))))

-- it is one of a pending node
abbrev pub IsMention : List (List Use) → List ℕ → List ℕ → Mention → Type 0
IsMention rows numbers pending m = (t : ℕ) × Among pending t × Contains (mentions_at rows numbers t) m

-- the mentions of all pending nodes, in ascending order, each once
pub record AreMentions (rows : List (List Use)) (numbers pending : List ℕ) (ms : List Mention) : Type 0 where
  pub each : (m : Mention) → Contains ms m → IsMention rows numbers pending m
  pub all : (m : Mention) → IsMention rows numbers pending m → Contains ms m
  pub rising : AllPairs ComesBefore ms

-- the nodes that have them among their targets
abbrev pub sources_of : List Mention → List ℕ
sources_of ms = map (λ m. m.source) ms

-- those among the targets of a
abbrev pub run_of : List Mention → ℕ → List Mention
run_of ms a = filter (λ m. m.source == a) ms

-- their positions and numbers
abbrev pub words_of : List Mention → List ℕ
words_of ms = flat_map (λ m. m.position ∷ m.number ∷ []) ms

-- a node's number, and the positions and numbers of those of its targets that are pending
abbrev pub part_key : List ℕ → List Mention → ℕ → List ℕ
part_key numbers ms a = slice_index numbers a ∷ words_of (run_of ms a)
