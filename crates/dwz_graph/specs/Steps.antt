-- What is kept of entries, list by list: the way up from each, tops, and spaces. `first` is the number of a list's first entry.
use Rattle.std.specs.Prelude.{ℕ, suc, ◌+◌, Bool, true, false, List, [], ◌∷◌, ◌++◌}
use Rattle.std.specs.Option.{is_some}
use Rattle.dwz_def_reading.specs.Documents.{Compile, DwUnit, Kind, Node, OfType, Partial}
use Rattle.dwz_def_reading.specs.Trees.{End, Entry, Forest, size}
use Rattle.dwz_def_tops.specs.Spaces.{space_text}
use Rattle.dwz_graph.specs.declared.index.SpaceEntry.{SpaceEntry}
use Rattle.dwz_graph.specs.declared.index.Starts.{Starts}
use Rattle.dwz_graph.specs.declared.index.Step.{Step}
use Rattle.dwz_graph.specs.declared.index.TopEntry.{TopEntry}

abbrev pub is_space : {P : Type 0} → Node P → Bool
is_space e = is_some (space_text e)

abbrev pub step : ℕ → ℕ → ℕ → Step
step up index top = record { up = up; index = index; top = top }

-- ---- the ways up

-- of entries in the top before that number, or in none where it is 0, below the entry `up`; the first has that index there
unfoldable pub steps_below : {E : Type 0} → (top up index first : ℕ) → Forest E → List Step
steps_below top up i first End = []
steps_below top up i first (Entry e children next) =
    step up i top ∷ (steps_below top first 0 (first + 1) children ++ steps_below top up (suc i) (first + 1 + size children) next)

-- how many entries are tops, and how many spaces, where the test is true of spaces
unfoldable pub tops_by : {E : Type 0} → (E → Bool) → Forest E → ℕ
tops_by space End = 0
tops_by space (Entry e children next) = elim (space e) as (λ _. ℕ) [
  | false ↦ suc (tops_by space next)
  | true ↦ tops_by space children + tops_by space next
]

unfoldable pub spaces_by : {E : Type 0} → (E → Bool) → Forest E → ℕ
spaces_by space End = 0
spaces_by space (Entry e children next) = elim (space e) as (λ _. ℕ) [
  | false ↦ spaces_by space next
  | true ↦ suc (spaces_by space children + spaces_by space next)
]

-- of the entries below the root of a compile unit, or below a space of it: the first top has the number n. The way from a top ends there.
unfoldable pub steps_among : {E : Type 0} → (E → Bool) → (n up index first : ℕ) → Forest E → List Step
steps_among space n up i first End = []
steps_among space n up i first (Entry e children next) = elim (space e) as (λ _. List Step) [
  | false ↦ step first 0 (suc n) ∷ (steps_below (suc n) first 0 (first + 1) children ++ steps_among space (suc n) up (suc i)
      (first + 1 + size children) next)
  | true ↦ step up i 0 ∷ (steps_among space n first 0 (first + 1) children ++ steps_among space (n + tops_by space children) up (suc i)
      (first + 1 + size children) next)
]

-- ---- tops and spaces

abbrev pub top_entry : ℕ → ℕ → ℕ → TopEntry
top_entry entry unit inner = record { entry = entry; unit = unit; inner = inner }

abbrev pub space_entry : ℕ → ℕ → SpaceEntry
space_entry entry outer = record { entry = entry; outer = outer }

-- the tops, in the space before the number `inner`, or in a root where it is 0; the next space has that number
unfoldable pub tops_among : {E : Type 0} → (E → Bool) → (unit inner next_space first : ℕ) → Forest E → List TopEntry
tops_among space unit inner k first End = []
tops_among space unit inner k first (Entry e children next) = elim (space e) as (λ _. List TopEntry) [
  | false ↦ top_entry first unit inner ∷ tops_among space unit inner k (first + 1 + size children) next
  | true ↦ tops_among space unit (suc k) (suc k) (first + 1) children ++ tops_among space unit inner (suc k + spaces_by space children)
      (first + 1 + size children) next
]

-- the spaces there
unfoldable pub spaces_among : {E : Type 0} → (E → Bool) → (outer next_space first : ℕ) → Forest E → List SpaceEntry
spaces_among space outer k first End = []
spaces_among space outer k first (Entry e children next) = elim (space e) as (λ _. List SpaceEntry) [
  | false ↦ spaces_among space outer k (first + 1 + size children) next
  | true ↦ space_entry first outer ∷ (spaces_among space (suc k) (suc k) (first + 1) children
      ++ spaces_among space outer (suc k + spaces_by space children) (first + 1 + size children) next)
]

-- ---- of all units

-- what is below a root, and whether that is the root of a compile unit, which alone has tops and spaces
pub record Below (E : Type 0) : Type 0 where
  pub compile : Bool
  pub list : Forest E

abbrev pub tops_of_list : {E : Type 0} → (E → Bool) → Below E → ℕ
tops_of_list space b = elim b.compile as (λ _. ℕ) [ true ↦ tops_by space b.list | false ↦ 0 ]

abbrev pub spaces_of_list : {E : Type 0} → (E → Bool) → Below E → ℕ
spaces_of_list space b = elim b.compile as (λ _. ℕ) [ true ↦ spaces_by space b.list | false ↦ 0 ]

abbrev pub steps_of_list : {E : Type 0} → (E → Bool) → (n first : ℕ) → Below E → List Step
steps_of_list space n first b =
    step first 0 0 ∷ elim b.compile as (λ _. List Step) [
      | true ↦ steps_among space n first 0 (first + 1) b.list
      | false ↦ steps_below 0 first 0 (first + 1) b.list
    ]

abbrev pub top_entries : {E : Type 0} → (E → Bool) → (unit next_space first : ℕ) → Below E → List TopEntry
top_entries space unit k first b = elim b.compile as (λ _. List TopEntry) [
  | true ↦ tops_among space unit 0 k (first + 1) b.list
  | false ↦ []
]

abbrev pub space_entries : {E : Type 0} → (E → Bool) → (next_space first : ℕ) → Below E → List SpaceEntry
space_entries space k first b = elim b.compile as (λ _. List SpaceEntry) [ true ↦ spaces_among space 0 k (first + 1) b.list | false ↦ [] ]

-- the numbers behind those of a unit
abbrev pub starts_behind : {E : Type 0} → (E → Bool) → Starts → Below E → Starts
starts_behind space s b = record { unit = s.unit + 1; top = s.top + tops_of_list space b; space = s.space + spaces_of_list space b }

unfoldable pub all_steps : {E : Type 0} → (E → Bool) → Starts → (first : ℕ) → List (Below E) → List Step
all_steps space s first [] = []
all_steps space s first (b ∷ bs) = steps_of_list space s.top first b ++ all_steps space (starts_behind space s b) (first + 1 + size b.list)
    bs

unfoldable pub all_tops : {E : Type 0} → (E → Bool) → Starts → (first : ℕ) → List (Below E) → List TopEntry
all_tops space s first [] = []
all_tops space s first (b ∷ bs) = top_entries space s.unit s.space first b ++ all_tops space (starts_behind space s b)
    (first + 1 + size b.list) bs

unfoldable pub all_spaces : {E : Type 0} → (E → Bool) → Starts → (first : ℕ) → List (Below E) → List SpaceEntry
all_spaces space s first [] = []
all_spaces space s first (b ∷ bs) = space_entries space s.space first b ++ all_spaces space (starts_behind space s b)
    (first + 1 + size b.list) bs

-- ---- in documents

abbrev pub is_compile : {P : Type 0} → Kind P → Bool
is_compile Compile = true
is_compile (OfType signature main) = false
is_compile Partial = false

abbrev pub below_root : {P : Type 0} → DwUnit P → Below (Node P)
below_root u = record { compile = is_compile u.kind; list = u.below }
