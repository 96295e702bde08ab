-- Trees of entries (DWARF 5, 7.5.3): how they are spelled and read, for any kind of entry.
use Rattle.std.specs.Prelude.{◌≡◌, ℕ, zero, suc, ◌+◌, ◌<◌, Bool, true, false, List, [], ◌++◌, length, Option, Some, None, Result, Ok, Err}
use Rattle.dwz_model.specs.declared.fault.Fault.{Fault}
use Rattle.dwz_bytes.specs.Input.{Input}
use Rattle.dwz_bytes.specs.Reading.{◌>>=◌}

-- a sibling list: its end, or an entry with the list of its children, and the siblings behind it
pub data Forest (E : Type 0) : Type 0 where
  End : Forest E
  Entry : E → Forest E → Forest E → Forest E

-- how many entries there are
abbrev pub size : {E : Type 0} → Forest E → ℕ
size End = 0
size (Entry e children next) = size children + size next + 1

-- where an entry stands: how many entries there are before it in all, and its depth
pub record Position : Type 0 where
  pub before : ℕ
  pub depth : ℕ

-- the position of an entry's first child
abbrev pub first_below : Position → Position
first_below p = record { before = p.before + 1; depth = p.depth + 1 }

-- the position behind an entry with these children
abbrev pub behind : {E : Type 0} → Position → Forest E → Position
behind p children = record { before = p.before + 1 + size children; depth = p.depth }

-- P holds of each entry at its position, where the first entry has position p
abbrev pub EachEntry : {E : Type 0} → (Position → E → Type 0) → Position → Forest E → Type 0
EachEntry P p End = Unit {0}
EachEntry P p (Entry e children next) = P p e × EachEntry P (first_below p) children × EachEntry P (behind p children) next

-- ---- spelling

-- From a place on the bytes are the front of an entry, or what ends a sibling list.
abbrev pub FrontOf : Type 0 → Type 1
FrontOf E = Position → ℕ → Option E → List ℕ → Type 0

-- the bytes are of three parts, each spelled so from its own place on
pub record ThreeParts (First Second Third : ℕ → List ℕ → Type 0) (start : ℕ) (bytes : List ℕ) : Type 0 where
  pub first_bytes : List ℕ
  pub first : First start first_bytes
  pub second_bytes : List ℕ
  pub second : Second (start + length first_bytes) second_bytes
  pub third_bytes : List ℕ
  pub third : Third (start + length first_bytes + length second_bytes) third_bytes
  pub parts : bytes ≡ first_bytes ++ (second_bytes ++ third_bytes)

-- an entry that says it has children is followed by their list; another has none, and no bytes stand for it
abbrev pub IfChildren : {E : Type 0} → Bool → Forest E → Type 0 → List ℕ → Type 0
IfChildren true children Spelled bytes = Spelled
IfChildren false children Spelled bytes = (children ≡ End) × (bytes ≡ [])

-- the bytes from start on spell the sibling list, whose first entry has that position
abbrev pub SpellsForest : {E : Type 0} → (E → Bool) → FrontOf E → Forest E → Position → ℕ → List ℕ → Type 0
SpellsForest has Front End p start bytes = Front p start None bytes
SpellsForest {E} has Front (Entry e children next) p start bytes =
    ThreeParts (λ s b. Front p s (Some e) b)
    (λ s b. IfChildren (has e) children (SpellsForest has Front children (first_below p) s b) b)
    (λ s b. SpellsForest has Front next (behind p children) s b) start bytes

-- ---- reading

-- reads the front of an entry at a position, or the end of a sibling list
abbrev pub EntryReader : Type 0 → Type 0
EntryReader E = Position → Input → Result (Option E × Input) Fault

abbrev pub ForestReader : Type 0 → Type 0
ForestReader E = Position → Input → Result (Forest E × Input) Fault

abbrev pub children_by : {E : Type 0} → ForestReader E → Position → Bool → Input → Result (Forest E × Input) Fault
children_by read p true i = read (first_below p) i
children_by read p false i = Ok (End, i)

abbrev pub after_children : {E : Type 0} → ForestReader E → Position → E → Forest E × Input → Result (Forest E × Input) Fault
after_children read p e children = read (behind p children.0) children.1 >>= λ next. Ok (Entry e children.0 next.0, next.1)

abbrev pub after_front : {E : Type 0} → (E → Bool) → ForestReader E → Position → Option E × Input → Result (Forest E × Input) Fault
after_front has read p x = elim x.0 [
  | None ↦ Ok (End, x.1)
  | Some e ↦ children_by read p (has e) x.1 >>= after_children read p e
]

-- a sibling list of fewer than k entries and ends in a row
unfoldable pub forest_at : {E : Type 0} → (E → Bool) → EntryReader E → (Input → Fault) → ℕ → ForestReader E
forest_at has front ended zero p i = Err (ended i)
forest_at has front ended (suc k) p i = front p i >>= after_front has (forest_at has front ended k) p

-- a sibling list: each entry and end takes a byte at least
unfoldable pub siblings_at : {E : Type 0} → (E → Bool) → EntryReader E → (Input → Fault) → ForestReader E
siblings_at has front ended p i = forest_at has front ended (suc (length i.rest)) p i

-- ---- what is asked of the fronts of entries

-- What is read of a front is spelled, what is spelled is read whatever follows, and a front has bytes.
pub record AreFronts {E : Type 0} (front : EntryReader E) (Front : FrontOf E) : Type 0 where
  pub found : (p : Position) (i j : Input) (o : Option E) → front p i ≡ Ok (o, j) → (bytes : List ℕ) × Front p i.at o bytes
      × (i.rest ≡ bytes ++ j.rest) × (j.at ≡ i.at + length bytes)
  pub again : (p : Position) (start : ℕ) (o : Option E) (bytes rest : List ℕ) → Front p start o bytes
      → front p (record { at = start; rest = bytes ++ rest }) ≡ Ok (o, record { at = start + length bytes; rest = rest })
  pub some : (p : Position) (start : ℕ) (o : Option E) (bytes : List ℕ) → Front p start o bytes → 0 < length bytes

-- ---- faults

-- the way to a place in a sibling list: at its first entry, among that entry's children, or among the siblings behind it
pub data Cut (E : Type 0) : Type 0 where
  Here : Cut E
  Inside : E → Cut E → Cut E
  Behind : E → Forest E → Cut E → Cut E

-- From a place on the front of an entry has that fault.
abbrev pub FaultOf : Type 1
FaultOf = Position → ℕ → List ℕ → Fault → Type 0

-- the bytes are of two parts, each as said from its own place on
pub record TwoParts (First Second : ℕ → List ℕ → Type 0) (start : ℕ) (bytes : List ℕ) : Type 0 where
  pub first_bytes : List ℕ
  pub first : First start first_bytes
  pub second_bytes : List ℕ
  pub second : Second (start + length first_bytes) second_bytes
  pub parts : bytes ≡ first_bytes ++ second_bytes

-- all before that place is spelled, and the front that begins there has that fault
abbrev pub Faulty : {E : Type 0} → (E → Bool) → FrontOf E → FaultOf → Cut E → Position → Fault → ℕ → List ℕ → Type 0
Faulty has Front Fault Here p f start bytes = Fault p start bytes f
Faulty has Front Fault (Inside e cut) p f start bytes =
    (has e ≡ true) × TwoParts (λ s b. Front p s (Some e) b) (λ s b. Faulty has Front Fault cut (first_below p) f s b) start bytes
Faulty has Front Fault (Behind e children cut) p f start bytes =
    TwoParts (λ s b. Front p s (Some e) b)
    (TwoParts (λ s b. IfChildren (has e) children (SpellsForest has Front children (first_below p) s b) b)
    (λ s b. Faulty has Front Fault cut (behind p children) f s b)) start bytes

-- the front of an entry fails with just the faults that it has
abbrev pub FailsAs : {E : Type 0} → EntryReader E → FaultOf → Type 0
FailsAs front Fault =
    ((p : Position) (i : Input) (f : _) → front p i ≡ Err f → Fault p i.at i.rest f)
    × ((p : Position) (start : ℕ) (bytes : List ℕ) (f : _) → Fault p start bytes f → front p (record { at = start; rest = bytes }) ≡ Err f)
