-- What gains nothing stays: what tops weigh, their groups, and which groups gain.
use Rattle.std.specs.Prelude.{◌≡◌, ◌↔◌, ◌⊎◌, ℕ, ℤ, zero, suc, ◌+◌, ◌-◌, ◌*◌, ◌<◌, Bool, true, List, [], ◌∷◌, ◌++◌, length, ◌==◌, ◌&&◌}
use Rattle.std.specs.Prelude.{if◌then◌else◌}
use Rattle.std.specs.List.{filter}
use Rattle.dwz_def_reading.specs.Spelling.{le_bytes}
use Rattle.dwz_def_reading.specs.Documents.{Attr, Block, Entries, Expr, File, Node, Operand, Part, Plain, Ref, Same, Text}
use Rattle.dwz_def_reading.specs.Lists.{In}
use Rattle.dwz_def_reading.specs.Trees.{End, Entry}
use Rattle.dwz_def_reading.specs.Values.{Bytes, Number, Raw, value_bytes}
use Rattle.dwz_def_tops.specs.Alike.{IsAlike, TopScope, refers_to}
use Rattle.dwz_def_tops.specs.Deciding.{Test}
use Rattle.dwz_def_tops.specs.Spots.{EntryName, FileUnit, Top, same_numbers, tops_of}
use Rattle.dwz_def_plan.specs.Homes.{Home, Rule, candidate, is_home, rep, same_home, users}

-- ---- weights: about how many bytes something takes

-- the bytes of an expression, with 0 for each operand
unfoldable pub bare_bytes : List Part → List ℕ
bare_bytes [] = []
bare_bytes (Same bytes ∷ parts) = bytes ++ bare_bytes parts
bare_bytes (Operand width uleb base ∷ parts) = le_bytes width 0 ++ bare_bytes parts

-- what an attribute stores, but for texts, references and files
abbrev bare_raw : ℤ → Plain → Raw
bare_raw raw (Block bytes) = Bytes bytes
bare_raw raw (Expr parts) = Bytes (bare_bytes parts)
bare_raw raw _ = Number raw

-- a text that stands there has its length and 1; any other text and a reference have 4; a file has 1; all else has the bytes that it
-- takes in its form
abbrev pub value_weight : ℕ → ℤ → Plain → ℕ
value_weight form raw (Text text) = if form == 0x08 then length text + 1 else 4
value_weight form raw Ref = 4
value_weight form raw (File path) = 1
value_weight form raw plain = length (value_bytes form (bare_raw raw plain))

unfoldable pub attrs_weight : List (Attr EntryName) → ℕ
attrs_weight [] = 0
attrs_weight (a ∷ attrs) = value_weight a.form a.raw a.value.plain + attrs_weight attrs

-- an entry has 1, one more if it has children, and what its attributes have
abbrev entry_weight : Node EntryName → Entries EntryName → ℕ
entry_weight e End = 1 + attrs_weight e.attrs
entry_weight e (Entry d children next) = 2 + attrs_weight e.attrs

unfoldable pub entries_weight : Entries EntryName → ℕ
entries_weight End = 0
entries_weight (Entry e children next) = entry_weight e children + (entries_weight children + entries_weight next)

abbrev pub top_weight : Top → ℕ
top_weight t = entry_weight t.node t.below + entries_weight t.below

-- ---- groups: the tops with one home, if they move, and one list of users

abbrev pub in_group : Test → List (FileUnit EntryName) → Home → List ℕ → Top → Bool
in_group alike units h us t = same_home (candidate alike units t.number) h && same_numbers (users alike units t.number) us

unfoldable pub weights : List Top → ℕ
weights [] = 0
weights (t ∷ tops) = top_weight t + weights tops

-- the weights of its representatives
unfoldable pub group_weight : Test → List (FileUnit EntryName) → Home → List ℕ → ℕ
group_weight alike units h us = weights (filter (λ t. in_group alike units h us t && rep alike units t.number == t.number) (tops_of units))

-- what is left out of all users but one, and what the partial unit and its imports take
abbrev pub saved : Test → List (FileUnit EntryName) → Home → List ℕ → ℕ
saved alike units h us = (length us - 1) * group_weight alike units h us

abbrev pub spent : List ℕ → ℕ
spent us = 16 + 6 * length us

-- ---- which groups gain

-- a top of a group that moves if it gains has a reference into a top of this group
pub record RefersInto (alike : Test) (units : List (FileUnit EntryName)) (t : Top) (h : Home) (us : List ℕ) : Type 0 where
  pub there : In t (tops_of units)
  pub home : is_home (candidate alike units t.number) ≡ true
  pub target : Top
  pub is_top : In target (tops_of units)
  pub refers : refers_to target.number t ≡ true
  pub home_is : candidate alike units target.number ≡ h
  pub users_are : users alike units target.number ≡ us

-- it gains by itself, or by a chain of so many references from one that does
unfoldable pub Gain : Test → List (FileUnit EntryName) → ℕ → Home → List ℕ → Type 0
Gain alike units zero h us = spent us < saved alike units h us
Gain alike units (suc k) h us = Gain alike units k h us
    ⊎ ((t : Top) × RefersInto alike units t h us × Gain alike units k (candidate alike units t.number) (users alike units t.number))

-- a top's group gains
abbrev pub Gains : Test → List (FileUnit EntryName) → ℕ → Type 0
Gains alike units n = (k : ℕ) × Gain alike units k (candidate alike units n) (users alike units n)

-- ---- the rule by which tops move

-- it finds tops alike exactly where they are, in their scope, and chooses just the tops whose groups gain
pub record IsGainRule (scope : TopScope) (units : List (FileUnit EntryName)) (rule : Rule) : Type 0 where
  pub alike : IsAlike scope units rule.alike
  pub chosen : (t : Top) → In t (tops_of units) → (rule.chosen t.number ≡ true) ↔ Gains rule.alike units t.number
