-- How the numbers of texts are found.
use Rattle.std.specs.Prelude.{◌≡◌, ◌⊎◌, ◌==◌, ◌%◌, ℕ, Bool, false, List, Option, Some, None, IsSome, if◌then◌else◌, length, slice_get}
use Rattle.std.specs.BTreeMap.{BTreeMap, get, get_by}
use Rattle.std.specs.Cmp.Lexicographic.{slice_cmp}
use Rattle.std.specs.Hash.FoldHasher.{finish, initial, write}
use Rattle.std.specs.Option.{option_and_then}
use Rattle.std.specs.Ordering.{nat_cmp}
use Rattle.std.specs.Str.{bytes_eq}
use Rattle.dwz_def_reading.specs.TextRows.{text_number}
use Rattle.dwz_pool.specs.declared.numbers.Numbers.{Numbers}

-- the hash of a text. Where hashes are equal the texts themselves are compared, so any function would do
abbrev pub text_hash : List ℕ → ℕ
text_hash text = finish (write initial text)

-- the number that is kept for a hash, in its part
abbrev pub first_among : List (BTreeMap ℕ ℕ) → ℕ → Option ℕ
first_among parts hash = option_and_then (λ part. get nat_cmp part hash) (slice_get parts (hash % length parts))

abbrev pub first_in : Numbers → ℕ → Option ℕ
first_in numbers hash = first_among numbers.firsts.items hash

-- the number that is kept for a text itself
abbrev pub other_in : Numbers → List ℕ → Option ℕ
other_in numbers text = get_by (λ k. slice_cmp nat_cmp text k.items) numbers.others

-- whether it is that text
abbrev pub is_text : Option (List ℕ) → List ℕ → Bool
is_text None text = false
is_text (Some other) text = bytes_eq other text

-- the number from a hash, if that is the text's, or else from the text itself
abbrev pub found_from : List (List ℕ) → Option ℕ → Option ℕ → List ℕ → Option ℕ
found_from texts None other text = None
found_from texts (Some first) other text = if is_text (slice_get texts first) text then Some first else other

-- the number that is found for a text with that hash
abbrev pub found_in : List (List ℕ) → Numbers → ℕ → List ℕ → Option ℕ
found_in texts numbers hash text = found_from texts (first_in numbers hash) (other_in numbers text) text

pub record AreNumbered (texts : List (List ℕ)) (numbers : Numbers) : Type 0 where
  -- what is found for a text is its number
  pub found : (text : List ℕ) → found_in texts numbers (text_hash text) text ≡ text_number texts text
  -- a number is kept for a text itself only where one is kept for its hash
  pub behind : (text : List ℕ) → first_in numbers (text_hash text) ≡ None → other_in numbers text ≡ None

-- the numbers stay
abbrev pub AreUnchanged : Numbers → Numbers → Type 0
AreUnchanged old new = ((hash : ℕ) → first_in new hash ≡ first_in old hash) × ((text : List ℕ) → other_in new text ≡ other_in old text)

-- a number is kept for a hash that had none
pub record IsFirst (old new : Numbers) (hash number : ℕ) : Type 0 where
  pub is_new : first_in old hash ≡ None
  pub firsts : (other : ℕ) → first_in new other ≡ (if hash == other then Some number else first_in old other)
  pub others : (other : List ℕ) → other_in new other ≡ other_in old other

-- a number is kept for a text itself
pub record IsOther (old new : Numbers) (hash : ℕ) (text : List ℕ) (number : ℕ) : Type 0 where
  pub is_there : IsSome (first_in old hash)
  pub firsts : (other : ℕ) → first_in new other ≡ first_in old other
  pub others : (other : List ℕ) → other_in new other ≡ (if bytes_eq text other then Some number else other_in old other)

-- a text with that hash has a number from now on
abbrev pub IsAdded : Numbers → Numbers → ℕ → List ℕ → ℕ → Type 0
IsAdded old new hash text number = IsFirst old new hash number ⊎ IsOther old new hash text number
