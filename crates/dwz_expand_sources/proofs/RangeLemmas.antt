-- Entries of ranges, and listed entries, one behind the other.
use Rattle.std.proofs.Common.{◌≡◌, ℕ, ◌+◌, ◌-◌, ◌≤◌, Bool, true, false, List, [], ◌∷◌, ◌++◌, length, take, drop, refl, sym, ap, ◌∙◌, arith}
use Rattle.std.specs.Prelude.{if◌then◌else◌, nat_lt, slice_range}
use Rattle.std.specs.List.{flat_map}
use Rattle.std.proofs.lemmas.Bool.{ltb-false, ltb-true}
use Rattle.std.proofs.lemmas.List.{append-nil, append_assoc, drop-append-le, length-append, length-drop, take-append-le, take_at}
use Rattle.dwz_def_reading.specs.Documents.{Entries}
use Rattle.dwz_def_reading.specs.Lists.{Each}
use Rattle.dwz_def_reading.specs.Trees.{End, Entry, size}
use Rattle.dwz_def_reading.proofs.ListFacts.{range_none}
use Rattle.dwz_def_expand.specs.Source.{followed_by}
use Rattle.dwz_check_index.specs.Index.{ListedEntry, listed}
use Rattle.dwz_expand_sources.specs.Building.{range_if}
use Rattle.dwz_expand_sources.specs.Sources.{IsRange, in_range}

-- ---- ranges

module _ {X : Type 0} (all : List X) where
  pub stands : (at end : ℕ) (g after : List X) → drop at all ≡ g ++ after → end ≡ at + length g → slice_range all at end ≡ g
  stands at end g after e to =
      let len : end - at ≡ length g = omega arith in
      (λ j. take (len j) (e j)) ∙ take_at g after (length g) refl

  pub in_if : (a b : ℕ) → a ≤ b → flat_map (in_range all) (range_if a b) ≡ slice_range all a b
  in_if a b le = by (nat_lt a b) refl where
    by : (t : Bool) → nat_lt a b ≡ t → flat_map (in_range all) (if t then record { first = a; end = b } ∷ [] else []) ≡ slice_range all a b
    by true e = append-nil (slice_range all a b)
    by false e = sym (range_none all a b (ltb-false a b e))

-- more entries behind others change nothing in these
pub range_kept : {X : Type 0} (a b : List X) (i j : ℕ) → i ≤ j → j ≤ length a → slice_range (a ++ b) i j ≡ slice_range a i j
range_kept {X} a b i j le in_a =
    let one : drop i (a ++ b) ≡ drop i a ++ b = drop-append-le i a b (omega arith) in
    let many : j - i ≤ length (drop i a) = omega (arith, length-drop i a) in
    ap (λ (w : List X). take (j - i) w) one ∙ take-append-le (j - i) (drop i a) b many

-- the last of several lists
pub range_end : {X : Type 0} (a b : List X) → slice_range (a ++ b) (length a) (length (a ++ b)) ≡ b
range_end {X} a b =
    let len : length (a ++ b) - length a ≡ length b = omega (arith, length-append a b) in
    let at : drop (length a) (a ++ b) ≡ b = behind a b in
    (λ j. take (len j) (at j)) ∙ ap (λ (w : List X). take (length b) w) (sym (append-nil b)) ∙ take_at b [] (length b) refl
  where
    behind : (a b : List X) → drop (length a) (a ++ b) ≡ b
    behind [] b = refl
    behind (x ∷ a) b = behind a b

-- ---- what holds of each

pub range_there : (count a b : ℕ) → b ≤ count → Each (IsRange count) (range_if a b)
range_there count a b le = by (nat_lt a b) refl where
  by : (t : Bool) → nat_lt a b ≡ t → Each (IsRange count) (if t then record { first = a; end = b } ∷ [] else [])
  by true e = (record { some = ltb-true a b e; within = le }, tt)
  by false e = tt

-- ---- listed entries

pub listed_many : {P : Type 0} (g : Entries P) → length (listed g) ≡ size g
unfolding listed
listed_many End = refl
listed_many (Entry d c n) = omega (arith, length-append (listed c) (listed n), listed_many c, listed_many n)

pub listed_followed : {P : Type 0} (f g : Entries P) → listed (followed_by f g) ≡ listed f ++ listed g
unfolding listed followed_by
listed_followed End g = refl
listed_followed {P} (Entry d c n) g =
    ap (λ (w : List (ListedEntry P)). (d, c) ∷ w)
    (ap (λ (w : List (ListedEntry P)). listed c ++ w) (listed_followed n g) ∙ sym (append_assoc (listed c) (listed n) (listed g)))
