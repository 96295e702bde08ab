-- Which tops have to stay in their units, since only some of those alike to them, or to what they refer to, are taken.
use Rattle.std.specs.Prelude.{◌≡◌, ◌⊎◌, ◌↔◌, ℕ, zero, suc, ◌<◌, ◌^◌, Bool, true, false, List, Option, length, slice_index}
use Rattle.std.specs.Option.{is_some}
use Rattle.dwz_model.specs.Lists.{In}
use Rattle.dwz_groups.specs.Spreading.{IsMarked}
use Rattle.dwz_takes.specs.Images.{choice_at}
use Rattle.dwz_takes.specs.Takes.{AreBelow, list_at}

-- Kin are alike in one file: two tops have the same number there exactly if they are.

-- some top before n with that number is taken, or some isn't
abbrev pub HasKin : List ℕ → List (Option ℕ) → ℕ → Bool → ℕ → Type 0
HasKin kin images n taken k = (a : ℕ) × (a < n) × (slice_index kin a ≡ k) × (is_some (choice_at images a) ≡ taken)

-- of its kin one is taken, and one isn't
pub record IsSplitAmong (kin : List ℕ) (images : List (Option ℕ)) (t : ℕ) : Type 0 where
  pub there : t < length kin
  pub one : HasKin kin images (length kin) true (slice_index kin t)
  pub other : HasKin kin images (length kin) false (slice_index kin t)

-- so it is, or a chain of at most so many references leads into one of which it is
unfoldable pub BlockedAlong : List ℕ → List (Option ℕ) → List (List ℕ) → ℕ → ℕ → Type 0
BlockedAlong kin images targets zero t = IsSplitAmong kin images t
BlockedAlong kin images targets (suc k) t = BlockedAlong kin images targets k t ⊎ ((m : ℕ) × In m (list_at targets t) × BlockedAlong kin images targets k m)

-- just those of which it is so along some chain are blocked
pub record AreBlocked (kin : List ℕ) (images : List (Option ℕ)) (targets : List (List ℕ)) (blocked : List Bool) : Type 0 where
  pub len : length blocked ≡ length kin
  pub each : (t : ℕ) → IsMarked blocked t ↔ ((k : ℕ) × BlockedAlong kin images targets k t)

-- What is given of tops is of each, and told by their numbers.
pub record AreKin (kin : List ℕ) (images : List (Option ℕ)) (targets : List (List ℕ)) : Type 0 where
  pub few : length kin < 2 ^ 32
  pub numbers : (k : ℕ) → In k kin → k < length kin
  pub images_len : length images ≡ length kin
  pub targets_len : length targets ≡ length kin
  pub below : AreBelow (length kin) targets

-- ---- the steps

pub record AreKinMarks (kin : List ℕ) (images : List (Option ℕ)) (n : ℕ) (taken : Bool) (flags : List Bool) : Type 0 where
  pub len : length flags ≡ length kin
  pub each : (k : ℕ) → IsMarked flags k ↔ HasKin kin images n taken k

pub record AreSplit (kin : List ℕ) (images : List (Option ℕ)) (split : List Bool) : Type 0 where
  pub len : length split ≡ length kin
  pub each : (t : ℕ) → IsMarked split t ↔ IsSplitAmong kin images t
