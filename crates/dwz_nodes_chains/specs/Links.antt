-- Inner: groups of nodes, in which each node is linked to one above it, and the topmost to itself.
use Rattle.std.specs.Prelude.{◌≡◌, ◌≢◌, ℕ, zero, suc, ◌+◌, ◌<◌, ◌≤◌, ◌^◌, ◌==◌, true, false, List, [], ◌∷◌, length, slice_index}

-- it is linked to itself
abbrev pub IsPeak : List ℕ → ℕ → Type 0
IsPeak above x = slice_index above x ≡ x

unfoldable pub peaks_from : ℕ → List ℕ → ℕ
peaks_from n [] = 0
peaks_from n (x ∷ above) = elim (x == n) as (λ _. ℕ) [ true ↦ suc (peaks_from (suc n) above) | false ↦ peaks_from (suc n) above ]

-- how many peaks there are
unfoldable pub peaks : List ℕ → ℕ
peaks above = peaks_from 0 above

-- what so many links lead to
abbrev pub climb : List ℕ → ℕ → ℕ → ℕ
climb above zero x = x
climb above (suc n) x = climb above n (slice_index above x)

-- links rise, and each height is at most the number of joins that were made
pub record AreLinks (above heights : List ℕ) : Type 0 where
  pub few : length above < 2 ^ 32
  pub len : length heights ≡ length above
  pub inside : (x : ℕ) → x < length above → slice_index above x < length above
  pub rising : (x : ℕ) → x < length above → slice_index above x ≢ x → slice_index heights x < slice_index heights (slice_index above x)
  pub low : (x : ℕ) → x < length above → slice_index heights x + peaks above ≤ length above

-- the height of one node is raised, by at most one, so that it is above that of another
pub record IsRaised (old new : List ℕ) (low high : ℕ) : Type 0 where
  pub len : length new ≡ length old
  pub others : (x : ℕ) → x ≢ high → slice_index new x ≡ slice_index old x
  pub more : slice_index old high ≤ slice_index new high
  pub most : slice_index new high ≤ slice_index old high + 1
  pub higher : slice_index old low < slice_index new high
