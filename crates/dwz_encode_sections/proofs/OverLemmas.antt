-- Numbers written over bytes, byte by byte: what is left to write is written over the bytes that are there by now.
use Rattle.std.proofs.Common.{◌≡◌, ℕ, zero, suc, ◌+◌, ◌-◌, ◌/◌, ◌%◌, ◌<◌, ◌≤◌, List, ◌∷◌, eqb, length, set, refl, sym, ap, ◌∙◌, arith}
use Rattle.std.proofs.Math.ListN.{length-set}
use Rattle.dwz_def_reading.specs.Spelling.{le_bytes, padded}
use Rattle.dwz_def_reading.proofs.PaddedLemmas.{group_of, padded_first}
use Rattle.dwz_def_reading.specs.Patching.{written_at}

-- ---- of a fixed width

pub record LeLeft (old out : List ℕ) (at width number place left rest : ℕ) : Type 0 where
  pub same : written_at place (le_bytes left rest) out ≡ written_at at (le_bytes width number) old
  pub end : place + left ≡ at + width
  pub size : length out ≡ length old

pub le_step : (old out : List ℕ) (at width number place left rest : ℕ) → 0 < left → LeLeft old out at width number place left rest → LeLeft old (set out place (rest % 256)) at width number
    (place + 1) (left - 1) (rest / 256)
unfolding le_bytes written_at
le_step old out at width number place left rest lt h = record { same = over left lt h.same; end = (let e = h.end in omega (arith, e, lt)); size = length-set out place (rest % 256) ∙ h.size } where
  over : (n : ℕ) → 0 < n → written_at place (le_bytes n rest) out ≡ written_at at (le_bytes width number) old → written_at (place + 1) (le_bytes (n - 1) (rest / 256))
      (set out place (rest % 256)) ≡ written_at at (le_bytes width number) old
  over zero lt e = absurd (omega (arith, lt))
  over (suc k) lt e = (let one : suc k - 1 ≡ k = omega arith in ap (λ (n : ℕ). written_at (place + 1) (le_bytes n (rest / 256)) (set out place (rest % 256))) one ∙ e)

pub le_done : (old out : List ℕ) (at width number place left rest : ℕ) → left ≤ 0 → LeLeft old out at width number place left rest → out ≡ written_at at (le_bytes width number) old
unfolding le_bytes written_at
le_done old out at width number place left rest le h = (let none : left ≡ 0 = omega (arith, le) in sym (ap (λ (n : ℕ). written_at place (le_bytes n rest) out) none) ∙ h.same)

-- ---- as groups

first_written : (place b : ℕ) (rest out : List ℕ) → written_at place (b ∷ rest) out ≡ written_at (place + 1) rest (set out place b)
unfolding written_at
first_written place b rest out = refl

pub record GroupsLeft (old out : List ℕ) (at width number place left rest : ℕ) : Type 0 where
  pub same : written_at place (padded left rest) out ≡ written_at at (padded width number) old
  pub end : place + left ≡ at + width
  pub size : length out ≡ length old

pub groups_step : (old out : List ℕ) (at width number place left rest byte : ℕ) → 0 < left → byte ≡ group_of (eqb left 1) rest → GroupsLeft old out at width number place left rest → GroupsLeft old
    (set out place byte) at width number (place + 1) (left - 1) (rest / 128)
groups_step old out at width number place left rest byte lt is h = record {
  same =
      ap (λ (b : ℕ). written_at (place + 1) (padded (left - 1) (rest / 128)) (set out place b)) is
      ∙ sym (first_written place (group_of (eqb left 1) rest) (padded (left - 1) (rest / 128)) out)
      ∙ sym (ap (λ (w : List ℕ). written_at place w out) (padded_first left rest lt))
      ∙ h.same;
  end = (let e = h.end in omega (arith, e, lt));
  size = length-set out place byte ∙ h.size;
}

pub groups_done : (old out : List ℕ) (at width number place left rest : ℕ) → left ≤ 0 → GroupsLeft old out at width number place left rest → out ≡ written_at at (padded width number) old
unfolding padded written_at
groups_done old out at width number place left rest le h = (let none : left ≡ 0 = omega (arith, le) in sym (ap (λ (n : ℕ). written_at place (padded n rest) out) none) ∙ h.same)
