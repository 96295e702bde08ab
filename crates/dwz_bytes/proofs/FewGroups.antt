-- One group, or two, at the front of bytes.
use Rattle.std.proofs.Common.{◌≡◌, ℕ, ◌+◌, ◌*◌, ◌%◌, ◌<◌, ◌≤◌, List, [], ◌∷◌, length, slice_index_or, refl, arith}
use Rattle.std.proofs.lemmas.Bool.{le-ltb, lt-ltb}
use Rattle.std.proofs.lemmas.Grind.{common_steps}
use Rattle.dwz_bytes.specs.declared.groups.Groups.{Groups}
use Rattle.dwz_bytes.specs.Groups.{AreFirst}
use Rattle.dwz_bytes.specs.Reading.{groups_at}

abbrev one : ℕ → Groups
one b = record { value = b; scale = 128; len = 1; last = b }

abbrev two : ℕ → ℕ → Groups
two b c = record { value = b % 128 + 128 * c; scale = 16384; len = 2; last = c }

pub one_group : (bytes : List ℕ) → 2 ≤ length bytes → slice_index_or bytes 0 0 < 128 → (start : ℕ) → AreFirst bytes (one (slice_index_or bytes 0 0)) (groups_at start 10 bytes)
unfolding groups_at
one_group [] le lt start = absurd (omega (arith, le))
one_group (b ∷ rest) le lt start = record {
  read = rw (lt-ltb b 128 lt) refl;
  within = omega (arith, le);
  few = omega arith;
  value = omega (arith, lt);
  scale = refl;
  small = lt;
  last = refl;
}

pub two_groups : (bytes : List ℕ) → 2 ≤ length bytes → 128 ≤ slice_index_or bytes 0 0 → slice_index_or bytes 1 0 < 128 → (start : ℕ)
    → AreFirst bytes (two (slice_index_or bytes 0 0) (slice_index_or bytes 1 0)) (groups_at start 10 bytes)
unfolding groups_at
two_groups [] le high lt start = absurd (omega (arith, le))
two_groups (b ∷ []) le high lt start = absurd (omega (arith, le))
two_groups (b ∷ c ∷ rest) le high lt start = record {
  read = rw (le-ltb b 128 high, lt-ltb c 128 lt) refl;
  within = omega (arith, le);
  few = omega arith;
  value = omega (arith, lt);
  scale = refl;
  small = omega (arith, lt);
  last = refl;
}
