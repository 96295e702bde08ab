-- A set is bad, or it is there.
use Rattle.std.proofs.Common.{◌≡◌, ℕ, ◌+◌, ◌-◌, ◌<◌, ◌≤◌, Bool, true, false, List, length, take, drop, Ok, Err, refl, sym, ap, subst, ◌∙◌, inl, inr, arith}
use Rattle.std.proofs.lemmas.List.{drop-drop, length-drop, take_all}
use Rattle.dwz_bytes.specs.Input.{Input, input, past}
use Rattle.dwz_bytes.specs.Reading.{◌>>=◌}
use Rattle.dwz_def_reading.specs.Entries.{unless_so}
use Rattle.dwz_def_reading.specs.Ranges.{IsBadSet, RangeSet, bad_ranges, is_bad_set, set_at, set_length, set_of, set_unit, set_version}
use Rattle.dwz_def_reading.proofs.RangeLemmas.{bad_decides, set_reads}
use Rattle.dwz_aranges.specs.Views.{any_unit}

pub set_fails : (i : Input) → IsBadSet any_unit i.rest → set_at any_unit i ≡ Err (bad_ranges i.at)
set_fails i bad = (((set_reads any_unit).agrees i).err (bad_ranges i.at)).1 (refl, bad)

pub set_stands : (i : Input) → set_length i.rest + 4 ≤ length i.rest → 8 ≤ set_length i.rest → set_version i.rest ≡ 2
    → set_at any_unit i ≡ Ok (record { at = i.at; unit = set_unit i.rest }, past (set_length i.rest + 4) i)
unfolding set_at
set_stands i whole some version = by (is_bad_set any_unit i.rest) refl where
  none : IsBadSet any_unit i.rest → ⊥
  none bad = elim bad [
    | inl short ↦ omega (arith, short, whole)
    | inr b ↦ elim b [
      | inl cut ↦ omega (arith, cut, whole)
      | inr c ↦ elim c [
        | inl few ↦ omega (arith, few, some)
        | inr d ↦ elim d [
          | inl other ↦ other version
          | inr unknown ↦ absurd cc
        ]
      ]
    ]
  ]

  by : (b : Bool) → is_bad_set any_unit i.rest ≡ b → unless_so b (bad_ranges i.at) >>= set_of i ≡ Ok (record { at = i.at; unit = set_unit i.rest }, past (set_length i.rest + 4) i)
  by true e = absurd (none ((bad_decides any_unit i.rest).yes e))
  by false e = refl

-- the slice from a place on is what is there
pub from_place : (at : ℕ) (bytes : List ℕ) → take (length bytes - at) (drop at bytes) ≡ drop at bytes
from_place at bytes = take_all (length bytes - at) (drop at bytes) (omega (arith, length-drop at bytes))

pub slice_fails : (at : ℕ) (bytes : List ℕ) → IsBadSet any_unit (take (length bytes - at) (drop at bytes)) → set_at any_unit (input bytes at) ≡ Err (bad_ranges at)
slice_fails at bytes bad = set_fails (input bytes at) (subst (IsBadSet any_unit) (from_place at bytes) bad)

pub slice_stands : (at : ℕ) (bytes slice : List ℕ) → slice ≡ take (length bytes - at) (drop at bytes) → at < length bytes → set_length slice + 4 ≤ length slice → 8 ≤ set_length slice
    → set_version slice ≡ 2 → (set : RangeSet) → set.at ≡ at → set.unit ≡ set_unit slice → (behind : ℕ) → behind ≡ at + (set_length slice + 4)
    → (set_at any_unit (input bytes at) ≡ Ok (set, input bytes behind)) × (behind ≤ length bytes)
slice_stands at bytes slice is there whole some version set place unit behind ends =
    let same : slice ≡ drop at bytes = is ∙ from_place at bytes in
    let n = set_length slice + 4 in
    let read : set_at any_unit (input bytes at) ≡ Ok (record { at = at; unit = set_unit slice }, past n (input bytes at)) =
    subst (λ (r : List ℕ). set_at any_unit (record { at = at; rest = r }) ≡ Ok (record { at = at; unit = set_unit slice }, past n (record { at = at; rest = r }))) same
    (set_stands (record { at = at; rest = slice }) whole some version) in
    let rest : drop n (drop at bytes) ≡ drop (at + n) bytes = drop-drop n at bytes in
    let value : set ≡ record { at = at; unit = set_unit slice } = λ m. record { at = place m; unit = unit m } in
    let behind_is : input bytes behind ≡ past n (input bytes at) = ap (input bytes) ends ∙ (λ m. record { at = at + n; rest = sym rest m }) in
    (read ∙ (λ m. Ok (sym value m, sym behind_is m)), omega (arith, ends, whole, ap length same, length-drop at bytes, there))
