-- Slots of `.debug_str_offsets` stand in it, and none begins inside another.
use Rattle.std.proofs.Common.{◌≡◌, ℕ, zero, suc, ◌+◌, ◌*◌, ◌≤◌, List, [], ◌∷◌, ◌++◌, length, Option, Some, None, refl, sym, ap, subst, ◌∙◌, arith, inl, inr}
use Rattle.std.proofs.lemmas.List.{length-append}
use Rattle.dwz_def_reading.specs.Lists.{Each, In}
use Rattle.dwz_def_reading.specs.OffsetTables.{SpellContributions, SpellsContribution, places_from, slot_places, slots_in}
use Rattle.dwz_def_reading.proofs.OffsetLemmas.{slots_found}
use Rattle.dwz_def_reading.proofs.ListFacts.{in_cases}
use Rattle.dwz_def_tops.specs.Lists.{EachPair}
use Rattle.dwz_def_tops.proofs.Members.{each_of, pair_append}
use Rattle.dwz_def_encoding.specs.Pruned.{known_slots, slots_or_none}

-- ---- in a contribution

from_within : (at count p : ℕ) → In p (places_from at count) → (at ≤ p) × (p + 4 ≤ at + 4 * count)
from_within at zero p there = absurd there
from_within at (suc count) p (inl e) = (omega (arith, e), omega (arith, e))
from_within at (suc count) p (inr r) = (let o = from_within (at + 4) count p r in (omega (arith, o.0), omega (arith, o.1)))

from_apart : (at count : ℕ) → EachPair (λ p q. p + 4 ≤ q) (places_from at count)
from_apart at zero = tt
from_apart at (suc count) = (each_of (λ q. at + 4 ≤ q) (places_from (at + 4) count) (λ q there. (from_within (at + 4) count q there).0), from_apart (at + 4) count)

contribution_length : (bytes : List ℕ) (count : ℕ) → SpellsContribution bytes count → length bytes ≡ 8 + 4 * count
contribution_length bytes count is =
    omega (
      arith,
      ap length is.parts,
      length-append is.len (is.version ++ (is.padding ++ is.slots)),
      length-append is.version (is.padding ++ is.slots),
      length-append is.padding is.slots,
      is.len_is.len,
      is.version_is_5.len,
      is.padding_is,
      is.slots_are,
    )

-- ---- in a row of them

row_within : (counts section : List ℕ) (at : ℕ) → SpellContributions counts section → (p : ℕ) → In p (slot_places at counts) → (at ≤ p) × (p + 4 ≤ at + length section)
row_within [] section at is p there = absurd there
row_within (count ∷ counts) section at is p there =
    let front = contribution_length is.front count is.first in
    let long : length section ≡ length is.front + length is.back = ap length is.parts ∙ length-append is.front is.back in
    elim (in_cases p (places_from (at + 8) count) (slot_places (at + (8 + 4 * count)) counts) there) [
      | inl a ↦ (let o = from_within (at + 8) count p a in (omega (arith, o.0), omega (arith, o.1, front, long)))
      | inr b ↦ (let o = row_within counts is.back (at + (8 + 4 * count)) is.second p b in (omega (arith, o.0), omega (arith, o.1, front, long)))
    ]

row_apart : (counts section : List ℕ) (at : ℕ) → SpellContributions counts section → EachPair (λ p q. p + 4 ≤ q) (slot_places at counts)
row_apart [] section at is = tt
row_apart (count ∷ counts) section at is =
    pair_append (λ p q. p + 4 ≤ q) (places_from (at + 8) count) (slot_places (at + (8 + 4 * count)) counts) (from_apart (at + 8) count) (row_apart counts is.back (at + (8 + 4 * count)) is.second)
    (λ p q a b. (let o = from_within (at + 8) count p a in let i = row_within counts is.back (at + (8 + 4 * count)) is.second q b in omega (arith, o.1, i.0)))

-- ---- in the section

abbrev Stand : List ℕ → List ℕ → Type 0
Stand section places = Each (λ p. p + 4 ≤ length section) places × EachPair (λ p q. p + 4 ≤ q) places

slots_stand_as : (section : List ℕ) (o : Option (List ℕ)) → slots_in section ≡ o → Stand section (slots_or_none o)
slots_stand_as section None e = (tt, tt)
slots_stand_as section (Some places) e =
    let is = slots_found section places e in
    subst (Stand section) (sym is.2) (
      each_of (λ p. p + 4 ≤ length section) (slot_places 0 is.0) (λ p there. (let o = row_within is.0 section 0 is.1 p there in omega (arith, o.1))),
      row_apart is.0 section 0 is.1,
    )

pub slots_stand : (offsets : List ℕ) → Each (λ place. place + 4 ≤ length offsets) (known_slots offsets) × EachPair (λ place other. place + 4 ≤ other) (known_slots offsets)
slots_stand offsets = slots_stand_as offsets (slots_in offsets) refl
