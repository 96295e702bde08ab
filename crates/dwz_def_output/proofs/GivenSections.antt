-- New sections can be given to a file that reads: those with bytes are there, and one that isn't has no other bytes.
use Rattle.std.proofs.Common.{◌≡◌, ℕ, ◌<◌, Bool, true, false, cond, List, [], ◌∷◌, ◌++◌, length, take, drop, Option, Some, None, unwrap_or, refl, sym, ap, ◌∙◌, arith}
use Rattle.std.proofs.lemmas.List.{length-append, length-take}
use Rattle.dwz_def_reading.proofs.PaddedLemmas.{some_groups}
use Rattle.dwz_def_reading.specs.Abbrevs.{Declaration, EndsTable, IsDeclared}
use Rattle.dwz_def_reading.specs.ElfNames.{sections_in}
use Rattle.dwz_def_reading.specs.ElfReading.{bytes_in, section_range}
use Rattle.dwz_def_reading.specs.Entries.{Mode}
use Rattle.dwz_def_reading.specs.Items.{SpellsItems}
use Rattle.dwz_def_reading.specs.Units.{RawUnit, SpellsUnits}
use Rattle.dwz_def_reading.proofs.UnitListLemmas.{some_unit}
use Rattle.dwz_def_reading.specs.Files.{section_of}
use Rattle.dwz_def_tops.specs.Spots.{same_numbers}
use Rattle.dwz_def_tops.proofs.SpotLemmas.{numbers_same, numbers_true}
use Rattle.dwz_def_output.specs.Changed.{CanGive}
use Rattle.dwz_def_output.specs.Contents.{if_other}

-- ---- where there are units, both sections have bytes

some_table : (table earlier : List Declaration) (bytes : List ℕ) → SpellsItems IsDeclared EndsTable earlier table bytes → 0 < length bytes
some_table [] earlier bytes is = some_groups bytes is.groups
some_table (d ∷ table) earlier bytes is =
    let some = some_table table (earlier ++ d ∷ []) is.back is.second in
    omega (arith, some, ap length is.parts, length-append is.front is.back)

pub some_bytes : (abbrevs : List ℕ) (mode : Mode) (u : RawUnit) (raw : List RawUnit) (info : List ℕ) → SpellsUnits abbrevs mode 0 (u ∷ raw) 0 info → (0 < length info) × (0 < length abbrevs)
some_bytes abbrevs mode u raw info is =
    let unit = is.first in
    let at = unit.is_context.stands in
    let first = some_unit abbrevs mode 0 u 0 is.first_bytes unit in
    let table = some_table unit.context.table [] at.front at.spelled in (
      omega (arith, first, ap length is.parts, length-append is.first_bytes is.second_bytes),
      omega (arith, table, ap length at.parts, length-append at.before (at.front ++ at.after), length-append at.front at.after),
    )

-- ---- what can be given

-- a section with bytes can get others
pub can_give : (input : List ℕ) (code : ℕ) (bytes : List ℕ) → 0 < length (section_of input code) → CanGive input code (Some bytes)
unfolding section_of
can_give input code bytes some = by (section_range (sections_in input) code) refl where
  by : (o : Option (ℕ × ℕ)) → section_range (sections_in input) code ≡ o → CanGive input code (Some bytes)
  by None e =
      let none : length (bytes_in input (section_range (sections_in input) code)) ≡ 0 = ap (λ (o : Option (ℕ × ℕ)). length (bytes_in input o)) e in
      absurd (omega (arith, some, none))
  by (Some range) e = (
    range,
    e,
    λ zero.
        let size : length (bytes_in input (section_range (sections_in input) code)) ≡ length (take range.1 (drop range.0 input)) = ap (λ (o : Option (ℕ × ℕ)). length (bytes_in input o)) e in
        absurd (omega (arith, some, size, zero, length-take range.1 (drop range.0 input))),
  )

no_bytes : (bytes : List ℕ) → length bytes ≡ 0 → bytes ≡ []
no_bytes [] e = refl
no_bytes (b ∷ bytes) e = absurd (omega (arith, e))

-- as where they are as many
pub none_if_none : (old new : List ℕ) → length new ≡ length old → old ≡ [] → new ≡ []
none_if_none old new len none = no_bytes new (len ∙ ap length none)

-- other bytes can be given, where there are none if there were none
pub can_give_other : (input : List ℕ) (code : ℕ) (new : List ℕ) → (section_of input code ≡ [] → new ≡ []) → CanGive input code (if_other (section_of input code) new)
can_give_other input code new empty = by (same_numbers (section_of input code) new) refl where
  some : same_numbers (section_of input code) new ≡ false → 0 < length (section_of input code)
  some e = filled (section_of input code) empty e where
    filled : (old : List ℕ) → (old ≡ [] → new ≡ []) → same_numbers old new ≡ false → 0 < length old
    filled [] nothing no_same =
        let yes : same_numbers [] new ≡ true = ap (same_numbers []) (nothing refl) ∙ numbers_same [] in
        absurd (let z : true ≡ false = sym yes ∙ no_same in cc)
    filled (b ∷ old) nothing no_same = omega arith

  by : (t : Bool) → same_numbers (section_of input code) new ≡ t → CanGive input code (cond t None (Some new))
  by true e = tt
  by false e = can_give input code new (some e)

-- and they are what the section then holds
pub other_is : (old new : List ℕ) → unwrap_or (if_other old new) old ≡ new
other_is old new = by (same_numbers old new) refl where
  by : (t : Bool) → same_numbers old new ≡ t → unwrap_or (cond t None (Some new)) old ≡ new
  by true e = numbers_true old new e
  by false e = refl
