-- Changes that can be made, one new content after another.
use Rattle.std.proofs.Common.{◌≡◌, ◌≢◌, inl, inr, ℕ, suc, true, false, eqb, List, [], ◌∷◌, Option, Some, None, refl, sym, ap, ◌∙◌}
use Rattle.std.specs.Prelude.{All, Any, slice_get}
use Rattle.std.proofs.lemmas.Bool.{and_parts, eqb-false, eqb-true}
use Rattle.std.proofs.lemmas.List.Elements.{All-cons, All-get_or, All-nil}
use Rattle.std.proofs.lemmas.Option.{get_or_from_slice_get, slice_get_within}
use Rattle.dwz_def_reading.proofs.GroupLemmas.{chosen}
use Rattle.dwz_def_reading.specs.declared.elf.NewContent.{NewContent}
use Rattle.dwz_def_reading.specs.declared.elf.Section.{Section}
use Rattle.dwz_def_reading.specs.ElfHeaders.{is_loaded, is_there}
use Rattle.dwz_def_reading.specs.ElfReading.{has_code, range_in, section_range}
use Rattle.dwz_def_output.specs.Rebuilt.{CanBeGiven, CanChange}

-- the section whose range that is
found_in : (sections : List Section) (code : ℕ) (range : ℕ × ℕ) → range_in sections code ≡ Some range → (k : ℕ) × (s : Section) × (slice_get sections k ≡ Some s) × (has_code code s ≡ true)
    × ((s.header.offset, s.header.size) ≡ range)
found_in [] code range is = absurd cc
found_in (s ∷ sections) code range is =
    elim (chosen (has_code code s) (Some (s.header.offset, s.header.size)) (range_in sections code) (Some range) is) [
      | inl p ↦ let same : (s.header.offset, s.header.size) ≡ range = cc in (0, s, refl, p.0, same)
      | inr p ↦ let rest = found_in sections code range p.1 in (suc rest.0, rest.1, rest.2, rest.3, rest.4)
    ]

range_found : (sections : List Section) (code : ℕ) (range : ℕ × ℕ) → section_range sections code ≡ Some range → (code ≢ 0) × (range_in sections code ≡ Some range)
unfolding section_range
range_found sections code range is =
    elim (chosen (eqb code 0) None (range_in sections code) (Some range) is) [
      | inl p ↦ absurd cc
      | inr p ↦ (eqb-false code 0 p.0, p.1)
    ]

given_if : (sections : List Section) (n : NewContent) (range : ℕ × ℕ) → section_range sections n.code ≡ Some range
    → ((s : Section) (k : ℕ) → slice_get sections k ≡ Some s → s.header.size ≡ range.1 → is_loaded s.header ≡ true → s.header.size ≡ 0 → n.bytes ≡ []) → Any (CanBeGiven n) sections
given_if sections n range is empty =
    let found = found_in sections n.code range (range_found sections n.code range is).1 in
    let s = found.1 in
    let parts = and_parts (is_there s.header) (eqb s.name.code n.code) found.3 in
    let size : s.header.size ≡ range.1 = ap (λ (r : ℕ × ℕ). r.1) found.4 in
    (found.0, s, slice_get_within sections found.0 s found.2, get_or_from_slice_get sections found.0 s s found.2, (parts.0, eqb-true s.name.code n.code parts.1, empty s found.0 found.2 size))

-- a new content can be given to a section that is there and has bytes, or where it is empty too
pub given_by_size : (sections : List Section) (n : NewContent) (range : ℕ × ℕ) → section_range sections n.code ≡ Some range → (range.1 ≡ 0 → n.bytes ≡ []) → Any (CanBeGiven n) sections
given_by_size sections n range is empty = given_if sections n range is (λ s k at_k same loaded none. empty (sym same ∙ none))

-- and to each section that is there, where none is loaded
pub given_unloaded : (sections : List Section) (n : NewContent) (range : ℕ × ℕ) → section_range sections n.code ≡ Some range → All (λ s. is_loaded s.header ≡ false) sections
    → Any (CanBeGiven n) sections
given_unloaded sections n range is unloaded =
    given_if sections n range is (λ s k at_k same loaded none.
    let there = All-get_or (λ (t : Section). is_loaded t.header ≡ false) sections k s (slice_get_within sections k s at_k) unloaded in
    let not_so : is_loaded s.header ≡ false = ap (λ (t : Section). is_loaded t.header) (sym (get_or_from_slice_get sections k s s at_k)) ∙ there in
    absurd cc)

-- no changes, and one more
pub no_change : (sections : List Section) (sup : Option (List ℕ)) → CanChange sections (record { new = []; sup = sup })
no_change sections sup = record {
  coded = All-nil (λ (n : NewContent). n.code ≢ 0);
  given = All-nil (λ n. Any (CanBeGiven n) sections);
}

pub one_more_change : (sections : List Section) (new : List NewContent) (sup : Option (List ℕ)) (n : NewContent) (range : ℕ × ℕ) → CanChange sections (record { new = new; sup = sup })
    → section_range sections n.code ≡ Some range → Any (CanBeGiven n) sections → CanChange sections (record { new = n ∷ new; sup = sup })
one_more_change sections new sup n range can is given = record {
  coded = All-cons (λ (m : NewContent). m.code ≢ 0) n new (range_found sections n.code range is).0 can.coded;
  given = All-cons (λ m. Any (CanBeGiven m) sections) n new given can.given;
}
