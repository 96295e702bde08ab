-- Small files that are made from others, by the definitions: what is asked can be met, and what is given to a loaded section
-- without bytes would be lost.
use Rattle.dwz_def_reading.specs.ElfReading.{elf_fault_for, field_fault_for, unkept_fault_for}
use Rattle.std.proofs.Common.{◌≡◌, ◌≢◌, ℕ, zero, suc, ◌+◌, ◌-◌, List, [], ◌∷◌, ◌++◌, length, None, refl, replicate, arith, lit<}
use Rattle.std.specs.Prelude.{Any, codes}
use Rattle.std.specs.Int.{next_multiple_of}
use Rattle.std.specs.List.Sorted.{IsSorted}
use Rattle.std.specs.Ordering.{nat_cmp, ordering_then}
use Rattle.std.proofs.lemmas.List.Elements.{All-cons, All-nil}
use Rattle.std.proofs.lemmas.List.Sorted.{IsPermutation-refl}
use Rattle.dwz_def_reading.specs.Spelling.{le_bytes}
use Rattle.dwz_def_reading.specs.declared.elf.NewContent.{NewContent}
use Rattle.dwz_def_reading.specs.ElfHeaders.{headers_from, number_at}
use Rattle.dwz_def_reading.specs.ElfLayout.{Changes, align_at, content_at, inside_fault, keep_end, layout_fault, moving, new_headers, placed_from, rebuilt, rebuilt_length, spread, sup_header}
use Rattle.dwz_def_reading.specs.ElfNames.{section_name_in, sections_in}
use Rattle.dwz_def_reading.specs.ElfReading.{elf_fault, elf_of, field_fault, first_in, first_other, header_fault, identification_fault, missing_fault, names_fault, section_range, unkept_fault}
use Rattle.dwz_def_output.specs.Rebuilt.{CanBeGiven, CanBeMade, CanChange, new_file}
use Rattle.dwz_def_reading.specs.Files.{section_of}

-- ---- files of four sections and their five headers: `.debug_info`, `.debug_abbrev` and `.debug_str` from byte 64 on, and the names

abbrev zeros : ℕ → List ℕ
zeros n = replicate n 0

abbrev names : List ℕ
names = 0 ∷ codes ".debug_info" ++ 0 ∷ codes ".debug_abbrev" ++ 0 ∷ codes ".debug_str" ++ 0 ∷ codes ".shstrtab" ++ 0 ∷ []

section_header : ℕ → ℕ → ℕ → ℕ → ℕ → List ℕ
unfolding le_bytes
section_header name kind flags offset size =
    le_bytes 4 name ++ le_bytes 4 kind ++ le_bytes 8 flags ++ zeros 8 ++ le_bytes 8 offset ++ le_bytes 8 size ++ zeros 8 ++ le_bytes 8 1 ++ zeros 8

-- the flags and the place of `.debug_str`, and the contents
file_of : ℕ → ℕ → List ℕ → List ℕ → List ℕ → List ℕ
unfolding le_bytes section_header
file_of flags strs_at info abbrevs strs =
    let abbrevs_at = 64 + length info in
    let names_at = abbrevs_at + length abbrevs + length strs in
    let ends = names_at + length names in
    let headers_at = next_multiple_of ends 8 in
    (0x7f ∷ 0x45 ∷ 0x4c ∷ 0x46 ∷ 2 ∷ 1 ∷ 1 ∷ zeros 9)
    ++ (le_bytes 2 3 ++ le_bytes 2 62 ++ le_bytes 4 1 ++ zeros 16 ++ le_bytes 8 headers_at ++ zeros 4)
    ++ (le_bytes 2 64 ++ zeros 4 ++ le_bytes 2 64 ++ le_bytes 2 5 ++ le_bytes 2 4)
    ++ info ++ abbrevs ++ strs ++ names ++ zeros (headers_at - ends)
    ++ zeros 64
    ++ section_header 1 1 0 64 (length info)
    ++ section_header 13 1 0 abbrevs_at (length abbrevs)
    ++ section_header 27 1 flags strs_at (length strs)
    ++ section_header 38 3 0 names_at (length names)

-- no section is loaded
abbrev plain : List ℕ → List ℕ → List ℕ → List ℕ
plain info abbrevs strs = file_of 0 (64 + length info + length abbrevs) info abbrevs strs

abbrev a_file : List ℕ
a_file = plain (1 ∷ 2 ∷ 3 ∷ []) (4 ∷ 5 ∷ []) (6 ∷ 0 ∷ [])

abbrev new_for : ℕ → List ℕ → NewContent
new_for code bytes = record { code = code; bytes = bytes }

abbrev changed : List NewContent → Changes
changed new = record { new = new; sup = None }

-- the sections in order: `.debug_info`, `.debug_abbrev`, `.debug_str`, the names
abbrev in_order : List (ℕ × ℕ)
in_order = (64, 1) ∷ (67, 2) ∷ (69, 3) ∷ (71, 4) ∷ []

-- what is made; whatever unfolds this unfolds all that is read with
made_of : (input : List ℕ) (changes : Changes) (order : List (ℕ × ℕ)) → List ℕ
unfolding elf_of headers_from number_at section_name_in elf_fault_for field_fault_for first_in first_other header_fault identification_fault missing_fault names_fault section_range unkept_fault_for
    section_of align_at
    content_at inside_fault keep_end layout_fault moving new_headers placed_from rebuilt rebuilt_length spread sup_header le_bytes file_of lib.Count.ones
made_of input changes order = new_file input changes order

-- a plain file with new contents is the plain file of these contents
two_longer : made_of a_file (changed (new_for 1 (1 ∷ 2 ∷ 3 ∷ 7 ∷ 8 ∷ []) ∷ new_for 3 (9 ∷ 0 ∷ 9 ∷ 0 ∷ []) ∷ [])) in_order ≡ plain (1 ∷ 2 ∷ 3 ∷ 7 ∷ 8 ∷ []) (4 ∷ 5 ∷ []) (9 ∷ 0 ∷ 9 ∷ 0 ∷ [])
unfolding made_of
two_longer = refl

-- the first content for a code holds; an empty one is one
one_empty : made_of a_file (changed (new_for 2 [] ∷ new_for 2 (4 ∷ []) ∷ [])) in_order ≡ plain (1 ∷ 2 ∷ 3 ∷ []) [] (6 ∷ 0 ∷ [])
unfolding made_of
one_empty = refl

-- ---- all that is asked is met

abbrev new_info : NewContent
new_info = new_for 1 (7 ∷ 8 ∷ [])

first_changes : CanChange (sections_in a_file) (changed (new_info ∷ []))
unfolding made_of
first_changes = record {
  coded = All-cons (λ (n : NewContent). n.code ≢ 0) new_info [] (λ is. absurd cc) (All-nil (λ (n : NewContent). n.code ≢ 0));
  given = All-cons (λ n. Any (CanBeGiven n) (sections_in a_file)) new_info [] (1, _, lit< tt, refl, (refl, refl, λ loaded. absurd cc)) (All-nil (λ n. Any (CanBeGiven n) (sections_in a_file)));
}

ascends : IsSorted (λ a b. ordering_then (nat_cmp a.0 b.0) (nat_cmp a.1 b.1)) in_order
ascends zero d low high = refl
ascends (suc zero) d low high = refl
ascends (suc (suc zero)) d low high = refl
ascends (suc (suc (suc k))) d low high = absurd (omega (arith, high))

first_made : CanBeMade a_file (changed (new_info ∷ [])) in_order
unfolding made_of
first_made = record {
  reads = refl;
  can_change = first_changes;
  fits = refl;
  is_order = record { same = IsPermutation-refl in_order; ascends = ascends };
  small = lit< tt;
}

-- ---- a loaded section without bytes at the end of the kept bytes: it is no layout fault, and isn't written again

abbrev loaded_file : List ℕ
loaded_file = file_of 2 64 (1 ∷ 2 ∷ 3 ∷ []) (4 ∷ 5 ∷ []) []

abbrev new_strs : NewContent
new_strs = new_for 3 (9 ∷ 0 ∷ [])

loaded_reads : elf_fault loaded_file ≡ None
unfolding made_of
loaded_reads = refl

loaded_fits : layout_fault (elf_of loaded_file) (changed (new_strs ∷ [])) ≡ None
unfolding made_of
loaded_fits = refl

what_is_given_is_lost : section_of (made_of loaded_file (changed (new_strs ∷ [])) ((64, 1) ∷ (67, 2) ∷ (69, 4) ∷ [])) 3 ≡ []
unfolding made_of
what_is_given_is_lost = refl
