-- How long the supplementary file is: the checksum has 32 bytes, whatever it is over.
use Rattle.std.proofs.Common.{◌≡◌, ℕ, zero, suc, ◌+◌, ◌*◌, ◌<◌, ◌≤◌, true, List, [], ◌∷◌, ◌++◌, length, replicate, Some, None, unwrap_or, refl, sym, ap, ◌∙◌, arith, append_assoc, length-append, codes}
use Rattle.std.specs.Int.{next_multiple_of, to_be_bytes, w32}
use Rattle.std.proofs.lemmas.Grind.{flat_map-append}
use Rattle.std.proofs.lemmas.List.{map-append}
use Rattle.std.specs.Prelude.{slice_index}
use Rattle.sha2.specs.Sha256.{digest_bytes, final_hash, initial_hash_256, sha256}
use Rattle.dwz_model.specs.declared.sections.Sections.{Sections}
use Rattle.dwz_bytes.specs.Spelling.{le_bytes, uleb}
use Rattle.dwz_bytes.proofs.PaddedLemmas.{uleb_small}
use Rattle.dwz_def_reading.specs.ElfLayout.{too_large}
use Rattle.dwz_def_reading.specs.PlainFile.{PlainSection, if_there, plain_contents, plain_headers_at, plain_section, section_names, sections_with, supplementary_sections, text_section_of}
use Rattle.dwz_def_reading.specs.Supplementary.{sup_bytes}
use Rattle.dwz_def_reading.specs.TextRows.{text_section}
use Rattle.dwz_def_reading.proofs.PlainLemmas.{length_number, length_plain}
use Rattle.dwz_def_reading.specs.SupplementaryFile.{common_file, common_sum}
use Rattle.dwz_sup.specs.Common.{common_length, sup_length}

-- ---- the checksum, and the section

word_len : (n : ℕ) → length (to_be_bytes w32 n) ≡ 4
word_len n = refl

digest_len : (hash : List ℕ) (n : ℕ) → length (digest_bytes hash n) ≡ 4 * n
unfolding digest_bytes
digest_len hash zero = refl
digest_len hash (suc n) = omega (arith, length-append (digest_bytes hash n) (to_be_bytes w32 (slice_index hash n)), word_len (slice_index hash n), digest_len hash n)

pub sum_len : (m : List ℕ) → length (sha256 m) ≡ 32
unfolding sha256
sum_len m = digest_len (final_hash initial_hash_256 m) 8

sup_len : (sum : List ℕ) → length sum ≡ 32 → length (sup_bytes (record { supplementary = true; name = []; sum = sum })) ≡ sup_length
unfolding sup_bytes
sup_len sum is =
    let small : uleb (length sum) ≡ length sum ∷ [] = uleb_small (length sum) (omega (arith, is)) in
    let rest = uleb (length sum) ++ sum in
    omega (arith, is, ap length small, length-append (uleb (length sum)) sum, length-append (le_bytes 2 5) (1 ∷ 0 ∷ rest), length_number 2 5)

-- ---- the file

-- all sections but the last
abbrev front_of : Sections → List PlainSection
front_of s =
    plain_section (codes ".debug_info") s.info
    ∷ plain_section (codes ".debug_abbrev") s.abbrev
    ∷ (if_there text_section_of s.strs
    ++ (if_there (plain_section (codes ".debug_str_offsets")) s.offsets
    ++ (if_there (plain_section (codes ".debug_line")) s.line
    ++ (if_there (plain_section (codes ".debug_loclists")) s.loclists
    ++ if_there (plain_section (codes ".debug_aranges")) s.aranges))))

last_behind : (s : Sections) (sup : List ℕ) → sections_with s sup ≡ front_of s ++ plain_section (codes ".debug_sup") sup ∷ []
last_behind s sup = simp append_assoc

-- one content for another of its length changes no place
module _ (front : List PlainSection) (name a b : List ℕ) (same : length a ≡ length b) where
  contents_len : length (plain_contents (front ++ plain_section name a ∷ [])) ≡ length (plain_contents (front ++ plain_section name b ∷ []))
  contents_len =
      omega (
        arith,
        same,
        ap length (flat_map-append (λ (s : PlainSection). s.bytes) front (plain_section name a ∷ [])),
        ap length (flat_map-append (λ (s : PlainSection). s.bytes) front (plain_section name b ∷ [])),
        length-append (plain_contents front) (a ++ []),
        length-append (plain_contents front) (b ++ []),
        length-append a [],
        length-append b [],
      )

  same_names : section_names (front ++ plain_section name a ∷ []) ≡ section_names (front ++ plain_section name b ∷ [])
  same_names =
      ap text_section (map-append (λ (s : PlainSection). s.name) front (plain_section name a ∷ []))
      ∙ ap text_section (sym (map-append (λ (s : PlainSection). s.name) front (plain_section name b ∷ [])))

  same_length : length (front ++ plain_section name a ∷ []) ≡ length (front ++ plain_section name b ∷ [])
  same_length = length-append front (plain_section name a ∷ []) ∙ sym (length-append front (plain_section name b ∷ []))

  pub same_end : plain_headers_at (front ++ plain_section name a ∷ []) + 64 * (length (front ++ plain_section name a ∷ []) + 2)
      ≡ plain_headers_at (front ++ plain_section name b ∷ []) + 64 * (length (front ++ plain_section name b ∷ []) + 2)
  same_end = (λ j. next_multiple_of (64 + contents_len j + length (0 ∷ (same_names j ++ (codes ".shstrtab" ++ 0 ∷ [])))) 8 + 64 * (same_length j + 2))

pub length_common : (machine flags : ℕ) (s : Sections) → length (common_file machine flags s) ≡ common_length s
length_common machine flags s =
    let sup = sup_bytes (record { supplementary = true; name = []; sum = common_sum s }) in
    let zeros = replicate {A = ℕ} sup_length 0 in
    let E : List PlainSection → ℕ = λ sections. plain_headers_at sections + 64 * (length sections + 2) in
    length_plain machine flags (supplementary_sections s (common_sum s))
    ∙ ap E (last_behind s sup)
    ∙ same_end (front_of s) (codes ".debug_sup") sup zeros (sup_len (common_sum s) (sum_len (s.info ++ unwrap_or s.strs [] ++ s.abbrev)))
    ∙ ap E (sym (last_behind s zeros))

-- a file of few bytes isn't too large
pub small_file : (machine flags : ℕ) (x y z : List ℕ) → length x ≤ 8 → length y ≤ 8 → length z ≤ 8
    → length (common_file machine flags (record { info = x; «abbrev» = y; strs = Some z; offsets = None; line = None; loclists = None; aranges = None })) < too_large
small_file machine flags x y z first second third =
    let len = length_common machine flags (record { info = x; «abbrev» = y; strs = Some z; offsets = None; line = None; loclists = None; aranges = None }) in
    let tail = z ++ replicate {A = ℕ} sup_length 0 in
    omega (arith, len, first, second, third, length-append x (y ++ tail), length-append y tail, length-append z (replicate {A = ℕ} sup_length 0))
