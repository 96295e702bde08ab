-- How long the common file is: what its sections add, each by itself.
use Rattle.std.proofs.Common.{◌≡◌, ℕ, ◌+◌, ◌*◌, ◌^◌, ◌<◌, List, [], ◌∷◌, ◌++◌, length, replicate, Option, Some, None, unwrap_or, refl, sym, ap, ◌∙◌, arith, codes, length-append}
use Rattle.std.specs.Int.{next_multiple_of}
use Rattle.dwz_model.specs.declared.sections.Sections.{Sections}
use Rattle.dwz_def_reading.specs.ElfLayout.{too_large}
use Rattle.dwz_def_reading.specs.PlainFile.{PlainSection, if_there, plain_contents, plain_section, section_names, sections_with, text_section_of}
use Rattle.dwz_sup.specs.Common.{common_length, sup_length}
use Rattle.dwz_sup.proofs.WrittenLemmas.{summed}
use Rattle.dwz_run_output.specs.Common.{room_of}

-- what sections add together: their contents, their names with zero bytes, and section headers
weight : List PlainSection → ℕ
weight sections = length (plain_contents sections) + length (section_names sections) + 64 * length sections

no_weight : weight [] ≡ 0
unfolding weight
no_weight = omega arith

one_more : (s : PlainSection) (rest : List PlainSection) → weight (s ∷ rest) ≡ length s.bytes + length s.name + 65 + weight rest
unfolding weight
one_more s rest =
    omega (
      arith,
      length-append s.bytes (plain_contents rest),
      length-append (s.name ++ 0 ∷ []) (section_names rest),
      length-append s.name (0 ∷ []),
    )

maybe_more : (name : List ℕ) (o : Option (List ℕ)) (rest : List PlainSection) → weight (if_there (plain_section name) o ++ rest) ≡ room_of name o + weight rest
maybe_more name None rest = omega arith
maybe_more name (Some bytes) rest = one_more (plain_section name bytes) rest

maybe_texts : (o : Option (List ℕ)) (rest : List PlainSection) → weight (if_there text_section_of o ++ rest) ≡ room_of (codes ".debug_str") o + weight rest
maybe_texts None rest = omega arith
maybe_texts (Some bytes) rest = one_more (text_section_of bytes) rest

-- the lengths that the sections of the common file add
pub record AreRooms (s : Sections) (info abbrevs strs offsets line lists ranges sup : ℕ) : Type 0 where
  pub info_is : info ≡ length s.info + 11 + 65
  pub abbrevs_is : abbrevs ≡ length s.abbrev + 13 + 65
  pub strs_is : strs ≡ room_of (codes ".debug_str") s.strs
  pub offsets_is : offsets ≡ room_of (codes ".debug_str_offsets") s.offsets
  pub line_is : line ≡ room_of (codes ".debug_line") s.line
  pub lists_is : lists ≡ room_of (codes ".debug_loclists") s.loclists
  pub ranges_is : ranges ≡ room_of (codes ".debug_aranges") s.aranges
  pub sup_is : sup ≡ 37 + 10 + 65

all_weight : (s : Sections) (bytes : List ℕ) (info abbrevs strs offsets line lists ranges sup : ℕ) → length bytes ≡ 37 → AreRooms s info abbrevs strs offsets line lists ranges sup
    → weight (sections_with s bytes) ≡ info + abbrevs + strs + offsets + line + lists + ranges + sup
all_weight s bytes info abbrevs strs offsets line lists ranges sup len are =
    let eight = plain_section (codes ".debug_sup") bytes ∷ [] in
    let seven = if_there (plain_section (codes ".debug_aranges")) s.aranges ++ eight in
    let six = if_there (plain_section (codes ".debug_loclists")) s.loclists ++ seven in
    let five = if_there (plain_section (codes ".debug_line")) s.line ++ six in
    let four = if_there (plain_section (codes ".debug_str_offsets")) s.offsets ++ five in
    let three = if_there text_section_of s.strs ++ four in
    let two = plain_section (codes ".debug_abbrev") s.abbrev ∷ three in
    let first = one_more (plain_section (codes ".debug_info") s.info) two in
    let second = one_more (plain_section (codes ".debug_abbrev") s.abbrev) three in
    let third = maybe_texts s.strs four in
    let fourth = maybe_more (codes ".debug_str_offsets") s.offsets five in
    let fifth = maybe_more (codes ".debug_line") s.line six in
    let sixth = maybe_more (codes ".debug_loclists") s.loclists seven in
    let seventh = maybe_more (codes ".debug_aranges") s.aranges eight in
    let eighth = one_more (plain_section (codes ".debug_sup") bytes) [] in
    let last = no_weight in
    omega (arith, first, second, third, fourth, fifth, sixth, seventh, eighth, last, len)

-- section headers are at a multiple of 8, and add multiples of 8
whole_length : (s : Sections) → common_length s ≡ next_multiple_of (203 + weight (sections_with s (replicate {A = ℕ} sup_length 0))) 8
unfolding weight
whole_length s =
    let sections = sections_with s (replicate {A = ℕ} sup_length 0) in
    let names = length-append (section_names sections) (codes ".shstrtab" ++ 0 ∷ []) in
    omega (arith, names)

pub length_is : (s : Sections) (info abbrevs strs offsets line lists ranges sup end len : ℕ) → AreRooms s info abbrevs strs offsets line lists ranges sup
    → end ≡ 203 + info + abbrevs + strs + offsets + line + lists + ranges + sup → len ≡ next_multiple_of end 8 → len ≡ common_length s
length_is s info abbrevs strs offsets line lists ranges sup end len are end_is is =
    let whole = whole_length s in
    let all = all_weight s (replicate {A = ℕ} sup_length 0) info abbrevs strs offsets line lists ranges sup refl are in
    let same : end ≡ 203 + weight (sections_with s (replicate {A = ℕ} sup_length 0)) = omega (arith, end_is, all) in
    is ∙ (ap (λ (n : ℕ). next_multiple_of n 8) same ∙ sym whole)

-- where the file isn't too large its checksum can be had
pub can_sum : (s : Sections) → common_length s < too_large → length s.info + length (unwrap_or s.strs []) + length s.abbrev < 2 ^ 61
can_sum s small =
    let sections = sections_with s (replicate {A = ℕ} sup_length 0) in
    let few : length (plain_contents sections) < 2 ^ 32 = omega (arith, small) in
    summed s (replicate {A = ℕ} sup_length 0) few
