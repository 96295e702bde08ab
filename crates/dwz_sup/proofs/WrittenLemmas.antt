-- Parts that are written one behind the other.
use Rattle.std.proofs.Common.{◌≡◌, ℕ, ◌+◌, ◌-◌, ◌*◌, ◌^◌, ◌<◌, ◌≤◌, Bool, List, Option, Some, None, [], ◌∷◌, ◌++◌, length, replicate, ap, ◌∙◌, arith, append_assoc, length-append, codes, unwrap_or}
use Rattle.dwz_model.specs.declared.sections.Sections.{Sections}
use Rattle.dwz_bytes.specs.Spelling.{le_bytes, uleb}
use Rattle.dwz_def_reading.specs.ElfLayout.{numbers, too_large}
use Rattle.dwz_def_reading.specs.PlainFile.{PlainSection, if_there, names_header_bytes, plain_contents, plain_end, plain_file, plain_front, plain_headers, plain_headers_at, plain_names, plain_names_at}
use Rattle.dwz_def_reading.specs.PlainFile.{plain_section, section_fields, section_names, sections_with, text_section_of}
use Rattle.dwz_def_reading.specs.Supplementary.{flag_byte, sup_bytes}
use Rattle.dwz_def_reading.proofs.PlainLemmas.{length_plain}

-- ---- the file

-- what a file that isn't too large says of its parts
pub record Fits (sections : List PlainSection) : Type 0 where
  pub contents : length (plain_contents sections) < 2 ^ 32
  pub names : length (section_names sections) < 2 ^ 32
  pub end : plain_end sections < 2 ^ 32
  pub headers : plain_headers_at sections + 64 * (length sections + 2) < 2 ^ 32

pub fits : (machine flags : ℕ) (sections : List PlainSection) → length (plain_file machine flags sections) < too_large → Fits sections
fits machine flags sections small =
    let len = length_plain machine flags sections in
    let names = length-append (section_names sections) (codes ".shstrtab" ++ 0 ∷ []) in
    record {
      contents = omega (arith, len, small);
      names = omega (arith, len, small, names);
      end = omega (arith, len, small);
      headers = omega (arith, len, small);
    }

pub name_of_names : (sections : List PlainSection) (names : List ℕ) → names ≡ plain_names sections → length names - 9 - 1 ≡ 1 + length (section_names sections)
name_of_names sections names is = omega (arith, ap length is, length-append (section_names sections) (codes ".shstrtab" ++ 0 ∷ []))

-- the numbers that are written are those of the layout
pub record AsPlain (sections : List PlainSection) (at n zeros first last len : ℕ) (bytes : List ℕ) : Type 0 where
  pub headers_at : at ≡ plain_headers_at sections
  pub count : n ≡ length sections + 2
  pub gap : zeros ≡ plain_headers_at sections + 64 - plain_end sections
  pub name : first ≡ 1 + length (section_names sections)
  pub names_at : last ≡ plain_names_at sections
  pub size : len ≡ length (plain_names sections)
  pub names : bytes ≡ plain_names sections

module _ (machine flags : ℕ) (sections : List PlainSection) (at count gap name names_at size : ℕ) (names : List ℕ) (is : AsPlain sections at count gap name names_at size names) where
  pub file_written : (none a b c d e f : List ℕ) → none ≡ []
      → a ≡ none ++ plain_front machine flags at count → b ≡ a ++ plain_contents sections → c ≡ b ++ names → d ≡ c ++ replicate gap 0
      → e ≡ d ++ plain_headers 1 64 sections → f ≡ e ++ numbers (section_fields name 3 0 names_at size 0)
      → f ≡ plain_file machine flags sections
  unfolding plain_file
  file_written none a b c d e f is_none first second third fourth fifth sixth =
      let front = plain_front machine flags (plain_headers_at sections) (length sections + 2) in
      let contents = plain_contents sections in
      let all_names = plain_names sections in
      let zeros = replicate {A = ℕ} (plain_headers_at sections + 64 - plain_end sections) 0 in
      let headers = plain_headers 1 64 sections in
      let last = names_header_bytes sections in
      let to_a : a ≡ front = first ∙ (λ j. is_none j ++ plain_front machine flags (is.headers_at j) (is.count j)) in
      let to_c : c ≡ (front ++ contents) ++ all_names = third ∙ (λ j. (second ∙ ap (λ (w : List ℕ). w ++ contents) to_a) j ++ is.names j) in
      let to_d : d ≡ ((front ++ contents) ++ all_names) ++ zeros = fourth ∙ (λ j. to_c j ++ replicate {A = ℕ} (is.gap j) 0) in
      let header : numbers (section_fields name 3 0 names_at size 0) ≡ last = (λ j. numbers (section_fields (is.name j) 3 0 (is.names_at j) (is.size j) 0)) in
      let to_f : f ≡ ((((front ++ contents) ++ all_names) ++ zeros) ++ headers) ++ last = sixth ∙ (λ j. (fifth ∙ ap (λ (w : List ℕ). w ++ headers) to_d) j ++ header j) in
      to_f ∙ six front contents all_names zeros headers last
    where
      six : (p q r s t u : List ℕ) → ((((p ++ q) ++ r) ++ s) ++ t) ++ u ≡ p ++ (q ++ (r ++ (s ++ (t ++ u))))
      six p q r s t u = simp append_assoc

pub three_parts : (p q r out a b new : List ℕ) → a ≡ out ++ p → b ≡ a ++ q → new ≡ b ++ r → new ≡ out ++ (p ++ (q ++ r))
three_parts p q r out a b new first second third =
    third ∙ ap (λ (w : List ℕ). w ++ r) (second ∙ ap (λ (w : List ℕ). w ++ q) first) ∙ four out p q r
  where
    four : (o x y z : List ℕ) → ((o ++ x) ++ y) ++ z ≡ o ++ (x ++ (y ++ z))
    four o x y z = simp append_assoc

-- ---- the supplementary file

texts_within : (o : Option (List ℕ)) (rest : List PlainSection) → length (unwrap_or o []) ≤ length (plain_contents (if_there text_section_of o ++ rest))
texts_within None rest = omega arith
texts_within (Some texts) rest = omega (arith, length-append texts (plain_contents rest))

-- the parts of the checksum are parts of the file
pub summed : (s : Sections) (sup : List ℕ) → length (plain_contents (sections_with s sup)) < 2 ^ 32 → length s.info + length (unwrap_or s.strs []) + length s.abbrev < 2 ^ 61
summed s sup small =
    let rest = if_there (plain_section (codes ".debug_str_offsets")) s.offsets
    ++ (if_there (plain_section (codes ".debug_line")) s.line
    ++ (if_there (plain_section (codes ".debug_loclists")) s.loclists
    ++ (if_there (plain_section (codes ".debug_aranges")) s.aranges
    ++ plain_section (codes ".debug_sup") sup ∷ []))) in
    let tail = plain_contents (if_there text_section_of s.strs ++ rest) in
    let first = length-append s.info (s.abbrev ++ tail) in
    let second = length-append s.abbrev tail in
    omega (arith, small, first, second, texts_within s.strs rest)

-- ---- the section

pub sup_joined : (supplementary : Bool) (name sum : List ℕ) (flag n : ℕ) (none a b c d e f : List ℕ) → none ≡ [] → flag ≡ flag_byte supplementary → n ≡ length sum
    → a ≡ none ++ le_bytes 2 5 → b ≡ a ++ flag ∷ [] → c ≡ b ++ name → d ≡ c ++ 0 ∷ [] → e ≡ d ++ uleb n → f ≡ e ++ sum
    → f ≡ sup_bytes (record { supplementary = supplementary; name = name; sum = sum })
unfolding sup_bytes
sup_joined supplementary name sum flag n none a b c d e f is_none is_flag is_n first second third fourth fifth sixth =
    let version = le_bytes 2 5 in
    let to_a : a ≡ version = first ∙ ap (λ (w : List ℕ). w ++ version) is_none in
    let to_b : b ≡ version ++ flag_byte supplementary ∷ [] = second ∙ (λ j. to_a j ++ is_flag j ∷ []) in
    let to_d : d ≡ ((version ++ flag_byte supplementary ∷ []) ++ name) ++ 0 ∷ [] = fourth ∙ ap (λ (w : List ℕ). w ++ 0 ∷ []) (third ∙ ap (λ (w : List ℕ). w ++ name) to_b) in
    let to_e : e ≡ (((version ++ flag_byte supplementary ∷ []) ++ name) ++ 0 ∷ []) ++ uleb (length sum) = fifth ∙ (λ j. to_d j ++ uleb (is_n j)) in
    sixth ∙ ap (λ (w : List ℕ). w ++ sum) to_e ∙ six version (flag_byte supplementary ∷ []) name (0 ∷ []) (uleb (length sum)) sum
  where
    six : (p q r s t u : List ℕ) → ((((p ++ q) ++ r) ++ s) ++ t) ++ u ≡ p ++ (q ++ (r ++ (s ++ (t ++ u))))
    six p q r s t u = simp append_assoc
