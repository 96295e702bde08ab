-- The section headers of the new file, and what they are read as.
use Rattle.std.proofs.Common.{◌≡◌, ◌⊎◌, inl, inr, ℕ, zero, suc, ◌+◌, ◌-◌, ◌*◌, ◌^◌, ◌<◌, ◌≤◌, List, [], ◌∷◌, ◌++◌, length, map, take, drop, get_or, Option, Some, None, refl, sym, ap, subst, ◌∙◌}
use Rattle.std.proofs.Common.{arith}
use Rattle.std.specs.Prelude.{slice_get}
use Rattle.std.proofs.lemmas.List.{get_or-append_right, get_or_append_left, length-append, length-drop, length-take}
use Rattle.dwz_def_reading.specs.Spelling.{le_bytes}
use Rattle.dwz_def_reading.specs.declared.elf.Header.{Header}
use Rattle.dwz_def_reading.specs.declared.elf.Moved.{Moved}
use Rattle.dwz_def_reading.specs.declared.elf.Name.{Name}
use Rattle.dwz_def_reading.specs.declared.elf.Section.{Section}
use Rattle.dwz_def_reading.specs.ElfHeaders.{header_at, headers_from, number_at}
use Rattle.dwz_def_reading.specs.ElfLayout.{moved_header, moved_in, new_headers}
use Rattle.dwz_def_reading.specs.ElfNames.{known_name, name_at, section_named}
use Rattle.dwz_def_reading.proofs.PlainLemmas.{length_number}
use Rattle.dwz_def_output.proofs.PieceLemmas.{Has, has_number, has_over, has_taken, length_over, number_written, over_other, same_number}

-- ---- the sections by index

pub length-headers : (bytes : List ℕ) (at n : ℕ) → length (headers_from bytes at n) ≡ n
unfolding headers_from
length-headers bytes at zero = refl
length-headers bytes at (suc n) = ap suc (length-headers bytes (at + 64) n)

pub length-sections : (f : Header → Section) (bytes : List ℕ) (at n : ℕ) → length (map f (headers_from bytes at n)) ≡ n
unfolding headers_from
length-sections f bytes at zero = refl
length-sections f bytes at (suc n) = ap suc (length-sections f bytes (at + 64) n)

pub section_at : (f : Header → Section) (bytes : List ℕ) (at n k : ℕ) → k < n → slice_get (map f (headers_from bytes at n)) k ≡ Some (f (header_at bytes (at + 64 * k)))
unfolding headers_from
section_at f bytes at zero k less = absurd (omega (arith, less))
section_at f bytes at (suc n) zero less = let place : at ≡ at + 64 * 0 = omega arith in ap (λ p. Some (f (header_at bytes p))) place
section_at f bytes at (suc n) (suc k) less =
    let place : at + 64 + 64 * k ≡ at + 64 * suc k = omega arith in
    section_at f bytes (at + 64) n k (omega (arith, less)) ∙ ap (λ p. Some (f (header_at bytes p))) place

-- ---- a section header as it is written

-- the header at a new place, with the new offset and size where the section is written again
abbrev pub moved_to : ℕ → Option Moved → Header → Header
moved_to at None h = record h { at = at }
moved_to at (Some m) h = record h { at = at; offset = m.at; size = m.size }

-- the new offset and size fit
abbrev pub Fit : Option Moved → Type 0
Fit None = Unit {0}
Fit (Some m) = (m.at < 256 ^ 8) × (m.size < 256 ^ 8)

abbrev new_fields : Moved → List ℕ
new_fields m = le_bytes 8 m.at ++ le_bytes 8 m.size

length_fields : (m : Moved) → length (new_fields m) ≡ 16
length_fields m = omega (arith, length-append (le_bytes 8 m.at) (le_bytes 8 m.size), length_number 8 m.at, length_number 8 m.size)

pub length_header : (old : List ℕ) (o : Option Moved) → length old ≡ 64 → length (moved_header old o) ≡ 64
length_header old None is = is
length_header old (Some m) is = length_over 24 (new_fields m) old (omega (arith, length_fields m, is)) ∙ is

field_kept : (old : List ℕ) (o : Option Moved) (k w : ℕ) → length old ≡ 64 → k + w ≤ 64 → (k + w ≤ 24) ⊎ (40 ≤ k) → number_at (moved_header old o) k w ≡ number_at old k w
field_kept old None k w is within beside = refl
field_kept old (Some m) k w is within beside =
    let fields = length_fields m in
    same_number (moved_header old (Some m)) old k k w (omega (arith, length_header old (Some m) is, within)) (omega (arith, is, within))
    (λ i less.
    let place : (k + i < 24) ⊎ (24 + length (new_fields m) ≤ k + i) = elim beside [ inl h ↦ inl (omega (arith, h, less)) | inr h ↦ inr (omega (arith, h, fields)) ] in
    over_other 24 (new_fields m) old (k + i) (omega (arith, fields, is)) place)

field_moved : (old : List ℕ) (m : Moved) → length old ≡ 64 → Fit (Some m) → (number_at (moved_header old (Some m)) 24 8 ≡ m.at) × (number_at (moved_header old (Some m)) 32 8 ≡ m.size)
field_moved old m is fit =
    let fields = length_fields m in
    let both = has_over 24 (new_fields m) old (omega (arith, fields, is)) in
    let bytes = moved_header old (Some m) in
    let at_len = length_number 8 m.at in
    let size_len = length_number 8 m.size in
    let has_at : Has bytes 24 (le_bytes 8 m.at) = record {
      within = omega (arith, both.within, fields, at_len);
      each = λ i less. both.each i (omega (arith, fields, at_len, less)) ∙ get_or_append_left (le_bytes 8 m.at) (le_bytes 8 m.size) 0 i less;
    } in
    let has_size : Has bytes 32 (le_bytes 8 m.size) = record {
      within = omega (arith, both.within, fields, size_len);
      each = λ i less.
          let place : 32 + i ≡ 24 + (8 + i) = omega arith in
          let inner : 8 + i - 8 ≡ i = omega arith in
          ap (λ k. get_or bytes k 0) place ∙ (both.each (8 + i) (omega (arith, fields, size_len, less))
          ∙ (get_or-append_right (le_bytes 8 m.at) (le_bytes 8 m.size) 8 (8 + i) 0 at_len (omega arith) ∙ ap (λ k. get_or (le_bytes 8 m.size) k 0) inner));
    } in
    (number_written bytes 24 8 m.at fit.0 has_at, number_written bytes 32 8 m.size fit.1 has_size)

-- the header that is read where one is written
pub header_moved : (input out : List ℕ) (at new : ℕ) (o : Option Moved) → at + 64 ≤ length input → Fit o → Has out new (moved_header (take 64 (drop at input)) o)
    → header_at out new ≡ moved_to new o (header_at input at)
header_moved input out at new o within fit has = by o fit has where
  old : List ℕ
  old = take 64 (drop at input)

  len : length old ≡ 64
  len = omega (arith, length-take 64 (drop at input), length-drop at input, within)

  -- a field that stays, and one that is read in the new header
  kept : (p : Option Moved) → Has out new (moved_header old p) → (k w : ℕ) → k + w ≤ 64 → (k + w ≤ 24) ⊎ (40 ≤ k) → number_at out (new + k) w ≡ number_at input (at + k) w
  kept p stands k w in_header beside =
      has_number out (moved_header old p) new k w stands (omega (arith, length_header old p len, in_header))
      ∙ (field_kept old p k w len in_header beside ∙ sym (has_number input old at k w (has_taken input at 64 within) (omega (arith, len, in_header))))

  read : (p : Option Moved) → Has out new (moved_header old p) → (k w : ℕ) → k + w ≤ 64 → number_at out (new + k) w ≡ number_at (moved_header old p) k w
  read p stands k w in_header = has_number out (moved_header old p) new k w stands (omega (arith, length_header old p len, in_header))

  name : (p : Option Moved) → Has out new (moved_header old p) → number_at out new 4 ≡ number_at input at 4
  name p stands =
      let first : new ≡ new + 0 = omega arith in
      let second : at + 0 ≡ at = omega arith in
      ap (λ k. number_at out k 4) first ∙ (kept p stands 0 4 (omega arith) (inl (omega arith)) ∙ ap (λ k. number_at input k 4) second)

  by : (p : Option Moved) → Fit p → Has out new (moved_header old p) → header_at out new ≡ moved_to new p (header_at input at)
  by None fits stands =
      let of_name = name None stands in
      let of_kind = kept None stands 4 4 (omega arith) (inl (omega arith)) in
      let of_flags = kept None stands 8 8 (omega arith) (inl (omega arith)) in
      let of_offset = read None stands 24 8 (omega arith) ∙ sym (has_number input old at 24 8 (has_taken input at 64 within) (omega (arith, len))) in
      let of_size = read None stands 32 8 (omega arith) ∙ sym (has_number input old at 32 8 (has_taken input at 64 within) (omega (arith, len))) in
      let of_info = kept None stands 44 4 (omega arith) (inr (omega arith)) in
      let of_align = kept None stands 48 8 (omega arith) (inr (omega arith)) in
      cc
  by (Some m) fits stands =
      let moved = field_moved old m len fits in
      let of_name = name (Some m) stands in
      let of_kind = kept (Some m) stands 4 4 (omega arith) (inl (omega arith)) in
      let of_flags = kept (Some m) stands 8 8 (omega arith) (inl (omega arith)) in
      let of_offset = read (Some m) stands 24 8 (omega arith) ∙ moved.0 in
      let of_size = read (Some m) stands 32 8 (omega arith) ∙ moved.1 in
      let of_info = kept (Some m) stands 44 4 (omega arith) (inr (omega arith)) in
      let of_align = kept (Some m) stands 48 8 (omega arith) (inr (omega arith)) in
      cc

-- ---- the section headers, one after another

-- each header of the sections is whole
abbrev pub AreWhole : List ℕ → List Section → Type 0
AreWhole input xs = (k : ℕ) (s : Section) → slice_get xs k ≡ Some s → s.header.at + 64 ≤ length input

length_one : (input : List ℕ) (s : Section) (o : Option Moved) → s.header.at + 64 ≤ length input → length (moved_header (take 64 (drop s.header.at input)) o) ≡ 64
length_one input s o within = length_header (take 64 (drop s.header.at input)) o (omega (arith, length-take 64 (drop s.header.at input), length-drop s.header.at input, within))

pub length-new_headers : (input : List ℕ) (placed : List Moved) (index : ℕ) (xs : List Section) → AreWhole input xs → length (new_headers input placed index xs) ≡ 64 * length xs
unfolding new_headers
length-new_headers input placed index [] whole = refl
length-new_headers input placed index (s ∷ xs) whole =
    let first = length_one input s (moved_in placed index) (whole 0 s refl) in
    let rest = length-new_headers input placed (index + 1) xs (λ k t is. whole (suc k) t is) in
    omega (arith, length-append (moved_header (take 64 (drop s.header.at input)) (moved_in placed index)) (new_headers input placed (index + 1) xs), first, rest)

pub new_header_there : (input : List ℕ) (placed : List Moved) (index : ℕ) (xs : List Section) (k : ℕ) (s : Section) → AreWhole input xs → slice_get xs k ≡ Some s
    → Has (new_headers input placed index xs) (64 * k) (moved_header (take 64 (drop s.header.at input)) (moved_in placed (index + k)))
unfolding new_headers
new_header_there input placed index [] k s whole is = absurd cc
new_header_there input placed index (x ∷ xs) zero s whole is =
    let same : x ≡ s = cc in
    let place : index ≡ index + 0 = omega arith in
    let first = moved_header (take 64 (drop x.header.at input)) (moved_in placed index) in
    let rest = new_headers input placed (index + 1) xs in
    let there : Has (first ++ rest) 0 first =
    record {
      within = omega (arith, length-append first rest);
      each = λ i less. let at : 0 + i ≡ i = omega arith in ap (λ n. get_or (first ++ rest) n 0) at
          ∙ get_or_append_left first rest 0 i less;
    } in
    let is_it : first ≡ moved_header (take 64 (drop s.header.at input)) (moved_in placed (index + 0)) = ap (λ (w : Section). moved_header (take 64 (drop w.header.at input)) (moved_in placed index))
    same ∙ ap (λ n. moved_header (take 64 (drop s.header.at input)) (moved_in placed n)) place in
    subst (λ (w : List ℕ). Has (first ++ rest) 0 w) is_it there
new_header_there input placed index (x ∷ xs) (suc k) s whole is =
    let first = moved_header (take 64 (drop x.header.at input)) (moved_in placed index) in
    let rest = new_headers input placed (index + 1) xs in
    let size : length first ≡ 64 = length_one input x (moved_in placed index) (whole 0 x refl) in
    let there = new_header_there input placed (index + 1) xs k s (λ j t h. whole (suc j) t h) is in
    let place : index + 1 + k ≡ index + suc k = omega arith in
    let piece = moved_header (take 64 (drop s.header.at input)) (moved_in placed (index + 1 + k)) in
    let behind : Has (first ++ rest) (64 * suc k) piece = record {
      within = omega (arith, there.within, length-append first rest, size);
      each = λ i less.
          let at : 64 * suc k + i - 64 ≡ 64 * k + i = omega arith in
          get_or-append_right first rest 64 (64 * suc k + i) 0 size (omega arith) ∙ (ap (λ n. get_or rest n 0) at ∙ there.each i less);
    } in
    subst (λ (n : ℕ). Has (first ++ rest) (64 * suc k) (moved_header (take 64 (drop s.header.at input)) (moved_in placed n))) place behind

-- ---- the sections that are read

-- the sections with their headers at new places, the first of them with that place and index
unfoldable pub moved_sections : List Moved → ℕ → ℕ → List Section → List Section
moved_sections placed at index [] = []
moved_sections placed at index (s ∷ xs) =
    record { header = moved_to at (moved_in placed index) s.header; name = s.name } ∷ moved_sections placed (at + 64) (index + 1) xs

-- a name of one name table stands in another too
abbrev pub SameName : List ℕ → List ℕ → Header → Type 0
SameName table other h = known_name (name_at other h.name) ≡ known_name (name_at table h.name)

section_moved : (other : List ℕ) (at : ℕ) (o : Option Moved) (h : Header) → section_named other (moved_to at o h) ≡ record { header = moved_to at o h; name = known_name (name_at other h.name) }
section_moved other at None h = refl
section_moved other at (Some m) h = refl

-- the headers are read as those of the old file, by another name table in which their names stand too
pub sections_moved : (table other input out : List ℕ) (placed : List Moved) (at new index n : ℕ)
    → ((k : ℕ) → k < n → header_at out (new + 64 * k) ≡ moved_to (new + 64 * k) (moved_in placed (index + k)) (header_at input (at + 64 * k)))
    → ((k : ℕ) → k < n → SameName table other (header_at input (at + 64 * k)))
    → map (section_named other) (headers_from out new n) ≡ moved_sections placed new index (map (section_named table) (headers_from input at n))
unfolding headers_from moved_sections
sections_moved table other input out placed at new index zero each names = refl
sections_moved table other input out placed at new index (suc n) each names =
    let new_place : new + 64 * 0 ≡ new = omega arith in
    let old_place : at + 64 * 0 ≡ at = omega arith in
    let in_list : index + 0 ≡ index = omega arith in
    let first : header_at out new ≡ moved_to new (moved_in placed index) (header_at input at) = rw (new_place, old_place, in_list) at (each 0 (omega arith)) in
    let name : SameName table other (header_at input at) = rw old_place at (names 0 (omega arith)) in
    let rest = sections_moved table other input out placed (at + 64) (new + 64) (index + 1) n
    (λ k less.
    let new_next : new + 64 * suc k ≡ new + 64 + 64 * k = omega arith in
    let old_next : at + 64 * suc k ≡ at + 64 + 64 * k = omega arith in
    let list_next : index + suc k ≡ index + 1 + k = omega arith in
    rw (new_next, old_next, list_next) at (each (suc k) (omega (arith, less))))
    (λ k less.
    let old_next : at + 64 * suc k ≡ at + 64 + 64 * k = omega arith in
    rw old_next at (names (suc k) (omega (arith, less)))) in
    let head : section_named other (header_at out new) ≡ record { header = moved_to new (moved_in placed index) (header_at input at); name = known_name (name_at other (header_at input at).name) } =
    ap (section_named other) first ∙ section_moved other new (moved_in placed index) (header_at input at) in
    let named : section_named other (header_at out new) ≡ record { header = moved_to new (moved_in placed index) (header_at input at); name = known_name (name_at table (header_at input at).name) } =
    head
    ∙ ap (λ (w : Name). record { header = moved_to new (moved_in placed index) (header_at input at); name = w }) name in
    cc

-- one of them
pub moved_at : (placed : List Moved) (at index : ℕ) (xs : List Section) (k : ℕ) (s : Section) → slice_get xs k ≡ Some s
    → slice_get (moved_sections placed at index xs) k ≡ Some (record { header = moved_to (at + 64 * k) (moved_in placed (index + k)) s.header; name = s.name })
unfolding moved_sections
moved_at placed at index [] k s is = absurd cc
moved_at placed at index (x ∷ xs) zero s is =
    let same : x ≡ s = cc in
    let place : at ≡ at + 64 * 0 = omega arith in
    let in_list : index ≡ index + 0 = omega arith in
    ap (λ (w : Section). Some (record { header = moved_to at (moved_in placed index) w.header; name = w.name })) same
    ∙ (ap (λ (n : ℕ). Some (record { header = moved_to n (moved_in placed index) s.header; name = s.name })) place
    ∙ ap (λ (n : ℕ). Some (record { header = moved_to (at + 64 * 0) (moved_in placed n) s.header; name = s.name })) in_list)
moved_at placed at index (x ∷ xs) (suc k) s is =
    let next : at + 64 + 64 * k ≡ at + 64 * suc k = omega arith in
    let list_next : index + 1 + k ≡ index + suc k = omega arith in
    moved_at placed (at + 64) (index + 1) xs k s is
    ∙ (ap (λ (n : ℕ). Some (record { header = moved_to n (moved_in placed (index + 1 + k)) s.header; name = s.name })) next
    ∙ ap (λ (n : ℕ). Some (record { header = moved_to (at + 64 * suc k) (moved_in placed n) s.header; name = s.name })) list_next)

-- one header more
pub headers_last : (bytes : List ℕ) (at n : ℕ) → headers_from bytes at (n + 1) ≡ headers_from bytes at n ++ header_at bytes (at + 64 * n) ∷ []
unfolding headers_from
headers_last bytes at zero = let place : at ≡ at + 64 * 0 = omega arith in ap (λ (p : ℕ). header_at bytes p ∷ []) place
headers_last bytes at (suc n) =
    let place : at + 64 + 64 * n ≡ at + 64 * suc n = omega arith in
    let next : suc n + 1 ≡ suc (n + 1) = omega arith in
    ap (headers_from bytes at) next
    ∙ ap (λ (hs : List Header). header_at bytes at ∷ hs) (headers_last bytes (at + 64) n ∙ ap (λ (p : ℕ). headers_from bytes (at + 64) n ++ header_at bytes p ∷ []) place)
