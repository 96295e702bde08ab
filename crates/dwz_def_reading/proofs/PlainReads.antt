-- A file of the plain layout is read field by field: each number stands where its header says.
use Rattle.std.proofs.Common.{◌≡◌, ℕ, zero, suc, ◌+◌, ◌-◌, ◌*◌, ◌^◌, ◌<◌, List, [], ◌∷◌, ◌++◌, length, map, replicate, take, drop, All, Some, refl, sym, ap, ◌∙◌, arith, append_assoc, append-nil}
use Rattle.std.proofs.Common.{length-append, codes, eqb, false, true, Bool, ◌&&◌, not}
use Rattle.std.proofs.lemmas.Bool.{eqb-false, ne_eqb}
use Rattle.std.specs.List.{list_all}
use Rattle.std.proofs.lemmas.List.{length-replicate, map-append}
use Rattle.dwz_bytes.specs.Spelling.{le_bytes, le_value}
use Rattle.dwz_bytes.proofs.FixedLemmas.{fixed_written}
use Rattle.dwz_def_reading.specs.declared.elf.FileHeader.{FileHeader}
use Rattle.dwz_def_reading.specs.declared.elf.Header.{Header}
use Rattle.dwz_def_reading.specs.declared.elf.Section.{Section}
use Rattle.dwz_def_reading.specs.ElfFaults.{identification}
use Rattle.dwz_def_reading.specs.ElfHeaders.{content, file_header, header_at, headers_from, number_at}
use Rattle.dwz_def_reading.specs.ElfLayout.{numbers}
use Rattle.dwz_def_reading.specs.ElfNames.{known_name, name_at, name_table, names_header, section_name_in, section_named, sections_in}
use Rattle.dwz_def_reading.specs.PlainFile.{PlainSection, file_fields, names_header_bytes, plain_contents, plain_end, plain_file, plain_front, plain_headers, plain_headers_at, plain_names, plain_names_at}
use Rattle.dwz_def_reading.specs.PlainFile.{plain_sections, contents_read, plain_fields, FitsPlain, section_fields, section_names, section_read, sections_read}
use Rattle.dwz_def_reading.specs.Texts.{NoZero}
use Rattle.dwz_def_reading.proofs.OffsetLemmas.{drop-of, take-of}
use Rattle.dwz_def_reading.proofs.PlainLemmas.{headers_behind, length_front, length_header, length_headers, length_number, length_numbers, length_plain, width_of}

-- ---- numbers

numbers-append : (xs ys : List (ℕ × ℕ)) → numbers (xs ++ ys) ≡ numbers xs ++ numbers ys
unfolding numbers
numbers-append [] ys = refl
numbers-append (x ∷ xs) ys = ap (λ (w : List ℕ). le_bytes x.0 x.1 ++ w) (numbers-append xs ys) ∙ sym (append_assoc (le_bytes x.0 x.1) (numbers xs) (numbers ys))

-- what stands behind a front
here : (bytes front piece back : List ℕ) (at size : ℕ) → bytes ≡ front ++ (piece ++ back) → length front ≡ at → length piece ≡ size → take size (drop at bytes) ≡ piece
here bytes front piece back at size is place len =
    ap (λ (w : List ℕ). take size (drop at w)) is ∙ ap (take size) (drop-of at front (piece ++ back) place) ∙ take-of size piece back len

-- a number among others
field : (bytes front back : List ℕ) (before after : List (ℕ × ℕ)) (k n at : ℕ) → bytes ≡ front ++ (numbers (before ++ (k, n) ∷ after) ++ back) → length front + width_of before ≡ at → n < 256 ^ k
    → number_at bytes at k ≡ n
unfolding number_at numbers
field bytes front back before after k n at is place fits =
    let parts : bytes ≡ (front ++ numbers before) ++ (le_bytes k n ++ (numbers after ++ back)) =
    is ∙ ap (λ (w : List ℕ). front ++ (w ++ back)) (numbers-append before ((k, n) ∷ after)) ∙ regroup front (numbers before) (le_bytes k n) (numbers after) back in
    let len : length (front ++ numbers before) ≡ at = length-append front (numbers before) ∙ ap (λ (m : ℕ). length front + m) (length_numbers before) ∙ place in
    ap le_value (here bytes (front ++ numbers before) (le_bytes k n) (numbers after ++ back) at k parts len (length_number k n)) ∙ sym (fixed_written k n fits).value
  where
    regroup : (p q r s t : List ℕ) → p ++ ((q ++ (r ++ s)) ++ t) ≡ (p ++ q) ++ (r ++ (s ++ t))
    regroup p q r s t = simp append_assoc

-- ---- a section header

-- the fields, the alignment among them
abbrev pub all_fields : ℕ → ℕ → ℕ → ℕ → ℕ → ℕ → ℕ → List (ℕ × ℕ)
all_fields name kind flags at size align entry_size =
    (4, name) ∷ (4, kind) ∷ (8, flags) ∷ (8, 0) ∷ (8, at) ∷ (8, size) ∷ (4, 0) ∷ (4, 0) ∷ (8, align) ∷ (8, entry_size) ∷ []

abbrev pub header_of : ℕ → ℕ → ℕ → ℕ → ℕ → ℕ → ℕ → Header
header_of place name kind flags at size align = record { at = place; name = name; kind = kind; flags = flags; offset = at; size = size; info = 0; align = align }

pub header_read : (bytes front back : List ℕ) (place name kind flags at size align entry_size : ℕ)
    → bytes ≡ front ++ (numbers (all_fields name kind flags at size align entry_size) ++ back) → length front ≡ place
    → name < 256 ^ 4 → kind < 256 ^ 4 → flags < 256 ^ 8 → at < 256 ^ 8 → size < 256 ^ 8 → align < 256 ^ 8
    → header_at bytes place ≡ header_of place name kind flags at size align
header_read bytes front back place name kind flags at size align entry_size is len fits_name fits_kind fits_flags fits_at fits_size fits_align =
    let name_is : number_at bytes place 4 ≡ name = field bytes front back [] ((4, kind) ∷ (8, flags) ∷ (8, 0) ∷ (8, at) ∷ (8, size) ∷ (4, 0) ∷ (4, 0) ∷ (8, align) ∷ (8, entry_size) ∷ []) 4 name place
    is (omega (arith, len)) fits_name in
    let kind_is : number_at bytes (place + 4) 4 ≡ kind = field bytes front back ((4, name) ∷ []) ((8, flags) ∷ (8, 0) ∷ (8, at) ∷ (8, size) ∷ (4, 0) ∷ (4, 0) ∷ (8, align) ∷ (8, entry_size) ∷ []) 4
    kind (place + 4) is (omega (arith, len)) fits_kind in
    let flags_is : number_at bytes (place + 8) 8 ≡ flags = field bytes front back ((4, name) ∷ (4, kind) ∷ []) ((8, 0) ∷ (8, at) ∷ (8, size) ∷ (4, 0) ∷ (4, 0) ∷ (8, align) ∷ (8, entry_size) ∷ []) 8
    flags (place + 8) is (omega (arith, len)) fits_flags in
    let at_is : number_at bytes (place + 24) 8 ≡ at = field bytes front back ((4, name) ∷ (4, kind) ∷ (8, flags) ∷ (8, 0) ∷ []) ((8, size) ∷ (4, 0) ∷ (4, 0) ∷ (8, align) ∷ (8, entry_size) ∷ []) 8 at
    (place + 24) is (omega (arith, len)) fits_at in
    let size_is : number_at bytes (place + 32) 8 ≡ size = field bytes front back ((4, name) ∷ (4, kind) ∷ (8, flags) ∷ (8, 0) ∷ (8, at) ∷ []) ((4, 0) ∷ (4, 0) ∷ (8, align) ∷ (8, entry_size) ∷ []) 8
    size (place + 32) is (omega (arith, len)) fits_size in
    let info_is : number_at bytes (place + 44) 4 ≡ 0 = field bytes front back ((4, name) ∷ (4, kind) ∷ (8, flags) ∷ (8, 0) ∷ (8, at) ∷ (8, size) ∷ (4, 0) ∷ []) ((8, align) ∷ (8, entry_size) ∷ []) 4 0
    (place + 44) is (omega (arith, len)) (omega arith) in
    let align_is : number_at bytes (place + 48) 8 ≡ align = field bytes front back ((4, name) ∷ (4, kind) ∷ (8, flags) ∷ (8, 0) ∷ (8, at) ∷ (8, size) ∷ (4, 0) ∷ (4, 0) ∷ []) ((8, entry_size) ∷ []) 8
    align (place + 48) is (omega (arith, len)) fits_align in
    (λ j. record { at = place; name = name_is j; kind = kind_is j; flags = flags_is j; offset = at_is j; size = size_is j; info = info_is j; align = align_is j })

-- ---- the file header

pub header_fields : (bytes back : List ℕ) (machine flags headers_at count : ℕ) → bytes ≡ plain_front machine flags headers_at count ++ back
    → machine < 256 ^ 2 → flags < 256 ^ 4 → headers_at < 256 ^ 8 → count < 256 ^ 2
    → file_header bytes ≡ record {
      kind = 3;
      machine = machine;
      program_headers_at = 0;
      headers_at = headers_at;
      flags = flags;
      program_header_size = 0;
      program_headers = 0;
      header_size = 64;
      headers = count;
      names = count - 1;
    }
header_fields bytes back machine flags headers_at count is fits_machine fits_flags fits_at fits_count =
    let front = identification ++ replicate {A = ℕ} 9 0 in
    let parts : bytes ≡ front ++ (numbers (file_fields machine flags headers_at count) ++ back) =
    is ∙ ap (λ (w : List ℕ). w ++ back) (sym (append_assoc identification (replicate {A = ℕ} 9 0) (numbers (file_fields machine flags headers_at count))))
    ∙ append_assoc front (numbers (file_fields machine flags headers_at count)) back in
    let kind_is : number_at bytes 16 2 ≡ 3 = field bytes front back ([]) ((2, machine) ∷ (4, 1) ∷ (8, 0) ∷ (8, 0) ∷ (8, headers_at) ∷ (4, flags) ∷ (2, 64) ∷ (2, 0) ∷ (2, 0) ∷ (2, 64) ∷ (2, count)
    ∷ (2, count - 1) ∷ []) 2 3 16 parts refl (omega arith) in
    let machine_is : number_at bytes 18 2 ≡ machine = field bytes front back ((2, 3) ∷ []) ((4, 1) ∷ (8, 0) ∷ (8, 0) ∷ (8, headers_at) ∷ (4, flags) ∷ (2, 64) ∷ (2, 0) ∷ (2, 0) ∷ (2, 64) ∷ (2, count)
    ∷ (2, count - 1) ∷ []) 2 machine 18 parts refl fits_machine in
    let program_headers_at_is : number_at bytes 32 8 ≡ 0 = field bytes front back ((2, 3) ∷ (2, machine) ∷ (4, 1) ∷ (8, 0) ∷ [])
    ((8, headers_at) ∷ (4, flags) ∷ (2, 64) ∷ (2, 0) ∷ (2, 0) ∷ (2, 64) ∷ (2, count) ∷ (2, count - 1) ∷ []) 8 0 32 parts refl (omega arith) in
    let headers_at_is : number_at bytes 40 8 ≡ headers_at = field bytes front back ((2, 3) ∷ (2, machine) ∷ (4, 1) ∷ (8, 0) ∷ (8, 0) ∷ [])
    ((4, flags) ∷ (2, 64) ∷ (2, 0) ∷ (2, 0) ∷ (2, 64) ∷ (2, count) ∷ (2, count - 1) ∷ []) 8 headers_at 40 parts refl fits_at in
    let flags_is : number_at bytes 48 4 ≡ flags = field bytes front back ((2, 3) ∷ (2, machine) ∷ (4, 1) ∷ (8, 0) ∷ (8, 0) ∷ (8, headers_at) ∷ [])
    ((2, 64) ∷ (2, 0) ∷ (2, 0) ∷ (2, 64) ∷ (2, count) ∷ (2, count - 1) ∷ []) 4 flags 48 parts refl fits_flags in
    let program_header_size_is : number_at bytes 54 2 ≡ 0 = field bytes front back ((2, 3) ∷ (2, machine) ∷ (4, 1) ∷ (8, 0) ∷ (8, 0) ∷ (8, headers_at) ∷ (4, flags) ∷ (2, 64) ∷ [])
    ((2, 0) ∷ (2, 64) ∷ (2, count) ∷ (2, count - 1) ∷ []) 2 0 54 parts refl (omega arith) in
    let program_headers_is : number_at bytes 56 2 ≡ 0 = field bytes front back ((2, 3) ∷ (2, machine) ∷ (4, 1) ∷ (8, 0) ∷ (8, 0) ∷ (8, headers_at) ∷ (4, flags) ∷ (2, 64) ∷ (2, 0) ∷ [])
    ((2, 64) ∷ (2, count) ∷ (2, count - 1) ∷ []) 2 0 56 parts refl (omega arith) in
    let header_size_is : number_at bytes 58 2 ≡ 64 = field bytes front back ((2, 3) ∷ (2, machine) ∷ (4, 1) ∷ (8, 0) ∷ (8, 0) ∷ (8, headers_at) ∷ (4, flags) ∷ (2, 64) ∷ (2, 0) ∷ (2, 0) ∷ [])
    ((2, count) ∷ (2, count - 1) ∷ []) 2 64 58 parts refl (omega arith) in
    let headers_is : number_at bytes 60 2 ≡ count = field bytes front back ((2, 3) ∷ (2, machine) ∷ (4, 1) ∷ (8, 0) ∷ (8, 0) ∷ (8, headers_at) ∷ (4, flags) ∷ (2, 64) ∷ (2, 0) ∷ (2, 0) ∷ (2, 64) ∷ [])
    ((2, count - 1) ∷ []) 2 count 60 parts refl fits_count in
    let names_is : number_at bytes 62 2 ≡ count - 1 = field bytes front back ((2, 3) ∷ (2, machine) ∷ (4, 1) ∷ (8, 0) ∷ (8, 0) ∷ (8, headers_at) ∷ (4, flags) ∷ (2, 64) ∷ (2, 0) ∷ (2, 0) ∷ (2, 64)
    ∷ (2, count) ∷ []) ([]) 2 (count - 1) 62 parts refl (omega (arith, fits_count)) in
    (λ j. record {
      kind = kind_is j;
      machine = machine_is j;
      program_headers_at = program_headers_at_is j;
      headers_at = headers_at_is j;
      flags = flags_is j;
      program_header_size =
          program_header_size_is j;
      program_headers = program_headers_is j;
      header_size = header_size_is j;
      headers = headers_is j;
      names = names_is j;
    })

-- ---- names

pub name_again : (name after : List ℕ) → NoZero name → section_name_in (name ++ 0 ∷ after) ≡ Some name
unfolding section_name_in
name_again [] after n = refl
name_again (b ∷ name) after n =
    let test : eqb b 0 ≡ false = ne_eqb b 0 n.0 in
    let more = name_again name after n.1 in
    rw (test, more) refl

-- ---- the headers of the sections

-- what they are read as: the first stands at a place, its name and its content at others
abbrev pub headers_read : ℕ → ℕ → ℕ → List PlainSection → List Header
headers_read place name at [] = []
headers_read place name at (s ∷ sections) = header_of place name 1 s.flags at (length s.bytes) 1 ∷ headers_read (place + 64) (name + (length s.name + 1)) (at + length s.bytes) sections

pub headers_are : (bytes front back : List ℕ) (place name at more : ℕ) (sections : List PlainSection) → bytes ≡ front ++ (plain_headers name at sections ++ back) → length front ≡ place
    → name + length (section_names sections) < 256 ^ 4 → at + length (plain_contents sections) < 256 ^ 8 → All (λ s. s.flags < 256 ^ 8) sections
    → headers_from bytes place (length sections + more) ≡ headers_read place name at sections ++ headers_from bytes (place + 64 * length sections) more
unfolding headers_from plain_headers
headers_are bytes front back place name at more [] is len fits_name fits_at fits_flags = (λ j. headers_from bytes (zero_more j) (no_more j)) where
  no_more : 0 + more ≡ more
  no_more = omega arith

  zero_more : place ≡ place + 64 * 0
  zero_more = omega arith
headers_are bytes front back place name at more (s ∷ sections) is len fits_name fits_at fits_flags =
    let header = numbers (section_fields name 1 s.flags at (length s.bytes) s.entry_size) in
    let rest = plain_headers (name + (length s.name + 1)) (at + length s.bytes) sections in
    let names_len = length-append (s.name ++ 0 ∷ []) (section_names sections) in
    let name_len = length-append s.name (0 ∷ []) in
    let contents_len = length-append s.bytes (plain_contents sections) in
    let flags : s.flags < 256 ^ 8 = fits_flags 0 s (omega arith) in
    let first : bytes ≡ front ++ (header ++ (rest ++ back)) = is ∙ ap (λ (w : List ℕ). front ++ w) (append_assoc header rest back) in
    let second : bytes ≡ (front ++ header) ++ (rest ++ back) = first ∙ sym (append_assoc front header (rest ++ back)) in
    let header_len = length_header name 1 s.flags at (length s.bytes) s.entry_size in
    let one : header_at bytes place ≡ header_of place name 1 s.flags at (length s.bytes) 1 =
    header_read bytes front (rest ++ back) place name 1 s.flags at (length s.bytes) 1 s.entry_size first len (omega (arith, fits_name)) (omega arith) flags (omega (arith, fits_at))
    (omega (arith, fits_at, contents_len)) (omega arith) in
    let others = headers_are bytes (front ++ header) back (place + 64) (name + (length s.name + 1)) (at + length s.bytes) more sections second
    (omega (arith, len, length-append front header, header_len))
    (omega (arith, fits_name, names_len, name_len)) (omega (arith, fits_at, contents_len)) (λ k d lt. fits_flags (suc k) d (omega (arith, lt))) in
    let next : suc (length sections) + more ≡ suc (length sections + more) = omega arith in
    let end : place + 64 + 64 * length sections ≡ place + 64 * suc (length sections) = omega arith in
    ap (headers_from bytes place) next
    ∙ (λ j. one j ∷ others j)
    ∙ ap (λ (n : ℕ). header_of place name 1 s.flags at (length s.bytes) 1 ∷ (headers_read (place + 64) (name + (length s.name + 1)) (at + length s.bytes) sections ++ headers_from bytes n more)) end

-- ---- their names and contents

name_here : (table front name back : List ℕ) (at : ℕ) → table ≡ front ++ ((name ++ 0 ∷ []) ++ back) → length front ≡ at → NoZero name → name_at table at ≡ Some name
name_here table front name back at is len n =
    ap (λ (w : List ℕ). section_name_in (drop at w)) is ∙ ap section_name_in (drop-of at front ((name ++ 0 ∷ []) ++ back) len ∙ append_assoc name (0 ∷ []) back) ∙ name_again name back n

pub names_are : (table front back : List ℕ) (place name at : ℕ) (sections : List PlainSection) → table ≡ front ++ (section_names sections ++ back) → length front ≡ name
    → All (λ s. NoZero s.name) sections
    → map (section_named table) (headers_read place name at sections) ≡ sections_read place name at sections
names_are table front back place name at [] is len n = refl
names_are table front back place name at (s ∷ sections) is len n =
    let one = s.name ++ 0 ∷ [] in
    let rest = section_names sections in
    let first : table ≡ front ++ (one ++ (rest ++ back)) = is ∙ ap (λ (w : List ℕ). front ++ w) (append_assoc one rest back) in
    let second : table ≡ (front ++ one) ++ (rest ++ back) = first ∙ sym (append_assoc front one (rest ++ back)) in
    let found : name_at table name ≡ Some s.name = name_here table front s.name (rest ++ back) name first len (n 0 s (omega arith)) in
    let others = names_are table (front ++ one) back (place + 64) (name + (length s.name + 1)) (at + length s.bytes) sections second
    (omega (arith, len, length-append front one, length-append s.name (0 ∷ []))) (λ k d lt. n (suc k) d (omega (arith, lt))) in
    (λ j. record { header = header_of place name 1 s.flags at (length s.bytes) 1; name = known_name (found j) } ∷ others j)

pub contents_are : (bytes front back : List ℕ) (place name at : ℕ) (sections : List PlainSection) → bytes ≡ front ++ (plain_contents sections ++ back) → length front ≡ at
    → map (content bytes) (headers_read place name at sections) ≡ map (λ (s : PlainSection). s.bytes) sections
contents_are bytes front back place name at [] is len = refl
contents_are bytes front back place name at (s ∷ sections) is len =
    let rest = plain_contents sections in
    let first : bytes ≡ front ++ (s.bytes ++ (rest ++ back)) = is ∙ ap (λ (w : List ℕ). front ++ w) (append_assoc s.bytes rest back) in
    let second : bytes ≡ (front ++ s.bytes) ++ (rest ++ back) = first ∙ sym (append_assoc front s.bytes (rest ++ back)) in
    let one : take (length s.bytes) (drop at bytes) ≡ s.bytes = here bytes front s.bytes (rest ++ back) at (length s.bytes) first len refl in
    let others = contents_are bytes (front ++ s.bytes) back (place + 64) (name + (length s.name + 1)) (at + length s.bytes) sections second (omega (arith, len, length-append front s.bytes)) in
    (λ j. one j ∷ others j)

-- ---- the file

-- a header of zero bytes
null_bytes : numbers (all_fields 0 0 0 0 0 0 0) ≡ replicate {A = ℕ} 64 0
unfolding numbers le_bytes
null_bytes = refl

zeros_of : (n m : ℕ) → replicate {A = ℕ} (n + m) 0 ≡ replicate {A = ℕ} n 0 ++ replicate {A = ℕ} m 0
zeros_of zero m = ap (λ (k : ℕ). replicate {A = ℕ} k 0) (omega arith)
zeros_of (suc n) m = let next : suc n + m ≡ suc (n + m) = omega arith in ap (λ (k : ℕ). replicate {A = ℕ} k 0) next ∙ ap (λ (w : List ℕ). 0 ∷ w) (zeros_of n m)

-- a text without zero bytes, by a test
pub no_zero_in : (text : List ℕ) → list_all (λ (b : ℕ). not (eqb b 0)) text ≡ true → NoZero text
no_zero_in [] e = tt
no_zero_in (b ∷ text) e = go (eqb b 0) refl (no_zero_in text) e where
  go : (t : Bool) → eqb b 0 ≡ t → (list_all (λ (x : ℕ). not (eqb x 0)) text ≡ true → NoZero text) → (not t && list_all (λ (x : ℕ). not (eqb x 0)) text) ≡ true → NoZero (b ∷ text)
  go true is rest e = absurd cc
  go false is rest e = (eqb-false b 0 is, rest e)

-- contents are found by the headers alone
same_headers : (bytes : List ℕ) (place name at : ℕ) (sections : List PlainSection) → map (λ (s : Section). content bytes s.header) (sections_read place name at sections)
    ≡ map (content bytes) (headers_read place name at sections)
same_headers bytes place name at [] = refl
same_headers bytes place name at (s ∷ sections) =
    ap (λ (others : List (List ℕ)). content bytes (header_of place name 1 s.flags at (length s.bytes) 1) ∷ others)
    (same_headers bytes (place + 64) (name + (length s.name + 1)) (at + length s.bytes) sections)

module _ (machine flags : ℕ) (sections : List PlainSection) (fits : FitsPlain machine flags sections) where
  abbrev file : List ℕ
  file = plain_file machine flags sections

  abbrev front : List ℕ
  front = plain_front machine flags (plain_headers_at sections) (length sections + 2)

  abbrev contents : List ℕ
  contents = plain_contents sections

  abbrev names : List ℕ
  names = plain_names sections

  abbrev gap : ℕ
  gap = plain_headers_at sections - plain_end sections

  abbrev headers : List ℕ
  headers = plain_headers 1 64 sections

  abbrev last : List ℕ
  last = names_header_bytes sections

  len : length file ≡ plain_headers_at sections + 64 * (length sections + 2)
  len = length_plain machine flags sections

  pub front_len : length (plain_front machine flags (plain_headers_at sections) (length sections + 2)) ≡ 64
  front_len = length_front machine flags (plain_headers_at sections) (length sections + 2)

  zeros : replicate {A = ℕ} (plain_headers_at sections + 64 - plain_end sections) 0 ≡ replicate {A = ℕ} gap 0 ++ replicate {A = ℕ} 64 0
  zeros = let behind = headers_behind sections in ap (λ (k : ℕ). replicate {A = ℕ} k 0) (omega (arith, behind)) ∙ zeros_of gap 64

  pub parts : plain_file machine flags sections ≡ plain_front machine flags (plain_headers_at sections) (length sections + 2)
      ++ (plain_contents sections ++ (plain_names sections ++ ((replicate {A = ℕ} (plain_headers_at sections - plain_end sections) 0 ++ replicate {A = ℕ} 64 0)
      ++ (plain_headers 1 64 sections ++ names_header_bytes sections))))
  unfolding plain_file
  parts = ap (λ (w : List ℕ). front ++ (contents ++ (names ++ (w ++ (headers ++ last))))) zeros

  pub fields_read : file_header file ≡ plain_fields machine flags sections
  fields_read =
      let is = header_fields file (contents ++ (names ++ ((replicate {A = ℕ} gap 0 ++ replicate {A = ℕ} 64 0) ++ (headers ++ last)))) machine flags (plain_headers_at sections) (length sections + 2)
      parts
      (omega (arith, fits.machine_fits)) (omega (arith, fits.flags_fit)) (omega (arith, len, fits.small)) (omega (arith, fits.few)) in
      is ∙ ap (λ (n : ℕ). record (plain_fields machine flags sections) { names = n }) (omega arith)

  -- the same bytes, in front of each part
  at_contents : file ≡ front ++ (contents ++ (names ++ ((replicate {A = ℕ} gap 0 ++ replicate {A = ℕ} 64 0) ++ (headers ++ last))))
  at_contents = parts

  abbrev to_names : List ℕ
  to_names = front ++ contents

  at_names : file ≡ to_names ++ (names ++ ((replicate {A = ℕ} gap 0 ++ replicate {A = ℕ} 64 0) ++ (headers ++ last)))
  at_names = parts ∙ sym (append_assoc front contents (names ++ ((replicate {A = ℕ} gap 0 ++ replicate {A = ℕ} 64 0) ++ (headers ++ last))))

  names_len : length to_names ≡ plain_names_at sections
  names_len = omega (arith, length-append front contents, front_len)

  abbrev to_null : List ℕ
  to_null = (to_names ++ names) ++ replicate {A = ℕ} gap 0

  at_null : file ≡ to_null ++ (replicate {A = ℕ} 64 0 ++ (headers ++ last))
  at_null = at_names ∙ regroup to_names names (replicate {A = ℕ} gap 0) (replicate {A = ℕ} 64 0) (headers ++ last) where
    regroup : (p q r s t : List ℕ) → p ++ (q ++ ((r ++ s) ++ t)) ≡ ((p ++ q) ++ r) ++ (s ++ t)
    regroup p q r s t = simp append_assoc

  null_len : length to_null ≡ plain_headers_at sections
  null_len =
      let behind = headers_behind sections in
      let zero_len : length (replicate {A = ℕ} gap 0) ≡ gap = length-replicate gap 0 in
      omega (arith, behind, zero_len, length-append (to_names ++ names) (replicate {A = ℕ} gap 0), length-append to_names names, names_len)

  abbrev to_headers : List ℕ
  to_headers = to_null ++ replicate {A = ℕ} 64 0

  at_headers : file ≡ to_headers ++ (headers ++ last)
  at_headers = at_null ∙ sym (append_assoc to_null (replicate {A = ℕ} 64 0) (headers ++ last))

  headers_len : length to_headers ≡ plain_headers_at sections + 64
  headers_len = omega (arith, null_len, length-append to_null (replicate {A = ℕ} 64 0))

  at_last : file ≡ (to_headers ++ headers) ++ (last ++ [])
  at_last = at_headers ∙ sym (append_assoc to_headers headers last) ∙ ap (λ (w : List ℕ). (to_headers ++ headers) ++ w) (sym (append-nil last))

  last_len : length (to_headers ++ headers) ≡ plain_headers_at sections + 64 + 64 * length sections
  last_len = omega (arith, headers_len, length-append to_headers headers, length_headers 1 64 sections)

  -- the headers
  null_read : header_at file (plain_headers_at sections) ≡ header_of (plain_headers_at sections) 0 0 0 0 0 0
  null_read =
      header_read file to_null (headers ++ last) (plain_headers_at sections) 0 0 0 0 0 0 0 (at_null ∙ ap (λ (w : List ℕ). to_null ++ (w ++ (headers ++ last))) (sym null_bytes)) null_len
      (omega arith) (omega arith) (omega arith) (omega arith) (omega arith) (omega arith)

  abbrev last_place : ℕ
  last_place = plain_headers_at sections + 64 + 64 * length sections

  abbrev last_header : Header
  last_header = header_of last_place (1 + length (section_names sections)) 3 0 (plain_names_at sections) (length names) 1

  table_len : length names ≡ 11 + length (section_names sections)
  table_len = omega (arith, length-append (section_names sections) (codes ".shstrtab" ++ 0 ∷ []))

  last_read : header_at file last_place ≡ last_header
  last_read =
      header_read file (to_headers ++ headers) [] last_place (1 + length (section_names sections)) 3 0 (plain_names_at sections) (length names) 1 0 at_last last_len
      (omega (arith, len, fits.small, table_len)) (omega arith) (omega arith) (omega (arith, len, fits.small)) (omega (arith, len, fits.small)) (omega arith)

  pub all_headers : headers_from file (plain_headers_at sections) (length sections + 2)
      ≡ header_of (plain_headers_at sections) 0 0 0 0 0 0 ∷ (headers_read (plain_headers_at sections + 64) 1 64 sections ++ last_header ∷ [])
  unfolding headers_from
  all_headers =
      let next : length sections + 2 ≡ suc (length sections + 1) = omega arith in
      let others = headers_are file to_headers last (plain_headers_at sections + 64) 1 64 1 sections at_headers headers_len
      (omega (arith, len, fits.small, table_len)) (omega (arith, len, fits.small)) (λ k d lt. let one = fits.section_flags k d lt in omega (arith, one)) in
      ap (headers_from file (plain_headers_at sections)) next
      ∙ (λ j. null_read j ∷ others j)
      ∙ ap (λ (h : Header). header_of (plain_headers_at sections) 0 0 0 0 0 0 ∷ (headers_read (plain_headers_at sections + 64) 1 64 sections ++ h ∷ [])) last_read

  -- the names
  pub names_header_is : names_header file ≡ header_of (plain_headers_at sections + 64 + 64 * length sections) (1 + length (section_names sections)) 3 0 (plain_names_at sections)
      (length (plain_names sections)) 1
  names_header_is =
      let place : plain_headers_at sections + 64 * (length sections + 1) ≡ last_place = omega arith in
      ap (λ (fh : FileHeader). header_at file (fh.headers_at + 64 * fh.names)) fields_read ∙ ap (header_at file) place ∙ last_read

  table_is : name_table file ≡ names
  table_is =
      ap (content file) names_header_is
      ∙ here file to_names names ((replicate {A = ℕ} gap 0 ++ replicate {A = ℕ} 64 0) ++ (headers ++ last)) (plain_names_at sections) (length names) at_names names_len refl

  null_named : section_named names (header_of (plain_headers_at sections) 0 0 0 0 0 0) ≡ section_read (plain_headers_at sections) 0 0 0 0 0 0 []
  unfolding section_name_in
  null_named = refl

  own_name : name_at names (1 + length (section_names sections)) ≡ Some (codes ".shstrtab")
  own_name =
      name_here names (0 ∷ section_names sections) (codes ".shstrtab") [] (1 + length (section_names sections))
      (ap (λ (w : List ℕ). 0 ∷ (section_names sections ++ w)) (sym (append-nil (codes ".shstrtab" ++ 0 ∷ []))))
      (omega arith) (no_zero_in (codes ".shstrtab") refl)

  pub sections_are : sections_in file ≡ plain_sections sections
  sections_are =
      let read = ap (λ (fh : FileHeader). headers_from file fh.headers_at fh.headers) fields_read ∙ all_headers in
      let middle = names_are names (0 ∷ []) (codes ".shstrtab" ++ 0 ∷ []) (plain_headers_at sections + 64) 1 64 sections refl refl fits.names in
      let split = map-append (section_named names) (headers_read (plain_headers_at sections + 64) 1 64 sections) (last_header ∷ []) in
      (λ j. map (section_named (table_is j)) (read j))
      ∙ ap (λ (ss : List Section). section_named names (header_of (plain_headers_at sections) 0 0 0 0 0 0) ∷ ss) split
      ∙ (λ j. null_named j ∷ (middle j ++ record { header = last_header; name = known_name (own_name j) } ∷ []))

  -- the contents
  pub contents_seen : map (λ (s : Section). content file s.header) (sections_in file) ≡ contents_read sections
  contents_seen =
      let f : Section → List ℕ = λ s. content file s.header in
      let middle = same_headers file (plain_headers_at sections + 64) 1 64 sections ∙ contents_are file front (names ++ ((replicate {A = ℕ} gap 0 ++ replicate {A = ℕ} 64 0) ++ (headers ++ last)))
      (plain_headers_at sections + 64) 1 64 sections parts front_len in
      let own : content file last_header ≡ names = here file to_names names ((replicate {A = ℕ} gap 0 ++ replicate {A = ℕ} 64 0) ++ (headers ++ last)) (plain_names_at sections) (length names) at_names
      names_len refl in
      ap (map f) sections_are
      ∙ ap (λ (cs : List (List ℕ)). [] ∷ cs) (map-append f (sections_read (plain_headers_at sections + 64) 1 64 sections)
      (section_read (plain_headers_at sections + 64 + 64 * length sections) (1 + length (section_names sections)) 3 0 (plain_names_at sections) (length names) 1 (codes ".shstrtab") ∷ []))
      ∙ (λ j. [] ∷ (middle j ++ own j ∷ []))
