-- Files of the plain layout: how long each part is.
use Rattle.std.proofs.Common.{◌≡◌, ℕ, zero, suc, ◌+◌, ◌-◌, ◌*◌, ◌/◌, ◌≤◌, List, [], ◌∷◌, ◌++◌, length, replicate, refl, arith, length-append}
use Rattle.std.proofs.lemmas.List.{length-replicate}
use Rattle.dwz_bytes.specs.Spelling.{le_bytes}
use Rattle.dwz_def_reading.specs.ElfFaults.{identification}
use Rattle.dwz_def_reading.specs.ElfLayout.{numbers}
use Rattle.dwz_def_reading.specs.PlainFile.{PlainSection, file_fields, names_header_bytes, plain_contents, plain_end, plain_file, plain_front, plain_headers, plain_headers_at, plain_names, plain_names_at}
use Rattle.dwz_def_reading.specs.PlainFile.{section_fields, section_names}

pub length_number : (k n : ℕ) → length (le_bytes k n) ≡ k
unfolding le_bytes
length_number zero n = refl
length_number (suc k) n = let rest = length_number k (n / 256) in omega (arith, rest)

-- how many bytes numbers have
abbrev pub width_of : List (ℕ × ℕ) → ℕ
width_of [] = 0
width_of (field ∷ fields) = field.0 + width_of fields

pub length_numbers : (fields : List (ℕ × ℕ)) → length (numbers fields) ≡ width_of fields
unfolding numbers
length_numbers [] = refl
length_numbers (field ∷ fields) = omega (arith, length-append (le_bytes field.0 field.1) (numbers fields), length_number field.0 field.1, length_numbers fields)

pub length_header : (name kind flags at size entry_size : ℕ) → length (numbers (section_fields name kind flags at size entry_size)) ≡ 64
length_header name kind flags at size entry_size = length_numbers (section_fields name kind flags at size entry_size)

pub length_front : (machine flags headers_at count : ℕ) → length (plain_front machine flags headers_at count) ≡ 64
length_front machine flags headers_at count =
    let fields = file_fields machine flags headers_at count in
    let wide : length (numbers fields) ≡ 48 = length_numbers fields in
    omega (arith, length-append identification (replicate {A = ℕ} 9 0 ++ numbers fields), length-append (replicate {A = ℕ} 9 0) (numbers fields), wide)

pub length_headers : (name at : ℕ) (sections : List PlainSection) → length (plain_headers name at sections) ≡ 64 * length sections
unfolding plain_headers
length_headers name at [] = refl
length_headers name at (s ∷ sections) =
    let first = length_header name 1 s.flags at (length s.bytes) s.entry_size in
    let rest = length_headers (name + (length s.name + 1)) (at + length s.bytes) sections in
    omega (arith, first, rest, length-append (numbers (section_fields name 1 s.flags at (length s.bytes) s.entry_size)) (plain_headers (name + (length s.name + 1)) (at + length s.bytes) sections))

pub headers_behind : (sections : List PlainSection) → plain_end sections ≤ plain_headers_at sections
headers_behind sections = omega arith

pub length_plain : (machine flags : ℕ) (sections : List PlainSection) → length (plain_file machine flags sections) ≡ plain_headers_at sections + 64 * (length sections + 2)
unfolding plain_file
length_plain machine flags sections =
    let headers_at = plain_headers_at sections in
    let gap = headers_at + 64 - plain_end sections in
    let e = plain_headers 1 64 sections ++ names_header_bytes sections in
    let d = replicate {A = ℕ} gap 0 ++ e in
    let c = plain_names sections ++ d in
    let b = plain_contents sections ++ c in
    let one = length-append (plain_front machine flags headers_at (length sections + 2)) b in
    let two = length-append (plain_contents sections) c in
    let three = length-append (plain_names sections) d in
    let four = length-append (replicate {A = ℕ} gap 0) e in
    let five = length-append (plain_headers 1 64 sections) (names_header_bytes sections) in
    let front = length_front machine flags headers_at (length sections + 2) in
    let zeros : length (replicate {A = ℕ} gap 0) ≡ gap = length-replicate gap 0 in
    let headers = length_headers 1 64 sections in
    let last = length_header (1 + length (section_names sections)) 3 0 (plain_names_at sections) (length (plain_names sections)) 0 in
    let behind = headers_behind sections in
    omega (arith, one, two, three, four, five, front, zeros, headers, last, behind)
