-- How long a file of a demonstration is: each unit has 109 bytes, and the table has 68.
use Rattle.std.proofs.Common.{◌≡◌, ℕ, zero, suc, ◌+◌, ◌*◌, ◌<◌, ◌≤◌, [], ◌++◌, length, refl, sym, ap, ◌∙◌, arith, length-append}
use Rattle.std.specs.Int.{next_multiple_of}
use Rattle.std.specs.List.{flat_map, range_with_len}
use Rattle.dwz_bytes.specs.Spelling.{le_bytes}
use Rattle.dwz_def_reading.specs.Abbrevs.{table_bytes}
use Rattle.dwz_def_reading.specs.ElfLayout.{too_large}
use Rattle.dwz_def_reading.specs.PlainFile.{plain_contents, plain_names}
use Rattle.dwz_def_reading.proofs.PlainLemmas.{length_plain}
use Rattle.dwz_gen.specs.Demo.{demo_file, demo_info, demo_sections, demo_table, demo_unit_bytes}
use Rattle.dwz_gen.proofs.UnitLemmas.{abbrevs_written}

unit_len : (own shared : ℕ) → length (demo_unit_bytes own shared) ≡ 109
unfolding demo_unit_bytes le_bytes
unit_len own shared = refl

units_len : (first a n : ℕ) → length (flat_map (λ u. demo_unit_bytes (first + u) u) (range_with_len a n)) ≡ 109 * n
units_len first a zero = refl
units_len first a (suc n) =
    let rest = flat_map (λ (u : ℕ). demo_unit_bytes (first + u) u) (range_with_len (a + 1) n) in
    omega (arith, length-append (demo_unit_bytes (first + a) a) rest, unit_len (first + a) a, units_len first (a + 1) n)

table_len : length (table_bytes demo_table) ≡ 68
table_len = sym (ap length abbrevs_written)

contents_len : (n first : ℕ) → length (plain_contents (demo_sections n first)) ≡ 109 * n + 68
contents_len n first =
    omega (
      arith,
      length-append (demo_info n first) (table_bytes demo_table ++ []),
      length-append (table_bytes demo_table) [],
      units_len first 0 n,
      table_len,
    )

names_len : (n first : ℕ) → length (plain_names (demo_sections n first)) ≡ 37
names_len n first = refl

pub file_len : (n first : ℕ) → length (demo_file n first) ≡ next_multiple_of (64 + 109 * n + 68 + 37) 8 + 4 * 64
file_len n first =
    let end : 64 + length (plain_contents (demo_sections n first)) + length (plain_names (demo_sections n first)) ≡ 64 + 109 * n + 68 + 37 =
    omega (arith, contents_len n first, names_len n first) in
    length_plain 62 0 (demo_sections n first) ∙ ap (λ (e : ℕ). next_multiple_of e 8 + 4 * 64) end

pub fifty_len : (first : ℕ) → length (demo_file 50 first) ≡ 5880
fifty_len first = file_len 50 first

pub small_file : (n first : ℕ) → n ≤ 10000 → length (demo_file n first) < too_large
small_file n first few = omega (arith, file_len n first, few)
