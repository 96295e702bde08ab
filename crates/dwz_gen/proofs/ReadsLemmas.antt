-- A file of a demonstration reads: it is an ELF file without a fault, and its abbreviation table declares what it should.
use Rattle.std.proofs.Common.{◌≡◌, ◌≢◌, ℕ, zero, suc, ◌^◌, ◌<◌, ◌≤◌, List, refl, sym, ap, ◌∙◌, arith}
use Rattle.std.specs.Prelude.{All, AllPairs, bit_and, codes, None, Ok}
use Rattle.dwz_bytes.specs.Reading.{groups_at, uleb_at}
use Rattle.dwz_def_reading.specs.Abbrevs.{declaration_at, pair_at, table_at, table_bytes}
use Rattle.dwz_def_reading.specs.ElfReading.{elf_fault, first_in}
use Rattle.dwz_def_reading.specs.ElfNames.{code_of}
use Rattle.dwz_def_reading.specs.Items.{items_at, items_from}
use Rattle.dwz_def_reading.specs.PlainFile.{AreKnown, FitsPlain, PlainSection, index_fault, plain_sections}
use Rattle.dwz_def_reading.specs.Texts.{NoZero}
use Rattle.dwz_def_reading.proofs.PlainFaults.{faults_are}
use Rattle.dwz_def_reading.proofs.PlainReads.{no_zero_in}
use Rattle.dwz_gen.specs.declared.unit.TheConstants.{ABBREVS}
use Rattle.dwz_gen.specs.Demo.{demo_file, demo_info, demo_sections, demo_table}
use Rattle.dwz_gen.proofs.GivenLemmas.{info_section, table_section}
use Rattle.dwz_gen.proofs.LengthLemmas.{small_file}
use Rattle.dwz_gen.proofs.UnitLemmas.{abbrevs_written}

-- what holds of the two sections holds of all
both : (P : PlainSection → Type 0) (n first : ℕ) → P (info_section (demo_info n first))
    → P (table_section (table_bytes demo_table)) → All P (demo_sections n first)
both P n first one two zero d lt = one
both P n first one two (suc zero) d lt = two
both P n first one two (suc (suc k)) d lt = absurd (omega (arith, lt))

differ : (n first : ℕ) → AllPairs (λ a b. code_of a.name ≢ 0 → code_of a.name ≢ code_of b.name) (demo_sections n first)
differ n first zero zero d less lt some same = absurd (omega (arith, less))
differ n first zero (suc zero) d less lt some same = let e : 1 ≡ 2 = same in absurd (omega (arith, e))
differ n first (suc i) (suc zero) d less lt some same = absurd (omega (arith, less))
differ n first i (suc (suc j)) d less lt some same = absurd (omega (arith, lt))
differ n first (suc i) zero d less lt some same = absurd (omega (arith, less))

known : (n first : ℕ) → AreKnown (demo_sections n first)
known n first = record {
  different = differ n first;
  info = (0, info_section (demo_info n first), omega arith, refl, refl);
  abbrevs = (1, table_section (table_bytes demo_table), omega arith, refl, refl);
  uncompressed = both (λ (s : PlainSection). bit_and s.flags 0x800 ≡ 0) n first refl refl;
}

fits : (n first : ℕ) → n ≤ 10000 → FitsPlain 62 0 (demo_sections n first)
fits n first few = record {
  machine_fits = omega arith;
  flags_fit = omega arith;
  few = omega arith;
  small = small_file n first few;
  names =
      both (λ (s : PlainSection). NoZero s.name) n first
      (no_zero_in (codes ".debug_info") refl) (no_zero_in (codes ".debug_abbrev") refl);
  section_flags = both (λ (s : PlainSection). s.flags < 2 ^ 64) n first (omega arith) (omega arith);
}

no_index : (n first : ℕ) → index_fault (plain_sections (demo_sections n first)) ≡ None
unfolding first_in
no_index n first = refl

pub no_fault : (n first : ℕ) → n ≤ 10000 → elf_fault (demo_file n first) ≡ None
no_fault n first few = faults_are 62 0 (demo_sections n first) (fits n first few) (known n first) ∙ no_index n first

table_again : table_at ABBREVS.now 0 ≡ Ok demo_table
unfolding table_at declaration_at pair_at items_at items_from uleb_at groups_at
table_again = refl

pub table_read : table_at (table_bytes demo_table) 0 ≡ Ok demo_table
table_read = ap (λ (bytes : List ℕ). table_at bytes 0) (sym abbrevs_written) ∙ table_again
