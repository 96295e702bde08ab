-- The sections of the supplementary file: their codes rise, so no two are one, and their numbers fit.
use Rattle.std.proofs.Common.{◌≡◌, ℕ, ◌+◌, ◌^◌, ◌<◌, ◌≤◌, true, List, [], ◌∷◌, ◌++◌, length, All, AllPairs, Option, Some, None, refl, arith, codes, bit_and}
use Rattle.std.proofs.lemmas.List.Kept.{AllPairs-cons}
use Rattle.dwz_model.specs.declared.sections.Sections.{Sections}
use Rattle.dwz_def_reading.specs.ElfLayout.{too_large}
use Rattle.dwz_def_reading.specs.ElfNames.{code_of}
use Rattle.dwz_def_reading.specs.PlainFile.{AreKnown, FitsPlain, PlainSection, if_there, plain_file, plain_section, sections_with, supplementary_sections, text_section_of}
use Rattle.dwz_def_reading.specs.Supplementary.{sup_bytes}
use Rattle.dwz_def_reading.specs.Texts.{NoZero}
use Rattle.dwz_def_reading.proofs.PlainReads.{no_zero_in}
use Rattle.dwz_def_reading.proofs.ListFacts.{all_more}

-- what holds of a section by itself
record IsGood (s : PlainSection) : Type 0 where
  name : NoZero s.name
  flags : s.flags < 2 ^ 64
  plain : bit_and s.flags 0x800 ≡ 0

-- the codes are above a number, and rise; there are no more sections than codes
record Rising (low : ℕ) (sections : List PlainSection) : Type 0 where
  pairs : AllPairs (λ a b. code_of a.name < code_of b.name) sections
  above : All (λ s. low < code_of s.name) sections
  good : All IsGood sections
  count : length sections + low ≤ 9

weaker : (low c : ℕ) (sections : List PlainSection) → low < c → Rising c sections → Rising low sections
weaker low c sections less r = record {
  pairs = r.pairs;
  above = λ k d lt. let one = r.above k d lt in omega (arith, one, less);
  good = r.good;
  count = omega (arith, r.count, less);
}

rising-cons : (low c : ℕ) (s : PlainSection) (sections : List PlainSection) → code_of s.name ≡ c → IsGood s → low < c → Rising c sections → Rising low (s ∷ sections)
rising-cons low c s sections is good less r = record {
  pairs = AllPairs-cons (λ (a b : PlainSection). code_of a.name < code_of b.name) s sections (λ k d lt. let one = r.above k d lt in omega (arith, one, is)) r.pairs;
  above = all_more (λ (t : PlainSection). low < code_of t.name) s sections (omega (arith, is, less)) (λ k d lt. let one = r.above k d lt in omega (arith, one, less));
  good = all_more IsGood s sections good r.good;
  count = omega (arith, r.count, less);
}

rising-if : (low c : ℕ) (make : List ℕ → PlainSection) (o : Option (List ℕ)) (sections : List PlainSection) → ((bytes : List ℕ) → code_of (make bytes).name ≡ c)
    → ((bytes : List ℕ) → IsGood (make bytes)) → low < c → Rising c sections
    → Rising low (if_there make o ++ sections)
rising-if low c make None sections is good less r = weaker low c sections less r
rising-if low c make (Some bytes) sections is good less r = rising-cons low c (make bytes) sections (is bytes) (good bytes) less r

plain_good : (name bytes : List ℕ) → NoZero name → IsGood (plain_section name bytes)
plain_good name bytes n = record { name = n; flags = omega arith; plain = refl }

all_rise : (s : Sections) (sup : List ℕ) → Rising 0 (sections_with s sup)
all_rise s sup =
    let none : Rising 9 [] = record {
      pairs = λ i j d less lt. absurd (omega (arith, lt));
      above = λ k d lt. absurd (omega (arith, lt));
      good = λ k d lt. absurd (omega (arith, lt));
      count = omega arith;
    } in
    let last = rising-cons 8 9 (plain_section (codes ".debug_sup") sup) [] refl (plain_good (codes ".debug_sup") sup (no_zero_in (codes ".debug_sup") refl)) (omega arith) none in
    let aranges = rising-if 7 8 (plain_section (codes ".debug_aranges")) s.aranges _ (λ bytes. refl) (λ bytes. plain_good (codes ".debug_aranges") bytes (no_zero_in (codes ".debug_aranges") refl))
    (omega arith) last in
    let loclists = rising-if 6 7 (plain_section (codes ".debug_loclists")) s.loclists _ (λ bytes. refl)
    (λ bytes. plain_good (codes ".debug_loclists") bytes (no_zero_in (codes ".debug_loclists") refl)) (omega arith) aranges in
    let line = rising-if 5 6 (plain_section (codes ".debug_line")) s.line _ (λ bytes. refl) (λ bytes. plain_good (codes ".debug_line") bytes (no_zero_in (codes ".debug_line") refl)) (omega arith)
    loclists in
    let offsets = rising-if 3 5 (plain_section (codes ".debug_str_offsets")) s.offsets _ (λ bytes. refl)
    (λ bytes. plain_good (codes ".debug_str_offsets") bytes (no_zero_in (codes ".debug_str_offsets") refl)) (omega arith) line in
    let texts = rising-if 2 3 text_section_of s.strs _ (λ bytes. refl) (λ bytes. record { name = no_zero_in (codes ".debug_str") refl; flags = omega arith; plain = refl }) (omega arith) offsets in
    let abbrevs = rising-cons 1 2 (plain_section (codes ".debug_abbrev") s.abbrev) _ refl (plain_good (codes ".debug_abbrev") s.abbrev (no_zero_in (codes ".debug_abbrev") refl)) (omega arith) texts in
    rising-cons 0 1 (plain_section (codes ".debug_info") s.info) _ refl (plain_good (codes ".debug_info") s.info (no_zero_in (codes ".debug_info") refl)) (omega arith) abbrevs

pub common_known : (s : Sections) (sum : List ℕ) → AreKnown (supplementary_sections s sum)
common_known s sum =
    let r = all_rise s (sup_bytes (record { supplementary = true; name = []; sum = sum })) in
    record {
      different = λ i j d less lt some same. let pair = r.pairs i j d less lt in omega (arith, pair, same);
      info = (0, plain_section (codes ".debug_info") s.info, omega arith, refl, refl);
      abbrevs = (1, plain_section (codes ".debug_abbrev") s.abbrev, omega arith, refl, refl);
      uncompressed = λ k d lt. (r.good k d lt).plain;
    }

pub common_fits : (machine flags : ℕ) (s : Sections) (sum : List ℕ) → machine < 2 ^ 16 → flags < 2 ^ 32 → length (plain_file machine flags (supplementary_sections s sum)) < too_large
    → FitsPlain machine flags (supplementary_sections s sum)
common_fits machine flags s sum fits_machine fits_flags small =
    let r = all_rise s (sup_bytes (record { supplementary = true; name = []; sum = sum })) in
    record {
      machine_fits = fits_machine;
      flags_fit = fits_flags;
      few = omega (arith, r.count);
      small = small;
      names = λ k d lt. (r.good k d lt).name;
      section_flags = λ k d lt. (r.good k d lt).flags;
    }
