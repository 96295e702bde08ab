-- The sections that are given to be written are those of a file of a demonstration.
use Rattle.std.proofs.Common.{◌≡◌, ℕ, List, [], ◌∷◌, ap, ◌∙◌, codes}
use Rattle.dwz_def_reading.specs.Abbrevs.{table_bytes}
use Rattle.dwz_def_reading.specs.PlainFile.{PlainSection, plain_file, plain_section}
use Rattle.dwz_gen.specs.declared.unit.TheConstants.{ABBREVS}
use Rattle.dwz_gen.specs.Demo.{demo_file, demo_info, demo_table}
use Rattle.dwz_gen.proofs.UnitLemmas.{abbrevs_written}

abbrev pub info_section : List ℕ → PlainSection
info_section = plain_section (codes ".debug_info")

abbrev pub table_section : List ℕ → PlainSection
table_section = plain_section (codes ".debug_abbrev")

pub as_given : (n first : ℕ) (bytes info : List ℕ) (units table : PlainSection)
    → bytes ≡ info → info ≡ demo_info n first
    → units ≡ info_section bytes → table ≡ table_section ABBREVS.now
    → plain_file 62 0 (units ∷ table ∷ []) ≡ demo_file n first
as_given n first bytes info units table same is_info first_is second_is =
    let info_bytes : bytes ≡ demo_info n first = same ∙ is_info in
    let table_is : ABBREVS.now ≡ table_bytes demo_table = abbrevs_written in
    (λ j. plain_file 62 0 ((first_is ∙ ap info_section info_bytes) j ∷ (second_is ∙ ap table_section table_is) j ∷ []))
