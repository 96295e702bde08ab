-- The file over each common file, as it is said to be, and the text of what comes of it.
use Rattle.std.proofs.Common.{◌≡◌, true, false, List, [], ◌∷◌, None, Some, refl}
use Rattle.std.specs.Prelude.{codes}
use Rattle.std.specs.Fmt.{digits}
use Rattle.sha2.specs.Sha256.{compress, digest_bytes, first_words, hash_after, rounds, schedule, sha256}
use Rattle.dwz_def_reading.specs.Units.{RawUnit}
use Rattle.dwz_words.specs.declared.options.Options.{Options}
use Rattle.dwz_report.specs.Texts.{summary_text}
use Rattle.dwz_def_taken.specs.declared.fixed.Fixed.{Fixed}
use Rattle.dwz_def_taken.specs.Beside.{all_attrs, all_below, then_entries}
use Rattle.dwz_def_taken.specs.Over.{common_parts, row_map}
use Rattle.dwz_def_over.specs.Over.{OverFiles}
use Rattle.dwz_def_run.specs.Comes.{reusing}
use Rattle.dwz_def_run.specs.Reuses.{summary_over}
use Rattle.dwz_test_definitions.proofs.Comes.{come}
use Rattle.dwz_test_over.proofs.Bytes.{both_file, common_file, three_file}
use Rattle.dwz_test_over.proofs.Beside.{over_both, over_common}

-- the words `--reuse common three`
abbrev pub asked : Options
asked = record {
  quiet = false;
  common = None;
  name = None;
  out = None;
  workers = 4;
  files = codes "three" ∷ [];
  demo = None;
  explain = false;
  check = false;
  expand = false;
  reuse = Some (codes "common");
  batch = None;
  sup = None;
}

-- the one FILE is `three`; the common file is `common`
abbrev pub options : Options
options = reusing asked

-- the type is taken: it stands for the common file's, the next top
abbrev pub taken_fixed : Fixed
taken_fixed = record { roots = 0x0c ∷ []; takes = (0 ∷ []) ∷ [] ∷ []; images = Some 1 ∷ None ∷ []; blocked = false ∷ false ∷ [] }

abbrev pub taken : List RawUnit → OverFiles
taken raw = record {
  common = common_file;
  contents = three_file ∷ [];
  raw = raw;
  said = over_common;
  prunes = true ∷ [];
  fixed = taken_fixed;
}

taken_text : (raw : List RawUnit) → summary_text (summary_over options (taken raw)) ≡ codes "three: 424 -> 512 bytes\n"
unfolding come then_entries all_below all_attrs row_map common_parts compress digest_bytes first_words hash_after rounds schedule sha256 digits
taken_text raw = refl

-- the unit can't take the partial unit that has another type too
abbrev pub left_fixed : Fixed
left_fixed = record { roots = 0x0c ∷ []; takes = [] ∷ [] ∷ []; images = None ∷ None ∷ None ∷ []; blocked = false ∷ false ∷ false ∷ [] }

abbrev pub left : List RawUnit → OverFiles
left raw = record {
  common = both_file;
  contents = three_file ∷ [];
  raw = raw;
  said = over_both;
  prunes = true ∷ [];
  fixed = left_fixed;
}

left_text : (raw : List RawUnit) → summary_text (summary_over options (left raw)) ≡ codes "three: nothing moves\n"
unfolding come then_entries all_below all_attrs row_map common_parts digits
left_text raw = refl
