-- A demonstration: two files are made, and worked on with a common one, in place of FILEs that are got. Nothing is put.
use Rattle.std.specs.Prelude.{ℕ, ◌+◌, ◌<◌, ◌^◌, [], ◌∷◌, Option, Some, None, codes, false, unwrap_or}
use Rattle.std.specs.List.{sum_by}
use Rattle.dwz_report.specs.declared.summary.Summary.{Summary}
use Rattle.dwz_text.specs.Lines.{Text}
use Rattle.dwz_words.specs.declared.options.Options.{Options}

-- the options of the work on the files that are made
abbrev pub demo_options : Options → Options
demo_options o = record {
  quiet = o.quiet;
  common = Some (codes "common");
  name = None;
  out = None;
  workers = o.workers;
  files = codes "one" ∷ codes "two" ∷ [];
  demo = None;
  explain = false;
  check = false;
  expand = false;
  reuse = None;
  batch = None;
  sup = None;
}

abbrev pub asked_by : Option ℕ → Options → Options
asked_by None o = o
asked_by (Some n) o = demo_options o

-- the options of the work
abbrev pub asked : Options → Options
asked o = asked_by o.demo o

-- ---- the lengths of all files together, in bytes

abbrev pub old_length : Summary → ℕ
old_length s = sum_by (λ file. file.1) s.files

abbrev pub common_length : Option (Text × ℕ) → ℕ
common_length None = 0
common_length (Some common) = common.1

-- and afterwards, with the common file; one of which nothing moves stays as long as it was
abbrev pub new_length : Summary → ℕ
new_length s = common_length s.common + sum_by (λ file. unwrap_or file.2 file.1) s.files

-- these lengths are numbers of 64 bits
pub record HasLengths (s : Summary) : Type 0 where
  pub before : old_length s < 2 ^ 64
  pub after : new_length s < 2 ^ 64
