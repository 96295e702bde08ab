-- What comes of options that ask to write files over a finished common file, whose name is that of the common file in them.
use Rattle.std.specs.Prelude.{◌≡◌, ◌⊎◌, ℕ, suc, false, List, [], length, map, get_or, None}
use Rattle.dwz_def_reading.specs.Finished.{FirstBeside}
use Rattle.dwz_def_images.specs.Homes.{numbers_from}
use Rattle.dwz_outside.specs.declared.puts.Put.{Put}
use Rattle.dwz_report.specs.declared.summary.Summary.{Summary}
use Rattle.dwz_words.specs.declared.options.Options.{Options}
use Rattle.dwz_run_course.specs.declared.output.Output.{Output}
use Rattle.dwz_run_course.specs.declared.output.Said.TheVariants.{Slimmed}
use Rattle.dwz_run_course.specs.Outcome.{Outcome, refuses, writes}
use Rattle.dwz_def_over.specs.Over.{AreOverFiles, OverFiles, run_over, stands}
use Rattle.dwz_def_over.specs.Written.{CanBeWrittenOver, OverFault}
use Rattle.dwz_def_run.specs.Out.{files_puts_by, summary_lines_by, sup_name}

-- ---- the files

-- The contents of the common file and of the FILEs, of contents that are in the order in which files are got: the common file comes first.
-- Behind one that is too long nothing is got: those count as empty.
abbrev pub common_got : List (List ℕ) → List ℕ
common_got contents = get_or contents 0 []

abbrev pub files_got : Options → List (List ℕ) → List (List ℕ)
files_got o contents = map (λ n. get_or contents (suc n) []) (numbers_from 0 o.files)

-- ---- what comes of them

-- the puts are those of the files that are written anew; the common file is never put
abbrev pub puts_over : Options → OverFiles → List Put
puts_over o x = files_puts_by (stands x) o (run_over x) 0 o.files

-- nor is it told of
abbrev pub summary_over : Options → OverFiles → Summary
summary_over o x = record { common = None; files = summary_lines_by (stands x) o (run_over x) 0 o.files }

abbrev pub output_over : Options → OverFiles → Output
output_over o x = record { puts = puts_over o x; said = Slimmed (summary_over o x) (length (run_over x).move.parts); differs = false; partly = false }

-- these are the files with those contents, beside the common file with that one
abbrev pub HasContents : List ℕ → List (List ℕ) → OverFiles → Type 0
HasContents common contents x = (x.common ≡ common) × (x.contents ≡ contents)

-- The common file and the files read, and their output is written, unless it is refused; or they don't read, and the first fault of reading
-- refuses them.
abbrev pub ReusesOf : Options → List ℕ → List (List ℕ) → Outcome → Type 0
ReusesOf o common contents (writes out) =
    (x : OverFiles) × HasContents common contents x × CanBeWrittenOver (sup_name o) x × (out ≡ output_over o x)
ReusesOf o common contents (refuses q) =
    FirstBeside common contents q
    ⊎ ((x : OverFiles) × HasContents common contents x × AreOverFiles x × OverFault (sup_name o) x q)

abbrev pub Reuses : Options → List (List ℕ) → Outcome → Type 0
Reuses o contents = ReusesOf o (common_got contents) (files_got o contents)
