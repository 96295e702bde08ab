-- What a run puts and says, by its options and the contents of its files; or the refusal of these.
use Rattle.std.specs.Prelude.{◌≡◌, ◌⊎◌, ℕ, suc, Bool, true, false, List, [], ◌∷◌, ◌++◌, length, Option, Some, None, unwrap_or}
use Rattle.std.specs.Prelude.{if◌then◌else◌}
use Rattle.dwz_def_reading.specs.Refusal.{Refusal}
use Rattle.dwz_def_reading.specs.Documents.{Doc}
use Rattle.dwz_def_reading.specs.Files.{First, no_files_before}
use Rattle.dwz_def_tops.specs.Alike.{Apart, TopScope, Together}
use Rattle.dwz_def_images.specs.Homes.{Rule}
use Rattle.dwz_def_images.specs.Units.{changes}
use Rattle.dwz_def_readback.specs.Files.{CommonFile, Made, Run}
use Rattle.dwz_outside.specs.declared.puts.Put.{Put}
use Rattle.dwz_report.specs.declared.summary.Summary.{Summary}
use Rattle.dwz_words.specs.declared.options.Options.{Options}
use Rattle.dwz_run_course.specs.declared.output.Output.{Output}
use Rattle.dwz_run_course.specs.declared.output.Said.TheVariants.{Slimmed}
use Rattle.dwz_run_course.specs.Outcome.{Outcome, refuses, writes}
use Rattle.dwz_def_output.specs.FilesAfter.{bytes_after_by, common_bytes, has_common}
use Rattle.dwz_def_output.specs.Refusals.{OutFault}
use Rattle.dwz_def_output.specs.Written.{CanBeWritten, ReadAs, common_under, rule_under, run_under}
use Rattle.dwz_def_run.specs.Compares.{Compares}
use Rattle.dwz_def_run.specs.Expands.{Expands}
use Rattle.dwz_def_run.specs.Tells.{TellsWhy}

-- ---- the run

-- with a common file all files are one scope, and else each file is one
abbrev pub scope_by : Option (List ℕ) → TopScope
scope_by None = Apart
scope_by (Some common) = Together

abbrev pub top_scope_of : Options → TopScope
top_scope_of o = scope_by o.common

-- alike tops move whose groups gain
abbrev pub rule_of : Options → List (Doc ℕ) → Rule
rule_of o docs = rule_under (top_scope_of o) docs

-- the run of files that say these documents
abbrev pub run_for : Options → List (List ℕ) → List (Doc ℕ) → List Bool → Run
run_for o contents docs prunes = run_under (top_scope_of o) contents docs prunes

-- the name by which files refer to the common file: its own, where no other is given
abbrev pub sup_name : Options → List ℕ
sup_name o = unwrap_or o.name (unwrap_or o.common [])

-- ---- the puts

abbrev pub put_of : List ℕ → List ℕ → Put
put_of name bytes = record { name = name; bytes = bytes }

-- the common file, where one is asked for and there is one
abbrev pub common_of : Option (List ℕ) → Run → Option (List ℕ)
common_of name r = common_under (scope_by name) r

abbrev pub common_puts : Option (List ℕ) → Run → List Put
common_puts None r = []
common_puts (Some name) r = if has_common r then put_of name (common_bytes r) ∷ [] else []

-- a file of which something moves goes where its name says, or where the output is to go; that gets the bytes of the file also where
-- nothing moves
abbrev pub puts_by : Bool → Option (List ℕ) → (name bytes : List ℕ) → List Put
puts_by moves (Some out) name bytes = put_of out bytes ∷ []
puts_by true None name bytes = put_of name bytes ∷ []
puts_by false None name bytes = []

abbrev pub file_puts_by : CommonFile → Options → Run → ℕ → List ℕ → List Put
file_puts_by k o r file name = puts_by (changes r.move r.units file) o.out name (bytes_after_by k (sup_name o) r file)

abbrev pub file_puts : Options → Run → ℕ → List ℕ → List Put
file_puts = file_puts_by Made

-- those of the files with these names, the first of which has that number
unfoldable pub files_puts_by : CommonFile → Options → Run → ℕ → List (List ℕ) → List Put
files_puts_by k o r file [] = []
files_puts_by k o r file (name ∷ names) = file_puts_by k o r file name ++ files_puts_by k o r (suc file) names

abbrev pub files_puts : Options → Run → ℕ → List (List ℕ) → List Put
files_puts = files_puts_by Made

-- the common file comes first
abbrev pub all_puts : Options → Run → List Put
all_puts o r = common_puts o.common r ++ files_puts o r 0 o.files

-- ---- the summary

abbrev pub length_if_new : Bool → List ℕ → Option ℕ
length_if_new true bytes = Some (length bytes)
length_if_new false bytes = None

-- of each file its name, its length, and its new length where something of it moves
unfoldable pub summary_lines_by : CommonFile → Options → Run → ℕ → List (List ℕ) → List (List ℕ × ℕ × Option ℕ)
summary_lines_by k o r file [] = []
summary_lines_by k o r file (name ∷ names) =
    (name, length (r.input.bytes file), length_if_new (changes r.move r.units file) (bytes_after_by k (sup_name o) r file)) ∷
    summary_lines_by k o r
    (suc file) names

abbrev pub summary_lines : Options → Run → ℕ → List (List ℕ) → List (List ℕ × ℕ × Option ℕ)
summary_lines = summary_lines_by Made

abbrev pub common_length_after : Option (List ℕ) → Run → Option (List ℕ × ℕ)
common_length_after None r = None
common_length_after (Some name) r = if has_common r then Some (name, length (common_bytes r)) else None

abbrev pub summary_of : Options → Run → Summary
summary_of o r = record {
  common = common_length_after o.common r;
  files = summary_lines o r 0 o.files;
}

-- ---- what comes of a run

-- its puts, its summary, and how many partial units all files have
abbrev pub output_of : Options → Run → Output
output_of o r = record { puts = all_puts o r; said = Slimmed (summary_of o r) (length r.move.parts); differs = false; partly = false }

-- the contents read so, and nothing refuses what comes of them
abbrev pub IsWritten : Options → List (List ℕ) → List (Doc ℕ) → List Bool → Type 0
IsWritten o = CanBeWritten (top_scope_of o) (sup_name o)

-- the contents read so, and this is the first refusal of what comes of them
pub record IsRefused (o : Options) (contents : List (List ℕ)) (docs : List (Doc ℕ)) (prunes : List Bool) (q : Refusal) : Type 0 where
  pub read : ReadAs contents docs prunes
  pub fault : OutFault (sup_name o) (run_for o contents docs prunes) q

-- The contents read as documents, and their output is written, unless it is refused; or they don't read, and the first fault of reading
-- refuses them.
abbrev pub Slims : Options → List (List ℕ) → Outcome → Type 0
Slims o contents (writes out) =
    (docs : List (Doc ℕ)) × (prunes : List Bool) × IsWritten o contents docs prunes × (out ≡ output_of o (run_for o contents docs prunes))
Slims o contents (refuses q) =
    First no_files_before 0 contents q
    ⊎ ((docs : List (Doc ℕ)) × (prunes : List Bool) × IsRefused o contents docs prunes q)

-- ---- what comes of options and contents

abbrev pub OutBy : (explain check expand : Bool) → Options → List (List ℕ) → Outcome → Type 0
OutBy true check expand = TellsWhy
OutBy false true expand = Compares
OutBy false false true = Expands
OutBy false false false = Slims

-- two entries are explained, or two files are compared, or one is written without its partial units, or files are slimmed
abbrev pub Out : Options → List (List ℕ) → Outcome → Type 0
Out o = OutBy o.explain o.check o.expand o
