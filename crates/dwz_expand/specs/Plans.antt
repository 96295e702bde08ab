-- The plan of the new units of files that were read back.
use Rattle.std.specs.Prelude.{◌≡◌, ℕ, List, length, Option, Result, Ok, Err}
use Rattle.dwz_model.specs.declared.fault.GraphErr.{GraphErr}
use Rattle.dwz_model.specs.declared.fault.GraphErr.TheVariants.{NoMemory, Refused}
use Rattle.dwz_model.specs.declared.fault.Refusal.{Refusal}
use Rattle.dwz_def_reading.specs.FirstOf.{OfFirst}
use Rattle.dwz_def_expand.specs.OneFile.{OneFile}
use Rattle.dwz_def_expand.specs.Output.{SiteRefusal, sites_of_file}
use Rattle.dwz_def_cross.specs.Tops.{WithCommon, whole_units}
use Rattle.dwz_expand_sources.specs.Numbers.{root_numbers}
use Rattle.dwz_expand_sources.specs.Sources.{AreSources, Sources, all_entries}
use Rattle.dwz_expand_sources.specs.Rows.{AreCopies}
use Rattle.dwz_expand_passes.specs.Faults.{count_in}
use Rattle.dwz_expand.specs.declared.files.SourceFiles.{SourceFiles}
use Rattle.dwz_expand.specs.declared.plan.Plan.{Plan}
use Rattle.dwz_def_expand.specs.Chosen.{choice}
use Rattle.dwz_expand_sources.specs.Imports.{same}
use Rattle.dwz_graph.specs.declared.file.File.{File}
use Rattle.dwz_graph.specs.Files.{FilesRead}
use Rattle.dwz_graph.specs.Surroundings.{sources_view}
use Rattle.dwz_expand_layout.specs.Entries.{UnitLines}
use Rattle.dwz_expand_passes.specs.Renamed.{copy_map}
use Rattle.dwz_expand_passes.specs.CopiesOf.{HaveCopies}
use Rattle.dwz_expand_passes.specs.Numbered.{key_in}
use Rattle.dwz_expand_passes.specs.OfFile.{IsNewFile}
use Rattle.dwz_expand.specs.OneKnown.{HasUnits, IsOneKnown}

-- It has the sources of what the files say, the numbers of their roots, and the copies that entries stand for.
pub record IsPlanOf (s : SourceFiles) (w : WithCommon ℕ) (p : Plan) : Type 0 where
  pub sources : AreSources w p.sources
  pub units : HasUnits s p.sources
  pub numbers : p.numbers.roots ≡ root_numbers p.sources.ranges 0 p.sources.units
  pub copies : AreCopies p.sources p.numbers.roots p.copies
  pub many : length p.copies.first ≡ count_in s.own s.common
  pub all : length (all_entries w) ≡ count_in s.own s.common

-- a call answers the first value of a file that can't be copied, or there is none
abbrev pub AnswersSites : {Y : Type 0} → OneFile → Result Y GraphErr → Type 0
AnswersSites f (Ok y) = (q : Refusal) → ¬ OfFirst (SiteRefusal f) (sites_of_file f) q
AnswersSites f (Err NoMemory) = Unit {0}
AnswersSites f (Err (Refused q)) = OfFirst (SiteRefusal f) (sites_of_file f) q

-- new units that have the copies of a plan's sources, with the forms of the definition, are the new file
abbrev pub NewFileLaw : Type 0
NewFileLaw =
    (r : FilesRead) (own : File) (common : Option File) (s : SourceFiles) (k : IsOneKnown r own common s) (x : Sources)
    (order : List UnitLines) → AreSources k.w x
    → HaveCopies k.w x (choice same k.w (sources_view s.own.sections.now)) 0 x.units (whole_units k.w.own) order
    → IsNewFile k.f (λ i. copy_map k.place (key_in k.w i)) order
