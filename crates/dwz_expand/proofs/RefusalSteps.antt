-- The first value that can't be copied, where numbers stand for places, is the first of the file.
use Rattle.std.proofs.Common.{ℕ, Option, Result, Ok, Err, ◌↔◌}
use Rattle.dwz_model.specs.declared.fault.GraphErr.{GraphErr}
use Rattle.dwz_model.specs.declared.fault.GraphErr.TheVariants.{NoMemory, Refused}
use Rattle.dwz_model.specs.declared.fault.Refusal.{Refusal}
use Rattle.dwz_def_reading.specs.FirstOf.{OfFirst}
use Rattle.dwz_def_expand.specs.Output.{SiteRefusal, sites_of_file}
use Rattle.dwz_def_expand.specs.Chosen.{Choice, choice}
use Rattle.dwz_def_expand.specs.Refusals.{sites}
use Rattle.dwz_graph.specs.declared.file.File.{File}
use Rattle.dwz_graph.specs.Files.{FilesRead}
use Rattle.dwz_graph.specs.Surroundings.{sources_view}
use Rattle.dwz_expand_sources.specs.Imports.{same}
use Rattle.dwz_expand_passes.specs.Faults.{FirstRefusalIs, ValueRefusal, file_number}
use Rattle.dwz_expand.proofs.FaultMaps.{fault_law}
use Rattle.dwz_expand.proofs.FileNumbers.{numbers_law}
use Rattle.dwz_expand.specs.OneKnown.{IsOneKnown, stands_of}
use Rattle.dwz_expand.specs.Plans.{AnswersSites}
use Rattle.dwz_expand.specs.declared.files.SourceFiles.{SourceFiles}

module _ (r : FilesRead) (own : File) (common : Option File) (s : SourceFiles) (k : IsOneKnown r own common s) where
  abbrev forms : Choice ℕ
  forms = choice same k.w (sources_view s.own.sections.now)

  same_first : (q : Refusal) → OfFirst (ValueRefusal k.w forms (stands_of k.f k.place)) (sites same k.w) q ↔ OfFirst (SiteRefusal k.f) (sites_of_file k.f) q
  same_first q =
      fault_law k.f k.place same forms (stands_of k.f k.place) (λ p. file_number (forms.role p)) k.w k.stand
      (numbers_law k.place k.w (sources_view s.own.sections.now) k.files k.once) q

  pub sites_answered : {Y : Type 0} (answer : Result Y GraphErr) → FirstRefusalIs (ValueRefusal k.w forms (stands_of k.f k.place)) (sites same k.w) answer → AnswersSites k.f answer
  sites_answered (Ok y) h = λ q x. h q ((same_first q).1 x)
  sites_answered (Err NoMemory) h = tt
  sites_answered (Err (Refused q)) h = (same_first q).0 h
