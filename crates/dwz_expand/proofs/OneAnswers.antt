-- What is answered of the one file of a graph.
use Rattle.std.proofs.Common.{◌≡◌, ◌<◌, ℕ, List, [], ◌∷◌, length, Option, Some, None, Result, Ok, Err, arith, inl, inr}
use Rattle.dwz_model.specs.declared.fault.GraphErr.{GraphErr}
use Rattle.dwz_model.specs.declared.fault.GraphErr.TheVariants.{NoMemory, Refused}
use Rattle.dwz_model.specs.declared.sections.Sections.{Sections}
use Rattle.dwz_def_reading.specs.Files.{sources_of}
use Rattle.dwz_graph.specs.declared.file.File.{File}
use Rattle.dwz_graph.specs.Resolved.{sources_view}
use Rattle.dwz_graph.specs.Files.{AreBack, FilesRead}
use Rattle.dwz_expand_sections.specs.ListLaws.{AreListed}
use Rattle.dwz_expand.specs.declared.files.SourceFiles.{SourceFiles}
use Rattle.dwz_expand.specs.OneKnown.{IsOneKnown}
use Rattle.dwz_expand.specs.Plans.{AnswersSites}
use Rattle.dwz_expand.specs.Units.{CanBeCopied}
use Rattle.dwz_expand.specs.Expanded.{AnswersExpand, AnswersSizes, IsFileOf, IsOneOf}

pub one_there : (o : Option (List ℕ)) (back : List (List ℕ)) (files : List File) → length back ≡ 1 → AreBack o back files → 0 < length files
one_there o [] files one h = absurd (omega (arith, one))
one_there o (x ∷ back) (f ∷ files) one h = omega (arith)
one_there None (x ∷ back) [] one h = absurd h.are
one_there (Some bytes) (x ∷ back) [] one h = absurd h.3.are

module _ (r : FilesRead) (own : File) (common : Option File) (s : SourceFiles) (k : IsOneKnown r own common s) where
  is_one : IsOneOf r k.f
  is_one = record { reads = k.reads; content = k.content; common = k.common }

  -- what is kept of its own file, with its location lists
  pub file_kept : AreListed k.f own.resolved.operands.items × (own.sections.lists.now ≡ (sources_of k.f.file.bytes).lists)
      × (sources_view own.sections ≡ sources_of k.f.file.bytes) → IsFileOf k.f own
  file_kept h = record { reads = k.reads; raw = k.raw; aranges = k.aranges; lists = h.1; sources = h.2; listed = h.0 }

  -- refused with the first value that can't be copied
  pub refused_too : (e : GraphErr) → AnswersSites {Y = Unit {0}} k.f (Err e) → AnswersExpand r (Err e)
  refused_too NoMemory h = tt
  refused_too (Refused q) h = (k.f, is_one, inl h)

  -- where each can be copied, what is answered of sizes is answered
  pub answered : (answer : Result Sections GraphErr) → CanBeCopied k.f → AnswersSizes k.f answer → AnswersExpand r answer
  answered (Ok s) free h = (k.f, is_one, (λ q refused. elim refused [ inl value ↦ free q value | inr later ↦ h.0 q later.1 ]), h.1)
  answered (Err NoMemory) free h = tt
  answered (Err (Refused q)) free h = (k.f, is_one, inr (free, h))
