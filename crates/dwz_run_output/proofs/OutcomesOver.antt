-- What comes of files over a common file that stands, from what was found: the first refusal, or what is put.
use Rattle.std.proofs.Common.{◌≡◌, ℕ, ◌^◌, ◌<◌, List, [], length, get_or, false, Option, Some, None, Ok, Err, sym, ap, subst, ◌∙◌, inl, inr, lit<}
use Rattle.dwz_model.specs.declared.fault.GraphErr.TheVariants.{Refused}
use Rattle.dwz_model.specs.declared.fault.Refusal.{Refusal}
use Rattle.dwz_def_reading.specs.FirstOf.{OfFirst}
use Rattle.dwz_def_reading.specs.Lists.{Each}
use Rattle.dwz_def_reading.specs.Supplementary.{sup_bytes}
use Rattle.dwz_def_reading.specs.Values.{AreBytes}
use Rattle.dwz_def_readback.specs.Files.{CommonFile, Run}
use Rattle.dwz_report.specs.declared.summary.Summary.{Summary}
use Rattle.dwz_words.specs.declared.options.Options.{Options}
use Rattle.dwz_run_course.specs.declared.output.Output.{Output}
use Rattle.dwz_run_course.specs.declared.output.Said.TheVariants.{Slimmed}
use Rattle.dwz_run_course.specs.Answers.{CanBeSaid, IsAnswer}
use Rattle.dwz_def_output.specs.FilesAfter.{sum_of}
use Rattle.dwz_def_output.specs.Refusals.{CommonRefusalBy, FileFaultBy, InFile, SectionsFaultBy}
use Rattle.dwz_def_output.specs.Written.{IsFreeBy}
use Rattle.dwz_def_output.specs.declared.new_file.NewFile.{NewFile}
use Rattle.dwz_def_output.specs.NewFiles.{AreNewBy}
use Rattle.dwz_def_output.proofs.FreeLemmas.{Nothing}
use Rattle.dwz_def_over.specs.Over.{AreOverFiles, OverFiles, limits_over, move_of, run_over, standing_file, stands}
use Rattle.dwz_def_over.specs.Written.{CanBeWrittenOver, OverFault}
use Rattle.dwz_def_over.proofs.FaultSections.{of_section_over}
use Rattle.dwz_def_run.specs.Out.{sup_name, summary_lines_by}
use Rattle.dwz_def_run.specs.Reuses.{HasContents, ReusesOf, puts_over}
use Rattle.dwz_def_run.proofs.ReusesLengths.{made_small}
use Rattle.dwz_run_output.specs.Making.{AreBytesOf, AreMadeSo, CanMake, IsSupOf}
use Rattle.dwz_run_output.proofs.AllLengths.{lengths_by, reads_short}
use Rattle.dwz_run_output.proofs.Outcomes.{output_is}
use Rattle.dwz_run_output.proofs.RunReady.{all_bytes, can_make, stays_beyond}

-- `.debug_sup` of the files that import from the common file
pub sup_is : (name common : List ℕ) (contents : List (List ℕ)) (x : OverFiles) → HasContents common contents x → (sup slice : List ℕ)
    → sup ≡ sup_bytes (record { supplementary = false; name = name; sum = sum_of common }) → slice ≡ sup → IsSupOf (stands x) name (run_over x) (Some slice)
sup_is name common contents x has sup slice is same =
    same ∙ is ∙ ap (λ (bytes : List ℕ). sup_bytes (record { supplementary = false; name = name; sum = sum_of bytes })) (sym has.0)

module _ (o : Options) (common : List ℕ) (contents : List (List ℕ)) (x : OverFiles) (has : HasContents common contents x) (is : AreOverFiles x) where
  abbrev pub r : Run
  r = run_over x

  abbrev k : CommonFile
  k = stands x

  abbrev pub OfSections : Refusal → Type 0
  OfSections = OfFirst (InFile (SectionsFaultBy k r)) r.files

  abbrev pub OfFiles : Refusal → Type 0
  OfFiles = OfFirst (InFile (FileFaultBy k (sup_name o) r)) r.files

  -- a common file that stands is never refused
  alone : Nothing (CommonRefusalBy k r)
  alone q none = none

  refused : (q : Refusal) → OverFault (sup_name o) x q → IsAnswer (ReusesOf o common contents) (Err (Refused q))
  refused q fault = (inr (x, has, is, fault), of_section_over (sup_name o) (standing_file x) r q fault)

  -- the sections of a file are
  pub sections_refused : (q : Refusal) → OfSections q → IsAnswer (ReusesOf o common contents) (Err (Refused q))
  sections_refused q found = refused q (inr (alone, inl found))

  -- or else a file is
  pub file_refused : Nothing OfSections → (q : Refusal) → OfFiles q → IsAnswer (ReusesOf o common contents) (Err (Refused q))
  file_refused none q found = refused q (inr (alone, inr (none, found)))

  module _ (bytes : Each AreBytes contents) where
    own_bytes : Each AreBytes x.contents
    own_bytes = subst (Each AreBytes) (sym has.1) bytes

    pub ready : (made : List (Option NewFile)) (count : ℕ) → AreNewBy k r made count → (file : ℕ) → file < length contents
        → CanMake k r file (get_or contents file []) (get_or made file None)
    ready made count are =
        subst (λ (cs : List (List ℕ)). (file : ℕ) → file < length cs → CanMake k r file (get_or cs file []) (get_or made file None)) has.1
        (can_make k (move_of x) (limits_over x) x.contents x.said.docs x.prunes is.files is.prunable own_bytes made count are)

    pub bytes_of : (files : List (Option (List ℕ))) → AreMadeSo k (sup_name o) r (length contents) files → AreBytesOf k (sup_name o) r files
    bytes_of files are =
        all_bytes k (move_of x) (limits_over x) x.contents x.said.docs x.prunes is.files is.prunable own_bytes (sup_name o) files
        (subst (λ (cs : List (List ℕ)). AreMadeSo k (sup_name o) r (length cs) files) (sym has.1) are)

    -- or else all is written
    module _ (sections_free : Nothing OfSections) (files_free : Nothing OfFiles) where
      free : IsFreeBy k (sup_name o) r
      free q (inl none) = none
      free q (inr (none, inl found)) = sections_free q found
      free q (inr (none, inr (other, found))) = files_free q found

      is_written : CanBeWrittenOver (sup_name o) x
      is_written = record { read = is; free = free }

      pub all_written : (out : Output) (summary : Summary) (partials : ℕ) → out.said ≡ Slimmed summary partials → out.differs ≡ false → out.partly ≡ false → out.puts ≡ puts_over o x
          → summary.common ≡ None → summary.files ≡ summary_lines_by k o r 0 o.files → partials ≡ length r.move.parts
          → length contents < 2 ^ 32 → IsAnswer (ReusesOf o common contents) (Ok out)
      all_written out summary partials said same whole puts none files parts few =
          let all = output_is out (puts_over o x) None (summary_lines_by k o r 0 o.files) (length r.move.parts) summary partials said same whole puts none files parts in (
            (x, has, is_written, all.1),
            subst CanBeSaid (sym all.0)
                (lengths_by k o r (length x.contents) (reads_short (limits_over x) x.contents x.said.docs is.files) (made_small o x own_bytes is_written)
                (stays_beyond k (move_of x) (limits_over x) x.contents x.said.docs x.prunes is.files is.prunable own_bytes) None (lit< tt)
                (subst (λ (cs : List (List ℕ)). length cs < 2 ^ 32) (sym has.1) few)),
          )
