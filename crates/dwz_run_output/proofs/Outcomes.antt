-- What comes of files that were read, from what was found: the first refusal, or what is put.
use Rattle.std.proofs.Common.{◌≡◌, ℕ, ◌^◌, ◌<◌, Bool, false, List, Option, Ok, Err, length, sym, ap, subst, ◌∙◌, inl, inr}
use Rattle.std.specs.List.{range_with_len}
use Rattle.dwz_model.specs.declared.fault.Fault.{Fault}
use Rattle.dwz_model.specs.declared.fault.GraphErr.{GraphErr}
use Rattle.dwz_model.specs.declared.fault.GraphErr.TheVariants.{NoMemory, Refused}
use Rattle.dwz_model.specs.declared.fault.Refusal.{Refusal}
use Rattle.dwz_model.specs.declared.sections.Sections.{Sections}
use Rattle.dwz_def_reading.specs.Values.{AreBytes}
use Rattle.dwz_def_reading.specs.Documents.{Doc}
use Rattle.dwz_def_reading.specs.Files.{no_files_before}
use Rattle.dwz_def_reading.specs.Lists.{Each}
use Rattle.dwz_def_readback.specs.Files.{CommonFile, Run}
use Rattle.dwz_outside.specs.declared.puts.Put.{Put}
use Rattle.dwz_report.specs.declared.summary.Summary.{Summary}
use Rattle.dwz_words.specs.declared.options.Options.{Options}
use Rattle.dwz_run_course.specs.declared.output.Output.{Output}
use Rattle.dwz_run_course.specs.declared.output.Said.{Said}
use Rattle.dwz_run_course.specs.declared.output.Said.TheVariants.{Slimmed}
use Rattle.dwz_run_course.specs.Answers.{CanBeSaid, IsAnswer}
use Rattle.dwz_run_course.specs.Outcome.{Outcome}
use Rattle.dwz_def_output.specs.Written.{IsFree, ReadAs}
use Rattle.dwz_def_run.specs.Out.{IsWritten, Slims, all_puts, common_length_after, run_for, summary_lines, sup_name}
use Rattle.dwz_def_output.specs.Refusals.{CommonRefusal, FileFault, FileFaultBy, InFile, OutFault, SectionsFault, SectionsFaultBy}
use Rattle.dwz_def_reading.specs.FirstOf.{OfFirst}
use Rattle.dwz_def_output.proofs.FreeLemmas.{Nothing}
use Rattle.dwz_def_output.proofs.OfSections.{of_section}
use Rattle.dwz_def_output.specs.declared.new_file.NewFile.{NewFile}
use Rattle.dwz_def_output.specs.NewFiles.{AreNewBy, IsFound, IsNewCommon}
use Rattle.dwz_run_output.specs.Common.{FaultWith}
use Rattle.dwz_run_output.specs.Making.{AnswersAll, AreMadeSo}
use Rattle.dwz_run_output.proofs.AllLengths.{lengths_fit}
use Rattle.dwz_run_output.proofs.CommonFaults.{refusal}
use Rattle.dwz_run_output.proofs.FirstFound.{none_found}
use Rattle.dwz_def_over.proofs.ReadOver.{read_length}

-- ---- with any common file

module _ (k : CommonFile) (name : List ℕ) (r : Run) where
  -- as files are numbered
  pub numbered : (made : List (Option NewFile)) (count n : ℕ) → AreNewBy k r made count → length made ≡ n → r.files ≡ range_with_len 0 n
  numbered made count n are many = are.files ∙ ap (λ (m : ℕ). range_with_len 0 m) many

  pub sections_found : (made rows : List (Option NewFile)) (count : ℕ) (found : Option Refusal) → AreNewBy k r made count → rows ≡ made
      → ((l : CommonFile) (s : Run) (n : ℕ) → AreNewBy l s rows n → IsFound (OfFirst (InFile (SectionsFaultBy l s)) (range_with_len 0 (length rows))) found)
      → IsFound (OfFirst (InFile (SectionsFaultBy k r)) r.files) found
  sections_found made rows count found are same finds =
      let here = subst (λ (rs : List (Option NewFile)). AreNewBy k r rs count) (sym same) are in
      subst (λ (files : List ℕ). IsFound (OfFirst (InFile (SectionsFaultBy k r)) files) found) (sym here.files) (finds k r count here)

  pub none_of_files : (n : ℕ) (files : List (Option (List ℕ))) → r.files ≡ range_with_len 0 n → AreMadeSo k name r n files
      → Nothing (OfFirst (InFile (FileFaultBy k name r)) r.files)
  none_of_files n files same are =
      subst (λ (fs : List ℕ). Nothing (OfFirst (InFile (FileFaultBy k name r)) fs)) (sym same) (none_found (FileFaultBy k name r) n are.free)

  -- what answers by the first refusal of the files answers by each error of them
  pub err_answer : {A : Type 0} (Is : Outcome → Type 0) (items : A → List (Option (List ℕ))) (n : ℕ) (e : GraphErr) → r.files ≡ range_with_len 0 n
      → ((q : Refusal) → OfFirst (InFile (FileFaultBy k name r)) r.files q → IsAnswer Is (Err (Refused q)))
      → AnswersAll items k name r n (Err e) → IsAnswer Is (Err e)
  err_answer Is items n (Refused q) files refused has = refused q (subst (λ (fs : List ℕ). OfFirst (InFile (FileFaultBy k name r)) fs q) (sym files) has)
  err_answer Is items n NoMemory files refused has = tt

-- an output is what it is, part by part
pub output_is : (out : Output) (puts : List Put) (common : Option (List ℕ × ℕ)) (lines : List (List ℕ × ℕ × Option ℕ)) (parts : ℕ) (summary : Summary) (partials : ℕ)
    → out.said ≡ Slimmed summary partials → out.differs ≡ false → out.partly ≡ false → out.puts ≡ puts → summary.common ≡ common → summary.files ≡ lines → partials ≡ parts
    → (out.said ≡ Slimmed (record { common = common; files = lines }) parts)
    × (out ≡ record { puts = puts; said = Slimmed (record { common = common; files = lines }) parts; differs = false; partly = false })
output_is out puts common lines parts summary partials said same whole puts_are common_is files_are parts_are =
    let by : List Put → Said → Bool → Bool → Output = λ p s d b. record { puts = p; said = s; differs = d; partly = b } in
    let line : Option (List ℕ × ℕ) → List (List ℕ × ℕ × Option ℕ) → Summary = λ c f. record { common = c; files = f } in
    let all : summary ≡ line common lines = ap (λ (c : Option (List ℕ × ℕ)). line c summary.files) common_is ∙ ap (line common) files_are in
    let is_said : out.said ≡ Slimmed (line common lines) parts =
    said ∙ (ap (λ (s : Summary). Slimmed s partials) all ∙ ap (λ (n : ℕ). Slimmed (line common lines) n) parts_are) in (
      is_said,
      ap (λ (p : List Put). by p out.said out.differs out.partly) puts_are
          ∙ (ap (λ (s : Said). by puts s out.differs out.partly) is_said
          ∙ (ap (λ (d : Bool). by puts (Slimmed (line common lines) parts) d out.partly) same ∙ ap (by puts (Slimmed (line common lines) parts) false) whole)),
    )

-- ---- with one that is made

module _ (o : Options) (contents : List (List ℕ)) (docs : List (Doc ℕ)) (prunes : List Bool) (read : ReadAs contents docs prunes) where
  abbrev pub r : Run
  r = run_for o contents docs prunes

  abbrev pub OfSections : Refusal → Type 0
  OfSections = OfFirst (InFile (SectionsFault r)) r.files

  abbrev pub OfFiles : Refusal → Type 0
  OfFiles = OfFirst (InFile (FileFault (sup_name o) r)) r.files

  refused : (q : Refusal) → OutFault (sup_name o) r q → IsAnswer (Slims o contents) (Err (Refused q))
  refused q fault = (inr (docs, prunes, record { read = read; fault = fault }), of_section (sup_name o) r q fault)

  -- the common file is refused; it has the number behind those of the files
  pub common_refused : (common : Option Sections) (f : Fault) (q : Refusal) → IsNewCommon r common → FaultWith common f
      → q ≡ record { file = length contents; section = f.section; at = f.at; reason = f.reason } → IsAnswer (Slims o contents) (Err (Refused q))
  common_refused common f q new has is = refused q (inl (refusal r common f (length contents) q new has (sym (read_length no_files_before contents docs read.reads)) is))

  -- or else the sections of a file are
  pub sections_refused : Nothing (CommonRefusal r) → (q : Refusal) → OfSections q → IsAnswer (Slims o contents) (Err (Refused q))
  sections_refused alone q has = refused q (inr (alone, inl has))

  -- or else a file is
  pub file_refused : Nothing (CommonRefusal r) → Nothing OfSections → (q : Refusal) → OfFiles q → IsAnswer (Slims o contents) (Err (Refused q))
  file_refused alone none q has = refused q (inr (alone, inr (none, has)))

  -- or else all is written
  module _ (common_free : Nothing (CommonRefusal r)) (sections_free : Nothing OfSections) (files_free : Nothing OfFiles) where
    free : IsFree (sup_name o) r
    free q (inl common) = common_free q common
    free q (inr (none, inl has)) = sections_free q has
    free q (inr (none, inr (other, has))) = files_free q has

    is_written : IsWritten o contents docs prunes
    is_written = record { read = read; free = free }

    pub all_written : (out : Output) (summary : Summary) (partials : ℕ) → out.said ≡ Slimmed summary partials → out.differs ≡ false → out.partly ≡ false → out.puts ≡ all_puts o r
        → summary.common ≡ common_length_after o.common r → summary.files ≡ summary_lines o r 0 o.files → partials ≡ length r.move.parts
        → Each AreBytes contents → length contents < 2 ^ 32 → IsAnswer (Slims o contents) (Ok out)
    all_written out summary partials said same whole puts common files parts bytes few =
        let is = output_is out (all_puts o r) (common_length_after o.common r) (summary_lines o r 0 o.files) (length r.move.parts) summary partials said same whole puts common files parts in (
          (docs, prunes, is_written, is.1),
          subst CanBeSaid (sym is.0) (lengths_fit o contents docs prunes bytes is_written few),
        )
