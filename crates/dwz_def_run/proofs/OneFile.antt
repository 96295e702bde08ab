-- What comes of one file alone: that nothing moves, or bytes; or a refusal, which is of that file if the common file reads.
use Rattle.std.proofs.Common.{◌≡◌, ◌⊎◌, ℕ, Bool, true, false, List, [], ◌∷◌, ◌++◌, length, map, get_or, None, Some, Ok, Err}
use Rattle.std.proofs.Common.{refl, sym, ap, subst, ◌∙◌, inl, inr, arith}
use Rattle.std.proofs.lemmas.List.{append-nil}
use Rattle.dwz_def_reading.specs.Fault.{Fault}
use Rattle.dwz_def_reading.specs.Refusal.{Refusal}
use Rattle.dwz_def_reading.specs.Documents.{Doc, unit_map}
use Rattle.dwz_def_reading.specs.Entries.{of_common}
use Rattle.dwz_def_reading.specs.Faults.{map_ok}
use Rattle.dwz_def_reading.specs.Files.{First, IsFaultBy, Limits, ReadAll, ReadsBy, debug_abbrev, debug_info, file_meaning_by, no_files_before}
use Rattle.dwz_def_reading.specs.Finished.{around_in, rule_of_common}
use Rattle.dwz_def_reading.specs.FirstOf.{OfFirst}
use Rattle.dwz_def_reading.specs.Lists.{Each}
use Rattle.dwz_def_reading.specs.Meanings.{Around}
use Rattle.dwz_def_reading.specs.Meant.{units_meaning}
use Rattle.dwz_def_reading.specs.OtherPlaces.{AreMapped, LiesBelow}
use Rattle.dwz_def_reading.specs.Places.{Place, at_file}
use Rattle.dwz_def_reading.specs.Shared.{NoneShared}
use Rattle.dwz_def_reading.specs.Units.{RawUnit}
use Rattle.dwz_def_reading.proofs.FileLemmas.{file_agrees_by}
use Rattle.dwz_def_reading.proofs.ListsMapped.{lists_mapped}
use Rattle.dwz_def_reading.proofs.MeaningUnits.{units_agree}
use Rattle.dwz_def_reading.proofs.PlacesMapped.{units_mapped}
use Rattle.dwz_def_reading.proofs.PlacesRise.{entries_below, units_below}
use Rattle.dwz_words.specs.declared.options.Options.{Options}
use Rattle.dwz_report.specs.Texts.{file_text}
use Rattle.dwz_run_course.specs.declared.output.Output.{Output}
use Rattle.dwz_run_course.specs.Ends.{done_text}
use Rattle.dwz_run_course.specs.Outcome.{refuses, writes}
use Rattle.dwz_def_images.specs.Homes.{numbers_from}
use Rattle.dwz_def_images.specs.Units.{changes}
use Rattle.dwz_def_output.specs.FilesAfter.{bytes_after_by}
use Rattle.dwz_def_output.specs.Refusals.{FileFaultBy, InFile, SectionsFaultBy}
use Rattle.dwz_def_over.specs.Over.{OverFiles, limits_over, run_over, stands}
use Rattle.dwz_def_over.specs.Written.{OverFault}
use Rattle.dwz_def_tops.specs.Spots.{file_numbers}
use Rattle.dwz_def_run.specs.Out.{files_puts_by, length_if_new, puts_by, summary_lines_by, sup_name}
use Rattle.dwz_def_run.specs.Reuses.{output_over}
use Rattle.dwz_def_run.specs.Batches.{Alone, FileGot, IsCommonRead, options_alone}
use Rattle.dwz_def_run.specs.BatchesLaws.{IsUnmoved, IsWrittenAnew}

-- ---- the output of one file

abbrev Tells : Options → FileGot → Output → Type 0
Tells o file out = IsUnmoved o file out ⊎ ((bytes : List ℕ) × IsWrittenAnew o file bytes out)

module _ (o : Options) (name : List ℕ) (x : OverFiles) where
  abbrev moves : Bool
  moves = changes (run_over x).move (run_over x).units 0

  abbrev new_bytes : List ℕ
  new_bytes = bytes_after_by (stands x) (sup_name (options_alone o name)) (run_over x) 0

  abbrev old_bytes : List ℕ
  old_bytes = get_or x.contents 0 []

  puts_one : (output_over (options_alone o name) x).puts ≡ puts_by moves None name new_bytes ++ []
  unfolding files_puts_by
  puts_one = refl

  abbrev line : Bool → List ℕ
  line b = file_text (name, length old_bytes, length_if_new b new_bytes) ++ []

  text_one : done_text (options_alone o name) (output_over (options_alone o name) x) ≡ line moves
  unfolding summary_lines_by
  text_one = refl

  by_moves : (b : Bool) → moves ≡ b → Tells o (record { name = name; content = old_bytes }) (output_over (options_alone o name) x)
  by_moves true e = inr (
    new_bytes,
    (
      puts_one ∙ ap (λ (b : Bool). puts_by b None name new_bytes ++ []) e,
      text_one ∙ ap line e ∙ append-nil (file_text (name, length old_bytes, Some (length new_bytes))),
    ),
  )
  by_moves false e = inl (
    puts_one ∙ ap (λ (b : Bool). puts_by b None name new_bytes ++ []) e,
    text_one ∙ ap line e ∙ append-nil (file_text (name, length old_bytes, None)),
  )

  one_output : Tells o (record { name = name; content = old_bytes }) (output_over (options_alone o name) x)
  one_output = by_moves moves refl

first_content : {content : List ℕ} {contents : List (List ℕ)} → contents ≡ content ∷ [] → get_or contents 0 [] ≡ content
first_content same = ap (λ (w : List (List ℕ)). get_or w 0 []) same

pub output_alone : (o : Options) (common : List ℕ) (file : FileGot) (out : Output) → Alone o common file (writes out) → Tells o file out
unfolding numbers_from
output_alone o common file out is =
    let named : List ℕ → FileGot = λ w. record { name = file.name; content = w } in
    let out_of = output_over (options_alone o file.name) is.0 in
    subst (Tells o file) (sym is.3) (subst (λ (w : List ℕ). Tells o (named w) out_of) (first_content is.1.1) (one_output o file.name is.0))

-- ---- the common file by another number

abbrev placed : ℕ → Place → Place
placed number place = at_file number place.at

module _ (m n : ℕ) (bytes : List ℕ) (raw : List RawUnit) (doc : Doc Place) (reads : ReadsBy (rule_of_common m) no_files_before bytes raw doc) where
  abbrev old : Around Place
  old = around_in None m bytes raw

  abbrev new : Around Place
  new = around_in None n bytes raw

  lie : Each (LiesBelow (length (debug_info bytes))) raw
  lie =
      let read = reads.spelled in
      units_below (debug_abbrev bytes) (of_common no_files_before.entries) 0 raw 0 (debug_info bytes) (length (debug_info bytes)) read (omega (arith))

  mapped : AreMapped (placed n) (length (debug_info bytes)) old new
  mapped = record {
    sources = refl;
    all = refl;
    below = entries_below (length (debug_info bytes)) raw lie;
    place = λ p lt. refl;
    common = tt;
  }

  meant : units_meaning new raw ≡ Ok (map (unit_map (placed n)) doc.units)
  meant =
      let old_meant : units_meaning old raw ≡ Ok doc.units = ((units_agree old raw).ok doc.units).1 reads.means in
      units_mapped (placed n) (length (debug_info bytes)) old new mapped raw lie ∙ ap (map_ok (map (unit_map (placed n)))) old_meant

  -- what it says by the other number
  abbrev pub doc_by : Doc Place
  doc_by = record { machine = doc.machine; units = map (unit_map (placed n)) doc.units }

  pub by_number : ReadsBy (rule_of_common n) no_files_before bytes raw doc_by
  by_number = record {
    size = reads.size;
    elf = reads.elf;
    same_machine = reads.same_machine;
    sup = reads.sup;
    spelled = reads.spelled;
    means = ((units_agree new raw).ok (map (unit_map (placed n)) doc.units)).0 meant;
    machine = reads.machine;
    ranges = reads.ranges;
    lists = subst NoneShared (sym (lists_mapped old new refl refl raw)) reads.lists;
  }

-- where it reads by one number it has no fault by another
no_fault : (m n : ℕ) (bytes : List ℕ) (raw : List RawUnit) (doc : Doc Place) (f : Fault) → ReadsBy (rule_of_common m) no_files_before bytes raw doc
    → IsFaultBy (rule_of_common n) no_files_before bytes f → ⊥
no_fault m n bytes raw doc f reads is =
    let again = by_number m n bytes raw doc reads in
    let agrees = file_agrees_by (rule_of_common n) no_files_before bytes in
    let a : file_meaning_by (rule_of_common n) no_files_before bytes ≡ Ok (raw, doc_by m n bytes raw doc reads) = (agrees.ok _).1 again in
    let b : file_meaning_by (rule_of_common n) no_files_before bytes ≡ Err f = (agrees.err f).1 is in
    cc

-- ---- the refusal of one file

of_one_file : (Has : ℕ → Fault → Type 0) (q : Refusal) → OfFirst (InFile Has) (0 ∷ []) q → q.file ≡ 0
of_one_file Has q (inl is) = ap (λ (w : Refusal). w.file) is.2
of_one_file Has q (inr none) = absurd none.1

of_first_file : (Has : ℕ → Fault → Type 0) (numbers : List ℕ) (q : Refusal) → numbers ≡ 0 ∷ [] → OfFirst (InFile Has) numbers q → q.file ≡ 0
of_first_file Has numbers q one is = of_one_file Has q (subst (λ (w : List ℕ). OfFirst (InFile Has) w q) one is)

one_number : (l : Limits) (content : List ℕ) (contents : List (List ℕ)) (docs : List (Doc ℕ)) → contents ≡ content ∷ [] → ReadAll l contents docs
    → file_numbers 0 docs ≡ 0 ∷ []
unfolding file_numbers
one_number l content [] [] same all = absurd cc
one_number l content [] (doc ∷ docs) same all = absurd all
one_number l content (c ∷ contents) [] same all = absurd all
one_number l content (c ∷ []) (doc ∷ []) same all = refl
one_number l content (c ∷ []) (doc ∷ second ∷ docs) same all = absurd all.2
one_number l content (c ∷ d ∷ contents) docs same all = absurd cc

refused_over : (name content : List ℕ) (x : OverFiles) (q : Refusal) → x.contents ≡ content ∷ [] → ReadAll (limits_over x) x.contents x.said.docs
    → OverFault name x q → q.file ≡ 0
refused_over name content x q same all fault =
    let one : file_numbers 0 x.said.docs ≡ 0 ∷ [] = one_number (limits_over x) content x.contents x.said.docs same all in
    elim fault [
      | inl none ↦ absurd none
      | inr left ↦ elim left.1 [
        | inl is ↦ of_first_file (SectionsFaultBy (stands x) (run_over x)) (file_numbers 0 x.said.docs) q one is
        | inr is ↦ of_first_file (FileFaultBy (stands x) name (run_over x)) (file_numbers 0 x.said.docs) q one is.1
      ]
    ]

first_of_one : (l : Limits) (content : List ℕ) (q : Refusal) → First l 0 (content ∷ []) q → q.file ≡ 0
first_of_one l content q (inl is) = ap (λ (w : Refusal). w.file) is.same
first_of_one l content q (inr none) = absurd none.3

pub refusal_alone : (o : Options) (common : List ℕ) (file : FileGot) (q : Refusal) → IsCommonRead o common → Alone o common file (refuses q) → q.file ≡ 0
unfolding numbers_from
refusal_alone o common file q reads (inl (inl fault)) = absurd (no_fault (length o.files) 1 common reads.0 reads.1 fault.0 reads.2 fault.1)
refusal_alone o common file q reads (inl (inr read)) = first_of_one _ file.content q read.3
refusal_alone o common file q reads (inr over) = refused_over (sup_name (options_alone o file.name)) file.content over.0 q over.1.1 over.2.files over.3
