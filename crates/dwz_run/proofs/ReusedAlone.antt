-- A call with `--reuse` that names one FILE of many asks for what comes of that FILE among them.
use Rattle.std.proofs.Common.{◌≡◌, ◌↔◌, ℕ, suc, ◌+◌, ◌^◌, ◌≤◌, false, List, [], ◌∷◌, ◌++◌, length, map, get_or, Option, Some, None, unwrap_or, refl, sym, ap, subst, ◌∙◌, inl, inr}
use Rattle.dwz_def_reading.specs.Files.{longest_files}
use Rattle.dwz_def_reading.specs.Lists.{In}
use Rattle.dwz_def_images.specs.Homes.{numbers_from}
use Rattle.dwz_def_images.specs.Units.{changes}
use Rattle.dwz_def_readback.specs.Files.{CommonFile, Run}
use Rattle.dwz_outside.specs.declared.puts.Put.{Put}
use Rattle.dwz_outside.specs.Store.{Store, got}
use Rattle.dwz_words.specs.declared.options.Options.{Options}
use Rattle.dwz_words.proofs.Fits.{no_batch_with_reuse}
use Rattle.dwz_run_course.specs.declared.output.Output.{Output}
use Rattle.dwz_run_course.specs.declared.output.Said.TheVariants.{Slimmed}
use Rattle.dwz_run_course.specs.Gets.{gets, is_longer_than}
use Rattle.dwz_run_course.specs.Outcome.{Outcome, refuses, writes}
use Rattle.dwz_def_output.specs.FilesAfter.{bytes_after_by}
use Rattle.dwz_def_over.specs.Over.{OverFiles, run_over, stands}
use Rattle.dwz_def_over.specs.Written.{CanBeWrittenOver, OverFault}
use Rattle.dwz_def_run.specs.Out.{file_puts_by, files_puts_by, length_if_new, puts_by, summary_lines_by, sup_name}
use Rattle.dwz_def_run.specs.Comes.{ComesBy, reusing}
use Rattle.dwz_def_run.specs.Reuses.{ReusesOf, common_got, files_got, output_over}
use Rattle.dwz_def_run.specs.Batches.{FileGot, IsCommonRead, bytes_together, options_alone}
use Rattle.dwz_def_run.specs.Yields.{Yields, YieldsBy, batching}
use Rattle.dwz_run.specs.Batched.{AsksToBatch, ComesAlone, files_of}
use Rattle.dwz_run.specs.BatchLaws.{NamesAlone, ReuseAloneLaw}
use Rattle.dwz_run.specs.Reusing.{AsksToReuse}
use Rattle.dwz_run.proofs.GotAmong.{common_fits, file_got, got_all}
use Rattle.dwz_run.proofs.FirstGot.{first_got, next}
use Rattle.dwz_run.proofs.ReusedAfter.{got_over}

-- ---- the same of options that differ in other things

module _ (o p : Options) (out : o.out ≡ p.out) (named : sup_name o ≡ sup_name p) (files : o.files ≡ p.files) where
  same_puts : (k : CommonFile) (r : Run) (s : ℕ) (names : List (List ℕ)) → files_puts_by k o r s names ≡ files_puts_by k p r s names
  unfolding files_puts_by
  same_puts k r s [] = refl
  same_puts k r s (name ∷ names) =
      ap (λ (w : Option (List ℕ)). puts_by (changes r.move r.units s) w name (bytes_after_by k (sup_name o) r s) ++ files_puts_by k o r (suc s) names) out
      ∙ ap (λ (w : List ℕ). puts_by (changes r.move r.units s) p.out name (bytes_after_by k w r s) ++ files_puts_by k o r (suc s) names) named
      ∙ ap (λ (rest : List Put). file_puts_by k p r s name ++ rest) (same_puts k r (suc s) names)

  same_lines : (k : CommonFile) (r : Run) (s : ℕ) (names : List (List ℕ)) → summary_lines_by k o r s names ≡ summary_lines_by k p r s names
  unfolding summary_lines_by
  same_lines k r s [] = refl
  same_lines k r s (name ∷ names) =
      let line : List ℕ → List ℕ × ℕ × Option ℕ = λ w. (name, length (r.input.bytes s), length_if_new (changes r.move r.units s) (bytes_after_by k w r s)) in
      ap (λ (w : List ℕ). line w ∷ summary_lines_by k o r (suc s) names) named
      ∙ ap (λ (rest : List (List ℕ × ℕ × Option ℕ)). line (sup_name p) ∷ rest) (same_lines k r (suc s) names)

  same_output : (x : OverFiles) → output_over o x ≡ output_over p x
  same_output x =
      let by : List Put → List (List ℕ × ℕ × Option ℕ) → Output = λ ps ls. record {
        puts = ps;
        said = Slimmed (record { common = None; files = ls }) (length (run_over x).move.parts);
        differs = false;
        partly = false;
      } in
      ap (λ (names : List (List ℕ)). by (files_puts_by (stands x) o (run_over x) 0 names) (summary_lines_by (stands x) o (run_over x) 0 names)) files
      ∙ ap (λ (ps : List Put). by ps (summary_lines_by (stands x) o (run_over x) 0 p.files)) (same_puts (stands x) (run_over x) 0 p.files)
      ∙ ap (by (files_puts_by (stands x) p (run_over x) 0 p.files)) (same_lines (stands x) (run_over x) 0 p.files)

  same_reused : (common : List ℕ) (contents : List (List ℕ)) (outcome : Outcome) → ReusesOf o common contents outcome → ReusesOf p common contents outcome
  same_reused common contents (writes w) is = (is.0, is.1, subst (λ (n : List ℕ). CanBeWrittenOver n is.0) named is.2, is.3 ∙ same_output is.0)
  same_reused common contents (refuses q) (inl first) = inl first
  same_reused common contents (refuses q) (inr is) = inr (is.0, is.1, is.2, subst (λ (n : List ℕ). OverFault n is.0 q) named is.3)

-- ---- one FILE of many, alone

module _ {words : List (List ℕ)} {store : Store} (a : AsksToBatch words store) (reads : IsCommonRead (batching a.options) (common_got a.contents))
    (few : bytes_together (common_got a.contents) (files_of a) ≤ longest_files) (file : FileGot) (there : In file (files_of a))
    {other : List (List ℕ)} (b : AsksToReuse other store) (is : NamesAlone a file b) where
  abbrev one : List ℕ
  one = common_got a.contents

  same_got : (name c d : List ℕ) → got store name ≡ Some c → got store name ≡ Some d → c ≡ d
  same_got name c d e f = let z : Some c ≡ Some d = sym e ∙ f in cc

  got_alone : gets store 0 (b.common ∷ file.name ∷ []) ≡ Some b.contents
  got_alone =
      let names = got_over b.options b.lawful.fit b.common b.reuses ∙ ap (λ (fs : List (List ℕ)). b.common ∷ fs) is.one in
      subst (λ (ns : List (List ℕ)). gets store 0 ns ≡ Some b.contents) names b.got

  common_same : common_got b.contents ≡ one
  common_same =
      let mine = first_got store (2 ^ 28) (2 ^ 29) 0 a.common a.options.files a.contents (got_all a reads few file there) in
      let its = first_got store (2 ^ 28) (2 ^ 28) 0 b.common (file.name ∷ []) b.contents got_alone in
      same_got a.common (common_got b.contents) one (subst (λ (w : List ℕ). got store w ≡ Some (common_got b.contents)) is.same_common its) mine

  content_same : get_or b.contents 1 [] ≡ file.content
  content_same =
      let n = next store (2 ^ 28) (2 ^ 28) 0 b.common (file.name ∷ []) b.contents got_alone in
      let first : n.first ≡ one = sym (ap (λ (cs : List (List ℕ)). get_or cs 0 []) n.contents_are) ∙ common_same in
      let fits : is_longer_than (2 ^ 28) 0 n.first ≡ false = ap (is_longer_than (2 ^ 28) 0) first ∙ common_fits a reads few file there in
      let its = first_got store (2 ^ 28) (2 ^ 28) (0 + length n.first) file.name [] n.rest (n.later fits) in
      ap (λ (cs : List (List ℕ)). get_or cs 1 []) n.contents_are ∙ same_got file.name (get_or n.rest 0 []) file.content its (file_got a reads few file there)

  -- ---- what comes of it

  abbrev p : Options
  p = reusing b.options

  abbrev o : Options
  o = options_alone (batching a.options) file.name

  named : sup_name o ≡ sup_name p
  named =
      let common : a.options.batch ≡ b.options.reuse = a.batches ∙ ap (λ (w : List ℕ). Some w) (sym is.same_common) ∙ sym b.reuses in
      ap (λ (w : Option (List ℕ)). unwrap_or w (unwrap_or a.options.batch [])) (sym is.same_name)
      ∙ ap (λ (w : Option (List ℕ)). unwrap_or b.options.name (unwrap_or w [])) common

  contents_same : files_got p b.contents ≡ file.content ∷ []
  unfolding numbers_from
  contents_same =
      ap (λ (fs : List (List ℕ)). map (λ n. get_or b.contents (suc n) []) (numbers_from 0 fs)) is.one
      ∙ ap (λ (w : List ℕ). w ∷ []) content_same

  no_batch : b.options.batch ≡ None
  no_batch = no_batch_with_reuse b.options b.lawful.fit b.common b.reuses

  yields : (outcome : Outcome) → ComesAlone a file outcome → Yields b.options b.contents outcome
  unfolding numbers_from
  yields outcome comes =
      let here = same_reused o p (sym is.in_place) named (sym is.one) one (file.content ∷ []) outcome comes in
      let of_common = subst (λ (c : List ℕ). ReusesOf p c (file.content ∷ []) outcome) (sym common_same) here in
      let of_files = subst (λ (cs : List (List ℕ)). ReusesOf p (common_got b.contents) cs outcome) (sym contents_same) of_common in
      subst (λ (w : Option (List ℕ)). YieldsBy w b.options b.contents outcome) (sym no_batch)
      (subst (λ (w : Option (List ℕ)). ComesBy w b.options b.contents outcome) (sym b.reuses) of_files)

  comes_of : (outcome : Outcome) → Yields b.options b.contents outcome → ComesAlone a file outcome
  unfolding numbers_from
  comes_of outcome given =
      let plain = subst (λ (w : Option (List ℕ)). YieldsBy w b.options b.contents outcome) no_batch given in
      let of_files = subst (λ (w : Option (List ℕ)). ComesBy w b.options b.contents outcome) b.reuses plain in
      let of_common = subst (λ (cs : List (List ℕ)). ReusesOf p (common_got b.contents) cs outcome) contents_same of_files in
      let here = subst (λ (c : List ℕ). ReusesOf p c (file.content ∷ []) outcome) common_same of_common in
      same_reused p o is.in_place (sym named) is.one one (file.content ∷ []) outcome here

  pub as_alone : (outcome : Outcome) → ComesAlone a file outcome ↔ Yields b.options b.contents outcome
  as_alone outcome = (yields outcome, comes_of outcome)

pub reuse_alone : ReuseAloneLaw
reuse_alone words store a reads few file there other b is outcome = as_alone a reads few file there b is outcome
