-- What is written of files over a finished common file reads back beside it, and is held after, as are FILEs and common file after the first puts.
use Rattle.std.proofs.Common.{◌≡◌, ℕ, suc, Bool, true, List, [], ◌∷◌, get_or, length, map, take, Option, Some, sym, ap, subst, ◌∙◌}
use Rattle.std.specs.Prelude.{if◌then◌else◌}
use Rattle.std.specs.List.{list_all}
use Rattle.std.specs.Option.{option_map_or}
use Rattle.std.proofs.lemmas.Bool.{and_parts}
use Rattle.std.proofs.Math.Seq.{take-length}
use Rattle.dwz_model.specs.Lists.{Each}
use Rattle.dwz_def_reading.specs.Texts.{NoZero}
use Rattle.dwz_def_reading.specs.Values.{AreBytes}
use Rattle.dwz_def_images.specs.Homes.{numbers_from}
use Rattle.dwz_outside.specs.declared.puts.Put.{Put}
use Rattle.dwz_outside.specs.Store.{Store, done}
use Rattle.dwz_words.specs.Asked.{behind, common_read, first_given, names_got, names_of_places}
use Rattle.dwz_words.specs.Conditions.{FitTogether, is_file_name}
use Rattle.dwz_words.specs.declared.options.Options.{Options}
use Rattle.dwz_words.proofs.Fits.{no_sup, with_reuse}
use Rattle.dwz_run_course.specs.Gets.{AreOfBytes, gets}
use Rattle.dwz_def_over.specs.Over.{OverFiles}
use Rattle.dwz_def_over.specs.Written.{CanBeWrittenOver, ReadBackOver, AreTiedOver, file_over}
use Rattle.dwz_def_over.proofs.AllOver.{read_back_over, tied_over}
use Rattle.dwz_def_run.specs.Comes.{reusing}
use Rattle.dwz_def_run.specs.Reuses.{HasContents, common_got, files_got, puts_over}
use Rattle.dwz_def_run.specs.ReusesStops.{AreOldOrMadeOver, HoldOver}
use Rattle.dwz_def_run.proofs.FitReuse.{fit_over}
use Rattle.dwz_def_run.proofs.ReusesGotten.{common_held, got_whole}
use Rattle.dwz_def_run.proofs.NotPut.{holds_over, not_put, stops_over}
use Rattle.dwz_run.specs.Reusing.{name_over}
use Rattle.dwz_run.proofs.CommonName.{of_either}
use Rattle.dwz_def_output.proofs.FilesRead.{content_bytes}
use Rattle.dwz_run.proofs.OfBytes.{each_bytes}

-- ---- contents are bytes

each_at : (contents : List (List ℕ)) → Each AreBytes contents → (names : List (List ℕ)) (i : ℕ) → Each AreBytes (map (λ n. get_or contents (suc n) []) (numbers_from i names))
unfolding numbers_from
each_at contents all [] i = tt
each_at contents all (x ∷ names) i = (content_bytes contents all (suc i), each_at contents all names (suc i))

module _ (o : Options) (fit : FitTogether o) (common : List ℕ) (reuses : o.reuse ≡ Some common) where
  -- ---- words

  -- the name by which files refer to the common file has no zero byte
  pub named_over : NoZero (name_over o)
  named_over =
      let rest = (and_parts (list_all is_file_name o.files) _ fit.file_names).1 in
      let name = (and_parts (option_map_or is_file_name o.common true) _ rest).1 in
      let out = (and_parts (option_map_or is_file_name o.name true) _ name).1 in
      let last = (and_parts (option_map_or is_file_name o.out true) _ out).1 in
      of_either o.name o.reuse (and_parts (option_map_or is_file_name o.name true) _ name).0 (and_parts (option_map_or is_file_name o.reuse true) _ last).0

  -- the common file is got first
  pub got_over : names_got o ≡ common ∷ o.files
  got_over =
      let others = with_reuse o fit common reuses in
      ap (λ (b : Bool). behind (common_read o) (if b then names_of_places o.files else o.files)) others.1
      ∙ ap (λ (sup : Option (List ℕ)). behind (first_given sup (first_given o.reuse o.batch)) o.files) (no_sup o fit others.3 others.4)
      ∙ ap (λ (reuse : Option (List ℕ)). behind (first_given reuse o.batch) o.files) reuses

  -- ---- what is written

  module _ (contents : List (List ℕ)) (x : OverFiles) (has : HasContents (common_got contents) (files_got o contents) x)
      (can : CanBeWrittenOver (name_over o) x) where
    pub are_bytes : AreOfBytes contents → Each AreBytes x.contents
    are_bytes bytes = subst (Each AreBytes) (sym has.1) (each_at contents (each_bytes contents bytes) o.files 0)

    pub back_over : AreOfBytes contents → ReadBackOver x (file_over (name_over o) x)
    back_over bytes = read_back_over (name_over o) x (are_bytes bytes) can

    pub ties_over : AreOfBytes contents → AreTiedOver (name_over o) x
    ties_over bytes = tied_over (name_over o) x (are_bytes bytes) can named_over

    -- ---- what is held

    module _ (store : Store) (got : gets store 0 (names_got o) ≡ Some contents) where
      whole : gets store 0 (common ∷ o.files) ≡ Some (x.common ∷ x.contents)
      whole =
          let is = subst (λ (names : List (List ℕ)). gets store 0 names ≡ Some contents) got_over got in
          is ∙ ap (λ (cs : List (List ℕ)). Some cs) (got_whole store common o.files contents x can.read is has.0 has.1)

      pub after_over : HoldOver (reusing o) x (done (puts_over (reusing o) x) store)
      after_over = holds_over (reusing o) x (fit_over o fit common reuses) can.read store common whole

      pub between_over : (k : ℕ) → AreOldOrMadeOver (reusing o) x (done (take k (puts_over (reusing o) x)) store)
      between_over k file name nth = stops_over (reusing o) x (fit_over o fit common reuses) can.read store common whole k file name nth

      -- the common file keeps its bytes
      pub common_kept : (k : ℕ) → done (take k (puts_over (reusing o) x)) store common ≡ Some x.common
      common_kept k = (not_put (reusing o) x (fit_over o fit common reuses) common reuses).1 store k ∙ common_held store common o.files x can.read whole

      pub kept_over : done (puts_over (reusing o) x) store common ≡ Some x.common
      kept_over = ap (λ (ps : List Put). done ps store common) (sym (take-length (puts_over (reusing o) x))) ∙ common_kept (length (puts_over (reusing o) x))
