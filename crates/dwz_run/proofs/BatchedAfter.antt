-- What is written of one of many files over a finished common file reads back beside it; and what FILEs and the common file hold after the puts.
use Rattle.std.proofs.Common.{◌≡◌, ◌^◌, ℕ, suc, Bool, true, List, [], ◌∷◌, length, take, Option, Some, Ok, sym, ap, subst, ◌∙◌, inl, inr}
use Rattle.std.specs.Prelude.{if◌then◌else◌}
use Rattle.std.specs.List.{list_all}
use Rattle.std.specs.Option.{option_map_or}
use Rattle.std.proofs.lemmas.Bool.{and_parts}
use Rattle.std.proofs.Math.Seq.{take-length}
use Rattle.dwz_def_reading.specs.Lists.{Each, In}
use Rattle.dwz_def_reading.specs.Texts.{NoZero}
use Rattle.dwz_def_reading.specs.Values.{AreBytes}
use Rattle.dwz_def_images.specs.Homes.{numbers_from}
use Rattle.dwz_outside.specs.declared.puts.Put.{Put}
use Rattle.dwz_outside.specs.Store.{Store, done}
use Rattle.dwz_words.specs.Asked.{behind, common_read, first_given, names_got, names_of_places}
use Rattle.dwz_words.specs.Conditions.{FitTogether, is_file_name}
use Rattle.dwz_words.specs.declared.options.Options.{Options}
use Rattle.dwz_words.proofs.Fits.{files_differ, no_sup, with_batch}
use Rattle.dwz_run_course.specs.declared.output.Output.{Output}
use Rattle.dwz_run_course.specs.Gets.{AreOfBytes, gets_by}
use Rattle.dwz_run_course.specs.Outcome.{writes}
use Rattle.dwz_def_run.specs.Out.{sup_name}
use Rattle.dwz_def_over.proofs.AllOver.{read_back_over, tied_over}
use Rattle.dwz_def_run.specs.Reuses.{common_got}
use Rattle.dwz_def_run.specs.Batches.{Batch, Batches, FileGot, got_from}
use Rattle.dwz_def_run.specs.BatchesStops.{AreOldOrAlone, FitBatch, KeepRefused}
use Rattle.dwz_def_run.specs.Yields.{batching}
use Rattle.dwz_def_run.proofs.BatchesStopping.{held_law, keeps_law, not_put_law, stops_law}
use Rattle.dwz_run.specs.Batched.{AsksToBatch, ComesAlone, HoldAlone, IsBackAlone, files_of}
use Rattle.dwz_run.proofs.CommonName.{of_either}
use Rattle.dwz_run.proofs.FirstGot.{first_held}
use Rattle.dwz_def_output.proofs.FilesRead.{content_bytes}
use Rattle.dwz_run.proofs.OfBytes.{each_bytes}

-- ---- contents are bytes

file_bytes : (contents : List (List ℕ)) → Each AreBytes contents → (names : List (List ℕ)) (n : ℕ) (file : FileGot) → In file (got_from n names contents)
    → AreBytes file.content
unfolding got_from
file_bytes contents all [] n file is = absurd is
file_bytes contents all (name ∷ names) n file (inl is) = subst AreBytes (ap (λ (f : FileGot). f.content) is) (content_bytes contents all n)
file_bytes contents all (name ∷ names) n file (inr is) = file_bytes contents all names (suc n) file is

module _ (o : Options) (fit : FitTogether o) (common : List ℕ) (batches : o.batch ≡ Some common) where
  -- ---- words

  -- the name by which files refer to the common file has no zero byte
  pub named_batch : NoZero (sup_name (batching o))
  named_batch =
      let rest = (and_parts (list_all is_file_name o.files) _ fit.file_names).1 in
      let name = (and_parts (option_map_or is_file_name o.common true) _ rest).1 in
      let out = (and_parts (option_map_or is_file_name o.name true) _ name).1 in
      let reuse = (and_parts (option_map_or is_file_name o.out true) _ out).1 in
      let batch = (and_parts (option_map_or is_file_name o.reuse true) _ reuse).1 in
      of_either o.name o.batch (and_parts (option_map_or is_file_name o.name true) _ name).0
      (and_parts (option_map_or is_file_name o.batch true) (option_map_or is_file_name o.sup true) batch).0

  -- the common file is got first
  pub got_batch : names_got o ≡ common ∷ o.files
  got_batch =
      let others = with_batch o fit common batches in
      ap (λ (b : Bool). behind (common_read o) (if b then names_of_places o.files else o.files)) others.2
      ∙ ap (λ (sup : Option (List ℕ)). behind (first_given sup (first_given o.reuse o.batch)) o.files) (no_sup o fit others.4 others.5)
      ∙ ap (λ (reuse : Option (List ℕ)). behind (first_given reuse o.batch) o.files) others.1
      ∙ ap (λ (batch : Option (List ℕ)). behind batch o.files) batches

  pub fit_batch : FitBatch (batching o)
  fit_batch = record { distinct = files_differ o fit (with_batch o fit common batches).2; apart = fit.batch_apart }

module _ {words : List (List ℕ)} {store : Store} (a : AsksToBatch words store) where
  -- ---- what is written of one

  pub file_is_bytes : AreOfBytes a.contents → (file : FileGot) → In file (files_of a) → AreBytes file.content
  file_is_bytes bytes file is = file_bytes a.contents (each_bytes a.contents bytes) a.options.files 1 file is

  pub back_alone : AreOfBytes a.contents → (file : FileGot) → In file (files_of a) → (out : Output) → ComesAlone a file (writes out) → IsBackAlone a file
  unfolding numbers_from
  back_alone bytes file is out comes =
      let content : AreBytes file.content = file_is_bytes bytes file is in
      let x = comes.0 in
      let all : Each AreBytes x.contents = subst (Each AreBytes) (sym comes.1.1) (content, tt) in
      record {
        files = x;
        contents = comes.1;
        can = comes.2;
        back = read_back_over (sup_name (batching a.options)) x all comes.2;
        tied = tied_over (sup_name (batching a.options)) x all comes.2 (named_batch a.options a.lawful.fit a.common a.batches);
      }

  -- ---- what is held

  fit : FitBatch (batching a.options)
  fit = fit_batch a.options a.lawful.fit a.common a.batches

  pub hold_alone : (all : Batch) → Batches (batching a.options) a.contents (Ok all) → HoldAlone a (done all.puts store)
  hold_alone all is file there outcome comes = held_law (batching a.options) a.contents all fit is file there outcome comes store

  -- the common file keeps what it had
  common_stays : (all : Batch) → Batches (batching a.options) a.contents (Ok all) → (k : ℕ) → done (take k all.puts) store a.common ≡ store a.common
  common_stays all is k = (not_put_law (batching a.options) a.contents all fit is a.common a.batches).1 store k

  -- which is what was read of it
  pub kept_between : (all : Batch) → Batches (batching a.options) a.contents (Ok all) → (k : ℕ) → done (take k all.puts) store a.common ≡ Some (common_got a.contents)
  kept_between all is k =
      let got = subst (λ (names : List (List ℕ)). gets_by (2 ^ 28) (2 ^ 29) store 0 names ≡ Some a.contents) (got_batch a.options a.lawful.fit a.common a.batches) a.got in
      common_stays all is k ∙ first_held store (2 ^ 28) (2 ^ 29) 0 a.common a.options.files a.contents got is.0.2.size

  pub kept_after : (all : Batch) → Batches (batching a.options) a.contents (Ok all) → done all.puts store a.common ≡ Some (common_got a.contents)
  kept_after all is = ap (λ (ps : List Put). done ps store a.common) (sym (take-length all.puts)) ∙ kept_between all is (length all.puts)

  -- and after the first puts each FILE is as it was, or as it is put alone, and as it was where it is refused
  pub stops_alone : (all : Batch) → Batches (batching a.options) a.contents (Ok all) → (k : ℕ)
      → AreOldOrAlone (batching a.options) a.contents store (done (take k all.puts) store)
  stops_alone all is k = stops_law (batching a.options) a.contents all fit is store k

  pub keeps_alone : (all : Batch) → Batches (batching a.options) a.contents (Ok all) → (k : ℕ)
      → KeepRefused (batching a.options) a.contents store (done (take k all.puts) store)
  keeps_alone all is k = keeps_law (batching a.options) a.contents all fit is store k
