-- What is written of a file without its partial units reads by itself, and means the same: the contents are bytes, so its own and those of its common file are.
use Rattle.std.proofs.Common.{◌≡◌, ℕ, List, [], Option, Some, None, get_or, sym, subst, inl}
use Rattle.std.specs.Option.{option_map}
use Rattle.dwz_model.specs.declared.fault.Refusal.{Refusal}
use Rattle.dwz_model.specs.Lists.{Each}
use Rattle.dwz_def_reading.specs.Values.{AreBytes}
use Rattle.dwz_def_expand.specs.OneFile.{FileRead, OneFile}
use Rattle.dwz_def_expand.specs.NewFile.{NewRefusal}
use Rattle.dwz_expand_file.proofs.ReadLemmas.{new_file_reads}
use Rattle.dwz_law_expand.specs.Told.{CommonIsBytes, IsOfBytes}
use Rattle.dwz_law_expand.proofs.MadeLemmas.{reads_without_sup}
use Rattle.dwz_law_expand.proofs.MeetLemmas.{same_meaning}
use Rattle.dwz_words.specs.declared.options.Options.{Options}
use Rattle.dwz_def_run.specs.Compares.{common_in}
use Rattle.dwz_def_run.specs.Expands.{IsOneRead, one_in}
use Rattle.dwz_run.specs.Expanding.{MeansAfter, ReadsAfter}
use Rattle.dwz_def_output.proofs.FilesRead.{content_bytes}

module _ (contents : List (List ℕ)) (all : Each AreBytes contents) where
  file_bytes : (sup : Option (List ℕ)) → AreBytes (one_in sup contents)
  file_bytes None = content_bytes contents all 0
  file_bytes (Some name) = content_bytes contents all 1

  common_bytes : (sup : Option (List ℕ)) (common : Option FileRead) → option_map (λ c. c.bytes) common ≡ common_in sup contents → CommonIsBytes common
  common_bytes sup None e = tt
  common_bytes None (Some c) e = absurd cc
  common_bytes (Some name) (Some c) e = subst AreBytes (sym (same c.bytes (get_or contents 0 []) e)) (content_bytes contents all 0) where
    same : (a b : List ℕ) → Some a ≡ Some b → a ≡ b
    same a b e = cc

module _ (o : Options) (contents : List (List ℕ)) (all : Each AreBytes contents) (f : OneFile) (is : IsOneRead (common_in o.sup contents) (one_in o.sup contents) f)
    (free : (q : Refusal) → ¬ NewRefusal f q) where
  bytes : IsOfBytes f
  bytes = (subst AreBytes (sym is.file) (file_bytes contents all o.sup), common_bytes contents all o.sup f.common is.beside)

  pub reads_after : ReadsAfter f
  reads_after few = new_file_reads reads_without_sup f bytes is.reads few free

  -- and it means the same
  pub means_after : MeansAfter f
  means_after fit = same_meaning f bytes is.reads (λ q has. free q (inl has)) fit
