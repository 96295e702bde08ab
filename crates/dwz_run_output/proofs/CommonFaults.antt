-- The common file of a run has just the faults that its sections say; and where they say none it can be made.
use Rattle.std.proofs.Common.{◌≡◌, ℕ, ◌<◌, ◌≤◌, true, false, List, length, Some, None, Option, refl, sym, ap, subst, ◌∙◌, inl, inr}
use Rattle.std.proofs.lemmas.Bool.{cases_lt}
use Rattle.dwz_model.specs.declared.fault.Fault.{Fault}
use Rattle.dwz_model.specs.declared.fault.Refusal.{Refusal}
use Rattle.dwz_model.specs.declared.sections.Sections.{Sections}
use Rattle.dwz_def_reading.specs.ElfHeaders.{file_header}
use Rattle.dwz_def_reading.specs.ElfLayout.{too_large}
use Rattle.dwz_def_reading.specs.Supplementary.{sup_bytes}
use Rattle.dwz_def_output.specs.Changed.{changes_by}
use Rattle.dwz_def_reading.specs.SupplementaryFile.{common_file, common_sum}
use Rattle.dwz_sup.specs.Common.{common_length}
use Rattle.dwz_sup.proofs.LengthLemmas.{length_common}
use Rattle.dwz_def_readback.specs.Files.{Run}
use Rattle.dwz_words.specs.declared.options.Options.{Options}
use Rattle.dwz_def_output.specs.Contents.{common_after}
use Rattle.dwz_def_output.specs.FilesAfter.{common_bytes, sup_of}
use Rattle.dwz_def_run.specs.Out.{sup_name}
use Rattle.dwz_def_output.specs.Refusals.{CommonFault, CommonRefusal, IsLargeSection, too_large_at}
use Rattle.dwz_def_reading.specs.FirstOf.{OfFirst, OrElse}
use Rattle.dwz_def_output.proofs.FreeLemmas.{Nothing, not_then}
use Rattle.dwz_run_output.specs.declared.common.CommonFile.{CommonFile}
use Rattle.dwz_run_output.specs.Common.{FaultWith, IsCommonMade, IsLargeWith}
use Rattle.dwz_def_output.specs.NewFiles.{IsNewCommon}

-- ---- its faults

-- what is found first with a file of that length
abbrev FaultAt : Sections → ℕ → Fault → Type 0
FaultAt s len = OrElse (OfFirst IsLargeSection (changes_by s None).new) (λ f. (f ≡ too_large_at 0) × (too_large ≤ len))

length_of_common : (r : Run) → length (common_bytes r) ≡ common_length (common_after r)
unfolding common_bytes
length_of_common r = length_common (file_header (r.input.bytes 0)).machine (file_header (r.input.bytes 0)).flags (common_after r)

pub fault_of_run : (r : Run) (s : Sections) (f : Fault) → s ≡ common_after r → FaultWith (Some s) f → CommonFault r f
fault_of_run r s f same fault =
    subst (λ (n : ℕ). FaultAt (common_after r) n f) (sym (length_of_common r)) (subst (λ (t : Sections). FaultAt t (common_length t) f) same fault)

fault_of_sections : (r : Run) (s : Sections) (f : Fault) → s ≡ common_after r → CommonFault r f → FaultWith (Some s) f
fault_of_sections r s f same fault =
    subst (λ (t : Sections). FaultAt t (common_length t) f) (sym same) (subst (λ (n : ℕ). FaultAt (common_after r) n f) (length_of_common r) fault)

-- where none is found of what was made for the common file, it isn't refused
pub no_refusal : (r : Run) (common : Option Sections) → IsNewCommon r common → Nothing (FaultWith common) → Nothing (CommonRefusal r)
no_refusal r None none free q is = let z : true ≡ false = sym is.0 ∙ none in absurd (let w : true ≡ false = z in cc)
no_refusal r (Some s) new free q is = let found = is.1 in free found.0 (fault_of_sections r s found.0 new.1 found.1)

-- and one that is found refuses it
pub refusal : (r : Run) (common : Option Sections) (f : Fault) (n : ℕ) (q : Refusal) → IsNewCommon r common → FaultWith common f → n ≡ r.common
    → q ≡ record { file = n; section = f.section; at = f.at; reason = f.reason } → CommonRefusal r q
refusal r None f n q none has number is = absurd has
refusal r (Some s) f n q new has number is =
    let named : ℕ → Refusal = λ k. record { file = k; section = f.section; at = f.at; reason = f.reason } in
    (new.0, (f, fault_of_run r s f new.1 has, is ∙ ap named number))

-- ---- it can be made

pub small_with : (s : Sections) → Nothing (FaultWith (Some s)) → common_length s < too_large
small_with s free = elim (cases_lt (common_length s) too_large) [
  | inl less ↦ less
  | inr large ↦ absurd (not_then (OfFirst IsLargeSection (changes_by s None).new) (IsLargeWith s) free (too_large_at 0) (refl, large))
]

pub small_file : (machine flags : ℕ) (s : Sections) → common_length s < too_large → length (common_file machine flags s) < too_large
small_file machine flags s small = subst (λ (n : ℕ). n < too_large) (sym (length_common machine flags s)) small

module _ (o : Options) (r : Run) (s : Sections) (new : IsNewCommon r (Some s)) where
  file_is : (first : List ℕ) (machine flags : ℕ) → first ≡ r.input.bytes 0 → machine ≡ (file_header first).machine → flags ≡ (file_header first).flags
      → common_file machine flags s ≡ common_bytes r
  unfolding common_bytes
  file_is first machine flags same m f =
      ap (λ (n : ℕ). common_file n flags s) m
      ∙ (ap (λ (n : ℕ). common_file (file_header first).machine n s) f
      ∙ (ap (λ (b : List ℕ). common_file (file_header b).machine (file_header b).flags s) same
      ∙ ap (λ (t : Sections). common_file (file_header (r.input.bytes 0)).machine (file_header (r.input.bytes 0)).flags t) new.1))

  sup_is : (name sum : List ℕ) → name ≡ sup_name o → sum ≡ common_sum s
      → sup_bytes (record { supplementary = false; name = name; sum = sum }) ≡ sup_bytes (sup_of (sup_name o) r)
  sup_is name sum n is =
      ap (λ (w : List ℕ). sup_bytes (record { supplementary = false; name = w; sum = sum })) n
      ∙ ap (λ (w : List ℕ). sup_bytes (record { supplementary = false; name = sup_name o; sum = w })) (is ∙ ap common_sum new.1)

  pub made_so : (first name sum : List ℕ) (machine flags : ℕ) (c : CommonFile) → first ≡ r.input.bytes 0 → machine ≡ (file_header first).machine → flags ≡ (file_header first).flags
      → name ≡ sup_name o → sum ≡ common_sum s → c.bytes ≡ common_file machine flags s → c.sup ≡ sup_bytes (record { supplementary = false; name = name; sum = sum })
      → IsCommonMade o r (Some c)
  made_so first name sum machine flags c same m f n is bytes sup = (new.0, bytes ∙ file_is first machine flags same m f, sup ∙ sup_is name sum n is)
