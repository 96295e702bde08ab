-- A file that is read back has no fault where each of its sections is kept, or is `.debug_sup`.
use Rattle.std.proofs.Common.{◌≡◌, ◌⊎◌, inl, inr, ℕ, zero, suc, Bool, true, false, eqb, List, [], ◌∷◌, ◌++◌, length, Option, Some, None, refl, ap, ◌∙◌}
use Rattle.std.specs.Prelude.{not, ◌&&◌, ◌||◌, slice_get}
use Rattle.std.proofs.lemmas.Bool.{eq-eqb}
use Rattle.dwz_model.specs.declared.fault.Fault.{Fault}
use Rattle.dwz_def_reading.specs.declared.elf.Section.{Section}
use Rattle.dwz_def_reading.specs.ElfFaults.{IsElfFaultFor, read_back}
use Rattle.dwz_def_reading.specs.ElfHeaders.{file_header, has_relocations, is_compressed, is_there}
use Rattle.dwz_def_reading.specs.ElfNames.{names_header, sections_in}
use Rattle.dwz_def_reading.specs.ElfReading.{first_in, header_fault, identification_fault, is_rewritten, missing_fault, names_fault, unkept_fault, unkept_fault_for}
use Rattle.dwz_def_reading.proofs.ElfFaultLemmas.{elf_is_sound, test_false}
use Rattle.dwz_def_reading.proofs.PlainFaults.{no_fault, none_or}
use Rattle.dwz_def_output.proofs.FaultLemmas.{HasGoodFields, fields_good, is_faultless}
use Rattle.dwz_def_output.proofs.SectionLemmas.{or_none}

-- the section is `.debug_sup`, with which a file is read back
pub record IsPlainSup (s : Section) : Type 0 where
  pub there : is_there s.header ≡ true
  pub code : s.name.code ≡ 9
  pub no_relocations : has_relocations s.header ≡ false
  pub whole : is_compressed s.header ≡ false

and_none : (b : Bool) → (b && false) ≡ false
and_none true = refl
and_none false = refl

-- what is no index is none of fewer
fewer : (there index other moved : Bool) → (there && (index || moved)) ≡ false → (there && ((index && other) || moved)) ≡ false
fewer false index other moved none = refl
fewer true false other moved none = none
fewer true true other moved none = absurd cc

-- nor is `.debug_sup` without relocations
sup_index : (there index coded relocations rewritten : Bool) → there ≡ true → coded ≡ true → relocations ≡ false → (there && ((index && not coded) || (relocations && rewritten))) ≡ false
sup_index there index coded relocations rewritten is_there is_sup none = (λ j. is_there j && ((index && not (is_sup j)) || (none j && rewritten))) ∙ by index where
  by : (b : Bool) → (true && ((b && not true) || (false && rewritten))) ≡ false
  by true = refl
  by false = refl

-- a section that is kept is kept where more may be there, and so is `.debug_sup`
kept_back : (all : List Section) (s : Section) → (unkept_fault all s ≡ None) ⊎ IsPlainSup s → unkept_fault_for read_back all s ≡ None
unfolding unkept_fault_for
kept_back all s (inl none) =
    let parts = or_none _ _ none in
    let rewritten = has_relocations s.header && is_rewritten (slice_get all s.header.info) in
    none_or _ _ (no_fault _ _ _ (fewer (is_there s.header) s.name.is_index (not (eqb s.name.code 9)) rewritten (test_false _ _ _ parts.0))) parts.1
kept_back all s (inr sup) =
    let rewritten = is_rewritten (slice_get all s.header.info) in
    let coded = eq-eqb s.name.code 9 sup.code in
    none_or _ _
    (no_fault _ _ _ (sup_index (is_there s.header) s.name.is_index (eqb s.name.code 9) (has_relocations s.header) rewritten sup.there coded sup.no_relocations))
    (no_fault _ _ _ (ap (λ (b : Bool). is_there s.header && s.name.is_debug && b) sup.whole ∙ and_none (is_there s.header && s.name.is_debug)))

-- no item of a list has a fault
none_in : {X : Type 0} (fault_of : X → Option Fault) (before xs : List X) → ((k : ℕ) (x : X) → slice_get xs k ≡ Some x → fault_of x ≡ None) → first_in (λ b. fault_of) before xs ≡ None
unfolding first_in
none_in fault_of before [] each = refl
none_in fault_of before (x ∷ xs) each = none_or (fault_of x) _ (each zero x refl) (none_in fault_of (before ++ x ∷ []) xs (λ k y is. each (suc k) y is))

-- what is known of a file, so that it is read back without a fault
pub record CanBeBack (bytes : List ℕ) : Type 0 where
  pub identified : identification_fault bytes ≡ None
  pub fields : HasGoodFields 65279 (length bytes) (file_header bytes)
  pub names : names_fault (length bytes) (names_header bytes) ≡ None
  pub headers : first_in (header_fault (length bytes) (file_header bytes).names) [] (sections_in bytes) ≡ None
  pub kept : (k : ℕ) (s : Section) → slice_get (sections_in bytes) k ≡ Some s → (unkept_fault (sections_in bytes) s ≡ None) ⊎ IsPlainSup s
  pub debug : missing_fault (sections_in bytes) ≡ None

pub no_back_fault : (bytes : List ℕ) → CanBeBack bytes → (f : Fault) → ¬ IsElfFaultFor read_back bytes f
no_back_fault bytes can = (elf_is_sound read_back bytes).none (is_faultless read_back bytes (record {
  identified = can.identified;
  fields = fields_good read_back (length bytes) (file_header bytes) can.fields;
  names = can.names;
  headers = can.headers;
  kept = none_in (unkept_fault_for read_back (sections_in bytes)) [] (sections_in bytes) (λ k s is. kept_back (sections_in bytes) s (can.kept k s is));
  debug = can.debug;
}))
