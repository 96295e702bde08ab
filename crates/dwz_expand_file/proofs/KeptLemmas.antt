-- What can be kept of a file by itself can be kept of one that may have `.debug_sup`.
use Rattle.std.proofs.Common.{◌≡◌, Bool, true, false, List, [], ◌∷◌, ◌++◌, None, refl}
use Rattle.std.specs.Prelude.{not, ◌&&◌, ◌||◌, ◌==◌, slice_get}
use Rattle.dwz_def_reading.specs.declared.elf.Section.{Section}
use Rattle.dwz_def_reading.specs.ElfFaults.{by_itself, read_back}
use Rattle.dwz_def_reading.specs.ElfHeaders.{has_relocations, is_there}
use Rattle.dwz_def_reading.specs.ElfReading.{first_in, is_rewritten, unkept_fault_for}
use Rattle.dwz_def_reading.proofs.ElfFaultLemmas.{test_false}
use Rattle.dwz_def_reading.proofs.PlainFaults.{no_fault, none_or}
use Rattle.dwz_def_output.proofs.SectionLemmas.{or_none}

fewer : (there index sup moved : Bool) → (there && (index || moved)) ≡ false → (there && ((index && not sup) || moved)) ≡ false
fewer false index sup moved none = refl
fewer true false sup moved none = none
fewer true true sup moved none = absurd cc

module _ (all : List Section) where
  one_beside : (s : Section) → unkept_fault_for by_itself all s ≡ None → unkept_fault_for read_back all s ≡ None
  unfolding unkept_fault_for
  one_beside s none =
      let parts = or_none _ _ none in
      none_or _ _
      (no_fault _ _ _ (fewer (is_there s.header) s.name.is_index (s.name.code == 9) (has_relocations s.header && is_rewritten (slice_get all s.header.info)) (test_false _ _ _ parts.0))) parts.1

  rest_beside : (before xs : List Section) → first_in (λ before. unkept_fault_for by_itself all) before xs ≡ None → first_in (λ before. unkept_fault_for read_back all) before xs ≡ None
  unfolding first_in
  rest_beside before [] none = refl
  rest_beside before (s ∷ xs) none =
      let parts = or_none _ _ none in
      none_or _ _ (one_beside s parts.0) (rest_beside (before ++ s ∷ []) xs parts.1)

pub kept_beside : (all : List Section) → first_in (λ before. unkept_fault_for by_itself all) [] all ≡ None → first_in (λ before. unkept_fault_for read_back all) [] all ≡ None
kept_beside all none = rest_beside all [] all none
