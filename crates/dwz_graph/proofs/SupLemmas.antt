-- What is wrong with the `.debug_sup` of a file, by whether it is there.
use Rattle.std.proofs.Common.{◌≡◌, ℕ, Bool, true, false, cond, not, List, Option, Some, None, ap, sym, ◌∙◌}
use Rattle.std.specs.Option.{is_some}
use Rattle.dwz_model.specs.declared.fault.Reason.TheVariants.{BadSup}
use Rattle.dwz_def_reading.specs.ElfFaults.{file_fault}
use Rattle.dwz_def_reading.specs.ElfReading.{ElfView, elf_of, section_range}
use Rattle.dwz_def_reading.specs.Finished.{common_sup_fault, debug_sup, file_sum_fault, file_sup_fault, has_sup, is_of_common, sum_fault, sum_of}
use Rattle.dwz_def_reading.specs.Supplementary.{read_sup}

-- the section with that code is there, as code tells it
pub is_there : (bytes : List ℕ) (elf : ElfView) (o : Option (ℕ × ℕ)) (absent b : Bool) → elf ≡ elf_of bytes → o ≡ section_range elf.sections 9 → is_some o ≡ not absent → absent ≡ b
    → has_sup bytes ≡ not b
unfolding elf_of
is_there bytes elf o absent b elf_is o_is present is = ap is_some (sym (o_is ∙ ap (λ (v : ElfView). section_range v.sections 9) elf_is)) ∙ present ∙ ap not is

pub none_common : (bytes : List ℕ) → has_sup bytes ≡ false → Some (file_fault BadSup 0) ≡ common_sup_fault bytes
unfolding common_sup_fault
none_common bytes e = ap (λ (b : Bool). cond b (sum_fault is_of_common (sum_of bytes) (debug_sup bytes) (read_sup (debug_sup bytes))) (Some (file_fault BadSup 0))) (sym e)

pub some_common : (bytes : List ℕ) → has_sup bytes ≡ true → sum_fault is_of_common (sum_of bytes) (debug_sup bytes) (read_sup (debug_sup bytes)) ≡ common_sup_fault bytes
unfolding common_sup_fault
some_common bytes e = ap (λ (b : Bool). cond b (sum_fault is_of_common (sum_of bytes) (debug_sup bytes) (read_sup (debug_sup bytes))) (Some (file_fault BadSup 0))) (sym e)

pub none_file : (common : Option (List ℕ)) (bytes : List ℕ) → has_sup bytes ≡ false → None ≡ file_sup_fault common bytes
unfolding file_sup_fault
none_file common bytes e = ap (λ (b : Bool). cond b (file_sum_fault common (debug_sup bytes)) None) (sym e)

pub some_file : (common : Option (List ℕ)) (bytes : List ℕ) → has_sup bytes ≡ true → file_sum_fault common (debug_sup bytes) ≡ file_sup_fault common bytes
unfolding file_sup_fault
some_file common bytes e = ap (λ (b : Bool). cond b (file_sum_fault common (debug_sup bytes)) None) (sym e)
