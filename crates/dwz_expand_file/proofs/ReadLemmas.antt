-- The new file reads, where nothing refuses it.
use Rattle.std.proofs.Common.{◌≡◌, ℕ, ◌<◌, List, Option, Some, None, refl, inl, inr}
use Rattle.std.proofs.lemmas.Bool.{cases_lt}
use Rattle.dwz_model.specs.declared.fault.Fault.{Fault}
use Rattle.dwz_model.specs.declared.fault.Refusal.{Refusal}
use Rattle.dwz_def_reading.specs.ElfLayout.{layout_fault, rebuilt_length, too_large}
use Rattle.dwz_def_reading.specs.ElfReading.{elf_of}
use Rattle.dwz_def_output.specs.FilesAfter.{order_of}
use Rattle.dwz_def_output.specs.Refusals.{too_large_at}
use Rattle.dwz_def_output.proofs.Orders.{is_order}
use Rattle.dwz_def_expand.specs.Dropped.{without_sup}
use Rattle.dwz_def_expand.specs.OneFile.{OneFile}
use Rattle.dwz_def_expand.specs.Output.{ExpandRefusal, new_sections}
use Rattle.dwz_def_expand.specs.NewFile.{FileFault, IsUnplaced, NewRefusal, at_header, file_with}
use Rattle.dwz_law_expand.specs.MadeLaws.{CanBeLaid, MadeReadLaw, changes_of}
use Rattle.dwz_expand_file.specs.Laws.{NewFileReadsLaw}

module _ (f : OneFile) (free : (q : Refusal) → ¬ NewRefusal f q) where
  abbrev base : List ℕ
  base = without_sup f.file.bytes

  abbrev order : List (ℕ × ℕ)
  order = order_of (elf_of base)

  no_refusal : (q : Refusal) → ¬ ExpandRefusal f q
  no_refusal q is = free q (inl is)

  no_fault : (x : Fault) → ¬ FileFault f.file.bytes (new_sections f) x
  no_fault x is = free (record { file = 0; section = x.section; at = x.at; reason = x.reason }) (inr (no_refusal, (x, is, refl)))

  fits : layout_fault (elf_of base) (changes_of f) ≡ None
  fits = by (layout_fault (elf_of base) (changes_of f)) refl where
    by : (o : Option Fault) → layout_fault (elf_of base) (changes_of f) ≡ o → o ≡ None
    by None e = refl
    by (Some x) e = absurd (no_fault (at_header f.file.bytes x) (inl (x, e, refl)))

  not_unplaced : (x : Fault) → ¬ IsUnplaced f.file.bytes (new_sections f) x
  not_unplaced x is = no_fault x (inl is)

  small : rebuilt_length (elf_of base) (changes_of f) base order < too_large
  small = elim (cases_lt (rebuilt_length (elf_of base) (changes_of f) base order) too_large) [
    | inl less ↦ less
    | inr large ↦ absurd (no_fault (too_large_at 0) (inr (not_unplaced, (refl, large))))
  ]

  laid : CanBeLaid f base order
  laid = record { fits = fits; is_order = is_order (elf_of base); small = small }

pub new_file_reads : MadeReadLaw → NewFileReadsLaw
unfolding file_with
new_file_reads law f bytes reads few free = law f (order f free) bytes reads few (laid f free) (no_refusal f free)
