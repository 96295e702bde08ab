-- Either some refusal is the first, or none is.
use Rattle.std.proofs.Common.{◌≡◌, ◌⊎◌, ℕ, ◌≤◌, Bool, true, false, List, [], ◌∷◌, length, Option, Some, None, refl, inl, inr, arith}
use Rattle.std.proofs.lemmas.Bool.{cases_lt}
use Rattle.dwz_model.specs.declared.fault.Fault.{Fault}
use Rattle.dwz_def_reading.specs.declared.elf.NewContent.{NewContent}
use Rattle.dwz_def_reading.specs.ElfLayout.{layout_fault, rebuilt_length, too_large}
use Rattle.dwz_def_reading.specs.ElfReading.{elf_of}
use Rattle.dwz_def_reading.specs.Shared.{ListOperand}
use Rattle.dwz_def_output.specs.Changed.{changes_by}
use Rattle.dwz_def_images.specs.Units.{changes}
use Rattle.dwz_def_readback.specs.Files.{Run}
use Rattle.dwz_def_output.specs.Contents.{common_after, listed, sections_after}
use Rattle.dwz_def_output.specs.FilesAfter.{changes_after, common_bytes, has_common, order_of}
use Rattle.dwz_def_output.specs.Refusals.{CommonFault, CommonRefusal, FileFault, FirstNarrow, InFile, IsLargeCommon, IsLargeFile, IsLargeSection, IsUnplaced, OutFault, SectionsFault}
use Rattle.dwz_def_reading.specs.FirstOf.{OfFirst, OrElse}
use Rattle.dwz_def_output.specs.Refusals.{narrow_at, spoken, too_large_at}
use Rattle.dwz_def_output.proofs.FreeLemmas.{Nothing}
use Rattle.dwz_def_output.proofs.NoneNarrow.{least_of, not_narrow}

abbrev pub Either : {X : Type 0} → (X → Type 0) → Type 0
Either {X} P = ((x : X) × P x) ⊎ Nothing P

or_else : {X : Type 0} (First Then : X → Type 0) → Either First → Either Then → Either (OrElse First Then)
or_else First Then (inl a) other = inl (a.0, inl a.1)
or_else First Then (inr free) (inl b) = inl (b.0, inr (free, b.1))
or_else First Then (inr free) (inr none) = inr (λ x is. elim is [ inl a ↦ free x a | inr b ↦ none x b.1 ])

of_first : {X Y : Type 0} (Has : Y → X → Type 0) → ((y : Y) → Either (Has y)) → (ys : List Y) → Either (OfFirst Has ys)
of_first Has one [] = inr (λ x is. is)
of_first Has one (y ∷ ys) = or_else (Has y) (OfFirst Has ys) (one y) (of_first Has one ys)

-- where something holds, and there of what comes
where_so : {X : Type 0} (b : Bool) (P : X → Type 0) → Either P → Either (λ (x : X). (b ≡ true) × P x)
where_so true P (inl a) = inl (a.0, (refl, a.1))
where_so true P (inr free) = inr (λ x is. free x is.1)
where_so false P e = inr (λ x is. not_so is.0) where
  not_so : false ≡ true → ⊥
  not_so e = absurd cc

large_is : (code size : ℕ) → Either (λ (f : Fault). (f ≡ too_large_at code) × (too_large ≤ size))
large_is code size = elim (cases_lt size too_large) [
  | inl less ↦ inr (λ f is. (let most = is.1 in absurd (omega (arith, less, most))))
  | inr large ↦ inl (too_large_at code, (refl, large))
]

narrow_is : (r : Run) (file section : ℕ) (operands : List ListOperand) → Either (FirstNarrow r file section operands)
narrow_is r file section operands = elim (least_of r file operands) [
  | inl fit ↦ inr (λ f is. not_narrow r file is.operand (fit is.operand is.there) is.narrow)
  | inr l ↦ inl (narrow_at section l.operand.operand.at, record { operand = l.operand; there = l.there; narrow = l.narrow; least = l.least; fault = refl })
]

sections_large : (new : List NewContent) → Either (OfFirst IsLargeSection new)
sections_large new = of_first IsLargeSection (λ n. large_is n.code (length n.bytes)) new

some_fault : (found : Option Fault) → Either (λ (f : Fault). found ≡ Some f)
some_fault None = inr (λ f is. absurd cc)
some_fault (Some f) = inl (f, refl)

in_file : (Has : ℕ → Fault → Type 0) → ((file : ℕ) → Either (Has file)) → (file : ℕ) → Either (InFile Has file)
in_file Has one file = by (one file) where
  by : Either (Has file) → Either (InFile Has file)
  by (inl a) = inl (record { file = file; section = a.0.section; at = a.0.at; reason = a.0.reason }, (a.0, a.1, refl))
  by (inr free) = inr (λ q is. free is.0 is.1)

module _ (name : List ℕ) (r : Run) where
  common_either : Either (CommonFault r)
  common_either =
      or_else (OfFirst IsLargeSection (changes_by (common_after r) None).new) (IsLargeCommon r)
      (sections_large (changes_by (common_after r) None).new) (large_is 0 (length (common_bytes r)))

  sections_either : (file : ℕ) → Either (SectionsFault r file)
  sections_either file =
      where_so (changes r.move r.units file) _
      (or_else (FirstNarrow r file 1 (spoken r file)) _ (narrow_is r file 1 (spoken r file))
      (or_else (FirstNarrow r file 7 (listed r file)) _ (narrow_is r file 7 (listed r file)) (sections_large (changes_by (sections_after r file) None).new)))

  file_either : (file : ℕ) → Either (FileFault name r file)
  file_either file =
      where_so (changes r.move r.units file) _
      (or_else (IsUnplaced name r file) (IsLargeFile name r file)
      (some_fault (layout_fault (elf_of (r.input.bytes file)) (changes_after name r file)))
      (large_is 0 (rebuilt_length (elf_of (r.input.bytes file)) (changes_after name r file) (r.input.bytes file) (order_of (elf_of (r.input.bytes file))))))

  pub either : Either (OutFault name r)
  either =
      or_else (CommonRefusal r) _ (where_so (has_common r) (InFile (λ file. CommonFault r) r.common) (in_file (λ file. CommonFault r) (λ file. common_either) r.common))
      (or_else (OfFirst (InFile (SectionsFault r)) r.files) (OfFirst (InFile (FileFault name r)) r.files)
      (of_first (InFile (SectionsFault r)) (in_file (SectionsFault r) sections_either) r.files)
      (of_first (InFile (FileFault name r)) (in_file (FileFault name r) file_either) r.files))
