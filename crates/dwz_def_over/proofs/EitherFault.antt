-- Either some refusal of what is written over a common file that stands is the first, or none is.
use Rattle.std.proofs.Common.{◌≡◌, ◌⊎◌, ℕ, ◌≤◌, Bool, true, false, List, [], ◌∷◌, length, Option, Some, None, refl, inl, inr, arith}
use Rattle.std.proofs.lemmas.Bool.{cases_lt}
use Rattle.dwz_def_reading.specs.Fault.{Fault}
use Rattle.dwz_def_reading.specs.declared.elf.NewContent.{NewContent}
use Rattle.dwz_def_reading.specs.ElfLayout.{layout_fault, rebuilt_length, too_large}
use Rattle.dwz_def_reading.specs.ElfReading.{elf_of}
use Rattle.dwz_def_reading.specs.Shared.{ListOperand}
use Rattle.dwz_def_output.specs.Changed.{changes_by}
use Rattle.dwz_def_images.specs.Units.{changes}
use Rattle.dwz_def_readback.specs.Files.{Run, CommonFile, Finished, Stands}
use Rattle.dwz_def_output.specs.Contents.{listed, sections_after_by}
use Rattle.dwz_def_output.specs.FilesAfter.{order_of, changes_after_by}
use Rattle.dwz_def_output.specs.Refusals.{InFile, IsLargeSection, narrow_at, spoken, too_large_at, CommonRefusalBy, FileFaultBy, FirstNarrowBy, IsLargeFileBy, IsUnplacedBy, OutFaultBy, SectionsFaultBy}
use Rattle.dwz_def_reading.specs.FirstOf.{OfFirst, OrElse}
use Rattle.dwz_def_output.proofs.FreeLemmas.{Nothing}
use Rattle.dwz_def_over.proofs.NoneTooNarrow.{least_of, not_narrow}

abbrev pub Either : {X : Type 0} → (X → Type 0) → Type 0
Either {X} P = ((x : X) × P x) ⊎ Nothing P

or_else : {X : Type 0} (First Then : X → Type 0) → Either First → Either Then → Either (OrElse First Then)
or_else First Then (inl a) other = inl (a.0, inl a.1)
or_else First Then (inr free) (inl b) = inl (b.0, inr (free, b.1))
or_else First Then (inr free) (inr none) = inr (λ x is. elim is [ inl a ↦ free x a | inr b ↦ none x b.1 ])

of_first : {X Y : Type 0} (Has : Y → X → Type 0) → ((y : Y) → Either (Has y)) → (ys : List Y) → Either (OfFirst Has ys)
of_first Has one [] = inr (λ x is. is)
of_first Has one (y ∷ ys) = or_else (Has y) (OfFirst Has ys) (one y) (of_first Has one ys)

-- where something holds, and there of what comes
where_so : {X : Type 0} (b : Bool) (P : X → Type 0) → Either P → Either (λ (x : X). (b ≡ true) × P x)
where_so true P (inl a) = inl (a.0, (refl, a.1))
where_so true P (inr free) = inr (λ x is. free x is.1)
where_so false P e = inr (λ x is. not_so is.0) where
  not_so : false ≡ true → ⊥
  not_so e = absurd cc

large_is : (code size : ℕ) → Either (λ (f : Fault). (f ≡ too_large_at code) × (too_large ≤ size))
large_is code size = elim (cases_lt size too_large) [
  | inl less ↦ inr (λ f is. (let most = is.1 in absurd (omega (arith, less, most))))
  | inr large ↦ inl (too_large_at code, (refl, large))
]

narrow_is : (cf : CommonFile) (r : Run) (file section : ℕ) (operands : List ListOperand) → Either (FirstNarrowBy cf r file section operands)
narrow_is cf r file section operands = elim (least_of cf r file operands) [
  | inl fit ↦ inr (λ f is. not_narrow cf r file is.operand (fit is.operand is.there) is.narrow)
  | inr l ↦ inl (narrow_at section l.operand.operand.at, record { operand = l.operand; there = l.there; narrow = l.narrow; least = l.least; fault = refl })
]

sections_large : (new : List NewContent) → Either (OfFirst IsLargeSection new)
sections_large new = of_first IsLargeSection (λ n. large_is n.code (length n.bytes)) new

some_fault : (found : Option Fault) → Either (λ (f : Fault). found ≡ Some f)
some_fault None = inr (λ f is. absurd cc)
some_fault (Some f) = inl (f, refl)

in_file : (Has : ℕ → Fault → Type 0) → ((file : ℕ) → Either (Has file)) → (file : ℕ) → Either (InFile Has file)
in_file Has one file = by (one file) where
  by : Either (Has file) → Either (InFile Has file)
  by (inl a) = inl (record { file = file; section = a.0.section; at = a.0.at; reason = a.0.reason }, (a.0, a.1, refl))
  by (inr free) = inr (λ q is. free is.0 is.1)

module _ (name : List ℕ) (cf : CommonFile) (r : Run) where
  sections_either : (file : ℕ) → Either (SectionsFaultBy cf r file)
  sections_either file =
      where_so (changes r.move r.units file) _
      (or_else (FirstNarrowBy cf r file 1 (spoken r file)) _ (narrow_is cf r file 1 (spoken r file))
      (or_else (FirstNarrowBy cf r file 7 (listed r file)) _ (narrow_is cf r file 7 (listed r file)) (sections_large (changes_by (sections_after_by cf r file) None).new)))

  file_either : (file : ℕ) → Either (FileFaultBy cf name r file)
  file_either file =
      where_so (changes r.move r.units file) _
      (or_else (IsUnplacedBy cf name r file) (IsLargeFileBy cf name r file)
      (some_fault (layout_fault (elf_of (r.input.bytes file)) (changes_after_by cf name r file)))
      (large_is 0 (rebuilt_length (elf_of (r.input.bytes file)) (changes_after_by cf name r file) (r.input.bytes file) (order_of (elf_of (r.input.bytes file))))))

-- a common file that stands has none
pub either_over : (name : List ℕ) (c : Finished) (r : Run) → Either (OutFaultBy (Stands c) name r)
either_over name c r =
    or_else (CommonRefusalBy (Stands c) r) _ (inr (λ q none. none))
    (or_else (OfFirst (InFile (SectionsFaultBy (Stands c) r)) r.files) (OfFirst (InFile (FileFaultBy (Stands c) name r)) r.files)
    (of_first (InFile (SectionsFaultBy (Stands c) r)) (in_file (SectionsFaultBy (Stands c) r) (sections_either name (Stands c) r)) r.files)
    (of_first (InFile (FileFaultBy (Stands c) name r)) (in_file (FileFaultBy (Stands c) name r) (file_either name (Stands c) r)) r.files))
