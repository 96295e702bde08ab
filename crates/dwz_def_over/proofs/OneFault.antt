-- At most one refusal of what is written over a common file that stands is the first.
use Rattle.std.proofs.Common.{◌≡◌, ℕ, List, None, sym, ap, ◌∙◌, arith}
use Rattle.dwz_def_reading.specs.Fault.{Fault}
use Rattle.dwz_def_reading.specs.declared.elf.NewContent.{NewContent}
use Rattle.dwz_def_reading.specs.Shared.{ListOperand}
use Rattle.dwz_def_output.specs.Changed.{changes_by}
use Rattle.dwz_def_readback.specs.Files.{Run, CommonFile, Finished, Stands}
use Rattle.dwz_def_output.specs.Contents.{listed, sections_after_by}
use Rattle.dwz_def_output.specs.Refusals.{InFile, IsLargeSection, narrow_at, spoken, CommonRefusalBy, FileFaultBy, FirstNarrowBy, IsLargeFileBy, IsUnplacedBy, OutFaultBy, SectionsFaultBy}
use Rattle.dwz_def_reading.specs.FirstOf.{OfFirst}
use Rattle.dwz_def_output.proofs.OneRefusal.{AtMostOne, of_first_one, or_else_one}

narrow_one : (cf : CommonFile) (r : Run) (file section : ℕ) (operands : List ListOperand) → AtMostOne (FirstNarrowBy cf r file section operands)
narrow_one cf r file section operands f g a b =
    let low = a.least b.operand b.there b.narrow in
    let high = b.least a.operand a.there a.narrow in
    let same : a.operand.operand.at ≡ b.operand.operand.at = omega (arith, low, high) in
    a.fault ∙ ap (narrow_at section) same ∙ sym b.fault

large_one : (n : NewContent) → AtMostOne (IsLargeSection n)
large_one n f g a b = a.0 ∙ sym b.0

sections_one : (cf : CommonFile) (r : Run) (file : ℕ) → AtMostOne (SectionsFaultBy cf r file)
sections_one cf r file f g a b =
    or_else_one (FirstNarrowBy cf r file 1 (spoken r file)) _ (narrow_one cf r file 1 (spoken r file))
    (or_else_one (FirstNarrowBy cf r file 7 (listed r file)) _ (narrow_one cf r file 7 (listed r file)) (of_first_one IsLargeSection large_one (changes_by (sections_after_by cf r file) None).new)) f g a.1 b.1

file_one : (name : List ℕ) (cf : CommonFile) (r : Run) (file : ℕ) → AtMostOne (FileFaultBy cf name r file)
file_one name cf r file f g a b = or_else_one (IsUnplacedBy cf name r file) (IsLargeFileBy cf name r file) (λ x y p q. cc) (λ x y p q. p.0 ∙ sym q.0) f g a.1 b.1

in_file_one : (Has : ℕ → Fault → Type 0) → ((file : ℕ) → AtMostOne (Has file)) → (file : ℕ) → AtMostOne (InFile Has file)
in_file_one Has one file p q a b = a.2 ∙ ap (λ (f : Fault). record { file = file; section = f.section; at = f.at; reason = f.reason }) (one file a.0 b.0 a.1 b.1) ∙ sym b.2

-- a common file that stands has none
pub one_fault : (name : List ℕ) (c : Finished) (r : Run) → AtMostOne (OutFaultBy (Stands c) name r)
one_fault name c r =
    or_else_one (CommonRefusalBy (Stands c) r) _ (λ p q a b. absurd a)
    (or_else_one (OfFirst (InFile (SectionsFaultBy (Stands c) r)) r.files) (OfFirst (InFile (FileFaultBy (Stands c) name r)) r.files)
    (of_first_one (InFile (SectionsFaultBy (Stands c) r)) (in_file_one (SectionsFaultBy (Stands c) r) (sections_one (Stands c) r)) r.files)
    (of_first_one (InFile (FileFaultBy (Stands c) name r)) (in_file_one (FileFaultBy (Stands c) name r) (file_one name (Stands c) r)) r.files))
