-- At most one refusal is the first.
use Rattle.std.proofs.Common.{◌≡◌, ℕ, List, [], ◌∷◌, None, sym, ap, ◌∙◌, inl, inr, arith}
use Rattle.dwz_model.specs.declared.fault.Fault.{Fault}
use Rattle.dwz_def_reading.specs.declared.elf.NewContent.{NewContent}
use Rattle.dwz_def_reading.specs.Shared.{ListOperand}
use Rattle.dwz_def_output.specs.Changed.{changes_by}
use Rattle.dwz_def_readback.specs.Files.{Run}
use Rattle.dwz_def_output.specs.Contents.{common_after, listed, sections_after}
use Rattle.dwz_def_output.specs.Refusals.{CommonFault, CommonRefusal, FileFault, FirstNarrow, InFile, IsLargeCommon, IsLargeFile, IsLargeSection, IsUnplaced, OutFault, SectionsFault}
use Rattle.dwz_def_reading.specs.FirstOf.{OfFirst, OrElse}
use Rattle.dwz_def_output.specs.Refusals.{narrow_at, spoken}

abbrev pub AtMostOne : {X : Type 0} → (X → Type 0) → Type 0
AtMostOne {X} P = (x y : X) → P x → P y → x ≡ y

pub or_else_one : {X : Type 0} (First Then : X → Type 0) → AtMostOne First → AtMostOne Then → AtMostOne (OrElse First Then)
or_else_one First Then one other x y (inl a) (inl b) = one x y a b
or_else_one First Then one other x y (inl a) (inr b) = absurd (b.0 x a)
or_else_one First Then one other x y (inr a) (inl b) = absurd (a.0 y b)
or_else_one First Then one other x y (inr a) (inr b) = other x y a.1 b.1

pub of_first_one : {X Y : Type 0} (Has : Y → X → Type 0) → ((y : Y) → AtMostOne (Has y)) → (ys : List Y) → AtMostOne (OfFirst Has ys)
of_first_one Has one [] = λ x z a b. absurd a
of_first_one Has one (y ∷ ys) = or_else_one (Has y) (OfFirst Has ys) (one y) (of_first_one Has one ys)

narrow_one : (r : Run) (file section : ℕ) (operands : List ListOperand) → AtMostOne (FirstNarrow r file section operands)
narrow_one r file section operands f g a b =
    let low = a.least b.operand b.there b.narrow in
    let high = b.least a.operand a.there a.narrow in
    let same : a.operand.operand.at ≡ b.operand.operand.at = omega (arith, low, high) in
    a.fault ∙ ap (narrow_at section) same ∙ sym b.fault

large_one : (n : NewContent) → AtMostOne (IsLargeSection n)
large_one n f g a b = a.0 ∙ sym b.0

common_one : (r : Run) → AtMostOne (CommonFault r)
common_one r = or_else_one (OfFirst IsLargeSection (changes_by (common_after r) None).new) (IsLargeCommon r) (of_first_one IsLargeSection large_one (changes_by (common_after r) None).new)
    (λ f g a b. a.0 ∙ sym b.0)

sections_one : (r : Run) (file : ℕ) → AtMostOne (SectionsFault r file)
sections_one r file f g a b =
    or_else_one (FirstNarrow r file 1 (spoken r file)) _ (narrow_one r file 1 (spoken r file))
    (or_else_one (FirstNarrow r file 7 (listed r file)) _ (narrow_one r file 7 (listed r file)) (of_first_one IsLargeSection large_one (changes_by (sections_after r file) None).new)) f g a.1 b.1

file_one : (name : List ℕ) (r : Run) (file : ℕ) → AtMostOne (FileFault name r file)
file_one name r file f g a b = or_else_one (IsUnplaced name r file) (IsLargeFile name r file) (λ x y p q. cc) (λ x y p q. p.0 ∙ sym q.0) f g a.1 b.1

in_file_one : (Has : ℕ → Fault → Type 0) → ((file : ℕ) → AtMostOne (Has file)) → (file : ℕ) → AtMostOne (InFile Has file)
in_file_one Has one file p q a b = a.2 ∙ ap (λ (f : Fault). record { file = file; section = f.section; at = f.at; reason = f.reason }) (one file a.0 b.0 a.1 b.1) ∙ sym b.2

pub one_refusal : (name : List ℕ) (r : Run) → AtMostOne (OutFault name r)
one_refusal name r =
    or_else_one (CommonRefusal r) _ (λ p q a b. in_file_one (λ file. CommonFault r) (λ file. common_one r) r.common p q a.1 b.1)
    (or_else_one (OfFirst (InFile (SectionsFault r)) r.files) (OfFirst (InFile (FileFault name r)) r.files)
    (of_first_one (InFile (SectionsFault r)) (in_file_one (SectionsFault r) (sections_one r)) r.files)
    (of_first_one (InFile (FileFault name r)) (in_file_one (FileFault name r) (file_one name r)) r.files))
