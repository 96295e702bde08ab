-- The first fault of an ELF file is one of its faults.
use Rattle.std.proofs.Common.{ℕ, List, [], ◌∷◌, ◌++◌, inl, inr}
use Rattle.dwz_model.specs.declared.fault.Fault.{Fault}
use Rattle.dwz_def_reading.specs.declared.elf.FileHeader.{FileHeader}
use Rattle.dwz_def_reading.specs.ElfFaults
use Rattle.dwz_def_reading.specs.ElfFaults.{Either, ElfManner, InOrder, IsElfFaultFor, IsFirstElfFaultFor}
use Rattle.dwz_def_reading.specs.ElfHeaders.{file_header}
use Rattle.dwz_def_reading.specs.ElfNames.{sections_in}
use Rattle.dwz_def_reading.specs.FirstOf.{OrElse}

-- what the one says of a fault, the other does
record Covers (First Any : Fault → Type 0) : Type 0 where
  each : (f : Fault) → First f → Any f

itself : (First : Fault → Type 0) → Covers First First
itself First = record { each = λ f h. h }

weaker : (First Any Then AnyThen : Fault → Type 0) → Covers First Any → Covers Then AnyThen → Covers (OrElse First Then) (Either Any AnyThen)
weaker First Any Then AnyThen one others = record { each = λ f h. elim h [ inl is ↦ inl (one.each f is) | inr p ↦ inr (others.each f p.1) ] }

weaker_in_order : {X : Type 0} (One Any : List X → X → Fault → Type 0) → ((before : List X) (x : X) → Covers (One before x) (Any before x)) → (before xs : List X)
    → Covers (InOrder OrElse One before xs) (InOrder Either Any before xs)
weaker_in_order One Any each before [] = record { each = λ f h. h }
weaker_in_order One Any each before (x ∷ xs) = weaker _ _ _ _ (each before x) (weaker_in_order One Any each (before ++ x ∷ []) xs)

weaker_fields : (m : ElfManner) (bytes : List ℕ) (file : FileHeader) → Covers (ElfFaults.FieldRowsFor m OrElse bytes file) (ElfFaults.FieldRowsFor m Either bytes file)
weaker_fields m bytes file =
    weaker _ _ _ _ (itself _)
    (weaker _ _ _ _ (itself _)
    (weaker _ _ _ _ (itself _)
    (weaker _ _ _ _ (itself _)
    (weaker _ _ _ _ (itself _)
    (weaker _ _ _ _ (itself _) (itself _))))))

first_covered : (m : ElfManner) (bytes : List ℕ) → Covers (IsFirstElfFaultFor m bytes) (IsElfFaultFor m bytes)
first_covered m bytes =
    let file = file_header bytes in
    let sections = sections_in bytes in
    weaker _ _ _ _ (weaker _ _ _ _ (itself _) (itself _))
    (weaker _ _ _ _ (weaker_fields m bytes file)
    (weaker _ _ _ _ (itself _)
    (weaker _ _ _ _ (weaker_in_order _ _ (λ before s. itself _) [] sections)
    (weaker _ _ _ _ (weaker_in_order _ _ (λ before s. weaker _ _ _ _ (itself _) (itself _)) [] sections)
    (itself _)))))

pub first_is_one : (m : ElfManner) (bytes : List ℕ) (f : Fault) → IsFirstElfFaultFor m bytes f → IsElfFaultFor m bytes f
first_is_one m bytes = (first_covered m bytes).each
