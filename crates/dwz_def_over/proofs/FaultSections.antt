-- What refuses files over a common file that stands is of a section.
use Rattle.std.proofs.Common.{◌≡◌, ℕ, ◌≤◌, Bool, true, false, List, [], ◌∷◌, ◌++◌, length, Option, Some, None, refl, sym, subst, inl, inr, lit≤}
use Rattle.dwz_def_reading.specs.Fault.{Fault}
use Rattle.dwz_def_reading.specs.Reason.TheVariants.{Layout}
use Rattle.dwz_def_reading.specs.Refusal.{Refusal}
use Rattle.dwz_def_reading.specs.Sections.{Sections}
use Rattle.dwz_def_reading.specs.declared.elf.NewContent.{NewContent}
use Rattle.dwz_def_reading.specs.declared.elf.Section.{Section}
use Rattle.dwz_def_reading.specs.ElfFaults.{file_fault}
use Rattle.dwz_def_reading.specs.ElfLayout.{Changes, inside_fault, is_inside, layout_fault}
use Rattle.dwz_def_reading.specs.ElfReading.{ElfView, elf_of, fault_if, first_in}
use Rattle.dwz_def_reading.specs.FirstOf.{◌or◌, OfFirst, OrElse}
use Rattle.dwz_def_reading.specs.Lists.{In}
use Rattle.dwz_def_reading.specs.Shared.{ListOperand}
use Rattle.dwz_def_output.specs.Changed.{changes_by, if_new}
use Rattle.dwz_def_readback.specs.Files.{Run, CommonFile, Finished, Stands}
use Rattle.dwz_def_output.specs.Contents.{listed, sections_after_by}
use Rattle.dwz_def_output.specs.Refusals.{InFile, IsLargeSection, spoken, CommonRefusalBy, FileFaultBy, FirstNarrowBy, IsLargeFileBy, IsUnplacedBy, OutFaultBy, SectionsFaultBy}
use Rattle.dwz_def_output.specs.FilesAfter.{changes_after_by}

-- what has this also has that
abbrev Gives : {X : Type 0} → (X → Type 0) → (X → Type 0) → Type 0
Gives {X} P Q = (x : X) → P x → Q x

or_else : {X : Type 0} (First Then Q : X → Type 0) → Gives First Q → Gives Then Q → Gives (OrElse First Then) Q
or_else First Then Q first other x (inl a) = first x a
or_else First Then Q first other x (inr b) = other x b.1

of_first : {X Y : Type 0} (Has : Y → X → Type 0) (Q : X → Type 0) (ys : List Y) → ((y : Y) → In y ys → Gives (Has y) Q) → Gives (OfFirst Has ys) Q
of_first Has Q [] all = λ x is. absurd is
of_first Has Q (y ∷ ys) all = or_else (Has y) (OfFirst Has ys) Q (all y (inl refl)) (of_first Has Q ys (λ z there. all z (inr there)))

abbrev OfSection : Fault → Type 0
OfSection f = f.section ≤ 9

-- ---- new sections

of_new : (code : ℕ) (o : Option (List ℕ)) (rest : List NewContent) (n : NewContent) → code ≤ 9 → (In n rest → n.code ≤ 9) → In n (if_new code o ++ rest) → n.code ≤ 9
of_new code None rest n small others there = others there
of_new code (Some bytes) rest n small others (inl same) = subst (λ (m : NewContent). m.code ≤ 9) same small
of_new code (Some bytes) rest n small others (inr there) = others there

last_new : (code : ℕ) (o : Option (List ℕ)) (n : NewContent) → code ≤ 9 → In n (if_new code o) → n.code ≤ 9
last_new code None n small there = absurd there
last_new code (Some bytes) n small (inl same) = subst (λ (m : NewContent). m.code ≤ 9) same small
last_new code (Some bytes) n small (inr there) = absurd there

few_codes : (s : Sections) (n : NewContent) → In n (changes_by s None).new → n.code ≤ 9
few_codes s n =
    let last = if_new 8 s.aranges in
    let lists = if_new 7 s.loclists ++ last in
    let lines = if_new 6 s.line ++ lists in
    let offsets = if_new 5 s.offsets ++ lines in
    let strs = if_new 3 s.strs ++ offsets in
    let abbrevs = if_new 2 (Some s.«abbrev») ++ strs in
    of_new 1 (Some s.info) abbrevs n (lit≤ tt)
    (of_new 2 (Some s.«abbrev») strs n (lit≤ tt)
    (of_new 3 s.strs offsets n (lit≤ tt)
    (of_new 5 s.offsets lines n (lit≤ tt) (of_new 6 s.line lists n (lit≤ tt) (of_new 7 s.loclists last n (lit≤ tt) (last_new 8 s.aranges n (lit≤ tt)))))))

large : (s : Sections) → Gives (OfFirst IsLargeSection (changes_by s None).new) OfSection
large s = of_first IsLargeSection OfSection (changes_by s None).new (λ n there f is. subst OfSection (sym is.0) (few_codes s n there))

-- ---- a file

unplaced : (e : ElfView) (changes : Changes) (before sections : List Section) (f : Fault) → first_in (inside_fault e changes) before sections ≡ Some f → OfSection f
unfolding first_in inside_fault
unplaced e changes before [] f is = absurd cc
unplaced e changes before (s ∷ sections) f is = by (unplaced e changes (before ++ s ∷ []) sections f) (is_inside e changes (length before) s) is where
  by : (first_in (inside_fault e changes) (before ++ s ∷ []) sections ≡ Some f → OfSection f) → (b : Bool)
      → (fault_if b Layout s.header.at or first_in (inside_fault e changes) (before ++ s ∷ []) sections) ≡ Some f → OfSection f
  by later true e = subst OfSection (let same : file_fault Layout s.header.at ≡ f = cc in same) (lit≤ tt)
  by later false e = later e

module _ (name : List ℕ) (cf : CommonFile) (r : Run) where
  narrow : (file section : ℕ) (operands : List ListOperand) → section ≤ 9 → Gives (FirstNarrowBy cf r file section operands) OfSection
  narrow file section operands small f is = subst OfSection (sym is.fault) small

  of_sections : (file : ℕ) → Gives (SectionsFaultBy cf r file) OfSection
  of_sections file f is =
      or_else (FirstNarrowBy cf r file 1 (spoken r file)) _ OfSection (narrow file 1 (spoken r file) (lit≤ tt))
      (or_else (FirstNarrowBy cf r file 7 (listed r file)) _ OfSection (narrow file 7 (listed r file) (lit≤ tt)) (large (sections_after_by cf r file))) f is.1

  of_file : (file : ℕ) → Gives (FileFaultBy cf name r file) OfSection
  unfolding layout_fault
  of_file file f is =
      or_else (IsUnplacedBy cf name r file) (IsLargeFileBy cf name r file) OfSection
      (λ x u. unplaced (elf_of (r.input.bytes file)) (changes_after_by cf name r file) [] (elf_of (r.input.bytes file)).sections x u)
      (λ x l. subst OfSection (sym l.0) (lit≤ tt)) f is.1

  abbrev IsOf : Refusal → Type 0
  IsOf q = q.section ≤ 9

  in_file : (Has : ℕ → Fault → Type 0) → ((file : ℕ) → Gives (Has file) OfSection) → (file : ℕ) → Gives (InFile Has file) IsOf
  in_file Has all file q is = subst IsOf (sym is.2) (all file is.0 is.1)

-- a common file that stands has none
pub of_section_over : (name : List ℕ) (c : Finished) (r : Run) → Gives (OutFaultBy (Stands c) name r) (λ (q : Refusal). q.section ≤ 9)
of_section_over name c r =
    or_else (CommonRefusalBy (Stands c) r) _ (IsOf name (Stands c) r) (λ q none. absurd none)
    (or_else (OfFirst (InFile (SectionsFaultBy (Stands c) r)) r.files) (OfFirst (InFile (FileFaultBy (Stands c) name r)) r.files) (IsOf name (Stands c) r)
    (of_first (InFile (SectionsFaultBy (Stands c) r)) (IsOf name (Stands c) r) r.files (λ file there. in_file name (Stands c) r (SectionsFaultBy (Stands c) r) (of_sections name (Stands c) r) file))
    (of_first (InFile (FileFaultBy (Stands c) name r)) (IsOf name (Stands c) r) r.files (λ file there. in_file name (Stands c) r (FileFaultBy (Stands c) name r) (of_file name (Stands c) r) file)))
