-- Why nothing is written of files that read: a number doesn't fit, a section or a file is too large, a file can't be laid out; and in
-- which order these are found.
use Rattle.std.specs.Prelude.{◌≡◌, ℕ, ◌^◌, ◌≤◌, Bool, true, false, List, [], ◌∷◌, ◌++◌, length, Some, None, Result, Ok, Err}
use Rattle.dwz_model.specs.declared.fault.Fault.{Fault}
use Rattle.dwz_model.specs.declared.fault.Reason.TheVariants.{OperandWidth, TooLarge}
use Rattle.dwz_model.specs.declared.fault.Refusal.{Refusal}
use Rattle.dwz_def_reading.specs.declared.elf.NewContent.{NewContent}
use Rattle.dwz_def_reading.specs.ElfLayout.{layout_fault, rebuilt_length, too_large}
use Rattle.dwz_def_reading.specs.ElfReading.{elf_of}
use Rattle.dwz_def_reading.specs.Entries.{RawAttr, RawEntry}
use Rattle.dwz_def_reading.specs.Lists.{In}
use Rattle.dwz_def_reading.specs.Trees.{End, Entry, Forest}
use Rattle.dwz_def_reading.specs.Units.{RawUnit}
use Rattle.dwz_def_reading.specs.declared.exprs.Operand.{Operand}
use Rattle.dwz_def_reading.specs.Exprs.{Expression, expr_at}
use Rattle.dwz_def_reading.specs.FirstOf.{OfFirst, OrElse}
use Rattle.dwz_def_reading.specs.Files.{around_of}
use Rattle.dwz_def_reading.specs.Meanings.{Around, MeaningContext, block_begins, bytes_of, expr_context, scope_of}
use Rattle.dwz_def_reading.specs.Classes.{OfExpression}
use Rattle.dwz_def_reading.specs.Classes.{Class, class_of}
use Rattle.dwz_def_reading.specs.Meanings.{without_siblings}
use Rattle.dwz_def_reading.specs.Shared.{ListOperand, of_unit}
use Rattle.dwz_def_output.specs.Changed.{changes_by}
use Rattle.dwz_def_images.specs.Units.{changes}
use Rattle.dwz_def_readback.specs.Files.{CommonFile, Made, Run, Stands}
use Rattle.dwz_def_output.specs.Contents.{common_after, listed, operand_number_after_by, sections_after_by}
use Rattle.dwz_def_output.specs.FilesAfter.{changes_after_by, common_bytes, has_common, order_of}

-- ---- the operands of expressions in `.debug_info`

abbrev pub operands_read : Result Expression Fault → List Operand
operands_read (Ok e) = e.operands
operands_read (Err f) = []

abbrev pub operands_as : {P : Type 0} → Class → MeaningContext P → RawAttr → List Operand
operands_as OfExpression s a = operands_read (expr_at (expr_context s 1) (record { at = block_begins a; rest = bytes_of a.raw }))
operands_as _ s a = []

-- those of an attribute that holds an expression
unfoldable pub operands_of_attr : {P : Type 0} → MeaningContext P → RawAttr → List Operand
operands_of_attr s a = operands_as (class_of a.pair.form) s a

unfoldable pub operands_of_attrs : {P : Type 0} → MeaningContext P → List RawAttr → List Operand
operands_of_attrs s [] = []
operands_of_attrs s (a ∷ attrs) = operands_of_attr s a ++ operands_of_attrs s attrs

unfoldable pub operands_of_entries : {P : Type 0} → MeaningContext P → Forest RawEntry → List Operand
operands_of_entries s End = []
operands_of_entries s (Entry e children next) =
    operands_of_attrs s (without_siblings e.attrs) ++ (operands_of_entries s children ++ operands_of_entries s next)

abbrev pub operands_of_unit : {P : Type 0} → Around P → RawUnit → List Operand
operands_of_unit around u = operands_of_attrs (scope_of around u) (without_siblings u.root.attrs) ++ operands_of_entries
    (scope_of around u) u.below

abbrev pub all_of_unit : ℕ → List Operand → List ListOperand
all_of_unit unit [] = []
all_of_unit unit (o ∷ operands) = of_unit unit o ∷ all_of_unit unit operands

-- those of units, in order, each with its unit
unfoldable pub operands_of_units : {P : Type 0} → Around P → List RawUnit → List ListOperand
operands_of_units around [] = []
operands_of_units around (u ∷ units) = all_of_unit u.at (operands_of_unit around u) ++ operands_of_units around units

-- the operands of the expressions of a file, as it was read
abbrev pub spoken : Run → ℕ → List ListOperand
spoken r file = operands_of_units (around_of (r.input.bytes file) (r.input.raw file)) (r.input.raw file)

-- ---- faults of sections

abbrev pub IsOver : Bool → ℕ → ℕ → Type 0
IsOver true width number = 128 ^ width ≤ number
IsOver false width number = 256 ^ width ≤ number

-- the new number of the operand needs more bytes than it has
abbrev pub IsNarrowBy : CommonFile → Run → ℕ → ListOperand → Type 0
IsNarrowBy k r file o = IsOver o.operand.uleb o.operand.width (operand_number_after_by k r file o)

abbrev pub IsNarrow : Run → ℕ → ListOperand → Type 0
IsNarrow = IsNarrowBy Made

abbrev pub narrow_at : ℕ → ℕ → Fault
narrow_at section at = record { section = section; at = at; reason = OperandWidth }

-- the first of these operands of a section, by its place, that is so narrow
pub record FirstNarrowBy (k : CommonFile) (r : Run) (file section : ℕ) (operands : List ListOperand) (f : Fault) : Type 0 where
  pub operand : ListOperand
  pub there : In operand operands
  pub narrow : IsNarrowBy k r file operand
  pub least : (o : ListOperand) → In o operands → IsNarrowBy k r file o → operand.operand.at ≤ o.operand.at
  pub fault : f ≡ narrow_at section operand.operand.at

abbrev pub FirstNarrow : Run → ℕ → ℕ → List ListOperand → Fault → Type 0
FirstNarrow = FirstNarrowBy Made

abbrev pub too_large_at : ℕ → Fault
too_large_at section = record { section = section; at = 0; reason = TooLarge }

-- a new section has too many bytes
abbrev pub IsLargeSection : NewContent → Fault → Type 0
IsLargeSection n f = (f ≡ too_large_at n.code) × (too_large ≤ length n.bytes)

-- ---- faults of files

abbrev pub IsLargeCommon : Run → Fault → Type 0
IsLargeCommon r f = (f ≡ too_large_at 0) × (too_large ≤ length (common_bytes r))

-- of the common file: its first section that is too large, or else the file is
abbrev pub CommonFault : Run → Fault → Type 0
CommonFault r = OrElse (OfFirst IsLargeSection (changes_by (common_after r) None).new) (IsLargeCommon r)

-- of a file of which something moves: the first operand that is too narrow, in `.debug_info` or else in `.debug_loclists`; or else its
-- first section that is too large
abbrev pub SectionsFaultBy : CommonFile → Run → ℕ → Fault → Type 0
SectionsFaultBy k r file f =
    (changes r.move r.units file ≡ true)
    × OrElse (FirstNarrowBy k r file 1 (spoken r file))
    (OrElse (FirstNarrowBy k r file 7 (listed r file)) (OfFirst IsLargeSection (changes_by (sections_after_by k r file) None).new)) f

abbrev pub SectionsFault : Run → ℕ → Fault → Type 0
SectionsFault = SectionsFaultBy Made

abbrev pub IsUnplacedBy : CommonFile → List ℕ → Run → ℕ → Fault → Type 0
IsUnplacedBy k name r file f = layout_fault (elf_of (r.input.bytes file)) (changes_after_by k name r file) ≡ Some f

abbrev pub IsUnplaced : List ℕ → Run → ℕ → Fault → Type 0
IsUnplaced = IsUnplacedBy Made

abbrev pub IsLargeFileBy : CommonFile → List ℕ → Run → ℕ → Fault → Type 0
IsLargeFileBy k name r file f =
    let e = elf_of (r.input.bytes file) in
    (f ≡ too_large_at 0) × (too_large ≤ rebuilt_length e (changes_after_by k name r file) (r.input.bytes file) (order_of e))

abbrev pub IsLargeFile : List ℕ → Run → ℕ → Fault → Type 0
IsLargeFile = IsLargeFileBy Made

-- of such a file: the first section that can't be laid out around its loaded bytes; or else it is too large
abbrev pub FileFaultBy : CommonFile → List ℕ → Run → ℕ → Fault → Type 0
FileFaultBy k name r file f = (changes r.move r.units file ≡ true) × OrElse (IsUnplacedBy k name r file) (IsLargeFileBy k name r file) f

abbrev pub FileFault : List ℕ → Run → ℕ → Fault → Type 0
FileFault = FileFaultBy Made

-- ---- refusals

-- a fault in the file with that number
abbrev pub InFile : (ℕ → Fault → Type 0) → ℕ → Refusal → Type 0
InFile Has file q = (f : Fault) × Has file f × (q ≡ record { file = file; section = f.section; at = f.at; reason = f.reason })

-- a fault of the common file, if there is one
abbrev pub CommonRefusal : Run → Refusal → Type 0
CommonRefusal r q = (has_common r ≡ true) × InFile (λ file. CommonFault r) r.common q

-- one that stands already has none
abbrev pub CommonRefusalBy : CommonFile → Run → Refusal → Type 0
CommonRefusalBy Made r q = CommonRefusal r q
CommonRefusalBy (Stands c) r q = ⊥

-- The first refusal of files that read: of the common file; or else of the sections of the files, in order; or else of the files
-- themselves, in order. Of a file of which nothing moves there is none. The name is that of the common file.
abbrev pub OutFaultBy : CommonFile → List ℕ → Run → Refusal → Type 0
OutFaultBy k name r = OrElse (CommonRefusalBy k r) (OrElse (OfFirst (InFile (SectionsFaultBy k r)) r.files) (OfFirst (InFile
    (FileFaultBy k name r)) r.files))

abbrev pub OutFault : List ℕ → Run → Refusal → Type 0
OutFault = OutFaultBy Made
