-- What is wrong with an ELF file or with its units is placed in the file, in `.debug_info` or in `.debug_abbrev`.
use Rattle.std.proofs.Common.{◌≡◌, ℕ, ◌+◌, ◌≤◌, List, [], ◌∷◌, ◌++◌, length, sym, subst, inl, inr, lit≤}
use Rattle.dwz_model.specs.declared.fault.Fault.{Fault}
use Rattle.dwz_model.specs.declared.fault.Reason.{Reason}
use Rattle.dwz_model.specs.declared.fault.Reason.TheVariants.{NotElf}
use Rattle.dwz_model.specs.declared.place.Pair.{Pair}
use Rattle.dwz_def_reading.specs.Input.{Input}
use Rattle.dwz_def_reading.specs.Shape.{Shape}
use Rattle.dwz_def_reading.specs.Rows.{RowView}
use Rattle.dwz_def_reading.specs.declared.elf.FileHeader.{FileHeader}
use Rattle.dwz_def_reading.specs.declared.elf.Section.{Section}
use Rattle.dwz_def_reading.specs.Abbrevs.{Declaration}
use Rattle.dwz_def_reading.specs.ElfFaults.{FieldRowsFor, InOrder, IsFirstElfFault, KeptRowsFor, FaultRow, WrongByte, by_itself, file_fault}
use Rattle.dwz_def_reading.specs.FirstOf.{OrElse}
use Rattle.dwz_def_reading.specs.ElfHeaders.{file_header}
use Rattle.dwz_def_reading.specs.ElfNames.{sections_in}
use Rattle.dwz_def_reading.specs.Entries.{IsAttrFault, IsDeclaredFault, IsFrontFault, Mode, RawEntry, SpellsFront, UnitContext, fault_in_entry}
use Rattle.dwz_def_reading.specs.Faults.{bad_abbrev, info_fault}
use Rattle.dwz_def_reading.specs.Trees.{Behind, Cut, Faulty, Here, Inside, Position, behind, first_below}
use Rattle.dwz_def_reading.specs.Units.{IsFaultBehindHeader, IsUnitFault, IsUnitsFault}
use Rattle.dwz_def_reading.specs.Values.{IsShapeFault}

-- it is placed in the file or in one of the sections that are written
abbrev pub OfSection : Fault → Type 0
OfSection f = f.section ≤ 9

pub same_place : (f g : Fault) → f ≡ g → OfSection g → OfSection f
same_place f g e is = subst OfSection (sym e) is

-- ---- the ELF file

-- each fault that holds is placed so
record ArePlaced (Holds : Fault → Type 0) : Type 0 where
  each : (f : Fault) → Holds f → OfSection f

one_row : (What : Type 0) (reason : Reason) (at : ℕ) → ArePlaced (FaultRow What reason at)
one_row What reason at = record { each = λ f h. same_place f (file_fault reason at) h.0 (lit≤ tt) }

both : (First Then : Fault → Type 0) → ArePlaced First → ArePlaced Then → ArePlaced (OrElse First Then)
both First Then first others = record { each = λ f h. elim h [ inl is ↦ first.each f is | inr p ↦ others.each f p.1 ] }

in_order : {X : Type 0} (RowOf : List X → X → Fault → Type 0) → ((before : List X) (x : X) → ArePlaced (RowOf before x))
    → (before xs : List X) → ArePlaced (InOrder OrElse RowOf before xs)
in_order RowOf each before [] = record { each = λ f h. absurd h }
in_order RowOf each before (x ∷ xs) = both _ _ (each before x) (in_order RowOf each (before ++ x ∷ []) xs)

wrong_byte : (bytes : List ℕ) → ArePlaced (WrongByte bytes)
wrong_byte bytes = record { each = λ f h. same_place f (file_fault NotElf h.0) h.1.0 (lit≤ tt) }

fields : (bytes : List ℕ) (file : FileHeader) → ArePlaced (FieldRowsFor by_itself OrElse bytes file)
fields bytes file =
    both _ _ (one_row _ _ _)
    (both _ _ (one_row _ _ _)
    (both _ _ (one_row _ _ _)
    (both _ _ (one_row _ _ _) (both _ _ (one_row _ _ _) (both _ _ (one_row _ _ _) (one_row _ _ _))))))

kept : (sections : List Section) (s : Section) → ArePlaced (KeptRowsFor by_itself OrElse sections s)
kept sections s = both _ _ (one_row _ _ _) (one_row _ _ _)

pub elf_placed : (bytes : List ℕ) (f : Fault) → IsFirstElfFault bytes f → OfSection f
elf_placed bytes = all.each where
  all : ArePlaced (IsFirstElfFault bytes)
  all =
      both _ _ (both _ _ (wrong_byte bytes) (one_row _ _ _))
      (both _ _ (fields bytes (file_header bytes))
      (both _ _ (one_row _ _ _)
      (both _ _ (in_order _ (λ before s. one_row _ _ _) [] (sections_in bytes))
      (both _ _ (in_order _ (λ before s. kept (sections_in bytes) s) [] (sections_in bytes)) (one_row _ _ _)))))

-- ---- entries

shape_placed : (shape : Shape) (pair : Pair) (i : Input) (f : Fault) → IsShapeFault shape pair i f → OfSection f
shape_placed shape pair i f (inl a) = same_place f _ a.0 (lit≤ tt)
shape_placed shape pair i f (inr (inl b)) = same_place f _ b.0 (lit≤ tt)
shape_placed shape pair i f (inr (inr c)) = same_place f _ c.0 (lit≤ tt)

attr_placed : (rows : List RowView) (entry : ℕ) (pairs : List Pair) (start : ℕ) (bytes : List ℕ) (f : Fault)
    → IsAttrFault rows entry pairs start bytes f → OfSection f
attr_placed rows entry pairs start bytes f h =
    same_place f (fault_in_entry entry h.fault) h.placed (shape_placed _ h.pair _ h.fault h.is_fault)

declared_placed : (c : UnitContext) (p : Position) (d : Declaration) (at start : ℕ) (bytes : List ℕ) (f : Fault)
    → IsDeclaredFault c p d at start bytes f → OfSection f
declared_placed c p d at start bytes f (inl a) = same_place f _ a.0 (lit≤ tt)
declared_placed c p d at start bytes f (inr (inl a)) = same_place f _ a.0 (lit≤ tt)
declared_placed c p d at start bytes f (inr (inr (inl a))) = same_place f _ a.0 (lit≤ tt)
declared_placed c p d at start bytes f (inr (inr (inr a))) = attr_placed _ at d.pairs start bytes f a.1

front_placed : (c : UnitContext) (p : Position) (start : ℕ) (bytes : List ℕ) (f : Fault) → IsFrontFault c p start bytes f
    → OfSection f
front_placed c p start bytes f (inl a) = same_place f _ a.0 (lit≤ tt)
front_placed c p start bytes f (inr (inl a)) = same_place f _ a.0 (lit≤ tt)
front_placed c p start bytes f (inr (inr (inl a))) = same_place f _ a.0 (lit≤ tt)
front_placed c p start bytes f (inr (inr (inr (inl a)))) = same_place f _ a.0 (lit≤ tt)
front_placed c p start bytes f (inr (inr (inr (inr a)))) =
    declared_placed c p a.0.decl start (start + length a.0.front) a.0.rest f a.1

-- at a place of a tree, whichever
tree_placed : (c : UnitContext) (cut : Cut RawEntry) (p : Position) (f : Fault) (start : ℕ) (bytes : List ℕ)
    → Faulty (λ e. e.children) (SpellsFront c) (IsFrontFault c) cut p f start bytes → OfSection f
tree_placed c Here p f start bytes h = front_placed c p start bytes f h
tree_placed c (Inside e cut) p f start bytes h = tree_placed c cut (first_below p) f _ _ h.1.second
tree_placed c (Behind e children cut) p f start bytes h = tree_placed c cut (behind p children) f _ _ h.second.second

-- ---- units

behind_placed : (abbrevs : List ℕ) (mode : Mode) (before : ℕ) (i : Input) (f : Fault) → IsFaultBehindHeader abbrevs mode before i f
    → OfSection f
behind_placed abbrevs mode before i f h = elim h.fault [
  | inl table ↦ same_place f (bad_abbrev table.0) table.1 (lit≤ tt)
  | inr tree ↦ elim tree.2 [ inl is ↦ tree_placed _ is.0 _ f _ _ is.2 | inr padding ↦ same_place f _ padding.placed (lit≤ tt) ]
]

unit_placed : (abbrevs : List ℕ) (mode : Mode) (before : ℕ) (i : Input) (f : Fault) → IsUnitFault abbrevs mode before i f → OfSection f
unit_placed abbrevs mode before i f (inl header) = same_place f (info_fault i.at header.0) header.2 (lit≤ tt)
unit_placed abbrevs mode before i f (inr h) = behind_placed abbrevs mode before i f h

pub units_placed : (abbrevs : List ℕ) (mode : Mode) (before start : ℕ) (bytes : List ℕ) (f : Fault)
    → IsUnitsFault abbrevs mode before start bytes f → OfSection f
units_placed abbrevs mode before start bytes f h = unit_placed abbrevs mode _ _ f h.is_fault
