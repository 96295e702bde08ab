-- What is wrong with files that may have been written by this tool is placed in the file or in one of the sections that are written.
use Rattle.std.proofs.Common.{◌≡◌, ℕ, zero, suc, ◌+◌, ◌-◌, ◌≤◌, Bool, true, false, cond, List, [], ◌∷◌, ◌++◌, length, Option, Some, None, bytes_eq, sym, subst, inl, inr, lit≤}
use Rattle.dwz_model.specs.declared.fault.Fault.{Fault}
use Rattle.dwz_model.specs.declared.fault.Reason.{Reason}
use Rattle.dwz_model.specs.declared.fault.Reason.TheVariants.{BadSup, Checksum, NotElf}
use Rattle.dwz_model.specs.declared.fault.Refusal.{Refusal}
use Rattle.dwz_def_reading.specs.declared.elf.FileHeader.{FileHeader}
use Rattle.dwz_def_reading.specs.declared.elf.Section.{Section}
use Rattle.dwz_def_reading.specs.declared.supplementary.Sup.{Sup}
use Rattle.dwz_def_reading.specs.Classes.{Class, class_of}
use Rattle.dwz_def_reading.specs.Classes.{OfCommonEntry, OfCommonText, OfConstant, OfExpression, OfInfoEntry, OfListIndex, OfOffset}
use Rattle.dwz_def_reading.specs.Classes.{OfTextBySlot, OfTextInLineStr, OfTextInStr, OfUnitEntry, Unread}
use Rattle.dwz_def_reading.specs.ElfFaults.{ElfManner, FaultRow, FieldRowsFor, InOrder, IsFirstElfFaultFor, KeptRowsFor, WrongByte, file_fault}
use Rattle.dwz_def_reading.specs.ElfHeaders.{file_header}
use Rattle.dwz_def_reading.specs.ElfNames.{sections_in}
use Rattle.dwz_def_reading.specs.Entries.{RawAttr, RawEntry}
use Rattle.dwz_def_reading.specs.Exprs.{ExprContext, Expression, FaultInside, Field, Inside, SpellsExpr, SpellsWithin, fields_of, most_inside}
use Rattle.dwz_def_reading.specs.Exprs.{IsExprFault, IsFaultWithin, IsFieldsFault, IsLaidFault, IsOpFault, bad_expr, bad_operand, unsupported}
use Rattle.dwz_def_reading.specs.Files.{HasMeaningFaultBy, IsFaultBy, Limits, debug_abbrev, debug_info, limits_after, no_files_before}
use Rattle.dwz_def_reading.specs.Finished.{FirstBeside, FirstBy, FirstFinished, GivenCommon, common_read, common_sup_fault, debug_sup, file_sum_fault, file_sup_fault}
use Rattle.dwz_def_reading.specs.Finished.{has_sup, is_of_common, is_of_file, refusal_of, rule_of_back, rule_of_common, sum_fault, sum_of, sup_fault}
use Rattle.dwz_def_reading.specs.FirstOf.{OrElse}
use Rattle.dwz_def_reading.specs.LineTables.{bad_line_table}
use Rattle.dwz_def_reading.specs.ListKinds.{list_kind_rows}
use Rattle.dwz_def_reading.specs.LocLists.{IsKindFault, IsListEntryFault, IsListFault, bad_list}
use Rattle.dwz_def_reading.specs.MeaningFaults.{HasEntryFault, HasFaultAs, HasFileFaultBy, HasKindFault, HasListFault, HasNodeFault, HasSlotFault}
use Rattle.dwz_def_reading.specs.MeaningFaults.{HasUnitFault, HaveFault, HaveUnitFault}
use Rattle.dwz_def_reading.specs.Meanings.{Around, MeaningContext, expr_context, scope_of, stmt_list, without_siblings}
use Rattle.dwz_def_reading.specs.Operators.{operator_rows}
use Rattle.dwz_def_reading.specs.Rules.{ReadingRule}
use Rattle.dwz_def_reading.specs.Sequences.{FaultAt, Spelling}
use Rattle.dwz_def_reading.specs.Shared.{shared_list}
use Rattle.dwz_def_reading.specs.Supplementary.{read_sup}
use Rattle.dwz_def_reading.specs.Trees.{End, Entry, Forest}
use Rattle.dwz_def_reading.specs.Units.{CompileUnit, PartialUnit, RawKind, RawUnit, TypeUnit}
use Rattle.dwz_def_reading.specs.Values.{shape_of}
use Rattle.dwz_run_files.proofs.FirstFaults.{first_placed as given_placed}
use Rattle.dwz_run_files.proofs.UnitFaults.{OfSection, same_place, units_placed}

-- ---- the ELF file, read in any manner

-- each fault that holds is placed so
record AllPlaced (Holds : Fault → Type 0) : Type 0 where
  each : (f : Fault) → Holds f → OfSection f

row : (What : Type 0) (reason : Reason) (at : ℕ) → AllPlaced (FaultRow What reason at)
row What reason at = record { each = λ f h. same_place f (file_fault reason at) h.0 (lit≤ tt) }

both : (First Then : Fault → Type 0) → AllPlaced First → AllPlaced Then → AllPlaced (OrElse First Then)
both First Then first others = record { each = λ f h. elim h [ inl is ↦ first.each f is | inr p ↦ others.each f p.1 ] }

in_order : {X : Type 0} (RowOf : List X → X → Fault → Type 0) → ((before : List X) (x : X) → AllPlaced (RowOf before x))
    → (before xs : List X) → AllPlaced (InOrder OrElse RowOf before xs)
in_order RowOf each before [] = record { each = λ f h. absurd h }
in_order RowOf each before (x ∷ xs) = both _ _ (each before x) (in_order RowOf each (before ++ x ∷ []) xs)

wrong_byte : (bytes : List ℕ) → AllPlaced (WrongByte bytes)
wrong_byte bytes = record { each = λ f h. same_place f (file_fault NotElf h.0) h.1.0 (lit≤ tt) }

module _ (m : ElfManner) where
  header_fields : (bytes : List ℕ) (file : FileHeader) → AllPlaced (FieldRowsFor m OrElse bytes file)
  header_fields bytes file =
      both _ _ (row _ _ _)
      (both _ _ (row _ _ _)
      (both _ _ (row _ _ _) (both _ _ (row _ _ _) (both _ _ (row _ _ _) (both _ _ (row _ _ _) (row _ _ _))))))

  kept : (sections : List Section) (s : Section) → AllPlaced (KeptRowsFor m OrElse sections s)
  kept sections s = both _ _ (row _ _ _) (row _ _ _)

  elf_placed : (bytes : List ℕ) (f : Fault) → IsFirstElfFaultFor m bytes f → OfSection f
  elf_placed bytes = all.each where
    all : AllPlaced (IsFirstElfFaultFor m bytes)
    all =
        both _ _ (both _ _ (wrong_byte bytes) (row _ _ _))
        (both _ _ (header_fields bytes (file_header bytes))
        (both _ _ (row _ _ _)
        (both _ _ (in_order _ (λ before s. row _ _ _) [] (sections_in bytes))
        (both _ _ (in_order _ (λ before s. kept (sections_in bytes) s) [] (sections_in bytes)) (row _ _ _)))))

-- ---- fields

-- each fault of what begins somewhere is placed so
abbrev ArePlaced : FaultAt → Type 0
ArePlaced Fails = (start : ℕ) (bytes : List ℕ) (f : Fault) → Fails start bytes f → OfSection f

inside_placed : (Fails : FaultAt) → ArePlaced Fails → (field : Field) → ArePlaced (FaultInside Fails field)
inside_placed Fails all Inside start bytes f h = all _ _ f h.fault
inside_placed Fails all _ start bytes f h = absurd h

fields_placed : (IsExpr : Spelling Expression) (Fails : FaultAt) (bad : Fault) → ArePlaced Fails → OfSection bad → (fields : List Field)
    → ArePlaced (IsFieldsFault IsExpr Fails bad fields)
fields_placed IsExpr Fails bad all is [] start bytes f h = absurd h
fields_placed IsExpr Fails bad all is (field ∷ fields) start bytes f (inl (inl cut)) = same_place f bad cut.0 is
fields_placed IsExpr Fails bad all is (field ∷ fields) start bytes f (inl (inr inside)) =
    inside_placed Fails all field start bytes f inside
fields_placed IsExpr Fails bad all is (field ∷ fields) start bytes f (inr later) =
    fields_placed IsExpr Fails bad all is fields _ _ f later.fails

-- ---- expressions

module _ (c : ExprContext) (small : c.section ≤ 9) where
  laid_placed : (IsExpr : Spelling Expression) (Fails : Fault → FaultAt) → ((bad : Fault) → OfSection bad → ArePlaced (Fails bad))
      → (at code : ℕ) (layout : Option (List Field)) → ArePlaced (IsLaidFault c IsExpr Fails at code layout)
  laid_placed IsExpr Fails all at code None start bytes f h = same_place f (unsupported c at code) h small
  laid_placed IsExpr Fails all at code (Some fields) start bytes f (inl h) =
      fields_placed IsExpr (Fails (bad_expr c at)) (bad_expr c at) (all (bad_expr c at) small) small fields start bytes f h
  laid_placed IsExpr Fails all at code (Some fields) start bytes f (inr h) = same_place f (bad_operand c h.operand.at) h.placed small

  op_placed : (IsExpr : Spelling Expression) (Fails : Fault → FaultAt) → ((bad : Fault) → OfSection bad → ArePlaced (Fails bad))
      → ArePlaced (IsOpFault c IsExpr Fails)
  op_placed IsExpr Fails all start [] f h = same_place f (bad_expr c start) h small
  op_placed IsExpr Fails all start (code ∷ rest) f h =
      laid_placed IsExpr Fails all start code (fields_of (shape_of operator_rows code)) (start + 1) rest f h

  within_placed : (k : ℕ) (bad : Fault) → OfSection bad → ArePlaced (IsFaultWithin c k bad)
  within_placed zero bad is start bytes f h = same_place f bad h is
  within_placed (suc k) bad is start bytes f h = op_placed (SpellsWithin c k) (IsFaultWithin c k) (within_placed k) _ _ f h.fails.1

  expr_placed : ArePlaced (IsExprFault c)
  expr_placed start bytes f h = within_placed (suc most_inside) (bad_expr c start) small start bytes f h

  -- ---- location lists

  kind_placed : (at : ℕ) (layout : Option (List Field)) → ArePlaced (IsKindFault c at layout)
  kind_placed at None start bytes f h = same_place f (bad_list at) h (lit≤ tt)
  kind_placed at (Some fields) start bytes f h =
      fields_placed (SpellsExpr c) (IsFaultWithin c (suc most_inside) (bad_list at)) (bad_list at)
      (within_placed (suc most_inside) (bad_list at) (lit≤ tt)) (lit≤ tt) fields start bytes f h

  list_entry_placed : ArePlaced (IsListEntryFault c)
  list_entry_placed start [] f h = same_place f (bad_list start) h (lit≤ tt)
  list_entry_placed start (kind ∷ rest) f h = kind_placed start (fields_of (shape_of list_kind_rows kind)) (start + 1) rest f h.1

  list_placed : ArePlaced (IsListFault c)
  list_placed start bytes f h = list_entry_placed _ _ f h.fails

-- ---- attributes, whatever the places are that they name

module _ {P : Type 0} (s : MeaningContext P) (a : RawAttr) (f : Fault) where
  file_name_placed : (place : Option ℕ) → HasFileFaultBy place s a f → OfSection f
  file_name_placed None h = same_place f _ h.0 (lit≤ tt)
  file_name_placed (Some place) (inl h) = same_place f (bad_line_table place) h.0 (lit≤ tt)
  file_name_placed (Some place) (inr h) = same_place f _ h.0 (lit≤ tt)

  list_at_placed : (place : ℕ) → HasListFault s a place f → OfSection f
  list_at_placed place (inl h) = same_place f _ h.0 (lit≤ tt)
  list_at_placed place (inr h) = list_placed (expr_context s 7) (lit≤ tt) _ _ f h.1

  slot_placed : (index : ℕ) → HasSlotFault s a index f → OfSection f
  slot_placed index (inl h) = same_place f _ h.0 (lit≤ tt)
  slot_placed index (inr h) = elim h.cause [ inl none ↦ same_place f _ none.0 (lit≤ tt) | inr p ↦ list_at_placed (h.base + p.0) p.2 ]

  class_placed : (class : Class) → HasFaultAs class s a f → OfSection f
  class_placed OfConstant h = file_name_placed (stmt_list s) h.1
  class_placed OfTextInStr h = same_place f _ h.0 (lit≤ tt)
  class_placed OfTextInLineStr h = same_place f _ h.0 (lit≤ tt)
  class_placed OfTextBySlot h = same_place f _ h.0 (lit≤ tt)
  class_placed OfUnitEntry h = same_place f _ h.0 (lit≤ tt)
  class_placed OfInfoEntry h = same_place f _ h.0 (lit≤ tt)
  class_placed OfOffset h = list_at_placed _ h.1
  class_placed OfExpression h = expr_placed (expr_context s 1) (lit≤ tt) _ _ f h
  class_placed OfListIndex h = slot_placed _ h
  class_placed OfCommonEntry h = same_place f _ h.0 (lit≤ tt)
  class_placed OfCommonText h = same_place f _ h.0 (lit≤ tt)
  class_placed Unread h = same_place f _ h (lit≤ tt)
  class_placed _ h = absurd h

-- ---- entries and units

module _ {P : Type 0} (s : MeaningContext P) (f : Fault) where
  attrs_placed : (attrs : List RawAttr) → HaveFault s attrs f → OfSection f
  attrs_placed [] h = absurd h
  attrs_placed (a ∷ attrs) (inl h) = class_placed s a f (class_of a.pair.form) h
  attrs_placed (a ∷ attrs) (inr h) = attrs_placed attrs h.1

  node_placed : (e : RawEntry) → HasNodeFault s e f → OfSection f
  node_placed e h = attrs_placed (without_siblings e.attrs) h

  entries_placed : (entries : Forest RawEntry) → HasEntryFault s entries f → OfSection f
  entries_placed End h = absurd h
  entries_placed (Entry e children next) (inl h) = node_placed e h
  entries_placed (Entry e children next) (inr h) = elim h.1 [
    | inl below ↦ entries_placed children below
    | inr later ↦ entries_placed next later.1
  ]

  unit_kind_placed : (kind : RawKind) → HasKindFault s kind f → OfSection f
  unit_kind_placed CompileUnit h = absurd h
  unit_kind_placed PartialUnit h = absurd h
  unit_kind_placed (TypeUnit signature type_offset) h = same_place f _ h.0 (lit≤ tt)

module _ {P : Type 0} (around : Around P) where
  unit_placed : (u : RawUnit) (f : Fault) → HasUnitFault around u f → OfSection f
  unit_placed u f (inl h) = unit_kind_placed (scope_of around u) f u.kind h
  unit_placed u f (inr h) = elim h.1 [
    | inl root ↦ node_placed (scope_of around u) f u.root root
    | inr below ↦ entries_placed (scope_of around u) f u.below below.1
  ]

  meanings_placed : (units : List RawUnit) (f : Fault) → HaveUnitFault around units f → OfSection f
  meanings_placed [] f h = absurd h
  meanings_placed (u ∷ units) f (inl h) = unit_placed u f h
  meanings_placed (u ∷ units) f (inr h) = meanings_placed units f h.1

-- ---- `.debug_sup`

-- what is wrong, if something is, is placed so
abbrev IfPlaced : Option Fault → Type 0
IfPlaced None = Unit {0}
IfPlaced (Some f) = OfSection f

sum_placed : (is_kind : List ℕ → Sup → Bool) (sum section : List ℕ) (s : Option Sup) → IfPlaced (sum_fault is_kind sum section s)
sum_placed is_kind sum section None = lit≤ tt
sum_placed is_kind sum section (Some s) = when (is_kind section s) (bytes_eq s.sum sum) where
  when : (kind same : Bool)
      → IfPlaced (cond kind (cond same None (Some (sup_fault Checksum (length section - 32)))) (Some (sup_fault BadSup 0)))
  when true true = tt
  when true false = lit≤ tt
  when false same = lit≤ tt

common_sup_placed : (bytes : List ℕ) → IfPlaced (common_sup_fault bytes)
unfolding common_sup_fault
common_sup_placed bytes = when (has_sup bytes) where
  when : (there : Bool)
      → IfPlaced (cond there (sum_fault is_of_common (sum_of bytes) (debug_sup bytes) (read_sup (debug_sup bytes))) (Some (file_fault BadSup 0)))
  when true = sum_placed is_of_common (sum_of bytes) (debug_sup bytes) (read_sup (debug_sup bytes))
  when false = lit≤ tt

file_sum_placed : (common : Option (List ℕ)) (section : List ℕ) → IfPlaced (file_sum_fault common section)
file_sum_placed None section = lit≤ tt
file_sum_placed (Some common) section = sum_placed is_of_file (sum_of common) section (read_sup section)

file_sup_placed : (common : Option (List ℕ)) (bytes : List ℕ) → IfPlaced (file_sup_fault common bytes)
unfolding file_sup_fault
file_sup_placed common bytes = when (has_sup bytes) where
  when : (there : Bool) → IfPlaced (cond there (file_sum_fault common (debug_sup bytes)) None)
  when true = file_sum_placed common (debug_sup bytes)
  when false = tt

-- ---- a file, read by any rule

module _ {P : Type 0} (rule : ReadingRule P) (sup : (bytes : List ℕ) → IfPlaced (rule.sup_fault bytes)) where
  meaning_placed : (l : Limits) (bytes : List ℕ) (f : Fault) → HasMeaningFaultBy rule l bytes f → OfSection f
  meaning_placed l bytes f h = elim h.fault [
    | inl units ↦ meanings_placed (rule.around bytes h.units) h.units f units
    | inr p ↦ elim p.1 [
      | inl sets ↦ same_place f _ sets.fails.1.0 (lit≤ tt)
      | inr shared ↦ same_place f (shared_list shared.1.place) shared.1.placed (lit≤ tt)
    ]
  ]

  file_placed : (l : Limits) (bytes : List ℕ) (f : Fault) → IsFaultBy rule l bytes f → OfSection f
  file_placed l bytes f (inl size) = same_place f _ size.0 (lit≤ tt)
  file_placed l bytes f (inr h) = elim h.1 [
    | inl elf ↦ elf_placed rule.manner bytes f elf
    | inr p ↦ elim p.1 [
      | inl machine ↦ same_place f _ machine.0 (lit≤ tt)
      | inr q ↦ elim q.1 [
        | inl wrong ↦ subst IfPlaced wrong (sup bytes)
        | inr s ↦ elim s.1 [
          | inl units ↦ units_placed (debug_abbrev bytes) (rule.mode l.entries) 0 0 (debug_info bytes) f units
          | inr meaning ↦ meaning_placed l bytes f meaning
        ]
      ]
    ]
  ]

  refusal_placed : (l : Limits) (number : ℕ) (bytes : List ℕ) (r : Refusal)
      → ((f : Fault) × IsFaultBy rule l bytes f × (r ≡ refusal_of number f)) → r.section ≤ 9
  refusal_placed l number bytes r h = subst (λ (q : Refusal). q.section ≤ 9) (sym h.2) (file_placed l bytes h.0 h.1)

-- ---- several files

module _ {P : Type 0} (rule : ℕ → ReadingRule P) (sup : (number : ℕ) (bytes : List ℕ) → IfPlaced ((rule number).sup_fault bytes)) where
  first_placed : (l : Limits) (number : ℕ) (files : List (List ℕ)) (r : Refusal) → FirstBy rule l number files r → r.section ≤ 9
  first_placed l number [] r h = absurd h
  first_placed l number (bytes ∷ files) r (inl h) = refusal_placed (rule number) (sup number) l number bytes r h
  first_placed l number (bytes ∷ files) r (inr h) = first_placed (limits_after l bytes h.0) (suc number) files r h.3

back_sup_placed : (common : Option GivenCommon) (number : ℕ) (bytes : List ℕ) → IfPlaced ((rule_of_back common number).sup_fault bytes)
back_sup_placed None number bytes = file_sup_placed None bytes
back_sup_placed (Some c) number bytes = file_sup_placed (Some c.bytes) bytes

-- so of files that may have been written by this tool, and of the common file beside them
pub finished_placed : (common : Option (List ℕ)) (files : List (List ℕ)) (r : Refusal) → FirstFinished common files r → r.section ≤ 9
finished_placed None files r h = first_placed (rule_of_back None) (back_sup_placed None) no_files_before 0 files r h
finished_placed (Some bytes) files r (inl h) =
    refusal_placed (rule_of_common (length files)) common_sup_placed no_files_before (length files) bytes r h
finished_placed (Some bytes) files r (inr h) =
    let read = Some (common_read files bytes h.0) in
    first_placed (rule_of_back read) (back_sup_placed read) (limits_after no_files_before bytes h.0) 0 files r h.3

-- and of files by themselves behind such a common file
pub beside_placed : (bytes : List ℕ) (files : List (List ℕ)) (r : Refusal) → FirstBeside bytes files r → r.section ≤ 9
beside_placed bytes files r (inl h) = refusal_placed (rule_of_common (length files)) common_sup_placed no_files_before (length files) bytes r h
beside_placed bytes files r (inr h) = given_placed (limits_after no_files_before bytes h.0) 0 files r h.3
