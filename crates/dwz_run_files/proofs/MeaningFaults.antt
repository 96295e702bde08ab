-- What is wrong with the meaning of a value is placed in `.debug_info`, in `.debug_line` or in `.debug_loclists`.
use Rattle.std.proofs.Common.{ℕ, zero, suc, ◌+◌, ◌≤◌, List, [], ◌∷◌, Option, Some, None, inl, inr, lit≤}
use Rattle.dwz_model.specs.declared.fault.Fault.{Fault}
use Rattle.dwz_def_reading.specs.ListKinds.{list_kind_rows}
use Rattle.dwz_def_reading.specs.Operators.{operator_rows}
use Rattle.dwz_def_reading.specs.Entries.{RawAttr, RawEntry}
use Rattle.dwz_def_reading.specs.Trees.{End, Entry, Forest}
use Rattle.dwz_def_reading.specs.Units.{CompileUnit, PartialUnit, RawKind, RawUnit, TypeUnit}
use Rattle.dwz_def_reading.specs.Values.{shape_of}
use Rattle.dwz_def_reading.specs.Exprs.{ExprContext, Expression, FaultInside, Field, Inside, SpellsExpr, SpellsWithin, fields_of, most_inside}
use Rattle.dwz_def_reading.specs.Exprs.{IsExprFault, IsFaultWithin, IsFieldsFault, IsLaidFault, IsOpFault, bad_expr, bad_operand, unsupported}
use Rattle.dwz_def_reading.specs.LineTables.{bad_line_table}
use Rattle.dwz_def_reading.specs.LocLists.{IsKindFault, IsListEntryFault, IsListFault, bad_list}
use Rattle.dwz_def_reading.specs.Meanings.{Around, MeaningContext, expr_context, scope_of, stmt_list, without_siblings}
use Rattle.dwz_def_reading.specs.Classes.{Class, class_of}
use Rattle.dwz_def_reading.specs.MeaningFaults.{HasEntryFault, HasFaultAs, HasFileFaultBy, HasKindFault, HasListFault, HasNodeFault, HasSlotFault}
use Rattle.dwz_def_reading.specs.MeaningFaults.{HasUnitFault, HaveFault, HaveUnitFault}
use Rattle.dwz_def_reading.specs.Classes.{OfCommonEntry, OfCommonText, OfConstant, OfExpression, OfInfoEntry, OfListIndex, OfOffset}
use Rattle.dwz_def_reading.specs.Classes.{OfTextBySlot, OfTextInLineStr, OfTextInStr, OfUnitEntry, Unread}
use Rattle.dwz_def_reading.specs.Sequences.{FaultAt, Spelling}
use Rattle.dwz_run_files.proofs.UnitFaults.{OfSection, same_place}

-- ---- fields

-- each fault of what begins somewhere is placed so
abbrev ArePlaced : FaultAt → Type 0
ArePlaced Fails = (start : ℕ) (bytes : List ℕ) (f : Fault) → Fails start bytes f → OfSection f

inside_placed : (Fails : FaultAt) → ArePlaced Fails → (field : Field) → ArePlaced (FaultInside Fails field)
inside_placed Fails all Inside start bytes f h = all _ _ f h.fault
inside_placed Fails all _ start bytes f h = absurd h

fields_placed : (IsExpr : Spelling Expression) (Fails : FaultAt) (bad : Fault) → ArePlaced Fails → OfSection bad → (fields : List Field)
    → ArePlaced (IsFieldsFault IsExpr Fails bad fields)
fields_placed IsExpr Fails bad all is [] start bytes f h = absurd h
fields_placed IsExpr Fails bad all is (field ∷ fields) start bytes f (inl (inl cut)) = same_place f bad cut.0 is
fields_placed IsExpr Fails bad all is (field ∷ fields) start bytes f (inl (inr inside)) =
    inside_placed Fails all field start bytes f inside
fields_placed IsExpr Fails bad all is (field ∷ fields) start bytes f (inr later) =
    fields_placed IsExpr Fails bad all is fields _ _ f later.fails

-- ---- expressions

module _ (c : ExprContext) (small : c.section ≤ 9) where
  laid_placed : (IsExpr : Spelling Expression) (Fails : Fault → FaultAt) → ((bad : Fault) → OfSection bad → ArePlaced (Fails bad))
      → (at code : ℕ) (layout : Option (List Field)) → ArePlaced (IsLaidFault c IsExpr Fails at code layout)
  laid_placed IsExpr Fails all at code None start bytes f h = same_place f (unsupported c at code) h small
  laid_placed IsExpr Fails all at code (Some fields) start bytes f (inl h) =
      fields_placed IsExpr (Fails (bad_expr c at)) (bad_expr c at) (all (bad_expr c at) small) small fields start bytes f h
  laid_placed IsExpr Fails all at code (Some fields) start bytes f (inr h) = same_place f (bad_operand c h.operand.at) h.placed small

  op_placed : (IsExpr : Spelling Expression) (Fails : Fault → FaultAt) → ((bad : Fault) → OfSection bad → ArePlaced (Fails bad))
      → ArePlaced (IsOpFault c IsExpr Fails)
  op_placed IsExpr Fails all start [] f h = same_place f (bad_expr c start) h small
  op_placed IsExpr Fails all start (code ∷ rest) f h =
      laid_placed IsExpr Fails all start code (fields_of (shape_of operator_rows code)) (start + 1) rest f h

  within_placed : (k : ℕ) (bad : Fault) → OfSection bad → ArePlaced (IsFaultWithin c k bad)
  within_placed zero bad is start bytes f h = same_place f bad h is
  within_placed (suc k) bad is start bytes f h = op_placed (SpellsWithin c k) (IsFaultWithin c k) (within_placed k) _ _ f h.fails.1

  expr_placed : ArePlaced (IsExprFault c)
  expr_placed start bytes f h = within_placed (suc most_inside) (bad_expr c start) small start bytes f h

  -- ---- location lists

  kind_placed : (at : ℕ) (layout : Option (List Field)) → ArePlaced (IsKindFault c at layout)
  kind_placed at None start bytes f h = same_place f (bad_list at) h (lit≤ tt)
  kind_placed at (Some fields) start bytes f h =
      fields_placed (SpellsExpr c) (IsFaultWithin c (suc most_inside) (bad_list at)) (bad_list at)
      (within_placed (suc most_inside) (bad_list at) (lit≤ tt)) (lit≤ tt) fields start bytes f h

  list_entry_placed : ArePlaced (IsListEntryFault c)
  list_entry_placed start [] f h = same_place f (bad_list start) h (lit≤ tt)
  list_entry_placed start (kind ∷ rest) f h = kind_placed start (fields_of (shape_of list_kind_rows kind)) (start + 1) rest f h.1

  list_placed : ArePlaced (IsListFault c)
  list_placed start bytes f h = list_entry_placed _ _ f h.fails

-- ---- attributes

module _ (s : MeaningContext ℕ) (a : RawAttr) (f : Fault) where
  file_placed : (place : Option ℕ) → HasFileFaultBy place s a f → OfSection f
  file_placed None h = same_place f _ h.0 (lit≤ tt)
  file_placed (Some place) (inl h) = same_place f (bad_line_table place) h.0 (lit≤ tt)
  file_placed (Some place) (inr h) = same_place f _ h.0 (lit≤ tt)

  list_at_placed : (place : ℕ) → HasListFault s a place f → OfSection f
  list_at_placed place (inl h) = same_place f _ h.0 (lit≤ tt)
  list_at_placed place (inr h) = list_placed (expr_context s 7) (lit≤ tt) _ _ f h.1

  slot_placed : (index : ℕ) → HasSlotFault s a index f → OfSection f
  slot_placed index (inl h) = same_place f _ h.0 (lit≤ tt)
  slot_placed index (inr h) = elim h.cause [ inl none ↦ same_place f _ none.0 (lit≤ tt) | inr p ↦ list_at_placed (h.base + p.0) p.2 ]

  class_placed : (class : Class) → HasFaultAs class s a f → OfSection f
  class_placed OfConstant h = file_placed (stmt_list s) h.1
  class_placed OfTextInStr h = same_place f _ h.0 (lit≤ tt)
  class_placed OfTextInLineStr h = same_place f _ h.0 (lit≤ tt)
  class_placed OfTextBySlot h = same_place f _ h.0 (lit≤ tt)
  class_placed OfUnitEntry h = same_place f _ h.0 (lit≤ tt)
  class_placed OfInfoEntry h = same_place f _ h.0 (lit≤ tt)
  class_placed OfOffset h = list_at_placed _ h.1
  class_placed OfExpression h = expr_placed (expr_context s 1) (lit≤ tt) _ _ f h
  class_placed OfListIndex h = slot_placed _ h
  class_placed OfCommonEntry h = same_place f _ h.0 (lit≤ tt)
  class_placed OfCommonText h = same_place f _ h.0 (lit≤ tt)
  class_placed Unread h = same_place f _ h (lit≤ tt)
  class_placed _ h = absurd h

-- ---- entries and units

module _ (s : MeaningContext ℕ) (f : Fault) where
  attrs_placed : (attrs : List RawAttr) → HaveFault s attrs f → OfSection f
  attrs_placed [] h = absurd h
  attrs_placed (a ∷ attrs) (inl h) = class_placed s a f (class_of a.pair.form) h
  attrs_placed (a ∷ attrs) (inr h) = attrs_placed attrs h.1

  node_placed : (e : RawEntry) → HasNodeFault s e f → OfSection f
  node_placed e h = attrs_placed (without_siblings e.attrs) h

  entries_placed : (entries : Forest RawEntry) → HasEntryFault s entries f → OfSection f
  entries_placed End h = absurd h
  entries_placed (Entry e children next) (inl h) = node_placed e h
  entries_placed (Entry e children next) (inr h) = elim h.1 [
    | inl below ↦ entries_placed children below
    | inr later ↦ entries_placed next later.1
  ]

  unit_kind_placed : (kind : RawKind) → HasKindFault s kind f → OfSection f
  unit_kind_placed CompileUnit h = absurd h
  unit_kind_placed PartialUnit h = absurd h
  unit_kind_placed (TypeUnit signature type_offset) h = same_place f _ h.0 (lit≤ tt)

unit_placed : (around : Around ℕ) (u : RawUnit) (f : Fault) → HasUnitFault around u f → OfSection f
unit_placed around u f (inl h) = unit_kind_placed (scope_of around u) f u.kind h
unit_placed around u f (inr h) = elim h.1 [
  | inl root ↦ node_placed (scope_of around u) f u.root root
  | inr below ↦ entries_placed (scope_of around u) f u.below below.1
]

pub meanings_placed : (around : Around ℕ) (units : List RawUnit) (f : Fault) → HaveUnitFault around units f → OfSection f
meanings_placed around [] f h = absurd h
meanings_placed around (u ∷ units) f (inl h) = unit_placed around u f h
meanings_placed around (u ∷ units) f (inr h) = meanings_placed around units f h.1
