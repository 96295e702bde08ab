-- Location lists (DWARF 5, 2.6.2, 7.7.3 and 7.29): how they are spelled, how they are read, and why one isn't.
use Rattle.std.specs.Prelude.{◌≡◌, ◌≢◌, ℕ, suc, ◌+◌, List, [], ◌∷◌, length, Option, Some, None, Result, Ok, Err, ◌==◌, if◌then◌else◌}
use Rattle.dwz_model.specs.declared.fault.Fault.{Fault}
use Rattle.dwz_model.specs.declared.fault.Reason.TheVariants.{BadList}
use Rattle.dwz_bytes.specs.Input.{Input}
use Rattle.dwz_bytes.specs.Reading.{◌>>=◌}
use Rattle.dwz_codes.specs.ListKinds.{list_kind_rows}
use Rattle.dwz_def_reading.specs.Exprs.{ExprContext, Expression, Field, FieldItem, IsFaultWithin, IsFieldsFault, SpellsExpr, SpellsFields}
use Rattle.dwz_def_reading.specs.Exprs.{expr_within, expressions_in, fields_at, fields_of, joined_items, most_inside}
use Rattle.dwz_def_reading.specs.Sequences.{BehindItems, FaultAt, Reader, SpellsRow, row_at}
use Rattle.dwz_def_reading.specs.Values.{shape_of}

-- a bad list at a place of `.debug_loclists`
abbrev pub bad_list : ℕ → Fault
bad_list at = record { section = 7; at = at; reason = BadList }

-- the expressions of a list, in order, and where it ends
pub record LocList : Type 0 where
  pub exprs : List Expression
  pub end : ℕ

-- ---- how a list is spelled

-- an entry: a kind of the table, and its fields
pub record SpellsListEntry (c : ExprContext) (founds : List FieldItem) (start : ℕ) (bytes : List ℕ) : Type 0 where
  pub kind : ℕ
  pub rest : List ℕ
  pub parts : bytes ≡ kind ∷ rest
  pub no_end : kind ≢ 0
  pub fields : List Field
  pub laid : fields_of (shape_of list_kind_rows kind) ≡ Some fields
  pub spelled : SpellsFields (SpellsExpr c) fields founds (start + 1) rest

-- the kind 0
abbrev pub EndsList : ℕ → List ℕ → Type 0
EndsList start bytes = bytes ≡ 0 ∷ []

-- entries in order, and then the end
pub record SpellsList (c : ExprContext) (l : LocList) (start : ℕ) (bytes : List ℕ) : Type 0 where
  pub entries : List (List FieldItem)
  pub spelled : SpellsRow (SpellsListEntry c) EndsList entries start bytes
  pub exprs : l.exprs ≡ expressions_in (joined_items entries)
  pub end : l.end ≡ start + length bytes

-- ---- reading

abbrev pub as_entry : List FieldItem × Input → Result (Option (List FieldItem) × Input) Fault
as_entry x = Ok (Some x.0, x.1)

abbrev pub entry_by : ExprContext → ℕ → Option (List Field) → Reader (Option (List FieldItem))
entry_by c at None i = Err (bad_list at)
entry_by c at (Some fields) i = fields_at (expr_within c (suc most_inside)) (bad_list at) fields i >>= as_entry

abbrev pub behind_kind : ℕ → List ℕ → Input
behind_kind at rest = record { at = at + 1; rest = rest }

abbrev pub entry_in : ExprContext → ℕ → List ℕ → Result (Option (List FieldItem) × Input) Fault
entry_in c at [] = Err (bad_list at)
entry_in c at (kind ∷ rest) = if kind == 0 then Ok (None, behind_kind at rest) else entry_by c at (fields_of (shape_of list_kind_rows kind))
    (behind_kind at rest)

-- an entry, or the end
unfoldable pub list_entry_at : ExprContext → Reader (Option (List FieldItem))
list_entry_at c i = entry_in c i.at i.rest

abbrev pub list_of : List (List FieldItem) → ℕ → LocList
list_of entries end = record { exprs = expressions_in (joined_items entries); end = end }

abbrev pub with_entries : List (List FieldItem) × Input → Result (LocList × Input) Fault
with_entries x = Ok (list_of x.0 x.1.at, x.1)

unfoldable pub list_at : ExprContext → Reader LocList
list_at c i = row_at (list_entry_at c) (bad_list i.at) i >>= with_entries

-- ---- why none is read

abbrev pub IsKindFault : ExprContext → ℕ → Option (List Field) → FaultAt
IsKindFault c at None start bytes f = f ≡ bad_list at
IsKindFault c at (Some fields) start bytes f = IsFieldsFault (SpellsExpr c) (IsFaultWithin c (suc most_inside) (bad_list at)) (bad_list at)
    fields start bytes f

-- no kind stands there, or one that isn't in the table, or the first of its fields that isn't spelled has the fault: that of an
-- expression is its own, and any other is placed at the kind
abbrev pub IsListEntryFault : ExprContext → FaultAt
IsListEntryFault c start [] f = f ≡ bad_list start
IsListEntryFault c start (kind ∷ rest) f = (kind ≢ 0) × IsKindFault c start (fields_of (shape_of list_kind_rows kind)) (start + 1) rest f

-- entries stand there, and behind them neither an entry nor the end
abbrev pub IsListFault : ExprContext → FaultAt
IsListFault c start bytes f = BehindItems (SpellsListEntry c) (IsListEntryFault c) start bytes f
