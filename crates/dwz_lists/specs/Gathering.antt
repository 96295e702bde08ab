-- What reading a location list gathers, step by step. An inner definition: proofs show that it gives what `list_at` does.
use Rattle.std.specs.Prelude.{◌≡◌, ℕ, ◌+◌, ◌<◌, ◌^◌, length, Bool, List, [], ◌∷◌, ◌++◌, Option, Some, None, Result, Ok, Err}
use Rattle.dwz_model.specs.declared.fault.Fault.{Fault}
use Rattle.dwz_model.specs.declared.fault.ReadErr.{ReadErr}
use Rattle.dwz_bytes.specs.Input.{Input}
use Rattle.dwz_bytes.specs.Reading.{◌>>=◌, fixed_at, take_at, uleb_at}
use Rattle.dwz_def_reading.specs.declared.exprs.Operand.{Operand}
use Rattle.dwz_def_reading.specs.Exprs.{ExprContext, Expression, Field, FieldItem, Inside, Located, Unsigned, any_operands, expr_at}
use Rattle.dwz_def_reading.specs.Exprs.{expressions_in, joined_items, or_fault}
use Rattle.dwz_def_reading.specs.LocLists.{LocList, bad_list, list_entry_at}
use Rattle.dwz_def_reading.specs.Sequences.{row_at}
use Rattle.dwz_expr.specs.FirstFault.{ReadsInto}
use Rattle.dwz_lists.specs.declared.fields.Content.{Content}

-- expressions of lists, whichever operands name entries
abbrev pub in_lists : ExprContext
in_lists = any_operands 7

abbrev pub Gathered : Type 0
Gathered = List Expression

-- ---- an entry, up to its expression, which comes last

-- a place, and the bytes from there on
abbrev pub content_view : Content → Input
content_view x = record { at = x.at; rest = x.bytes.now }

abbrev pub content_of : Option Content → Option Input
content_of None = None
content_of (Some x) = Some (content_view x)

abbrev pub with_content : ℕ → List ℕ × Input → Result (Option Input × Input) Fault
with_content at x = Ok (Some (record { at = at; rest = x.0 }), x.1)

abbrev pub counted : Fault → ℕ × Input → Result (Option Input × Input) Fault
counted bad n = or_fault bad (take_at n.0 n.1) >>= with_content n.1.at

-- an expression's bytes, behind their number
abbrev pub content_at : Fault → Input → Result (Option Input × Input) Fault
content_at bad i = or_fault bad (uleb_at i) >>= counted bad

unfoldable pub front_at : Fault → List Field → Input → Result (Option Input × Input) Fault
front_at bad [] i = Ok (None, i)
front_at bad (Unsigned ∷ fields) i = or_fault bad (uleb_at i) >>= λ x. front_at bad fields x.1
front_at bad (Located ∷ fields) i = or_fault bad (fixed_at 8 i) >>= λ x. front_at bad fields x.1
front_at bad (Inside ∷ fields) i = content_at bad i
front_at bad _ i = Err bad

abbrev pub kind_front : ℕ → Option (List Field) → Input → Result (Option Input × Input) Fault
kind_front at None i = Err (bad_list at)
kind_front at (Some fields) i = front_at (bad_list at) fields i

-- ---- what it holds

abbrev pub with_expr : Gathered → Expression → Result Gathered Fault
with_expr xs e = Ok (xs ++ e ∷ [])

abbrev pub exprs_with : ExprContext → Gathered → Option Input → Result Gathered Fault
exprs_with c xs None = Ok xs
exprs_with c xs (Some x) = expr_at c x >>= with_expr xs

abbrev pub behind : Input → Gathered → Result (Gathered × Input) Fault
behind j xs = Ok (xs, j)

abbrev pub held_by : ExprContext → Gathered → Option Input × Input → Result (Gathered × Input) Fault
held_by c xs x = exprs_with c xs x.0 >>= behind x.1

-- an entry behind its kind
abbrev pub kind_into : ExprContext → ℕ → Option (List Field) → Gathered → Input → Result (Gathered × Input) Fault
kind_into c at laid xs i = kind_front at laid i >>= held_by c xs

-- the entries up to the end of the list, and the place behind it
abbrev pub gather_row : Gathered → List (List FieldItem) × Input → Result (LocList × Input) Fault
gather_row xs x = Ok (record { exprs = xs ++ expressions_in (joined_items x.0); end = x.1.at }, x.1)

unfoldable pub row_into : ExprContext → Fault → Gathered → Input → Result (LocList × Input) Fault
row_into c stop xs i = row_at (list_entry_at c) stop i >>= gather_row xs

-- ---- what a call puts behind operands

-- the operands of the expression that is there, or none
abbrev pub Adds : Option Input → List Operand → Result (Unit {0}) ReadErr → Type 0
Adds None operands (Ok u) = operands ≡ []
Adds (Some x) operands (Ok u) = (address : Bool) × ReadsInto 7 x operands (Ok address)
Adds None operands (Err e) = ⊥
Adds (Some x) operands (Err e) = ReadsInto 7 x operands (Err e)

-- no place in it is beyond a number of 64 bits
abbrev pub IsShort : Option Input → Type 0
IsShort None = Unit {0}
IsShort (Some x) = x.at + length x.rest < 2 ^ 64
