-- An expression whose operands name entries is one where nothing is asked of operands: what is asked of them is dropped, level by level.
use Rattle.std.proofs.Common.{◌≡◌, ℕ, zero, suc, true, List, [], ◌∷◌, Ok, refl}
use Rattle.dwz_def_reading.specs.declared.exprs.Operand.{Operand}
use Rattle.dwz_def_reading.specs.Exprs.{AreNamed, Counted, Entry4, EntryOrGeneric, EntryUleb, ExprContext, Expression, Field, FieldItem, Inside, Located, LocatedBy, Run, Signed, Sized, SpellsExpr}
use Rattle.dwz_def_reading.specs.Exprs.{SpellsField, SpellsFields, SpellsOp, SpellsWithin, Unsigned, any_operands, expr_at, most_inside, operands_in}
use Rattle.dwz_def_reading.specs.Sequences.{Spelling, SpellsAll}
use Rattle.dwz_def_reading.proofs.ExprLemmas.{expr_agrees}

any_named : (operands : List Operand) → AreNamed (λ o. true) operands
any_named [] = tt
any_named (o ∷ operands) = (refl, any_named operands)

module _ (P Q : Spelling Expression) (go : (e : Expression) (start : ℕ) (bytes : List ℕ) → P e start bytes → Q e start bytes) where
  field_any : (field : Field) (founds : List FieldItem) (start : ℕ) (bytes : List ℕ) → SpellsField P field founds start bytes → SpellsField Q field founds start bytes
  field_any (Run n) founds start bytes h = h
  field_any Unsigned founds start bytes h = h
  field_any Signed founds start bytes h = h
  field_any Sized founds start bytes h = h
  field_any Counted founds start bytes h = h
  field_any Located founds start bytes h = h
  field_any LocatedBy founds start bytes h = h
  field_any (Entry4 base) founds start bytes h = h
  field_any EntryUleb founds start bytes h = h
  field_any EntryOrGeneric founds start bytes h = h
  field_any Inside founds start bytes h = record {
    front = h.front;
    content = h.content;
    count = h.count;
    expression = h.expression;
    is = go h.expression _ h.content h.is;
    parts = h.parts;
    found = h.found;
  }

  fields_any : (fields : List Field) (founds : List FieldItem) (start : ℕ) (bytes : List ℕ) → SpellsFields P fields founds start bytes → SpellsFields Q fields founds start bytes
  fields_any [] founds start bytes h = h
  fields_any (field ∷ fields) founds start bytes h = record {
    x = h.x;
    y = h.y;
    both = record {
      first_bytes = h.both.first_bytes;
      first = field_any field h.x start h.both.first_bytes h.both.first;
      second_bytes = h.both.second_bytes;
      second = fields_any fields h.y _ h.both.second_bytes h.both.second;
      parts = h.both.parts;
    };
    made = h.made;
  }

  op_any : (c : ExprContext) (section : ℕ) (founds : List FieldItem) (start : ℕ) (bytes : List ℕ) → SpellsOp c P founds start bytes → SpellsOp (any_operands section) Q founds start bytes
  op_any c section founds start bytes h = record {
    code = h.code;
    rest = h.rest;
    parts = h.parts;
    fields = h.fields;
    laid = h.laid;
    spelled = fields_any h.fields founds _ h.rest h.spelled;
    named = any_named (operands_in founds);
  }

  ops_any : (c : ExprContext) (section : ℕ) (ops : List (List FieldItem)) (start : ℕ) (bytes : List ℕ) → SpellsAll (SpellsOp c P) ops start bytes
      → SpellsAll (SpellsOp (any_operands section) Q) ops start bytes
  ops_any c section [] start bytes h = h
  ops_any c section (x ∷ ops) start bytes h = record {
    first_bytes = h.first_bytes;
    first = op_any c section x start h.first_bytes h.first;
    second_bytes = h.second_bytes;
    second = ops_any c section ops _ h.second_bytes h.second;
    parts = h.parts;
  }

within_any : (c : ExprContext) (section k : ℕ) (e : Expression) (start : ℕ) (bytes : List ℕ) → SpellsWithin c k e start bytes → SpellsWithin (any_operands section) k e start bytes
within_any c section zero e start bytes h = h
within_any c section (suc k) e start bytes h = record {
  ops = h.ops;
  spelled = ops_any (SpellsWithin c k) (SpellsWithin (any_operands section) k) (within_any c section k) c section h.ops start bytes h.spelled;
  made = h.made;
}

-- it is read as the same
pub read_any : (c : ExprContext) (section : ℕ) (e : Expression) (start : ℕ) (bytes : List ℕ) → SpellsExpr c e start bytes → expr_at (any_operands section) (record { at = start; rest = bytes }) ≡ Ok e
read_any c section e start bytes h = ((expr_agrees (any_operands section) (record { at = start; rest = bytes })).ok e).1 (within_any c section (suc most_inside) e start bytes h)
