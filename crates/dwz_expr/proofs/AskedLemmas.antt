-- Operands that are looked up: in turn, behind others, and those of what was read.
use Rattle.std.proofs.Common.{◌≡◌, ℕ, zero, suc, ◌+◌, Bool, true, false, cond, List, [], ◌∷◌, ◌++◌, length, Option, Some, None, Result, Ok, refl, sym, ap, ◌∙◌}
use Rattle.dwz_model.specs.declared.fault.Fault.{Fault}
use Rattle.dwz_bytes.specs.Input.{Input}
use Rattle.dwz_bytes.specs.Reading.{◌>>=◌}
use Rattle.dwz_codes.specs.Operators.{operator_rows}
use Rattle.dwz_def_reading.specs.declared.exprs.Operand.{Operand}
use Rattle.dwz_def_reading.specs.Exprs.{ExprContext, Expression, Field, FieldItem, InsideReader, any_operands, bad_expr, expr_within, expression_of, expression_with, fields_at, fields_of}
use Rattle.dwz_def_reading.specs.Exprs.{first_unnamed}
use Rattle.dwz_def_reading.specs.Exprs.{joined_items, op_at, op_by, op_in, operands_in, unless_unnamed, with_named_entries}
use Rattle.dwz_def_reading.specs.Sequences.{after_one, all_at, all_from, with_item}
use Rattle.dwz_def_reading.specs.Units.{is_empty}
use Rattle.dwz_def_reading.specs.Values.{shape_of}
use Rattle.dwz_def_reading.proofs.PartLemmas.{bind_ok}
use Rattle.dwz_def_reading.proofs.SequenceLemmas.{input_of}
use Rattle.dwz_def_reading.proofs.StandLemmas.{operands_both}
use Rattle.dwz_expr.specs.FirstFault.{asked, unless_one}

-- ---- lookups

abbrev pub first_or : Option Operand → Option Operand → Option Operand
first_or None o = o
first_or (Some p) o = Some p

first_append : (names : Operand → Bool) (a b : List Operand) → first_unnamed names (a ++ b) ≡ first_or (first_unnamed names a) (first_unnamed names b)
unfolding first_unnamed
first_append names [] b = refl
first_append names (o ∷ a) b = by (names o) (first_append names a b) where
  by : (t : Bool) → first_unnamed names (a ++ b) ≡ first_or (first_unnamed names a) (first_unnamed names b)
      → cond t (first_unnamed names (a ++ b)) (Some o) ≡ first_or (cond t (first_unnamed names a) (Some o)) (first_unnamed names b)
  by true others = others
  by false others = refl

pub asked_none : {X : Type 0} (c : ExprContext) (answer : Result X Fault) → asked c [] answer ≡ answer
unfolding first_unnamed
asked_none c answer = refl

-- an answer that goes on
pub asked_bind : {X Y : Type 0} (c : ExprContext) (operands : List Operand) (answer : Result X Fault) (f : X → Result Y Fault) → (asked c operands answer >>= f) ≡ asked c operands (answer >>= f)
asked_bind {X} {Y} c operands answer f = by (first_unnamed c.names operands) where
  by : (o : Option Operand) → (unless_one c answer o >>= f) ≡ unless_one c (answer >>= f) o
  by None = refl
  by (Some o) = refl

-- some operands, and then others
pub asked_twice : {X : Type 0} (c : ExprContext) (a b : List Operand) (answer : Result X Fault) → asked c a (asked c b answer) ≡ asked c (a ++ b) answer
asked_twice {X} c a b answer = by (first_unnamed c.names a) (first_unnamed c.names b) ∙ ap (unless_one c answer) (sym (first_append c.names a b)) where
  by : (o p : Option Operand) → unless_one c (unless_one c answer p) o ≡ unless_one c answer (first_or o p)
  by None p = refl
  by (Some o) p = refl

any_named : (operands : List Operand) → first_unnamed (λ o. true) operands ≡ None
unfolding first_unnamed
any_named [] = refl
any_named (o ∷ operands) = any_named operands

-- nothing is asked
pub asked_any : {X : Type 0} (section : ℕ) (operands : List Operand) (answer : Result X Fault) → asked (any_operands section) operands answer ≡ answer
asked_any section operands answer = ap (unless_one (any_operands section) answer) (any_named operands)

-- ---- operators

pub named_is : (c : ExprContext) (x : List FieldItem × Input) → with_named_entries c x ≡ asked c (operands_in x.0) (Ok x)
named_is c x = by (first_unnamed c.names (operands_in x.0)) where
  by : (o : Option Operand) → unless_unnamed c x o ≡ unless_one c (Ok x) o
  by None = refl
  by (Some o) = refl

-- what was read by an operator was looked up
looked_up : (c : ExprContext) (r : Result (List FieldItem × Input) Fault) (x : List FieldItem × Input) → (r >>= with_named_entries c) ≡ Ok x → first_unnamed c.names (operands_in x.0) ≡ None
looked_up c r x is = let b = bind_ok r (with_named_entries c) x is in by b.0 (first_unnamed c.names (operands_in b.0.0)) refl b.2 where
  by : (y : List FieldItem × Input) (o : Option Operand) → first_unnamed c.names (operands_in y.0) ≡ o → unless_unnamed c y o ≡ Ok x → first_unnamed c.names (operands_in x.0) ≡ None
  by y None none e = let same : y ≡ x = okay_same y x e in ap (λ (w : List FieldItem × Input). first_unnamed c.names (operands_in w.0)) (sym same) ∙ none where
    okay_same : (a b : List FieldItem × Input) → unless_unnamed c a None ≡ Ok b → a ≡ b
    okay_same a b e = cc
  by y (Some o) some e = absurd cc

op_looked_up : (c : ExprContext) (inner : InsideReader) (i : Input) (x : List FieldItem × Input) → op_at c inner i ≡ Ok x → first_unnamed c.names (operands_in x.0) ≡ None
unfolding op_at
op_looked_up c inner i x is = by i.rest is where
  laid_by : (code : ℕ) (rest : List ℕ) (laid : Option (List Field)) → op_by c inner i.at code laid (input_of (i.at + 1) rest) ≡ Ok x → first_unnamed c.names (operands_in x.0) ≡ None
  laid_by code rest None e = absurd cc
  laid_by code rest (Some fields) e = looked_up c (fields_at inner (bad_expr c i.at) fields (input_of (i.at + 1) rest)) x e

  by : (bytes : List ℕ) → op_in c inner i.at bytes ≡ Ok x → first_unnamed c.names (operands_in x.0) ≡ None
  by [] e = absurd cc
  by (code ∷ rest) e = laid_by code rest (fields_of (shape_of operator_rows code)) e

first_joined : (c : ExprContext) (founds : List FieldItem) (ops : List (List FieldItem)) → first_unnamed c.names (operands_in founds) ≡ None
    → first_unnamed c.names (operands_in (joined_items ops)) ≡ None
    → first_unnamed c.names (operands_in (joined_items (founds ∷ ops))) ≡ None
unfolding joined_items
first_joined c founds ops one others =
    ap (first_unnamed c.names) (operands_both founds (joined_items ops))
    ∙ first_append c.names (operands_in founds) (operands_in (joined_items ops))
    ∙ ap (λ (o : Option Operand). first_or o (first_unnamed c.names (operands_in (joined_items ops)))) one
    ∙ others

abbrev okay : List (List FieldItem) → Result (List (List FieldItem)) Fault
okay ops = Ok ops

abbrev okay_expr : Expression → Result Expression Fault
okay_expr e = Ok e

same_okay : (a b : List (List FieldItem)) → okay a ≡ okay b → a ≡ b
same_okay a b e = cc

none_unnamed : (c : ExprContext) (ops : List (List FieldItem)) → [] ≡ ops → first_unnamed c.names (operands_in (joined_items ops)) ≡ None
unfolding joined_items operands_in first_unnamed
none_unnamed c ops same = ap (λ (w : List (List FieldItem)). first_unnamed c.names (operands_in (joined_items w))) (sym same)

all_looked_up : (c : ExprContext) (inner : InsideReader) (n : ℕ) (i : Input) (ops : List (List FieldItem)) → all_from (op_at c inner) n i ≡ Ok ops
    → first_unnamed c.names (operands_in (joined_items ops)) ≡ None
unfolding all_from
all_looked_up c inner zero i ops is = none_unnamed c ops (same_okay [] ops is)
all_looked_up c inner (suc n) i ops is = by (λ j others e. all_looked_up c inner n j others e) (is_empty i.rest) is where
  no_operands : okay [] ≡ okay ops → first_unnamed c.names (operands_in (joined_items ops)) ≡ None
  no_operands e = none_unnamed c ops (same_okay [] ops e)

  rest_of : ((j : Input) (others : List (List FieldItem)) → all_from (op_at c inner) n j ≡ Ok others → first_unnamed c.names (operands_in (joined_items others)) ≡ None) → (x : List FieldItem × Input)
      → op_at c inner i ≡ Ok x → (all_from (op_at c inner) n x.1 >>= with_item x.0) ≡ Ok ops → first_unnamed c.names (operands_in (joined_items ops)) ≡ None
  rest_of looked x one e =
      let b = bind_ok (all_from (op_at c inner) n x.1) (with_item x.0) ops e in
      let same = same_okay (x.0 ∷ b.0) ops b.2 in
      ap (λ (w : List (List FieldItem)). first_unnamed c.names (operands_in (joined_items w))) (sym same) ∙ first_joined c x.0 b.0 (op_looked_up c inner i x one) (looked x.1 b.0 b.1)

  by : ((j : Input) (others : List (List FieldItem)) → all_from (op_at c inner) n j ≡ Ok others → first_unnamed c.names (operands_in (joined_items others)) ≡ None) → (t : Bool)
      → cond t (Ok []) (op_at c inner i >>= after_one (all_from (op_at c inner) n)) ≡ Ok ops → first_unnamed c.names (operands_in (joined_items ops)) ≡ None
  by looked true e = no_operands e
  by looked false e = let b = bind_ok (op_at c inner i) (after_one (all_from (op_at c inner) n)) ops e in rest_of looked b.0 b.1 b.2

-- what an expression has was looked up
pub expr_looked_up : (c : ExprContext) (k : ℕ) (bad : Fault) (i : Input) (e : Expression) → expr_within c k bad i ≡ Ok e → first_unnamed c.names e.operands ≡ None
unfolding expr_within all_at
expr_looked_up c zero bad i e is = absurd cc
expr_looked_up c (suc k) bad i e is =
    let b = bind_ok (all_at (op_at c (expr_within c k)) i) (expression_with i) e is in
    let same : expression_of i.at i.rest b.0 ≡ e = same_expr (expression_of i.at i.rest b.0) e b.2 in
    ap (λ (w : Expression). first_unnamed c.names w.operands) (sym same) ∙ all_looked_up c (expr_within c k) (length i.rest) i b.0 b.1 where
      same_expr : (a b : Expression) → okay_expr a ≡ okay_expr b → a ≡ b
      same_expr a b e = cc
