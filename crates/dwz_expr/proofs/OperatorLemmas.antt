-- What operators hold, in any context: where no expression stands in them, and where one does.
use Rattle.std.proofs.Common.{◌≡◌, ℕ, zero, suc, ◌+◌, Bool, List, [], ◌∷◌, ◌++◌, Option, Some, None, Result, Ok, Err, refl, sym, ap, ◌∙◌}
use Rattle.std.specs.Prelude.{◌||◌}
use Rattle.std.proofs.lemmas.List.{append-nil}
use Rattle.dwz_model.specs.declared.fault.Fault.{Fault}
use Rattle.dwz_bytes.specs.Input.{Input}
use Rattle.dwz_bytes.specs.Reading.{◌>>=◌, take_at, uleb_at}
use Rattle.dwz_def_reading.specs.declared.exprs.Operand.{Operand}
use Rattle.dwz_codes.specs.Operators.{operator_rows}
use Rattle.dwz_def_reading.specs.Exprs.{ExprContext, Expression, Field, FieldItem, Holds, Inside, IsFaultWithin, IsOpFault, SpellsOp, SpellsWithin, bad_expr, expr_within, expression_of}
use Rattle.dwz_def_reading.specs.Exprs.{expression_with}
use Rattle.dwz_def_reading.specs.Exprs.{fields_at, fields_of, first_unnamed, any_address, held, inside_at, inside_of, InsideReader, joined_items, with_named_entries, op_at, op_by, operands_in}
use Rattle.dwz_def_reading.specs.Exprs.{or_fault, unless_unnamed}
use Rattle.dwz_def_reading.specs.Exprs.{unsupported}
use Rattle.dwz_def_reading.specs.Sequences.{after_one, all_at, then_read, with_item}
use Rattle.dwz_def_reading.specs.Values.{shape_of}
use Rattle.dwz_def_reading.proofs.ExprLemmas.{op_reads, op_takes, within_reads}
use Rattle.dwz_def_reading.proofs.SequenceLemmas.{all_none, all_step, input_of}
use Rattle.dwz_def_reading.proofs.PartLemmas.{same_input, same_value}
use Rattle.dwz_expr.specs.FirstFault.{asked}
use Rattle.dwz_expr.specs.Gathering.{Gathered, behind_content, content_into, counted_into, fields_into, gather, gather_ops, gathered, inside_into, nested_into, ops_into}
use Rattle.dwz_expr.proofs.AskedLemmas.{asked_bind, asked_twice, expr_looked_up, named_is}
use Rattle.dwz_expr.proofs.GatherLemmas.{AreFlat, fields_are, gather_append, gather_none, into, or_false}

-- ---- answers

abbrev pub went : Gathered → Input → Result (Gathered × Input) Fault
went g j = Ok (g, j)

abbrev pub stopped : Fault → Result (Gathered × Input) Fault
stopped f = Err f

pub same_gathered : (a b : Gathered) (i j : Input) → went a i ≡ went b j → a ≡ b
same_gathered a b i j e = same_value a b i j (went a i) refl e

pub same_behind : (a b : Gathered) (i j : Input) → went a i ≡ went b j → i ≡ j
same_behind a b i j e = same_input a b i j (went a i) refl e

held_names : (c : ExprContext) (e : Expression) → first_unnamed c.names (operands_in (Holds e ∷ [])) ≡ first_unnamed c.names e.operands
unfolding operands_in
held_names c e = ap (first_unnamed c.names) (append-nil e.operands)

-- ---- operators

module _ (c : ExprContext) (k : ℕ) where
  steps : (at b : ℕ) (bytes : List ℕ) → all_at (op_at c (expr_within c k)) (input_of at (b ∷ bytes))
      ≡ (op_at c (expr_within c k) (input_of at (b ∷ bytes)) >>= after_one (all_at (op_at c (expr_within c k))))
  steps = all_step (op_at c (expr_within c k)) (SpellsOp c (SpellsWithin c k)) (IsOpFault c (SpellsWithin c k) (IsFaultWithin c k))
      (op_reads c (expr_within c k) (SpellsWithin c k) (IsFaultWithin c k) (λ bad. within_reads c k bad))
      (op_takes c (expr_within c k) (SpellsWithin c k) (IsFaultWithin c k) (λ bad. within_reads c k bad))

  -- operators, the first of which holds this
  pub ops_step : (g : Gathered) (at code : ℕ) (rest : List ℕ) → ops_into c k g (input_of at (code ∷ rest))
      ≡ ((op_at c (expr_within c k) (input_of at (code ∷ rest)) >>= into g) >>= λ p. ops_into c k p.0 p.1)
  unfolding ops_into joined_items
  ops_step g at code rest = ap (λ (r : Result (List (List FieldItem)) Fault). r >>= gather_ops g) (steps at code rest) ∙ go (op_at c (expr_within c k) (input_of at (code ∷ rest))) where
    behind : (x : List FieldItem × Input) (r : Result (List (List FieldItem)) Fault) → ((r >>= with_item x.0) >>= gather_ops g) ≡ (r >>= gather_ops (gather g x.0))
    behind x (Ok ops) = ap (λ (w : Gathered). Ok w) (gather_append g x.0 (joined_items ops))
    behind x (Err f) = refl

    go : (r : Result (List FieldItem × Input) Fault) → ((r >>= after_one (all_at (op_at c (expr_within c k)))) >>= gather_ops g)
        ≡ ((r >>= into g) >>= λ p. (all_at (op_at c (expr_within c k)) p.1 >>= gather_ops p.0))
    go (Ok x) = behind x (all_at (op_at c (expr_within c k)) x.1)
    go (Err f) = refl

  pub ops_none : (g : Gathered) (at : ℕ) → ops_into c k g (input_of at []) ≡ Ok g
  unfolding ops_into joined_items
  ops_none g at = ap (λ (r : Result (List (List FieldItem)) Fault). r >>= gather_ops g)
      (all_none (op_at c (expr_within c k)) (SpellsOp c (SpellsWithin c k)) (IsOpFault c (SpellsWithin c k) (IsFaultWithin c k))
      (op_reads c (expr_within c k) (SpellsWithin c k) (IsFaultWithin c k) (λ bad. within_reads c k bad))
      (op_takes c (expr_within c k) (SpellsWithin c k) (IsFaultWithin c k) (λ bad. within_reads c k bad)) at) ∙ ap (λ (w : Gathered). Ok w) (gather_none g)

  -- an operator in which no expression stands: its operands are looked up once it is read
  flat_by : (a : Bool) (h : Gathered) (j : Input) (r : Result (List FieldItem × Input) Fault) → (r >>= into (gathered [] a)) ≡ went h j
      → ((r >>= with_named_entries c) >>= into (gathered [] a)) ≡ asked c h.operands (Ok (h, j))
  flat_by a h j (Err f) is = absurd cc
  flat_by a h j (Ok x) is =
      let held : gather (gathered [] a) x.0 ≡ h = same_gathered (gather (gathered [] a) x.0) h x.1 j is in
      let behind : x.1 ≡ j = same_behind (gather (gathered [] a) x.0) h x.1 j is in
      ap (λ (r : Result (List FieldItem × Input) Fault). r >>= into (gathered [] a)) (named_is c x)
      ∙ asked_bind c (operands_in x.0) (Ok x) (into (gathered [] a))
      ∙ (λ n. asked c (held n).operands (Ok (held n, behind n)))

  bad_by : (a : Bool) (f : Fault) (r : Result (List FieldItem × Input) Fault) → (r >>= into (gathered [] a)) ≡ stopped f → ((r >>= with_named_entries c) >>= into (gathered [] a)) ≡ Err f
  bad_by a f (Err e) is = is
  bad_by a f (Ok x) is = absurd cc

  module _ (a : Bool) (at code : ℕ) (rest : List ℕ) (fields : List Field) (laid : fields_of (shape_of operator_rows code) ≡ Some fields) (flat : AreFlat fields) where
    read_first : (op_at c (expr_within c k) (input_of at (code ∷ rest)) >>= into (gathered [] a))
        ≡ ((fields_at (expr_within c k) (bad_expr c at) fields (input_of (at + 1) rest) >>= with_named_entries c) >>= into (gathered [] a))
    unfolding op_at
    read_first = ap (λ (o : Option (List Field)). op_by c (expr_within c k) at code o (input_of (at + 1) rest) >>= into (gathered [] a)) laid

    pub flat_op : (h : Gathered) (j : Input) → fields_into (bad_expr c at) fields (gathered [] a) (input_of (at + 1) rest) ≡ Ok (h, j)
        → (op_at c (expr_within c k) (input_of at (code ∷ rest)) >>= into (gathered [] a)) ≡ asked c h.operands (Ok (h, j))
    flat_op h j is = read_first ∙ flat_by a h j (fields_at (expr_within c k) (bad_expr c at) fields (input_of (at + 1) rest))
        (fields_are (expr_within c k) (bad_expr c at) fields (gathered [] a) (input_of (at + 1) rest) flat ∙ is)

    pub bad_op : (f : Fault) → fields_into (bad_expr c at) fields (gathered [] a) (input_of (at + 1) rest) ≡ Err f → (op_at c (expr_within c k) (input_of at (code ∷ rest)) >>= into (gathered [] a))
        ≡ Err f
    bad_op f is = read_first ∙ bad_by a f (fields_at (expr_within c k) (bad_expr c at) fields (input_of (at + 1) rest))
        (fields_are (expr_within c k) (bad_expr c at) fields (gathered [] a) (input_of (at + 1) rest) flat ∙ is)

  pub unread_op : (g : Gathered) (at code : ℕ) (rest : List ℕ) → fields_of (shape_of operator_rows code) ≡ None
      → (op_at c (expr_within c k) (input_of at (code ∷ rest)) >>= into g) ≡ Err (unsupported c at code)
  unfolding op_at
  unread_op g at code rest none = ap (λ (o : Option (List Field)). op_by c (expr_within c k) at code o (input_of (at + 1) rest) >>= into g) none

  -- what an expression holds is what its operators do
  held_same : (g : Gathered) (at : ℕ) (bytes : List ℕ) (ops : List (List FieldItem)) → gather g (Holds (expression_of at bytes ops) ∷ []) ≡ gather g (joined_items ops)
  unfolding operands_in any_address
  held_same g at bytes ops =
      let operands = append-nil (operands_in (joined_items ops)) in
      let address = or_false (any_address (joined_items ops)) in
      λ n. record { operands = g.operands ++ operands n; address = g.address || address n }

pub inside_is : (c : ExprContext) (k : ℕ) (bad : Fault) (g : Gathered) (i : Input) → (expr_within c k bad i >>= λ e. Ok (gather g (Holds e ∷ []))) ≡ inside_into c k bad g i
unfolding expr_within ops_into
inside_is c zero bad g i = refl
inside_is c (suc k) bad g i = go (all_at (op_at c (expr_within c k)) i) where
  go : (r : Result (List (List FieldItem)) Fault) → ((r >>= expression_with i) >>= λ e. Ok (gather g (Holds e ∷ []))) ≡ (r >>= gather_ops g)
  go (Ok ops) = ap (λ (w : Gathered). Ok w) (held_same c k g i.at i.rest ops)
  go (Err f) = refl

module _ (c : ExprContext) (k : ℕ) where
  -- an expression behind its length
  inside_field : (bad : Fault) (g : Gathered) (i : Input) → (fields_at (expr_within c k) bad (Inside ∷ []) i >>= into g) ≡ nested_into c k bad g i
  unfolding fields_at
  inside_field bad g i = length_of (or_fault bad (uleb_at i)) where
    expr_of : (j : Input) (r : Result Expression Fault) → (((r >>= held j) >>= then_read (λ _. fields_at (expr_within c k) bad []) (λ a b. a ++ b)) >>= into g)
        ≡ ((r >>= λ e. Ok (gather g (Holds e ∷ []))) >>= behind_content j)
    expr_of j (Ok e) = refl
    expr_of j (Err f) = refl

    content_of : (at : ℕ) (r : Result (List ℕ × Input) Fault) → (((r >>= inside_of (expr_within c k) bad at) >>= then_read (λ _. fields_at (expr_within c k) bad []) (λ a b. a ++ b)) >>= into g)
        ≡ (r >>= content_into c k bad g at)
    content_of at (Ok x) = expr_of x.1 (expr_within c k bad (input_of at x.0)) ∙ ap (λ (r : Result Gathered Fault). r >>= behind_content x.1) (inside_is c k bad g (input_of at x.0))
    content_of at (Err f) = refl

    length_of : (r : Result (ℕ × Input) Fault) → (((r >>= inside_at (expr_within c k) bad) >>= then_read (λ _. fields_at (expr_within c k) bad []) (λ a b. a ++ b)) >>= into g)
        ≡ (r >>= counted_into c k bad g)
    length_of (Ok n) = content_of n.1.at (or_fault bad (take_at n.0 n.1))
    length_of (Err f) = refl

  -- the operands of an expression were looked up as it was read
  inside_named : (bad : Fault) (i : Input) → (fields_at (expr_within c k) bad (Inside ∷ []) i >>= with_named_entries c) ≡ fields_at (expr_within c k) bad (Inside ∷ []) i
  unfolding fields_at
  inside_named bad i = length_of (or_fault bad (uleb_at i)) where
    expr_of : (j : Input) (r : Result Expression Fault) → ((e : Expression) → r ≡ Ok e → first_unnamed c.names e.operands ≡ None)
        → (((r >>= held j) >>= then_read (λ _. fields_at (expr_within c k) bad []) (λ a b. a ++ b)) >>= with_named_entries c)
        ≡ ((r >>= held j) >>= then_read (λ _. fields_at (expr_within c k) bad []) (λ a b. a ++ b))
    expr_of j (Ok e) named = ap (unless_unnamed c (Holds e ∷ [], j)) (held_names c e ∙ named e refl)
    expr_of j (Err f) named = refl

    content_of : (at : ℕ) (r : Result (List ℕ × Input) Fault) → (((r >>= inside_of (expr_within c k) bad at) >>= then_read (λ _. fields_at (expr_within c k) bad []) (λ a b. a
        ++ b)) >>= with_named_entries c)
        ≡ ((r >>= inside_of (expr_within c k) bad at) >>= then_read (λ _. fields_at (expr_within c k) bad []) (λ a b. a ++ b))
    content_of at (Ok x) = expr_of x.1 (expr_within c k bad (input_of at x.0)) (λ e is. expr_looked_up c k bad (input_of at x.0) e is)
    content_of at (Err f) = refl

    length_of : (r : Result (ℕ × Input) Fault) → (((r >>= inside_at (expr_within c k) bad) >>= then_read (λ _. fields_at (expr_within c k) bad []) (λ a b. a ++ b)) >>= with_named_entries c)
        ≡ ((r >>= inside_at (expr_within c k) bad) >>= then_read (λ _. fields_at (expr_within c k) bad []) (λ a b. a ++ b))
    length_of (Ok n) = content_of n.1.at (or_fault bad (take_at n.0 n.1))
    length_of (Err f) = refl

  pub nested_op : (g : Gathered) (at code : ℕ) (rest : List ℕ) → fields_of (shape_of operator_rows code) ≡ Some (Inside ∷ [])
      → (op_at c (expr_within c k) (input_of at (code ∷ rest)) >>= into g) ≡ nested_into c k (bad_expr c at) g (input_of (at + 1) rest)
  unfolding op_at
  nested_op g at code rest laid =
      ap (λ (o : Option (List Field)). op_by c (expr_within c k) at code o (input_of (at + 1) rest) >>= into g) laid
      ∙ ap (λ (r : Result (List FieldItem × Input) Fault). r >>= into g) (inside_named (bad_expr c at) (input_of (at + 1) rest))
      ∙ inside_field (bad_expr c at) g (input_of (at + 1) rest)

-- ---- one operator, and the others

-- behind other operands
abbrev pub prepend : List Operand → Gathered × Input → Result (Gathered × Input) Fault
prepend own p = Ok (gathered (own ++ p.0.operands) p.0.address, p.1)

into_shift : (own : List Operand) (a : Bool) (r : Result (List FieldItem × Input) Fault) → (r >>= into (gathered own a)) ≡ ((r >>= into (gathered [] a)) >>= prepend own)
into_shift own a (Ok x) = refl
into_shift own a (Err f) = refl

-- the same of an operator without an expression
pub fields_shift : (bad : Fault) (fields : List Field) (own : List Operand) (a : Bool) (i : Input) → AreFlat fields
    → fields_into bad fields (gathered own a) i ≡ (fields_into bad fields (gathered [] a) i >>= prepend own)
fields_shift bad fields own a i flat =
    sym (fields_are no_reader bad fields (gathered own a) i flat)
    ∙ into_shift own a (fields_at no_reader bad fields i)
    ∙ ap (λ (r : Result (Gathered × Input) Fault). r >>= prepend own) (fields_are no_reader bad fields (gathered [] a) i flat) where
      no_reader : InsideReader
      no_reader f j = Err f

module _ (c : ExprContext) (k : ℕ) where
  -- what is answered of an operator, unless an operand of it names no entry, is followed by what is answered of the others, unless one of
  -- those before does
  pub step : (own own1 : List Operand) (a : Bool) (at code : ℕ) (rest : List ℕ) (q : Result (Gathered × Input) Fault) → (op_at c (expr_within c k) (input_of at (code ∷ rest)) >>= into (gathered [] a))
      ≡ asked c own1 q
      → asked c own (ops_into c k (gathered own a) (input_of at (code ∷ rest))) ≡ asked c (own ++ own1) ((q >>= prepend own) >>= λ p. ops_into c k p.0 p.1)
  step own own1 a at code rest q is =
      ap (asked c own)
      (ops_step c k (gathered own a) at code rest
      ∙ ap (λ (r : Result (Gathered × Input) Fault). r >>= λ p. ops_into c k p.0 p.1)
      (into_shift own a (op_at c (expr_within c k) (input_of at (code ∷ rest))) ∙ ap (λ (r : Result (Gathered × Input) Fault). r >>= prepend own) is ∙ asked_bind c own1 q (prepend own))
      ∙ asked_bind c own1 (q >>= prepend own) (λ p. ops_into c k p.0 p.1))
      ∙ asked_twice c own own1 ((q >>= prepend own) >>= λ p. ops_into c k p.0 p.1)
