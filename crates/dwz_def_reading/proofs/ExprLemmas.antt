-- Operators and expressions are read as they are spelled, and fail with the faults that they have.
use Rattle.std.proofs.Common.{◌≡◌, ◌↔◌, ℕ, zero, suc, ◌+◌, ◌<◌, Bool, true, false, List, [], ◌∷◌, ◌++◌, length, Option, Some, None, refl, sym, ap, subst, ◌∙◌, inl, inr, arith}
use Rattle.std.proofs.lemmas.List.{length-append}
use Rattle.dwz_model.specs.declared.fault.Fault.{Fault}
use Rattle.dwz_bytes.specs.Input.{Input}
use Rattle.dwz_bytes.proofs.GroupLemmas.{chosen}
use Rattle.dwz_codes.specs.Operators.{operator_rows}
use Rattle.dwz_def_reading.specs.declared.exprs.Operand.{Operand}
use Rattle.dwz_def_reading.specs.Exprs.{AreNamed, ExprContext, Expression, Field, FieldItem, InsideReader, IsExprFault, IsFaultWithin, IsFieldsFault, IsFirstUnnamed, IsLaidFault, IsOpFault}
use Rattle.dwz_def_reading.specs.Exprs.{SpellsExpr}
use Rattle.dwz_def_reading.specs.Exprs.{SpellsFields, SpellsOp, SpellsWithin, bad_expr, bad_operand, expr_at, expr_within, expression_of, fields_of, first_unnamed, most_inside, op_at, op_by}
use Rattle.dwz_def_reading.specs.Exprs.{with_named_entries}
use Rattle.dwz_def_reading.specs.Exprs.{op_in, operands_in, unless_unnamed, unsupported}
use Rattle.dwz_def_reading.specs.Sequences.{FaultAt, Spelling, SpellsAll}
use Rattle.dwz_def_reading.specs.Values.{shape_of}
use Rattle.dwz_def_reading.proofs.AgreeLemmas.{Agrees, Made, Next, OrNext, agrees_err, agrees_ok, and_with, in_words, then_made}
use Rattle.dwz_def_reading.proofs.FieldLemmas.{fields_read}
use Rattle.dwz_def_reading.proofs.SequenceLemmas.{IsTaken, ReadsAs, ReadsWhole, all_read, input_of}

-- ---- operands that name entries

unnamed_none : (names : Operand → Bool) (operands : List Operand) → first_unnamed names operands ≡ None → AreNamed names operands
unfolding first_unnamed
unnamed_none names [] e = tt
unnamed_none names (o ∷ operands) e =
    elim (chosen (names o) (first_unnamed names operands) (Some o) None e) [
      | inl p ↦ (p.0, unnamed_none names operands p.1)
      | inr p ↦ absurd (let none = p.1 in cc)
    ]

unnamed_first : (names : Operand → Bool) (operands : List Operand) (o : Operand) → first_unnamed names operands ≡ Some o → IsFirstUnnamed names operands o
unfolding first_unnamed
unnamed_first names [] o e = absurd (let none = e in cc)
unnamed_first names (p ∷ operands) o e =
    elim (chosen (names p) (first_unnamed names operands) (Some p) (Some o) e) [
      | inl h ↦ inr (h.0, unnamed_first names operands o h.1)
      | inr h ↦ inl (h.0, (let is = h.1 in let same : p ≡ o = cc in sym same))
    ]

first_one : (names : Operand → Bool) (operands : List Operand) (o p : Operand) → IsFirstUnnamed names operands o → IsFirstUnnamed names operands p → o ≡ p
first_one names [] o p is other = absurd is
first_one names (q ∷ operands) o p (inl a) (inl b) = a.1 ∙ sym b.1
first_one names (q ∷ operands) o p (inl a) (inr b) = absurd (let e : true ≡ false = sym b.0 ∙ a.0 in cc)
first_one names (q ∷ operands) o p (inr a) (inl b) = absurd (let e : true ≡ false = sym a.0 ∙ b.0 in cc)
first_one names (q ∷ operands) o p (inr a) (inr b) = first_one names operands o p a.1 b.1

not_all : (names : Operand → Bool) (operands : List Operand) (o : Operand) → AreNamed names operands → IsFirstUnnamed names operands o → ⊥
not_all names [] o all is = is
not_all names (q ∷ operands) o all (inl a) = let e : true ≡ false = sym all.0 ∙ a.0 in absurd cc
not_all names (q ∷ operands) o all (inr b) = not_all names operands o all.1 b.1

-- what is read goes on as it is where each operand names an entry
pub named_agrees : {X : Type 0} (c : ExprContext) (x : X) (operands : List Operand)
    → Agrees (unless_unnamed c x (first_unnamed c.names operands)) (λ y. AreNamed c.names operands × (y ≡ x)) (λ f. (o : Operand) × IsFirstUnnamed c.names operands o × (f ≡ bad_operand c o.at))
named_agrees {X} c x operands = by (first_unnamed c.names operands) refl where
  by : (first : Option Operand) → first_unnamed c.names operands ≡ first
      → Agrees (unless_unnamed c x first) (λ y. AreNamed c.names operands × (y ≡ x)) (λ f. (o : Operand) × IsFirstUnnamed c.names operands o × (f ≡ bad_operand c o.at))
  by None none = in_words (agrees_ok x)
      (λ y. (λ same. (unnamed_none c.names operands none, same), λ h. h.1))
      (λ f. (λ no. absurd no, λ h. not_all c.names operands h.0 (unnamed_none c.names operands none) h.1))
  by (Some o) some =
      let is = unnamed_first c.names operands o some in
      in_words (agrees_err (bad_operand c o.at))
      (λ y. (λ no. absurd no, λ h. not_all c.names operands o h.0 is))
      (λ f. (λ same. (o, is, same), λ h. h.2 ∙ ap (λ (p : Operand). bad_operand c p.at) (first_one c.names operands h.0 o h.1 is)))

-- ---- an operator

module _ (c : ExprContext) (inner : InsideReader) (IsExpr : Spelling Expression) (ExprFails : Fault → FaultAt) (inner_reads : (bad : Fault) → ReadsWhole (inner bad) IsExpr (ExprFails bad)) where
  op_words : (at code : ℕ) (rest : List ℕ) (fields : List Field) → fields_of (shape_of operator_rows code) ≡ Some fields → (z : List FieldItem × Input)
      → Next (IsTaken (SpellsFields IsExpr fields) (input_of (at + 1) rest)) (λ x z. AreNamed c.names (operands_in x.0) × (z ≡ x)) z ↔ IsTaken (SpellsOp c IsExpr) (input_of at (code ∷ rest)) z
  op_words at code rest fields laid z = (
    λ h.
        let x = h.0 in
        let t = h.1 in
        let same : z ≡ x = h.2.1 in
        subst (IsTaken (SpellsOp c IsExpr) (input_of at (code ∷ rest))) (sym same) (record {
          front = code ∷ t.front;
          spelled = record { code = code; rest = t.front; parts = refl; fields = fields; laid = laid; spelled = t.spelled; named = h.2.0 };
          parts = ap (λ (w : List ℕ). code ∷ w) t.parts;
          place = t.place ∙ omega arith;
        }),
    λ t.
        let s = t.spelled in
        let both : code ∷ rest ≡ s.code ∷ (s.rest ++ z.1.rest) = t.parts ∙ ap (λ (w : List ℕ). w ++ z.1.rest) s.parts in
        let same_code : code ≡ s.code = cc in
        let same_rest : rest ≡ s.rest ++ z.1.rest = cc in
        let laid_too : Some fields ≡ Some s.fields = sym laid ∙ ap (λ (n : ℕ). fields_of (shape_of operator_rows n)) same_code ∙ s.laid in
        let same_fields : s.fields ≡ fields = cc in (
          z,
          record {
            front = s.rest;
            spelled = subst (λ (w : List Field). SpellsFields IsExpr w z.0 (at + 1) s.rest) same_fields s.spelled;
            parts = same_rest;
            place = t.place ∙ omega (arith, ap length s.parts);
          },
          (s.named, refl),
        ),
  )

  op_faults : (at code : ℕ) (rest : List ℕ) (fields : List Field) (f : Fault)
      → OrNext (IsFieldsFault IsExpr (ExprFails (bad_expr c at)) (bad_expr c at) fields (at + 1) rest) (IsTaken (SpellsFields IsExpr fields) (input_of (at + 1) rest))
      (λ x f. (o : Operand) × IsFirstUnnamed c.names (operands_in x.0) o × (f ≡ bad_operand c o.at)) f
      ↔ IsLaidFault c IsExpr ExprFails at code (Some fields) (at + 1) rest f
  op_faults at code rest fields f = (
    λ h. elim h [
      | inl is ↦ inl is
      | inr p ↦ inr (record { founds = p.0.0; front = p.1.front; spelled = p.1.spelled; rest = p.0.1.rest; parts = p.1.parts; operand = p.2.0; first = p.2.1; placed = p.2.2 })
    ],
    λ h. elim h [
      | inl is ↦ inl is
      | inr u ↦ inr ((u.founds, input_of (at + 1 + length u.front) u.rest), record { front = u.front; spelled = u.spelled; parts = u.parts; place = refl }, (u.operand, u.first, u.placed))
    ],
  )

  laid_agrees : (at code : ℕ) (rest : List ℕ) (laid : Option (List Field)) → fields_of (shape_of operator_rows code) ≡ laid
      → Agrees (op_by c inner at code laid (input_of (at + 1) rest)) (IsTaken (SpellsOp c IsExpr) (input_of at (code ∷ rest))) (IsLaidFault c IsExpr ExprFails at code laid (at + 1) rest)
  laid_agrees at code rest None none = in_words (agrees_err (unsupported c at code))
      (λ z. (
        λ no. absurd no,
        λ t.
            let s = t.spelled in
            let both : code ∷ rest ≡ s.code ∷ (s.rest ++ z.1.rest) = t.parts ∙ ap (λ (w : List ℕ). w ++ z.1.rest) s.parts in
            let same_code : code ≡ s.code = cc in
            let laid_too : None ≡ Some s.fields = sym none ∙ ap (λ (n : ℕ). fields_of (shape_of operator_rows n)) same_code ∙ s.laid in
            absurd cc,
      ))
      (λ f. (λ same. same, λ same. same))
  laid_agrees at code rest (Some fields) some =
      in_words (and_with ((fields_read inner IsExpr ExprFails inner_reads (bad_expr c at) fields).agrees (input_of (at + 1) rest)) (with_named_entries c) (λ x. named_agrees c x (operands_in x.0)))
      (op_words at code rest fields some) (op_faults at code rest fields)

  op_agrees : (at : ℕ) (bytes : List ℕ) → Agrees (op_in c inner at bytes) (IsTaken (SpellsOp c IsExpr) (input_of at bytes)) (IsOpFault c IsExpr ExprFails at bytes)
  op_agrees at [] = in_words (agrees_err (bad_expr c at))
      (λ z. (λ no. absurd no, λ t. let s = t.spelled in omega (arith, ap length t.parts, ap length s.parts, length-append t.front z.1.rest)))
      (λ f. (λ same. same, λ same. same))
  op_agrees at (code ∷ rest) = laid_agrees at code rest (fields_of (shape_of operator_rows code)) refl

  pub op_reads : ReadsAs (op_at c inner) (SpellsOp c IsExpr) (IsOpFault c IsExpr ExprFails)
  unfolding op_at
  op_reads = record { agrees = λ i. op_agrees i.at i.rest }

  pub op_takes : (founds : List FieldItem) (start : ℕ) (bytes : List ℕ) → SpellsOp c IsExpr founds start bytes → 0 < length bytes
  op_takes founds start bytes s = omega (arith, ap length s.parts)

-- ---- expressions

pub within_reads : (c : ExprContext) (k : ℕ) (bad : Fault) → ReadsWhole (expr_within c k bad) (SpellsWithin c k) (IsFaultWithin c k bad)
unfolding expr_within
within_reads c zero bad = record { agrees = λ i. agrees_err bad }
within_reads c (suc k) bad =
    let inner = λ (worse : Fault). within_reads c k worse in
    let ops = all_read (op_at c (expr_within c k)) (SpellsOp c (SpellsWithin c k)) (IsOpFault c (SpellsWithin c k) (IsFaultWithin c k))
    (op_reads c (expr_within c k) (SpellsWithin c k) (IsFaultWithin c k) inner) (op_takes c (expr_within c k) (SpellsWithin c k) (IsFaultWithin c k) inner) in
    record { agrees = λ i. in_words (then_made (ops.agrees i) (expression_of i.at i.rest)) (words i) (λ f. (λ h. h, λ h. h)) } where
      words : (i : Input) (e : Expression) → Made (λ xs. SpellsAll (SpellsOp c (SpellsWithin c k)) xs i.at i.rest) (expression_of i.at i.rest) e ↔ SpellsWithin c (suc k) e i.at i.rest
      words i e = (λ h. record { ops = h.0; spelled = h.1; made = h.2 }, λ s. (s.ops, s.spelled, s.made))

-- an expression that has all the bytes
pub expr_agrees : (c : ExprContext) (i : Input) → Agrees (expr_at c i) (λ e. SpellsExpr c e i.at i.rest) (IsExprFault c i.at i.rest)
expr_agrees c i = (within_reads c (suc most_inside) (bad_expr c i.at)).agrees i
