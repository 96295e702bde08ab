-- One turn of the loop over operators, in each context.
use Rattle.std.proofs.Common.{◌≡◌, ℕ, Bool, true, false, eqb, ◌+◌, ◌<◌, List, [], ◌∷◌, ◌++◌, length, Option, Some, None, Result, Ok, Err, refl, sym, ap, subst, ◌∙◌, inl, inr, arith, drop}
use Rattle.std.proofs.Common.{append_assoc}
use Rattle.std.specs.Prelude.{◌||◌}
use Rattle.std.specs.List.{list_all}
use Rattle.std.proofs.lemmas.Bool.{and_parts}
use Rattle.std.proofs.Math.ListN.{drop_of_length-le}
use Rattle.std.proofs.Math.Seq.{drop-append_seam}
use Rattle.std.proofs.lemmas.List.{append-nil, length-append}
use Rattle.dwz_model.specs.declared.fault.Fault.{Fault}
use Rattle.dwz_model.specs.declared.fault.ReadErr.{ReadErr}
use Rattle.dwz_model.specs.declared.fault.ReadErr.TheVariants.{NoMemory, Refused}
use Rattle.dwz_bytes.specs.Input.{Input}
use Rattle.dwz_def_reading.specs.Faults.{Fails}
use Rattle.dwz_bytes.specs.Reading.{◌>>=◌, fixed_at, take_at}
use Rattle.dwz_bytes.proofs.GroupLemmas.{chosen}
use Rattle.dwz_codes.specs.Operators.{operator_rows}
use Rattle.dwz_codes.specs.declared.shape.Shape.{Shape}
use Rattle.dwz_codes.specs.declared.shape.Shape.TheVariants.{Nothing, Fixed1, Fixed2, Fixed4, Fixed8, Uleb, Sleb, UlebSleb, UlebUleb, BlockUleb, Address, AddressIndex, NestedExpr, UnitEntry4}
use Rattle.dwz_codes.specs.declared.shape.Shape.TheVariants.{InfoEntry4, InfoEntry4Sleb, UlebEntryConst, RegisterUlebEntry, SizeUlebEntry, UlebEntryOrGeneric, UlebUlebExpr, AddressAddressExpr}
use Rattle.dwz_codes.specs.declared.shape.Shape.TheVariants.{AddressUlebExpr}
use Rattle.dwz_def_reading.specs.Exprs.{ExprContext, Field, FieldItem, IsFaultWithin, SpellsWithin, any_operands, bad_expr, expr_within, fields_of, op_at, or_fault, unsupported}
use Rattle.dwz_def_reading.specs.declared.exprs.Operand.{Operand}
use Rattle.dwz_model.specs.declared.fault.Reason.TheVariants.{BadExpr, UnsupportedOp}
use Rattle.dwz_codes.specs.Rows.{RowView, row_of}
use Rattle.dwz_def_reading.specs.Values.{shape_in, shape_of}
use Rattle.dwz_def_reading.proofs.ExprLemmas.{op_reads, op_takes, within_reads}
use Rattle.dwz_def_reading.proofs.FieldLemmas.{bytes_agree}
use Rattle.dwz_def_reading.proofs.PartLemmas.{bind_ok}
use Rattle.dwz_def_reading.proofs.ReadLemmas.{fixed_reads, run_reads}
use Rattle.dwz_def_reading.proofs.AbbrevLemmas.{byte_of}
use Rattle.dwz_def_reading.proofs.SequenceLemmas.{input_of}
use Rattle.dwz_def_reading.proofs.FileLemmas.{or_true}
use Rattle.dwz_expr.specs.Flat.{HasNoExpression}
use Rattle.dwz_expr.specs.FirstFault.{asked}
use Rattle.dwz_expr.specs.Gathering.{Gathered, Grows, InEach, added, fields_into, gather, gathered, nested_into, op_into, ops_into}
use Rattle.dwz_expr.proofs.AskedLemmas.{asked_any, asked_none}
use Rattle.dwz_expr.proofs.GatherLemmas.{AreFlat, into}
use Rattle.dwz_expr.proofs.OperatorLemmas.{bad_op, fields_shift, flat_op, nested_op, ops_none, prepend, same_behind, same_gathered, step, stopped, unread_op, went}

-- ---- the code

pub record IsCode (i : Input) (code : ℕ) (j : Input) : Type 0 where
  pub rest : i.rest ≡ code ∷ j.rest
  pub at : j.at ≡ i.at + 1

pub code_read : (bad : Fault) (i : Input) (code : ℕ) (j : Input) → or_fault bad (fixed_at 1 i) ≡ Ok (code, j) → IsCode i code j
code_read bad i code j is =
    let t = ((bytes_agree (fixed_reads 1) bad i).ok (code, j)).0 is in
    let byte = byte_of t.front code t.spelled in
    record { rest = t.parts ∙ ap (λ (w : List ℕ). w ++ j.rest) byte; at = t.place ∙ ap (λ (w : List ℕ). i.at + length w) byte }

-- ---- which fields are flat

some_same : (a b : List Field) → Some a ≡ Some b → a ≡ b
some_same a b e = cc

pub flat_fields : (shape : Shape) (fields : List Field) → HasNoExpression shape → fields_of shape ≡ Some fields → AreFlat fields
flat_fields Nothing fields flat e = subst AreFlat (some_same _ fields e) tt
flat_fields Fixed1 fields flat e = subst AreFlat (some_same _ fields e) (tt, tt)
flat_fields Fixed2 fields flat e = subst AreFlat (some_same _ fields e) (tt, tt)
flat_fields Fixed4 fields flat e = subst AreFlat (some_same _ fields e) (tt, tt)
flat_fields Fixed8 fields flat e = subst AreFlat (some_same _ fields e) (tt, tt)
flat_fields Uleb fields flat e = subst AreFlat (some_same _ fields e) (tt, tt)
flat_fields Sleb fields flat e = subst AreFlat (some_same _ fields e) (tt, tt)
flat_fields UlebSleb fields flat e = subst AreFlat (some_same _ fields e) (tt, (tt, tt))
flat_fields UlebUleb fields flat e = subst AreFlat (some_same _ fields e) (tt, (tt, tt))
flat_fields BlockUleb fields flat e = subst AreFlat (some_same _ fields e) (tt, tt)
flat_fields Address fields flat e = subst AreFlat (some_same _ fields e) (tt, tt)
flat_fields AddressIndex fields flat e = subst AreFlat (some_same _ fields e) (tt, tt)
flat_fields NestedExpr fields flat e = absurd flat
flat_fields UnitEntry4 fields flat e = subst AreFlat (some_same _ fields e) (tt, tt)
flat_fields InfoEntry4 fields flat e = subst AreFlat (some_same _ fields e) (tt, tt)
flat_fields InfoEntry4Sleb fields flat e = subst AreFlat (some_same _ fields e) (tt, (tt, tt))
flat_fields UlebEntryConst fields flat e = subst AreFlat (some_same _ fields e) (tt, (tt, tt))
flat_fields RegisterUlebEntry fields flat e = subst AreFlat (some_same _ fields e) (tt, (tt, tt))
flat_fields SizeUlebEntry fields flat e = subst AreFlat (some_same _ fields e) (tt, (tt, tt))
flat_fields UlebEntryOrGeneric fields flat e = subst AreFlat (some_same _ fields e) (tt, tt)
flat_fields UlebUlebExpr fields flat e = absurd flat
flat_fields AddressAddressExpr fields flat e = absurd flat
flat_fields AddressUlebExpr fields flat e = absurd flat
flat_fields _ fields flat e = absurd cc

-- ---- no operator has a layout of location lists

abbrev is_flat : Shape → Bool
is_flat NestedExpr = false
is_flat UlebUlebExpr = false
is_flat AddressAddressExpr = false
is_flat AddressUlebExpr = false
is_flat _ = true

abbrev is_nested : Shape → Bool
is_nested NestedExpr = true
is_nested _ = false

abbrev is_operator : RowView → Bool
is_operator r = is_flat r.shape || is_nested r.shape

operators_are : list_all is_operator operator_rows ≡ true
unfolding operator_rows
operators_are = refl

flat_shape : (shape : Shape) → is_flat shape ≡ true → HasNoExpression shape
flat_shape NestedExpr e = absurd cc
flat_shape UlebUlebExpr e = absurd cc
flat_shape AddressAddressExpr e = absurd cc
flat_shape AddressUlebExpr e = absurd cc
flat_shape _ e = tt

nested_shape : (shape : Shape) → is_nested shape ≡ true → shape ≡ NestedExpr
nested_shape NestedExpr e = refl
nested_shape _ e = absurd cc

pub row_holds : (p : RowView → Bool) (rows : List RowView) (code : ℕ) (r : RowView) → list_all p rows ≡ true → row_of rows code ≡ Some r → p r ≡ true
row_holds p [] code r all is = absurd cc
row_holds p (s ∷ rows) code r all is =
    let both = and_parts (p s) (list_all p rows) all in
    elim (chosen (eqb s.code code) (Some s) (row_of rows code) (Some r) is) [
      | inl h ↦ (let found = h.1 in let same : s ≡ r = cc in ap p (sym same) ∙ both.0)
      | inr h ↦ row_holds p rows code r both.1 h.1
    ]

pub other_shapes : (code : ℕ) → (shape_of operator_rows code ≡ NestedExpr → ⊥) → HasNoExpression (shape_of operator_rows code)
other_shapes code other = by (row_of operator_rows code) refl where
  by : (o : Option RowView) → row_of operator_rows code ≡ o → HasNoExpression (shape_of operator_rows code)
  by None none = subst HasNoExpression (sym (ap shape_in none)) tt
  by (Some r) some =
      let same : shape_of operator_rows code ≡ r.shape = ap shape_in some in
      elim (or_true (is_flat r.shape) (is_nested r.shape) (row_holds is_operator operator_rows code r operators_are some)) [
        | inl flat ↦ subst HasNoExpression (sym same) (flat_shape r.shape flat)
        | inr nested ↦ absurd (other (same ∙ nested_shape r.shape nested))
      ]

-- ---- an operator

pub bad_same : (c : ExprContext) (section at : ℕ) → c.section ≡ section → bad_expr (any_operands section) at ≡ bad_expr c at
bad_same c section at e = λ n. record { section = sym e n; at = at; reason = BadExpr }

unsupported_same : (c : ExprContext) (section at code : ℕ) → c.section ≡ section → unsupported c at code ≡ unsupported (any_operands section) at code
unsupported_same c section at code e = λ n. record { section = e n; at = at; reason = UnsupportedOp code }

pub same_fault : (e f : Fault) → stopped e ≡ stopped f → e ≡ f
same_fault e f is = cc

-- one in which no expression stands
module _ (section k at code : ℕ) (rest : List ℕ) where
  abbrev op_of : ExprContext → Result (List FieldItem × Input) Fault
  op_of c = op_at c (expr_within c k) (input_of at (code ∷ rest))

  pub flat_read : (a : Bool) (laid : Option (List Field)) → fields_of (shape_of operator_rows code) ≡ laid → ((fields : List Field) → laid ≡ Some fields → AreFlat fields)
      → (h : Gathered) (j : Input) → op_into section at code laid (gathered [] a) (input_of (at + 1) rest) ≡ went h j
      → (c : ExprContext) → c.section ≡ section → (op_of c >>= into (gathered [] a)) ≡ asked c h.operands (Ok (h, j))
  flat_read a None none flat h j is c e = absurd cc
  flat_read a (Some fields) laid flat h j is c e =
      flat_op c k a at code rest fields laid (flat fields refl) h j (ap (λ (bad : Fault). fields_into bad fields (gathered [] a) (input_of (at + 1) rest)) (sym (bad_same c section at e)) ∙ is)

  pub flat_unread : (a : Bool) (laid : Option (List Field)) → fields_of (shape_of operator_rows code) ≡ laid → ((fields : List Field) → laid ≡ Some fields → AreFlat fields)
      → (f : Fault) → op_into section at code laid (gathered [] a) (input_of (at + 1) rest) ≡ stopped f
      → (c : ExprContext) → c.section ≡ section → (op_of c >>= into (gathered [] a)) ≡ stopped f
  flat_unread a None none flat f is c e =
      unread_op c k (gathered [] a) at code rest none ∙ ap (λ (g : Fault). stopped g) (unsupported_same c section at code e ∙ same_fault (unsupported (any_operands section) at code) f is)
  flat_unread a (Some fields) laid flat f is c e =
      bad_op c k a at code rest fields laid (flat fields refl) f (ap (λ (bad : Fault). fields_into bad fields (gathered [] a) (input_of (at + 1) rest)) (sym (bad_same c section at e)) ∙ is)

op_shift : (section at code : ℕ) (laid : Option (List Field)) → ((fields : List Field) → laid ≡ Some fields → AreFlat fields) → (own : List Operand) (a : Bool) (i : Input)
    → op_into section at code laid (gathered own a) i ≡ (op_into section at code laid (gathered [] a) i >>= prepend own)
op_shift section at code None flat own a i = refl
op_shift section at code (Some fields) flat own a i = fields_shift (bad_expr (any_operands section) at) fields own a i (flat fields refl)

-- what an operator leaves
pub record Leaves (at : ℕ) (bytes : List ℕ) (j : Input) : Type 0 where
  pub end : j.at + length j.rest ≡ at + length bytes
  pub fewer : length j.rest < length bytes

pub leaves : (c : ExprContext) (k : ℕ) (g h : Gathered) (at code : ℕ) (rest : List ℕ) (j : Input) → (op_at c (expr_within c k) (input_of at (code ∷ rest)) >>= into g) ≡ Ok (h, j)
    → Leaves at (code ∷ rest) j
leaves c k g h at code rest j is =
    let b = bind_ok (op_at c (expr_within c k) (input_of at (code ∷ rest))) (into g) (h, j) is in
    let x = b.0 in
    let inner = λ (bad : Fault). within_reads c k bad in
    let t = (((op_reads c (expr_within c k) (SpellsWithin c k) (IsFaultWithin c k) inner).agrees (input_of at (code ∷ rest))).ok x).0 b.1 in
    let some = op_takes c (expr_within c k) (SpellsWithin c k) (IsFaultWithin c k) inner x.0 at t.front t.spelled in
    let behind : x.1 ≡ j = same_behind (gather g x.0) h x.1 j b.2 in
    let place = t.place in
    let len = ap length t.parts in
    let left : Leaves at (code ∷ rest) x.1 = record { end = omega (arith, place, len, length-append t.front x.1.rest); fewer = omega (arith, some, len, length-append t.front x.1.rest) } in
    subst (Leaves at (code ∷ rest)) behind left

-- ---- one turn of the loop

-- what the first operators gave, in each context, and the others
abbrev pub Keeps : ℕ → ℕ → Bool → Input → List Operand → List Operand → Bool → Input → Type 0
Keeps section k a0 i0 pre ops a i = (c : ExprContext) → c.section ≡ section → ops_into c k (gathered [] a0) i0 ≡ asked c (added pre ops) (ops_into c k (gathered (added pre ops) a) i)

abbrev pub Stops : ℕ → ℕ → Bool → Input → List Operand → List Operand → Fault → Type 0
Stops section k a0 i0 pre ops f = InEach section (λ c. ops_into c k (gathered [] a0) i0) (added pre ops) (Err f)

pub record Turn (section k : ℕ) (a0 : Bool) (i0 : Input) (pre ops : List Operand) (a : Bool) (i j : Input) : Type 0 where
  pub grows : Grows pre ops
  pub keeps : Keeps section k a0 i0 pre ops a j
  pub end : j.at + length j.rest ≡ i.at + length i.rest
  pub fewer : length j.rest < length i.rest

pub record Halt (section k : ℕ) (a0 : Bool) (i0 : Input) (pre ops : List Operand) (f : Fault) : Type 0 where
  pub grows : Grows pre ops
  pub stops : Stops section k a0 i0 pre ops f

-- nothing was put behind them
pub same_grow : (pre : List Operand) → Grows pre pre
same_grow pre = let none : drop (length pre) pre ≡ [] = drop_of_length-le pre (omega arith) in sym (append-nil pre) ∙ ap (λ (w : List Operand). pre ++ w) (sym none)

pub none_added : (pre : List Operand) → added pre pre ≡ []
none_added pre = drop_of_length-le pre (omega arith)

pub more_added : (pre ops new own : List Operand) → Grows pre ops → new ≡ ops ++ own → added pre new ≡ added pre ops ++ own
more_added pre ops new own grows is =
    ap (drop (length pre)) (is ∙ ap (λ (w : List Operand). w ++ own) grows ∙ append_assoc pre (added pre ops) own) ∙ drop-append_seam pre (added pre ops ++ own)

pub more_grow : (pre ops new own : List Operand) → Grows pre ops → new ≡ ops ++ own → Grows pre new
more_grow pre ops new own grows is =
    is ∙ ap (λ (w : List Operand). w ++ own) grows ∙ append_assoc pre (added pre ops) own ∙ ap (λ (w : List Operand). pre ++ w) (sym (more_added pre ops new own grows is))

module _ (section k : ℕ) (a0 : Bool) (i0 : Input) (pre ops : List Operand) (a : Bool) (i j : Input) (code : ℕ) (is_code : IsCode i code j) (grows : Grows pre ops)
    (keeps : Keeps section k a0 i0 pre ops a i) where
  whole : i ≡ input_of i.at (code ∷ j.rest)
  whole = let rest = is_code.rest in λ n. record { at = i.at; rest = rest n }

  behind_is : input_of (i.at + 1) j.rest ≡ j
  behind_is = let at = sym is_code.at in λ n. record { at = at n; rest = j.rest }

  abbrev op_here : ExprContext → Result (List FieldItem × Input) Fault
  op_here c = op_at c (expr_within c k) (input_of i.at (code ∷ j.rest))

  -- an operator that answers q, unless one of its operands names no entry
  followed : (own1 : List Operand) (q : Result (Gathered × Input) Fault) (c : ExprContext) → c.section ≡ section → (op_here c >>= into (gathered [] a)) ≡ asked c own1 q
      → ops_into c k (gathered [] a0) i0 ≡ asked c (added pre ops ++ own1) ((q >>= prepend (added pre ops)) >>= λ p. ops_into c k p.0 p.1)
  followed own1 q c e is =
      keeps c e ∙ ap (λ (w : Input). asked c (added pre ops) (ops_into c k (gathered (added pre ops) a) w)) whole ∙ step c k (added pre ops) own1 a i.at code j.rest q is

  goes : (new own1 : List Operand) (b : Bool) (m : Input) → new ≡ ops ++ own1
      → ((c : ExprContext) → c.section ≡ section → (op_here c >>= into (gathered [] a)) ≡ asked c own1 (Ok (gathered own1 b, m)))
      → Turn section k a0 i0 pre new b i m
  goes new own1 b m is each =
      let any = each (any_operands section) refl ∙ asked_any section own1 (Ok (gathered own1 b, m)) in
      let left = leaves (any_operands section) k (gathered [] a) (gathered own1 b) i.at code j.rest m any in
      let more = more_added pre ops new own1 grows is in
      let rest = ap length is_code.rest in
      record {
        grows = more_grow pre ops new own1 grows is;
        keeps = λ c e. followed own1 (Ok (gathered own1 b, m)) c e (each c e) ∙ ap (λ (w : List Operand). asked c w (ops_into c k (gathered w b) m)) (sym more);
        end = omega (arith, left.end, rest);
        fewer = omega (arith, left.fewer, rest);
      }

  halts : (new own1 : List Operand) (f : Fault) → new ≡ ops ++ own1 → ((c : ExprContext) → c.section ≡ section → (op_here c >>= into (gathered [] a)) ≡ asked c own1 (Err f))
      → Halt section k a0 i0 pre new f
  halts new own1 f is each =
      let more = more_added pre ops new own1 grows is in
      record {
        grows = more_grow pre ops new own1 grows is;
        stops = λ c e. followed own1 (Err f) c e (each c e) ∙ ap (λ (w : List Operand). asked c w (Err f)) (sym more);
      }

  module _ (at : ℕ) (here : at ≡ i.at) (shape : Shape) (is_shape : shape ≡ shape_of operator_rows code) where
    laid_flat : (shape ≡ NestedExpr → ⊥) → (fields : List Field) → fields_of (shape_of operator_rows code) ≡ Some fields → AreFlat fields
    laid_flat other fields laid = flat_fields (shape_of operator_rows code) fields (other_shapes code (λ nested. other (is_shape ∙ nested))) laid

    moved : (own : List Operand) → op_into section i.at code (fields_of (shape_of operator_rows code)) (gathered own a) (input_of (i.at + 1) j.rest)
        ≡ op_into section at code (fields_of shape) (gathered own a) j
    moved own =
        ap (op_into section i.at code (fields_of (shape_of operator_rows code)) (gathered own a)) behind_is
        ∙ sym (ap (λ (n : ℕ). op_into section n code (fields_of shape) (gathered own a) j) here ∙ ap (λ (s : Shape). op_into section i.at code (fields_of s) (gathered own a) j) is_shape)

    pub flat_turn : (shape ≡ NestedExpr → ⊥) → (new : List Operand) (b : Bool) (m : Input) → op_into section at code (fields_of shape) (gathered ops a) j ≡ Ok (gathered new b, m)
        → Turn section k a0 i0 pre new b i m
    flat_turn other new b m ok =
        let laid = fields_of (shape_of operator_rows code) in
        let read = op_into section i.at code (fields_of (shape_of operator_rows code)) (gathered [] a) (input_of (i.at + 1) j.rest) in
        let s = bind_ok read (prepend ops) (gathered new b, m) (sym (op_shift section i.at code laid (laid_flat other) ops a (input_of (i.at + 1) j.rest)) ∙ moved ops ∙ ok) in
        let p = s.0 in
        let held : gathered (ops ++ p.0.operands) p.0.address ≡ gathered new b = same_gathered (gathered (ops ++ p.0.operands) p.0.address) (gathered new b) p.1 m s.2 in
        let behind : p.1 ≡ m = same_behind (gathered (ops ++ p.0.operands) p.0.address) (gathered new b) p.1 m s.2 in
        let address : p.0.address ≡ b = ap (λ (g : Gathered). g.address) held in
        let read_is : read ≡ went (gathered p.0.operands b) m = s.1 ∙ (λ n. went (gathered p.0.operands (address n)) (behind n)) in
        goes new p.0.operands b m (sym (ap (λ (g : Gathered). g.operands) held)) (flat_read section k i.at code j.rest a laid refl (laid_flat other) (gathered p.0.operands b) m read_is)

    pub flat_halt : (shape ≡ NestedExpr → ⊥) → (f : Fault) → op_into section at code (fields_of shape) (gathered ops a) j ≡ Err f → Halt section k a0 i0 pre ops f
    flat_halt other f err =
        let laid = fields_of (shape_of operator_rows code) in
        let read = op_into section i.at code (fields_of (shape_of operator_rows code)) (gathered [] a) (input_of (i.at + 1) j.rest) in
        let shifted = sym (op_shift section i.at code laid (laid_flat other) ops a (input_of (i.at + 1) j.rest)) ∙ moved ops ∙ err in
        halts ops [] f (sym (append-nil ops)) (λ c e. flat_unread section k i.at code j.rest a laid refl (laid_flat other) f (not_shifted read f shifted) c e ∙ sym (asked_none c (stopped f))) where
          not_shifted : (r : Result (Gathered × Input) Fault) (f : Fault) → (r >>= prepend ops) ≡ stopped f → r ≡ stopped f
          not_shifted (Ok p) f is = absurd cc
          not_shifted (Err g) f is = is

    nested_is : shape ≡ NestedExpr → (c : ExprContext) → (op_here c >>= into (gathered [] a)) ≡ nested_into c k (bad_expr c at) (gathered [] a) j
    nested_is nested c =
        nested_op c k (gathered [] a) i.at code j.rest (ap fields_of (sym is_shape ∙ nested))
        ∙ ap (nested_into c k (bad_expr c i.at) (gathered [] a)) behind_is
        ∙ ap (λ (n : ℕ). nested_into c k (bad_expr c n) (gathered [] a) j) (sym here)

    pub nested_turn : shape ≡ NestedExpr → (new : List Operand) (b : Bool) (m : Input) → Grows ops new
        → InEach section (λ c. nested_into c k (bad_expr c at) (gathered [] a) j) (added ops new) (Ok (gathered (added ops new) b, m))
        → Turn section k a0 i0 pre new b i m
    nested_turn nested new b m more each = goes new (added ops new) b m more (λ c e. nested_is nested c ∙ each c e)

    pub nested_halt : shape ≡ NestedExpr → (new : List Operand) (f : Fault) → Grows ops new → InEach section (λ c. nested_into c k (bad_expr c at) (gathered [] a) j) (added ops new) (Err f)
        → Halt section k a0 i0 pre new f
    nested_halt nested new f more each = halts new (added ops new) f more (λ c e. nested_is nested c ∙ each c e)

-- no bytes are left
pub none_left : (section k : ℕ) (a0 : Bool) (i0 : Input) (pre ops : List Operand) (a : Bool) (i : Input) → Keeps section k a0 i0 pre ops a i → length i.rest ≡ 0
    → InEach section (λ c. ops_into c k (gathered [] a0) i0) (added pre ops) (Ok (gathered (added pre ops) a))
none_left section k a0 i0 pre ops a i keeps empty = λ c e. keeps c e ∙ ap (asked c (added pre ops)) (by c i.rest refl) where
  by : (c : ExprContext) (bytes : List ℕ) → i.rest ≡ bytes → ops_into c k (gathered (added pre ops) a) i ≡ Ok (gathered (added pre ops) a)
  by c [] same = ap (ops_into c k (gathered (added pre ops) a)) (let is : i ≡ input_of i.at [] = λ n. record { at = i.at; rest = same n } in is) ∙ ops_none c k (gathered (added pre ops) a) i.at
  by c (b ∷ bytes) same = absurd (let len = ap length same in omega (arith, empty, len))

-- at first nothing was gathered
pub all_left : (section k : ℕ) (a : Bool) (i : Input) (pre : List Operand) → Keeps section k a i pre pre a i
all_left section k a i pre = λ c e. sym (ap (λ (w : List Operand). asked c w (ops_into c k (gathered w a) i)) (none_added pre) ∙ asked_none c (ops_into c k (gathered [] a) i))

-- an operator without its code
pub no_code : (i : Input) → 0 < length i.rest → (bad : Fault) (f : Fault) → or_fault bad (fixed_at 1 i) ≡ Err f → ⊥
no_code i some bad f is = let h = ((bytes_agree (fixed_reads 1) bad i).err f).0 is in elim h.1 [ inl fewer ↦ omega (arith, fewer, some) | inr never ↦ never ]

-- where one reading fails, another one does so too
pub fails_same : {X Y : Type 0} (e : ReadErr) (a : Result X Fault) (b : Result Y Fault) → ((f : Fault) → a ≡ Err f → b ≡ Err f) → Fails e a → Fails e b
fails_same NoMemory a b same fails = tt
fails_same (Refused f) a b same fails = same f fails

-- what follows a length
pub run_within : (bad : Fault) (n : ℕ) (i : Input) (x : List ℕ) (j : Input) → or_fault bad (take_at n i) ≡ Ok (x, j) → j.at ≡ i.at + length x
run_within bad n i x j is = let t = ((bytes_agree (run_reads n) bad i).ok (x, j)).0 is in t.place ∙ ap (λ (w : List ℕ). i.at + length w) (sym t.spelled.same)

pub run_end : (bad : Fault) (n : ℕ) (i : Input) (x : List ℕ) (j : Input) → or_fault bad (take_at n i) ≡ Ok (x, j) → j.at + length j.rest ≡ i.at + length i.rest
run_end bad n i x j is = let t = ((bytes_agree (run_reads n) bad i).ok (x, j)).0 is in let place = t.place in omega (arith, place, ap length t.parts, length-append t.front j.rest)
