-- The parts of an expression, operand by operand; and what reading it says where its operands name entries.
use Rattle.std.proofs.Common.{◌≡◌, ℕ, ◌+◌, ◌*◌, ◌-◌, ◌≤◌, Bool, List, [], ◌∷◌, ◌++◌, length, take, drop, Option, Some, None, Result, Ok, refl, sym, ap, ◌∙◌, arith}
use Rattle.std.specs.List.{flat_map}
use Rattle.std.proofs.lemmas.List.{append-nil, append_assoc, drop_all}
use Rattle.dwz_def_reading.specs.Input.{Input}
use Rattle.dwz_expr.specs.FirstFault.{ReadsInto, unless_one}
use Rattle.dwz_label.specs.Labels.{number, part_label, parts_label, plain_label}
use Rattle.dwz_def_reading.specs.declared.exprs.Operand.{Operand}
use Rattle.dwz_def_reading.specs.Documents.{Expr, Same}
use Rattle.dwz_def_reading.specs.Documents as document
use Rattle.dwz_def_reading.specs.Exprs.{ExprContext, Expression, any_operands, expr_at, first_unnamed, parts_from}
use Rattle.dwz_model.specs.declared.fault.Fault.{Fault}

-- ---- parts

abbrev pieces : ℕ → List ℕ → List Operand → List ℕ
pieces place rest operands = flat_map part_label (parts_from place rest operands)

-- behind an operand the rest is cut where the next one begins
pub next_operand : (operands : List Operand) (k : ℕ) (o : Operand) (place : ℕ) (rest cut left out one two all : List ℕ) → drop k operands ≡ o ∷ drop (k + 1) operands → cut ≡ take (o.at - place) rest
    → left ≡ drop (o.at + o.width - place) rest
    → one ≡ out ++ part_label (Same cut) → two ≡ one ++ part_label (document.Operand o.width o.uleb o.base) → out ++ pieces place rest (drop k operands) ≡ all
    → two ++ pieces (o.at + o.width) left (drop (k + 1) operands) ≡ all
unfolding parts_from
next_operand operands k o place rest cut left out one two all here is_cut is_left is_one is_two so =
    let more = drop (k + 1) operands in
    let a = part_label (Same (take (o.at - place) rest)) in
    let b = part_label (document.Operand o.width o.uleb o.base) in
    let c = pieces (o.at + o.width) (drop (o.at + o.width - place) rest) more in
    ap (λ (w : List ℕ). w ++ pieces (o.at + o.width) left more) (is_two ∙ ap (λ (w : List ℕ). w ++ b) (is_one ∙ ap (λ (w : List ℕ). out ++ part_label (Same w)) is_cut))
    ∙ ap (λ (w : List ℕ). ((out ++ a) ++ b) ++ pieces (o.at + o.width) w more) is_left
    ∙ append_assoc (out ++ a) b c ∙ append_assoc out a (b ++ c)
    ∙ ap (λ (w : List Operand). out ++ pieces place rest w) (sym here) ∙ so

pub last_piece : (operands : List Operand) (k place : ℕ) (rest out one all : List ℕ) → length operands ≤ k → one ≡ out ++ part_label (Same rest) → out ++ pieces place rest (drop k operands) ≡ all
    → one ≡ all
unfolding parts_from
last_piece operands k place rest out one all le is so =
    is ∙ ap (λ (w : List ℕ). out ++ w) (sym (append-nil (part_label (Same rest)))) ∙ ap (λ (w : List Operand). out ++ pieces place rest w) (sym (drop_all k operands le)) ∙ so

parts_many : (operands : List Operand) (place : ℕ) (bytes : List ℕ) → length (parts_from place bytes operands) ≡ length operands * 2 + 1
unfolding parts_from
parts_many [] place bytes = refl
parts_many (o ∷ operands) place bytes = let r = parts_many operands (o.at + o.width) (drop (o.at + o.width - place) bytes) in omega (arith, r)

-- their count, and they
pub counted_parts : (operands : List Operand) (place : ℕ) (bytes out one two : List ℕ) → one ≡ out ++ number (length operands * 2 + 1) → two ≡ one ++ pieces place bytes operands
    → two ≡ out ++ parts_label (parts_from place bytes operands)
counted_parts operands place bytes out one two is_one is_two =
    is_two ∙ ap (λ (w : List ℕ). w ++ pieces place bytes operands) (is_one ∙ ap (λ (n : ℕ). out ++ number n) (sym (parts_many operands place bytes)))
    ∙ append_assoc out (number (length (parts_from place bytes operands))) (pieces place bytes operands)

pub whole_parts : (operands : List Operand) (place : ℕ) (bytes out one two : List ℕ) → one ≡ out ++ 11 ∷ number (length operands * 2 + 1) → two ≡ one ++ pieces place bytes operands
    → two ≡ out ++ plain_label (Expr (parts_from place bytes operands))
whole_parts operands place bytes out one two is_one is_two =
    is_two ∙ ap (λ (w : List ℕ). w ++ pieces place bytes operands) (is_one ∙ ap (λ (n : ℕ). out ++ 11 ∷ number n) (sym (parts_many operands place bytes)))
    ∙ append_assoc out (11 ∷ number (length (parts_from place bytes operands))) (pieces place bytes operands)

-- ---- reading

abbrev pub Is : Input → List Operand → Expression → Type 0
Is i operands e = (e.at ≡ i.at) × (e.bytes ≡ i.rest) × (e.operands ≡ operands)

pub asked_is : {X : Type 0} (c : ExprContext) (answer : Result X Fault) (o : Option Operand) (x : X) → unless_one c answer o ≡ Ok x → answer ≡ Ok x
asked_is c answer None x e = e
asked_is c answer (Some o) x e = absurd cc

pub read_is : (c : ExprContext) (i : Input) (section : ℕ) (operands : List Operand) (address : Bool) (e : Expression) → c.section ≡ section → ReadsInto section i operands (Ok address)
    → expr_at c i ≡ Ok e → Is i operands e
read_is c i section operands address e at reads is =
    let x : Expression = record { at = i.at; bytes = i.rest; operands = operands; address = address } in
    let all = asked_is c (expr_at (any_operands section) i) (first_unnamed c.names operands) e (sym (reads.1 c at) ∙ is) in
    let both : Ok x ≡ Ok e = sym reads.0 ∙ all in
    let same : x ≡ e = cc in
    (sym (ap (λ (w : Expression). w.at) same), sym (ap (λ (w : Expression). w.bytes) same), sym (ap (λ (w : Expression). w.operands) same))
