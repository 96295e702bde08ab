-- The operands of a value: which they are, by its unit and its file, and where they lead.
use Rattle.std.proofs.Common.{◌≡◌, ℕ, ◌+◌, true, List, [], ◌∷◌, map, Result, Ok, Err, Some, None, slice_get, suc, zero, refl, sym, ap, subst, ◌∙◌, inl, inr}
use Rattle.std.proofs.lemmas.Option.{same_Some}
use Rattle.dwz_model.specs.Lists.{In}
use Rattle.dwz_model.proofs.ListFacts.{in_cases, in_left, in_right}
use Rattle.dwz_model.proofs.Members.{in_map_from}
use Rattle.dwz_model.specs.declared.fault.Fault.{Fault}
use Rattle.dwz_model.specs.declared.place.Base.{Base}
use Rattle.dwz_model.specs.declared.place.Base.TheVariants.{Unit as FromUnit, Info as FromInfo}
use Rattle.dwz_def_encoding.specs.Meant.{led_to}
use Rattle.dwz_def_reading.specs.declared.exprs.Operand.{Operand}
use Rattle.dwz_def_reading.specs.Classes.{Class, OfExpression, class_of}
use Rattle.dwz_def_reading.specs.Entries.{RawAttr}
use Rattle.dwz_def_reading.specs.Exprs.{AreNamed, ExprContext, Expression, expr_at}
use Rattle.dwz_def_reading.specs.Input.{Input}
use Rattle.dwz_def_reading.specs.Meanings.{MeaningContext, all_places, block_begins, bytes_of, entries_for, expr_context, has, leads_to, target_of, targets}
use Rattle.dwz_def_reading.proofs.ExprLemmas.{expr_agrees}
use Rattle.dwz_def_reading.proofs.MeaningLemmas.{has_in}
use Rattle.dwz_def_reading.proofs.ReadNamed.{expr_named}
use Rattle.dwz_def_output.specs.Refusals.{operands_as, operands_of_attr, operands_of_attrs, operands_read}
use Rattle.dwz_def_expand.specs.Source.{Copy}
use Rattle.dwz_expand_layout.specs.declared.entries.NewOperand.{NewOperand}

-- ---- by their unit and the entries of its file

module _ {P Q : Type 0} (s : MeaningContext P) (t : MeaningContext Q) (unit : s.unit ≡ t.unit) (own : s.own ≡ t.own) (all : s.around.all ≡ t.around.all) where
  leads : (base : Base) (n : ℕ) → leads_to s base n ≡ leads_to t base n
  leads FromUnit n = ap (λ (u : ℕ). u + n) unit
  leads FromInfo n = refl

  entries : (base : Base) → entries_for s base ≡ entries_for t base
  entries FromUnit = own
  entries FromInfo = all

  context : expr_context s 1 ≡ expr_context t 1
  context = λ i. record { section = 1; names = λ o. has (leads o.base o.number i) (entries o.base i) }

  same_operands : (c : Class) (a : RawAttr) → operands_as c s a ≡ operands_as c t a
  same_operands OfExpression a = ap (λ (x : ExprContext). operands_read (expr_at x (record { at = block_begins a; rest = bytes_of a.raw }))) context
  same_operands _ a = refl

  pub operands_alike : (a : RawAttr) → operands_of_attr s a ≡ operands_of_attr t a
  unfolding operands_of_attr
  operands_alike a = same_operands (class_of a.pair.form) a

-- ---- where they lead

module _ {P : Type 0} (s : MeaningContext P) where
  pub target_led : (o : Operand) → target_of s o ≡ led_to s.unit o
  target_led o = by o.base where
    by : (base : Base) → leads_to s base o.number ≡ led_to s.unit (record { at = o.at; width = o.width; uleb = o.uleb; base = base; number = o.number })
    by FromUnit = refl
    by FromInfo = refl

  named_one : (os : List Operand) → AreNamed (expr_context s 1).names os → (o : Operand) → In o os → has (target_of s o) (entries_for s o.base) ≡ true
  named_one [] named o there = absurd there
  named_one (p ∷ os) named o (inl is) = subst (λ (q : Operand). has (target_of s q) (entries_for s q.base) ≡ true) is named.0
  named_one (p ∷ os) named o (inr later) = named_one os named.1 o later

  read_named : (i : Input) (r : Result Expression Fault) → expr_at (expr_context s 1) i ≡ r → (o : Operand) → In o (operands_read r) → has (target_of s o) (entries_for s o.base) ≡ true
  read_named i (Ok e) is o there =
      named_one e.operands (expr_named (expr_context s 1) e i.at i.rest (((expr_agrees (expr_context s 1) i).ok e).0 is)) o there
  read_named i (Err x) is o there = absurd there

  class_named : (c : Class) (a : RawAttr) (o : Operand) → In o (operands_as c s a) → has (target_of s o) (entries_for s o.base) ≡ true
  class_named OfExpression a o there = (let i : Input = record { at = block_begins a; rest = bytes_of a.raw } in read_named i (expr_at (expr_context s 1) i) refl o there)
  class_named _ a o there = absurd there

  -- each leads to an entry of its file
  pub leads_in : (raw : List _) → s.around.all ≡ all_places raw → ((n : ℕ) → In n s.own → In n (all_places raw)) → (a : RawAttr) (o : Operand) → In o (operands_of_attr s a)
      → In (target_of s o) (all_places raw)
  unfolding operands_of_attr
  leads_in raw all own a o there = by o.base (class_named (class_of a.pair.form) a o there) where
    by : (base : Base) → has (target_of s o) (entries_for s base) ≡ true → In (target_of s o) (all_places raw)
    by FromUnit h = own (target_of s o) (has_in (target_of s o) s.own h)
    by FromInfo h = subst (λ (ns : List ℕ). In (target_of s o) ns) all (has_in (target_of s o) s.around.all h)

  -- ---- of which attribute they are

  pub attrs_from : (attrs : List RawAttr) (o : Operand) → In o (operands_of_attrs s attrs) → (index : ℕ) × (a : RawAttr) × (slice_get attrs index ≡ Some a) × In o (operands_of_attr s a)
  unfolding operands_of_attrs
  attrs_from [] o there = absurd there
  attrs_from (a ∷ attrs) o there = elim (in_cases o (operands_of_attr s a) (operands_of_attrs s attrs) there) [
    | inl here ↦ (0, a, refl, here)
    | inr later ↦ (let r = attrs_from attrs o later in (suc r.0, r.1, r.2, r.3))
  ]

  pub attrs_in : (attrs : List RawAttr) (index : ℕ) (a : RawAttr) (o : Operand) → slice_get attrs index ≡ Some a → In o (operands_of_attr s a) → In o (operands_of_attrs s attrs)
  unfolding operands_of_attrs
  attrs_in [] index a o got there = absurd (let z : None ≡ Some a = got in cc)
  attrs_in (b ∷ attrs) zero a o got there =
      let same : b ≡ a = same_Some b a got in
      in_left o (operands_of_attr s b) (operands_of_attrs s attrs) (subst (λ (x : RawAttr). In o (operands_of_attr s x)) (sym same) there)
  attrs_in (b ∷ attrs) (suc index) a o got there = in_right o (operands_of_attr s b) (operands_of_attrs s attrs) (attrs_in attrs index a o got there)

-- ---- the copies that they name

keys_each : (s : MeaningContext ℕ) → s.around.place ≡ (λ n. n) → (row : ℕ → Copy ℕ) (named : ℕ → Copy ℕ) (to : ℕ → ℕ) (ops : List NewOperand)
    → map (λ (p : NewOperand). row p.copy) ops ≡ map named (map to (targets s (map (λ (p : NewOperand). p.operand) ops))) → (p : NewOperand) → In p ops
    → row p.copy ≡ named (to (target_of s p.operand))
keys_each s place row named to [] e p there = absurd there
keys_each s place row named to (q ∷ ops) e p (inl is) =
    let first : row q.copy ≡ named (to (s.around.place (target_of s q.operand))) = cc in
    subst (λ (r : NewOperand). row r.copy ≡ named (to (target_of s r.operand))) is (first ∙ ap (λ (g : ℕ → ℕ). named (to (g (target_of s q.operand)))) place)
keys_each s place row named to (q ∷ ops) e p (inr later) =
    let rest : map (λ (r : NewOperand). row r.copy) ops ≡ map named (map to (targets s (map (λ (r : NewOperand). r.operand) ops))) = cc in
    keys_each s place row named to ops rest p later

-- operands that are so, each with its copy
module _ (s : MeaningContext ℕ) (place : s.around.place ≡ (λ n. n)) (row named : ℕ → Copy ℕ) (to : ℕ → ℕ) (ops : List NewOperand) (all : List Operand)
    (are : map (λ (p : NewOperand). p.operand) ops ≡ all) (lead : map (λ (p : NewOperand). row p.copy) ops ≡ map named (map to (targets s all))) where
  pub copy_named : (p : NewOperand) → In p ops → row p.copy ≡ named (to (target_of s p.operand))
  copy_named p there = keys_each s place row named to ops (lead ∙ ap (λ (os : List Operand). map named (map to (targets s os))) (sym are)) p there

  pub operand_for : (o : Operand) → In o all → (p : NewOperand) × In p ops × (p.operand ≡ o)
  operand_for o there =
      let m = in_map_from (λ (p : NewOperand). p.operand) o ops (subst (λ (os : List Operand). In o os) (sym are) there) in
      (m.source, m.there, m.is)
