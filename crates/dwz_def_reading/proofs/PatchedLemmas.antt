-- An expression with other numbers in its operands is spelled, and means the same parts with other entries.
use Rattle.std.proofs.Common.{◌≡◌, ℕ, suc, ◌+◌, ◌-◌, Bool, List, [], ◌∷◌, length, drop, map, refl, sym, ap, subst, ◌∙◌, arith}
use Rattle.std.proofs.lemmas.List.{length-map}
use Rattle.dwz_def_reading.specs.Entries.{RawAttr}
use Rattle.dwz_def_reading.specs.Values.{AreBytes}
use Rattle.dwz_def_reading.specs.declared.exprs.Operand.{Operand}
use Rattle.dwz_def_reading.specs.Documents.{Expr, Part, Value}
use Rattle.dwz_def_reading.specs.Exprs.{AreNamed, ExprContext, Expression, SpellsExpr, most_inside, parts_from, parts_of}
use Rattle.dwz_def_reading.specs.Meanings.{IsExpression, MeaningContext, block_begins, bytes_of, expr_context, targets}
use Rattle.dwz_def_reading.specs.PatchedLists.{number_for_place, with_number}
use Rattle.dwz_def_reading.specs.Patching.{AllFit, AreParts, CanPatch, LeadTo, filled, moved, patched_expr, renumbered}
use Rattle.dwz_def_reading.proofs.CutLemmas.{filled_cut, patch}
use Rattle.dwz_def_reading.proofs.FilledLemmas.{again_len, moved_expr, within_moves}
use Rattle.dwz_def_reading.proofs.RenumberLemmas.{all_good, moved_numbers, numbered, own_numbers, parts_moved, shift, shift_along, shift_start}
use Rattle.dwz_def_reading.proofs.StandLemmas.{Stand, within_stands}

-- the expression's own place and bytes
pub in_place : (c : ExprContext) (e : Expression) (start : ℕ) (bytes : List ℕ) → SpellsExpr c e start bytes → (start ≡ e.at) × (bytes ≡ e.bytes)
in_place c e start bytes s = (ap (λ (w : Expression). w.at) (sym s.made), ap (λ (w : Expression). w.bytes) (sym s.made))

pub own_spelled : (c : ExprContext) (e : Expression) (start : ℕ) (bytes : List ℕ) → SpellsExpr c e start bytes → SpellsExpr c e e.at e.bytes
own_spelled c e start bytes s = let own = in_place c e start bytes s in subst (λ (n : ℕ). SpellsExpr c e n e.bytes) own.0 (subst (λ (w : List ℕ). SpellsExpr c e start w) own.1 s)

module _ (c : ExprContext) (e : Expression) (s : SpellsExpr c e e.at e.bytes) (numbers : List ℕ) (many : length numbers ≡ length e.operands) where
  stands : Stand e.at e.bytes e.operands
  stands = within_stands c (suc most_inside) e e.at e.bytes s

  by_place : ℕ → ℕ
  by_place = number_for_place e.operands numbers

  same_numbers : map (with_number by_place) e.operands ≡ renumbered e.operands numbers
  unfolding by_place
  same_numbers = numbered e.at (e.at + length e.bytes) e.operands numbers stands.lie many

  same_bytes : patch e.at e.bytes (map (with_number by_place) e.operands) ≡ filled (parts_of e) numbers
  same_bytes = ap (patch e.at e.bytes) same_numbers ∙ sym (filled_cut e.at e.bytes e.operands numbers many)

  same_length : length (filled (parts_of e) numbers) ≡ length e.bytes
  same_length = ap length (sym same_bytes) ∙ again_len e.at (λ n. n) (λ s n le. refl) by_place e.at e.bytes e.operands stands.lie

  module _ (at : ℕ) where
    there : ℕ → ℕ
    there = shift e.at at

    operands_are : map (λ o. record { at = shift e.at at o.at; width = o.width; uleb = o.uleb; base = o.base; number = by_place o.at }) e.operands ≡ map (moved e.at at) (renumbered e.operands numbers)
    operands_are = moved_numbers e.at at by_place e.operands ∙ ap (map (moved e.at at)) same_numbers

    is_patched : moved_expr e.at (shift e.at at) (shift_along e.at at) by_place e ≡ patched_expr at e numbers
    is_patched = λ n. record { at = shift_start e.at at n; bytes = same_bytes n; operands = operands_are n; address = e.address }

    pub expr_spelled : (d : ExprContext) → CanPatch d at e numbers → SpellsExpr d (patched_expr at e numbers) at (filled (parts_of e) numbers)
    expr_spelled d can =
        let fit : AllFit (map (with_number by_place) e.operands) = subst AllFit (sym same_numbers) can.fit in
        let named : AreNamed d.names (map (moved e.at at) (map (with_number by_place) e.operands)) = subst (λ (w : List Operand). AreNamed d.names (map (moved e.at at) w)) (sym same_numbers)
        can.named in
        let good = all_good e.at at by_place d.names e.operands fit named in
        let one = within_moves e.at (shift e.at at) (shift_along e.at at) by_place d.names c d refl (suc most_inside) e e.at e.bytes (omega arith) s good in
        subst (λ (w : Expression). SpellsExpr d w at (filled (parts_of e) numbers)) is_patched
        (subst (λ (w : List ℕ). SpellsExpr d (moved_expr e.at (shift e.at at) (shift_along e.at at) by_place e) at w) same_bytes
        (subst (λ (n : ℕ). SpellsExpr d (moved_expr e.at (shift e.at at) (shift_along e.at at) by_place e) n (patch e.at e.bytes (map (with_number by_place) e.operands))) (shift_start e.at at) one))

    pub same_parts : parts_of (patched_expr at e numbers) ≡ parts_of e
    same_parts =
        let is = parts_moved e.at (shift e.at at) (shift_along e.at at) by_place e.at e.bytes e.operands (omega arith) stands.lie in
        sym (ap parts_of is_patched) ∙ is

-- ---- laws

pub patched_spelled : (c d : ExprContext) (e : Expression) (start at : ℕ) (bytes numbers : List ℕ) → SpellsExpr c e start bytes → CanPatch d at e numbers
    → SpellsExpr d (patched_expr at e numbers) at (filled (parts_of e) numbers)
patched_spelled c d e start at bytes numbers s can = expr_spelled c e (own_spelled c e start bytes s) numbers can.as_many at d can

pub patched_parts : (c : ExprContext) (e : Expression) (start at : ℕ) (bytes numbers : List ℕ) → SpellsExpr c e start bytes → length numbers ≡ length e.operands
    → parts_of (patched_expr at e numbers) ≡ parts_of e
patched_parts c e start at bytes numbers s many = same_parts c e (own_spelled c e start bytes s) numbers many at

pub patched_length : (c : ExprContext) (e : Expression) (start : ℕ) (bytes numbers : List ℕ) → SpellsExpr c e start bytes → length numbers ≡ length e.operands
    → length (filled (parts_of e) numbers) ≡ length bytes
patched_length c e start bytes numbers s many = same_length c e (own_spelled c e start bytes s) numbers many ∙ ap length (sym (in_place c e start bytes s).1)

pub own_filled : (c : ExprContext) (e : Expression) (start : ℕ) (bytes : List ℕ) → SpellsExpr c e start bytes → AreBytes bytes → filled (parts_of e) (map (λ o. o.number) e.operands) ≡ bytes
own_filled c e start bytes s are =
    let own = in_place c e start bytes s in
    filled_cut e.at e.bytes e.operands (map (λ o. o.number) e.operands) (length-map e.operands (λ (o : Operand). o.number))
    ∙ ap (patch e.at e.bytes) (own_numbers e.operands)
    ∙ (within_stands c (suc most_inside) e e.at e.bytes (own_spelled c e start bytes s)).same (subst AreBytes own.1 are)
    ∙ sym own.1

-- ---- values

module _ {P : Type 0} (d : MeaningContext P) (section from to : ℕ) where
  pub record Leads (os : List Operand) (numbers : List ℕ) (refs : List P) : Type 0 where
    pub as_many : length numbers ≡ length os
    pub fit : AllFit (renumbered os numbers)
    pub named : AreNamed (expr_context d section).names (map (moved from to) (renumbered os numbers))
    pub refs_are : targets d (map (moved from to) (renumbered os numbers)) ≡ refs

  pub all_lead : (at : ℕ) (bytes : List ℕ) (os : List Operand) (numbers : List ℕ) (refs : List P) → LeadTo d (parts_from at bytes os) numbers refs → Leads os numbers refs
  unfolding parts_from renumbered
  all_lead at bytes [] [] [] h = record { as_many = refl; fit = tt; named = tt; refs_are = refl }
  all_lead at bytes [] [] (p ∷ refs) h = absurd h
  all_lead at bytes [] (n ∷ numbers) refs h = absurd h
  all_lead at bytes (o ∷ os) [] refs h = absurd h
  all_lead at bytes (o ∷ os) (n ∷ numbers) [] h = absurd h
  all_lead at bytes (o ∷ os) (n ∷ numbers) (p ∷ refs) h =
      let rest = all_lead (o.at + o.width) (drop (o.at + o.width - at) bytes) os numbers refs h.3 in
      record {
        as_many = ap (λ (k : ℕ). suc k) rest.as_many;
        fit = (h.0, rest.fit);
        named = (h.1, rest.named);
        refs_are = (λ i. sym h.2 i ∷ rest.refs_are i);
      }

pub patched_value : {P : Type 0} (d : MeaningContext P) (b : RawAttr) (parts : List Part) (numbers : List ℕ) (refs : List P) (address : Bool) → AreParts parts address
    → LeadTo d parts numbers refs → bytes_of b.raw ≡ filled parts numbers
    → IsExpression d b (record { plain = Expr parts; refs = refs; address = address })
patched_value d b parts numbers refs address is lead bytes =
    let e = is.expression in
    let at = block_begins b in
    let leads = all_lead d 1 e.at at e.at e.bytes e.operands numbers refs (subst (λ (w : List Part). LeadTo d w numbers refs) is.are lead) in
    let can : CanPatch (expr_context d 1) at e numbers = record { as_many = leads.as_many; fit = leads.fit; named = leads.named } in
    let spelled = patched_spelled is.context (expr_context d 1) e is.start at is.bytes numbers is.spelled can in
    let same_parts = patched_parts is.context e is.start at is.bytes numbers is.spelled leads.as_many in
    let written : filled (parts_of e) numbers ≡ bytes_of b.raw = ap (λ (w : List Part). filled w numbers) (sym is.are) ∙ sym bytes in
    let shown : parts ≡ parts_of (patched_expr at e numbers) = is.are ∙ sym same_parts in
    record {
      expression = patched_expr at e numbers;
      spelled = subst (λ (w : List ℕ). SpellsExpr (expr_context d 1) (patched_expr at e numbers) at w) written spelled;
      value = λ i. record { plain = Expr (shown i); refs = sym leads.refs_are i; address = is.addressed i };
    }

-- the parts of a value are those of an expression
pub given_parts : {P : Type 0} (s : MeaningContext P) (a : RawAttr) (v : Value P) (parts : List Part) → IsExpression s a v → v.plain ≡ Expr parts
    → AreParts parts v.address
given_parts {P} s a v parts is plain =
    let same : Expr parts ≡ Expr (parts_of is.expression) = sym plain ∙ ap (λ (w : Value P). w.plain) is.value in
    let shown : parts ≡ parts_of is.expression = cc in
    record {
      context = expr_context s 1;
      expression = is.expression;
      start = block_begins a;
      bytes = bytes_of a.raw;
      spelled = is.spelled;
      are = shown;
      addressed = ap (λ (w : Value P). w.address) is.value;
    }
