use Rattle.std.proofs.Common.{◌≡◌, ℕ, true, false, [], drop, length, sym, ap, subst, ◌∙◌, arith}
use Rattle.std.specs.Prelude.{not, vec_len, ◌==◌}
use Rattle.dwz_def_tops.specs.Alike.{binding_forms}
use Rattle.dwz_def_reading.specs.Entries.{RawAttr}
use Rattle.dwz_def_reading.specs.Rows.{has}
use Rattle.dwz_def_reading.specs.Documents.{Value}
use Rattle.dwz_def_reading.specs.Classes.{class_of}
use Rattle.dwz_graph.specs.Named.{value_refs}
use Rattle.dwz_graph.specs.Resolved.{stored}
use Rattle.dwz_move.specs.Bound.{AreInto, is_expression}
use Rattle.dwz_move.specs.Values.{is_entry}
use Rattle.dwz_move.proofs.BindLemmas.{binds_address, binds_entry, binds_operands, binds_plain, first_into, reads, said_expression, value_says}
use Rattle.dwz_reuse.proofs.value_binds.value_binds.Goals as goal

pub returns-then-is_entry : goal.returns-then-is_entry
returns-then-is_entry c = λ s at v tops unit name has' e into. (
    let a : RawAttr = stored at c.args.end c.args.pair.now c.args.raw.now in
    let free : has c.args.pair.now.form binding_forms ≡ false = sym c.is_binding.ensures ∙ c.if-is_binding.false in
    let yes : is_entry (class_of c.args.pair.now.form) ≡ true = ap is_entry (sym c.class_of-class.ensures) ∙ sym c.is_entry.ensures ∙ c.if-is_entry.true in
    let o = (value_says s a v free e).0 yes in
    let one = first_into name c.args.into.now c.args.next o.0 [] (subst (λ (w : Value ℕ). AreInto name (drop c.args.next c.args.into.now) (value_refs w)) o.1 into) in
    c.leaves.ensures tops unit (name o.0) has' (c.at_or.ensures ∙ one) ∙ binds_entry tops unit name a v o.0 free o.1)

pub returns-then-not-is_expression : goal.returns-then-not-is_expression
returns-then-not-is_expression c = λ s at v tops unit name has' e into. (
    let a : RawAttr = stored at c.args.end c.args.pair.now c.args.raw.now in
    let free : has c.args.pair.now.form binding_forms ≡ false = sym c.is_binding.ensures ∙ c.if-is_binding.false in
    let no : is_entry (class_of c.args.pair.now.form) ≡ false = ap is_entry (sym c.class_of-class.ensures) ∙ sym c.is_entry.ensures ∙ c.if-is_entry.false in
    let none : is_expression (class_of c.args.pair.now.form) ≡ false = ap is_expression (sym c.class_of-class.ensures) ∙ sym c.is_expression.ensures ∙ c.if-not-is_expression.true in
    let o = (value_says s a v free e).1 no none in
    binds_plain tops unit name a v free o.0 o.1)

pub returns-then-address : goal.returns-then-address
returns-then-address c = λ s at v tops unit name has' e into. (
    let a : RawAttr = stored at c.args.end c.args.pair.now c.args.raw.now in
    let yes : is_expression (class_of c.args.pair.now.form) ≡ true = ap is_expression (sym c.class_of-class.ensures) ∙ sym c.is_expression.ensures ∙ c.if-not-is_expression.false in
    let m = said_expression s a v yes e in
    let read = c.in_ok-address.ensures s m.expression (reads tops unit name a v s m) in
    c.if-address.true ∙ binds_address tops unit name a v s m (sym read.0 ∙ c.if-address.true))

pub returns-else-address : goal.returns-else-address
returns-else-address c = λ s at v tops unit name has' e into. (
    let a : RawAttr = stored at c.args.end c.args.pair.now c.args.raw.now in
    let free : has c.args.pair.now.form binding_forms ≡ false = sym c.is_binding.ensures ∙ c.if-is_binding.false in
    let yes : is_expression (class_of c.args.pair.now.form) ≡ true = ap is_expression (sym c.class_of-class.ensures) ∙ sym c.is_expression.ensures ∙ c.if-not-is_expression.false in
    let m = said_expression s a v yes e in
    let read = c.in_ok-address.ensures s m.expression (reads tops unit name a v s m) in
    let many : vec_len c.has_address.new.operands ≡ length c.has_address.new.operands.items = omega arith in
    ap not (c.is_empty.ensures ∙ ap (λ (n : ℕ). n == 0) many) ∙ binds_operands tops unit name a v s m free (sym read.0 ∙ c.if-address.false) c.has_address.new.operands.items (sym read.1))
