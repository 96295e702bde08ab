use Rattle.std.proofs.Common.{refl, ◌≡◌, ℕ, true, false, length, sym, ap, ◌∙◌, arith}
use Rattle.std.specs.Prelude.{not, vec_len, ◌==◌}
use Rattle.dwz_def_tops.specs.Alike.{binding_forms}
use Rattle.dwz_def_reading.specs.Entries.{RawAttr}
use Rattle.dwz_def_reading.specs.Rows.{has}
use Rattle.dwz_def_reading.specs.Classes.{class_of}
use Rattle.dwz_graph.specs.Resolved.{stored}
use Rattle.dwz_move.specs.Bound.{is_expression}
use Rattle.dwz_move.proofs.BindLemmas.{binds_address, binds_operands, reads, said_expression}
use Rattle.dwz_move.proofs.bind.value_binds.Goals as goal

pub returns-then-not-is_expression : goal.returns-then-not-is_expression
returns-then-not-is_expression c = λ s at v tops unit name has' e into. (
    let a : RawAttr = stored at c.args.end c.args.pair.now c.args.raw.now in
    let none : is_expression (class_of c.args.pair.now.form) ≡ false = ap is_expression (sym c.class_of.ensures) ∙ sym c.is_expression.ensures ∙ c.if-not-is_expression.true in
    c.form_binds.ensures s a v tops unit name has' e refl none into)

pub returns-then-address : goal.returns-then-address
returns-then-address c = λ s at v tops unit name has' e into. (
    let a : RawAttr = stored at c.args.end c.args.pair.now c.args.raw.now in
    let yes : is_expression (class_of c.args.pair.now.form) ≡ true = ap is_expression (sym c.class_of.ensures) ∙ sym c.is_expression.ensures ∙ c.if-not-is_expression.false in
    let m = said_expression s a v yes e in
    let read = c.in_ok-address.ensures s m.expression (reads tops unit name a v s m) in
    c.if-address.true ∙ binds_address tops unit name a v s m (sym read.0 ∙ c.if-address.true))

pub returns-else-address : goal.returns-else-address
returns-else-address c = λ s at v tops unit name has' e into. (
    let a : RawAttr = stored at c.args.end c.args.pair.now c.args.raw.now in
    let free : has c.args.pair.now.form binding_forms ≡ false = sym c.is_binding.ensures ∙ c.if-is_binding.false in
    let yes : is_expression (class_of c.args.pair.now.form) ≡ true = ap is_expression (sym c.class_of.ensures) ∙ sym c.is_expression.ensures ∙ c.if-not-is_expression.false in
    let m = said_expression s a v yes e in
    let read = c.in_ok-address.ensures s m.expression (reads tops unit name a v s m) in
    let many : vec_len c.read_expression.new.operands ≡ length c.read_expression.new.operands.items = omega arith in
    ap not (c.is_empty.ensures ∙ ap (λ (n : ℕ). n == 0) many) ∙ binds_operands tops unit name a v s m free (sym read.0 ∙ c.if-address.false) c.read_expression.new.operands.items (sym read.1))
