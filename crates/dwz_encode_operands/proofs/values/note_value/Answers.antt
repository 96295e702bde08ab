use Rattle.std.proofs.Common.{◌≡◌, ℕ, true, false, ap, drop, sym, ◌∙◌}
use Rattle.dwz_def_reading.specs.Entries.{RawAttr}
use Rattle.dwz_def_reading.specs.Classes.{class_of}
use Rattle.dwz_encode_operands.proofs.ValueLemmas.{m, of_entry, of_expression, of_other, reads, targets_are}
use Rattle.dwz_graph.specs.Resolved.{stored}
use Rattle.dwz_move.specs.Bound.{is_expression}
use Rattle.dwz_move.specs.Values.{is_entry}
use Rattle.dwz_encode_operands.proofs.values.note_value.Goals as goal

pub returns-then-is_entry : goal.returns-then-is_entry
returns-then-is_entry c = λ s at v after more plain e is are. (
    let a : RawAttr = stored at c.args.end c.args.pair.now c.args.raw.now in
    let same : is_entry (class_of a.pair.form) ≡ true = ap is_entry (sym c.class_of-class.ensures) ∙ sym c.is_entry.ensures ∙ c.if-is_entry.true in
    of_entry s plain a v e after c.args.targets.now more are c.args.first.now c.behind.result.now same c.behind.ensures)

pub returns-then-not-is_expression : goal.returns-then-not-is_expression
returns-then-not-is_expression c = λ s at v after more plain e is are. (
    let a : RawAttr = stored at c.args.end c.args.pair.now c.args.raw.now in
    let other : is_entry (class_of a.pair.form) ≡ false = ap is_entry (sym c.class_of-class.ensures) ∙ sym c.is_entry.ensures ∙ c.if-is_entry.false in
    let none : is_expression (class_of a.pair.form) ≡ false = ap is_expression (sym c.class_of-class.ensures) ∙ sym c.is_expression.ensures ∙ c.if-not-is_expression.true in
    of_other s plain a v e after c.args.targets.now more are c.args.first.now other none)

pub returns : goal.returns
returns c = λ s at v after more plain e is are. (
    let a : RawAttr = stored at c.args.end c.args.pair.now c.args.raw.now in
    let same : is_expression (class_of a.pair.form) ≡ true = ap is_expression (sym c.class_of-class.ensures) ∙ sym c.is_expression.ensures ∙ c.if-not-is_expression.false in
    let read = c.in_ok-read_operands.ensures s (m s plain a v e after c.args.targets.now more are same).expression (reads s plain a v e after c.args.targets.now more are same) in
    let operands = c.deref.result.now in
    let os = c.deref.ensures.value ∙ read in
    let made = c.noted_all.ensures after s.unit more is (targets_are s plain a v e after c.args.targets.now more are same operands os) in
    let long = c.len.ensures ∙ sym c.deref.ensures.len in
    of_expression s plain a v e after c.args.targets.now more are same operands os c.args.first.now c.noted_all.result c.behind-2.result.now made
    (c.behind-2.ensures ∙ ap (λ (n : ℕ). drop n c.args.targets.now) long))
