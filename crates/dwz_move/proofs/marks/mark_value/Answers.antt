use Rattle.std.proofs.Common.{◌≡◌, ℕ, true, false, List, [], Some, length, drop, sym, ap, subst, ◌∙◌, arith}
use Rattle.dwz_def_tops.specs.Spots.{UnitOf}
use Rattle.dwz_def_reading.specs.Entries.{RawAttr}
use Rattle.dwz_def_reading.specs.Lists.{In}
use Rattle.dwz_def_reading.specs.declared.exprs.Operand.{Operand}
use Rattle.dwz_def_reading.specs.Documents.{attr_map}
use Rattle.dwz_def_reading.specs.Classes.{class_of}
use Rattle.dwz_def_reading.specs.Meant.{attr_with}
use Rattle.dwz_graph.specs.Named.{value_refs}
use Rattle.dwz_graph.specs.Resolved.{stored}
use Rattle.dwz_move.specs.Bound.{is_expression}
use Rattle.dwz_move.specs.Marked.{Marks, asked_tops, expression_names, expression_pins}
use Rattle.dwz_move.specs.Values.{is_entry}
use Rattle.dwz_move.proofs.BindLemmas.{reads, said_expression}
use Rattle.dwz_move.proofs.MarkLemmas.{marks_nothing, marks_as}
use Rattle.dwz_move.proofs.NameMarks.{names_asked, no_names, no_pins, pins_asked, refs_many, value_kinds}
use Rattle.dwz_move.proofs.marks.mark_value.Goals as goal

pub returns-then-is_entry-clause-any : goal.returns-then-is_entry-clause-any
returns-then-is_entry-clause-any c = λ s at v name e into. (
    let a : RawAttr = stored at c.args.end c.args.pair.now c.args.raw.now in
    let yes : is_entry (class_of c.args.pair.now.form) ≡ true = ap is_entry (sym c.class_of-class.ensures) ∙ sym c.is_entry.ensures ∙ c.if-is_entry.true in
    let k = (value_kinds s a v e).0 yes in
    marks_nothing (λ n. expression_names n (attr_map name (attr_with a v)) ≡ true) c.args.named.now.by_any.items (no_names s a v name k.0))

pub returns-then-not-is_expression-clause-any : goal.returns-then-not-is_expression-clause-any
returns-then-not-is_expression-clause-any c = λ s at v name e into. (
    let a : RawAttr = stored at c.args.end c.args.pair.now c.args.raw.now in
    let no : is_entry (class_of c.args.pair.now.form) ≡ false = ap is_entry (sym c.class_of-class.ensures) ∙ sym c.is_entry.ensures ∙ c.if-is_entry.false in
    let none : is_expression (class_of c.args.pair.now.form) ≡ false = ap is_expression (sym c.class_of-class.ensures) ∙ sym c.is_expression.ensures ∙ c.if-not-is_expression.true in
    let k = (value_kinds s a v e).1 no none in
    marks_nothing (λ n. expression_names n (attr_map name (attr_with a v)) ≡ true) c.args.named.now.by_any.items (no_names s a v name k.0))

pub returns-then-is_entry-clause-uleb : goal.returns-then-is_entry-clause-uleb
returns-then-is_entry-clause-uleb c = λ s at v name e into. (
    let a : RawAttr = stored at c.args.end c.args.pair.now c.args.raw.now in
    let yes : is_entry (class_of c.args.pair.now.form) ≡ true = ap is_entry (sym c.class_of-class.ensures) ∙ sym c.is_entry.ensures ∙ c.if-is_entry.true in
    let k = (value_kinds s a v e).0 yes in
    marks_nothing (λ n. expression_pins n (attr_map name (attr_with a v)) ≡ true) c.args.named.now.by_uleb.items (no_pins s a v name k.0))

pub returns-then-not-is_expression-clause-uleb : goal.returns-then-not-is_expression-clause-uleb
returns-then-not-is_expression-clause-uleb c = λ s at v name e into. (
    let a : RawAttr = stored at c.args.end c.args.pair.now c.args.raw.now in
    let no : is_entry (class_of c.args.pair.now.form) ≡ false = ap is_entry (sym c.class_of-class.ensures) ∙ sym c.is_entry.ensures ∙ c.if-is_entry.false in
    let none : is_expression (class_of c.args.pair.now.form) ≡ false = ap is_expression (sym c.class_of-class.ensures) ∙ sym c.is_expression.ensures ∙ c.if-not-is_expression.true in
    let k = (value_kinds s a v e).1 no none in
    marks_nothing (λ n. expression_pins n (attr_map name (attr_with a v)) ≡ true) c.args.named.now.by_uleb.items (no_pins s a v name k.0))

pub returns-then-is_entry-clause-rest : goal.returns-then-is_entry-clause-rest
returns-then-is_entry-clause-rest c = λ s at v e. (
    let a : RawAttr = stored at c.args.end c.args.pair.now c.args.raw.now in
    let yes : is_entry (class_of c.args.pair.now.form) ≡ true = ap is_entry (sym c.class_of-class.ensures) ∙ sym c.is_entry.ensures ∙ c.if-is_entry.true in
    let k = (value_kinds s a v e).0 yes in
    c.behind.ensures ∙ ap (λ (n : ℕ). drop n c.args.into.now) (sym k.1))

pub returns-then-not-is_expression-clause-rest : goal.returns-then-not-is_expression-clause-rest
returns-then-not-is_expression-clause-rest c = λ s at v e. (
    let a : RawAttr = stored at c.args.end c.args.pair.now c.args.raw.now in
    let no : is_entry (class_of c.args.pair.now.form) ≡ false = ap is_entry (sym c.class_of-class.ensures) ∙ sym c.is_entry.ensures ∙ c.if-is_entry.false in
    let none : is_expression (class_of c.args.pair.now.form) ≡ false = ap is_expression (sym c.class_of-class.ensures) ∙ sym c.is_expression.ensures ∙ c.if-not-is_expression.true in
    let k = (value_kinds s a v e).1 no none in
    ap (λ (n : ℕ). drop n c.args.into.now) (sym k.1))

pub returns-clause-any : goal.returns-clause-any
returns-clause-any c = λ s at v name e into. (
    let a : RawAttr = stored at c.args.end c.args.pair.now c.args.raw.now in
    let yes : is_expression (class_of c.args.pair.now.form) ≡ true = ap is_expression (sym c.class_of-class.ensures) ∙ sym c.is_expression.ensures ∙ c.if-not-is_expression.false in
    let m = said_expression s a v yes e in
    let read = c.in_ok-read_expression.ensures s m.expression (reads [] 0 name a v s m) in
    let same : c.deref.result.now ≡ m.expression.operands = c.deref.ensures.value ∙ read.1 in
    let old = c.args.named.now.by_any.items in
    let new = c.mark_operands.new.marks.items in
    marks_as (λ n. In (Some n) (asked_tops false m.expression.operands c.args.into.now)) (λ n. expression_names n (attr_map name (attr_with a v)) ≡ true) old new
    (λ n. names_asked s a v name m c.args.into.now n into)
    (subst (λ (os : List Operand). Marks (asked_tops false os c.args.into.now) old new) same c.mark_operands.ensures))

pub returns-clause-uleb : goal.returns-clause-uleb
returns-clause-uleb c = λ s at v name e into. (
    let a : RawAttr = stored at c.args.end c.args.pair.now c.args.raw.now in
    let yes : is_expression (class_of c.args.pair.now.form) ≡ true = ap is_expression (sym c.class_of-class.ensures) ∙ sym c.is_expression.ensures ∙ c.if-not-is_expression.false in
    let m = said_expression s a v yes e in
    let read = c.in_ok-read_expression.ensures s m.expression (reads [] 0 name a v s m) in
    let same : c.deref-2.result.now ≡ m.expression.operands = c.deref-2.ensures.value ∙ read.1 in
    let old = c.args.named.now.by_uleb.items in
    let new = c.mark_operands-2.new.marks.items in
    marks_as (λ n. In (Some n) (asked_tops true m.expression.operands c.args.into.now)) (λ n. expression_pins n (attr_map name (attr_with a v)) ≡ true) old new
    (λ n. pins_asked s a v name m c.args.into.now n into)
    (subst (λ (os : List Operand). Marks (asked_tops true os c.args.into.now) old new) same c.mark_operands-2.ensures))

pub returns-clause-rest : goal.returns-clause-rest
returns-clause-rest c = λ s at v e. (
    let a : RawAttr = stored at c.args.end c.args.pair.now c.args.raw.now in
    let yes : is_expression (class_of c.args.pair.now.form) ≡ true = ap is_expression (sym c.class_of-class.ensures) ∙ sym c.is_expression.ensures ∙ c.if-not-is_expression.false in
    let m = said_expression s a v yes e in
    let read = c.in_ok-read_expression.ensures s m.expression (reads [] 0 (λ p. UnitOf p) a v s m) in
    let many : c.len.result ≡ length (value_refs v) = (let len = c.len.ensures in let same : length c.read_expression.new.operands.items ≡ length m.expression.operands =
    ap (λ (os : List Operand). length os) read.1 in let refs = refs_many s a v (λ p. UnitOf p) m in omega arith) in
    c.behind-2.ensures ∙ ap (λ (n : ℕ). drop n c.args.into.now) many)
