use Rattle.std.proofs.Common.{◌≡◌, ℕ, true, false, [], None, Option, Some, drop, get_or, sym, ap, subst, ◌∙◌}
use Rattle.dwz_def_reading.specs.Documents.{attr_map}
use Rattle.dwz_def_reading.specs.Entries.{RawAttr}
use Rattle.dwz_def_reading.specs.Classes.{class_of}
use Rattle.dwz_def_reading.specs.Meant.{attr_with}
use Rattle.dwz_def_tops.specs.Spots.{UnitOf}
use Rattle.dwz_graph.specs.Resolved.{stored}
use Rattle.dwz_move.proofs.BindLemmas.{reads, said_expression}
use Rattle.dwz_move.proofs.NameMarks.{refs_many, value_kinds}
use Rattle.dwz_move.specs.Bound.{is_expression}
use Rattle.dwz_move.specs.Values.{is_entry}
use Rattle.dwz_reuse.specs.Puts.{PutsIf, goes_into}
use Rattle.dwz_reuse.proofs.ValueUnits.{no_reference, one_reference, put_no, put_same}
use Rattle.dwz_reuse.proofs.value_edges.put_value.Goals as goal

pub returns-then-is_entry-clause-puts : goal.returns-then-is_entry-clause-puts
returns-then-is_entry-clause-puts c = λ s at v name e into. (
    let a : RawAttr = stored at c.args.end c.args.pair.now c.args.raw.now in
    let yes : is_entry (class_of c.args.pair.now.form) ≡ true = ap is_entry (sym c.class_of-class.ensures) ∙ sym c.is_entry.ensures ∙ c.if-is_entry.true in
    put_same c.args.unit (λ n. get_or c.args.into.now 0 None ≡ Some n) (λ n. goes_into n (attr_map name (attr_with a v)) ≡ true) c.args.edges.now.items c.put_edge.new.edges.items
    (λ n. one_reference s a v yes e name c.args.into.now into n)
    (subst (λ (o : Option ℕ). PutsIf c.args.unit (λ n. o ≡ Some n) c.args.edges.now.items c.put_edge.new.edges.items) c.at_or.ensures c.in_ok-put_edge.ensures))

pub returns-then-is_entry-clause-rest : goal.returns-then-is_entry-clause-rest
returns-then-is_entry-clause-rest c = λ s at v e. (
    let a : RawAttr = stored at c.args.end c.args.pair.now c.args.raw.now in
    let yes : is_entry (class_of c.args.pair.now.form) ≡ true = ap is_entry (sym c.class_of-class.ensures) ∙ sym c.is_entry.ensures ∙ c.if-is_entry.true in
    let k = (value_kinds s a v e).0 yes in
    c.behind.ensures ∙ ap (λ (n : ℕ). drop n c.args.into.now) (sym k.1))

pub returns-then-not-is_expression-clause-puts : goal.returns-then-not-is_expression-clause-puts
returns-then-not-is_expression-clause-puts c = λ s at v name e into. (
    let a : RawAttr = stored at c.args.end c.args.pair.now c.args.raw.now in
    let no : is_entry (class_of c.args.pair.now.form) ≡ false = ap is_entry (sym c.class_of-class.ensures) ∙ sym c.is_entry.ensures ∙ c.if-is_entry.false in
    put_no c.args.unit c.args.edges.now.items (λ n. goes_into n (attr_map name (attr_with a v)) ≡ true) (no_reference s a v no e name))

pub returns-then-not-is_expression-clause-rest : goal.returns-then-not-is_expression-clause-rest
returns-then-not-is_expression-clause-rest c = λ s at v e. (
    let a : RawAttr = stored at c.args.end c.args.pair.now c.args.raw.now in
    let no : is_entry (class_of c.args.pair.now.form) ≡ false = ap is_entry (sym c.class_of-class.ensures) ∙ sym c.is_entry.ensures ∙ c.if-is_entry.false in
    let none : is_expression (class_of c.args.pair.now.form) ≡ false = ap is_expression (sym c.class_of-class.ensures) ∙ sym c.is_expression.ensures ∙ c.if-not-is_expression.true in
    let k = (value_kinds s a v e).1 no none in
    ap (λ (n : ℕ). drop n c.args.into.now) (sym k.1))

pub returns-clause-puts : goal.returns-clause-puts
returns-clause-puts c = λ s at v name e into. (
    let a : RawAttr = stored at c.args.end c.args.pair.now c.args.raw.now in
    let no : is_entry (class_of c.args.pair.now.form) ≡ false = ap is_entry (sym c.class_of-class.ensures) ∙ sym c.is_entry.ensures ∙ c.if-is_entry.false in
    put_no c.args.unit c.args.edges.now.items (λ n. goes_into n (attr_map name (attr_with a v)) ≡ true) (no_reference s a v no e name))

pub returns-clause-rest : goal.returns-clause-rest
returns-clause-rest c = λ s at v e. (
    let a : RawAttr = stored at c.args.end c.args.pair.now c.args.raw.now in
    let yes : is_expression (class_of c.args.pair.now.form) ≡ true = ap is_expression (sym c.class_of-class.ensures) ∙ sym c.is_expression.ensures ∙ c.if-not-is_expression.false in
    let m = said_expression s a v yes e in
    let count = c.in_ok-count.ensures s m.expression (reads [] 0 (λ p. UnitOf p) a v s m) in
    let many = refs_many s a v (λ p. UnitOf p) m in
    c.behind-2.ensures ∙ ap (λ (n : ℕ). drop n c.args.into.now) (count ∙ sym many))
