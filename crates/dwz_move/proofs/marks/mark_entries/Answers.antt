use Rattle.std.proofs.Common.{ℕ, List, Option, ap, arith, sym, subst, ◌∙◌}
use Rattle.std.specs.Prelude.{is_some}
use Rattle.dwz_graph.specs.Rows.{node_refs}
use Rattle.dwz_unit.specs.Rows.{units_of}
use Rattle.dwz_move.specs.Bound.{AreInto}
use Rattle.dwz_move.specs.Marked.{expression_names, expression_pins}
use Rattle.dwz_move.proofs.OtherValues.{mark_nothing, names_expressions, pins_expressions}
use Rattle.dwz_move.proofs.RowMarks.{rows_mark_all, rows_mark_more, rows_mark_none, rows_said}
use Rattle.dwz_move.proofs.marks.mark_entries.Goals as goal

pub loop-i-init : goal.loop-i-init
loop-i-init c = record {
  any = λ s numbers rows after ds name m into. rows_mark_all expression_names (units_of c.args.units.now) s name c.args.into.now c.args.starts.now c.args.end c.args.first numbers rows after ds
      c.args.named.now.by_any.items m into;
  uleb = λ s numbers rows after ds name m into. rows_mark_all expression_pins (units_of c.args.units.now) s name c.args.into.now c.args.starts.now c.args.end c.args.first numbers rows after ds
      c.args.named.now.by_uleb.items m into;
}

pub loop-i-preserved : goal.loop-i-preserved
loop-i-preserved c = record {
  any = λ s numbers rows after ds name m into. rows_mark_more expression_names (units_of c.args.units.now) s name c.args.into.now c.args.starts.now c.args.end c.loop-i.i c.args.named.now.by_any.items
      c.loop-i.named.by_any.items c.mark_entry.new.named.by_any.items (rows_said expression_names name ds) c.loop-i-test.true
      (λ ns r d h k. c.in_ok-mark_entry.ensures.any s ns r d name h (subst (λ (w : List (Option ℕ)). AreInto name w (node_refs d)) (sym c.from_entry.ensures) k))
      (c.loop-i.invariant.any s numbers rows after ds name m into);
  uleb = λ s numbers rows after ds name m into. rows_mark_more expression_pins (units_of c.args.units.now) s name c.args.into.now c.args.starts.now c.args.end c.loop-i.i c.args.named.now.by_uleb.items
      c.loop-i.named.by_uleb.items c.mark_entry.new.named.by_uleb.items (rows_said expression_pins name ds) c.loop-i-test.true
      (λ ns r d h k. c.in_ok-mark_entry.ensures.uleb s ns r d name h (subst (λ (w : List (Option ℕ)). AreInto name w (node_refs d)) (sym c.from_entry.ensures) k))
      (c.loop-i.invariant.uleb s numbers rows after ds name m into);
}

pub loop-i-preserved-then-is_some : goal.loop-i-preserved-then-is_some
loop-i-preserved-then-is_some c = record {
  any = λ s numbers rows after ds name m into. rows_mark_more expression_names (units_of c.args.units.now) s name c.args.into.now c.args.starts.now c.args.end c.loop-i.i c.args.named.now.by_any.items
      c.loop-i.named.by_any.items c.loop-i.named.by_any.items (rows_said expression_names name ds) c.loop-i-test.true
      (λ ns r d h k. mark_nothing expression_names names_expressions (units_of c.args.units.now) s name ns c.loop-i.i r d c.loop-i.named.by_any.items
      (ap (λ (o : Option ℕ). is_some o) (sym (c.named_count.ensures r h.found)) ∙ sym c.is_some.ensures ∙ c.if-is_some.true) h)
      (c.loop-i.invariant.any s numbers rows after ds name m into);
  uleb = λ s numbers rows after ds name m into. rows_mark_more expression_pins (units_of c.args.units.now) s name c.args.into.now c.args.starts.now c.args.end c.loop-i.i c.args.named.now.by_uleb.items
      c.loop-i.named.by_uleb.items c.loop-i.named.by_uleb.items (rows_said expression_pins name ds) c.loop-i-test.true
      (λ ns r d h k. mark_nothing expression_pins pins_expressions (units_of c.args.units.now) s name ns c.loop-i.i r d c.loop-i.named.by_uleb.items
      (ap (λ (o : Option ℕ). is_some o) (sym (c.named_count.ensures r h.found)) ∙ sym c.is_some.ensures ∙ c.if-is_some.true) h)
      (c.loop-i.invariant.uleb s numbers rows after ds name m into);
}

pub returns-clause-any : goal.returns-clause-any
returns-clause-any c = λ s numbers rows after ds name m into. rows_mark_none expression_names (units_of c.args.units.now) s name c.args.into.now c.args.starts.now c.args.end c.loop-i.i
    c.args.named.now.by_any.items c.loop-i.named.by_any.items (rows_said expression_names name ds) (omega (arith, c.loop-i-test.false)) (c.loop-i.invariant.any s numbers rows after ds name m into)

pub returns-clause-uleb : goal.returns-clause-uleb
returns-clause-uleb c = λ s numbers rows after ds name m into. rows_mark_none expression_pins (units_of c.args.units.now) s name c.args.into.now c.args.starts.now c.args.end c.loop-i.i
    c.args.named.now.by_uleb.items c.loop-i.named.by_uleb.items (rows_said expression_pins name ds) (omega (arith, c.loop-i-test.false)) (c.loop-i.invariant.uleb s numbers rows after ds name m into)
