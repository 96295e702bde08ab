use Rattle.std.proofs.Common.{◌≡◌, ℕ, ◌+◌, Bool, true, Option, List, arith, drop, get_or, subst, sym, ◌∙◌, Ok}
use Rattle.dwz_def_tops.specs.Alike.{any_attr}
use Rattle.dwz_def_reading.specs.Entries.{RawAttr}
use Rattle.dwz_forms.specs.RawValues.{raw_view}
use Rattle.dwz_def_reading.specs.Documents.{attr_map, node_map}
use Rattle.dwz_def_reading.specs.Meant.{attr_with, meaning}
use Rattle.dwz_unit.proofs.RowsFound.{row_there}
use Rattle.dwz_graph.proofs.ValueSteps.{no_pair}
use Rattle.dwz_unit.specs.Rows.{units_of}
use Rattle.dwz_move.specs.Marked.{MarksIf, expression_names, expression_pins}
use Rattle.dwz_move.proofs.MarkSteps.{MarkLeft, mark_all, mark_more, mark_sibling}
use Rattle.dwz_move.proofs.OtherValues.{mark_others, names_expressions, next_in_front, pins_expressions, value_in_front}
use Rattle.dwz_move.proofs.marks.mark_entry.Goals as goal
use Rattle.dwz_move.proofs.marks.mark_entry.Goals.{then-pair-ne-DW_AT_SIBLING+in_ok-rest, else-pair-ne-DW_AT_SIBLING}

pub loop-pair-init : goal.loop-pair-init
loop-pair-init c = record {
  reads = λ row found. record {
    pairs = c.values-cursor.result.pairs.now;
    front_is = c.up_to_expressions-pair-items.ensures.front;
    others = c.up_to_expressions-pair-items.ensures.behind;
    reads = c.values-cursor.ensures.read row found;
  };
  any = λ s numbers row d name m into. mark_all expression_names (units_of c.args.units.now) s name numbers c.args.i row d c.args.into.now c.args.named.now.by_any.items m into;
  uleb = λ s numbers row d name m into. mark_all expression_pins (units_of c.args.units.now) s name numbers c.args.i row d c.args.into.now c.args.named.now.by_uleb.items m into;
}

pub known_value-raw-requires : goal.known_value-raw-requires
known_value-raw-requires c =
    let r = row_there (units_of c.args.units.now) c.args.i c.requires in
    value_in_front r.0.entry.at c.up_to_expressions-pair-items.result.now c.loop-pair.pair-index c.loop-pair.cursor r.0.entry.attrs (c.loop-pair.invariant.reads r.0 r.1) c.loop-pair-test.true

pub loop-pair-preserved : goal.loop-pair-preserved
loop-pair-preserved c =
    let raw = units_of c.args.units.now in
    let front = c.up_to_expressions-pair-items.result.now in
    let j = c.loop-pair.pair-index in
    let value = raw_view c.known_value-raw.result in
    let a : RawAttr = record { at = c.loop-pair.cursor.at; end = c.known_value-raw.new.cursor.at; pair = get_or front j no_pair; raw = value } in
    record {
      reads = λ row found. (next_in_front row.entry.at front j c.loop-pair.cursor row.entry.attrs (c.loop-pair.invariant.reads row found) c.loop-pair-test.true c.known_value-raw.new.cursor value
          c.known_value-raw.ensures.value).rest;
      any = λ s numbers row d name m into. (
          let is = (next_in_front row.entry.at front j c.loop-pair.cursor row.entry.attrs (c.loop-pair.invariant.reads row m.found) c.loop-pair-test.true c.known_value-raw.new.cursor value
          c.known_value-raw.ensures.value).is in
          let all : ℕ → Bool = λ n. any_attr (expression_names n) (node_map name d) in
          let old : List Bool = c.args.named.now.by_any.items in
          let now : List Bool = c.loop-pair.named.by_any.items in
          let new : List Bool = c.if-pair-ne-DW_AT_SIBLING.named.by_any.items in
          let rest : List (Option ℕ) = c.if-pair-ne-DW_AT_SIBLING.rest.now in
          let h = c.loop-pair.invariant.any s numbers row d name m into in
          elim c.if-pair-ne-DW_AT_SIBLING.branch [
            | then-pair-ne-DW_AT_SIBLING+in_ok-rest w ↦
                mark_more expression_names raw s name row.entry.attrs j a c.loop-pair.rest.now rest old now new all is w.if-pair-ne-DW_AT_SIBLING.true
                (λ v e t. subst (λ (b : List Bool). MarksIf (λ n. expression_names n (attr_map name (attr_with a v)) ≡ true) now b) (sym (λ i. (w.named-is i).by_any.items))
                (w.in_ok-rest.ensures.any s a.at v name (subst (λ (k : ℕ). meaning s (record { at = a.at; end = k; pair = a.pair; raw = a.raw }) ≡ Ok v) (sym c.at-end.ensures) e) t))
                (λ v e. (λ i. (w.rest-is i).now) ∙ w.in_ok-rest.ensures.rest s a.at v
                (subst (λ (k : ℕ). meaning s (record { at = a.at; end = k; pair = a.pair; raw = a.raw }) ≡ Ok v) (sym c.at-end.ensures) e)) h
            | else-pair-ne-DW_AT_SIBLING w ↦
                subst (λ (r : List (Option ℕ)). MarkLeft expression_names raw s name (drop (j + 1) row.entry.attrs) r old new all) (sym (λ i. (w.rest-is i).now))
                (subst (λ (b : List Bool). MarkLeft expression_names raw s name (drop (j + 1) row.entry.attrs) c.loop-pair.rest.now old b all) (sym (λ i. (w.named-is i).by_any.items))
                (mark_sibling expression_names raw s name row.entry.attrs j a c.loop-pair.rest.now old now all is w.if-pair-ne-DW_AT_SIBLING.false h))
          ]);
      uleb = λ s numbers row d name m into. (
          let is = (next_in_front row.entry.at front j c.loop-pair.cursor row.entry.attrs (c.loop-pair.invariant.reads row m.found) c.loop-pair-test.true c.known_value-raw.new.cursor value
          c.known_value-raw.ensures.value).is in
          let all : ℕ → Bool = λ n. any_attr (expression_pins n) (node_map name d) in
          let old : List Bool = c.args.named.now.by_uleb.items in
          let now : List Bool = c.loop-pair.named.by_uleb.items in
          let new : List Bool = c.if-pair-ne-DW_AT_SIBLING.named.by_uleb.items in
          let rest : List (Option ℕ) = c.if-pair-ne-DW_AT_SIBLING.rest.now in
          let h = c.loop-pair.invariant.uleb s numbers row d name m into in
          elim c.if-pair-ne-DW_AT_SIBLING.branch [
            | then-pair-ne-DW_AT_SIBLING+in_ok-rest w ↦
                mark_more expression_pins raw s name row.entry.attrs j a c.loop-pair.rest.now rest old now new all is w.if-pair-ne-DW_AT_SIBLING.true
                (λ v e t. subst (λ (b : List Bool). MarksIf (λ n. expression_pins n (attr_map name (attr_with a v)) ≡ true) now b) (sym (λ i. (w.named-is i).by_uleb.items))
                (w.in_ok-rest.ensures.uleb s a.at v name (subst (λ (k : ℕ). meaning s (record { at = a.at; end = k; pair = a.pair; raw = a.raw }) ≡ Ok v) (sym c.at-end.ensures) e) t))
                (λ v e. (λ i. (w.rest-is i).now) ∙ w.in_ok-rest.ensures.rest s a.at v
                (subst (λ (k : ℕ). meaning s (record { at = a.at; end = k; pair = a.pair; raw = a.raw }) ≡ Ok v) (sym c.at-end.ensures) e)) h
            | else-pair-ne-DW_AT_SIBLING w ↦
                subst (λ (r : List (Option ℕ)). MarkLeft expression_pins raw s name (drop (j + 1) row.entry.attrs) r old new all) (sym (λ i. (w.rest-is i).now))
                (subst (λ (b : List Bool). MarkLeft expression_pins raw s name (drop (j + 1) row.entry.attrs) c.loop-pair.rest.now old b all) (sym (λ i. (w.named-is i).by_uleb.items))
                (mark_sibling expression_pins raw s name row.entry.attrs j a c.loop-pair.rest.now old now all is w.if-pair-ne-DW_AT_SIBLING.false h))
          ]);
    }

pub returns-clause-any : goal.returns-clause-any
returns-clause-any c = λ s numbers row d name m into. (
    let front = c.up_to_expressions-pair-items.result.now in
    let all : ℕ → Bool = λ n. any_attr (expression_names n) (node_map name d) in
    let h = c.loop-pair.invariant.any s numbers row d name m into in
    mark_others row.entry.at front c.loop-pair.pair-index c.loop-pair.cursor row.entry.attrs (c.loop-pair.invariant.reads row m.found) expression_names names_expressions
    (units_of c.args.units.now) s name c.loop-pair.rest.now c.args.named.now.by_any.items c.loop-pair.named.by_any.items all (omega (arith, c.loop-pair-test.false)) h)

pub returns-clause-uleb : goal.returns-clause-uleb
returns-clause-uleb c = λ s numbers row d name m into. (
    let front = c.up_to_expressions-pair-items.result.now in
    let all : ℕ → Bool = λ n. any_attr (expression_pins n) (node_map name d) in
    let h = c.loop-pair.invariant.uleb s numbers row d name m into in
    mark_others row.entry.at front c.loop-pair.pair-index c.loop-pair.cursor row.entry.attrs (c.loop-pair.invariant.reads row m.found) expression_pins pins_expressions
    (units_of c.args.units.now) s name c.loop-pair.rest.now c.args.named.now.by_uleb.items c.loop-pair.named.by_uleb.items all (omega (arith, c.loop-pair-test.false)) h)
