use Rattle.std.proofs.Common.{length, sym, ◌∙◌, arith}
use Rattle.std.proofs.lemmas.List.{length-map}
use Rattle.dwz_graph_resolve.specs.declared.operands.ListOperand.{ListOperand}
use Rattle.dwz_graph_resolve.specs.Apart.{places_of_rows}
use Rattle.dwz_graph_resolve.proofs.ApartLemmas.{above, map_get, rows_rise}
use Rattle.dwz_graph_resolve.proofs.SearchLemmas.{has_none, has_there, search_begins, search_down, search_ends, search_up}
use Rattle.dwz_graph_resolve.proofs.shared.owns.Goals as goal

pub loop-low-init : goal.loop-low-init
loop-low-init c = record { within = omega arith; searched = λ top rows. search_begins (places_of_rows c.args.own.now) 0 (length c.args.own.now) c.args.place }

pub loop-low-preserved-then-at-place-2 : goal.loop-low-preserved-then-at-place-2
loop-low-preserved-then-at-place-2 c =
    let many = length-map c.args.own.now (λ (o : ListOperand). o.at) in
    let within = c.loop-low.invariant.within in
    let test = c.loop-low-test.true in
    record {
      within = omega arith;
      searched = λ top rows. search_up (places_of_rows c.args.own.now) 0 (length c.args.own.now) c.args.place c.loop-low.low c.loop-low.high _ _ (rows_rise c.args.own.now 0 top rows) (omega arith)
          (omega arith) (omega arith)
          (map_get (λ (o : ListOperand). o.at) c.args.own.now _ _ (omega arith)) c.if-at-place-2.true (c.loop-low.invariant.searched top rows);
    }

pub loop-low-preserved : goal.loop-low-preserved
loop-low-preserved c =
    let many = length-map c.args.own.now (λ (o : ListOperand). o.at) in
    let within = c.loop-low.invariant.within in
    let test = c.loop-low-test.true in
    record {
      within = omega arith;
      searched = λ top rows. search_down (places_of_rows c.args.own.now) 0 (length c.args.own.now) c.args.place c.loop-low.low c.loop-low.high _ _ (rows_rise c.args.own.now 0 top rows) (omega arith)
          (omega arith) (omega arith)
          (map_get (λ (o : ListOperand). o.at) c.args.own.now _ _ (omega arith)) (above _ _ c.if-at-place.false c.if-at-place-2.false) (c.loop-low.invariant.searched top rows);
    }

pub returns-then-at-place : goal.returns-then-at-place
returns-then-at-place c = λ top rows. (
    let many = length-map c.args.own.now (λ (o : ListOperand). o.at) in
    let within = c.loop-low.invariant.within in
    let test = c.loop-low-test.true in
    sym (has_there (places_of_rows c.args.own.now) _ c.args.place (omega arith) (map_get (λ (o : ListOperand). o.at) c.args.own.now _ _ (omega arith) ∙ c.if-at-place.true)))

pub returns : goal.returns
returns c = λ top rows. (
    let many = length-map c.args.own.now (λ (o : ListOperand). o.at) in
    sym (has_none (places_of_rows c.args.own.now) c.args.place (λ k l e. search_ends (places_of_rows c.args.own.now) 0 (length c.args.own.now) c.args.place c.loop-low.low c.loop-low.high
    c.loop-low-test.false (c.loop-low.invariant.searched top rows) k (omega arith) (omega arith) e)))
