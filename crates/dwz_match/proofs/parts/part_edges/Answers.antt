use Rattle.std.proofs.Common.{◌≡◌, ℕ, ◌-◌, ◌<◌, List, ◌++◌, drop, get_or, length, map, take, [], sym, ap, ◌∙◌, arith}
use Rattle.std.proofs.lemmas.List.{take_all}
use Rattle.std.specs.List.{range_with_len}
use Rattle.dwz_groups.specs.declared.groups.Edge.{Edge}
use Rattle.dwz_match.specs.Parts.{edge_to, spans, start_in}
use Rattle.dwz_match.proofs.SpanFacts.{span_at, spans_long}
use Rattle.dwz_takes.specs.Steps.{edges_from}
use Rattle.dwz_takes.proofs.EdgeFacts.{edges_next}
use Rattle.dwz_match.proofs.parts.part_edges.Goals as goal

pub loop-part-preserved : goal.loop-part-preserved
loop-part-preserved c =
    let units : List ℕ = c.args.starts.now in
    let end : ℕ = c.args.end in
    let n : ℕ = c.loop-part.part in
    let l : n < length units = omega (arith, c.loop-part-test.true) in
    let long = spans_long end units in
    let here : range_with_len c.start_of-from.result (c.start_of-to.result - c.start_of-from.result) ≡ get_or (spans end units) n [] =
    ap (λ (k : ℕ). range_with_len k (c.start_of-to.result - k)) c.start_of-from.ensures
    ∙ ap (λ (k : ℕ). range_with_len (start_in end (drop n units)) (k - start_in end (drop n units))) c.start_of-to.ensures ∙ sym (span_at end units n l) in
    c.in_ok-put_tops.ensures ∙ ap (λ (w : List Edge). w ++ map (edge_to n) (range_with_len c.start_of-from.result (c.start_of-to.result - c.start_of-from.result))) c.loop-part.invariant
    ∙ ap (λ (w : List ℕ). edges_from edge_to 0 (take n (spans end units)) ++ map (edge_to n) w) here ∙ edges_next edge_to n (spans end units) (omega (arith, l, long))

pub returns : goal.returns
returns c =
    let units : List ℕ = c.args.starts.now in
    let long = spans_long c.args.end units in
    let all = c.loop-part-test.false in
    c.loop-part.invariant ∙ ap (edges_from edge_to 0) (take_all c.loop-part.part (spans c.args.end units) (omega (arith, long, all)))
