use Rattle.std.proofs.Common.{length, arith, sym, subst, ◌∙◌}
use Rattle.dwz_unit.specs.Rows.{units_of}
use Rattle.dwz_graph.proofs.SearchLemmas.{Searched, search_begins, search_down, search_ends, search_up}
use Rattle.dwz_imports.specs.Stored.{roots}
use Rattle.dwz_imports.proofs.RootPlaces.{roots_many, roots_rise}
use Rattle.dwz_imports.proofs.roots.unit_with_root.Goals as goal

pub loop-low-init : goal.loop-low-init
loop-low-init c =
    let raw = units_of c.args.units.now in
    subst (λ n. Searched (roots raw) 0 (length raw) c.args.place 0 n) (sym c.len-high.ensures) (search_begins (roots raw) 0 (length raw) c.args.place)

pub loop-low-preserved-then-at-place-2 : goal.loop-low-preserved-then-at-place-2
loop-low-preserved-then-at-place-2 c =
    let raw = units_of c.args.units.now in
    let many = roots_many raw in
    search_up (roots raw) 0 (length raw) c.args.place c.loop-low.low c.loop-low.high _ c.root_at-at.result (roots_rise c.args.units.now) (omega arith) (omega arith) (omega (arith, many))
    (sym c.root_at-at.ensures) c.if-at-place-2.true c.loop-low.invariant

pub loop-low-preserved : goal.loop-low-preserved
loop-low-preserved c =
    let raw = units_of c.args.units.now in
    let many = roots_many raw in
    search_down (roots raw) 0 (length raw) c.args.place c.loop-low.low c.loop-low.high _ c.root_at-at.result (roots_rise c.args.units.now) (omega arith) (omega arith) (omega (arith, many))
    (sym c.root_at-at.ensures) (let n = c.if-at-place.false in let m = c.if-at-place-2.false in grind arith) c.loop-low.invariant

pub returns-then-at-place : goal.returns-then-at-place
returns-then-at-place c =
    let to = c.loop-low.invariant.to in
    record { found = (omega arith, sym c.root_at-at.ensures ∙ c.if-at-place.true); none = λ e. absurd cc }

pub returns : goal.returns
returns c = record {
  found = tt;
  none = λ e i m is. search_ends (roots (units_of c.args.units.now)) 0 (length (units_of c.args.units.now)) c.args.place c.loop-low.low c.loop-low.high c.loop-low-test.false c.loop-low.invariant i
      (omega arith) m is;
}
