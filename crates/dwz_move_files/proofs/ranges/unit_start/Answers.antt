use Rattle.std.proofs.Common.{◌≡◌, ℕ, ◌-◌, ◌<◌, List, length, get_or, Some, slice_get, ap, subst, ◌∙◌, arith}
use Rattle.std.specs.Prelude.{Bool, true, ◌↔◌}
use Rattle.std.proofs.lemmas.Option.{slice_get-get_or}
use Rattle.dwz_def_reading.proofs.ListFacts.{same_got}
use Rattle.dwz_graph.specs.declared.index.TopEntry.{TopEntry}
use Rattle.dwz_move_files.specs.Ranges.{Continues}
use Rattle.dwz_move_files.proofs.ranges.unit_start.Goals as goal

-- what stands for an item that isn't there
abbrev none : TopEntry
none = record { entry = 0; unit = 0; inner = 0 }

before : (tops : List TopEntry) (k : ℕ) (b : Bool) → k < length tops → ((x : TopEntry) → slice_get tops k ≡ Some x → (b ≡ true) ↔ Continues tops k x) → b ≡ true → Continues tops k (get_or tops k none)
before tops k b lt ensures e = (ensures (get_or tops k none) (slice_get-get_or tops k none lt)).0 e

pub overflow_sub-k : goal.overflow_sub-k
overflow_sub-k c =
    let within = c.loop-k.invariant.within in
    let e = before c.args.tops.now c.loop-k.k c.continues_unit.result (omega arith) c.continues_unit.ensures c.loop-k-test.true in
    let at = e.2 in
    omega arith

pub loop-k-smaller : goal.loop-k-smaller
loop-k-smaller c =
    let within = c.loop-k.invariant.within in
    let e = before c.args.tops.now c.loop-k.k c.continues_unit.result (omega arith) c.continues_unit.ensures c.loop-k-test.true in
    let at = e.2 in
    omega arith

pub loop-k-preserved : goal.loop-k-preserved
loop-k-preserved c =
    let tops = c.args.tops.now in
    let k = c.loop-k.k in
    let within = c.loop-k.invariant.within in
    let lt : k < length tops = omega arith in
    let e = before tops k c.continues_unit.result lt c.continues_unit.ensures c.loop-k-test.true in
    let at : e.0 ≡ k - 1 = (let one = e.2 in omega arith) in
    record {
      within = omega arith;
      same = λ x y p q.
          ap (λ (w : TopEntry). w.unit) (same_got tops (k - 1) x e.1 p (subst (λ (j : ℕ). slice_get tops j ≡ Some e.1) at e.3))
          ∙ e.4
          ∙ c.loop-k.invariant.same (get_or tops k none) y (slice_get-get_or tops k none lt) q;
    }
