use Rattle.std.proofs.Common.{List, [], ◌∷◌, ◌++◌, ℕ, ◌+◌, Vec, Global, drop, get_or, ap, sym, ◌∙◌, arith, append_assoc}
use Rattle.std.proofs.lemmas.List.{append-nil}
use Rattle.dwz_unit.specs.declared.stops.Stop.{Stop}
use Rattle.dwz_unit.specs.Stops.{stops_from}
use Rattle.dwz_unit.proofs.StopRowLemmas.{no_pair, small_size, stops_end, stops_here, stops_passed}
use Rattle.dwz_unit.proofs.stops.put_stops.Goals as goal
use Rattle.dwz_unit.proofs.stops.put_stops.Goals.{in-Some, in_default+in_ok-push}

pub loop-number-preserved : goal.loop-number-preserved
loop-number-preserved c =
    let pairs = c.args.pairs.now in
    let k = c.loop-number.number in
    let skip = c.loop-number.skip in
    let stops = c.loop-number.stops.items in
    let few = c.loop-number.invariant.few in
    elim c.match-passed_size.branch [
      | in-Some w ↦
          let size = sym c.passed_size.ensures ∙ w.in-Some.is in
          record {
            told =
                ap (λ (v : Vec Stop Global). v.items ++ stops_from (drop (k + 1) pairs) (k + 1) c.match-passed_size.skip) w.stops-is
                ∙ ap (λ (n : ℕ). stops ++ stops_from (drop (k + 1) pairs) (k + 1) n) w.skip-is
                ∙ ap (λ (x : List Stop). stops ++ x) (sym (stops_passed pairs k skip no_pair c.loop-number-test.true w.in-Some.size size)) ∙ c.loop-number.invariant.told;
            few = omega (arith, few, w.skip-is, small_size (get_or pairs k no_pair) w.in-Some.size size);
          }
      | in_default+in_ok-push w ↦
          let none = sym c.passed_size.ensures ∙ w.in_default.is in
          let stop : Stop = record { skip = skip; number = k } in
          record {
            told =
                ap (λ (v : Vec Stop Global). v.items ++ stops_from (drop (k + 1) pairs) (k + 1) c.match-passed_size.skip) w.stops-is
                ∙ ap (λ (n : ℕ). w.push.new.self.items ++ stops_from (drop (k + 1) pairs) (k + 1) n) w.skip-is
                ∙ ap (λ (x : List Stop). x ++ stops_from (drop (k + 1) pairs) (k + 1) 0) w.in_ok-push.ensures.items
                ∙ append_assoc stops (stop ∷ []) (stops_from (drop (k + 1) pairs) (k + 1) 0)
                ∙ ap (λ (x : List Stop). stops ++ x) (sym (stops_here pairs k skip no_pair c.loop-number-test.true none)) ∙ c.loop-number.invariant.told;
            few = omega (arith, w.skip-is);
          }
    ]

pub returns : goal.returns
returns c =
    sym (append-nil c.loop-number.stops.items)
    ∙ ap (λ (w : List Stop). c.loop-number.stops.items ++ w) (sym (stops_end c.args.pairs.now c.loop-number.number c.loop-number.skip c.loop-number-test.false)) ∙ c.loop-number.invariant.told
