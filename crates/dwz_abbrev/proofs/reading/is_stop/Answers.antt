use Rattle.std.proofs.Common.{◌≡◌, ℕ, ◌<◌, List, Some, get_or, length, ap, ◌∙◌}
use Rattle.std.specs.Borrow.{Bor}
use Rattle.std.specs.Ordering.{is_eq}
use Rattle.std.proofs.lemmas.Option.{slice_get-get_or}
use Rattle.dwz_def_reading.proofs.CaseFacts.{same_number}
use Rattle.dwz_abbrev.specs.Starts.{IsStop}
use Rattle.dwz_abbrev.proofs.reading.is_stop.Goals as goal

found_there : (stops : List (Bor (List ℕ))) (list nth place : ℕ) (other : Bor (List ℕ)) → list < length stops → nth < length (get_or stops list other).now
    → get_or (get_or stops list other).now nth 0 ≡ place → IsStop stops place
found_there stops list nth place other lt within is = record {
  list = list;
  starts = get_or stops list other;
  there = slice_get-get_or stops list other lt;
  nth = nth;
  here = slice_get-get_or (get_or stops list other).now nth 0 within ∙ ap (λ (n : ℕ). Some n) is;
}

pub returns-in-Ok : goal.returns-in-Ok
returns-in-Ok c is = found_there c.args.stops.now c.loop-list.list-index c.in-Ok.field-0 c.args.place _ c.loop-list-test.true c.in-Ok.ensures.bound (same_number _ c.args.place (ap is_eq (c.in-Ok.ensures.ok 0)))
