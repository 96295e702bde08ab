use Rattle.std.proofs.Common.{◌≡◌, ℕ, List, Some, get_or, rules, ap, sym, ◌∙◌}
use Rattle.std.specs.Prelude.{slice_get}
use Rattle.std.specs.Ordering.{is_eq}
use Rattle.std.proofs.lemmas.Option.{slice_get-get_or, slice_get_read}
use Rattle.dwz_def_reading.proofs.CaseFacts.{same_number}
use Rattle.dwz_def_reading.proofs.ListFacts.{got_map}
use Rattle.dwz_unit.specs.TableViews.{table_view}
use Rattle.dwz_unit.proofs.joined.tail_of.Goals as goal

pub returns-in-Ok : goal.returns-in-Ok
returns-in-Ok c = λ row.
    let places = c.as_slice.result.now in
    let here : get_or places c.in-Ok.skip 0 ≡ c.args.place = same_number (get_or places c.in-Ok.skip 0) c.args.place (ap is_eq (c.in-Ok.ensures.ok 0)) in
    let at : slice_get c.args.reads.now c.args.base ≡ Some c.in_ok-read.read.now = search (rules, slice_get_read) in
    record {
      read = table_view row c.in_ok-read.read.now;
      base = got_map (table_view row) c.args.reads.now c.args.base c.in_ok-read.read.now at;
      start = ap (λ (w : List ℕ). slice_get w c.in-Ok.skip) (sym c.as_slice.ensures.value) ∙ slice_get-get_or places c.in-Ok.skip 0 c.in-Ok.ensures.bound ∙ ap (λ (n : ℕ). Some n) here;
    }
