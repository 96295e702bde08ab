use Rattle.std.proofs.Common.{◌≡◌, ℕ, ◌+◌, List, Some, get_or, rules, ap, subst, ◌∙◌}
use Rattle.std.specs.Prelude.{slice_get, slice_range}
use Rattle.std.specs.Ordering.{is_eq}
use Rattle.std.proofs.lemmas.Option.{slice_get-get_or, slice_get_read}
use Rattle.dwz_def_reading.proofs.CaseFacts.{same_number}
use Rattle.dwz_abbrev.specs.ReadParts.{IsPartAt, SectionRow}
use Rattle.dwz_abbrev.proofs.PairLemmas.{part_behind, part_there}
use Rattle.dwz_abbrev.proofs.pair_row.PairRow.noted.Goals as goal

pub returns-in-Ok : goal.returns-in-Ok
returns-in-Ok c =
    let section = c.self.inside.section.now in
    let row = c.self.inside.row.items in
    let places = c.self.inside.places.items in
    let parts = c.self.inside.parts.items in
    let number = c.in_ok-number.field-0.now in
    let part = c.in_ok-part.field-0.now in
    let skip = c.in-Ok.skip in
    let there : slice_get parts number ≡ Some part = search (rules, slice_get_read) in
    let slice = slice_range c.deref-3.result.now part.first part.end in
    let same : get_or slice skip 0 ≡ c.args.place = same_number (get_or slice skip 0) c.args.place (ap is_eq (c.in-Ok.ensures.ok 0)) in
    let here : slice_get slice skip ≡ Some c.args.place = slice_get-get_or slice skip 0 c.in-Ok.ensures.bound ∙ ap (λ (n : ℕ). Some n) same in
    let at : slice_get (slice_range places part.first part.end) skip ≡ Some c.args.place =
    subst (λ (w : List ℕ). slice_get (slice_range w part.first part.end) skip ≡ Some c.args.place) c.deref-3.ensures.value here in
    subst (λ (s : SectionRow). IsPartAt s.section s.row c.args.place (record { first = part.first + skip; end = part.end; behind = part.behind })) c.self.view_is
    (part_behind section row places part skip c.args.place (part_there section row places parts number part c.self.invariant there) at)
