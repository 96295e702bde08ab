use Rattle.std.proofs.Common.{◌≡◌, ◌∙◌, ◌+◌, ◌-◌, Some, ap, arith, drop, length, sym, take}
use Rattle.std.proofs.lemmas.Option.{slice_get-map}
use Rattle.std.specs.Option.{option_map}
use Rattle.dwz_pool.specs.Stored.{bytes_at}
use Rattle.dwz_pool.proofs.PlaceLemmas.{ends_within, read_at}
use Rattle.dwz_pool.proofs.rows.Rows.text.Goals as goal

pub overflow_add-result : goal.overflow_add-result
overflow_add-result c =
    let rows = c.args.self.now in
    let place = c.in_ok-place.field-0.now in
    let read = c.in_ok-place.ensures.lookup in
    let at = read_at c.deref.result.now rows.places.items c.args.i place c.deref.ensures.value read.0 read.1 in
    let within = ends_within 0 (length rows.section.items) rows.places.items c.args.i place c.requires.follow at in
    omega (arith, within, rows.section.ok.0, rows.section.ok.1, rows.section.small)

pub slice_bounds-result-end : goal.slice_bounds-result-end
slice_bounds-result-end c =
    let rows = c.args.self.now in
    let place = c.in_ok-place.field-0.now in
    let read = c.in_ok-place.ensures.lookup in
    let at = read_at c.deref.result.now rows.places.items c.args.i place c.deref.ensures.value read.0 read.1 in
    let within = ends_within 0 (length rows.section.items) rows.places.items c.args.i place c.requires.follow at in
    omega (arith, within, ap length c.deref-2.ensures.value)

pub returns : goal.returns
returns c =
    let rows = c.args.self.now in
    let place = c.in_ok-place.field-0.now in
    let read = c.in_ok-place.ensures.lookup in
    let at = read_at c.deref.result.now rows.places.items c.args.i place c.deref.ensures.value read.0 read.1 in
    let size : place.start + place.len - place.start ≡ place.len = omega arith in
    (λ j. Some (take (size j) (drop place.start (c.deref-2.ensures.value j))))
    ∙ sym (slice_get-map (bytes_at rows.section.items) rows.places.items c.args.i ∙ ap (option_map (bytes_at rows.section.items)) at)
