use Rattle.std.proofs.Common.{◌≡◌, ◌∙◌, List, ℕ, Some, ap, arith, sym}
use Rattle.std.specs.Option.{option_map}
use Rattle.dwz_def_reading.specs.TextRows.{start_of, start_of_number, text_number}
use Rattle.dwz_pool.specs.Stored.{texts_of}
use Rattle.dwz_pool.proofs.PlaceLemmas.{read_at, starts_at}
use Rattle.dwz_pool.proofs.texts.Texts.start_of.Goals as goal

pub returns : goal.returns
returns c =
    let rows = c.self.inside.rows in
    let text = c.args.text.now in
    let number = c.in_ok-number.number in
    let place = c.in_ok-place.place.now in
    let read = c.in_ok-place.ensures.lookup in
    let at = read_at c.deref.result.now rows.places.items number place c.deref.ensures.value read.0 read.1 in
    let start : place.start ≡ start_of_number (texts_of rows) number = omega (arith, starts_at rows.section.items 0 rows.places.items number place c.self.invariant.0.follow at) in
    let found : Some number ≡ text_number (texts_of rows) text =
    sym c.in_ok-number.was ∙ c.find.ensures ∙ ap (λ (texts : List (List ℕ)). text_number texts text) (sym c.self.view_is) in
    ap (λ (n : ℕ). Some n) start
    ∙ ap (option_map (start_of_number (texts_of rows))) found
    ∙ ap (λ (texts : List (List ℕ)). start_of texts text) c.self.view_is
