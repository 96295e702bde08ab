use Rattle.std.proofs.Common.{◌≡◌, ◌∙◌, ◌-◌, ◌^◌, ◌<◌, ◌++◌, ◌∷◌, [], List, None, ℕ, ap, arith, length, subst, sym}
use Rattle.std.proofs.lemmas.List.{length-map}
use Rattle.dwz_def_reading.specs.TextRows.{text_number}
use Rattle.dwz_pool.specs.Numbered.{AreNumbered, IsAdded}
use Rattle.dwz_pool.specs.Stored.{bytes_at, texts_of}
use Rattle.dwz_pool.proofs.NumberLemmas.{numbered_more}
use Rattle.dwz_pool.proofs.PlaceLemmas.{has_more, texts_more}
use Rattle.dwz_pool.proofs.texts.Texts.add.Goals as goal

pub invariant_of-self-2 : goal.invariant_of-self-2
invariant_of-self-2 c =
    let rows = c.self.inside.rows in
    let numbers = c.self.inside.numbers in
    let text = c.args.text.now in
    let is_new : text_number (texts_of rows) text ≡ None = ap (λ (texts : List (List ℕ)). text_number texts text) c.self.view_is ∙ c.requires.new in
    let few : length (texts_of rows) < 2 ^ 32 - 1 = subst (λ (texts : List (List ℕ)). length texts < 2 ^ 32 - 1) (sym c.self.view_is) c.requires.few in
    let more = texts_more rows c.reserve.new.self c.push.new.self text c.self.invariant.0 is_new few c.reserve.ensures.same c.push.ensures.section c.push.ensures.places in
    let number : c.len-number.result ≡ length (texts_of rows) = omega (arith, length-map rows.places.items (bytes_at rows.section.items)) in
    let counted = subst (λ (n : ℕ). IsAdded numbers c.add.new.self c.hash_of.result text n) number c.in_ok-add.ensures.ok in
    let added = subst (λ (hash : ℕ). IsAdded numbers c.add.new.self hash text (length (texts_of rows))) c.hash_of.ensures counted in (
      has_more rows c.reserve.new.self c.push.new.self text c.self.invariant.0 is_new few c.reserve.ensures.same c.push.ensures.section c.push.ensures.places,
      subst (λ (texts : List (List ℕ)). AreNumbered texts c.add.new.self) (sym more) (numbered_more (texts_of rows) text numbers c.add.new.self c.self.invariant.1 is_new added),
    )

pub returns-clause-ok : goal.returns-clause-ok
returns-clause-ok c =
    let rows = c.self.inside.rows in
    let text = c.args.text.now in
    let is_new : text_number (texts_of rows) text ≡ None = ap (λ (texts : List (List ℕ)). text_number texts text) c.self.view_is ∙ c.requires.new in
    let few : length (texts_of rows) < 2 ^ 32 - 1 = subst (λ (texts : List (List ℕ)). length texts < 2 ^ 32 - 1) (sym c.self.view_is) c.requires.few in
    texts_more rows c.reserve.new.self c.push.new.self text c.self.invariant.0 is_new few c.reserve.ensures.same c.push.ensures.section c.push.ensures.places
    ∙ ap (λ (texts : List (List ℕ)). texts ++ text ∷ []) c.self.view_is
