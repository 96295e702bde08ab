use Rattle.std.proofs.Common.{refl, ◌≡◌, ◌∙◌, map, take}
use Rattle.std.specs.Str.{IsUtf8}
use Rattle.std.proofs.lemmas.List.{length-map, map-append, take_all}
use Rattle.std.proofs.lemmas.List.Elements.{All-push}
use Rattle.dwz_words.proofs.MatchLemmas.{All-map_at, map_more_at}
use Rattle.dwz_words.specs.Lawful.{word_bytes}
use Rattle.dwz_words.proofs.reading.texts.Goals as goal

pub returns-in-Err-clause-usage : goal.returns-in-Err-clause-usage
returns-in-Err-clause-usage c = λ _ all. c.in-Err.ensures.cases.0 (rw c.as_slice.ensures.value
    (All-map_at (λ w. w.items) IsUtf8 c.args.words.now c.loop-word.word-index c.word-item.result c.loop-word-test.true c.word-item.is all))

pub loop-word-preserved : goal.loop-word-preserved
loop-word-preserved c =
    let more = map_more_at (λ w. w.items) c.args.words.now c.loop-word.word-index c.word-item.result c.loop-word-test.true c.word-item.is in
    let utf8 : IsUtf8 c.word-item.result.items = rw c.as_slice.ensures.value at c.in-Ok.ensures.cases.1 in
    let text : c.in-Ok.text.now ≡ c.word-item.result.items = c.in-Ok.ensures.cases.0 ∙ c.as_slice.ensures.value in
    record {
      same = rw (c.in_ok-push-in-Ok.ensures.items, more, map-append) (rw (c.loop-word.invariant.same, text) refl);
      utf8 = rw more (All-push IsUtf8 _ _ c.loop-word.invariant.utf8 utf8);
    }

pub returns-clause-same : goal.returns-clause-same
returns-clause-same c =
    c.loop-word.invariant.same ∙ take_all c.loop-word.word-index (word_bytes c.args.words.now) (rw length-map c.loop-word-test.false)

pub returns-clause-utf8 : goal.returns-clause-utf8
returns-clause-utf8 c =
    let all : take c.loop-word.word-index (word_bytes c.args.words.now) ≡ map (λ w. w.items) c.args.words.now =
    take_all c.loop-word.word-index (word_bytes c.args.words.now) (rw length-map c.loop-word-test.false) in
    rw all at c.loop-word.invariant.utf8
