use Rattle.std.proofs.Common.{◌≡◌, ◌∙◌, arith}
use Rattle.dwz_def_reading.proofs.ListFacts.{item_got}
use Rattle.dwz_encode_common.specs.Placed.{file_places}
use Rattle.dwz_encode_common.specs.TextsIn.{is_made, texts_in}
use Rattle.dwz_encode_common.proofs.PlacedSteps.{one_more, places_all}
use Rattle.dwz_encode_common.proofs.placed.shared_texts.Goals as goal

pub loop-n-preserved : goal.loop-n-preserved
loop-n-preserved c =
    let files = c.args.files.now in
    let made = is_made c.args.texts.now in
    let texts = texts_in c.args.texts.now in
    let k = c.args.known.now in
    let n = c.loop-n.n in
    let x = c.index-files-n.result in
    let number : c.in_ok-behind.field-0 ≡ n = omega (arith, c.in_ok-behind.ensures) in
    one_more made files texts c.args.sharing.now k n x c.loop-n.all.items c.push.new.self.items c.in_ok-places.places
    (item_got files n x c.loop-n-test.true c.index-files-n.is) c.loop-n.invariant
    (c.in_ok-places.ensures ∙ (λ i. file_places made (c.shares_in.ensures i) texts k (number i) x)) c.in_ok-push.ensures.items

pub returns : goal.returns
returns c = places_all (is_made c.args.texts.now) c.args.files.now (texts_in c.args.texts.now) c.args.sharing.now c.args.known.now c.loop-n.n c.loop-n.all.items
    (omega (arith, c.loop-n-test.false, c.loop-n.auto.n-end)) c.loop-n.invariant
