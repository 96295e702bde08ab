use Rattle.std.proofs.Common.{◌∙◌, [], get_or, map, ap, arith}
use Rattle.std.proofs.lemmas.Option.{slice_get-get_or}
use Rattle.dwz_layout.specs.Known.{no_space}
use Rattle.dwz_encode_texts.proofs.TextSteps.{map_all, map_push}
use Rattle.dwz_encode_common.specs.Placed.{space_placed}
use Rattle.dwz_encode_common.specs.TextsIn.{texts_in}
use Rattle.dwz_encode_common.proofs.spaces.shared_names.Goals as goal

pub loop-space-preserved : goal.loop-space-preserved
loop-space-preserved c =
    let place = space_placed c.args.files.now (texts_in c.args.texts.now) c.args.sharing.now in
    let spaces = c.as_slice-space-items.result.now in
    let j = c.loop-space.space-index in
    map_push place spaces j (get_or spaces j no_space) [] c.loop-space.spaces.items c.push.new.self.items c.in_ok-placed.placed
    (slice_get-get_or spaces j no_space c.loop-space-test.true) c.loop-space.invariant c.in_ok-placed.ensures c.in_ok-push.ensures.items

pub returns : goal.returns
returns c =
    let place = space_placed c.args.files.now (texts_in c.args.texts.now) c.args.sharing.now in
    let spaces = c.as_slice-space-items.result.now in
    map_all place spaces c.loop-space.space-index [] c.loop-space.spaces.items (omega (arith, c.loop-space-test.false))
    c.loop-space.invariant ∙ ap (map place) c.as_slice-space-items.ensures.value
