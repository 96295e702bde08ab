use Rattle.std.proofs.Common.{◌∙◌}
use Rattle.dwz_encode_texts.specs.declared.pruning.PrunedFile.{PrunedFile}
use Rattle.dwz_encode_texts.proofs.PrunedUses.{uses_name, with_places}
use Rattle.dwz_encode_texts.proofs.pruning.prune_slots.Goals as goal

pub prune-requires : goal.prune-requires
prune-requires c =
    uses_name c.args.strs.now c.args.offsets.now c.args.of_values.items c.args.places.now c.as_slice.result.now (c.as_slice.ensures.value ∙ c.in_ok-put_slots.ensures) c.requires.texts

pub returns : goal.returns
returns c =
    let p : PrunedFile = record { strs = c.in_ok-strs.strs; offsets = c.in_ok-offsets.offsets } in
    with_places c.args.strs.now c.args.offsets.now c.args.of_values.items c.args.places.now c.as_slice.result.now p c.requires.places c.requires.texts
    (c.as_slice.ensures.value ∙ c.in_ok-put_slots.ensures) c.in_ok-strs.ensures c.in_ok-offsets.ensures
