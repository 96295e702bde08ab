use Rattle.dwz_encode_texts.specs.declared.pruning.PrunedFile.{PrunedFile}
use Rattle.dwz_encode_texts.proofs.PrunedUses.{without_places}
use Rattle.dwz_encode_texts.proofs.pruning.prune_texts.Goals as goal

pub returns : goal.returns
returns c =
    let p : PrunedFile = record { strs = c.in_ok-prune.field-0; offsets = c.in_ok-to_vec.field-0 } in
    without_places c.args.strs.now c.args.offsets.now c.args.uses.now p c.requires.places c.in_ok-prune.ensures (c.in_ok-to_vec.ensures.items_if_clones_equal (λ x y e. e))
