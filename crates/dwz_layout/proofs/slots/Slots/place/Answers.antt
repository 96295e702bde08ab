use Rattle.std.proofs.Common.{◌<◌, ◌∙◌, length, refl, arith}
use Rattle.std.proofs.lemmas.List.{get_or_default}
use Rattle.dwz_layout.proofs.SlotLemmas.{place_there, slots_len}
use Rattle.dwz_layout.proofs.slots.Slots.place.Goals as goal

pub returns : goal.returns
returns c =
    let inside : c.args.slot < length c.args.self.now.numbers.items = omega (arith, c.requires, slots_len c.args.self.now) in
    place_there c.args.self.now c.args.slot c.index-number.result.now _ inside (c.index-number.ensures ∙ get_or_default c.args.self.now.numbers.items c.args.slot _ 0 inside) refl
