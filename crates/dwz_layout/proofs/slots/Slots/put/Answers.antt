use Rattle.std.proofs.Common.{arith, refl}
use Rattle.dwz_layout.proofs.SlotLemmas.{place_put}
use Rattle.dwz_layout.proofs.slots.Slots.put.Goals as goal

pub returns : goal.returns
returns c =
    place_put c.args.self.now.numbers.items _ c.args.self.now.base c.args.slot c.args.place _ (omega arith) (omega arith) refl refl
