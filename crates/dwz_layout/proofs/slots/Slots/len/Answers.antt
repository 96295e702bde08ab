use Rattle.std.proofs.Common.{◌∙◌, sym}
use Rattle.dwz_layout.proofs.SlotLemmas.{slots_len}
use Rattle.dwz_layout.proofs.slots.Slots.len.Goals as goal

pub returns : goal.returns
returns c = c.len.ensures ∙ c.args.self.now.numbers.ok.0 ∙ sym (slots_len c.args.self.now)
