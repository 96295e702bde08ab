use Rattle.std.proofs.Common.{◌∙◌, List, Some, IfSome, arith, bit_and, subst, sym, ap}
use Rattle.std.proofs.lemmas.Nat.{and_le_r}
use Rattle.std.proofs.lemmas.Option.{slice_get-get_or}
use Rattle.dwz_label_marks.specs.declared.found.Slot.{Slot}
use Rattle.dwz_label_marks.specs.Found.{Has}
use Rattle.dwz_label_marks.proofs.FoundLemmas.{kept_here}
use Rattle.dwz_label_marks.proofs.found.Found.get.Goals as goal

pub returns-then-slot-key : goal.returns-then-slot-key
returns-then-slot-key c =
    let slots = c.self.inside.slots.items in
    let s = c.index-slot.result.now in
    let at = bit_and c.args.key c.self.inside.mask in
    let low = and_le_r c.args.key c.self.inside.mask in
    let here = slice_get-get_or slots at s (let w = c.self.invariant in omega arith) ∙ ap (λ (x : Slot). Some x) (sym c.index-slot.ensures) in
    subst (λ (x : List Slot). IfSome s.number (λ n. Has x c.args.key n)) c.self.view_is (kept_here slots at c.args.key s here c.if-slot-key.true)
