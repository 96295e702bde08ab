use Rattle.std.proofs.Common.{ℕ, Option, ap, sym, ◌∙◌, arith}
use Rattle.dwz_def_reading.specs.Rows.{has}
use Rattle.dwz_def_reading.specs.Texts.{slot_place}
use Rattle.dwz_graph_pruning.specs.Stays.{is_slot}
use Rattle.dwz_graph_pruning.proofs.SlotLemmas.{searched_is, too_far}
use Rattle.dwz_graph_pruning.proofs.values.is_slot.Goals as goal

pub returns-in-None : goal.returns-in-None
returns-in-None c =
    too_far c.args.slots.now (slot_place c.in-Some.base c.args.index) (λ k lt. (let low = (c.type_inv.slots k).fits in let far = c.in-None.ensures in omega (arith, low, far)))
    ∙ ap (λ (o : Option ℕ). is_slot c.args.slots.now o c.args.index) (sym c.in-Some.is)

pub returns-in-Some-place_of : goal.returns-in-Some-place_of
returns-in-Some-place_of c =
    c.is_ok.ensures.value ∙ searched_is c.args.slots.now c.requires c.in-Some-place_of.place c.binary_search.result c.binary_search.ensures.position
    ∙ ap (λ (n : ℕ). has n c.args.slots.now) c.in-Some-place_of.ensures
    ∙ ap (λ (o : Option ℕ). is_slot c.args.slots.now o c.args.index) (sym c.in-Some.is)
