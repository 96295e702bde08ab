use Rattle.std.proofs.Common.{List, ap, subst, sym}
use Rattle.dwz_def_encoding.specs.Writing.{DeclarationShape}
use Rattle.dwz_layout.specs.Shapes.{IsCoded, shapes_in}
use Rattle.dwz_layout.specs.Slots.{AreFound, places_in}
use Rattle.dwz_layout.proofs.CodedLemmas.{coded_none}
use Rattle.dwz_layout.proofs.SlotLemmas.{found_none}
use Rattle.dwz_layout.proofs.shapes.Shapes.with_slots.Goals as goal

pub invariant_of-result : goal.invariant_of-result
invariant_of-result c =
    let codes = c.new-2.result.by_key in
    let slots = places_in c.in_ok-empty.field-0 in (
      subst IsCoded (sym c.new.ensures) coded_none,
      subst (λ (shapes : List DeclarationShape). AreFound codes slots shapes) (sym (ap shapes_in c.new.ensures)) (found_none codes slots c.new-2.ensures),
    )
