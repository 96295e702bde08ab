use Rattle.std.proofs.Common.{List, ap, subst, sym}
use Rattle.dwz_def_encoding.specs.Writing.{DeclarationShape}
use Rattle.dwz_layout.specs.Shapes.{IsCoded, shapes_in}
use Rattle.dwz_layout.specs.Slots.{AreFound, places_in}
use Rattle.dwz_layout.proofs.CodedLemmas.{coded_none}
use Rattle.dwz_layout.proofs.SlotLemmas.{found_none}
use Rattle.dwz_layout.proofs.shapes.Shapes.clear.Goals as goal

pub invariant_of-self : goal.invariant_of-self
invariant_of-self c =
    let codes = c.new.result.by_key in
    let slots = places_in c.pass.new.self in (
      subst IsCoded (sym c.new-2.ensures) coded_none,
      subst (λ (shapes : List DeclarationShape). AreFound codes slots shapes) (sym (ap shapes_in c.new-2.ensures)) (found_none codes slots c.new.ensures),
    )
