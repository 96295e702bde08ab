use Rattle.std.proofs.Common.{◌∙◌, ◌++◌, ◌∷◌, [], ℕ, List, Vec, Global, ap, sym}
use Rattle.dwz_unit.specs.Rows.{units_of}
use Rattle.dwz_expand.proofs.RangeSteps.{a_place, no_place, none_there}
use Rattle.dwz_expand.proofs.ranges.whole_places.Goals.{then-unit-ne-DW_UT_PARTIAL+in_ok-push, else-unit-ne-DW_UT_PARTIAL}
use Rattle.dwz_expand.proofs.ranges.whole_places.Goals as goal

pub loop-n-init : goal.loop-n-init
loop-n-init c = c.new-places.ensures.items ∙ sym none_there

pub loop-n-preserved : goal.loop-n-preserved
loop-n-preserved c =
    let raw = units_of c.args.units.now in
    elim c.if-unit-ne-DW_UT_PARTIAL.branch [
      | then-unit-ne-DW_UT_PARTIAL+in_ok-push w ↦
          ap (λ (v : Vec ℕ Global). v.items) w.places-is
          ∙ (w.in_ok-push.ensures.items
          ∙ (ap (λ (places : List ℕ). places ++ c.unit-unit.result.at ∷ []) c.loop-n.invariant ∙ sym (a_place raw c.loop-n.n c.unit-unit.result c.unit-unit.ensures w.if-unit-ne-DW_UT_PARTIAL.true)))
      | else-unit-ne-DW_UT_PARTIAL w ↦
          ap (λ (v : Vec ℕ Global). v.items) w.places-is ∙ (c.loop-n.invariant ∙ sym (no_place raw c.loop-n.n c.unit-unit.result c.unit-unit.ensures w.if-unit-ne-DW_UT_PARTIAL.false))
    ]
