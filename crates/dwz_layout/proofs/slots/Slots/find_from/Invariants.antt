use Rattle.dwz_abbrev.specs.Views.{views}
use Rattle.dwz_layout.specs.Shapes.{shape_of, shapes_in}
use Rattle.dwz_layout.specs.Slots.{HoldOthers, places_in}
use Rattle.dwz_layout.proofs.slots.Slots.find_from.Given as goal

abbrev pub invariant-loop-step : goal.invariant-loop-step
invariant-loop-step l = HoldOthers (places_in l.self) (shapes_in (views l.decls)) (shape_of l.tag l.children l.pairs) l.start l.step
