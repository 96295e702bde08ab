use Rattle.std.proofs.Common.{ℕ, subst}
use Rattle.dwz_abbrev.specs.Views.{views}
use Rattle.dwz_layout.specs.Shapes.{shape_of, shapes_in}
use Rattle.dwz_layout.specs.Slots.{IsSpot, places_in}
use Rattle.dwz_layout.proofs.slots.Slots.find.Goals as goal

pub returns : goal.returns
returns c =
    subst (λ (n : ℕ). IsSpot (places_in c.args.self.now) (shapes_in (views c.args.decls.now)) (shape_of c.args.tag c.args.children c.args.pairs.now) n c.find_from.result)
    c.home-start.ensures.value c.find_from.ensures
