use Rattle.std.proofs.Common.{◌<◌, length, refl, arith}
use Rattle.dwz_abbrev.specs.Views.{views}
use Rattle.dwz_layout.specs.Shapes.{shape_of}
use Rattle.dwz_layout.specs.Slots.{places_in}
use Rattle.dwz_layout.proofs.ShapeLemmas.{shape_at}
use Rattle.dwz_layout.proofs.SlotLemmas.{held_other, shapes_len}
use Rattle.dwz_layout.proofs.slots.Slots.held.Goals as goal

pub returns-then-slot-len : goal.returns-then-slot-len
returns-then-slot-len c = λ inside. absurd (omega (arith, inside))

pub returns-then-place-decls : goal.returns-then-place-decls
returns-then-place-decls c = (omega arith, omega (arith, shapes_len c.args.decls.now))

pub returns-then-is_decl : goal.returns-then-is_decl
returns-then-is_decl c =
    let decls = c.args.decls.now in
    let s = shape_of c.args.tag c.args.children c.args.pairs.now in
    let lt : c.place-place.result < length decls = omega arith in
    (shape_at decls (views decls) c.place-place.result c.index-decls-place.result s refl lt c.index-decls-place.is (c.is_decl.ensures.yes c.if-is_decl.true), omega arith)

pub returns : goal.returns
returns c = λ inside.
    let decls = c.args.decls.now in
    let s = shape_of c.args.tag c.args.children c.args.pairs.now in
    let lt : c.place-place.result < length decls = omega arith in
    held_other decls (places_in c.args.self.now) c.args.slot c.place-place.result c.index-decls-place.result s c.place-place.ensures lt c.index-decls-place.is (c.is_decl.ensures.no c.if-is_decl.false)
