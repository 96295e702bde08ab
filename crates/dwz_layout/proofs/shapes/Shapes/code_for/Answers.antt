use Rattle.std.proofs.Common.{◌≡◌, ◌+◌, ◌∙◌, List, Some, ap, slice_get, sym}
use Rattle.dwz_model.specs.declared.place.Pair.{Pair}
use Rattle.dwz_def_reading.specs.Abbrevs.{Declaration}
use Rattle.dwz_def_encoding.specs.Writing.{DeclarationShape, code_in, with_shape}
use Rattle.dwz_layout.specs.Shapes.{shape_of, shapes_in}
use Rattle.dwz_layout.proofs.CodedLemmas.{with_known}
use Rattle.dwz_layout.proofs.shapes.Shapes.code_for.Goals as goal

pub returns-in-At-clause-code : goal.returns-in-At-clause-code
returns-in-At-clause-code c =
    let shapes = shapes_in c.self.inside.table in
    let s = shape_of c.args.tag c.args.children c.as_slice-pairs.result.now in
    let at : slice_get shapes c.in-At.place ≡ Some s = ap (λ (t : List Declaration). slice_get (shapes_in t) c.in-At.place) (sym c.decls.ensures) ∙ c.in-At.ensures.0 in
    ap (λ (t : List DeclarationShape). code_in 1 t (shape_of c.args.tag c.args.children c.args.room.now.items)) (sym c.self.view_is)
    ∙ ap (λ (w : List Pair). code_in 1 shapes (shape_of c.args.tag c.args.children w)) (sym c.as_slice-pairs.ensures.value) ∙ c.self.invariant.1.own c.in-At.place s at

pub returns-in-At-clause-shapes : goal.returns-in-At-clause-shapes
returns-in-At-clause-shapes c =
    let shapes = shapes_in c.self.inside.table in
    let s = shape_of c.args.tag c.args.children c.as_slice-pairs.result.now in
    let at : slice_get shapes c.in-At.place ≡ Some s = ap (λ (t : List Declaration). slice_get (shapes_in t) c.in-At.place) (sym c.decls.ensures) ∙ c.in-At.ensures.0 in
    sym c.self.view_is
    ∙ sym (with_known shapes s (c.in-At.place + 1) (c.self.invariant.1.own c.in-At.place s at))
    ∙ (λ i. with_shape (c.self.view_is i) (shape_of c.args.tag c.args.children (c.as_slice-pairs.ensures.value i)))
