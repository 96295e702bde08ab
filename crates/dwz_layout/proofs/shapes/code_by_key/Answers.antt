use Rattle.std.proofs.Common.{◌≡◌, ◌∙◌, Some, sym}
use Rattle.dwz_def_encoding.specs.Writing.{code_in}
use Rattle.dwz_layout.specs.Shapes.{shape_of, shapes_in}
use Rattle.dwz_layout.proofs.CodedLemmas.{with_known}
use Rattle.dwz_layout.proofs.shapes.code_by_key.Goals as goal

pub returns-in-Some-clause-shapes : goal.returns-in-Some-clause-shapes
returns-in-Some-clause-shapes c =
    let shapes = shapes_in c.args.table.now in
    let s = shape_of c.args.tag c.args.children c.args.pairs.now in
    let is : code_in 1 shapes s ≡ Some c.in-Some.code = sym (c.requires.found.crowded s c.in_ok-code.ensures.bits c.requires.crowded) ∙ sym c.in_ok-code.ensures.code ∙ c.in-Some.is in
    sym (with_known shapes s c.in-Some.code is)
