use Rattle.std.proofs.Common.{◌≡◌, ◌+◌, ◌++◌, ◌∷◌, ◌∙◌, [], List, ℕ, ap, length, subst, sym}
use Rattle.std.specs.Prelude.{slice_set}
use Rattle.std.proofs.lemmas.List.{length-map}
use Rattle.dwz_layout.specs.Shapes.{shape_in, shape_of, shapes_in}
use Rattle.dwz_layout.specs.Slots.{AreFound, places_in}
use Rattle.dwz_layout.proofs.CodedLemmas.{coded_grown, counted}
use Rattle.dwz_layout.proofs.ShapeLemmas.{code_after, found_behind, shapes_after}
use Rattle.dwz_layout.proofs.SlotLemmas.{found_slot}
use Rattle.dwz_layout.proofs.shapes.add_in_slot.Goals as goal

pub append-requires-clause-counted : goal.append-requires-clause-counted
append-requires-clause-counted c = counted c.args.table.now c.requires.coded

pub put-requires : goal.put-requires
put-requires c = c.requires.free.inside

pub returns-clause-coded : goal.returns-clause-coded
returns-clause-coded c =
    let s = shape_of c.args.tag c.args.children c.args.pairs in
    coded_grown c.args.table.now c.append.new.self s c.in_ok-code.code c.in_ok-code.ensures.code c.in_ok-code.ensures.ok c.requires.coded

pub returns-clause-found : goal.returns-clause-found
returns-clause-found c =
    let s = shape_of c.args.tag c.args.children c.args.pairs in
    let shapes = shapes_in c.args.table.now in
    let slots = places_in c.args.index.now.slots in
    let codes = c.args.index.now.codes.by_key in
    let code = c.in_ok-code.code in
    let long : length shapes ≡ length c.args.table.now = length-map c.args.table.now shape_in in
    let next : code ≡ length shapes + 1 = c.in_ok-code.ensures.code ∙ ap (λ (n : ℕ). n + 1) (sym long) in
    let put : slice_set slots c.args.slot (length shapes) ≡ (places_in c.put.new.self) =
    ap (slice_set slots c.args.slot) (long ∙ sym c.len-place.ensures.len) ∙ sym c.put.ensures in
    found_behind c.args.table.now c.append.new.self s code (c.requires.found.free s c.args.slot c.requires.free) c.in_ok-code.ensures.code c.in_ok-code.ensures.ok codes (places_in c.put.new.self)
    (subst (λ (w : List ℕ). AreFound codes w (shapes ++ s ∷ [])) put (found_slot shapes s slots codes c.requires.found code next c.args.slot c.requires.free))

pub returns-clause-code : goal.returns-clause-code
returns-clause-code c =
    let s = shape_of c.args.tag c.args.children c.args.pairs in
    code_after c.args.table.now c.append.new.self s c.in_ok-code.code (c.requires.found.free s c.args.slot c.requires.free) c.in_ok-code.ensures.code c.in_ok-code.ensures.ok

pub returns-clause-shapes : goal.returns-clause-shapes
returns-clause-shapes c =
    let s = shape_of c.args.tag c.args.children c.args.pairs in
    shapes_after c.args.table.now c.append.new.self s c.in_ok-code.code (c.requires.found.free s c.args.slot c.requires.free) c.in_ok-code.ensures.code c.in_ok-code.ensures.ok
