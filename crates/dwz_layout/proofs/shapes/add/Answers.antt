use Rattle.std.proofs.Common.{◌≡◌, ◌+◌, ◌∙◌, List, ℕ, None, Some, ap, length, subst, sym}
use Rattle.std.specs.Global.{Vec}
use Rattle.std.proofs.lemmas.List.{length-map}
use Rattle.dwz_def_reading.specs.Abbrevs.{Declaration}
use Rattle.dwz_layout.specs.Maps.{Puts, look}
use Rattle.dwz_layout.specs.Shapes.{shape_in, shape_of, shapes_in}
use Rattle.dwz_layout.specs.Slots.{AreFound, places_in}
use Rattle.dwz_layout.proofs.CodedLemmas.{coded_grown, counted}
use Rattle.dwz_layout.proofs.ShapeLemmas.{code_after, found_behind, shapes_after}
use Rattle.dwz_layout.proofs.SlotLemmas.{forgotten, found_key, found_same}
use Rattle.dwz_layout.proofs.shapes.add.Goals as goal

pub append-requires-clause-counted : goal.append-requires-clause-counted
append-requires-clause-counted c = counted c.args.table.now c.requires.coded

pub returns-in-Ok-clause-coded : goal.returns-in-Ok-clause-coded
returns-in-Ok-clause-coded c =
    let s = shape_of c.args.tag c.args.children c.args.pairs in
    coded_grown c.args.table.now c.append.new.self s c.in-Ok.code c.in-Ok.ensures.code c.in-Ok.ensures.ok c.requires.coded

pub returns-in-Ok-clause-found : goal.returns-in-Ok-clause-found
returns-in-Ok-clause-found c =
    let s = shape_of c.args.tag c.args.children c.args.pairs in
    let slots = places_in c.args.index.now.slots in
    let old = c.args.index.now.codes.by_key in
    let new = c.keep.new.self.by_key in
    let code = c.in-Ok.code in
    let same : c.len.result + 1 ≡ code = ap (λ (n : ℕ). n + 1) c.len.ensures.len ∙ sym c.in-Ok.ensures.code in
    let puts = subst (λ (n : ℕ). Puts old new c.args.index.now.codes.key.items (Some n)) same c.in_ok-keep.ensures.ok in
    let put = subst (λ (key : List ℕ). Puts old new key (Some code)) c.requires.key puts in
    let next : code ≡ length (shapes_in c.args.table.now) + 1 = c.in-Ok.ensures.code ∙ ap (λ (n : ℕ). n + 1) (sym (length-map c.args.table.now shape_in)) in
    found_behind c.args.table.now c.append.new.self s code c.requires.is_new c.in-Ok.ensures.code c.in-Ok.ensures.ok new slots
    (found_key (shapes_in c.args.table.now) s slots old c.requires.found code next c.requires.bits c.requires.crowded c.requires.is_new new put)

pub returns-in-Ok-clause-code : goal.returns-in-Ok-clause-code
returns-in-Ok-clause-code c =
    let s = shape_of c.args.tag c.args.children c.args.pairs in
    code_after c.args.table.now c.append.new.self s c.in-Ok.code c.requires.is_new c.in-Ok.ensures.code c.in-Ok.ensures.ok

pub returns-in-Ok-clause-shapes : goal.returns-in-Ok-clause-shapes
returns-in-Ok-clause-shapes c =
    let s = shape_of c.args.tag c.args.children c.args.pairs in
    shapes_after c.args.table.now c.append.new.self s c.in-Ok.code c.requires.is_new c.in-Ok.ensures.code c.in-Ok.ensures.ok

pub returns-in_err-keep-clause-found : goal.returns-in_err-keep-clause-found
returns-in_err-keep-clause-found c =
    found_same c.args.index.now.codes.by_key c.keep.new.self.by_key (places_in c.args.index.now.slots) (shapes_in c.args.table.now) c.in_err-keep.ensures.err c.requires.found

pub returns-in-Err-clause-found : goal.returns-in-Err-clause-found
returns-in-Err-clause-found c =
    let s = shape_of c.args.tag c.args.children c.args.pairs in
    let old = c.args.index.now.codes.by_key in
    let put = c.keep.new.self.by_key in
    let new = c.forget.new.self.by_key in
    let key = c.args.index.now.codes.key.items in
    let none : look old key ≡ None = ap (look old) c.requires.key ∙ c.requires.found.crowded s c.requires.bits c.requires.crowded ∙ c.requires.is_new in
    let taken = subst (λ (k : List ℕ). Puts put new k None) (ap (λ (v : Vec ℕ). v.items) c.keep.ensures.key) c.forget.ensures in
    let slots = places_in c.args.index.now.slots in
    subst (λ (t : List Declaration). AreFound new slots (shapes_in t)) (sym c.in-Err.ensures.err)
    (found_same old new slots (shapes_in c.args.table.now) (forgotten old put new key (c.len.result + 1) none c.in_ok-keep.ensures.ok taken) c.requires.found)
