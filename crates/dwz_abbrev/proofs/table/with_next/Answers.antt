use Rattle.std.proofs.Common.{ℕ, Option, subst, arith}
use Rattle.dwz_def_reading.specs.Abbrevs.{EntryShape}
use Rattle.dwz_abbrev.specs.Shapes.{IsLeastCode}
use Rattle.dwz_abbrev.specs.Views.{decl_view}
use Rattle.dwz_abbrev.proofs.ShapeLemmas.{first_next, low_next, lower_next, other_next}
use Rattle.dwz_abbrev.proofs.table.with_next.Goals as goal

pub returns-then-not-has_shape : goal.returns-then-not-has_shape
returns-then-not-has_shape c = λ table is.
    let s : EntryShape = record { tag = c.args.tag; children = c.args.children; pairs = c.args.pairs.now } in
    other_next s table (decl_view c.args.decl.now) c.args.found (c.has_shape.ensures.no c.if-not-has_shape.true) is

pub returns-in-None : goal.returns-in-None
returns-in-None c = λ table is.
    let s : EntryShape = record { tag = c.args.tag; children = c.args.children; pairs = c.args.pairs.now } in
    first_next s table (decl_view c.args.decl.now) (c.has_shape.ensures.yes c.if-not-has_shape.false) (subst (λ (o : Option ℕ). IsLeastCode table s o) c.in-None.is is)

pub returns-in-Some : goal.returns-in-Some
returns-in-Some c = λ table is.
    let s : EntryShape = record { tag = c.args.tag; children = c.args.children; pairs = c.args.pairs.now } in
    low_next s table (decl_view c.args.decl.now) c.in-Some.other c.if-other-decl.true (subst (λ (o : Option ℕ). IsLeastCode table s o) c.in-Some.is is)

pub returns-in-Some-2 : goal.returns-in-Some-2
returns-in-Some-2 c = λ table is.
    let s : EntryShape = record { tag = c.args.tag; children = c.args.children; pairs = c.args.pairs.now } in
    let low = c.if-other-decl.false in
    lower_next s table (decl_view c.args.decl.now) c.in-Some.other (omega arith) (c.has_shape.ensures.yes c.if-not-has_shape.false)
    (subst (λ (o : Option ℕ). IsLeastCode table s o) c.in-Some.is is)
