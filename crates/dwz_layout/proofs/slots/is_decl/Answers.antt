use Rattle.std.proofs.Common.{◌≡◌, ◌∙◌, ap, sym, true≢false}
use Rattle.std.proofs.lemmas.Slice.Eq.{slice_eq-Decides}
use Rattle.dwz_def_encoding.specs.Writing.{DeclarationShape}
use Rattle.dwz_abbrev.proofs.ShapeLemmas.{bools_same, pair_decides}
use Rattle.dwz_layout.proofs.ShapeLemmas.{decl_shape}
use Rattle.dwz_layout.proofs.slots.is_decl.Goals as goal

pub returns-clause-yes : goal.returns-clause-yes
returns-clause-yes c = λ same.
    let pairs : c.as_slice.result.now ≡ c.args.pairs.now = (slice_eq-Decides pair_decides c.as_slice.result.now c.args.pairs.now c.eq.result c.eq.ensures).0 same in
    decl_shape c.args.decl.now c.args.tag c.args.children c.args.pairs.now c.if-decl-tag.false (bools_same c.args.decl.now.children c.args.children c.if-decl-children.false) (sym c.as_slice.ensures ∙ pairs)

pub returns-clause-no : goal.returns-clause-no
returns-clause-no c = λ other e.
    let same = (slice_eq-Decides pair_decides c.as_slice.result.now c.args.pairs.now c.eq.result c.eq.ensures).1 (c.as_slice.ensures ∙ ap (λ (s : DeclarationShape). s.pairs) e) in
    true≢false (sym same ∙ other)
