use Rattle.std.proofs.Common.{◌≡◌, ℕ, ◌++◌, ◌∷◌, [], List, take, ap, subst, sym, ◌∙◌}
use Rattle.std.proofs.lemmas.List.{take_all}
use Rattle.dwz_def_reading.specs.Abbrevs.{Declaration, EntryShape}
use Rattle.dwz_abbrev.specs.Shapes.{IsLeastCode}
use Rattle.dwz_abbrev.specs.Views.{decl_view, views}
use Rattle.dwz_abbrev.specs.declared.decl.Decl.{Decl}
use Rattle.dwz_abbrev.proofs.ShapeLemmas.{views_next}
use Rattle.dwz_abbrev.proofs.table.Table.code_of.Goals as goal

pub loop-decl-preserved : goal.loop-decl-preserved
loop-decl-preserved c =
    let i : ℕ = c.loop-decl.decl-index in
    let rows : List Decl = c.decls-decl-items.result.now in
    let s : EntryShape = record { tag = c.args.tag; children = c.args.children; pairs = c.args.pairs.now } in
    let next = subst (λ (p : _). IsLeastCode (views (take i rows) ++ decl_view c.decl-item.result ∷ []) (record { tag = c.args.tag; children = c.args.children; pairs = p }) c.with_next-least.result)
    c.as_slice.ensures (c.with_next-least.ensures (views (take i rows)) (subst (λ (p : _). IsLeastCode (views (take i rows)) (record { tag = c.args.tag; children = c.args.children; pairs = p }) c.loop-decl.least) (sym c.as_slice.ensures) c.loop-decl.invariant)) in
    subst (λ (w : List Declaration). IsLeastCode w s c.with_next-least.result) (sym (views_next rows i c.decl-item.result c.loop-decl-test.true c.decl-item.is)) next

pub returns : goal.returns
returns c =
    let rows : List Decl = c.decls-decl-items.result.now in
    let s : EntryShape = record { tag = c.args.tag; children = c.args.children; pairs = c.args.pairs.now } in
    subst (λ (w : List Declaration). IsLeastCode w s c.loop-decl.least) (ap (λ (w : List Decl). views w) (take_all c.loop-decl.decl-index rows c.loop-decl-test.false) ∙ c.decls-decl-items.ensures)
    c.loop-decl.invariant
