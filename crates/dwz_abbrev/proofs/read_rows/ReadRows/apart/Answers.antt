use Rattle.std.proofs.Common.{◌≡◌, sym, ap, subst, ◌∙◌}
use Rattle.std.proofs.lemmas.List.{take_all}
use Rattle.dwz_abbrev.specs.Places.{Leads, codes_of}
use Rattle.dwz_abbrev.specs.ReadViews.{read_views}
use Rattle.dwz_abbrev.specs.Views.{views}
use Rattle.dwz_abbrev.proofs.BehindLemmas.{codes_read}
use Rattle.dwz_abbrev.proofs.read_rows.ReadRows.apart.Goals as goal

pub invariant_of-result : goal.invariant_of-result
invariant_of-result c =
    let row = c.args.row.now in
    let there = c.as_slice-decl-items.result.now in
    let all : views c.loop-decl.decls.items ≡ read_views row c.self.inside.decls.items =
    c.loop-decl.invariant ∙ ap (read_views row) (take_all c.loop-decl.decl-index there c.loop-decl-test.false ∙ c.as_slice-decl-items.ensures.value) in
    subst (Leads c.self.inside.codes) (sym (ap codes_of all ∙ codes_read row c.self.inside.decls.items)) c.self.invariant.leads
