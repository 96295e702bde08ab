use Rattle.std.proofs.Common.{◌≡◌, List, sym, subst, ◌∙◌}
use Rattle.dwz_def_reading.specs.Abbrevs.{find_decl, is_some_decl}
use Rattle.dwz_abbrev.specs.declared.read_decl.ReadDecl.{ReadDecl}
use Rattle.dwz_abbrev.specs.ReadViews.{read_views}
use Rattle.dwz_abbrev.proofs.BehindLemmas.{has_found}
use Rattle.dwz_abbrev.proofs.read_rows.ReadRows.has.Goals as goal

pub returns : goal.returns
returns c = λ row.
    subst (λ (ds : List ReadDecl). c.is_some.result ≡ is_some_decl (find_decl (read_views row ds) c.args.code)) c.self.view_is
    (c.is_some.ensures ∙ has_found c.self.inside.codes c.self.inside.decls.items c.self.invariant row c.args.code c.place.result (sym c.place.ensures))
