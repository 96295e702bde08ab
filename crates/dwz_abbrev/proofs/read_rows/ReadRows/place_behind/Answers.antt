use Rattle.std.proofs.Common.{◌≡◌, ◌<◌, [], length, drop, List, None, sym, subst, ◌∙◌}
use Rattle.std.specs.Prelude.{slice_get}
use Rattle.dwz_def_reading.specs.Abbrevs.{find_decl}
use Rattle.dwz_abbrev.specs.declared.read_decl.ReadDecl.{ReadDecl}
use Rattle.dwz_abbrev.specs.ReadViews.{read_views}
use Rattle.dwz_abbrev.proofs.BehindLemmas.{behind_none, behind_past, behind_some, place_within}
use Rattle.dwz_abbrev.proofs.read_rows.ReadRows.place_behind.Goals as goal

pub returns-in_err-place-clause-decl : goal.returns-in_err-place-clause-decl
returns-in_err-place-clause-decl c = λ row.
    rw c.from_residual.ensures
    (subst (λ (ds : List ReadDecl). None ≡ find_decl (drop c.args.skip (read_views row ds)) c.args.code) c.self.view_is
    (sym (behind_none c.self.inside.codes c.self.inside.decls.items c.self.invariant row c.args.code c.args.skip (sym c.place.ensures ∙ c.in_err-place.was))))

pub returns-then-place-skip-clause-decl : goal.returns-then-place-skip-clause-decl
returns-then-place-skip-clause-decl c = λ row.
    subst (λ (ds : List ReadDecl). None ≡ find_decl (drop c.args.skip (read_views row ds)) c.args.code) c.self.view_is
    (sym (behind_past c.self.inside.codes c.self.inside.decls.items c.self.invariant row c.args.code c.args.skip c.in_ok-place.place (sym c.place.ensures ∙ c.in_ok-place.was) c.if-place-skip.true))

pub returns-else-place-skip-clause-decl : goal.returns-else-place-skip-clause-decl
returns-else-place-skip-clause-decl c = λ row.
    subst (λ (ds : List ReadDecl). slice_get (read_views row ds) c.in_ok-place.place ≡ find_decl (drop c.args.skip (read_views row ds)) c.args.code) c.self.view_is
    (behind_some c.self.inside.codes c.self.inside.decls.items c.self.invariant row c.args.code c.args.skip c.in_ok-place.place (sym c.place.ensures ∙ c.in_ok-place.was) c.if-place-skip.false)

pub returns-else-place-skip-clause-within : goal.returns-else-place-skip-clause-within
returns-else-place-skip-clause-within c =
    subst (λ (ds : List ReadDecl). c.in_ok-place.place < length ds) c.self.view_is
    (place_within c.self.inside.codes c.self.inside.decls.items c.self.invariant [] c.args.code c.in_ok-place.place (sym c.place.ensures ∙ c.in_ok-place.was))
