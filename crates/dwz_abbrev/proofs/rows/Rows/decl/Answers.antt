use Rattle.std.proofs.Common.{◌≡◌, List, None, Some, arith, sym, ap, subst, ◌∙◌}
use Rattle.std.specs.Prelude.{slice_get}
use Rattle.std.specs.Option.{option_and_then}
use Rattle.std.proofs.lemmas.Option.{slice_get-get_or}
use Rattle.dwz_def_reading.proofs.ListFacts.{got_map}
use Rattle.dwz_def_reading.specs.Abbrevs.{Declaration, find_decl}
use Rattle.dwz_abbrev.specs.declared.decl.Decl.{Decl}
use Rattle.dwz_abbrev.specs.Views.{decl_view, views}
use Rattle.dwz_abbrev.proofs.PlaceLemmas.{place_found, row_within}
use Rattle.dwz_abbrev.proofs.rows.Rows.decl.Goals as goal

pub returns-in_err-place : goal.returns-in_err-place
returns-in_err-place c =
    let table = views c.self.inside.decls.items in
    let none : find_decl table c.args.code ≡ None = sym (place_found c.self.inside.codes table c.args.code c.self.invariant) ∙ ap (option_and_then (slice_get table)) (sym c.place.ensures ∙ c.in_err-place.was) in
    rw c.from_residual.ensures (subst (λ (t : List Declaration). None ≡ find_decl t c.args.code) c.self.view_is (sym none))

pub index-requires : goal.index-requires
index-requires c =
    let within = row_within c.self.inside.codes c.self.inside.decls.items c.args.code c.in_ok-place.place c.self.invariant (sym c.place.ensures ∙ c.in_ok-place.was) in
    omega (arith, within, c.self.inside.decls.ok.0)

pub returns : goal.returns
returns c =
    let rows = c.self.inside.decls.items in
    let place = c.in_ok-place.place in
    let is = sym c.place.ensures ∙ c.in_ok-place.was in
    let within = row_within c.self.inside.codes rows c.args.code place c.self.invariant is in
    let got : slice_get rows place ≡ Some c.index.result.now = slice_get-get_or rows place c.index.result.now within ∙ ap (λ (d : Decl). Some d) (sym c.index.ensures) in
    sym (got_map decl_view rows place c.index.result.now got)
    ∙ ap (option_and_then (slice_get (views rows))) (sym is)
    ∙ place_found c.self.inside.codes (views rows) c.args.code c.self.invariant
    ∙ ap (λ (t : List Declaration). find_decl t c.args.code) c.self.view_is
