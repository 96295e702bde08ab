use Rattle.std.proofs.Common.{◌≡◌, ◌<◌, false, List, Some, get_or, length, sym, ap, ◌∙◌, arith}
use Rattle.std.specs.Prelude.{slice_get}
use Rattle.std.proofs.lemmas.Option.{slice_get-get_or}
use Rattle.dwz_abbrev.specs.declared.read_decl.ReadDecl.{ReadDecl}
use Rattle.dwz_abbrev.specs.ReadViews.{read_view}
use Rattle.dwz_def_reading.proofs.ListFacts.{got_map}
use Rattle.dwz_unit.proofs.fixed_run.pairs_at.Goals as goal

-- where there is no declaration
abbrev no_decl : ReadDecl
no_decl = record { code = 0; first = 0; count = 0; tag = 0; children = false }

pub returns : goal.returns
returns c =
    let row = c.args.table.row.now in
    let rows = c.args.table.read.now.rows in
    let decls = c.as_slice.result.now in
    let place = c.args.place in
    let within : place < length decls = omega (arith, c.requires, ap length c.as_slice.ensures) in
    let at : slice_get rows place ≡ Some (get_or decls place no_decl) = ap (λ (w : List ReadDecl). slice_get w place) (sym c.as_slice.ensures) ∙ slice_get-get_or decls place no_decl within in
    λ others stands. stands place (read_view row (get_or decls place no_decl)) (got_map (read_view row) rows place (get_or decls place no_decl) at)
