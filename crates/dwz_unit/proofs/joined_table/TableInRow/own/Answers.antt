use Rattle.std.proofs.Common.{◌<◌, List, length, false, refl, sym, ap, ◌∙◌, arith}
use Rattle.std.specs.Prelude.{slice_get}
use Rattle.std.proofs.lemmas.Option.{slice_get-get_or}
use Rattle.dwz_abbrev.specs.declared.read_decl.ReadDecl.{ReadDecl}
use Rattle.dwz_unit.proofs.TableRowLemmas.{own_is}
use Rattle.dwz_unit.proofs.joined_table.TableInRow.own.Goals as goal

-- where there is no declaration
abbrev no_decl : ReadDecl
no_decl = record { code = 0; first = 0; count = 0; tag = 0; children = false }

pub returns-in_err-place : goal.returns-in_err-place
returns-in_err-place c = rw c.from_residual.ensures (sym (c.in_err-place.ensures.decl c.args.self.row.now))

pub returns : goal.returns
returns c =
    let decls = c.as_slice.result.now in
    let place = c.in_ok-place.place in
    let within : place < length decls = omega (arith, c.in_ok-place.ensures.within, ap length c.as_slice.ensures) in
    own_is c.args.self.row.now c.args.self.read.now place c.args.skip c.args.code _
    (ap (λ (w : List ReadDecl). slice_get w place) (sym c.as_slice.ensures) ∙ slice_get-get_or decls place no_decl within)
    refl refl (c.in_ok-place.ensures.decl c.args.self.row.now)
