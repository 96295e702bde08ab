use Rattle.std.proofs.Common.{◌≡◌, length, subst, arith}
use Rattle.dwz_def_reading.specs.Units.{entries_in}
use Rattle.dwz_unit.specs.Declarations.{AreOf}
use Rattle.dwz_unit.specs.Rows.{Source, rows_of, units_of}
use Rattle.dwz_unit.proofs.DeclarationLemmas.{numbers_length}
use Rattle.dwz_move.specs.Bound.{pairs_bind}
use Rattle.dwz_move.proofs.DeclaredItems.{by_declaration}
use Rattle.dwz_move.proofs.binds.EntryBinds.by_form.Goals as goal

pub number-requires : goal.number-requires
number-requires c =
    let d = c.self.inside.declarations in
    let many = subst (λ (x : Source). length d.numbers ≡ entries_in (units_of x)) c.self.view_is (numbers_length (units_of c.self.inside.units.now) d c.self.invariant.0) in
    omega (arith, c.requires, many)

pub returns : goal.returns
returns c = λ row found. (
    let raw = units_of c.args.self.now in
    let own = c.self.inside.declarations in
    let are = subst (λ (x : Source). AreOf (rows_of (units_of x)) own) c.self.view_is c.self.invariant.0 in
    by_declaration pairs_bind (rows_of raw) own are c.self.inside.declared.items c.self.invariant.1 c.args.i c.number.result row c.number.ensures.number found c.index.result.now c.index.ensures)
