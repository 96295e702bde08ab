use Rattle.std.proofs.Common.{◌≡◌, length, slice_get, Some, sym, subst, ◌∙◌, arith}
use Rattle.dwz_def_reading.specs.Units.{entries_in}
use Rattle.dwz_unit.specs.Declarations.{AreOf}
use Rattle.dwz_unit.specs.Rows.{Source, rows_of, units_of}
use Rattle.dwz_unit.proofs.DeclarationLemmas.{numbers_length}
use Rattle.dwz_move.specs.Weights.{pairs_weight}
use Rattle.dwz_move.proofs.DeclaredItems.{by_declaration}
use Rattle.dwz_move.proofs.FormWeights.{entry_weighs}
use Rattle.dwz_move.proofs.weights.EntryWeights.of_entry.Goals as goal

pub number-requires : goal.number-requires
number-requires c =
    let d = c.self.inside.declarations in
    let many = subst (λ (x : Source). length d.numbers ≡ entries_in (units_of x)) c.self.view_is (numbers_length (units_of c.self.inside.units.now) d c.self.invariant.0) in
    omega (arith, c.requires, many)

pub returns-in-Some : goal.returns-in-Some
returns-in-Some c = λ s numbers row d name m. (
    let raw = units_of c.args.self.now in
    let n = c.number.result in
    let own = c.self.inside.declarations in
    let are = subst (λ (x : Source). AreOf (rows_of (units_of x)) own) c.self.view_is c.self.invariant.0 in
    let is = by_declaration pairs_weight (rows_of raw) own are c.self.inside.declared.items c.self.invariant.1 c.args.i n row c.number.ensures.number m.found c.index.result.now c.index.ensures in
    let found = subst (λ (x : Source). slice_get (rows_of (units_of x)) c.args.i ≡ Some row) (sym c.self.view_is) m.found in
    entry_weighs raw s name numbers c.args.i row d c.weight_alone.result c.in-Some.weight c.add_weights.result m (sym is ∙ c.in-Some.is) (c.weight_alone.ensures row found) c.add_weights.ensures)
