use Rattle.std.proofs.Common.{List, false, take, sym, subst}
use Rattle.std.proofs.lemmas.List.{take_all, take_more}
use Rattle.dwz_def_reading.specs.declared.exprs.Operand.{Operand}
use Rattle.dwz_model.specs.declared.place.Base.TheVariants.{Unit as FromUnit}
use Rattle.dwz_expand.specs.Rows.{AreNumbered}
use Rattle.dwz_expand.proofs.GiveLemmas.{gives_numbers}
use Rattle.dwz_expand.proofs.rows.row_numbers.Goals as goal

pub loop-operand-preserved : goal.loop-operand-preserved
loop-operand-preserved c =
    let d : Operand = record { at = 0; width = 0; uleb = false; base = FromUnit; number = 0 } in
    let told = c.args.told.now in
    let i = c.loop-operand.operand-index in
    subst (λ (w : List Operand). AreNumbered c.args.operands.now w c.note.new.numbers.items) (sym (take_more told i d c.loop-operand-test.true)) (c.note.ensures.noted (take i told) c.loop-operand.invariant)

pub returns-clause-gives : goal.returns-clause-gives
returns-clause-gives c = λ f reads are said.
    let told = c.args.told.now in
    gives_numbers c.list_laws.ensures f reads c.args.operands.now are told said c.loop-operand.numbers.items
    (subst (λ (w : List Operand). AreNumbered c.args.operands.now w c.loop-operand.numbers.items) (take_all c.loop-operand.operand-index told c.loop-operand-test.false) c.loop-operand.invariant)
