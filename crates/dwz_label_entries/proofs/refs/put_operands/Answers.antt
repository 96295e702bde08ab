use Rattle.std.proofs.Common.{false, get_or, refl}
use Rattle.std.proofs.lemmas.List.{drop_all}
use Rattle.dwz_def_reading.specs.declared.exprs.Operand.{Operand}
use Rattle.dwz_def_reading.specs.Meanings.{target_of}
use Rattle.dwz_model.specs.declared.place.Base.TheVariants.{Unit as FromUnit}
use Rattle.dwz_def_reading.proofs.ListFacts.{drop_pairs}
use Rattle.dwz_graph.specs.Operands.{is_named}
use Rattle.dwz_graph.specs.Resolved.{scope_in}
use Rattle.dwz_unit.specs.Rows.{units_of}
use Rattle.dwz_label_entries.proofs.RefLemmas.{each_named, next_operand, no_operand}
use Rattle.dwz_label_entries.proofs.refs.put_operands.Goals as goal

pub loop-operand-preserved : goal.loop-operand-preserved
loop-operand-preserved c = λ u name at k named. (
    let raw = units_of c.args.units.now in
    let s = scope_in c.args.sections.now raw u in
    let d : Operand = record { at = 0; width = 0; uleb = false; base = FromUnit; number = 0 } in
    let os = c.args.operands.now in
    let i = c.loop-operand.operand-index in
    let o = get_or os i d in
    next_operand s name os i o (target_of s o) c.loop-operand.out.items c.put_named.new.out.items _ (drop_pairs os i d c.loop-operand-test.true) refl
    (c.in_ok-put_named.ensures u name at k (each_named (is_named s) os i d named c.loop-operand-test.true))
    (c.loop-operand.invariant u name at k named))

pub returns : goal.returns
returns c = λ u name at k named.
    no_operand (scope_in c.args.sections.now (units_of c.args.units.now) u) name c.args.operands.now c.loop-operand.operand-index c.loop-operand.out.items _
    (drop_all c.loop-operand.operand-index c.args.operands.now c.loop-operand-test.false) (c.loop-operand.invariant u name at k named)
