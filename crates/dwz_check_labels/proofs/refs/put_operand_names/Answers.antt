use Rattle.std.proofs.Common.{◌+◌, ◌<◌, drop, false, get_or, length}
use Rattle.std.proofs.lemmas.List.{drop_all}
use Rattle.dwz_def_reading.proofs.ListFacts.{drop_pairs}
use Rattle.dwz_def_reading.specs.declared.exprs.Operand.{Operand}
use Rattle.dwz_model.specs.declared.place.Base.TheVariants.{Unit as FromUnit}
use Rattle.dwz_graph.specs.Operands.{is_named}
use Rattle.dwz_label_entries.proofs.RefLemmas.{each_named}
use Rattle.dwz_check_labels.specs.Files.{scope_at}
use Rattle.dwz_check_labels.proofs.RefLemmas.{first_operand_into, first_operand_label, operands_into_none, operands_none}
use Rattle.dwz_check_labels.proofs.ToldLemmas.{left_all, left_done, left_more}
use Rattle.dwz_check_labels.proofs.refs.put_operand_names.Goals as goal

pub loop-operand-init : goal.loop-operand-init
loop-operand-init c = λ said name u k at named. left_all _ _ c.args.out.now.items c.args.tops.now.items

pub loop-operand-preserved : goal.loop-operand-preserved
loop-operand-preserved c = λ said name u k at named. (
    let s = scope_at c.args.source.now u in
    let d : Operand = record { at = 0; width = 0; uleb = false; base = FromUnit; number = 0 } in
    let os = c.args.operands.now in
    let i = c.loop-operand.operand-index in
    let lt : i < length os = c.loop-operand-test.true in
    left_more _ _ _ _ _ _ c.loop-operand.out.items c.args.out.now.items c.put_operand_name.new.out.items _ c.loop-operand.tops.items c.put_operand_name.new.tops.items c.args.tops.now.items _
    (first_operand_label s name (drop i os) (get_or os i d) (drop (i + 1) os) (drop_pairs os i d lt)) (first_operand_into s name (drop i os) (get_or os i d) (drop (i + 1) os) (drop_pairs os i d lt))
    (c.in_ok-put_operand_name.ensures said name u k at (each_named (is_named s) os i d named lt)) (c.loop-operand.invariant said name u k at named))

pub returns : goal.returns
returns c = λ said name u k at named. (
    let s = scope_at c.args.source.now u in
    let none = drop_all c.loop-operand.operand-index c.args.operands.now c.loop-operand-test.false in
    left_done _ _ c.loop-operand.out.items c.args.out.now.items _ c.loop-operand.tops.items c.args.tops.now.items _ (operands_none s name _ none) (operands_into_none s name _ none)
    (c.loop-operand.invariant said name u k at named))
