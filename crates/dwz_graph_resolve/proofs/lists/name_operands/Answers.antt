use Rattle.std.proofs.Common.{ap, ◌∙◌}
use Rattle.dwz_def_reading.proofs.ListFacts.{got_below}
use Rattle.dwz_unit.specs.Rows.{units_of}
use Rattle.dwz_graph_resolve.specs.ListRows.{start_of}
use Rattle.dwz_graph_resolve.specs.Surroundings.{scope_within}
use Rattle.dwz_graph_resolve.proofs.ListSteps.{kept_all, kept_fail, kept_more, kept_none, kept_unnamed, of_file_here, start_is, view_is}
use Rattle.dwz_graph_resolve.proofs.lists.name_operands.Goals as goal

pub loop-operand-init : goal.loop-operand-init
loop-operand-init c = λ u here. kept_none (units_of c.args.units.now) c.args.file (scope_within c.args.around.now (units_of c.args.units.now) u) c.args.operands.now c.args.out.now.items

pub list_operand-requires : goal.list_operand-requires
list_operand-requires c = c.in-Some.ensures.within

pub returns-in-None : goal.returns-in-None
returns-in-None c = λ u here. (
    let raw = units_of c.args.units.now in
    let s = scope_within c.args.around.now raw u in
    kept_fail raw c.args.file s c.args.operands.now c.args.out.now.items c.loop-operand.out.items c.bad_operand.result _ c.bad_operand.ensures
    (kept_unnamed raw c.args.file s c.args.operands.now c.args.out.now.items c.loop-operand.out.items c.loop-operand.operand-index _ c.loop-operand-test.true (c.in-None.ensures.looks u here)
    (c.loop-operand.invariant u here)))

pub loop-operand-preserved : goal.loop-operand-preserved
loop-operand-preserved c = λ u here. (
    let raw = units_of c.args.units.now in
    let s = scope_within c.args.around.now raw u in
    let found = c.in-Some.ensures.looks u here in
    let k = c.list_operand.ensures in
    kept_more raw c.args.file s c.args.operands.now c.args.out.now.items c.loop-operand.out.items c.push.new.self.items c.loop-operand.operand-index _ c.list_operand.result c.loop-operand-test.true
    found.2 c.in_ok-push-in-Some.ensures.items
    (of_file_here raw c.args.file c.args.here.now.number c.in-Some.entry c.list_operand.result (got_below raw c.args.here.now.number u here.is_unit) (c.in-Some.ensures.within) k.unit k.entry
    k.place k.file)
    (λ small. view_is raw s c.list_operand.result _ (ap (start_of raw) k.unit ∙ start_is raw c.args.here.now.number u here.is_unit) (k.same small) k.width k.uleb k.base (k.place ∙ found.1))
    (c.loop-operand.invariant u here))

pub returns : goal.returns
returns c = λ u here. kept_all (units_of c.args.units.now) c.args.file (scope_within c.args.around.now (units_of c.args.units.now) u) c.args.operands.now c.args.out.now.items c.loop-operand.out.items
    c.loop-operand.operand-index c.loop-operand-test.false (c.loop-operand.invariant u here)
