use Rattle.std.proofs.Common.{List, map, sym, subst}
use Rattle.dwz_def_reading.specs.Units.{RawUnit}
use Rattle.dwz_def_reading.specs.Files.{around_of, no_files_before}
use Rattle.dwz_def_reading.specs.NamedLists.{lists_of_units}
use Rattle.dwz_def_reading.specs.Shared.{AreRows}
use Rattle.dwz_graph_resolve.specs.ListRows.{AreOfFile, operand_view}
use Rattle.dwz_graph_resolve.specs.declared.operands.ListOperand.{ListOperand}
use Rattle.dwz_unit.specs.Rows.{units_of}
use Rattle.dwz_graph.proofs.GraphLemmas.{content_of, same_raw}
use Rattle.dwz_graph.proofs.graph.Graph.list_operands.Goals as goal

pub returns-clause-rows : goal.returns-clause-rows
returns-clause-rows c = λ l bytes raw doc is. (
    let f = c.file.result.now in
    let h = c.file.ensures bytes (content_of no_files_before c.args.self.now.given c.args.number l bytes raw doc is) in
    let same = same_raw no_files_before c.args.self.now.given c.args.number h.limits l bytes bytes (units_of f.units) raw h.read.doc doc h.there is in
    subst (λ (w : List ListOperand). AreRows (lists_of_units (around_of bytes raw) raw) (map (operand_view raw) w)) (sym c.deref.ensures.value)
    (subst (λ (us : List RawUnit). AreRows (lists_of_units (around_of bytes us) us) (map (operand_view us) f.resolved.operands.items)) same.1 h.read.operands))

pub returns-clause-of_file : goal.returns-clause-of_file
returns-clause-of_file c = λ l bytes raw doc is. (
    let f = c.file.result.now in
    let h = c.file.ensures bytes (content_of no_files_before c.args.self.now.given c.args.number l bytes raw doc is) in
    let same = same_raw no_files_before c.args.self.now.given c.args.number h.limits l bytes bytes (units_of f.units) raw h.read.doc doc h.there is in
    subst (λ (w : List ListOperand). AreOfFile raw c.args.number w) (sym c.deref.ensures.value)
    (subst (λ (us : List RawUnit). AreOfFile us c.args.number f.resolved.operands.items) same.1 h.read.of_file))
