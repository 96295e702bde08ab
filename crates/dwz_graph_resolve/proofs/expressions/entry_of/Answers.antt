use Rattle.std.proofs.Common.{ℕ, ◌+◌, sym, ap, ◌∙◌, arith}
use Rattle.std.specs.Prelude.{slice_range}
use Rattle.dwz_model.specs.declared.place.Base.{Base}
use Rattle.dwz_def_reading.specs.Meanings.{entries_for, leads_to}
use Rattle.dwz_unit.specs.Rows.{units_of}
use Rattle.dwz_graph_resolve.specs.Resolved.{places, scope_in}
use Rattle.dwz_graph_resolve.proofs.OperandSteps.{below, looks_up}
use Rattle.dwz_graph_resolve.proofs.PlaceLemmas.{all_are}
use Rattle.dwz_graph_resolve.proofs.expressions.entry_of.Goals as goal

pub returns-in-Unit-clause-looks : goal.returns-in-Unit-clause-looks
returns-in-Unit-clause-looks c = λ u here. (
    let raw = units_of c.args.units.now in
    let s = scope_in c.args.sections.now raw u in
    let o = c.args.operand.now in
    looks_up raw s o c.args.here.now.first c.args.here.now.end (c.args.here.now.at + o.number) c.find.result
    (here.own ∙ ap (λ (b : Base). entries_for s b) (sym c.in-Unit.is)) c.requires (ap (λ (n : ℕ). n + o.number) here.at ∙ ap (λ (b : Base). leads_to s b o.number) (sym c.in-Unit.is))
    c.find.ensures.found c.find.ensures.none)

pub returns-in-Info-clause-looks : goal.returns-in-Info-clause-looks
returns-in-Info-clause-looks c = λ u here. (
    let raw = units_of c.args.units.now in
    let s = scope_in c.args.sections.now raw u in
    let o = c.args.operand.now in
    let all = c.entries.ensures in
    looks_up raw s o 0 c.entries.result o.number c.find-in-Info.result
    (ap (λ (n : ℕ). slice_range (places raw) 0 n) all ∙ all_are raw ∙ ap (λ (b : Base). entries_for s b) (sym c.in-Info.is)) (omega arith) (ap (λ (b : Base). leads_to s b o.number) (sym c.in-Info.is))
    c.find-in-Info.ensures.found c.find-in-Info.ensures.none)

pub returns-in-Unit-clause-within : goal.returns-in-Unit-clause-within
returns-in-Unit-clause-within c = below (units_of c.args.units.now) c.args.here.now.first c.args.here.now.end c.find.result _ c.requires c.find.ensures.found

pub returns-in-Info-clause-within : goal.returns-in-Info-clause-within
returns-in-Info-clause-within c =
    let all = c.entries.ensures in
    below (units_of c.args.units.now) 0 c.entries.result c.find-in-Info.result _ (omega arith) c.find-in-Info.ensures.found
