use Rattle.std.proofs.Common.{◌≡◌, false, sym, true, ◌∙◌}
use Rattle.dwz_def_reading.specs.Meanings.{target_of}
use Rattle.dwz_graph.specs.Resolved.{scope_in}
use Rattle.dwz_unit.specs.Rows.{units_of}
use Rattle.dwz_label_entries.proofs.TargetLemmas.{name_there}
use Rattle.dwz_label_entries.proofs.refs.put_named.Goals as goal

pub returns-in-Some : goal.returns-in-Some
returns-in-Some c = λ u name at k named. (
    let raw = units_of c.args.units.now in
    let s = scope_in c.args.sections.now raw u in
    let p = target_of s c.args.operand.now in
    let looks = c.in-Some.ensures.looks u at in
    c.put_target.ensures k.names (name p) k.shown (name_there raw name c.args.index.now c.in-Some.entry p k looks.0 looks.1))

pub returns-in-None : goal.returns-in-None
returns-in-None c = λ u name at k named. (
    let none : false ≡ true = sym (c.in-None.ensures.looks u at) ∙ named in
    absurd cc)
