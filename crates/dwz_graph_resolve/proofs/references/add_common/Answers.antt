use Rattle.std.proofs.Common.{◌≡◌, ℕ, ◌<◌, ◌^◌, Ok, Option, refl, sym, subst, arith}
use Rattle.dwz_def_reading.specs.Faults.{Fails, info_fault}
use Rattle.dwz_def_reading.specs.Meant.{common_entry}
use Rattle.dwz_model.specs.declared.fault.ReadErr.TheVariants.{Refused}
use Rattle.dwz_model.specs.declared.fault.Reason.TheVariants.{BadReference}
use Rattle.dwz_unit.specs.Rows.{units_of}
use Rattle.dwz_graph_resolve.specs.declared.surroundings.CommonPart.{CommonPart}
use Rattle.dwz_graph_resolve.specs.Resolved.{NamesEntry}
use Rattle.dwz_graph_resolve.specs.Surroundings.{common_view, entries_among}
use Rattle.dwz_graph_resolve.proofs.CommonSteps.{both_many, common_found, common_missed}
use Rattle.dwz_graph_resolve.proofs.references.add_common.Goals as goal

pub overflow_add-entries : goal.overflow_add-entries
overflow_add-entries c =
    let f = c.in-Some-find_again.ensures.found in
    let all = c.entries.ensures in
    let own = c.entries-in-Some-find_again.ensures in
    let room = subst (λ (o : Option CommonPart). entries_among (common_view o) (units_of c.args.units.now) < 2 ^ 32) c.in-Some.is c.requires in
    let both = both_many c.in-Some.common (units_of c.args.units.now) in
    let low = f.1 in
    omega arith

pub returns-in_ok-push-in-Some-find_again : goal.returns-in_ok-push-in-Some-find_again
returns-in_ok-push-in-Some-find_again c = λ a at place. (
    let f = c.in-Some-find_again.ensures.found in
    let raw = units_of c.args.units.now in
    subst (λ (o : Option CommonPart). NamesEntry {Y = Unit {0}} (common_view o) raw c.args.refs.now.items c.push.new.self.items (Ok tt) (common_entry a (common_view o))) (sym c.in-Some.is)
    (common_found c.in-Some.common a c.entries.result c.args.place c.entries.ensures place raw c.args.refs.now.items c.push.new.self.items c.entries-in-Some-find_again.result
    c.in-Some-find_again.number c.entries-in-Some-find_again.ensures f.1 f.2 c.in_ok-push-in-Some-find_again.ensures.items))

pub returns-in-None : goal.returns-in-None
returns-in-None c = λ a at place. (
    subst (λ (o : Option CommonPart). Fails c.bad_reference-in-None.result (common_entry a (common_view o))) (sym c.in-Some.is)
    (common_missed c.in-Some.common a c.entries.result c.args.place c.entries.ensures place c.bad_reference-in-None.result (c.in-None.ensures.none refl)
    (subst (λ (q : ℕ). c.bad_reference-in-None.result ≡ Refused (info_fault q BadReference)) (sym at) c.bad_reference-in-None.ensures)))
