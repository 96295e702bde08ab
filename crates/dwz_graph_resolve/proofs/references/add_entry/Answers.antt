use Rattle.std.proofs.Common.{ℕ, [], refl, sym, subst, arith}
use Rattle.dwz_model.specs.declared.fault.ReadErr.{ReadErr}
use Rattle.dwz_def_reading.specs.Faults.{Fails}
use Rattle.dwz_def_reading.specs.Meanings.{has}
use Rattle.dwz_def_reading.specs.Meant.{entry_among}
use Rattle.dwz_unit.specs.Rows.{units_of}
use Rattle.dwz_graph_resolve.proofs.NamedSteps.{entry_added, entry_missed}
use Rattle.dwz_graph_resolve.proofs.PlaceLemmas.{among_none, among_there}
use Rattle.dwz_graph_resolve.proofs.references.add_entry.Goals as goal

pub returns-in_ok-push-in-Some : goal.returns-in_ok-push-in-Some
returns-in_ok-push-in-Some c = λ common own is. (
    let f = c.in-Some.ensures.found in
    let there = among_there (units_of c.args.units.now) c.args.first c.args.end c.in-Some.number c.args.place own is c.requires f.0 f.1 f.2 in
    entry_added common (units_of c.args.units.now) c.args.refs.now.items c.push.new.self.items own c.args.at c.args.place c.in-Some.number c.in_ok-push-in-Some.ensures.items there f.2
    (omega (arith, f.1, c.requires)))

pub returns-in-None : goal.returns-in-None
unfolding has
returns-in-None c = λ common own is. (
    let none = among_none (units_of c.args.units.now) c.args.first c.args.end c.args.place own is (c.in-None.ensures.none refl) in
    entry_missed (λ (n : ℕ). n) own c.args.at c.args.place c.bad_reference.result none
    (subst (λ (e : ReadErr). Fails e (entry_among (λ (n : ℕ). n) [] c.args.at c.args.place)) (sym c.bad_reference.ensures) refl))
