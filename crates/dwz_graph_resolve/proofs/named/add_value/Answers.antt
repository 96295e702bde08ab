use Rattle.std.proofs.Common.{◌≡◌, List, Result, Ok, Err, refl, sym, subst}
use Rattle.std.specs.Prelude.{IfOk}
use Rattle.dwz_model.specs.declared.fault.Fault.{Fault}
use Rattle.dwz_bytes.specs.Input.{Input}
use Rattle.dwz_def_reading.specs.Shared.{NamedList}
use Rattle.dwz_def_reading.specs.Units.{RawUnit}
use Rattle.dwz_def_reading.specs.Values.{Raw}
use Rattle.dwz_graph_resolve.specs.FileRows.{IfLearns}
use Rattle.dwz_graph_resolve.specs.Named.{attr_named}
use Rattle.dwz_graph_resolve.specs.Parts.{numbers_file}
use Rattle.dwz_graph_resolve.specs.Resolved.{Goes, IsHere, StateIn, value_between}
use Rattle.dwz_graph_resolve.specs.Surroundings.{common_view, scope_within}
use Rattle.dwz_unit.specs.Rows.{units_of}
use Rattle.dwz_graph_resolve.proofs.named.add_value.Goals as goal

pub returns-clause-learns : goal.returns-clause-learns
returns-clause-learns c =
    subst (λ (w : Result (Raw × Input) Fault). IfOk w (λ x.
    IfLearns (numbers_file (value_between c.args.cursor.now x.1 c.args.pair.now x.0)) c.args.here.now.line c.args.state.now.files c.add_attr.new.state.files c.add_attr.result))
    (sym c.known_value-raw.ensures.value)
    c.add_attr.ensures.learns

pub returns-clause-goes : goal.returns-clause-goes
returns-clause-goes c =
    let raw = units_of c.args.units.now in
    subst (λ (w : Result (Raw × Input) Fault). IfOk w (λ x. (u : RawUnit) (before : List NamedList) → IsHere raw u c.args.here.now → StateIn c.args.around.now raw u c.args.here.now before c.args.state.now
    → Goes (common_view c.args.around.now.common) raw (StateIn c.args.around.now raw u c.args.here.now) before c.args.state.now c.add_attr.new.state c.add_attr.result
    (attr_named (scope_within c.args.around.now raw u) (value_between c.args.cursor.now x.1 c.args.pair.now x.0))))
    (sym c.known_value-raw.ensures.value)
    (λ u before here k. rw (sym c.at-at.ensures, sym c.at-end.ensures) (c.add_attr.ensures.goes u before here k))

pub returns-clause-read : goal.returns-clause-read
returns-clause-read c = subst (λ (w : Result (Raw × Input) Fault). IfOk w (λ x. IfOk c.add_attr.result (λ y. c.known_value-raw.new.cursor ≡ x.1)))
    (sym c.known_value-raw.ensures.value) (by c.add_attr.result) where
      by : {X E : Type 0} → (r : Result X E) → IfOk r (λ y. c.known_value-raw.new.cursor ≡ c.known_value-raw.new.cursor)
      by (Ok y) = refl
      by (Err e) = tt
