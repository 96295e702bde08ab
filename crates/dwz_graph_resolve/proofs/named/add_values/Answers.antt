use Rattle.std.proofs.Common.{◌≡◌, ℕ, ◌+◌, ap, arith, drop, get_or, refl, subst, sym, ◌∙◌, List, Result}
use Rattle.std.specs.Prelude.{IfOk, IsOk}
use Rattle.dwz_bytes.specs.Input.{Input, input}
use Rattle.std.proofs.lemmas.Result.{err_from_is_err_and}
use Rattle.dwz_model.specs.declared.fault.Fault.{Fault}
use Rattle.dwz_def_reading.specs.Faults.{Fails}
use Rattle.dwz_def_reading.specs.Shared.{NamedList}
use Rattle.dwz_def_reading.specs.Units.{RawUnit}
use Rattle.dwz_def_reading.specs.Values.{Raw, value_at, written_rows}
use Rattle.dwz_unit.specs.Rows.{units_of}
use Rattle.dwz_unit.specs.Values.{Reads}
use Rattle.dwz_graph_resolve.specs.declared.state.State.{State}
use Rattle.dwz_graph_resolve.specs.FileRows.{Learns}
use Rattle.dwz_graph_resolve.specs.Named.{Found, attr_named}
use Rattle.dwz_graph_resolve.specs.Quick.{AddsNamed}
use Rattle.dwz_graph_resolve.specs.Resolved.{IsHere, StateIn, value_between}
use Rattle.dwz_graph_resolve.specs.Surroundings.{common_view, scope_within}
use Rattle.dwz_graph_resolve.specs.Parts.{numbers_file}
use Rattle.dwz_graph_resolve.proofs.LineSteps.{learns_next, learns_none}
use Rattle.dwz_graph_resolve.proofs.NamedSteps.{Added, adds_more, adds_none, fails_at}
use Rattle.dwz_graph_resolve.proofs.QuickSteps.{TakesValue, state_untouched, takes_behind}
use Rattle.dwz_unit.proofs.RowsFound.{row_there}
use Rattle.dwz_graph_resolve.proofs.StateLemmas.{with_found}
use Rattle.dwz_graph_resolve.proofs.StopSteps.{all_read, at_stop, none, stop_there, value_there}
use Rattle.dwz_graph_resolve.proofs.ValueSteps.{no_pair}
use Rattle.dwz_graph_resolve.proofs.named.add_values.Goals as goal
use Rattle.dwz_graph_resolve.proofs.named.add_values.Goals.{then-not-add_quick+in_ok-add_rare, else-not-add_quick}

-- a value that is read, and what is behind it
abbrev Read : Type 0
Read = Result (Raw × Input) Fault

pub loop-stop-init : goal.loop-stop-init
loop-stop-init c = record {
  now = 0;
  among = omega arith;
  left = sym c.stops-cursor.ensures.stops;
  file = refl;
  reads = c.stops-cursor.ensures.read;
  adds = λ u row before here found k. (
      let raw = units_of c.args.units.now in
      let s = scope_within c.args.around.now raw u in
      adds_none (common_view c.args.around.now.common) raw (StateIn c.args.around.now raw u c.args.here.now) (attr_named s) row.entry.attrs before c.args.state.now
      (record c.args.state.now { hints = c.keep.new.self }) refl (with_found raw s c.args.here.now.number before c.args.state.now c.args.state.now.refs c.keep.new.self k));
  learns = λ row found. learns_none c.args.here.now.line c.args.state.now.files;
}

pub pass_bytes-requires : goal.pass_bytes-requires
pass_bytes-requires c =
    let l = c.loop-stop in
    let r = row_there (units_of c.args.units.now) c.args.i c.requires.row in
    (at_stop r.0.entry.at c.stops-cursor.result.pairs.now c.stops-cursor.result.stops.now l.stop-index l.invariant.now l.cursor r.0.entry.attrs l.invariant.among l.invariant.left
    (l.invariant.reads r.0 r.1) c.loop-stop-test.true).within

pub offset_bounds-pairs-stop : goal.offset_bounds-pairs-stop
offset_bounds-pairs-stop c =
    let l = c.loop-stop in
    let r = row_there (units_of c.args.units.now) c.args.i c.requires.row in
    let n = at_stop r.0.entry.at c.stops-cursor.result.pairs.now c.stops-cursor.result.stops.now l.stop-index l.invariant.now l.cursor r.0.entry.attrs l.invariant.among l.invariant.left
    (l.invariant.reads r.0 r.1) c.loop-stop-test.true in
    omega (arith, n.below)

pub bounds-pairs-stop : goal.bounds-pairs-stop
bounds-pairs-stop c =
    let l = c.loop-stop in
    let r = row_there (units_of c.args.units.now) c.args.i c.requires.row in
    (at_stop r.0.entry.at c.stops-cursor.result.pairs.now c.stops-cursor.result.stops.now l.stop-index l.invariant.now l.cursor r.0.entry.attrs l.invariant.among l.invariant.left
    (l.invariant.reads r.0 r.1) c.loop-stop-test.true).below

pub add_quick-requires-clause-read : goal.add_quick-requires-clause-read
add_quick-requires-clause-read c =
    let l = c.loop-stop in
    let r = row_there (units_of c.args.units.now) c.args.i c.requires.row in
    value_there r.0.entry.at c.stops-cursor.result.pairs.now c.stops-cursor.result.stops.now l.stop-index l.invariant.now l.cursor r.0.entry.attrs l.invariant.among l.invariant.left
    (l.invariant.reads r.0 r.1) c.pass_bytes.new.cursor c.loop-stop-test.true c.pass_bytes.ensures

pub add_rare-requires-clause-read : goal.add_rare-requires-clause-read
add_rare-requires-clause-read c =
    let l = c.loop-stop in
    let pairs = c.stops-cursor.result.pairs.now in
    let stops = c.stops-cursor.result.stops.now in
    let pair = get_or pairs (get_or stops l.stop-index none).number no_pair in
    let r = row_there (units_of c.args.units.now) c.args.i c.requires.row in
    let here : c.new-aside.result ≡ c.pass_bytes.new.cursor =
    c.new-aside.ensures ∙ ap (λ (n : ℕ). input c.bytes.result.now n) c.at.ensures ∙ c.bytes.ensures.here ∙ c.add_quick.ensures.stays c.if-not-add_quick.true in
    subst (λ (i : Input). IsOk (value_at written_rows pair i)) (sym here)
    (value_there r.0.entry.at pairs stops l.stop-index l.invariant.now l.cursor r.0.entry.attrs l.invariant.among l.invariant.left
    (l.invariant.reads r.0 r.1) c.pass_bytes.new.cursor c.loop-stop-test.true c.pass_bytes.ensures)

pub loop-stop-preserved : goal.loop-stop-preserved
loop-stop-preserved c =
    let raw = units_of c.args.units.now in
    let co = common_view c.args.around.now.common in
    let l = c.loop-stop in
    let pairs = c.stops-cursor.result.pairs.now in
    let stops = c.stops-cursor.result.stops.now in
    let number = (get_or stops l.stop-index none).number in
    let pair = get_or pairs number no_pair in
    let begins = c.pass_bytes.new.cursor in
    let cursor = c.if-not-add_quick.cursor in
    let state = c.if-not-add_quick.state in
    let r = row_there raw c.args.i c.requires.row in
    let n = at_stop r.0.entry.at pairs stops l.stop-index l.invariant.now l.cursor r.0.entry.attrs l.invariant.among l.invariant.left (l.invariant.reads r.0 r.1) c.loop-stop-test.true in
    let told : TakesValue c.args.around.now raw c.args.here.now pair begins cursor l.state state = elim c.if-not-add_quick.branch [
      | then-not-add_quick+in_ok-add_rare w ↦
          let here : w.new-aside.result ≡ begins =
          w.new-aside.ensures ∙ ap (λ (n : ℕ). input w.bytes.result.now n) w.at.ensures ∙ w.bytes.ensures.here ∙ c.add_quick.ensures.stays w.if-not-add_quick.true in
          let behind : TakesValue c.args.around.now raw c.args.here.now pair w.new-aside.result w.add_rare.new.cursor c.add_quick.new.state w.add_rare.new.state = record {
            file = w.in_ok-add_rare.ensures.file;
            read = w.in_ok-add_rare.ensures.read;
            learns = w.in_ok-add_rare.ensures.learns;
            goes = w.in_ok-add_rare.ensures.goes;
          } in
          subst (λ (i : Input). TakesValue c.args.around.now raw c.args.here.now pair begins i l.state state) (sym w.cursor-is)
          (subst (λ (z : State). TakesValue c.args.around.now raw c.args.here.now pair begins w.add_rare.new.cursor l.state z) (sym w.state-is)
          (takes_behind c.args.around.now raw c.args.here.now pair begins w.new-aside.result w.add_rare.new.cursor l.state c.add_quick.new.state w.add_rare.new.state here
          (c.add_quick.ensures.same w.if-not-add_quick.true) behind))
      | else-not-add_quick w ↦
          subst (λ (i : Input). TakesValue c.args.around.now raw c.args.here.now pair begins i l.state state) (sym w.cursor-is)
          (subst (λ (z : State). TakesValue c.args.around.now raw c.args.here.now pair begins c.add_quick.new.cursor l.state z) (sym w.state-is) (record {
            file = c.add_quick.ensures.file;
            read = c.add_quick.ensures.read w.if-not-add_quick.false;
            learns = c.add_quick.ensures.learns w.if-not-add_quick.false;
            goes = c.add_quick.ensures.goes w.if-not-add_quick.false;
          }))
    ] in
    record {
      now = number + 1;
      among = omega (arith, n.below);
      left = n.rest;
      file = told.file ∙ l.invariant.file;
      reads = λ row found. (
          let x = stop_there row.entry.at pairs stops l.stop-index l.invariant.now l.cursor row.entry.attrs l.invariant.among l.invariant.left (l.invariant.reads row found) begins
          c.loop-stop-test.true c.pass_bytes.ensures in
          let behind : cursor ≡ x.place = subst (λ (w : Read). IfOk w (λ y. cursor ≡ y.1)) x.value told.read in
          subst (λ (w : Input). Reads row.entry.at (drop (number + 1) pairs) w (drop (number + 1) row.entry.attrs)) (sym behind) x.rest);
      adds = λ u row before here found k. (
          let x = stop_there row.entry.at pairs stops l.stop-index l.invariant.now l.cursor row.entry.attrs l.invariant.among l.invariant.left (l.invariant.reads row found) begins
          c.loop-stop-test.true c.pass_bytes.ensures in
          let s = scope_within c.args.around.now raw u in
          let K = StateIn c.args.around.now raw u c.args.here.now in
          let goes = subst
          (λ (w : Read). IfOk w (λ y. (v : RawUnit) (lists : List NamedList) → IsHere raw v c.args.here.now → StateIn c.args.around.now raw v c.args.here.now lists l.state
          → AddsNamed co raw (StateIn c.args.around.now raw v c.args.here.now) lists l.state state
          (attr_named (scope_within c.args.around.now raw v) (value_between begins y.1 pair y.0))))
          x.value told.goes in
          adds_more co raw K K (attr_named s) row.entry.attrs number (value_between begins x.place pair x.raw) before c.args.state.now l.state state x.is
          (subst (λ (w : Result Found Fault). Added co raw K before c.args.state.now l.state w) (x.named s) (l.invariant.adds u row before here found k))
          (λ lists q. goes u lists here q));
      learns = λ row found. (
          let x = stop_there row.entry.at pairs stops l.stop-index l.invariant.now l.cursor row.entry.attrs l.invariant.among l.invariant.left (l.invariant.reads row found) begins
          c.loop-stop-test.true c.pass_bytes.ensures in
          let learns = subst (λ (w : Read). IfOk w (λ y. Learns (numbers_file (value_between begins y.1 pair y.0)) c.args.here.now.line l.state.files state.files)) x.value
          told.learns in
          learns_next numbers_file row.entry.attrs number (value_between begins x.place pair x.raw) c.args.here.now.line c.args.state.now.files l.state.files state.files x.is
          (subst (λ (b : _). Learns b c.args.here.now.line c.args.state.now.files l.state.files) x.numbered (l.invariant.learns row found)) learns);
    }

pub returns-in_err-add_rare-clause-goes : goal.returns-in_err-add_rare-clause-goes
returns-in_err-add_rare-clause-goes c = λ u row before here found k. (
    let p = err_from_is_err_and c.from_residual.result c.from_residual.ensures.1 in
    let raw = units_of c.args.units.now in
    let co = common_view c.args.around.now.common in
    let l = c.loop-stop in
    let pairs = c.stops-cursor.result.pairs.now in
    let stops = c.stops-cursor.result.stops.now in
    let number = (get_or stops l.stop-index none).number in
    let pair = get_or pairs number no_pair in
    let begins = c.pass_bytes.new.cursor in
    let mid = c.add_quick.new.state in
    let same = c.add_quick.ensures.same c.if-not-add_quick.true in
    let begun : c.new-aside.result ≡ begins =
    c.new-aside.ensures ∙ ap (λ (n : ℕ). input c.bytes.result.now n) c.at.ensures ∙ c.bytes.ensures.here ∙ c.add_quick.ensures.stays c.if-not-add_quick.true in
    let x = stop_there row.entry.at pairs stops l.stop-index l.invariant.now l.cursor row.entry.attrs l.invariant.among l.invariant.left (l.invariant.reads row found) begins
    c.loop-stop-test.true c.pass_bytes.ensures in
    let s = scope_within c.args.around.now raw u in
    let K = StateIn c.args.around.now raw u c.args.here.now in
    let fails = subst
    (λ (i : Input). IfOk (value_at written_rows pair i) (λ y. (v : RawUnit) (lists : List NamedList) → IsHere raw v c.args.here.now → StateIn c.args.around.now raw v c.args.here.now lists mid
    → Fails c.in_err-add_rare.field-0.0 (attr_named (scope_within c.args.around.now raw v) (value_between i y.1 pair y.0))))
    begun c.in_err-add_rare.ensures.goes in
    let goes = subst
    (λ (w : Read). IfOk w (λ y. (v : RawUnit) (lists : List NamedList) → IsHere raw v c.args.here.now → StateIn c.args.around.now raw v c.args.here.now lists mid
    → Fails c.in_err-add_rare.field-0.0 (attr_named (scope_within c.args.around.now raw v) (value_between begins y.1 pair y.0))))
    x.value fails in
    rw (p.1, p.2) (fails_at co raw K (attr_named s) row.entry.attrs number (value_between begins x.place pair x.raw) before c.args.state.now l.state c.in_err-add_rare.field-0.0 x.is
    (subst (λ (w : Result Found Fault). Added co raw K before c.args.state.now l.state w) (x.named s) (l.invariant.adds u row before here found k))
    (λ lists q. goes u lists here (state_untouched raw s c.args.here.now.number lists l.state mid same q))))

pub returns-clause-goes : goal.returns-clause-goes
returns-clause-goes c = λ u row before here found k. (
    let raw = units_of c.args.units.now in
    let l = c.loop-stop in
    let s = scope_within c.args.around.now raw u in
    let x = all_read row.entry.at c.stops-cursor.result.pairs.now c.stops-cursor.result.stops.now l.stop-index l.invariant.now l.cursor row.entry.attrs l.invariant.among l.invariant.left
    (l.invariant.reads row found) (omega (arith, c.loop-stop-test.false)) in
    subst (λ (w : Result Found Fault). Added (common_view c.args.around.now.common) raw (StateIn c.args.around.now raw u c.args.here.now) before c.args.state.now l.state w) (x.named s)
    (l.invariant.adds u row before here found k))

pub returns-clause-learns : goal.returns-clause-learns
returns-clause-learns c = λ row found. (
    let l = c.loop-stop in
    let x = all_read row.entry.at c.stops-cursor.result.pairs.now c.stops-cursor.result.stops.now l.stop-index l.invariant.now l.cursor row.entry.attrs l.invariant.among l.invariant.left
    (l.invariant.reads row found) (omega (arith, c.loop-stop-test.false)) in
    subst (λ (b : _). Learns b c.args.here.now.line c.args.state.now.files l.state.files) x.numbered (l.invariant.learns row found))
