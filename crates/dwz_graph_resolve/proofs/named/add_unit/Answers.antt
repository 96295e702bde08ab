use Rattle.std.proofs.Common.{◌≡◌, ℕ, ◌+◌, ◌-◌, ◌<◌, ◌^◌, [], ◌∷◌, ◌++◌, List, length, map, take, drop, slice_get, Some, Ok, refl, sym, ap, subst, ◌∙◌, arith}
use Rattle.std.specs.List.{list_any}
use Rattle.std.proofs.lemmas.List.{length-append}
use Rattle.dwz_def_reading.specs.Units.{entries_in}
use Rattle.dwz_def_reading.proofs.ListFacts.{got_there as there}
use Rattle.dwz_def_reading.specs.Meanings.{scope_of, stmt_list}
use Rattle.dwz_graph_resolve.specs.FileRows.{Learns, number_at}
use Rattle.dwz_graph_resolve.specs.Parts.{AreParted, GoesOn, KnowLines}
use Rattle.dwz_graph_resolve.proofs.JoinLemmas.{got_drop}
use Rattle.dwz_graph_resolve.proofs.LineSteps.{entry_numbers, learns_all, learns_next, learns_none, one_line_more}
use Rattle.dwz_graph_resolve.proofs.PartSteps.{entry_more, first_is, goes_on_more, one_unit_more}
use Rattle.std.proofs.lemmas.Result.{err_from_is_err_and}
use Rattle.dwz_unit.specs.Rows.{units_of}
use Rattle.dwz_graph_resolve.specs.Named.{collect, entries_of, entry_named, kind_named}
use Rattle.dwz_graph_resolve.specs.Resolved.{Goes, StateAt, StateIn}
use Rattle.dwz_graph_resolve.specs.Surroundings.{around_in, common_view, scope_within}
use Rattle.dwz_graph_resolve.specs.State.{IsState}
use Rattle.dwz_graph_resolve.proofs.NamedSteps.{added_known, adds_all, adds_more, adds_none, behind_none, fails_at, fails_behind, fails_first}
use Rattle.dwz_unit.proofs.RowsFound.{row_there}
use Rattle.dwz_graph_resolve.proofs.StateLemmas.{unit_begins, unit_ends as unit_left}
use Rattle.dwz_graph_resolve.proofs.UnitThere.{end_there, entries_many, entry_there, here_there, shown_there}
use Rattle.dwz_unit.proofs.UnitThere.{unit_ends, unit_there}
use Rattle.dwz_graph_resolve.proofs.named.add_unit.Goals as goal

pub here_of-here-requires : goal.here_of-here-requires
here_of-here-requires c =
    let raw = units_of c.args.units.now in
    let t = unit_there raw c.args.n c.unit-unit.result c.unit-unit.ensures in
    let within = unit_ends raw c.args.n c.unit-unit.result t in
    omega arith

pub check_kind-requires : goal.check_kind-requires
check_kind-requires c = (c.here_of-here.ensures c.unit-unit.ensures).within

pub returns-in_err-check_kind-clause-goes : goal.returns-in_err-check_kind-clause-goes
returns-in_err-check_kind-clause-goes c = λ u before found k. (
    let p = err_from_is_err_and c.from_residual.result c.from_residual.ensures.1 in
    let raw = units_of c.args.units.now in
    let h = c.here_of-here.ensures c.unit-unit.ensures in
    let s = scope_within c.args.around.now raw u in
    rw (p.1, p.2) (fails_first c.in_err-check_kind.field-0.0 (kind_named s u.kind) (collect (entry_named s) (entries_of u))
    (c.in_err-check_kind.ensures u (here_there raw c.args.n c.unit-unit.result c.here_of-here.result h u found) (shown_there raw c.args.n c.unit-unit.result c.here_of-here.result h u found))))

pub loop-i-init : goal.loop-i-init
loop-i-init c =
    let raw = units_of c.args.units.now in
    let co = common_view c.args.around.now.common in
    let h = c.here_of-here.ensures c.unit-unit.ensures in
    let none : 0 ≡ c.here_of-here.result.first - c.here_of-here.result.first = omega arith in
    record {
      file = refl;
      goes = λ u before found k. (
          let s = scope_within c.args.around.now raw u in
          let K = StateIn c.args.around.now raw u c.here_of-here.result in
          subst (λ (k : ℕ). Goes {Y = Unit {0}} co raw K before c.args.state.now c.args.state.now (Ok tt) (collect (entry_named s) (take k (entries_of u)))) none
          (adds_none co raw K (entry_named s) (entries_of u) before c.args.state.now c.args.state.now refl
          (subst (λ (m : ℕ). IsState raw s m before c.args.state.now) (sym h.number) (unit_begins raw (around_in c.args.around.now raw) u c.args.n before c.args.state.now found k))));
      starts = λ first before k parted. subst (λ (m : ℕ). GoesOn (around_in c.args.around.now raw) raw (entries_in (take first raw)) m c.args.state.now.refs.items c.args.parts.now.starts.items)
          (sym (h.first ∙ first_is raw c.args.n c.unit-unit.result c.unit-unit.ensures)) parted.starts;
      lines = refl;
      learns = λ u found. subst (λ (m : ℕ). Learns (list_any entry_numbers (take m (entries_of u))) c.here_of-here.result.line c.args.state.now.files c.args.state.now.files) none
          (learns_none c.here_of-here.result.line c.args.state.now.files);
    }

pub add_values-requires-clause-row : goal.add_values-requires-clause-row
add_values-requires-clause-row c =
    let within = (c.here_of-here.ensures c.unit-unit.ensures).within in
    omega arith

pub add_values-requires-clause-here : goal.add_values-requires-clause-here
add_values-requires-clause-here c = (c.here_of-here.ensures c.unit-unit.ensures).within

pub returns-in_err-add_values-clause-goes : goal.returns-in_err-add_values-clause-goes
returns-in_err-add_values-clause-goes c = λ u before found k. (
    let p = err_from_is_err_and c.from_residual-in_err-add_values.result c.from_residual-in_err-add_values.ensures.1 in
    let raw = units_of c.args.units.now in
    let co = common_view c.args.around.now.common in
    let h = c.here_of-here.ensures c.unit-unit.ensures in
    let within = h.within in
    let s = scope_within c.args.around.now raw u in
    let K = StateIn c.args.around.now raw u c.here_of-here.result in
    let is = here_there raw c.args.n c.unit-unit.result c.here_of-here.result h u found in
    let row = row_there raw c.loop-i.i (omega arith) in
    let there = entry_there raw c.args.n c.unit-unit.result c.here_of-here.result h u found c.unit-unit.ensures c.loop-i.i row.0 (omega arith) (omega arith) row.1 in
    rw (p.1, p.2) (fails_behind c.in_err-add_values.field-0.0 (kind_named s u.kind) (collect (entry_named s) (entries_of u))
    (c.in_ok-check_kind.ensures u is (shown_there raw c.args.n c.unit-unit.result c.here_of-here.result h u found))
    (fails_at co raw K (entry_named s) (entries_of u) (c.loop-i.i - c.here_of-here.result.first) row.0.entry before c.args.state.now c.loop-i.state c.in_err-add_values.field-0.0 there
    (c.loop-i.invariant.goes u before found k) (λ lists q. c.in_err-add_values.ensures.goes u row.0 lists is row.1 q))))

pub loop-i-preserved : goal.loop-i-preserved
loop-i-preserved c =
    let raw = units_of c.args.units.now in
    let co = common_view c.args.around.now.common in
    let h = c.here_of-here.ensures c.unit-unit.ensures in
    let within = h.within in
    let row = row_there raw c.loop-i.i (omega arith) in
    let next : c.loop-i.i - c.here_of-here.result.first + 1 ≡ c.loop-i.i + 1 - c.here_of-here.result.first = omega arith in
    record {
      file = c.in_ok-add_values.ensures.file ∙ c.loop-i.invariant.file;
      goes = λ u before found k. (
          let s = scope_within c.args.around.now raw u in
          let K = StateIn c.args.around.now raw u c.here_of-here.result in
          let is = here_there raw c.args.n c.unit-unit.result c.here_of-here.result h u found in
          let there = entry_there raw c.args.n c.unit-unit.result c.here_of-here.result h u found c.unit-unit.ensures c.loop-i.i row.0 (omega arith) (omega arith) row.1 in
          subst (λ (k : ℕ). Goes {Y = Unit {0}} co raw K before c.args.state.now c.add_values.new.state (Ok tt) (collect (entry_named s) (take k (entries_of u)))) next
          (adds_more co raw K K (entry_named s) (entries_of u) (c.loop-i.i - c.here_of-here.result.first) row.0.entry before c.args.state.now c.loop-i.state c.add_values.new.state there
          (c.loop-i.invariant.goes u before found k) (λ lists q. c.in_ok-add_values.ensures.goes u row.0 lists is row.1 q)));
      starts = λ from before k parted be ends begin small. (
          let found = there raw c.args.n c.requires.unit in
          let u = found.0 in
          let is = here_there raw c.args.n c.unit-unit.result c.here_of-here.result h u found.1 in
          let end = end_there raw c.args.n c.unit-unit.result c.here_of-here.result h u found.1 in
          let first = h.first ∙ first_is raw c.args.n c.unit-unit.result c.unit-unit.ensures in
          let g = c.loop-i.invariant.goes u before found.1 k in
          let a = c.in_ok-add_values.ensures.goes u row.0 (before ++ g.lists) is row.1 g.keeps in
          let few : length c.add_values.new.state.refs.items < 2 ^ 32 = omega (arith, small, length-append be c.add_values.new.state.refs.items) in
          let p : GoesOn (around_in c.args.around.now raw) raw (entries_in (take from raw)) (c.loop-i.i + 1) c.add_values.new.state.refs.items
          (c.loop-i.parts.starts.items ++ length c.add_values.new.state.refs.items ∷ []) =
          goes_on_more (around_in c.args.around.now raw) raw (entries_in (take from raw)) c.loop-i.i c.loop-i.state.refs.items c.add_values.new.state.refs.items c.loop-i.parts.starts.items a.more a.refs
          (entry_more (around_in c.args.around.now raw) raw c.args.n u c.loop-i.i row.0 a.more a.lists found.1 (omega (arith, first)) (omega (arith, first, end)) row.1 a.is)
          (c.loop-i.invariant.starts from before k parted) in
          subst (λ (w : List ℕ). AreParted (around_in c.args.around.now raw) raw (c.loop-i.i + 1) (be ++ c.add_values.new.state.refs.items) (ends ++ map (λ j. length be + j) w))
          (sym (c.in_ok-end_entry.ensures.starts (subst (λ (w : List ℕ). length w < 2 ^ 32) (sym c.as_slice.ensures.value) few)
          ∙ ap (λ (w : List ℕ). c.loop-i.parts.starts.items ++ length w ∷ []) c.as_slice.ensures.value))
          (p be ends begin small));
      lines = c.end_entry.ensures.lines ∙ c.loop-i.invariant.lines;
      learns = λ u found. (
          let there = entry_there raw c.args.n c.unit-unit.result c.here_of-here.result h u found c.unit-unit.ensures c.loop-i.i row.0 (omega arith) (omega arith) row.1 in
          subst (λ (m : ℕ). Learns (list_any entry_numbers (take m (entries_of u))) c.here_of-here.result.line c.args.state.now.files c.add_values.new.state.files) next
          (learns_next entry_numbers (entries_of u) (c.loop-i.i - c.here_of-here.result.first) row.0.entry c.here_of-here.result.line c.args.state.now.files c.loop-i.state.files
          c.add_values.new.state.files there (c.loop-i.invariant.learns u found) (c.in_ok-add_values.ensures.learns row.0 row.1)));
    }

pub returns-clause-goes : goal.returns-clause-goes
returns-clause-goes c = λ u before found k. (
    let raw = units_of c.args.units.now in
    let co = common_view c.args.around.now.common in
    let h = c.here_of-here.ensures c.unit-unit.ensures in
    let s = scope_within c.args.around.now raw u in
    let K = StateIn c.args.around.now raw u c.here_of-here.result in
    let L = StateAt c.args.around.now raw (c.args.n + 1) in
    let is = here_there raw c.args.n c.unit-unit.result c.here_of-here.result h u found in
    let end = end_there raw c.args.n c.unit-unit.result c.here_of-here.result h u found in
    let many = entries_many u in
    behind_none co raw L before c.args.state.now c.loop-i.state (kind_named s u.kind) (collect (entry_named s) (entries_of u))
    (c.in_ok-check_kind.ensures u is (shown_there raw c.args.n c.unit-unit.result c.here_of-here.result h u found))
    (added_known co raw K L before c.args.state.now c.loop-i.state (collect (entry_named s) (entries_of u))
    (adds_all co raw K (entry_named s) (entries_of u) (c.loop-i.i - c.here_of-here.result.first) before c.args.state.now c.loop-i.state (omega arith) (c.loop-i.invariant.goes u before found k))
    (λ lists q. unit_left raw (around_in c.args.around.now raw) u c.args.n lists c.loop-i.state found (subst (λ (m : ℕ). IsState raw s m lists c.loop-i.state) h.number q))))

pub returns-clause-parts : goal.returns-clause-parts
returns-clause-parts c = λ from before low k parted. (
    let raw = units_of c.args.units.now in
    let h = c.here_of-here.ensures c.unit-unit.ensures in
    let found = there raw c.args.n c.requires.unit in
    let u = found.0 in
    let a = around_in c.args.around.now raw in
    let is = here_there raw c.args.n c.unit-unit.result c.here_of-here.result h u found.1 in
    let end = end_there raw c.args.n c.unit-unit.result c.here_of-here.result h u found.1 in
    let first = h.first ∙ first_is raw c.args.n c.unit-unit.result c.unit-unit.ensures in
    let many = entries_many u in
    let all : c.loop-i.i ≡ entries_in (take (c.args.n + 1) raw) = omega (arith, first, end, one_unit_more raw c.args.n u found.1) in
    let learned = learns_all entry_numbers (entries_of u) (c.loop-i.i - c.here_of-here.result.first) c.here_of-here.result.line c.args.state.now.files c.loop-i.state.files (omega arith)
    (c.loop-i.invariant.learns u found.1) in
    let line : c.here_of-here.result.line ≡ stmt_list (scope_of a u) = is.line in
    let at : from + (c.args.n - from) ≡ c.args.n = omega (arith, low) in
    let next : c.args.n - from + 1 ≡ c.args.n + 1 - from = omega (arith, low) in
    let found' : slice_get (drop from raw) (c.args.n - from) ≡ Some u = got_drop raw from (c.args.n - from) ∙ ap (slice_get raw) at ∙ found.1 in
    record {
      starts = subst (λ (w : List ℕ). GoesOn a raw (entries_in (take from raw)) (entries_in (take (c.args.n + 1) raw)) c.loop-i.state.refs.items w) (ap (λ (w : _). w.items) (sym c.end_unit.ensures.starts))
          (subst (λ (m : ℕ). GoesOn a raw (entries_in (take from raw)) m c.loop-i.state.refs.items c.loop-i.parts.starts.items) all (c.loop-i.invariant.starts from before k parted));
      lines = subst (λ (w : List _). KnowLines a (drop from raw) (c.args.n + 1 - from) c.loop-i.state.files w)
          (sym (c.in_ok-end_unit.ensures.lines ∙ (λ i. (c.loop-i.invariant.lines i).items ++ number_at c.loop-i.state.files (line i) ∷ [])))
          (subst (λ (m : ℕ). KnowLines a (drop from raw) m c.loop-i.state.files (c.args.parts.now.lines.items ++ number_at c.loop-i.state.files (stmt_list (scope_of a u)) ∷ [])) next
          (one_line_more a (drop from raw) (c.args.n - from) u c.args.state.now.files c.loop-i.state.files c.args.parts.now.lines.items found'
          (subst (λ (o : _). Learns (list_any entry_numbers (entries_of u)) o c.args.state.now.files c.loop-i.state.files) line learned) parted.lines));
    })
