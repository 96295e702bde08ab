use Rattle.std.proofs.Common.{◌≡◌, ℕ, true, drop, ◌+◌, sym, ap, subst, ◌∙◌, arith}
use Rattle.std.specs.Prelude.{slice_index}
use Rattle.dwz_def_tops.specs.Alike.{any_attr}
use Rattle.dwz_def_reading.specs.Trees.{End, Entry}
use Rattle.dwz_def_reading.specs.Units.{RawUnit, entry_count}
use Rattle.dwz_def_reading.proofs.CaseFacts.{on_ok}
use Rattle.dwz_graph.specs.Rows.{AreRowsMeant, nodes}
use Rattle.dwz_graph.proofs.UnitThere.{same_unit}
use Rattle.dwz_unit.proofs.UnitThere.{unit_ends, unit_there}
use Rattle.dwz_move.specs.Bound.{EachInto}
use Rattle.dwz_def_reading.specs.Documents.{unit_map}
use Rattle.dwz_def_reading.specs.Meanings.{scope_of}
use Rattle.dwz_unit.specs.Rows.{rows_in, units_of}
use Rattle.dwz_move.specs.Known.{in_unit}
use Rattle.dwz_move.specs.Marked.{expression_names, expression_pins}
use Rattle.dwz_move.proofs.MarkLemmas.{marks_as}
use Rattle.dwz_move.proofs.RowMarks.{rows_said}
use Rattle.dwz_move.proofs.UnitSteps.{there, unit_into, unit_meant, unit_said}
use Rattle.dwz_move.proofs.scan.mark_unit.Goals as goal

pub here_of-here-requires : goal.here_of-here-requires
here_of-here-requires c =
    let raw = units_of c.args.units.now in
    let t = unit_there raw c.args.n c.unit-unit.result c.unit-unit.ensures in
    let within = unit_ends raw c.args.n c.unit-unit.result t in
    omega arith

pub mark_entries-requires : goal.mark_entries-requires
mark_entries-requires c = (c.here_of-here.ensures c.unit-unit.ensures).within

pub returns-clause-any : goal.returns-clause-any
returns-clause-any c = λ around refs name u v knows is means. (
    let raw = units_of c.args.units.now in
    let x = c.unit-unit.result in
    let w = c.here_of-here.ensures c.unit-unit.ensures in
    let end : ℕ = c.here_of-here.result.end in
    let first : ℕ = c.here_of-here.result.first in
    let first_is : x.first ≡ first = sym w.first in
    let own : w.u ≡ u = same_unit raw c.args.n w.u u w.is_unit is in
    let to : x.first + entry_count u ≡ end = ap (λ (k : RawUnit). x.first + entry_count k) (sym own) ∙ sym w.end in
    let s = scope_of around u in
    let ds = nodes (Entry v.root v.below End) in
    let starts = c.args.starts.now in
    let m = unit_meant around raw name refs starts c.args.into.now knows c.args.n u v x is means c.unit-unit.ensures end to in
    let into = unit_into around raw name refs starts c.args.into.now knows c.args.n u v x is means c.unit-unit.ensures end to in
    let after = (there around raw name refs starts c.args.into.now knows c.args.n u v x is means c.unit-unit.ensures end to).after in
    let rows = rows_in u c.args.n x.first in
    let old = c.args.named.now.by_any.items in
    let new = c.mark_entries.new.named.by_any.items in
    on_ok c.mark_entries.result _ _
    (marks_as (λ t. rows_said expression_names name ds t ≡ true) (λ t. in_unit (any_attr (expression_names t)) (unit_map name v) ≡ true) old new
    (λ t. (let same = unit_said around raw name refs starts c.args.into.now knows c.args.n u v x is means c.unit-unit.ensures end to expression_names t in (λ e. same ∙ e, λ e. sym same ∙ e))))
    (c.mark_entries.ensures.any s (drop (slice_index starts first) refs) rows after ds name
    (subst (λ (k : ℕ). AreRowsMeant raw s k end (drop (slice_index starts k) refs) rows after ds) first_is m)
    (subst (λ (k : ℕ). EachInto name c.args.into.now starts k ds) first_is into)))

pub returns-clause-uleb : goal.returns-clause-uleb
returns-clause-uleb c = λ around refs name u v knows is means. (
    let raw = units_of c.args.units.now in
    let x = c.unit-unit.result in
    let w = c.here_of-here.ensures c.unit-unit.ensures in
    let end : ℕ = c.here_of-here.result.end in
    let first : ℕ = c.here_of-here.result.first in
    let first_is : x.first ≡ first = sym w.first in
    let own : w.u ≡ u = same_unit raw c.args.n w.u u w.is_unit is in
    let to : x.first + entry_count u ≡ end = ap (λ (k : RawUnit). x.first + entry_count k) (sym own) ∙ sym w.end in
    let s = scope_of around u in
    let ds = nodes (Entry v.root v.below End) in
    let starts = c.args.starts.now in
    let m = unit_meant around raw name refs starts c.args.into.now knows c.args.n u v x is means c.unit-unit.ensures end to in
    let into = unit_into around raw name refs starts c.args.into.now knows c.args.n u v x is means c.unit-unit.ensures end to in
    let after = (there around raw name refs starts c.args.into.now knows c.args.n u v x is means c.unit-unit.ensures end to).after in
    let rows = rows_in u c.args.n x.first in
    let old = c.args.named.now.by_uleb.items in
    let new = c.mark_entries.new.named.by_uleb.items in
    on_ok c.mark_entries.result _ _
    (marks_as (λ t. rows_said expression_pins name ds t ≡ true) (λ t. in_unit (any_attr (expression_pins t)) (unit_map name v) ≡ true) old new
    (λ t. (let same = unit_said around raw name refs starts c.args.into.now knows c.args.n u v x is means c.unit-unit.ensures end to expression_pins t in (λ e. same ∙ e, λ e. sym same ∙ e))))
    (c.mark_entries.ensures.uleb s (drop (slice_index starts first) refs) rows after ds name
    (subst (λ (k : ℕ). AreRowsMeant raw s k end (drop (slice_index starts k) refs) rows after ds) first_is m)
    (subst (λ (k : ℕ). EachInto name c.args.into.now starts k ds) first_is into)))
