use Rattle.std.proofs.Common.{ℕ, drop, sym, ap, ◌∙◌}
use Rattle.std.specs.Prelude.{slice_index}
use Rattle.dwz_def_reading.specs.Trees.{End, Entry}
use Rattle.dwz_graph.specs.Rows.{nodes}
use Rattle.dwz_def_reading.specs.Meanings.{scope_of}
use Rattle.dwz_unit.specs.Rows.{rows_below, units_of}
use Rattle.dwz_move.specs.Weights.{capped, rows_weight}
use Rattle.dwz_move.proofs.FileSteps.{rows_meant}
use Rattle.dwz_move.proofs.TreeWeights.{top_weighs}
use Rattle.dwz_move.proofs.weights.EntryWeights.top_weight.Goals as goal

pub returns : goal.returns
returns c = λ around refs starts into name said file unit t knows stands. (
    let raw = units_of c.args.self.now in
    let h = stands.stands.top in
    let s = scope_of around stands.stands.u in
    let m = rows_meant around raw name refs starts into knows said file unit t c.args.first c.args.end stands in
    let rows = rows_below (Entry h.e h.c End) stands.stands.n h.p in
    let ds = nodes (Entry h.d h.g End) in
    c.of_entries.ensures.weight s (drop (slice_index starts c.args.first) refs) rows h.after ds name m
    ∙ ap (λ (i : ℕ). capped (rows_weight name i rows ds)) (sym stands.from)
    ∙ ap capped (top_weighs s name h.e h.c h.d h.g stands.stands.n h.p t h.means h.node h.below))
