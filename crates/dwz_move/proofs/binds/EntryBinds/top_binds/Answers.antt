use Rattle.std.proofs.Common.{◌≡◌, Bool, drop, sym, subst}
use Rattle.std.specs.Prelude.{IfOk, slice_index}
use Rattle.dwz_def_reading.specs.Trees.{End, Entry}
use Rattle.dwz_graph.specs.Rows.{nodes}
use Rattle.dwz_graph.specs.Standing.{StandsAt}
use Rattle.dwz_def_tops.specs.Alike.{entry_binds}
use Rattle.dwz_def_reading.specs.Meanings.{scope_of}
use Rattle.dwz_unit.specs.Rows.{Source, rows_below, units_of}
use Rattle.dwz_move.specs.Known.{KnowsRefs}
use Rattle.dwz_move.proofs.FileSteps.{into_top, rows_meant}
use Rattle.dwz_move.proofs.TreeBinds.{any_top}
use Rattle.dwz_move.proofs.binds.EntryBinds.top_binds.Goals as goal

pub returns : goal.returns
returns c = λ around refs name said file unit tops t knows stands has. (
    let raw = units_of c.self.inside.units.now in
    let known = subst (λ (x : Source). KnowsRefs around (units_of x) name refs c.args.starts.now c.args.into.now) (sym c.self.view_is) knows in
    let stand = subst (λ (x : Source). StandsAt around name (units_of x) said file unit t c.args.first c.args.end) (sym c.self.view_is) stands in
    let h = stand.stands.top in
    let s = scope_of around stand.stands.u in
    let m = rows_meant around raw name refs c.args.starts.now c.args.into.now known said file unit t c.args.first c.args.end stand in
    let into = into_top around raw name refs c.args.starts.now c.args.into.now known said file unit t c.args.first c.args.end stand in
    let rows = rows_below (Entry h.e h.c End) stand.stands.n h.p in
    let ds = nodes (Entry h.d h.g End) in
    subst (λ (x : Bool). IfOk c.entries_bind.result (λ b. b ≡ x)) (sym (any_top (entry_binds tops t.unit) name h.d h.g t h.node h.below))
    (c.entries_bind.ensures s (drop (slice_index c.args.starts.now c.args.first) refs) rows h.after ds tops t.unit name has m into))
