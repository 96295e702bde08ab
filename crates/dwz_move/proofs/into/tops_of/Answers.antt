use Rattle.std.proofs.Common.{ℕ, ◌<◌, List, get_or, arith}
use Rattle.dwz_def_reading.specs.Units.{entries_in}
use Rattle.dwz_graph.specs.Resolved.{place_at}
use Rattle.dwz_move.proofs.IntoLemmas.{entry_at, refs_next}
use Rattle.dwz_move.proofs.into.tops_of.Goals as goal

pub loop-entry-preserved : goal.loop-entry-preserved
loop-entry-preserved c = λ raw names name is many named entries. (
    let refs : List ℕ = c.args.refs.now in
    let k = c.loop-entry.entry-index in
    let low : get_or refs k 0 < entries_in raw = entry_at raw refs k entries c.loop-entry-test.true in
    refs_next name raw refs k c.loop-entry.into.items c.push.new.self.items c.top_of.result c.loop-entry-test.true (c.loop-entry.invariant raw names name is many named entries)
    (c.top_of.ensures names (name (place_at raw (get_or refs k 0))) is (omega arith) (named (get_or refs k 0) low)) c.in_ok-push.ensures.items)
