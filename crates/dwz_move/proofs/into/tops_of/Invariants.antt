use Rattle.std.proofs.Common.{◌≡◌, ℕ, List, length, take}
use Rattle.dwz_def_tops.specs.Spots.{EntryName}
use Rattle.dwz_def_reading.specs.Units.{RawUnit, entries_in}
use Rattle.dwz_graph.specs.Index.{IsIndex}
use Rattle.dwz_graph.specs.Resolved.{AreEntries}
use Rattle.dwz_move.specs.Known.{tops_of_refs}
use Rattle.dwz_graph.specs.Standing.{NamesEntries}
use Rattle.dwz_move.proofs.into.tops_of.Given as goal

abbrev pub invariant-loop-entry : goal.invariant-loop-entry
invariant-loop-entry l = (raw : List RawUnit) (names : List EntryName) (name : ℕ → EntryName) → IsIndex names l.index → length l.index.steps ≡ entries_in raw → NamesEntries raw name names
    → AreEntries raw l.refs
    → l.into.items ≡ tops_of_refs name raw (take l.entry-index l.refs)
