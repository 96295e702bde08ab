use Rattle.std.proofs.Common.{◌++◌, ℕ, List, ap, arith, map, sym, ◌∙◌}
use Rattle.dwz_def_reading.specs.Trees.{End, Entry}
use Rattle.dwz_def_reading.proofs.CaseFacts.{if_ok}
use Rattle.dwz_graph.specs.Rows.{nodes}
use Rattle.dwz_def_reading.specs.Meanings.{scope_of}
use Rattle.dwz_encode_operands.specs.Walked.{NotesOperands, rows_operands}
use Rattle.dwz_encode_operands.proofs.UnitLemmas.{unit_noted, unit_notes}
use Rattle.dwz_def_output.specs.Refusals.{operands_of_unit}
use Rattle.dwz_unit.proofs.UnitThere.{unit_ends, unit_there}
use Rattle.dwz_unit.specs.Rows.{units_of}
use Rattle.dwz_encode_operands.proofs.spoken.note_unit.Goals as goal

pub here_of-here-requires : goal.here_of-here-requires
here_of-here-requires c =
    let raw = units_of c.args.units.now in
    let t = unit_there raw c.args.n c.unit-unit.result c.unit-unit.ensures in
    let within = unit_ends raw c.args.n c.unit-unit.result t in
    omega arith

pub note_entries-requires : goal.note_entries-requires
note_entries-requires c = (c.here_of-here.ensures c.unit-unit.ensures).within

pub returns : goal.returns
returns c = λ around u v after more plain found means is are. (
    let raw = units_of c.args.units.now in
    let h = c.here_of-here.result in
    let n = unit_notes around raw c.args.n c.unit-unit.result u v h found means c.unit-unit.ensures (c.here_of-here.ensures c.unit-unit.ensures) in
    let s = scope_of around u in
    let old = c.args.first.now in
    let new = c.note_entries.new.first in
    if_ok c.note_entries.result (λ left. NotesOperands after u.at (rows_operands s n.rows) old new more left.now) (λ left. NotesOperands after u.at (operands_of_unit around u) old new more left.now)
    (λ left k. unit_noted around raw u v h n after old new more left.now k)
    (c.note_entries.ensures s n.rows n.after_them (nodes (Entry v.root v.below End)) after more plain n.found n.count n.means is (are ∙ ap (λ (w : List ℕ). map after w ++ more) (sym n.refs))))
