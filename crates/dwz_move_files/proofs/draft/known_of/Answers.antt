use Rattle.std.proofs.Common.{ap, ◌∙◌}
use Rattle.dwz_unit.specs.Rows.{units_of as raw_units}
use Rattle.dwz_graph.specs.Across.{name_at}
use Rattle.dwz_graph.proofs.FileEntries.{all_entries, names_entries}
use Rattle.dwz_move.specs.Known.{tops_of_refs}
use Rattle.dwz_move_files.proofs.FileSteps.{refs_low}
use Rattle.dwz_graph.specs.Names.{names_from}
use Rattle.dwz_move_files.proofs.draft.known_of.Goals as goal

pub returns : goal.returns
returns c = record {
  weights = c.in_ok-weights.ensures;
  binds = c.in_ok-binds.ensures;
  into = λ contents number bytes is. (
      let f = c.args.file.now in
      let x = c.args.index.now in
      let raw = raw_units f.units in
      let doc = is.kept.read.doc in
      let name = name_at x.starts doc in
      let names = names_from x.starts.unit x.starts.top doc.units in
      let r = c.as_slice.ensures.value in
      c.in_ok-into.ensures raw names name is.index.names (all_entries contents number bytes f x is) (names_entries contents number bytes f x is)
      (refs_low contents number bytes f x is c.as_slice.result.now r)
      ∙ ap (tops_of_refs name raw) r);
}
