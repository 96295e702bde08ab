use Rattle.std.proofs.Common.{suc, ◌<◌, [], ◌∷◌, length}
use Rattle.std.specs.Prelude.{codes, decimal}
use Rattle.dwz_def_tops.specs.Spots.{tops_of, units_of}
use Rattle.dwz_graph.specs.Files.{docs_of}
use Rattle.dwz_text.specs.Lines.{line}
use Rattle.dwz_explain.proofs.ChainText.{Printed}
use Rattle.dwz_explain.proofs.texts.lines_of.Given as goal

abbrev pub invariant-loop-number : goal.invariant-loop-number
invariant-loop-number l = record {
  first : l.first < length (tops_of (units_of (docs_of l.run.graph.now.given)));
  second : l.second < length (tops_of (units_of (docs_of l.run.graph.now.given)));
  printed : Printed (docs_of l.run.graph.now.given) l.chain l.what l.a l.b (line (codes "depth " ∷ decimal (suc (length l.chain)) ∷ [])) l.number-index l.first l.second l.text.items;
}
