use Rattle.std.proofs.Common.{◌+◌, ◌-◌, ap, arith, length, List, ◌∙◌}
use Rattle.dwz_graph.specs.declared.index.Starts.{Starts}
use Rattle.dwz_graph.specs.declared.index.TopEntry.{TopEntry}
use Rattle.dwz_label_files.proofs.SearchLemmas.{last_tops, no_tops}
use Rattle.dwz_label_files.proofs.search.top_count.Goals as goal

pub returns-then-count-eq0-clause-count : goal.returns-then-count-eq0-clause-count
returns-then-count-eq0-clause-count c = let run = c.args.run.now in no_tops run.graph.now.given run.indexes.now c.requires.indexed (omega arith)

pub returns-clause-count : goal.returns-clause-count
returns-clause-count c =
    let run = c.args.run.now in
    let starts = ap (λ (w : Starts). w.top) c.starts-first.ensures in
    let tops = ap (λ (w : List TopEntry). length w) c.tops.ensures in
    let r = last_tops run.graph.now.given run.files.now run.indexes.now (length run.indexes.now - 1) c.index_at-last.result.now c.requires.kept c.requires.indexed (omega arith) c.index_at-last.ensures in
    (λ i. starts i + tops i) ∙ r.0

pub returns-clause-few : goal.returns-clause-few
returns-clause-few c =
    let run = c.args.run.now in
    let starts = ap (λ (w : Starts). w.top) c.starts-first.ensures in
    let tops = ap (λ (w : List TopEntry). length w) c.tops.ensures in
    let r = last_tops run.graph.now.given run.files.now run.indexes.now (length run.indexes.now - 1) c.index_at-last.result.now c.requires.kept c.requires.indexed (omega arith) c.index_at-last.ensures in
    let few = r.1 in
    omega arith
