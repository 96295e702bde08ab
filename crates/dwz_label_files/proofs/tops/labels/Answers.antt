use Rattle.std.proofs.Common.{ℕ, List, ap, arith, length, ◌∙◌}
use Rattle.std.proofs.lemmas.Result.{IfOk-weaker}
use Rattle.std.proofs.lemmas.List.FromFn.{length-map-range_with_len}
use Rattle.dwz_label_files.specs.Run.{Asked, movable_label}
use Rattle.dwz_label_files.proofs.LabelLemmas.{all_labels, all_many, asked}
use Rattle.dwz_label_files.proofs.tops.labels.Goals as goal

pub returns-clause-labels : goal.returns-clause-labels
returns-clause-labels g c =
    let contents = c.args.graph.now.given in
    let movable = c.args.movable.now in
    let w : Asked = c.in_ok-writer.writer in
    let same = c.in_ok-writer.ensures ∙ ap (λ (q : List (List ℕ)). asked q movable) c.run_of-run.ensures.graph in
    IfOk-weaker c.labels_by.result _ _ (λ labels is. is ∙ all_labels w contents movable c.len-count.result same c.len-count.ensures.count) c.labels_by.ensures

pub returns-clause-len : goal.returns-clause-len
returns-clause-len g c =
    let contents = c.args.graph.now.given in
    let movable = c.args.movable.now in
    let w : Asked = c.in_ok-writer.writer in
    let same = c.in_ok-writer.ensures ∙ ap (λ (q : List (List ℕ)). asked q movable) c.run_of-run.ensures.graph in
    IfOk-weaker c.labels_by.result _ _
    (λ labels is. ap (λ (x : List (List ℕ)). length x) (is ∙ all_labels w contents movable c.len-count.result same c.len-count.ensures.count) ∙ all_many contents movable) c.labels_by.ensures

pub returns-clause-few : goal.returns-clause-few
returns-clause-few g c =
    let w : Asked = c.in_ok-writer.writer in
    let few = c.len-count.ensures.few in
    IfOk-weaker c.labels_by.result _ _
    (λ labels is. (let many = ap (λ (x : List (List ℕ)). length x) is ∙ length-map-range_with_len (movable_label w.contents w.movable) 0 c.len-count.result in omega arith)) c.labels_by.ensures
