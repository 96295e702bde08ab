use Rattle.std.proofs.Common.{ℕ, List, ap, arith, length, subst}
use Rattle.dwz_def_tops.specs.Spots.{tops_of, units_of}
use Rattle.dwz_graph.specs.Files.{docs_of}
use Rattle.dwz_label_files.specs.Marked.{IsStretch}
use Rattle.dwz_label_files.proofs.MarkedLemmas.{all_apart}
use Rattle.dwz_label_files.proofs.marked.marked_labels.Goals as goal

pub returns-clause-apart : goal.returns-clause-apart
returns-clause-apart g c = λ flags. (
    let same = c.run_of-run.ensures.graph in
    let movable = c.args.movable.now in
    let s = c.in_ok-labels.field-0 in
    let of_graph = subst (λ (w : List (List ℕ)). IsStretch (units_of (docs_of w)) movable 0 (length movable) s) same c.in_ok-labels.ensures in
    all_apart (units_of (docs_of c.args.graph.now.given)) movable s c.requires.movable flags of_graph)

pub returns-clause-len : goal.returns-clause-len
returns-clause-len g c = let len = c.in_ok-labels.ensures.len in let many = c.requires.movable in omega arith

pub returns-clause-few : goal.returns-clause-few
returns-clause-few g c =
    let same = ap (λ (w : List (List ℕ)). length (tops_of (units_of (docs_of w)))) c.run_of-run.ensures.graph in
    let len = c.in_ok-labels.ensures.len in
    let few = c.top_count-count.ensures.few in
    let many = c.top_count-count.ensures.count in
    let all = c.requires.movable in
    omega arith
