use Rattle.std.proofs.Common.{◌≤◌, ◌+◌, ◌^◌, ℕ, List, Option, length, sym, subst, arith}
use Rattle.std.proofs.lemmas.Result.{IfOk-weaker}
use Rattle.std.specs.Option.{option_map}
use Rattle.dwz_def_reading.specs.Units.{entries_in}
use Rattle.dwz_def_check.specs.CrossNames.{PartRoot}
use Rattle.dwz_check_index.specs.Both.{raw_beside}
use Rattle.dwz_nodes.specs.Looks.{IsRefined}
use Rattle.dwz_unit.specs.Rows.{Source}
use Rattle.dwz_check.proofs.Decides.{are_closed, are_columns, is_same, labels_few, two_say}
use Rattle.dwz_law_check.proofs.Placed.{units_beside}
use Rattle.dwz_check.proofs.GraphSays.{graph_of, pair_long, says_at}
use Rattle.dwz_check.proofs.answer.check.Goals as goal

pub nodes_of-requires-clause-few : goal.nodes_of-requires-clause-few
nodes_of-requires-clause-few g c =
    let r = c.args.graph.now in
    let common = option_map (λ f. f.now) c.common-shared.result in
    let files = c.back-files.result.now in
    let of = graph_of (record { common = c.placed_laws.ensures.common; back = c.placed_laws.ensures.back }) r (length r.given + length r.back) common files c.requires.two c.common-shared.ensures
    c.back-files.ensures in
    labels_few r of.old of.new common of.says c.in_ok-labels.labels.labels c.in_ok-labels.labels.targets c.in_ok-labels.ensures.labels

pub refine-requires-clause-closed : goal.refine-requires-clause-closed
refine-requires-clause-closed g c κs within =
    let r = c.args.graph.now in
    let common = option_map (λ f. f.now) c.common-shared.result in
    let files = c.back-files.result.now in
    let of = graph_of (record { common = c.placed_laws.ensures.common; back = c.placed_laws.ensures.back }) r (length r.given + length r.back) common files c.requires.two c.common-shared.ensures
    c.back-files.ensures in
    are_closed r of.old of.new common of.says c.in_ok-labels.labels.labels c.in_ok-labels.labels.targets c.in_ok-labels.ensures.labels c.in_ok-nodes.nodes c.in_ok-nodes.ensures

pub bounds-files-0 : goal.bounds-files-0
bounds-files-0 g c =
    let r = c.args.graph.now in
    let common = option_map (λ f. f.now) c.common-shared.result in
    let files = c.back-files.result.now in
    let of = graph_of (record { common = c.placed_laws.ensures.common; back = c.placed_laws.ensures.back }) r (length r.given + length r.back) common files c.requires.two c.common-shared.ensures
    c.back-files.ensures in
    let two = pair_long r common files of in
    omega (arith, two)

pub bounds-files-1 : goal.bounds-files-1
bounds-files-1 g c =
    let r = c.args.graph.now in
    let common = option_map (λ f. f.now) c.common-shared.result in
    let files = c.back-files.result.now in
    let of = graph_of (record { common = c.placed_laws.ensures.common; back = c.placed_laws.ensures.back }) r (length r.given + length r.back) common files c.requires.two c.common-shared.ensures
    c.back-files.ensures in
    let two = pair_long r common files of in
    omega (arith, two)

pub columns_of-requires-clause-old : goal.columns_of-requires-clause-old
columns_of-requires-clause-old g c =
    let r = c.args.graph.now in
    let common = option_map (λ f. f.now) c.common-shared.result in
    let files = c.back-files.result.now in
    let of = graph_of (record { common = c.placed_laws.ensures.common; back = c.placed_laws.ensures.back }) r (length r.given + length r.back) common files c.requires.two c.common-shared.ensures
    c.back-files.ensures in
    let old = c.index-files-0.result in
    let new = c.index-files-1.result in
    let s = says_at r common files old new of c.index-files-0.is c.index-files-1.is in
    s.old_few

pub columns_of-requires-clause-new : goal.columns_of-requires-clause-new
columns_of-requires-clause-new g c =
    let r = c.args.graph.now in
    let common = option_map (λ f. f.now) c.common-shared.result in
    let files = c.back-files.result.now in
    let of = graph_of (record { common = c.placed_laws.ensures.common; back = c.placed_laws.ensures.back }) r (length r.given + length r.back) common files c.requires.two c.common-shared.ensures
    c.back-files.ensures in
    let old = c.index-files-0.result in
    let new = c.index-files-1.result in
    let s = says_at r common files old new of c.index-files-0.is c.index-files-1.is in
    s.new_few

pub columns_of-requires-clause-common : goal.columns_of-requires-clause-common
columns_of-requires-clause-common g c =
    let r = c.args.graph.now in
    let common = option_map (λ f. f.now) c.common-shared.result in
    let files = c.back-files.result.now in
    let of = graph_of (record { common = c.placed_laws.ensures.common; back = c.placed_laws.ensures.back }) r (length r.given + length r.back) common files c.requires.two c.common-shared.ensures
    c.back-files.ensures in
    let old = c.index-files-0.result in
    let new = c.index-files-1.result in
    let s = says_at r common files old new of c.index-files-0.is c.index-files-1.is in
    subst (λ (o : Option Source). entries_in (raw_beside o) ≤ 2 ^ 28) (units_beside c.common-shared.result) s.common_few

pub columns_of-requires-clause-said : goal.columns_of-requires-clause-said
columns_of-requires-clause-said g c =
    let r = c.args.graph.now in
    let common = option_map (λ f. f.now) c.common-shared.result in
    let files = c.back-files.result.now in
    let of = graph_of (record { common = c.placed_laws.ensures.common; back = c.placed_laws.ensures.back }) r (length r.given + length r.back) common files c.requires.two c.common-shared.ensures
    c.back-files.ensures in
    let old = c.index-files-0.result in
    let new = c.index-files-1.result in
    let s = says_at r common files old new of c.index-files-0.is c.index-files-1.is in
    (s.a, s.b, s.c, two_say r old new common s c.in_ok-indexes.indexes c.in_ok-indexes.ensures)

pub compare-requires : goal.compare-requires
compare-requires g c =
    let r = c.args.graph.now in
    let common = option_map (λ f. f.now) c.common-shared.result in
    let files = c.back-files.result.now in
    let of = graph_of (record { common = c.placed_laws.ensures.common; back = c.placed_laws.ensures.back }) r (length r.given + length r.back) common files c.requires.two c.common-shared.ensures
    c.back-files.ensures in
    let old = c.index-files-0.result in
    let new = c.index-files-1.result in
    let s = says_at r common files old new of c.index-files-0.is c.index-files-1.is in
    are_columns r old new common s c.in_ok-labels.labels.labels c.in_ok-labels.labels.targets c.in_ok-labels.ensures.labels c.in_ok-nodes.nodes c.in_ok-nodes.ensures c.as_slice.result.now (subst (λ (w : List ℕ). IsRefined c.in_ok-nodes.nodes w) (sym c.as_slice.ensures) c.in_ok-classes.ensures) c.in_ok-columns.columns (c.in_ok-columns.ensures s.a s.b s.c (λ n. PartRoot) (λ n. PartRoot) (two_say r old new common s c.in_ok-indexes.indexes c.in_ok-indexes.ensures))

pub returns : goal.returns
returns g c =
    let r = c.args.graph.now in
    let common = option_map (λ f. f.now) c.common-shared.result in
    let files = c.back-files.result.now in
    let of = graph_of (record { common = c.placed_laws.ensures.common; back = c.placed_laws.ensures.back }) r (length r.given + length r.back) common files c.requires.two c.common-shared.ensures
    c.back-files.ensures in
    let old = c.index-files-0.result in
    let new = c.index-files-1.result in
    let s = says_at r common files old new of c.index-files-0.is c.index-files-1.is in
    IfOk-weaker c.compare.result _ _ (λ same h. is_same r old new common s c.in_ok-labels.labels.labels c.in_ok-labels.labels.targets c.in_ok-labels.ensures.labels c.in_ok-nodes.nodes c.in_ok-nodes.ensures c.as_slice.result.now (subst (λ (w : List ℕ). IsRefined c.in_ok-nodes.nodes w) (sym c.as_slice.ensures) c.in_ok-classes.ensures) c.in_ok-columns.columns (c.in_ok-columns.ensures s.a s.b s.c (λ n. PartRoot) (λ n. PartRoot) (two_say r old new common s c.in_ok-indexes.indexes c.in_ok-indexes.ensures)) same h) c.compare.ensures
