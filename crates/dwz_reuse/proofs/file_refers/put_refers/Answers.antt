use Rattle.std.proofs.Common.{None, ap, ◌∙◌, arith}
use Rattle.dwz_def_check.specs.CrossNames.{cross_names_from}
use Rattle.dwz_check_labels.specs.FilesSaid.{around_given}
use Rattle.dwz_reuse.specs.Refers.{own_by, own_count}
use Rattle.dwz_reuse.proofs.NodeSteps.{nodes_count, nodes_own}
use Rattle.dwz_reuse.proofs.PlaceNames.{name_at, names_found}
use Rattle.dwz_reuse.proofs.RefersPut.{puts_refers}
use Rattle.dwz_reuse.proofs.file_refers.put_refers.Goals as goal

pub labels_by_itself-requires : goal.labels_by_itself-requires
labels_by_itself-requires c =
    let r = c.requires in
    record { said = r.0; top = 0; is = r.1; index = c.in_ok-index.ensures.names (around_given c.args.file.now None) r.0 r.1.means }

pub nodes_in-requires : goal.nodes_in-requires
nodes_in-requires c =
    let r = c.requires in
    (r.0, r.1, c.in_ok-index.ensures.names (around_given c.args.file.now None) r.0 r.1.means)

pub own_numbers-requires : goal.own_numbers-requires
own_numbers-requires c =
    let r = c.requires in
    let k = c.in_ok-index.ensures.names (around_given c.args.file.now None) r.0 r.1.means in
    let nodes = c.as_slice.ensures.value ∙ c.in_ok-nodes.ensures r.0 r.1 k in
    let most = nodes_count 0 0 0 r.0 in
    let same = ap own_count nodes in
    let few = r.3 in
    omega (arith, most, same, few)

pub returns : goal.returns
returns c = λ number unit said is placed. (
    let k = c.in_ok-index.ensures.names (around_given c.args.file.now None) said is.means in
    let nodes = c.as_slice.ensures.value ∙ c.in_ok-nodes.ensures said is k in
    let own = c.as_slice-2.ensures.value ∙ c.in_ok-own.ensures ∙ ap (own_by c.args.first) nodes ∙ nodes_own 0 c.args.first 0 0 said placed.kinds in
    let told = c.in_ok-labels.ensures.labels (record { said = said; name = name_at (cross_names_from 0 0 said) }) 0 is k (names_found 0 said placed.apart) in
    puts_refers number unit c.args.first said placed c.as_slice-2.result.now c.in_ok-labels.labels.targets c.args.edges.now.items c.put_edges.new.edges.items own told.1 c.in_ok-put_edges.ensures)
