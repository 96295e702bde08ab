use Rattle.std.proofs.Common.{◌+◌, ◌<◌, drop, get_or, length}
use Rattle.std.proofs.lemmas.List.{drop_all}
use Rattle.dwz_def_reading.proofs.ListFacts.{drop_pairs}
use Rattle.dwz_check_index.specs.Index.{listed_units}
use Rattle.dwz_check_labels.proofs.SpaceNames.{names_all, next_space, no_space}
use Rattle.dwz_check_labels.proofs.space_names.put_space_names.Goals as goal

pub loop-space-init : goal.loop-space-init
loop-space-init c = λ around said names says h. names_all (listed_units said) c.args.spaces.now names c.args.out.now.items c.put_number.new.out.items h c.in_ok-put_number.ensures

pub loop-space-preserved : goal.loop-space-preserved
loop-space-preserved c = λ around said names says h. (
    let xs = c.args.spaces.now in
    let k = c.loop-space.space-index in
    let lt : k < length xs = c.loop-space-test.true in
    let n = next_space (listed_units said) (drop k xs) (get_or xs k 0) (drop (k + 1) xs) c.loop-space.out.items _ (drop_pairs xs k 0 lt) (c.loop-space.invariant around said names says h) in
    n.4 c.put_space_name.new.out.items (c.in_ok-put_space_name.ensures around said n.0 n.1 says n.2 n.3))

pub returns : goal.returns
returns c = λ around said names says h. (
    let xs = c.args.spaces.now in
    let k = c.loop-space.space-index in
    no_space (listed_units said) (drop k xs) c.loop-space.out.items _ (drop_all k xs c.loop-space-test.false) (c.loop-space.invariant around said names says h))
