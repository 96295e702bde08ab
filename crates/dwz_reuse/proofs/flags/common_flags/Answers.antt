use Rattle.std.proofs.Common.{Bool, List, None, length, sym, ap, subst, arith}
use Rattle.dwz_check_labels.specs.FilesSaid.{around_given}
use Rattle.dwz_check_labels.proofs.SaidLemmas.{index_long}
use Rattle.dwz_def_taken.specs.Beside.{reused_of}
use Rattle.dwz_unit.specs.Rows.{units_of}
use Rattle.dwz_reuse.specs.Spread.{AreCommonSeeds}
use Rattle.dwz_reuse.proofs.CommonTargets.{targets_shown}
use Rattle.dwz_reuse.proofs.InsideLists.{are_inside}
use Rattle.dwz_reuse.proofs.flags.common_flags.Goals as goal

pub common_seeds-requires-clause-said : goal.common_seeds-requires-clause-said
common_seeds-requires-clause-said c =
    let doc = c.requires.said.1 in
    let s = c.requires.said.2 in
    (c.requires.said.0, doc, s, c.in_ok-index.ensures.names (around_given c.args.common.now None) doc.units s.read.said.means)

pub common_seeds-requires-clause-room : goal.common_seeds-requires-clause-room
common_seeds-requires-clause-room c =
    let doc = c.requires.said.1 in
    let s = c.requires.said.2 in
    let f = c.args.common.now in
    let is = c.in_ok-index.ensures.names (around_given f None) doc.units s.read.said.means in
    let long = (index_long (around_given f None) (units_of f.units) doc.units c.args.first c.in_ok-index.index s.read.said.means is).tops in
    let few = s.read.said.few in
    let room = c.requires.few in
    omega (arith, long, few, room)

pub unbound-requires-clause-few : goal.unbound-requires-clause-few
unbound-requires-clause-few c =
    let doc = c.requires.said.1 in
    let s = c.requires.said.2 in
    let f = c.args.common.now in
    let is = c.in_ok-index.ensures.names (around_given f None) doc.units s.read.said.means in
    let long = (index_long (around_given f None) (units_of f.units) doc.units c.args.first c.in_ok-index.index s.read.said.means is).tops in
    let tops = is.tops.len in
    let few = s.read.said.few in
    let room = c.requires.few in
    let many = c.requires.said.3 in
    omega (arith, long, tops, few, room, many)

pub unbound-requires-clause-len : goal.unbound-requires-clause-len
unbound-requires-clause-len c =
    let doc = c.requires.said.1 in
    let s = c.requires.said.2 in
    let is = c.in_ok-index.ensures.names (around_given c.args.common.now None) doc.units s.read.said.means in
    let tops = is.tops.len in
    let many = c.requires.said.3 in
    let seeds = c.in_ok-seeds.ensures.len in
    let slice = ap (λ (w : List Bool). length w) c.as_slice.ensures.value in
    omega (arith, tops, many, seeds, slice)

pub unbound-requires-clause-inside : goal.unbound-requires-clause-inside
unbound-requires-clause-inside c = are_inside c.args.targets.now c.requires.inside

pub returns-clause-len : goal.returns-clause-len
returns-clause-len c =
    let doc = c.requires.said.1 in
    let s = c.requires.said.2 in
    let is = c.in_ok-index.ensures.names (around_given c.args.common.now None) doc.units s.read.said.means in
    let tops = is.tops.len in
    let many = c.requires.said.3 in
    let seeds = c.in_ok-seeds.ensures.len in
    let slice = ap (λ (w : List Bool). length w) c.as_slice.ensures.value in
    let flags = c.in_ok-flags.ensures.len in
    omega (arith, tops, many, seeds, slice, flags)

pub returns-clause-flags : goal.returns-clause-flags
returns-clause-flags c = λ docs doc name labels s named bare. (
    let is = c.in_ok-index.ensures.names (around_given c.args.common.now None) doc.units s.read.said.means in
    c.in_ok-flags.ensures.flags docs doc s.placed s.read.partial s.tops
    (subst (λ (w : List Bool). AreCommonSeeds (reused_of docs doc) w) (sym c.as_slice.ensures.value) (c.in_ok-seeds.ensures.each docs doc s is))
    (targets_shown docs doc name labels c.args.targets.now s.placed s.read.partial named bare))
