use Rattle.std.proofs.Common.{◌≡◌, ℕ, None, sym, ap, subst, arith}
use Rattle.dwz_check_index.specs.Both.{from_top}
use Rattle.dwz_check_index.specs.Index.{IsCrossIndex}
use Rattle.dwz_check_labels.specs.FilesSaid.{around_given}
use Rattle.dwz_check_labels.proofs.SaidLemmas.{index_long}
use Rattle.dwz_unit.specs.Rows.{units_of}
use Rattle.dwz_reuse.proofs.UnitsFew.{index_units}
use Rattle.dwz_reuse.proofs.part_tops.tops_of_parts.Goals as goal

pub common_tops-requires-clause-units : goal.common_tops-requires-clause-units
common_tops-requires-clause-units c =
    let doc = c.requires.said.0 in
    let r = c.requires.said.1 in
    index_units c.args.common.now doc r c.args.first c.in_ok-index.index (c.in_ok-index.ensures.names (around_given c.args.common.now None) doc.units r.said.means)

pub common_tops-requires-clause-tops : goal.common_tops-requires-clause-tops
common_tops-requires-clause-tops c =
    let doc = c.requires.said.0 in
    let r = c.requires.said.1 in
    let f = c.args.common.now in
    let is = c.in_ok-index.ensures.names (around_given f None) doc.units r.said.means in
    let long = index_long (around_given f None) (units_of f.units) doc.units c.args.first c.in_ok-index.index r.said.means is in
    let few = r.said.few in
    let tops = long.tops in
    let room = c.requires.few in
    let starts : c.in_ok-index.index.starts.top ≡ c.args.first = ap (λ s. s.top) is.starts_are in
    omega (arith, few, tops, starts, room)

pub returns : goal.returns
returns c = λ docs doc r same. (
    let is = c.in_ok-index.ensures.names (around_given c.args.common.now None) doc.units r.said.means in
    c.common_tops.ensures docs doc r.partial (subst (λ (n : ℕ). IsCrossIndex (from_top n) doc.units c.in_ok-index.index) (sym same) is))
