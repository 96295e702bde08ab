use Rattle.std.proofs.Common.{◌<◌, ℕ, List, get_or, ap, ◌∙◌, arith}
use Rattle.std.proofs.lemmas.List.{take_all}
use Rattle.dwz_def_reading.specs.Units.{entries_in}
use Rattle.dwz_check_index.specs.Index.{listed_units}
use Rattle.dwz_move.specs.Known.{tops_of_refs}
use Rattle.dwz_move.proofs.IntoLemmas.{entry_at, refs_next}
use Rattle.dwz_unit.specs.Rows.{units_of}
use Rattle.dwz_reuse.specs.Into.{common_name}
use Rattle.dwz_reuse.proofs.IntoSteps.{entry_top}
use Rattle.dwz_reuse.proofs.into.tops_into.Goals as goal

pub top_of-requires : goal.top_of-requires
top_of-requires c =
    let raw = units_of c.args.common.now.units in
    let refs : List ℕ = c.args.refs.now in
    let low : get_or refs c.loop-entry.entry-index 0 < entries_in raw = entry_at raw refs c.loop-entry.entry-index c.requires.entries c.loop-entry-test.true in
    let long = c.requires.steps in
    omega (arith, low, long)

pub loop-entry-preserved : goal.loop-entry-preserved
loop-entry-preserved c = λ docs doc s is. (
    let f = c.args.common.now in
    let raw = units_of f.units in
    let refs : List ℕ = c.args.refs.now in
    let k = c.loop-entry.entry-index in
    let low : get_or refs k 0 < entries_in raw = entry_at raw refs k c.requires.entries c.loop-entry-test.true in
    let o = entry_top docs f doc s c.args.index.now is c.requires.steps (get_or refs k 0) low in
    refs_next (common_name docs doc) raw refs k c.loop-entry.into.items c.push.new.self.items c.top_of.result c.loop-entry-test.true (c.loop-entry.invariant docs doc s is)
    (c.top_of.ensures _ (listed_units doc.units) o.called is.names o.got ∙ o.same) c.in_ok-push.ensures.items)

pub returns : goal.returns
returns c = λ docs doc s is. (
    let refs : List ℕ = c.args.refs.now in
    let last = c.loop-entry-test.false in
    c.loop-entry.invariant docs doc s is
    ∙ ap (tops_of_refs (common_name docs doc) (units_of c.args.common.now.units)) (take_all c.loop-entry.entry-index refs (omega (arith, last))))
