use Rattle.std.proofs.Common.{None, length, map, ap, ◌∙◌, arith}
use Rattle.std.proofs.lemmas.List.{take_all}
use Rattle.dwz_check_index.specs.declared.index.TopEntry.{TopEntry}
use Rattle.dwz_check_labels.specs.FilesSaid.{around_given}
use Rattle.dwz_def_check.specs.CrossNames.{cross_names_from, cross_tops}
use Rattle.dwz_unit.specs.Rows.{units_of}
use Rattle.dwz_reuse.specs.Binding.{tree_binds}
use Rattle.dwz_reuse.proofs.TopSteps.{entry_low, flags_next, refs_known, top_here}
use Rattle.dwz_reuse.proofs.top_binds.tops_bind.Goals as goal

abbrev none : TopEntry
none = record { entry = 0; unit = 0; outer = 0 }

pub top_binds-requires : goal.top_binds-requires
top_binds-requires c =
    let said = c.requires.0 in
    let top = c.requires.1 in
    let f = c.args.file.now in
    let o = top_here said top c.args.index.now c.requires.3 c.tops-top-items.result.now c.tops-top-items.ensures c.loop-top.top-index none c.loop-top-test.true in
    entry_low (around_given f None) (units_of f.units) said _ (o.t.node, o.t.below) c.requires.2.means o.is.found

pub loop-top-preserved : goal.loop-top-preserved
loop-top-preserved c = λ said top name tops unit file index into has. (
    let f = c.args.file.now in
    let i = c.loop-top.top-index in
    let o = top_here said top c.args.index.now index c.tops-top-items.result.now c.tops-top-items.ensures i none c.loop-top-test.true in
    let knows = refs_known f said file name c.args.into.now into c.as_slice-starts.result.now c.as_slice-starts.ensures.value in
    flags_next (tree_binds tops unit name) (cross_tops said) i o.t c.loop-top.flags.items c.push.new.self.items c.in_ok-top_binds.field-0 o.got
    (c.loop-top.invariant said top name tops unit file index into has) c.in_ok-push.ensures.items
    (c.in_ok-top_binds.ensures (around_given f None) f.resolved.refs.items name said tops unit (cross_names_from 0 top said) _ o.t knows file.means has o.is))

pub returns : goal.returns
returns c = λ said top name tops unit file index into has. (
    let many = index.tops.len in
    let long = ap (λ w. length w) c.tops-top-items.ensures in
    let last = c.loop-top-test.false in
    c.loop-top.invariant said top name tops unit file index into has ∙ ap (map (tree_binds tops unit name)) (take_all c.loop-top.top-index (cross_tops said) (omega (arith, many, long, last))))
