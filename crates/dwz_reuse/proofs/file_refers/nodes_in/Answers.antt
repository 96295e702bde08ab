use Rattle.std.proofs.Common.{◌≡◌, ◌++◌, List, None, map, refl, ap, ◌∙◌, arith}
use Rattle.dwz_def_check.specs.CrossLists.{numbered_units}
use Rattle.dwz_unit.specs.Rows.{units_of}
use Rattle.dwz_check_index.specs.Both.{from_top}
use Rattle.dwz_check_labels.specs.FilesSaid.{around_given}
use Rattle.dwz_check_labels.proofs.SaidLemmas.{index_long}
use Rattle.dwz_check_rows.specs.declared.columns.UnitNodes.{UnitNodes}
use Rattle.dwz_check_sides.specs.Units.{nodes_of}
use Rattle.dwz_reuse.proofs.file_refers.nodes_in.Goals as goal

pub put_units-requires-clause-lone : goal.put_units-requires-clause-lone
put_units-requires-clause-lone c =
    let r = c.requires in
    let f = c.args.file.now in
    let long = index_long (around_given f None) (units_of f.units) r.0 0 c.args.index.now r.1.means r.2 in
    let few = r.1.few in
    let lone = long.lone in
    omega (arith, few, lone)

pub put_units-requires-clause-tops : goal.put_units-requires-clause-tops
put_units-requires-clause-tops c =
    let r = c.requires in
    let f = c.args.file.now in
    let long = index_long (around_given f None) (units_of f.units) r.0 0 c.args.index.now r.1.means r.2 in
    let few = r.1.few in
    let tops = long.tops in
    let starts : c.args.index.now.starts.top ≡ 0 = ap (λ s. s.top) r.2.starts_are in
    omega (arith, few, tops, starts)

pub returns : goal.returns
returns c = λ said is k. (
    let f = c.args.file.now in
    c.in_ok-put_units.ensures said (from_top 0) (record {
      says = record { around = around_given f None; sources = refl; all = refl; place = refl; common_is = tt; means = is.means };
      index_is = k;
      few = is.few;
    })
    ∙ ap (λ (w : List UnitNodes). w ++ map (nodes_of 0) (numbered_units 0 0 said)) c.new-nodes.ensures.items)
