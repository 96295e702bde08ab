use Rattle.std.proofs.Common.{◌∙◌, List, ℕ, take, sym, ap, arith}
use Rattle.std.specs.Option.{option_map}
use Rattle.std.specs.Global.{Vec}
use Rattle.std.proofs.lemmas.List.{length-take}
use Rattle.dwz_def_expand.specs.Chosen.{row_of_path}
use Rattle.dwz_expand_passes.proofs.PathLemmas.{none_kept, nth_none, nth_there}
use Rattle.dwz_expand_passes.proofs.paths.rows_of.Goals as goal

pub loop-rows-init : goal.loop-rows-init
unfolding row_of_path
loop-rows-init c = record { low = omega arith; rows = none_kept c.new-rows.result c.new-rows.ensures.empty }

pub loop-rows-smaller : goal.loop-rows-smaller
loop-rows-smaller c =
    let e = sym c.in_ok-path.ensures.path ∙ ap (option_map (λ (v : Vec ℕ). v.items)) c.in-Some.is in
    let t = nth_there c.args.table.now.paths c.loop-rows.row c.in-Some.path.items e in
    let lt = t.0 in
    omega (arith, lt)

pub loop-rows-preserved : goal.loop-rows-preserved
loop-rows-preserved c =
    let paths = c.args.table.now.paths in
    let n = c.loop-rows.row in
    let e = sym c.in_ok-path.ensures.path ∙ ap (option_map (λ (v : Vec ℕ). v.items)) c.in-Some.is in
    let t = nth_there paths n c.in-Some.path.items e in
    let lt = t.0 in
    let long = length-take n paths in
    record {
      low = omega (arith, lt);
      rows = λ path. (c.in_ok-put_row.ensures (take n paths) (omega (arith, lt, long)) c.loop-rows.invariant.rows path ∙ ap (λ (w : List (List ℕ)). row_of_path 0 w path) (sym t.1));
    }

pub returns : goal.returns
returns c =
    let paths = c.args.table.now.paths in
    λ path. (c.loop-rows.invariant.rows path ∙ ap (λ (w : List (List ℕ)). row_of_path 0 w path) (nth_none paths c.loop-rows.row (sym c.in_ok-path.ensures.path
    ∙ ap (option_map (λ (v : Vec ℕ). v.items)) c.in_default.is)))
