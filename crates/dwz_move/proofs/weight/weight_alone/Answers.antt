use Rattle.std.proofs.Common.{ℕ, ◌+◌, sym, ap, ◌∙◌, if◌then◌else◌}
use Rattle.std.specs.Prelude.{nat_lt}
use Rattle.dwz_unit.specs.declared.rows.RawEntry.{RawEntry}
use Rattle.dwz_unit.specs.Rows.{units_of}
use Rattle.dwz_graph.proofs.RowSteps.{shown_row}
use Rattle.dwz_move.proofs.weight.weight_alone.Goals as goal

pub returns : goal.returns
returns c = λ row found. (
    let same = shown_row (units_of c.args.units.now) c.args.i row c.entry-end.result found c.entry-end.ensures.entry in
    c.own_weight.ensures
    ∙ (λ k. let n : ℕ = if nat_lt (c.from-2.ensures k + 1) (c.from.ensures k) then 2 else 1 in n)
    ∙ ap (λ (x : RawEntry). let n : ℕ = if nat_lt (c.args.i + 1) x.end then 2 else 1 in n) (sym same))
