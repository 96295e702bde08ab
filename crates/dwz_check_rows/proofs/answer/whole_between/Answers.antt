use Rattle.std.proofs.Common.{◌≡◌, ◌<◌, ℕ, Bool, List, Vec, Global, ap, get_or, length, ◌∙◌, sym, arith}
use Rattle.std.proofs.lemmas.List.{get_or_default}
use Rattle.dwz_check_rows.specs.Rows.{is_whole}
use Rattle.dwz_check_rows.specs.UnitRows.{no_unit, unit_at}
use Rattle.dwz_check_rows.specs.declared.columns.RowKind.TheVariants.{Compile}
use Rattle.dwz_check_rows.specs.declared.columns.UnitNodes.{UnitNodes}
use Rattle.dwz_check_rows.proofs.KeyLemmas.{kept_number, passed_number}
use Rattle.dwz_check_rows.proofs.answer.whole_between.Goals as goal
use Rattle.dwz_check_rows.proofs.answer.whole_between.Goals.{then-is_whole+in_ok-push, else-is_whole}

-- what is read where there is no item
abbrev first_unit : UnitNodes
first_unit = record { kind = Compile 0 0; top = 0; tops_end = 0 }

pub loop-unit-preserved : goal.loop-unit-preserved
loop-unit-preserved c =
    let n = c.loop-unit.unit in
    let p : ℕ → Bool = λ k. is_whole (unit_at c.args.columns.now k).kind in
    let units : c.as_slice-units.result.now ≡ c.args.columns.now.units = c.as_slice-units.ensures in
    let end = c.requires.end in
    let below = c.loop-unit-test.true in
    let there : n < length c.as_slice-units.result.now = omega (arith, end, below, ap (λ (us : List UnitNodes). length us) units) in
    let is : c.is_whole.result ≡ p n =
    c.is_whole.ensures ∙ ap (λ (u : UnitNodes). is_whole u.kind) (get_or_default c.as_slice-units.result.now n first_unit no_unit there ∙ ap (λ (us : List UnitNodes). get_or us n no_unit) units) in
    let start = c.loop-unit.auto.unit in
    record {
      is = elim c.if-is_whole.branch [
        | then-is_whole+in_ok-push w ↦ kept_number p c.args.start n c.loop-unit.numbers.items c.if-is_whole.numbers.items start (sym is ∙ w.if-is_whole.true) c.loop-unit.invariant.is
            (ap (λ (v : Vec ℕ Global). v.items) w.numbers-is ∙ w.in_ok-push.ensures.items)
        | else-is_whole w ↦ passed_number p c.args.start n c.loop-unit.numbers.items c.if-is_whole.numbers.items start (sym is ∙ w.if-is_whole.false) c.loop-unit.invariant.is
            (ap (λ (v : Vec ℕ Global). v.items) w.numbers-is)
      ];
      low = omega (arith, start, below);
    }
