use Rattle.std.proofs.Common.{◌≡◌, ◌-◌, List, drop, length, take, ap, sym, ◌∙◌, arith}
use Rattle.std.proofs.lemmas.List.{length-drop, take_all}
use Rattle.dwz_bytes.specs.Input.{Input}
use Rattle.dwz_codes.specs.Forms.{form_rows}
use Rattle.dwz_model.specs.declared.place.Pair.{Pair}
use Rattle.dwz_unit.specs.Fronts.{attrs_passed}
use Rattle.dwz_unit.proofs.FixedRunLemmas.{run_passed, taken}
use Rattle.dwz_unit.proofs.front.pass_run.Goals as goal

pub returns : goal.returns
returns c = λ entry. (
    let pairs = c.args.pairs.now in
    let run = c.args.run in
    let rest = drop run.count pairs in
    let t = taken run.bytes c.args.cursor.now c.take.new.self c.in-Ok.field-0.now c.in-Ok.ensures in
    let all : take (length pairs - run.count) rest ≡ rest = take_all (length pairs - run.count) rest (omega (arith, length-drop run.count pairs)) in
    rw c.in-Own.is (ap (λ (w : List Pair). attrs_passed form_rows entry w c.take.new.self) all
    ∙ ap (λ (j : Input). attrs_passed form_rows entry rest j) (sym t.1)
    ∙ run_passed entry pairs run c.args.cursor.now c.requires t.0)
    )
