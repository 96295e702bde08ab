use Rattle.std.proofs.Common.{◌≡◌, ◌+◌, ◌∷◌, ◌++◌, [], List, false, get_or, sym, subst, take}
use Rattle.std.proofs.lemmas.List.{take_more}
use Rattle.dwz_model.specs.declared.place.Base.TheVariants.{Unit as FromUnit}
use Rattle.dwz_def_reading.specs.declared.exprs.Operand.{Operand}
use Rattle.dwz_expand_sections.specs.Narrow.{FirstPlace}
use Rattle.dwz_expand_sections.proofs.narrow.first_narrow.Goals as goal

no_operand : Operand
no_operand = record { at = 0; width = 0; uleb = false; base = FromUnit; number = 0 }

pub loop-operand-preserved : goal.loop-operand-preserved
unfolding no_operand
loop-operand-preserved c =
    let operands = c.args.operands.now in
    let i = c.loop-operand.operand-index in
    let more = c.note_operand-first.ensures (take i operands) c.loop-operand.invariant in
    let same : take (i + 1) operands ≡ take i operands ++ get_or operands i no_operand ∷ [] = take_more operands i no_operand c.loop-operand-test.true in
    subst (λ (w : List Operand). FirstPlace w c.note_operand-first.result) (sym same) more
