use Rattle.std.proofs.Common.{[], ◌∷◌, length, ap, arith}
use Rattle.std.proofs.lemmas.List.{length-append}
use Rattle.dwz_encode_operands.proofs.NumberSteps.{no_operand, numbers_all, numbers_more}
use Rattle.dwz_encode_operands.proofs.operands.operand_numbers.Goals as goal

pub loop-operand-preserved : goal.loop-operand-preserved
loop-operand-preserved c =
    let more = ap length c.in_ok-push.ensures.items in
    let both = length-append c.loop-operand.numbers.items (c.number_of.result ∷ []) in
    let many = c.loop-operand.invariant.0 in (
      omega (arith, more, both, many),
      λ docs m names planned file. numbers_more docs m names c.args.places.now c.args.units_at.now c.args.operands.now c.loop-operand.numbers.items c.push.new.self.items
          c.loop-operand.operand-index c.number_of.result no_operand c.loop-operand-test.true (c.loop-operand.invariant.1 docs m names planned file)
          (record { entry = c.image-number.result; image = c.image-number.ensures docs m names planned file; is = c.number_of.ensures }) c.in_ok-push.ensures.items,
    )

pub returns-clause-numbers : goal.returns-clause-numbers
returns-clause-numbers c = λ docs m names planned file. numbers_all docs m names c.args.places.now c.args.units_at.now c.args.operands.now c.loop-operand.numbers.items
    c.loop-operand.operand-index (omega arith) (c.loop-operand.invariant.1 docs m names planned file)
