use Rattle.std.proofs.Common.{ap, arith, sym, ◌∙◌}
use Rattle.dwz_bytes.specs.Reading.{uleb_at}
use Rattle.dwz_label_differences.proofs.Numbers.{number_read, one_number}
use Rattle.dwz_label_differences.proofs.pieces.count_of.Goals as goal

pub returns-in-Ok-clause-is : goal.returns-in-Ok-clause-is
returns-in-Ok-clause-is c = λ n rest e few. (
    let r = number_read n c.args.label.now rest (omega (arith, few)) e in
    let same = one_number c.in-Ok.number n _ r.0 (sym c.in-Ok.ensures ∙ ap uleb_at c.new.ensures ∙ r.1) in
    let least = c.min.ensures in
    omega (arith, same, least, few))

pub returns-in-Err-clause-is : goal.returns-in-Err-clause-is
returns-in-Err-clause-is c = λ n rest e few. (
    let r = number_read n c.args.label.now rest (omega (arith, few)) e in
    let both = sym c.in-Err.ensures.0 ∙ ap uleb_at c.new.ensures ∙ r.1 in
    absurd cc)
