use Rattle.std.proofs.Common.{◌≡◌, ◌+◌, ◌++◌, ◌∷◌, [], ℕ, Option, None, get_or, sym, subst, take}
use Rattle.dwz_def_reading.specs.Patching.{renumbered}
use Rattle.dwz_def_reading.specs.declared.exprs.Operand.{Operand}
use Rattle.dwz_encode_sections.proofs.ListLemmas.{no_operand}
use Rattle.dwz_expand_sections.specs.Lists.{numbered, numbers_of, rows_with, with_new}
use Rattle.dwz_expand_sections.specs.Narrow.{FirstPlace}
use Rattle.dwz_expand_sections.proofs.ListLemmas.{none_unless}
use Rattle.dwz_expand_sections.proofs.ListedLemmas.{FirstTo, first_all, first_in_file, first_more, first_same}
use Rattle.dwz_expand_sections.proofs.listed.first_listed.Goals as goal
use Rattle.dwz_expand_sections.proofs.listed.first_listed.Goals.{in-Some, in_default}

pub loop-i-init : goal.loop-i-init
unfolding rows_with numbers_of renumbered
loop-i-init c o there narrow = there

pub loop-i-preserved : goal.loop-i-preserved
loop-i-preserved c =
    let operands = c.args.operands.now in
    let numbers = c.args.numbers.now in
    let i = c.loop-i.i in
    let lt = c.loop-i-test.true in
    elim c.match-numbers-i.branch [
      | in-Some w ↦
          (let done = numbered (take i operands) (take i numbers) in
          let noted : FirstPlace (done ++ with_new (get_or operands i no_operand) w.in-Some.number ∷ []) w.note_operand-first.result =
          subst (λ (o : Operand). FirstPlace (done ++ o ∷ []) w.note_operand-first.result) w.renumbered.ensures (w.note_operand-first.ensures done c.loop-i.invariant) in
          subst (λ (r : Option ℕ). FirstTo operands numbers (i + 1) r) (sym w.first-is)
          (first_more operands numbers i lt c.requires w.note_operand-first.result w.in-Some.number no_operand w.in-Some.is noted))
      | in_default w ↦
          (let none : get_or numbers i None ≡ None = none_unless (get_or numbers i None) w.in_default.not-Some in
          subst (λ (r : Option ℕ). FirstTo operands numbers (i + 1) r) (sym w.first-is) (first_same operands numbers i lt c.requires c.loop-i.first none c.loop-i.invariant))
    ]

pub returns-clause-numbered : goal.returns-clause-numbered
returns-clause-numbered c = first_all c.args.operands.now c.args.numbers.now c.loop-i.i c.loop-i.first c.loop-i-test.false c.requires c.loop-i.invariant

pub returns-clause-file : goal.returns-clause-file
returns-clause-file c f section has =
    first_in_file f section c.args.operands.now c.args.numbers.now c.loop-i.first has
    (first_all c.args.operands.now c.args.numbers.now c.loop-i.i c.loop-i.first c.loop-i-test.false c.requires c.loop-i.invariant)
