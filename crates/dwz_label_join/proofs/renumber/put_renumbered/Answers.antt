use Rattle.std.proofs.Common.{◌≡◌, ◌+◌, ◌*◌, ◌%◌, ◌++◌, ℕ, ap, arith, drop, ◌∙◌}
use Rattle.std.specs.List.{flat_map}
use Rattle.dwz_label.specs.Labels.{number}
use Rattle.dwz_label_join.proofs.GroupLemmas.{parity}
use Rattle.dwz_label_join.proofs.MarkLemmas.{all_told, even_word, next_of, none_told, odd_word, one_more}
use Rattle.dwz_label_join.proofs.renumber.put_renumbered.Goals as goal

pub marks-init : goal.marks-init
marks-init c = λ names others marks told are. none_told names others marks c.args.label.now c.args.out.now.items told

pub marks-preserved-then-label-at-eq0 : goal.marks-preserved-then-label-at-eq0
marks-preserved-then-label-at-eq0 c = λ names others marks told are. (
    let label = c.args.label.now in
    let h = c.marks.invariant names others marks told are in
    let n = next_of names label c.marks.at h.left h.words c.marks-test.true h.are h.rest in
    let first = parity label c.marks.at (flat_map number n.others) n.word n.stands c.marks-test.true in
    let zero_left = c.if-label-at-eq0.true in
    let even : n.word % 2 ≡ 0 = omega arith in
    let done = c.in_ok-at.ensures.told n.word (flat_map number n.others) n.stands in
    one_more names others marks label c.marks.at c.in_ok-at.at c.args.out.now.items c.marks.out.items c.put_same.new.out.items h n
    (even_word names others n.mark n.word c.marks.out.items c.put_same.new.out.items n.word_is even done.1) done.0)

pub marks-preserved : goal.marks-preserved
marks-preserved c = λ names others marks told are. (
    let label = c.args.label.now in
    let h = c.marks.invariant names others marks told are in
    let n = next_of names label c.marks.at h.left h.words c.marks-test.true h.are h.rest in
    let first = parity label c.marks.at (flat_map number n.others) n.word n.stands c.marks-test.true in
    let some_left = c.if-label-at-eq0.false in
    let odd : n.word % 2 ≡ 1 = omega arith in
    let o = odd_word names others c.args.numbers.now n.mark n.word are n.word_is odd in
    let stands : drop c.marks.at label ≡ number (2 * o.name + 1) ++ flat_map number n.others = n.stands ∙ ap (λ (k : ℕ). number k ++ flat_map number n.others) o.word_is in
    let done = c.in_ok-at-2.ensures.told o.name o.n (flat_map number n.others) stands o.got in
    one_more names others marks label c.marks.at c.in_ok-at-2.at c.args.out.now.items c.marks.out.items c.put_other.new.out.items h n
    (o.adds c.marks.out.items c.put_other.new.out.items done.1) done.0)

pub returns : goal.returns
returns c = λ names others marks told are. all_told names others marks c.args.label.now c.marks.at c.args.out.now.items c.marks.out.items c.marks-test.false (c.marks.invariant names others marks told are)
