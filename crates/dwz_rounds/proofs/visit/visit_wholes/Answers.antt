use Rattle.std.proofs.Common.{ℕ, ◌<◌, All, List, length, subst, sym, arith, ◌∙◌}
use Rattle.dwz_rounds.proofs.Marking.{marked-inside}
use Rattle.dwz_rounds.proofs.Visiting.{with-more}
use Rattle.dwz_rounds.proofs.visit.visit_wholes.Goals as goal

pub count_hits-requires-clause-visit : goal.count_hits-requires-clause-visit
count_hits-requires-clause-visit c =
    subst (λ (v : List ℕ). All (λ a. a < length c.args.numbers.now) v) (sym c.as_slice.ensures.value)
    (marked-inside c.args.marks.now c.args.visit.now.items (length c.args.numbers.now) c.requires.len.0 c.requires.marked)

pub bounds-numbers-index : goal.bounds-numbers-index
bounds-numbers-index c =
    let i = c.loop-at.invariant in
    let inside : c.loop-at.at < length c.loop-at.visit.items = let a = c.loop-at-test.true in let b = i.grown in omega arith in
    subst (λ (a : ℕ). a < length c.args.numbers.now) (sym c.index.ensures)
    (marked-inside c.loop-at.marks c.loop-at.visit.items (length c.args.numbers.now) (i.marks ∙ c.requires.len.0) i.marked c.loop-at.at c.index.result.now inside)

pub visit_whole-requires-clause-class : goal.visit_whole-requires-clause-class
visit_whole-requires-clause-class c =
    let i = c.loop-at.invariant in
    let inside : c.loop-at.at < length c.loop-at.visit.items = let a = c.loop-at-test.true in let b = i.grown in omega arith in
    let there : c.index.result.now < length c.args.numbers.now = subst (λ (a : ℕ). a < length c.args.numbers.now) (sym c.index.ensures)
    (marked-inside c.loop-at.marks c.loop-at.visit.items (length c.args.numbers.now) (i.marks ∙ c.requires.len.0) i.marked c.loop-at.at c.index.result.now inside) in
    c.requires.numbers c.index.result.now 0 there

pub loop-at-preserved : goal.loop-at-preserved
loop-at-preserved c =
    let i = c.loop-at.invariant in
    let e = c.in_ok-visit_whole.ensures in
    let len = c.visit_whole.ensures.len in
    record {
      marks = len.0 ∙ i.marks;
      whole = len.1 ∙ i.whole;
      grown = let a = i.grown in let b = len.2 in omega arith;
      marked = e.marked;
      marked_wholes = e.wholes;
      with_wholes = with-more c.args.numbers.now c.args.visit.now.items c.loop-at.visit.items c.visit_whole.new.visit.items c.loop-at.wholes.items c.visit_whole.new.wholes.items i.with_wholes e.from
          e.kept e.kept_wholes e.whole;
    }

pub clear_hits-requires-clause-visit : goal.clear_hits-requires-clause-visit
clear_hits-requires-clause-visit c =
    let i = c.loop-at.invariant in
    subst (λ (v : List ℕ). All (λ a. a < length c.args.numbers.now) v) (sym c.as_slice-2.ensures.value)
    (marked-inside c.loop-at.marks c.loop-at.visit.items (length c.args.numbers.now) (i.marks ∙ c.requires.len.0) i.marked)
