use Rattle.std.proofs.Common.{◌≡◌, ℕ, ◌+◌, List, Bool, ap, sym, subst, arith, ◌∙◌, length}
use Rattle.dwz_rounds.specs.Marked.{AreMarked}
use Rattle.dwz_rounds.specs.Pending.{AreOfClass}
use Rattle.dwz_rounds.proofs.Visiting.{class-more, class-same}
use Rattle.dwz_rounds.proofs.visit.visit_class.Goals as goal
use Rattle.dwz_rounds.proofs.visit.visit_class.Goals.{then-numbers-node+in_ok-put, else-numbers-node}

pub loop-at-preserved : goal.loop-at-preserved
loop-at-preserved c =
    let numbers : List ℕ = c.args.numbers.now in
    let members : List ℕ = c.args.members.now in
    let old : List ℕ = c.args.visit.now.items in
    let was = c.loop-at.invariant in
    elim c.if-numbers-node.branch [
      | then-numbers-node+in_ok-put w ↦
          let items : c.if-numbers-node.visit.items ≡ w.put.new.list.items = ap (λ v. v.items) w.visit-is in
          let marks : c.if-numbers-node.marks ≡ w.put.new.marks = w.marks-is in
          let len = w.put.ensures.len in
          record {
            len = ap (λ (m : List Bool). length m) marks ∙ (len.0 ∙ was.len);
            grown = let a = was.grown in let b = len.1 in let e = ap (λ (v : List ℕ). length v) items in omega arith;
            marked = subst (λ (q : List Bool × List ℕ). AreMarked q.0 q.1) (λ j. (sym marks j, sym items j)) w.in_ok-put.ensures.marked;
            of_class = subst (λ (v : List ℕ). AreOfClass numbers members c.args.class c.args.range.start (c.loop-at.at + 1) old v) (sym items)
                (class-more numbers members c.args.class c.args.range.start c.loop-at.at old c.loop-at.visit.items was.of_class w.put.new.list.items w.if-numbers-node.true w.in_ok-put.ensures.put);
          }
      | else-numbers-node w ↦
          let items : c.if-numbers-node.visit.items ≡ c.loop-at.visit.items = ap (λ v. v.items) w.visit-is in
          let marks : c.if-numbers-node.marks ≡ c.loop-at.marks = w.marks-is in
          record {
            len = ap (λ (m : List Bool). length m) marks ∙ was.len;
            grown = let a = was.grown in let e = ap (λ (v : List ℕ). length v) items in omega arith;
            marked = subst (λ (q : List Bool × List ℕ). AreMarked q.0 q.1) (λ j. (sym marks j, sym items j)) was.marked;
            of_class = subst (λ (v : List ℕ). AreOfClass numbers members c.args.class c.args.range.start (c.loop-at.at + 1) old v) (sym items)
                (class-same numbers members c.args.class c.args.range.start c.loop-at.at old c.loop-at.visit.items was.of_class w.if-numbers-node.false);
          }
    ]
