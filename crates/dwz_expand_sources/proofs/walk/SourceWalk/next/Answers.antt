use Rattle.std.proofs.Common.{List, ap, subst, sym, ◌+◌, ◌∙◌, ◌∷◌, ℕ}
use Rattle.dwz_model.specs.Lists.{Each}
use Rattle.dwz_expand_sources.specs.declared.sources.SourceRange.{SourceRange}
use Rattle.dwz_expand_sources.specs.declared.walk.SourceWalk.TheInside.{Inside}
use Rattle.dwz_expand_sources.specs.Walk.{HasEntries, left}
use Rattle.dwz_expand_sources.proofs.WalkLemmas.{left_next, left_range}
use Rattle.dwz_expand_sources.proofs.walk.SourceWalk.next.Goals as goal
use Rattle.dwz_expand_sources.proofs.walk.SourceWalk.next.Goals.{then-self+in_ok-range, else-self}

-- the next source, and those behind it
abbrev behind : Inside → List ℕ
behind x = x.next ∷ left (x.next + 1) x.end x.ranges.now

pub returns : goal.returns
returns c =
    let was = c.self.inside in
    elim c.if-self.branch [
      | then-self+in_ok-range w ↦
          let first = w.in_ok-range.ensures.cases.0 in
          let some = (subst (λ (rs : List SourceRange). Each HasEntries rs) first c.self.invariant).0 in
          sym c.self.view_is
          ∙ left_range was.next was.end w.in_ok-range.range.now w.in_ok-range.ranges.now was.ranges.now w.if-self.true first some
          ∙ ap behind (sym w.self-inside-is)
      | else-self w ↦ sym c.self.view_is ∙ left_next was.next was.end was.ranges.now w.if-self.false ∙ ap behind (sym w.self-inside-is)
    ]
