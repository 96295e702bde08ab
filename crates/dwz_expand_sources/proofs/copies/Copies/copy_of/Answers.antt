use Rattle.std.proofs.Common.{◌<◌, Some, None, length, subst, sym}
use Rattle.dwz_expand_sources.specs.Rows.{Copies}
use Rattle.dwz_expand_sources.proofs.AnswerLemmas.{Tells, first_tells, here_tells, none_tells}
use Rattle.dwz_expand_sources.proofs.copies.Copies.copy_of.Goals as goal

pub returns-then-here-self : goal.returns-then-here-self
returns-then-here-self c =
    let low = subst (λ (k : Copies). c.args.entry < length k.first) (sym c.self.view_is) c.requires.entry in
    subst (λ (k : Copies). Tells c.args.entry k (Some c.index-here.result.now)) c.self.view_is
    (here_tells c.args.entry _ low c.index-here.result.now c.index-here.ensures c.if-here-self.true)

pub returns-then-first-self : goal.returns-then-first-self
returns-then-first-self c =
    let low = subst (λ (k : Copies). c.args.entry < length k.first) (sym c.self.view_is) c.requires.entry in
    subst (λ (k : Copies). Tells c.args.entry k (Some c.index-first.result.now)) c.self.view_is
    (first_tells c.args.entry _ low c.index-here.result.now c.index-here.ensures c.if-here-self.false c.index-first.result.now c.index-first.ensures c.if-first-self.true)

pub returns-else-first-self : goal.returns-else-first-self
returns-else-first-self c =
    let low = subst (λ (k : Copies). c.args.entry < length k.first) (sym c.self.view_is) c.requires.entry in
    subst (λ (k : Copies). Tells c.args.entry k None) c.self.view_is
    (none_tells c.args.entry _ low c.index-here.result.now c.index-here.ensures c.if-here-self.false c.index-first.result.now c.index-first.ensures c.if-first-self.false)
