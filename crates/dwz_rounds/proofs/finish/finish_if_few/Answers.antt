use Rattle.std.proofs.Common.{◌<◌, ℕ, List, length, subst, arith}
use Rattle.std.proofs.lemmas.List.{get_or_default}
use Rattle.dwz_rounds.proofs.finish.finish_if_few.Goals as goal

pub few_moved-requires-clause-classes : goal.few_moved-requires-clause-classes
few_moved-requires-clause-classes c = λ k d l.
    let level = c.requires.level.1 in
    let classes : List ℕ = c.args.classes.now in
    subst (λ (x : ℕ). x < length classes) (get_or_default classes k 0 d l) (let e = level.len in let i = (level.each k (omega arith)).inside in omega arith)

pub few_moved-requires-clause-next : goal.few_moved-requires-clause-next
few_moved-requires-clause-next c = λ k d l.
    let level = c.requires.level.1 in
    let round = c.requires.round in
    let next : List ℕ = c.args.next.now in
    subst (λ (x : ℕ). x < length c.args.classes.now) (get_or_default next k 0 d l) (let e = round.len in let f = level.len in let i = (round.each k (omega arith)).inside in omega arith)
