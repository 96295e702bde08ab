use Rattle.std.proofs.Common.{◌≡◌, ℕ, List, Bool, length, refl, sym, subst, ◌∙◌, arith}
use Rattle.std.specs.Prelude.{slice_index}
use Rattle.std.proofs.Math.ListN.{length-set}
use Rattle.dwz_rounds.specs.Settling.{IsFirst, IsPutTo}
use Rattle.dwz_rounds.proofs.Firsts.{put-none, put-more, new-first, old-first}
use Rattle.dwz_rounds.proofs.settle.put_firsts.Goals as goal
use Rattle.dwz_rounds.proofs.settle.put_firsts.Goals.{then-news-at, else-news-at}

pub loop-at-init : goal.loop-at-init
loop-at-init c = record { len = refl; put = λ keys todo few partly by. put-none keys c.args.nodes.now c.args.classes.now 0 }

pub loop-at-preserved : goal.loop-at-preserved
loop-at-preserved c =
    let nodes : List ℕ = c.args.nodes.now in
    let news : List Bool = c.args.news.now in
    let old : List ℕ = c.args.classes.now in
    let cur : List ℕ = c.loop-at.classes in
    let n : ℕ = c.loop-at.at in
    let node : ℕ = slice_index nodes n in
    let i = c.loop-at.invariant in
    record {
      len = length-set cur node c.if-news-at.first ∙ i.len;
      put = λ keys todo few partly by.
          let s = i.put keys todo few partly by in
          let first : IsFirst keys node c.if-news-at.first = elim c.if-news-at.branch [
            | then-news-at w ↦ subst (λ (x : ℕ). IsFirst keys node x) (sym w.first-is)
                (new-first keys todo nodes news old partly by n c.loop-at.first cur c.loop-at-test.true i.len s w.if-news-at.true)
            | else-news-at w ↦ subst (λ (x : ℕ). IsFirst keys node x) (sym w.first-is)
                (old-first keys todo nodes news old partly by n c.loop-at.first cur c.loop-at-test.true i.len s w.if-news-at.false)
          ] in
          put-more keys todo nodes news old partly by n c.loop-at.first cur c.loop-at-test.true i.len s c.if-news-at.first first;
    }

pub returns-clause-put : goal.returns-clause-put
returns-clause-put c = λ keys todo few partly by.
    let nodes : List ℕ = c.args.nodes.now in
    let at : c.loop-at.at ≡ length nodes = let t = c.loop-at-test.false in let e = c.loop-at.auto.at-end in omega arith in
    (c.loop-at.first, subst (λ (n : ℕ). IsPutTo keys nodes c.args.classes.now n c.loop-at.classes c.loop-at.first) at (c.loop-at.invariant.put keys todo few partly by))
