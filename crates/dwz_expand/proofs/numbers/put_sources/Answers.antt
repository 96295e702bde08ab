use Rattle.std.proofs.Common.{ℕ, List, [], ◌∷◌, ◌++◌, sym, ap, ◌∙◌, append_assoc}
use Rattle.dwz_model.proofs.ListFacts.{got_there}
use Rattle.dwz_expand.proofs.WalkSteps.{one_source, planned_source}
use Rattle.dwz_expand.proofs.numbers.put_sources.Goals as goal

pub loop-i-preserved : goal.loop-i-preserved
loop-i-preserved c =
    let x = c.args.x.now.file.now in
    let n = c.args.x.now.unit in
    let v = c.loop-i.invariant in
    let i = c.in-Some.i in
    let step = c.in-Some.ensures in
    record {
      done = v.done ++ i ∷ [];
      whole = λ new got. v.whole new got ∙ ap (λ (w : List ℕ). v.done ++ w) step ∙ sym (append_assoc v.done (i ∷ []) c.next.new.self);
      told = λ f h.
          let new = got_there x.sources.now.units n c.requires.unit in
          let planned = planned_source x.sources.now.ranges x.sources.now.units n new.0 v.done c.next.new.self i new.1 (v.whole new.0 new.1 ∙ ap (λ (w : List ℕ). v.done ++ w) step) in
          one_source f x n v.done i c.args.told.now.items c.loop-i.told.items c.put_source.new.told.items (v.told f h) (c.in_ok-put_source.ensures f h planned);
    }
