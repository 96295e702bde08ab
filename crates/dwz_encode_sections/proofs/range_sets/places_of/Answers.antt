use Rattle.dwz_aranges.specs.declared.sets.Set.{Set}
use Rattle.dwz_encode_sections.specs.Ranges.{beside}
use Rattle.std.proofs.Common.{◌++◌, ◌∷◌, [], ap, ◌∙◌, ℕ}
use Rattle.dwz_encode_sections.proofs.RangeSetLemmas.{no_set, numbers_more}
use Rattle.dwz_encode_sections.proofs.range_sets.places_of.Goals as goal

pub loop-set-preserved : goal.loop-set-preserved
loop-set-preserved c =
    numbers_more (λ (s : Set). beside c.args.starts.now c.args.places.now s.unit) c.args.sets.now c.loop-set.set-index no_set c.loop-set.numbers.items c.push.new.self.items c.loop-set-test.true
    c.loop-set.invariant
    (c.in_ok-push.ensures.items ∙ ap (λ (n : ℕ). c.loop-set.numbers.items ++ n ∷ []) c.place_of.ensures)
