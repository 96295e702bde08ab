use Rattle.std.proofs.Common.{◌≡◌, Vec, Global, ℕ, List, subst, ◌∙◌}
use Rattle.dwz_def_expand.specs.Output.{new_ranges}
use Rattle.dwz_def_reading.proofs.CaseFacts.{if_ok}
use Rattle.dwz_encode_sections.specs.Ranges.{AreMoved}
use Rattle.dwz_expand_sections.proofs.RangeLemmas.{ranges_new}
use Rattle.dwz_expand_sections.proofs.ranges.ranges_after.Goals as goal

pub returns : goal.returns
returns c f has =
    let section = c.args.section.now in
    let units = c.args.units.now in
    if_ok c.ranges-2.result (λ (out : Vec ℕ Global). AreMoved units c.as_slice.result.now section out.items) (λ (out : Vec ℕ Global). out.items ≡ new_ranges f)
    (λ (out : Vec ℕ Global) moved.
    ranges_new f section units c.args.laid.now has c.requires.rises c.requires.as_many out.items
    (subst (λ (w : List ℕ). AreMoved units w section out.items) (c.as_slice.ensures.value ∙ c.in_ok-starts.ensures) moved))
    c.ranges-2.ensures
