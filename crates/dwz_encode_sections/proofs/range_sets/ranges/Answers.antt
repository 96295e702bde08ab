use Rattle.std.proofs.Common.{◌≡◌, ◌∙◌, List, Ok, Vec, Global, subst, sym, ℕ}
use Rattle.dwz_def_reading.specs.Input.{input}
use Rattle.dwz_def_reading.proofs.CaseFacts.{if_ok}
use Rattle.dwz_def_reading.specs.Ranges.{sets_at}
use Rattle.dwz_aranges.specs.declared.sets.Set.{Set}
use Rattle.dwz_aranges.specs.Patching.{IsPatched}
use Rattle.dwz_aranges.specs.Views.{any_unit, set_views}
use Rattle.dwz_encode_sections.specs.Ranges.{AreMoved}
use Rattle.dwz_encode_sections.proofs.RangeSetLemmas.{as_many_sets, moved_sets}
use Rattle.dwz_encode_sections.proofs.range_sets.ranges.Goals as goal

pub patched-requires : goal.patched-requires
patched-requires c =
    let read = subst (λ (sets : List Set). sets_at any_unit (input c.args.section.now 0) ≡ Ok (set_views sets)) (sym c.as_slice.ensures) c.in_ok-sets.ensures in
    as_many_sets c.args.starts.now c.args.places.now c.args.section.now c.new.result c.as_slice.result.now read (c.new.ensures ∙ c.in_ok-numbers.ensures)

pub returns : goal.returns
returns c =
    let read = subst (λ (sets : List Set). sets_at any_unit (input c.args.section.now 0) ≡ Ok (set_views sets)) (sym c.as_slice.ensures) c.in_ok-sets.ensures in
    if_ok c.patched-2.result (λ (out : Vec ℕ Global). IsPatched c.args.section.now c.new.result out.items)
    (λ (out : Vec ℕ Global). AreMoved c.args.starts.now c.args.places.now c.args.section.now out.items)
    (λ (out : Vec ℕ Global) is. moved_sets c.args.starts.now c.args.places.now c.args.section.now c.new.result out.items c.as_slice.result.now read
    (c.new.ensures ∙ c.in_ok-numbers.ensures) is) c.patched-2.ensures
