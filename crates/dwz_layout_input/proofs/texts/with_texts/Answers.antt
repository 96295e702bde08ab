use Rattle.std.proofs.Common.{List, ap, length, refl, ◌∙◌, arith}
use Rattle.std.proofs.lemmas.List.{with_items_is}
use Rattle.dwz_layout.specs.declared.known.SpaceRow.{SpaceRow}
use Rattle.dwz_layout_input.specs.Shown.{spaces_with}
use Rattle.dwz_layout_input.proofs.TextSteps.{listed_with}
use Rattle.dwz_layout_input.proofs.texts.with_texts.Goals as goal

pub returns-clause-listed : goal.returns-clause-listed
returns-clause-listed c = λ beside f before h. (
    let known = c.args.known in
    listed_with f before known _ c.args.texts (record { files = c.requires.files; spaces = c.requires.spaces; commons = c.requires.commons; numbers = c.requires.numbers }) c.in_ok-files.ensures
    (with_items_is known.spaces c.put_names.new.spaces (omega (arith, known.spaces.ok.0, ap (λ (w : List SpaceRow). length w) c.as_mut_slice.ensures.value, c.put_names.auto.spaces))
    ∙ c.put_names.ensures ∙ (λ i. spaces_with (c.as_mut_slice.ensures.value i) (c.as_slice.ensures.value i) (c.as_slice-2.ensures.value i)))
    refl refl refl refl h)
