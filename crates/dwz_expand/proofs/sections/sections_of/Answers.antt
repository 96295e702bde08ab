use Rattle.std.proofs.Common.{ap, subst, sym, ◌∙◌}
use Rattle.dwz_graph.specs.Resolved.{sources_view}
use Rattle.dwz_expand_sections.specs.ListLaws.{AreListed}
use Rattle.dwz_expand.proofs.SectionsMade.{listed_numbers}
use Rattle.dwz_expand.proofs.sections.sections_of.Goals as goal

pub returns-in-Some : goal.returns-in-Some
returns-in-Some c = λ f file of free. (
    let l = c.in_ok-layout.ensures f of in
    let own = c.args.own.now in
    let these = c.as_slice.ensures.value in
    let gives = c.in_ok-numbers.ensures.gives f (record { known = of; laid = l; sources = ap (λ s. sources_view s) c.requires.sections ∙ file.sources }) free (subst (AreListed f) (sym these) file.listed) in
    let has =
    listed_numbers c.number_laws.ensures f own file c.as_slice.result.now c.as_slice-2.result.now c.in_ok-numbers.numbers.items these c.as_slice-2.ensures.value gives in
    c.in-Some.ensures.found f c.args.file.now file.reads l (c.in_ok-places.ensures f of l has))

pub returns : goal.returns
returns c = λ f file of free. (
    let l = c.in_ok-layout.ensures f of in
    let own = c.args.own.now in
    let these = c.as_slice.ensures.value in
    let gives = c.in_ok-numbers.ensures.gives f (record { known = of; laid = l; sources = ap (λ s. sources_view s) c.requires.sections ∙ file.sources }) free (subst (AreListed f) (sym these) file.listed) in
    let has =
    listed_numbers c.number_laws.ensures f own file c.as_slice.result.now c.as_slice-2.result.now c.in_ok-numbers.numbers.items these c.as_slice-2.ensures.value gives in
    let also =
    listed_numbers c.number_laws.ensures f own file c.as_slice.result.now c.as_slice-in-None.result.now c.in_ok-numbers.numbers.items these c.as_slice-in-None.ensures.value gives in (
      c.in-None.ensures.found f c.args.file.now file.reads l (c.in_ok-places.ensures f of l has),
      c.in_ok-sections-in-None.ensures f file of l also,
    ))
