use Rattle.std.proofs.Common.{◌∙◌}
use Rattle.dwz_expand_sources.proofs.SourceLemmas.{have_ranges}
use Rattle.dwz_def_cross.specs.Tops.{whole_units}
use Rattle.dwz_expand_layout.specs.Laid.{layout_view}
use Rattle.dwz_expand.proofs.AllTold.{all_told}
use Rattle.dwz_expand.proofs.numbers.list_numbers.Goals as goal

pub of-requires-clause-ranges : goal.of-requires-clause-ranges
of-requires-clause-ranges c = (let x = c.args.file.now in let p = c.requires.ready.planned in have_ranges p.w x.sources.now.ranges x.sources.now.units (whole_units p.w.own) p.are.units)

pub returns-clause-gives : goal.returns-clause-gives
returns-clause-gives c = λ f h can listed.
    let told = c.in_ok-told.ensures f h in
    c.row_numbers.ensures.gives f h.known.reads listed (all_told f c.args.file.now (layout_view c.args.layout.now) h c.as_slice.result.now (c.as_slice.ensures.value ∙ told))
