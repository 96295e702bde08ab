use Rattle.dwz_expand_sources.proofs.SourceLemmas.{have_ranges}
use Rattle.dwz_def_cross.specs.Tops.{whole_units}
use Rattle.dwz_expand_passes.proofs.units.pass_units.Goals as goal

pub of-requires-clause-ranges : goal.of-requires-clause-ranges
of-requires-clause-ranges g c = (let x = c.args.file.now in let p = c.requires.planned in have_ranges p.w x.sources.now.ranges x.sources.now.units (whole_units p.w.own) p.are.units)
