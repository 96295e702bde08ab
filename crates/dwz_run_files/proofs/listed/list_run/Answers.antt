use Rattle.std.proofs.Common.{refl, ◌∙◌}
use Rattle.dwz_layout_input.specs.Shown.{texts_shown}
use Rattle.dwz_layout_input.proofs.Fits.{fit}
use Rattle.dwz_run_files.proofs.UnitsFew.{room}
use Rattle.dwz_run_files.proofs.RunSettled.{all_listed}
use Rattle.dwz_run_files.proofs.listed.list_run.Goals as goal

pub number_units-requires-clause-numbers : goal.number_units-requires-clause-numbers
number_units-requires-clause-numbers c =
    let p = c.args.run.now.settled.planned in
    room c.args.graph.now.given c.args.files.now c.args.run.now.settled.scope p.tops p.plan c.requires.kept c.requires.run.planned.fits

pub known_of-requires-clause-fit : goal.known_of-requires-clause-fit
known_of-requires-clause-fit c =
    let a = c.args.run.now in
    let fits = c.requires.run.planned.fits in
    fit c.args.graph.now.given c.args.files.now a.indexes.now a.settled.planned.plan c.requires.kept c.requires.run.indexed c.requires.few
    fits.homes fits.stand_ins

pub known_of-requires-clause-spaces : goal.known_of-requires-clause-spaces
known_of-requires-clause-spaces c = (c.in_ok-texts.ensures.spaces c.args.run.now.indexes.now c.requires.run.indexed).many

pub known_of-requires-clause-commons : goal.known_of-requires-clause-commons
known_of-requires-clause-commons c = c.in_ok-texts.ensures.commons ∙ (c.in_ok-texts.ensures.spaces c.args.run.now.indexes.now
    c.requires.run.indexed).many

pub returns : goal.returns
returns c =
    let indexes = c.args.run.now.indexes.now in
    all_listed c.args.graph.now.given c.args.files.now c.args.run.now indexes c.as_slice-written.result.now
    c.in_ok-numbers.numbers
    (texts_shown c.in_ok-texts.texts) c.known_of.result refl c.as_slice-written.ensures.value
    c.in_ok-numbers.ensures
    c.in_ok-texts.ensures.files (c.in_ok-texts.ensures.spaces indexes c.requires.run.indexed) c.known_of.ensures
