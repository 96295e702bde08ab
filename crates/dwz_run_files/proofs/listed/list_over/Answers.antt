use Rattle.std.proofs.Common.{ℕ, List, Bool, length, ap, sym, subst, ◌∙◌}
use Rattle.dwz_graph.specs.Files.{docs_of}
use Rattle.dwz_unit.specs.Rows.{rows_of}
use Rattle.dwz_layout_input.specs.Over.{IsBehind}
use Rattle.dwz_layout_input.specs.Shown.{texts_shown}
use Rattle.dwz_layout_input.proofs.FitsOver.{fit_over}
use Rattle.dwz_run_files.proofs.OverSettled.{listed_over, room_over}
use Rattle.dwz_run_files.proofs.listed.list_over.Goals as goal

pub number_units-requires-clause-flags : goal.number_units-requires-clause-flags
number_units-requires-clause-flags c = ap (λ (w : List Bool). length w) c.as_slice-written.ensures.value ∙ c.requires.run.1.many

pub number_units-requires-clause-numbers : goal.number_units-requires-clause-numbers
number_units-requires-clause-numbers c =
    let r = c.requires.run in
    room_over r.0 c.args.graph.now.given c.args.run.now r.1 c.args.files.now c.requires.kept c.args.standing.now r.2

pub known_over-requires-clause-fit : goal.known_over-requires-clause-fit
known_over-requires-clause-fit c =
    let r = c.requires.run in
    let a = c.args.run.now in
    let fits = r.1.planned.fits in
    fit_over c.args.graph.now.given c.args.files.now a.indexes.now a.settled.planned.plan r.0.doc c.args.standing.now.index c.requires.kept
    r.1.indexed c.requires.few r.2.behind fits.homes fits.stand_ins

pub known_over-requires-clause-spaces : goal.known_over-requires-clause-spaces
known_over-requires-clause-spaces c = (c.in_ok-texts.ensures.spaces c.args.run.now.indexes.now c.requires.run.1.indexed).many

pub known_over-requires-clause-commons : goal.known_over-requires-clause-commons
known_over-requires-clause-commons c = c.in_ok-texts.ensures.commons ∙ (c.in_ok-texts.ensures.spaces c.args.run.now.indexes.now
    c.requires.run.1.indexed).many

pub returns : goal.returns
returns c s is standing =
    let indexes = c.args.run.now.indexes.now in
    listed_over s c.args.graph.now.given c.args.files.now c.args.run.now c.as_slice-written.result.now c.in_ok-numbers.numbers
    (texts_shown c.in_ok-texts.texts) c.known_over.result c.as_slice-written.ensures.value c.in_ok-numbers.ensures
    c.in_ok-texts.ensures.files (c.in_ok-texts.ensures.spaces indexes is.indexed)
    (λ f same made. c.known_over.ensures s f made (ap rows_of standing.raw_is)
    (subst (λ (cs : List (List ℕ)). IsBehind (docs_of cs) s.doc c.args.standing.now.index) (sym same) standing.behind))
