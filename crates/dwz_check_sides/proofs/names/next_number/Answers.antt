use Rattle.std.proofs.Common.{◌≡◌, true, false, length, sym, ap, ◌∙◌, arith}
use Rattle.std.proofs.lemmas.Option.{slice_get-get_or}
use Rattle.dwz_check_index.specs.Index.{CrossIndex}
use Rattle.dwz_check_index.proofs.WayLemmas.{step_there}
use Rattle.dwz_check_sides.proofs.NameTexts.{steps_long}
use Rattle.dwz_check_sides.proofs.SpaceSteps.{none_number, space_number, the_space}
use Rattle.dwz_check_sides.proofs.names.next_number.Goals as goal

pub returns-then-not-is_space-clause-number : goal.returns-then-not-is_space-clause-number
returns-then-not-is_space-clause-number c = λ said starts name side have found. (
    let i = length c.args.numbers.now in
    let x = c.index-step.result.now in
    let there = step_there c.args.side.now.index.now c.index.inside.steps.items i x (ap (λ (w : CrossIndex). w.steps) c.index.view_is) c.requires.within c.index-step.ensures in
    let no : c.is_space.result ≡ false = c.if-not-is_space.true in
    none_number c.args.side.now said starts side i x there c.args.known.now name found (sym c.is_space.ensures ∙ no))

pub name_of-name-requires : goal.name_of-name-requires
name_of-name-requires c =
    let r = c.requires.said in
    let long = steps_long c.args.side.now r.0 r.1 r.2 in
    let within = c.requires.within in
    omega (arith, long, within)

pub bounds-numbers-step : goal.bounds-numbers-step
bounds-numbers-step c =
    let r = c.requires.said in
    let i = length c.args.numbers.now in
    let x = c.index-step.result.now in
    let there = step_there c.args.side.now.index.now c.index.inside.steps.items i x (ap (λ (w : CrossIndex). w.steps) c.index.view_is) c.requires.within c.index-step.ensures in
    let yes : c.is_space.result ≡ true = c.if-not-is_space.false in
    (the_space c.args.side.now r.0 r.1 r.2 i x there (sym c.is_space.ensures ∙ yes)).earlier

pub returns-clause-number : goal.returns-clause-number
returns-clause-number c = λ said starts name side have found. (
    let i = length c.args.numbers.now in
    let x = c.index-step.result.now in
    let there = step_there c.args.side.now.index.now c.index.inside.steps.items i x (ap (λ (w : CrossIndex). w.steps) c.index.view_is) c.requires.within c.index-step.ensures in
    let yes : c.is_space.result ≡ true = c.if-not-is_space.false in
    let low = (the_space c.args.side.now said starts side i x there (sym c.is_space.ensures ∙ yes)).earlier in
    space_number c.args.side.now said starts side i x there c.args.known.now c.number.new.self c.args.numbers.now name c.name_of-name.result.now _ c.in_ok-number.number have found
    (sym c.is_space.ensures ∙ yes) (slice_get-get_or c.args.numbers.now x.up 0 low) (λ e t got is. c.name_of-name.ensures said starts e t side got is) c.in_ok-number.ensures.number)
