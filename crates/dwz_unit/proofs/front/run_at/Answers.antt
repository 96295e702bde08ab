use Rattle.std.proofs.Common.{◌≡◌, Some, rules}
use Rattle.std.specs.Prelude.{slice_get}
use Rattle.std.proofs.lemmas.Option.{slice_get_read}
use Rattle.dwz_unit.proofs.front.run_at.Goals as goal

pub returns-in-Some : goal.returns-in-Some
returns-in-Some c =
    let got : slice_get c.args.context.now.runs.now c.args.number ≡ Some c.in-Some.found.now = search (rules, slice_get_read) in
    λ pairs at. c.args.context.now.told.1 c.args.number pairs c.in-Some.found.now at got
