use Rattle.std.proofs.Common.{ℕ, List, length, ap, subst, ◌∙◌}
use Rattle.dwz_def_reading.proofs.MeaningUnits.{units_agree}
use Rattle.dwz_check_sides.proofs.NameTexts.{steps_long}
use Rattle.dwz_unit.specs.Rows.{units_of}
use Rattle.dwz_reuse.specs.Spaces.{PutsRows}
use Rattle.dwz_reuse.proofs.SpaceEdges.{puts_spaces}
use Rattle.dwz_reuse.proofs.spaces.put_spaces.Goals as goal

pub put_rows-requires-clause-numbers : goal.put_rows-requires-clause-numbers
put_rows-requires-clause-numbers c =
    let r = c.requires.said in
    ap (λ (w : List ℕ). length w) c.as_slice.ensures.value ∙ c.in_ok-numbers.ensures.len ∙ steps_long c.args.side.now r.0 r.1 r.2

pub returns-clause-edges : goal.returns-clause-edges
returns-clause-edges c = λ said starts side apart. (
    let raw = units_of c.args.side.now.file.now.units in
    let around = side.says.around in
    let means = ((units_agree around raw).ok said).0 side.says.means in
    let value = c.as_slice.ensures.value in
    let have = c.in_ok-numbers.ensures.numbers said starts side in
    let long = c.in_ok-numbers.ensures.len ∙ side.index_is.names.len in
    let numbers = c.in_ok-numbers.numbers.items in
    puts_spaces around raw said means starts.top c.space_lists.new.known _ (c.in_ok-numbers.ensures.apart apart) numbers have long c.args.first c.args.edges.now.items c.put_rows.new.edges.items
    (subst (λ (w : List ℕ). PutsRows raw w c.args.first (length w) c.args.edges.now.items c.put_rows.new.edges.items) value c.in_ok-put_rows.ensures))
