use Rattle.dwz_def_check.specs.Answer.{beside_common}
use Rattle.dwz_def_check.proofs.Decided.{decided, decided_closed}
use Rattle.dwz_def_check.proofs.ReadSides.{well_read}
use Rattle.dwz_def_check.proofs.laws.decided_laws.Goals as goal

pub returns : goal.returns
returns c common files said read a b is js name old new g made =
    let v = beside_common said a in
    let w = beside_common said b in
    let first = well_read common files said read a is in
    let second = well_read common files said read b js in
    (decided_closed v w name name first second old new g made, decided v w name name first second old new g made)
