use Rattle.std.proofs.Common.{◌≡◌, ℕ, List, ap, sym, subst}
use Rattle.std.specs.Prelude.{OnOk}
use Rattle.dwz_encode_common.specs.Gathered.{with_all}
use Rattle.dwz_encode_common.specs.Stored.{row_name}
use Rattle.dwz_encode_common.proofs.PlaceSteps.{place_gives}
use Rattle.dwz_encode_common.proofs.texts.put_name_at.Goals as goal

pub put_name-requires : goal.put_name-requires
put_name-requires c = record { entry = c.in-Some.ensures.within; bases = c.in-Some.ensures.bases }

pub returns-in-Some : goal.returns-in-Some
returns-in-Some c =
    let is = c.in-Some.ensures in
    subst (λ (w : List (List ℕ)). OnOk c.put_name.result (c.put_name.new.pool ≡ with_all c.args.pool.now w))
    (sym (place_gives c.args.graph.now.given c.args.known.now c.args.row c.in-Some.place is row_name)) (c.put_name.ensures is.row is.found)

pub returns-in-None : goal.returns-in-None
returns-in-None c = sym (ap (with_all c.args.pool.now) (c.in-None.ensures row_name))
