use Rattle.std.proofs.Common.{◌≡◌, ℕ, List, subst}
use Rattle.std.specs.Prelude.{OnOk}
use Rattle.dwz_graph.specs.Resolved.{sources_view}
use Rattle.dwz_encode_common.specs.Gathered.{with_all}
use Rattle.dwz_encode_common.specs.Stored.{name_read}
use Rattle.dwz_encode_common.proofs.texts.put_name.Goals as goal

pub returns-in-Some : goal.returns-in-Some
returns-in-Some c = λ row found. (
    let s = sources_view c.args.place.now.sections.now in
    subst (λ (w : List (List ℕ)). OnOk c.put_value.result (c.put_value.new.pool ≡ with_all c.args.pool.now w))
    (λ i. name_read s (c.base_of-base.ensures row found i) (c.in-Some.ensures.first row found i)) c.put_value.ensures)

pub returns-in-None : goal.returns-in-None
returns-in-None c = λ row found. (
    let s = sources_view c.args.place.now.sections.now in
    (λ i. with_all c.args.pool.now (name_read s (c.base_of-base.ensures row found i) (c.in-None.ensures.first row found i))))
