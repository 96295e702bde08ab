use Rattle.std.proofs.Common.{ℕ, List, Some, cond, ap, ◌∙◌}
use Rattle.std.specs.BTreeMap.{is_at}
use Rattle.std.specs.Ordering.{nat_cmp}
use Rattle.dwz_graph_resolve.specs.TablePlaces.{number_in}
use Rattle.dwz_graph_resolve.proofs.MapKeys.{found_eq}
use Rattle.dwz_graph_resolve.proofs.places.TablePlaces.insert.Goals as goal

pub returns : goal.returns
returns c = λ q. (
    let was = ap (λ (w : List (ℕ × ℕ)). cond (is_at (nat_cmp c.args.place) q) (Some c.args.table) (number_in w q)) c.self.view_is in
    rw (← found_eq c.args.place q) (c.in_ok-insert.ensures.updates.0 q ∙ was))
