use Rattle.std.proofs.Common.{◌≡◌, List, subst, sym}
use Rattle.std.proofs.lemmas.List.Sorted.{All-permutation}
use Rattle.dwz_nodes.specs.Keys.{words_hash}
use Rattle.dwz_nodes.specs.declared.order.Keyed.{Keyed}
use Rattle.dwz_nodes.specs.Order.{AreTogether}
use Rattle.dwz_nodes.proofs.Ordering.{together}
use Rattle.dwz_nodes.proofs.order.groups_of.Goals as goal

pub mark_groups-requires : goal.mark_groups-requires
mark_groups-requires c =
    subst (λ (rows : List Keyed). AreTogether rows) (sym c.as_slice.ensures.value)
    (together c.sort_unstable.new.self.items c.sort_unstable.ensures.sorted
    (All-permutation (λ (r : Keyed). r.hash ≡ words_hash r.key.now) c.args.rows.items c.sort_unstable.new.self.items c.sort_unstable.ensures.permutation c.requires))
