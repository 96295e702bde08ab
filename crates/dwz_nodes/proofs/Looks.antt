-- Looks of one depth at nodes are an equivalence.
use Rattle.std.proofs.Common.{ℕ, zero, suc, ◌<◌, List, length, refl, sym, ◌∙◌, arith}
use Rattle.std.specs.Prelude.{slice_index}
use Rattle.dwz_nodes.specs.Graph.{Node, targets_at}
use Rattle.dwz_nodes.specs.Looks.{LookEqual}

pub look-same : (g : List Node) (k a : ℕ) → LookEqual g k a a
look-same g zero a = tt
look-same g (suc k) a = (refl, refl, λ i l. look-same g k (slice_index (targets_at g a) i))

pub look-sym : (g : List Node) (k a b : ℕ) → LookEqual g k a b → LookEqual g k b a
look-sym g zero a b h = tt
look-sym g (suc k) a b h = (sym h.0, sym h.1, λ i l. look-sym g k (slice_index (targets_at g a) i) (slice_index (targets_at g b) i) (h.2 i (let e = h.1 in omega arith)))

pub look-trans : (g : List Node) (k a b c : ℕ) → LookEqual g k a b → LookEqual g k b c → LookEqual g k a c
look-trans g zero a b c h j = tt
look-trans g (suc k) a b c h j = (
  h.0 ∙ j.0,
  h.1 ∙ j.1,
  λ i l. look-trans g k (slice_index (targets_at g a) i) (slice_index (targets_at g b) i) (slice_index (targets_at g c) i) (h.2 i l)
      (j.2 i (let e = h.1 in omega arith)),
)
