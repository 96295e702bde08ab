-- The way back from the targets that differ. When a pair was come by, all pairs before the one that it came from had been passed: so a look
-- that finds the pairs before it equal is one deeper at these.
use Rattle.std.proofs.Common.{ℕ, suc, ◌<◌, ◌≤◌, List, [], ◌∷◌, length, sym, ap, subst, ◌∙◌, arith}
use Rattle.dwz_nodes.specs.Graph.{Node}
use Rattle.dwz_nodes_chains.specs.LeastWays.{IsLeastWay, end_of, target_at}
use Rattle.dwz_nodes_chains.specs.Course.{AllEqual, AreReached, IsFollowed, IsLastPart, IsReached, TargetsDiffer, pair_at}
use Rattle.dwz_nodes_chains.specs.declared.pairs.NodePair.{NodePair}

module _ (g : List Node) (pairs : List NodePair) (r : AreReached g pairs) where
  -- pairs of which all targets look equal look equal one deeper
  deeper : (k q p n : ℕ) → p ≤ length pairs → IsFollowed g pairs q p n → AllEqual g pairs k q → AllEqual g pairs (suc k) p
  deeper k q p n few f h v l =
      let same = r.same v (omega arith) in
      (same.0, same.1, λ i m. f.whole k h v l i m)

  -- the last step
  pub last_part : (at number : ℕ) → IsFollowed g pairs (length pairs) at number → TargetsDiffer g pairs at number
      → IsLastPart g pairs at (number ∷ []) (target_at g (pair_at pairs at).first number) (target_at g (pair_at pairs at).second number)
  last_part at number f d =
      let there = d.at_there in record {
        apart = record {
          least = (r.same at there, d.number_there, λ j l. f.part 1 r.same j l, d.differ);
          first_is = λ i. target_at g (pair_at pairs at).first number;
          second_is = λ i. target_at g (pair_at pairs at).second number;
        };
        before = deeper 1 (length pairs) at number (omega arith) f r.same;
      }

  -- one step back
  pub part_back : (row : ℕ) (way : List ℕ) (first second : ℕ) → 0 < row → row < length pairs → IsLastPart g pairs row way first second
      → IsLastPart g pairs (pair_at pairs row).from ((pair_at pairs row).by ∷ way) first second
  part_back row way first second some there part =
      let pair : NodePair = pair_at pairs row in
      let e : IsReached g pairs row pair = r.each row some there in
      let from = e.from in record {
        apart = record {
          least = (
            part.before pair.from from,
            e.by,
            λ j l. e.followed.part (suc (length way)) part.before j l,
            subst (λ (x : ℕ). IsLeastWay g way x (target_at g (pair_at pairs pair.from).second pair.by)) e.first_is
                (subst (λ (y : ℕ). IsLeastWay g way pair.first y) e.second_is part.apart.least),
          );
          first_is = ap (λ (x : ℕ). end_of g way x) (sym e.first_is) ∙ part.apart.first_is;
          second_is = ap (λ (x : ℕ). end_of g way x) (sym e.second_is) ∙ part.apart.second_is;
        };
        before = deeper (suc (length way)) row pair.from pair.by (omega arith) e.followed part.before;
      }
