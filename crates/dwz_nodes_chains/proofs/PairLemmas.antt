-- What holds of pairs holds of them when others stand behind them.
use Rattle.std.proofs.Common.{◌≡◌, ℕ, ◌<◌, ◌≤◌, List, [], ◌∷◌, ◌++◌, length, ⊎_elim, refl, sym, subst, ◌∙◌, arith, length-append}
use Rattle.std.proofs.Math.ListN.{get_or-append}
use Rattle.std.proofs.Math.Seq.{get_or-append_seam}
use Rattle.std.proofs.lemmas.Bool.{cases_lt}
use Rattle.dwz_nodes.specs.Graph.{Node, targets_at}
use Rattle.dwz_nodes.specs.Looks.{LookEqual}
use Rattle.dwz_nodes_chains.specs.LeastWays.{target_at}
use Rattle.dwz_nodes_chains.specs.Course.{AllEqual, Extends, IsFollowed, IsReached, TargetsEqual, pair_at}
use Rattle.dwz_nodes_chains.specs.declared.pairs.NodePair.{NodePair}

abbrev pub no_pair : NodePair
no_pair = record { first = 0; second = 0; from = 0; by = 0 }

pub extends_self : (pairs : List NodePair) → Extends pairs pairs
extends_self pairs = record { more = omega arith; kept = λ v l. refl }

pub extends_on : (xs ys zs : List NodePair) → Extends xs ys → Extends ys zs → Extends xs zs
extends_on xs ys zs a b =
    let m = a.more in
    let n = b.more in record {
      more = omega arith;
      kept = λ v l. b.kept v (omega arith) ∙ a.kept v l;
    }

pub extends_push : (pairs : List NodePair) (p : NodePair) → Extends pairs (pairs ++ p ∷ [])
extends_push pairs p = record {
  more = (let e = length-append pairs (p ∷ []) in omega arith);
  kept = λ v l. get_or-append pairs (p ∷ []) no_pair v l;
}

pub last_is : (pairs : List NodePair) (p : NodePair) → pair_at (pairs ++ p ∷ []) (length pairs) ≡ p
last_is pairs p = get_or-append_seam pairs p [] no_pair

-- of each pair and of the last, so of all
pub each_pair : (P : ℕ → NodePair → Type 0) (pairs : List NodePair) (p : NodePair) → ((v : ℕ) → v < length pairs → P v (pair_at pairs v)) → P (length pairs) p
    → (v : ℕ) → v < length (pairs ++ p ∷ []) → P v (pair_at (pairs ++ p ∷ []) v)
each_pair P pairs p each last v l = ⊎_elim
    (λ (less : v < length pairs). subst (P v) (sym ((extends_push pairs p).kept v less)) (each v less))
    (λ (more : length pairs ≤ v).
    let e : length pairs ≡ v = (let n = length-append pairs (p ∷ []) in omega arith) in
    subst (λ (w : ℕ). P w (pair_at (pairs ++ p ∷ []) w)) e (subst (P (length pairs)) (sym (last_is pairs p)) last))
    (cases_lt v (length pairs))

module _ (g : List Node) (old new : List NodePair) (x : Extends old new) where
  pub equal_back : (k q : ℕ) → q ≤ length old → AllEqual g new k q → AllEqual g old k q
  equal_back k q few h v l = subst (λ (p : NodePair). LookEqual g k p.first p.second) (x.kept v (omega arith)) (h v l)

  pub targets_on : (k v i : ℕ) → v < length old → TargetsEqual g old k v i → TargetsEqual g new k v i
  targets_on k v i l h = subst (λ (p : NodePair). LookEqual g k (target_at g p.first i) (target_at g p.second i)) (sym (x.kept v l)) h

  pub followed_on : (q p n : ℕ) → q ≤ length old → p < length old → IsFollowed g old q p n → IsFollowed g new q p n
  followed_on q p n few there f = record {
    whole = λ k h v l i m. targets_on k v i (omega arith)
        (f.whole k (equal_back k q few h) v l i (subst (λ (r : NodePair). i < length (targets_at g r.first)) (x.kept v (omega arith)) m));
    part = λ k h i l. targets_on k p i there (f.part k (equal_back k q few h) i l);
  }

  pub reached_on : (v : ℕ) (p : NodePair) → v ≤ length old → IsReached g old v p → IsReached g new v p
  reached_on v p few r =
      let from = r.from in
      let there : p.from < length old = omega arith in
      let same = sym (x.kept p.from there) in record {
        from = from;
        by = subst (λ (s : NodePair). p.by < length (targets_at g s.first)) same r.by;
        first_is = subst (λ (s : NodePair). p.first ≡ target_at g s.first p.by) same r.first_is;
        second_is = subst (λ (s : NodePair). p.second ≡ target_at g s.second p.by) same r.second_is;
        followed = followed_on v p.from p.by few there r.followed;
      }
