-- Edges between groups, and lists by keys.
use Rattle.std.proofs.Common.{◌≡◌, ℕ, zero, suc, ◌<◌, All, List, [], ◌∷◌, Option, Some, None, length, refl, sym, ap, subst, ◌∙◌, inl, inr, ⊎_elim, arith}
use Rattle.std.proofs.lemmas.List.Elements.{All-head, All-tail}
use Rattle.dwz_def_reading.specs.Lists.{In}
use Rattle.dwz_def_reading.proofs.ListFacts.{in_cases, in_left, in_right}
use Rattle.dwz_groups.specs.declared.groups.Edge.{Edge}
use Rattle.dwz_groups.specs.Groups.{grouped}
use Rattle.dwz_plan.specs.Gaining.{AreNumbers, edge, edge_to, edges_at, edges_from, edges_to, group_at}
use Rattle.dwz_groups.specs.Spreading.{AreInside, sources_of}
use Rattle.dwz_groups.proofs.MarkLemmas.{each_pair, grouped_edge, grouped_length}

-- ---- which edges there are

to_edge : (g h from : ℕ) (o : Option ℕ) → In (edge g h) (edge_to from o) → (from ≡ g) × (o ≡ Some h)
to_edge g h from None i = absurd i
to_edge g h from (Some into) (inl e) = (ap (λ (q : Edge). q.key) e, ap (λ (q : Edge). Some q.value) e)
to_edge g h from (Some into) (inr i) = absurd i

edge_is : (g h : ℕ) (o : Option ℕ) → o ≡ Some h → In (edge g h) (edge_to g o)
edge_is g h o e = subst (λ (p : Option ℕ). In (edge g h) (edge_to g p)) (sym e) (inl refl)

abbrev pub Into : List (Option ℕ) → List ℕ → ℕ → Type 0
Into groups ts h = (u : ℕ) × In u ts × (group_at groups u ≡ Some h)

at_edges : (groups : List (Option ℕ)) (g h from : ℕ) (ts : List ℕ) → In (edge g h) (edges_at groups from ts) → (from ≡ g) × Into groups ts h
unfolding edges_at
at_edges groups g h from [] i = absurd i
at_edges groups g h from (t ∷ ts) i = ⊎_elim
    (λ j. let r = to_edge g h from (group_at groups t) j in (r.0, (t, inl refl, r.1)))
    (λ j. let r = at_edges groups g h from ts j in (r.0, (r.1.0, inr r.1.1, r.1.2)))
    (in_cases (edge g h) (edge_to from (group_at groups t)) (edges_at groups from ts) i)

edges_of : (groups : List (Option ℕ)) (g h u : ℕ) (ts : List ℕ) → In u ts → group_at groups u ≡ Some h → In (edge g h) (edges_at groups g ts)
unfolding edges_at
edges_of groups g h u [] i e = absurd i
edges_of groups g h u (t ∷ ts) (inl s) e = in_left (edge g h) (edge_to g (group_at groups t)) (edges_at groups g ts) (edge_is g h (group_at groups t) (ap (group_at groups) s ∙ e))
edges_of groups g h u (t ∷ ts) (inr i) e = in_right (edge g h) (edge_to g (group_at groups t)) (edges_at groups g ts) (edges_of groups g h u ts i e)

to_edges : (groups : List (Option ℕ)) (g h : ℕ) (o : Option ℕ) (ts : List ℕ) → In (edge g h) (edges_to groups o ts) → (o ≡ Some g) × Into groups ts h
to_edges groups g h None ts i = absurd i
to_edges groups g h (Some from) ts i = let r = at_edges groups g h from ts i in (ap (λ (n : ℕ). Some n) r.0, r.1)

edges_is : (groups : List (Option ℕ)) (g h u : ℕ) (o : Option ℕ) (ts : List ℕ) → o ≡ Some g → In u ts → group_at groups u ≡ Some h → In (edge g h) (edges_to groups o ts)
edges_is groups g h u o ts e i f = subst (λ (p : Option ℕ). In (edge g h) (edges_to groups p ts)) (sym e) (edges_of groups g h u ts i f)

-- the top at i is of one group and refers to one of the other
pub record Joined (groups froms : List (Option ℕ)) (targets : List (List ℕ)) (g h : ℕ) : Type 0 where
  pub i : ℕ
  pub low : i < length froms
  pub from : group_at froms i ≡ Some g
  pub into : Into groups (sources_of targets i) h

pub from_edges : (groups froms : List (Option ℕ)) (targets : List (List ℕ)) (g h : ℕ) → In (edge g h) (edges_from groups froms targets) → Joined groups froms targets g h
unfolding edges_from
from_edges groups [] targets g h i = absurd i
from_edges groups (f ∷ froms) [] g h i = absurd i
from_edges groups (f ∷ froms) (ts ∷ targets) g h i = ⊎_elim
    (λ (j : In (edge g h) (edges_to groups f ts)). let r = to_edges groups g h f ts j in let o : Joined groups (f ∷ froms) (ts ∷ targets) g h =
    record { i = 0; low = omega arith; from = r.0; into = r.1 } in o)
    (λ (j : In (edge g h) (edges_from groups froms targets)). let r = from_edges groups froms targets g h j in let l = r.low in let o : Joined groups (f ∷ froms) (ts ∷ targets) g h =
    record { i = suc r.i; low = omega arith; from = r.from; into = r.into } in o)
    (in_cases (edge g h) (edges_to groups f ts) (edges_from groups froms targets) i)

pub edges_there : (groups froms : List (Option ℕ)) (targets : List (List ℕ)) (g h i u : ℕ) → i < length froms → i < length targets → group_at froms i ≡ Some g → In u (sources_of targets i)
    → group_at groups u ≡ Some h → In (edge g h) (edges_from groups froms targets)
unfolding edges_from
edges_there groups [] targets g h i u l m e is f = absurd (omega arith)
edges_there groups (x ∷ froms) [] g h i u l m e is f = absurd (omega arith)
edges_there groups (x ∷ froms) (ts ∷ targets) g h zero u l m e is f = in_left (edge g h) (edges_to groups x ts) (edges_from groups froms targets) (edges_is groups g h u x ts e is f)
edges_there groups (x ∷ froms) (ts ∷ targets) g h (suc i) u l m e is f = in_right (edge g h) (edges_to groups x ts) (edges_from groups froms targets)
    (edges_there groups froms targets g h i u (omega arith) (omega arith) e is f)

-- ---- edges are between numbers below n

number_low : (n g : ℕ) (o : Option ℕ) → AreNumbers n o → o ≡ Some g → g < n
number_low n g o h e = subst (AreNumbers n) e h

pub numbers_low : (n g i : ℕ) (groups : List (Option ℕ)) → All (AreNumbers n) groups → group_at groups i ≡ Some g → g < n
numbers_low n g i [] h e = absurd cc
numbers_low n g zero (o ∷ groups) h e = number_low n g o (All-head (AreNumbers n) o groups h) e
numbers_low n g (suc i) (o ∷ groups) h e = numbers_low n g i groups (All-tail (AreNumbers n) o groups h) e

pub edge_keys : (n : ℕ) (groups : List (Option ℕ)) (targets : List (List ℕ)) → All (AreNumbers n) groups → All (λ p. p.key < n) (edges_from groups groups targets)
edge_keys n groups targets h = each_pair (λ p. p.key < n) (edges_from groups groups targets)
    (λ p i. let r = from_edges groups groups targets p.key p.value i in numbers_low n p.key r.i groups h r.from)

pub edges_inside : (n : ℕ) (groups : List (Option ℕ)) (targets : List (List ℕ)) → All (AreNumbers n) groups → AreInside (grouped n (edges_from groups groups targets))
edges_inside n groups targets h m k i =
    let edges = edges_from groups groups targets in
    let r = from_edges groups groups targets m k (grouped_edge n m k edges i) in
    let low = numbers_low n k r.into.0 groups h r.into.2 in
    let len = grouped_length n edges in
    omega arith
