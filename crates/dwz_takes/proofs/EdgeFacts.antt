-- Edges from lists of numbers, and what stands under their keys.
use Rattle.std.proofs.Common.{◌≡◌, ℕ, zero, suc, ◌+◌, ◌<◌, All, List, [], ◌∷◌, ◌++◌, length, map, get_or, take, sym, ap, subst, ◌∙◌, ⊎_elim, arith}
use Rattle.std.proofs.lemmas.List.{append-nil, append_assoc}
use Rattle.dwz_model.specs.Lists.{In}
use Rattle.dwz_model.proofs.ListFacts.{in_cases, in_left, in_map, in_right}
use Rattle.dwz_model.proofs.Members.{in_map_from}
use Rattle.dwz_groups.specs.declared.groups.Edge.{Edge}
use Rattle.dwz_groups.specs.Groups.{grouped}
use Rattle.dwz_groups.proofs.MarkLemmas.{each_pair, edge_grouped, grouped_edge, grouped_length, pair}
use Rattle.dwz_takes.specs.Steps.{AreTurned, edges_from, turned}
use Rattle.dwz_takes.specs.Takes.{AreBelow, list_at}

-- ---- one list more

edges_more : (f : ℕ → ℕ → Edge) (s i : ℕ) (lists : List (List ℕ)) → i < length lists → edges_from f s (take (suc i) lists) ≡ edges_from f s (take i lists) ++ map (f (s + i)) (get_or lists i [])
edges_more f s i [] l = absurd (omega arith)
edges_more f s zero (xs ∷ lists) l = append-nil (map (f s) xs) ∙ (let e : s ≡ s + 0 = omega arith in ap (λ (k : ℕ). map (f k) xs) e)
edges_more f s (suc i) (xs ∷ lists) l =
    let e : suc s + i ≡ s + suc i = omega arith in
    ap (λ (w : List Edge). map (f s) xs ++ w) (edges_more f (suc s) i lists (omega arith) ∙ ap (λ (k : ℕ). edges_from f (suc s) (take i lists) ++ map (f k) (get_or lists i [])) e)
    ∙ sym (append_assoc (map (f s) xs) (edges_from f (suc s) (take i lists)) (map (f (s + suc i)) (get_or lists i [])))

pub edges_next : (f : ℕ → ℕ → Edge) (i : ℕ) (lists : List (List ℕ)) → i < length lists → edges_from f 0 (take i lists) ++ map (f i) (get_or lists i []) ≡ edges_from f 0 (take (i + 1) lists)
edges_next f i lists l =
    let e : suc i ≡ i + 1 = omega arith in
    let z : i ≡ 0 + i = omega arith in
    ap (λ (k : ℕ). edges_from f 0 (take i lists) ++ map (f k) (get_or lists i [])) z ∙ sym (edges_more f 0 i lists l) ∙ ap (λ (k : ℕ). edges_from f 0 (take k lists)) e

-- ---- what an edge says

-- the list and the number that an edge comes from
pub record FromList (f : ℕ → ℕ → Edge) (s : ℕ) (lists : List (List ℕ)) (e : Edge) : Type 0 where
  pub list : ℕ
  pub number : ℕ
  pub there : In number (list_at lists list)
  pub is : f (s + list) number ≡ e

pub from_edges : (f : ℕ → ℕ → Edge) (s : ℕ) (lists : List (List ℕ)) (e : Edge) → In e (edges_from f s lists) → FromList f s lists e
from_edges f s [] e i = absurd i
from_edges f s (xs ∷ lists) e i = ⊎_elim
    (λ j. let r = in_map_from (f s) e xs j in record { list = 0; number = r.source; there = r.there; is = (let z : s + 0 ≡ s = omega arith in ap (λ (k : ℕ). f k r.source) z ∙ r.is) })
    (λ j. let r = from_edges f (suc s) lists e j in record {
      list = suc r.list;
      number = r.number;
      there = r.there;
      is = (let z : s + suc r.list ≡ suc s + r.list = omega arith in ap (λ (k : ℕ). f k r.number) z ∙ r.is);
    })
    (in_cases e (map (f s) xs) (edges_from f (suc s) lists) i)

to_edges : (f : ℕ → ℕ → Edge) (s k x : ℕ) (lists : List (List ℕ)) → In x (list_at lists k) → In (f (s + k) x) (edges_from f s lists)
to_edges f s k x [] i = absurd i
to_edges f s zero x (xs ∷ lists) i =
    let z : s ≡ s + 0 = omega arith in
    in_left (f (s + 0) x) (map (f s) xs) (edges_from f (suc s) lists) (subst (λ (k : ℕ). In (f k x) (map (f s) xs)) z (in_map (f s) x xs i))
to_edges f s (suc k) x (xs ∷ lists) i =
    let z : suc s + k ≡ s + suc k = omega arith in
    in_right (f (s + suc k) x) (map (f s) xs) (edges_from f (suc s) lists) (subst (λ (m : ℕ). In (f m x) (edges_from f (suc s) lists)) z (to_edges f (suc s) k x lists i))

pub edge_in : (f : ℕ → ℕ → Edge) (k x : ℕ) (lists : List (List ℕ)) → In x (list_at lists k) → In (f k x) (edges_from f 0 lists)
edge_in f k x lists i = let z : 0 + k ≡ k = omega arith in subst (λ (m : ℕ). In (f m x) (edges_from f 0 lists)) z (to_edges f 0 k x lists i)

-- ---- turned round

pub turned_low : (count : ℕ) (lists : List (List ℕ)) → AreBelow count lists → All (λ (e : Edge). e.key < count) (edges_from turned 0 lists)
turned_low count lists below = each_pair (λ (e : Edge). e.key < count) (edges_from turned 0 lists) (λ e i.
    let r = from_edges turned 0 lists e i in
    subst (λ (k : ℕ). k < count) (ap (λ (d : Edge). d.key) r.is) (below r.list r.number r.there))

pub turned_by : (count : ℕ) (lists : List (List ℕ)) → AreBelow count lists → AreTurned count lists (grouped count (edges_from turned 0 lists))
turned_by count lists below = record {
  len = grouped_length count (edges_from turned 0 lists);
  each = λ x n. (
    λ i. let r = from_edges turned 0 lists (pair x n) (grouped_edge count x n (edges_from turned 0 lists) i) in
        let number : r.number ≡ x = ap (λ (d : Edge). d.key) r.is in
        let list : 0 + r.list ≡ n = ap (λ (d : Edge). d.value) r.is in
        let same : r.list ≡ n = omega (arith, list) in
        subst (λ (m : ℕ). In x (list_at lists m)) same (subst (λ (y : ℕ). In y (list_at lists r.list)) number r.there),
    λ i. edge_grouped count x n (edges_from turned 0 lists) (below n x i) (edge_in turned n x lists i),
  );
}
