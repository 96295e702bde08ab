-- Where a least way leads: to nodes, by numbers that 32 bits hold, and to tops that differ by themselves.
use Rattle.std.proofs.Common.{◌≡◌, ℕ, zero, suc, ◌^◌, ◌<◌, All, List, [], ◌∷◌, length, ◌∙◌, arith}
use Rattle.dwz_model.specs.Lists.{In}
use Rattle.dwz_nodes.specs.Graph.{IsClosed, Node, targets_at}
use Rattle.dwz_def_tops.specs.Alike.{Movable}
use Rattle.dwz_def_tops.specs.Spots.{EntryName, FileUnit, Top, tops_of}
use Rattle.dwz_label.specs.Nodes.{AreTopNodes}
use Rattle.dwz_def_explain.specs.Chain.{BothLead, DifferThemselves}
use Rattle.dwz_nodes_chains.specs.LeastWays.{IsApart, IsLeastWay, end_of, target_at}
use Rattle.dwz_law_explain.proofs.WayTops.{leads, tells}

-- ---- in the graph

target_inside : (g : List Node) → IsClosed g → (a i : ℕ) → a < length g → i < length (targets_at g a) → target_at g a i < length g
target_inside g closed a i l m = closed a l i 0 m

pub way_inside : (g : List Node) → IsClosed g → (way : List ℕ) (a b : ℕ) → a < length g → b < length g → IsLeastWay g way a b → (end_of g way a < length g) × (end_of g way b < length g)
way_inside g closed [] a b l m h = (l, m)
way_inside g closed (i ∷ way) a b l m h =
    let e = h.0.1 in
    let j = h.1 in
    way_inside g closed way (target_at g a i) (target_at g b i) (target_inside g closed a i l h.1) (target_inside g closed b i m (omega (arith, e, j))) h.3

all_first : (P : ℕ → Type 0) (x : ℕ) (xs : List ℕ) → P x → All P xs → All P (x ∷ xs)
all_first P x xs p h zero d l = p
all_first P x xs p h (suc k) d l = h k d (omega (arith, l))

pub way_few : (g : List Node) → IsClosed g → ((a : ℕ) → a < length g → length (targets_at g a) < 2 ^ 32) → (way : List ℕ) (a b : ℕ) → a < length g → b < length g → IsLeastWay g way a b
    → All (λ n. n < 2 ^ 32) way
way_few g closed few [] a b l m h = λ k d n. absurd (omega (arith, n))
way_few g closed few (i ∷ way) a b l m h =
    let e = h.0.1 in
    let j = h.1 in
    let f = few a l in
    all_first (λ n. n < 2 ^ 32) i way (omega (arith, j, f))
    (way_few g closed few way (target_at g a i) (target_at g b i) (target_inside g closed a i l h.1) (target_inside g closed b i m (omega (arith, e, j))) h.3)

-- ---- tops

-- two tops that differ by themselves, which have these numbers
pub record Ends (units : List (FileUnit EntryName)) (m n : ℕ) : Type 0 where
  pub first : Top
  pub second : Top
  pub first_there : In first (tops_of units)
  pub second_there : In second (tops_of units)
  pub first_moves : Movable units first.number
  pub second_moves : Movable units second.number
  pub first_is : first.number ≡ m
  pub second_is : second.number ≡ n
  pub differ : DifferThemselves first second

reached : (Q : Type 0) (tops : List Top) (way : List ℕ) (a b : Top) → BothLead (λ c d. Q) tops way a b → Q
reached Q tops [] a b h = h
reached Q tops (i ∷ way) a b h = reached Q tops way h.first h.second h.holds

pub ends_of : (units : List (FileUnit EntryName)) (g : List Node) → AreTopNodes units g → (way : List ℕ) (a b : Top) → In a (tops_of units) → In b (tops_of units)
    → Movable units a.number → Movable units b.number → (m n : ℕ) → IsApart g a.number b.number way m n → Ends units m n
ends_of units g nodes way a b i j p q m n h =
    reached (Ends units m n) (tops_of units) way a b
    (leads units g nodes (λ c d. Ends units m n) way a b (i, p) (j, q) h.least
    (λ c d u v r s t. record {
      first = c;
      second = d;
      first_there = u.0;
      second_there = v.0;
      first_moves = u.1;
      second_moves = v.1;
      first_is = r ∙ h.first_is;
      second_is = s ∙ h.second_is;
      differ = tells units g nodes [] c d u v t;
    }))
