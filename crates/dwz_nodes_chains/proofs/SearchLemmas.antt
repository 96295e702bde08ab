-- A search step by step. Two targets of one group look equal wherever all pairs do; two of different groups become a pair, and their groups
-- one; and where all pairs have been passed, looks of all depths find them equal.
use Rattle.std.proofs.Common.{◌≡◌, ◌⊎◌, ℕ, zero, suc, ◌+◌, ◌<◌, ◌≤◌, inl, inr, List, [], ◌∷◌, ◌++◌, length, get_or, set, ⊎_elim, refl, sym, ap, subst, ◌∙◌, arith, length-append, length-set}
use Rattle.std.proofs.lemmas.Bool.{cases_eq, cases_lt}
use Rattle.std.proofs.lemmas.List.{get_or-set_same, get_or-set_other}
use Rattle.std.proofs.lemmas.List.Elements.{All-get_or}
use Rattle.dwz_nodes.specs.Graph.{IsClosed, Node, targets_at}
use Rattle.dwz_nodes.specs.Looks.{LookEqual}
use Rattle.dwz_nodes_chains.specs.LeastWays.{target_at}
use Rattle.dwz_nodes_chains.specs.Links.{AreLinks, climb, peaks}
use Rattle.dwz_nodes_chains.specs.Course.{AllEqual, AreReached, IsReached, IsSearch, TargetsEqual, pair_at}
use Rattle.dwz_nodes_chains.specs.declared.pairs.NodePair.{NodePair}
use Rattle.dwz_nodes.proofs.Looks.{look-same, look-sym, look-trans}
use Rattle.dwz_nodes_chains.proofs.NodeLooks.{look_climbs}
use Rattle.dwz_nodes_chains.proofs.PairLemmas.{each_pair, equal_back, extends_push, followed_on, last_is, reached_on, targets_on}

-- one more target
passed_on : (P : ℕ → Type 0) (n : ℕ) → ((i : ℕ) → i < n → P i) → P n → (i : ℕ) → i < n + 1 → P i
passed_on P n each last i l = ⊎_elim
    (λ (less : i < n). each i less)
    (λ (more : n ≤ i). let e : n ≡ i = omega arith in subst P e last)
    (cases_lt i n)

-- links after two peaks were joined, at a depth at which these look equal
joined_equal : (g : List Node) (k : ℕ) (above : List ℕ) (a b : ℕ) → a < length above → LookEqual g k a b → ((x : ℕ) → x < length g → LookEqual g k x (get_or above x 0)) → (x : ℕ) → x < length g
    → LookEqual g k x (get_or (set above a b) x 0)
joined_equal g k above a b a_in same each x l = ⊎_elim
    (λ (e : x ≡ a). subst (λ (y : ℕ). LookEqual g k y (get_or (set above a b) y 0)) (sym e) (subst (λ (y : ℕ). LookEqual g k a y) (sym (get_or-set_same above a b 0 a_in)) same))
    (λ (ne : x ≡ a → ⊥). subst (λ (y : ℕ). LookEqual g k x y) (sym (get_or-set_other above a x b 0 ne)) (each x l))
    (cases_eq x a)

-- whichever comes below the other
abbrev Joined : List ℕ → List ℕ → ℕ → ℕ → Type 0
Joined old new a b = (new ≡ set old a b) ⊎ (new ≡ set old b a)

either_equal : (g : List Node) (k : ℕ) (old new : List ℕ) (a b : ℕ) → a < length old → b < length old → Joined old new a b → LookEqual g k a b
    → ((x : ℕ) → x < length g → LookEqual g k x (get_or old x 0)) → (x : ℕ) → x < length g → LookEqual g k x (get_or new x 0)
either_equal g k old new a b a_in b_in (inl e) same each x l =
    subst (λ (ns : List ℕ). LookEqual g k x (get_or ns x 0)) (sym e) (joined_equal g k old a b a_in same each x l)
either_equal g k old new a b a_in b_in (inr e) same each x l =
    subst (λ (ns : List ℕ). LookEqual g k x (get_or ns x 0)) (sym e) (joined_equal g k old b a b_in (look-sym g k a b same) each x l)

joined_len : (old new : List ℕ) (a b : ℕ) → Joined old new a b → length new ≡ length old
joined_len old new a b (inl e) = ap (λ (ns : List ℕ). length ns) e ∙ length-set old a b
joined_len old new a b (inr e) = ap (λ (ns : List ℕ). length ns) e ∙ length-set old b a

pub target_in : (g : List Node) → IsClosed g → (a i : ℕ) → a < length g → i < length (targets_at g a) → target_at g a i < length g
target_in g closed a i l m = All-get_or (λ t. t < length g) (targets_at g a) i 0 m (closed a l)

module _ (g : List Node) (closed : IsClosed g) (pairs : List NodePair) (above heights : List ℕ) (at number : ℕ) (s : IsSearch g pairs above heights at number)
    (there : at < length pairs) (inside : number < length (targets_at g (pair_at pairs at).first)) where
  abbrev first : ℕ
  first = target_at g (pair_at pairs at).first number

  abbrev second : ℕ
  second = target_at g (pair_at pairs at).second number

  pub first_in : first < length g
  first_in = target_in g closed (pair_at pairs at).first number (s.reached.first_in at there) inside

  pub second_there : number < length (targets_at g (pair_at pairs at).second)
  second_there = let same = s.reached.same at there in let e = same.1 in omega arith

  pub second_in : second < length g
  second_in = target_in g closed (pair_at pairs at).second number (s.reached.second_in at there) second_there

  above_in : (x : ℕ) → x < length g → get_or above x 0 < length g
  above_in x l = let e = s.len in let i = s.links.inside x (omega arith) in omega arith

  module _ (a b m n : ℕ) (first_up : climb above m first ≡ a) (second_up : climb above n second ≡ b) where
    first_equal : (k : ℕ) → AllEqual g pairs k (length pairs) → LookEqual g k first a
    first_equal k h = subst (λ (x : ℕ). LookEqual g k first x) first_up (look_climbs g above k above_in (s.equal k h) m first first_in)

    second_equal : (k : ℕ) → AllEqual g pairs k (length pairs) → LookEqual g k second b
    second_equal k h = subst (λ (x : ℕ). LookEqual g k second x) second_up (look_climbs g above k above_in (s.equal k h) n second second_in)

    -- they are of one group
    pub passed_by : a ≡ b → IsSearch g pairs above heights at (number + 1)
    passed_by e = record {
      reached = s.reached;
      links = s.links;
      len = s.len;
      count = s.count;
      equal = s.equal;
      followed = record {
        whole = s.followed.whole;
        part = λ k h. passed_on (TargetsEqual g pairs k at) number (s.followed.part k h)
            (look-trans g k first a second (first_equal k h) (look-sym g k second a (subst (λ (x : ℕ). LookEqual g k second x) (sym e) (second_equal k h))));
      };
    }

    -- they become a pair
    module _ (here : LookEqual g 1 first second) (new_above new_heights : List ℕ) (a_in : a < length above) (b_in : b < length above) (join : Joined above new_above a b)
        (links : AreLinks new_above new_heights) (fewer : peaks new_above + 1 ≡ peaks above) where
      abbrev pair : NodePair
      pair = record { first = first; second = second; from = at; by = number }

      abbrev more : List NodePair
      more = pairs ++ pair ∷ []

      behind : AllEqual g more 1 (length more)
      behind = each_pair (λ v p. LookEqual g 1 p.first p.second) pairs pair s.reached.same here

      old_equal : (k : ℕ) → AllEqual g more k (length more) → AllEqual g pairs k (length pairs)
      old_equal k h = (let e = length-append pairs (pair ∷ []) in equal_back g pairs more (extends_push pairs pair) k (length pairs) (omega arith) (λ v l. h v (omega arith)))

      pair_equal : (k : ℕ) → AllEqual g more k (length more) → LookEqual g k first second
      pair_equal k h = (let e = length-append pairs (pair ∷ []) in subst (λ (p : NodePair). LookEqual g k p.first p.second) (last_is pairs pair) (h (length pairs) (omega arith)))

      peaks_equal : (k : ℕ) → AllEqual g more k (length more) → LookEqual g k a b
      peaks_equal k h =
          look-trans g k a first b (look-sym g k first a (first_equal k (old_equal k h)))
          (look-trans g k first second b (pair_equal k h) (second_equal k (old_equal k h)))

      new_reached : IsReached g more (length pairs) pair
      new_reached = record {
        from = there;
        by = subst (λ (p : NodePair). number < length (targets_at g p.first)) (sym ((extends_push pairs pair).kept at there)) inside;
        first_is = subst (λ (p : NodePair). first ≡ target_at g p.first number) (sym ((extends_push pairs pair).kept at there)) refl;
        second_is = subst (λ (p : NodePair). second ≡ target_at g p.second number) (sym ((extends_push pairs pair).kept at there)) refl;
        followed = followed_on g pairs more (extends_push pairs pair) (length pairs) at number (omega arith) there s.followed;
      }

      reached : AreReached g more
      reached = record {
        some = (let e = length-append pairs (pair ∷ []) in omega arith);
        first_in = each_pair (λ v p. p.first < length g) pairs pair s.reached.first_in first_in;
        second_in = each_pair (λ v p. p.second < length g) pairs pair s.reached.second_in second_in;
        same = behind;
        each = λ v some l. each_pair (λ w p. 0 < w → IsReached g more w p) pairs pair
            (λ w less some'. reached_on g pairs more (extends_push pairs pair) w (pair_at pairs w) (omega arith) (s.reached.each w some' less))
            (λ some'. new_reached) v l some;
      }

      pub joined_on : IsSearch g more new_above new_heights at (number + 1)
      joined_on = record {
        reached = reached;
        links = links;
        len = joined_len above new_above a b join ∙ s.len;
        count = (let e = length-append pairs (pair ∷ []) in let c = s.count in omega arith);
        equal = λ k h. either_equal g k above new_above a b a_in b_in join (peaks_equal k h) (s.equal k (old_equal k h));
        followed = record {
          whole = λ k h v l i m. targets_on g pairs more (extends_push pairs pair) k v i (omega arith)
              (s.followed.whole k (old_equal k h) v l i (subst (λ (p : NodePair). i < length (targets_at g p.first)) ((extends_push pairs pair).kept v (omega arith)) m));
          part = λ k h. passed_on (TargetsEqual g more k at) number
              (λ i l. targets_on g pairs more (extends_push pairs pair) k at i there (s.followed.part k (old_equal k h) i l))
              (targets_on g pairs more (extends_push pairs pair) k at number there (pair_equal k h));
        };
      }

-- ---- the beginning

module _ (g : List Node) (a b : ℕ) (above new_above new_heights : List ℕ) (first_in : a < length g) (second_in : b < length g) (here : LookEqual g 1 a b) (len : length above ≡ length g)
    (each : (x : ℕ) → x < length g → get_or above x 0 ≡ x) (all : peaks above ≡ length g) (join : Joined above new_above a b) (links : AreLinks new_above new_heights)
    (fewer : peaks new_above + 1 ≡ peaks above) where
  abbrev start : NodePair
  start = record { first = a; second = b; from = 0; by = 0 }

  one : (P : ℕ → NodePair → Type 0) → P 0 start → (v : ℕ) → v < 1 → P v (pair_at (start ∷ []) v)
  one P p v l = let e : 0 ≡ v = omega arith in subst (λ (w : ℕ). P w (pair_at (start ∷ []) w)) e p

  pub begun : IsSearch g (start ∷ []) new_above new_heights 0 0
  begun = record {
    reached = record {
      some = omega arith;
      first_in = one (λ v p. p.first < length g) first_in;
      second_in = one (λ v p. p.second < length g) second_in;
      same = one (λ v p. LookEqual g 1 p.first p.second) here;
      each = λ v some l. absurd (let m : v < 1 = l in omega arith);
    };
    links = links;
    len = joined_len above new_above a b join ∙ len;
    count = (let f = fewer in let w = all in let n : length (start ∷ []) ≡ 1 = refl in omega arith);
    equal = λ k h. either_equal g k above new_above a b (omega arith) (omega arith) join (h 0 (omega arith))
        (λ x l. subst (λ (y : ℕ). LookEqual g k x y) (sym (each x l)) (look-same g k x));
    followed = record {
      whole = λ k h v l i m. absurd (omega arith);
      part = λ k h i l. absurd (omega arith);
    };
  }

-- ---- the end of a pair's targets, and of all pairs

pub passed_pair : (g : List Node) (pairs : List NodePair) (above heights : List ℕ) (at n : ℕ) → length (targets_at g (pair_at pairs at).first) ≤ n → IsSearch g pairs above heights at n
    → IsSearch g pairs above heights (at + 1) 0
passed_pair g pairs above heights at n all s = record {
  reached = s.reached;
  links = s.links;
  len = s.len;
  count = s.count;
  equal = s.equal;
  followed = record {
    whole = λ k h v l i m. ⊎_elim
        (λ (less : v < at). s.followed.whole k h v less i m)
        (λ (more : at ≤ v).
        let e : v ≡ at = omega arith in
        let m' : i < length (targets_at g (pair_at pairs at).first) = subst (λ (w : ℕ). i < length (targets_at g (pair_at pairs w).first)) e m in
        subst (λ (w : ℕ). TargetsEqual g pairs k w i) (sym e) (s.followed.part k h i (omega arith)))
        (cases_lt v at);
    part = λ k h i l. absurd (omega arith);
  };
}

pub all_equal : (g : List Node) (pairs : List NodePair) (above heights : List ℕ) (p n : ℕ) → length pairs ≤ p → IsSearch g pairs above heights p n → (k : ℕ) → AllEqual g pairs k (length pairs)
all_equal g pairs above heights p n all s zero v l = tt
all_equal g pairs above heights p n all s (suc k) v l =
    let same = s.reached.same v l in
    (same.0, same.1, λ i m. s.followed.whole k (all_equal g pairs above heights p n all s k) v (omega arith) i m)
