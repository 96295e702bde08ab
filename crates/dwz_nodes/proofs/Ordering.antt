-- Rows that are sorted by hash, key and node have equal keys together, where equal keys have equal hashes.
use Rattle.std.proofs.Common.{◌≡◌, ℕ, suc, ◌+◌, ◌-◌, ◌<◌, ◌≤◌, Bool, true, false, true≢false, All, Ordering, Equal, nat_cmp, is_lt, List, [], ◌∷◌, ◌++◌, length, get_or, take, not, refl, sym, ap}
use Rattle.std.proofs.Common.{subst, ◌∙◌, arith}
use Rattle.std.specs.Ordering.{ordering_then}
use Rattle.std.specs.Cmp.{IsTotalOrder}
use Rattle.std.specs.Cmp.Lexicographic.{slice_cmp}
use Rattle.std.specs.List.Sorted.{IsSorted}
use Rattle.std.specs.Prelude.{slice_index, slice_index_or}
use Rattle.std.proofs.lemmas.Cmp.{nat_cmp_total, nat_list_cmp_total, on_total, then_total, tied_itself}
use Rattle.std.proofs.lemmas.List.{get_or-map, map-append, take_more}
use Rattle.std.proofs.lemmas.List.Sorted.{ranks_by, sorted_far}
use Rattle.dwz_nodes.specs.Keys.{key_at, words_hash}
use Rattle.dwz_nodes.specs.declared.order.Keyed.{Keyed}
use Rattle.dwz_nodes.specs.Order.{nodes_of, keys_of, AreTogether, IsNew, IsNewAt}
use Rattle.std.proofs.Math.ListN.{get_or-append, get_or-map as map-get_or}
use Rattle.std.proofs.Math.Seq.{get_or-append_seam}
use Rattle.dwz_nodes.proofs.Orders.{both_equal, bytes_equal, first_low, number_low, second_low}
use mathlib.Core.Logic.{dite}
use native.Mathlib.Decide.{ℕ_discrete}

list-between : (xs ys : List ℕ) → is_lt (slice_cmp nat_cmp xs ys) ≡ false → is_lt (slice_cmp nat_cmp ys xs) ≡ false → xs ≡ ys
list-between xs ys e f = bytes_equal xs ys (both_equal (slice_cmp nat_cmp xs ys) e (subst (λ (o : Ordering). is_lt o ≡ false) (nat_list_cmp_total.antisymm ys xs) f))

-- the order of rows
abbrev by_hash : Keyed → Keyed → Ordering
by_hash a b = nat_cmp a.hash b.hash

abbrev by_key : Keyed → Keyed → Ordering
by_key a b = slice_cmp nat_cmp a.key.now b.key.now

abbrev by_node : Keyed → Keyed → Ordering
by_node a b = nat_cmp a.node b.node

abbrev pub row_cmp : Keyed → Keyed → Ordering
row_cmp a b = ordering_then (by_hash a b) (ordering_then (by_key a b) (by_node a b))

row_total : IsTotalOrder row_cmp
row_total = then_total (on_total (λ r. r.hash) nat_cmp_total) (then_total (on_total (λ r. r.key.now) nat_list_cmp_total) (on_total (λ r. r.node) nat_cmp_total))

module _ (rows : List Keyed) (up : IsSorted row_cmp rows) (hashed : All (λ r. r.hash ≡ words_hash r.key.now) rows) (d : Keyed) where
  abbrev at : ℕ → Keyed
  at i = get_or rows i d

  far : (i j : ℕ) → i ≤ j → j < length rows → is_lt (row_cmp (at j) (at i)) ≡ false
  far i j le l = sorted_far (λ x y. is_lt (row_cmp x y)) (ranks_by row_total (λ r. r)) rows up i j d le l

  same-hash : (i j : ℕ) → i < length rows → j < length rows → (at i).key.now ≡ (at j).key.now → (at i).hash ≡ (at j).hash
  same-hash i j li lj e = hashed i d li ∙ (ap words_hash e ∙ sym (hashed j d lj))

  hash-between : (i j k : ℕ) → i ≤ j → j ≤ k → k < length rows → (at i).key.now ≡ (at k).key.now → ((at i).hash ≡ (at j).hash) × ((at j).hash ≡ (at k).hash)
  hash-between i j k a b l e =
      let h = same-hash i k (omega arith) l e in
      let low = number_low (at j).hash (at i).hash (first_low (by_hash (at j) (at i)) (ordering_then (by_key (at j) (at i)) (by_node (at j) (at i))) (far i j a (omega arith))) in
      let high = number_low (at k).hash (at j).hash (first_low (by_hash (at k) (at j)) (ordering_then (by_key (at k) (at j)) (by_node (at k) (at j))) (far j k b l)) in
      (omega arith, omega arith)

  key-low : (i j : ℕ) → i ≤ j → j < length rows → (at i).hash ≡ (at j).hash → is_lt (ordering_then (by_key (at j) (at i)) (by_node (at j) (at i))) ≡ false
  key-low i j le l e = second_low (by_hash (at j) (at i)) (ordering_then (by_key (at j) (at i)) (by_node (at j) (at i)))
      (subst (λ (h : ℕ). nat_cmp (at j).hash h ≡ Equal) (sym e) (tied_itself nat_cmp_total (at j).hash))
      (far i j le l)

  key-between : (i j k : ℕ) → i ≤ j → j ≤ k → k < length rows → (at i).key.now ≡ (at k).key.now → (at j).key.now ≡ (at k).key.now
  key-between i j k a b l e =
      let h = hash-between i j k a b l e in
      let low = first_low (by_key (at j) (at i)) (by_node (at j) (at i)) (key-low i j a (omega arith) h.0) in
      let high = first_low (by_key (at k) (at j)) (by_node (at k) (at j)) (key-low j k b l h.1) in
      list-between (at j).key.now (at k).key.now (subst (λ (x : List ℕ). is_lt (slice_cmp nat_cmp (at j).key.now x) ≡ false) e low) high

  node-rising : (i j : ℕ) → i ≤ j → j < length rows → (at i).key.now ≡ (at j).key.now → (at i).node ≤ (at j).node
  node-rising i j le l e =
      let h = same-hash i j (omega arith) l e in
      number_low (at j).node (at i).node (second_low (by_key (at j) (at i)) (by_node (at j) (at i))
      (subst (λ (x : List ℕ). slice_cmp nat_cmp (at j).key.now x ≡ Equal) (sym e) (tied_itself nat_list_cmp_total (at j).key.now))
      (key-low i j le l h))

  key-is : (i : ℕ) → i < length rows → key_at (keys_of rows) i ≡ (at i).key.now
  key-is i l = get_or-map (λ (r : Keyed). r.key.now) rows i d [] l

  node-is : (i : ℕ) → i < length rows → slice_index (nodes_of rows) i ≡ (at i).node
  node-is i l = get_or-map (λ (r : Keyed). r.node) rows i d 0 l

  together-from : AreTogether rows
  together-from = record {
    between = λ i j k a b l e. key-is j (omega arith) ∙ (key-between i j k a b l (sym (key-is i (omega arith)) ∙ (e ∙ key-is k l)) ∙ sym (key-is k l));
    rising = λ i j le l e. let r = node-rising i j le l (sym (key-is i (omega arith)) ∙ (e ∙ key-is j l)) in let x = node-is i (omega arith) in let y = node-is j l in omega arith;
  }

pub together : (rows : List Keyed) → IsSorted row_cmp rows → All (λ r. r.hash ≡ words_hash r.key.now) rows → AreTogether rows
together [] up hashed = record { between = λ i j k a b l. absurd (omega arith); rising = λ i j le l. absurd (omega arith) }
together (r ∷ rs) up hashed = together-from (r ∷ rs) up hashed r

-- a key that isn't that of the place before is new
pub first-is-new : (key : ℕ → List ℕ) (b : Bool) → b ≡ true → IsNew key b 0
first-is-new key b e = record { new = λ t j l. absurd (omega arith); again = λ f. absurd (true≢false (sym e ∙ f)) }

pub other-is-new : (rows : List Keyed) (i : ℕ) (same b : Bool) → suc i < length rows → AreTogether rows → b ≡ not same → (same ≡ true → key_at (keys_of rows) i ≡ key_at (keys_of rows) (suc i))
    → (key_at (keys_of rows) i ≡ key_at (keys_of rows) (suc i) → same ≡ true) → IsNew (λ j. key_at (keys_of rows) j) b (suc i)
other-is-new rows i true b l t e there back = record { new = λ is. absurd (true≢false (sym is ∙ e)); again = λ f. (i, refl, there refl) }
other-is-new rows i false b l t e there back = record {
  new = λ is j lj same. absurd (true≢false (sym (back (t.between j i (suc i) (omega arith) (omega arith) l same))));
  again = λ f. absurd (true≢false (sym e ∙ f));
}

pub is-new-more : (key : ℕ → List ℕ) (news : List Bool) (n : ℕ) (b : Bool) → length news ≡ n → ((i : ℕ) → i < n → IsNewAt key news i) → IsNew key b n → (i : ℕ) → i < n + 1
    → IsNewAt key (news ++ b ∷ []) i
is-new-more key news n b len each new i l = dite (ℕ_discrete i n)
    (λ e. subst (λ (x : Bool). IsNew key x i) (sym (get_or-append_seam news b [] false) ∙ ap (λ (k : ℕ). slice_index_or (news ++ b ∷ []) k false) (len ∙ sym e))
    (subst (λ (k : ℕ). IsNew key b k) (sym e) new))
    (λ ne. subst (λ (x : Bool). IsNew key x i) (sym (get_or-append news (b ∷ []) false i (omega arith))) (each i (omega arith)))

abbrev pub no_row : Keyed
no_row = record { hash = 0; key = record { ref_ptr = (0, 0); now = [] }; node = 0 }

pub row-key : (rows : List Keyed) (i : ℕ) → key_at (keys_of rows) i ≡ (get_or rows i no_row).key.now
row-key rows i = map-get_or (λ (r : Keyed). r.key.now) rows i no_row

-- the row before
pub not-first-is-new : (rows : List Keyed) (at : ℕ) (same : Bool) → at < length rows → (at ≡ 0 → ⊥) → AreTogether rows
    → (same ≡ true → (get_or rows (at - 1) no_row).key.now ≡ (get_or rows at no_row).key.now) → ((get_or rows (at - 1) no_row).key.now ≡ (get_or rows at no_row).key.now → same ≡ true)
    → IsNew (λ j. key_at (keys_of rows) j) (not same) at
not-first-is-new rows at same l ne t there back =
    let i : ℕ = at - 1 in
    let is : suc i ≡ at = omega arith in
    subst (λ (k : ℕ). IsNew (λ j. key_at (keys_of rows) j) (not same) k) is
    (other-is-new rows i same (not same) (omega arith) t refl
    (λ e. row-key rows i ∙ (there e ∙ (ap (λ (k : ℕ). (get_or rows k no_row).key.now) (sym is) ∙ sym (row-key rows (suc i)))))
    (λ e. back (sym (row-key rows i) ∙ (e ∙ (row-key rows (suc i) ∙ ap (λ (k : ℕ). (get_or rows k no_row).key.now) is)))))

-- one more node
pub nodes-more : (rows : List Keyed) (i : ℕ) → i < length rows → nodes_of (take (i + 1) rows) ≡ nodes_of (take i rows) ++ (get_or rows i no_row).node ∷ []
nodes-more rows i l = ap nodes_of (take_more rows i no_row l) ∙ map-append (λ (r : Keyed). r.node) (take i rows) (get_or rows i no_row ∷ [])
