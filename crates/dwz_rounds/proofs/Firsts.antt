-- Nodes in the order of their keys: the first of those with one key is the first node with it.
use Rattle.std.proofs.Common.{◌≡◌, ℕ, ◌+◌, ◌<◌, Bool, true, false, All, IsPermutation, List, [], length, get_or, set, inr, ⊎_elim, refl, sym, ap, subst, ◌∙◌, arith, get_or-set_other, get_or-set_same}
use Rattle.std.specs.Prelude.{slice_index, slice_index_or}
use Rattle.std.proofs.Math.ListN.{get_or-map as map-get_or}
use Rattle.std.proofs.lemmas.List.{length-map}
use Rattle.std.proofs.lemmas.List.Sorted.{All-permutation, Contains-permutation, IsPermutation-map, IsPermutation-sym}
use mathlib.Core.Logic.{dite}
use native.Mathlib.Decide.{ℕ_discrete, dec_le}
use Rattle.dwz_nodes.specs.Keys.{key_at}
use Rattle.dwz_nodes.specs.declared.order.Keyed.{Keyed}
use Rattle.dwz_nodes.specs.Order.{nodes_of, keys_of, AreGroups}
use Rattle.dwz_nodes.specs.Among.{Among}
use Rattle.dwz_nodes.proofs.Among.{among-from, among-to}
use Rattle.dwz_nodes.proofs.Ordering.{no_row, row-key}
use Rattle.dwz_rounds.specs.Settling.{IsFirst, IsPartly, AreByKey, IsPutTo}
use Rattle.dwz_rounds.proofs.Splitting.{before-or}

module _ (keys : List (List ℕ)) (todo : List ℕ) (rows ordered : List Keyed) (nodes : List ℕ) (news : List Bool) (nodes_are : nodes_of rows ≡ todo)
    (own : All (λ r. r.key.now ≡ key_at keys r.node) rows) (perm : IsPermutation rows ordered) (groups : AreGroups ordered nodes news) where
  all-own : All (λ r. r.key.now ≡ key_at keys r.node) ordered
  all-own = All-permutation (λ (r : Keyed). r.key.now ≡ key_at keys r.node) rows ordered perm own

  long : length ordered ≡ length nodes
  long = sym (length-map ordered (λ (r : Keyed). r.node)) ∙ ap (λ (l : List ℕ). length l) (sym groups.nodes_are)

  node-at : (i : ℕ) → slice_index nodes i ≡ (get_or ordered i no_row).node
  node-at i = ap (λ (x : List ℕ). slice_index x i) groups.nodes_are ∙ map-get_or (λ (r : Keyed). r.node) ordered i no_row

  key-is : (i : ℕ) → i < length nodes → key_at (keys_of ordered) i ≡ key_at keys (slice_index nodes i)
  key-is i l = row-key ordered i ∙ (all-own i no_row (let e = long in omega arith) ∙ ap (λ (a : ℕ). key_at keys a) (sym (node-at i)))

  pub by-key : AreByKey keys todo nodes news
  by-key =
      let moved : IsPermutation (nodes_of rows) (nodes_of ordered) = IsPermutation-map (λ (r : Keyed). r.node) rows ordered perm in
      let all : IsPermutation todo nodes = subst (λ (q : List ℕ × List ℕ). IsPermutation q.0 q.1) (λ j. (nodes_are j, sym groups.nodes_are j)) moved in
      record {
        same = record {
          there = λ a h. among-from nodes a (Contains-permutation todo nodes a all (among-to todo a h));
          back = λ a h. among-from todo a (Contains-permutation nodes todo a (IsPermutation-sym todo nodes all) (among-to nodes a h));
        };
        len = groups.len ∙ long;
        each = λ i l. let n = groups.each i (let e = long in omega arith) in record {
          new = λ t j lj same. n.new t j lj (key-is j (omega arith) ∙ (same ∙ sym (key-is i l)));
          again = λ f. let a = n.again f in (a.0, a.1, sym (key-is a.0 (let e = a.1 in omega arith)) ∙ (a.2 ∙ key-is i l));
        };
        rising = λ i j le l e.
            let r = groups.together.rising i j le (let f = long in omega arith) (key-is i (omega arith) ∙ (e ∙ sym (key-is j l))) in
            let x = ap (λ (y : List ℕ). slice_index y i) groups.nodes_are in
            let z = ap (λ (y : List ℕ). slice_index y j) groups.nodes_are in
            omega arith;
      }

pub put-none : (keys : List (List ℕ)) (nodes old : List ℕ) (first : ℕ) → IsPutTo keys nodes old 0 old first
put-none keys nodes old first = record { done = λ p l. absurd (omega arith); last = λ p e. absurd (omega arith); other = λ a none. refl }

module _ (keys : List (List ℕ)) (todo nodes : List ℕ) (news : List Bool) (old : List ℕ) (partly : IsPartly keys old todo) (by : AreByKey keys todo nodes news) where
  module _ (n first : ℕ) (cur : List ℕ) (inside : n < length nodes) (len : length cur ≡ length old) (s : IsPutTo keys nodes old n cur first) where
    abbrev node : ℕ
    node = slice_index nodes n

    listed : Among todo node
    listed = by.same.back node (n, inside, refl)

    pub new-first : slice_index_or news n false ≡ true → IsFirst keys node node
    new-first t = record {
      inside = partly.inside node listed;
      is = refl;
      least = λ c l e.
          let at = by.same.there c (partly.whole node c listed l e) in
          let q : ℕ = at.0 in
          let same : key_at keys (slice_index nodes q) ≡ key_at keys node = ap (λ (x : ℕ). key_at keys x) at.2 ∙ sym e in
          dite (dec_le n q)
          (λ le. let r = by.rising n q le at.1 (sym same) in let f = at.2 in omega arith)
          (λ lt. absurd ((by.each n inside).new t q (omega arith) same));
    }

    pub old-first : slice_index_or news n false ≡ false → IsFirst keys node first
    old-first f = let a = (by.each n inside).again f in let h = s.last a.0 a.1 in record {
      inside = h.inside;
      is = sym a.2 ∙ h.is;
      least = λ c l e. h.least c l (a.2 ∙ e);
    }

    pub put-more : (next : ℕ) → IsFirst keys node next → IsPutTo keys nodes old (n + 1) (set cur node next) next
    put-more next h =
        let room : node < length cur = let i = partly.inside node listed in let l = partly.len in omega arith in
        let here : slice_index (set cur node next) node ≡ next = get_or-set_same cur node next 0 room in
        record {
          done = λ p l. dite (ℕ_discrete (slice_index nodes p) node)
              (λ e. subst (λ (a : ℕ). IsFirst keys a (slice_index (set cur node next) a)) (sym e) (subst (λ (b : ℕ). IsFirst keys node b) (sym here) h))
              (λ ne. dite (ℕ_discrete p n)
              (λ e. absurd (ne (ap (λ (k : ℕ). slice_index nodes k) e)))
              (λ other. subst (λ (b : ℕ). IsFirst keys (slice_index nodes p) b) (sym (get_or-set_other cur node (slice_index nodes p) next 0 ne)) (s.done p (omega arith))));
          last = λ p e. subst (λ (k : ℕ). IsFirst keys (slice_index nodes k) next) (let f : n ≡ p = omega arith in f) h;
          other = λ a none. get_or-set_other cur node a next 0 (λ e. none n (omega arith) (sym e)) ∙ s.other a (λ p l. none p (omega arith));
        }

  pub put-all : (cur : List ℕ) (first : ℕ) → length cur ≡ length old → IsPutTo keys nodes old (length nodes) cur first → IsPartly keys cur []
  put-all cur first len s = record {
    len = len ∙ partly.len;
    inside = λ a h. let l = h.1 in absurd (omega arith);
    settled = λ a l. inr (⊎_elim
        (λ (h : (p : ℕ) × (p < length nodes) × (slice_index nodes p ≡ a)). subst (λ (x : ℕ). IsFirst keys x (slice_index cur x)) h.2 (s.done h.0 h.1))
        (λ none. ⊎_elim
        (λ there. let at = by.same.there a there in absurd (none at.0 at.1 at.2))
        (λ f. subst (λ (b : ℕ). IsFirst keys a b) (sym (s.other a none)) f)
        (partly.settled a l))
        (before-or nodes a (length nodes)));
    whole = λ a b h. let l = h.1 in absurd (omega arith);
  }
