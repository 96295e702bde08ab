-- Rows that are ordered by their keys are nodes that are grouped by their keys.
use Rattle.std.proofs.Common.{◌≡◌, ℕ, ◌<◌, All, Bool, IsPermutation, List, length, get_or, sym, ap, subst, ◌∙◌, arith}
use Rattle.std.specs.Prelude.{slice_index}
use Rattle.std.proofs.Math.ListN.{get_or-map as map-get_or}
use Rattle.std.proofs.lemmas.List.{get_or_default, length-map}
use Rattle.std.proofs.lemmas.List.Sorted.{All-permutation, Contains-permutation, IsPermutation-map, IsPermutation-sym}
use Rattle.dwz_nodes.specs.Keys.{key_at, AreKeysOf}
use Rattle.dwz_nodes.specs.declared.order.Keyed.{Keyed}
use Rattle.dwz_nodes.specs.Order.{nodes_of, keys_of, AreGroups}
use Rattle.dwz_nodes.proofs.Among.{among-from, among-to}
use Rattle.dwz_nodes.proofs.Ordering.{no_row, row-key}
use Rattle.dwz_rounds.specs.Pending.{AreSame}
use Rattle.dwz_rounds.specs.Split.{IsGrouped}

module _ (key : ℕ → List ℕ) (numbers visit : List ℕ) (number_of : (a b : ℕ) → key a ≡ key b → slice_index numbers a ≡ slice_index numbers b)
    (keys : List (List ℕ)) (rows ordered : List Keyed) (nodes : List ℕ) (news : List Bool)
    (are : AreKeysOf key visit keys) (nodes_are : nodes_of rows ≡ visit) (keys_are : keys_of rows ≡ keys) (perm : IsPermutation rows ordered) (groups : AreGroups ordered nodes news) where
  -- what each row has
  pub record IsOwn (r : Keyed) : Type 0 where
    pub is : r.key.now ≡ key r.node

  many : length rows ≡ length visit
  many = sym (length-map rows (λ (r : Keyed). r.node)) ∙ ap (λ (l : List ℕ). length l) nodes_are

  own-at : (i : ℕ) → i < length rows → IsOwn (get_or rows i no_row)
  own-at i l =
      let node : (get_or rows i no_row).node ≡ slice_index visit i = sym (map-get_or (λ (r : Keyed). r.node) rows i no_row) ∙ ap (λ (x : List ℕ). slice_index x i) nodes_are in
      let bytes : (get_or rows i no_row).key.now ≡ key_at keys i = sym (row-key rows i) ∙ ap (λ (x : List (List ℕ)). key_at x i) keys_are in
      let inside : i < length visit = let e = many in omega arith in
      record {
        is = bytes ∙ (are.each i inside ∙ ap (λ (a : ℕ). key a) (sym node));
      }

  all-own : All IsOwn ordered
  all-own = All-permutation IsOwn rows ordered perm (λ k d l. subst (λ (r : Keyed). IsOwn r) (get_or_default-row rows k d l) (own-at k l))
    where
      get_or_default-row : (xs : List Keyed) (k : ℕ) (d : Keyed) → k < length xs → get_or xs k no_row ≡ get_or xs k d
      get_or_default-row xs k d l = get_or_default xs k no_row d l

  long : length ordered ≡ length nodes
  long = sym (length-map ordered (λ (r : Keyed). r.node)) ∙ ap (λ (l : List ℕ). length l) (sym groups.nodes_are)

  node-at : (i : ℕ) → slice_index nodes i ≡ (get_or ordered i no_row).node
  node-at i = ap (λ (x : List ℕ). slice_index x i) groups.nodes_are ∙ map-get_or (λ (r : Keyed). r.node) ordered i no_row

  word-at : (i : ℕ) → i < length nodes → key_at (keys_of ordered) i ≡ key (slice_index nodes i)
  word-at i l = row-key ordered i ∙ ((all-own i no_row (let e = long in omega arith)).is ∙ ap (λ (a : ℕ). key a) (sym (node-at i)))

  own-same : (i j : ℕ) → i < length nodes → j < length nodes → key_at (keys_of ordered) i ≡ key_at (keys_of ordered) j → key (slice_index nodes i) ≡ key (slice_index nodes j)
  own-same i j li lj e = sym (word-at i li) ∙ (e ∙ word-at j lj)

  same-own : (i j : ℕ) → i < length nodes → j < length nodes → key (slice_index nodes i) ≡ key (slice_index nodes j) → key_at (keys_of ordered) i ≡ key_at (keys_of ordered) j
  same-own i j li lj e = word-at i li ∙ (e ∙ sym (word-at j lj))

  pub is-grouped : IsGrouped key numbers nodes news
  is-grouped = record {
    each = λ i l. let n = groups.each i (let e = long in omega arith) in record {
      new = λ t j lj same. n.new t j lj (same-own j i (omega arith) l same);
      again = λ f. let a = n.again f in (a.0, a.1, own-same a.0 i (let e = a.1 in omega arith) l a.2);
    };
    old_same = λ i j li lj e. number_of (slice_index nodes i) (slice_index nodes j) e;
  }

  pub are-same : AreSame visit nodes
  are-same =
      let moved : IsPermutation (nodes_of rows) (nodes_of ordered) = IsPermutation-map (λ (r : Keyed). r.node) rows ordered perm in
      let all : IsPermutation visit nodes = subst (λ (q : List ℕ × List ℕ). IsPermutation q.0 q.1) (λ j. (nodes_are j, sym groups.nodes_are j)) moved in
      record {
        there = λ a h. among-from nodes a (Contains-permutation visit nodes a all (among-to visit a h));
        back = λ a h. among-from visit a (Contains-permutation nodes visit a (IsPermutation-sym visit nodes all) (among-to nodes a h));
      }

  pub same-length : length news ≡ length nodes
  same-length = groups.len ∙ long
