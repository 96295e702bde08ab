-- Mentions that are sorted, each once, stand in ascending order.
use Rattle.std.proofs.Common.{◌≡◌, ℕ, ◌==◌, ◌<◌, ◌⊎◌, Bool, Contains, IsPermutation, Ordering, Less, Equal, Greater, nat_cmp, true, List, arith, eq-eqb, length, get_or, inl, inr, ⊎_elim, refl, sym}
use Rattle.std.proofs.Common.{ap, ◌∙◌, subst}
use Rattle.std.specs.Prelude.{◌&&◌}
use Rattle.std.specs.Ordering.{eq_by_cmp, is_eq, ordering_then}
use Rattle.std.specs.Cmp.{IsTotalOrder}
use Rattle.std.specs.List.{dedup, flat_map}
use Rattle.std.specs.List.Sorted.{IsSorted}
use Rattle.std.proofs.lemmas.Cmp.{by_ranked, eq_by_cmp_equiv, nat_cmp_total, on_total, ranked, then_total}
use Rattle.std.proofs.lemmas.Bool.{ne_eqb}
use Rattle.std.proofs.lemmas.List.Kept.{Contains-dedup, Contains-from_dedup, IsStrictlySortedBy-dedup}
use Rattle.std.proofs.lemmas.List.Sorted.{Contains-permutation, IsPermutation-sym}
use Rattle.std.proofs.lemmas.Map.Keys.{Less-from_sorted}
use Rattle.dwz_nodes.specs.declared.uses.Use.{Use}
use Rattle.dwz_nodes.specs.Mentions.{mentions_at, ComesBefore, AreMentions}
use Rattle.dwz_nodes.specs.declared.mentions.Mention.{Mention}
use Rattle.dwz_nodes.proofs.Contained.{contains-flat_map, flat_map-contained}
use Rattle.dwz_nodes.proofs.Among.{among-from, among-to}

-- the order of mentions
abbrev pub mention_cmp : Mention → Mention → Ordering
mention_cmp x y = ordering_then (nat_cmp x.source y.source) (ordering_then (nat_cmp x.position y.position) (nat_cmp x.number y.number))

pub mention_total : IsTotalOrder mention_cmp
mention_total = then_total (on_total (λ m. m.source) nat_cmp_total) (then_total (on_total (λ m. m.position) nat_cmp_total) (on_total (λ m. m.number) nat_cmp_total))

nat-less : (x y : ℕ) → nat_cmp x y ≡ Less → x < y
nat-less x y e = by_ranked (x < y) (x ≡ y) (y < x) (nat_cmp x y) (ranked x y (nat_cmp x y) refl) (λ o l. l) (λ o s. cc) (λ o g. cc)

nat-equal : (x y : ℕ) → nat_cmp x y ≡ Equal → x ≡ y
nat-equal x y e = by_ranked (x < y) (x ≡ y) (y < x) (nat_cmp x y) (ranked x y (nat_cmp x y) refl) (λ o l. cc) (λ o s. s) (λ o g. cc)

less-then : (o p : Ordering) → ordering_then o p ≡ Less → (o ≡ Less) ⊎ ((o ≡ Equal) × (p ≡ Less))
less-then Less p e = inl refl
less-then Equal p e = inr (refl, e)
less-then Greater p e = cc

equal-then : (o p : Ordering) → ordering_then o p ≡ Equal → (o ≡ Equal) × (p ≡ Equal)
equal-then Less p e = cc
equal-then Equal p e = (refl, e)
equal-then Greater p e = cc

comes-before : (x y : Mention) → mention_cmp x y ≡ Less → ComesBefore x y
comes-before x y e = ⊎_elim
    (λ l. inl (nat-less x.source y.source l))
    (λ h. inr (
      nat-equal x.source y.source h.0,
      ⊎_elim
          (λ l. inl (nat-less x.position y.position l))
          (λ k. inr (nat-equal x.position y.position k.0, nat-less x.number y.number k.1))
          (less-then (nat_cmp x.position y.position) (nat_cmp x.number y.number) h.1),
    ))
    (less-then (nat_cmp x.source y.source) (ordering_then (nat_cmp x.position y.position) (nat_cmp x.number y.number)) e)

is-equal : (o : Ordering) → is_eq o ≡ true → o ≡ Equal
is-equal Less e = cc
is-equal Equal e = refl
is-equal Greater e = cc

-- mentions that tie are the same
pub one-mention : (x y : Mention) → eq_by_cmp mention_cmp x y ≡ true → x ≡ y
one-mention x y e =
    let s = equal-then (nat_cmp x.source y.source) (ordering_then (nat_cmp x.position y.position) (nat_cmp x.number y.number)) (is-equal (mention_cmp x y) e) in
    let p = equal-then (nat_cmp x.position y.position) (nat_cmp x.number y.number) s.1 in
    let source : x.source ≡ y.source = nat-equal x.source y.source s.0 in
    let position : x.position ≡ y.position = nat-equal x.position y.position p.0 in
    let number : x.number ≡ y.number = nat-equal x.number y.number p.1 in
    λ i. record { source = source i; position = position i; number = number i }

-- the mentions of all pending nodes, sorted, each once
module _ (rows : List (List Use)) (numbers pending : List ℕ) (same : Mention → Mention → Bool) (ties : (x y : Mention) → same x y ≡ eq_by_cmp mention_cmp x y)
    (old sorted new : List Mention) (all_are : old ≡ flat_map (mentions_at rows numbers) pending) (moved : IsPermutation old sorted)
    (up : IsSorted mention_cmp sorted) (once : new ≡ dedup same sorted) where
  abbrev tie : Mention → Mention → Bool
  tie = eq_by_cmp mention_cmp

  kept : new ≡ dedup tie sorted
  kept = once ∙ (λ i. dedup (λ x y. ties x y i) sorted)

  pub listed : AreMentions rows numbers pending new
  listed = record {
    each = λ m h.
        let c : Contains old m = Contains-permutation sorted old m (IsPermutation-sym old sorted moved) (Contains-from_dedup tie sorted m (subst (λ (xs : List Mention). Contains xs m) kept h)) in
        let q = flat_map-contained (mentions_at rows numbers) pending m (subst (λ (xs : List Mention). Contains xs m) all_are c) in
        (q.0, among-from pending q.0 q.1, q.2);
    all = λ m h.
        let c : Contains old m = subst (λ (xs : List Mention). Contains xs m) (sym all_are) (contains-flat_map (mentions_at rows numbers) pending h.0 m (among-to pending h.0 h.1) h.2) in
        subst (λ (xs : List Mention). Contains xs m) (sym kept) (Contains-dedup (eq_by_cmp_equiv mention_total) one-mention sorted m (Contains-permutation old sorted m moved c));
    rising = λ i j d l lj.
        subst (λ (xs : List Mention). ComesBefore (get_or xs i d) (get_or xs j d)) (sym kept)
        (comes-before (get_or (dedup tie sorted) i d) (get_or (dedup tie sorted) j d)
        (Less-from_sorted mention_cmp (dedup tie sorted) i j d (IsStrictlySortedBy-dedup mention_total (λ x y. refl) sorted up) l (subst (λ (xs : List Mention). j < length xs) kept lj)));
  }

eq-tie : (x y : ℕ) → (x == y) ≡ is_eq (nat_cmp x y)
eq-tie x y = by_ranked (x < y) (x ≡ y) (y < x) (nat_cmp x y) (ranked x y (nat_cmp x y) refl)
    (λ o l. ne_eqb x y (λ e. (omega arith)) ∙ sym (ap is_eq o))
    (λ o s. eq-eqb x y s ∙ sym (ap is_eq o))
    (λ o g. ne_eqb x y (λ e. (omega arith)) ∙ sym (ap is_eq o))

eq-then : (o p : Ordering) → is_eq o && is_eq p ≡ is_eq (ordering_then o p)
eq-then Less p = refl
eq-then Equal p = refl
eq-then Greater p = refl

-- three equal parts are a tie
pub all-tie : (x y : Mention) → ((x.source == y.source) && ((x.position == y.position) && (x.number == y.number))) ≡ eq_by_cmp mention_cmp x y
all-tie x y =
    (λ i. eq-tie x.source y.source i && (eq-tie x.position y.position i && eq-tie x.number y.number i))
    ∙ (ap (λ (b : Bool). is_eq (nat_cmp x.source y.source) && b) (eq-then (nat_cmp x.position y.position) (nat_cmp x.number y.number))
    ∙ eq-then (nat_cmp x.source y.source) (ordering_then (nat_cmp x.position y.position) (nat_cmp x.number y.number)))
