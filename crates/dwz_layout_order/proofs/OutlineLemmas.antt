-- Lists with a top first, and with a space first; how many tops and spaces there are.
use Rattle.std.proofs.Common.{◌≡◌, ℕ, suc, ◌+◌, ◌≤◌, Bool, true, false, List, ◌∷◌, ◌++◌, ◌||◌, ◌&&◌, length, refl, arith}
use Rattle.std.proofs.lemmas.List.{length-append}
use Rattle.dwz_def_reading.specs.Trees.{End, Entry, Forest, size}
use Rattle.dwz_graph.specs.Steps.{spaces_by, tops_by}
use Rattle.dwz_layout_items.specs.declared.order.Outer.{Outer}
use Rattle.dwz_layout_order.specs.declared.marks.Marks.{Marks}
use Rattle.dwz_layout_order.specs.declared.outline.Next.{Next}
use Rattle.dwz_layout_order.specs.Marks.{flag_at, mark_at}
use Rattle.dwz_layout_order.specs.Outline.{behind_list, behind_space, behind_top, closed, outers_in, pinned_in, space_opened, top_outer}

pub or_assoc : (a b c : Bool) → ((a || b) || c) ≡ (a || (b || c))
or_assoc true b c = refl
or_assoc false b c = refl

pub or_none : (a : Bool) → (a || false) ≡ a
or_none true = refl
or_none false = refl

module _ {E : Type 0} (test : E → Bool) (m : Marks) (e : E) (c x : Forest E) where
  pub outers_top : (n : Next) → test e ≡ false → outers_in test m n (Entry e c x) ≡ top_outer m n.top ∷ outers_in test m (behind_top n) x
  unfolding outers_in
  outers_top n h = rw (h, outers_in) refl

  pub outers_space : (n : Next) → test e ≡ true
      → outers_in test m n (Entry e c x)
      ≡ closed (space_opened m n.space) (length (outers_in test m (behind_space n) c)) (pinned_in test m (behind_space n) c)
      ∷ (outers_in test m (behind_space n) c ++ outers_in test m (behind_list test c (behind_space n)) x)
  unfolding outers_in
  outers_space n h = rw (h, outers_in) refl

  pub pinned_top : (n : Next) → test e ≡ false → pinned_in test m n (Entry e c x) ≡ ((mark_at m.tops.now n.top).stays && (mark_at m.tops.now n.top).pinned || pinned_in test m (behind_top n) x)
  unfolding pinned_in
  pinned_top n h = rw (h, pinned_in) refl

  pub pinned_space : (n : Next) → test e ≡ true
      → pinned_in test m n (Entry e c x) ≡ ((flag_at m.spaces.now n.space || pinned_in test m (behind_space n) c) || pinned_in test m (behind_list test c (behind_space n)) x)
  unfolding pinned_in
  pinned_space n h = rw (h, pinned_in) refl

module _ {E : Type 0} (test : E → Bool) (e : E) (c x : Forest E) where
  pub tops_top : test e ≡ false → tops_by test (Entry e c x) ≡ suc (tops_by test x)
  unfolding tops_by
  tops_top h = rw (h, tops_by) refl

  pub tops_space : test e ≡ true → tops_by test (Entry e c x) ≡ tops_by test c + tops_by test x
  unfolding tops_by
  tops_space h = rw (h, tops_by) refl

  pub spaces_top : test e ≡ false → spaces_by test (Entry e c x) ≡ spaces_by test x
  unfolding spaces_by
  spaces_top h = rw (h, spaces_by) refl

  pub spaces_space : test e ≡ true → spaces_by test (Entry e c x) ≡ suc (spaces_by test c + spaces_by test x)
  unfolding spaces_by
  spaces_space h = rw (h, spaces_by) refl

  pub behind_one_top : (n : Next) → test e ≡ false → behind_list test x (behind_top n) ≡ behind_list test (Entry e c x) n
  behind_one_top n h =
      let a : suc n.top + tops_by test x ≡ n.top + tops_by test (Entry e c x) = omega (arith, tops_top h) in
      let b : n.space + spaces_by test x ≡ n.space + spaces_by test (Entry e c x) = omega (arith, spaces_top h) in
      (λ i. record { top = a i; space = b i })

  pub behind_one_space : (n : Next) → test e ≡ true → behind_list test x (behind_list test c (behind_space n)) ≡ behind_list test (Entry e c x) n
  behind_one_space n h =
      let a : n.top + tops_by test c + tops_by test x ≡ n.top + tops_by test (Entry e c x) = omega (arith, tops_space h) in
      let b : suc n.space + spaces_by test c + spaces_by test x ≡ n.space + spaces_by test (Entry e c x) = omega (arith, spaces_space h) in
      (λ i. record { top = a i; space = b i })

module _ {E : Type 0} (test : E → Bool) where
  -- there are no more tops and spaces together than entries
  pub few : (f : Forest E) → tops_by test f + spaces_by test f ≤ size f
  unfolding tops_by spaces_by
  few End = omega arith
  few (Entry e c x) = by (test e) (few c) (few x) where
    by : (b : Bool) → tops_by test c + spaces_by test c ≤ size c → tops_by test x + spaces_by test x ≤ size x
        → (elim b as (λ _. ℕ) [ false ↦ suc (tops_by test x) | true ↦ tops_by test c + tops_by test x ])
        + (elim b as (λ _. ℕ) [ false ↦ spaces_by test x | true ↦ suc (spaces_by test c + spaces_by test x) ])
        ≤ size c + size x + 1
    by false p q = omega arith
    by true p q = omega arith

  pub many : (m : Marks) (n : Next) (f : Forest E) → length (outers_in test m n f) ≡ tops_by test f + spaces_by test f
  unfolding outers_in tops_by spaces_by
  many m n End = refl
  many m n (Entry e c x) = by (test e) (many m (behind_top n) x) (many m (behind_space n) c) (many m (behind_list test c (behind_space n)) x) where
    inner : List Outer
    inner = outers_in test m (behind_space n) c

    others : List Outer
    others = outers_in test m (behind_list test c (behind_space n)) x

    by : (b : Bool) → length (outers_in test m (behind_top n) x) ≡ tops_by test x + spaces_by test x → length inner ≡ tops_by test c + spaces_by test c
        → length others ≡ tops_by test x + spaces_by test x
        → length (elim b as (λ _. List Outer) [
          | false ↦ top_outer m n.top ∷ outers_in test m (behind_top n) x
          | true ↦ closed (space_opened m n.space) (length inner) (pinned_in test m (behind_space n) c) ∷ (inner ++ others)
        ])
        ≡ (elim b as (λ _. ℕ) [ false ↦ suc (tops_by test x) | true ↦ tops_by test c + tops_by test x ])
        + (elim b as (λ _. ℕ) [ false ↦ spaces_by test x | true ↦ suc (spaces_by test c + spaces_by test x) ])
    by false p q r = omega (arith, p)
    by true p q r = omega (arith, q, r, length-append inner others)
