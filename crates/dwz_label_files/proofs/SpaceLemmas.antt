-- The spaces around a top, from one outward.
use Rattle.std.proofs.Common.{◌≡◌, ℕ, zero, suc, ◌+◌, ◌-◌, ◌<◌, ◌≤◌, List, [], ◌∷◌, ◌++◌, length, get_or, Some, None, slice_get, refl, sym, ap, subst, ◌∙◌, arith}
use Rattle.std.proofs.lemmas.List.{append-nil, append_assoc}
use Rattle.dwz_def_reading.proofs.ListFacts.{got_below}
use Rattle.dwz_label_files.specs.Spaces.{IsBefore}
use Rattle.dwz_graph.specs.declared.index.SpaceEntry.{SpaceEntry}
use Rattle.dwz_graph.specs.Chains.{IsOut}

-- ---- the space before a number

pub first_before : (first : ℕ) (spaces : List SpaceEntry) (k : ℕ) → k ≤ first → IsBefore first spaces k None
first_before first spaces k le = λ j x num got. absurd (omega arith)

pub behind_all : (first : ℕ) (spaces : List SpaceEntry) (k i : ℕ) → first < k → i ≡ k - first - 1 → length spaces ≤ i → IsBefore first spaces k None
behind_all first spaces k i lt is le = λ j x num got. (let low = got_below spaces j x got in absurd (omega arith))

got_item : (spaces : List SpaceEntry) (i : ℕ) (d : SpaceEntry) → i < length spaces → slice_get spaces i ≡ Some (get_or spaces i d)
got_item [] i d low = absurd (omega arith)
got_item (x ∷ spaces) zero d low = refl
got_item (x ∷ spaces) (suc i) d low = got_item spaces i d (omega arith)

pub before_there : (first : ℕ) (spaces : List SpaceEntry) (k i : ℕ) (d : SpaceEntry) → first < k → i ≡ k - first - 1 → i < length spaces → IsBefore first spaces k (Some (get_or spaces i d))
before_there first spaces k i d lt is low = (i, (let num : k ≡ suc (first + i) = omega arith in num), got_item spaces i d low)

-- ---- outward

-- those that are left
pub record OutLeft (first : ℕ) (spaces : List SpaceEntry) (at : ℕ) (done all : List ℕ) : Type 0 where
  pub rest : List ℕ
  pub are : IsOut first spaces at rest
  pub whole : done ++ rest ≡ all

no_more : (first : ℕ) (spaces : List SpaceEntry) (at : ℕ) (rest done all : List ℕ) → IsBefore first spaces at None → IsOut first spaces at rest → done ++ rest ≡ all → done ≡ all
no_more first spaces at [] done all none are whole = sym (append-nil done) ∙ whole
no_more first spaces at (e ∷ rest) done all none are whole = absurd (none are.0 are.1 are.2 are.3)

pub none_left : (first : ℕ) (spaces : List SpaceEntry) (at : ℕ) (done all : List ℕ) → IsBefore first spaces at None → OutLeft first spaces at done all → done ≡ all
none_left first spaces at done all none h = no_more first spaces at h.rest done all none h.are h.whole

-- the next one
record Next (first : ℕ) (spaces : List SpaceEntry) (at : ℕ) (x : SpaceEntry) (rest : List ℕ) : Type 0 where
  left : List ℕ
  is : rest ≡ x.entry ∷ left
  less : x.outer < at
  are : IsOut first spaces x.outer left

next_of : (first : ℕ) (spaces : List SpaceEntry) (at : ℕ) (x : SpaceEntry) (rest : List ℕ) → IsBefore first spaces at (Some x) → IsOut first spaces at rest → Next first spaces at x rest
next_of first spaces at x [] b are = absurd (let one = b.1 in omega arith)
next_of first spaces at x (e ∷ rest) b are =
    let same_j : b.0 ≡ are.0 = (let p = b.1 in let q = are.2 in omega arith) in
    let both : Some x ≡ Some are.1 = sym b.2 ∙ ap (slice_get spaces) same_j ∙ are.3 in
    let same : are.1 ≡ x = cc in
    record {
      left = rest;
      is = ap (λ (n : ℕ). n ∷ rest) (sym are.4 ∙ ap (λ (w : SpaceEntry). w.entry) same);
      less = subst (λ (w : SpaceEntry). w.outer < at) same are.5;
      are = subst (λ (w : SpaceEntry). IsOut first spaces w.outer rest) same are.6;
    }

pub outer_less : (first : ℕ) (spaces : List SpaceEntry) (at : ℕ) (x : SpaceEntry) (done all : List ℕ) → IsBefore first spaces at (Some x) → OutLeft first spaces at done all → x.outer < at
outer_less first spaces at x done all b h = (next_of first spaces at x h.rest b h.are).less

pub one_more : (first : ℕ) (spaces : List SpaceEntry) (at : ℕ) (x : SpaceEntry) (done new all : List ℕ) → IsBefore first spaces at (Some x) → OutLeft first spaces at done all
    → new ≡ done ++ x.entry ∷ [] → OutLeft first spaces x.outer new all
one_more first spaces at x done new all b h e =
    let n = next_of first spaces at x h.rest b h.are in
    record {
      rest = n.left;
      are = n.are;
      whole = ap (λ (w : List ℕ). w ++ n.left) e ∙ append_assoc done (x.entry ∷ []) n.left ∙ ap (λ (w : List ℕ). done ++ w) (sym n.is) ∙ h.whole;
    }
