-- Places that are noted node by node, and target by target: each list stays the list of the places so far.
use Rattle.std.proofs.Common.{◌≡◌, ◌≢◌, ℕ, suc, ◌+◌, ◌<◌, ◌≤◌, ◌⊎◌, AllPairs, List, [], ◌∷◌, ◌++◌, length, get_or, inl, inr, ⊎_elim, refl, sym, ap, subst, ◌∙◌, arith, length-append, Contains}
use Rattle.std.specs.Prelude.{slice_index}
use Rattle.std.proofs.Math.ListN.{get_or-append}
use Rattle.std.proofs.Math.Seq.{get_or-append_seam}
use Rattle.std.proofs.lemmas.List.{get_or_default}
use Rattle.std.proofs.lemmas.List.Elements.{Contains-append_left, Contains-push, Contains-push_cases}
use mathlib.Core.Logic.{dite}
use native.Mathlib.Decide.{ℕ_discrete, dec_le}
use Rattle.dwz_nodes.specs.declared.uses.Use.{Use}
use Rattle.dwz_nodes.specs.Graph.{Node, targets_at}
use Rattle.dwz_nodes.specs.Uses.{StandsBefore, AreUsesOf}
use Rattle.dwz_nodes.specs.UseRooms.{IsEarlyUse, AreEarlyUses}

-- no place is noted before the first node
pub early-none : (g : List Node) (a : ℕ) → AreEarlyUses g 0 0 a []
early-none g a = record {
  each = λ u c. (let l = c.1 in absurd (omega arith));
  all = λ u e. ⊎_elim (λ l. absurd (omega arith)) (λ h. let l = h.1 in absurd (omega arith)) e.early;
  rising = λ i j d l m. absurd (omega arith);
}

-- where all nodes are done they are all places
pub early-all : (g : List Node) (a : ℕ) (us : List Use) → AreEarlyUses g (length g) 0 a us → AreUsesOf g a us
early-all g a us e = record {
  each = λ u c. let x = e.each u c in record { source = ⊎_elim (λ l. l) (λ h. let l = h.1 in absurd (omega arith)) x.early; position = x.position; is = x.is };
  all = λ u x. e.all u record { early = inl x.source; position = x.position; is = x.is };
  rising = e.rising;
}

-- one more element, behind all others
pairs-push : (us : List Use) (v : Use) → AllPairs StandsBefore us → ((u : Use) → Contains us u → StandsBefore u v) → AllPairs StandsBefore (us ++ v ∷ [])
pairs-push us v pairs low i j d lt lj =
    let grown = length-append us (v ∷ []) in
    let li : i < length us = omega arith in
    let front : get_or (us ++ v ∷ []) i d ≡ get_or us i d = get_or-append us (v ∷ []) d i li in
    dite (dec_le (suc j) (length us))
    (λ inside.
    let back : get_or (us ++ v ∷ []) j d ≡ get_or us j d = get_or-append us (v ∷ []) d j inside in
    subst (λ (q : Use × Use). StandsBefore q.0 q.1) (λ k. (sym front k, sym back k)) (pairs i j d lt inside))
    (λ out.
    let at : j ≡ length us = omega arith in
    let back : get_or (us ++ v ∷ []) j d ≡ v = ap (λ (m : ℕ). get_or (us ++ v ∷ []) m d) at ∙ get_or-append_seam us v [] d in
    subst (λ (q : Use × Use). StandsBefore q.0 q.1) (λ k. (sym front k, sym back k)) (low (get_or us i d) (i, li, get_or_default us i (get_or us i d) d li)))

module _ (g : List Node) (n : ℕ) where
  abbrev ts : List ℕ
  ts = targets_at g n

  -- behind the last target of a node
  pub early-next : (j a : ℕ) (us : List Use) → length ts ≤ j → AreEarlyUses g n j a us → AreEarlyUses g (n + 1) 0 a us
  early-next j a us long e = record {
    each = λ u c. let x = e.each u c in record { early = inl (⊎_elim (λ l. omega arith) (λ h. let s = h.0 in omega arith) x.early); position = x.position; is = x.is };
    all = λ u x. e.all u record {
      early = ⊎_elim
          (λ l. dite (ℕ_discrete u.source n)
          (λ is. inr (is, let p : u.position < length ts = subst (λ (k : ℕ). u.position < length (targets_at g k)) is x.position in omega arith))
          (λ ne. inl (omega arith)))
          (λ h. let l = h.1 in absurd (omega arith))
          x.early;
      position = x.position;
      is = x.is;
    };
    rising = e.rising;
  }

  module _ (j : ℕ) (inside : j < length ts) where
    abbrev t : ℕ
    t = slice_index ts j

    abbrev pub place : Use
    place = record { source = n; position = j }

    wider : (a : ℕ) (u : Use) → IsEarlyUse g n j a u → IsEarlyUse g n (j + 1) a u
    wider a u x = record { early = ⊎_elim (λ l. inl l) (λ h. inr (h.0, let l = h.1 in omega arith)) x.early; position = x.position; is = x.is }

    -- the place itself, or an earlier one
    last-or : (a : ℕ) (u : Use) → IsEarlyUse g n (j + 1) a u → (place ≡ u) ⊎ IsEarlyUse g n j a u
    last-or a u x = ⊎_elim
        (λ l. inr record { early = inl l; position = x.position; is = x.is })
        (λ h. dite (ℕ_discrete u.position j)
        (λ e. inl (λ i. record { source = sym h.0 i; position = sym e i }))
        (λ ne. inr record { early = inr (h.0, let l = h.1 in omega arith); position = x.position; is = x.is }))
        x.early

    -- at the target itself
    pub early-here : (us : List Use) → AreEarlyUses g n j t us → AreEarlyUses g n (j + 1) t (us ++ place ∷ [])
    early-here us e = record {
      each = λ u c. ⊎_elim
          (λ o. wider t u (e.each u o))
          (λ is. subst (λ (x : Use). IsEarlyUse g n (j + 1) t x) is record { early = inr (refl, omega arith); position = inside; is = refl })
          (Contains-push_cases us place u c);
      all = λ u x. ⊎_elim
          (λ is. subst (λ (y : Use). Contains (us ++ place ∷ []) y) is (Contains-push us place))
          (λ o. Contains-append_left us (place ∷ []) u (e.all u o))
          (last-or t u x);
      rising = pairs-push us place e.rising (λ u c. let x = e.each u c in x.early);
    }

    -- at another node
    pub early-other : (a : ℕ) (us : List Use) → a ≢ t → AreEarlyUses g n j a us → AreEarlyUses g n (j + 1) a us
    early-other a us ne e = record {
      each = λ u c. wider a u (e.each u c);
      all = λ u x. ⊎_elim
          (λ is. absurd (ne (sym (subst (λ (y : Use). slice_index (targets_at g y.source) y.position ≡ a) (sym is) x.is))))
          (λ o. e.all u o)
          (last-or a u x);
      rising = e.rising;
    }
