-- What is taken is fixed by one list.
use Rattle.std.proofs.Common.{◌≡◌, ◌↔◌, ℕ, zero, suc, ◌<◌, Bool, true, false, List, [], ◌∷◌, get_or, Option, Some, None, ⊎_elim, inl, inr, refl, sym, ◌∙◌, subst, arith}
use Rattle.std.proofs.Math.Seq.{ext_get_or}
use Rattle.std.specs.Prelude.{MatchOption}
use Rattle.dwz_def_reading.specs.Lists.{Each, In}
use Rattle.dwz_def_tops.specs.Lists.{Rising}
use Rattle.dwz_def_tops.specs.Spots.{Top, tops_of}
use Rattle.dwz_def_tops.proofs.TopNumbers.{top_at, tops_numbers}
use Rattle.dwz_def_taken.specs.declared.fixed.Fixed.{Fixed}
use Rattle.dwz_def_taken.specs.Beside.{Reused, reused_beside, together}
use Rattle.dwz_def_taken.specs.Laws.{GreatestLaw, IsKeptUp, OneFixedLaw, TakesAlongLaw}
use Rattle.dwz_def_taken.specs.Takes.{Blocked, CanTakeAlong, IsFixed, IsImage, IsTaken}

less : (n : ℕ) (ns : List ℕ) → Each (λ k. n < k) ns → (m : ℕ) → In m ns → n < m
less n [] e m there = absurd there
less n (k ∷ ns) e m (inl is) = subst (λ (x : ℕ). n < x) is e.0
less n (k ∷ ns) e m (inr i) = less n ns e.1 m i

-- rising lists with the same members are one
rising_one : (xs ys : List ℕ) → Rising xs → Rising ys → ((p : ℕ) → In p xs → In p ys) → ((p : ℕ) → In p ys → In p xs) → xs ≡ ys
rising_one [] [] a b f g = refl
rising_one [] (y ∷ ys) a b f g = absurd (g y (inl refl))
rising_one (x ∷ xs) [] a b f g = absurd (f x (inl refl))
rising_one (x ∷ xs) (y ∷ ys) a b f g =
    let head : x ≡ y = ⊎_elim
    (λ is. sym is)
    (λ there. ⊎_elim
    (λ is. is)
    (λ back. let one = less y ys b.0 x there in let two = less x xs a.0 y back in absurd (omega arith))
    (g y (inl refl)))
    (f x (inl refl)) in
    let rest : xs ≡ ys = rising_one xs ys a.1 b.1
    (λ p there. ⊎_elim (λ is. let low = less x xs a.0 p there in absurd (omega arith)) (λ i. i) (f p (inr there)))
    (λ p there. ⊎_elim (λ is. let low = less y ys b.0 p there in absurd (omega arith)) (λ i. i) (g p (inr there))) in
    λ i. head i ∷ rest i

flag_one : (P : Type 0) (a b : Bool) → (a ≡ true) ↔ P → (b ≡ true) ↔ P → a ≡ b
flag_one P true b f g = sym (g.1 (f.0 refl))
flag_one P false true f g = f.1 (g.0 refl)
flag_one P false false f g = refl

-- the first of those that a top is, is one
image_one : (r : Reused) (t : Top) (a b : Option ℕ) → MatchOption a (IsTaken r t → ⊥) (λ n. IsImage r t n) → MatchOption b (IsTaken r t → ⊥) (λ n. IsImage r t n) → a ≡ b
image_one r t None None f g = refl
image_one r t None (Some n) f g = absurd (f (g.top, g.taken))
image_one r t (Some m) None f g = absurd (g (f.top, f.taken))
image_one r t (Some m) (Some n) f g =
    let below = f.least g.top g.taken in
    let above = g.least f.top f.taken in
    let at = g.number in
    let here = f.number in
    let same : m ≡ n = omega arith in
    λ i. Some (same i)

lists_one : (r : Reused) (a b : Fixed) → IsFixed r a → IsFixed r b → (a.takes ≡ b.takes) × (a.images ≡ b.images) × (a.blocked ≡ b.blocked)
lists_one r a b f g = (
  ext_get_or [] a.takes b.takes (f.units ∙ sym g.units) (λ u low.
      rising_one (get_or a.takes u []) (get_or b.takes u []) (f.rising u) (g.rising u) (λ p there. (g.takes u p).1 ((f.takes u p).0 there))
      (λ p there. (f.takes u p).1 ((g.takes u p).0 there))),
  ext_get_or None a.images b.images (f.tops ∙ sym g.tops) (λ n low.
      let t = top_at 0 (tops_of (together r)) n (tops_numbers (together r)) (omega arith) (omega (arith, f.tops)) in
      subst (λ (i : ℕ). get_or a.images i None ≡ get_or b.images i None) t.2
      (image_one r t.0 (get_or a.images (t.0).number None) (get_or b.images (t.0).number None) (f.images t.0 t.1) (g.images t.0 t.1))),
  ext_get_or false a.blocked b.blocked (f.flags ∙ sym g.flags) (λ n low.
      let t = top_at 0 (tops_of (together r)) n (tops_numbers (together r)) (omega arith) (omega (arith, f.flags)) in
      subst (λ (i : ℕ). get_or a.blocked i false ≡ get_or b.blocked i false) t.2
      (flag_one ((k : ℕ) × Blocked r k (t.0).number) (get_or a.blocked (t.0).number false) (get_or b.blocked (t.0).number false) (f.blocked t.0 t.1) (g.blocked t.0 t.1))),
)

pub one_fixed : OneFixedLaw
one_fixed said a b f g =
    let roots : a.roots ≡ b.roots = f.roots ∙ sym g.roots in
    let lists = lists_one (reused_beside said) a b f.lists g.lists in
    λ i. record { roots = roots i; takes = lists.0 i; images = lists.1 i; blocked = lists.2 i }

-- ---- the greatest

along : (r : Reused) (u : ℕ) (parts : List ℕ) → IsKeptUp r u parts → (k p : ℕ) → In p parts → CanTakeAlong r k u p
unfolding CanTakeAlong
along r u parts h zero p there = h.fits p there
along r u parts h (suc k) p there = (along r u parts h k p there, λ q refers. along r u parts h k q (h.refers p q there refers))

pub greatest : GreatestLaw
greatest r u low parts h p there = record { unit = low; part = h.there p there; fits = λ k. along r u parts h k p there }

pub takes_along : TakesAlongLaw
unfolding CanTakeAlong
takes_along r u p t = (t.fits 0, λ q refers low. record { unit = t.unit; part = low; fits = λ k. (t.fits (suc k)).1 q refers })
