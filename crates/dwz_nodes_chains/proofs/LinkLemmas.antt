-- Links: how many peaks joins leave, and that links rise on.
use Rattle.std.proofs.Common.{◌≡◌, ◌≢◌, ℕ, zero, suc, ◌+◌, ◌^◌, ◌==◌, ◌<◌, ◌≤◌, true, false, List, [], ◌∷◌, length, get_or, set, ⊎_elim, refl, sym, ap, subst, ◌∙◌, arith, eq-eqb, length-set}
use Rattle.std.proofs.lemmas.Bool.{cases_eq, ne_eqb}
use Rattle.std.proofs.lemmas.List.{get_or-set_same, get_or-set_other}
use Rattle.dwz_nodes_chains.specs.Links.{AreLinks, IsPeak, IsRaised, climb, peaks, peaks_from}

-- ---- peaks

peak_more : (n x : ℕ) (xs : List ℕ) → x ≡ n → peaks_from n (x ∷ xs) ≡ suc (peaks_from (suc n) xs)
unfolding peaks_from
peak_more n x xs e = let yes : (x == n) ≡ true = eq-eqb x n e in rw (yes, peaks_from) refl

peak_same : (n x : ℕ) (xs : List ℕ) → x ≢ n → peaks_from n (x ∷ xs) ≡ peaks_from (suc n) xs
unfolding peaks_from
peak_same n x xs e = let none : (x == n) ≡ false = ne_eqb x n e in rw (none, peaks_from) refl

up_one : (s t p q : ℕ) → s ≡ suc p → t ≡ suc q → p + 1 ≡ q → s + 1 ≡ t
up_one s t p q a b c = omega arith

up_none : (s t p q : ℕ) → s ≡ p → t ≡ q → p + 1 ≡ q → s + 1 ≡ t
up_none s t p q a b c = omega arith

up_begin : (s t p : ℕ) → s ≡ p → t ≡ suc p → s + 1 ≡ t
up_begin s t p a b = omega arith

all_from : (n : ℕ) (xs : List ℕ) → ((x : ℕ) → x < length xs → get_or xs x 0 ≡ n + x) → peaks_from n xs ≡ length xs
unfolding peaks_from
all_from n [] h = refl
all_from n (y ∷ xs) h =
    let e : y ≡ n + 0 = h zero (omega arith) in
    let rest : peaks_from (suc n) xs ≡ length xs = all_from (suc n) xs (λ x l. let f : get_or xs x 0 ≡ n + suc x = h (suc x) (omega arith) in omega arith) in
    peak_more n y xs (omega arith) ∙ ap suc rest

set_from : (n : ℕ) (xs : List ℕ) (x y : ℕ) → x < length xs → get_or xs x 0 ≡ n + x → y ≢ n + x → peaks_from n (set xs x y) + 1 ≡ peaks_from n xs
set_from n [] x y l e ne = absurd (omega arith)
set_from n (z ∷ xs) zero y l e ne =
    let is : z ≡ n + 0 = e in
    up_begin (peaks_from n (y ∷ xs)) (peaks_from n (z ∷ xs)) (peaks_from (suc n) xs)
    (peak_same n y xs (λ q. ne (let w : y ≡ n = q in omega arith))) (peak_more n z xs (omega arith))
set_from n (z ∷ xs) (suc x) y l e ne =
    let is : get_or xs x 0 ≡ n + suc x = e in
    let rest : peaks_from (suc n) (set xs x y) + 1 ≡ peaks_from (suc n) xs =
    set_from (suc n) xs x y (omega arith) (omega arith) (λ q. ne (let w : y ≡ suc n + x = q in omega arith)) in
    ⊎_elim
    (λ (yes : z ≡ n). up_one (peaks_from n (z ∷ set xs x y)) (peaks_from n (z ∷ xs)) (peaks_from (suc n) (set xs x y)) (peaks_from (suc n) xs)
    (peak_more n z (set xs x y) yes) (peak_more n z xs yes) rest)
    (λ (none : z ≢ n). up_none (peaks_from n (z ∷ set xs x y)) (peaks_from n (z ∷ xs)) (peaks_from (suc n) (set xs x y)) (peaks_from (suc n) xs)
    (peak_same n z (set xs x y) none) (peak_same n z xs none) rest)
    (cases_eq z n)

pub peaks_all : (above : List ℕ) → ((x : ℕ) → x < length above → get_or above x 0 ≡ x) → peaks above ≡ length above
unfolding peaks
peaks_all above h = all_from 0 above (λ x l. let e : get_or above x 0 ≡ x = h x l in omega arith)

pub peaks_set : (above : List ℕ) (x y : ℕ) → x < length above → get_or above x 0 ≡ x → y ≢ x → peaks (set above x y) + 1 ≡ peaks above
unfolding peaks
peaks_set above x y l e ne = set_from 0 above x y l (omega arith) (λ q. ne (let w : y ≡ 0 + x = q in omega arith))

pub peaks_some : (above : List ℕ) (x : ℕ) → x < length above → get_or above x 0 ≡ x → 0 < peaks above
peaks_some above x l e = let s = peaks_set above x (suc x) l e (λ q. absurd (let w : suc x ≡ x = q in omega arith)) in omega arith

-- ---- heights

pub room : (above heights : List ℕ) (x : ℕ) → AreLinks above heights → x < length above → IsPeak above x → get_or heights x 0 + 1 < 2 ^ 32
room above heights x s l peak =
    let low : get_or heights x 0 + peaks above ≤ length above = s.low x l in
    let few = s.few in
    let some = peaks_some above x l peak in
    omega arith

-- ---- a peak below another one

module _ (above heights new : List ℕ) (low high : ℕ) (s : AreLinks above heights) (low_in : low < length above) (high_in : high < length above) (low_peak : IsPeak above low)
    (high_peak : IsPeak above high) (other : low ≢ high) (r : IsRaised heights new low high) where
  abbrev joined : List ℕ
  joined = set above low high

  here : get_or joined low 0 ≡ high
  here = get_or-set_same above low high 0 low_in

  there : (x : ℕ) → x ≢ low → get_or joined x 0 ≡ get_or above x 0
  there x ne = get_or-set_other above low x high 0 ne

  pub fewer : peaks joined + 1 ≡ peaks above
  fewer = peaks_set above low high low_in low_peak (λ q. other (sym q))

  inside_at : (x : ℕ) → x < length above → get_or joined x 0 < length above
  inside_at x l = ⊎_elim
      (λ (e : x ≡ low). subst (λ (y : ℕ). get_or joined y 0 < length above) (sym e) (subst (λ (y : ℕ). y < length above) (sym here) high_in))
      (λ (ne : x ≢ low). subst (λ (y : ℕ). y < length above) (sym (there x ne)) (s.inside x l))
      (cases_eq x low)

  -- a node that is no peak, above which stands y
  rise_at : (x y : ℕ) → x ≢ high → get_or heights x 0 < get_or heights y 0 → get_or new x 0 < get_or new y 0
  rise_at x y ne less =
      let same : get_or new x 0 ≡ get_or heights x 0 = r.others x ne in
      ⊎_elim
      (λ (e : y ≡ high). subst (λ (z : ℕ). get_or new x 0 < get_or new z 0) (sym e)
      (let more : get_or heights high 0 ≤ get_or new high 0 = r.more in
      let less' : get_or heights x 0 < get_or heights high 0 = subst (λ (z : ℕ). get_or heights x 0 < get_or heights z 0) e less in
      omega arith))
      (λ (n : y ≢ high). let same' : get_or new y 0 ≡ get_or heights y 0 = r.others y n in omega arith)
      (cases_eq y high)

  rising_at : (x : ℕ) → x < length above → get_or joined x 0 ≢ x → get_or new x 0 < get_or new (get_or joined x 0) 0
  rising_at x l ne = ⊎_elim
      (λ (e : x ≡ low). subst (λ (z : ℕ). get_or new z 0 < get_or new (get_or joined z 0) 0) (sym e)
      (subst (λ (z : ℕ). get_or new low 0 < get_or new z 0) (sym here)
      (let same : get_or new low 0 ≡ get_or heights low 0 = r.others low other in
      let up : get_or heights low 0 < get_or new high 0 = r.higher in
      omega arith)))
      (λ (n : x ≢ low).
      let was : get_or joined x 0 ≡ get_or above x 0 = there x n in
      let moved : get_or above x 0 ≢ x = λ q. ne (was ∙ q) in
      subst (λ (z : ℕ). get_or new x 0 < get_or new z 0) (sym was)
      (rise_at x (get_or above x 0) (λ q. moved (subst (λ (z : ℕ). get_or above z 0 ≡ z) (sym q) high_peak)) (s.rising x l moved)))
      (cases_eq x low)

  low_at : (x : ℕ) → x < length above → get_or new x 0 + peaks joined ≤ length above
  low_at x l =
      let was : get_or heights x 0 + peaks above ≤ length above = s.low x l in
      let less = fewer in
      ⊎_elim
      (λ (e : x ≡ high). subst (λ (z : ℕ). get_or new z 0 + peaks joined ≤ length above) (sym e)
      (let most : get_or new high 0 ≤ get_or heights high 0 + 1 = r.most in
      let was' : get_or heights high 0 + peaks above ≤ length above = subst (λ (z : ℕ). get_or heights z 0 + peaks above ≤ length above) e was in
      omega arith))
      (λ (ne : x ≢ high). let same : get_or new x 0 ≡ get_or heights x 0 = r.others x ne in omega arith)
      (cases_eq x high)

  pub linked : AreLinks joined new
  linked =
      let size : length joined ≡ length above = length-set above low high in record {
        few = (let few = s.few in omega arith);
        len = r.len ∙ (s.len ∙ sym size);
        inside = λ x l. subst (λ (n : ℕ). get_or joined x 0 < n) (sym size) (inside_at x (omega arith));
        rising = λ x l ne. rising_at x (omega arith) ne;
        low = λ x l. subst (λ (n : ℕ). get_or new x 0 + peaks joined ≤ n) (sym size) (low_at x (omega arith));
      }

-- ---- nodes alone

pub alone : (above heights : List ℕ) → length above < 2 ^ 32 → length heights ≡ length above → ((x : ℕ) → x < length above → get_or above x 0 ≡ x)
    → ((x : ℕ) → x < length above → get_or heights x 0 ≡ 0) → AreLinks above heights
alone above heights few len each zeros = record {
  few = few;
  len = len;
  inside = λ x l. let e : get_or above x 0 ≡ x = each x l in omega arith;
  rising = λ x l ne. absurd (ne (each x l));
  low = λ x l. let z : get_or heights x 0 ≡ 0 = zeros x l in let p = peaks_all above each in omega arith;
}

-- ---- links that are climbed

pub climb_more : (above : List ℕ) (n x : ℕ) → climb above (suc n) x ≡ get_or above (climb above n x) 0
climb_more above zero x = refl
climb_more above (suc n) x = climb_more above n (get_or above x 0)
