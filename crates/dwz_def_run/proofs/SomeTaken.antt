-- It can't be that nothing is said of what is taken: lists with all that is taken are made step by step, of which none can be missing.
use Rattle.std.proofs.Common.{◌≡◌, ◌↔◌, ◌⊎◌, ℕ, zero, suc, ◌+◌, ◌<◌, ◌≤◌, Bool, true, false, List, [], ◌∷◌, length, map, get_or, Option, Some, None, inl, inr, refl, sym, ap, subst, ◌∙◌, arith}
use Rattle.std.specs.Prelude.{MatchOption}
use Rattle.std.proofs.lemmas.List.{get_or_past, length-append}
use Rattle.dwz_def_reading.specs.Lists.{Each, In, Rising}
use Rattle.dwz_def_reading.specs.Finished.{BesideDocs}
use Rattle.dwz_def_tops.specs.Spots.{Top, tops_of}
use Rattle.dwz_def_tops.proofs.TopNumbers.{number_below, one_top, top_at, tops_numbers}
use Rattle.dwz_def_taken.specs.declared.fixed.Fixed.{Fixed}
use Rattle.dwz_def_taken.specs.Beside.{Reused, reused_beside, together}
use Rattle.dwz_def_taken.specs.Takes.{Blocked, IsFixed, IsFixedOf, IsImage, IsTaken, IsTakenAs, Takes}

-- ---- numbers

first_or_later : (m n : ℕ) → m ≤ n → (m ≡ n) ⊎ (suc m ≤ n)
first_or_later zero zero low = inl refl
first_or_later zero (suc n) low = inr (omega arith)
first_or_later (suc m) zero low = absurd (omega arith)
first_or_later (suc m) (suc n) low = by (first_or_later m n (omega arith)) where
  by : (m ≡ n) ⊎ (suc m ≤ n) → (suc m ≡ suc n) ⊎ (suc (suc m) ≤ suc n)
  by (inl is) = inl (ap suc is)
  by (inr later) = inr (omega arith)

below_or : (k n : ℕ) → (k < n) ⊎ (n ≤ k)
below_or k zero = inr (omega arith)
below_or zero (suc n) = inl (omega arith)
below_or (suc k) (suc n) = by (below_or k n) where
  by : (k < n) ⊎ (n ≤ k) → (suc k < suc n) ⊎ (suc n ≤ suc k)
  by (inl less) = inl (omega arith)
  by (inr high) = inr (omega arith)

-- ---- what can't be missing

abbrev NeverNone : Type 0 → Type 0
NeverNone P = (P → ⊥) → ⊥

-- something is so, or it isn't
either_way : (P : Type 0) → NeverNone (P ⊎ (P → ⊥))
either_way P none = none (inr (λ p. none (inl p)))

-- a list with a member for each number below that one
module _ {X : Type 0} (d : X) where
  record Filled (P : ℕ → X → Type 0) (n : ℕ) : Type 0 where
    items : List X
    many : length items ≡ n
    each : (i : ℕ) → i < n → P i (get_or items i d)

  filled : (P : ℕ → X → Type 0) (n : ℕ) → ((i : ℕ) → i < n → NeverNone ((x : X) × P i x)) → NeverNone (Filled P n)
  filled P zero some none = none (record { items = []; many = refl; each = λ i low. absurd (omega arith) })
  filled P (suc n) some none =
      some 0 (omega arith) (λ first. filled (λ i x. P (suc i) x) n (λ i low. some (suc i) (omega arith)) (λ rest. none (record {
        items = first.0 ∷ rest.items;
        many = ap suc rest.many;
        each = λ i low. at first.0 first.1 rest.items rest.each i low;
      }))) where
        at : (x : X) → P 0 x → (xs : List X) → ((i : ℕ) → i < n → P (suc i) (get_or xs i d)) → (i : ℕ) → i < suc n → P i (get_or (x ∷ xs) i d)
        at x is xs more zero low = is
        at x is xs more (suc i) low = more i (omega arith)

-- the numbers of which something holds, from one on to before another
record Listed (Q : ℕ → Type 0) (from count : ℕ) : Type 0 where
  items : List ℕ
  rising : Rising items
  low : Each (λ n. from ≤ n) items
  holds : (n : ℕ) → In n items → Q n × (n < from + count)
  there : (n : ℕ) → from ≤ n → n < from + count → Q n → In n items

weaker : (from : ℕ) (ns : List ℕ) → Each (λ n. suc from ≤ n) ns → Each (λ n. from ≤ n) ns
weaker from [] all = tt
weaker from (n ∷ ns) all = (let one = all.0 in omega arith, weaker from ns all.1)

listed : (Q : ℕ → Type 0) (from count : ℕ) → NeverNone (Listed Q from count)
listed Q from zero none = none (record { items = []; rising = tt; low = tt; holds = λ n i. absurd i; there = λ n low high q. absurd (omega arith) })
listed Q from (suc count) none = either_way (Q from) (λ q. listed Q (suc from) count (λ rest. none (by rest q))) where
  by : Listed Q (suc from) count → Q from ⊎ (Q from → ⊥) → Listed Q from (suc count)
  by rest (inl q) = record {
    items = from ∷ rest.items;
    rising = (rest.low, rest.rising);
    low = (omega arith, weaker from rest.items rest.low);
    holds = λ n i. first n i;
    there = λ n low high k. at n low high k;
  } where
    first : (n : ℕ) → In n (from ∷ rest.items) → Q n × (n < from + suc count)
    first n (inl is) = (subst Q is q, let same = is in omega arith)
    first n (inr i) = let h = rest.holds n i in (h.0, let high = h.1 in omega arith)

    at : (n : ℕ) → from ≤ n → n < from + suc count → Q n → In n (from ∷ rest.items)
    at n low high k = go (first_or_later from n low) where
      go : (from ≡ n) ⊎ (suc from ≤ n) → In n (from ∷ rest.items)
      go (inl is) = inl is
      go (inr later) = inr (rest.there n later (omega arith) k)
  by rest (inr not_so) = record {
    items = rest.items;
    rising = rest.rising;
    low = weaker from rest.items rest.low;
    holds = λ n i. (let h = rest.holds n i in (h.0, let high = h.1 in omega arith));
    there = λ n low high k. at n low high k;
  } where
    at : (n : ℕ) → from ≤ n → n < from + suc count → Q n → In n rest.items
    at n low high k = go (first_or_later from n low) where
      go : (from ≡ n) ⊎ (suc from ≤ n) → In n rest.items
      go (inl is) = absurd (not_so (subst Q (sym is) k))
      go (inr later) = rest.there n later (omega arith) k

-- the least number of which something holds
record Least (Q : ℕ → Type 0) : Type 0 where
  number : ℕ
  is : Q number
  least : (n : ℕ) → Q n → number ≤ n

least_below : (Q : ℕ → Type 0) (bound n : ℕ) → n < bound → Q n → NeverNone (Least Q)
least_below Q zero n low q none = absurd (omega arith)
least_below Q (suc bound) n low q none = none (record { number = n; is = q; least = λ k r. above (λ j less h. least_below Q bound j (omega arith) h none) k r (below_or k n) }) where
  above : ((j : ℕ) → j < n → Q j → ⊥) → (k : ℕ) → Q k → (k < n) ⊎ (n ≤ k) → n ≤ k
  above under k r (inl less) = absurd (under k less r)
  above under k r (inr high) = high

-- ---- what is taken

module _ (r : Reused) where
  abbrev tops : List Top
  tops = tops_of (together r)

  -- by units
  abbrev TakesThese : ℕ → List ℕ → Type 0
  TakesThese u parts = Rising parts × ((p : ℕ) → In p parts ↔ Takes r u p)

  some_parts : (u : ℕ) → NeverNone ((parts : List ℕ) × TakesThese u parts)
  some_parts u none = listed (Takes r u) 0 (length r.commons) (λ l. none (l.items, (l.rising, λ p. ((λ i. (l.holds p i).0), (λ t. l.there p (omega arith) (let low = t.part in omega arith) t)))))

  -- by tops
  abbrev ImageIs : ℕ → Option ℕ → Type 0
  ImageIs n image = (t : Top) → In t tops → t.number ≡ n → MatchOption image (IsTaken r t → ⊥) (IsImage r t)

  top_with : (n : ℕ) → n < length tops → (t : Top) × In t tops × (t.number ≡ n)
  top_with n low = (let t = top_at 0 tops n (tops_numbers (together r)) (omega arith) (omega arith) in (t.0, t.1, t.2))

  image_of : (n : ℕ) (t : Top) → In t tops → t.number ≡ n → NeverNone ((image : Option ℕ) × ImageIs n image)
  image_of n t there is none = either_way (IsTaken r t) (λ taken. by taken) where
    same : (u : Top) → In u tops → u.number ≡ n → t ≡ u
    same u i e = one_top 0 tops t u (tops_numbers (together r)) there i (is ∙ sym e)

    TakenAt : ℕ → Type 0
    TakenAt m = (c : Top) × IsTakenAs r t c × (c.number ≡ m)

    image : (l : Least TakenAt) → IsImage r t l.number
    image l = record {
      top = l.is.0;
      taken = l.is.1;
      number = l.is.2;
      least = λ c taken. l.least c.number (c, taken, refl);
    }

    by : IsTaken r t ⊎ (IsTaken r t → ⊥) → ⊥
    by (inl taken) = least_below TakenAt (suc (taken.0).number) (taken.0).number (omega arith) (taken.0, taken.1, refl)
        (λ l. none (Some l.number, λ u i e. subst (λ (v : Top). IsImage r v l.number) (same u i e) (image l)))
    by (inr left) = none (None, λ u i e taken. left (subst (IsTaken r) (sym (same u i e)) taken))

  some_image : (n : ℕ) → n < length tops → NeverNone ((image : Option ℕ) × ImageIs n image)
  some_image n low = let t = top_with n low in image_of n t.0 t.1 t.2

  abbrev FlagIs : ℕ → Bool → Type 0
  FlagIs n flag = (flag ≡ true) ↔ ((k : ℕ) × Blocked r k n)

  some_flag : (n : ℕ) → NeverNone ((flag : Bool) × FlagIs n flag)
  some_flag n none = either_way ((k : ℕ) × Blocked r k n) (λ blocked. by blocked) where
    by : ((k : ℕ) × Blocked r k n) ⊎ (((k : ℕ) × Blocked r k n) → ⊥) → ⊥
    by (inl is) = none (true, ((λ e. is), (λ b. refl)))
    by (inr left) = none (false, ((λ e. absurd cc), (λ b. absurd (left b))))

  module _ (takes : Filled [] TakesThese (length (together r))) (images : Filled None ImageIs (length tops)) (flags : Filled false FlagIs (length tops)) where
    parts_at : (u : ℕ) → (u < length (together r)) ⊎ (length (together r) ≤ u) → TakesThese u (get_or takes.items u [])
    parts_at u (inl low) = takes.each u low
    parts_at u (inr past) =
        subst (TakesThese u) (sym (get_or_past takes.items u [] (let many = takes.many in omega arith)))
        (tt, λ p. ((λ i. absurd i), (λ t. absurd (let low = t.unit in let long = length-append r.units r.commons in omega (arith, low, long, past)))))

    low_number : (t : Top) → In t tops → t.number < length tops
    low_number t there = let low = number_below 0 tops t (tops_numbers (together r)) there in omega arith

    lists : (roots : List ℕ) → IsFixed r (record { roots = roots; takes = takes.items; images = images.items; blocked = flags.items })
    lists roots = record {
      units = takes.many;
      takes = λ u p. (parts_at u (below_or u (length (together r)))).1 p;
      rising = λ u. (parts_at u (below_or u (length (together r)))).0;
      tops = images.many;
      images = λ t there. images.each t.number (low_number t there) t there refl;
      flags = flags.many;
      blocked = λ t there. flags.each t.number (low_number t there);
    }

-- what is taken of files that were read beside a finished common file
pub never_none_taken : (said : BesideDocs) → ((fixed : Fixed) → IsFixedOf said fixed → ⊥) → ⊥
never_none_taken said none =
    let r = reused_beside said in
    let roots = map (λ u. u.root.at.at) said.common.units in
    filled [] (TakesThese r) (length (together r)) (λ u low. some_parts r u) (λ takes.
    filled None (ImageIs r) (length (tops_of (together r))) (λ n low. some_image r n low) (λ images.
    filled false (FlagIs r) (length (tops_of (together r))) (λ n low. some_flag r n) (λ flags.
    none (record { roots = roots; takes = takes.items; images = images.items; blocked = flags.items }) (record { roots = refl; lists = lists r takes images flags roots }))))
