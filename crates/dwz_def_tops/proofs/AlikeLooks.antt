-- Looks of one depth, among tops whose references go to each other.
use Rattle.std.proofs.Common.{◌≡◌, ℕ, zero, suc, ◌+◌, ◌<◌, List, length, Some, Decides, refl, sym, ap, subst, ◌∙◌, arith}
use Rattle.std.proofs.lemmas.Bool.Decides.{Decides-at, Decides-like}
use Rattle.dwz_def_reading.specs.Lists.{In}
use Rattle.dwz_def_tops.specs.Alike.{Look, SameTop}
use Rattle.dwz_def_tops.specs.Deciding.{look_test, on_tops, same_top, top_in}
use Rattle.dwz_def_tops.specs.Spots.{Top}
use Rattle.dwz_def_tops.proofs.AlikeTests.{Decides-any}
use Rattle.dwz_def_tops.proofs.AlikeTops.{DecidesIn, Gives, Holds, Joins, TopIn, Turns, top_decides, top_gives, top_joins, top_self, top_turns}
use Rattle.dwz_def_tops.proofs.TopNumbers.{Numbered, finds, one_top, top_at}

-- each of the numbers has a top, and references in these tops go to tops whose numbers are among them
pub record AreClosed (tops : List Top) (Q : ℕ → Type 0) : Type 0 where
  pub there : (n : ℕ) → Q n → (t : Top) × In t tops × (t.number ≡ n)
  pub inside : (t : Top) → In t tops → Q t.number → TopIn Q t

-- all tops are, where each reference into a top names one that is there
pub tops_closed : (tops : List Top) → Numbered 0 tops → ((t : Top) → In t tops → TopIn (λ n. n < length tops) t) → AreClosed tops (λ n. n < length tops)
tops_closed tops numbered h = record {
  there = λ n low. top_at 0 tops n numbered (omega arith) (omega arith);
  inside = λ t i low. h t i;
}

-- ---- one step deeper

-- what holds of two tops holds of the only tops with their numbers
of_numbers : (tops : List Top) → Numbered 0 tops → (P : Top → Top → Type 0) (a b : Top) → In a tops → In b tops → P a b
    → (c d : Top) → In c tops → In d tops → c.number ≡ a.number → d.number ≡ b.number → P c d
of_numbers tops numbered P a b i j p c d k l e f =
    let first : a ≡ c = one_top 0 tops a c numbered i k (sym e) in
    let second : b ≡ d = one_top 0 tops b d numbered j l (sym f) in
    subst (λ (y : Top). P c y) second (subst (λ (x : Top). P x b) first p)

pub look_in : (tops : List Top) (k : ℕ) (a b : Top) → In a tops → In b tops → Look tops (suc k) a.number b.number → SameTop (Look tops k) a b
unfolding Look
look_in tops k a b i j h = h a b i j refl refl

pub look_out : (tops : List Top) → Numbered 0 tops → (k : ℕ) (a b : Top) → In a tops → In b tops → SameTop (Look tops k) a b → Look tops (suc k) a.number b.number
unfolding Look
look_out tops numbered k a b i j h = of_numbers tops numbered (SameTop (Look tops k)) a b i j h

look_test_at : (tops : List Top) → Numbered 0 tops → (k : ℕ) (a b : Top) → In a tops → In b tops → look_test tops (suc k) a.number b.number ≡ same_top (look_test tops k) a b
unfolding look_test
look_test_at tops numbered k a b i j =
    let f = λ (x y : Top). same_top (look_test tops k) x y in
    ap (λ o. on_tops f o (top_in tops b.number)) (finds 0 tops a numbered i) ∙ ap (λ o. on_tops f (Some a) o) (finds 0 tops b numbered j)

-- the other way round
pub look_turns : (tops : List Top) (k : ℕ) → Turns (Look tops k) (Look tops k)
unfolding Look
look_turns tops zero m n h = tt
look_turns tops (suc k) m n h = λ a b i j e f. top_turns (Look tops k) (Look tops k) (look_turns tops k) b a (h b a j i f e)

module _ (tops : List Top) (numbered : Numbered 0 tops) (Q : ℕ → Type 0) (closed : AreClosed tops Q) where
  inside_at : (t : Top) (n : ℕ) → In t tops → t.number ≡ n → Q n → TopIn Q t
  inside_at t n i e q = closed.inside t i (subst Q (sym e) q)

  -- the test of looks of each depth tells what they find equal
  pub look_decides : (k : ℕ) → DecidesIn Q (look_test tops k) (Look tops k)
  unfolding look_test Look
  look_decides zero m n u v = Decides-any tt
  look_decides (suc k) m n u v =
      let x = closed.there m u in
      let y = closed.there n v in
      let a = x.0 in
      let b = y.0 in
      let same = top_decides Q (look_test tops k) (Look tops k) (look_decides k) a b (inside_at a m x.1 x.2 u) (inside_at b n y.1 y.2 v) in
      let here : Decides (look_test tops (suc k) a.number b.number) (Look tops (suc k) a.number b.number) =
      Decides-at _ (same_top (look_test tops k) a b) (look_test_at tops numbered k a b x.1 y.1)
      (Decides-like _ (look_out tops numbered k a b x.1 y.1) (look_in tops k a b x.1 y.1) same) in
      subst (λ (j : ℕ). Decides (look_test tops (suc k) m j) (Look tops (suc k) m j)) y.2
      (subst (λ (i : ℕ). Decides (look_test tops (suc k) i b.number) (Look tops (suc k) i b.number)) x.2 here)

  -- looks of each depth are an equivalence
  pub look_self : (k : ℕ) → Holds Q (Look tops k)
  unfolding Look
  look_self zero n u = tt
  look_self (suc k) n u =
      let x = closed.there n u in
      let here = look_out tops numbered k x.0 x.0 x.1 x.1 (top_self Q (Look tops k) (look_self k) x.0 (inside_at x.0 n x.1 x.2 u)) in
      subst (λ (i : ℕ). Look tops (suc k) i i) x.2 here

  pub look_joins : (k : ℕ) → Joins Q (Look tops k) (Look tops k) (Look tops k)
  unfolding Look
  look_joins zero l m n u h g = tt
  look_joins (suc k) l m n u h g = λ a c i j e f. (
      let x = closed.there m u in
      top_joins Q (Look tops k) (Look tops k) (Look tops k) (look_joins k) a x.0 c (inside_at x.0 m x.1 x.2 u) (h a x.0 i x.1 e x.2) (g x.0 c x.1 j x.2 f))

  -- a deeper look finds no more equal
  pub look_less : (k : ℕ) → Gives Q (Look tops (suc k)) (Look tops k)
  unfolding Look
  look_less zero m n u v h = tt
  look_less (suc k) m n u v h = λ a b i j e f. top_gives Q (Look tops (suc k)) (Look tops k) (look_less k) a b (inside_at a m i e u) (inside_at b n j f v) (h a b i j e f)

  pub look_down : (n k : ℕ) → Gives Q (Look tops (n + k)) (Look tops k)
  look_down zero k a b u v h = let e : zero + k ≡ k = omega arith in subst (λ (m : ℕ). Look tops m a b) e h
  look_down (suc n) k a b u v h = let e : suc n + k ≡ suc (n + k) = omega arith in look_down n k a b u v (look_less (n + k) a b u v (subst (λ (m : ℕ). Look tops m a b) e h))

  -- where looks of two depths find the same equal, so do those of the next two
  look_next : (k : ℕ) → Gives Q (Look tops k) (Look tops (suc k)) → Gives Q (Look tops (suc k)) (Look tops (suc (suc k)))
  unfolding Look
  look_next k same m n u v h = λ a b i j e f. top_gives Q (Look tops k) (Look tops (suc k)) same a b (inside_at a m i e u) (inside_at b n j f v) (h a b i j e f)

  look_same : (n k : ℕ) → Gives Q (Look tops k) (Look tops (suc k)) → Gives Q (Look tops (n + k)) (Look tops (suc (n + k)))
  look_same zero k same = let e : k ≡ zero + k = omega arith in subst (λ (m : ℕ). Gives Q (Look tops m) (Look tops (suc m))) e same
  look_same (suc n) k same = let e : suc (n + k) ≡ suc n + k = omega arith in subst (λ (m : ℕ). Gives Q (Look tops m) (Look tops (suc m))) e (look_next (n + k) (look_same n k same))

  pub look_on : (n k : ℕ) → Gives Q (Look tops k) (Look tops (suc k)) → Gives Q (Look tops k) (Look tops (n + k))
  look_on zero k same a b u v h = let e : k ≡ zero + k = omega arith in subst (λ (m : ℕ). Look tops m a b) e h
  look_on (suc n) k same a b u v h = let e : suc (n + k) ≡ suc n + k = omega arith in subst (λ (m : ℕ). Look tops m a b) e (look_same n k same a b u v (look_on n k same a b u v h))
