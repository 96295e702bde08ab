-- Classes that are numbered and split until no node is pending are those of alike nodes.
use Rattle.std.proofs.Common.{◌≡◌, ℕ, zero, suc, ◌<◌, ◌⊎◌, List, [], ◌∷◌, Contains, length, get_or, inl, inr, ⊎_elim, sym, subst, ◌∙◌, arith}
use Rattle.std.specs.Prelude.{map, slice_index}
use Rattle.std.proofs.lemmas.List.{get_or_default}
use mathlib.Core.Logic.{dite}
use native.Mathlib.Decide.{ℕ_discrete, dec_le}
use Rattle.dwz_nodes.specs.Graph.{Node, label_at, targets_at, IsClosed}
use Rattle.dwz_nodes.specs.Looks.{LookEqual, Alike, IsLeastBelow, IsRefined}
use Rattle.dwz_nodes.specs.Keys.{key}
use Rattle.dwz_nodes.specs.Among.{Among}
use Rattle.dwz_rounds.specs.Pending.{PointsAt, IsPending, IsVisit, IsSplit, TellApart}
use Rattle.dwz_nodes.proofs.Looks.{look-sym}
use Rattle.dwz_rounds.proofs.Levels.{heads, tails, map-same, map-length, map-at, least-same}

-- whether a number stands in a list can be tested
pub among_or : (xs : List ℕ) (n : ℕ) → Among xs n ⊎ (¬ (Among xs n))
among_or [] n = inr (λ h. let l = h.1 in absurd (omega arith))
among_or (x ∷ xs) n = dite (ℕ_discrete x n)
    (λ e. inl (zero, omega arith, e))
    (λ ne. ⊎_elim
    (λ h. inl (suc h.0, let l = h.1 in omega arith, h.2))
    (λ not. inr (λ h. other h.0 h.1 h.2 ne not))
    (among_or xs n))
  where
    other : (i : ℕ) → i < length (x ∷ xs) → get_or (x ∷ xs) i 0 ≡ n → ¬ (x ≡ n) → ¬ (Among xs n) → ⊥
    other zero l e ne not = ne e
    other (suc i) l e ne not = not (i, omega arith, e)

module _ (g : List Node) (closed : IsClosed g) where
  abbrev target : ℕ → ℕ → ℕ
  target a i = slice_index (targets_at g a) i

  has-target : (a i : ℕ) → i < length (targets_at g a) → Contains (targets_at g a) (target a i)
  has-target a i l = (i, l, get_or_default (targets_at g a) i (target a i) 0 l)

  -- what equal keys say
  key-label : (numbers : List ℕ) (a b : ℕ) → key g numbers a ≡ key g numbers b → label_at g a ≡ label_at g b
  key-label numbers a b e = let f : ℕ → ℕ = λ t. slice_index numbers t in heads (label_at g a) (label_at g b) (map f (targets_at g a)) (map f (targets_at g b)) e

  key-rest : (numbers : List ℕ) (a b : ℕ) → key g numbers a ≡ key g numbers b → map (λ t. slice_index numbers t) (targets_at g a) ≡ map (λ t. slice_index numbers t) (targets_at g b)
  key-rest numbers a b e = let f : ℕ → ℕ = λ t. slice_index numbers t in tails (label_at g a) (label_at g b) (map f (targets_at g a)) (map f (targets_at g b)) e

  pub key-length : (numbers : List ℕ) (a b : ℕ) → key g numbers a ≡ key g numbers b → length (targets_at g a) ≡ length (targets_at g b)
  key-length numbers a b e = map-length (λ t. slice_index numbers t) (targets_at g a) (targets_at g b) (key-rest numbers a b e)

  pub key-target : (numbers : List ℕ) (a b i : ℕ) → key g numbers a ≡ key g numbers b → i < length (targets_at g a) → slice_index numbers (target a i) ≡ slice_index numbers (target b i)
  key-target numbers a b i e l = map-at (λ t. slice_index numbers t) (targets_at g a) (targets_at g b) (key-rest numbers a b e) i l

  pub key-same : (numbers : List ℕ) (a b : ℕ) → label_at g a ≡ label_at g b → length (targets_at g a) ≡ length (targets_at g b)
      → ((i : ℕ) → i < length (targets_at g a) → slice_index numbers (target a i) ≡ slice_index numbers (target b i)) → key g numbers a ≡ key g numbers b
  key-same numbers a b label len each = λ i. label i ∷ map-same (λ t. slice_index numbers t) (targets_at g a) (targets_at g b) len each i

  -- a key is kept where targets with one number keep one number
  pub key-kept : (numbers next : List ℕ) (a b : ℕ) → a < length g → b < length g → key g numbers a ≡ key g numbers b
      → ((i : ℕ) → i < length (targets_at g a) → target a i < length g → target b i < length g → i < length (targets_at g b) → slice_index numbers (target a i) ≡ slice_index numbers (target b i)
      → slice_index next (target a i) ≡ slice_index next (target b i))
      → key g next a ≡ key g next b
  key-kept numbers next a b la lb e each = let len = key-length numbers a b e in key-same next a b (key-label numbers a b e) len
      (λ i l. let m : i < length (targets_at g b) = omega arith in each i l (closed a la i 0 l) (closed b lb i 0 m) m (key-target numbers a b i e l))

  module _ (numbers pending : List ℕ) (p : IsPending g numbers pending) where
    -- nodes with one number have one key, unless one of them points at a pending node
    stable : (a b : ℕ) → a < length g → b < length g → slice_index numbers a ≡ slice_index numbers b → ¬ (PointsAt g pending a) → ¬ (PointsAt g pending b) → key g numbers a ≡ key g numbers b
    stable a b la lb e na nb = key-kept p.before numbers a b la lb (p.keys a b la lb e)
        (λ i l ta tb m same. p.kept (target a i) (target b i) ta tb same (λ h. na (target a i, h, has-target a i l)) (λ h. nb (target b i, h, has-target b i m)))

    alike-key : (a b : ℕ) → a < length g → b < length g → Alike g a b → key g numbers a ≡ key g numbers b
    alike-key a b la lb h = let first = h (suc zero) in let len = first.1 in key-same numbers a b first.0 len
        (λ i l. p.sound (target a i) (target b i) (closed a la i 0 l) (closed b lb i 0 (omega arith)) (λ k. (h (suc k)).2 i l))

    -- alike nodes point at pending nodes together
    alike-points : (a b : ℕ) → a < length g → b < length g → Alike g a b → PointsAt g pending a → PointsAt g pending b
    alike-points a b la lb h there =
        let t : ℕ = there.0 in
        let c = there.2 in
        let i : ℕ = c.0 in
        let l : i < length (targets_at g a) = c.1 in
        let is : target a i ≡ t = sym (get_or_default (targets_at g a) i t 0 l) ∙ c.2 in
        let len = (h (suc zero)).1 in
        let m : i < length (targets_at g b) = omega arith in
        let u : ℕ = target b i in
        let same = p.sound (target a i) u (closed a la i 0 l) (closed b lb i 0 m) (λ k. (h (suc k)).2 i l) in
        (u, p.whole (target a i) u (closed a la i 0 l) (closed b lb i 0 m) same (subst (λ (x : ℕ). Among pending x) (sym is) there.1), has-target b i m)

    -- where none is pending, nodes with one number are alike
    pub end-alike : length pending ≡ 0 → (k a b : ℕ) → a < length g → b < length g → slice_index numbers a ≡ slice_index numbers b → LookEqual g k a b
    end-alike none zero a b la lb e = tt
    end-alike none (suc k) a b la lb e =
        let nobody : (x : ℕ) → ¬ (PointsAt g pending x) = λ x h. let m = h.1 in let l = m.1 in absurd (omega arith) in
        let same = stable a b la lb e (nobody a) (nobody b) in (
          key-label numbers a b same,
          key-length numbers a b same,
          λ i l. let len = key-length numbers a b same in end-alike none k (target a i) (target b i) (closed a la i 0 l)
              (closed b lb i 0 (omega arith)) (key-target numbers a b i same l),
        )

    pub end-refined : length pending ≡ 0 → (answers : List ℕ) → length answers ≡ length g
        → ((a : ℕ) → a < length g → IsLeastBelow (length g) (λ b. slice_index numbers a ≡ slice_index numbers b) (slice_index answers a)) → IsRefined g answers
    end-refined none answers len each = record {
      len = len;
      each = λ a l. least-same (length g) (λ b. slice_index numbers a ≡ slice_index numbers b) (Alike g a) (slice_index answers a)
          (λ b m e k. end-alike none k a b l m e)
          (λ b m h. p.sound a b l m h)
          (each a l);
    }

    module _ (visit wholes : List ℕ) (v : IsVisit g numbers pending visit wholes) where
      visit-alike : (a b : ℕ) → a < length g → b < length g → Alike g a b → Among visit a → Among visit b
      visit-alike a b la lb h there = ⊎_elim
          (λ points. v.points b lb (alike-points a b la lb h points))
          (λ whole. v.whole b lb (subst (λ (c : ℕ). Among wholes c) (p.sound a b la lb h) whole))
          (v.from a there)

      module _ (part : ℕ → List ℕ) (tell : TellApart g numbers part) (count : ℕ)
          (below : (a : ℕ) → a < length g → slice_index numbers a < count) (next after : List ℕ) (s : IsSplit g part numbers visit wholes count next after) where
        -- a number that isn't new is the old one
        low : (a : ℕ) → a < length g → slice_index next a < count → slice_index next a ≡ slice_index numbers a
        low a la l = ⊎_elim
            (λ there. ⊎_elim (λ o. o.0) (λ n. absurd (omega arith)) (s.old a there))
            (λ out. s.kept a la out)
            (among_or visit a)

        still-same : (a b : ℕ) → a < length g → b < length g → ¬ (Among after a) → ¬ (Among after b) → slice_index numbers a ≡ slice_index numbers b → slice_index next a ≡ slice_index next b
        still-same a b la lb na nb e = dite (dec_le count (slice_index next a))
            (λ high. absurd (na (s.all a la high)))
            (λ is_low. dite (dec_le count (slice_index next b))
            (λ high. absurd (nb (s.all b lb high)))
            (λ is_low_b. low a la (omega arith) ∙ (e ∙ sym (low b lb (omega arith)))))

        -- where one of two nodes with one new number isn't looked at, they both aren't
        both-out : (a b : ℕ) → a < length g → b < length g → slice_index next a ≡ slice_index next b → Among visit a → ¬ (Among visit b) → ⊥
        both-out a b la lb e there out =
            let kept = s.kept b lb out in
            let small = below b lb in
            ⊎_elim
            (λ o. out (v.whole b lb (subst (λ (c : ℕ). Among wholes c) (sym o.0 ∙ (e ∙ kept)) o.1)))
            (λ n. absurd (omega arith))
            (s.old a there)

        next-key : (a b : ℕ) → a < length g → b < length g → slice_index next a ≡ slice_index next b → key g numbers a ≡ key g numbers b
        next-key a b la lb e = ⊎_elim
            (λ ta. ⊎_elim
            (λ tb. tell.key_is a b la lb (s.apart a b ta tb e))
            (λ ob. absurd (both-out a b la lb e ta ob))
            (among_or visit b))
            (λ oa. ⊎_elim
            (λ tb. absurd (both-out b a lb la (sym e) tb oa))
            (λ ob. stable a b la lb (sym (s.kept a la oa) ∙ (e ∙ s.kept b lb ob)) (λ h. oa (v.points a la h)) (λ h. ob (v.points b lb h)))
            (among_or visit b))
            (among_or visit a)

        pub split-pending : IsPending g next after
        split-pending = record {
          len = s.len ∙ p.len;
          inside = λ a h. (s.new a h).0;
          sound = λ a b la lb h.
              let e = p.sound a b la lb h in
              ⊎_elim
              (λ ta. s.same a b ta (visit-alike a b la lb h ta) (tell.back a b la lb e (alike-key a b la lb h)))
              (λ oa. ⊎_elim
              (λ tb. absurd (oa (visit-alike b a lb la (λ k. look-sym g k a b (h k)) tb)))
              (λ ob. s.kept a la oa ∙ (e ∙ sym (s.kept b lb ob)))
              (among_or visit b))
              (among_or visit a);
          whole = λ a b la lb e h. s.all b lb (let n = (s.new a h).1 in omega arith);
          before = numbers;
          keys = next-key;
          kept = λ a b la lb e na nb. still-same a b la lb na nb e;
        }
