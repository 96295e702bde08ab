-- Nodes of one number have had one key before, so what pending targets they have tells whether they still have.
use Rattle.std.proofs.Common.{◌≡◌, ℕ, ◌==◌, ◌<◌, All, AllPairs, Bool, Contains, List, ◌∷◌, length, get_or, inl, inr, ⊎_elim, refl, sym, ap, subst, ◌∙◌, arith, eq-eqb}
use Rattle.std.specs.Prelude.{slice_index}
use Rattle.std.specs.List.Sorted.{IsNonDecreasingBy}
use Rattle.std.proofs.lemmas.Bool.{eqb-true}
use Rattle.std.proofs.lemmas.List.{get_or_default}
use Rattle.std.proofs.lemmas.List.Elements.{All-contains, Contains-get_or}
use Rattle.std.proofs.lemmas.List.Kept.{AllPairs-filter}
use mathlib.Core.Logic.{dite}
use native.Mathlib.Decide.{ℕ_discrete}
use Rattle.dwz_nodes.specs.Graph.{Node, targets_at, IsClosed}
use Rattle.dwz_nodes.specs.Uses.{AreUses, uses_at}
use Rattle.dwz_nodes.specs.declared.uses.Use.{Use}
use Rattle.dwz_nodes.specs.Keys.{key}
use Rattle.dwz_nodes.specs.Mentions.{mention, ComesBefore, AreMentions, sources_of, run_of, words_of, part_key}
use Rattle.dwz_nodes.specs.Among.{Among}
use Rattle.dwz_nodes.specs.declared.mentions.Mention.{Mention}
use Rattle.dwz_nodes.proofs.Contained.{contains-filter, contains-map, filter-contained, map-contained}
use Rattle.dwz_nodes.proofs.Among.{among-from, among-to}
use Rattle.dwz_nodes.proofs.Runs.{AreRising, Has, words-same, words-told}
use Rattle.dwz_rounds.specs.Pending.{PointsAt, AreWithWholes, IsPending, IsVisit, TellApart}
use Rattle.dwz_rounds.proofs.Levels.{heads, tails}
use Rattle.dwz_rounds.proofs.Numberings.{among_or, key-kept, key-length, key-target}

-- sources rise
pub by-source : (ms : List Mention) → AllPairs ComesBefore ms → IsNonDecreasingBy (λ (m : Mention). m.source) ms
by-source ms r i j d l lj = dite (ℕ_discrete i j)
    (λ e. let same = ap (λ (k : ℕ). (get_or ms k d).source) e in omega arith)
    (λ ne. ⊎_elim (λ low. omega arith) (λ h. let s = h.0 in omega arith) (r i j d (omega arith) lj))

-- the part of a key begins with the number
pub part-number : (numbers : List ℕ) (ms : List Mention) (a b : ℕ) → part_key numbers ms a ≡ part_key numbers ms b → slice_index numbers a ≡ slice_index numbers b
part-number numbers ms a b e = heads (slice_index numbers a) (slice_index numbers b) (words_of (run_of ms a)) (words_of (run_of ms b)) e

-- they are nodes
pub sources-inside : (rows : List (List Use)) (numbers pending : List ℕ) (ms : List Mention) (n : ℕ) → AreMentions rows numbers pending ms
    → ((t : ℕ) → Among pending t → All (λ u. u.source < n) (uses_at rows t)) → All (λ m. m.source < n) ms
sources-inside rows numbers pending ms n m low k d l =
    let h = m.each (get_or ms k d) (Contains-get_or ms k d l) in
    let q = map-contained (mention (slice_index numbers h.0)) (uses_at rows h.0) (get_or ms k d) h.2 in
    subst (λ (x : Mention). x.source < n) q.2 (All-contains (λ (u : Use). u.source < n) (uses_at rows h.0) q.0 (low h.0 h.1) q.1)

module _ (g : List Node) (closed : IsClosed g) (rows : List (List Use)) (uses : AreUses g rows) (numbers pending : List ℕ) (p : IsPending g numbers pending)
    (ms : List Mention) (m : AreMentions rows numbers pending ms) where
  abbrev target : ℕ → ℕ → ℕ
  target a i = slice_index (targets_at g a) i

  -- a pending node stands at the place, with this number
  record Stands (x : Mention) : Type 0 where
    pub source : x.source < length g
    pub position : x.position < length (targets_at g x.source)
    pub pending_is : Among pending (target x.source x.position)
    pub number : x.number ≡ slice_index numbers (target x.source x.position)

  stands : (x : Mention) → Contains ms x → Stands x
  stands x c =
      let h = m.each x c in
      let t : ℕ = h.0 in
      let q = map-contained (mention (slice_index numbers t)) (uses_at rows t) x h.2 in
      let u = (uses.each t (p.inside t h.1)).each q.0 q.1 in
      subst Stands q.2 record {
        source = u.source;
        position = u.position;
        pending_is = subst (λ (k : ℕ). Among pending k) (sym u.is) h.1;
        number = ap (λ (k : ℕ). slice_index numbers k) (sym u.is);
      }

  -- each pending target is mentioned
  mentioned : (a i : ℕ) → a < length g → i < length (targets_at g a) → Among pending (target a i) → Contains ms (record { source = a; position = i; number = slice_index numbers (target a i) })
  mentioned a i la l there =
      let t : ℕ = target a i in
      let u : Use = record { source = a; position = i } in
      m.all (mention (slice_index numbers t) u)
      (t, there, contains-map (mention (slice_index numbers t)) (uses_at rows t) u ((uses.each t (p.inside t there)).all u record { source = la; position = l; is = refl }))

  -- ---- the nodes to look at

  points : (a : ℕ) → Among (sources_of ms) a → PointsAt g pending a
  points a h =
      let q = map-contained (λ (x : Mention). x.source) ms a (among-to (sources_of ms) a h) in
      let x : Mention = q.0 in
      let s = stands x q.1 in
      let l = s.position in
      subst (λ (k : ℕ). PointsAt g pending k) q.2 (target x.source x.position, s.pending_is, (x.position, l, get_or_default (targets_at g x.source) x.position (target x.source x.position) 0 l))

  points-back : (a : ℕ) → a < length g → PointsAt g pending a → Among (sources_of ms) a
  points-back a la h =
      let t : ℕ = h.0 in
      let c = h.2 in
      let i : ℕ = c.0 in
      let l : i < length (targets_at g a) = c.1 in
      let is : target a i ≡ t = sym (get_or_default (targets_at g a) i t 0 l) ∙ c.2 in
      let there : Among pending (target a i) = subst (λ (k : ℕ). Among pending k) (sym is) h.1 in
      among-from (sources_of ms) a (contains-map (λ (x : Mention). x.source) ms (record { source = a; position = i; number = slice_index numbers (target a i) }) (mentioned a i la l there))

  pub is-visit : (visit wholes : List ℕ) → AreWithWholes numbers (sources_of ms) visit wholes → ((a : ℕ) → Among visit a → a < length g) → IsVisit g numbers pending visit wholes
  is-visit visit wholes w within = record {
    inside = within;
    from = λ a h. ⊎_elim (λ o. inl (points a o)) (λ c. inr c) (w.from a h);
    points = λ a la h. w.kept a (points-back a la h);
    whole = λ a la h. w.whole a (let e = p.len in omega arith) h;
  }

  -- ---- the parts of keys

  abbrev by : ℕ → Mention → Bool
  by a x = x.source == a

  in-run : (a i : ℕ) → a < length g → i < length (targets_at g a) → Among pending (target a i) → Contains (run_of ms a) (record { source = a; position = i; number = slice_index numbers (target a i) })
  in-run a i la l there = contains-filter (by a) ms (record { source = a; position = i; number = slice_index numbers (target a i) }) (mentioned a i la l there) (eq-eqb a a refl)

  -- what stands in a run
  record StandsAt (a : ℕ) (x : Mention) : Type 0 where
    pub source : x.source ≡ a
    pub position : x.position < length (targets_at g a)
    pub pending_is : Among pending (target a x.position)
    pub number : x.number ≡ slice_index numbers (target a x.position)

  of-run : (a : ℕ) (x : Mention) → Contains (run_of ms a) x → StandsAt a x
  of-run a x c =
      let f = filter-contained (by a) ms x c in
      let s = stands x f.0 in
      let is : x.source ≡ a = eqb-true x.source a f.1 in
      record {
        source = is;
        position = subst (λ (k : ℕ). x.position < length (targets_at g k)) is s.position;
        pending_is = subst (λ (k : ℕ). Among pending (target k x.position)) is s.pending_is;
        number = s.number ∙ ap (λ (k : ℕ). slice_index numbers (target k x.position)) is;
      }

  run-rising : (a : ℕ) → AreRising (run_of ms a)
  run-rising a i j d l lj =
      let run : List Mention = run_of ms a in
      let x : Mention = get_or run i d in
      let y : Mention = get_or run j d in
      let sx = of-run a x (Contains-get_or run i d (omega arith)) in
      let sy = of-run a y (Contains-get_or run j d lj) in
      ⊎_elim
      (λ low. let ex = sx.source in let ey = sy.source in absurd (omega arith))
      (λ h. ⊎_elim
      (λ low. low)
      (λ q. let same : x.number ≡ y.number = sx.number ∙ (ap (λ (k : ℕ). slice_index numbers (target a k)) q.0 ∙ sym sy.number) in let less = q.1 in absurd (omega arith))
      h.1)
      (AllPairs-filter ComesBefore (by a) ms m.rising i j d l lj)

  module _ (a b : ℕ) (la : a < length g) (lb : b < length g) where
    -- from equal words to equal numbers at a place where a pending node stands
    told : words_of (run_of ms a) ≡ words_of (run_of ms b) → (i : ℕ) → i < length (targets_at g a) → Among pending (target a i) → slice_index numbers (target a i) ≡ slice_index numbers (target b i)
    told e i l there =
        let h = words-told (run_of ms a) (run_of ms b) e (record { source = a; position = i; number = slice_index numbers (target a i) }) (in-run a i la l there) in
        let s = of-run b h.0 h.1 in
        sym h.3 ∙ (s.number ∙ ap (λ (k : ℕ). slice_index numbers (target b k)) h.2)

    -- and back
    has : key g numbers a ≡ key g numbers b → (x : Mention) → Contains (run_of ms a) x → Has (run_of ms b) x
    has e x c =
        let s = of-run a x c in
        let i : ℕ = x.position in
        let len = key-length g closed numbers a b e in
        let l : i < length (targets_at g a) = s.position in
        let k : i < length (targets_at g b) = omega arith in
        let same : slice_index numbers (target a i) ≡ slice_index numbers (target b i) = key-target g closed numbers a b i e l in
        let there : Among pending (target b i) = p.whole (target a i) (target b i) (closed a la i 0 l) (closed b lb i 0 k) same s.pending_is in
        (record { source = b; position = i; number = slice_index numbers (target b i) }, in-run b i lb k there, refl, sym same ∙ sym s.number)

  pub told-apart : TellApart g numbers (part_key numbers ms)
  told-apart = record {
    number = λ a b la lb e. part-number numbers ms a b e;
    key_is = λ a b la lb e.
        let number : slice_index numbers a ≡ slice_index numbers b = part-number numbers ms a b e in
        let words : words_of (run_of ms a) ≡ words_of (run_of ms b) = tails (slice_index numbers a) (slice_index numbers b) (words_of (run_of ms a)) (words_of (run_of ms b)) e in
        key-kept g closed p.before numbers a b la lb (p.keys a b la lb number)
        (λ i l ta tb n same. ⊎_elim
        (λ there. told a b la lb words i l there)
        (λ na. ⊎_elim
        (λ there. sym (told b a lb la (sym words) i n there))
        (λ nb. p.kept (target a i) (target b i) ta tb same na nb)
        (among_or pending (target b i)))
        (among_or pending (target a i)));
    back = λ a b la lb e same.
        let words : words_of (run_of ms a) ≡ words_of (run_of ms b) = words-same (run_of ms a) (run_of ms b) (run-rising a) (run-rising b) (has a b la lb same) (has b a lb la (sym same)) in
        λ i. e i ∷ words i;
  }
