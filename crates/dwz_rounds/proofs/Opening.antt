-- Where rounds begin, and the nodes that a round looks at.
use Rattle.std.proofs.Common.{◌≡◌, ℕ, suc, ◌+◌, ◌<◌, ◌⊎◌, Bool, true, false, true≢false, List, [], ◌∷◌, ◌++◌, length, inl, inr, ⊎_elim, refl, sym, ap, subst, ◌∙◌, arith, length-append}
use Rattle.std.specs.Prelude.{map, slice_index, slice_index_or}
use Rattle.std.proofs.lemmas.List.{get_or_default}
use mathlib.Core.Logic.{dite}
use native.Mathlib.Decide.{ℕ_discrete}
use Rattle.dwz_nodes.specs.Graph.{Node, label_at, targets_at, IsClosed}
use Rattle.dwz_nodes.specs.Looks.{LookEqual, IsLeastBelow}
use Rattle.dwz_nodes.specs.Keys.{all_keys, key, key_at}
use Rattle.dwz_nodes.specs.Among.{Among}
use Rattle.dwz_nodes.proofs.AllKeys.{all_keys-at, length-all_keys}
use Rattle.dwz_rounds.specs.Marked.{IsMarked}
use Rattle.dwz_rounds.specs.Open.{AreKept, AreOfMarked, AreSteady, HasShared, MarksChanged, MarksMoved, MarksShared}
use Rattle.dwz_rounds.specs.Rounds.{IsLevel, IsRound}
use Rattle.dwz_rounds.specs.Settling.{IsFirst, IsPartly}
use Rattle.dwz_rounds.proofs.Levels.{heads, tails, map-same, map-length, map-at, least-same, key-look, look-class, look-key, look-less, round-level}
use Rattle.dwz_rounds.proofs.Settling.{among-push_cases, among-push_new, among-push_old}

-- the least nodes with one label are the classes of a first round, where nodes with one label have as many targets
pub label-level : (g : List Node) (labels classes : List ℕ) → length labels ≡ length g → ((a : ℕ) → a < length g → slice_index labels a ≡ label_at g a) → length classes ≡ length labels
    → ((a : ℕ) → a < length labels → IsLeastBelow (length labels) (λ b. slice_index labels a ≡ slice_index labels b) (slice_index classes a))
    → ((a : ℕ) → a < length g → length (targets_at g a) ≡ length (targets_at g (slice_index classes a))) → IsLevel g 1 classes
label-level g labels classes len each many least counts = record {
  len = many ∙ len;
  each = λ a l. let m = least a (omega arith) in let i = m.inside in let here : slice_index classes a < length g = omega arith in record {
    inside = here;
    is = (sym (each a l) ∙ (m.is ∙ each (slice_index classes a) here), counts a l, λ j h. tt);
    least = λ c lc h. m.least c (omega arith) (each a l ∙ (h.0 ∙ sym (each c lc)));
  };
}

-- what looks of the next depth tell is a round
pub level-round : (g : List Node) (closed : IsClosed g) (k : ℕ) (before classes : List ℕ) → IsLevel g k before → IsLevel g (suc k) classes → IsRound g before classes
level-round g closed k before classes level deeper = record {
  len = deeper.len;
  each = λ a l. least-same (length g) (LookEqual g (suc k) a) (λ b. key g before a ≡ key g before b) (slice_index classes a) (λ b i h. look-key g closed k before a b level l i h)
      (λ b i e. key-look g closed k before a b level l i e) (deeper.each a l);
}

-- ---- marks of nodes of a list

true-or : (b : Bool) → (b ≡ true) ⊎ (¬ (b ≡ true))
true-or true = inl refl
true-or false = inr (λ e. true≢false (sym e))

-- one more node of the list is kept, or isn't
pub marked-none : (classes : List ℕ) (marks : List Bool) (live : List ℕ) → AreOfMarked classes marks live 0 []
marked-none classes marks live = record { few = omega arith; from = λ a h. let l = h.1 in absurd (omega arith); all = λ i l m. absurd (omega arith) }

module _ (classes : List ℕ) (marks : List Bool) (live : List ℕ) (n : ℕ) (kept : List ℕ) (are : AreOfMarked classes marks live n kept) where
  pub marked-yes : n < length live → IsMarked marks (slice_index classes (slice_index live n)) → AreOfMarked classes marks live (n + 1) (kept ++ slice_index live n ∷ [])
  marked-yes inside is = record {
    few = let f = are.few in omega (arith, length-append kept (slice_index live n ∷ []));
    from = λ a h. ⊎_elim (λ o. are.from a o)
        (λ e. ((n, inside, sym e), subst (λ (x : ℕ). IsMarked marks (slice_index classes x)) (sym e) is))
        (among-push_cases kept (slice_index live n) a h);
    all = λ i l m. dite (ℕ_discrete i n)
        (λ e. subst (λ (j : ℕ). Among (kept ++ slice_index live n ∷ []) (slice_index live j)) (sym e) (among-push_new kept (slice_index live n)))
        (λ ne. among-push_old kept (slice_index live n) (slice_index live i) (are.all i (omega arith) m));
  }

  pub marked-no : ¬ (IsMarked marks (slice_index classes (slice_index live n))) → AreOfMarked classes marks live (n + 1) kept
  marked-no isnt = record {
    few = let f = are.few in omega arith;
    from = are.from;
    all = λ i l m. dite (ℕ_discrete i n)
        (λ e. absurd (isnt (subst (λ (j : ℕ). IsMarked marks (slice_index classes (slice_index live j))) e m)))
        (λ ne. are.all i (omega arith) m);
  }

-- all of the list are kept whose class is marked
marked-all : (classes : List ℕ) (marks : List Bool) (live kept : List ℕ) → AreOfMarked classes marks live (length live) kept → (a : ℕ) → Among live a → IsMarked marks (slice_index classes a) → Among kept a
marked-all classes marks live kept are a h m =
    subst (λ (x : ℕ). Among kept x) h.2 (are.all h.0 h.1 (subst (λ (x : ℕ). IsMarked marks (slice_index classes x)) (sym h.2) m))

-- ---- the nodes of a round

-- at first all nodes are in the list
pub shared-first : (classes live : List ℕ) (n : ℕ) → length classes ≡ n → length live ≡ n → ((i : ℕ) → i < n → slice_index live i ≡ i) → HasShared classes live
shared-first classes live n many len each = record {
  few = omega arith;
  inside = λ i d l. let e = each i (omega arith) in let same = get_or_default live i 0 d l in omega arith;
  all = λ a l s. (a, omega arith, each a (omega arith));
}

-- A class that has no other node, or of whose nodes all targets have the classes of before, doesn't split.
module _ (g : List Node) (closed : IsClosed g) (k : ℕ) (before classes live : List ℕ) (level : IsLevel g k before) (round : IsRound g before classes) (has : HasShared before live)
    (shared : List Bool) (marked : MarksShared classes live (length live) shared) (kept : List ℕ) (are_kept : AreOfMarked classes shared live (length live) kept) where
  deeper : IsLevel g (suc k) classes
  deeper = round-level g closed k before classes level round

  inside : (a : ℕ) → a < length g → slice_index classes a < length g
  inside a la = (deeper.each a la).inside

  -- a node had the class of the least node that it is like now
  was : (a : ℕ) → a < length g → slice_index before a ≡ slice_index before (slice_index classes a)
  was a la = look-class g closed k before a (slice_index classes a) level la (inside a la) (look-less g k a (slice_index classes a) (deeper.each a la).is)

  own : (a : ℕ) → a < length g → slice_index classes (slice_index classes a) ≡ slice_index classes a
  own a la = sym (look-class g closed (suc k) classes a (slice_index classes a) deeper la (inside a la) (deeper.each a la).is)

  -- nodes with one class had one class
  live-both : (a b : ℕ) → a < length g → b < length g → ¬ (a ≡ b) → slice_index classes a ≡ slice_index classes b → Among live a
  live-both a b la lb ne e =
      let many = level.len in
      has.all a (omega arith) (b, omega arith, ne, was a la ∙ ap (λ (x : ℕ). slice_index before x) e ∙ sym (was b lb))

  mark-of : (a : ℕ) → Among live a → ¬ (slice_index classes a ≡ a) → IsMarked shared (slice_index classes a)
  mark-of a h ne = ⊎_elim (λ m. m)
      (λ un. absurd (ne (subst (λ (x : ℕ). slice_index classes x ≡ x) h.2 (marked h.0 h.1 (λ m. un (subst (λ (x : ℕ). IsMarked shared (slice_index classes x)) h.2 m))))))
      (true-or (slice_index_or shared (slice_index classes a) true))

  mark-both : (a b : ℕ) → a < length g → b < length g → ¬ (a ≡ b) → slice_index classes a ≡ slice_index classes b → IsMarked shared (slice_index classes a)
  mark-both a b la lb ne e = dite (ℕ_discrete (slice_index classes a) a)
      (λ least. subst (λ (c : ℕ). IsMarked shared c) (sym e) (mark-of b (live-both b a lb la (λ s. ne (sym s)) (sym e)) (λ s. ne (sym least ∙ (e ∙ s)))))
      (λ other. mark-of a (live-both a b la lb ne e) other)

  kept-both : (a b : ℕ) → a < length g → b < length g → ¬ (a ≡ b) → slice_index classes a ≡ slice_index classes b → Among kept a
  kept-both a b la lb ne e = marked-all classes shared live kept are_kept a (live-both a b la lb ne e) (mark-both a b la lb ne e)

  -- those are kept whose class others have
  pub shared-kept : HasShared classes kept
  shared-kept = record {
    few = let f = are_kept.few in let h = has.few in let m = level.len in let n = round.len in omega arith;
    inside = λ i d l.
        let f = (are_kept.from (slice_index kept i) (i, l, refl)).0 in
        let m = level.len in
        let n = round.len in
        let here : slice_index live f.0 < length before = has.inside f.0 0 f.1 in
        let e = f.2 in
        let same = get_or_default kept i 0 d l in
        omega arith;
    all = λ a l s. let n = round.len in let lb = s.1 in kept-both a s.0 (omega arith) (omega arith) s.2 s.3;
  }

  module _ (moved : List Bool) (moves : MarksMoved before classes live (length live) moved) (changed : List Bool) (changes : MarksChanged g moved classes kept (length kept) changed)
      (listed : List ℕ) (are : AreOfMarked classes changed kept (length kept) listed) where
    -- a node whose class isn't that before had a class that others had
    stays : (a : ℕ) → a < length g → ¬ (IsMarked moved a) → slice_index before a ≡ slice_index classes a
    stays a la un = dite (ℕ_discrete (slice_index before a) (slice_index classes a))
        (λ same. same)
        (λ ne.
        let many = level.len in
        let c : ℕ = slice_index before a in
        let m = level.each a la in
        let h : Among live a = dite (ℕ_discrete c a)
        (λ least. has.all a (omega arith) (slice_index classes a, let i = inside a la in omega arith, λ e. ne (least ∙ e), was a la))
        (λ other. has.all a (omega arith) (c, let i = m.inside in omega arith, λ e. other (sym e), look-class g closed k before a c level la m.inside m.is)) in
        subst (λ (x : ℕ). slice_index before x ≡ slice_index classes x) h.2 (moves h.0 h.1 (λ m. un (subst (λ (x : ℕ). IsMarked moved x) h.2 m))))

    -- so the targets of nodes that are kept and not listed have the classes of before
    kept-targets : (a : ℕ) → Among kept a → ¬ (IsMarked changed (slice_index classes a)) → a < length g → AreKept before classes (targets_at g a)
    kept-targets a h un la i l =
        let steady = subst (λ (x : ℕ). AreSteady moved (targets_at g x)) h.2 (changes h.0 h.1 (λ m. un (subst (λ (x : ℕ). IsMarked changed (slice_index classes x)) h.2 m))) in
        stays (slice_index (targets_at g a) i) (closed a la i 0 l) (steady i l)

    below : (a : ℕ) → a < length (all_keys g classes) → a < length g
    below a l = subst (λ (n : ℕ). a < n) (length-all_keys g classes) l

    -- nodes with one key have one class
    one-class : (a b : ℕ) → a < length g → b < length g → key_at (all_keys g classes) a ≡ key_at (all_keys g classes) b → slice_index classes a ≡ slice_index classes b
    one-class a b la lb e = look-class g closed (suc k) classes a b deeper la lb
        (look-less g (suc k) a b (key-look g closed (suc k) classes a b deeper la lb (sym (all_keys-at g classes a la) ∙ (e ∙ all_keys-at g classes b lb))))

    -- a node whose class has its key keeps it
    keeps : (a : ℕ) → a < length g → key g classes a ≡ key g classes (slice_index classes a) → IsFirst (all_keys g classes) a (slice_index classes a)
    keeps a la e =
        let m = deeper.each a la in
        record {
          inside = subst (λ (n : ℕ). slice_index classes a < n) (sym (length-all_keys g classes)) m.inside;
          is = all_keys-at g classes a la ∙ (e ∙ sym (all_keys-at g classes (slice_index classes a) m.inside));
          least = λ c lc same. m.least c (below c lc)
              (look-less g (suc k) a c (key-look g closed (suc k) classes a c deeper la (below c lc) (sym (all_keys-at g classes a la) ∙ (same ∙ all_keys-at g classes c (below c lc)))));
        }

    -- where the targets of both have the classes of before, so has the key
    same-key : (a b : ℕ) → a < length g → b < length g → key g before a ≡ key g before b → AreKept before classes (targets_at g a) → AreKept before classes (targets_at g b)
        → key g classes a ≡ key g classes b
    same-key a b la lb e x y =
        let f : ℕ → ℕ = λ t. slice_index before t in
        let es = tails (label_at g a) (label_at g b) (map f (targets_at g a)) (map f (targets_at g b)) e in
        let len = map-length f (targets_at g a) (targets_at g b) es in
        λ i. heads (label_at g a) (label_at g b) (map f (targets_at g a)) (map f (targets_at g b)) e i ∷ map-same (λ t. slice_index classes t) (targets_at g a) (targets_at g b) len
        (λ j l. sym (x j l) ∙ (map-at f (targets_at g a) (targets_at g b) es j l ∙ y j (omega arith))) i

    -- a node of the list is one
    listed-inside : (a : ℕ) → Among listed a → a < length g
    listed-inside a h =
        let f = (are.from a h).0 in
        let n = round.len in
        let here : slice_index kept f.0 < length classes = shared-kept.inside f.0 0 f.1 in
        let e = f.2 in
        omega arith

    pub open-partly : IsPartly (all_keys g classes) classes listed
    open-partly = record {
      len = round.len ∙ sym (length-all_keys g classes);
      inside = λ a h. subst (λ (n : ℕ). a < n) (sym (length-all_keys g classes)) (listed-inside a h);
      settled = λ a l.
          let la = below a l in
          let c : ℕ = slice_index classes a in
          let lc = inside a la in
          let m = round.each a la in
          dite (ℕ_discrete c a)
          (λ alone. inr (keeps a la (ap (λ (x : ℕ). key g classes x) (sym alone))))
          (λ ne.
          let here = kept-both a c la lc (λ e. ne (sym e)) (sym (own a la)) in
          ⊎_elim
          (λ yes. inl (marked-all classes changed kept listed are a here yes))
          (λ no.
          let there = kept-both c a lc la ne (own a la) in
          let of_class : AreKept before classes (targets_at g c) = kept-targets c there (λ h. no (subst (λ (x : ℕ). IsMarked changed x) (own a la) h)) lc in
          inr (keeps a la (same-key a c la lc m.is (kept-targets a here no la) of_class)))
          (true-or (slice_index_or changed c true)));
      whole = λ a b h l same.
          let f = are.from a h in
          let la = listed-inside a h in
          let lb = below b l in
          let one = one-class a b la lb same in
          dite (ℕ_discrete a b)
          (λ e. subst (λ (x : ℕ). Among listed x) e h)
          (λ ne. marked-all classes changed kept listed are b (kept-both b a lb la (λ e. ne (sym e)) (sym one)) (subst (λ (c : ℕ). IsMarked changed c) one f.1));
    }
