-- New numbers for parts of classes, one node after the other.
use Rattle.std.proofs.Common.{◌≡◌, ◌≢◌, ℕ, zero, suc, ◌+◌, ◌<◌, ◌≤◌, ◌⊎◌, Bool, true, false, List, [], ◌∷◌, ◌++◌, length, set, inl, inr, ⊎_elim, refl, sym, ap, subst, ◌∙◌, arith, length-append}
use Rattle.std.proofs.Common.{get_or-set_other, get_or-set_same}
use Rattle.std.specs.Prelude.{slice_index, slice_index_or}
use mathlib.Core.Logic.{dite}
use native.Mathlib.Decide.{ℕ_discrete, dec_le}
use Rattle.dwz_nodes.specs.Among.{Among}
use Rattle.dwz_rounds.specs.Marked.{IsMarked}
use Rattle.dwz_rounds.specs.declared.members.Range.{Range}
use Rattle.dwz_rounds.specs.declared.split.Part.{Part}
use Rattle.dwz_rounds.specs.Members.{AreMembers}
use Rattle.dwz_rounds.specs.Split.{start_of, new_range, IsChoice, IsGrouped, IsKept, IsSplitting}
use Rattle.dwz_rounds.proofs.Membership.{range-more}
use Rattle.dwz_rounds.proofs.Settling.{among-push_old, among-push_new, among-push_cases}

-- a node stands among the first n, or it doesn't
pub before-or : (nodes : List ℕ) (a n : ℕ) → ((p : ℕ) × (p < n) × (slice_index nodes p ≡ a)) ⊎ ((p : ℕ) → p < n → ¬ (slice_index nodes p ≡ a))
before-or nodes a zero = inr (λ p l. absurd (omega arith))
before-or nodes a (suc n) = dite (ℕ_discrete (slice_index nodes n) a)
    (λ is. inl (n, omega arith, is))
    (λ ne. ⊎_elim
    (λ h. inl (h.0, let l = h.1 in omega arith, h.2))
    (λ none. inr (λ p l. dite (ℕ_discrete p n)
    (λ e. subst (λ (k : ℕ). ¬ (slice_index nodes k ≡ a)) (sym e) ne)
    (λ other. none p (omega arith))))
    (before-or nodes a n))

pub splitting-none : (key : ℕ → List ℕ) (nodes old : List ℕ) (whole : List Bool) (parts : List Part) (count number : ℕ) → IsSplitting key nodes old whole parts count 0 old [] number
splitting-none key nodes old whole parts count number = record {
  other = λ a none. refl;
  same = λ p q l. absurd (omega arith);
  apart = λ p q l. absurd (omega arith);
  each = λ p l. absurd (omega arith);
  last = λ p e. absurd (omega arith);
  from = λ a h. let l = h.1 in absurd (omega arith);
  all = λ p l. absurd (omega arith);
}

module _ (key : ℕ → List ℕ) (nodes old : List ℕ) (whole : List Bool) (parts : List Part) (count n : ℕ) (cur pending : List ℕ) (number : ℕ)
    (s : IsSplitting key nodes old whole parts count n cur pending number) where
  abbrev node : ℕ
  node = slice_index nodes n

  -- what a choice of a number gives: the nodes with it are those with the key, and an old number is the node's
  pub record IsRight (next : ℕ) : Type 0 where
    pub there : (p : ℕ) → p < n → slice_index cur (slice_index nodes p) ≡ next → key (slice_index nodes p) ≡ key node
    pub back : (p : ℕ) → p < n → key (slice_index nodes p) ≡ key node → slice_index cur (slice_index nodes p) ≡ next
    pub low : next < count → (slice_index cur node ≡ next) × IsKept key nodes old whole parts cur n

  module _ (next : ℕ) (r : IsRight next) where
    -- the step, where the new list has the number at the node and is as before elsewhere
    module _ (new after : List ℕ) (kept : (p : ℕ) → p < n → slice_index new (slice_index nodes p) ≡ slice_index cur (slice_index nodes p)) (here : slice_index new node ≡ next)
        (elsewhere : (a : ℕ) → a ≢ node → slice_index new a ≡ slice_index cur a)
        (listed : (a : ℕ) → Among after a → Among pending a ⊎ ((a ≡ node) × (count ≤ next))) (stays : (a : ℕ) → Among pending a → Among after a) (lists : count ≤ next → Among after node) where
      step-same : (p q : ℕ) → p < n + 1 → q < n + 1 → key (slice_index nodes p) ≡ key (slice_index nodes q) → slice_index new (slice_index nodes p) ≡ slice_index new (slice_index nodes q)
      step-same p q lp lq e = dite (ℕ_discrete p n)
          (λ pn. dite (ℕ_discrete q n)
          (λ qn. ap (λ (k : ℕ). slice_index new (slice_index nodes k)) (pn ∙ sym qn))
          (λ qne. ap (λ (k : ℕ). slice_index new (slice_index nodes k)) pn
          ∙ (here ∙ (sym (r.back q (omega arith) (sym e ∙ ap (λ (k : ℕ). key (slice_index nodes k)) pn)) ∙ sym (kept q (omega arith))))))
          (λ pne. dite (ℕ_discrete q n)
          (λ qn. kept p (omega arith) ∙ (r.back p (omega arith) (e ∙ ap (λ (k : ℕ). key (slice_index nodes k)) qn) ∙ (sym here ∙ ap (λ (k : ℕ). slice_index new (slice_index nodes k)) (sym qn))))
          (λ qne. kept p (omega arith) ∙ (s.same p q (omega arith) (omega arith) e ∙ sym (kept q (omega arith)))))

      step-apart : (p q : ℕ) → p < n + 1 → q < n + 1 → slice_index new (slice_index nodes p) ≡ slice_index new (slice_index nodes q) → key (slice_index nodes p) ≡ key (slice_index nodes q)
      step-apart p q lp lq e = dite (ℕ_discrete p n)
          (λ pn. dite (ℕ_discrete q n)
          (λ qn. ap (λ (k : ℕ). key (slice_index nodes k)) (pn ∙ sym qn))
          (λ qne. ap (λ (k : ℕ). key (slice_index nodes k)) pn ∙ sym (r.there q (omega arith)
          (sym (kept q (omega arith)) ∙ (sym e ∙ (ap (λ (k : ℕ). slice_index new (slice_index nodes k)) pn ∙ here))))))
          (λ pne. dite (ℕ_discrete q n)
          (λ qn. r.there p (omega arith) (sym (kept p (omega arith)) ∙ (e ∙ (ap (λ (k : ℕ). slice_index new (slice_index nodes k)) qn ∙ here))) ∙ ap (λ (k : ℕ). key (slice_index nodes k)) (sym qn))
          (λ qne. s.apart p q (omega arith) (omega arith) (sym (kept p (omega arith)) ∙ (e ∙ kept q (omega arith)))))

      step-each : (p : ℕ) → p < n + 1 → IsKept key nodes old whole parts new p ⊎ (count ≤ slice_index new (slice_index nodes p))
      step-each p l = dite (ℕ_discrete p n)
          (λ e. dite (dec_le count next)
          (λ high. inr (let f : slice_index new (slice_index nodes p) ≡ next = ap (λ (k : ℕ). slice_index new (slice_index nodes k)) e ∙ here in omega arith))
          (λ not. let w = r.low (omega arith) in
          inl (subst (λ (k : ℕ). IsKept key nodes old whole parts new k) (sym e) record { is = here ∙ (sym w.0 ∙ w.1.is); of_whole = w.1.of_whole; above = w.1.above; same = w.1.same })))
          (λ ne. let m : p < n = omega arith in let f = kept p m in ⊎_elim
          (λ k. inl record { is = f ∙ k.is; of_whole = k.of_whole; above = k.above; same = k.same })
          (λ high. inr (omega arith))
          (s.each p m))

      pub step-splitting : IsSplitting key nodes old whole parts count (n + 1) new after next
      step-splitting = record {
        other = λ a none. elsewhere a (λ e. none n (omega arith) (sym e)) ∙ s.other a (λ p l. none p (omega arith));
        same = step-same;
        apart = step-apart;
        each = step-each;
        last = λ p e. ap (λ (k : ℕ). slice_index new (slice_index nodes k)) (let f : p ≡ n = omega arith in f) ∙ here;
        from = λ a h. ⊎_elim
            (λ o. let f = s.from a o in
            let is : slice_index new a ≡ slice_index cur a = ap (λ (x : ℕ). slice_index new x) (sym f.2) ∙ (kept f.0 f.1 ∙ ap (λ (x : ℕ). slice_index cur x) f.2) in
            (f.0, let l = f.1 in omega arith, f.2, let c = f.3 in omega arith))
            (λ is. let f : slice_index new a ≡ next = ap (λ (x : ℕ). slice_index new x) is.0 ∙ here in (n, omega arith, sym is.0, let c = is.1 in omega arith))
            (listed a h);
        all = λ p l high. dite (ℕ_discrete p n)
            (λ e. let f : slice_index new (slice_index nodes p) ≡ next = ap (λ (k : ℕ). slice_index new (slice_index nodes k)) e ∙ here in
            subst (λ (k : ℕ). Among after (slice_index nodes k)) (sym e) (lists (omega arith)))
            (λ ne. let m : p < n = omega arith in let f = kept p m in stays (slice_index nodes p) (s.all p m (omega arith)));
      }

    -- a node that keeps its number
    pub step-kept : next < count → IsSplitting key nodes old whole parts count (n + 1) cur pending next
    step-kept low = step-splitting cur pending (λ p l. refl) (r.low low).0 (λ a ne. refl) (λ a h. inl h) (λ a h. h) (λ high. absurd (omega arith))

    -- a node that gets another one
    pub step-moved : node < length cur → count ≤ next → IsSplitting key nodes old whole parts count (n + 1) (set cur node next) (pending ++ node ∷ []) next
    step-moved inside high = step-splitting (set cur node next) (pending ++ node ∷ [])
        (λ p l. dite (ℕ_discrete (slice_index nodes p) node)
        (λ e. ap (λ (x : ℕ). slice_index (set cur node next) x) e ∙ (get_or-set_same cur node next 0 inside ∙ sym (r.back p l (ap key e))))
        (λ ne. get_or-set_other cur (node) (slice_index nodes p) next 0 ne))
        (get_or-set_same cur node next 0 inside)
        (λ a ne. get_or-set_other cur node a next 0 ne)
        (λ a h. ⊎_elim (λ o. inl o) (λ e. inr (e, high)) (among-push_cases pending node a h))
        (λ a h. among-push_old pending node a h)
        (λ h. among-push_new pending node)

  module _ (news : List Bool) (inside : n < length nodes) (g : IsGrouped key old nodes news) where
    abbrev is_new : Bool
    is_new = slice_index_or news n false

    right-again : (next : ℕ) → is_new ≡ false → next ≡ number → IsRight next
    right-again next f is =
        let a = (g.each n inside).again f in
        let q : ℕ = a.0 in
        let lq : q < n = let e = a.1 in omega arith in
        let last : slice_index cur (slice_index nodes q) ≡ next = s.last q a.1 ∙ sym is in
        let old_is : slice_index old (slice_index nodes q) ≡ slice_index old node = g.old_same q n (omega arith) inside a.2 in
        record {
          there = λ p l e. s.apart p q l lq (e ∙ sym last) ∙ a.2;
          back = λ p l e. s.same p q l lq (e ∙ sym a.2) ∙ last;
          low = λ lt. ⊎_elim
              (λ k.
              let old_next : slice_index old node ≡ next = sym old_is ∙ (sym k.is ∙ last) in
              let now : slice_index cur node ≡ next = ⊎_elim
              (λ h. ap (λ (x : ℕ). slice_index cur x) (sym h.2) ∙ (s.same h.0 q h.1 lq (ap key h.2 ∙ sym a.2) ∙ last))
              (λ none. s.other node none ∙ old_next)
              (before-or nodes node n) in (
                now,
                record {
                  is = now ∙ sym old_next;
                  of_whole = subst (λ (c : ℕ). IsMarked whole c) old_is k.of_whole;
                  above = subst (λ (c : ℕ). start_of parts c ≤ n) old_is (let b = k.above in omega arith);
                  same = subst (λ (c : ℕ). key (slice_index nodes (start_of parts c)) ≡ key node) old_is (k.same ∙ a.2);
                },
              ))
              (λ high. absurd (omega arith))
              (s.each q lq);
        }

    new-key : is_new ≡ true → (j : ℕ) → j < n → ¬ (key (slice_index nodes j) ≡ key node)
    new-key t = (g.each n inside).new t

    right-kept : (next : ℕ) → is_new ≡ true → next ≡ slice_index cur node → IsMarked whole (slice_index cur node) → start_of parts (slice_index cur node) ≡ n → slice_index old node < count
        → IsRight next
    right-kept next t is marked start small =
        let fresh = new-key t in
        let own : slice_index cur node ≡ slice_index old node = s.other node (λ p l e. fresh p l (ap key e)) in
        record {
          there = λ p l e. ⊎_elim
              (λ k. let f : start_of parts (slice_index old (slice_index nodes p)) ≡ n = ap (λ (c : ℕ). start_of parts c) (sym k.is ∙ (e ∙ is)) ∙ start in let b = k.above in absurd (omega arith))
              (λ high. absurd (omega arith))
              (s.each p l);
          back = λ p l e. absurd (fresh p l e);
          low = λ lt. (
            sym is,
            record {
              is = own;
              of_whole = subst (λ (c : ℕ). IsMarked whole c) own marked;
              above = subst (λ (c : ℕ). start_of parts c ≤ n) own (omega arith);
              same = subst (λ (c : ℕ). key (slice_index nodes (start_of parts c)) ≡ key node) own (ap (λ (k : ℕ). key (slice_index nodes k)) start);
            },
          );
        }

    right-new : (next many : ℕ) → is_new ≡ true → next ≡ many → ((p : ℕ) → p < n → slice_index cur (slice_index nodes p) < many) → count ≤ many → IsRight next
    right-new next many t is below enough = record {
      there = λ p l e. let b = below p l in absurd (omega arith);
      back = λ p l e. absurd (new-key t p l e);
      low = λ lt. absurd (omega arith);
    }

    pub right : (limit : ℕ) (ranges : List Range) (end next : ℕ) (after : List Range) → IsChoice n is_new (slice_index cur node) number limit whole parts ranges end next after
        → ((p : ℕ) → p < n → slice_index cur (slice_index nodes p) < length ranges) → count ≤ length ranges → slice_index old node < count → IsRight next
    right limit ranges end next after c below enough small = ⊎_elim
        (λ x. right-again next x.0 x.1)
        (λ y. ⊎_elim
        (λ x. right-kept next x.0 x.1 x.2 x.3 small)
        (λ x. right-new next (length ranges) x.0 x.1 below enough)
        y)
        c

-- what a choice leaves of ranges
pub record AreRanges (cur : List ℕ) (members : List ℕ) (ranges after : List Range) (next : ℕ) : Type 0 where
  pub members_are : AreMembers cur after members
  pub inside : next < length after
  pub grown : length ranges ≤ length after
  pub new : length ranges ≤ next → length ranges < length after

pub choice-ranges : (at : ℕ) (is_new : Bool) (class number limit : ℕ) (whole : List Bool) (parts : List Part) (ranges : List Range) (end next : ℕ) (after : List Range) (cur members : List ℕ)
    → IsChoice at is_new class number limit whole parts ranges end next after → AreMembers cur ranges members → end ≡ length members → limit ≡ length cur → number < length ranges
    → class < length ranges → AreRanges cur members ranges after next
choice-ranges at is_new class number limit whole parts ranges end next after cur members c m place most small own = ⊎_elim
    (λ x. subst (λ (r : List Range). AreRanges cur members ranges r next) (sym x.2)
    record { members_are = m; inside = let e = x.1 in omega arith; grown = omega arith; new = λ h. let e = x.1 in omega arith })
    (λ y. ⊎_elim
    (λ x. subst (λ (r : List Range). AreRanges cur members ranges r next) (sym x.4)
    record { members_are = m; inside = let e = x.1 in omega arith; grown = omega arith; new = λ h. let e = x.1 in omega arith })
    (λ x. let long = length-append ranges (new_range end ∷ []) in
    subst (λ (r : List Range). AreRanges cur members ranges r next) (sym x.3)
    record { members_are = range-more cur ranges members m end (let l = x.2 in omega arith) place; inside = let e = x.1 in omega arith; grown = omega arith; new = λ h. omega arith })
    y)
    c
