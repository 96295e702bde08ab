-- Each node stands in the range of its class, also after it has moved to another one.
use Rattle.std.proofs.Common.{◌≡◌, ℕ, suc, ◌+◌, ◌<◌, ◌≤◌, All, List, [], ◌∷◌, ◌++◌, length, set, sym, ap, subst, ◌∙◌, arith, length-append, get_or-set_other, get_or-set_same}
use Rattle.std.specs.Prelude.{slice_index}
use Rattle.std.proofs.Math.ListN.{get_or-append, length-set}
use Rattle.std.proofs.Math.Seq.{get_or-append_seam}
use Rattle.std.proofs.lemmas.List.Elements.{All-push}
use Rattle.std.proofs.lemmas.List.{get_or_default}
use mathlib.Core.Logic.{dite}
use native.Mathlib.Decide.{ℕ_discrete, dec_le}
use Rattle.dwz_rounds.specs.declared.members.Range.{Range}
use Rattle.dwz_rounds.specs.Members.{range_at, AreMembers}

abbrev none : Range
none = record { start = 0; end = 0; live = 0 }

module _ (numbers : List ℕ) (ranges : List Range) (members : List ℕ) (m : AreMembers numbers ranges members) where
  -- numbers are those of ranges
  pub numbers-below : All (λ c. c < length ranges) numbers
  numbers-below = λ k d l. let n = (m.each k l).number in subst (λ (c : ℕ). c < length ranges) (get_or_default numbers k 0 d l) n

  -- how many nodes live in a range doesn't matter
  pub live-only : (class live : ℕ) → class < length ranges → AreMembers numbers (set ranges class (record { start = (range_at ranges class).start; end = (range_at ranges class).end; live = live }))
      members
  live-only class live inside =
      let r : Range = record { start = (range_at ranges class).start; end = (range_at ranges class).end; live = live } in
      let len = length-set ranges class r in
      let start : (c : ℕ) → (range_at (set ranges class r) c).start ≡ (range_at ranges c).start = λ c. dite (ℕ_discrete c class)
      (λ e. ap (λ (k : ℕ). (range_at (set ranges class r) k).start) e ∙ (ap (λ (x : Range). x.start) (get_or-set_same ranges class r none inside) ∙ ap (λ (k : ℕ). (range_at ranges k).start) (sym e)))
      (λ ne. ap (λ (x : Range). x.start) (get_or-set_other ranges class c r none ne)) in
      let end : (c : ℕ) → (range_at (set ranges class r) c).end ≡ (range_at ranges c).end = λ c. dite (ℕ_discrete c class)
      (λ e. ap (λ (k : ℕ). (range_at (set ranges class r) k).end) e ∙ (ap (λ (x : Range). x.end) (get_or-set_same ranges class r none inside) ∙ ap (λ (k : ℕ). (range_at ranges k).end) (sym e)))
      (λ ne. ap (λ (x : Range). x.end) (get_or-set_other ranges class c r none ne)) in
      record {
        few = let f = m.few in omega arith;
        within = λ c l. let w = m.within c (omega arith) in let a = start c in let b = end c in (let x = w.0 in omega arith, let y = w.1 in omega arith);
        nodes = m.nodes;
        each = λ a l. let p = m.each a l in let c : ℕ = slice_index numbers a in let s = start c in let e = end c in record {
          number = let n = p.number in omega arith;
          place = p.place;
          above = let x = p.above in omega arith;
          below = let x = p.below in omega arith;
          is = p.is;
        };
      }

  -- one more range, with nothing in it
  pub range-more : (place : ℕ) → length ranges < length numbers → place ≡ length members → AreMembers numbers (ranges ++ record { start = place; end = place; live = 0 } ∷ []) members
  range-more place room is =
      let r : Range = record { start = place; end = place; live = 0 } in
      let len = length-append ranges (r ∷ []) in
      let front : (c : ℕ) → c < length ranges → range_at (ranges ++ r ∷ []) c ≡ range_at ranges c = λ c l. get_or-append ranges (r ∷ []) none c l in
      record {
        few = omega arith;
        within = λ c l. dite (dec_le (suc c) (length ranges))
            (λ o. let w = m.within c o in subst (λ (x : Range). (x.start ≤ x.end) × (x.end ≤ length members)) (sym (front c o)) w)
            (λ n. let e : c ≡ length ranges = omega arith in subst (λ (x : Range). (x.start ≤ x.end) × (x.end ≤ length members))
            (sym (ap (λ (k : ℕ). range_at (ranges ++ r ∷ []) k) e ∙ get_or-append_seam ranges r [] none)) (omega arith, omega arith));
        nodes = m.nodes;
        each = λ a l. let p = m.each a l in let f = front (slice_index numbers a) p.number in record {
          number = let n = p.number in omega arith;
          place = p.place;
          above = subst (λ (x : Range). x.start ≤ p.place) (sym f) p.above;
          below = subst (λ (x : Range). p.place < x.end) (sym f) p.below;
          is = p.is;
        };
      }

  -- a node moves to the end of the row, up to which its new range reaches
  module _ (node number live end : ℕ) (inside : node < length numbers) (there : number < length ranges) (is : end ≡ length members + 1) where
    abbrev r : Range
    r = record { start = (range_at ranges number).start; end = end; live = live }

    abbrev after : List Range
    after = set ranges number r

    after-start : (c : ℕ) → (range_at after c).start ≡ (range_at ranges c).start
    after-start c = dite (ℕ_discrete c number)
        (λ e. ap (λ (k : ℕ). (range_at after k).start) e ∙ (ap (λ (x : Range). x.start) (get_or-set_same ranges number r none there) ∙ ap (λ (k : ℕ). (range_at ranges k).start) (sym e)))
        (λ ne. ap (λ (x : Range). x.start) (get_or-set_other ranges number c r none ne))

    after-end : (c : ℕ) → c < length ranges → ((range_at ranges c).end ≤ (range_at after c).end) × ((range_at after c).end ≤ length members + 1)
    after-end c l = let w = m.within c l in let b = w.1 in dite (ℕ_discrete c number)
        (λ e. let f : (range_at after c).end ≡ end = ap (λ (k : ℕ). (range_at after k).end) e ∙ ap (λ (x : Range). x.end) (get_or-set_same ranges number r none there) in (omega arith, omega arith))
        (λ ne. let f = ap (λ (x : Range). x.end) (get_or-set_other ranges number c r none ne) in (omega arith, omega arith))

    pub moved : AreMembers (set numbers node number) after (members ++ node ∷ [])
    moved =
        let len = length-set ranges number r in
        let many = length-set numbers node number in
        let long = length-append members (node ∷ []) in
        record {
          few = let f = m.few in omega arith;
          within = λ c l. let k : c < length ranges = omega arith in let w = m.within c k in let s = after-start c in let e =
              after-end c k in (let x = w.0 in let y = e.0 in omega arith, let y = e.1 in omega arith);
          nodes = subst (λ (n : ℕ). All (λ a. a < n) (members ++ node ∷ [])) (sym many) (All-push (λ a. a < length numbers) members node m.nodes inside);
          each = λ a l. dite (ℕ_discrete a node)
              (λ e.
              let c : slice_index (set numbers node number) a ≡ number = ap (λ (k : ℕ). slice_index (set numbers node number) k) e ∙ get_or-set_same numbers node number 0 inside in
              let w = m.within number there in
              let f : (range_at after number).end ≡ end = ap (λ (x : Range). x.end) (get_or-set_same ranges number r none there) in
              let s = after-start number in
              record {
                number = omega arith;
                place = length members;
                above = subst (λ (k : ℕ). (range_at after k).start ≤ length members) (sym c) (let x = w.0 in let y = w.1 in omega arith);
                below = subst (λ (k : ℕ). length members < (range_at after k).end) (sym c) (omega arith);
                is = get_or-append_seam members node [] 0 ∙ sym e;
              })
              (λ ne.
              let c : slice_index (set numbers node number) a ≡ slice_index numbers a = get_or-set_other numbers node a number 0 ne in
              let p = m.each a (omega arith) in
              let k : ℕ = slice_index numbers a in
              let w = m.within k p.number in
              let s = after-start k in
              let e = after-end k p.number in
              record {
                number = let n = p.number in omega arith;
                place = p.place;
                above = subst (λ (j : ℕ). (range_at after j).start ≤ p.place) (sym c) (let x = p.above in omega arith);
                below = subst (λ (j : ℕ). p.place < (range_at after j).end) (sym c) (let x = p.below in let y = e.0 in omega arith);
                is = get_or-append members (node ∷ []) 0 p.place (let x = p.below in let y = w.1 in omega arith) ∙ p.is;
              });
        }
