-- Numbers of classes, and their members, from the classes of a whole round.
use Rattle.std.proofs.Common.{◌≡◌, ℕ, zero, suc, ◌+◌, ◌<◌, ◌≤◌, All, Contains, List, [], ◌∷◌, ◌++◌, length, get_or, inl, inr, take, ⊎_elim, refl, sym, ap, subst, ◌∙◌, arith, length-append}
use Rattle.std.specs.Prelude.{slice_index}
use Rattle.std.proofs.Math.ListN.{get_or-append}
use Rattle.std.proofs.Math.Seq.{get_or-append_seam}
use Rattle.std.proofs.lemmas.List.{get_or_default}
use Rattle.std.proofs.lemmas.List.Elements.{All-append}
use mathlib.Core.Logic.{dite}
use native.Mathlib.Decide.{ℕ_discrete, dec_le}
use Rattle.dwz_model.specs.Lists.{In}
use Rattle.dwz_model.proofs.ListFacts.{all_more, in_at}
use Rattle.dwz_groups.specs.declared.groups.Edge.{Edge}
use Rattle.dwz_groups.specs.Groups.{values_at}
use Rattle.dwz_groups.proofs.MarkLemmas.{edge_values, pair, values_edge}
use Rattle.dwz_nodes.specs.Among.{Among}
use Rattle.dwz_rounds.specs.declared.members.Range.{Range}
use Rattle.dwz_rounds.specs.Members.{range_at, IsMember, AreMembers}
use Rattle.dwz_rounds.specs.Start.{IsLed, AreNumbered, AreMoved, number_pairs}
use Rattle.dwz_rounds.proofs.Settling.{among-push_old, among-push_new, among-push_cases}

pub numbered-none : (classes : List ℕ) → AreNumbered classes 0 0 []
numbered-none classes = record { len = refl; few = omega arith; below = λ a l. absurd (omega arith); same = λ a b l. absurd (omega arith); apart = λ a b l. absurd (omega arith) }

module _ (classes : List ℕ) (n count : ℕ) (numbers : List ℕ) (led : IsLed classes) (inside : n < length classes) (m : AreNumbered classes n count numbers) where
  front : (x a : ℕ) → a < n → slice_index (numbers ++ x ∷ []) a ≡ slice_index numbers a
  front x a l = get_or-append numbers (x ∷ []) 0 a (let e = m.len in omega arith)

  last : (x a : ℕ) → a ≡ n → slice_index (numbers ++ x ∷ []) a ≡ x
  last x a e = ap (λ (k : ℕ). slice_index (numbers ++ x ∷ []) k) (e ∙ sym m.len) ∙ get_or-append_seam numbers x [] 0

  longer : (x : ℕ) → length (numbers ++ x ∷ []) ≡ n + 1
  longer x = let e = m.len in omega (arith, length-append numbers (x ∷ []))

  -- a class that begins here
  pub numbered-new : slice_index classes n ≡ n → AreNumbered classes (n + 1) (count + 1) (numbers ++ count ∷ [])
  numbered-new own =
      let less : (a : ℕ) → a < n → ¬ (slice_index classes a ≡ slice_index classes n) = λ a l e. let h = (led a (omega arith)).0 in absurd (omega arith) in
      record {
        len = longer count;
        few = let f = m.few in omega arith;
        below = λ a l. dite (ℕ_discrete a n)
            (λ e. let f = last count a e in omega arith)
            (λ ne. let f = front count a (omega arith) in let b = m.below a (omega arith) in omega arith);
        same = λ a b la lb e. dite (ℕ_discrete a n)
            (λ an. dite (ℕ_discrete b n)
            (λ bn. last count a an ∙ sym (last count b bn))
            (λ bne. absurd (less b (omega arith) (sym e ∙ ap (λ (k : ℕ). slice_index classes k) an))))
            (λ ane. dite (ℕ_discrete b n)
            (λ bn. absurd (less a (omega arith) (e ∙ ap (λ (k : ℕ). slice_index classes k) bn)))
            (λ bne. front count a (omega arith) ∙ (m.same a b (omega arith) (omega arith) e ∙ sym (front count b (omega arith)))));
        apart = λ a b la lb e. dite (ℕ_discrete a n)
            (λ an. dite (ℕ_discrete b n)
            (λ bn. ap (λ (k : ℕ). slice_index classes k) (an ∙ sym bn))
            (λ bne. let f = last count a an in let g = front count b (omega arith) in let s = m.below b (omega arith) in absurd (omega arith)))
            (λ ane. dite (ℕ_discrete b n)
            (λ bn. let f = last count b bn in let g = front count a (omega arith) in let s = m.below a (omega arith) in absurd (omega arith))
            (λ bne. m.apart a b (omega arith) (omega arith) (sym (front count a (omega arith)) ∙ (e ∙ front count b (omega arith)))));
      }

  -- a node of a class that has begun
  pub numbered-again : (slice_index classes n ≡ n → ⊥) → AreNumbered classes (n + 1) count (numbers ++ slice_index numbers (slice_index classes n) ∷ [])
  numbered-again other =
      let c : ℕ = slice_index classes n in
      let h = led n inside in
      let lc : c < n = let x = h.0 in omega arith in
      let x : ℕ = slice_index numbers c in
      record {
        len = longer x;
        few = let f = m.few in omega arith;
        below = λ a l. dite (ℕ_discrete a n)
            (λ e. let f = last x a e in let b = m.below c lc in omega arith)
            (λ ne. let f = front x a (omega arith) in let b = m.below a (omega arith) in omega arith);
        same = λ a b la lb e. dite (ℕ_discrete a n)
            (λ an. dite (ℕ_discrete b n)
            (λ bn. last x a an ∙ sym (last x b bn))
            (λ bne. last x a an ∙ (m.same c b lc (omega arith) (h.1 ∙ (ap (λ (k : ℕ). slice_index classes k) (sym an) ∙ e)) ∙ sym (front x b (omega arith)))))
            (λ ane. dite (ℕ_discrete b n)
            (λ bn. front x a (omega arith) ∙ (m.same a c (omega arith) lc (e ∙ (ap (λ (k : ℕ). slice_index classes k) bn ∙ sym h.1)) ∙ sym (last x b bn)))
            (λ bne. front x a (omega arith) ∙ (m.same a b (omega arith) (omega arith) e ∙ sym (front x b (omega arith)))));
        apart = λ a b la lb e. dite (ℕ_discrete a n)
            (λ an. dite (ℕ_discrete b n)
            (λ bn. ap (λ (k : ℕ). slice_index classes k) (an ∙ sym bn))
            (λ bne. ap (λ (k : ℕ). slice_index classes k) an ∙ (sym h.1 ∙ m.apart c b lc (omega arith) (sym (last x a an) ∙ (e ∙ front x b (omega arith))))))
            (λ ane. dite (ℕ_discrete b n)
            (λ bn. m.apart a c (omega arith) lc (sym (front x a (omega arith)) ∙ (e ∙ last x b bn)) ∙ (h.1 ∙ ap (λ (k : ℕ). slice_index classes k) (sym bn)))
            (λ bne. m.apart a b (omega arith) (omega arith) (sym (front x a (omega arith)) ∙ (e ∙ front x b (omega arith)))));
      }

append-at : (xs ys : List ℕ) (i : ℕ) → slice_index (xs ++ ys) (length xs + i) ≡ slice_index ys i
append-at [] ys i = ap (λ (k : ℕ). slice_index ys k) (let e : 0 + i ≡ i = omega arith in e)
append-at (x ∷ xs) ys i = ap (λ (k : ℕ). slice_index ((x ∷ xs) ++ ys) k) (let e : suc (length xs) + i ≡ suc (length xs + i) = omega arith in e) ∙ append-at xs ys i

-- the nodes of the first classes have their places
pub record AreListed (numbers : List ℕ) (class : ℕ) (ranges : List Range) (members : List ℕ) : Type 0 where
  pub len : length ranges ≡ class
  pub within : (c : ℕ) → c < length ranges → ((range_at ranges c).start ≤ (range_at ranges c).end) × ((range_at ranges c).end ≤ length members)
  pub nodes : All (λ a. a < length numbers) members
  pub each : (a : ℕ) → a < length numbers → slice_index numbers a < class → IsMember numbers ranges members a

pub listed-none : (numbers : List ℕ) → AreListed numbers 0 [] []
listed-none numbers = record { len = refl; within = λ c l. absurd (omega arith); nodes = λ k d l. absurd (omega arith); each = λ a l m. absurd (omega arith) }

pub listed-more : (numbers : List ℕ) (class live start end : ℕ) (ranges : List Range) (members row : List ℕ) → AreListed numbers class ranges members
    → ((a : ℕ) → a < length numbers → slice_index numbers a ≡ class → Contains row a) → All (λ a. a < length numbers) row → start ≡ length members → end ≡ length members + length row
    → AreListed numbers (class + 1) (ranges ++ record { start = start; end = end; live = live } ∷ []) (members ++ row)
listed-more numbers class live start end ranges members row s has small is ends =
    let r : Range = record { start = start; end = end; live = live } in
    let none : Range = record { start = 0; end = 0; live = 0 } in
    let long = length-append ranges (r ∷ []) in
    let all = length-append members row in
    let front : (c : ℕ) → c < length ranges → range_at (ranges ++ r ∷ []) c ≡ range_at ranges c = λ c l. get_or-append ranges (r ∷ []) none c l in
    let here : (c : ℕ) → c ≡ class → range_at (ranges ++ r ∷ []) c ≡ r = λ c e. ap (λ (k : ℕ). range_at (ranges ++ r ∷ []) k) (e ∙ sym s.len) ∙ get_or-append_seam ranges r [] none in
    record {
      len = let e = s.len in omega arith;
      within = λ c l. dite (dec_le (suc c) (length ranges))
          (λ o. let w = s.within c o in subst (λ (x : Range). (x.start ≤ x.end) × (x.end ≤ length (members ++ row))) (sym (front c o)) (w.0, let y = w.1 in omega arith))
          (λ n. subst (λ (x : Range). (x.start ≤ x.end) × (x.end ≤ length (members ++ row))) (sym (here c (let e = s.len in omega arith))) (omega arith, omega arith));
      nodes = All-append (λ a. a < length numbers) members row s.nodes small;
      each = λ a la l. dite (ℕ_discrete (slice_index numbers a) class)
          (λ e.
          let c = has a la e in
          let i = c.1 in
          record {
            number = let f = s.len in omega arith;
            place = length members + c.0;
            above = subst (λ (x : Range). x.start ≤ length members + c.0) (sym (here (slice_index numbers a) e)) (omega arith);
            below = subst (λ (x : Range). length members + c.0 < x.end) (sym (here (slice_index numbers a) e)) (omega arith);
            is = append-at members row c.0 ∙ (sym (get_or_default row c.0 a 0 i) ∙ c.2);
          })
          (λ ne.
          let p = s.each a la (omega arith) in
          let f = front (slice_index numbers a) p.number in
          let w = s.within (slice_index numbers a) p.number in
          record {
            number = let n = p.number in omega arith;
            place = p.place;
            above = subst (λ (x : Range). x.start ≤ p.place) (sym f) p.above;
            below = subst (λ (x : Range). p.place < x.end) (sym f) p.below;
            is = get_or-append members row 0 p.place (let x = p.below in let y = w.1 in omega arith) ∙ p.is;
          });
    }

pub listed-all : (numbers : List ℕ) (class : ℕ) (ranges : List Range) (members : List ℕ) → class ≤ length numbers → All (λ c. c < class) numbers → AreListed numbers class ranges members
    → AreMembers numbers ranges members
listed-all numbers class ranges members few below s = record {
  few = let e = s.len in omega arith;
  within = s.within;
  nodes = s.nodes;
  each = λ a l. s.each a l (below a 0 l);
}

-- the sources of a class in the graph of classes
pub none-paired : (numbers : List ℕ) → number_pairs 0 (take 0 numbers) ≡ []
unfolding number_pairs
none-paired numbers = refl

-- one more node is under its number
pub one-paired : (s n : ℕ) (numbers : List ℕ) → n < length numbers → number_pairs s (take (suc n) numbers) ≡ number_pairs s (take n numbers) ++ pair (slice_index numbers n) (s + n) ∷ []
unfolding number_pairs
one-paired s n [] l = absurd (omega arith)
one-paired s zero (x ∷ numbers) l = let e : s ≡ s + 0 = omega arith in ap (λ (k : ℕ). pair x k ∷ []) e
one-paired s (suc n) (x ∷ numbers) l = let e : suc s + n ≡ s + suc n = omega arith in
    ap (λ (w : List Edge). pair x s ∷ w) (one-paired (suc s) n numbers (omega arith) ∙ ap (λ (k : ℕ). number_pairs (suc s) (take n numbers) ++ pair (slice_index numbers n) k ∷ []) e)

paired : (s a : ℕ) (numbers : List ℕ) → a < length numbers → In (pair (slice_index numbers a) (s + a)) (number_pairs s numbers)
unfolding number_pairs
paired s a [] l = absurd (omega arith)
paired s zero (x ∷ numbers) l = inl (let e : s ≡ s + 0 = omega arith in ap (λ (k : ℕ). pair x k) e)
paired s (suc a) (x ∷ numbers) l =
    let e : suc s + a ≡ s + suc a = omega arith in
    inr (subst (λ (k : ℕ). In (pair (slice_index numbers a) k) (number_pairs (suc s) numbers)) e (paired (suc s) a numbers (omega arith)))

pair-inside : (s m k : ℕ) (numbers : List ℕ) → In (pair m k) (number_pairs s numbers) → k < s + length numbers
unfolding number_pairs
pair-inside s m k [] i = absurd i
pair-inside s m k (x ∷ numbers) (inl e) = let h : s ≡ k = ap (λ (p : Edge). p.value) e in omega arith
pair-inside s m k (x ∷ numbers) (inr i) = let h = pair-inside (suc s) m k numbers i in omega arith

pub keys-low : (s count : ℕ) (numbers : List ℕ) → All (λ c. c < count) numbers → All (λ p. p.key < count) (number_pairs s numbers)
unfolding number_pairs
keys-low s count [] low = λ k d l. absurd (omega arith)
keys-low s count (x ∷ numbers) low = all_more (λ p. p.key < count) (pair x s) (number_pairs (suc s) numbers) (low 0 0 (omega arith))
    (keys-low (suc s) count numbers (λ k d l. low (suc k) d (omega arith)))

in-contains : (a : ℕ) (xs : List ℕ) → In a xs → Contains xs a
in-contains a [] i = absurd i
in-contains a (x ∷ xs) (inl e) = (0, omega arith, e)
in-contains a (x ∷ xs) (inr i) = let r = in-contains a xs i in (suc r.0, let l = r.1 in omega arith, r.2)

-- the nodes under a number are just those that have it
pub has-node : (numbers : List ℕ) (class a : ℕ) → a < length numbers → slice_index numbers a ≡ class → Contains (values_at (number_pairs 0 numbers) class) a
has-node numbers class a l e =
    let same : 0 + a ≡ a = omega arith in
    in-contains a (values_at (number_pairs 0 numbers) class)
    (edge_values class a (number_pairs 0 numbers) (subst (λ (q : ℕ × ℕ). In (pair q.0 q.1) (number_pairs 0 numbers)) (λ j. (e j, same j)) (paired 0 a numbers l)))

pub nodes-inside : (numbers : List ℕ) (class : ℕ) → All (λ a. a < length numbers) (values_at (number_pairs 0 numbers) class)
nodes-inside numbers class k d m =
    let xs = values_at (number_pairs 0 numbers) class in
    let same = get_or_default xs k 0 d m in
    let h = pair-inside 0 class (get_or xs k 0) numbers (values_edge class (get_or xs k 0) (number_pairs 0 numbers) (in_at xs k m)) in
    omega arith

-- one more node is moved, or isn't
module _ (classes next largest : List ℕ) (n : ℕ) (pending : List ℕ) (p : AreMoved classes next largest n pending) where
  pub moved-yes : ¬ (slice_index next n ≡ slice_index largest (slice_index classes n)) → AreMoved classes next largest (n + 1) (pending ++ n ∷ [])
  moved-yes not = record {
    from = λ a h. ⊎_elim
        (λ o. let f = p.from a o in (let l = f.0 in omega arith, f.1))
        (λ e. (let f = e in omega arith, subst (λ (k : ℕ). ¬ (slice_index next k ≡ slice_index largest (slice_index classes k))) (sym e) not))
        (among-push_cases pending n a h);
    all = λ a l d. dite (ℕ_discrete a n)
        (λ e. subst (λ (k : ℕ). Among (pending ++ n ∷ []) k) (sym e) (among-push_new pending n))
        (λ ne. among-push_old pending n a (p.all a (omega arith) d));
  }

  pub moved-no : slice_index next n ≡ slice_index largest (slice_index classes n) → AreMoved classes next largest (n + 1) pending
  moved-no is = record {
    from = λ a h. let f = p.from a h in (let l = f.0 in omega arith, f.1);
    all = λ a l d. dite (ℕ_discrete a n)
        (λ e. absurd (d (subst (λ (k : ℕ). slice_index next k ≡ slice_index largest (slice_index classes k)) (sym e) is)))
        (λ ne. p.all a (omega arith) d);
  }

pub moved-none : (classes next largest : List ℕ) → AreMoved classes next largest 0 []
moved-none classes next largest = record { from = λ a h. let l = h.1 in absurd (omega arith); all = λ a l. absurd (omega arith) }
