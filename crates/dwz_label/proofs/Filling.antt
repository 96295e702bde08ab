-- Labels are put into slots, one after the other: what a slot holds stays, and where one is empty no label before is the same.
use Rattle.std.proofs.Common.{◌≡◌, ℕ, ◌+◌, ◌<◌, ◌≤◌, Bool, false, List, [], ◌∷◌, ◌++◌, length, refl, sym, ap, subst, ◌∙◌, ◌⊎◌, inl, inr, ⊎_elim, arith, true≢false, Bor}
use Rattle.std.specs.Prelude.{Contains, slice_index, slice_index_or, slice_set}
use Rattle.std.proofs.lemmas.Bool.{cases_eq, cases_lt}
use Rattle.std.proofs.lemmas.Grind.{get_or-set_at}
use Rattle.std.proofs.lemmas.List.{get_or-set_other, length-set}
use Rattle.std.proofs.lemmas.List.Elements.{Contains-push}
use Rattle.dwz_nodes.specs.Looks.{IsLeastBelow}
use Rattle.dwz_label.specs.declared.equal.Keyed.{Keyed}
use Rattle.dwz_label.specs.declared.slots.Slots.{Slots}
use Rattle.dwz_label.specs.Shown.{nth_label}
use Rattle.dwz_label.specs.Slots.{AreSlotted, HasRow, HaveOneLabel, HoldOthers, IsCrowded, IsFoundAt, IsFree, IsRest, IsSettled, home_of}
use Rattle.dwz_label.proofs.Rows.{cases, kept}

module _ (labels : List (List ℕ)) (movable : List Bool) (k : ℕ) where
  abbrev Least : ℕ → ℕ → Type 0
  Least count m = IsLeastBelow count (λ c. IsFree movable c × HaveOneLabel labels m c) m

  least_later : (m : ℕ) → Least k m → Least (k + 1) m
  least_later m h = record {
    inside = (let i = h.inside in omega arith);
    is = h.is;
    least = λ c l p. ⊎_elim (λ (lt : c < k). h.least c lt p) (λ (e : c ≡ k). let i = h.inside in omega arith) (grind arith);
  }

  -- one that may not move is left out
  pub slotted_passed : (s : Slots) → slice_index_or movable k false ≡ false → AreSlotted labels movable k s → AreSlotted labels movable (k + 1) s
  slotted_passed s bound h = record {
    least = λ at l taken. least_later (slice_index s.slots.items at) (h.least at l taken);
    each = λ n l f. ⊎_elim (λ (lt : n < k). h.each n lt f) (λ (e : n ≡ k). absurd (true≢false (sym f ∙ ap (λ (m : ℕ). slice_index_or movable m false) e ∙ bound))) (grind arith);
    rest = λ r c. (let o = h.rest r c in let b = o.below in record { below = omega arith; free = o.free; crowded = o.crowded; key = o.key });
    ahead = λ n l le. h.ahead n l (omega arith);
    bound = h.bound;
  }

  -- ---- what holds before holds after

  module _ (old new : Slots) (size : new.size ≡ old.size) (len : length new.slots.items ≡ length old.slots.items)
      (stays : (s : ℕ) → slice_index old.slots.items s < length labels → slice_index new.slots.items s ≡ slice_index old.slots.items s)
      (firsts : (n : ℕ) → (n ≡ k → ⊥) → slice_index new.firsts.items n ≡ slice_index old.firsts.items n) where
    others_stay : (label : List ℕ) (start count : ℕ) → HoldOthers labels old.slots.items label start count → HoldOthers labels new.slots.items label start count
    others_stay label start count h = λ j l. (
        let o = h j l in
        let e = stays (start + j) o.taken in
        record {
          taken = subst (λ (m : ℕ). m < length labels) (sym e) o.taken;
          other = λ same. o.other (ap (nth_label labels) (sym e) ∙ same);
        })

    crowded_stays : (n : ℕ) → IsCrowded labels old.size old.slots.items n → IsCrowded labels new.size new.slots.items n
    crowded_stays n h = subst (λ (z : ℕ). IsCrowded labels z new.slots.items n) (sym size)
        (others_stay (nth_label labels n) (home_of old.size (nth_label labels n)) 16 h)

    found_stays : (label : List ℕ) (start at : ℕ) → slice_index old.slots.items at < length labels → IsFoundAt labels old.slots.items label start at
        → IsFoundAt labels new.slots.items label start at
    found_stays label start at taken f = record {
      steps = f.steps;
      few = f.few;
      place = f.place;
      before = others_stay label start f.steps f.before;
      here = λ l. ap (nth_label labels) (stays at taken) ∙ f.here taken;
    }

    settled_stays : (n : ℕ) → n < k → IsSettled labels old.size old.slots.items old.firsts.items n → IsSettled labels new.size new.slots.items new.firsts.items n
    settled_stays n l s =
        let same = firsts n (λ e. omega arith) in
        let taken : slice_index old.slots.items s.at < length labels = subst (λ (m : ℕ). m < length labels) (sym s.first) s.taken in
        record {
          at = s.at;
          inside = (let i = s.inside in omega (arith, len));
          found = subst (λ (z : ℕ). IsFoundAt labels new.slots.items (nth_label labels n) (home_of z (nth_label labels n)) s.at) (sym size)
              (found_stays (nth_label labels n) (home_of old.size (nth_label labels n)) s.at taken s.found);
          taken = subst (λ (m : ℕ). m < length labels) (sym same) s.taken;
          first = stays s.at taken ∙ s.first ∙ sym same;
        }

    slotted_more : IsFree movable k → AreSlotted labels movable k old
        → ((r : Keyed (Bor (List ℕ))) → Contains old.rest.items r → Contains new.rest.items r)
        → ((at : ℕ) → at < length new.slots.items → slice_index new.slots.items at < length labels
        → (slice_index new.slots.items at ≡ slice_index old.slots.items at) ⊎ ((slice_index new.slots.items at ≡ k) × Least (k + 1) k))
        → IsSettled labels new.size new.slots.items new.firsts.items k ⊎ HasRow new.rest.items k
        → ((r : Keyed (Bor (List ℕ))) → Contains new.rest.items r → Contains old.rest.items r ⊎ IsRest labels movable new.size new.slots.items (k + 1) r)
        → AreSlotted labels movable (k + 1) new
    slotted_more free h rows slot here rest = record {
      least = λ at l taken. ⊎_elim
          (λ e. subst (λ (m : ℕ). Least (k + 1) m) (sym e) (least_later (slice_index old.slots.items at) (h.least at (omega (arith, len, l)) (subst (λ (m : ℕ). m < length labels) e taken))))
          (λ p. subst (λ (m : ℕ). Least (k + 1) m) (sym p.0) p.1)
          (slot at l taken);
      each = λ n l f. ⊎_elim
          (λ (lt : n < k). ⊎_elim (λ s. inl (settled_stays n lt s)) (λ r. inr (r.0, rows r.0 r.1, r.2)) (h.each n lt f))
          (λ (e : n ≡ k). subst (λ (m : ℕ). IsSettled labels new.size new.slots.items new.firsts.items m ⊎ HasRow new.rest.items m) (sym e) here)
          (grind arith);
      rest = λ r c. ⊎_elim
          (λ d. let o = h.rest r d in let b = o.below in record { below = omega arith; free = o.free; crowded = crowded_stays r.number o.crowded; key = o.key })
          (λ o. o)
          (rest r c);
      ahead = λ n l le. firsts n (λ e. omega arith) ∙ h.ahead n l (omega arith);
      bound = λ n l b. firsts n (λ e. true≢false (sym free ∙ ap (λ (m : ℕ). slice_index_or movable m false) (sym e) ∙ b)) ∙ h.bound n l b;
    }

  -- ---- the next label

  abbrev start : Slots → ℕ
  start s = home_of s.size (nth_label labels k)

  -- where its slot is empty no label before is the same
  none_before : (s : Slots) → AreSlotted labels movable k s → (at : ℕ) → IsFoundAt labels s.slots.items (nth_label labels k) (start s) at
      → (slice_index s.slots.items at < length labels → ⊥) → (c : ℕ) → c < k → IsFree movable c → HaveOneLabel labels k c → ⊥
  none_before s h at found empty c l free same = ⊎_elim
      (λ o. (
      let theirs : IsFoundAt labels s.slots.items (nth_label labels k) (start s) o.at =
      subst (λ (label : List ℕ). IsFoundAt labels s.slots.items label (home_of s.size label) o.at) (sym same) o.found in
      let taken : slice_index s.slots.items o.at < length labels = subst (λ (m : ℕ). m < length labels) (sym o.first) o.taken in
      let place = theirs.place in
      let here = found.place in
      ⊎_elim
      (λ (lt : theirs.steps < found.steps). (found.before theirs.steps lt).other (ap (λ (m : ℕ). nth_label labels (slice_index s.slots.items m)) (sym place) ∙ theirs.here taken))
      (λ (ge : found.steps ≤ theirs.steps). ⊎_elim
      (λ (gt : found.steps < theirs.steps). empty (subst (λ (m : ℕ). slice_index s.slots.items m < length labels) (sym here) (theirs.before found.steps gt).taken))
      (λ (e : found.steps ≡ theirs.steps). empty (subst (λ (m : ℕ). slice_index s.slots.items m < length labels) (place ∙ ap (λ (m : ℕ). start s + m) (sym e) ∙ sym here) taken))
      (grind arith))
      (grind arith)))
      (λ r. (
      let crowded : IsCrowded labels s.size s.slots.items c = subst (λ (m : ℕ). IsCrowded labels s.size s.slots.items m) r.2 (h.rest r.0 r.1).crowded in
      let mine : HoldOthers labels s.slots.items (nth_label labels k) (start s) 16 = subst (λ (label : List ℕ). HoldOthers labels s.slots.items label (home_of s.size label) 16) (sym same) crowded in
      empty (subst (λ (m : ℕ). slice_index s.slots.items m < length labels) (sym found.place) (mine found.steps found.few).taken)))
      (h.each c l free)

  -- its slot holds the first one of its label
  pub slotted_found : (old new : Slots) → new.size ≡ old.size → new.slots.items ≡ old.slots.items → new.rest.items ≡ old.rest.items
      → (at : ℕ) → at < length old.slots.items → new.firsts.items ≡ slice_set old.firsts.items k (slice_index old.slots.items at) → k < length old.firsts.items
      → IsFoundAt labels old.slots.items (nth_label labels k) (start old) at → slice_index old.slots.items at < length labels
      → IsFree movable k → AreSlotted labels movable k old → AreSlotted labels movable (k + 1) new
  slotted_found old new size slots rest at inside firsts room found taken free h =
      let same : (s : ℕ) → slice_index new.slots.items s ≡ slice_index old.slots.items s = λ s. ap (λ (ls : List ℕ). slice_index ls s) slots in
      let first : slice_index new.firsts.items k ≡ slice_index old.slots.items at =
      ap (λ (ls : List ℕ). slice_index ls k) firsts ∙ get_or-set_at old.firsts.items k k (slice_index old.slots.items at) 0 refl room in
      slotted_more old new size (ap (λ (ls : List ℕ). length ls) slots) (λ s l. same s)
      (λ n other. ap (λ (ls : List ℕ). slice_index ls n) firsts ∙ get_or-set_other old.firsts.items k n (slice_index old.slots.items at) 0 other)
      free h
      (λ r c. subst (λ (rows : List (Keyed (Bor (List ℕ)))). Contains rows r) (sym rest) c)
      (λ s l t. inl (same s))
      (inl (record {
        at = at;
        inside = (let e = ap (λ (ls : List ℕ). length ls) slots in omega (arith, e, inside));
        found = subst (λ (ls : List ℕ). IsFoundAt labels ls (nth_label labels k) (start new) at) (sym slots)
            (subst (λ (z : ℕ). IsFoundAt labels old.slots.items (nth_label labels k) (home_of z (nth_label labels k)) at) (sym size) found);
        taken = subst (λ (m : ℕ). m < length labels) (sym first) taken;
        first = same at ∙ sym first;
      }))
      (λ r c. inl (subst (λ (rows : List (Keyed (Bor (List ℕ)))). Contains rows r) rest c))

  -- its slot is empty, and holds it from now on
  pub slotted_new : (old new : Slots) → new.size ≡ old.size → new.firsts.items ≡ old.firsts.items → new.rest.items ≡ old.rest.items
      → (at : ℕ) → at < length old.slots.items → new.slots.items ≡ slice_set old.slots.items at k → k < length labels
      → IsFoundAt labels old.slots.items (nth_label labels k) (start old) at → (slice_index old.slots.items at < length labels → ⊥)
      → IsFree movable k → AreSlotted labels movable k old → AreSlotted labels movable (k + 1) new
  slotted_new old new size firsts rest at inside slots room found empty free h =
      let len : length new.slots.items ≡ length old.slots.items = ap (λ (ls : List ℕ). length ls) slots ∙ length-set old.slots.items at k in
      let here : slice_index new.slots.items at ≡ k = ap (λ (ls : List ℕ). slice_index ls at) slots ∙ get_or-set_at old.slots.items at at k 0 refl inside in
      let away : (s : ℕ) → (s ≡ at → ⊥) → slice_index new.slots.items s ≡ slice_index old.slots.items s =
      λ s other. ap (λ (ls : List ℕ). slice_index ls s) slots ∙ get_or-set_other old.slots.items at s k 0 other in
      let stays : (s : ℕ) → slice_index old.slots.items s < length labels → slice_index new.slots.items s ≡ slice_index old.slots.items s =
      λ s l. away s (λ e. empty (subst (λ (m : ℕ). slice_index old.slots.items m < length labels) e l)) in
      let others : (n : ℕ) → (n ≡ k → ⊥) → slice_index new.firsts.items n ≡ slice_index old.firsts.items n = λ n other. ap (λ (ls : List ℕ). slice_index ls n) firsts in
      let own : slice_index new.firsts.items k ≡ k = ap (λ (ls : List ℕ). slice_index ls k) firsts ∙ h.ahead k room (omega arith) in
      let least : Least (k + 1) k = record {
        inside = omega arith;
        is = (free, refl);
        least = λ c l p. ⊎_elim (λ (lt : c < k). absurd (none_before old h at found empty c lt p.0 p.1)) (λ (ge : k ≤ c). ge) (cases_lt c k);
      } in
      slotted_more old new size len stays others free h
      (λ r c. subst (λ (rows : List (Keyed (Bor (List ℕ)))). Contains rows r) (sym rest) c)
      (λ s l t. ⊎_elim (λ (e : s ≡ at). inr (ap (λ (m : ℕ). slice_index new.slots.items m) e ∙ here, least)) (λ (other : s ≡ at → ⊥). inl (away s other)) (cases_eq s at))
      (inl (record {
        at = at;
        inside = omega (arith, len, inside);
        found = record {
          steps = found.steps;
          few = found.few;
          place = found.place ∙ ap (λ (z : ℕ). home_of z (nth_label labels k) + found.steps) (sym size);
          before = others_stay old new size len stays others (nth_label labels k) (start new) found.steps
              (subst (λ (z : ℕ). HoldOthers labels old.slots.items (nth_label labels k) (home_of z (nth_label labels k)) found.steps) (sym size) found.before);
          here = λ l. ap (nth_label labels) here;
        };
        taken = subst (λ (m : ℕ). m < length labels) (sym own) room;
        first = here ∙ sym own;
      }))
      (λ r c. inl (subst (λ (rows : List (Keyed (Bor (List ℕ)))). Contains rows r) rest c))

  -- all its slots hold other ones
  pub slotted_rest : (old new : Slots) → new.size ≡ old.size → new.firsts.items ≡ old.firsts.items → new.slots.items ≡ old.slots.items
      → (row : Keyed (Bor (List ℕ))) → new.rest.items ≡ old.rest.items ++ row ∷ [] → row.number ≡ k → row.key.now ≡ nth_label labels k
      → HoldOthers labels old.slots.items (nth_label labels k) (start old) 16
      → IsFree movable k → AreSlotted labels movable k old → AreSlotted labels movable (k + 1) new
  slotted_rest old new size firsts slots row rest number key crowded free h =
      let same : (s : ℕ) → slice_index new.slots.items s ≡ slice_index old.slots.items s = λ s. ap (λ (ls : List ℕ). slice_index ls s) slots in
      let len = ap (λ (ls : List ℕ). length ls) slots in
      let others : (n : ℕ) → (n ≡ k → ⊥) → slice_index new.firsts.items n ≡ slice_index old.firsts.items n = λ n other. ap (λ (ls : List ℕ). slice_index ls n) firsts in
      let mine : IsRest labels movable new.size new.slots.items (k + 1) row = record {
        below = omega (arith, number);
        free = subst (IsFree movable) (sym number) free;
        crowded = subst (λ (m : ℕ). IsCrowded labels new.size new.slots.items m) (sym number) (crowded_stays old new size len (λ s l. same s) others k crowded);
        key = key ∙ ap (nth_label labels) (sym number);
      } in
      slotted_more old new size len (λ s l. same s) others free h
      (λ r c. subst (λ (rows : List (Keyed (Bor (List ℕ)))). Contains rows r) (sym rest) (kept old.rest.items r row c))
      (λ s l t. inl (same s))
      (inr (row, subst (λ (rows : List (Keyed (Bor (List ℕ)))). Contains rows row) (sym rest) (Contains-push old.rest.items row), number))
      (λ r c. ⊎_elim (λ d. inl d) (λ e. inr (subst (λ (o : Keyed (Bor (List ℕ))). IsRest labels movable new.size new.slots.items (k + 1) o) e mine))
      (cases old.rest.items r row (subst (λ (rows : List (Keyed (Bor (List ℕ)))). Contains rows r) rest c)))

-- ---- what a search found

-- the same of the slots themselves, of the label and of where it begins
pub found_here : (labels : List (List ℕ)) (view slots label : List ℕ) (size n start at : ℕ) → view ≡ slots → label ≡ nth_label labels n → start ≡ home_of size label
    → IsFoundAt labels view label start at → IsFoundAt labels slots (nth_label labels n) (home_of size (nth_label labels n)) at
found_here labels view slots label size n start at e f g h =
    subst (λ (ls : List ℕ). IsFoundAt labels ls (nth_label labels n) (home_of size (nth_label labels n)) at) e
    (subst (λ (l : List ℕ). IsFoundAt labels view l (home_of size l) at) f (subst (λ (s : ℕ). IsFoundAt labels view label s at) g h))

pub crowded_here : (labels : List (List ℕ)) (view slots label : List ℕ) (size n start : ℕ) → view ≡ slots → label ≡ nth_label labels n → start ≡ home_of size label
    → HoldOthers labels view label start 16 → IsCrowded labels size slots n
crowded_here labels view slots label size n start e f g h =
    subst (λ (ls : List ℕ). IsCrowded labels size ls n) e
    (subst (λ (l : List ℕ). HoldOthers labels view l (home_of size l) 16) f (subst (λ (s : ℕ). HoldOthers labels view label s 16) g h))

pub found_inside : (labels : List (List ℕ)) (slots label : List ℕ) (size start at : ℕ) → IsFoundAt labels slots label start at → start < size → length slots ≡ size + 16 → at < length slots
found_inside labels slots label size start at f l e = let p = f.place in let q = f.few in omega arith
