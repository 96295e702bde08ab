-- Which rows stand for others.
use Rattle.std.proofs.Common.{◌≡◌, ℕ, zero, suc, ◌+◌, ◌<◌, ◌≤◌, ◌==◌, ◌&&◌, inl, inr, cond, Bool, true, false, List, [], ◌∷◌, Option, Some, None, length, find, get_or, refl, sym, ap, ◌∙◌, arith}
use Rattle.std.proofs.Common.{eq-eqb}
use Rattle.std.specs.Option.{option_map_or}
use Rattle.std.specs.List.{range_with_len}
use Rattle.std.proofs.lemmas.Bool.{both_ways, false_from_ne_true, ne_eqb}
use Rattle.dwz_def_reading.specs.Lists.{In}
use Rattle.dwz_groups.specs.declared.tops.TopRow.{TopRow}
use Rattle.dwz_plan.specs.Planned.{alike, numbers, rep}
use Rattle.dwz_plan.specs.Rows.{Given, TopFacts, rows_from}
use Rattle.dwz_plan.proofs.RowLemmas.{alike_parts, alike_same, alike_self, alike_turned, find_same}

-- ---- numbered rows

-- the first has that number, and so on
abbrev pub Counted : ℕ → List TopFacts → Type 0
Counted s [] = Unit {0}
Counted s (a ∷ rows) = (a.number ≡ s) × Counted (suc s) rows

pub rows_counted : (files : List ℕ) (s : ℕ) (tops : List TopRow) (least : List ℕ) → Counted s (rows_from files s tops least)
unfolding rows_from
rows_counted files s [] least = tt
rows_counted files s (t ∷ tops) [] = tt
rows_counted files s (t ∷ tops) (l ∷ least) = (refl, rows_counted files (suc s) tops least)

pub counted_from : (s : ℕ) (rows : List TopFacts) (a : TopFacts) → Counted s rows → In a rows → s ≤ a.number
counted_from s [] a c h = absurd h
counted_from s (b ∷ rows) a c (inl e) = omega (arith, c.0, ap (λ (x : TopFacts). x.number) e)
counted_from s (b ∷ rows) a c (inr r) = omega (arith, counted_from (suc s) rows a c.1 r)

pub counted_below : (s : ℕ) (rows : List TopFacts) (a : TopFacts) → Counted s rows → In a rows → a.number < s + length rows
counted_below s [] a c h = absurd h
counted_below s (b ∷ rows) a c (inl e) = omega (arith, c.0, ap (λ (x : TopFacts). x.number) e)
counted_below s (b ∷ rows) a c (inr r) = omega (arith, counted_below (suc s) rows a c.1 r)

pub same_row : (s : ℕ) (rows : List TopFacts) (a b : TopFacts) → Counted s rows → In a rows → In b rows → a.number ≡ b.number → a ≡ b
same_row s [] a b c h k e = absurd h
same_row s (x ∷ rows) a b c (inl h) (inl k) e = sym h ∙ k
same_row s (x ∷ rows) a b c (inl h) (inr k) e = absurd (omega (arith, c.0, ap (λ (x : TopFacts). x.number) h, counted_from (suc s) rows b c.1 k, e))
same_row s (x ∷ rows) a b c (inr h) (inl k) e = absurd (omega (arith, c.0, ap (λ (x : TopFacts). x.number) k, counted_from (suc s) rows a c.1 h, e))
same_row s (x ∷ rows) a b c (inr h) (inr k) e = same_row (suc s) rows a b c.1 h k e

pub numbers_counted : (s : ℕ) (rows : List TopFacts) → Counted s rows → numbers rows ≡ range_with_len s (length rows)
numbers_counted s [] c = refl
numbers_counted s (a ∷ rows) c = (λ i. c.0 i ∷ (numbers_counted (suc s) rows c.1 ∙ (let e : suc s ≡ s + 1 = omega arith in ap (λ n. range_with_len n (length rows)) e)) i)

-- the row of a number
pub row_in : (s : ℕ) (rows : List TopFacts) (i : ℕ) (d : TopFacts) → i < length rows → In (get_or rows i d) rows
row_in s [] i d l = absurd (omega arith)
row_in s (a ∷ rows) zero d l = inl refl
row_in s (a ∷ rows) (suc i) d l = inr (row_in (suc s) rows i d (omega arith))

pub row_number : (s : ℕ) (rows : List TopFacts) (i : ℕ) (d : TopFacts) → Counted s rows → i < length rows → (get_or rows i d).number ≡ s + i
row_number s [] i d c l = absurd (omega arith)
row_number s (a ∷ rows) zero d c l = omega (arith, c.0)
row_number s (a ∷ rows) (suc i) d c l = omega (arith, row_number (suc s) rows i d c.1 (omega arith))

-- ---- what is found

pub find_in : {X : Type 0} (p : X → Bool) (xs : List X) (b : X) → find p xs ≡ Some b → In b xs × (p b ≡ true)
find_in p [] b e = absurd cc
find_in {X} p (x ∷ xs) b e = by (p x) refl e (find_in p xs b)
  where
    by : (t : Bool) → p x ≡ t → cond t (Some x) (find p xs) ≡ Some b → (find p xs ≡ Some b → In b xs × (p b ≡ true)) → In b (x ∷ xs) × (p b ≡ true)
    by true t e more = let s : x ≡ b = cc in (inl s, ap p (sym s) ∙ t)
    by false t e more = let m = more e in (inr m.0, m.1)

pub find_none : {X : Type 0} (p : X → Bool) (xs : List X) (b : X) → In b xs → p b ≡ true → find p xs ≡ None → ⊥
find_none p [] b h t e = h
find_none {X} p (x ∷ xs) b h t e = by (p x) refl e h (find_none p xs b)
  where
    by : (u : Bool) → p x ≡ u → cond u (Some x) (find p xs) ≡ None → In b (x ∷ xs) → (In b xs → p b ≡ true → find p xs ≡ None → ⊥) → ⊥
    by true s e h more = absurd cc
    by false s e (inl q) more = both_ways (p x) s (ap p q ∙ t)
    by false s e (inr r) more = more r t e

-- ---- the one that stands for a row

pub record Stood (g : Given) (a : TopFacts) : Type 0 where
  pub row : TopFacts
  pub there : In row g.rows
  pub alike_is : alike g.scope a row ≡ true
  pub found : find (alike g.scope a) g.rows ≡ Some row
  pub number : rep g a ≡ row.number

pub stood : (g : Given) (a : TopFacts) → In a g.rows → a.movable ≡ true → Stood g a
stood g a is m = by (find (alike g.scope a) g.rows) refl
  where
    by : (o : Option TopFacts) → find (alike g.scope a) g.rows ≡ o → Stood g a
    by None e = absurd (find_none (alike g.scope a) g.rows a is (alike_self g.scope a m) e)
    by (Some b) e = let f = find_in (alike g.scope a) g.rows b e in
        record { row = b; there = f.0; alike_is = f.1; found = e; number = ap (λ o. option_map_or (λ (c : TopFacts). c.number) o a.number) e }

-- alike rows have one
pub rep_same : (g : Given) (a b : TopFacts) → In a g.rows → alike g.scope a b ≡ true → rep g a ≡ rep g b
rep_same g a b is e =
    let s = stood g a is (alike_parts g.scope a b e).first in
    let f : find (alike g.scope b) g.rows ≡ Some s.row = sym (find_same (alike g.scope a) (alike g.scope b) g.rows (alike_same g.scope a b e)) ∙ s.found in
    s.number ∙ sym (ap (λ o. option_map_or (λ (c : TopFacts). c.number) o b.number) f)

-- it stands for itself
pub stood_leads : (g : Given) (a : TopFacts) (is : In a g.rows) (m : a.movable ≡ true) → (s : Stood g a) → rep g s.row ≡ s.row.number
stood_leads g a is m s = sym (rep_same g a s.row is s.alike_is) ∙ s.number

-- b is one of those for which the row with that number stands
abbrev pub is_led : Given → ℕ → TopFacts → Bool
is_led g n b = b.movable && rep g b == n

pub led_is : (g : Given) (s : ℕ) → Counted s g.rows → (a b : TopFacts) → In a g.rows → In b g.rows → rep g a ≡ a.number → is_led g a.number b ≡ alike g.scope a b
led_is g s c a b here there leads = by b.movable refl
  where
    no_other : alike g.scope a b ≡ false → b.movable ≡ true → rep g b == a.number ≡ false
    no_other apart m =
        let st = stood g b there m in
        ne_eqb (rep g b) a.number (λ e. (let same : st.row ≡ a = same_row s g.rows st.row a c st.there here (sym st.number ∙ e) in both_ways (alike g.scope a b) apart
        (alike_turned g.scope b a (ap (alike g.scope b) (sym same) ∙ st.alike_is))))

    yes_led : alike g.scope a b ≡ true → rep g b == a.number ≡ true
    yes_led e = eq-eqb (rep g b) a.number (sym (rep_same g a b here e) ∙ leads)

    yes_one : (u : Bool) → b.movable ≡ true → alike g.scope a b ≡ u → rep g b == a.number ≡ alike g.scope a b
    yes_one true m e = yes_led e ∙ sym e
    yes_one false m e = no_other e m ∙ sym e

    by : (t : Bool) → b.movable ≡ t → is_led g a.number b ≡ alike g.scope a b
    by true m = ap (λ t. t && rep g b == a.number) m ∙ yes_one (alike g.scope a b) m refl
    by false m = ap (λ t. t && rep g b == a.number) m ∙ sym (false_from_ne_true (alike g.scope a b) (λ e. both_ways b.movable m (alike_parts g.scope a b e).second))

pub led_none : (g : Given) (s : ℕ) → Counted s g.rows → (a b : TopFacts) → In a g.rows → In b g.rows → (rep g a ≡ a.number → ⊥) → is_led g a.number b ≡ false
led_none g s c a b here there other = by b.movable refl
  where
    by : (t : Bool) → b.movable ≡ t → is_led g a.number b ≡ false
    by true m =
        let st = stood g b there m in
        ap (λ t. t && rep g b == a.number) m ∙ ne_eqb (rep g b) a.number
        (λ e. (let same : st.row ≡ a = same_row s g.rows st.row a c st.there here (sym st.number ∙ e) in other
        (ap (rep g) (sym same) ∙ (stood_leads g b there m st ∙ ap (λ (x : TopFacts). x.number) same))))
    by false m = ap (λ t. t && rep g b == a.number) m
