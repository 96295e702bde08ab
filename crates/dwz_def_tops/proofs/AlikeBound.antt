-- A chain of references that binds a top needs no more steps than there are tops; and references of movable tops go to movable tops.
use Rattle.std.proofs.Common.{◌≡◌, ◌⊎◌, ℕ, zero, suc, ◌+◌, ◌-◌, ◌≤◌, Bool, true, false, List, length, Option, Some, None, Decides, ◌==◌, refl, sym, ap, subst, ◌∙◌, inl, inr, ⊎_elim, arith}
use Rattle.std.proofs.lemmas.Bool.{cases_Bool, eq-eqb, eqb-true, false≢true, not_from_false, or_left, or_right}
use Rattle.std.proofs.lemmas.Bool.Decides.{Decides-like, Decides-not}
use Rattle.std.specs.List.{list_any}
use Rattle.dwz_def_reading.specs.Documents.{Attr, Entries, Node}
use Rattle.dwz_def_reading.specs.Lists.{In}
use Rattle.dwz_def_reading.specs.Rows.{has}
use Rattle.dwz_def_reading.specs.Trees.{End, Entry}
use Rattle.dwz_def_tops.specs.Alike.{Bound, Movable, any_attr, any_entry, any_in, attr_binds, binding_forms, binds_itself, entry_binds, holds_place, is_in, is_named, is_number, leaves, refers_to}
use Rattle.dwz_def_tops.specs.Alike.{unit_in}
use Rattle.dwz_def_tops.specs.Deciding.{bound_test, is_movable}
use Rattle.dwz_def_tops.specs.Spots.{EntryName, FileUnit, Import, InChain, InType, PartialOf, PartialRoot, RootOf, SpaceAt, Top, UnitOf, Within, tops_of}
use Rattle.dwz_def_reading.proofs.Members.{any_true, each_of}
use Rattle.dwz_def_tops.proofs.AlikeCounts.{any_of, passing, passing_most, passing_same, settles}
use Rattle.dwz_def_tops.proofs.AlikeLooks.{AreClosed}
use Rattle.dwz_def_tops.proofs.AlikeTests.{Decides-both}
use Rattle.dwz_def_tops.proofs.AlikeTops.{AttrsIn, EntriesIn, RefsIn, TargetIn, TopIn}
use Rattle.dwz_def_tops.proofs.TopNumbers.{one_top, tops_numbers, unit_found}

-- one test, or else another
pub Decides-either : {P Q : Type 0} (a b : Bool) → Decides a P → Decides b Q → Decides (elim a as (λ _. Bool) [ true ↦ true | false ↦ b ]) (P ⊎ Q)
Decides-either true b f g = (λ e. inl (f.0 refl), λ p. refl)
Decides-either false b f g = (λ e. inr (g.0 e), λ p. ⊎_elim (λ h. absurd (false≢true (f.1 h))) g.1 p)

pub any_decides : {X : Type 0} (test : X → Bool) (P : X → Type 0) (xs : List X) → ((x : X) → In x xs → Decides (test x) (P x)) → Decides (list_any test xs) ((x : X) × In x xs × P x)
any_decides test P xs each = (
  λ e. (let r = any_of test xs e in (r.0, r.1, (each r.0 r.1).0 r.2)),
  λ r. any_true test r.0 xs r.1 ((each r.0 r.1).1 r.2),
)

-- what is bound is a top
bound_top : (units : List (FileUnit EntryName)) (k n : ℕ) → Bound units k n → (t : Top) × In t (tops_of units) × (t.number ≡ n)
unfolding Bound
bound_top units zero n b = (b.0, b.1, b.2)
bound_top units (suc k) n (inl b) = bound_top units k n b
bound_top units (suc k) n (inr b) = (b.0, b.2, b.3)

-- ---- the test of chains of each length

abbrev binds_by : List (FileUnit EntryName) → ℕ → Top → Top → Bool
binds_by units k t u = elim (refers_to u.number t) as (λ _. Bool) [ true ↦ bound_test units k u | false ↦ false ]

abbrev Binds : List (FileUnit EntryName) → ℕ → Top → Top → Type 0
Binds units k t u = (refers_to u.number t ≡ true) × Bound units k u.number

-- a reference into a top that is bound
abbrev BoundBy : List (FileUnit EntryName) → ℕ → ℕ → Type 0
BoundBy units k n = (t : Top) × (m : ℕ) × In t (tops_of units) × (t.number ≡ n) × (refers_to m t ≡ true) × Bound units k m

bound_by : (units : List (FileUnit EntryName)) (k : ℕ) (t : Top) → In t (tops_of units) → (u : Top) × In u (tops_of units) × Binds units k t u → BoundBy units k t.number
bound_by units k t i r = (t, r.0.number, i, refl, r.2.0, r.2.1)

by_bound : (units : List (FileUnit EntryName)) (k : ℕ) (t : Top) → In t (tops_of units) → BoundBy units k t.number → (u : Top) × In u (tops_of units) × Binds units k t u
by_bound units k t i (s, m, j, e, r, b) =
    let same : s ≡ t = one_top 0 (tops_of units) s t (tops_numbers units) j i e in
    let u = bound_top units k m b in
    (u.0, u.1, (subst (λ (n : ℕ). refers_to n t ≡ true) (sym u.2) (subst (λ (x : Top). refers_to m x ≡ true) same r), subst (λ (n : ℕ). Bound units k n) (sym u.2) b))

bound_tells : (units : List (FileUnit EntryName)) (k : ℕ) (t : Top) → In t (tops_of units) → Decides (bound_test units k t) (Bound units k t.number)
unfolding bound_test Bound
bound_tells units zero t i = (
  λ e. (t, i, refl, e),
  λ b. (let same : b.0 ≡ t = one_top 0 (tops_of units) b.0 t (tops_numbers units) b.1 i b.2 in subst (λ (x : Top). binds_itself units x ≡ true) same b.3),
)
bound_tells units (suc k) t i =
    Decides-either (bound_test units k t) (list_any (binds_by units k t) (tops_of units)) (bound_tells units k t i)
    (Decides-like _ (bound_by units k t i) (by_bound units k t i)
    (any_decides (binds_by units k t) (Binds units k t) (tops_of units) (λ u j. Decides-both (refers_to u.number t) (bound_test units k u) (λ e. e, λ e. e) (bound_tells units k u j))))

-- ---- longer chains

bound_up : (units : List (FileUnit EntryName)) (n k m : ℕ) → Bound units k m → Bound units (n + k) m
unfolding Bound
bound_up units zero k m b = let e : k ≡ zero + k = omega arith in subst (λ (i : ℕ). Bound units i m) e b
bound_up units (suc n) k m b =
    let e : suc (n + k) ≡ suc n + k = omega arith in
    let up : Bound units (suc (n + k)) m = inl (bound_up units n k m b) in
    subst (λ (i : ℕ). Bound units i m) e up

abbrev Rests : List (FileUnit EntryName) → ℕ → Type 0
Rests units j = (m : ℕ) → Bound units (suc j) m → Bound units j m

bound_back : (units : List (FileUnit EntryName)) (j : ℕ) → Rests units j → (n m : ℕ) → Bound units (n + j) m → Bound units j m
unfolding Bound
bound_back units j rests zero m b = let e : zero + j ≡ j = omega arith in subst (λ (i : ℕ). Bound units i m) e b
bound_back units j rests (suc n) m b =
    let e : suc n + j ≡ suc (n + j) = omega arith in
    let cases : Bound units (suc (n + j)) m = subst (λ (i : ℕ). Bound units i m) e b in
    ⊎_elim (λ h. bound_back units j rests n m h) (λ (h : BoundBy units (n + j) m). rests m (inr (h.0, h.1, h.2, h.3, h.4, bound_back units j rests n h.1 h.5))) cases

-- chains of some length bind all that longer ones bind
bound_rests : (units : List (FileUnit EntryName)) → (j : ℕ) × (j ≤ length (tops_of units)) × Rests units j
unfolding Bound
bound_rests units =
    let tops = tops_of units in
    let r = settles (λ k. passing (bound_test units k) tops) (length tops) (λ k. passing_most (bound_test units k) tops) in
    let j = r.0 in
    let wider = λ (t : Top) (i : In t tops) (e : bound_test units j t ≡ true). (bound_tells units (suc j) t i).1 (inl ((bound_tells units j t i).0 e)) in
    let same = passing_same (bound_test units j) (bound_test units (suc j)) tops wider r.2 in (
      j,
      r.1,
      λ m b. (
          let x = bound_top units (suc j) m b in
          let here : Bound units (suc j) x.0.number = subst (λ (n : ℕ). Bound units (suc j) n) (sym x.2) b in
          subst (λ (n : ℕ). Bound units j n) x.2 ((bound_tells units j x.0 x.1).0 (same x.0 x.1 ((bound_tells units (suc j) x.0 x.1).1 here)))),
    )

-- a chain as long as there are tops decides
bound_most : (units : List (FileUnit EntryName)) (k m : ℕ) → Bound units k m → Bound units (length (tops_of units)) m
bound_most units k m b =
    let r = bound_rests units in
    let j = r.0 in
    let n = length (tops_of units) in
    let low : j ≤ n = r.1 in
    let turned : j + k ≡ k + j = omega arith in
    let back : Bound units j m = bound_back units j r.2 k m (subst (λ (i : ℕ). Bound units i m) turned (bound_up units j k m b)) in
    let most : (n - j) + j ≡ n = omega arith in
    subst (λ (i : ℕ). Bound units i m) most (bound_up units (n - j) j m back)

pub bound_decides : (units : List (FileUnit EntryName)) (t : Top) → In t (tops_of units) → Decides (bound_test units (length (tops_of units)) t) ((k : ℕ) × Bound units k t.number)
bound_decides units t i = Decides-like _ (λ b. (length (tops_of units), b)) (λ r. bound_most units r.0 t.number r.1) (bound_tells units (length (tops_of units)) t i)

pub movable_decides : (units : List (FileUnit EntryName)) (t : Top) → In t (tops_of units) → Decides (is_movable units t) (Movable units t.number)
movable_decides units t i = Decides-like _
    (λ f. record { top = t; is_top = i; number = refl; free = λ k b. f (k, b) })
    (λ m r. m.free r.0 r.1)
    (Decides-not _ (bound_decides units t i))

-- ---- what stands in a top's tree

abbrev InEntries : Node EntryName → Entries EntryName → Type 0
InEntries e End = ⊥
InEntries e (Entry d f g) = (d ≡ e) ⊎ (InEntries e f ⊎ InEntries e g)

abbrev InTop : Node EntryName → Top → Type 0
InTop e t = (t.node ≡ e) ⊎ InEntries e t.below

entries_any : (test : Node EntryName → Bool) (f : Entries EntryName) (e : Node EntryName) → InEntries e f → test e ≡ true → any_entry test f ≡ true
unfolding any_entry
entries_any test End e i h = absurd i
entries_any test (Entry d f g) e (inl same) h = or_left (test d) _ (ap test same ∙ h)
entries_any test (Entry d f g) e (inr (inl i)) h = or_right (test d) _ (or_left (any_entry test f) (any_entry test g) (entries_any test f e i h))
entries_any test (Entry d f g) e (inr (inr i)) h = or_right (test d) _ (or_right (any_entry test f) (any_entry test g) (entries_any test g e i h))

top_any : (test : Node EntryName → Bool) (t : Top) (e : Node EntryName) → InTop e t → test e ≡ true → any_in test t ≡ true
top_any test t e (inl same) h = or_left (test t.node) _ (ap test same ∙ h)
top_any test t e (inr i) h = or_right (test t.node) _ (entries_any test t.below e i h)

-- a reference of an attribute of an entry in the tree
abbrev InTree : EntryName → Node EntryName → Attr EntryName → Top → Type 0
InTree s e a t = InTop e t × In a e.attrs × In s a.value.refs

entries_in : (Q : ℕ → Type 0) (f : Entries EntryName) → ((e : Node EntryName) → InEntries e f → AttrsIn Q e.attrs) → EntriesIn Q f
entries_in Q End h = tt
entries_in Q (Entry e f g) h = (h e (inl refl), entries_in Q f (λ d i. h d (inr (inl i))), entries_in Q g (λ d i. h d (inr (inr i))))

pub top_in_from : (Q : ℕ → Type 0) (t : Top) → ((s : EntryName) (e : Node EntryName) (a : Attr EntryName) → InTree s e a t → TargetIn Q s) → TopIn Q t
top_in_from Q t h =
    let attrs = λ (e : Node EntryName) (i : InTop e t). each_of (λ a. RefsIn Q a.value.refs) e.attrs (λ a j. each_of (TargetIn Q) a.value.refs (λ s l. h s e a (i, j, l))) in
    (attrs t.node (inl refl), entries_in Q t.below (λ e i. attrs e (inr i)))

-- ---- references of movable tops

refers_here : (n : ℕ) (s : EntryName) (e : Node EntryName) (a : Attr EntryName) (t : Top) → InTree s e a t → is_in n s ≡ true → refers_to n t ≡ true
refers_here n s e a t (i, j, l) h =
    let test = λ (b : Attr EntryName). list_any (is_in n) b.value.refs in
    top_any (any_attr test) t e i (any_true test a e.attrs j (any_true (is_in n) s a.value.refs l h))

binds_here : (units : List (FileUnit EntryName)) (s : EntryName) (e : Node EntryName) (a : Attr EntryName) (t : Top) → InTree s e a t → leaves (tops_of units) t.unit s ≡ true
    → binds_itself units t ≡ true
binds_here units s e a t (i, j, l) h =
    let tops = tops_of units in
    let leaving = any_true (leaves tops t.unit) s a.value.refs l h in
    let attr : attr_binds tops t.unit a ≡ true = or_right (has a.form binding_forms) _ (or_right (holds_place a.value) _ leaving) in
    or_left _ (is_named units t.number) (top_any (entry_binds tops t.unit) t e i (or_right (e.tag == 0x3d) _ (any_true (attr_binds tops t.unit) a e.attrs j attr)))

number_is : (o : Option ℕ) (n : ℕ) → is_number o n ≡ true → o ≡ Some n
number_is None n e = absurd (false≢true e)
number_is (Some m) n e = ap (λ (i : ℕ). Some i) (eqb-true m n e)

-- a target that doesn't leave the unit is a top
stays : (tops : List Top) (unit n : ℕ) (path : List ℕ) → (leaves tops unit (Within n path) ≡ true → ⊥) → (u : Top) × In u tops × (u.number ≡ n)
stays tops unit n path h = ⊎_elim
    (λ (e : is_number (unit_in tops n) unit ≡ true). let r = unit_found tops n unit (number_is (unit_in tops n) unit e) in (r.0, r.1, r.2))
    (λ (e : is_number (unit_in tops n) unit ≡ false). absurd (h (not_from_false (is_number (unit_in tops n) unit) e)))
    (cases_Bool (is_number (unit_in tops n) unit))

pub free_top : (units : List (FileUnit EntryName)) (t : Top) → In t (tops_of units) → Movable units t.number → binds_itself units t ≡ true → ⊥
unfolding Bound
free_top units t i m e = m.free 0 (t, i, refl, e)

free_target : (units : List (FileUnit EntryName)) (t : Top) (n : ℕ) → In t (tops_of units) → Movable units t.number → refers_to n t ≡ true → (k : ℕ) → Bound units k n → ⊥
unfolding Bound
free_target units t n i m e k b = m.free (suc k) (inr (t, n, i, refl, e, b))

movable_target : (units : List (FileUnit EntryName)) (t : Top) → In t (tops_of units) → Movable units t.number → (s : EntryName) (e : Node EntryName) (a : Attr EntryName) → InTree s e a t
    → TargetIn (Movable units) s
movable_target units t i m (Within n path) e a h =
    let u = stays (tops_of units) t.unit n path (λ l. free_top units t i m (binds_here units (Within n path) e a t h l)) in
    record { top = u.0; is_top = u.1; number = u.2; free = free_target units t n i m (refers_here n (Within n path) e a t h (eq-eqb n n refl)) }
movable_target units t i m (UnitOf n) e a h = tt
movable_target units t i m (RootOf n) e a h = tt
movable_target units t i m (SpaceAt n path) e a h = tt
movable_target units t i m (InType n path) e a h = tt
movable_target units t i m (InChain n j d) e a h = tt
movable_target units t i m (PartialOf n) e a h = tt
movable_target units t i m (PartialRoot n) e a h = tt
movable_target units t i m (Import n p) e a h = tt

target_more : (P Q : ℕ → Type 0) → ((n : ℕ) → P n → Q n) → (s : EntryName) → TargetIn P s → TargetIn Q s
target_more P Q f (Within n path) h = f n h
target_more P Q f _ h = tt

-- the numbers of movable tops, said in any way, are closed
pub movable_closed : (units : List (FileUnit EntryName)) (Q : ℕ → Type 0) → ((n : ℕ) → Movable units n → Q n) → ((n : ℕ) → Q n → Movable units n) → AreClosed (tops_of units) Q
movable_closed units Q to from = record {
  there = λ n q. (let m = from n q in (m.top, m.is_top, m.number));
  inside = λ t i q. top_in_from Q t (λ s e a h. target_more (Movable units) Q to s (movable_target units t i (from t.number q) s e a h));
}
