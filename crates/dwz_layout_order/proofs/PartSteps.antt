-- The partial units of a file by their numbers, one by one.
use Rattle.std.proofs.Common.{◌≡◌, ℕ, zero, suc, ◌+◌, ◌<◌, ◌≤◌, ◌==◌, cond, Bool, true, false, All, List, [], ◌∷◌, ◌++◌, Some, length, map, filter, take, get_or, slice_get, refl, sym, ap, subst, ◌∙◌}
use Rattle.std.proofs.Common.{arith, eqb-true}
use Rattle.std.specs.Prelude.{slice_index_or}
use Rattle.std.specs.List.{range_with_len}
use Rattle.std.proofs.lemmas.List.{take_all, take_more}
use Rattle.std.proofs.lemmas.Option.{get_or_from_slice_get}
use Rattle.dwz_def_reading.proofs.ListFacts.{got_below, same_got}
use Rattle.dwz_groups.specs.declared.groups.Edge.{Edge}
use Rattle.dwz_groups.specs.Groups.{grouped, values_at}
use Rattle.dwz_def_reading.specs.Meanings.{IfSo}
use Rattle.dwz_layout.specs.declared.order.UnitItems.{UnitItems}
use Rattle.dwz_plan.specs.declared.plan.Partial.{Partial}
use Rattle.dwz_layout_order.specs.Orders.{First}
use Rattle.dwz_layout_order.specs.Parts.{file_pair, file_pairs}
use Rattle.dwz_layout_order.specs.declared.orders.Settled.{Settled}
use Rattle.dwz_layout_order.specs.Ordered.{AreSettled, PartPut, PartsPut}
use Rattle.dwz_layout_order.specs.Steps.{HoldsSpaced, NumberPut, NumbersPut}

-- ---- what is written of them

put_append : (s : Settled) (numbers : List ℕ) (order : List UnitItems) (n : ℕ) (o : UnitItems) → NumbersPut s numbers order → NumberPut s n o → NumbersPut s (numbers ++ n ∷ []) (order ++ o ∷ [])
put_append s [] [] n o h p = (p, tt)
put_append s [] (x ∷ order) n o h p = absurd h
put_append s (m ∷ numbers) [] n o h p = absurd h
put_append s (m ∷ numbers) (x ∷ order) n o h p = (h.0, put_append s numbers order n o h.1 p)

pub put_more : (s : Settled) (numbers : List ℕ) (i n : ℕ) (part : Partial) (now new : List UnitItems) (o : UnitItems) → i < length numbers → n ≡ get_or numbers i 0
    → slice_get s.plan.now.partials n ≡ Some part → PartPut s n part o
    → NumbersPut s (take i numbers) now → new ≡ now ++ o ∷ [] → NumbersPut s (take (i + 1) numbers) new
put_more s numbers i n part now new o lt is there put h e =
    let taken : take (i + 1) numbers ≡ take i numbers ++ n ∷ [] = take_more numbers i 0 lt ∙ ap (λ (k : ℕ). take i numbers ++ k ∷ []) (sym is) in
    subst (λ (w : List ℕ). NumbersPut s w new) (sym taken)
    (subst (NumbersPut s (take i numbers ++ n ∷ [])) (sym e) (put_append s (take i numbers) now n o h (record { part = part; there = there; put = put })))

pub put_all : (s : Settled) (numbers : List ℕ) (i : ℕ) (order : List UnitItems) → length numbers ≤ i → NumbersPut s (take i numbers) order → NumbersPut s numbers order
put_all s numbers i order le h = subst (λ (w : List ℕ). NumbersPut s w order) (take_all i numbers le) h

-- ---- by their files

values_step : (n : ℕ) (part : Partial) (parts : List Partial) (file : ℕ) → values_at (file_pairs n (part ∷ parts)) file ≡ cond (part.file == file) (n ∷ values_at (file_pairs (suc n) parts) file)
    (values_at (file_pairs (suc n) parts) file)
unfolding values_at file_pairs
values_step n part parts file = by (part.file == file) where
  by : (b : Bool) → map (λ (p : Edge). p.value) (cond b (file_pair n part ∷ filter (λ (p : Edge). p.key == file) (file_pairs (suc n) parts))
      (filter (λ (p : Edge). p.key == file) (file_pairs (suc n) parts)))
      ≡ cond b (n ∷ map (λ (p : Edge). p.value) (filter (λ (p : Edge). p.key == file) (file_pairs (suc n) parts)))
      (map (λ (p : Edge). p.value) (filter (λ (p : Edge). p.key == file) (file_pairs (suc n) parts)))
  by true = refl
  by false = refl

values_none : (n file : ℕ) → values_at (file_pairs n []) file ≡ []
unfolding values_at file_pairs
values_none n file = refl

-- the partial units from that number on
abbrev From : Settled → ℕ → List Partial → Type 0
From s n parts = (k : ℕ) (part : Partial) → slice_get parts k ≡ Some part → slice_get s.plan.now.partials (n + k) ≡ Some part

none_put : (s : Settled) (order : List UnitItems) → NumbersPut s [] order → order ≡ []
none_put s [] h = refl
none_put s (o ∷ order) h = absurd h

from_numbers : (s : Settled) (file n : ℕ) (parts : List Partial) (order : List UnitItems) → From s n parts → NumbersPut s (values_at (file_pairs n parts) file) order → PartsPut s file n parts order
from_numbers s file n [] order from h = none_put s order (subst (λ (w : List ℕ). NumbersPut s w order) (values_none n file) h)
from_numbers s file n (part ∷ parts) order from h =
    by (part.file == file) order (subst (λ (w : List ℕ). NumbersPut s w order) (values_step n part parts file) h) (λ more. from_numbers s file (suc n) parts more later)
  where
    there : slice_get s.plan.now.partials n ≡ Some part
    there = (let z : n ≡ n + 0 = omega arith in ap (slice_get s.plan.now.partials) z ∙ from 0 part refl)

    later : From s (suc n) parts
    later = λ k x e. (let z : suc n + k ≡ n + suc k = omega arith in ap (slice_get s.plan.now.partials) z ∙ from (suc k) x e)

    by : (b : Bool) (order : List UnitItems) → NumbersPut s (cond b (n ∷ values_at (file_pairs (suc n) parts) file) (values_at (file_pairs (suc n) parts) file)) order
        → ((more : List UnitItems) → NumbersPut s (values_at (file_pairs (suc n) parts) file) more → PartsPut s file (suc n) parts more)
        → IfSo b (First (PartPut s n part) (PartsPut s file (suc n) parts) order) (PartsPut s file (suc n) parts order)
    by true [] h rest = absurd h
    by true (o ∷ order) h rest =
        let same : h.0.part ≡ part = (let both = sym h.0.there ∙ there in cc) in
        (subst (λ (w : Partial). PartPut s n w o) same h.0.put, rest order h.1)
    by false order h rest = rest order h

pub parts_put : (s : Settled) (file : ℕ) (numbers : List ℕ) (order : List UnitItems) → numbers ≡ values_at (file_pairs 0 s.plan.now.partials) file → NumbersPut s numbers order
    → PartsPut s file 0 s.plan.now.partials order
parts_put s file numbers order e h =
    from_numbers s file 0 s.plan.now.partials order (λ k part got. (let z : 0 + k ≡ k = omega arith in ap (slice_get s.plan.now.partials) z ∙ got)) (subst (λ (w : List ℕ). NumbersPut s w order) e h)

-- ---- the numbers

abbrev pub Below : ℕ → List ℕ → Type 0
Below count numbers = (k d : ℕ) → k < length numbers → get_or numbers k d < count

below_cond : (b : Bool) (count n : ℕ) (ns : List ℕ) → n < count → Below count ns → Below count (cond b (n ∷ ns) ns)
below_cond true count n ns lt h zero d less = lt
below_cond true count n ns lt h (suc k) d less = h k d (omega arith)
below_cond false count n ns lt h k d less = h k d less

values_low : (n count file : ℕ) (parts : List Partial) → n + length parts ≤ count → Below count (values_at (file_pairs n parts) file)
values_low n count file [] le = subst (Below count) (sym (values_none n file)) (λ k d less. absurd (omega arith))
values_low n count file (part ∷ parts) le =
    subst (Below count) (sym (values_step n part parts file))
    (below_cond (part.file == file) count n (values_at (file_pairs (suc n) parts) file) (omega arith) (values_low (suc n) count file parts (omega arith)))

pub numbers_low : (s : Settled) (file : ℕ) (numbers : List ℕ) → numbers ≡ values_at (file_pairs 0 s.plan.now.partials) file → All (λ n. n < length s.plan.now.partials) numbers
numbers_low s file numbers e = subst (Below (length s.plan.now.partials)) (sym e) (values_low 0 (length s.plan.now.partials) file s.plan.now.partials (omega arith))

-- each is of that file
of_cond : (Q : ℕ → Type 0) (b : Bool) (n : ℕ) (ns : List ℕ) → (b ≡ true → Q n) → All Q ns → All Q (cond b (n ∷ ns) ns)
of_cond Q true n ns first h zero d lt = first refl
of_cond Q true n ns first h (suc k) d lt = h k d (omega arith)
of_cond Q false n ns first h k d lt = h k d lt

of_file : (s : Settled) (Q : ℕ → Type 0) (file n : ℕ) (parts : List Partial) → From s n parts
    → ((k : ℕ) (part : Partial) → slice_get s.plan.now.partials k ≡ Some part → part.file ≡ file → Q k) → All Q (values_at (file_pairs n parts) file)
of_file s Q file n [] from h = subst (λ (w : List ℕ). All Q w) (sym (values_none n file)) (λ k d lt. absurd (omega arith))
of_file s Q file n (part ∷ parts) from h =
    subst (λ (w : List ℕ). All Q w) (sym (values_step n part parts file))
    (of_cond Q (part.file == file) n (values_at (file_pairs (suc n) parts) file) (λ e. h n part there (eqb-true part.file file e)) (of_file s Q file (suc n) parts later h))
  where
    there : slice_get s.plan.now.partials n ≡ Some part
    there = (let z : n ≡ n + 0 = omega arith in ap (slice_get s.plan.now.partials) z ∙ from 0 part refl)

    later : From s (suc n) parts
    later = λ k x e. (let z : suc n + k ≡ n + suc k = omega arith in ap (slice_get s.plan.now.partials) z ∙ from (suc k) x e)

-- so they hold tops whose spaces are known
pub hold_spaced : (count : ℕ) (s : Settled) (file : ℕ) (numbers : List ℕ) → AreSettled count s → file < count → numbers ≡ values_at (file_pairs 0 s.plan.now.partials) file
    → All (λ n. HoldsSpaced s n) numbers
hold_spaced count s file numbers h lt e =
    subst (λ (w : List ℕ). All (λ n. HoldsSpaced s n) w) (sym e)
    (of_file s (λ n. HoldsSpaced s n) file 0 s.plan.now.partials (λ k part got. (let z : 0 + k ≡ k = omega arith in ap (slice_get s.plan.now.partials) z ∙ got))
    (λ k part got same other there. (
    let is : other ≡ part = same_got s.plan.now.partials k other part there got in
    let at : get_or s.plan.now.partials k part ≡ other = get_or_from_slice_get s.plan.now.partials k other part there in
    subst (λ (w : Partial). All (λ t. t < length s.of_tops.now) w.tops) at
    (h.inside k part (got_below s.plan.now.partials k part got) (let low = ap (λ (w : Partial). w.file) (at ∙ is) in omega arith)))))

pub settled_below : (count less : ℕ) (s : Settled) → less ≤ count → AreSettled count s → AreSettled less s
settled_below count less s le h = record { spaced = h.spaced; inside = λ k d lt low. h.inside k d lt (omega arith) }

map_range : {X : Type 0} (f : ℕ → X) (s n k : ℕ) (d : X) → k < n → get_or (map f (range_with_len s n)) k d ≡ f (s + k)
map_range f s zero k d lt = absurd (omega arith)
map_range f s (suc n) zero d lt = (let z : s ≡ s + 0 = omega arith in ap f z)
map_range f s (suc n) (suc k) d lt = map_range f (s + 1) n k d (omega arith) ∙ (let z : s + 1 + k ≡ s + suc k = omega arith in ap f z)

range_long : {X : Type 0} (f : ℕ → X) (s n : ℕ) → length (map f (range_with_len s n)) ≡ n
range_long f s zero = refl
range_long f s (suc n) = ap suc (range_long f (s + 1) n)

-- the list under each key
pub grouped_at : (count key : ℕ) (pairs : List Edge) (groups : List (List ℕ)) → groups ≡ grouped count pairs → key < count
    → (key < length groups) × (slice_index_or groups key [] ≡ values_at pairs key)
unfolding grouped
grouped_at count key pairs groups e lt =
    let long : length groups ≡ count = ap (λ (w : List (List ℕ)). length w) e ∙ range_long (values_at pairs) 0 count in
    (omega arith, ap (λ (w : List (List ℕ)). get_or w key []) e ∙ map_range (values_at pairs) 0 count key [] lt ∙ (let z : 0 + key ≡ key = omega arith in ap (values_at pairs) z))

-- each is of one of so many files
pub files_low : (m n : ℕ) (xs ys : List Partial) → ys ≡ xs → n ≡ m → ((k : ℕ) (d : Partial) → k < length xs → (get_or xs k d).file ≤ n) → (k : ℕ) (d : Partial) → k < length ys
    → (get_or ys k d).file ≤ m
files_low m n xs ys e f h =
    subst (λ (w : List Partial). (k : ℕ) (d : Partial) → k < length w → (get_or w k d).file ≤ m) (sym e)
    (subst (λ (w : ℕ). (k : ℕ) (d : Partial) → k < length xs → (get_or xs k d).file ≤ w) f h)

-- the numbers of a file, where they are grouped
pub numbers_of : (s : Settled) (files file : ℕ) (parts : List Partial) (groups : List (List ℕ)) → parts ≡ s.plan.now.partials → groups ≡ grouped (files + 1) (file_pairs 0 parts) → file ≤ files
    → (file < length groups) × (slice_index_or groups file [] ≡ values_at (file_pairs 0 s.plan.now.partials) file)
numbers_of s files file parts groups e g le = grouped_at (files + 1) file (file_pairs 0 s.plan.now.partials) groups (g ∙ ap (λ (w : List Partial). grouped (files + 1) (file_pairs 0 w)) e)
    (omega arith)
