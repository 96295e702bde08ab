-- The first refusal of values, one behind the other.
use Rattle.std.proofs.Common.{◌≡◌, ◌∙◌, ℕ, ◌+◌, ◌-◌, ◌<◌, ◌≤◌, zero, suc, List, [], ◌∷◌, ◌++◌, length, take, drop, Some, Err, slice_get, refl, sym, ap, subst, arith, inl, inr}
use Rattle.std.specs.Prelude.{slice_range}
use Rattle.std.specs.List.{flat_map}
use Rattle.std.proofs.lemmas.List.{append_assoc, length-take}
use Rattle.dwz_model.specs.declared.fault.Fault.{Fault}
use Rattle.dwz_model.specs.declared.fault.GraphErr.{GraphErr}
use Rattle.dwz_model.specs.declared.fault.GraphErr.TheVariants.{NoMemory, Refused}
use Rattle.dwz_model.specs.declared.fault.Refusal.{Refusal}
use Rattle.dwz_def_reading.specs.Documents.{Attr, DwUnit, Entries, Node}
use Rattle.dwz_def_reading.specs.FirstOf.{OfFirst}
use Rattle.dwz_def_reading.specs.Trees.{End, Entry}
use Rattle.dwz_def_output.specs.Refusals.{InFile}
use Rattle.dwz_def_expand.specs.Refusals.{Site, nodes, sites_from, sites_in, sites_of, with_numbers}
use Rattle.dwz_expand_sources.specs.Index.{ListedEntry, listed}
use Rattle.dwz_expand_sources.specs.declared.sources.SourceRange.{SourceRange}
use Rattle.dwz_expand_sources.specs.Sources.{in_range}
use Rattle.dwz_expand_passes.specs.Faults.{FirstRefusalIs, entry_sites}
use Rattle.dwz_expand_passes.proofs.OperandLemmas.{cut_at, take_one, take_whole}

abbrev pub Nothing : {X : Type 0} → (X → Type 0) → Type 0
Nothing {X} Has = (x : X) → ¬ Has x

-- ---- lists

module _ {X Y : Type 0} (Has : Y → X → Type 0) where
  pub first_front : (xs ys : List Y) (x : X) → OfFirst Has xs x → OfFirst Has (xs ++ ys) x
  first_front [] ys x h = absurd h
  first_front (y ∷ xs) ys x (inl h) = inl h
  first_front (y ∷ xs) ys x (inr h) = inr (h.0, first_front xs ys x h.1)

  none_head : (y : Y) (xs : List Y) → Nothing (OfFirst Has (y ∷ xs)) → Nothing (Has y)
  none_head y xs none x h = none x (inl h)

  none_tail : (y : Y) (xs : List Y) → Nothing (OfFirst Has (y ∷ xs)) → Nothing (OfFirst Has xs)
  none_tail y xs none x h = none x (inr (none_head y xs none, h))

  pub first_later : (xs ys : List Y) (x : X) → Nothing (OfFirst Has xs) → OfFirst Has ys x → OfFirst Has (xs ++ ys) x
  first_later [] ys x none h = h
  first_later (y ∷ xs) ys x none h = inr (none_head y xs none, first_later xs ys x (none_tail y xs none) h)

  pub none_joined : (xs ys : List Y) → Nothing (OfFirst Has xs) → Nothing (OfFirst Has ys) → Nothing (OfFirst Has (xs ++ ys))
  none_joined [] ys none later x h = later x h
  none_joined (y ∷ xs) ys none later x (inl h) = none x (inl h)
  none_joined (y ∷ xs) ys none later x (inr h) = none_joined xs ys (none_tail y xs none) later x h.1

module _ (Has : Site ℕ → Refusal → Type 0) where
  pub front_answer : (xs ys : List (Site ℕ)) (e : GraphErr) → FirstRefusalIs {Y = Unit {0}} Has xs (Err e) → FirstRefusalIs {Y = Unit {0}} Has (xs ++ ys) (Err e)
  front_answer xs ys NoMemory h = tt
  front_answer xs ys (Refused r) h = first_front Has xs ys r h

  pub later_answer : (xs ys : List (Site ℕ)) (e : GraphErr) → Nothing (OfFirst Has xs) → FirstRefusalIs {Y = Unit {0}} Has ys (Err e) → FirstRefusalIs {Y = Unit {0}} Has (xs ++ ys) (Err e)
  later_answer xs ys NoMemory none h = tt
  later_answer xs ys (Refused r) none h = first_later Has xs ys r none h

-- ---- one file

module _ (Has : Site ℕ → Fault → Type 0) (number : ℕ → ℕ) (n source : ℕ) where
  abbrev In : Site ℕ → Refusal → Type 0
  In s = InFile (λ file. Has s) (number s.source)

  abbrev pub in_number : ℕ → Fault → Refusal
  in_number file f = record { file = file; section = f.section; at = f.at; reason = f.reason }

  pub in_one : (i : ℕ) (attrs : List (Attr ℕ)) (f : Fault) → OfFirst Has (sites_of n source i attrs) f → OfFirst In (sites_of n source i attrs) (in_number (number source) f)
  in_one i [] f h = absurd h
  in_one i (a ∷ attrs) f (inl h) = inl (f, h, refl)
  in_one i (a ∷ attrs) f (inr h) = inr ((λ r g. h.0 g.0 g.1), in_one (suc i) attrs f h.1)

  of_one : (i : ℕ) (attrs : List (Attr ℕ)) (r : Refusal) → OfFirst In (sites_of n source i attrs) r → (f : Fault) × OfFirst Has (sites_of n source i attrs) f
  of_one i [] r h = absurd h
  of_one i (a ∷ attrs) r (inl h) = (h.0, inl h.1)
  of_one i (a ∷ attrs) r (inr h) =
      let later = of_one (suc i) attrs r h.1 in
      (later.0, inr ((λ f g. h.0 (in_number (number source) f) (f, g, refl)), later.1))

  pub none_in_one : (i : ℕ) (attrs : List (Attr ℕ)) → Nothing (OfFirst Has (sites_of n source i attrs)) → Nothing (OfFirst In (sites_of n source i attrs))
  none_in_one i attrs none r h = (let one = of_one i attrs r h in none one.0 one.1)

-- ---- entries

pub sites_joined : (n : ℕ) (xs ys : List (ListedEntry ℕ)) → entry_sites n (xs ++ ys) ≡ entry_sites n xs ++ entry_sites n ys
sites_joined n [] ys = refl
sites_joined n (d ∷ xs) ys =
    ap (λ (w : List (Site ℕ)). sites_of n d.0.at 0 d.0.attrs ++ w) (sites_joined n xs ys) ∙ sym (append_assoc (sites_of n d.0.at 0 d.0.attrs) (entry_sites n xs) (entry_sites n ys))

nodes_joined : (n : ℕ) (xs ys : List (Node ℕ)) → sites_in n (xs ++ ys) ≡ sites_in n xs ++ sites_in n ys
unfolding sites_in
nodes_joined n [] ys = refl
nodes_joined n (d ∷ xs) ys =
    ap (λ (w : List (Site ℕ)). sites_of n d.at 0 d.attrs ++ w) (nodes_joined n xs ys) ∙ sym (append_assoc (sites_of n d.at 0 d.attrs) (sites_in n xs) (sites_in n ys))

pub sites_listed : (n : ℕ) (t : Entries ℕ) → sites_in n (nodes t) ≡ entry_sites n (listed t)
unfolding sites_in nodes listed
sites_listed n End = refl
sites_listed n (Entry e children next) =
    ap (λ (w : List (Site ℕ)). sites_of n e.at 0 e.attrs ++ w)
    (nodes_joined n (nodes children) (nodes next) ∙ (λ i. sites_listed n children i ++ sites_listed n next i) ∙ sym (sites_joined n (listed children) (listed next)))

pub unit_sites : (n : ℕ) (v : DwUnit ℕ) → sites_in n (v.root ∷ nodes v.below) ≡ entry_sites n ((v.root, v.below) ∷ listed v.below)
unfolding sites_in
unit_sites n v = ap (λ (w : List (Site ℕ)). sites_of n v.root.at 0 v.root.attrs ++ w) (sites_listed n v.below)

-- ---- parts of lists

got_drop : {X : Type 0} (xs : List X) (a e : ℕ) (x : X) → a ≤ e → slice_get xs e ≡ Some x → slice_get (drop a xs) (e - a) ≡ Some x
got_drop xs zero e x le there = (let same : e - 0 ≡ e = omega arith in ap (λ (n : ℕ). slice_get xs n) same ∙ there)
got_drop [] (suc a) e x le there = absurd cc
got_drop (y ∷ xs) (suc a) zero x le there = absurd (omega arith)
got_drop (y ∷ xs) (suc a) (suc e) x le there =
    (let same : suc e - suc a ≡ e - a = omega arith in ap (λ (n : ℕ). slice_get (drop a xs) n) same ∙ got_drop xs a e x (omega arith) there)

got_take : {X : Type 0} (xs : List X) (n k : ℕ) (x : X) → k < n → slice_get xs k ≡ Some x → slice_get (take n xs) k ≡ Some x
got_take xs zero k x lt there = absurd (omega arith)
got_take [] (suc n) k x lt there = absurd cc
got_take (y ∷ xs) (suc n) zero x lt there = there
got_take (y ∷ xs) (suc n) (suc k) x lt there = got_take xs n k x (omega arith) there

pub range_got : {X : Type 0} (xs : List X) (a b e : ℕ) (x : X) → a ≤ e → e < b → slice_get xs e ≡ Some x → slice_get (slice_range xs a b) (e - a) ≡ Some x
range_got xs a b e x le lt there = got_take (drop a xs) (b - a) (e - a) x (omega arith) (got_drop xs a e x le there)

pub range_length : {X : Type 0} (xs : List X) (a b : ℕ) → length (slice_range xs a b) ≤ b - a
range_length xs a b = omega (arith, length-take (b - a) (drop a xs))

flat_joined : {X : Type 0} (g : X → List (Site ℕ)) (xs ys : List X) → flat_map g (xs ++ ys) ≡ flat_map g xs ++ flat_map g ys
flat_joined g [] ys = refl
flat_joined g (x ∷ xs) ys = ap (λ (w : List (Site ℕ)). g x ++ w) (flat_joined g xs ys) ∙ sym (append_assoc (g x) (flat_map g xs) (flat_map g ys))

module _ {X : Type 0} (Has : Site ℕ → Refusal → Type 0) (g : X → List (Site ℕ)) where
  -- none of those before it, and it is one
  pub flat_err : (xs : List X) (k : ℕ) (x : X) (r : Refusal) → slice_get xs k ≡ Some x → Nothing (OfFirst Has (flat_map g (take k xs))) → OfFirst Has (g x) r → OfFirst Has (flat_map g xs) r
  flat_err xs k x r there none h =
      let parts : flat_map g xs ≡ flat_map g (take k xs) ++ (g x ++ flat_map g (drop (k + 1) xs)) = ap (flat_map g) (cut_at xs k x there) ∙ flat_joined g (take k xs) (x ∷ drop (k + 1) xs) in
      subst (λ (w : List (Site ℕ)). OfFirst Has w r) (sym parts)
      (first_later Has (flat_map g (take k xs)) (g x ++ flat_map g (drop (k + 1) xs)) r none (first_front Has (g x) (flat_map g (drop (k + 1) xs)) r h))

  pub flat_answer : (xs : List X) (k : ℕ) (x : X) (e : GraphErr) → slice_get xs k ≡ Some x → Nothing (OfFirst Has (flat_map g (take k xs))) → FirstRefusalIs {Y = Unit {0}} Has (g x) (Err e)
      → FirstRefusalIs {Y = Unit {0}} Has (flat_map g xs) (Err e)
  flat_answer xs k x NoMemory there none h = tt
  flat_answer xs k x (Refused r) there none h = flat_err xs k x r there none h

  -- nor is it one
  pub flat_step : (xs : List X) (k : ℕ) (x : X) → slice_get xs k ≡ Some x → Nothing (OfFirst Has (flat_map g (take k xs))) → Nothing (OfFirst Has (g x))
      → Nothing (OfFirst Has (flat_map g (take (k + 1) xs)))
  flat_step xs k x there none h =
      let parts : flat_map g (take (k + 1) xs) ≡ flat_map g (take k xs) ++ (g x ++ []) = ap (flat_map g) (take_one xs k x there) ∙ flat_joined g (take k xs) (x ∷ []) in
      subst (λ (w : List (Site ℕ)). Nothing (OfFirst Has w)) (sym parts)
      (none_joined Has (flat_map g (take k xs)) (g x ++ []) none (none_joined Has (g x) [] h (λ r l. l)))

  pub flat_none : (xs : List X) (k : ℕ) → k ≡ 0 → Nothing (OfFirst Has (flat_map g (take k xs)))
  flat_none xs k zero_is = subst (λ (n : ℕ). Nothing (OfFirst Has (flat_map g (take n xs)))) (sym zero_is) (λ r h. h)

  pub flat_all : (xs : List X) (k : ℕ) → length xs ≤ k → Nothing (OfFirst Has (flat_map g (take k xs))) → Nothing (OfFirst Has (flat_map g xs))
  flat_all xs k le none = subst (λ (w : List X). Nothing (OfFirst Has (flat_map g w))) (take_whole xs k le) none

-- ---- as they are numbered

-- entries of ranges
pub ranges_sites : (n : ℕ) (all : List (ListedEntry ℕ)) (rs : List SourceRange) → entry_sites n (flat_map (in_range all) rs) ≡ flat_map (λ (r : SourceRange). entry_sites n (in_range all r)) rs
ranges_sites n all [] = refl
ranges_sites n all (r ∷ rs) =
    sites_joined n (in_range all r) (flat_map (in_range all) rs) ∙ ap (λ (w : List (Site ℕ)). entry_sites n (in_range all r) ++ w) (ranges_sites n all rs)

-- values of units
abbrev pub numbered_sites : ℕ × DwUnit ℕ → List (Site ℕ)
numbered_sites p = sites_in p.0 (p.1.root ∷ nodes p.1.below)

pub numbered : (k : ℕ) (us : List (DwUnit ℕ)) → sites_from k us ≡ flat_map numbered_sites (with_numbers k us)
unfolding sites_from with_numbers
numbered k [] = refl
numbered k (u ∷ us) = ap (λ (w : List (Site ℕ)). sites_in k (u.root ∷ nodes u.below) ++ w) (numbered (suc k) us)

pub number_got : (k n : ℕ) (us : List (DwUnit ℕ)) (u : DwUnit ℕ) → slice_get us n ≡ Some u → slice_get (with_numbers k us) n ≡ Some (k + n, u)
unfolding with_numbers
number_got k n [] u there = absurd cc
number_got k zero (v ∷ us) u there = (let same : v ≡ u = cc in let e : k ≡ k + 0 = omega arith in λ i. Some (e i, same i))
number_got k (suc n) (v ∷ us) u there = (let e : suc k + n ≡ k + suc n = omega arith in number_got (suc k) n us u there ∙ ap (λ (m : ℕ). Some (m, u)) e)

pub numbers_length : (k : ℕ) (us : List (DwUnit ℕ)) → length (with_numbers k us) ≡ length us
unfolding with_numbers
numbers_length k [] = refl
numbers_length k (u ∷ us) = ap suc (numbers_length (suc k) us)
