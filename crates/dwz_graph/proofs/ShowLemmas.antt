-- The ways up that are kept show the names of entries, list by list.
use Rattle.std.proofs.Common.{◌≡◌, ℕ, suc, ◌+◌, ◌<◌, true, false, List, [], ◌∷◌, ◌++◌, length, drop, map, Option, Some, None, slice_get, refl, sym, ap, subst, ◌∙◌, arith}
use Rattle.std.proofs.lemmas.List.{append_assoc, drop_at, length-append, map-append}
use Rattle.std.specs.Option.{is_some}
use Rattle.dwz_def_reading.specs.Trees.{End, Entry, size}
use Rattle.dwz_def_reading.proofs.ListFacts.{drop_first}
use Rattle.dwz_def_reading.specs.Documents.{Compile, DwUnit, Entries, Kind, OfType, Partial}
use Rattle.dwz_def_tops.specs.Seen.{IsPartial}
use Rattle.dwz_def_tops.specs.Spaces.{space_text, tops_under}
use Rattle.dwz_def_tops.specs.Spots.{EntryName, InType, RootOf, SpaceAt, Within, below_spots, entry_spots, top_spots}
use Rattle.dwz_def_tops.proofs.NameLists.{spots_space, spots_top}
use Rattle.dwz_graph.specs.declared.index.Step.{Step}
use Rattle.dwz_graph.specs.Index.{IsBelow, Shows, above}
use Rattle.dwz_graph.specs.Steps.{is_space, step, steps_among, steps_below, steps_of_list, below_root, is_compile, tops_by}
use Rattle.dwz_graph.proofs.AmongLemmas.{steps_space, steps_top}
use Rattle.dwz_graph.proofs.ListLemmas.{drop_more}

-- ---- a part of the names, from a number on

pub record At (names : List EntryName) (first : ℕ) (part : List EntryName) : Type 0 where
  pub after : List EntryName
  pub rest : drop first names ≡ part ++ after

pub at_here : (names : List EntryName) (first : ℕ) (s : EntryName) (part : List EntryName) → At names first (s ∷ part) → (slice_get names first ≡ Some s) × At names (first + 1) part
at_here names first s part h = let d = drop_first names first s (part ++ h.after) h.rest in (d.0, record { after = h.after; rest = d.1 })

pub at_left : (names : List EntryName) (first : ℕ) (a b : List EntryName) → At names first (a ++ b) → At names first a
at_left names first a b h = record { after = b ++ h.after; rest = h.rest ∙ append_assoc a b h.after }

pub at_right : (names : List EntryName) (first n : ℕ) (a b : List EntryName) → length a ≡ n → At names first (a ++ b) → At names (first + n) b
at_right names first n a b e h = record { after = h.after; rest = drop_more names first n ∙ ap (drop n) (h.rest ∙ append_assoc a b h.after) ∙ drop_at a (b ++ h.after) n e }

-- ---- each of the ways shows its name, the first with that number

abbrev pub AllShow : List EntryName → ℕ → List Step → List EntryName → Type 0
AllShow names i [] [] = Unit {0}
AllShow names i (x ∷ steps) (s ∷ part) = Shows names i x s × AllShow names (i + 1) steps part
AllShow names i _ _ = ⊥

pub show_append : (names : List EntryName) (i j : ℕ) (xs ys : List Step) (a b : List EntryName) → AllShow names i xs a → j ≡ i + length a → AllShow names j ys b → AllShow names i (xs ++ ys) (a ++ b)
show_append names i j [] ys [] b h e k = let same : j ≡ i = omega arith in subst (λ (n : ℕ). AllShow names n ys b) same k
show_append names i j [] ys (s ∷ a) b h e k = absurd h
show_append names i j (x ∷ xs) ys [] b h e k = absurd h
show_append names i j (x ∷ xs) ys (s ∷ a) b h e k = (h.0, show_append names (i + 1) j xs ys a b h.1 (omega arith) k)

abbrev name_of : ℕ × EntryName → EntryName
name_of x = x.1

pub many_names : (name : List ℕ → EntryName) (path : List ℕ) (i : ℕ) (f : Entries ℕ) → length (map name_of (entry_spots name path i f)) ≡ size f
unfolding entry_spots
many_names name path i End = refl
many_names name path i (Entry e c n) =
    let a = entry_spots name (i ∷ path) 0 c in
    let b = entry_spots name path (suc i) n in
    let parts = ap (λ (w : List EntryName). length w) (map-append name_of a b) in
    omega (arith, parts, length-append (map name_of a) (map name_of b), many_names name (i ∷ path) 0 c, many_names name path (suc i) n)

-- ---- entries in one top, or in a type unit

-- entries below another one are named so, where that one has the name `parent path`
record Family (names : List EntryName) (top : ℕ) (name parent : List ℕ → EntryName) : Type 0 where
  here : (i k : ℕ) (path : List ℕ) (x : Step) → x.top ≡ top → IsBelow names i x k (parent path) → Shows names i x (name (k ∷ path))
  down : (k : ℕ) (path : List ℕ) → parent (k ∷ path) ≡ name (k ∷ path)

below_show : (names : List EntryName) (top : ℕ) (name parent : List ℕ → EntryName) → Family names top name parent → (path : List ℕ) (i up first : ℕ) (f : Entries ℕ)
    → slice_get names up ≡ Some (parent path)
    → up < first → At names first (map name_of (entry_spots name path i f))
    → AllShow names first (steps_below top up i first f) (map name_of (entry_spots name path i f))
unfolding entry_spots steps_below
below_show names top name parent fam path i up first End is lt at = tt
below_show names top name parent fam path i up first (Entry e c n) is lt at =
    let a = entry_spots name (i ∷ path) 0 c in
    let b = entry_spots name path (suc i) n in
    let parts = map-append name_of a b in
    let many = many_names name (i ∷ path) 0 c in
    let here = at_here names first (name (i ∷ path)) (map name_of (a ++ b)) at in
    let rest : At names (first + 1) (map name_of a ++ map name_of b) = subst (At names (first + 1)) parts here.1 in
    let self : slice_get names first ≡ Some (parent (i ∷ path)) = here.0 ∙ ap (λ (s : EntryName). Some s) (sym (fam.down i path)) in (
      fam.here first i path (step up i top) refl (record { index = refl; name = is; earlier = lt }),
      subst (AllShow names (first + 1) (steps_below top first 0 (first + 1) c ++ steps_below top up (suc i) (first + 1 + size c) n)) (sym parts)
          (show_append names (first + 1) (first + 1 + size c) (steps_below top first 0 (first + 1) c) (steps_below top up (suc i) (first + 1 + size c) n) (map name_of a) (map name_of b)
          (below_show names top name parent fam (i ∷ path) 0 first (first + 1) c self (omega arith) (at_left names (first + 1) (map name_of a) (map name_of b) rest))
          (ap (λ (m : ℕ). first + 1 + m) (sym many))
          (below_show names top name parent fam path (suc i) up (first + 1 + size c) n is (omega arith) (at_right names (first + 1) (size c) (map name_of a) (map name_of b) many rest))),
    )

in_top : (names : List EntryName) (top : ℕ) → Family names (suc top) (Within top) (Within top)
in_top names top = record { here = λ i k path x e below. (e, below); down = λ k path. refl }

in_type : (names : List EntryName) (unit : ℕ) → Family names 0 (InType unit) (above InType unit)
in_type names unit = record { here = λ i k path x e below. (e, below); down = λ k path. refl }

-- ---- entries in the root of a compile unit, or in a space of it

pub counted : (f : Entries ℕ) → tops_by is_space f ≡ tops_under f
unfolding tops_by tops_under
counted End = refl
counted (Entry e c n) = go (counted c) (counted n) (space_text e) where
  go : tops_by is_space c ≡ tops_under c → tops_by is_space n ≡ tops_under n → (o : Option (List ℕ))
      → (elim (is_some o) as (λ _. ℕ) [ false ↦ suc (tops_by is_space n) | true ↦ tops_by is_space c + tops_by is_space n ])
      ≡ (elim o as (λ _. ℕ) [ None ↦ suc (tops_under n) | Some text ↦ tops_under c + tops_under n ])
  go p q None = ap suc q
  go p q (Some text) = (λ j. p j + q j)

pub many_tops : (unit : ℕ) (path : List ℕ) (i n : ℕ) (f : Entries ℕ) → length (map name_of (top_spots unit path i n f)) ≡ size f
unfolding top_spots
many_tops unit path i n End = refl
many_tops unit path i n (Entry e c m) =
    go (many_names (Within n) [] 0 c) (many_tops unit path (suc i) (suc n) m) (many_tops unit (i ∷ path) 0 n c) (many_tops unit path (suc i) (n + tops_under c) m) (space_text e)
  where
    both : (a b : List (ℕ × EntryName)) → length (map name_of a) ≡ size c → length (map name_of b) ≡ size m → suc (length (map name_of (a ++ b))) ≡ size c + size m + 1
    both a b p q =
        let parts = ap (λ (w : List EntryName). length w) (map-append name_of a b) in
        omega (arith, parts, length-append (map name_of a) (map name_of b), p, q)

    go : length (map name_of (entry_spots (Within n) [] 0 c)) ≡ size c → length (map name_of (top_spots unit path (suc i) (suc n) m)) ≡ size m → length (map name_of (top_spots unit (i ∷ path) 0 n c))
        ≡ size c → length (map name_of (top_spots unit path (suc i) (n + tops_under c) m)) ≡ size m → (o : Option (List ℕ))
        → length (map name_of (elim o as (λ _. List (ℕ × EntryName)) [
          | None ↦ (e.at, Within n []) ∷ entry_spots (Within n) [] 0 c ++ top_spots unit path (suc i) (suc n) m
          | Some text ↦ (e.at, SpaceAt unit (i ∷ path)) ∷ top_spots unit (i ∷ path) 0 n c ++ top_spots unit path (suc i) (n + tops_under c) m
        ])) ≡ size c + size m + 1
    go p q r t None = both (entry_spots (Within n) [] 0 c) (top_spots unit path (suc i) (suc n) m) p q
    go p q r t (Some text) = both (top_spots unit (i ∷ path) 0 n c) (top_spots unit path (suc i) (n + tops_under c) m) r t

among_show : (names : List EntryName) (unit : ℕ) (path : List ℕ) (i n up first : ℕ) (f : Entries ℕ) → slice_get names up ≡ Some (above SpaceAt unit path) → up < first
    → At names first (map name_of (top_spots unit path i n f))
    → AllShow names first (steps_among is_space n up i first f) (map name_of (top_spots unit path i n f))
unfolding top_spots steps_among
among_show names unit path i n up first End is lt at = tt
among_show names unit path i n up first (Entry e c m) is lt at =
    by (λ k. among_show names unit path (suc i) (suc n) up (first + 1 + size c) m is (omega arith) k)
    (λ self k. among_show names unit (i ∷ path) 0 n first (first + 1) c self (omega arith) k)
    (λ k. among_show names unit path (suc i) (n + tops_under c) up (first + 1 + size c) m is (omega arith) k)
    (space_text e) refl
  where
    joined : (s : EntryName) (x : Step) (a b : List (ℕ × EntryName)) (xs ys : List Step) → At names first (s ∷ map name_of (a ++ b)) → length (map name_of a) ≡ size c → Shows names first x s
        → (At names (first + 1) (map name_of a) → AllShow names (first + 1) xs (map name_of a))
        → (At names (first + 1 + size c) (map name_of b) → AllShow names (first + 1 + size c) ys (map name_of b))
        → AllShow names first (x ∷ (xs ++ ys)) (s ∷ map name_of (a ++ b))
    joined s x a b xs ys here many shows p q =
        let parts = map-append name_of a b in
        let rest : At names (first + 1) (map name_of a ++ map name_of b) = subst (At names (first + 1)) parts (at_here names first s (map name_of (a ++ b)) here).1 in (
          shows,
          subst (AllShow names (first + 1) (xs ++ ys)) (sym parts)
              (show_append names (first + 1) (first + 1 + size c) xs ys (map name_of a) (map name_of b) (p (at_left names (first + 1) (map name_of a) (map name_of b) rest))
              (ap (λ (k : ℕ). first + 1 + k) (sym many))
              (q (at_right names (first + 1) (size c) (map name_of a) (map name_of b) many rest))),
        )

    by : (At names (first + 1 + size c) (map name_of (top_spots unit path (suc i) (suc n) m))
        → AllShow names (first + 1 + size c) (steps_among is_space (suc n) up (suc i) (first + 1 + size c) m) (map name_of (top_spots unit path (suc i) (suc n) m)))
        → (slice_get names first ≡ Some (SpaceAt unit (i ∷ path)) → At names (first + 1) (map name_of (top_spots unit (i ∷ path) 0 n c))
        → AllShow names (first + 1) (steps_among is_space n first 0 (first + 1) c) (map name_of (top_spots unit (i ∷ path) 0 n c)))
        → (At names (first + 1 + size c) (map name_of (top_spots unit path (suc i) (n + tops_under c) m))
        → AllShow names (first + 1 + size c) (steps_among is_space (n + tops_under c) up (suc i) (first + 1 + size c) m) (map name_of (top_spots unit path (suc i) (n + tops_under c) m)))
        → (o : Option (List ℕ)) → space_text e ≡ o → AllShow names first (steps_among is_space n up i first (Entry e c m)) (map name_of (top_spots unit path i n (Entry e c m)))
    by p q r None h =
        let spots = spots_top unit path i n e c m h in
        let here : At names first (Within n [] ∷ map name_of (entry_spots (Within n) [] 0 c ++ top_spots unit path (suc i) (suc n) m)) = subst (λ (w : List (ℕ
        × EntryName)). At names first (map name_of w))
        spots at in
        let self = (at_here names first (Within n []) (map name_of (entry_spots (Within n) [] 0 c ++ top_spots unit path (suc i) (suc n) m)) here).0 in
        subst (λ (w : List (ℕ × EntryName)). AllShow names first (steps_among is_space n up i first (Entry e c m)) (map name_of w)) (sym spots)
        (subst (λ (w : List Step). AllShow names first w (Within n [] ∷ map name_of (entry_spots (Within n) [] 0 c ++ top_spots unit path (suc i) (suc n) m)))
        (sym (steps_top is_space e c m n up i first (ap is_some h)))
        (joined (Within n []) (step first 0 (suc n)) (entry_spots (Within n) [] 0 c) (top_spots unit path (suc i) (suc n) m) (steps_below (suc n) first 0 (first + 1) c)
        (steps_among is_space (suc n) up (suc i) (first + 1 + size c) m)
        here (many_names (Within n) [] 0 c) (refl, refl)
        (λ k. below_show names (suc n) (Within n) (Within n) (in_top names n) [] 0 first (first + 1) c self (omega arith) k) p))
    by p q r (Some text) h =
        let spots = spots_space unit path i n e c m text h in
        let a = top_spots unit (i ∷ path) 0 n c in
        let b = top_spots unit path (suc i) (n + tops_under c) m in
        let here : At names first (SpaceAt unit (i ∷ path) ∷ map name_of (a ++ b)) = subst (λ (w : List (ℕ × EntryName)). At names first (map name_of w)) spots at in
        let self = (at_here names first (SpaceAt unit (i ∷ path)) (map name_of (a ++ b)) here).0 in
        let more : n + tops_by is_space c ≡ n + tops_under c = ap (λ (k : ℕ). n + k) (counted c) in
        let steps = steps_space is_space e c m n up i first (ap is_some h)
        ∙ (λ j. step up i 0 ∷ (steps_among is_space n first 0 (first + 1) c ++ steps_among is_space (more j) up (suc i) (first + 1 + size c) m)) in
        subst (λ (w : List (ℕ × EntryName)). AllShow names first (steps_among is_space n up i first (Entry e c m)) (map name_of w)) (sym spots)
        (subst (λ (w : List Step). AllShow names first w (SpaceAt unit (i ∷ path) ∷ map name_of (a ++ b))) (sym steps)
        (joined (SpaceAt unit (i ∷ path)) (step up i 0) a b (steps_among is_space n first 0 (first + 1) c) (steps_among is_space (n + tops_under c) up (suc i) (first + 1 + size c) m)
        here (many_tops unit (i ∷ path) 0 n c) (refl, record { index = refl; name = is; earlier = lt })
        (q self) r))

-- ---- a unit

abbrev pub unit_names : ℕ → ℕ → DwUnit ℕ → List EntryName
unit_names unit top u = RootOf unit ∷ map name_of (below_spots unit top u.kind u.below)

pub unit_many : (unit top : ℕ) (u : DwUnit ℕ) → (IsPartial u.kind → ⊥) → length (unit_names unit top u) ≡ size u.below + 1
unit_many unit top u whole = by u.kind whole where
  by : (k : Kind ℕ) → (IsPartial k → ⊥) → suc (length (map name_of (below_spots unit top k u.below))) ≡ size u.below + 1
  by Compile h = omega (arith, many_tops unit [] 0 top u.below)
  by (OfType signature main) h = omega (arith, many_names (InType unit) [] 0 u.below)
  by Partial h = absurd (h tt)

pub unit_shows : (names : List EntryName) (unit top first : ℕ) (u : DwUnit ℕ) → (IsPartial u.kind → ⊥) → At names first (unit_names unit top u)
    → AllShow names first (steps_of_list is_space top first (below_root u)) (unit_names unit top u)
unit_shows names unit top first u whole at =
    let here = at_here names first (RootOf unit) (map name_of (below_spots unit top u.kind u.below)) at in
    ((refl, refl), by u.kind whole here.0 here.1)
  where
    by : (k : Kind ℕ) → (IsPartial k → ⊥) → slice_get names first ≡ Some (RootOf unit) → At names (first + 1) (map name_of (below_spots unit top k u.below))
        → AllShow names (first + 1) (elim (is_compile k) as (λ _. List Step) [ true ↦ steps_among is_space top first 0 (first + 1) u.below | false ↦ steps_below 0 first 0 (first + 1) u.below ])
        (map name_of (below_spots unit top k u.below))
    by Compile h self rest = among_show names unit [] 0 top first (first + 1) u.below self (omega arith) rest
    by (OfType signature main) h self rest = below_show names 0 (InType unit) (above InType unit) (in_type names unit) [] 0 first (first + 1) u.below self (omega arith) rest
    by Partial h self rest = absurd (h tt)
