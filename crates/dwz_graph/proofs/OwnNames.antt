-- What the places of a file are named is of the file: its tops and its units have numbers from those on that it begins with.
use Rattle.std.proofs.Common.{◌≡◌, ℕ, suc, ◌+◌, ◌<◌, ◌≤◌, Bool, true, false, List, [], ◌∷◌, ◌++◌, length, Option, Some, None, refl, sym, subst, inl, inr, ⊎_elim, arith}
use Rattle.std.specs.Prelude.{◌==◌}
use Rattle.dwz_def_reading.specs.Lists.{In}
use Rattle.dwz_def_reading.specs.Trees.{End, Entry}
use Rattle.dwz_def_reading.proofs.ListFacts.{in_cases}
use Rattle.dwz_def_reading.specs.Documents.{Compile, DwUnit, Entries, Kind, OfType, Partial}
use Rattle.dwz_def_tops.specs.Spaces.{space_text, tops_under}
use Rattle.dwz_def_tops.specs.Spots.{EntryName, InType, RootOf, SpaceAt, UnitOf, Within, below_spots, entry_spots, spot_in, spots_from, top_count, top_spots, tops_among}
use Rattle.dwz_def_tops.proofs.NameLists.{spots_space, spots_top}

-- a name of a place of a file that has so many units and tops, from these numbers on
abbrev pub Own : (unit units top tops : ℕ) → EntryName → Type 0
Own unit units top tops (Within n path) = (top ≤ n) × (n < top + tops)
Own unit units top tops (RootOf u) = (unit ≤ u) × (u < unit + units)
Own unit units top tops (SpaceAt u path) = (unit ≤ u) × (u < unit + units)
Own unit units top tops (InType u path) = (unit ≤ u) × (u < unit + units)
Own unit units top tops (UnitOf u) = Unit {0}
Own unit units top tops _ = ⊥

-- more are so too
own_more : (unit units top tops unit' units' top' tops' : ℕ) → unit' ≤ unit → unit + units ≤ unit' + units' → top' ≤ top → top + tops ≤ top' + tops' → (s : EntryName) → Own unit units top tops s
    → Own unit' units' top' tops' s
own_more a b c d a' b' c' d' p q r t (Within n path) h = (let x = h.0 in let y = h.1 in (omega arith, omega arith))
own_more a b c d a' b' c' d' p q r t (RootOf u) h = (let x = h.0 in let y = h.1 in (omega arith, omega arith))
own_more a b c d a' b' c' d' p q r t (SpaceAt u path) h = (let x = h.0 in let y = h.1 in (omega arith, omega arith))
own_more a b c d a' b' c' d' p q r t (InType u path) h = (let x = h.0 in let y = h.1 in (omega arith, omega arith))
own_more a b c d a' b' c' d' p q r t (UnitOf u) h = tt
own_more a b c d a' b' c' d' p q r t _ h = absurd h

abbrev OwnAll : (unit units top tops : ℕ) → List (ℕ × EntryName) → Type 0
OwnAll unit units top tops spots = (x : ℕ × EntryName) → In x spots → Own unit units top tops x.1

in_two : (unit units top tops : ℕ) (xs ys : List (ℕ × EntryName)) → OwnAll unit units top tops xs → OwnAll unit units top tops ys → OwnAll unit units top tops (xs ++ ys)
in_two unit units top tops xs ys h k x there = ⊎_elim (λ a. h x a) (λ b. k x b) (in_cases x xs ys there)

in_first : (unit units top tops : ℕ) (p : ℕ) (s : EntryName) (xs : List (ℕ × EntryName)) → Own unit units top tops s → OwnAll unit units top tops xs → OwnAll unit units top tops ((p, s) ∷ xs)
in_first unit units top tops p s xs h k x (inl e) = subst (λ (w : ℕ × EntryName). Own unit units top tops w.1) e h
in_first unit units top tops p s xs h k x (inr later) = k x later

entries_own : (unit units top tops : ℕ) (name : List ℕ → EntryName) → ((path : List ℕ) → Own unit units top tops (name path)) → (path : List ℕ) (i : ℕ) (f : Entries ℕ)
    → OwnAll unit units top tops (entry_spots name path i f)
unfolding entry_spots
entries_own unit units top tops name all path i End = λ x there. absurd there
entries_own unit units top tops name all path i (Entry e c n) =
    in_first unit units top tops e.at (name (i ∷ path)) (entry_spots name (i ∷ path) 0 c ++ entry_spots name path (suc i) n) (all (i ∷ path))
    (in_two unit units top tops (entry_spots name (i ∷ path) 0 c) (entry_spots name path (suc i) n) (entries_own unit units top tops name all (i ∷ path) 0 c)
    (entries_own unit units top tops name all path (suc i) n))

tops_own : (unit top tops : ℕ) (path : List ℕ) (i n : ℕ) (f : Entries ℕ) → top ≤ n → n + tops_under f ≤ top + tops → OwnAll unit 1 top tops (top_spots unit path i n f)
unfolding top_spots tops_under
tops_own unit top tops path i n End low high = λ x there. absurd there
tops_own unit top tops path i n (Entry e c r) low high =
    by (space_text e) refl high (λ le. tops_own unit top tops path (suc i) (suc n) r (omega arith) le) (λ le. tops_own unit top tops (i ∷ path) 0 n c low le)
    (λ le. tops_own unit top tops path (suc i) (n + tops_under c) r (omega arith) le)
  where
    by : (o : Option (List ℕ)) → space_text e ≡ o → n + elim o as (λ _. ℕ) [ None ↦ suc (tops_under r) | Some text ↦ tops_under c + tops_under r ] ≤ top + tops
        → (suc n + tops_under r ≤ top + tops → OwnAll unit 1 top tops (top_spots unit path (suc i) (suc n) r))
        → (n + tops_under c ≤ top + tops → OwnAll unit 1 top tops (top_spots unit (i ∷ path) 0 n c))
        → (n + tops_under c + tops_under r ≤ top + tops → OwnAll unit 1 top tops (top_spots unit path (suc i) (n + tops_under c) r))
        → OwnAll unit 1 top tops (top_spots unit path i n (Entry e c r))
    by None h le next inner after = subst (OwnAll unit 1 top tops) (sym (spots_top unit path i n e c r h))
        (in_first unit 1 top tops e.at (Within n []) (entry_spots (Within n) [] 0 c ++ top_spots unit path (suc i) (suc n) r) (low, omega arith)
        (in_two unit 1 top tops (entry_spots (Within n) [] 0 c) (top_spots unit path (suc i) (suc n) r)
        (entries_own unit 1 top tops (Within n) (λ q. (low, (let z : n < top + tops = omega arith in z))) [] 0 c)
        (next (omega arith))))
    by (Some text) h le next inner after = subst (OwnAll unit 1 top tops) (sym (spots_space unit path i n e c r text h))
        (in_first unit 1 top tops e.at (SpaceAt unit (i ∷ path)) (top_spots unit (i ∷ path) 0 n c ++ top_spots unit path (suc i) (n + tops_under c) r) (omega arith, omega arith)
        (in_two unit 1 top tops (top_spots unit (i ∷ path) 0 n c) (top_spots unit path (suc i) (n + tops_under c) r) (inner (omega arith)) (after (omega arith))))

below_own : (unit top : ℕ) (k : Kind ℕ) (f : Entries ℕ) → OwnAll unit 1 top (top_count k f) (below_spots unit top k f)
below_own unit top Compile f = tops_own unit top (tops_under f) [] 0 top f (omega arith) (omega arith)
below_own unit top (OfType signature main) f = entries_own unit 1 top 0 (InType unit) (λ path. (omega arith, omega arith)) [] 0 f
below_own unit top Partial f = λ x there. absurd there

spots_own : (unit top : ℕ) (units : List (DwUnit ℕ)) → OwnAll unit (length units) top (tops_among units) (spots_from unit top units)
unfolding spots_from tops_among
spots_own unit top [] = λ x there. absurd there
spots_own unit top (u ∷ units) =
    let count = top_count u.kind u.below in
    let all = suc (length units) in
    let tops = count + tops_among units in
    let rest = spots_from (suc unit) (top + count) units in
    let own : OwnAll unit all top tops (below_spots unit top u.kind u.below) = λ x there. own_more unit 1 top count unit all top tops (omega arith) (omega arith) (omega arith) (omega arith) x.1
    (below_own unit top u.kind u.below x there) in
    let more : OwnAll unit all top tops rest = λ x there. own_more (suc unit) (length units) (top + count) (tops_among units) unit all top tops (omega arith) (omega arith) (omega arith) (omega arith)
    x.1 (spots_own (suc unit) (top + count) units x there) in
    in_first unit all top tops u.at (UnitOf unit) ((u.root.at, RootOf unit) ∷ (below_spots unit top u.kind u.below ++ rest)) tt
    (in_first unit all top tops u.root.at (RootOf unit) (below_spots unit top u.kind u.below ++ rest) (omega arith, omega arith)
    (in_two unit all top tops (below_spots unit top u.kind u.below) rest own more))

found_own : (unit units top tops : ℕ) (spots : List (ℕ × EntryName)) → OwnAll unit units top tops spots → (p : ℕ) → Own unit units top tops (spot_in spots p)
unfolding spot_in
found_own unit units top tops [] h p = tt
found_own unit units top tops (x ∷ spots) h p = by (x.0 == p) (h x (inl refl)) (found_own unit units top tops spots (λ y there. h y (inr there)) p) where
  by : (b : Bool) → Own unit units top tops x.1 → Own unit units top tops (spot_in spots p) → Own unit units top tops (elim b as (λ _. EntryName) [ true ↦ x.1 | false ↦ spot_in spots p ])
  by true a b = a
  by false a b = b

pub names_own : (unit top : ℕ) (units : List (DwUnit ℕ)) (p : ℕ) → Own unit (length units) top (tops_among units) (spot_in (spots_from unit top units) p)
names_own unit top units p = found_own unit (length units) top (tops_among units) (spots_from unit top units) (spots_own unit top units) p
