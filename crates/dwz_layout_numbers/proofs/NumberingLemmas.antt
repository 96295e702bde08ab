-- Units that are written are numbered home by home.
use Rattle.std.proofs.Common.{◌≡◌, ℕ, zero, suc, ◌+◌, ◌-◌, ◌<◌, ◌≤◌, ◌==◌, Bool, true, false, List, [], ◌∷◌, ◌++◌, drop, get_or, length, map, Some, slice_get, cond, refl, sym, ap, ◌∙◌, inl, inr, arith}
use Rattle.std.proofs.Common.{eq-eqb, if◌then◌else◌}
use Rattle.std.specs.Prelude.{replicate}
use Rattle.std.specs.List.{filter, range_with_len}
use Rattle.std.proofs.lemmas.Bool.{ne_eqb}
use Rattle.std.proofs.lemmas.List.{append-nil, append_assoc, drop_all}
use Rattle.dwz_def_reading.proofs.ListFacts.{drop_next, numbers_more}
use Rattle.dwz_def_reading.specs.Documents.{DwUnit}
use Rattle.dwz_def_tops.specs.Lists.{Nth}
use Rattle.dwz_def_reading.specs.Lists.{Each}
use Rattle.dwz_def_tops.proofs.Members.{each_append, each_more}
use Rattle.dwz_def_tops.specs.Spots.{EntryName, FileUnit}
use Rattle.dwz_def_images.specs.Homes.{Common, Home, Local, Stay, same_home}
use Rattle.dwz_def_images.specs.Moves.{Move}
use Rattle.dwz_def_images.specs.Plan.{PartialUnit}
use Rattle.dwz_def_images.proofs.PlanLemmas.{home_true}
use Rattle.dwz_plan.specs.declared.plan.Partial.{Partial}
use Rattle.dwz_plan.specs.Shows.{shown_part}
use Rattle.dwz_def_images.specs.Units.{kept_unit, kept_units, partial_unit, partial_units}
use Rattle.dwz_layout_numbers.specs.Numbering.{leading, parts_at, parts_of_files}

-- ---- partial units of a home

pub own_home : (h : Home) → same_home h h ≡ true
own_home Common = refl
own_home (Local file) = eq-eqb file file refl
own_home Stay = refl

pub other_home : (g h : Home) → (g ≡ h → ⊥) → same_home g h ≡ false
other_home g h ne = by (same_home g h) refl where
  by : (b : Bool) → same_home g h ≡ b → b ≡ false
  by true e = absurd (ne (home_true g h e))
  by false e = refl

unfoldable pub numbered : Move → ℕ → ℕ → List (DwUnit EntryName)
numbered m n zero = []
numbered m n (suc k) = partial_unit m n ∷ numbered m (suc n) k

pub parts_none : (m : Move) (h : Home) (s : ℕ) (xs : List PartialUnit) → Each (λ p. p.home ≡ h → ⊥) xs → partial_units m h s xs ≡ []
unfolding partial_units
parts_none m h s [] all = refl
parts_none m h s (p ∷ xs) all = rw (other_home p.home h all.0, partial_units) (parts_none m h (suc s) xs all.1)

pub parts_all : (m : Move) (h : Home) (s : ℕ) (xs : List PartialUnit) → Each (λ p. p.home ≡ h) xs → partial_units m h s xs ≡ numbered m s (length xs)
unfolding partial_units numbered
parts_all m h s [] all = refl
parts_all m h s (p ∷ xs) all =
    ap (λ (b : Bool). elim b as (λ _. List (DwUnit EntryName)) [ true ↦ partial_unit m s ∷ partial_units m h (suc s) xs | false ↦ partial_units m h (suc s) xs ])
    (ap (λ (g : Home). same_home g h) all.0 ∙ own_home h)
    ∙ ap (λ (w : List (DwUnit EntryName)). partial_unit m s ∷ w) (parts_all m h (suc s) xs all.1)

pub parts_append : (m : Move) (h : Home) (s : ℕ) (xs ys : List PartialUnit) → partial_units m h s (xs ++ ys) ≡ partial_units m h s xs ++ partial_units m h (s + length xs) ys
unfolding partial_units
parts_append m h s [] ys = let e : s ≡ s + 0 = omega arith in ap (λ (n : ℕ). partial_units m h n ys) e
parts_append m h s (p ∷ xs) ys = go (parts_append m h (suc s) xs ys
    ∙ (let e : suc s + length xs ≡ s + suc (length xs) = omega arith in ap (λ (n : ℕ). partial_units m h (suc s) xs ++ partial_units m h n ys) e)) (same_home p.home h) where
      go : partial_units m h (suc s) (xs ++ ys) ≡ partial_units m h (suc s) xs ++ partial_units m h (s + suc (length xs)) ys → (b : Bool)
          → (elim b as (λ _. List (DwUnit EntryName)) [ true ↦ partial_unit m s ∷ partial_units m h (suc s) (xs ++ ys) | false ↦ partial_units m h (suc s) (xs ++ ys) ])
          ≡ (elim b as (λ _. List (DwUnit EntryName)) [ true ↦ partial_unit m s ∷ partial_units m h (suc s) xs | false ↦ partial_units m h (suc s) xs ]) ++ partial_units m h (s + suc (length xs)) ys
      go e true = ap (λ (w : List (DwUnit EntryName)). partial_unit m s ∷ w) e
      go e false = e

-- those of one home among others
pub parts_mid : (m : Move) (h : Home) (xs ys zs : List PartialUnit) → Each (λ p. p.home ≡ h → ⊥) xs → Each (λ p. p.home ≡ h) ys → Each (λ p. p.home ≡ h → ⊥) zs
    → partial_units m h 0 (xs ++ (ys ++ zs)) ≡ numbered m (length xs) (length ys)
parts_mid m h xs ys zs none all others =
    parts_append m h 0 xs (ys ++ zs) ∙ (λ j. parts_none m h 0 xs none j ++ partial_units m h (0 + length xs) (ys ++ zs))
    ∙ (let e : 0 + length xs ≡ length xs = omega arith in ap (λ (n : ℕ). partial_units m h n (ys ++ zs)) e)
    ∙ parts_append m h (length xs) ys zs ∙ (λ j. parts_all m h (length xs) ys all j ++ parts_none m h (length xs + length ys) zs others j) ∙ append-nil (numbered m (length xs) (length ys))

pub numbered_length : (m : Move) (n k : ℕ) → length (numbered m n k) ≡ k
unfolding numbered
numbered_length m n zero = refl
numbered_length m n (suc k) = ap suc (numbered_length m (suc n) k)

pub numbered_at : (m : Move) (n k j : ℕ) → j < k → slice_get (numbered m n k) j ≡ Some (partial_unit m (n + j))
unfolding numbered
numbered_at m n zero j lt = absurd (omega arith)
numbered_at m n (suc k) zero lt = let e : n ≡ n + 0 = omega arith in ap (λ (w : ℕ). Some (partial_unit m w)) e
numbered_at m n (suc k) (suc j) lt = let e : suc n + j ≡ n + suc j = omega arith in numbered_at m (suc n) k j (omega arith) ∙ ap (λ (w : ℕ). Some (partial_unit m w)) e

-- ---- old units of a file

unfoldable pub kept_list : Move → List (FileUnit EntryName) → ℕ → List (FileUnit EntryName) → List (DwUnit EntryName)
kept_list m all s [] = []
kept_list m all s (u ∷ units) = kept_unit m all s u ∷ kept_list m all (suc s) units

pub kept_none : (m : Move) (all : List (FileUnit EntryName)) (file s : ℕ) (xs : List (FileUnit EntryName)) → Each (λ u. u.file ≡ file → ⊥) xs → kept_units m all file s xs ≡ []
unfolding kept_units
kept_none m all file s [] none = refl
kept_none m all file s (u ∷ xs) none = rw (ne_eqb u.file file none.0, kept_units) (kept_none m all file (suc s) xs none.1)

pub kept_all : (m : Move) (all : List (FileUnit EntryName)) (file s : ℕ) (xs : List (FileUnit EntryName)) → Each (λ u. u.file ≡ file) xs → kept_units m all file s xs ≡ kept_list m all s xs
unfolding kept_units kept_list
kept_all m all file s [] is = refl
kept_all m all file s (u ∷ xs) is =
    ap (λ (b : Bool). elim b as (λ _. List (DwUnit EntryName)) [ true ↦ kept_unit m all s u ∷ kept_units m all file (suc s) xs | false ↦ kept_units m all file (suc s) xs ]) (eq-eqb u.file file is.0)
    ∙ ap (λ (w : List (DwUnit EntryName)). kept_unit m all s u ∷ w) (kept_all m all file (suc s) xs is.1)

pub kept_append : (m : Move) (all : List (FileUnit EntryName)) (file s : ℕ) (xs ys : List (FileUnit EntryName))
    → kept_units m all file s (xs ++ ys) ≡ kept_units m all file s xs ++ kept_units m all file (s + length xs) ys
unfolding kept_units
kept_append m all file s [] ys = let e : s ≡ s + 0 = omega arith in ap (λ (n : ℕ). kept_units m all file n ys) e
kept_append m all file s (u ∷ xs) ys = go (kept_append m all file (suc s) xs ys
    ∙ (let e : suc s + length xs ≡ s + suc (length xs) = omega arith in ap (λ (n : ℕ). kept_units m all file (suc s) xs ++ kept_units m all file n ys) e)) (u.file == file) where
      go : kept_units m all file (suc s) (xs ++ ys) ≡ kept_units m all file (suc s) xs ++ kept_units m all file (s + suc (length xs)) ys → (b : Bool)
          → (elim b as (λ _. List (DwUnit EntryName)) [ true ↦ kept_unit m all s u ∷ kept_units m all file (suc s) (xs ++ ys) | false ↦ kept_units m all file (suc s) (xs ++ ys) ])
          ≡ (elim b as (λ _. List (DwUnit EntryName)) [ true ↦ kept_unit m all s u ∷ kept_units m all file (suc s) xs | false ↦ kept_units m all file (suc s) xs ]) ++ kept_units m all file
          (s + suc (length xs)) ys
      go e true = ap (λ (w : List (DwUnit EntryName)). kept_unit m all s u ∷ w) e
      go e false = e

pub kept_mid : (m : Move) (all : List (FileUnit EntryName)) (file : ℕ) (xs ys zs : List (FileUnit EntryName)) → Each (λ u. u.file ≡ file → ⊥) xs → Each (λ u. u.file ≡ file) ys
    → Each (λ u. u.file ≡ file → ⊥) zs
    → kept_units m all file 0 (xs ++ (ys ++ zs)) ≡ kept_list m all (length xs) ys
kept_mid m all file xs ys zs none is others =
    kept_append m all file 0 xs (ys ++ zs) ∙ (λ j. kept_none m all file 0 xs none j ++ kept_units m all file (0 + length xs) (ys ++ zs))
    ∙ (let e : 0 + length xs ≡ length xs = omega arith in ap (λ (n : ℕ). kept_units m all file n (ys ++ zs)) e)
    ∙ kept_append m all file (length xs) ys zs ∙ (λ j. kept_all m all file (length xs) ys is j ++ kept_none m all file (length xs + length ys) zs others j)
    ∙ append-nil (kept_list m all (length xs) ys)

pub kept_length : (m : Move) (all : List (FileUnit EntryName)) (s : ℕ) (xs : List (FileUnit EntryName)) → length (kept_list m all s xs) ≡ length xs
unfolding kept_list
kept_length m all s [] = refl
kept_length m all s (u ∷ xs) = ap suc (kept_length m all (suc s) xs)

pub kept_at : (m : Move) (all : List (FileUnit EntryName)) (s : ℕ) (xs : List (FileUnit EntryName)) (j : ℕ) (u : FileUnit EntryName) → slice_get xs j ≡ Some u
    → slice_get (kept_list m all s xs) j ≡ Some (kept_unit m all (s + j) u)
unfolding kept_list
kept_at m all s [] j u e = absurd cc
kept_at m all s (v ∷ xs) zero u e = let same : v ≡ u = cc in let n : s ≡ s + 0 = omega arith in (λ i. Some (kept_unit m all (n i) (same i)))
kept_at m all s (v ∷ xs) (suc j) u e = let n : suc s + j ≡ s + suc j = omega arith in kept_at m all (suc s) xs j u e ∙ ap (λ (w : ℕ). Some (kept_unit m all w u)) n

-- ---- partial units by their homes

pub at_home : (h : Home) (xs : List PartialUnit) → Each (λ p. p.home ≡ h) (filter (λ p. same_home p.home h) xs)
at_home h [] = tt
at_home h (p ∷ xs) = go (at_home h xs) (same_home p.home h) refl where
  go : Each (λ (q : PartialUnit). q.home ≡ h) (filter (λ (q : PartialUnit). same_home q.home h) xs) → (b : Bool) → same_home p.home h ≡ b
      → Each (λ (q : PartialUnit). q.home ≡ h) (cond b (p ∷ filter (λ (q : PartialUnit). same_home q.home h) xs) (filter (λ (q : PartialUnit). same_home q.home h) xs))
  go rest true e = (home_true p.home h e, rest)
  go rest false e = rest

-- of a file from that number on, and before another
abbrev pub IsLater : ℕ → ℕ → PartialUnit → Type 0
IsLater low high p = (file : ℕ) × (p.home ≡ Local file) × (low ≤ file) × (file < high)

pub files_later : (m : Move) (low n high : ℕ) → low + n ≤ high → Each (IsLater low high) (parts_of_files m (range_with_len low n))
unfolding parts_of_files
files_later m low zero high le = tt
files_later m low (suc n) high le =
    each_append (IsLater low high) (parts_at m (Local low)) (parts_of_files m (range_with_len (low + 1) n))
    (each_more (λ (p : PartialUnit). p.home ≡ Local low) (IsLater low high) (parts_at m (Local low)) (λ p e. (low, e, omega arith, omega arith)) (at_home (Local low) m.parts))
    (each_more (IsLater (low + 1) high) (IsLater low high) (parts_of_files m (range_with_len (low + 1) n)) (λ p h. (let l = h.2 in (h.0, h.1, omega arith, h.3)))
    (files_later m (low + 1) n high (omega arith)))

pub later_not : (low high file : ℕ) (xs : List PartialUnit) → file < low → Each (IsLater low high) xs → Each (λ p. p.home ≡ Local file → ⊥) xs
later_not low high file xs lt h = each_more (IsLater low high) (λ (p : PartialUnit). p.home ≡ Local file
    → ⊥) xs (λ p l e. (let le = l.2 in let same : Local l.0 ≡ Local file = sym l.1 ∙ e in let number : l.0 ≡ file = cc in omega (arith, le, lt, number))) h

pub later_common : (low high : ℕ) (xs : List PartialUnit) → Each (IsLater low high) xs → Each (λ p. p.home ≡ Common → ⊥) xs
later_common low high xs h = each_more (IsLater low high) (λ (p : PartialUnit). p.home ≡ Common → ⊥) xs (λ p l e. (let same : Local l.0 ≡ Common = sym l.1 ∙ e in cc)) h

-- ---- what is counted at the front

pub leading_at : (files file : ℕ) (xs ys : List PartialUnit) → Each (λ p. (shown_part files p).file ≡ file) xs → Each (λ p. (shown_part files p).file ≡ file → ⊥) ys
    → leading file (map (shown_part files) (xs ++ ys)) ≡ length xs
unfolding leading
leading_at files file [] [] is not = refl
leading_at files file [] (p ∷ ys) is not = rw (ne_eqb (shown_part files p).file file not.0) refl
leading_at files file (p ∷ xs) ys is not = rw (eq-eqb (shown_part files p).file file is.0) (ap suc (leading_at files file xs ys is.1 not))

pub leading_le : (file : ℕ) (xs : List Partial) → leading file xs ≤ length xs
unfolding leading
leading_le file [] = omega arith
leading_le file (p ∷ xs) = go (leading_le file xs) (p.file == file) where
  go : leading file xs ≤ length xs → (b : Bool) → (if b then suc (leading file xs) else 0) ≤ suc (length xs)
  go h true = omega arith
  go h false = omega arith

-- ---- numbers that are added

pub range_at : (a n j : ℕ) → j < n → slice_get (range_with_len a n) j ≡ Some (a + j)
range_at a zero j lt = absurd (omega arith)
range_at a (suc n) zero lt = let e : a ≡ a + 0 = omega arith in ap (λ (w : ℕ). Some w) e
range_at a (suc n) (suc j) lt = let e : a + 1 + j ≡ a + suc j = omega arith in range_at (a + 1) n j (omega arith) ∙ ap (λ (w : ℕ). Some w) e

pub nth_get : {X : Type 0} (s : ℕ) (xs : List X) (n : ℕ) (x : X) → Nth s xs n x → (k : ℕ) × (n ≡ s + k) × (slice_get xs k ≡ Some x)
nth_get s [] n x h = absurd h
nth_get s (y ∷ ys) n x (inl e) = (0, (let q = e.0 in omega arith), ap (λ (w : _). Some w) e.1)
nth_get s (y ∷ ys) n x (inr r) = let o = nth_get (suc s) ys n x r in (suc o.0, (let q = o.1 in omega arith), o.2)

pub leading_next : (file : ℕ) (xs : List Partial) (i : ℕ) (p : Partial) → i < length xs → p ≡ get_or xs i p → p.file ≡ file → leading file (drop i xs) ≡ suc (leading file (drop (i + 1) xs))
unfolding leading
leading_next file xs i p lt e is = ap (leading file) (drop_next xs i p lt e) ∙ ap (λ (b : Bool). if b then suc (leading file (drop (i + 1) xs)) else 0) (eq-eqb p.file file is)

pub leading_stop : (file : ℕ) (xs : List Partial) (i : ℕ) (p : Partial) → i < length xs → p ≡ get_or xs i p → (p.file ≡ file → ⊥) → leading file (drop i xs) ≡ 0
unfolding leading
leading_stop file xs i p lt e not = ap (leading file) (drop_next xs i p lt e) ∙ ap (λ (b : Bool). if b then suc (leading file (drop (i + 1) xs)) else 0) (ne_eqb p.file file not)

pub leading_end : (file : ℕ) (xs : List Partial) (i : ℕ) → length xs ≤ i → leading file (drop i xs) ≡ 0
unfolding leading
leading_end file xs i le = ap (leading file) (drop_all i xs le)

pub range_push : (first old new : List ℕ) (a n : ℕ) → a ≤ n → old ≡ first ++ range_with_len a (n - a) → new ≡ old ++ n ∷ [] → new ≡ first ++ range_with_len a (n + 1 - a)
range_push first old new a n le was is =
    let e : n + 1 - a ≡ suc (n - a) = omega arith in
    let f : a + (n - a) ≡ n = omega arith in
    is ∙ ap (λ (w : List ℕ). w ++ n ∷ []) was ∙ append_assoc first (range_with_len a (n - a)) (n ∷ [])
    ∙ ap (λ (w : List ℕ). first ++ w) (ap (λ (w : ℕ). range_with_len a (n - a) ++ w ∷ []) (sym f) ∙ sym (numbers_more a (n - a)) ∙ ap (range_with_len a) (sym e))

replicate_more : (n : ℕ) → replicate {A = ℕ} (suc n) 0 ≡ replicate n 0 ++ 0 ∷ []
replicate_more zero = refl
replicate_more (suc n) = ap (λ (w : List ℕ). 0 ∷ w) (replicate_more n)

pub zeros_push : (first old new : List ℕ) (n : ℕ) → old ≡ first ++ replicate n 0 → new ≡ old ++ 0 ∷ [] → new ≡ first ++ replicate (n + 1) 0
zeros_push first old new n was is =
    let e : n + 1 ≡ suc n = omega arith in
    is ∙ ap (λ (w : List ℕ). w ++ 0 ∷ []) was ∙ append_assoc first (replicate n 0) (0 ∷ []) ∙ ap (λ (w : List ℕ). first ++ w) (sym (replicate_more n) ∙ ap (λ (k : ℕ). replicate {A = ℕ} k 0) (sym e))
