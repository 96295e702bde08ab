-- No name stands twice among the units after a move, where each name is of one unit, and stands there once.
use Rattle.std.proofs.Common.{◌≡◌, ℕ, suc, ◌<◌, ◌⊎◌, ◌==◌, Bool, true, false, List, [], ◌∷◌, ◌++◌, refl, sym, ap, subst, ◌∙◌, arith, inl, inr, eqb-true}
use Rattle.dwz_def_reading.specs.Documents.{DwUnit}
use Rattle.dwz_def_reading.specs.Lists.{In}
use Rattle.dwz_def_reading.proofs.ListFacts.{in_cases}
use Rattle.dwz_def_tops.specs.Lists.{NoneTwice, Nth, Rising}
use Rattle.dwz_def_tops.specs.Shown.{unit_keys, units_keys}
use Rattle.dwz_def_tops.proofs.Members.{each_in, nth_from, nth_one}
use Rattle.dwz_def_tops.specs.Spots.{EntryName, FileUnit}
use Rattle.dwz_def_images.specs.Homes.{Common, Home, Local, same_home}
use Rattle.dwz_def_images.specs.Moves.{Move}
use Rattle.dwz_def_images.specs.Plan.{PartialUnit}
use Rattle.dwz_def_images.specs.Units.{all_units, common_units, file_units, kept_unit, kept_units, out_units, partial_unit, partial_units}
use Rattle.dwz_def_images.proofs.PlanLemmas.{home_true}
use Rattle.dwz_def_tops.proofs.OnceLemmas.{none_append}
use Rattle.dwz_def_images.proofs.ApartOwn.{New, Old, UnitNumber}

-- no name stands twice in a unit, and each is its own
pub record IsUnitOwn (Owns : UnitNumber → EntryName → Type 0) (w : UnitNumber) (v : DwUnit EntryName) : Type 0 where
  pub once : NoneTwice (unit_keys v)
  pub owns : (k : EntryName) → In k (unit_keys v) → Owns w k

module _ (m : Move) (units : List (FileUnit EntryName)) (Owns : UnitNumber → EntryName → Type 0) (one : (v w : UnitNumber) (k : EntryName) → Owns v k → Owns w k → v ≡ w)
    (new : (n : ℕ) (part : PartialUnit) → Nth 0 m.parts n part → IsUnitOwn Owns (New n) (partial_unit m n))
    (kept : (i : ℕ) (u : FileUnit EntryName) → Nth 0 units i u → IsUnitOwn Owns (Old i) (kept_unit m units i u)) (files : List ℕ) (rises : Rising files) where
  abbrev parts : List PartialUnit
  parts = m.parts

  -- ---- lists of units, by their numbers

  abbrev Are : List UnitNumber → List (DwUnit EntryName) → Type 0
  Are [] [] = Unit {0}
  Are (w ∷ ws) (v ∷ vs) = IsUnitOwn Owns w v × Are ws vs
  Are _ _ = ⊥

  are_owned : (ws : List UnitNumber) (vs : List (DwUnit EntryName)) → Are ws vs → (k : EntryName) → In k (units_keys vs) → (w : UnitNumber) × In w ws × Owns w k
  unfolding units_keys
  are_owned [] [] h k is = absurd is
  are_owned (w ∷ ws) (v ∷ vs) h k is = elim (in_cases k (unit_keys v) (units_keys vs) is) [
    | inl a ↦ (w, inl refl, h.0.owns k a)
    | inr b ↦ (let o = are_owned ws vs h.1 k b in (o.0, inr o.1, o.2))
  ]
  are_owned [] (v ∷ vs) h k is = absurd h
  are_owned (w ∷ ws) [] h k is = absurd h

  are_none : (ws : List UnitNumber) (vs : List (DwUnit EntryName)) → Are ws vs → NoneTwice ws → NoneTwice (units_keys vs)
  unfolding units_keys
  are_none [] [] h once = tt
  are_none (w ∷ ws) (v ∷ vs) h once = none_append (unit_keys v) (units_keys vs) h.0.once (are_none ws vs h.1 once.1) (λ k a b.
      let o = are_owned ws vs h.1 k b in
      once.0 (subst (λ (x : UnitNumber). In x ws) (one o.0 w k o.2 (h.0.owns k a)) o.1))
  are_none [] (v ∷ vs) h once = absurd h
  are_none (w ∷ ws) [] h once = absurd h

  are_append : (ws ws' : List UnitNumber) (vs vs' : List (DwUnit EntryName)) → Are ws vs → Are ws' vs' → Are (ws ++ ws') (vs ++ vs')
  are_append [] ws' [] vs' h k = k
  are_append (w ∷ ws) ws' (v ∷ vs) vs' h k = (h.0, are_append ws ws' vs vs' h.1 k)
  are_append [] ws' (v ∷ vs) vs' h k = absurd h
  are_append (w ∷ ws) ws' [] vs' h k = absurd h

  abbrev Into : {X : Type 0} → ℕ → List X → List X → Type 0
  Into {X} s some all = (n : ℕ) (x : X) → Nth s some n x → Nth 0 all n x

  news : Home → ℕ → List PartialUnit → List UnitNumber
  news h s [] = []
  news h s (p ∷ some) = elim (same_home p.home h) as (λ _. List UnitNumber) [ true ↦ New s ∷ news h (suc s) some | false ↦ news h (suc s) some ]

  olds : ℕ → ℕ → List (FileUnit EntryName) → List UnitNumber
  olds file s [] = []
  olds file s (u ∷ some) = elim (u.file == file) as (λ _. List UnitNumber) [ true ↦ Old s ∷ olds file (suc s) some | false ↦ olds file (suc s) some ]

  news_are : (h : Home) (s : ℕ) (some : List PartialUnit) → Into s some parts → Are (news h s some) (partial_units m h s some)
  unfolding news partial_units
  news_are h s [] into = tt
  news_are h s (p ∷ some) into = go (news_are h (suc s) some (λ n x nth. into n x (inr nth))) (same_home p.home h) where
    go : Are (news h (suc s) some) (partial_units m h (suc s) some) → (b : Bool)
        → Are (elim b as (λ _. List UnitNumber) [ true ↦ New s ∷ news h (suc s) some | false ↦ news h (suc s) some ])
        (elim b as (λ _. List (DwUnit EntryName)) [
          | true ↦ partial_unit m s ∷ partial_units m h (suc s) some
          | false ↦ partial_units m h (suc s) some
        ])
    go more true = (new s p (into s p (inl (refl, refl))), more)
    go more false = more

  olds_are : (file s : ℕ) (some : List (FileUnit EntryName)) → Into s some units → Are (olds file s some) (kept_units m units file s some)
  unfolding olds kept_units
  olds_are file s [] into = tt
  olds_are file s (u ∷ some) into = go (olds_are file (suc s) some (λ n x nth. into n x (inr nth))) (u.file == file) where
    go : Are (olds file (suc s) some) (kept_units m units file (suc s) some) → (b : Bool)
        → Are (elim b as (λ _. List UnitNumber) [ true ↦ Old s ∷ olds file (suc s) some | false ↦ olds file (suc s) some ])
        (elim b as (λ _. List (DwUnit EntryName)) [
          | true ↦ kept_unit m units s u ∷ kept_units m units file (suc s) some
          | false ↦ kept_units m units file (suc s) some
        ])
    go more true = (kept s u (into s u (inl (refl, refl))), more)
    go more false = more

  -- a number of a new unit of that home, from a number on
  record NewOf (h : Home) (s : ℕ) (some : List PartialUnit) (w : UnitNumber) : Type 0 where
    number : ℕ
    part : PartialUnit
    nth : Nth s some number part
    home : part.home ≡ h
    is : w ≡ New number

  in_news : (h : Home) (s : ℕ) (some : List PartialUnit) (w : UnitNumber) → In w (news h s some) → NewOf h s some w
  unfolding news
  in_news h s [] w is = absurd is
  in_news h s (p ∷ some) w is = go (in_news h (suc s) some w) (same_home p.home h) refl is where
    go : (In w (news h (suc s) some) → NewOf h (suc s) some w) → (b : Bool) → same_home p.home h ≡ b
        → In w (elim b as (λ _. List UnitNumber) [ true ↦ New s ∷ news h (suc s) some | false ↦ news h (suc s) some ]) → NewOf h s (p ∷ some) w
    go more true q (inl x) = record { number = s; part = p; nth = inl (refl, refl); home = home_true p.home h q; is = sym x }
    go more true q (inr r) = let o = more r in record { number = o.number; part = o.part; nth = inr o.nth; home = o.home; is = o.is }
    go more false q r = let o = more r in record { number = o.number; part = o.part; nth = inr o.nth; home = o.home; is = o.is }

  new_number : (m n : ℕ) → New m ≡ New n → m ≡ n
  new_number m n e = cc

  old_number : (m n : ℕ) → Old m ≡ Old n → m ≡ n
  old_number m n e = cc

  news_once : (h : Home) (s : ℕ) (some : List PartialUnit) → NoneTwice (news h s some)
  unfolding news
  news_once h s [] = tt
  news_once h s (p ∷ some) = go (news_once h (suc s) some) (same_home p.home h) where
    go : NoneTwice (news h (suc s) some) → (b : Bool) → NoneTwice (elim b as (λ _. List UnitNumber) [ true ↦ New s ∷ news h (suc s) some | false ↦ news h (suc s) some ])
    go more true = ((λ is. let o = in_news h (suc s) some (New s) is in omega (arith, nth_from (suc s) some o.number o.part o.nth, new_number s o.number o.is)), more)
    go more false = more

  record OldOf (file s : ℕ) (some : List (FileUnit EntryName)) (w : UnitNumber) : Type 0 where
    number : ℕ
    unit : FileUnit EntryName
    nth : Nth s some number unit
    file_is : unit.file ≡ file
    is : w ≡ Old number

  in_olds : (file s : ℕ) (some : List (FileUnit EntryName)) (w : UnitNumber) → In w (olds file s some) → OldOf file s some w
  unfolding olds
  in_olds file s [] w is = absurd is
  in_olds file s (u ∷ some) w is = go (in_olds file (suc s) some w) (u.file == file) refl is where
    go : (In w (olds file (suc s) some) → OldOf file (suc s) some w) → (b : Bool) → (u.file == file) ≡ b
        → In w (elim b as (λ _. List UnitNumber) [ true ↦ Old s ∷ olds file (suc s) some | false ↦ olds file (suc s) some ]) → OldOf file s (u ∷ some) w
    go more true q (inl x) = record { number = s; unit = u; nth = inl (refl, refl); file_is = eqb-true u.file file q; is = sym x }
    go more true q (inr r) = let o = more r in record { number = o.number; unit = o.unit; nth = inr o.nth; file_is = o.file_is; is = o.is }
    go more false q r = let o = more r in record { number = o.number; unit = o.unit; nth = inr o.nth; file_is = o.file_is; is = o.is }

  olds_once : (file s : ℕ) (some : List (FileUnit EntryName)) → NoneTwice (olds file s some)
  unfolding olds
  olds_once file s [] = tt
  olds_once file s (u ∷ some) = go (olds_once file (suc s) some) (u.file == file) where
    go : NoneTwice (olds file (suc s) some) → (b : Bool) → NoneTwice (elim b as (λ _. List UnitNumber) [ true ↦ Old s ∷ olds file (suc s) some | false ↦ olds file (suc s) some ])
    go more true = ((λ is. let o = in_olds file (suc s) some (Old s) is in omega (arith, nth_from (suc s) some o.number o.unit o.nth, old_number s o.number o.is)), more)
    go more false = more

  -- ---- the units of a file, and of all

  abbrev of_file : ℕ → List UnitNumber
  of_file file = news (Local file) 0 parts ++ olds file 0 units

  file_are : (file : ℕ) → Are (of_file file) (out_units m units file)
  unfolding out_units
  file_are file = are_append (news (Local file) 0 parts) (olds file 0 units) (partial_units m (Local file) 0 parts) (kept_units m units file 0 units)
      (news_are (Local file) 0 parts (λ n x nth. nth)) (olds_are file 0 units (λ n x nth. nth))

  -- the file of a unit after
  abbrev OfFile : ℕ → UnitNumber → Type 0
  OfFile file w = NewOf (Local file) 0 parts w ⊎ OldOf file 0 units w

  in_file_of : (file : ℕ) (w : UnitNumber) → In w (of_file file) → OfFile file w
  in_file_of file w is = elim (in_cases w (news (Local file) 0 parts) (olds file 0 units) is) [ inl a ↦ inl (in_news (Local file) 0 parts w a) | inr b ↦ inr (in_olds file 0 units w b) ]

  new_old : (w : UnitNumber) (m n : ℕ) → w ≡ New m → w ≡ Old n → ⊥
  new_old w m n a b = let z : New m ≡ Old n = sym a ∙ b in cc

  file_once : (file : ℕ) → NoneTwice (of_file file)
  file_once file = none_append (news (Local file) 0 parts) (olds file 0 units) (news_once (Local file) 0 parts) (olds_once file 0 units)
      (λ w a b. new_old w _ _ (in_news (Local file) 0 parts w a).is (in_olds file 0 units w b).is)

  one_home : (g h : Home) (w : UnitNumber) → NewOf g 0 parts w → NewOf h 0 parts w → g ≡ h
  one_home g h w a b =
      let number : a.number ≡ b.number = new_number a.number b.number (sym a.is ∙ b.is) in
      let part : a.part ≡ b.part = nth_one 0 parts b.number a.part b.part (subst (λ (x : ℕ). Nth 0 parts x a.part) number a.nth) b.nth in
      sym a.home ∙ ap (λ (x : PartialUnit). x.home) part ∙ b.home

  one_file : (a b : ℕ) (w : UnitNumber) → OfFile a w → OfFile b w → a ≡ b
  one_file m n w (inl a) (inl b) = (let e = one_home (Local m) (Local n) w a b in cc)
  one_file m n w (inl a) (inr b) = absurd (new_old w a.number b.number a.is b.is)
  one_file m n w (inr a) (inl b) = absurd (new_old w b.number a.number b.is a.is)
  one_file m n w (inr a) (inr b) =
      let number : a.number ≡ b.number = old_number a.number b.number (sym a.is ∙ b.is) in
      let unit : a.unit ≡ b.unit = nth_one 0 units b.number a.unit b.unit (subst (λ (x : ℕ). Nth 0 units x a.unit) number a.nth) b.nth in
      sym a.file_is ∙ ap (λ (x : FileUnit EntryName). x.file) unit ∙ b.file_is

  of_files : List ℕ → List UnitNumber
  of_files [] = []
  of_files (file ∷ some) = of_file file ++ of_files some

  files_are : (some : List ℕ) → Are (of_files some) (file_units m units some)
  unfolding of_files file_units
  files_are [] = tt
  files_are (file ∷ some) = are_append (of_file file) (of_files some) (out_units m units file) (file_units m units some) (file_are file) (files_are some)

  in_files_of : (some : List ℕ) (w : UnitNumber) → In w (of_files some) → (file : ℕ) × In file some × OfFile file w
  unfolding of_files
  in_files_of [] w is = absurd is
  in_files_of (file ∷ some) w is = elim (in_cases w (of_file file) (of_files some) is) [ inl a ↦ (file, inl refl, in_file_of file w a) | inr b ↦ (let o = in_files_of some w b in (o.0, inr o.1, o.2)) ]

  files_once : (some : List ℕ) → Rising some → NoneTwice (of_files some)
  unfolding of_files
  files_once [] h = tt
  files_once (file ∷ some) h = none_append (of_file file) (of_files some) (file_once file) (files_once some h.1) (λ w a b.
      let o = in_files_of some w b in
      omega (arith, one_file file o.0 w (in_file_of file w a) o.2, each_in (λ n. file < n) o.0 some h.0 o.1))

  common_file : (file : ℕ) (w : UnitNumber) → NewOf Common 0 parts w → OfFile file w → ⊥
  common_file file w a (inl b) = (let e = one_home Common (Local file) w a b in cc)
  common_file file w a (inr b) = new_old w a.number b.number a.is b.is

  common_are : Are (news Common 0 parts) (common_units m)
  unfolding common_units
  common_are = news_are Common 0 parts (λ n x nth. nth)

  -- no name stands twice among all units after
  pub all_apart : NoneTwice (units_keys (all_units m units files))
  all_apart = are_none (news Common 0 parts ++ of_files files) (all_units m units files)
      (are_append (news Common 0 parts) (of_files files) (common_units m) (file_units m units files) common_are (files_are files))
      (none_append (news Common 0 parts) (of_files files) (news_once Common 0 parts) (files_once files rises)
      (λ w a b. (let o = in_files_of files w b in common_file o.0 w (in_news Common 0 parts w a) o.2)))
