-- The tops of files and their own numbers, as looks across files have them.
use Rattle.std.proofs.Common.{◌≡◌, ℕ, zero, suc, ◌+◌, List, [], ◌∷◌, ◌++◌, length, map, Option, Some, None, slice_get, refl, sym, ap, subst, ◌∙◌, inl, inr, arith}
use Rattle.std.specs.List.{range_with_len}
use Rattle.std.proofs.lemmas.List.{append-nil}
use Rattle.dwz_def_reading.specs.Documents.{Compile, DwUnit, Kind, OfType, Partial, entries_map, kind_map, language, unit_map}
use Rattle.dwz_def_reading.specs.Lists.{In}
use Rattle.dwz_def_tops.specs.Seen.{IsPartial}
use Rattle.dwz_def_tops.specs.Spaces.{tops_under}
use Rattle.dwz_def_tops.specs.Spots.{EntryName, FileUnit, Top, in_file, row_below, row_tops, top_count, tops_from}
use Rattle.dwz_def_tops.proofs.SpaceLemmas.{under_count}
use Rattle.dwz_def_tops.proofs.TopNumbers.{Numbered, from_numbered}
use Rattle.dwz_def_cross.specs.Tops.{CrossTop}
use Rattle.dwz_def_check.specs.CrossLabels.{cross_top_map}
use Rattle.dwz_def_check.specs.CrossNames.{cross_tops, unit_tops}
use Rattle.dwz_def_check.proofs.TopLists.{tops_count}
use Rattle.dwz_match.proofs.BareTops.{cross_of, row_cross}
use Rattle.dwz_reuse.specs.Refers.{own_in, own_numbers}

one_unit : (unit top : ℕ) (f : FileUnit EntryName) → tops_from unit top (f ∷ []) ≡ row_tops (row_below f.file unit top f.unit f.unit.kind) ++ []
unfolding tops_from
one_unit unit top f = refl

module _ (spot : ℕ → EntryName) where
  -- each top stands beside its own number, and beside what looks across files have
  abbrev pub Beside : List (Option ℕ) → List (CrossTop ℕ) → List Top → Type 0
  Beside [] [] [] = Unit {0}
  Beside (None ∷ os) (x ∷ xs) ts = Beside os xs ts
  Beside (Some m ∷ os) (x ∷ xs) (t ∷ ts) = (t.number ≡ m) × (cross_of t ≡ cross_top_map spot x) × Beside os xs ts
  Beside _ _ _ = ⊥

  beside_append : (os ps : List (Option ℕ)) (xs ys : List (CrossTop ℕ)) (ts us : List Top) → Beside os xs ts → Beside ps ys us → Beside (os ++ ps) (xs ++ ys) (ts ++ us)
  beside_append [] ps [] ys [] us h k = k
  beside_append [] ps [] ys (t ∷ ts) us h k = absurd h
  beside_append [] ps (x ∷ xs) ys ts us h k = absurd h
  beside_append (None ∷ os) ps [] ys ts us h k = absurd h
  beside_append (None ∷ os) ps (x ∷ xs) ys ts us h k = beside_append os ps xs ys ts us h k
  beside_append (Some m ∷ os) ps [] ys ts us h k = absurd h
  beside_append (Some m ∷ os) ps (x ∷ xs) ys [] us h k = absurd h
  beside_append (Some m ∷ os) ps (x ∷ xs) ys (t ∷ ts) us h k = (h.0, h.1, beside_append os ps xs ys ts us h.2 k)

  numbered_beside : (n : ℕ) (xs : List (CrossTop ℕ)) (ts : List Top) → map cross_of ts ≡ map (cross_top_map spot) xs → Numbered n ts → Beside (map Some (range_with_len n (length xs))) xs ts
  numbered_beside n [] [] e h = tt
  numbered_beside n [] (t ∷ ts) e h = absurd cc
  numbered_beside n (x ∷ xs) [] e h = absurd cc
  numbered_beside n (x ∷ xs) (t ∷ ts) e h =
      let one : n + 1 ≡ suc n = omega arith in (
        h.0,
        (let p : cross_of t ≡ cross_top_map spot x = cc in p),
        (let q : map cross_of ts ≡ map (cross_top_map spot) xs = cc in
            subst (λ (m : ℕ). Beside (map Some (range_with_len m (length xs))) xs ts) (sym one) (numbered_beside (suc n) xs ts q h.1)),
      )

  -- of a unit
  unit_beside : (file unit top : ℕ) (u : DwUnit ℕ) (k : Kind ℕ) → (IsPartial k → ⊥) → Beside (own_in top k u) (unit_tops k u) (row_tops (row_below file unit top (unit_map spot u) (kind_map spot k)))
  unfolding row_tops
  unit_beside file unit top u Compile p =
      let v = unit_map spot u in
      let ts = row_tops (row_below file unit top v Compile) in
      let e = row_cross spot file unit (language v) [] top u.below in
      let f : FileUnit EntryName = record { file = file; unit = record { at = v.at; kind = Compile; root = v.root; below = v.below } } in
      let all : tops_from unit top (f ∷ []) ≡ ts ++ [] = one_unit unit top f in
      let numbered : Numbered top ts = subst (Numbered top) (all ∙ append-nil ts) (from_numbered unit top (f ∷ [])) in
      let many : length (unit_tops Compile u) ≡ tops_under u.below = tops_count [] u.below in
      subst (λ (n : ℕ). Beside (map Some (range_with_len top n)) (unit_tops Compile u) ts) many (numbered_beside top (unit_tops Compile u) ts e numbered)
  unit_beside file unit top u (OfType signature main) p = tt
  unit_beside file unit top u Partial p = absurd (p tt)

  count_same : (k : Kind ℕ) (u : DwUnit ℕ) → top_count (kind_map spot k) (entries_map spot u.below) ≡ top_count k u.below
  count_same Compile u = under_count spot u.below
  count_same (OfType signature main) u = refl
  count_same Partial u = refl

  pub all_beside : (file unit top : ℕ) (units : List (DwUnit ℕ)) → ((u : DwUnit ℕ) → In u units → IsPartial u.kind → ⊥)
      → Beside (own_numbers top units) (cross_tops units) (tops_from unit top (map (in_file file) (map (unit_map spot) units)))
  unfolding own_numbers cross_tops tops_from
  all_beside file unit top [] np = tt
  all_beside file unit top (u ∷ units) np =
      beside_append (own_in top u.kind u) (own_numbers (top + top_count u.kind u.below) units) (unit_tops u.kind u) (cross_tops units) _ _
      (unit_beside file unit top u u.kind (np u (inl refl)))
      (subst (λ (n : ℕ). Beside (own_numbers (top + top_count u.kind u.below) units) (cross_tops units) (tops_from (suc unit) (top + n) (map (in_file file) (map (unit_map spot) units))))
      (sym (count_same u.kind u)) (all_beside file (suc unit) (top + top_count u.kind u.below) units (λ v i. np v (inr i))))

  -- ---- one by one

  pub record IsPair (os : List (Option ℕ)) (xs : List (CrossTop ℕ)) (ts : List Top) (m k : ℕ) : Type 0 where
    pub top : Top
    pub there : In top ts
    pub number : top.number ≡ m
    pub cross : CrossTop ℕ
    pub got : slice_get xs k ≡ Some cross
    pub same : cross_of top ≡ cross_top_map spot cross

  pub pair_at : (os : List (Option ℕ)) (xs : List (CrossTop ℕ)) (ts : List Top) (k m : ℕ) → Beside os xs ts → slice_get os k ≡ Some (Some m) → IsPair os xs ts m k
  pair_at [] xs ts k m h e = absurd cc
  pair_at (o ∷ os) [] ts k m h e = absurd (none o h) where
    none : (o : Option ℕ) → Beside (o ∷ os) [] ts → ⊥
    none None h = h
    none (Some n) h = h
  pair_at (None ∷ os) (x ∷ xs) ts zero m h e = absurd cc
  pair_at (None ∷ os) (x ∷ xs) ts (suc k) m h e = (let o = pair_at os xs ts k m h e in record { top = o.top; there = o.there; number = o.number; cross = o.cross; got = o.got; same = o.same })
  pair_at (Some n ∷ os) (x ∷ xs) [] k m h e = absurd h
  pair_at (Some n ∷ os) (x ∷ xs) (t ∷ ts) zero m h e = record { top = t; there = inl refl; number = h.0 ∙ (let p : n ≡ m = cc in p); cross = x; got = refl; same = h.1 }
  pair_at (Some n ∷ os) (x ∷ xs) (t ∷ ts) (suc k) m h e = (let o = pair_at os xs ts k m h.2 e in record { top = o.top; there = inr o.there; number = o.number; cross = o.cross; got = o.got; same = o.same })

  pub record IsTopAt (os : List (Option ℕ)) (xs : List (CrossTop ℕ)) (t : Top) : Type 0 where
    pub k : ℕ
    pub own : slice_get os k ≡ Some (Some t.number)
    pub cross : CrossTop ℕ
    pub got : slice_get xs k ≡ Some cross
    pub same : cross_of t ≡ cross_top_map spot cross

  pub top_at : (os : List (Option ℕ)) (xs : List (CrossTop ℕ)) (ts : List Top) (t : Top) → Beside os xs ts → In t ts → IsTopAt os xs t
  top_at [] [] [] t h i = absurd i
  top_at [] [] (u ∷ ts) t h i = absurd h
  top_at [] (x ∷ xs) ts t h i = absurd h
  top_at (None ∷ os) [] ts t h i = absurd h
  top_at (None ∷ os) (x ∷ xs) ts t h i = (let o = top_at os xs ts t h i in record { k = suc o.k; own = o.own; cross = o.cross; got = o.got; same = o.same })
  top_at (Some n ∷ os) [] ts t h i = absurd h
  top_at (Some n ∷ os) (x ∷ xs) [] t h i = absurd h
  top_at (Some n ∷ os) (x ∷ xs) (u ∷ ts) t h (inl e) = record {
    k = 0;
    own = ap (λ (w : ℕ). Some (Some w)) (sym h.0 ∙ ap (λ (w : Top). w.number) e);
    cross = x;
    got = refl;
    same = ap cross_of (sym e) ∙ h.1;
  }
  top_at (Some n ∷ os) (x ∷ xs) (u ∷ ts) t h (inr i) = (let o = top_at os xs ts t h.2 i in record { k = suc o.k; own = o.own; cross = o.cross; got = o.got; same = o.same })
