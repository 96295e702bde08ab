-- What a unit can take by itself, found by marks.
use Rattle.std.proofs.Common.{◌≡◌, ◌⊎◌, ℕ, ◌+◌, ◌<◌, ◌==◌, Bool, true, false, List, [], ◌∷◌, ◌++◌, length, get_or, take, refl, sym, subst, inl, inr, ⊎_elim}
use Rattle.std.proofs.lemmas.Bool.{false≢true}
use Rattle.dwz_model.specs.Lists.{In}
use Rattle.dwz_model.proofs.ListFacts.{in_cases, in_left, in_right}
use Rattle.dwz_groups.specs.Spreading.{IsMarked}
use Rattle.dwz_takes.specs.declared.rows.Rows.{Rows}
use Rattle.dwz_takes.specs.declared.tables.Tables.{Tables}
use Rattle.dwz_takes.specs.Steps.{AreMarked, IsMarkedWhole}
use Rattle.dwz_takes.specs.Tables.{AreTables}
use Rattle.dwz_takes.specs.Takes.{AreRows, FitsIn, class_of, list_at}
use Rattle.dwz_takes.proofs.MarkFacts.{in_more, more_in}
use Rattle.dwz_takes.proofs.WatchFacts.{class_low}

-- ---- those of a list of which W holds, behind what was there

abbrev pub Adds : (ℕ → Type 0) → List ℕ → List ℕ → List ℕ → Type 0
Adds W old list new = (p : ℕ) → (In p new → In p old ⊎ (In p list × W p)) × (In p old ⊎ (In p list × W p) → In p new)

pub adds_none : (W : ℕ → Type 0) (old : List ℕ) → Adds W old [] old
adds_none W old p = (λ i. inl i, λ h. ⊎_elim (λ i. i) (λ (r : In p [] × W p). absurd r.0) h)

pub adds_skip : (W : ℕ → Type 0) (old list new : List ℕ) (i : ℕ) → i < length list → (W (get_or list i 0) → ⊥) → Adds W old (take i list) new → Adds W old (take (i + 1) list) new
adds_skip W old list new i l fails h p = (
  λ is. ⊎_elim (λ o. inl o) (λ (r : In p (take i list) × W p). inr (more_in list i p l (inl r.0), r.1)) ((h p).0 is),
  λ r. ⊎_elim (λ o. (h p).1 (inl o))
      (λ (r : In p (take (i + 1) list) × W p). ⊎_elim (λ j. (h p).1 (inr (j, r.1))) (λ (e : get_or list i 0 ≡ p). absurd (fails (subst W (sym e) r.1))) (in_more list i p l r.0)) r,
)

pub adds_one : (W : ℕ → Type 0) (old list new : List ℕ) (i : ℕ) → i < length list → W (get_or list i 0) → Adds W old (take i list) new → Adds W old (take (i + 1) list) (new ++ get_or list i 0 ∷ [])
adds_one W old list new i l holds h p = let x = get_or list i 0 in (
  λ is. ⊎_elim
      (λ (j : In p new). ⊎_elim (λ o. inl o) (λ (r : In p (take i list) × W p). inr (more_in list i p l (inl r.0), r.1)) ((h p).0 j))
      (λ (j : In p (x ∷ [])). let e = only p x j in inr (more_in list i p l (inr e), subst W e holds))
      (in_cases p new (x ∷ []) is),
  λ r. ⊎_elim (λ o. in_left p new (x ∷ []) ((h p).1 (inl o)))
      (λ (r : In p (take (i + 1) list) × W p). ⊎_elim (λ j. in_left p new (x ∷ []) ((h p).1 (inr (j, r.1)))) (λ (e : x ≡ p). in_right p new (x ∷ []) (inl e)) (in_more list i p l r.0)) r,
)
  where
    only : (p x : ℕ) → In p (x ∷ []) → x ≡ p
    only p x (inl e) = e
    only p x (inr j) = absurd j

-- ---- those under classes

abbrev pub AreUnder : (ℕ → Type 0) → List (List ℕ) → List ℕ → List ℕ → Type 0
AreUnder W lists keys found = (p : ℕ) → (In p found → (k : ℕ) × In k keys × In p (list_at lists k) × W p) × ((k : ℕ) × In k keys × In p (list_at lists k) × W p → In p found)

pub under_next : (W : ℕ → Type 0) (lists : List (List ℕ)) (keys old new : List ℕ) (i : ℕ) → i < length keys → AreUnder W lists (take i keys) old → Adds W old (list_at lists (get_or keys i 0)) new
    → AreUnder W lists (take (i + 1) keys) new
under_next W lists keys old new i l h a p = (
  λ is. ⊎_elim
      (λ (j : In p old). let r = (h p).0 j in (r.0, more_in keys i r.0 l (inl r.1), r.2, r.3))
      (λ (r : In p (list_at lists (get_or keys i 0)) × W p). (get_or keys i 0, more_in keys i (get_or keys i 0) l (inr refl), r.0, r.1))
      ((a p).0 is),
  λ r. ⊎_elim
      (λ (j : In r.0 (take i keys)). (a p).1 (inl ((h p).1 (r.0, j, r.2, r.3))))
      (λ (e : get_or keys i 0 ≡ r.0). (a p).1 (inr (subst (λ (k : ℕ). In p (list_at lists k)) (sym e) r.2, r.3)))
      (in_more keys i r.0 l r.1),
)

-- ---- by the marks of a unit

pub own_low : (rows : Rows) (tables : Tables) (u : ℕ) (own : List ℕ) → AreRows rows → AreTables rows tables → own ≡ list_at tables.classes u → (k : ℕ) → In k own → k < length rows.classes
own_low rows tables u own are t o k i =
    let h = (t.classes u k).0 (subst (λ (xs : List ℕ). In k xs) o i) in
    subst (λ (m : ℕ). m < length rows.classes) h.2 (class_low rows are h.0 (are.unit_tops u h.0 h.1))

pub fits_by : (rows : Rows) (tables : Tables) (u : ℕ) (own spaces : List ℕ) (classes names : List Bool) (found : List ℕ) → AreTables rows tables → own ≡ list_at tables.classes u
    → spaces ≡ list_at rows.unit_names u → AreMarked own classes → AreMarked spaces names → AreUnder (IsMarkedWhole rows classes names) tables.watchers own found
    → (p : ℕ) → (In p found → FitsIn rows u p) × (FitsIn rows u p → In p found)
fits_by rows tables u own spaces classes names found t o s cs ns h p = (
  λ is. let r = (h p).0 is in let w = r.3 in record {
    some = w.some;
    spaces = λ n i. subst (λ (xs : List ℕ). In n xs) s ((ns n).0 (w.spaces n i));
    tops = λ c i. (t.classes u (class_of rows c)).0 (subst (λ (xs : List ℕ). In (class_of rows c) xs) o ((cs (class_of rows c)).0 (w.tops c i)));
  },
  λ f. let r = t.found u p f in (h p).1 (
    r.0,
    subst (λ (xs : List ℕ). In r.0 xs) (sym o) ((t.classes u r.0).1 r.1),
    r.2,
    record {
      some = f.some;
      spaces = λ n i. (ns n).1 (subst (λ (xs : List ℕ). In n xs) (sym s) (f.spaces n i));
      tops = λ c i. (cs (class_of rows c)).1 (subst (λ (xs : List ℕ). In (class_of rows c) xs) (sym o) ((t.classes u (class_of rows c)).1 (f.tops c i)));
    },
  ),
)

-- ---- what one test says

pub some_in : (xs : List ℕ) → (length xs == 0) ≡ false → (c : ℕ) × In c xs
some_in [] e = absurd (false≢true (sym e))
some_in (x ∷ xs) e = (x, inl refl)

-- what the test of classes says, where there is a top and the names are marked
pub whole_by : (rows : Rows) (classes names : List Bool) (p : ℕ) (tops ks : List ℕ) (b : Bool) → tops ≡ list_at rows.part_tops p → ks ≡ rows.classes → (c : ℕ) × In c tops
    → ((n : ℕ) → In n (list_at rows.part_names p) → IsMarked names n)
    → ((b ≡ true) → (t : ℕ) → In t tops → IsMarked classes (get_or ks t 0)) × (((t : ℕ) → In t tops → IsMarked classes (get_or ks t 0)) → b ≡ true)
    → ((b ≡ true) → IsMarkedWhole rows classes names p) × (IsMarkedWhole rows classes names p → b ≡ true)
whole_by rows classes names p tops ks b t k some spaces h = (
  λ e. record {
    some = (some.0, subst (λ (xs : List ℕ). In some.0 xs) t some.1);
    spaces = spaces;
    tops = λ c i. subst (λ (xs : List ℕ). IsMarked classes (get_or xs c 0)) k (h.0 e c (subst (λ (xs : List ℕ). In c xs) (sym t) i));
  },
  λ w. h.1 (λ c i. subst (λ (xs : List ℕ). IsMarked classes (get_or xs c 0)) (sym k) (w.tops c (subst (λ (xs : List ℕ). In c xs) t i))),
)
