-- Rows and the tops that they show.
use Rattle.std.proofs.Common.{◌≡◌, ℕ, suc, inl, inr, cond, Bool, true, false, List, [], ◌∷◌, length, map, filter, refl, sym, arith}
use Rattle.dwz_def_reading.specs.Lists.{In}
use Rattle.dwz_groups.specs.declared.tops.TopRow.{TopRow}
use Rattle.dwz_def_plan.specs.Plan.{is_pinned}
use Rattle.dwz_def_tops.specs.Spots.{EntryName, FileUnit, Top, tops_from}
use Rattle.dwz_def_tops.proofs.TopNumbers.{Numbered, from_numbered}
use Rattle.dwz_plan.specs.Planned.{numbers}
use Rattle.dwz_plan.specs.Rows.{TopFacts, rows_from}
use Rattle.dwz_plan.specs.Shows.{ShowsRows}

-- ---- tops are numbered one by one

abbrev pub TopsFrom : ℕ → List Top → Type 0
TopsFrom n tops = Numbered n tops

pub tops_counted : (unit n : ℕ) (units : List (FileUnit EntryName)) → TopsFrom n (tops_from unit n units)
tops_counted unit n units = from_numbered unit n units

-- ---- a row for each top

pub record SameRow (units : List (FileUnit EntryName)) (a : TopFacts) (t : Top) : Type 0 where
  pub number : a.number ≡ t.number
  pub unit : a.unit ≡ t.unit
  pub pinned : a.pinned ≡ is_pinned units t.number

abbrev pub SameRows : List (FileUnit EntryName) → List TopFacts → List Top → Type 0
SameRows units [] [] = Unit {0}
SameRows units (a ∷ rows) (t ∷ tops) = SameRow units a t × SameRows units rows tops
SameRows units _ _ = ⊥

pub rows_shown : (units : List (FileUnit EntryName)) (files : List ℕ) (s : ℕ) (rows : List TopRow) (least : List ℕ) (tops : List Top) → length least ≡ length rows → ShowsRows units rows tops
    → TopsFrom s tops → SameRows units (rows_from files s rows least) tops
unfolding rows_from
rows_shown units files s [] least [] e h c = tt
rows_shown units files s [] least (t ∷ tops) e h c = h
rows_shown units files s (r ∷ rows) least [] e h c = absurd h
rows_shown units files s (r ∷ rows) [] (t ∷ tops) e h c = absurd (omega (arith, e))
rows_shown units files s (r ∷ rows) (l ∷ least) (t ∷ tops) e h c = (
  record { number = sym c.0; unit = h.0.unit; pinned = h.0.pinned },
  rows_shown units files (suc s) rows least tops (omega (arith, e))
      h.1 c.1,
)

pub numbers_shown : (units : List (FileUnit EntryName)) (rows : List TopFacts) (tops : List Top) → SameRows units rows tops → map (λ (t : Top). t.number) tops ≡ numbers rows
numbers_shown units [] [] h = refl
numbers_shown units [] (t ∷ tops) h = absurd h
numbers_shown units (a ∷ rows) [] h = absurd h
numbers_shown units (a ∷ rows) (t ∷ tops) h = (λ i. sym h.0.number i ∷ numbers_shown units rows tops h.1 i)

pub filter_shown : (units : List (FileUnit EntryName)) (p : TopFacts → Bool) (q : Top → Bool) (rows : List TopFacts) (tops : List Top) → SameRows units rows tops
    → ((a : TopFacts) (t : Top) → In a rows → SameRow units a t → p a ≡ q t) → SameRows units (filter p rows) (filter q tops)
filter_shown units p q [] [] h e = tt
filter_shown units p q [] (t ∷ tops) h e = absurd h
filter_shown units p q (a ∷ rows) [] h e = absurd h
filter_shown units p q (a ∷ rows) (t ∷ tops) h e = by (p a) (q t) (e a t (inl refl) h.0) (filter_shown units p q rows tops h.1 (λ b u is. e b u (inr is)))
  where
    by : (s r : Bool) → s ≡ r → SameRows units (filter p rows) (filter q tops) → SameRows units (cond s (a ∷ filter p rows) (filter p rows)) (cond r (t ∷ filter q tops) (filter q tops))
    by true true e more = (h.0, more)
    by true false e more = absurd cc
    by false true e more = absurd cc
    by false false e more = more

pub map_shown : {X : Type 0} (units : List (FileUnit EntryName)) (f : TopFacts → X) (g : Top → X) (rows : List TopFacts) (tops : List Top) → SameRows units rows tops
    → ((a : TopFacts) (t : Top) → In a rows → SameRow units a t → f a ≡ g t) → map g tops ≡ map f rows
map_shown units f g [] [] h e = refl
map_shown units f g [] (t ∷ tops) h e = absurd h
map_shown units f g (a ∷ rows) [] h e = absurd h
map_shown units f g (a ∷ rows) (t ∷ tops) h e = (λ i. sym (e a t (inl refl) h.0) i ∷ map_shown units f g rows tops h.1 (λ b u is. e b u (inr is)) i)
