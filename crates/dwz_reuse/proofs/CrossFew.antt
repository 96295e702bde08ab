-- A file has no more tops of looks across files than entries.
use Rattle.std.proofs.Common.{ℕ, ◌+◌, ◌≤◌, List, [], ◌∷◌, ◌++◌, length, Option, Some, None, arith}
use Rattle.std.proofs.lemmas.List.{length-append}
use Rattle.dwz_def_reading.specs.Documents.{Compile, DwUnit, Entries, Kind, OfType, Partial}
use Rattle.dwz_def_reading.specs.Meanings.{Around, MeanUnits, scope_of}
use Rattle.dwz_def_reading.specs.Trees.{End, Entry, size}
use Rattle.dwz_def_reading.specs.Units.{RawUnit, entries_in}
use Rattle.dwz_def_tops.specs.Spaces.{space_text}
use Rattle.dwz_def_cross.specs.Tops.{CrossTop}
use Rattle.dwz_def_check.specs.CrossNames.{cross_tops, cross_tops_in, unit_tops}
use Rattle.dwz_graph.proofs.FileRoom.{size_same}

tops_fit : (names : List (List ℕ)) (f : Entries ℕ) → length (cross_tops_in names f) ≤ size f
unfolding cross_tops_in
tops_fit names End = omega arith
tops_fit names (Entry e c n) = by (tops_fit names n) (λ text. tops_fit (names ++ text ∷ []) c) (space_text e) where
  by : length (cross_tops_in names n) ≤ size n → ((text : List ℕ) → length (cross_tops_in (names ++ text ∷ []) c) ≤ size c)
      → (o : Option (List ℕ)) → length (elim o as (λ _. List (CrossTop ℕ)) [
        | None ↦ record { names = names; node = e; below = c } ∷ cross_tops_in names n
        | Some text ↦ cross_tops_in (names ++ text ∷ []) c ++ cross_tops_in names n
      ])
      ≤ size c + size n + 1
  by p q None = omega (arith, p)
  by p q (Some text) = omega (arith, p, q text, length-append (cross_tops_in (names ++ text ∷ []) c) (cross_tops_in names n))

unit_fits : (k : Kind ℕ) (u : DwUnit ℕ) → length (unit_tops k u) ≤ size u.below + 1
unit_fits Compile u = omega (arith, tops_fit [] u.below)
unit_fits (OfType signature main) u = omega arith
unit_fits Partial u = omega (arith, tops_fit [] u.below)

pub cross_fit : (around : Around ℕ) (raw : List RawUnit) (said : List (DwUnit ℕ)) → MeanUnits around raw said → length (cross_tops said) ≤ entries_in raw
unfolding cross_tops entries_in
cross_fit around [] [] h = omega arith
cross_fit around [] (v ∷ said) h = absurd h
cross_fit around (u ∷ raw) [] h = absurd h
cross_fit around (u ∷ raw) (v ∷ said) h =
    omega (
      arith,
      unit_fits v.kind v,
      size_same (scope_of around u) u.below v.below h.0.below,
      cross_fit around raw said h.1,
      length-append (unit_tops v.kind v) (cross_tops said),
    )
