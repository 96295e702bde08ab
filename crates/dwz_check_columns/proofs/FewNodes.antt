-- A file has no more tops, roots and spaces than entries.
use Rattle.std.proofs.Common.{ℕ, ◌+◌, ◌≤◌, List, [], ◌∷◌, ◌++◌, length, Option, Some, None, arith}
use Rattle.std.proofs.lemmas.List.{length-append}
use Rattle.dwz_def_reading.specs.Documents.{Compile, DwUnit, Entries, Kind, Node, OfType, Partial}
use Rattle.dwz_def_reading.specs.Meanings.{Around, MeanUnits, scope_of}
use Rattle.dwz_def_reading.specs.Trees.{End, Entry, size}
use Rattle.dwz_def_reading.specs.Units.{RawUnit, entries_in}
use Rattle.dwz_def_tops.specs.Spaces.{space_text}
use Rattle.dwz_def_cross.specs.Tops.{CrossTop}
use Rattle.dwz_def_check.specs.CrossNames.{cross_tops, cross_tops_in, unit_tops}
use Rattle.dwz_def_check.specs.CrossNodes.{lone_entries, lone_of, spaces_in}
use Rattle.dwz_graph.proofs.ListMeans.{means_size}

tops_fit : {P : Type 0} (names : List (List ℕ)) (f : Entries P) → length (cross_tops_in names f) + length (spaces_in f) ≤ size f
unfolding cross_tops_in spaces_in
tops_fit names End = omega arith
tops_fit {P} names (Entry e c n) = by (tops_fit names n) (λ text. tops_fit (names ++ text ∷ []) c) (space_text e) where
  by : length (cross_tops_in names n) + length (spaces_in n) ≤ size n → ((text : List ℕ) → length (cross_tops_in (names ++ text ∷ []) c) + length (spaces_in c) ≤ size c)
      → (o : Option (List ℕ)) → length (elim o as (λ _. List (CrossTop P)) [
        | None ↦ record { names = names; node = e; below = c } ∷ cross_tops_in names n
        | Some text ↦ cross_tops_in (names ++ text ∷ []) c ++ cross_tops_in names n
      ])
      + length (elim o as (λ _. List (Node P)) [ None ↦ spaces_in n | Some text ↦ e ∷ (spaces_in c ++ spaces_in n) ]) ≤ size c + size n + 1
  by p q None = omega (arith, p)
  by p q (Some text) = omega (arith, p, q text, length-append (cross_tops_in (names ++ text ∷ []) c) (cross_tops_in names n), length-append (spaces_in c) (spaces_in n))

unit_fits : {P : Type 0} (k : Kind P) (u : DwUnit P) → length (unit_tops k u) + length (lone_of k u) ≤ size u.below + 1
unit_fits Compile u = omega (arith, tops_fit [] u.below)
unit_fits (OfType signature main) u = omega arith
unit_fits Partial u = omega (arith, tops_fit [] u.below)

pub nodes_fit : (around : Around ℕ) (raw : List RawUnit) (said : List (DwUnit ℕ)) → MeanUnits around raw said → length (cross_tops said) + length (lone_entries said) ≤ entries_in raw
unfolding cross_tops lone_entries entries_in
nodes_fit around [] [] h = omega arith
nodes_fit around [] (v ∷ said) h = absurd h
nodes_fit around (u ∷ raw) [] h = absurd h
nodes_fit around (u ∷ raw) (v ∷ said) h =
    omega (
      arith,
      unit_fits v.kind v,
      means_size (scope_of around u) u.below v.below h.0.below,
      nodes_fit around raw said h.1,
      length-append (unit_tops v.kind v) (cross_tops said),
      length-append (lone_of v.kind v) (lone_entries said),
    )
