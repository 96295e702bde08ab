-- Each name of an entry is of one of four kinds.
use Rattle.std.proofs.Common.{ℕ, suc, ◌+◌, List, [], ◌∷◌, ◌++◌, length, map, Option, Some, None}
use Rattle.dwz_def_reading.specs.Lists.{Each, In}
use Rattle.dwz_def_reading.specs.Trees.{End, Entry}
use Rattle.dwz_def_reading.specs.Documents.{Compile, Doc, DwUnit, Entries, Kind, OfType, Partial}
use Rattle.dwz_def_tops.specs.Spaces.{space_text, tops_under}
use Rattle.dwz_def_tops.proofs.Members.{each_append, each_in}
use Rattle.dwz_def_tops.specs.Spots.{EntryName, InType, SpaceAt, Within, below_spots, entry_spots, top_count, top_spots, tops_among}
use Rattle.dwz_graph.specs.Names.{names_from}
use Rattle.dwz_graph.specs.AllNames.{all_names, names_of_files}
use Rattle.dwz_law_layout.specs.Apart.{IsEntryName}

abbrev Named : ℕ × EntryName → Type 0
Named x = IsEntryName x.1

each_second : (spots : List (ℕ × EntryName)) → Each Named spots → Each IsEntryName (map (λ x. x.1) spots)
each_second [] all = tt
each_second (x ∷ spots) all = (all.0, each_second spots all.1)

entries_named : (name : List ℕ → EntryName) → ((path : List ℕ) → IsEntryName (name path)) → (path : List ℕ) (i : ℕ) (g : Entries ℕ) → Each Named (entry_spots name path i g)
unfolding entry_spots
entries_named name good path i End = tt
entries_named name good path i (Entry e children next) = (
  good (i ∷ path),
  each_append Named (entry_spots name (i ∷ path) 0 children) (entry_spots name path (suc i) next) (entries_named name good (i ∷ path) 0 children) (entries_named name good path (suc i) next),
)

tops_named : (unit : ℕ) (path : List ℕ) (i n : ℕ) (g : Entries ℕ) → Each Named (top_spots unit path i n g)
unfolding top_spots
tops_named unit path i n End = tt
tops_named unit path i n (Entry e children next) =
    by (tops_named unit path (suc i) (suc n) next) (tops_named unit (i ∷ path) 0 n children) (tops_named unit path (suc i) (n + tops_under children) next) (space_text e)
  where
    by : Each Named (top_spots unit path (suc i) (suc n) next) → Each Named (top_spots unit (i ∷ path) 0 n children) → Each Named (top_spots unit path (suc i) (n + tops_under children) next)
        → (o : Option (List ℕ)) → Each Named (elim o as (λ _. List (ℕ × EntryName)) [
          | None ↦ (e.at, Within n []) ∷ entry_spots (Within n) [] 0 children ++ top_spots unit path (suc i) (suc n) next
          | Some text ↦ (e.at, SpaceAt unit (i ∷ path)) ∷ top_spots unit (i ∷ path) 0 n children ++ top_spots unit path (suc i) (n + tops_under children) next
        ])
    by a b c None = (tt, each_append Named (entry_spots (Within n) [] 0 children) (top_spots unit path (suc i) (suc n) next) (entries_named (Within n) (λ p. tt) [] 0 children) a)
    by a b c (Some text) = (tt, each_append Named (top_spots unit (i ∷ path) 0 n children) (top_spots unit path (suc i) (n + tops_under children) next) b c)

below_named : (unit top : ℕ) (kind : Kind ℕ) (below : Entries ℕ) → Each Named (below_spots unit top kind below)
below_named unit top Compile below = tops_named unit [] 0 top below
below_named unit top (OfType signature main) below = entries_named (InType unit) (λ p. tt) [] 0 below
below_named unit top Partial below = tt

units_named : (unit top : ℕ) (units : List (DwUnit ℕ)) → Each IsEntryName (names_from unit top units)
unfolding names_from
units_named unit top [] = tt
units_named unit top (u ∷ units) = (
  tt,
  each_append IsEntryName (map (λ x. x.1) (below_spots unit top u.kind u.below)) (names_from (suc unit) (top + top_count u.kind u.below) units)
      (each_second (below_spots unit top u.kind u.below) (below_named unit top u.kind u.below)) (units_named (suc unit) (top + top_count u.kind u.below) units),
)

files_named : (unit top : ℕ) (docs : List (Doc ℕ)) → Each IsEntryName (names_of_files unit top docs)
unfolding names_of_files
files_named unit top [] = tt
files_named unit top (doc ∷ docs) =
    each_append IsEntryName (names_from unit top doc.units) (names_of_files (unit + length doc.units) (top + tops_among doc.units) docs) (units_named unit top doc.units)
    (files_named (unit + length doc.units) (top + tops_among doc.units) docs)

pub entry_named : (docs : List (Doc ℕ)) (s : EntryName) → In s (all_names docs) → IsEntryName s
entry_named docs s there = each_in IsEntryName s (all_names docs) (files_named 0 0 docs) there
