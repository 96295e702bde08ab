-- What entries that were read are named: a root, a space, or an entry in a top or in a type; no unit, and nothing that is made.
use Rattle.std.proofs.Common.{ℕ, suc, ◌+◌, List, [], ◌∷◌, ◌++◌, length, map, Option, Some, None}
use Rattle.dwz_def_reading.specs.Lists.{Each, In}
use Rattle.dwz_def_reading.specs.Trees.{End, Entry}
use Rattle.dwz_def_reading.specs.Documents.{Compile, Doc, DwUnit, Entries, Kind, OfType, Partial}
use Rattle.dwz_def_tops.specs.Spaces.{space_text, tops_under}
use Rattle.dwz_def_tops.proofs.Members.{each_append, each_in}
use Rattle.dwz_def_tops.specs.Spots.{EntryName, InType, RootOf, SpaceAt, Within, below_spots, entry_spots, top_count, top_spots, tops_among}
use Rattle.dwz_graph.specs.Names.{names_from}
use Rattle.dwz_graph.specs.AllNames.{all_names, names_of_files}
use Rattle.dwz_law_layout.proofs.HeldNames.{each_to_map}

abbrev pub IsOfEntry : EntryName → Type 0
IsOfEntry (Within top path) = Unit {0}
IsOfEntry (RootOf unit) = Unit {0}
IsOfEntry (SpaceAt unit path) = Unit {0}
IsOfEntry (InType unit path) = Unit {0}
IsOfEntry _ = ⊥

abbrev spot_of : ℕ × EntryName → EntryName
spot_of x = x.1

abbrev Names : List (ℕ × EntryName) → Type 0
Names xs = Each (λ x. IsOfEntry x.1) xs

below_names : (name : List ℕ → EntryName) → ((path : List ℕ) → IsOfEntry (name path)) → (path : List ℕ) (i : ℕ) (g : Entries ℕ) → Names (entry_spots name path i g)
unfolding entry_spots
below_names name of path i End = tt
below_names name of path i (Entry e children next) = (
  of (i ∷ path),
  each_append (λ x. IsOfEntry x.1) (entry_spots name (i ∷ path) 0 children) (entry_spots name path (suc i) next) (below_names name of (i ∷ path) 0 children) (below_names name of path (suc i) next),
)

tops_names : (unit : ℕ) (path : List ℕ) (i n : ℕ) (g : Entries ℕ) → Names (top_spots unit path i n g)
unfolding top_spots
tops_names unit path i n End = tt
tops_names unit path i n (Entry e children next) = by (λ m. tops_names unit path (suc i) m next) (tops_names unit (i ∷ path) 0 n children) (space_text e) where
  by : ((m : ℕ) → Names (top_spots unit path (suc i) m next)) → Names (top_spots unit (i ∷ path) 0 n children) → (o : Option (List ℕ)) → Names (elim o as (λ _. List (ℕ × EntryName)) [
    | None ↦ (e.at, Within n []) ∷ entry_spots (Within n) [] 0 children ++ top_spots unit path (suc i) (suc n) next
    | Some text ↦ (e.at, SpaceAt unit (i ∷ path)) ∷ top_spots unit (i ∷ path) 0 n children ++ top_spots unit path (suc i) (n + tops_under children) next
  ])
  by later inside None = (
    tt,
    each_append (λ x. IsOfEntry x.1) (entry_spots (Within n) [] 0 children) (top_spots unit path (suc i) (suc n) next) (below_names (Within n) (λ p. tt) [] 0 children) (later (suc n)),
  )
  by later inside (Some text) = (
    tt,
    each_append (λ x. IsOfEntry x.1) (top_spots unit (i ∷ path) 0 n children) (top_spots unit path (suc i) (n + tops_under children) next) inside (later (n + tops_under children)),
  )

kind_names : (unit top : ℕ) (kind : Kind ℕ) (g : Entries ℕ) → Names (below_spots unit top kind g)
kind_names unit top Compile g = tops_names unit [] 0 top g
kind_names unit top (OfType signature main) g = below_names (InType unit) (λ p. tt) [] 0 g
kind_names unit top Partial g = tt

units_names : (unit top : ℕ) (units : List (DwUnit ℕ)) → Each IsOfEntry (names_from unit top units)
unfolding names_from
units_names unit top [] = tt
units_names unit top (u ∷ units) = (
  tt,
  each_append IsOfEntry (map spot_of (below_spots unit top u.kind u.below)) (names_from (suc unit) (top + top_count u.kind u.below) units)
      (each_to_map spot_of IsOfEntry (below_spots unit top u.kind u.below) (kind_names unit top u.kind u.below)) (units_names (suc unit) (top + top_count u.kind u.below) units),
)

files_names : (unit top : ℕ) (docs : List (Doc ℕ)) → Each IsOfEntry (names_of_files unit top docs)
unfolding names_of_files
files_names unit top [] = tt
files_names unit top (doc ∷ docs) =
    each_append IsOfEntry (names_from unit top doc.units) (names_of_files (unit + length doc.units) (top + tops_among doc.units) docs) (units_names unit top doc.units)
    (files_names (unit + length doc.units) (top + tops_among doc.units) docs)

pub is_of_entry : (docs : List (Doc ℕ)) (s : EntryName) → In s (all_names docs) → IsOfEntry s
is_of_entry docs s there = each_in IsOfEntry s (all_names docs) (files_names 0 0 docs) there
