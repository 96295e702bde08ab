-- The paths of a tree's entries in preorder: they name them, and trees of one shape have the same.
use Rattle.std.proofs.Common.{◌≡◌, ℕ, suc, List, [], ◌∷◌, ◌++◌, map, refl, sym, ap, ◌∙◌}
use Rattle.std.proofs.lemmas.List.{map-append}
use Rattle.dwz_def_reading.specs.Trees.{End, Entry}
use Rattle.dwz_def_reading.specs.Documents.{Entries, entries_map}
use Rattle.dwz_def_tops.specs.Alike.{SameEntries}
use Rattle.dwz_def_tops.specs.Spots.{EntryName, entry_spots}
use Rattle.dwz_layout_numbers.specs.Images.{SameShape}

abbrev pub spot_of : ℕ × EntryName → EntryName
spot_of x = x.1

-- by the path of what is above them, and the index of the first
unfoldable pub paths_in : {P : Type 0} → List ℕ → ℕ → Entries P → List (List ℕ)
paths_in path i End = []
paths_in path i (Entry e children next) = (i ∷ path) ∷ (paths_in (i ∷ path) 0 children ++ paths_in path (suc i) next)

-- of an entry with all below it
abbrev pub paths_of : {P : Type 0} → Entries P → List (List ℕ)
paths_of f = [] ∷ paths_in [] 0 f

pub names_paths : (name : List ℕ → EntryName) (path : List ℕ) (i : ℕ) (f : Entries ℕ) → map spot_of (entry_spots name path i f) ≡ map name (paths_in path i f)
unfolding entry_spots paths_in
names_paths name path i End = refl
names_paths name path i (Entry e c n) =
    let a = entry_spots name (i ∷ path) 0 c in
    let b = entry_spots name path (suc i) n in
    ap (λ (w : List EntryName). name (i ∷ path) ∷ w)
    (map-append spot_of a b ∙ (λ j. names_paths name (i ∷ path) 0 c j ++ names_paths name path (suc i) n j) ∙ sym (map-append name (paths_in (i ∷ path) 0 c) (paths_in path (suc i) n)))

pub paths_map : {P Q : Type 0} (g : P → Q) (path : List ℕ) (i : ℕ) (f : Entries P) → paths_in path i (entries_map g f) ≡ paths_in path i f
unfolding paths_in entries_map
paths_map g path i End = refl
paths_map g path i (Entry e c n) = (λ j. (i ∷ path) ∷ (paths_map g (i ∷ path) 0 c j ++ paths_map g path (suc i) n j))

pub shape_paths : (path : List ℕ) (i : ℕ) (f g : Entries EntryName) → SameShape f g → paths_in path i f ≡ paths_in path i g
unfolding paths_in
shape_paths path i End End h = refl
shape_paths path i End (Entry e c n) h = absurd h
shape_paths path i (Entry e c n) End h = absurd h
shape_paths path i (Entry d c n) (Entry e c' n') h = (λ j. (i ∷ path) ∷ (shape_paths (i ∷ path) 0 c c' h.0 j ++ shape_paths path (suc i) n n' h.1 j))

-- alike trees have one shape
pub shape_same : (R : ℕ → ℕ → Type 0) (f g : Entries EntryName) → SameEntries R f g → SameShape f g
shape_same R End End h = tt
shape_same R End (Entry e c n) h = absurd h
shape_same R (Entry e c n) End h = absurd h
shape_same R (Entry d c n) (Entry e c' n') h = (shape_same R c c' h.1, shape_same R n n' h.2)

pub shape_self : (f : Entries EntryName) → SameShape f f
shape_self End = tt
shape_self (Entry e c n) = (shape_self c, shape_self n)
