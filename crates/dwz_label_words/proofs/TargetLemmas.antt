-- What is told of an entry that is named.
use Rattle.std.proofs.Common.{◌≡◌, ℕ, suc, List, [], ◌∷◌, length, map, Some, None, refl, ap, ◌∙◌}
use Rattle.dwz_def_tops.specs.Spots.{EntryName, Import, InChain, InType, PartialOf, PartialRoot, RootOf, SpaceAt, UnitOf, Within}
use Rattle.dwz_graph.specs.Names.{path_in, top_in}
use Rattle.dwz_label_marks.specs.Marks.{Plainly, target_marks}

pub no_path : (s : EntryName) → top_in s ≡ None → target_marks s ≡ Plainly 0 ∷ []
no_path (Within top path) e = absurd cc
no_path (UnitOf n) e = refl
no_path (RootOf n) e = refl
no_path (SpaceAt n path) e = refl
no_path (InType n path) e = refl
no_path (PartialOf n) e = refl
no_path (PartialRoot n) e = refl
no_path (InChain part chain depth) e = refl
no_path (Import unit part) e = refl

pub some_path : (s : EntryName) (top : ℕ) → top_in s ≡ Some top → target_marks s ≡ Plainly (suc (length (path_in s))) ∷ map Plainly (path_in s)
some_path (Within top path) n e = refl
some_path (UnitOf m) n e = absurd cc
some_path (RootOf m) n e = absurd cc
some_path (SpaceAt m path) n e = absurd cc
some_path (InType m path) n e = absurd cc
some_path (PartialOf m) n e = absurd cc
some_path (PartialRoot m) n e = absurd cc
some_path (InChain part chain depth) n e = absurd cc
some_path (Import unit part) n e = absurd cc

-- an entry that is a top itself has an empty path
pub top_marks : (s : EntryName) (top : ℕ) → top_in s ≡ Some top → path_in s ≡ [] → target_marks s ≡ Plainly 1 ∷ []
top_marks s top e none = some_path s top e ∙ ap (λ (path : List ℕ). Plainly (suc (length path)) ∷ map Plainly path) none
