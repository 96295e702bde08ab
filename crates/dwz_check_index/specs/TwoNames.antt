-- What places of two files and of their common one are called.
use Rattle.std.specs.Prelude.{◌≡◌, ℕ, Bool, ◌&&◌, ◌==◌, if◌then◌else◌, List, [], ◌∷◌, ◌++◌, length, Option}
use Rattle.dwz_def_reading.specs.Documents.{Doc}
use Rattle.dwz_def_reading.specs.Finished.{FinishedDocs, ReadFinished}
use Rattle.dwz_def_reading.specs.Lists.{In}
use Rattle.dwz_def_reading.specs.Places.{Place}
use Rattle.dwz_def_cross.specs.Tops.{WithCommon}
use Rattle.dwz_def_check.specs.Answer.{beside_common}
use Rattle.dwz_def_check.specs.CrossNames.{CrossName, PartRoot, cross_names, cross_names_from, cross_tops}
use Rattle.dwz_def_check.specs.CrossNodes.{new_side, old_side, tops_before}

abbrev pub is_place : Place → Place → Bool
is_place p q = p.file == q.file && p.at == q.at

-- the name of the first pair with that place; any name, where there is none
unfoldable pub name_among : List (Place × CrossName) → Place → CrossName
name_among [] p = PartRoot
name_among (x ∷ names) p = if is_place x.0 p then x.1 else name_among names p

-- the places of the entries of two files and of their common one, with their names
abbrev pub names_together : WithCommon Place → WithCommon Place → List (Place × CrossName)
names_together v w =
    cross_names_from 0 0 v.own ++ (cross_names_from 0 (length (cross_tops v.own)) w.own ++ cross_names_from 0 (tops_before v w) v.common)

-- one function names the places of two files that were read, beside a common one or without one
abbrev pub TwoNamesLaw : Type 0
TwoNamesLaw =
    (common : Option (List ℕ)) (files : List (List ℕ)) (said : FinishedDocs) → ReadFinished common files said → (a b : Doc Place)
    → said.docs ≡ a ∷ b ∷ []
    → let v = beside_common said a in
    let w = beside_common said b in
    let name = name_among (names_together v w) in
    ((p : Place) (x : CrossName) → In (p, x) (cross_names (old_side v w name)) → name p ≡ x)
    × ((p : Place) (x : CrossName) → In (p, x) (cross_names (new_side v w name)) → name p ≡ x)
