-- Nodes of tops and the least alike tops, and laws on these.
use Rattle.std.specs.Prelude.{ℕ, Bool, List, map}
use Rattle.dwz_def_tops.specs.Alike.{Apart, Together}
use Rattle.dwz_def_tops.specs.Deciding.{AreMovable, alike_test}
use Rattle.dwz_def_tops.specs.Spots.{EntryName, FileUnit}
use Rattle.dwz_groups.specs.declared.tops.Tops.{Tops}
use Rattle.dwz_label.specs.Nodes.{AreLeast, AreTopNodes}
use Rattle.dwz_label_marks.specs.Shown.{ShowApart}
use Rattle.dwz_nodes.specs.Graph.{Node}
use Rattle.dwz_plan.specs.declared.plan.Scope.TheVariants.{Each, Together as AllTogether}
use Rattle.dwz_plan.specs.Shows.{HaveLeast, ShowsTops}

-- of whichever units the lists show the tops, labels telling them apart, these are their nodes
abbrev pub GivesNodes : List (List ℕ) → List Bool → List (List ℕ) → List Node → Type 0
GivesNodes labels movable targets g = (units : List (FileUnit EntryName)) → ShowApart units labels movable targets → AreTopNodes units g

-- of whichever units the lists show the tops, labels telling them apart, these are the least alike ones
abbrev pub GivesLeast : List (List ℕ) → List Bool → List (List ℕ) → List ℕ → Type 0
GivesLeast labels movable targets least = (units : List (FileUnit EntryName)) → ShowApart units labels movable targets → AreLeast units least

-- which tops the rows say may move
abbrev pub flags_of : Tops → List Bool
flags_of tops = map (λ row. row.movable) tops.rows

-- all files are one scope
abbrev pub TogetherPlanLaw : Type 0
TogetherPlanLaw =
    (units : List (FileUnit EntryName)) (tops : Tops) (least : List ℕ) → ShowsTops units tops
    → AreMovable units (flags_of tops) → AreLeast units least → HaveLeast AllTogether tops least (alike_test Together units)

-- each file is one
abbrev pub ApartPlanLaw : Type 0
ApartPlanLaw =
    (units : List (FileUnit EntryName)) (tops : Tops) (least : List ℕ) → ShowsTops units tops
    → AreMovable units (flags_of tops) → AreLeast units least → HaveLeast Each tops least (alike_test Apart units)
