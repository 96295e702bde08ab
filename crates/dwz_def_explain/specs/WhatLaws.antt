-- Inner: laws on what differs between two tops, and on what is said of them.
use Rattle.std.specs.Prelude.{◌≡◌, ◌⊎◌, List}
use Rattle.dwz_model.specs.Lists.{In}
use Rattle.dwz_def_tops.specs.Alike.{Movable, SameTop}
use Rattle.dwz_def_tops.specs.Spots.{EntryName, FileUnit, Top, tops_of}
use Rattle.dwz_def_explain.specs.Chain.{DifferThemselves, Whichever}
use Rattle.dwz_def_explain.specs.Explained.{IsExplained}
use Rattle.dwz_def_explain.specs.What.{IsWhat}
use Rattle.dwz_def_explain.specs.declared.verdict.Verdict.{Verdict}
use Rattle.dwz_def_explain.specs.declared.verdict.What.{What}

-- what differs tells the two tops apart
abbrev pub WhatTellsLaw : Type 0
WhatTellsLaw = (a b : Top) (what : What) → IsWhat a b what → DifferThemselves a b

-- two tops are the same by themselves, or something differs
abbrev pub SameOrWhatLaw : Type 0
SameOrWhatLaw = (a b : Top) → SameTop Whichever a b ⊎ ((what : What) × IsWhat a b what)

-- and it is one thing alone
abbrev pub OneWhatLaw : Type 0
OneWhatLaw = (a b : Top) (what other : What) → IsWhat a b what → IsWhat a b other → what ≡ other

-- there is one verdict at most
abbrev pub OneVerdictLaw : Type 0
OneVerdictLaw =
    (units : List (FileUnit EntryName)) (a b : Top) → In a (tops_of units) → In b (tops_of units)
    → (verdict other : Verdict) → IsExplained units a b verdict → IsExplained units a b other → verdict ≡ other

-- of two tops that may move there is one
abbrev pub SomeVerdictLaw : Type 0
SomeVerdictLaw =
    (units : List (FileUnit EntryName)) (a b : Top) → In a (tops_of units) → In b (tops_of units)
    → Movable units a.number → Movable units b.number → (verdict : Verdict) × IsExplained units a b verdict
