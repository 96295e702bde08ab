-- Inner: some of the files, and what units name.
use Rattle.std.specs.Prelude.{◌≡◌, ◌⊎◌, ℕ, Bool, List, [], ◌∷◌}
use Rattle.std.specs.List.{filter}
use Rattle.dwz_def_reading.specs.Documents.{DwUnit, OfType}
use Rattle.dwz_def_reading.specs.Lists.{Each, In}
use Rattle.dwz_def_tops.specs.Spots.{EntryName, same_spot}
use Rattle.dwz_def_tops.specs.Lists.{NoneTwice}
use Rattle.dwz_def_tops.specs.Seen.{Named, Seen, all_seen}
use Rattle.dwz_def_encoding.specs.Fitting.{UnitHasRoom}
use Rattle.dwz_def_encoding.specs.Placing.{FileOut, files_keys, numbering, sections}
use Rattle.dwz_def_encoding.specs.Writing.{Numbering}

-- the first are some of the others, in their order
abbrev pub AreSome : {X : Type 0} → List X → List X → Type 0
AreSome [] all = Unit {0}
AreSome (x ∷ some) [] = ⊥
AreSome (x ∷ some) (y ∷ all) = ((y ≡ x) × AreSome some all) ⊎ AreSome (x ∷ some) all

-- each entry that these units refer to, and the type of each type unit, has one of these names
pub record NameOnly {K : Type 0} (names : List K) (units : List (DwUnit K)) : Type 0 where
  pub refs : (e : Seen K) (a : Named K) (k : K) → In e (all_seen units) → In a e.attrs → In k a.value.refs → In k names
  pub mains : (u : DwUnit K) (signature : ℕ) (main : K) → In u units → u.kind ≡ OfType signature main → In main names

-- both give the same place to each of these names
abbrev pub AgreeOn : {K : Type 0} → List K → Numbering K → Numbering K → Type 0
AgreeOn {K} names m n = (k : K) → In k names → m.place k ≡ n.place k

-- where no name stands twice in all files, none does in some of them
abbrev pub SomeOnceLaw : Type 0
SomeOnceLaw = (all some : List (FileOut EntryName)) → AreSome some all → NoneTwice (files_keys all) → NoneTwice (files_keys some)

-- and then each name of some has there the place that it has among all
abbrev pub SomePlacesLaw : Type 0
SomePlacesLaw =
    (all some : List (FileOut EntryName)) → ((f : FileOut EntryName) → In f some → In f all) → NoneTwice (files_keys all)
    → AgreeOn (files_keys some) (numbering same_spot some) (numbering same_spot all)

-- units whose names, and all that they name, have the same places have the same sections
abbrev pub SameSectionsLaw : Type 0
SameSectionsLaw =
    (names : List EntryName) (m n : Numbering EntryName) (units : List (DwUnit EntryName)) → AgreeOn names m n
    → ((u : DwUnit EntryName) → In u units → In u.at names) → NameOnly names units → sections m units ≡ sections n units

-- and where operands have room for their numbers under one, they have it under the other
abbrev pub SameRoomLaw : Type 0
SameRoomLaw =
    (names : List EntryName) (m n : Numbering EntryName) (units : List (DwUnit EntryName)) → AgreeOn names m n
    → ((u : DwUnit EntryName) → In u units → In u.at names) → NameOnly names units → Each (UnitHasRoom m) units → Each (UnitHasRoom n) units

-- those that pass a test are some of all
abbrev pub FilterSomeLaw : Type 0
FilterSomeLaw = (passes : ℕ → Bool) (all : List ℕ) → AreSome (filter passes all) all
