-- What is answered on two files: they mean the same, or have another number of units, or which units are the first that don't mean the same.
use Rattle.std.specs.Prelude.{◌≡◌, ℕ, zero, suc, List, [], ◌∷◌, length, Option, Some, None}
use Rattle.dwz_def_reading.specs.Documents.{Doc, DwUnit}
use Rattle.dwz_def_reading.specs.Finished.{FinishedDocs}
use Rattle.dwz_def_reading.specs.Places.{Place}
use Rattle.dwz_def_cross.specs.Tops.{WithCommon, whole_units}
use Rattle.dwz_def_cross.specs.CrossSame.{EachTwo, UnitsAlike}
use Rattle.dwz_def_check.specs.declared.same.Same.{Same}
use Rattle.dwz_def_check.specs.declared.same.Same.TheVariants.{Unit as OneUnit, Units, Yes}

-- so many pairs in front are related, and the next two aren't
abbrev pub FirstApart : {X Y : Type 0} → (X → Y → Type 0) → List X → List Y → ℕ → Type 0
FirstApart R (x ∷ xs) (y ∷ ys) zero = R x y → ⊥
FirstApart R (x ∷ xs) (y ∷ ys) (suc n) = R x y × FirstApart R xs ys n
FirstApart R _ _ n = ⊥

-- what is said of two lists, where R holds of items that are the same
abbrev pub SameBy : {X Y : Type 0} → (X → Y → Type 0) → List X → List Y → Same → Type 0
SameBy R xs ys Yes = EachTwo R xs ys
SameBy R xs ys (Units first second) = (length xs ≡ first) × (length ys ≡ second) × (first ≡ second → ⊥)
SameBy R xs ys (OneUnit n) = (length xs ≡ length ys) × FirstApart R xs ys n

-- the units of a file that was read beside a finished common one, or without one
abbrev pub units_of_common : Option (Doc Place) → List (DwUnit Place)
units_of_common None = []
units_of_common (Some doc) = doc.units

abbrev pub beside_common : FinishedDocs → Doc Place → WithCommon Place
beside_common said doc = record { own = doc.units; common = units_of_common said.common }

-- what is said of two files: just where `Yes` is said, they mean the same (`CrossSame`)
abbrev pub IsSameAnswer : {P Q : Type 0} → WithCommon P → WithCommon Q → Same → Type 0
IsSameAnswer v w same = SameBy (UnitsAlike v w) (whole_units v.own) (whole_units w.own) same

-- R holds of two, and there are no more
abbrev pub OfTwo : {X : Type 0} → (X → X → Type 0) → List X → Type 0
OfTwo R (x ∷ y ∷ []) = R x y
OfTwo R _ = ⊥

-- what is said of two files that were read, beside a common one or without one: the answer on their documents, the old one first
abbrev pub IsSameOf : FinishedDocs → Same → Type 0
IsSameOf said same = OfTwo (λ old new. IsSameAnswer (beside_common said old) (beside_common said new) same) said.docs

-- there is one answer at most
abbrev pub OneSameLaw : Type 0 → Type 0 → Type 0
OneSameLaw P Q = (v : WithCommon P) (w : WithCommon Q) (a b : Same) → IsSameAnswer v w a → IsSameAnswer v w b → a ≡ b
