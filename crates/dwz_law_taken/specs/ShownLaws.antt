-- What rows that show files with a finished common file beside them say of it.
use Rattle.std.specs.Prelude.{◌↔◌, ℕ, Bool, List, Option}
use Rattle.dwz_def_reading.specs.Lists.{In}
use Rattle.dwz_def_tops.specs.Spots.{Top, tops_of}
use Rattle.dwz_def_taken.specs.Beside.{Reused}
use Rattle.dwz_def_taken.specs.Takes.{Blocked, IsImage, IsTaken, Takes}
use Rattle.dwz_takes.specs.declared.rows.Rows.{Rows}
use Rattle.dwz_groups.specs.Spreading.{IsMarked}
use Rattle.dwz_takes.specs.Blocked.{AreBlocked}
use Rattle.dwz_takes.specs.Images.{IsImageOf, StandsFor}
use Rattle.dwz_takes.specs.Takes.{AreTakes, class_of, list_at}
use Rattle.dwz_law_taken.specs.Shown.{ShowKin, ShowReused}

-- the lists of rows are those that IsFixed asks for
abbrev pub TakesLaw : Type 0
TakesLaw =
    (r : Reused) (name : ℕ → List (List ℕ)) (rows : Rows) (takes : List (List ℕ)) → ShowReused r name rows → AreTakes rows takes
    → (u p : ℕ) → In p (list_at takes u) ↔ Takes r u p

-- what stands for a top of a unit is what it is taken as
abbrev pub TakenLaw : Type 0
TakenLaw =
    (r : Reused) (name : ℕ → List (List ℕ)) (rows : Rows) → ShowReused r name rows
    → (t : Top) → In t (tops_of r.units) → In t.number (list_at rows.unit_tops t.unit)
    → IsTaken r t ↔ ((c : ℕ) × StandsFor rows t.unit (class_of rows t.number) c)

-- so its image is the image
abbrev pub ImagesLaw : Type 0
ImagesLaw =
    (r : Reused) (name : ℕ → List (List ℕ)) (rows : Rows) → ShowReused r name rows
    → (t : Top) → In t (tops_of r.units) → In t.number (list_at rows.unit_tops t.unit)
    → (n : ℕ) → IsImageOf rows t.unit (class_of rows t.number) n → IsImage r t n

-- just the tops are blocked that have to stay by the rows
abbrev pub BlockedLaw : Type 0
BlockedLaw =
    (r : Reused) (kin : List ℕ) (images : List (Option ℕ)) (targets : List (List ℕ)) (blocked : List Bool) → ShowKin r kin images targets
    → AreBlocked kin images targets blocked → (n : ℕ) → IsMarked blocked n ↔ ((k : ℕ) × Blocked r k n)
