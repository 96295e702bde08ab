-- Rows of tops that show files with a finished common file beside them.
use Rattle.std.specs.Prelude.{◌≡◌, ◌↔◌, ◌⊎◌, ℕ, ◌<◌, true, List, Option, length, slice_index}
use Rattle.std.specs.Option.{is_some}
use Rattle.dwz_def_reading.specs.Lists.{In}
use Rattle.dwz_def_tops.specs.Alike.{Alike, Movable, refers_to}
use Rattle.dwz_def_tops.specs.Spots.{Top, tops_of}
use Rattle.dwz_def_taken.specs.Beside.{CommonAlike, Reused}
use Rattle.dwz_def_taken.specs.Takes.{HasSpace, InPart, IsTaken, PartRefers}
use Rattle.dwz_takes.specs.declared.rows.Rows.{Rows}
use Rattle.dwz_takes.specs.Images.{choice_at}
use Rattle.dwz_takes.specs.Takes.{class_of, list_at}

-- a top of the files with that number stands in that unit
abbrev pub StandsIn : Reused → ℕ → ℕ → Top → Type 0
StandsIn r u t top = In top (tops_of r.units) × (top.unit ≡ u) × (top.number ≡ t)

-- Of each unit the rows have tops that stand in it, among them each that is alike to some top of the common file; of each partial unit just
-- its tops. Of these tops the class tells which are alike. They have the name lists of spaces, each under one number, of units that have such
-- a top and of partial units, and what partial units refer to. Units behind those of the files have nothing.
pub record ShowReused (r : Reused) (name : ℕ → List (List ℕ)) (rows : Rows) : Type 0 where
  pub parts : length rows.part_tops ≡ length r.commons
  pub unit_tops : (u t : ℕ) → In t (list_at rows.unit_tops u) → (top : Top) × StandsIn r u t top
  pub alike_tops : (top : Top) → In top (tops_of r.units) → (c : ℕ) → CommonAlike r top.number c → In top.number (list_at rows.unit_tops top.unit)
  pub units : (top : Top) → In top (tops_of r.units) → top.unit < length r.units
  pub part_tops : (p c : ℕ) → In c (list_at rows.part_tops p) ↔ ((top : Top) × InPart r p top × (top.number ≡ c))
  pub classes : (u t p c : ℕ) → In t (list_at rows.unit_tops u) → In c (list_at rows.part_tops p) → (class_of rows t ≡ class_of rows c) ↔ CommonAlike r t c
  pub unit_names : (u t n : ℕ) → In t (list_at rows.unit_tops u) → In n (list_at rows.unit_names u) ↔ HasSpace r.units u (name n)
  pub part_names : (p n : ℕ) → In n (list_at rows.part_names p) ↔ HasSpace r.commons p (name n)
  pub named : (p : ℕ) (names : List (List ℕ)) → HasSpace r.commons p names → (n : ℕ) × (name n ≡ names)
  pub part_targets : (p q : ℕ) → In q (list_at rows.part_targets p) ↔ PartRefers r p q

-- Of each top of the files rows have a number that just its kin have: itself, and those alike to it in its file; whether it is taken, which
-- no top is that doesn't move; and what it refers into. What is kin to a top that is taken is a top of the files too.
pub record ShowKin (r : Reused) (kin : List ℕ) (images : List (Option ℕ)) (targets : List (List ℕ)) : Type 0 where
  pub there : (t : Top) → In t (tops_of r.units) → t.number < length kin
  pub same : (t : Top) → In t (tops_of r.units) → (n : ℕ) → n < length kin → slice_index kin n ≡ slice_index kin t.number
      → (a : Top) × In a (tops_of r.units) × (a.number ≡ n) × (a.file ≡ t.file) × ((a.number ≡ t.number) ⊎ Alike r.units t.number a.number)
  pub alike : (t a : Top) → In t (tops_of r.units) → In a (tops_of r.units) → a.file ≡ t.file → Alike r.units t.number a.number
      → slice_index kin a.number ≡ slice_index kin t.number
  pub taken : (t : Top) → In t (tops_of r.units) → (is_some (choice_at images t.number) ≡ true) ↔ IsTaken r t
  pub movable : (t : Top) → In t (tops_of r.units) → IsTaken r t → Movable r.units t.number
  pub others : (n a : ℕ) → n < length kin → a < length kin → slice_index kin a ≡ slice_index kin n → is_some (choice_at images a) ≡ true
      → (t : Top) × In t (tops_of r.units) × (t.number ≡ n)
  pub refers : (n m : ℕ) → In m (list_at targets n) ↔ ((t : Top) × In t (tops_of r.units) × (t.number ≡ n) × (refers_to m t ≡ true))
