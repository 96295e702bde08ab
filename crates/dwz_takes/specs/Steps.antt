-- The steps by which it is found what units take: turned lists, marks, who looks at a partial unit, and what is missed.
use Rattle.std.specs.Prelude.{◌≡◌, ◌↔◌, ◌⊎◌, ℕ, suc, ◌+◌, ◌<◌, ◌≤◌, Bool, true, false, List, [], ◌∷◌, ◌++◌, length, map, slice_index}
use Rattle.dwz_model.specs.Lists.{In}
use Rattle.dwz_groups.specs.declared.groups.Edge.{Edge}
use Rattle.dwz_groups.specs.Spreading.{IsMarked}
use Rattle.dwz_takes.specs.declared.rows.Rows.{Rows}
use Rattle.dwz_takes.specs.Takes.{FitsIn, HasClass, TakesPart, class_of, list_at}

-- ---- lists turned round

-- an edge for each number of each list, from the number of the list, of which the first is the s-th, and that number
abbrev pub edges_from : (ℕ → ℕ → Edge) → ℕ → List (List ℕ) → List Edge
edges_from f s [] = []
edges_from f s (xs ∷ lists) = map (f s) xs ++ edges_from f (suc s) lists

abbrev pub turned : ℕ → ℕ → Edge
turned n x = record { key = x; value = n }

-- under each number below the count stand the lists in which it is
pub record AreTurned (count : ℕ) (lists turned : List (List ℕ)) : Type 0 where
  pub len : length turned ≡ count
  pub each : (x n : ℕ) → In n (list_at turned x) ↔ In x (list_at lists n)

-- ---- the units that have a class

abbrev pub held : List ℕ → ℕ → ℕ → Edge
held classes u t = record { key = slice_index classes t; value = u }

-- under each class stand the units that have it
pub record AreHolders (rows : Rows) (holders : List (List ℕ)) : Type 0 where
  pub len : length holders ≡ length rows.classes
  pub each : (k u : ℕ) → In u (list_at holders k) ↔ HasClass rows u k

-- ---- who looks at a partial unit

-- the class is that of one of the tops, and of all of these the one that the fewest units have
pub record IsRarest (holders : List (List ℕ)) (classes tops : List ℕ) (k : ℕ) : Type 0 where
  pub one : (t : ℕ) × In t tops × (slice_index classes t ≡ k)
  pub least : (t : ℕ) → In t tops → length (list_at holders k) ≤ length (list_at holders (slice_index classes t))

-- under each class stand partial units of which it is the rarest, and each that has a top stands under one
pub record AreWatched (rows : Rows) (holders : List (List ℕ)) (edges : List Edge) (count : ℕ) : Type 0 where
  pub part : (e : Edge) → In e edges → e.value < count
  pub rarest : (e : Edge) → In e edges → IsRarest holders rows.classes (list_at rows.part_tops e.value) e.key
  pub found : (p : ℕ) → p < count → (t : ℕ) → In t (list_at rows.part_tops p) → (e : Edge) × In e edges × (e.value ≡ p)

pub record AreWatchers (rows : Rows) (holders watchers : List (List ℕ)) : Type 0 where
  pub len : length watchers ≡ length rows.classes
  pub part : (k p : ℕ) → In p (list_at watchers k) → p < length rows.part_tops
  pub rarest : (k p : ℕ) → In p (list_at watchers k) → IsRarest holders rows.classes (list_at rows.part_tops p) k
  pub found : (p t : ℕ) → In t (list_at rows.part_tops p) → (k : ℕ) × In p (list_at watchers k)

-- ---- marks

abbrev pub AreClear : List Bool → Type 0
AreClear flags = (n : ℕ) → IsMarked flags n → ⊥

-- just those of the list are marked
abbrev pub AreMarked : List ℕ → List Bool → Type 0
AreMarked list flags = (n : ℕ) → IsMarked flags n ↔ In n list

-- The partial unit has a top, the names of its spaces are marked, and the classes of its tops are.
pub record IsMarkedWhole (rows : Rows) (classes names : List Bool) (p : ℕ) : Type 0 where
  pub some : (c : ℕ) × In c (list_at rows.part_tops p)
  pub spaces : (n : ℕ) → In n (list_at rows.part_names p) → IsMarked names n
  pub tops : (c : ℕ) → In c (list_at rows.part_tops p) → IsMarked classes (class_of rows c)

-- ---- what is missed

-- how many are marked
unfoldable pub marked : List Bool → ℕ
marked [] = 0
marked (true ∷ flags) = suc (marked flags)
marked (false ∷ flags) = marked flags

-- no mark is left on those of the list; those that lost it are left to do
pub record Drops (list : List ℕ) (old : List Bool) (work : List ℕ) (new : List Bool) (more : List ℕ) : Type 0 where
  pub len : length new ≡ length old
  pub only : (n : ℕ) → IsMarked new n → IsMarked old n × (In n list → ⊥)
  pub kept : (n : ℕ) → IsMarked old n → IsMarked new n ⊎ (In n list × In n more)
  pub queued : (n : ℕ) → In n work → In n more
  pub from : (n : ℕ) → In n more → In n work ⊎ In n list
  pub count : length more + marked new ≡ length work + marked old

-- these are what the unit can take by itself, and just they are marked
pub record AreFits (rows : Rows) (u : ℕ) (fits : List ℕ) (flags : List Bool) : Type 0 where
  pub each : (p : ℕ) → In p fits ↔ FitsIn rows u p
  pub marked : AreMarked fits flags

-- What is marked the unit can take by itself, and refers to what is marked, or left to do; what it takes is marked, and what is left to do it
-- doesn't take.
pub record IsDropping (rows : Rows) (u : ℕ) (flags : List Bool) (work : List ℕ) : Type 0 where
  pub fits : (p : ℕ) → IsMarked flags p → FitsIn rows u p
  pub kept : (p : ℕ) → TakesPart rows u p → IsMarked flags p
  pub missed : (p : ℕ) → In p work → TakesPart rows u p → ⊥
  pub closed : (p q : ℕ) → IsMarked flags p → In q (list_at rows.part_targets p) → IsMarked flags q ⊎ In q work

-- just what the unit takes is marked
abbrev pub AreTakenMarks : Rows → ℕ → List Bool → Type 0
AreTakenMarks rows u flags = (p : ℕ) → IsMarked flags p ↔ TakesPart rows u p
