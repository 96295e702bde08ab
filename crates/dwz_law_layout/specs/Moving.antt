-- What is known of a move of tops: what stands for what, and what is in partial units.
use Rattle.std.specs.Prelude.{◌≡◌, ◌⊎◌, ℕ, true, false, List}
use Rattle.dwz_def_reading.specs.Lists.{In}
use Rattle.dwz_def_tops.specs.Lists.{Nth}
use Rattle.dwz_def_tops.specs.Spots.{EntryName, FileUnit, Top, tops_of}
use Rattle.dwz_def_images.specs.Homes.{Common, Home, Local, Rule, is_home}
use Rattle.dwz_def_images.specs.Moves.{Move, first_unit, line_attrs, plan}
use Rattle.dwz_def_images.specs.Plan.{PartialUnit, part_row}
use Rattle.dwz_plan.specs.ShowsMove.{HoldsAt}
use Rattle.dwz_def_images.specs.Fair.{Fair}

-- a top that leaves its unit, stands for itself, and is of that unit
pub record MovesFrom (m : Move) (units : List (FileUnit EntryName)) (i : ℕ) (t : Top) : Type 0 where
  pub there : In t (tops_of units)
  pub moves : m.gone t.number ≡ true
  pub stands : m.stand t.number ≡ t.number
  pub unit : t.unit ≡ i

-- a partial unit that is made: its tops are all of one unit, which is one of its users
pub record IsMadePart (m : Move) (units : List (FileUnit EntryName)) (n : ℕ) (part : PartialUnit) : Type 0 where
  pub some : (t : Top) × In t part.tops
  pub tops : (t : Top) → In t part.tops → MovesFrom m units (first_unit part.tops) t
  pub user : In (first_unit part.tops) part.users
  pub row : m.rows n ≡ part_row n part
  pub root : m.roots n ≡ line_attrs units part

-- A top that stays stands for itself. What stands for one that leaves its unit stands for itself, and leaves its unit too, if it is of
-- these units; and where it stands in a partial unit of a file, that is the file of both. A unit uses partial units of its own file, and
-- of the common one; and those are as is said that are made.
pub record MovesSo (IsMade : Home → Type 0) (m : Move) (units : List (FileUnit EntryName)) : Type 0 where
  pub stays : (n : ℕ) → m.gone n ≡ false → m.stand n ≡ n
  pub twice : (t : Top) → In t (tops_of units) → m.gone t.number ≡ true → m.stand (m.stand t.number) ≡ m.stand t.number
  pub leaves : (t s : Top) → In t (tops_of units) → In s (tops_of units) → s.number ≡ m.stand t.number → m.gone t.number ≡ true
      → m.gone s.number ≡ true
  pub near : (t : Top) → In t (tops_of units) → m.gone t.number ≡ true → (n file : ℕ) → HoldsAt m.parts n (Local file) (m.stand t.number)
      → file ≡ t.file
  pub homes : (n : ℕ) (part : PartialUnit) → Nth 0 m.parts n part → is_home part.home ≡ true
  pub used : (n : ℕ) (part : PartialUnit) → Nth 0 m.parts n part → (i : ℕ) (u : FileUnit EntryName) → Nth 0 units i u → In i part.users
      → (part.home ≡ Common) ⊎ (part.home ≡ Local u.file)
  pub made : (n : ℕ) (part : PartialUnit) → Nth 0 m.parts n part → IsMade part.home → IsMadePart m units n part

-- so it is by a fair rule
abbrev pub MovesSoLaw : Type 0
MovesSoLaw =
    (units : List (FileUnit EntryName)) (rule : Rule) → Fair units rule → (files : List ℕ)
    → MovesSo (λ home. Unit {0}) (plan rule units files) units
