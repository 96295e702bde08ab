-- What is looked up for each unit.
use Rattle.std.specs.Prelude.{◌≡◌, ◌↔◌, ℕ, ◌<◌, length}
use Rattle.dwz_model.specs.Lists.{In}
use Rattle.dwz_takes.specs.declared.rows.Rows.{Rows}
use Rattle.dwz_takes.specs.declared.tables.Tables.{Tables}
use Rattle.dwz_takes.specs.Steps.{AreTurned}
use Rattle.dwz_takes.specs.Takes.{FitsIn, HasClass, list_at}

-- The classes of units; partial units under classes, where each that a unit can take stands under one that the unit has; and who refers to
-- each partial unit.
pub record AreTables (rows : Rows) (tables : Tables) : Type 0 where
  pub classes_len : length tables.classes ≡ length rows.unit_tops
  pub classes : (u k : ℕ) → In k (list_at tables.classes u) ↔ HasClass rows u k
  pub watchers_len : length tables.watchers ≡ length rows.classes
  pub part : (k p : ℕ) → In p (list_at tables.watchers k) → p < length rows.part_tops
  pub found : (u p : ℕ) → FitsIn rows u p → (k : ℕ) × HasClass rows u k × In p (list_at tables.watchers k)
  pub sources : AreTurned (length rows.part_tops) rows.part_targets tables.sources
