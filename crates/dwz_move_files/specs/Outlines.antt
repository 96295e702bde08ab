-- The outline of files: their tops, and which of them may move.
use Rattle.std.specs.Prelude.{◌≡◌, ℕ, true, false, All, List, [], ◌∷◌, length, map, slice_index_or}
use Rattle.dwz_def_tops.specs.Alike.{binds_itself}
use Rattle.dwz_def_tops.specs.Deciding.{AreMovable}
use Rattle.dwz_def_tops.specs.Spots.{Top, Within, tops_of, units_of}
use Rattle.dwz_def_tops.specs.Targets.{targets_of}
use Rattle.dwz_def_reading.specs.Lists.{In}
use Rattle.dwz_groups.specs.declared.tops.TopRow.{TopRow}
use Rattle.dwz_groups.specs.declared.tops.Tops.{Tops}
use Rattle.dwz_def_reading.specs.Documents.{Doc}
use Rattle.dwz_plan.specs.Shows.{ShowsTops}
use Rattle.dwz_def_tops.specs.UnitNames.{name_of_place}
use Rattle.dwz_def_reading.specs.Places.{at_file}
use Rattle.dwz_groups.specs.Spreading.{AreInside}

-- the row stands for the place of the top
abbrev pub StandsFor : List (Doc ℕ) → List TopRow → List Top → Type 0
StandsFor docs [] [] = Unit {0}
StandsFor docs (row ∷ rows) (t ∷ tops) = (name_of_place docs (at_file row.place.file row.place.offset) ≡ Within t.number [])
    × StandsFor docs rows tops
StandsFor docs _ _ = ⊥

-- The rows show the tops of all files and the places of these, and say of none that it may move. The targets of a top that doesn't bind
-- itself are the tops that its references go into, one for each, in order; one that does has none.
pub record AreTops (docs : List (Doc ℕ)) (tops : Tops) : Type 0 where
  pub shows : ShowsTops (units_of docs) tops
  pub places : StandsFor docs tops.rows (tops_of (units_of docs))
  pub still : All (λ row. row.movable ≡ false) tops.rows
  pub targets : (t : Top) → In t (tops_of (units_of docs)) → binds_itself (units_of docs) t ≡ false
      → slice_index_or tops.targets t.number [] ≡ targets_of t
  pub bound : (t : Top) → In t (tops_of (units_of docs)) → binds_itself (units_of docs) t ≡ true
      → slice_index_or tops.targets t.number [] ≡ []
  pub inside : AreInside tops.targets
  pub files : tops.files ≡ length docs

-- The rows show the tops of all files and the places of these, and say which of them may move. The targets of a top that doesn't bind
-- itself are the tops that its references go into, one for each, in order.
pub record IsOutline (docs : List (Doc ℕ)) (tops : Tops) : Type 0 where
  pub shows : ShowsTops (units_of docs) tops
  pub places : StandsFor docs tops.rows (tops_of (units_of docs))
  pub movable : AreMovable (units_of docs) (map (λ row. row.movable) tops.rows)
  pub targets : (t : Top) → In t (tops_of (units_of docs)) → binds_itself (units_of docs) t ≡ false
      → slice_index_or tops.targets t.number [] ≡ targets_of t
  pub inside : AreInside tops.targets
