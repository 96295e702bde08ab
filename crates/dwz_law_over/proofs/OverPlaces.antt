-- Over a finished common file each name of a file after, and of the common file, is among all names after; and each has a place of its own.
use Rattle.std.proofs.Common.{ℕ, List, sym, subst}
use Rattle.dwz_def_reading.specs.Documents.{Doc}
use Rattle.dwz_def_reading.specs.Lists.{Each, In}
use Rattle.dwz_def_reading.specs.Places.{Place}
use Rattle.dwz_def_reading.specs.Values.{AreBytes}
use Rattle.dwz_def_reading.proofs.ListFacts.{in_left, in_right}
use Rattle.dwz_def_tops.specs.Shown.{OnePlace, units_keys}
use Rattle.dwz_def_tops.specs.Spots.{EntryName, file_numbers}
use Rattle.dwz_def_tops.proofs.UnitKeys.{keys_joined}
use Rattle.dwz_def_images.specs.Units.{all_units, common_units, file_units, out_units}
use Rattle.dwz_def_readback.specs.Back.{AreAtOld, IsPlacingBy}
use Rattle.dwz_def_readback.specs.Files.{Run}
use Rattle.dwz_def_output.specs.Written.{stored_behind}
use Rattle.dwz_def_taken.specs.Beside.{offsets_doc}
use Rattle.dwz_def_over.specs.Over.{OverFiles, limits_over, run_over, standing_file, stands}
use Rattle.dwz_def_over.specs.Written.{CanBeWrittenOver}
use Rattle.dwz_def_over.proofs.AllOver.{can}
use Rattle.dwz_def_over.proofs.CommonOver.{common_one_at, common_shown_at}
use Rattle.dwz_def_over.proofs.PlacedOver.{placed_over}
use Rattle.dwz_def_over.proofs.SameOver.{one_over}
use Rattle.dwz_law_over.proofs.OverAfter.{names_among}

module _ (name : List ℕ) (o : OverFiles) (are : Each AreBytes o.contents) (w : CanBeWrittenOver name o) where
  abbrev r : Run
  r = run_over o

  abbrev commons : Doc ℕ
  commons = offsets_doc o.said.common

  pub own_among : (file : ℕ) → In file (file_numbers 0 o.said.docs) → (k : EntryName) → In k (units_keys (out_units (run_over o).move (run_over o).units file))
      → In k (units_keys (all_units (run_over o).move (run_over o).units (run_over o).files))
  own_among file there k h =
      subst (In k) (sym (keys_joined (common_units r.move) (file_units r.move r.units r.files)))
      (in_right k (units_keys (common_units r.move)) (units_keys (file_units r.move r.units r.files))
      (names_among o.said.docs commons o.fixed (placed_over o are w.read) w.read.taken.lists file there r.files there k h))

  pub shared_among : (k : EntryName) → In k (units_keys (common_units (run_over o).move)) → In k (units_keys (all_units (run_over o).move (run_over o).units (run_over o).files))
  shared_among k h =
      subst (In k) (sym (keys_joined (common_units r.move) (file_units r.move r.units r.files))) (in_left k (units_keys (common_units r.move)) (units_keys (file_units r.move r.units r.files)) h)

  pub all_one : (g : EntryName → Place) → IsPlacingBy (stands o) (run_over o) g → AreAtOld (run_over o) g o.said.docs
      → OnePlace g (all_units (run_over o).move (run_over o).units (run_over o).files)
  all_one g placing old =
      one_over o.said.docs commons o.fixed (placed_over o are w.read) w.read.taken.lists (stored_behind (limits_over o) o.contents o.prunes) (standing_file o) (can name o are w) g placing old o.said.common.units
      (common_shown_at o are w.read g placing) (common_one_at o are w.read g placing)
