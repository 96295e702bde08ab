-- Numbers that are kept for keys.
use Rattle.std.specs.Prelude.{◌≡◌, ℕ, List, Some, slice_get}
use Rattle.dwz_label_marks.specs.declared.found.Slot.{Slot}

-- a slot holds that number for that key
pub record Has (slots : List Slot) (key n : ℕ) : Type 0 where
  pub at : ℕ
  pub slot : slice_get slots at ≡ Some (record { key = key; number = Some n })
