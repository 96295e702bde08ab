-- New numbers of the operands of location lists, by the numbers of entries.
use Rattle.std.specs.Prelude.{◌≡◌, ℕ, ◌-◌, List, [], ◌∷◌, slice_index}
use Rattle.dwz_def_tops.specs.Spots.{EntryName}
use Rattle.dwz_def_reading.specs.Documents.{Doc}
use Rattle.dwz_def_plan.specs.Moves.{Move}
use Rattle.dwz_layout_numbers.specs.Images.{IsImage}
use Rattle.dwz_graph.specs.ListOperand.{ListOperand}
use Rattle.dwz_encode_sections.specs.Numbers.{with_numbers}
use Rattle.dwz_def_encoding.specs.Writing.{base_place}

-- the place after of an entry, by its number among all, counted as the operand's numbers are, in its unit where that begins after
abbrev pub new_number_by : (places units_at : List ℕ) → ListOperand → ℕ → ℕ
new_number_by places units_at o entry = slice_index places entry - base_place (slice_index units_at o.unit) o.base

-- the number is that of the entry that stands after for the one that the operand names
pub record IsNewNumber (docs : List (Doc ℕ)) (m : Move) (names : List EntryName) (places units_at : List ℕ) (o : ListOperand)
    (number : ℕ) : Type 0 where
  pub entry : ℕ
  pub image : IsImage docs m names o.entry entry
  pub is : number ≡ new_number_by places units_at o entry

-- of each of them
abbrev pub AreNewNumbers : List (Doc ℕ) → Move → List EntryName → (places units_at : List ℕ) → List ListOperand → List ℕ → Type 0
AreNewNumbers docs m names places units_at [] [] = Unit {0}
AreNewNumbers docs m names places units_at (o ∷ operands) (n ∷ numbers) =
    IsNewNumber docs m names places units_at o n × AreNewNumbers docs m names places units_at operands numbers
AreNewNumbers docs m names places units_at _ _ = ⊥

-- the section has such numbers in its operands, and else the bytes that it had
pub record HasNewNumbers (docs : List (Doc ℕ)) (m : Move) (names : List EntryName) (places units_at : List ℕ) (operands : List
    ListOperand)
    (section out : List ℕ) : Type 0 where
  pub numbers : List ℕ
  pub are : AreNewNumbers docs m names places units_at operands numbers
  pub is : out ≡ with_numbers operands numbers section
