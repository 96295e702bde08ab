-- Texts and slots in the sections that hold strings.
use Rattle.std.specs.Prelude.{◌≡◌, ◌≢◌, ℕ, ◌+◌, ◌*◌, List, [], ◌∷◌, ◌++◌, length, take, drop, Option, Some, None, Result, Ok, Err, ◌==◌}
use Rattle.std.specs.Prelude.{nat_lt, if◌then◌else◌}
use Rattle.std.specs.Option.{option_map}
use Rattle.dwz_bytes.specs.declared.error.ByteErr.{ByteErr}
use Rattle.dwz_bytes.specs.declared.error.ByteErr.TheVariants.{Short}
use Rattle.dwz_bytes.specs.Input.{Input, past}
use Rattle.dwz_bytes.specs.Spelling.{SpellsFixed, le_value}
use Rattle.dwz_def_reading.specs.Parts.{StandsAt}

-- ---- texts (DWARF 5, 7.5.5, class string): bytes that a zero byte ends

-- none of the bytes is 0
abbrev pub NoZero : List ℕ → Type 0
NoZero [] = Unit {0}
NoZero (b ∷ bs) = (b ≢ 0) × NoZero bs

-- a text, and the zero byte that ends it
pub record SpellsText (bytes text : List ℕ) : Type 0 where
  pub no_zero : NoZero text
  pub parts : bytes ≡ text ++ 0 ∷ []

-- the text stands at that offset of the section
abbrev pub IsTextAt : List ℕ → ℕ → List ℕ → Type 0
IsTextAt section offset text = StandsAt SpellsText section offset text

-- the bytes before the first zero byte
unfoldable pub text_in : List ℕ → Option (List ℕ)
text_in [] = None
text_in (b ∷ bs) = if b == 0 then Some [] else option_map (λ t. b ∷ t) (text_in bs)

-- the text at an offset
abbrev pub text_at : List ℕ → ℕ → Option (List ℕ)
text_at section offset = text_in (drop offset section)

abbrev pub behind_text : Input → Option (List ℕ) → Result (List ℕ × Input) ByteErr
behind_text i None = Err (Short i.at)
behind_text i (Some text) = Ok (text, past (length text + 1) i)

-- a text that is read from the front
abbrev pub zero_ended_at : Input → Result (List ℕ × Input) ByteErr
zero_ended_at i = behind_text i (text_in i.rest)

-- ---- slots (DWARF 5, 7.26, string offsets tables): numbers of four bytes, from a base on

-- where the slot of an index begins
abbrev pub slot_place : ℕ → ℕ → ℕ
slot_place base index = base + 4 * index

-- the number stands in the slot
abbrev pub IsSlot : List ℕ → ℕ → ℕ → ℕ → Type 0
IsSlot section base index number = StandsAt (SpellsFixed 4) section (slot_place base index) number

-- the number in the slot, where the slot is whole in the section
abbrev pub slot : List ℕ → ℕ → ℕ → Option ℕ
slot section base index =
    let place = slot_place base index in
    if nat_lt (length section) (place + 4) then None else Some (le_value (take 4 (drop place section)))
