-- Texts in a row: each has its place as a number, and a section holds them one behind the other (DWARF 5, 7.5.5, class string).
use Rattle.std.specs.Prelude.{◌≢◌, ℕ, List, [], ◌∷◌, ◌++◌, length, take, position, AllPairs, Option, is_some, if◌then◌else◌}
use Rattle.std.specs.List.{flat_map}
use Rattle.std.specs.Option.{option_map}
use Rattle.std.specs.Str.{bytes_eq}

-- no two are equal
abbrev pub AreDifferent : List (List ℕ) → Type 0
AreDifferent texts = AllPairs (λ a b. a ≢ b) texts

-- the number of a text: its first place among them, counted from 0
abbrev pub text_number : List (List ℕ) → List ℕ → Option ℕ
text_number texts text = position (bytes_eq text) texts

-- a text is used: it comes behind the others, if it isn't there yet
abbrev pub with_text : List (List ℕ) → List ℕ → List (List ℕ)
with_text texts text = if is_some (text_number texts text) then texts else texts ++ text ∷ []

-- the section that holds them in order, each with its zero byte
abbrev pub text_section : List (List ℕ) → List ℕ
text_section texts = flat_map (λ t. t ++ 0 ∷ []) texts

-- where the text of a number begins there
abbrev pub start_of_number : List (List ℕ) → ℕ → ℕ
start_of_number texts n = length (text_section (take n texts))

-- where a text begins there
abbrev pub start_of : List (List ℕ) → List ℕ → Option ℕ
start_of texts text = option_map (start_of_number texts) (text_number texts text)
