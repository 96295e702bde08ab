-- Shapes as rows of words, under which their codes are kept.
use Rattle.std.specs.Prelude.{◌≡◌, ℕ, ◌*◌, ◌%◌, ◌^◌, ◌∷◌, [], true, List, bit_xor, fold}
use Rattle.std.specs.Int.{cast_unsigned, w64}
use Rattle.std.specs.List.{flat_map}
use Rattle.dwz_model.specs.declared.place.Pair.{Pair}
use Rattle.dwz_def_reading.specs.Spelling.{fits_i64}
use Rattle.dwz_def_reading.specs.Abbrevs.{children_byte}
use Rattle.dwz_def_encoding.specs.Writing.{DeclarationShape}

-- a hash with one word more
abbrev pub mixed : ℕ → ℕ → ℕ
mixed hash word = (bit_xor hash word * 0x9e3779b97f4a7c15) % 2 ^ 64

abbrev pub pair_words : Pair → List ℕ
pair_words pair = pair.name ∷ pair.form ∷ cast_unsigned w64 pair.constant ∷ []

-- the tag, whether there are children, and the words of each pair
abbrev pub shape_words : DeclarationShape → List ℕ
shape_words s = s.tag ∷ children_byte s.children ∷ flat_map pair_words s.pairs

-- These words with a hash of them in front, so that the first words of two keys nearly always differ. Any function would do for it.
unfoldable pub key_of : DeclarationShape → List ℕ
key_of s = fold mixed 0 (shape_words s) ∷ shape_words s

-- the constant of a pair has 64 bits
abbrev pub HasBits : Pair → Type 0
HasBits pair = fits_i64 pair.constant ≡ true
