-- The texts of the common file, of one that is made or of one that stands.
use Rattle.std.specs.Prelude.{ℕ, Bool, true, false, List}
use Rattle.dwz_encode_common.specs.declared.standing.PlacedTexts.{PlacedTexts}
use Rattle.dwz_encode_common.specs.declared.standing.PlacedTexts.TheVariants.{Made, Standing}

-- in order
abbrev pub texts_in : PlacedTexts → List (List ℕ)
texts_in (Made pool) = pool.now
texts_in (Standing texts) = texts.now

-- whether the file is made: nothing is written in one that stands
abbrev pub is_made : PlacedTexts → Bool
is_made (Made pool) = true
is_made (Standing texts) = false
