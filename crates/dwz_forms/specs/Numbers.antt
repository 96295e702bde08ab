-- Which numbers the casts of the code keep.
use Rattle.std.specs.Prelude.{◌≡◌, ℤ, pos, negsuc, ◌<◌, ◌^◌, true}
use Rattle.dwz_bytes.specs.Spelling.{fits_i64}
use Rattle.dwz_codes.specs.declared.shape.Shape.{Shape}
use Rattle.dwz_codes.specs.declared.shape.Shape.TheVariants.{Fixed1, Fixed2, Fixed3, Fixed4, Fixed8, Uleb, Sleb, Address}

-- a number that 64 bits hold without a sign
abbrev pub IsUnsigned : ℤ → Type 0
IsUnsigned (pos n) = n < 2 ^ 64
IsUnsigned (negsuc n) = ⊥

-- a number that a shape may have
abbrev pub FitsNumber : Shape → ℤ → Type 0
FitsNumber Fixed1 z = IsUnsigned z
FitsNumber Fixed2 z = IsUnsigned z
FitsNumber Fixed3 z = IsUnsigned z
FitsNumber Fixed4 z = IsUnsigned z
FitsNumber Fixed8 z = IsUnsigned z
FitsNumber Address z = IsUnsigned z
FitsNumber Uleb z = IsUnsigned z
FitsNumber Sleb z = fits_i64 z ≡ true
FitsNumber _ z = Unit {0}
