-- Numbers that are shown with 64 bits: addresses, signatures, indexes and offsets have no more.
use Rattle.std.proofs.Common.{◌≡◌, ℕ, ℤ, pos, negsuc, ◌<◌, ◌^◌, ◌==◌, Bool, true, false, List, [], ◌∷◌, refl, subst, eqb-true, arith}
use Rattle.std.specs.Prelude.{◌&&◌, if◌then◌else◌}
use Rattle.std.specs.List.{list_all}
use Rattle.dwz_codes.specs.declared.shape.Shape.{Shape}
use Rattle.dwz_codes.specs.declared.shape.Shape.TheVariants.{Fixed1, Fixed2, Fixed3, Fixed4, Fixed8, Uleb, Address}
use Rattle.dwz_def_reading.specs.Classes.{Class, ClassRow, OfAddress, OfIndex, OfOffset, OfSignature, class_in, class_of, class_rows}
use Rattle.dwz_def_reading.specs.Forms.{form_rows}
use Rattle.dwz_def_reading.specs.Meanings.{number_of}
use Rattle.dwz_def_reading.specs.Spelling.{reach}
use Rattle.dwz_def_reading.specs.Values.{Bytes, HasSpelling, Number, Raw, shape_of, written_rows}
use Rattle.dwz_forms.specs.Numbers.{FitsNumber, IsUnsigned}
use Rattle.dwz_forms.proofs.NumberLemmas.{spelled_fits}

-- a class of such numbers
abbrev pub is_wide : Class → Bool
is_wide OfAddress = true
is_wide OfSignature = true
is_wide OfIndex = true
is_wide OfOffset = true
is_wide _ = false

-- a shape of numbers without a sign
abbrev is_unsigned : Shape → Bool
is_unsigned Fixed1 = true
is_unsigned Fixed2 = true
is_unsigned Fixed3 = true
is_unsigned Fixed4 = true
is_unsigned Fixed8 = true
is_unsigned Address = true
is_unsigned Uleb = true
is_unsigned _ = false

abbrev fits : ClassRow → Bool
fits r = if is_wide r.class then is_unsigned (shape_of written_rows r.form) else true

all_fit : list_all fits class_rows ≡ true
unfolding class_rows form_rows
all_fit = refl

shape_fits : (rows : List ClassRow) (form : ℕ) → list_all fits rows ≡ true → is_wide (class_in rows form) ≡ true → is_unsigned (shape_of written_rows form) ≡ true
unfolding class_in
shape_fits [] form all wide = absurd cc
shape_fits (r ∷ rows) form all wide = by (r.form == form) refl (fits r) refl all wide (λ others more. shape_fits rows form others more) where
  row : (w : Bool) → is_wide r.class ≡ w → w ≡ true → (if w then is_unsigned (shape_of written_rows r.form) else true) ≡ true → is_unsigned (shape_of written_rows r.form) ≡ true
  row true is e h = h
  row false is e h = absurd cc

  by : (t : Bool) → (r.form == form) ≡ t → (f : Bool) → fits r ≡ f → (f && list_all fits rows) ≡ true → is_wide (if t then r.class else class_in rows form) ≡ true
      → (list_all fits rows ≡ true → is_wide (class_in rows form) ≡ true → is_unsigned (shape_of written_rows form) ≡ true) → is_unsigned (shape_of written_rows form) ≡ true
  by t same false of others e more = absurd cc
  by true same true of others e more =
      subst (λ (n : ℕ). is_unsigned (shape_of written_rows n) ≡ true) (eqb-true r.form form same) (row (is_wide r.class) refl e of)
  by false same true of others e more = more others e

unsigned_fits : (shape : Shape) (z : ℤ) → is_unsigned shape ≡ true → FitsNumber shape z → IsUnsigned z
unsigned_fits Fixed1 z e h = h
unsigned_fits Fixed2 z e h = h
unsigned_fits Fixed3 z e h = h
unsigned_fits Fixed4 z e h = h
unsigned_fits Fixed8 z e h = h
unsigned_fits Address z e h = h
unsigned_fits Uleb z e h = h
unsigned_fits _ z e h = absurd cc

small : (z : ℤ) → IsUnsigned z → reach z < 2 ^ 64
small (pos n) h = h
small (negsuc n) h = absurd h

pub number_small : (form : ℕ) (raw : Raw) → HasSpelling form raw → is_wide (class_of form) ≡ true → reach (number_of raw) < 2 ^ 64
number_small form (Bytes bytes) h wide = omega arith
number_small form (Number z) h wide = small z (unsigned_fits (shape_of written_rows form) z (shape_fits class_rows form all_fit wide) (spelled_fits form z h))
