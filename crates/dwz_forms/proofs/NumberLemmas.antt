-- Numbers that are written: that the casts keep them, their low bytes, and lengths.
use Rattle.std.proofs.Common.{◌≡◌, ℕ, zero, suc, ◌+◌, ◌/◌, ◌^◌, ◌<◌, List, [], ◌∷◌, ◌++◌, length, refl, sym, ap, subst, ◌∙◌, arith, true}
use Rattle.std.specs.Prelude.{ℤ, pos}
use Rattle.std.proofs.lemmas.Bool.{ltb-true}
use Rattle.std.proofs.lemmas.List.{length-append}
use Rattle.dwz_bytes.specs.Spelling.{fits_i64, le_bytes, uleb}
use Rattle.dwz_bytes.proofs.PaddedLemmas.{padded_len}
use Rattle.dwz_codes.specs.declared.shape.Shape.{Shape}
use Rattle.dwz_codes.specs.declared.shape.Shape.TheVariants.{Fixed1, Fixed2, Fixed3, Fixed4, Fixed8, Fixed16, Uleb, Sleb, ZeroEnded, Block1, Block2, Block4, BlockUleb, Address}
use Rattle.dwz_def_reading.specs.Values.{AreBytes, HasSpelling, Number, SpellsShape, constant_of, number_bytes, run_bytes, shape_of, unsigned, written_rows}
use Rattle.dwz_def_reading.proofs.WrittenLemmas.{fixed_less}
use Rattle.dwz_forms.specs.Numbers.{FitsNumber, IsUnsigned}
use Rattle.dwz_forms.specs.Sizes.{number_len, run_len}
-- the low bytes of a number
pub use Rattle.dwz_bytes.proofs.LowBytes.{low_bytes}

-- ---- that the casts keep a number

same_number : (y z : ℤ) → Number y ≡ Number z → y ≡ z
same_number y z e = cc

is_unsigned : (z : ℤ) (n : ℕ) → Number z ≡ unsigned n → n < 2 ^ 64 → IsUnsigned z
is_unsigned z n e lt = subst IsUnsigned (sym (same_number z (pos n) e)) lt

fits : (shape : Shape) (number : ℤ) (bytes : List ℕ) (z : ℤ) → AreBytes bytes → SpellsShape shape number bytes (Number z) → FitsNumber shape z
fits Fixed1 number bytes z are is = is_unsigned z is.content is.value (let less = fixed_less 1 is.content bytes are is.spelled in omega (arith, less))
fits Fixed2 number bytes z are is = is_unsigned z is.content is.value (let less = fixed_less 2 is.content bytes are is.spelled in omega (arith, less))
fits Fixed3 number bytes z are is = is_unsigned z is.content is.value (let less = fixed_less 3 is.content bytes are is.spelled in omega (arith, less))
fits Fixed4 number bytes z are is = is_unsigned z is.content is.value (let less = fixed_less 4 is.content bytes are is.spelled in omega (arith, less))
fits Fixed8 number bytes z are is = is_unsigned z is.content is.value (let less = fixed_less 8 is.content bytes are is.spelled in omega (arith, less))
fits Address number bytes z are is = is_unsigned z is.content is.value (let less = fixed_less 8 is.content bytes are is.spelled in omega (arith, less))
fits Uleb number bytes z are is = is_unsigned z is.content is.value (ltb-true is.content (2 ^ 64) is.spelled.in_range)
fits Sleb number bytes z are is = subst (λ (y : ℤ). fits_i64 y ≡ true) (sym (same_number z is.content is.value)) is.spelled.in_range
fits _ number bytes z are is = tt

pub spelled_fits : (form : ℕ) (z : ℤ) → HasSpelling form (Number z) → FitsNumber (shape_of written_rows form) z
spelled_fits form z h =
    subst (λ (g : ℕ). FitsNumber (shape_of written_rows g) z) h.of_form
    (fits (shape_of written_rows h.pair.form) (constant_of h.pair) h.bytes z h.are_bytes h.spelled)

-- ---- lengths

le_len : (k n : ℕ) → length (le_bytes k n) ≡ k
unfolding le_bytes
le_len zero n = refl
le_len (suc k) n = let rest = le_len k (n / 256) in omega arith

front_len : (k n : ℕ) (content : List ℕ) → length (le_bytes k n ++ content) ≡ k + length content
front_len k n content = length-append (le_bytes k n) content ∙ ap (λ (m : ℕ). m + length content) (le_len k n)

pub length-number_bytes : (shape : Shape) (z : ℤ) → number_len shape z ≡ length (number_bytes shape z)
length-number_bytes Fixed1 z = sym (le_len 1 _)
length-number_bytes Fixed2 z = sym (le_len 2 _)
length-number_bytes Fixed3 z = sym (le_len 3 _)
length-number_bytes Fixed4 z = sym (le_len 4 _)
length-number_bytes Fixed8 z = sym (le_len 8 _)
length-number_bytes Address z = sym (le_len 8 _)
length-number_bytes Uleb z = sym (padded_len _ _)
length-number_bytes Sleb z = sym (padded_len _ _)
length-number_bytes _ z = refl

pub length-run_bytes : (shape : Shape) (content : List ℕ) → run_len shape content ≡ length (run_bytes shape content)
length-run_bytes Fixed16 content = refl
length-run_bytes ZeroEnded content = sym (length-append content (0 ∷ []))
length-run_bytes Block1 content = sym (front_len 1 (length content) content)
length-run_bytes Block2 content = sym (front_len 2 (length content) content)
length-run_bytes Block4 content = sym (front_len 4 (length content) content)
length-run_bytes BlockUleb content = sym (length-append (uleb (length content)) content ∙ ap (λ (m : ℕ). m + length content) (padded_len _ _))
length-run_bytes _ content = refl
