-- Codes and the numbers of entries can be written, and how long they are: each form of a reference or of an offset has four bytes.
use Rattle.std.proofs.Common.{Bool, true, false, ◌≡◌, ℕ, zero, suc, ◌/◌, ◌^◌, ◌<◌, List, [], ◌∷◌, length, pos, refl, sym, ap, subst, ◌∙◌, arith, cond, eqb, ltb, eqb-true}
use Rattle.std.specs.Prelude.{ℤ, Some}
use Rattle.std.proofs.lemmas.Bool.{ltb-true}
use Rattle.std.proofs.lemmas.Int.{ints}
use mir.Syntax.{w128}
use mir.Val.{to_z}
use Rattle.dwz_def_reading.specs.Spelling.{le_bytes, padded, uleb}
use Rattle.dwz_def_reading.proofs.PaddedLemmas.{uleb_small, uleb_spells}
use Rattle.dwz_def_reading.specs.Forms.{form_rows}
use Rattle.dwz_def_reading.specs.Rows.{RowView, row_of}
use Rattle.dwz_def_reading.specs.Values.{AreBytes, HasSpelling, Number, Raw, SpellsShape, constant_of, shape_in, shape_of, value_bytes, written_rows}
use Rattle.dwz_def_reading.proofs.WrittenLemmas.{read_writable}
use Rattle.dwz_model.specs.declared.place.Pair.{Pair}
use Rattle.dwz_layout.specs.declared.known.TextAt.{TextAt}
use Rattle.dwz_layout.specs.declared.known.TextAt.TheVariants.{Own, Pooled, Shared}
use Rattle.dwz_layout.specs.Attributes.{text_form, text_offset}
use Rattle.dwz_def_encoding.specs.Placing.{Reach, InCommon, InFile, InUnit, ref_form}
use Rattle.dwz_def_encoding.proofs.WriteLengths.{le_len}
use Rattle.dwz_def_encoding.proofs.StoredClasses.{two_tests}

padded-bytes : (k n : ℕ) → AreBytes (padded k n)
unfolding padded
padded-bytes zero n = tt
padded-bytes (suc zero) n = (omega arith, tt)
padded-bytes (suc (suc k)) n = (omega arith, padded-bytes (suc k) (n / 128))

-- ---- codes

abbrev a_pair : ℕ → Pair
a_pair form = record { name = 1; form = form; constant = pos 0 }

wide : (x : ℕ) → x < 2 ^ 64 → to_z w128 x ≡ pos x
wide x lt = omega (arith, ints, lt)

code_written : (code : ℕ) → code < 2 ^ 64 → HasSpelling 0x0f (Number (pos code))
unfolding form_rows
code_written code lt =
    let bytes = padded-bytes _ code in
    read_writable (a_pair 0x0f) (uleb code) (Number (pos code)) bytes (record { content = code; spelled = uleb_spells code lt; value = refl })

pub wide_code_written : (code : ℕ) → code < 2 ^ 64 → HasSpelling 0x0f (Number (to_z w128 code))
wide_code_written code lt = subst (λ (z : ℤ). HasSpelling 0x0f (Number z)) (sym (wide code lt)) (code_written code lt)

code_bytes : (code : ℕ) → value_bytes 0x0f (Number (pos code)) ≡ uleb code
unfolding value_bytes form_rows
code_bytes code = refl

pub wide_code_bytes : (code : ℕ) → code < 2 ^ 64 → value_bytes 0x0f (Number (to_z w128 code)) ≡ uleb code
wide_code_bytes code lt = ap (λ (z : ℤ). value_bytes 0x0f (Number z)) (wide code lt) ∙ code_bytes code

pub small_code : (code : ℕ) → code < 128 → 1 ≡ length (uleb code)
small_code code lt = sym (ap (λ (w : List ℕ). length w) (uleb_small code lt))

-- ---- numbers of four bytes

pub strp_bytes : (x : ℕ) → value_bytes 0x0e (Number (pos x)) ≡ le_bytes 4 x
unfolding value_bytes form_rows
strp_bytes x = refl

pub line_bytes : (x : ℕ) → value_bytes 0x17 (Number (pos x)) ≡ le_bytes 4 x
unfolding value_bytes form_rows
line_bytes x = refl

pub ref_bytes : (r : Reach) (x : ℕ) → value_bytes (ref_form r) (Number (pos x)) ≡ le_bytes 4 x
unfolding value_bytes form_rows
ref_bytes InUnit x = refl
ref_bytes InFile x = refl
ref_bytes InCommon x = refl

four : (form x : ℕ) → value_bytes form (Number (pos x)) ≡ le_bytes 4 x → 4 ≡ length (value_bytes form (Number (pos x)))
four form x is = sym (ap (λ (w : List ℕ). length w) is ∙ le_len 4 x)

-- DW_FORM_strp, DW_FORM_strp_sup
pub text_bytes : (t : TextAt) → value_bytes (text_form t) (Number (pos (text_offset t))) ≡ le_bytes 4 (text_offset t)
unfolding value_bytes form_rows
text_bytes (Own x) = refl
text_bytes (Shared x) = refl
text_bytes (Pooled x) = refl

pub text_len : (t : TextAt) → 4 ≡ length (value_bytes (text_form t) (Number (pos (text_offset t))))
text_len t = four (text_form t) (text_offset t) (text_bytes t)

-- DW_FORM_udata
pub number_bytes : (x : ℕ) → value_bytes 0x0f (Number (pos x)) ≡ uleb x
unfolding value_bytes form_rows
number_bytes x = refl

pub strp_len : (x : ℕ) → 4 ≡ length (value_bytes 0x0e (Number (pos x)))
strp_len x = four 0x0e x (strp_bytes x)

pub line_len : (x : ℕ) → 4 ≡ length (value_bytes 0x17 (Number (pos x)))
line_len x = four 0x17 x (line_bytes x)

pub ref_len : (r : Reach) (x : ℕ) → 4 ≡ length (value_bytes (ref_form r) (Number (pos x)))
ref_len r x = four (ref_form r) x (ref_bytes r x)

-- ---- a form whose values are written has two bytes at most

abbrev are_small : List RowView → Bool
are_small [] = true
are_small (r ∷ rows) = cond (ltb r.code 0x10000) (are_small rows) false

rows_small : are_small written_rows ≡ true
unfolding form_rows
rows_small = refl

code_small : (rows : List RowView) (form : ℕ) (number : _) (bytes : List ℕ) (raw : Raw) → are_small rows ≡ true → SpellsShape (shape_of rows form) number bytes raw → form < 0x10000
code_small [] form number bytes raw small is = absurd is
code_small (r ∷ rows) form number bytes raw small is =
    let two = two_tests (ltb r.code 0x10000) (are_small rows) small in
    go two (code_small rows form number bytes raw two.1) (eqb r.code form) refl is where
      go : (ltb r.code 0x10000 ≡ true) × (are_small rows ≡ true) → (SpellsShape (shape_of rows form) number bytes raw → form < 0x10000)
          → (t : Bool) → eqb r.code form ≡ t → SpellsShape (shape_in (cond t (Some r) (row_of rows form))) number bytes raw → form < 0x10000
      go two rest true e is = subst (λ (n : ℕ). n < 0x10000) (eqb-true r.code form e) (ltb-true r.code 0x10000 two.0)
      go two rest false e is = rest is

pub form_small : (form : ℕ) (raw : Raw) → HasSpelling form raw → form < 0x10000
form_small form raw h = subst (λ (n : ℕ). n < 0x10000) h.of_form (code_small written_rows h.pair.form (constant_of h.pair) h.bytes raw rows_small h.spelled)
