-- What is stored under a form: a number or bytes, and a constant of an implicit_const.
use Rattle.std.proofs.Common.{◌≡◌, ℕ, pos, Bool, true, false, ◌==◌, if◌then◌else◌, Ok, refl, sym, ap, subst, ◌∙◌, ◌<◌, ◌^◌, inl, inr, arith}
use Rattle.std.proofs.lemmas.Bool.{eq-eqb, eqb-true}
use Rattle.std.proofs.lemmas.Int.{ints}
use mir.Syntax.{w128}
use mir.Val.{to_z}
use Rattle.dwz_model.specs.declared.place.Pair.{Pair}
use Rattle.dwz_def_reading.specs.Input.{Input}
use Rattle.dwz_codes.specs.declared.shape.Shape.{Shape}
use Rattle.dwz_codes.specs.declared.shape.Shape.TheVariants.{Nothing}
use Rattle.dwz_def_reading.specs.Abbrevs.{IsPlainPair}
use Rattle.dwz_def_reading.specs.Classes.{Unread, class_of, class_rows}
use Rattle.dwz_def_reading.specs.Forms.{form_rows}
use Rattle.dwz_def_reading.specs.Meanings.{bytes_of, number_of}
use Rattle.dwz_def_reading.specs.Values.{Bytes, HasSpelling, Number, Raw, SpellsShape, constant_of, shape_of, shaped_at, value_at, written_rows}
use Rattle.dwz_def_reading.proofs.PartLemmas.{same_value}
use Rattle.dwz_def_encoding.proofs.StoredClasses.{class_agrees, is_bytes, is_number, rows_agree, stores_bytes}
use Rattle.dwz_expand_passes.specs.Copied.{KeepsConstant}

module _ (form : ℕ) (raw : Raw) (h : HasSpelling form raw) where
  spelled_there : SpellsShape (shape_of written_rows form) (constant_of h.pair) h.bytes raw
  spelled_there = subst (λ (n : ℕ). SpellsShape (shape_of written_rows n) (constant_of h.pair) h.bytes raw) h.of_form h.spelled

  pub raw_number : stores_bytes (class_of form) ≡ false → (class_of form ≡ Unread → ⊥) → raw ≡ Number (number_of raw)
  raw_number stores read = elim (class_agrees class_rows form rows_agree) [
    | inl u ↦ absurd (read u)
    | inr e ↦ is_number (constant_of h.pair) h.bytes raw (shape_of written_rows form) (sym e ∙ stores) spelled_there
  ]

  pub raw_bytes : stores_bytes (class_of form) ≡ true → (class_of form ≡ Unread → ⊥) → raw ≡ Bytes (bytes_of raw)
  raw_bytes stores read = elim (class_agrees class_rows form rows_agree) [
    | inl u ↦ absurd (read u)
    | inr e ↦ is_bytes (constant_of h.pair) h.bytes raw (shape_of written_rows form) (sym e ∙ stores) spelled_there
  ]

implicit_shape : (form : ℕ) → form ≡ 0x21 → shape_of written_rows form ≡ Nothing
unfolding form_rows
implicit_shape form e = ap (λ (n : ℕ). shape_of written_rows n) e

pub keeps_constant : (pair : Pair) (i next : Input) (raw : Raw) → IsPlainPair pair → value_at written_rows pair i ≡ Ok (raw, next) → KeepsConstant pair raw
unfolding shaped_at
keeps_constant pair i next raw plain read = by (pair.form == 0x21) refl where
  by : (b : Bool) → (pair.form == 0x21) ≡ b → pair.constant ≡ (if b then number_of raw else pos 0)
  by true e =
      let there : value_at written_rows pair i ≡ Ok (Number (constant_of pair), i) = ap (λ (s : Shape). shaped_at s pair i) (implicit_shape pair.form (eqb-true pair.form 0x21 e)) in
      let is : Number (constant_of pair) ≡ raw = same_value (Number (constant_of pair)) raw i next (value_at written_rows pair i) there read in
      ap (λ (b : Bool). if b then pair.constant else pos 0) (sym e) ∙ ap number_of is
  by false e = plain.no_constant (λ same. (let yes : (pair.form == 0x21) ≡ true = eq-eqb pair.form 0x21 same in cc))

-- a number of so many bytes, as it is stored
pub wide : (x : ℕ) → x < 2 ^ 64 → to_z w128 x ≡ pos x
wide x lt = omega (arith, ints, lt)
