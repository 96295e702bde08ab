-- What a file stores of a value: its name, form and constant, and a number or bytes, as the class of its form has it.
use Rattle.std.proofs.Common.{◌≡◌, ℤ, pos, Bool, true, false, [], refl, sym, ap, ◌∙◌, cond, eqb, eqb-true}
use Rattle.std.specs.Prelude.{MatchBool}
use Rattle.std.proofs.Math.Logic.{inl, inr}
use Rattle.dwz_def_reading.specs.Spelling.{SpellsSleb}
use Rattle.dwz_def_reading.specs.Entries.{RawAttr}
use Rattle.dwz_def_reading.specs.Values.{Bytes, Number, SpellsValue, constant_of, shape_of, written_rows}
use Rattle.dwz_def_reading.proofs.WrittenLemmas.{same_shape}
use Rattle.dwz_def_reading.specs.Meanings.{bytes_of, number_of}
use Rattle.dwz_def_reading.specs.Classes.{Class, class_of, class_rows}
use Rattle.dwz_def_reading.specs.Pair.{Pair}
use Rattle.dwz_def_encoding.specs.Carried.{IsStored}
use Rattle.dwz_def_encoding.proofs.StoredClasses.{class_agrees, is_bytes, is_number, rows_agree, stores_bytes}
use Rattle.dwz_def_encoding.proofs.FormsKnown.{implicit_is}
use Rattle.dwz_law_layout.proofs.FormWays.{is_read}

module _ (a : RawAttr) (stored : IsStored a) where
  spelled_there : SpellsValue written_rows a.pair stored.bytes a.raw
  spelled_there = same_shape a.pair.form (constant_of a.pair) stored.bytes a.raw stored.spelled

  pub raw_bytes : (c : Class) → class_of a.pair.form ≡ c → stores_bytes c ≡ true → is_read c ≡ true → a.raw ≡ Bytes (bytes_of a.raw)
  raw_bytes c e stores some =
      elim (class_agrees class_rows a.pair.form rows_agree) [
        | inl u ↦ absurd (let isnt : is_read (class_of a.pair.form) ≡ false = ap is_read u in let yes : is_read (class_of a.pair.form) ≡ true = ap is_read e ∙ some in cc)
        | inr h ↦ is_bytes (constant_of a.pair) stored.bytes a.raw (shape_of written_rows a.pair.form) (sym h ∙ ap stores_bytes e ∙ stores) spelled_there
      ]

  pub raw_number : (c : Class) → class_of a.pair.form ≡ c → stores_bytes c ≡ false → is_read c ≡ true → a.raw ≡ Number (number_of a.raw)
  raw_number c e stores some =
      elim (class_agrees class_rows a.pair.form rows_agree) [
        | inl u ↦ absurd (let isnt : is_read (class_of a.pair.form) ≡ false = ap is_read u in let yes : is_read (class_of a.pair.form) ≡ true = ap is_read e ∙ some in cc)
        | inr h ↦ is_number (constant_of a.pair) stored.bytes a.raw (shape_of written_rows a.pair.form) (sym h ∙ ap stores_bytes e ∙ stores) spelled_there
      ]

  -- only an implicit_const has a constant, which is its number
  constant_is : (t : Bool) → eqb a.pair.form 0x21 ≡ t → MatchBool t (SpellsSleb stored.pair.constant_bytes a.pair.constant) ((stored.pair.constant_bytes ≡ []) × (a.pair.constant ≡ pos 0))
      → a.pair.constant ≡ cond t (number_of a.raw) (pos 0)
  constant_is true e c =
      let known : constant_of a.pair ≡ a.pair.constant = ap (λ (t : Bool). cond t a.pair.constant (pos 0)) e in
      sym known ∙ sym (ap number_of (implicit_is a.pair.form (constant_of a.pair) stored.bytes a.raw (eqb-true a.pair.form 0x21 e) spelled_there))
  constant_is false e c = c.1

  pub same_pair : a.pair ≡ record { name = a.pair.name; form = a.pair.form; constant = cond (eqb a.pair.form 0x21) (number_of a.raw) (pos 0) }
  same_pair = ap (λ (z : ℤ). let p : Pair = record { name = a.pair.name; form = a.pair.form; constant = z } in p) (constant_is (eqb a.pair.form 0x21) refl stored.pair.constant)
