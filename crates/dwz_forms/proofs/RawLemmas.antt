-- Raw values of the code, and what is written of them.
use Rattle.std.proofs.Common.{◌≡◌, ℕ, List, ◌++◌, length, sym, ap, subst, ◌∙◌}
use Rattle.std.specs.Prelude.{ℤ, Result, Ok, Err, OnOk}
use mir.Syntax.{w128}
use mir.Val.{SFits, of_z, to_z}
use Rattle.std.proofs.lemmas.Int.{to_z-of_z}
use Rattle.dwz_codes.specs.declared.shape.Shape.{Shape}
use Rattle.dwz_def_reading.specs.Values.{Bytes, HasSpelling, number_bytes, run_bytes, shape_of, value_bytes, written_rows}
use Rattle.dwz_forms.specs.declared.raw.Raw.{Raw as RawOfCode}
use Rattle.dwz_forms.specs.declared.raw.Raw.TheVariants as code
use Rattle.dwz_forms.specs.Numbers.{FitsNumber}
use Rattle.dwz_forms.specs.RawValues.{raw_view}
use Rattle.dwz_forms.specs.Sizes.{number_len, run_len}
use Rattle.dwz_forms.proofs.NumberLemmas.{length-number_bytes, length-run_bytes, spelled_fits}

module _ (form : ℕ) (raw : RawOfCode) (z : ℤ) (shape : Shape) (range : SFits w128 z) (raw_is : raw ≡ code.Number z) (shape_is : shape ≡ shape_of written_rows form) where
  pub number_fits : HasSpelling form (raw_view raw) → FitsNumber shape (to_z w128 (of_z w128 z))
  number_fits h =
      subst (FitsNumber shape) (sym (to_z-of_z w128 z range)) (subst (λ (s : Shape). FitsNumber s z) (sym shape_is)
      (spelled_fits form z (subst (λ (r : RawOfCode). HasSpelling form (raw_view r)) raw_is h)))

  -- the bytes of the number, as it is passed on
  pub number_is : number_bytes shape (to_z w128 (of_z w128 z)) ≡ value_bytes form (raw_view raw)
  unfolding value_bytes
  number_is =
      ap (number_bytes shape) (to_z-of_z w128 z range) ∙ ap (λ (s : Shape). number_bytes s z) shape_is ∙ ap (λ (r : RawOfCode). value_bytes form (raw_view r)) (sym raw_is)

  pub number_size_is : (size : ℕ) → size ≡ number_len shape (to_z w128 (of_z w128 z)) → size ≡ length (value_bytes form (raw_view raw))
  number_size_is size e = e ∙ length-number_bytes shape (to_z w128 (of_z w128 z)) ∙ ap length number_is

module _ (form : ℕ) (raw : RawOfCode) (content : List ℕ) (shape : Shape) (raw_is : raw_view raw ≡ Bytes content) (shape_is : shape ≡ shape_of written_rows form) where
  -- the bytes of the content
  pub run_is : run_bytes shape content ≡ value_bytes form (raw_view raw)
  unfolding value_bytes
  run_is = ap (λ (s : Shape). run_bytes s content) shape_is ∙ ap (value_bytes form) (sym raw_is)

  pub run_size_is : (size : ℕ) → size ≡ run_len shape content → size ≡ length (value_bytes form (raw_view raw))
  run_size_is size e = e ∙ length-run_bytes shape content ∙ ap length run_is

-- what was appended, by another name
pub appended : {E : Type 0} (r : Result (Unit {0}) E) (new old a b : List ℕ) → a ≡ b → OnOk r (new ≡ old ++ a) → OnOk r (new ≡ old ++ b)
appended (Ok u) new old a b same is = is ∙ ap (λ (w : List ℕ). old ++ w) same
appended (Err e) new old a b same is = is
