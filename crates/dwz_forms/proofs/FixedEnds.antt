-- Where a value ends whose form tells its length.
use Rattle.std.proofs.Common.{◌≡◌, ℕ, ℤ, ◌+◌, ◌≤◌, List, drop, length, Some, Ok, sym, ap, ◌∙◌, arith}
use Rattle.std.proofs.lemmas.List.{drop_at, length-append}
use Rattle.dwz_model.specs.declared.place.Pair.{Pair}
use Rattle.dwz_bytes.specs.Input.{Input, past}
use Rattle.dwz_codes.specs.declared.shape.Shape.{Shape}
use Rattle.dwz_codes.specs.declared.shape.Shape.TheVariants.{Nothing, Fixed1, Fixed2, Fixed3, Fixed4, Fixed8, Fixed16, Address}
use Rattle.dwz_def_reading.specs.Values.{Raw, SpellsShape, constant_of, shape_of, value_at, written_rows}
use Rattle.dwz_def_reading.proofs.ValueLemmas.{shape_laws}
use Rattle.dwz_forms.specs.FixedSizes.{fixed_size, shape_size}

same_size : (k n size : ℕ) → size ≡ k → Some k ≡ Some n → size ≡ n
same_size k n size is e = let same : k ≡ n = cc in is ∙ same

-- its bytes are as many as the shape says
spelled_size : (shape : Shape) (number : ℤ) (bytes : List ℕ) (raw : Raw) (n : ℕ) → SpellsShape shape number bytes raw → shape_size shape ≡ Some n → length bytes ≡ n
spelled_size Nothing number bytes raw n is e = same_size 0 n (length bytes) (ap length is.empty) e
spelled_size Fixed1 number bytes raw n is e = same_size 1 n (length bytes) is.spelled.len e
spelled_size Fixed2 number bytes raw n is e = same_size 2 n (length bytes) is.spelled.len e
spelled_size Fixed3 number bytes raw n is e = same_size 3 n (length bytes) is.spelled.len e
spelled_size Fixed4 number bytes raw n is e = same_size 4 n (length bytes) is.spelled.len e
spelled_size Fixed8 number bytes raw n is e = same_size 8 n (length bytes) is.spelled.len e
spelled_size Fixed16 number bytes raw n is e = same_size 16 n (length bytes) is.spelled.len e
spelled_size Address number bytes raw n is e = same_size 8 n (length bytes) is.spelled.len e
spelled_size _ number bytes raw n is e = absurd cc

-- a value of n bytes stands between the two
pub record EndsPast (n : ℕ) (i j : Input) : Type 0 where
  pub end : j ≡ past n i
  pub within : n ≤ length i.rest

pub fixed_ends : (pair : Pair) (i j : Input) (raw : Raw) (n : ℕ) → value_at written_rows pair i ≡ Ok (raw, j) → fixed_size pair.form ≡ Some n → EndsPast n i j
fixed_ends pair i j raw n e size =
    let is = (shape_laws (shape_of written_rows pair.form) pair).found i j raw e in
    let many = spelled_size (shape_of written_rows pair.form) (constant_of pair) is.front raw n is.spelled size in
    let rest : j.rest ≡ drop n i.rest = sym (ap (drop n) is.parts ∙ drop_at is.front j.rest n many) in
    let place : j.at ≡ i.at + n = is.place ∙ ap (λ (k : ℕ). i.at + k) many in
    record {
      end = (λ k. record { at = place k; rest = rest k });
      within = omega (arith, many, ap length is.parts, length-append is.front j.rest);
    }
