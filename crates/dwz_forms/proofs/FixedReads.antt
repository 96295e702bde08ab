-- A value whose form tells its length is read where as many bytes are left.
use Rattle.std.proofs.Common.{◌≡◌, ℕ, ◌+◌, ◌≤◌, List, length, take, Some, Result, Ok, Err, Bool, false, ltb, cond, ap, ◌∙◌, arith}
use Rattle.std.proofs.lemmas.Bool.{le-ltb}
use Rattle.dwz_model.specs.declared.place.Pair.{Pair}
use Rattle.dwz_bytes.specs.declared.error.ByteErr.{ByteErr}
use Rattle.dwz_bytes.specs.declared.error.ByteErr.TheVariants.{Short}
use Rattle.dwz_bytes.specs.Input.{Input, past}
use Rattle.dwz_bytes.specs.Reading.{fixed_at, take_at}
use Rattle.dwz_bytes.specs.Spelling.{le_value}
use Rattle.dwz_codes.specs.declared.shape.Shape.{Shape}
use Rattle.dwz_codes.specs.declared.shape.Shape.TheVariants.{Nothing, Fixed1, Fixed2, Fixed3, Fixed4, Fixed8, Fixed16, Address}
use Rattle.dwz_codes.specs.Rows.{RowView}
use Rattle.dwz_def_reading.specs.Values.{Bytes, Number, Raw, constant_of, read_as, shape_of, shaped_at, unsigned, value_at, valued, written_rows}
use Rattle.dwz_forms.specs.FixedSizes.{fixed_size, shape_size, size_among}

-- a number of k bytes
number_read : (k n : ℕ) (i : Input) → Some k ≡ Some n → n ≤ length i.rest → (raw : Raw) × (valued i.at (read_as unsigned (fixed_at k) i) ≡ Ok (raw, past n i))
number_read k n i is le =
    let same : k ≡ n = cc in
    let enough : ltb (length i.rest) k ≡ false = le-ltb (length i.rest) k (omega (arith, le, same)) in
    let read : fixed_at k i ≡ Ok (le_value (take k i.rest), past k i) = ap (λ (b : Bool). cond b (Err (Short i.at)) (Ok (le_value (take k i.rest), past k i))) enough in (
      unsigned (le_value (take k i.rest)),
      ap (λ (r : Result (ℕ × Input) ByteErr). valued i.at (read_as unsigned (λ j. r) i)) read ∙ ap (λ (m : ℕ). Ok (unsigned (le_value (take k i.rest)), past m i)) same,
    )

-- k bytes that stand for themselves
run_read : (k n : ℕ) (i : Input) → Some k ≡ Some n → n ≤ length i.rest → (raw : Raw) × (valued i.at (read_as (λ bytes. Bytes bytes) (take_at k) i) ≡ Ok (raw, past n i))
run_read k n i is le =
    let same : k ≡ n = cc in
    let enough : ltb (length i.rest) k ≡ false = le-ltb (length i.rest) k (omega (arith, le, same)) in
    let read : take_at k i ≡ Ok (take k i.rest, past k i) = ap (λ (b : Bool). cond b (Err (Short i.at)) (Ok (take k i.rest, past k i))) enough in (
      Bytes (take k i.rest),
      ap (λ (r : Result (List ℕ × Input) ByteErr). valued i.at (read_as (λ bytes. Bytes bytes) (λ j. r) i)) read ∙ ap (λ (m : ℕ). Ok (Bytes (take k i.rest), past m i)) same,
    )

shape_read : (shape : Shape) (pair : Pair) (i : Input) (n : ℕ) → shape_size shape ≡ Some n → n ≤ length i.rest → (raw : Raw) × (shaped_at shape pair i ≡ Ok (raw, past n i))
unfolding shaped_at
shape_read Nothing pair i n is le =
    let same : 0 ≡ n = cc in
    let place : i.at ≡ i.at + 0 = omega arith in
    let here : i ≡ past 0 i = λ k. record { at = place k; rest = i.rest } in
    (Number (constant_of pair), ap (λ (w : Input). Ok (Number (constant_of pair), w)) here ∙ ap (λ (m : ℕ). Ok (Number (constant_of pair), past m i)) same)
shape_read Fixed1 pair i n is le = number_read 1 n i is le
shape_read Fixed2 pair i n is le = number_read 2 n i is le
shape_read Fixed3 pair i n is le = number_read 3 n i is le
shape_read Fixed4 pair i n is le = number_read 4 n i is le
shape_read Fixed8 pair i n is le = number_read 8 n i is le
shape_read Fixed16 pair i n is le = run_read 16 n i is le
shape_read Address pair i n is le = number_read 8 n i is le
shape_read _ pair i n is le = absurd cc

pub among_reads : (rows : List RowView) (pair : Pair) (i : Input) (n : ℕ) → size_among rows pair.form ≡ Some n → n ≤ length i.rest → (raw : Raw) × (value_at rows pair i ≡ Ok (raw, past n i))
among_reads rows pair i n size le = shape_read (shape_of rows pair.form) pair i n size le

pub fixed_reads : (pair : Pair) (i : Input) (n : ℕ) → fixed_size pair.form ≡ Some n → n ≤ length i.rest → (raw : Raw) × (value_at written_rows pair i ≡ Ok (raw, past n i))
fixed_reads pair i n size le = among_reads written_rows pair i n size le
