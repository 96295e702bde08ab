-- Where a text ends, and that what is read can be written.
use Rattle.std.proofs.Common.{◌≡◌, ℕ, ◌<◌, List, get_or, take, Option, Some, None, Ok, refl, sym, subst, arith}
use Rattle.std.specs.Option.{option_map}
use Rattle.std.proofs.lemmas.Bool.{eq-eqb, eqb-true}
use Rattle.memchr.specs.Find.{IsFirstByte, is_byte}
use Rattle.dwz_bytes.specs.Input.{Input, input}
use Rattle.dwz_model.specs.declared.place.Pair.{Pair}
use Rattle.dwz_def_reading.specs.Texts.{text_in}
use Rattle.dwz_def_reading.specs.Values.{AreBytes, HasSpelling, Raw, shape_of, value_at}
use Rattle.dwz_def_reading.proofs.TextLemmas.{text_in-none, text_in-some}
use Rattle.dwz_codes.specs.Rows.{RowView}
use Rattle.dwz_def_reading.proofs.ValueLemmas.{shape_laws}
use Rattle.dwz_def_reading.proofs.WrittenLemmas.{bytes_fit, drop_bytes, front_bytes}
use Rattle.dwz_forms.specs.FormSets.{AreWritten}
use Rattle.dwz_forms.proofs.FormLemmas.{spelled_written}

-- the text before the first zero byte
pub first_text : (bytes : List ℕ) (o : Option ℕ) → IsFirstByte (is_byte 0) bytes o → option_map (λ len. take len bytes) o ≡ text_in bytes
first_text bytes None is = sym (text_in-none bytes (λ k lt e. is k (omega arith) lt (eq-eqb _ 0 e)))
first_text bytes (Some end) is = sym (text_in-some bytes end is.0.high (λ k lt e. is.0.before k (omega arith) lt (eq-eqb _ 0 e)) (eqb-true _ 0 is.1))

-- a value that was read from bytes can be written
pub value_writable : (rows : List RowView) → AreWritten rows → (pair : Pair) (bytes : List ℕ) (at : ℕ) (j : Input) (x : Raw) → ((k : ℕ) → get_or bytes k 0 < 256)
    → value_at rows pair (input bytes at) ≡ Ok (x, j) → HasSpelling pair.form x
value_writable rows are_written pair bytes at j x each e =
    let is = (shape_laws (shape_of rows pair.form) pair).found (input bytes at) j x e in
    let are : AreBytes is.front = front_bytes is.front j.rest (subst AreBytes is.parts (drop_bytes at bytes (bytes_fit bytes each))) in
    record {
      pair = pair;
      of_form = refl;
      bytes = is.front;
      are_bytes = are;
      spelled = spelled_written rows are_written pair is.front x is.spelled;
    }
