-- The first zero byte ends a text.
use Rattle.std.proofs.Common.{◌≡◌, ℕ, ◌≤◌, List, [], length, take, drop, Some, None, ap, ◌∙◌, arith}
use Rattle.std.proofs.lemmas.Bool.{eq-eqb, eqb-true}
use Rattle.std.proofs.Math.ListN.{drop_of_length-le}
use Rattle.memchr.specs.Find.{IsFirstByte, is_byte}
use Rattle.dwz_def_reading.specs.Texts.{text_in}
use Rattle.dwz_def_reading.proofs.TextLemmas.{none_again, text_in-none, text_in-some}

pub none_first : (bytes : List ℕ) → IsFirstByte (is_byte 0) bytes None → text_in bytes ≡ None
none_first bytes is = text_in-none bytes (λ k lt e. is k (omega arith) lt (eq-eqb _ 0 e))

pub some_first : (bytes : List ℕ) (end : ℕ) → IsFirstByte (is_byte 0) bytes (Some end) → text_in bytes ≡ Some (take end bytes)
some_first bytes end is = text_in-some bytes end is.0.high (λ k lt e. is.0.before k (omega arith) lt (eq-eqb _ 0 e)) (eqb-true _ 0 is.1)

pub past_end : (section : List ℕ) (offset : ℕ) → length section ≤ offset → text_in (drop offset section) ≡ None
past_end section offset le = ap text_in (drop_of_length-le section le) ∙ none_again [] tt
