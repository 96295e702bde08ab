-- Names that get numbers among others one after the other.
use Rattle.std.proofs.Common.{◌≡◌, ℕ, ◌+◌, ◌<◌, List, [], ◌∷◌, ◌++◌, length, Option, Some, None, slice_get, sym, ap, subst, ◌∙◌, ⊎_elim, arith}
use Rattle.std.proofs.lemmas.Bool.{cases_lt}
use Rattle.std.proofs.lemmas.List.{length-append}
use Rattle.dwz_model.proofs.ListFacts.{get_first, get_last, got_below, got_there}
use Rattle.dwz_def_reading.specs.TextRows.{text_number}
use Rattle.dwz_def_reading.proofs.TextRowLemmas.{number_here}
use Rattle.dwz_label_marks.specs.Told.{Keeps}
use Rattle.dwz_label_join.specs.Joined.{AreNumbersIn, IsNumberOf}

-- those of the first names
pub record NumbersTo (names others : List (List ℕ)) (count : ℕ) (numbers : List ℕ) : Type 0 where
  pub many : length numbers ≡ count
  pub are : (bytes : List ℕ) (n : ℕ) → n < count → text_number names bytes ≡ Some n → IsNumberOf others bytes (slice_get numbers n)

pub none_yet : (names others : List (List ℕ)) (numbers : List ℕ) → numbers ≡ [] → NumbersTo names others 0 numbers
none_yet names others numbers e = record { many = ap (λ (w : List ℕ). length w) e; are = λ bytes n low. absurd (omega arith) }

kept_number : (old new : List (List ℕ)) (bytes : List ℕ) (o : Option ℕ) → Keeps old new → IsNumberOf old bytes o → IsNumberOf new bytes o
kept_number old new bytes (Some n) k h = k bytes n h
kept_number old new bytes None k h = absurd h

module _ (names old new : List (List ℕ)) (count : ℕ) (numbers grown own : List ℕ) (m : ℕ) (keeps : Keeps old new) (h : NumbersTo names old count numbers)
    (got : slice_get names count ≡ Some own) (number : text_number new own ≡ Some m) (is : grown ≡ numbers ++ m ∷ []) where
  before : (bytes : List ℕ) (n : ℕ) → n < count → text_number names bytes ≡ Some n → IsNumberOf new bytes (slice_get grown n)
  before bytes n less e =
      let low : n < length numbers = (let many = h.many in omega arith) in
      let x = got_there numbers n low in
      let here : slice_get grown n ≡ slice_get numbers n = ap (λ (w : List ℕ). slice_get w n) is ∙ get_first numbers (m ∷ []) n x.0 x.1 ∙ sym x.1 in
      subst (λ (o : Option ℕ). IsNumberOf new bytes o) (sym here) (kept_number old new bytes (slice_get numbers n) keeps (h.are bytes n less e))

  last : (bytes : List ℕ) (n : ℕ) → n ≡ count → text_number names bytes ≡ Some n → IsNumberOf new bytes (slice_get grown n)
  last bytes n at e =
      let both : Some bytes ≡ Some own = sym (number_here names bytes n e) ∙ ap (slice_get names) at ∙ got in
      let same : bytes ≡ own = cc in
      let end : n ≡ length numbers = at ∙ sym h.many in
      let here : slice_get grown n ≡ Some m = ap (λ (w : List ℕ). slice_get w n) is ∙ ap (slice_get (numbers ++ m ∷ [])) end ∙ get_last numbers m in
      subst (λ (o : Option ℕ). IsNumberOf new bytes o) (sym here) (ap (text_number new) same ∙ number)

  pub one_more : NumbersTo names new (count + 1) grown
  one_more = record {
    many = (let many = h.many in let long = ap (λ (w : List ℕ). length w) is ∙ length-append numbers (m ∷ []) in omega arith);
    are = λ bytes n low e. ⊎_elim (λ less. before bytes n less e) (λ least. last bytes n (let z : n ≡ count = omega arith in z) e) (cases_lt n count);
  }

pub all_numbers : (names others : List (List ℕ)) (numbers : List ℕ) → NumbersTo names others (length names) numbers → AreNumbersIn names others numbers
all_numbers names others numbers h = λ bytes n is. h.are bytes n (got_below names n bytes (number_here names bytes n is)) is
