-- What the walk of `clap` over any one argument leaves.
use Rattle.std.proofs.Common.{◌≡◌, ◌<◌, ◌≤◌, ◌+◌, ◌^◌, ◌∷◌, [], refl, ℕ, true, false, List, codes, arith, length, not}
use Rattle.std.specs.Prelude.{nat_lt, ◌==◌, pos}
use Rattle.std.specs.List.{list_all}
use Rattle.clap.specs.Words.{Row, Text}
use Rattle.std.specs.Char.{is_ascii_digit}
use Rattle.clap.specs.ValueTests.{accepts}
use Rattle.std.proofs.lemmas.Bool.{leb-true, ne_eqb, not-true}
use Rattle.std.proofs.lemmas.Str.{digit_value_digit}
use Rattle.std.specs.Str.Parse.{AllDigits, IsNumeral, digits_value, signed_digits_value, without_leading_sign}
use Rattle.std.specs.Int.{w64}
use Rattle.std.specs.Prelude.{FitsSigned, ◌≤ℤ◌}
use Rattle.std.proofs.lemmas.Int.{ints}
use Rattle.clap.proofs.ValueTestLemmas.{Accepts-accepts}
use Rattle.clap.specs.Walk.{Waiting, has_row}
use Rattle.clap.specs.declared.builder.value_parser.ValueParser.TheVariants as vp
use Rattle.clap.proofs.WalkLemmas.{both}
use Rattle.dwz_words.specs.Plain.{Argument, batch, begins_with_dash, check, common, demo, dwarf, expand, explain, file, is_plain_number, is_plain, name, out, quiet, reuse, sup, workers}
use Rattle.dwz_words.proofs.PlainStands.{Reaches, Stands, after_file, after_flag, after_option, is_new}
use Rattle.dwz_words.proofs.PlainWalk.{IsNoFlag, Pending, batch_value, batch_word, between, check_leads, common_value, common_word, demo_value, demo_word, dwarf_leads, expand_leads, explain_leads, full_rows, leads_on, name_value, name_word, no_dash_no_flag, out_value, out_word}
use Rattle.dwz_words.proofs.PlainWalk.{quiet_leads, reuse_value, reuse_word, sup_value, sup_word, workers_value, workers_word}

-- ---- any argument

pub digit_range : (d : ℕ) → is_ascii_digit d ≡ true → (48 ≤ d) × (d ≤ 57)
digit_range d e =
    let parts = both _ _ e in
    (leb-true _ _ parts.0, leb-true _ _ parts.1)

pub digits_all : (ds : List ℕ) → list_all is_ascii_digit ds ≡ true → AllDigits 10 ds
digits_all [] e = tt
digits_all (d ∷ ds) e =
    let parts = both (is_ascii_digit d) _ e in
    let range = digit_range d parts.0 in
    (omega (arith, digit_value_digit d range), digits_all ds parts.1)

-- a plain number passes
number_passes : (low high : ℕ) (text : Text) → is_plain_number low high text ≡ true → high < 2 ^ 63
    → (accepts false (vp.Signed (pos low) (pos high)) text ≡ true) × IsNoFlag text
number_passes low high [] e few = cc
number_passes low high (d ∷ ds) e few =
    let parts = both (list_all is_ascii_digit (d ∷ ds)) _ (both (nat_lt 0 (length (d ∷ ds))) _ e).1 in
    let digits = both (is_ascii_digit d) _ parts.0 in
    let range = digit_range d digits.0 in
    let minus : (d == 45) ≡ false = ne_eqb _ _ (λ e. omega arith) in
    let plus : (d == 43) ≡ false = ne_eqb _ _ (λ e. omega arith) in
    let bounds = both _ _ parts.1 in
    let low_ok : low ≤ digits_value 10 (d ∷ ds) = leb-true _ _ bounds.0 in
    let high_ok : digits_value 10 (d ∷ ds) ≤ high = leb-true _ _ bounds.1 in
    let same : without_leading_sign (d ∷ ds) ≡ d ∷ ds = rw (minus, plus) refl in
    let value : signed_digits_value 10 (d ∷ ds) ≡ pos (digits_value 10 (d ∷ ds)) = rw (minus, plus) refl in
    let fits : FitsSigned w64 (pos (digits_value 10 (d ∷ ds))) = record { sfits = omega arith } in
    let low_in : pos low ≤ℤ pos (digits_value 10 (d ∷ ds)) = omega (arith, ints) in
    let high_in : pos (digits_value 10 (d ∷ ds)) ≤ℤ pos high = omega (arith, ints) in
    let numeral : IsNumeral 10 (d ∷ ds) = (omega arith, digits_all (d ∷ ds) parts.0) in (
      Accepts-accepts false (vp.Signed (pos low) (pos high)) (d ∷ ds) (rw same numeral, rw value fits, rw value low_in, rw value high_in),
      no_dash_no_flag (d ∷ ds) minus,
    )

-- a plain value, and a plain FILE
plain_no_flag : (text : Text) → not (begins_with_dash text) ≡ true → IsNoFlag text
plain_no_flag text e = no_dash_no_flag text (not-true (begins_with_dash text) e)

-- from any argument the walk goes on with no fault
pub after_argument : (n : ℕ) (p : Argument) (rows : List Row) (pending : Pending) (waiting : Waiting)
    → Stands n rows pending waiting → n + 1 < 2 ^ 64
    → is_plain p ≡ true → is_new p (full_rows rows pending) ≡ true → Reaches (n + 1) p (full_rows rows pending) (between rows pending waiting)
after_argument n quiet rows pending waiting s few plain new = after_flag n rows pending quiet waiting
    (quiet_leads rows pending s.settles waiting s.ready (not-true _ new))
after_argument n dwarf rows pending waiting s few plain new = after_flag n rows pending dwarf waiting
    (dwarf_leads rows pending s.settles waiting s.ready (not-true _ new))
after_argument n (common text) rows pending waiting s few plain new =
    let fresh : has_row (codes "m") (full_rows rows pending) ≡ false = not-true _ new in
    after_option n rows pending (common text) (codes "m") text waiting
    (leads_on _ _ _ _ _ (common_word rows pending s.settles waiting s.ready) (common_value (full_rows rows pending) text (plain_no_flag text plain)))
    (rw fresh refl) refl refl
after_argument n (name text) rows pending waiting s few plain new =
    let fresh : has_row (codes "M") (full_rows rows pending) ≡ false = not-true _ new in
    after_option n rows pending (name text) (codes "M") text waiting
    (leads_on _ _ _ _ _ (name_word rows pending s.settles waiting s.ready) (name_value (full_rows rows pending) text (plain_no_flag text plain)))
    (rw fresh refl) refl refl
after_argument n (out text) rows pending waiting s few plain new =
    let fresh : has_row (codes "o") (full_rows rows pending) ≡ false = not-true _ new in
    after_option n rows pending (out text) (codes "o") text waiting
    (leads_on _ _ _ _ _ (out_word rows pending s.settles waiting s.ready) (out_value (full_rows rows pending) text (plain_no_flag text plain)))
    (rw fresh refl) refl refl
after_argument n (workers text) rows pending waiting s few plain new =
    let fresh : has_row (codes "j") (full_rows rows pending) ≡ false = not-true _ new in
    let number = number_passes 1 64 text plain (omega arith) in
    after_option n rows pending (workers text) (codes "j") text waiting
    (leads_on _ _ _ _ _ (workers_word rows pending s.settles waiting s.ready) (workers_value (full_rows rows pending) text number.1))
    (rw (fresh, number.0) refl) refl refl
after_argument n (demo text) rows pending waiting s few plain new =
    let fresh : has_row (codes "demo") (full_rows rows pending) ≡ false = not-true _ new in
    let number = number_passes 2 10000 text plain (omega arith) in
    after_option n rows pending (demo text) (codes "demo") text waiting
    (leads_on _ _ _ _ _ (demo_word rows pending s.settles waiting s.ready) (demo_value (full_rows rows pending) text number.1))
    (rw (fresh, number.0) refl) refl refl
after_argument n explain rows pending waiting s few plain new = after_flag n rows pending explain waiting
    (explain_leads rows pending s.settles waiting s.ready (not-true _ new))
after_argument n check rows pending waiting s few plain new = after_flag n rows pending check waiting
    (check_leads rows pending s.settles waiting s.ready (not-true _ new))
after_argument n expand rows pending waiting s few plain new = after_flag n rows pending expand waiting
    (expand_leads rows pending s.settles waiting s.ready (not-true _ new))
after_argument n (reuse text) rows pending waiting s few plain new =
    let fresh : has_row (codes "reuse") (full_rows rows pending) ≡ false = not-true _ new in
    after_option n rows pending (reuse text) (codes "reuse") text waiting
    (leads_on _ _ _ _ _ (reuse_word rows pending s.settles waiting s.ready) (reuse_value (full_rows rows pending) text (plain_no_flag text plain)))
    (rw fresh refl) refl refl
after_argument n (batch text) rows pending waiting s few plain new =
    let fresh : has_row (codes "batch") (full_rows rows pending) ≡ false = not-true _ new in
    after_option n rows pending (batch text) (codes "batch") text waiting
    (leads_on _ _ _ _ _ (batch_word rows pending s.settles waiting s.ready) (batch_value (full_rows rows pending) text (plain_no_flag text plain)))
    (rw fresh refl) refl refl
after_argument n (sup text) rows pending waiting s few plain new =
    let fresh : has_row (codes "sup") (full_rows rows pending) ≡ false = not-true _ new in
    after_option n rows pending (sup text) (codes "sup") text waiting
    (leads_on _ _ _ _ _ (sup_word rows pending s.settles waiting s.ready) (sup_value (full_rows rows pending) text (plain_no_flag text plain)))
    (rw fresh refl) refl refl
after_argument n (file text) rows pending waiting s few plain new =
    after_file n rows pending waiting text s (plain_no_flag text plain) few s.kind
