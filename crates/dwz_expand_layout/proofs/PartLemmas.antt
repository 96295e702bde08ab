-- Expressions, operand by operand: how long they are, and their bytes.
use Rattle.std.proofs.Common.{◌≡◌, ℕ, ◌+◌, ◌-◌, ◌≤◌, Bool, true, false, List, [], ◌∷◌, ◌++◌, drop, length, slice_get, slice_index, take, Some, Result, Ok}
use Rattle.std.proofs.Common.{Err, refl, sym, ap, ◌∙◌, append_assoc, append-nil, arith}
use Rattle.std.specs.Prelude.{IfOk}
use Rattle.std.proofs.lemmas.List.{drop_all, length-append}
use Rattle.dwz_bytes.specs.Spelling.{uleb}
use Rattle.dwz_bytes.proofs.PaddedLemmas.{padded_len}
use Rattle.dwz_def_reading.proofs.ListFacts.{drop_here}
use Rattle.dwz_def_reading.specs.Exprs.{parts_from}
use Rattle.dwz_def_reading.specs.Patching.{filled, number_in_width}
use Rattle.dwz_def_reading.specs.Values.{Bytes, value_bytes}
use Rattle.dwz_def_encoding.proofs.WriteLengths.{le_len}
use Rattle.dwz_def_encoding.specs.Writing.{base_place}
use Rattle.dwz_layout.proofs.SizeLemmas.{expr_bytes_are}
use Rattle.dwz_layout.specs.Attributes.{Numbers, no_numbers, operand_numbers}
use Rattle.dwz_expand_layout.specs.declared.entries.NewOperand.{NewOperand}
use Rattle.dwz_expand_layout.specs.Entries.{parts_page}

abbrev number_of : Numbers → NewOperand → ℕ
number_of n o = slice_index n.places o.copy - base_place n.unit o.operand.base

parts_first : (n : Numbers) (at : ℕ) (bytes : List ℕ) (o : NewOperand) (os : List NewOperand)
    → parts_page n at bytes (o ∷ os)
    ≡ take (o.operand.at - at) bytes ++ (number_in_width o.operand.uleb o.operand.width (number_of n o)
    ++ parts_page n (o.operand.at + o.operand.width) (drop (o.operand.at + o.operand.width - at) bytes) os)
unfolding parts_from filled operand_numbers
parts_first n at bytes o os = refl

parts_none : (n : Numbers) (at : ℕ) (bytes : List ℕ) → parts_page n at bytes [] ≡ bytes
unfolding parts_from filled operand_numbers
parts_none n at bytes = append-nil bytes

-- ---- what is left of a loop over operands

module _ (n : Numbers) (os : List NewOperand) (i at behind : ℕ) (o : NewOperand) (bytes rest front : List ℕ) (found : slice_get os i ≡ Some o) (first : front ≡ take (o.operand.at - at) bytes)
    (end : behind ≡ o.operand.at + o.operand.width) (left : rest ≡ drop (behind - at) bytes) where
  split : parts_page n at bytes (drop i os) ≡ front ++ (number_in_width o.operand.uleb o.operand.width (number_of n o) ++ parts_page n behind rest (drop (i + 1) os))
  split =
      let last : rest ≡ drop (o.operand.at + o.operand.width - at) bytes = left ∙ ap (λ (b : ℕ). drop (b - at) bytes) end in
      ap (parts_page n at bytes) (drop_here os i o found)
      ∙ parts_first n at bytes o (drop (i + 1) os)
      ∙ sym (λ j. first j ++ (number_in_width o.operand.uleb o.operand.width (number_of n o) ++ parts_page n (end j) (last j) (drop (i + 1) os)))

  pub parts_step : (out one two all : List ℕ) (number : ℕ) → one ≡ out ++ front → two ≡ one ++ number_in_width o.operand.uleb o.operand.width number → number ≡ number_of n o
      → out ++ parts_page n at bytes (drop i os) ≡ all → two ++ parts_page n behind rest (drop (i + 1) os) ≡ all
  parts_step out one two all number put more is so =
      let tail = parts_page n behind rest (drop (i + 1) os) in
      let shown = number_in_width o.operand.uleb o.operand.width (number_of n o) in
      (λ j. (more ∙ (λ j. put j ++ number_in_width o.operand.uleb o.operand.width (is j))) j ++ tail)
      ∙ append_assoc (out ++ front) shown tail
      ∙ append_assoc out front (shown ++ tail)
      ∙ sym (ap (λ (w : List ℕ). out ++ w) split)
      ∙ so

number_len : (padded : Bool) (width number : ℕ) → length (number_in_width padded width number) ≡ width
number_len true width number = padded_len width number
number_len false width number = le_len width number

module _ (os : List NewOperand) (i at behind : ℕ) (o : NewOperand) (bytes rest front : List ℕ) (found : slice_get os i ≡ Some o) (first : front ≡ take (o.operand.at - at) bytes)
    (end : behind ≡ o.operand.at + o.operand.width) (left : rest ≡ drop (behind - at) bytes) where
  pub len_step : (len one two all : ℕ) → one ≡ len + length front → two ≡ one + o.operand.width → len + length (parts_page no_numbers at bytes (drop i os)) ≡ all
      → two + length (parts_page no_numbers behind rest (drop (i + 1) os)) ≡ all
  len_step len one two all put more so =
      let tail = parts_page no_numbers behind rest (drop (i + 1) os) in
      let shown = number_in_width o.operand.uleb o.operand.width (number_of no_numbers o) in
      let whole = ap (λ (w : List ℕ). length w) (split no_numbers os i at behind o bytes rest front found first end left) in
      omega (arith, put, more, so, whole, length-append front (shown ++ tail), length-append shown tail, number_len o.operand.uleb o.operand.width (number_of no_numbers o))

pub parts_done : (n : Numbers) (os : List NewOperand) (i at : ℕ) (bytes out new all : List ℕ) → length os ≤ i → new ≡ out ++ bytes → out ++ parts_page n at bytes (drop i os) ≡ all → new ≡ all
parts_done n os i at bytes out new all le is so = is ∙ sym (ap (λ (w : List ℕ). out ++ w) (ap (parts_page n at bytes) (drop_all i os le) ∙ parts_none n at bytes)) ∙ so

pub len_done : (os : List NewOperand) (i at : ℕ) (bytes : List ℕ) (len new all : ℕ) → length os ≤ i → new ≡ len + length bytes → len + length (parts_page no_numbers at bytes (drop i os)) ≡ all
    → new ≡ all
len_done os i at bytes len new all le is so =
    let rest = ap (λ (w : List ℕ). length w) (ap (parts_page no_numbers at bytes) (drop_all i os le) ∙ parts_none no_numbers at bytes) in
    omega (arith, is, so, rest)

-- ---- no length depends on numbers

same_len : (m n : Numbers) (at : ℕ) (bytes : List ℕ) (os : List NewOperand) → length (parts_page m at bytes os) ≡ length (parts_page n at bytes os)
same_len m n at bytes [] = ap (λ (w : List ℕ). length w) (parts_none m at bytes ∙ sym (parts_none n at bytes))
same_len m n at bytes (o ∷ os) =
    let width = o.operand.width in
    let first = take (o.operand.at - at) bytes in
    let one = number_in_width o.operand.uleb width (number_of m o) in
    let two = number_in_width o.operand.uleb width (number_of n o) in
    let behind = o.operand.at + width in
    let rest = drop (behind - at) bytes in
    let left = ap (λ (w : List ℕ). length w) (parts_first m at bytes o os) in
    let right = ap (λ (w : List ℕ). length w) (parts_first n at bytes o os) in
    omega (
      arith,
      left,
      right,
      same_len m n behind rest os,
      number_len o.operand.uleb width (number_of m o),
      number_len o.operand.uleb width (number_of n o),
      length-append first (one ++ parts_page m behind rest os),
      length-append one (parts_page m behind rest os),
      length-append first (two ++ parts_page n behind rest os),
      length-append two (parts_page n behind rest os),
    )

-- ---- an expression with its length in front

pub expression_long : (start : ℕ) (bytes : List ℕ) (os : List NewOperand) (len sum front : ℕ) → len ≡ length (parts_page no_numbers start bytes os) → front ≡ length (uleb len) → sum ≡ len + front
    → sum ≡ length (value_bytes 0x18 (Bytes (parts_page no_numbers start bytes os)))
expression_long start bytes os len sum front is head add =
    let out = parts_page no_numbers start bytes os in
    let whole = ap (λ (w : List ℕ). length w) (expr_bytes_are out) in
    let same = ap (λ (m : ℕ). length (uleb m)) is in
    omega (arith, is, head, add, whole, same, length-append (uleb (length out)) out)

pub expression_put : (n : Numbers) (start : ℕ) (bytes : List ℕ) (os : List NewOperand) (len : ℕ) (old one new : List ℕ) → len ≡ length (parts_page no_numbers start bytes os) → one ≡ old ++ uleb len
    → new ≡ one ++ parts_page n start bytes os → new ≡ old ++ value_bytes 0x18 (Bytes (parts_page n start bytes os))
expression_put n start bytes os len old one new is head put =
    let out = parts_page n start bytes os in
    let long : len ≡ length out = is ∙ same_len no_numbers n start bytes os in
    put
    ∙ ap (λ (w : List ℕ). w ++ out) (head ∙ ap (λ (m : ℕ). old ++ uleb m) long)
    ∙ append_assoc old (uleb (length out)) out
    ∙ ap (λ (w : List ℕ). old ++ w) (sym (expr_bytes_are out))

-- ---- answers

pub ok_same : {E : Type 0} (r : Result ℕ E) (a b : ℕ) → a ≡ b → IfOk r (λ x. x ≡ a) → IfOk r (λ x. x ≡ b)
ok_same (Ok x) a b same is = is ∙ same
ok_same (Err e) a b same is = tt
