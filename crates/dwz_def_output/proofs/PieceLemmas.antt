-- Bytes at a place, bytes written over others, and the bytes of a file that are kept.
use Rattle.std.proofs.Common.{◌≡◌, ◌⊎◌, inl, inr, ℕ, ◌+◌, ◌-◌, ◌^◌, ◌<◌, ◌≤◌, List, ◌++◌, length, take, drop, get_or, replicate, refl, sym, ap, ◌∙◌, arith}
use Rattle.std.proofs.lemmas.List.{get_or-append_right, get_or-drop, get_or-replicate, get_or-take, get_or_append_left, get_or_past, length-append, length-drop, length-replicate, length-take}
use Rattle.std.proofs.lemmas.Grind.{same_number_lists}
use Rattle.std.proofs.lemmas.Bool.{cases_lt}
use Rattle.dwz_def_reading.specs.Spelling.{le_bytes, le_value}
use Rattle.dwz_def_reading.proofs.FixedLemmas.{fixed_written}
use Rattle.dwz_def_reading.specs.ElfHeaders.{number_at}
use Rattle.dwz_def_reading.specs.ElfLayout.{kept_bytes, new_front, over}
use Rattle.dwz_def_reading.proofs.PlainLemmas.{length_number}

-- ---- bytes at a place

-- w bytes of one list are w bytes of another
pub same_part : (xs ys : List ℕ) (k l w : ℕ) → k + w ≤ length xs → l + w ≤ length ys → ((i : ℕ) → i < w → get_or xs (k + i) 0 ≡ get_or ys (l + i) 0) → take w (drop k xs) ≡ take w (drop l ys)
same_part xs ys k l w in_xs in_ys same =
    let of_xs : length (take w (drop k xs)) ≡ w = omega (arith, length-take w (drop k xs), length-drop k xs, in_xs) in
    let of_ys : length (take w (drop l ys)) ≡ w = omega (arith, length-take w (drop l ys), length-drop l ys, in_ys) in
    same_number_lists (take w (drop k xs)) (take w (drop l ys)) (of_xs ∙ sym of_ys)
    (λ i less.
    let in_w : i < w = omega (arith, of_xs, less) in
    (get_or-take w (drop k xs) i 0 in_w ∙ get_or-drop k xs i 0) ∙ (same i in_w ∙ sym (get_or-take w (drop l ys) i 0 in_w ∙ get_or-drop l ys i 0)))

pub same_number : (xs ys : List ℕ) (k l w : ℕ) → k + w ≤ length xs → l + w ≤ length ys → ((i : ℕ) → i < w → get_or xs (k + i) 0 ≡ get_or ys (l + i) 0) → number_at xs k w ≡ number_at ys l w
unfolding number_at
same_number xs ys k l w in_xs in_ys same = ap le_value (same_part xs ys k l w in_xs in_ys same)

-- a piece of the bytes stands at a place
pub record Has (bytes : List ℕ) (at : ℕ) (piece : List ℕ) : Type 0 where
  pub within : at + length piece ≤ length bytes
  pub each : (i : ℕ) → i < length piece → get_or bytes (at + i) 0 ≡ get_or piece i 0

pub has_middle : (front piece back : List ℕ) (at : ℕ) → length front ≡ at → Has (front ++ (piece ++ back)) at piece
has_middle front piece back at is = record {
  within = omega (arith, is, length-append front (piece ++ back), length-append piece back);
  each = λ i less.
      let place : at + i - at ≡ i = omega arith in
      get_or-append_right front (piece ++ back) at (at + i) 0 is (omega arith) ∙ (ap (λ k. get_or (piece ++ back) k 0) place ∙ get_or_append_left piece back 0 i less);
}

pub has_in : (bytes piece part : List ℕ) (at k : ℕ) → Has bytes at piece → Has piece k part → Has bytes (at + k) part
has_in bytes piece part at k whole inner = record {
  within = omega (arith, whole.within, inner.within);
  each = λ i less.
      let place : at + k + i ≡ at + (k + i) = omega arith in
      ap (λ n. get_or bytes n 0) place ∙ (whole.each (k + i) (omega (arith, inner.within, less)) ∙ inner.each i less);
}

pub has_part : (bytes piece : List ℕ) (at size : ℕ) → Has bytes at piece → size ≡ length piece → take size (drop at bytes) ≡ piece
has_part bytes piece at size has is =
    let len : length (take size (drop at bytes)) ≡ length piece = omega (arith, length-take size (drop at bytes), length-drop at bytes, has.within, is) in
    same_number_lists (take size (drop at bytes)) piece len
    (λ i less.
    let in_piece : i < length piece = omega (arith, less, len) in
    get_or-take size (drop at bytes) i 0 (omega (arith, in_piece, is)) ∙ (get_or-drop at bytes i 0 ∙ has.each i in_piece))

-- bytes of the list stand where they were taken
pub has_taken : (bytes : List ℕ) (at size : ℕ) → at + size ≤ length bytes → Has bytes at (take size (drop at bytes))
has_taken bytes at size le =
    let len : length (take size (drop at bytes)) ≡ size = omega (arith, length-take size (drop at bytes), length-drop at bytes, le) in
    record {
      within = omega (arith, len, le);
      each = λ i less. sym (get_or-take size (drop at bytes) i 0 (omega (arith, len, less)) ∙ get_or-drop at bytes i 0);
    }

pub has_number : (bytes piece : List ℕ) (at k w : ℕ) → Has bytes at piece → k + w ≤ length piece → number_at bytes (at + k) w ≡ number_at piece k w
has_number bytes piece at k w has le =
    same_number bytes piece (at + k) k w (omega (arith, has.within, le)) le
    (λ i less.
    let place : at + k + i ≡ at + (k + i) = omega arith in
    ap (λ n. get_or bytes n 0) place ∙ has.each (k + i) (omega (arith, less, le)))

-- ---- numbers

-- a number that was written is read
pub number_written : (bytes : List ℕ) (at k n : ℕ) → n < 256 ^ k → Has bytes at (le_bytes k n) → number_at bytes at k ≡ n
unfolding number_at
number_written bytes at k n less has =
    let written = fixed_written k n less in
    ap le_value (has_part bytes (le_bytes k n) at k has (sym written.len)) ∙ sym written.value

-- ---- bytes over others

pub length_over : (at : ℕ) (new bytes : List ℕ) → at + length new ≤ length bytes → length (over at new bytes) ≡ length bytes
length_over at new bytes le =
    omega (arith, length-append (take at bytes) (new ++ drop (at + length new) bytes), length-append new (drop (at + length new) bytes), length-take at bytes, length-drop (at + length new) bytes, le)

pub has_over : (at : ℕ) (new bytes : List ℕ) → at + length new ≤ length bytes → Has (over at new bytes) at new
has_over at new bytes le = has_middle (take at bytes) new (drop (at + length new) bytes) at (omega (arith, length-take at bytes, le))

pub over_other : (at : ℕ) (new bytes : List ℕ) (i : ℕ) → at + length new ≤ length bytes → (i < at) ⊎ (at + length new ≤ i) → get_or (over at new bytes) i 0 ≡ get_or bytes i 0
over_other at new bytes i le where_it_is =
    let len : length (take at bytes) ≡ at = omega (arith, length-take at bytes, le) in
    elim where_it_is [
      | inl before ↦ get_or_append_left (take at bytes) (new ++ drop (at + length new) bytes) 0 i (omega (arith, len, before)) ∙ get_or-take at bytes i 0 before
      | inr behind ↦
          let place : at + length new + (i - at - length new) ≡ i = omega (arith, behind) in
          get_or-append_right (take at bytes) (new ++ drop (at + length new) bytes) at i 0 len (omega (arith, behind))
          ∙ (get_or-append_right new (drop (at + length new) bytes) (length new) (i - at) 0 refl (omega (arith, behind))
          ∙ (get_or-drop (at + length new) bytes (i - at - length new) 0 ∙ ap (λ k. get_or bytes k 0) place))
    ]

-- ---- the kept bytes

pub length_kept : (keep : ℕ) (input : List ℕ) → length (kept_bytes keep input) ≡ keep
length_kept keep input = omega (arith, length-append (take keep input) (replicate (keep - length input) 0), length-take keep input, length-replicate {A = ℕ} (keep - length input) 0)

zero_at : (n i : ℕ) → get_or (replicate {A = ℕ} n 0) i 0 ≡ 0
zero_at n i =
    elim (cases_lt i n) [
      | inl less ↦ get_or-replicate n i 0 0 less
      | inr past ↦ get_or_past (replicate n 0) i 0 (omega (arith, past, length-replicate {A = ℕ} n 0))
    ]

pub kept_same : (keep : ℕ) (input : List ℕ) (i : ℕ) → i < keep → get_or (kept_bytes keep input) i 0 ≡ get_or input i 0
kept_same keep input i less =
    elim (cases_lt i (length input)) [
      | inl inside ↦
          let in_front : i < length (take keep input) = omega (arith, length-take keep input, less, inside) in
          get_or_append_left (take keep input) (replicate (keep - length input) 0) 0 i in_front ∙ get_or-take keep input i 0 less
      | inr past ↦
          let behind : length (take keep input) ≤ i = omega (arith, length-take keep input, past) in
          get_or-append_right (take keep input) (replicate (keep - length input) 0) (length (take keep input)) i 0 refl behind
          ∙ (zero_at (keep - length input) (i - length (take keep input)) ∙ sym (get_or_past input i 0 past))
    ]

-- ---- the front of the new file

abbrev with_headers_at : ℕ → ℕ → List ℕ → List ℕ
with_headers_at keep headers_at input = over 40 (le_bytes 8 headers_at) (kept_bytes keep input)

module _ (keep headers_at count : ℕ) (input : List ℕ) (some : 64 ≤ keep) where
  length_table : length (with_headers_at keep headers_at input) ≡ keep
  length_table =
      let len = length_number 8 headers_at in
      length_over 40 (le_bytes 8 headers_at) (kept_bytes keep input) (omega (arith, len, length_kept keep input, some)) ∙ length_kept keep input

  pub length_front : length (new_front keep headers_at count input) ≡ keep
  length_front =
      let len = length_number 2 count in
      length_over 60 (le_bytes 2 count) (with_headers_at keep headers_at input) (omega (arith, len, length_table, some)) ∙ length_table

  -- all but the two fields stays
  pub front_same : (i : ℕ) → i < keep → (i < 40) ⊎ (48 ≤ i) → (i < 60) ⊎ (62 ≤ i) → get_or (new_front keep headers_at count input) i 0 ≡ get_or input i 0
  front_same i less first second =
      let eight = length_number 8 headers_at in
      let two = length_number 2 count in
      let beside_first : (i < 40) ⊎ (40 + length (le_bytes 8 headers_at) ≤ i) = elim first [ inl h ↦ inl h | inr h ↦ inr (omega (arith, h, eight)) ] in
      let beside_second : (i < 60) ⊎ (60 + length (le_bytes 2 count) ≤ i) = elim second [ inl h ↦ inl h | inr h ↦ inr (omega (arith, h, two)) ] in
      over_other 60 (le_bytes 2 count) (with_headers_at keep headers_at input) i (omega (arith, two, length_table, some)) beside_second
      ∙ (over_other 40 (le_bytes 8 headers_at) (kept_bytes keep input) i (omega (arith, eight, length_kept keep input, some)) beside_first ∙ kept_same keep input i less)

  pub front_has_place : Has (new_front keep headers_at count input) 40 (le_bytes 8 headers_at)
  front_has_place =
      let eight = length_number 8 headers_at in
      let two = length_number 2 count in
      let within : 40 + length (le_bytes 8 headers_at) ≤ length (kept_bytes keep input) = omega (arith, eight, length_kept keep input, some) in
      let has = has_over 40 (le_bytes 8 headers_at) (kept_bytes keep input) within in
      record {
        within = omega (arith, eight, length_front, some);
        each = λ i less. over_other 60 (le_bytes 2 count) (with_headers_at keep headers_at input) (40 + i) (omega (arith, two, length_table, some)) (inl (omega (arith, eight, less)))
            ∙ has.each i less;
      }

  pub front_has_count : Has (new_front keep headers_at count input) 60 (le_bytes 2 count)
  front_has_count = has_over 60 (le_bytes 2 count) (with_headers_at keep headers_at input) (omega (arith, length_number 2 count, length_table, some))
