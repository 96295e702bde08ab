-- What is appended, byte by byte and part by part: numbers, expressions, headers, entries.
use Rattle.std.proofs.Common.{◌≡◌, ◌⊎◌, inl, inr, ℕ, zero, suc, ◌+◌, ◌-◌, ◌/◌, ◌%◌, ◌<◌, ◌≤◌, List, [], ◌∷◌, ◌++◌, drop, eqb, get_or, length, replicate, slice_index, take, Some, slice_get, refl, sym}
use Rattle.std.proofs.Common.{ap, ◌∙◌, append_assoc, append-nil, arith}
use Rattle.std.proofs.lemmas.List.{drop_all}
use Rattle.std.proofs.lemmas.Option.{slice_get-get_or}
use Rattle.dwz_bytes.specs.Spelling.{le_bytes, padded, uleb}
use Rattle.dwz_bytes.proofs.PaddedLemmas.{group_of, padded_first}
use Rattle.dwz_def_reading.proofs.ListFacts.{drop_here}
use Rattle.dwz_def_reading.specs.declared.exprs.Operand.{Operand}
use Rattle.dwz_def_reading.specs.Exprs.{parts_from}
use Rattle.dwz_def_reading.specs.Patching.{filled, number_in_width}
use Rattle.dwz_def_encoding.specs.Writing.{base_place}
use Rattle.dwz_layout.specs.declared.known.EntryTable.{EntryTable}
use Rattle.dwz_layout.specs.declared.layout.OutUnit.{OutUnit}
use Rattle.dwz_layout.specs.declared.order.Sort.{Sort}
use Rattle.dwz_layout.specs.declared.order.UnitItems.{UnitItems}
use Rattle.dwz_layout.specs.declared.walk.Entry.{Entry}
use Rattle.dwz_layout.specs.declared.walk.Slot.{Slot}
use Rattle.dwz_layout.specs.Attributes.{Call, Numbers, WritingContext, call_of, calls_of, operand_count, operand_numbers, references_from}
use Rattle.dwz_layout.specs.Known.{reference_at}
use Rattle.dwz_layout.specs.Entries.{entries_of}
use Rattle.dwz_layout.specs.Stored.{values_bytes}
use Rattle.dwz_encode.specs.Pages.{entries_page, entry_page, header_page, sort_page, type_byte, unit_page, units_page}

pub below : (a b : ℕ) → (a < b) ⊎ (b ≤ a)
below a zero = inr (omega arith)
below zero (suc b) = inl (omega arith)
below (suc a) (suc b) = elim (below a b) [ inl l ↦ inl (omega (arith, l)) | inr l ↦ inr (omega (arith, l)) ]

-- ---- numbers

pub le_start : (old : List ℕ) (w number : ℕ) → old ++ le_bytes (w - 0) number ≡ old ++ le_bytes w number
le_start old w number = (let none : w - 0 ≡ w = omega arith in ap (λ (k : ℕ). old ++ le_bytes k number) none)

pub le_step : (old out new : List ℕ) (w c byte rest next number : ℕ) → c < w → byte ≡ rest % 256 → next ≡ rest / 256 → new ≡ out ++ byte ∷ [] → out ++ le_bytes (w - c) rest ≡ old ++ le_bytes w number
    → new ++ le_bytes (w - (c + 1)) next ≡ old ++ le_bytes w number
unfolding le_bytes
le_step old out new w c byte rest next number lt low high is so =
    let one : w - c ≡ suc (w - (c + 1)) = omega arith in
    (λ i. is i ++ le_bytes (w - (c + 1)) (high i))
    ∙ append_assoc out (byte ∷ []) (le_bytes (w - (c + 1)) (rest / 256))
    ∙ ap (λ (b : ℕ). out ++ (b ∷ le_bytes (w - (c + 1)) (rest / 256))) low
    ∙ sym (ap (λ (k : ℕ). out ++ le_bytes k rest) one)
    ∙ so

pub le_done : (old out : List ℕ) (w c rest number : ℕ) → w ≤ c → out ++ le_bytes (w - c) rest ≡ old ++ le_bytes w number → out ≡ old ++ le_bytes w number
unfolding le_bytes
le_done old out w c rest number le so =
    let none : w - c ≡ 0 = omega arith in
    sym (append-nil out) ∙ sym (ap (λ (k : ℕ). out ++ le_bytes k rest) none) ∙ so

pub padded_step : (out new : List ℕ) (left byte rest next fewer : ℕ) (whole : List ℕ) → 0 < left → byte ≡ group_of (eqb left 1) rest → next ≡ rest / 128 → fewer ≡ left - 1 → new ≡ out ++ byte ∷ []
    → out ++ padded left rest ≡ whole → new ++ padded fewer next ≡ whole
padded_step out new left byte rest next fewer whole lt low high less is so =
    (λ i. is i ++ padded (less i) (high i))
    ∙ append_assoc out (byte ∷ []) (padded (left - 1) (rest / 128))
    ∙ ap (λ (b : ℕ). out ++ (b ∷ padded (left - 1) (rest / 128))) low
    ∙ sym (ap (λ (w : List ℕ). out ++ w) (padded_first left rest lt))
    ∙ so

pub padded_done : (out whole : List ℕ) (left rest : ℕ) → left ≤ 0 → out ++ padded left rest ≡ whole → out ≡ whole
unfolding padded
padded_done out whole left rest le so =
    let none : left ≡ 0 = omega (arith, le) in
    sym (append-nil out) ∙ sym (ap (λ (k : ℕ). out ++ padded k rest) none) ∙ so

-- ---- ends

ends_more : (n : ℕ) → replicate {A = ℕ} (n + 1) 0 ≡ replicate {A = ℕ} n 0 ++ 0 ∷ []
ends_more zero = refl
ends_more (suc n) =
    let one : suc n + 1 ≡ suc (n + 1) = omega arith in
    ap (λ (m : ℕ). replicate {A = ℕ} m 0) one ∙ ap (λ (w : List ℕ). 0 ∷ w) (ends_more n)

pub ends_pushed : (old out new : List ℕ) (n : ℕ) → new ≡ out ++ 0 ∷ [] → out ≡ old ++ replicate {A = ℕ} n 0 → new ≡ old ++ replicate {A = ℕ} (n + 1) 0
ends_pushed old out new n is so = is ∙ ap (λ (w : List ℕ). w ++ 0 ∷ []) so ∙ append_assoc old (replicate {A = ℕ} n 0) (0 ∷ []) ∙ ap (λ (w : List ℕ). old ++ w) (sym (ends_more n))

-- ---- expressions

-- what is written of operands and of the bytes between them
abbrev pub parts_left : EntryTable → ℕ → Numbers → ℕ → ℕ → List ℕ → List Operand → List ℕ
parts_left k file n next at bytes os =
    let parts = parts_from at bytes os in filled parts (operand_numbers n parts (references_from k file next (operand_count parts)))

parts_first : (k : EntryTable) (file : ℕ) (n : Numbers) (next at : ℕ) (bytes : List ℕ) (o : Operand) (os : List Operand)
    → parts_left k file n next at bytes (o ∷ os)
    ≡ take (o.at - at) bytes ++ (number_in_width o.uleb o.width (slice_index n.places (reference_at k file next) - base_place n.unit o.base)
    ++ parts_left k file n (next + 1) (o.at + o.width) (drop (o.at + o.width - at) bytes) os)
unfolding parts_from filled operand_numbers operand_count references_from
parts_first k file n next at bytes o os = refl

parts_none : (k : EntryTable) (file : ℕ) (n : Numbers) (next at : ℕ) (bytes : List ℕ) → parts_left k file n next at bytes [] ≡ bytes
unfolding parts_from filled operand_numbers operand_count references_from
parts_none k file n next at bytes = append-nil bytes

pub parts_step : (k : EntryTable) (file : ℕ) (n : Numbers) (os : List Operand) (i next more at behind : ℕ) (o : Operand) (bytes rest out one two front all : List ℕ) (number : ℕ)
    → slice_get os i ≡ Some o
    → one ≡ out ++ front → front ≡ take (o.at - at) bytes → two ≡ one ++ number_in_width o.uleb o.width number → number ≡ slice_index n.places (reference_at k file next) - base_place n.unit o.base
    → more ≡ next + 1 → behind ≡ o.at + o.width
    → rest ≡ drop (behind - at) bytes → out ++ parts_left k file n next at bytes (drop i os) ≡ all → two ++ parts_left k file n more behind rest (drop (i + 1) os) ≡ all
parts_step k file n os i next more at behind o bytes rest out one two front all number found first same second is step end left so =
    let shown = slice_index n.places (reference_at k file next) - base_place n.unit o.base in
    let tail = parts_left k file n (next + 1) (o.at + o.width) (drop (o.at + o.width - at) bytes) (drop (i + 1) os) in
    let last : rest ≡ drop (o.at + o.width - at) bytes = left ∙ ap (λ (b : ℕ). drop (b - at) bytes) end in
    (λ j. (second ∙ (λ j. (first ∙ ap (λ (w : List ℕ). out ++ w) same) j ++ number_in_width o.uleb o.width (is j))) j ++ parts_left k file n (step j) (end j) (last j) (drop (i + 1) os))
    ∙ append_assoc (out ++ take (o.at - at) bytes) (number_in_width o.uleb o.width shown) tail
    ∙ append_assoc out (take (o.at - at) bytes) (number_in_width o.uleb o.width shown ++ tail)
    ∙ sym (ap (λ (w : List ℕ). out ++ w) (ap (parts_left k file n next at bytes) (drop_here os i o found) ∙ parts_first k file n next at bytes o (drop (i + 1) os)))
    ∙ so

pub parts_done : (k : EntryTable) (file : ℕ) (n : Numbers) (os : List Operand) (i next at : ℕ) (bytes out new all : List ℕ) → length os ≤ i → new ≡ out ++ bytes
    → out ++ parts_left k file n next at bytes (drop i os) ≡ all → new ≡ all
parts_done k file n os i next at bytes out new all le is so =
    is ∙ sym (ap (λ (w : List ℕ). out ++ w) (ap (parts_left k file n next at bytes) (drop_all i os le) ∙ parts_none k file n next at bytes)) ∙ so

-- ---- headers

five : le_bytes 2 5 ≡ 5 ∷ 0 ∷ []
unfolding le_bytes
five = refl

pub two_parts : (old one two a b : List ℕ) → one ≡ old ++ a → two ≡ one ++ b → two ≡ old ++ (a ++ b)
two_parts old one two a b p q = q ∙ ap (λ (w : List ℕ). w ++ b) p ∙ append_assoc old a b

pub header_put : (n : Numbers) (sort : Sort) (o : OutUnit) (old one two three last : List ℕ) (size type : ℕ) → size ≡ o.end - o.at - 4 → type ≡ type_byte sort
    → one ≡ old ++ le_bytes 4 size → two ≡ one ++ (5 ∷ 0 ∷ type ∷ 8 ∷ []) → three ≡ two ++ le_bytes 4 o.«abbrev» → last ≡ three ++ sort_page n sort → last ≡ old ++ header_page n sort o
header_put n sort o old one two three last size type s t p q r e =
    let rest = sort_page n sort in
    let front : two ≡ old ++ (le_bytes 4 size ++ (5 ∷ 0 ∷ type ∷ 8 ∷ [])) = two_parts old one two _ _ p q in
    let back : last ≡ two ++ (le_bytes 4 o.«abbrev» ++ rest) = two_parts two three last _ rest r e in
    back
    ∙ ap (λ (w : List ℕ). w ++ (le_bytes 4 o.«abbrev» ++ rest)) front
    ∙ append_assoc old (le_bytes 4 size ++ (5 ∷ 0 ∷ type ∷ 8 ∷ [])) (le_bytes 4 o.«abbrev» ++ rest)
    ∙ ap (λ (w : List ℕ). old ++ w) (append_assoc (le_bytes 4 size) (5 ∷ 0 ∷ type ∷ 8 ∷ []) (le_bytes 4 o.«abbrev» ++ rest))
    ∙ (λ i. old ++ (le_bytes 4 (s i) ++ (5 ∷ 0 ∷ t i ∷ 8 ∷ (le_bytes 4 o.«abbrev» ++ rest))))
    ∙ ap (λ (w : List ℕ). old ++ (le_bytes 4 (o.end - o.at - 4) ++ (w ++ (type_byte sort ∷ 8 ∷ (le_bytes 4 o.«abbrev» ++ rest))))) (sym five)

-- ---- entries

pub entry_put : (old one two three : List ℕ) (code : ℕ) (c : Call) → one ≡ old ++ uleb code → two ≡ one ++ values_bytes c.attrs → three ≡ two ++ replicate {A = ℕ} c.ends 0
    → three ≡ old ++ entry_page code c
entry_put old one two three code c p q r =
    two_parts old one three (uleb code) (values_bytes c.attrs ++ replicate {A = ℕ} c.ends 0) p (two_parts one two three (values_bytes c.attrs) (replicate {A = ℕ} c.ends 0) q r)

module _ (k : EntryTable) (here : WritingContext) (n : Numbers) where
  abbrev pub entries_left : List ℕ → List Slot → List ℕ
  entries_left codes slots = entries_page codes (calls_of k here n (entries_of slots))

  pub entries_step : (codes : List ℕ) (i : ℕ) (e : Entry) (slots more : List Slot) (out new all : List ℕ) → i < length codes → entries_of slots ≡ e ∷ entries_of more
      → new ≡ out ++ entry_page (get_or codes i 0) (call_of k here n e)
      → out ++ entries_left (drop i codes) slots ≡ all → new ++ entries_left (drop (i + 1) codes) more ≡ all
  unfolding entries_page
  entries_step codes i e slots more out new all lt first is so =
      let code = get_or codes i 0 in
      let page = entry_page code (call_of k here n e) in
      let rest = entries_left (drop (i + 1) codes) more in
      let here_code = drop_here codes i code (slice_get-get_or codes i 0 lt) in
      ap (λ (w : List ℕ). w ++ rest) is
      ∙ append_assoc out page rest
      ∙ sym (λ j. out ++ entries_page (here_code j) (calls_of k here n (first j)))
      ∙ so

  pub entries_end : (codes : List ℕ) (i : ℕ) (slots : List Slot) (out all : List ℕ) → length codes ≤ i → out ++ entries_left (drop i codes) slots ≡ all → out ≡ all
  unfolding entries_page
  entries_end codes i slots out all le so = sym (append-nil out) ∙ sym (ap (λ (w : List ℕ). out ++ entries_page w (calls_of k here n (entries_of slots))) (drop_all i codes le)) ∙ so

  no_calls : (codes : List ℕ) (entries : List Entry) → entries ≡ [] → entries_page codes (calls_of k here n entries) ≡ []
  unfolding entries_page
  no_calls [] entries e = refl
  no_calls (c ∷ codes) [] e = refl
  no_calls (c ∷ codes) (x ∷ entries) e = absurd cc

  pub entries_over : (codes : List ℕ) (i : ℕ) (slots : List Slot) (out all : List ℕ) → slots ≡ [] → out ++ entries_left (drop i codes) slots ≡ all → out ≡ all
  unfolding entries_of
  entries_over codes i slots out all none so = sym (append-nil out) ∙ ap (λ (w : List ℕ). out ++ w) (sym (no_calls (drop i codes) (entries_of slots) (ap entries_of none))) ∙ so

-- ---- units

module _ (k : EntryTable) (places roots : List ℕ) where
  pub pages_step : (info new all : List ℕ) (order : List UnitItems) (outs : List OutUnit) (i here next : ℕ) (u : UnitItems) (o : OutUnit) → next ≡ here + 1 → slice_get order i ≡ Some u
      → slice_get outs i ≡ Some o
      → new ≡ info ++ unit_page k places roots here u o → info ++ units_page k places roots here (drop i order) (drop i outs) ≡ all
      → new ++ units_page k places roots next (drop (i + 1) order) (drop (i + 1) outs) ≡ all
  unfolding units_page
  pages_step info new all order outs i here next u o step a b is so =
      let one : next ≡ suc here = omega (arith, step) in
      (λ j. is j ++ units_page k places roots (one j) (drop (i + 1) order) (drop (i + 1) outs))
      ∙ append_assoc info (unit_page k places roots here u o) (units_page k places roots (suc here) (drop (i + 1) order) (drop (i + 1) outs))
      ∙ sym (λ j. info ++ units_page k places roots here (drop_here order i u a j) (drop_here outs i o b j))
      ∙ so

  no_page : (order : List UnitItems) (outs : List OutUnit) (h : ℕ) → outs ≡ [] → units_page k places roots h order outs ≡ []
  unfolding units_page
  no_page [] outs h e = refl
  no_page (u ∷ order) [] h e = refl
  no_page (u ∷ order) (o ∷ outs) h e = absurd cc

  no_units : (order : List UnitItems) (outs : List OutUnit) (h : ℕ) → order ≡ [] → units_page k places roots h order outs ≡ []
  unfolding units_page
  no_units [] outs h e = refl
  no_units (u ∷ order) outs h e = absurd cc

  pages_over : (order : List UnitItems) (outs : List OutUnit) (i h : ℕ) (info all : List ℕ) → length order ≤ i → info ++ units_page k places roots h (drop i order) (drop i outs) ≡ all → info ≡ all
  pages_over order outs i h info all le so = sym (append-nil info) ∙ ap (λ (w : List ℕ). info ++ w) (sym (no_units (drop i order) (drop i outs) h (drop_all i order le))) ∙ so

  pages_end : (order : List UnitItems) (outs : List OutUnit) (i h : ℕ) (info all : List ℕ) → length outs ≤ i → info ++ units_page k places roots h (drop i order) (drop i outs) ≡ all → info ≡ all
  pages_end order outs i h info all le so = sym (append-nil info) ∙ ap (λ (w : List ℕ). info ++ w) (sym (no_page (drop i order) (drop i outs) h (drop_all i outs le))) ∙ so

  pub pages_done : (order : List UnitItems) (outs : List OutUnit) (i h : ℕ) (info all : List ℕ) → (i < length order → length outs ≤ i)
      → info ++ units_page k places roots h (drop i order) (drop i outs) ≡ all → info ≡ all
  pages_done order outs i h info all some so = elim (below i (length order)) [ inl lt ↦ pages_end order outs i h info all (some lt) so | inr le ↦ pages_over order outs i h info all le so ]
