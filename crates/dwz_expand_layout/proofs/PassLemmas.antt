-- Both passes over the entries of a unit: what each leaves is what its calls leave, one after the other.
use Rattle.std.proofs.Common.{◌≡◌, ℕ, suc, ◌+◌, ◌-◌, List, [], ◌∷◌, ◌++◌, length, map, slice_index, refl, sym, ap, ◌∙◌, append_assoc, append-nil, arith}
use Rattle.std.specs.List.{fold}
use Rattle.std.proofs.lemmas.List.{get_or-append_right, length-append}
use Rattle.dwz_def_encoding.specs.Writing.{DeclarationShape, with_shape}
use Rattle.dwz_encode.proofs.PassLemmas.{SameShapes, Stand, call_len, codes_of, end_after, laid_from, laid_one, shapes_after}
use Rattle.dwz_encode.specs.Pages.{entries_page, entry_page}
use Rattle.dwz_layout.specs.Attributes.{Call, Numbers, OutAttr, no_numbers, stored_of}
use Rattle.dwz_layout.specs.Laid.{shape_of_call}
use Rattle.dwz_layout.specs.Stored.{entry_bytes, pairs_of}
use Rattle.dwz_model.specs.declared.place.Pair.{Pair}
use Rattle.dwz_expand_layout.specs.declared.layout.LaidUnit.{LaidUnit}
use Rattle.dwz_expand_layout.specs.Entries.{NewLine, line_call}
use Rattle.dwz_expand_layout.specs.Laid.{Laying, Made, with_line}
use Rattle.dwz_expand_layout.specs.Written.{Writing, numbers_of, with_entry}

abbrev pub first_calls : List NewLine → List Call
first_calls lines = map (line_call no_numbers) lines

abbrev pub places_of : List Stand → List ℕ
places_of spots = map (λ s. s.at) spots

-- ---- numbers don't change shapes

same_pairs : (m n : Numbers) (attrs : List OutAttr) → pairs_of (map (stored_of m) attrs) ≡ pairs_of (map (stored_of n) attrs)
same_pairs m n [] = refl
same_pairs m n (a ∷ attrs) = ap (λ (ps : List Pair). a.pair ∷ ps) (same_pairs m n attrs)

pub same_shapes : (m n : Numbers) (lines : List NewLine) → SameShapes (map (line_call m) lines) (map (line_call n) lines)
same_shapes m n [] = tt
same_shapes m n (l ∷ lines) =
    (ap (λ (ps : List Pair). let s : DeclarationShape = record { tag = l.tag; children = l.children; pairs = ps } in s) (same_pairs m n l.attrs), same_shapes m n lines)

pub laid_many : (calls : List Call) (shapes : List DeclarationShape) (at : ℕ) → length (laid_from shapes at calls) ≡ length calls
unfolding laid_from
laid_many [] shapes at = refl
laid_many (c ∷ calls) shapes at = ap suc (laid_many calls (with_shape shapes (shape_of_call c)) (at + call_len shapes c))

-- ---- the first pass

abbrev pub made_with : List LaidUnit → List (List ℕ) → (places codes : List ℕ) → ℕ → Made
made_with units tables places codes end = record { units = units; tables = tables; places = places; codes = codes; end = end }

abbrev pub laying_with : Made → ℕ → List DeclarationShape → Laying
laying_with made begin shapes = record { made = made; begin = begin; shapes = shapes }

module _ (units : List LaidUnit) (tables : List (List ℕ)) (begin : ℕ) where
  pub lines_laid : (lines : List NewLine) (places codes : List ℕ) (at : ℕ) (shapes : List DeclarationShape)
      → fold with_line (laying_with (made_with units tables places codes at) begin shapes) lines
      ≡ laying_with
      (made_with units tables (places ++ places_of (laid_from shapes at (first_calls lines))) (codes ++ codes_of (laid_from shapes at (first_calls lines))) (end_after shapes at (first_calls lines)))
      begin (shapes_after shapes (first_calls lines))
  unfolding shapes_after laid_from end_after
  lines_laid [] places codes at shapes =
      let p = sym (append-nil places) in
      let c = sym (append-nil codes) in
      (λ i. laying_with (made_with units tables (p i) (c i) at) begin shapes)
  lines_laid (e ∷ lines) places codes at shapes =
      let c = line_call no_numbers e in
      let more = with_shape shapes (shape_of_call c) in
      let one = laid_one shapes at c in
      let behind = at + call_len shapes c in
      let next : at + length (entry_bytes more (shape_of_call c) c.attrs) + c.ends ≡ behind = omega arith in
      let rest = laid_from more behind (first_calls lines) in
      let p = append_assoc places (at ∷ []) (places_of rest) in
      let q = append_assoc codes (one.code ∷ []) (codes_of rest) in
      ap (λ (x : ℕ). fold with_line (laying_with (made_with units tables (places ++ at ∷ []) (codes ++ one.code ∷ []) x) begin more) lines) next
      ∙ lines_laid lines (places ++ at ∷ []) (codes ++ one.code ∷ []) behind more
      ∙ (λ i. laying_with (made_with units tables (p i) (q i) (end_after more behind (first_calls lines))) begin (shapes_after more (first_calls lines)))

-- ---- the second pass

abbrev pub writing_with : Made → List ℕ → (units copies begin : ℕ) → Writing
writing_with made out units copies begin = record { made = made; out = out; units = units; copies = copies; begin = begin }

module _ (made : Made) (units begin : ℕ) where
  abbrev Now : Numbers
  Now = numbers_of made begin

  pub lines_written : (lines : List NewLine) (done codes rest out : List ℕ) (copies : ℕ) → made.codes ≡ done ++ (codes ++ rest) → length done ≡ copies → length codes ≡ length lines
      → fold with_entry (writing_with made out units copies begin) lines
      ≡ writing_with made (out ++ entries_page codes (map (line_call (numbers_of made begin)) lines)) units (copies + length lines) begin
  unfolding entries_page
  lines_written [] done [] rest out copies all many same =
      let none : copies ≡ copies + 0 = omega arith in
      let o = sym (append-nil out) in
      (λ i. writing_with made (o i) units (none i) begin)
  lines_written [] done (c ∷ codes) rest out copies all many same = absurd (omega (arith, same))
  lines_written (l ∷ lines) done [] rest out copies all many same = absurd (omega (arith, same))
  lines_written (l ∷ lines) done (c ∷ codes) rest out copies all many same =
      let first : copies - copies ≡ 0 = omega arith in
      let here : slice_index made.codes copies ≡ c =
      ap (λ (w : List ℕ). slice_index w copies) all
      ∙ get_or-append_right done (c ∷ (codes ++ rest)) copies copies 0 many (omega arith)
      ∙ ap (λ (j : ℕ). slice_index (c ∷ (codes ++ rest)) j) first in
      let next : made.codes ≡ (done ++ c ∷ []) ++ (codes ++ rest) = all ∙ sym (append_assoc done (c ∷ []) (codes ++ rest)) in
      let longer : length (done ++ c ∷ []) ≡ copies + 1 = omega (arith, many, length-append done (c ∷ [])) in
      let page = entry_page c (line_call Now l) in
      let pages = entries_page codes (map (line_call Now) lines) in
      let count : copies + 1 + length lines ≡ copies + length (l ∷ lines) = omega arith in
      let whole = append_assoc out page pages in
      ap (λ (x : ℕ). fold with_entry (writing_with made (out ++ entry_page x (line_call Now l)) units (copies + 1) begin) lines) here
      ∙ lines_written lines (done ++ c ∷ []) codes rest (out ++ page) (copies + 1) next longer (omega (arith, same))
      ∙ (λ i. writing_with made (whole i) units (count i) begin)
