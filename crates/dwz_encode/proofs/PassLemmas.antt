-- Both passes over entries: the shapes, the places and the bytes that they leave are those of the entries one after the other.
use Rattle.std.proofs.Common.{◌≡◌, ℕ, zero, suc, ◌+◌, List, [], ◌∷◌, ◌++◌, length, map, replicate, Option, refl, sym, ap, ◌∙◌, append_assoc, append-nil, arith}
use Rattle.std.proofs.lemmas.List.{length-append}
use Rattle.dwz_bytes.specs.Spelling.{uleb}
use Rattle.dwz_def_encoding.specs.Writing.{DeclarationShape, code_bytes, code_in, or_zero, with_shape}
use Rattle.dwz_def_encoding.proofs.WriteCodes.{with_shape-has}
use Rattle.dwz_layout.specs.declared.known.EntryTable.{EntryTable}
use Rattle.dwz_layout.specs.declared.walk.Entry.{Entry}
use Rattle.dwz_layout.specs.Attributes.{Call, WritingContext, call_of, calls_of, no_numbers}
use Rattle.dwz_layout.specs.Laid.{Laying, note, shape_of_call, with_entries}
use Rattle.dwz_layout.specs.Stored.{entry_bytes, values_bytes}
use Rattle.dwz_encode.specs.Events.{EndOfList, Event, NewEntry, Tree, run, tree}
use Rattle.dwz_encode.specs.Pages.{entries_page, entry_page}
use Rattle.dwz_encode.proofs.EventLemmas.{run-append}

-- ---- the first pass, without what was laid before

-- where an entry is laid, and its code
pub record Stand : Type 0 where
  pub at : ℕ
  pub code : ℕ

abbrev pub codes_of : List Stand → List ℕ
codes_of spots = map (λ s. s.code) spots

unfoldable pub shapes_after : List DeclarationShape → List Call → List DeclarationShape
shapes_after shapes [] = shapes
shapes_after shapes (c ∷ calls) = shapes_after (with_shape shapes (shape_of_call c)) calls

abbrev pub call_len : List DeclarationShape → Call → ℕ
call_len shapes c = length (entry_bytes (with_shape shapes (shape_of_call c)) (shape_of_call c) c.attrs) + c.ends

abbrev pub laid_one : List DeclarationShape → ℕ → Call → Stand
laid_one shapes at c = record { at = at; code = or_zero (code_in 1 (with_shape shapes (shape_of_call c)) (shape_of_call c)) }

unfoldable pub laid_from : List DeclarationShape → ℕ → List Call → List Stand
laid_from shapes at [] = []
laid_from shapes at (c ∷ calls) = laid_one shapes at c ∷ laid_from (with_shape shapes (shape_of_call c)) (at + call_len shapes c) calls

unfoldable pub end_after : List DeclarationShape → ℕ → List Call → ℕ
end_after shapes at [] = at
end_after shapes at (c ∷ calls) = end_after (with_shape shapes (shape_of_call c)) (at + call_len shapes c) calls

unfoldable pub noted : EntryTable → List Entry → List Stand → List ℕ → List ℕ
noted k [] spots places = places
noted k (e ∷ entries) [] places = places
noted k (e ∷ entries) (s ∷ spots) places = noted k entries spots (note k e.origin s.at places)

abbrev laying : List DeclarationShape → ℕ → List ℕ → List ℕ → Laying
laying shapes at codes places = record { shapes = shapes; at = at; codes = codes; places = places }

module _ (k : EntryTable) (here : WritingContext) where
  abbrev First : List Entry → List Call
  First entries = calls_of k here no_numbers entries

  pub entries_laid : (entries : List Entry) (shapes : List DeclarationShape) (at : ℕ) (codes places : List ℕ)
      → with_entries k here entries (laying shapes at codes places)
      ≡ laying (shapes_after shapes (First entries)) (end_after shapes at (First entries)) (codes ++ codes_of (laid_from shapes at (First entries)))
      (noted k entries (laid_from shapes at (First entries)) places)
  unfolding with_entries shapes_after laid_from end_after noted
  entries_laid [] shapes at codes places = ap (λ (w : List ℕ). laying shapes at w places) (sym (append-nil codes))
  entries_laid (e ∷ entries) shapes at codes places =
      let c = call_of k here no_numbers e in
      let more = with_shape shapes (shape_of_call c) in
      let one = laid_one shapes at c in
      let next : at + length (entry_bytes more (shape_of_call c) c.attrs) + c.ends ≡ at + call_len shapes c = omega arith in
      let rest = laid_from more (at + call_len shapes c) (First entries) in
      ap (λ (p : ℕ). with_entries k here entries (laying more p (codes ++ one.code ∷ []) (note k e.origin at places))) next
      ∙ entries_laid entries more (at + call_len shapes c) (codes ++ one.code ∷ []) (note k e.origin at places)
      ∙ ap (λ (w : List ℕ). laying (shapes_after more (First entries)) (end_after more (at + call_len shapes c) (First entries)) w (noted k entries rest (note k e.origin at places)))
      (append_assoc codes (one.code ∷ []) (codes_of rest))

-- ---- the entries as events

abbrev pub call_events : Call → List Event
call_events c = NewEntry c.tag c.children c.attrs ∷ replicate c.ends EndOfList

unfoldable pub calls_events : List Call → List Event
calls_events [] = []
calls_events (c ∷ calls) = call_events c ++ calls_events calls

ends_run : (count : ℕ) (w : Tree) → run (replicate count EndOfList) w ≡ tree w.shapes (w.body ++ replicate count 0)
unfolding run
ends_run zero w = ap (tree w.shapes) (sym (append-nil w.body))
ends_run (suc count) w =
    let zeros : List ℕ = replicate count 0 in
    ends_run count (tree w.shapes (w.body ++ 0 ∷ [])) ∙ ap (tree w.shapes) (append_assoc w.body (0 ∷ []) zeros)

-- the code that was laid is that of the shape
laid_code : (shapes : List DeclarationShape) (s : DeclarationShape) → code_bytes (code_in 1 (with_shape shapes s) s) ≡ uleb (or_zero (code_in 1 (with_shape shapes s) s))
laid_code shapes s =
    let has = (with_shape-has shapes s).0 in
    ap code_bytes has.is ∙ sym (ap (λ (o : Option ℕ). uleb (or_zero o)) has.is)

-- calls that differ in numbers alone
abbrev pub SameShapes : List Call → List Call → Type 0
SameShapes [] [] = Unit {0}
SameShapes (a ∷ first) (b ∷ second) = (shape_of_call a ≡ shape_of_call b) × SameShapes first second
SameShapes _ _ = ⊥

call_run : (a c : Call) → shape_of_call a ≡ shape_of_call c → (w : Tree) (at : ℕ)
    → run (call_events c) w ≡ tree (with_shape w.shapes (shape_of_call a)) (w.body ++ entry_page (laid_one w.shapes at a).code c)
unfolding run
call_run a c same w at =
    let s = shape_of_call c in
    let shapes = with_shape w.shapes s in
    let zeros : List ℕ = replicate c.ends 0 in
    let body = w.body ++ entry_bytes shapes s c.attrs in
    let page : body ++ zeros ≡ w.body ++ entry_page (or_zero (code_in 1 shapes s)) c =
    append_assoc w.body (entry_bytes shapes s c.attrs) zeros
    ∙ ap (λ (b : List ℕ). w.body ++ b) (append_assoc (code_bytes (code_in 1 shapes s)) (values_bytes c.attrs) zeros)
    ∙ ap (λ (b : List ℕ). w.body ++ (b ++ (values_bytes c.attrs ++ zeros))) (laid_code w.shapes s) in
    ends_run c.ends (tree shapes body)
    ∙ ap (tree shapes) page
    ∙ sym (ap (λ (t : DeclarationShape). tree (with_shape w.shapes t) (w.body ++ entry_page (or_zero (code_in 1 (with_shape w.shapes t) t)) c)) same)

pub calls_run : (first calls : List Call) → SameShapes first calls → (w : Tree) (at : ℕ)
    → run (calls_events calls) w ≡ tree (shapes_after w.shapes first) (w.body ++ entries_page (codes_of (laid_from w.shapes at first)) calls)
unfolding run calls_events shapes_after laid_from entries_page
calls_run [] [] same w at = ap (tree w.shapes) (sym (append-nil w.body))
calls_run [] (c ∷ calls) same w at = absurd same
calls_run (a ∷ first) [] same w at = absurd same
calls_run (a ∷ first) (c ∷ calls) same w at =
    let more = with_shape w.shapes (shape_of_call a) in
    let page = entry_page (laid_one w.shapes at a).code c in
    let rest = entries_page (codes_of (laid_from more (at + call_len w.shapes a) first)) calls in
    run-append (call_events c) (calls_events calls) w
    ∙ ap (run (calls_events calls)) (call_run a c same.0 w at)
    ∙ calls_run first calls same.1 (tree more (w.body ++ page)) (at + call_len w.shapes a)
    ∙ ap (tree (shapes_after more first)) (append_assoc w.body page rest)

-- ---- where they end

pub length-zeros : (count : ℕ) → length (replicate {A = ℕ} count 0) ≡ count
length-zeros zero = refl
length-zeros (suc count) = ap suc (length-zeros count)

page_len : (shapes : List DeclarationShape) (at : ℕ) (c : Call) → length (entry_page (laid_one shapes at c).code c) ≡ call_len shapes c
page_len shapes at c =
    let s = shape_of_call c in
    let more = with_shape shapes s in
    let code = laid_code shapes s in
    let zeros : List ℕ = replicate c.ends 0 in
    let front = ap (λ (b : List ℕ). length b) code in
    omega (
      arith,
      front,
      length-append (uleb (or_zero (code_in 1 more s))) (values_bytes c.attrs ++ zeros),
      length-append (values_bytes c.attrs) zeros,
      length-append (code_bytes (code_in 1 more s)) (values_bytes c.attrs),
      length-zeros c.ends,
    )

pub calls_end : (calls : List Call) (shapes : List DeclarationShape) (at : ℕ) → end_after shapes at calls ≡ at + length (entries_page (codes_of (laid_from shapes at calls)) calls)
unfolding end_after laid_from entries_page
calls_end [] shapes at = omega arith
calls_end (c ∷ calls) shapes at =
    let more = with_shape shapes (shape_of_call c) in
    let next = at + call_len shapes c in
    let page = entry_page (laid_one shapes at c).code c in
    let rest = entries_page (codes_of (laid_from more next calls)) calls in
    omega (arith, calls_end calls more next, page_len shapes at c, length-append page rest)
