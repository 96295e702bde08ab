-- A new unit that shows one of a document: how it is laid, and its bytes.
use Rattle.std.proofs.Common.{◌≡◌, ℕ, ◌+◌, ◌-◌, List, [], ◌∷◌, ◌++◌, length, map, slice_index, refl, sym, ap, subst, ◌∙◌, append_assoc, arith}
use Rattle.std.proofs.lemmas.List.{length-map}
use Rattle.dwz_bytes.specs.Spelling.{le_bytes}
use Rattle.dwz_def_encoding.proofs.WriteLengths.{FixedUnit, size_len}
use Rattle.dwz_def_encoding.specs.Placing.{UnitStands, zeros}
use Rattle.dwz_def_encoding.specs.Writing.{DeclarationShape, Numbering, abbrevs_of, kind_bytes, or_zero, table_in, table_of, tree_bytes, type_of, unit_bytes, with_table, written_header_size}
use Rattle.dwz_def_encoding.specs.Writing.{written_unit_size}
use Rattle.dwz_def_reading.specs.Documents.{Compile as CompileUnit, DwUnit, Kind, OfType as TypeUnit, Partial}
use Rattle.dwz_def_reading.specs.Lists.{Each}
use Rattle.dwz_encode.proofs.EventLemmas.{unit_after}
use Rattle.dwz_encode.proofs.KeyLemmas.{KeysAt, event_places, laid_places, unit_at}
use Rattle.dwz_encode.proofs.PassLemmas.{Stand, calls_end, calls_events, calls_run, codes_of, end_after, laid_from, shapes_after}
use Rattle.dwz_encode.proofs.StepLemmas.{unit_steps_events}
use Rattle.dwz_encode.specs.Events.{Event, Tree, run, tree, unit_events, unit_tree}
use Rattle.dwz_encode.specs.Pages.{entries_page}
use Rattle.dwz_layout.specs.Attributes.{Call, Numbers, no_numbers}
use Rattle.dwz_layout_items.specs.Lines.{unit_steps}
use Rattle.dwz_expand_layout.specs.declared.entries.NewKind.{NewKind}
use Rattle.dwz_expand_layout.specs.declared.entries.NewKind.TheVariants.{Compile, OfType}
use Rattle.dwz_expand_layout.specs.declared.layout.LaidUnit.{LaidUnit}
use Rattle.dwz_expand_layout.specs.Entries.{UnitLines, line_call}
use Rattle.dwz_expand_layout.specs.Laid.{Laying, Made, ended, header_size, with_unit}
use Rattle.dwz_expand_layout.specs.Shown.{KindShows, ShowsUnit, ShownStep}
use Rattle.dwz_expand_layout.specs.Written.{header_page, kind_byte, kind_page}
use Rattle.dwz_expand_layout.proofs.PassLemmas.{first_calls, laid_many, laying_with, lines_laid, made_with, places_of, same_shapes}
use Rattle.dwz_expand_layout.proofs.ShownLemmas.{CopiesAt, LineAgrees, ShownAt, keys_shown, lines_at, lines_shown, no_lines, shown_event, steps_shown}

-- where entries stand in a unit that begins at a place, and their codes
abbrev pub stands : UnitLines → ℕ → List Stand
stands o at = laid_from [] (at + header_size o.kind) (first_calls o.lines)

pub stands_many : (o : UnitLines) (at : ℕ) → length (stands o at) ≡ length o.lines
stands_many o at = laid_many (first_calls o.lines) [] (at + header_size o.kind) ∙ length-map o.lines (line_call no_numbers)

abbrev pub offset_in : {K : Type 0} → List (List ℕ) → DwUnit K → ℕ
offset_in tables u = or_zero (table_in 0 (with_table tables (abbrevs_of u)) (abbrevs_of u))

abbrev pub out_unit : {K : Type 0} → DwUnit K → ℕ → ℕ → LaidUnit
out_unit u at offset = record { at = at; end = at + written_unit_size zeros 0 u; table = offset }

-- the type of a type unit has its number
abbrev pub KindAgrees : {K : Type 0} → (ℕ → K) → Numbering K → Numbers → NewKind → Type 0
KindAgrees key n m Compile = Unit {0}
KindAgrees key n m (OfType t main) = n.place (key main) ≡ slice_index m.places main

module _ {K : Type 0} (key : ℕ → K) (number : ℕ) (o : UnitLines) (u : DwUnit K) (shows : ShowsUnit key number o u) (fixed : FixedUnit u) where
  abbrev First : List Call
  First = first_calls o.lines

  -- ---- the header

  size_is : (s : NewKind) (kind : Kind K) → KindShows key s kind → header_size s ≡ written_header_size kind
  size_is Compile CompileUnit is = refl
  size_is Compile (TypeUnit signature main) is = absurd is
  size_is Compile Partial is = absurd is
  size_is (OfType t main) CompileUnit is = absurd is
  size_is (OfType t main) (TypeUnit signature k) is = refl
  size_is (OfType t main) Partial is = absurd is

  type_is : (s : NewKind) (kind : Kind K) → KindShows key s kind → kind_byte s ≡ type_of kind
  type_is Compile CompileUnit is = refl
  type_is Compile (TypeUnit signature main) is = absurd is
  type_is Compile Partial is = absurd is
  type_is (OfType t main) CompileUnit is = absurd is
  type_is (OfType t main) (TypeUnit signature k) is = refl
  type_is (OfType t main) Partial is = absurd is

  kind_is : (n : Numbering K) (m : Numbers) (s : NewKind) (kind : Kind K) → KindShows key s kind → KindAgrees key n m s → kind_page m s ≡ kind_bytes n m.unit kind
  kind_is n m Compile CompileUnit is agrees = refl
  kind_is n m Compile (TypeUnit signature main) is agrees = absurd is
  kind_is n m Compile Partial is agrees = absurd is
  kind_is n m (OfType t main) CompileUnit is agrees = absurd is
  kind_is n m (OfType t main) (TypeUnit signature k) is agrees = (λ i. le_bytes 8 (is.0 i) ++ le_bytes 4 ((sym agrees ∙ ap n.place is.1) i - m.unit))
  kind_is n m (OfType t main) Partial is agrees = absurd is

  pub header_is : header_size o.kind ≡ written_header_size u.kind
  header_is = size_is o.kind u.kind shows.kind

  -- ---- the entries

  -- under numbers that agree, the events of the calls are those of the unit
  events_are : (n : Numbering K) (m : Numbers) → Each (LineAgrees key n m) o.lines → calls_events (map (line_call m) o.lines) ≡ unit_events n m.unit u
  events_are n m agree =
      sym (lines_shown key n m number o.lines agree)
      ∙ ap (λ (ss : List (ShownStep K)). map (shown_event n m.unit) ss) shows.steps
      ∙ steps_shown n m.unit (unit_steps u)
      ∙ unit_steps_events n m.unit u fixed

  zero_events : calls_events First ≡ unit_events zeros 0 u
  zero_events = events_are zeros no_numbers (no_lines key o.lines)

  -- what both passes leave is the unit's table, and its tree's bytes
  left : (n : Numbering K) (m : Numbers) → Each (LineAgrees key n m) o.lines → (at : ℕ)
      → tree (shapes_after [] First) (entries_page (codes_of (laid_from [] at First)) (map (line_call m) o.lines)) ≡ unit_tree n m.unit u
  left n m agree at =
      sym (calls_run First (map (line_call m) o.lines) (same_shapes no_numbers m o.lines) (tree [] []) at)
      ∙ ap (λ (es : List Event). run es (tree [] [])) (events_are n m agree)
      ∙ unit_after n m.unit u

  shapes_are : shapes_after [] First ≡ table_of u
  shapes_are = ap (λ (w : Tree). w.shapes) (left zeros no_numbers (no_lines key o.lines) 0)

  pages_are : (n : Numbering K) (m : Numbers) → Each (LineAgrees key n m) o.lines → (at : ℕ) → entries_page (codes_of (laid_from [] at First)) (map (line_call m) o.lines) ≡ tree_bytes n m.unit u
  pages_are n m agree at = ap (λ (w : Tree). w.body) (left n m agree at)

  -- ---- how it is laid

  pub unit_laid : (m : Made) (begin : ℕ) (shapes : List DeclarationShape)
      → with_unit (laying_with m begin shapes) o
      ≡ laying_with
      (made_with (m.units ++ out_unit u m.end (offset_in m.tables u) ∷ []) (with_table m.tables (abbrevs_of u)) (m.places ++ places_of (stands o m.end)) (m.codes ++ codes_of (stands o m.end))
      (m.end + written_unit_size zeros 0 u))
      m.end (table_of u)
  unit_laid m begin shapes =
      let start = m.end + header_size o.kind in
      let body = pages_are zeros no_numbers (no_lines key o.lines) start in
      let end : end_after [] start First ≡ m.end + written_unit_size zeros 0 u =
      omega (arith, calls_end First [] start, ap (λ (b : List ℕ). length b) body, size_is o.kind u.kind shows.kind) in
      ap (λ (l : Laying). ended l) (lines_laid m.units m.tables m.end o.lines m.places m.codes start [])
      ∙ (λ i. ended (laying_with (made_with m.units m.tables (m.places ++ places_of (stands o m.end)) (m.codes ++ codes_of (stands o m.end)) (end i)) m.end (shapes_are i)))

  -- ---- its bytes

  regroup : (a b c d e f : List ℕ) → (a ++ (b ++ (c ++ (d ++ e)))) ++ f ≡ a ++ (b ++ (c ++ (d ++ (e ++ f))))
  regroup a b c d e f = simp append_assoc

  pub page_is : (n : Numbering K) (m : Numbers) (offset : ℕ) → Each (LineAgrees key n m) o.lines → KindAgrees key n m o.kind
      → header_page m o.kind (out_unit u m.unit offset) ++ entries_page (codes_of (stands o m.unit)) (map (line_call m) o.lines) ≡ unit_bytes n offset m.unit u
  unfolding unit_bytes
  page_is n m offset agree kind =
      let at = m.unit in
      let size : at + written_unit_size zeros 0 u - at - 4 ≡ written_unit_size n at u - 4 = omega (arith, size_len zeros n 0 at u fixed) in
      let body = pages_are n m agree (at + header_size o.kind) in
      (λ i. (le_bytes 4 (size i) ++ (le_bytes 2 5 ++ (type_is o.kind u.kind shows.kind i ∷ 8 ∷ [] ++ (le_bytes 4 offset ++ kind_is n m o.kind u.kind shows.kind kind i)))) ++ body i)
      ∙ regroup (le_bytes 4 (written_unit_size n at u - 4)) (le_bytes 2 5) (type_of u.kind ∷ 8 ∷ []) (le_bytes 4 offset) (kind_bytes n at u.kind) (tree_bytes n at u)

  -- ---- its places

  pub copies_at : (n : Numbering K) (at : ℕ) → UnitStands n u at → CopiesAt n key number (places_of (stands o at))
  copies_at n at there =
      let nodes = unit_at n u at fixed there in
      let places : event_places [] (at + written_header_size u.kind) (unit_events zeros 0 u) ≡ places_of (stands o at) =
      (λ i. event_places [] (at + sym header_is i) (sym zero_events i)) ∙ laid_places First [] (at + header_size o.kind) in
      let shown = keys_shown n (unit_steps u) (places_of (stands o at)) (subst (KeysAt n (unit_steps u)) places nodes) in
      let many : length (places_of (stands o at)) ≡ length o.lines = length-map (stands o at) (λ (s : Stand). s.at) ∙ stands_many o at in
      lines_at n key number o.lines (places_of (stands o at)) many (subst (λ (ss : List (ShownStep K)). ShownAt n ss (places_of (stands o at))) (sym shows.steps) shown)
