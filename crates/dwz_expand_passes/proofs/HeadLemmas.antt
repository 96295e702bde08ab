-- The tags and depths of entries, as they are stored, are those that are said.
use Rattle.std.proofs.Common.{◌≡◌, ℕ, suc, ◌+◌, ◌-◌, ◌<◌, ◌≤◌, List, [], ◌∷◌, ◌++◌, length, map, Option, Some, None, Ok, slice_get, refl, sym, ap, subst, ◌∙◌, arith}
use Rattle.std.proofs.lemmas.List.{append-nil, append_assoc, length-map, map-append}
use Rattle.dwz_def_cross.specs.Tops.{WithCommon}
use Rattle.dwz_def_expand.specs.Refusals.{Where}
use Rattle.dwz_def_expand.specs.Source.{Copy}
use Rattle.dwz_def_reading.specs.Documents.{DwUnit, Entries, entries_map, unit_map}
use Rattle.dwz_def_reading.specs.Entries.{RawEntry, root_position}
use Rattle.dwz_def_reading.specs.Meanings.{Around, MeanEntries, MeanUnits, MeaningContext, scope_of}
use Rattle.dwz_def_reading.specs.Meant.{units_meaning}
use Rattle.dwz_def_reading.specs.Trees.{End, Entry, Forest, Position, behind, first_below}
use Rattle.dwz_def_reading.specs.Units.{RawUnit, entries_in, entry_count}
use Rattle.dwz_model.proofs.ListFacts.{got_map, got_there}
use Rattle.dwz_graph.specs.Surroundings.{behind_own}
use Rattle.dwz_expand_layout.specs.Lines.{Line, lines, unit_lines}
use Rattle.dwz_expand_layout.specs.Shown.{Keys}
use Rattle.dwz_expand_passes.proofs.PlacesSaid.{first_got, second_got, units_mean}
use Rattle.dwz_expand_passes.specs.Files.{Knows, KnowsCommon, around_at, around_beside, raw_in}
use Rattle.dwz_expand_passes.specs.declared.files.Known.{Known}
use Rattle.dwz_expand_passes.specs.declared.files.SourceFile.{SourceFile}
use Rattle.dwz_expand_passes.specs.Heads.{IsHead, IsHeadOf}
use Rattle.dwz_expand_passes.specs.declared.heads.Head.{Head}
use Rattle.dwz_expand_passes.specs.Lined.{all_lines, units_lines}
use Rattle.dwz_unit.proofs.ShownLemmas.{rows_from-length}
use Rattle.dwz_unit.specs.Rows.{EntryRow, rows_below, rows_from, rows_of}

abbrev Both : Type 0
Both = ℕ × ℕ

abbrev of_line : {K : Type 0} → Line K → Both
of_line l = (l.depth, l.node.tag)

abbrev of_row : EntryRow → Both
of_row r = (r.depth, r.entry.tag)

-- ---- one file

below_heads : (s : MeaningContext ℕ) (f : Forest RawEntry) (g : Entries ℕ) → MeanEntries s f g → (unit : ℕ) (p : Position) (depth : ℕ) → depth ≡ p.depth
    → map of_line (lines depth g) ≡ map of_row (rows_below f unit p)
unfolding lines rows_below
below_heads s End End h unit p depth is = refl
below_heads s End (Entry d c n) h unit p depth is = absurd h
below_heads s (Entry e c n) End h unit p depth is = absurd h
below_heads s (Entry e c n) (Entry d c' n') h unit p depth is =
    let next : suc depth ≡ p.depth + 1 = omega (arith, is) in
    (λ i. (is i, h.0.tag i) ∷ map-append of_line (lines (suc depth) c') (lines depth n') i)
    ∙ (λ i. (p.depth, e.tag) ∷ (below_heads s c c' h.1 unit (first_below p) (suc depth) next i ++ below_heads s n n' h.2 unit (behind p c) depth is i))
    ∙ ap (λ (w : List Both). (p.depth, e.tag) ∷ w) (sym (map-append of_row (rows_below c unit (first_below p)) (rows_below n unit (behind p c))))

units_heads : (around : Around ℕ) (raw : List RawUnit) (said : List (DwUnit ℕ)) → MeanUnits around raw said → (unit before : ℕ)
    → map of_line (units_lines said) ≡ map of_row (rows_from raw unit before)
unfolding units_lines rows_from rows_below
units_heads around [] [] h unit before = refl
units_heads around [] (v ∷ said) h unit before = absurd h
units_heads around (u ∷ raw) [] h unit before = absurd h
units_heads around (u ∷ raw) (v ∷ said) h unit before =
    let p = first_below (root_position before) in
    let below = rows_below u.below unit p in
    let later = rows_from raw (unit + 1) (before + entry_count u) in
    (λ i. (1, h.0.root.tag i) ∷ map-append of_line (lines 2 v.below) (units_lines said) i)
    ∙ (λ i. (1, u.root.tag) ∷ (below_heads (scope_of around u) u.below v.below h.0.below unit p 2 refl i ++ units_heads around raw said h.1 (unit + 1) (before + entry_count u) i))
    ∙ ap (λ (w : List Both). (1, u.root.tag) ∷ w)
    (sym (map-append of_row below later) ∙ ap (λ (rows : List EntryRow). map of_row (rows ++ later)) (sym (append-nil below)))

-- ---- with other places, and of two files

below_moved : (g : ℕ → ℕ) (depth : ℕ) (f : Entries ℕ) → map of_line (lines depth (entries_map g f)) ≡ map of_line (lines depth f)
unfolding lines entries_map
below_moved g depth End = refl
below_moved g depth (Entry d c n) =
    ap (λ (w : List Both). (depth, d.tag) ∷ w)
    (map-append of_line (lines (suc depth) (entries_map g c)) (lines depth (entries_map g n))
    ∙ (λ i. below_moved g (suc depth) c i ++ below_moved g depth n i)
    ∙ sym (map-append of_line (lines (suc depth) c) (lines depth n)))

units_moved : (g : ℕ → ℕ) (units : List (DwUnit ℕ)) → map of_line (units_lines (map (unit_map g) units)) ≡ map of_line (units_lines units)
unfolding units_lines
units_moved g [] = refl
units_moved g (u ∷ units) =
    ap (λ (w : List Both). (1, u.root.tag) ∷ w)
    (map-append of_line (lines 2 (entries_map g u.below)) (units_lines (map (unit_map g) units))
    ∙ (λ i. below_moved g 2 u.below i ++ units_moved g units i)
    ∙ sym (map-append of_line (lines 2 u.below) (units_lines units)))

lines_joined : (us vs : List (DwUnit ℕ)) → units_lines (us ++ vs) ≡ units_lines us ++ units_lines vs
unfolding units_lines
lines_joined [] vs = refl
lines_joined (u ∷ us) vs = ap (λ (w : List (Line ℕ)). unit_lines u ++ w) (lines_joined us vs) ∙ sym (append_assoc (unit_lines u) (units_lines us) (units_lines vs))

module _ (around : Around ℕ) (raw : List RawUnit) (said : List (DwUnit ℕ)) (means : units_meaning around raw ≡ Ok said) where
  file_heads : map of_line (units_lines said) ≡ map of_row (rows_of raw)
  file_heads = units_heads around raw said (units_mean around raw said means) 0 0

  pub lines_many : length (units_lines said) ≡ entries_in raw
  lines_many =
      sym (length-map (units_lines said) of_line) ∙ ap (λ (w : List Both). length w) file_heads ∙ length-map (rows_of raw) of_row ∙ rows_from-length raw 0 0

  -- the head of an entry, as it is stored, is that of what says the same
  by_row : (ls : List (Line ℕ)) → map of_line ls ≡ map of_line (units_lines said) → (i : ℕ) (l : Line ℕ) (h : Head) → i < entries_in raw → slice_get ls i ≡ Some l
      → ((row : EntryRow) → slice_get (rows_of raw) i ≡ Some row → IsHead row h) → IsHeadOf l h
  by_row ls are i l h lt found is =
      let r = got_there (rows_of raw) i (let many = rows_from-length raw 0 0 in omega arith) in
      let one : slice_get (map of_line ls) i ≡ Some (of_line l) = got_map of_line ls i l found in
      let two : slice_get (map of_row (rows_of raw)) i ≡ Some (of_row r.0) = got_map of_row (rows_of raw) i r.0 r.1 in
      let both : Some (of_line l) ≡ Some (of_row r.0) = sym one ∙ ap (λ (w : List Both). slice_get w i) (are ∙ file_heads) ∙ two in
      let pair : of_line l ≡ of_row r.0 = cc in
      let depth : l.depth ≡ r.0.depth = ap (λ (p : Both). p.0) pair in
      let tag : l.node.tag ≡ r.0.entry.tag = ap (λ (p : Both). p.1) pair in
      let head = is r.0 r.1 in
      record { depth = head.depth ∙ sym depth; tag = head.tag ∙ sym tag }

module _ (x : Known) (w : WithCommon ℕ) (keys : Keys (Copy ℕ)) (stands : Where ℕ) (know : Knows x w keys stands) where
  own_many : length (units_lines w.own) ≡ entries_in (raw_in x.own)
  own_many = lines_many (around_at x) (raw_in x.own) w.own know.own.means

  joined_at : (i : ℕ) (l : Line ℕ) → slice_get (all_lines w) i ≡ Some l → slice_get (units_lines w.own ++ units_lines w.common) i ≡ Some l
  joined_at i l found = ap (λ (ls : List (Line ℕ)). slice_get ls i) (sym (lines_joined w.own w.common)) ∙ found

  pub own_head : (i : ℕ) (l : Line ℕ) (h : Head) → i < entries_in (raw_in x.own) → slice_get (all_lines w) i ≡ Some l
      → ((row : EntryRow) → slice_get (rows_of (raw_in x.own)) i ≡ Some row → IsHead row h) → IsHeadOf l h
  own_head i l h lt found is =
      let many = own_many in
      by_row (around_at x) (raw_in x.own) w.own know.own.means (units_lines w.own) refl i l h lt
      (first_got (units_lines w.own) (units_lines w.common) i l (omega (arith, lt, many)) (joined_at i l found)) is

  pub common_head : (c : SourceFile) → x.common ≡ Some c → (i : ℕ) (l : Line ℕ) (h : Head) → entries_in (raw_in x.own) ≤ i → i - entries_in (raw_in x.own) < entries_in (raw_in c)
      → slice_get (all_lines w) i ≡ Some l
      → ((row : EntryRow) → slice_get (rows_of (raw_in c)) (i - entries_in (raw_in x.own)) ≡ Some row → IsHead row h) → IsHeadOf l h
  common_head c given i l h le lt found is =
      let kc = subst (λ (o : Option SourceFile). KnowsCommon o w.common stands) given know.common in
      let k = i - entries_in (raw_in x.own) in
      let many = own_many in
      let at : i - length (units_lines w.own) ≡ k = ap (λ (n : ℕ). i - n) many in
      let there : slice_get (units_lines w.common) k ≡ Some l =
      ap (λ (n : ℕ). slice_get (units_lines w.common) n) (sym at)
      ∙ second_got (units_lines w.own) (units_lines w.common) i l (omega (arith, le, many)) (joined_at i l found) in
      by_row (around_beside c None) (raw_in c) kc.0 kc.1.means (units_lines w.common)
      (ap (λ (us : List (DwUnit ℕ)). map of_line (units_lines us)) kc.2 ∙ units_moved behind_own kc.0) k l h lt there is
