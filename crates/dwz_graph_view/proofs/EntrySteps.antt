-- What is shown of an entry that was found, or that none was.
use Rattle.std.proofs.Common.{◌≡◌, ℕ, zero, suc, ◌+◌, ◌<◌, ◌≤◌, ◌==◌, ◌^◌, Bool, true, false, List, [], ◌∷◌, length, Option, Some, None, slice_get, refl, sym, ap, subst, ◌∙◌, cond, arith}
use Rattle.std.specs.Prelude.{IfSome, count_by}
use Rattle.std.specs.List.{find}
use Rattle.std.specs.Option.{option_and_then, option_map, option_map_or}
use Rattle.std.proofs.lemmas.Bool.{eq-eqb, ne_eqb}
use Rattle.std.proofs.lemmas.List.{length-map}
use Rattle.std.proofs.lemmas.List.Sums.{count_by-le-length}
use Rattle.dwz_def_reading.specs.Input.{Input}
use Rattle.dwz_model.specs.declared.place.Pair.{Pair}
use Rattle.dwz_model.specs.declared.place.Place.{Place}
use Rattle.dwz_def_reading.specs.Documents.{Doc}
use Rattle.dwz_def_reading.specs.Entries.{RawAttr}
use Rattle.dwz_def_reading.specs.Files.{around_of}
use Rattle.dwz_def_reading.specs.Meanings.{Around, MeanUnits, scope_of, without_siblings}
use Rattle.dwz_def_reading.specs.Units.{RawUnit, entries_in}
use Rattle.dwz_def_reading.proofs.AttrPairs.{read_pairs}
use Rattle.dwz_def_reading.proofs.FileLemmas.{file_agrees}
use Rattle.dwz_def_reading.proofs.ListFacts.{got_below, got_map, got_there}
use Rattle.dwz_graph.specs.declared.file.File.{File}
use Rattle.dwz_graph.specs.Files.{AreKept, docs_of}
use Rattle.dwz_graph.specs.Places.{place_at, places}
use Rattle.dwz_graph.proofs.FileLemmas.{files_few}
use Rattle.dwz_graph.proofs.PlaceLemmas.{entry_place, places_many, places_rise}
use Rattle.dwz_unit.proofs.RowsFound.{entry_row, row_is, row_there, rows-length}
use Rattle.dwz_graph.proofs.RowUnits.{unit_within}
use Rattle.dwz_graph.proofs.SearchLemmas.{Rise}
use Rattle.dwz_unit.specs.declared.rows.RawEntry.{RawEntry as EntryOfCode}
use Rattle.dwz_unit.specs.Rows.{EntryRow, attr_count, entry_shown, rows_of, shown_entries, units_of}
use Rattle.dwz_unit.specs.Values.{Reads}
use Rattle.dwz_graph_view.specs.EntryRows.{IsNumberAt, IsRowOf}
use Rattle.dwz_graph_view.specs.EntryViews.{EntrySpot, begins_at, entry_at, entry_view, first_offset, spots_from, units_before}
use Rattle.dwz_graph_view.proofs.FileDocs.{IsFileOf, file_of, same_file}
use Rattle.dwz_graph.proofs.FileCounts.{files_many}
use Rattle.dwz_graph_view.proofs.RowSpots.{InStep, all_in_step, all_long, attrs_many, counts, means_many, step_at}
use Rattle.dwz_graph_view.proofs.UnitCounts.{before_few}

-- ---- the first that passes

find_first : {X : Type 0} (p : X → Bool) (xs : List X) (k : ℕ) (x : X) → slice_get xs k ≡ Some x → p x ≡ true → ((j : ℕ) (y : X) → j < k → slice_get xs j ≡ Some y → p y ≡ false) → find p xs ≡ Some x
find_first p [] k x got is before = absurd cc
find_first p (y ∷ xs) zero x got is before =
    let same : y ≡ x = cc in
    ap (λ (b : Bool). cond b (Some y) (find p xs)) (ap p same ∙ is) ∙ ap Some same
find_first p (y ∷ xs) (suc k) x got is before =
    ap (λ (b : Bool). cond b (Some y) (find p xs)) (before 0 y (omega arith) refl) ∙ find_first p xs k x got is (λ j z lt there. before (suc j) z (omega arith) there)

find_none : {X : Type 0} (p : X → Bool) (xs : List X) → ((j : ℕ) (y : X) → slice_get xs j ≡ Some y → p y ≡ false) → find p xs ≡ None
find_none p [] none = refl
find_none p (y ∷ xs) none = ap (λ (b : Bool). cond b (Some y) (find p xs)) (none 0 y refl) ∙ find_none p xs (λ j z there. none (suc j) z there)

none_beyond : {X : Type 0} (xs : List X) (k : ℕ) → length xs ≤ k → slice_get xs k ≡ None
none_beyond [] k le = refl
none_beyond (x ∷ xs) zero le = absurd (omega arith)
none_beyond (x ∷ xs) (suc k) le = none_beyond xs k (omega arith)

-- ---- by the numbers of rows

abbrev begins : ℕ → EntrySpot → Bool
begins offset e = e.node.at == offset

row_place : (raw : List RawUnit) (around : Around ℕ) (first i : ℕ) (e : EntrySpot) → IsRowOf raw around first i e → place_at raw i ≡ e.node.at
row_place raw around first i e h = entry_place raw i (entry_shown h.row) (got_map entry_shown (rows_of raw) i h.row h.found) ∙ sym h.at

module _ (raw : List RawUnit) (around : Around ℕ) (first offset : ℕ) (spots : List EntrySpot) (step : InStep raw around first 0 spots) (long : length spots ≡ entries_in raw) (rise : Rise (places raw)) where
  at_number : (j : ℕ) (e : EntrySpot) → slice_get spots j ≡ Some e → IsRowOf raw around first j e
  at_number j e got = let same : 0 + j ≡ j = omega arith in subst (λ (n : ℕ). IsRowOf raw around first n e) same (step_at raw around first spots 0 j e step got)

  spot_found : (i : ℕ) (e : EntrySpot) → slice_get spots i ≡ Some e → place_at raw i ≡ offset → begins_at offset spots ≡ Some e
  spot_found i e got is =
      let high = got_below spots i e got in
      let many = places_many raw in
      find_first (begins offset) spots i e got (eq-eqb e.node.at offset (sym (row_place raw around first i e (at_number i e got)) ∙ is))
      (λ j y lt there. ne_eqb y.node.at offset (λ same. (
      let up = rise j i lt (omega arith) in
      let here = row_place raw around first j y (at_number j y there) in
      omega (arith, up, here, same, is))))

  spot_none : ((i : ℕ) → i < entries_in raw → place_at raw i ≡ offset → ⊥) → begins_at offset spots ≡ None
  spot_none none = find_none (begins offset) spots (λ j y there. ne_eqb y.node.at offset (λ same.
      none j (let high = got_below spots j y there in omega arith) (row_place raw around first j y (at_number j y there) ∙ same)))

-- ---- of a file that is kept

module _ (contents : List (List ℕ)) (files : List File) (p : Place) (kept : AreKept contents files) where
  pub no_file : length files ≤ p.file → entry_at (docs_of contents) p ≡ None
  no_file le =
      let many = files_many contents files kept in
      ap (option_and_then (λ (doc : Doc ℕ). begins_at p.offset (spots_from (units_before (docs_of contents) p.file) doc.units))) (none_beyond (docs_of contents) p.file (omega arith))

  module _ (f : File) (got : slice_get files p.file ≡ Some f) where
    abbrev raw : List RawUnit
    raw = units_of f.units

    abbrev first : ℕ
    first = units_before (docs_of contents) p.file

    abbrev o : IsFileOf contents p.file f
    o = file_of contents files p.file f kept got

    abbrev spots : List EntrySpot
    spots = spots_from first o.read.doc.units

    means : MeanUnits (around_of o.bytes raw) raw o.read.doc.units
    means = (((file_agrees o.limits o.bytes).ok (raw, o.read.doc)).0 o.read.means).means

    step : InStep raw (around_of o.bytes raw) first 0 spots
    step = all_in_step raw (around_of o.bytes raw) first o.read.doc.units (λ n. refl) means

    long : length spots ≡ entries_in raw
    long = all_long (around_of o.bytes raw) raw o.read.doc.units first means

    there : entry_at (docs_of contents) p ≡ begins_at p.offset spots
    there = ap (option_and_then (λ (doc : Doc ℕ). begins_at p.offset (spots_from first doc.units))) o.doc_is

    pub no_entry : ((i : ℕ) → i < entries_in raw → place_at raw i ≡ p.offset → ⊥) → entry_at (docs_of contents) p ≡ None
    no_entry none = there ∙ spot_none raw (around_of o.bytes raw) first p.offset spots step long (places_rise f.units) none

    pub a_number : (i : ℕ) → i < entries_in raw → place_at raw i ≡ p.offset → IsNumberAt contents p i
    a_number i lt place =
        let e = got_there spots i (omega (arith, long, lt)) in
        let is = at_number raw (around_of o.bytes raw) first p.offset spots step long (places_rise f.units) i e.0 e.1 in
        let many = files_few contents files kept in
        let low = got_below files p.file f got in
        record {
          within = omega arith;
          bytes = o.bytes;
          content = o.content;
          spot = e.0;
          there = there ∙ spot_found raw (around_of o.bytes raw) first p.offset spots step long (places_rise f.units) i e.0 e.1 place;
          means = λ others g also found. (
              let same = same_file contents p.file f g o (file_of contents others p.file g also found) in
              (subst (λ (w : List RawUnit). i < entries_in w) same lt, subst (λ (w : List RawUnit). IsRowOf w (around_of o.bytes w) first i e.0) same is));
        }

    pub a_number_if : (o : Option ℕ) → IfSome o (λ i. (i < entries_in raw) × (place_at raw i ≡ p.offset)) → IfSome o (λ i. IsNumberAt contents p i)
    a_number_if None h = tt
    a_number_if (Some i) h = a_number i h.0 h.1

    -- 32 bits hold the number of its unit
    pub unit_small : (i : ℕ) (x : EntryOfCode) (unit : ℕ) → slice_get (shown_entries raw) i ≡ Some x → unit ≡ first → unit + x.unit < 2 ^ 32
    unit_small i x unit shown base =
        let row = entry_row raw i x shown in
        let low = unit_within raw i row.0 row.1 in
        let few = before_few contents files p.file f kept got in
        let same = ap (λ (w : EntryOfCode). w.unit) row.2 in
        omega arith

-- ---- what is shown of it

-- its file is one of those that are kept
pub file_within : (contents : List (List ℕ)) (files : List File) (p : Place) (i : ℕ) → AreKept contents files → IsNumberAt contents p i → p.file < length files
file_within contents files p i kept n =
    let many = files_few contents files kept in
    let low = n.within in
    omega arith

-- what is shown of its row is what is shown of it
pub an_entry : (contents : List (List ℕ)) (files : List File) (p : Place) (i : ℕ) (f : File) (n : IsNumberAt contents p i) → AreKept contents files → slice_get files p.file ≡ Some f
    → (x : EntryOfCode) (attrs child next unit : ℕ) → slice_get (shown_entries (units_of f.units)) i ≡ Some x → unit ≡ units_before (docs_of contents) p.file
    → ((row : EntryRow) → slice_get (rows_of (units_of f.units)) i ≡ Some row → attrs ≡ length (without_siblings row.entry.attrs))
    → ((around : Around ℕ) (n : ℕ) (e : EntrySpot) → IsRowOf (units_of f.units) around n i e → child ≡ first_offset e.below)
    → ((around : Around ℕ) (n : ℕ) (e : EntrySpot) → IsRowOf (units_of f.units) around n i e → next ≡ first_offset e.behind)
    → Some (record { tag = x.tag; unit = unit + x.unit; attrs = attrs; child = child; next = next }) ≡ option_map entry_view (entry_at (docs_of contents) p)
an_entry contents files p i f n kept got x attrs child next unit shown base many below behind =
    let is = (n.means files f kept got).1 in
    let first = units_before (docs_of contents) p.file in
    let around = around_of n.bytes (units_of f.units) in
    let same = row_is (units_of f.units) i x is.row shown is.found in
    let tag : x.tag ≡ n.spot.node.tag = ap (λ (w : EntryOfCode). w.tag) (sym same) ∙ sym is.tag_is in
    let unit_is : unit + x.unit ≡ n.spot.unit = (let a = ap (λ (w : EntryOfCode). w.unit) same in let b = is.unit_is in omega arith) in
    let attrs_are : attrs ≡ length n.spot.node.attrs = many is.row is.found ∙ sym (means_many (scope_of around is.u) (without_siblings is.row.entry.attrs) n.spot.node.attrs is.attrs_mean) in
    let child_is = below around first n.spot is in
    let next_is = behind around first n.spot is in
    let shown_is : record { tag = x.tag; unit = unit + x.unit; attrs = attrs; child = child; next = next } ≡ entry_view n.spot
    = (λ j. record { tag = tag j; unit = unit_is j; attrs = attrs_are j; child = child_is j; next = next_is j }) in
    ap Some shown_is ∙ ap (option_map entry_view) (sym n.there)

pub not_shown : (contents : List (List ℕ)) (p : Place) → entry_at (docs_of contents) p ≡ None → None ≡ option_map entry_view (entry_at (docs_of contents) p)
not_shown contents p none = ap (option_map entry_view) (sym none)

-- ---- children and siblings

pub child_some : (raw : List RawUnit) (i : ℕ) (x y : EntryOfCode) → slice_get (shown_entries raw) i ≡ Some x → i + 1 < x.end → slice_get (shown_entries raw) (i + 1) ≡ Some y
    → (around : Around ℕ) (first : ℕ) (e : EntrySpot) → IsRowOf raw around first i e → y.at ≡ first_offset e.below
child_some raw i x y shown lt there around first e is =
    let row = row_is raw i x is.row shown is.found in
    let next = entry_row raw (i + 1) y there in
    let end = ap (λ (w : EntryOfCode). w.end) row in
    ap (λ (w : EntryOfCode). w.at) (sym next.2) ∙ sym (is.children.some (omega arith) next.0 next.1)

pub child_none : (raw : List RawUnit) (i : ℕ) (x : EntryOfCode) → slice_get (shown_entries raw) i ≡ Some x → x.end ≤ i + 1 → (around : Around ℕ) (first : ℕ) (e : EntrySpot) → IsRowOf raw around first i e → 0 ≡ first_offset e.below
child_none raw i x shown le around first e is =
    let row = row_is raw i x is.row shown is.found in
    let end = ap (λ (w : EntryOfCode). w.end) row in
    sym (is.children.none (omega arith))

module _ (raw : List RawUnit) (i : ℕ) (x : EntryOfCode) (shown : slice_get (shown_entries raw) i ≡ Some x) (around : Around ℕ) (first : ℕ) (e : EntrySpot) (is : IsRowOf raw around first i e) where
  same : entry_shown is.row ≡ x
  same = row_is raw i x is.row shown is.found

  end : is.row.end ≡ x.end
  end = ap (λ (w : EntryOfCode). w.end) same

  pub next_last : entries_in raw ≤ x.end → 0 ≡ first_offset e.behind
  next_last le =
      sym (is.siblings.last (omega (arith, rows-length raw, le, end)))

  module _ (y : EntryOfCode) (there : slice_get (shown_entries raw) x.end ≡ Some y) where
    abbrev row : (r : EntryRow) × (slice_get (rows_of raw) x.end ≡ Some r) × (entry_shown r ≡ y)
    row = entry_row raw x.end y there

    found : slice_get (rows_of raw) is.row.end ≡ Some row.0
    found = subst (λ (n : ℕ). slice_get (rows_of raw) n ≡ Some row.0) (sym end) row.1

    pub next_some : y.unit ≡ x.unit → y.depth ≡ x.depth → y.at ≡ first_offset e.behind
    next_some of_unit of_depth =
        ap (λ (w : EntryOfCode). w.at) (sym row.2)
        ∙ sym (is.siblings.some row.0 found (ap (λ (w : EntryOfCode). w.unit) row.2 ∙ of_unit ∙ ap (λ (w : EntryOfCode). w.unit) (sym same))
        (ap (λ (w : EntryOfCode). w.depth) row.2 ∙ of_depth ∙ ap (λ (w : EntryOfCode). w.depth) (sym same)))

    pub next_other : (y.unit ≡ x.unit → y.depth ≡ x.depth → ⊥) → 0 ≡ first_offset e.behind
    next_other other = sym (is.siblings.none row.0 found (λ of_unit of_depth.
        other (ap (λ (w : EntryOfCode). w.unit) (sym row.2) ∙ of_unit ∙ ap (λ (w : EntryOfCode). w.unit) same)
        (ap (λ (w : EntryOfCode). w.depth) (sym row.2) ∙ of_depth ∙ ap (λ (w : EntryOfCode). w.depth) same)))

-- ---- attributes

pub pairs_many : (row : EntryRow) (pairs : List Pair) (at : Input) → Reads row.entry.at pairs at row.entry.attrs → count_by counts pairs ≡ length (without_siblings row.entry.attrs)
pairs_many row pairs at read = ap (count_by counts) (read_pairs row.entry.at pairs at read.behind row.entry.attrs read.read) ∙ attrs_many row.entry.attrs

pub pairs_few : (raw : List RawUnit) (i many : ℕ) (pairs : List Pair) (at : Input) → i < entries_in raw → attr_count raw i ≡ many
    → ((row : EntryRow) → slice_get (rows_of raw) i ≡ Some row → Reads row.entry.at pairs at row.entry.attrs) → count_by counts pairs ≤ many
pairs_few raw i many pairs at lt count read =
    let row = row_there raw i lt in
    let r = read row.0 row.1 in
    let same = ap (λ (w : List Pair). length w) (read_pairs row.0.entry.at pairs at r.behind row.0.entry.attrs r.read) in
    let long = length-map row.0.entry.attrs (λ (a : RawAttr). a.pair) in
    let few = count_by-le-length counts pairs in
    let here : attr_count raw i ≡ length row.0.entry.attrs = ap (λ (w : Option EntryRow). option_map_or (λ (r : EntryRow). length r.entry.attrs) w 0) row.1 in
    omega arith
