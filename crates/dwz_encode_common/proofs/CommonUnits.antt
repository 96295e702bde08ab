-- What is written of each unit of the common file is known once the lists have its texts and paths, since each of these is among them.
use Rattle.std.proofs.Common.{◌≡◌, ℕ, ◌+◌, Bool, true, List, [], ◌∷◌, length, map, Option, Some, slice_get, refl, sym, ap, subst, ◌∙◌, inl, inr, arith}
use Rattle.std.specs.List.{flat_map}
use Rattle.std.specs.Option.{option_map_or}
use Rattle.std.specs.Prelude.{slice_index, slice_index_or}
use Rattle.std.proofs.lemmas.Option.{get_or_from_slice_get}
use Rattle.dwz_def_reading.specs.Entries.{RawAttr}
use Rattle.dwz_def_reading.specs.Lists.{In}
use Rattle.dwz_def_reading.specs.Units.{RawUnit}
use Rattle.dwz_def_reading.proofs.ListFacts.{got_below, got_map, got_there}
use Rattle.dwz_def_reading.specs.Documents.{Attr, DwUnit, Node, node_map}
use Rattle.dwz_def_reading.specs.Files.{around_of}
use Rattle.dwz_def_reading.specs.LineTables.{FileTable}
use Rattle.dwz_def_reading.specs.Meanings.{MeaningContext, scope_of}
use Rattle.dwz_def_tops.proofs.Members.{each_of}
use Rattle.dwz_def_tops.specs.Spots.{EntryName}
use Rattle.dwz_def_images.specs.Units.{common_units}
use Rattle.dwz_graph.proofs.TreeLemmas.{node_attrs}
use Rattle.dwz_unit.specs.Rows.{EntryRow, rows_of, units_of as raw_units}
use Rattle.dwz_graph.specs.Parts.{HasLine}
use Rattle.dwz_graph.specs.declared.file.File.{File}
use Rattle.dwz_graph.specs.Index.{Index}
use Rattle.dwz_graph.proofs.FileCounts.{are_many}
use Rattle.dwz_label_entries.proofs.AttrsLemmas.{entry_in}
use Rattle.dwz_graph.specs.EntryCounts.{starts_from}
use Rattle.dwz_def_encoding.specs.Placing.{file_number, has_text}
use Rattle.dwz_def_readback.specs.Files.{paths, texts}
use Rattle.dwz_layout_order.specs.Ordered.{PartsPut}
use Rattle.dwz_layout.specs.declared.known.FileRows.{FileRows}
use Rattle.dwz_layout.specs.declared.known.ValueCounts.{ValueCounts}
use Rattle.dwz_layout.specs.declared.known.EntryTable.{EntryTable}
use Rattle.dwz_layout.specs.declared.order.UnitItems.{UnitItems}
use Rattle.dwz_layout.specs.declared.walk.Origin.TheVariants.{Read as OfRow}
use Rattle.dwz_layout.specs.declared.walk.Slot.{Slot}
use Rattle.dwz_layout.specs.Entries.{items_slots, row}
use Rattle.dwz_layout.specs.Known.{file_at, no_firsts}
use Rattle.dwz_law_layout.specs.Knows.{EachFrom, IsRead, KnowsFiles, files_in, firsts_at}
use Rattle.dwz_law_layout.specs.Beside.{Alone}
use Rattle.dwz_law_layout.specs.Facts.{AreFacts, HasFile, RunFacts, docs, file_read, move, run}
use Rattle.dwz_law_layout.specs.Listed.{AreListed, TextsAt, firsts_from, none_before}
use Rattle.dwz_law_layout.specs.Unfitted.{KnowCommon, common_unit_forms}
use Rattle.dwz_law_layout.proofs.Walks.{each_from, rows_at}
use Rattle.dwz_encode_common.specs.CommonLaws.{IsCommonOrder}
use Rattle.dwz_encode_common.specs.Gathered.{with_all}
use Rattle.dwz_encode_common.specs.Numbers.{number_read, numbers_in_file, row_numbers}
use Rattle.dwz_encode_common.specs.Paths.{line_of, order_paths, origin_paths, path_read, row_paths}
use Rattle.dwz_encode_common.specs.SharedLaws.{HasCommon, KnowCommonLaw}
use Rattle.dwz_encode_common.specs.Stored.{items_give, order_texts}
use Rattle.dwz_encode_common.proofs.AttrsSay.{attrs_say}
use Rattle.dwz_encode_common.proofs.CommonKnown.{AreInCommon, texts_known, writes_before}
use Rattle.dwz_encode_common.proofs.CommonPaths.{common_paths}
use Rattle.dwz_encode_common.proofs.CommonTexts.{common_texts}
use Rattle.dwz_encode_common.proofs.EntryNumbers.{HasNumbers, has_numbers, number_given, number_meant, number_said, numbers_meant, row_many, sibling_none}
use Rattle.dwz_encode_common.proofs.OwnedRows.{are_in_common}
use Rattle.dwz_encode_common.proofs.RowPaths.{line_knows}
use Rattle.dwz_encode_common.proofs.SharedEntries.{files_many}
use Rattle.dwz_encode_common.proofs.TextsThere.{in_all, in_flat}
use Rattle.dwz_encode_common.proofs.WithLists.{firsts_kept, number_with}

module _ (f : RunFacts Alone) (t : TextsAt) (sharing : List Bool) (before k : EntryTable) (facts : AreFacts f) (listed : AreListed f t before)
    (has : HasCommon f sharing before k) (order : List UnitItems) (owned : AreInCommon f before order)
    (texts_found : with_all [] (order_texts f.contents before order) ≡ texts (run f))
    (paths_found : with_all [] (order_paths f.files before order) ≡ paths (run f)) where
  path_there : (o : UnitItems) → In o order → (s : Slot) → In s (items_slots before o.sort o.items) → (path : List ℕ)
      → In path (origin_paths f.files s.origin) → has_text (paths (run f)) path ≡ true
  path_there o o_in s s_in path h =
      subst (λ (w : List (List ℕ)). has_text w path ≡ true) paths_found
      (in_all (order_paths f.files before order) [] path
      (in_flat (items_give (origin_paths f.files) before) order o path o_in
      (in_flat (λ (w : Slot). origin_paths f.files w.origin) (items_slots before o.sort o.items) s path s_in h)))

  -- ---- an entry of a file

  module _ (n : ℕ) (bytes : List ℕ) (x : File) (index : Index) (h : HasFile f n bytes x index) (i : ℕ) (r : EntryRow) (d : Node ℕ)
      (read : IsRead (file_read f n bytes x) i r d) where
    abbrev raw : List RawUnit
    raw = raw_units x.units

    abbrev P : List (List ℕ)
    P = paths (run f)

    abbrev tables : List FileTable
    tables = x.resolved.tables.items

    abbrev s : MeaningContext ℕ
    s = scope_of (around_of bytes raw) read.unit

    abbrev attrs : List (Attr EntryName)
    attrs = (node_map (file_read f n bytes x).after d).attrs

    stands : HasNumbers (row_numbers (paths (run f)) x) (λ w. row_many (paths (run f)) x.resolved.tables.items (line_of x w.unit) w)
        (rows_of (raw_units x.units)) none_before i r
    stands = has_numbers (row_numbers P x) (λ w. row_many P tables (line_of x w.unit) w) (rows_of raw) none_before i r read.found

    first_is : (firsts_at k (file_read f n bytes x) i).file ≡ stands.from
    first_is =
        let at = rows_at f f.files f.indexes (starts_from 0 f.indexes) t.files before.files.items listed.rows n x index h.file h.index_is in
        let own = firsts_from (slice_index x.resolved.starts.items i) stands.b in
        let none : 0 + stands.from ≡ stands.from = omega arith in
        ap (λ (w : ValueCounts). w.file) (firsts_kept true f.files (texts (run f)) sharing before k has.with_texts (files_many f t sharing before k facts listed has.with_texts) (row n i))
        ∙ ap (λ (w : Option FileRows). (option_map_or (λ (u : FileRows). slice_index_or u.firsts.items i no_firsts) w no_firsts).file) at.rows_are
        ∙ ap (λ (w : ValueCounts). w.file) (get_or_from_slice_get at.rows_there.firsts.items i own no_firsts (at.listed.firsts i stands.b stands.is))
        ∙ stands.count ∙ none

    -- the line table of its unit
    line : (l : Option ℕ) × (slice_get x.resolved.lines.items r.unit ≡ Some l)
    line =
        let many = h.read.read.lines.many in
        let low = got_below raw r.unit read.unit read.is_unit in
        got_there x.resolved.lines.items r.unit (omega arith)

    line_is : line_of x r.unit ≡ line.0
    line_is = get_or_from_slice_get x.resolved.lines.items r.unit line.0 _ line.1

    paths_given : origin_paths f.files (OfRow (row n i)) ≡ flat_map (path_read tables line.0) r.entry.attrs
    paths_given =
        ap (λ (o : Option File). option_map_or
        (λ (w : File). option_map_or (row_paths w) (slice_get (rows_of (raw_units w.units)) i) []) o []) h.file
        ∙ ap (λ (o : Option EntryRow). option_map_or (row_paths x) o []) read.found
        ∙ ap (λ (o : Option ℕ). flat_map (path_read tables o) r.entry.attrs) line_is

    -- its numbers, where each of its paths is there
    numbers : ((path : List ℕ) → In path (origin_paths f.files (OfRow (row n i))) → has_text P path ≡ true)
        → row_numbers P x r ≡ map (number_meant P) (files_in attrs)
    numbers there =
        let own : HasLine s.around read.unit tables line.0 = h.read.read.lines.line r.unit read.unit line.0 read.is_unit line.1 in
        let inside = entry_in raw i r.unit r read.unit read.found refl read.is_unit in
        let among : (a : RawAttr) → In a r.entry.attrs → (path : List ℕ) → In path (path_read tables line.0 a) → has_text P path ≡ true =
        λ a a_in path p_in. there path (subst (λ (w : List (List ℕ)). In path w) (sym paths_given)
        (in_flat (path_read tables line.0) r.entry.attrs a path a_in p_in)) in
        ap (λ (o : Option ℕ). flat_map (number_read P tables o) r.entry.attrs) line_is
        ∙ attrs_say s (number_read P tables line.0) (number_said P) (file_read f n bytes x).after (sibling_none P tables line.0)
        (λ a. In a r.entry.attrs)
        (λ a v a_in other means. number_given s a v tables line.0 P (among a a_in) (file_read f n bytes x).after
        (line_knows s tables a line.0 read.unit r refl own inside a_in) means)
        r.entry.attrs (each_of (λ a. In a r.entry.attrs) r.entry.attrs (λ a is. is)) d.attrs (node_attrs s r.entry d read.means).0
        ∙ numbers_meant P attrs

    number_is : ((path : List ℕ) → In path (origin_paths f.files (OfRow (row n i))) → has_text P path ≡ true)
        → (j : ℕ) (a : Attr EntryName) → slice_get (files_in attrs) j ≡ Some a → file_at k n (stands.from + j) ≡ file_number P a.value.plain
    number_is there j a e =
        number_with f.files (texts (run f)) P sharing before k has (files_many f t sharing before k facts listed has.with_texts) n x h.file (stands.from + j)
        ∙ get_or_from_slice_get (numbers_in_file P x) (stands.from + j) (number_meant P a) 0
        (stands.stand j (number_meant P a)
        (ap (λ (w : List ℕ). slice_get w j) (numbers there) ∙ got_map (number_meant P) (files_in attrs) j a e))

  files_known : (o : UnitItems) → In o order → (u : DwUnit EntryName) (n : ℕ) (bytes : List ℕ) (x : File) (index : Index)
      → HasFile f n bytes x index → KnowsFiles k (file_read f n bytes x) o (common_unit_forms f u)
  files_known o o_in u n bytes x index h = record {
    are = λ i r d read writes common. (
        let own = owned.each o o_in n bytes x index h i r d read
        (writes_before f t sharing before k facts listed has order owned texts_found o (file_read f n bytes x) i writes) in
        let there : (path : List ℕ) → In path (origin_paths f.files (OfRow (row n i))) → has_text (paths (run f)) path ≡ true =
        λ path p_in. path_there o o_in own.slot own.there path
        (subst (λ (w : List (List ℕ)). In path w) (sym (ap (origin_paths f.files) own.is)) p_in) in
        let list = files_in (node_map (file_read f n bytes x).after d).attrs in
        let P : ℕ → Attr EntryName → Type 0 = λ j a. file_at k n j ≡ file_number (paths (run f)) a.value.plain in
        subst (λ (m : ℕ). EachFrom P m list) (sym (first_is n bytes x index h i r d read))
        (each_from P (stands n bytes x index h i r d read).from list (number_is n bytes x index h i r d read there)));
  }

  -- ---- unit by unit

  known : (some : List UnitItems) (units : List (DwUnit EntryName)) → ((o : UnitItems) → In o some → In o order) → length some ≡ length units
      → KnowCommon f k some units
  known [] [] among many = tt
  known [] (u ∷ units) among many = absurd (omega arith)
  known (o ∷ some) [] among many = absurd (omega arith)
  known (o ∷ some) (u ∷ units) among many = (
    record {
      texts = λ n. texts_known f t sharing before k facts listed has order owned texts_found o (among o (inl refl)) u n;
      files = λ n bytes x index h. files_known o (among o (inl refl)) u n bytes x index h;
    },
    known some units (λ q q_in. among q (inr q_in)) (omega arith),
  )

  pub all_known : KnowCommon f k order (common_units (move f))
  all_known = known order (common_units (move f)) (λ o o_in. o_in) owned.many

-- what is written of the order is owned by its units
pub all_owned : (f : RunFacts Alone) (before : EntryTable) (order : List UnitItems) → IsCommonOrder f before order → AreInCommon f before order
all_owned f before order is =
    let o = is.ordered in
    let first : order ≡ o.common = cc in
    let many = are_many f.contents o.files f.indexes o.kept is.facts.indexed in
    let put : PartsPut is.s (length (docs f)) 0 is.s.plan.now.partials order =
    subst (λ (w : List UnitItems). PartsPut is.s (length (docs f)) 0 is.s.plan.now.partials w) (sym first)
    (subst (λ (n : ℕ). PartsPut is.s n 0 is.s.plan.now.partials o.common) many.0 o.common_put) in
    are_in_common f is.t before is.facts is.listed is.s is.settled order put

pub know_common : KnowCommonLaw
know_common f sharing before k order is has =
    all_known f is.t sharing before k is.facts is.listed has order (all_owned f before order is)
    (common_texts f before order is) (common_paths f before order is)
