-- Tops of files that are kept are short: there are few entries in all, and an entry has no more attributes than its declaration has pairs.
use Rattle.std.proofs.Common.{◌≡◌, ℕ, zero, suc, ◌+◌, ◌-◌, ◌^◌, ◌<◌, ◌≤◌, Bool, true, false, List, [], ◌∷◌, ◌++◌, length, drop, Option, Some, None, Ok, slice_get, refl, sym, ap, subst, ◌∙◌, arith, eqb}
use Rattle.std.specs.Prelude.{if◌then◌else◌, slice_index, slice_range}
use Rattle.std.proofs.lemmas.List.{length-append, length-drop, length-map, length-take}
use Rattle.dwz_model.specs.Lists.{Each, In}
use Rattle.dwz_model.proofs.ListFacts.{got_there, same_got}
use Rattle.dwz_model.specs.declared.place.Pair.{Pair}
use Rattle.dwz_codes.specs.Rows.{RowView}
use Rattle.dwz_def_reading.specs.Documents.{Attr, Doc, Entries, Node, attr_map, entries_map, node_map}
use Rattle.dwz_def_reading.specs.ElfNames.{sections_in}
use Rattle.dwz_def_reading.specs.ElfReading.{section_range}
use Rattle.dwz_def_reading.specs.Entries.{RawAttr, RawEntry, SpellsAttrs, SpellsEntry, SpellsFront, UnitContext, given, root_position}
use Rattle.dwz_def_reading.specs.Files.{Limits, around_of, debug_abbrev, debug_info, file_meaning, longest_file, section_of}
use Rattle.dwz_def_reading.specs.Meanings.{MeanAttrs, MeanEntries, MeaningContext, scope_of, without_siblings}
use Rattle.dwz_def_reading.specs.Meant.{units_meaning}
use Rattle.dwz_def_reading.specs.NamedLists.{lists_of_units}
use Rattle.dwz_def_reading.specs.Trees.{End, Entry, Forest, IfChildren, Position, SpellsForest, behind, first_below, size}
use Rattle.dwz_def_reading.specs.Units.{RawUnit, SpellsUnit, SpellsUnits, entry_count}
use Rattle.dwz_def_reading.proofs.FileLemmas.{file_agrees}
use Rattle.dwz_def_reading.proofs.CaseFacts.{or_left}
use Rattle.dwz_def_reading.proofs.MeaningUnits.{entries_agree, units_agree}
use Rattle.dwz_def_reading.proofs.RangeBytes.{bytes_short}
use Rattle.dwz_def_tops.specs.Spots.{EntryName, SpaceName, Top, tops_of, units_of}
use Rattle.dwz_def_tops.specs.Alike.{any_in, entry_binds, is_named}
use Rattle.dwz_def_tops.proofs.Targets.{binds_false}
use Rattle.dwz_def_tops.proofs.TopNumbers.{top_there}
use Rattle.dwz_graph.specs.declared.file.File.{File}
use Rattle.dwz_graph.specs.Files.{AreKept, IsRead, docs_of}
use Rattle.dwz_graph.specs.FlatTops.{HasTop}
use Rattle.dwz_graph.specs.Index.{Index}
use Rattle.dwz_graph.specs.Indexed.{AreIndexes}
use Rattle.dwz_graph.specs.Named.{map_ok, units_named, units_refs}
use Rattle.dwz_graph.specs.Names.{top_in}
use Rattle.dwz_graph.specs.Resolved.{place_at}
use Rattle.dwz_graph.proofs.FewRefs.{refs_few}
use Rattle.dwz_graph.proofs.IndexRoom.{info_within}
use Rattle.dwz_graph.proofs.NamedLemmas.{units_found, units_same}
use Rattle.dwz_unit.proofs.RowsFound.{rows-length}
use Rattle.dwz_label.proofs.NodeLooks.{top_below}
use Rattle.dwz_graph.specs.Across.{IsFileAmong, name_at}
use Rattle.dwz_graph.proofs.FileCounts.{found}
use Rattle.dwz_graph.proofs.FileEntries.{few_entries, gives_top}
use Rattle.dwz_graph.proofs.FileWalk.{is_among}
use Rattle.dwz_move.specs.Bound.{somes}
use Rattle.dwz_move.specs.Known.{KnowsRefs, tops_of_refs}
use Rattle.dwz_graph.specs.Standing.{StandsAt}
use Rattle.dwz_move_files.proofs.TargetLemmas.{targets_there}
use Rattle.dwz_unit.specs.Rows.{EntryRow, entry_shown, rows_below, rows_from, rows_in, rows_of, shown_entries, units_of as raw_units}
use Rattle.dwz_unit.proofs.RowLemmas.{shown-length}
use Rattle.dwz_label_differences.specs.Told.{EachNode, HasFewAttributes, IsShort}
use Rattle.dwz_explain.specs.Verdicts.{HaveFewTargets}
use Rattle.dwz_explain.proofs.PairLemmas.{HasFewPairs, table_few}

-- ---- as they are stored

abbrev pub IsFewRaw : RawEntry → Type 0
IsFewRaw e = length e.attrs < 2 ^ 32

abbrev pub EachRaw : (RawEntry → Type 0) → Forest RawEntry → Type 0
EachRaw P End = Unit {0}
EachRaw P (Entry e children next) = P e × EachRaw P children × EachRaw P next

attrs_many : (rows : List RowView) (pairs : List Pair) (attrs : List RawAttr) (start : ℕ) (bytes : List ℕ) → SpellsAttrs rows pairs attrs start bytes → length attrs ≡ length pairs
attrs_many rows [] [] start bytes h = refl
attrs_many rows (p ∷ pairs) (a ∷ attrs) start bytes h = ap suc (attrs_many rows pairs attrs _ h.second_bytes h.second)
attrs_many rows [] (a ∷ attrs) start bytes h = absurd h
attrs_many rows (p ∷ pairs) [] start bytes h = absurd h

module _ (c : UnitContext) (short : HasFewPairs c.table) where
  entry_few : (p : Position) (e : RawEntry) (start : ℕ) (bytes : List ℕ) → SpellsEntry c p e start bytes → IsFewRaw e
  entry_few p e start bytes h =
      let code = h.parts.first in
      let many = attrs_many _ h.decl.pairs e.attrs _ h.parts.second_bytes h.parts.second in
      let few = short code.code h.decl code.declared in
      omega (arith, many, few)

  if_few : (flag : Bool) (f : Forest RawEntry) (bytes : List ℕ) (Spelled : Type 0) → IfChildren flag f Spelled bytes → (Spelled → EachRaw IsFewRaw f) → EachRaw IsFewRaw f
  if_few true f bytes Spelled h deep = deep h
  if_few false f bytes Spelled h deep = subst (λ (g : Forest RawEntry). EachRaw IsFewRaw g) (sym h.0) tt

  pub entries_few : (f : Forest RawEntry) (p : Position) (start : ℕ) (bytes : List ℕ) → SpellsForest (λ (e : RawEntry). e.children) (SpellsFront c) f p start bytes → EachRaw IsFewRaw f
  entries_few End p start bytes h = tt
  entries_few (Entry e children next) p start bytes h = (
    entry_few p e start h.first_bytes h.first,
    if_few e.children children h.second_bytes _ h.second (λ q. entries_few children _ (start + length h.first_bytes) h.second_bytes q),
    entries_few next _ (start + length h.first_bytes + length h.second_bytes) h.third_bytes h.third,
  )

-- ---- in rows

abbrev pub IsFewRow : EntryRow → Type 0
IsFewRow row = IsFewRaw row.entry

each_join : (xs ys : List EntryRow) → Each IsFewRow xs → Each IsFewRow ys → Each IsFewRow (xs ++ ys)
each_join [] ys h k = k
each_join (x ∷ xs) ys h k = (h.0, each_join xs ys h.1 k)

each_first : (xs ys : List EntryRow) → Each IsFewRow (xs ++ ys) → Each IsFewRow xs
each_first [] ys h = tt
each_first (x ∷ xs) ys h = (h.0, each_first xs ys h.1)

each_last : (xs ys : List EntryRow) → Each IsFewRow (xs ++ ys) → Each IsFewRow ys
each_last [] ys h = h
each_last (x ∷ xs) ys h = each_last xs ys h.1

each_drop : (n : ℕ) (xs : List EntryRow) → Each IsFewRow xs → Each IsFewRow (drop n xs)
each_drop zero xs h = h
each_drop (suc n) [] h = h
each_drop (suc n) (x ∷ xs) h = each_drop n xs h.1

pub rows_few : (f : Forest RawEntry) (unit : ℕ) (p : Position) → EachRaw IsFewRaw f → Each IsFewRow (rows_below f unit p)
unfolding rows_below
rows_few End unit p h = tt
rows_few (Entry e children next) unit p h =
    (h.0, each_join (rows_below children unit (first_below p)) (rows_below next unit (behind p children)) (rows_few children unit (first_below p) h.1) (rows_few next unit (behind p children) h.2))

pub few_rows : (f : Forest RawEntry) (unit : ℕ) (p : Position) → Each IsFewRow (rows_below f unit p) → EachRaw IsFewRaw f
unfolding rows_below
few_rows End unit p h = tt
few_rows (Entry e children next) unit p h = (
  h.0,
  few_rows children unit (first_below p) (each_first (rows_below children unit (first_below p)) (rows_below next unit (behind p children)) h.1),
  few_rows next unit (behind p children) (each_last (rows_below children unit (first_below p)) (rows_below next unit (behind p children)) h.1),
)

-- ---- as they are meant

passed_few : (passes : Bool) (a : RawAttr) (attrs : List RawAttr) (n : ℕ) → length attrs ≤ n → length (if passes then attrs else a ∷ attrs) ≤ suc n
passed_few true a attrs n l = omega (arith, l)
passed_few false a attrs n l = omega (arith, l)

siblings_few : (attrs : List RawAttr) → length (without_siblings attrs) ≤ length attrs
unfolding without_siblings
siblings_few [] = omega arith
siblings_few (a ∷ attrs) = passed_few (eqb a.pair.name 1) a (without_siblings attrs) (length attrs) (siblings_few attrs)

meant_many : (s : MeaningContext ℕ) (raw : List RawAttr) (attrs : List (Attr ℕ)) → MeanAttrs s raw attrs → length attrs ≡ length raw
meant_many s [] [] h = refl
meant_many s (a ∷ raw) (b ∷ attrs) h = ap suc (meant_many s raw attrs h.1)
meant_many s [] (b ∷ attrs) h = absurd h
meant_many s (a ∷ raw) [] h = absurd h

few_mapped : (name : ℕ → EntryName) (d : Node ℕ) → length d.attrs < 2 ^ 32 → HasFewAttributes (node_map name d)
few_mapped name d l = let m = length-map d.attrs (attr_map name) in omega (arith, m, l)

pub entries_meant : (s : MeaningContext ℕ) (name : ℕ → EntryName) (f : Forest RawEntry) (g : Entries ℕ) → MeanEntries s f g → EachRaw IsFewRaw f
    → EachNode HasFewAttributes (entries_map name g) × (size (entries_map name g) ≡ size f)
unfolding entries_map
entries_meant s name End End m h = (tt, refl)
entries_meant s name (Entry e f n) (Entry d g k) m h =
    let x = entries_meant s name f g m.1 h.1 in
    let y = entries_meant s name n k m.2 h.2 in
    let many = meant_many s (without_siblings e.attrs) d.attrs m.0.attrs in
    let fewer = siblings_few e.attrs in
    let few = h.0 in
    let a = x.1 in
    let b = y.1 in
    ((few_mapped name d (omega (arith, many, fewer, few)), x.0, y.0), omega (arith, a, b))
entries_meant s name End (Entry d g k) m h = absurd m
entries_meant s name (Entry e f n) End m h = absurd m

-- ---- units

abbrevs_within : (bytes : List ℕ) → length (debug_abbrev bytes) ≤ length bytes
unfolding section_of
abbrevs_within bytes = bytes_short bytes (section_range (sections_in bytes) 2)

unit_few : (abbrevs : List ℕ) (room before start unit : ℕ) (u : RawUnit) (bytes : List ℕ) → length abbrevs < 2 ^ 32 → SpellsUnit abbrevs (given room) before u start bytes
    → Each IsFewRow (rows_in u unit before)
unit_few abbrevs room before start unit u bytes l h =
    let c = h.context in
    let short = table_few abbrevs u.table_offset c.table h.is_context.stands l in
    let t = h.is_tree in
    rows_few (Entry u.root u.below End) unit (root_position before) (
      entry_few c short (root_position before) u.root (start + length h.header) t.first_bytes t.first,
      if_few c short u.root.children u.below t.second_bytes _ t.second (λ q. entries_few c short u.below _ (start + length h.header + length t.first_bytes) t.second_bytes q),
      tt,
    )

units_few : (abbrevs : List ℕ) (room before start unit : ℕ) (raw : List RawUnit) (bytes : List ℕ) → length abbrevs < 2 ^ 32 → SpellsUnits abbrevs (given room) before raw start bytes
    → Each IsFewRow (rows_from raw unit before)
unfolding rows_from
units_few abbrevs room before start unit [] bytes l h = tt
units_few abbrevs room before start unit (u ∷ raw) bytes l h =
    each_join (rows_in u unit before) (rows_from raw (unit + 1) (before + entry_count u)) (unit_few abbrevs room before start unit u h.first_bytes l h.first)
    (units_few abbrevs room (before + entry_count u) (start + length h.first_bytes) (unit + 1) raw h.second_bytes l h.second)

file_few : (l : Limits) (bytes : List ℕ) (raw : List RawUnit) (doc : Doc ℕ) → file_meaning l bytes ≡ Ok (raw, doc) → Each IsFewRow (rows_of raw)
unfolding longest_file
file_few l bytes raw doc e =
    let r = ((file_agrees l bytes).ok (raw, doc)).0 e in
    let size = r.size.file in
    let within = abbrevs_within bytes in
    units_few (debug_abbrev bytes) l.entries 0 0 0 raw (debug_info bytes) (omega (arith, size, within)) r.spelled

-- ---- tops

top_few : (s : MeaningContext ℕ) (name : ℕ → EntryName) (rows : List EntryRow) (unit depth : ℕ) (spaces : List SpaceName) (t : Top) → length rows < 2 ^ 32 → Each IsFewRow rows
    → HasTop s name rows unit depth spaces t → IsShort t
unfolding entries_map
top_few s name rows unit depth spaces t many few h =
    let own = rows_below (Entry h.e h.c End) unit h.p in
    let there : Each IsFewRow (own ++ h.after) = subst (λ (rs : List EntryRow). Each IsFewRow rs) h.stand (each_drop h.p.before rows few) in
    let raw = few_rows (Entry h.e h.c End) unit h.p (each_first own h.after there) in
    let means = ((entries_agree s (Entry h.e h.c End)).ok (Entry h.d h.g End)).0 h.means in
    let m = entries_meant s name (Entry h.e h.c End) (Entry h.d h.g End) means raw in
    let long : length (drop h.p.before rows) ≡ length own + length h.after = ap (λ (rs : List EntryRow). length rs) h.stand ∙ length-append own h.after in
    let all : length own ≡ size h.c + 0 + 1 = shown-length (Entry h.e h.c End) unit h.p in
    let dropped = length-drop h.p.before rows in
    let same : size (entries_map name h.g) + 0 + 1 ≡ size h.c + 0 + 1 = m.1 in
    record {
      entries = subst (λ (f : Entries EntryName). size f < 2 ^ 32) (sym h.below) (omega (arith, many, long, all, dropped, same));
      attributes = subst HasFewAttributes (sym h.node) m.0.0;
      attributes_below = subst (EachNode HasFewAttributes) (sym h.below) m.0.1;
    }

-- where a top stands in its file
record Stood (contents : List (List ℕ)) (t : Top) : Type 0 where
  file : ℕ
  bytes : List ℕ
  f : File
  x : Index
  is : IsFileAmong contents file bytes f x
  first : ℕ
  end : ℕ
  stands : StandsAt (around_of bytes (raw_units f.units)) (name_at x.starts is.kept.read.doc) (raw_units f.units) is.kept.read.doc.units file x.starts.unit t first end

stood : (contents : List (List ℕ)) (files : List File) (indexes : List Index) → AreKept contents files → AreIndexes (docs_of contents) indexes
    → (t : Top) → In t (tops_of (units_of (docs_of contents))) → Stood contents t
stood contents files indexes kept indexed t i =
    let units = units_of (docs_of contents) in
    let w = found contents files indexes t.number kept indexed (top_below units t i) in
    let m = is_among contents files indexes w.file w.f w.x kept indexed w.file_is w.index_is in
    let raw = raw_units w.f.units in
    let gives = gives_top contents w.file m.bytes w.f w.x m.is w.k w.e w.top_is in
    let here : slice_get (tops_of units) (w.x.starts.top + w.k) ≡ Some t = subst (λ (k : ℕ). slice_get (tops_of units) k ≡ Some t) w.number (top_there units t i) in
    let same : gives.top ≡ t = same_got (tops_of units) (w.x.starts.top + w.k) gives.top t gives.top_is.there here in
    let low = gives.top_is.within in
    let all = rows-length raw in
    let shown : length (shown_entries raw) ≡ length (rows_of raw) = length-map (rows_of raw) entry_shown in
    let r = got_there (shown_entries raw) w.e.entry (omega (arith, low, all, shown)) in
    record {
      file = w.file;
      bytes = m.bytes;
      f = w.f;
      x = w.x;
      is = m.is;
      first = w.e.entry;
      end = r.0.end;
      stands = subst
          (λ (u : Top). StandsAt (around_of m.bytes raw) (name_at w.x.starts m.is.kept.read.doc) raw m.is.kept.read.doc.units w.file w.x.starts.unit u w.e.entry r.0.end) same
          (gives.top_is.stands r.0 r.1);
    }

pub top_short : (contents : List (List ℕ)) (files : List File) (indexes : List Index) → AreKept contents files → AreIndexes (docs_of contents) indexes
    → (t : Top) → In t (tops_of (units_of (docs_of contents))) → IsShort t
top_short contents files indexes kept indexed t i =
    let w = stood contents files indexes kept indexed t i in
    let raw = raw_units w.f.units in
    let h = w.stands.stands in
    let all = rows-length raw in
    let few = few_entries contents w.file w.bytes w.f w.x w.is in
    let rows = file_few w.is.kept.limits w.bytes raw w.is.kept.read.doc w.is.kept.read.means in
    top_few (scope_of (around_of w.bytes raw) h.u) (name_at w.x.starts w.is.kept.read.doc) (rows_of raw) h.n 2 t.spaces t (omega (arith, all, few)) rows h.top

-- ---- references: each takes a byte of `.debug_info` at least

refs_small : (l : Limits) (number : ℕ) (bytes : List ℕ) (f : File) → IsRead l number bytes f → length f.resolved.refs.items < 2 ^ 32
unfolding longest_file
refs_small l number bytes f r =
    let raw = raw_units f.units in
    let around = around_of bytes raw in
    let lists = lists_of_units around raw in
    let reads = ((file_agrees l bytes).ok (raw, r.doc)).0 r.means in
    let meant : units_meaning around raw ≡ Ok r.doc.units = ((units_agree around raw).ok r.doc.units).1 reads.means in
    let named : units_named around raw ≡ Ok (units_found lists r.doc.units) = units_same around raw ∙ ap (map_ok (units_found lists)) meant in
    let few : length (units_refs r.doc.units) ≤ length f.units.info = refs_few f.units around (units_found lists r.doc.units) named in
    let many : length (units_refs r.doc.units) ≡ length f.resolved.refs.items = ap (λ (w : List ℕ). length w) r.named ∙ length-map f.resolved.refs.items (place_at raw) in
    let info = ap (λ (w : List ℕ). length w) r.info in
    let within = info_within bytes in
    let size = reads.size.file in
    omega (arith, few, many, info, within, size)

somes_few : (into : List (Option ℕ)) → length (somes into) ≤ length into
somes_few [] = omega arith
somes_few (None ∷ into) = let l = somes_few into in omega (arith, l)
somes_few (Some n ∷ into) = let l = somes_few into in omega (arith, l)

range_few : (into : List (Option ℕ)) (i j : ℕ) → length (slice_range into i j) ≤ length into
range_few into i j =
    let a = length-take (j - i) (drop i into) in
    let b = length-drop i into in
    omega (arith, a, b)

pub targets_few : (contents : List (List ℕ)) (files : List File) (indexes : List Index) → AreKept contents files → AreIndexes (docs_of contents) indexes
    → HaveFewTargets (units_of (docs_of contents))
targets_few contents files indexes kept indexed t i moves =
    let units = units_of (docs_of contents) in
    let w = stood contents files indexes kept indexed t i in
    let raw = raw_units w.f.units in
    let around = around_of w.bytes raw in
    let name = name_at w.x.starts w.is.kept.read.doc in
    let refs = w.f.resolved.refs.items in
    let starts = w.f.resolved.starts.items in
    let into = tops_of_refs name raw refs in
    let knows : KnowsRefs around raw name refs starts into = record { parted = w.is.kept.read.parts; entries = w.is.kept.read.within; into_are = refl } in
    let free = or_left (any_in (entry_binds (tops_of units) t.unit) t) (is_named units t.number) (binds_false units t i moves) in
    let are = targets_there around raw name refs starts into knows w.is.kept.read.doc.units w.file w.x.starts.unit t w.first w.end w.stands (tops_of units) free in
    let part = slice_range into (slice_index starts w.first) (slice_index starts w.end) in
    let long = ap (λ (ns : List ℕ). length ns) are in
    let a = somes_few part in
    let b = range_few into (slice_index starts w.first) (slice_index starts w.end) in
    let many : length into ≡ length refs = length-map refs (λ (k : ℕ). top_in (name (place_at raw k))) in
    let small = refs_small w.is.kept.limits w.file w.bytes w.f w.is.kept.read in
    omega (arith, long, a, b, many, small)
