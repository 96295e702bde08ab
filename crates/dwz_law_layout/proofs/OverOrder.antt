-- Over a finished common file an order that shows the files is one of them: what references name is written in it, or stands already.
use Rattle.std.proofs.Common.{◌≡◌, ℕ, ◌+◌, ◌-◌, ◌<◌, List, [], ◌∷◌, length, Some, slice_get, sym, ap, subst, ◌∙◌, inl, inr, arith}
use Rattle.std.specs.Prelude.{slice_index}
use Rattle.std.proofs.lemmas.List.{length-append, length-map}
use Rattle.std.proofs.lemmas.Option.{get_or_from_slice_get}
use Rattle.dwz_def_reading.specs.Documents.{DwUnit}
use Rattle.dwz_def_reading.specs.Lists.{Each, In}
use Rattle.dwz_def_reading.specs.Units.{RawUnit}
use Rattle.dwz_def_reading.proofs.ListFacts.{got_in, got_map, got_there, in_cases, in_left, in_right}
use Rattle.dwz_def_tops.specs.Seen.{seen_below, seen_roots}
use Rattle.dwz_def_tops.specs.Shown.{units_keys}
use Rattle.dwz_def_tops.specs.Spots.{EntryName, UnitOf, file_numbers, no_name}
use Rattle.dwz_def_tops.proofs.Members.{in_map_from}
use Rattle.dwz_def_images.specs.Units.{common_units, file_units}
use Rattle.dwz_def_encoding.specs.Meant.{all_entry_keys}
use Rattle.dwz_def_encoding.specs.Placing.{FileOut, UnitsStand, files_keys}
use Rattle.dwz_def_encoding.specs.Sound.{SoundUnit}
use Rattle.dwz_def_encoding.proofs.Rising.{entries_are_keys}
use Rattle.dwz_def_readback.specs.AllFiles.{AreRead}
use Rattle.dwz_def_readback.specs.Fewer.{NameOnly}
use Rattle.dwz_def_readback.specs.Files.{file_out_by}
use Rattle.dwz_def_readback.proofs.SomeFiles.{some_in}
use Rattle.dwz_unit.specs.Rows.{EntryRow, rows_of}
use Rattle.dwz_graph.specs.AllNames.{all_names}
use Rattle.dwz_layout.specs.declared.known.EntryTable.{EntryTable}
use Rattle.dwz_layout.specs.declared.order.UnitItems.{UnitItems}
use Rattle.dwz_layout.specs.Laid.{Standing as LaidBefore, over_made}
use Rattle.dwz_encode.specs.Laws.{IsOrderOver, there_over}
use Rattle.dwz_encode.specs.Shown.{IsWritten, ShowFiles, There, unit_count}
use Rattle.dwz_encode.proofs.LawLemmas.{standing_place}
use Rattle.dwz_law_layout.specs.Beside.{Over, Standing}
use Rattle.dwz_law_layout.specs.Facts.{AreFacts, RunFacts, common, docs, every, files_written, move, run, units, units_written}
use Rattle.dwz_law_layout.specs.Laid.{AreFew, files_out, places_of, written_out}
use Rattle.dwz_law_layout.specs.Listed.{AreListed, TextsAt}
use Rattle.dwz_law_layout.specs.Named.{keys}
use Rattle.dwz_law_layout.specs.Refers.{IsEntryNumber, RowsApart}
use Rattle.dwz_law_layout.proofs.EntriesNamed.{entries_no, entries_of, files_only}
use Rattle.dwz_law_layout.proofs.EntryNames.{IsOfEntry, is_of_entry}
use Rattle.dwz_law_layout.proofs.FilesLaid.{some_written}
use Rattle.dwz_law_layout.proofs.NamesApart.{entries_many, files_apart}
use Rattle.dwz_law_layout.proofs.NamesCounted.{files_counted}
use Rattle.dwz_law_layout.proofs.OrderOfRun.{files_sound}
use Rattle.dwz_law_layout.proofs.OrderRefers.{files_refer}
use Rattle.dwz_law_layout.proofs.WrittenUnits.{written_units}
use Rattle.dwz_law_layout.specs.Either.{put_by, view_of}
use Rattle.dwz_law_layout.specs.OverLaws.{AreOver}
use Rattle.dwz_law_layout.proofs.FilesShown.{files_many, units_many}
use Rattle.dwz_law_layout.proofs.OverPlaces.{file_stands, root_is, root_place, standing_entry, units_long}
use Rattle.dwz_law_layout.proofs.RowsBehind.{row_behind}

-- entries of files are among the names of these
entry_keys : (files : List (FileOut EntryName)) (s : EntryName) → In s (entries_of files) → In s (files_keys files)
unfolding entries_of files_keys
entry_keys [] s there = absurd there
entry_keys (x ∷ files) s there = elim (in_cases s (all_entry_keys x.units) (entries_of files) there) [
  | inl own ↦ in_left s (units_keys x.units) (files_keys files) (entries_are_keys x.units s own)
  | inr later ↦ in_right s (units_keys x.units) (files_keys files) (entry_keys files s later)
]

-- no units name anything
none_named : (names : List EntryName) → NameOnly names []
unfolding seen_roots seen_below
none_named names = record { refs = λ e a k seen attr ref. absurd seen; mains = λ u signature main there is. absurd there }

module _ (s : Standing) (f : RunFacts (Over s)) (o : AreOver s f) (facts : AreFacts f) (t : TextsAt) (k : EntryTable) (listed : AreListed f t k) where
  abbrev v : LaidBefore
  v = view_of s.file.raw

  -- ---- numbers

  many : length k.owners.items ≡ length (all_names (every f))
  many = entries_many f t k facts listed

  places_long : length (view_of s.file.raw).places ≡ length (rows_of s.file.raw)
  places_long = length-map (rows_of s.file.raw) (λ (r : EntryRow). r.entry.at)

  count_is : length k.owners.items ≡ length (all_names (docs f)) + length (view_of s.file.raw).places
  count_is =
      let all = facts.behind.many in
      let behind = length-map (rows_of s.file.raw) (λ (r : EntryRow). r.unit) in
      omega (arith, many, all, behind, places_long)

  row_there : (m : ℕ) → IsEntryNumber k m → slice_get (all_names (every f)) m ≡ Some ((keys f).row m)
  row_there m lt =
      let x = got_there (all_names (every f)) m (omega (arith, lt, many)) in
      x.1 ∙ ap (λ (name : EntryName). Some name) (sym (get_or_from_slice_get (all_names (every f)) m x.0 no_name x.1))

  row_entry : (m : ℕ) → IsEntryNumber k m → IsOfEntry ((keys f).row m)
  row_entry m lt = is_of_entry (every f) ((keys f).row m) (got_in (all_names (every f)) m ((keys f).row m) (row_there m lt))

  -- ---- what is there

  pub standing_placed : (i : ℕ) (name : EntryName) → slice_get (all_names (every f)) i ≡ Some name → In name (units_keys s.file.units)
      → slice_index (over_made (length k.owners.items) (view_of s.file.raw)).places i ≡ (places_of f).place name
  standing_placed i name named there =
      let x = standing_entry s f o facts i name named there in
      let count = length k.owners.items in
      let at = x.at in
      let number : i ≡ count - length v.places + x.j = omega (arith, at, count_is) in
      ap (slice_index (over_made count v).places) number
      ∙ standing_place count v x.j
      ∙ get_or_from_slice_get v.places x.j x.row.entry.at 0 (got_map (λ (r : EntryRow). r.entry.at) (rows_of s.file.raw) x.j x.row x.is)
      ∙ sym x.place

  apart : (orders : List (List UnitItems)) → RowsApart (keys f) k orders (put_by f)
  apart orders =
      let a = files_apart f facts k many orders in
      record {
        rows = a.rows;
        units = λ m x u lt x_in u_in e. (elim x_in [ inl same ↦ absurd (subst (λ (y : FileOut EntryName). In u y.units) (sym same) u_in) | inr later ↦ a.units m x u lt later u_in e ]);
        roots = λ m x u lt x_in u_in partial e. (elim x_in [ inl same ↦ absurd (subst (λ (y : FileOut EntryName). In u y.units) (sym same) u_in) | inr later ↦ a.roots m x u lt later u_in partial e ]);
        chained = a.chained;
        imports = a.imports;
      }

  pub file_written : (orders : List (List UnitItems)) → ShowFiles (keys f) k (length s.file.raw) orders (put_by f)
      → (m : ℕ) → IsEntryNumber k m → In ((keys f).row m) (files_keys (files_out f)) → IsWritten k m orders
  unfolding files_keys units_keys
  file_written orders shows m lt there =
      row_behind (keys f) k (UnitOf 0) (length s.file.raw) orders (put_by f) (apart orders) (λ i low e. subst IsOfEntry e (row_entry i low))
      (λ i j low before e. subst IsOfEntry (e ∙ root_is s f o j before) (row_entry i low)) shows m lt there

  -- ---- the order

  module _ (orders : List (List UnitItems)) (shows : ShowFiles (keys f) k (length s.file.raw) orders (put_by f)) where
    abbrev there : There
    there = there_over (keys f) (places_of f) k (view_of s.file.raw) orders

    row_refers : (i : ℕ) → IsEntryNumber k i → In ((keys f).row i) (entries_of (written_out f)) → (there_over (keys f) (places_of f) k (view_of s.file.raw) orders).row i
    unfolding entries_of
    row_refers i lt named = (
      lt,
      elim (in_cases ((keys f).row i) (all_entry_keys s.file.units) (entries_of (files_out f)) named) [
        | inl a ↦ inl (standing_placed i ((keys f).row i) (row_there i lt) (entries_are_keys s.file.units ((keys f).row i) a))
        | inr b ↦ inr (file_written orders shows i lt (entry_keys (files_out f) ((keys f).row i) b))
      ],
    )

    only : (x : FileOut EntryName) → In x (put_by f) → NameOnly (entries_of (written_out f)) x.units
    only x (inl same) = subst (λ (y : FileOut EntryName). NameOnly (entries_of (written_out f)) y.units) same (none_named (entries_of (written_out f)))
    only x (inr later) = files_only f facts x later

    files_total : (some : List (List UnitItems)) → ShowFiles (keys f) k (length s.file.raw) some (put_by f) → unit_count some ≡ length (file_units (move f) (units f) (files_written f))
    unfolding unit_count
    files_total [] shown = absurd shown
    files_total (order ∷ others) shown =
        let none = units_many (keys f) k (length s.file.raw) order [] shown.0 in
        let rest = files_many (common f) (run f) (keys f) k (length s.file.raw + length order) others (files_written f) shown.1 in
        omega (arith, none, rest)

    roots_long : length (view_of s.file.raw).roots ≡ length s.file.raw
    roots_long = length-map s.file.raw (λ (u : RawUnit). u.root.at)

    total : length (units_written f) ≡ length (view_of s.file.raw).roots + unit_count orders
    total =
        let all = ap (λ (us : List (DwUnit EntryName)). length us) (written_units f) in
        let both = length-append (common_units (move f)) (file_units (move f) (units f) (files_written f)) in
        let shared = units_long s f o in
        let own = files_total orders shows in
        omega (arith, all, both, shared, own, roots_long)

    shows_too : ShowFiles (keys f) k (length (view_of s.file.raw).roots) orders (put_by f)
    shows_too = subst (λ (n : ℕ). ShowFiles (keys f) k n orders (put_by f)) (sym roots_long) shows

    stand : (x : FileOut EntryName) → In x (put_by f) → UnitsStand (places_of f) x.units 0
    stand x (inl same) = subst (λ (y : FileOut EntryName). UnitsStand (places_of f) y.units 0) same tt
    stand x (inr later) =
        let w = in_map_from (file_out_by (common f) (run f)) x (files_written f) later in
        subst (λ (y : FileOut EntryName). UnitsStand (places_of f) y.units 0) w.is
        (file_stands s f o facts w.source (some_in (file_numbers 0 (docs f)) (files_written f) (some_written f facts) w.source w.there))

    root_stands : (j : ℕ) → j < length (view_of s.file.raw).roots → slice_index (view_of s.file.raw).roots j ≡ (places_of f).place ((keys f).root j)
    root_stands j lt =
        let u = got_there s.file.raw j (omega (arith, lt, roots_long)) in
        get_or_from_slice_get v.roots j u.0.root.at 0 (got_map (λ (w : RawUnit). w.root.at) s.file.raw j u.0 u.1) ∙ sym (root_place s f o facts j u.0 u.1)

    pub order_over : AreRead f.input (docs f) → AreFew f → IsOrderOver (keys f) (places_of f) k (view_of s.file.raw) orders (put_by f)
    order_over read few =
        let names = entries_of (written_out f) in
        record {
          shows = shows_too;
          sound = sound;
          stand = stand;
          within = omega (arith, count_is);
          roots = root_stands;
          refer = files_refer (keys f) k there names (put_by f) row_refers only (length v.roots) orders (put_by f) (λ x is. is) shows_too
              (files_counted f k many names (entries_no f facts) (length v.roots + unit_count orders) total (length v.roots) orders (put_by f) only shows_too);
        }
      where
        sound : (x : FileOut EntryName) → In x (put_by f) → Each SoundUnit x.units
        sound x (inl same) = subst (λ (y : FileOut EntryName). Each SoundUnit y.units) same tt
        sound x (inr later) = files_sound f facts read few x later
