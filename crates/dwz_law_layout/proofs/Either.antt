-- What is laid and written of files, whatever stands beside them: where nothing does, by the laws of a made common file.
use Rattle.std.proofs.Common.{◌≡◌, ℕ, ◌+◌, ◌<◌, List, [], ◌∷◌, ◌++◌, length, Some, slice_get, sym, ap, subst, ◌∙◌, inl, inr, arith}
use Rattle.std.proofs.lemmas.List.{length-map}
use Rattle.std.proofs.lemmas.Option.{get_or_from_slice_get}
use Rattle.dwz_def_reading.specs.Documents.{DwUnit}
use Rattle.dwz_def_reading.specs.Lists.{In}
use Rattle.dwz_def_reading.specs.Units.{RawUnit}
use Rattle.dwz_def_reading.proofs.ListFacts.{got_below, got_in, in_cases}
use Rattle.dwz_def_tops.specs.Shown.{units_keys}
use Rattle.dwz_def_tops.specs.Spots.{EntryName, no_name}
use Rattle.dwz_def_images.specs.Units.{common_units, file_units}
use Rattle.dwz_def_tops.proofs.UnitKeys.{keys_joined}
use Rattle.dwz_def_encoding.specs.Placing.{files_keys}
use Rattle.dwz_def_readback.proofs.NameLemmas.{common_names, file_names_by}
use Rattle.dwz_graph.specs.AllNames.{all_names}
use Rattle.dwz_layout_numbers.specs.Owners.{StandsIn}
use Rattle.dwz_layout.specs.Entries.{row}
use Rattle.dwz_layout.specs.Known.{number_of, owner_of}
use Rattle.dwz_layout.specs.Laid.{over_of}
use Rattle.dwz_encode.specs.Laws.{FilesAre}
use Rattle.dwz_encode.specs.Shown.{ShowFiles}
use Rattle.dwz_encode.proofs.LawLemmas.{places_over, sections_over}
use Rattle.dwz_law_layout.specs.Beside.{Alone, Beside, Over, Standing}
use Rattle.dwz_law_layout.specs.Facts.{RunFacts, common, every, files_written, move, run, units, units_written}
use Rattle.dwz_law_layout.specs.Laid.{files_out, places_of, run_numbers, written_out}
use Rattle.dwz_law_layout.specs.Named.{keys}
use Rattle.dwz_law_layout.specs.NamedLaws.{entry_name}
use Rattle.dwz_law_layout.proofs.EntriesPlaced.{run_roots}
use Rattle.dwz_law_layout.proofs.FileEntries.{below, here, named, named_every, number_is, read_name}
use Rattle.dwz_law_layout.proofs.FilesFitted.{files_shown}
use Rattle.dwz_law_layout.proofs.FilesKnown.{all_files_known}
use Rattle.dwz_law_layout.proofs.FilesLaid.{run_places}
use Rattle.dwz_law_layout.proofs.ImagesStand.{in_units}
use Rattle.dwz_law_layout.proofs.LayoutLemmas.{owns_entry}
use Rattle.dwz_law_layout.proofs.NamesApart.{entries_many, rows_apart}
use Rattle.dwz_law_layout.proofs.OrderOfRun.{run_order}
use Rattle.dwz_law_layout.proofs.RowsWritten.{row_written}
use Rattle.dwz_law_layout.proofs.SectionsLaid.{run_laid}
use Rattle.dwz_law_layout.proofs.WrittenUnits.{written_units}
use Rattle.dwz_law_layout.specs.Either.{LaidLaw, ManyLaw, OrderLaw, PlacedLaw, RootsLaw, SelfLaw, SettledOverLaw, put_by, view_of}
use Rattle.dwz_law_layout.specs.OverLaws.{AreOver}
use Rattle.dwz_law_layout.proofs.FilesShown.{shown_many}
use Rattle.dwz_law_layout.proofs.OverOrder.{file_written, order_over, standing_placed}
use Rattle.dwz_law_layout.proofs.OverPlaces.{units_are, units_long}
use Rattle.dwz_law_layout.proofs.OverRoots.{root_begins}

-- the finished common file has as many units as the move says
pub units_beside : (s : Standing) (f : RunFacts (Over s)) → AreOver s f → length (common_units (move f)) ≡ length s.file.raw
units_beside = units_long

-- ---- what is laid

pub many_by : ManyLaw
many_by Alone f k orders is = shown_many (keys f) k 0 orders (put_by f) is.shows
many_by (Over s) f k orders is = shown_many (keys f) k (length (view_of s.file.raw).roots) orders (put_by f) is.shows

pub laid_of : LaidLaw
laid_of Alone f k orders facts is = run_laid f k orders facts is
laid_of (Over s) f k orders facts is =
    let all = over_of k (view_of s.file.raw) orders in
    subst (λ (n : ℕ). FilesAre (places_of f) k all.places all.roots n orders all.files (put_by f)) (length-map s.file.raw (λ (u : RawUnit). u.root.at))
    (sections_over (keys f) (places_of f) k (view_of s.file.raw) orders (put_by f) is)

-- the name of an entry stands in the common file, or in one of the files that are written
names_split : {beside : Beside} (f : RunFacts beside) → units_keys (units_written f) ≡ units_keys (common_units (move f)) ++ units_keys (file_units (move f) (units f) (files_written f))
names_split f = ap (λ (us : List (DwUnit EntryName)). units_keys us) (written_units f) ∙ keys_joined (common_units (move f)) (file_units (move f) (units f) (files_written f))

there_in : {beside : Beside} (f : RunFacts beside) (name : EntryName) (owner : ℕ) → StandsIn (units_written f) name owner → In name (units_keys (units_written f))
there_in f name owner stands = in_units stands.unit (units_written f) name (got_in (units_written f) owner stands.unit stands.is) stands.has

pub placed_by : PlacedLaw
unfolding files_keys
placed_by Alone f t k orders facts beside listed is i name named owner stands =
    let key : (keys f).row i ≡ name = get_or_from_slice_get (all_names (every f)) i name no_name named in
    let many = entries_many f t k facts listed in
    let low = got_below (all_names (every f)) i name named in
    let lt : i < length k.owners.items = omega (arith, low, many) in
    let keys_are : files_keys (written_out f) ≡ units_keys (units_written f) =
    ap (λ (w : List EntryName). w ++ files_keys (files_out f)) (common_names (run f))
    ∙ ap (λ (w : List EntryName). units_keys (common_units (move f)) ++ w) (file_names_by (common f) (run f) (files_written f))
    ∙ sym (names_split f) in
    let held : In ((keys f).row i) (files_keys (written_out f)) =
    subst (In ((keys f).row i)) (sym keys_are) (subst (λ (w : EntryName). In w (units_keys (units_written f))) (sym key) (there_in f name owner stands)) in
    run_places f k orders facts is i lt (row_written (keys f) k orders (written_out f) (rows_apart f facts k many orders) i lt is.shows held) ∙ ap (places_of f).place key
placed_by (Over s) f t k orders facts o listed is i name named owner stands =
    let key : (keys f).row i ≡ name = get_or_from_slice_get (all_names (every f)) i name no_name named in
    let many = entries_many f t k facts listed in
    let low = got_below (all_names (every f)) i name named in
    let lt : i < length k.owners.items = omega (arith, low, many) in
    let v = view_of s.file.raw in
    let shared = units_keys (common_units (move f)) in
    let own = units_keys (file_units (move f) (units f) (files_written f)) in
    let shows = subst (λ (n : ℕ). ShowFiles (keys f) k n orders (put_by f)) (length-map s.file.raw (λ (u : RawUnit). u.root.at)) is.shows in
    places_over (keys f) (places_of f) k v orders (put_by f) is i (
      lt,
      elim (in_cases name shared own (subst (In name) (names_split f) (there_in f name owner stands))) [
        | inl a ↦
            inl (standing_placed s f o facts t k listed i name named (subst (λ (us : List (DwUnit EntryName)). In name (units_keys us)) (sym (units_are s f o)) a) ∙ ap (places_of f).place (sym key))
        | inr b ↦ inr (file_written s f o facts t k listed orders shows i lt (subst (In ((keys f).row i)) (sym (file_names_by (common f) (run f) (files_written f)))
            (subst (λ (w : EntryName). In w own) (sym key) b)))
      ],
    )
    ∙ ap (places_of f).place key

pub self_by : SelfLaw
self_by beside f t k orders facts over listed is n bytes x index h changed i r d read itself =
    let o = here f t k facts listed n x index h.file h.index_is in
    let number = number_of k (row n i) in
    let found : slice_get (all_names (every f)) number ≡ Some (entry_name f n d) =
    ap (slice_get (all_names (every f))) (number_is f k n x index o i)
    ∙ named_every f k n x index o i (below f k n x index o bytes i r d read)
    ∙ ap (λ (s : EntryName). Some s) (sym (read_name f k n x index o bytes i r d read)) in
    placed_by beside f t k orders facts over listed is number (entry_name f n d) found (owner_of k number) (owns_entry f t k facts listed n bytes x index h changed i r d read itself)

pub roots_by : RootsLaw
roots_by Alone f facts over i u nth = run_roots f facts i u nth
roots_by (Over s) f facts o i u nth = root_begins s f o facts i u nth

-- ---- orders

pub order_by : OrderLaw
order_by Alone f t k orders facts over listed read few shows = run_order f t k orders facts listed read few shows
order_by (Over s) f t k orders facts o listed read few shows = order_over s f o facts t k listed orders shows read few

pub settled_over : SettledOverLaw
settled_over s f t k settled facts o listed is few read files kept others put texts =
    let known = all_files_known (Over s) f t k settled facts listed is files kept others put (run_numbers f) texts in
    let shown = files_shown (Over s) f k (length (common_units (move f))) others known in
    let first : length (common_units (move f)) ≡ length s.file.raw + 0 = omega (arith, units_long s f o) in
    order_by (Over s) f t k ([] ∷ others) facts o listed read few (tt, subst (λ (n : ℕ). ShowFiles (keys f) k n others (files_out f)) first shown)
