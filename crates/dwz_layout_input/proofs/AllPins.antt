-- File by file: which spaces are pinned.
use Rattle.std.proofs.Common.{◌≡◌, ℕ, zero, suc, ◌+◌, ◌<◌, ◌≤◌, ◌^◌, Bool, true, false, List, [], ◌∷◌, length, get_or, map, take, Some, slice_get, refl, sym, ap, subst, ◌∙◌, arith}
use Rattle.std.specs.Prelude.{replicate}
use Rattle.std.specs.List.{list_any}
use Rattle.std.proofs.lemmas.List.{length-map, take_all}
use Rattle.std.proofs.lemmas.Option.{get_or_from_slice_get}
use Rattle.dwz_def_reading.proofs.ListFacts.{got_below, got_map, item_got}
use Rattle.dwz_def_reading.proofs.CaseFacts.{same_bool}
use Rattle.dwz_def_reading.specs.Documents.{Doc, Node}
use Rattle.dwz_def_tops.specs.Spots.{EntryName, FileUnit, UnitOf, same_spot, units_of}
use Rattle.dwz_graph.specs.declared.file.File.{File}
use Rattle.dwz_graph.specs.Files.{AreKept, docs_of}
use Rattle.dwz_graph.specs.declared.index.Starts.{Starts}
use Rattle.dwz_graph.specs.Index.{Index}
use Rattle.dwz_graph.specs.Indexed.{AreIndexes}
use Rattle.dwz_graph.proofs.IndexRoom.{many_units}
use Rattle.dwz_def_images.specs.Plan.{is_pinned_at, pinned_in}
use Rattle.dwz_layout_order.specs.Lists.{all_spaces}
use Rattle.dwz_layout_order.specs.Marks.{flag_at}
use Rattle.dwz_layout_order.specs.Spaces.{Numbered, spaces_of}
use Rattle.dwz_layout_order.proofs.SpaceNumbers.{numbered_by}
use Rattle.dwz_move.specs.Marked.{MarksIf}
use Rattle.dwz_unit.specs.Rows.{units_of as raw_units}
use Rattle.dwz_graph.specs.Across.{IsFileAmong, file_units, name_at, starts_at}
use Rattle.dwz_graph.proofs.FileCounts.{all_ends, are_many, starts_are}
use Rattle.dwz_graph.proofs.FileWalk.{is_among}
use Rattle.dwz_graph.proofs.TopRows.{units_long}
use Rattle.dwz_move_files.proofs.MarkSteps.{MarkedBy, files_first, files_next, starts_zero}
use Rattle.dwz_move_files.proofs.FilesKnown.{below}
use Rattle.dwz_layout_input.specs.Pinned.{ArePinned, FlagsSpace}
use Rattle.dwz_layout_input.specs.Places.{NamesApart, spot_at}
use Rattle.dwz_layout_input.proofs.NamesRead.{begins, room_for}
use Rattle.dwz_layout_input.proofs.SpaceCounts.{many_spaces}
use Rattle.dwz_layout_input.proofs.SpaceNames.{apart_there}

-- the names of the spaces of units
abbrev pub space_spots : List (FileUnit EntryName) → List EntryName
space_spots units = map (λ e. e.at) (spaces_of units)

-- a unit pins the space with a number
abbrev pub pins_number : List (FileUnit EntryName) → ℕ → FileUnit EntryName → Bool
pins_number units n f = pinned_in (same_spot (spot_at (space_spots units) n)) f

pub spots_many : (docs : List (Doc ℕ)) (indexes : List Index) → AreIndexes docs indexes → length (all_spaces indexes) ≡ length (space_spots (units_of docs))
spots_many docs indexes is = sym (many_spaces docs indexes is) ∙ sym (length-map (spaces_of (units_of docs)) (λ (e : Node EntryName). e.at))

pub pins_begin : (docs : List (Doc ℕ)) (indexes : List Index) (flags : List Bool) → flags ≡ replicate (length (all_spaces indexes)) false
    → MarkedBy (units_of docs) (pins_number (units_of docs)) (length (all_spaces indexes)) (starts_at docs indexes 0).unit flags
pins_begin docs indexes flags e =
    let units = units_of docs in
    let count = length (all_spaces indexes) in
    subst (λ (s : Starts). MarkedBy units (pins_number units) count s.unit flags) (sym (starts_zero docs indexes)) (files_first units (pins_number units) count flags e)

module _ (contents : List (List ℕ)) (files : List File) (indexes : List Index) (kept : AreKept contents files) (all : AreIndexes (docs_of contents) indexes) (k : ℕ) (f : File) (x : Index)
    (got_f : slice_get files k ≡ Some f) (got_x : slice_get indexes k ≡ Some x) where
  abbrev units : List (FileUnit EntryName)
  units = units_of (docs_of contents)

  pub pins_next : (old new : List Bool) → MarkedBy units (pins_number units) (length (all_spaces indexes)) (starts_at (docs_of contents) indexes k).unit old
      → ((contents : List (List ℕ)) (k : ℕ) (bytes : List ℕ) (spots : List EntryName) (is : IsFileAmong contents k bytes f x)
      → NamesApart spots x (raw_units f.units) (name_at x.starts is.kept.read.doc)
      → length old ≡ length spots
      → MarksIf (λ t. list_any (pinned_in (same_spot (spot_at spots t))) (file_units x.starts k is.kept.read.doc) ≡ true) old new)
      → MarkedBy units (pins_number units) (length (all_spaces indexes)) (starts_at (docs_of contents) indexes (k + 1)).unit new
  pins_next old new h one =
      let r = is_among contents files indexes k f x kept all got_f got_x in
      let doc = r.is.kept.read.doc in
      let starts = starts_are contents files indexes k f x kept all got_f got_x in
      let begins = ap (λ (s : Starts). s.unit) starts.0 in
      let long = units_long x.starts k doc in
      let many = many_units r.is.kept.limits r.bytes (raw_units f.units) doc r.is.kept.read.means in
      let behind = ap (λ (n : ℕ). x.starts.unit + n) (long ∙ sym many) ∙ ap (λ (s : Starts). s.unit) starts.1 in
      let count = length (all_spaces indexes) in
      let own = file_units x.starts k doc in
      let apart = apart_there contents files indexes kept all k x f r.bytes got_f got_x r.is in
      let marks = one contents k r.bytes (space_spots units) r.is apart (h.len ∙ spots_many (docs_of contents) indexes all) in
      subst (λ (n : ℕ). MarkedBy units (pins_number units) count n new) behind
      (files_next units own (pins_number units) count x.starts.unit old new r.is.units (subst (λ (n : ℕ). MarkedBy units (pins_number units) count n old) (sym begins) h) marks)

pub pins_all : (contents : List (List ℕ)) (files : List File) (indexes : List Index) (k : ℕ) → AreKept contents files → AreIndexes (docs_of contents) indexes → length files ≤ k → k ≤ length files
    → (flags : List Bool)
    → MarkedBy (units_of (docs_of contents)) (pins_number (units_of (docs_of contents))) (length (all_spaces indexes)) (starts_at (docs_of contents) indexes k).unit flags
    → ArePinned (units_of (docs_of contents)) flags
unfolding is_pinned_at
pins_all contents files indexes k kept all low high flags h =
    let docs = docs_of contents in
    let units = units_of docs in
    let many = are_many contents files indexes kept all in
    let a = many.0 in
    let b = many.1 in
    let e : k ≡ length indexes = omega arith in
    let upto = ap (λ (n : ℕ). (starts_at docs indexes n).unit) e ∙ (all_ends contents indexes all).0 in
    let taken : take (starts_at docs indexes k).unit units ≡ units = take_all (starts_at docs indexes k).unit units (omega arith) in
    let count = many_spaces docs indexes all in
    record {
      len = h.len ∙ sym count;
      each = numbered_by (FlagsSpace units flags) 0 (spaces_of units) (λ n e got. (
          let lt = got_below (spaces_of units) n e got in
          let r = h.each n (omega arith) in
          let spot : spot_at (space_spots units) n ≡ e.at = get_or_from_slice_get (space_spots units) n e.at (UnitOf 0) (got_map (λ (w : Node EntryName). w.at) (spaces_of units) n e got) in
          let same = same_bool (flag_at flags n) (list_any (pins_number units n) units)
          (λ x. sym (ap (list_any (pins_number units n)) taken) ∙ r.0 x, λ x. r.1 (ap (list_any (pins_number units n)) taken ∙ x)) in
          let none : 0 + n ≡ n = omega arith in
          ap (flag_at flags) none ∙ same ∙ ap (λ (s : EntryName). list_any (pinned_in (same_spot s)) units) spot));
    }

-- where there are no spaces
pub none_pinned : (docs : List (Doc ℕ)) (indexes : List Index) (flags : List Bool) → AreIndexes docs indexes → flags ≡ replicate (length (all_spaces indexes)) false → length flags ≡ 0
    → ArePinned (units_of docs) flags
none_pinned docs indexes flags is e none =
    let units = units_of docs in
    let count = many_spaces docs indexes is in
    let long = ap (λ (w : List Bool). length w) e ∙ set_long (length (all_spaces indexes)) in
    record { len = omega arith; each = by (spaces_of units) (omega arith) }
  where
    by : (xs : List (Node EntryName)) → length xs ≡ 0 → Numbered (FlagsSpace (units_of docs) flags) 0 xs
    by [] h = tt
    by (x ∷ xs) h = absurd (omega arith)

    set_long : (count : ℕ) → length (replicate count false) ≡ count
    set_long zero = refl
    set_long (suc count) = ap suc (set_long count)

-- ---- a file that is read by its number

module _ (contents : List (List ℕ)) (files : List File) (indexes : List Index) (k : ℕ) (f : File) (x : Index) (kept : AreKept contents files) (all : AreIndexes (docs_of contents) indexes)
    (lt : k < length files) (fe : f ≡ get_or files k f) (xe : x ≡ get_or indexes k x) where
  pub got_file : slice_get files k ≡ Some f
  got_file = item_got files k f lt fe

  pub got_index_of : slice_get indexes k ≡ Some x
  got_index_of = item_got indexes k x (below contents files indexes k kept all lt) xe

  pub room_of : x.starts.space + length x.spaces < 2 ^ 32
  room_of = (let room = room_for contents files indexes kept all k f x got_file got_index_of in let at =
      ap (λ (s : Starts). s.space) (begins contents files indexes kept all k f x got_file got_index_of) in omega arith)
