-- What holds of the numbers of entries.
use Rattle.std.specs.Prelude.{◌≡◌, ℕ, ◌+◌, ◌-◌, ◌≤◌, ◌<◌, List, [], drop, length, Some, slice_get, slice_index}
use Rattle.dwz_def_reading.specs.Units.{RawUnit, entries_in}
use Rattle.dwz_def_reading.specs.Documents.{Doc}
use Rattle.dwz_graph.specs.Resolved.{place_at}
use Rattle.dwz_graph.specs.Rows.{AreTargets}
use Rattle.dwz_def_tops.specs.Spots.{EntryName, Within, tops_of, units_of}
use Rattle.dwz_def_images.specs.Moves.{Move, image_in}
use Rattle.dwz_layout_numbers.specs.Images.{AreImages, HaveStandIns}
use Rattle.dwz_graph.specs.AllNames.{all_names}

-- the image of an entry stands as far behind the top that stands for its own as the entry behind its own top
abbrev pub ImageLaw : Type 0
ImageLaw =
    (docs : List (Doc ℕ)) (m : Move) → HaveStandIns docs m → (top : ℕ) (path : List ℕ) (n from to : ℕ)
    → slice_get (all_names docs) n ≡ Some (Within top path) → slice_get (all_names docs) from ≡ Some (Within top [])
    → slice_get (all_names docs) to ≡ Some (Within (m.stand top) [])
    → (from ≤ n) × (slice_get (all_names docs) (to + (n - from)) ≡ Some (image_in m (Within top path)))

-- each name of an entry of a top is of one that is there, and so is that of the top that stands for it
abbrev pub InsideLaw : Type 0
InsideLaw =
    (docs : List (Doc ℕ)) (m : Move) → HaveStandIns docs m → (top : ℕ) (path : List ℕ) (n : ℕ)
    → slice_get (all_names docs) n ≡ Some (Within top path)
    → (top < length (tops_of (units_of docs))) × (m.stand top < length (tops_of (units_of docs)))

-- Where the numbers of a file's references are those of images, those from number n on, which lead to these places, are those of the
-- images of what has the names of these places.
abbrev pub ReferencesLaw : Type 0
ReferencesLaw =
    (docs : List (Doc ℕ)) (m : Move) (names : List EntryName) (name : ℕ → EntryName) (raw : List RawUnit)
    (refs numbers places : List ℕ) (n : ℕ) → AreImages docs m names refs numbers
    → ((i : ℕ) → i < entries_in raw → slice_get names i ≡ Some (name (place_at raw i))) → AreTargets raw (drop n refs) places
    → (j p : ℕ) → slice_get places j ≡ Some p
    → slice_get (all_names docs) (slice_index numbers (n + j)) ≡ Some (image_in m (name p))

-- no two entries have one name
abbrev pub OneLaw : Type 0
OneLaw = (docs : List (Doc ℕ)) (s : EntryName) (m n : ℕ) → slice_get (all_names docs) m ≡ Some s → slice_get (all_names docs) n ≡ Some s
    → m ≡ n
