-- Numbers of images: of the entries of a file that of the entry that stands for each after.
use Rattle.std.specs.Prelude.{◌≡◌, ℕ, ◌<◌, ◌^◌, List, [], ◌∷◌, length, Some, slice_get, slice_index}
use Rattle.dwz_def_reading.specs.Documents.{Doc, Entries}
use Rattle.dwz_def_reading.specs.Lists.{In}
use Rattle.dwz_def_reading.specs.Trees.{End, Entry}
use Rattle.dwz_def_tops.specs.Spots.{EntryName, Top, tops_of, units_of}
use Rattle.dwz_graph.specs.Index.{Index, IsIndex}
use Rattle.dwz_def_images.specs.Moves.{Move, image_in}
use Rattle.dwz_plan.specs.Planned.{Planned}
use Rattle.dwz_graph.specs.AllNames.{AreTopEntries, StandFrom, all_names}

-- ---- images

-- entries of two trees stand at the same paths
abbrev pub SameShape : {P : Type 0} → Entries P → Entries P → Type 0
SameShape End End = Unit {0}
SameShape (Entry d f g) (Entry e f' g') = SameShape f f' × SameShape g g'
SameShape _ _ = ⊥

-- what stands for the top is a top of these, the entries of which stand at the same paths
pub record HasStandIn (tops : List Top) (m : Move) (t : Top) : Type 0 where
  pub top : Top
  pub there : In top tops
  pub number : top.number ≡ m.stand t.number
  pub shape : SameShape t.below top.below

-- so it is of each top of these documents: those of files, and that of a finished common file beside them, read as compile units
abbrev pub HaveStandIns : List (Doc ℕ) → Move → Type 0
HaveStandIns docs m = (t : Top) → In t (tops_of (units_of docs)) → HasStandIn (tops_of (units_of docs)) m t

-- the plan has what stands for each of the tops
abbrev pub ShowsStandIns : List (Doc ℕ) → Move → Planned → Type 0
ShowsStandIns docs m plan = (t : Top) → In t (tops_of (units_of docs)) → slice_index plan.stand_ins t.number ≡ m.stand t.number

-- The entries of all documents are fewer than 2 ^ 32; for each of their tops one stands after; the plan has these; and these are the
-- entries of their tops.
pub record IsPlanned (docs : List (Doc ℕ)) (m : Move) (plan : Planned) (tops : List ℕ) : Type 0 where
  pub few : length (all_names docs) < 2 ^ 32
  pub stand : HaveStandIns docs m
  pub shows : ShowsStandIns docs m plan
  pub tops_are : AreTopEntries docs tops

-- the index is of a file whose entries have these names, from that number on
pub record IsFile (docs : List (Doc ℕ)) (names : List EntryName) (x : Index) (start : ℕ) : Type 0 where
  pub shows : IsIndex names x
  pub stand : StandFrom (all_names docs) names start

-- the number among all of the image of the entry with that number in its file
pub record IsImage (docs : List (Doc ℕ)) (m : Move) (names : List EntryName) (entry number : ℕ) : Type 0 where
  pub name : EntryName
  pub is : slice_get names entry ≡ Some name
  pub there : slice_get (all_names docs) number ≡ Some (image_in m name)

-- of each of them
abbrev pub AreImages : List (Doc ℕ) → Move → List EntryName → List ℕ → List ℕ → Type 0
AreImages docs m names [] [] = Unit {0}
AreImages docs m names (entry ∷ entries) (number ∷ numbers) = IsImage docs m names entry number × AreImages docs m names entries numbers
AreImages docs m names _ _ = ⊥
