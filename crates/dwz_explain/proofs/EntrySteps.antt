-- What is said of an entry of a file by its number.
use Rattle.std.proofs.Common.{◌≡◌, ℕ, zero, suc, ◌<◌, List, [], ◌∷◌, length, Some, slice_get, sym, ap, subst, ◌∙◌}
use Rattle.dwz_def_reading.specs.Documents.{Entries, Node}
use Rattle.dwz_def_reading.specs.Files.{around_of}
use Rattle.dwz_def_reading.specs.Meanings.{MeaningContext, scope_of}
use Rattle.dwz_def_reading.specs.Trees.{End, Entry}
use Rattle.dwz_def_reading.proofs.ListFacts.{got_below}
use Rattle.dwz_def_tops.specs.Spots.{EntryName}
use Rattle.dwz_def_reading.specs.Places.{at_file}
use Rattle.dwz_def_explain.specs.Texts.{child_at, entry_along, place_of_name}
use Rattle.dwz_def_explain.specs.What.{Subtree}
use Rattle.dwz_graph.specs.declared.file.File.{File}
use Rattle.dwz_graph.specs.Files.{docs_of}
use Rattle.dwz_unit.proofs.RowsFound.{row_is}
use Rattle.dwz_label_differences.specs.Told.{EachNode}
use Rattle.dwz_graph.specs.Across.{name_at}
use Rattle.dwz_unit.specs.declared.rows.RawEntry.{RawEntry as EntryOfCode}
use Rattle.dwz_unit.specs.Rows.{Source, shown_entries, units_of as raw_units}
use Rattle.dwz_explain.specs.declared.asked.Spot.{Spot}
use Rattle.dwz_explain.specs.Reached.{HasEntry, HasEntryNames, IsEntryName, Shows}
use Rattle.dwz_explain.specs.Shown.{HasSubtree, MeansSubtree}
use Rattle.dwz_explain.proofs.ChildSteps.{firsts}
use Rattle.dwz_explain.proofs.PlaceNames.{place_is}

-- ---- names

child_names : (x : Subtree) (i : ℕ) (f : Entries EntryName) → HasEntryNames x → EachNode (λ e. IsEntryName e.at) f → HasEntryNames (child_at x i f)
unfolding child_at
child_names x i End h k = h
child_names x zero (Entry e b n) h k = (k.0, k.1)
child_names x (suc i) (Entry e b n) h k = child_names x i n h k.2

along_names : (path : List ℕ) (x : Subtree) → HasEntryNames x → HasEntryNames (entry_along path x)
unfolding entry_along
along_names [] x h = h
along_names (i ∷ path) x h = along_names path (child_at x i x.below) (child_names x i x.below h h.1)

-- ---- the units of its file

-- they are those of the file with that number
abbrev pub AreUnits : List File → ℕ → Source → Type 0
AreUnits files file units = (f : File) → slice_get files file ≡ Some f → f.units ≡ units

pub has_there : (files : List File) (p : Spot) (units : Source) → AreUnits files p.file units → HasEntry files p → HasSubtree (raw_units units) p.entry
has_there files p units are h = subst (λ (w : Source). HasSubtree (raw_units w) p.entry) (are h.f h.got) h.has

pub there_has : (files : List File) (p : Spot) (entry : ℕ) (units : Source) → AreUnits files p.file units → HasEntry files p → HasSubtree (raw_units units) entry
    → HasEntry files (record { file = p.file; entry = entry })
there_has files p entry units are h has = record { f = h.f; got = h.got; has = subst (λ (w : Source). HasSubtree (raw_units w) entry) (sym (are h.f h.got)) has }

pub file_low : (files : List File) (p : Spot) → HasEntry files p → p.file < length files
file_low files p h = got_below files p.file h.f h.got

-- what it means there
pub record MeansHere (units : Source) (entry : ℕ) (x : Subtree) : Type 0 where
  pub s : MeaningContext ℕ
  pub name : ℕ → EntryName
  pub means : MeansSubtree s name (raw_units units) entry x

pub means_here : (contents : List (List ℕ)) (files : List File) (p : Spot) (units : Source) (x : Subtree) → AreUnits files p.file units → Shows contents files p x → MeansHere units p.entry x
means_here contents files p units x are h =
    let s = scope_of (around_of h.bytes (raw_units h.f.units)) h.unit in
    let name = name_at h.index.starts h.among.kept.read.doc in
    record { s = s; name = name; means = subst (λ (w : Source). MeansSubtree s name (raw_units w) p.entry x) (are h.f h.got) h.means }

-- ---- along a path

abbrev pub GoesAlong : Source → ℕ → ℕ → List ℕ → Type 0
GoesAlong units from to path = (s : MeaningContext ℕ) (name : ℕ → EntryName) (x : Subtree) → MeansSubtree s name (raw_units units) from x
    → MeansSubtree s name (raw_units units) to (entry_along path x)

pub along_shows : (contents : List (List ℕ)) (files : List File) (p : Spot) (to : ℕ) (units : Source) (path : List ℕ) → AreUnits files p.file units → GoesAlong units p.entry to path
    → (x : Subtree) → Shows contents files p x → Shows contents files (record { file = p.file; entry = to }) (entry_along path x)
along_shows contents files p to units path are goes x h =
    let s = scope_of (around_of h.bytes (raw_units h.f.units)) h.unit in
    let name = name_at h.index.starts h.among.kept.read.doc in
    let here = subst (λ (w : Source). MeansSubtree s name (raw_units w) p.entry x) (are h.f h.got) h.means in
    record {
      bytes = h.bytes;
      f = h.f;
      index = h.index;
      got = h.got;
      among = h.among;
      unit = h.unit;
      means = subst (λ (w : Source). MeansSubtree s name (raw_units w) to (entry_along path x)) (sym (are h.f h.got)) (goes s name x here);
      named = along_names path x h.named;
    }

-- ---- its tag and its place

pub tag_is : (contents : List (List ℕ)) (files : List File) (p : Spot) (units : Source) (r : EntryOfCode) → AreUnits files p.file units → slice_get (shown_entries (raw_units units)) p.entry ≡ Some r
    → (x : Subtree) → Shows contents files p x → x.node.tag ≡ r.tag
tag_is contents files p units r are shown x h =
    let m = means_here contents files p units x are h in
    let raw = raw_units units in
    let f = firsts m.s m.name raw p.entry m.means.end r x.node x.below End shown m.means.is in
    let same = row_is raw p.entry r f.row shown f.found in
    ap (λ (w : Node EntryName). w.tag) f.node ∙ f.means.tag ∙ ap (λ (w : EntryOfCode). w.tag) same

pub place_there : (contents : List (List ℕ)) (files : List File) (p : Spot) (units : Source) (r : EntryOfCode) → AreUnits files p.file units
    → slice_get (shown_entries (raw_units units)) p.entry ≡ Some r → (x : Subtree) → Shows contents files p x → place_of_name (docs_of contents) x.node.at ≡ r.at
place_there contents files p units r are shown x h =
    let raw = raw_units h.f.units in
    let s = scope_of (around_of h.bytes raw) h.unit in
    let name = name_at h.index.starts h.among.kept.read.doc in
    let here = ap (λ (w : Source). slice_get (shown_entries (raw_units w)) p.entry) (are h.f h.got) ∙ shown in
    let f = firsts s name raw p.entry h.means.end r x.node x.below End here h.means.is in
    let same = row_is raw p.entry r f.row here f.found in
    let at : f.d.at ≡ r.at = f.means.place ∙ ap (λ (w : EntryOfCode). w.at) same in
    let named : x.node.at ≡ name r.at = ap (λ (w : Node EntryName). w.at) f.node ∙ ap name at in
    place_is (docs_of contents) (at_file p.file r.at) x.node.at h.named.0 (h.among.names r.at ∙ sym named)
