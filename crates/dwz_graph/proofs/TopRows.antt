-- The tops of units one behind the other.
use Rattle.std.proofs.Common.{◌≡◌, ℕ, ◌+◌, ◌<◌, List, ◌++◌, length, ◌∙◌}
use Rattle.dwz_def_reading.specs.Documents.{Doc}
use Rattle.dwz_def_tops.specs.Spots.{EntryName, FileUnit, Top, spots_from, tops_among, tops_from}
use Rattle.dwz_def_tops.proofs.RowLemmas.{top_of}
use Rattle.dwz_def_reading.specs.Lists.{In}
use Rattle.dwz_def_tops.proofs.Members.{nth_below}
use Rattle.dwz_def_tops.proofs.FiledTops.{filed_count, filed_length, tops_length, tops_append}
use Rattle.dwz_graph.specs.declared.index.Starts.{Starts}
use Rattle.dwz_graph.specs.Across.{file_tops, file_units}

-- ---- of a file

module _ (s : Starts) (file : ℕ) (doc : Doc ℕ) where
  pub units_long : length (file_units s file doc) ≡ length doc.units
  units_long = filed_length (spots_from s.unit s.top doc.units) file doc.units

  pub file_many : length (file_tops s file doc) ≡ tops_among doc.units
  file_many = tops_length s.unit s.top (file_units s file doc) ∙ filed_count (spots_from s.unit s.top doc.units) file doc.units

  -- and of the files behind it
  pub tops_behind : (others : List (FileUnit EntryName)) → tops_from s.unit s.top (file_units s file doc ++ others) ≡ file_tops s file doc
      ++ tops_from (s.unit + length doc.units) (s.top + tops_among doc.units) others
  tops_behind others =
      tops_append s.unit s.top (file_units s file doc) others
      ∙ (λ i. file_tops s file doc ++ tops_from (s.unit + units_long i) (s.top + filed_count (spots_from s.unit s.top doc.units) file doc.units i) others)

-- ---- the units that they are of

pub unit_high : (s n : ℕ) (units : List (FileUnit EntryName)) (t : Top) → In t (tops_from s n units) → t.unit < s + length units
unit_high s n units t there = let o = top_of s n units t there in nth_below s units t.unit o.unit o.nth
