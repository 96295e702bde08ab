-- The owner of an entry that stands for itself is the unit in which its name stands.
use Rattle.std.proofs.Common.{◌≡◌, ℕ, ◌+◌, ◌-◌, true, List, map, Some, Ok, slice_get, sym, ap, subst, ◌∙◌, arith}
use Rattle.std.proofs.lemmas.Option.{get_or_from_slice_get}
use Rattle.dwz_def_reading.specs.Units.{RawUnit}
use Rattle.dwz_def_reading.proofs.ListFacts.{got_in, got_map}
use Rattle.dwz_def_reading.specs.Documents.{Doc, DwUnit, unit_map}
use Rattle.dwz_def_reading.specs.Files.{around_of}
use Rattle.dwz_def_reading.specs.Meant.{units_meaning}
use Rattle.dwz_def_reading.proofs.MeaningUnits.{units_agree}
use Rattle.dwz_def_tops.specs.Lists.{Nth}
use Rattle.dwz_def_reading.specs.Lists.{Each}
use Rattle.dwz_def_tops.specs.Seen.{IsPartial}
use Rattle.dwz_def_tops.proofs.Members.{each_in, each_of}
use Rattle.dwz_def_tops.specs.Spots.{EntryName, in_file, spot_in, spots_from}
use Rattle.dwz_def_images.specs.Moves.{image_in}
use Rattle.dwz_def_images.specs.After.{ArePlaced}
use Rattle.dwz_def_images.specs.Units.{changes}
use Rattle.dwz_unit.specs.Rows.{EntryRow, rows_of, units_of as raw_units}
use Rattle.dwz_graph.specs.declared.file.File.{File}
use Rattle.dwz_graph.specs.declared.index.Starts.{Starts}
use Rattle.dwz_graph.specs.Index.{Index}
use Rattle.dwz_graph.specs.Names.{names_from}
use Rattle.dwz_graph.proofs.TopNameLemmas.{means_units}
use Rattle.dwz_graph.specs.Indexed.{first_starts}
use Rattle.dwz_layout_numbers.specs.OwnerLaws.{AreMoved}
use Rattle.dwz_layout_numbers.specs.Owners.{IsFileWritten, StandsIn}
use Rattle.dwz_layout_numbers.proofs.OwnerLemmas.{owned}
use Rattle.dwz_layout_numbers.proofs.UnitNames.{IsOfUnit, of_unit}
use Rattle.dwz_layout.specs.declared.known.EntryTable.{EntryTable}
use Rattle.dwz_layout.specs.Known.{owner_of}
use Rattle.dwz_law_layout.specs.Beside.{Beside}
use Rattle.dwz_law_layout.specs.Facts.{AreFacts, RunFacts, docs, move, units, units_written, written}
use Rattle.dwz_law_layout.specs.Listed.{AreListed, TextsAt}
use Rattle.dwz_law_layout.proofs.FileEntries.{IsHere, names}
use Rattle.dwz_law_layout.proofs.ReadFiles.{all_placed}
use Rattle.dwz_law_layout.proofs.Walks.{owners_at}

pub are_moved : {beside : Beside} (f : RunFacts beside) → AreFacts f → AreMoved (docs f) (move f) f.planned (written f) f.commons f.parts f.olds
are_moved f facts = record { placed = all_placed f facts; holds = facts.holds; shows = facts.shows; numbers = facts.numbers }

module _ {beside : Beside} (f : RunFacts beside) (t : TextsAt) (k : EntryTable) (facts : AreFacts f) (listed : AreListed f t k) (n : ℕ) (x : File) (index : Index) (o : IsHere f k n x index) where
  abbrev raw : List RawUnit
  raw = raw_units x.units

  -- the file's document and what it begins with, as they are found among all
  abbrev pub doc : Doc ℕ
  doc = o.found.doc

  abbrev pub starts : Starts
  starts = o.found.starts

  abbrev pub name : ℕ → EntryName
  name = spot_in (spots_from o.found.starts.unit o.found.starts.top o.found.doc.units)

  abbrev pub found_names : List EntryName
  found_names = names_from o.found.starts.unit o.found.starts.top o.found.doc.units

  pub names_same : found_names ≡ names f k n x index o
  names_same = λ j. names_from (o.starts_same j).unit (o.starts_same j).top (o.doc_same j).units

  means : units_meaning (around_of o.bytes raw) raw ≡ Ok doc.units
  means =
      means_units o.among.kept.limits o.bytes raw o.among.kept.read.doc o.among.kept.read.means
      ∙ ap (λ (w : Doc ℕ). Ok w.units) (sym o.doc_same)

  whole : Each (λ v. IsPartial v.kind → ⊥) doc.units
  whole = each_of (λ (v : DwUnit ℕ). IsPartial v.kind → ⊥) doc.units
      (each_in (λ (w : Doc ℕ). ArePlaced w.units) doc (docs f) (all_placed f facts) (got_in (docs f) n doc o.found.is_doc)).kinds

  -- ---- the unit of an entry

  -- the entry's unit with names, and its number among all
  pub record InUnit (r : EntryRow) (s : EntryName) : Type 0 where
    pub number : ℕ
    pub is_number : number ≡ starts.unit + r.unit
    pub its : IsOfUnit n name starts.unit starts.top doc.units number s
    pub nth : Nth 0 (units f) number (in_file n (unit_map name its.v))

  pub unit_there : (i : ℕ) (r : EntryRow) (s : EntryName) → slice_get (rows_of raw) i ≡ Some r → slice_get found_names i ≡ Some s → InUnit r s
  unit_there i r s row_is name_is =
      let mean = ((units_agree (around_of o.bytes raw) raw).ok doc.units).0 means in
      let u = of_unit (around_of o.bytes raw) n name raw doc.units mean whole starts.unit starts.top 0 0 i r s row_is name_is in
      let w = u.2 in
      let at = u.1 in
      let far = w.number in
      let got = got_map (in_file n) (map (unit_map name) doc.units) w.k (unit_map name w.v) (got_map (unit_map name) doc.units w.k w.v w.is) in
      record {
        number = u.0;
        is_number = omega (arith, at);
        its = w;
        nth = subst (λ (m : ℕ). Nth 0 (units f) m (in_file n (unit_map name w.v))) (sym far) (o.found.units w.k (in_file n (unit_map name w.v)) got);
      }

  -- ---- its owner

  pub entry_owned : changes (move f) (units f) n ≡ true → (i : ℕ) (r : EntryRow) (s : EntryName) → slice_get (rows_of raw) i ≡ Some r → slice_get (names f k n x index o) i ≡ Some s
      → image_in (move f) s ≡ s → StandsIn (units_written f) s (owner_of k (o.start + i))
  entry_owned changed i r s row_is name_is fixed =
      let is_written : IsFileWritten (written f) n = facts.numbers.changed n changed in
      let name_found : slice_get found_names i ≡ Some s = ap (λ (w : List EntryName). slice_get w i) names_same ∙ name_is in
      let u = unit_there i r s row_is name_found in
      let kept = facts.numbers.olds_are u.number (in_file n (unit_map name u.its.v)) u.nth is_written in
      let own = owners_at f first_starts (docs f) f.indexes facts.indexed.end facts.indexed.are f.files k.owners.items listed.owners 0 n o.start x index found_names o.file_is o.index_is o.start_is
      o.found.index.names i r s row_is name_found in
      let w = own.1 in
      let at : o.start + i ≡ (o.start - 0) + i = omega arith in
      let owner : owner_of k (o.start + i) ≡ w.owner = get_or_from_slice_get k.owners.items (o.start + i) w.owner 0 (ap (slice_get k.owners.items) at ∙ w.there) in
      let number = u.is_number in
      let same : index.starts.unit + r.unit ≡ u.number = ap (λ (v : Starts). v.unit + r.unit) (sym o.starts_same) ∙ sym number in
      let is = w.is kept.0 (ap (slice_get f.olds) same ∙ kept.1) in
      let stands = owned (docs f) (move f) f.planned (written f) f.commons f.parts f.olds (are_moved f facts)
      n index o.start o.found is_written (around_of o.bytes raw) raw means i r s row_is name_found fixed
      kept.0 (ap (slice_get f.olds) (sym number) ∙ kept.1) in
      subst (StandsIn (units_written f) s) (sym (owner ∙ is)) stands
