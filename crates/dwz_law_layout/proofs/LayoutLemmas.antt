-- What the lists say of a file that was read, from what holds of its entries.
use Rattle.std.proofs.Common.{◌≡◌, ℕ, ◌+◌, true, List, [], Option, Some, slice_get, refl, sym, ap, subst, ◌∙◌}
use Rattle.std.specs.Option.{option_map_or}
use Rattle.dwz_def_reading.specs.Lists.{In}
use Rattle.dwz_def_reading.specs.Documents.{DwUnit, Node}
use Rattle.dwz_def_tops.specs.Shown.{unit_keys, units_keys}
use Rattle.dwz_def_tops.specs.Spots.{EntryName, same_spot}
use Rattle.dwz_def_images.specs.Moves.{image_in}
use Rattle.dwz_def_images.specs.Units.{changes, common_units, out_units}
use Rattle.dwz_def_encoding.specs.Placing.{has_key}
use Rattle.dwz_unit.specs.Rows.{EntryRow, Source, rows_of, units_of as raw_units}
use Rattle.dwz_graph.specs.declared.file.File.{File}
use Rattle.dwz_graph.specs.Index.{Index}
use Rattle.dwz_graph.specs.Across.{name_at}
use Rattle.dwz_layout_numbers.specs.Owners.{StandsIn}
use Rattle.dwz_layout.specs.declared.known.FileRows.{FileRows}
use Rattle.dwz_layout.specs.declared.known.EntryTable.{EntryTable}
use Rattle.dwz_layout.specs.declared.order.UnitItems.{UnitItems}
use Rattle.dwz_layout.specs.Entries.{row}
use Rattle.dwz_layout.specs.Known.{number_of, owner_of, reference_at}
use Rattle.dwz_law_layout.specs.Knows.{IsReached, IsRead, KnowsFile, KnowsOwners, KnowsReferences}
use Rattle.dwz_law_layout.specs.Beside.{Beside}
use Rattle.dwz_law_layout.specs.Facts.{AreFacts, HasFile, RunFacts, file_read, move, units, units_written}
use Rattle.dwz_law_layout.specs.Listed.{AreListed, TextsAt}
use Rattle.dwz_law_layout.specs.Named.{keys}
use Rattle.dwz_law_layout.specs.NamedLaws.{IsItself, entry_name}
use Rattle.dwz_law_layout.specs.Unfitted.{common_unit_forms, file_unit_forms}
use Rattle.dwz_law_layout.proofs.EntriesReach.{Reaches, reached}
use Rattle.dwz_law_layout.proofs.FileEntries.{IsHere, LeadsTo, below, each_reference, entry_named, from, here, key_is, name_there, named, number_is, read_name, references_named}
use Rattle.dwz_law_layout.proofs.OwnedEntries.{entry_owned}
use Rattle.dwz_law_layout.proofs.ReadFiles.{all_stored}
use Rattle.dwz_law_layout.proofs.UnitsReach.{common_told, file_told, own_told}

module _ {beside : Beside} (f : RunFacts beside) (t : TextsAt) (k : EntryTable) (facts : AreFacts f) (listed : AreListed f t k) (n : ℕ) (bytes : List ℕ) (x : File) (index : Index) (h : HasFile f n bytes x index) where
  pub o : IsHere f k n x index
  o = here f t k facts listed n x index h.file h.index_is

  pub knows_file : KnowsFile k (file_read f n bytes x)
  knows_file = record {
    rows = ap (λ (w : Option FileRows). option_map_or (λ (r : FileRows). rows_of (raw_units r.units.now)) w []) o.rows_are ∙ ap (λ (w : Source). rows_of (raw_units w)) o.listed.units;
    alone = refl;
    stored = all_stored f facts n bytes x h.read;
  }

  pub knows_references : KnowsReferences (keys f) k (file_read f n bytes x)
  knows_references = record { are = λ i r d read. references_named f k n x index o bytes i r d read h.read.read.parts h.read.read.within }

  pub names_entry : (i : ℕ) (r : EntryRow) (d : Node ℕ) → IsRead (file_read f n bytes x) i r d → (keys f).row (number_of k (row n i)) ≡ entry_name f n d
  names_entry i r d read = entry_named f k n x index o bytes i r d read

  pub names_itself : (i : ℕ) (r : EntryRow) (d : Node ℕ) → IsRead (file_read f n bytes x) i r d → IsItself f (entry_name f n d)
      → (keys f).row (number_of k (row n i)) ≡ (file_read f n bytes x).after d.at
  names_itself i r d read itself = names_entry i r d read ∙ sym itself

  pub owns_entry : changes (move f) (units f) n ≡ true → (i : ℕ) (r : EntryRow) (d : Node ℕ) → IsRead (file_read f n bytes x) i r d → IsItself f (entry_name f n d)
      → StandsIn (units_written f) (entry_name f n d) (owner_of k (number_of k (row n i)))
  owns_entry changed i r d read itself =
      let s = read_name f k n x index o bytes i r d read in
      let name = named f k n x index o i in
      let fixed : image_in (move f) name ≡ name = ap (image_in (move f)) (sym s) ∙ itself ∙ s in
      let stands = entry_owned f t k facts listed n x index o changed i r name read.found (name_there f k n x index o i (below f k n x index o bytes i r d read)) fixed in
      subst (λ (w : ℕ). StandsIn (units_written f) (entry_name f n d) (owner_of k w)) (sym (number_is f k n x index o i))
      (subst (λ (w : EntryName). StandsIn (units_written f) w (owner_of k (o.start + i))) (sym s) stands)

  -- ---- from a unit

  module _ (changed : changes (move f) (units f) n ≡ true) (i : ℕ) (r : EntryRow) (d : Node ℕ) (read : IsRead (file_read f n bytes x) i r d) where
    abbrev pub Leads : ℕ → ℕ → Type 0
    Leads j p = LeadsTo f k n x index o bytes i r d read h.read.read.parts h.read.read.within j p

    abbrev pub number : ℕ → ℕ
    number j = reference_at k n (from f k n x index o bytes i r d read + j)

    -- the name of what a reference leads to
    abbrev name_of : ℕ → EntryName
    name_of p = image_in (move f) (name_at index.starts o.among.kept.read.doc p)

    leads_reach : (j p : ℕ) → Leads j p → Reaches f t k facts listed n (name_of p) (number j)
    leads_reach j p w =
        let own = reached f t k facts listed n x index o changed w.target w.low (number j) in
        let same : image_in (move f) (named f k n x index o w.target) ≡ name_of p = ap (λ (q : ℕ). name_of q) w.place in
        subst (λ (s : EntryName). Reaches f t k facts listed n s (number j)) same (own (w.there ∙ ap (λ (s : EntryName). Some s) (sym same)))

    leads_key : (j p : ℕ) → Leads j p → (keys f).row (number j) ≡ name_of p
    leads_key j p w = key_is f k n x index o (number j) (name_of p) w.there

    pub from_common : (here : ℕ) (u : DwUnit EntryName) → slice_get (units_written f) here ≡ Some u → In u (common_units (move f)) → (j p : ℕ) → Leads j p
        → IsReached (keys f) k here (common_unit_forms f u) (number j)
    from_common here u e is j p w =
        let key = leads_key j p w in
        let reach = leads_reach j p w in
        record {
          own = ap (λ (s : EntryName). has_key same_spot s (unit_keys u)) key ∙ own_told f t k facts listed (name_of p) (owner_of k (number j)) here u reach.stands e;
          file = ap (λ (s : EntryName). has_key same_spot s (units_keys (common_units (move f)))) key ∙ common_told f t k facts listed (name_of p) (owner_of k (number j)) here u reach.stands e is;
        }

    pub from_file : (here : ℕ) (u : DwUnit EntryName) → slice_get (units_written f) here ≡ Some u → In u (out_units (move f) (units f) n) → (j p : ℕ) → Leads j p
        → IsReached (keys f) k here (file_unit_forms f n u) (number j)
    from_file here u e is j p w =
        let key = leads_key j p w in
        let reach = leads_reach j p w in
        record {
          own = ap (λ (s : EntryName). has_key same_spot s (unit_keys u)) key ∙ own_told f t k facts listed (name_of p) (owner_of k (number j)) here u reach.stands e;
          file = ap (λ (s : EntryName). has_key same_spot s (units_keys (out_units (move f) (units f) n))) key
              ∙ file_told f t k facts listed n changed (name_of p) (owner_of k (number j)) here u reach.stands e is reach.near;
        }

  pub common_owners : changes (move f) (units f) n ≡ true → (here : ℕ) (u : DwUnit EntryName) → slice_get (units_written f) here ≡ Some u → In u (common_units (move f))
      → (items : UnitItems) → KnowsOwners (keys f) k (file_read f n bytes x) here items (common_unit_forms f u)
  common_owners changed here u e is items = record {
    are = λ i r d read writes. each_reference f k n x index o bytes i r d read h.read.read.parts h.read.read.within
        (λ m p. IsReached (keys f) k here (common_unit_forms f u) (reference_at k n m)) (λ j p w. from_common changed i r d read here u e is j p w);
  }

  pub file_owners : changes (move f) (units f) n ≡ true → (here : ℕ) (u : DwUnit EntryName) → slice_get (units_written f) here ≡ Some u → In u (out_units (move f) (units f) n)
      → (items : UnitItems) → KnowsOwners (keys f) k (file_read f n bytes x) here items (file_unit_forms f n u)
  file_owners changed here u e is items = record {
    are = λ i r d read writes. each_reference f k n x index o bytes i r d read h.read.read.parts h.read.read.within
        (λ m p. IsReached (keys f) k here (file_unit_forms f n u) (reference_at k n m)) (λ j p w. from_file changed i r d read here u e is j p w);
  }
