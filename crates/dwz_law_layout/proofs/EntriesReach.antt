-- What stands for an entry of a file that is written stands in the unit that owns it, and in this file or in the common one.
use Rattle.std.proofs.Common.{◌≡◌, ℕ, ◌+◌, ◌-◌, ◌<◌, Bool, true, false, List, length, Some, None, slice_get, slice_index_or, refl, sym, ap, subst, ◌∙◌, inl, inr, arith}
use Rattle.dwz_def_reading.specs.Lists.{In}
use Rattle.dwz_def_reading.specs.Units.{RawUnit, entries_in}
use Rattle.dwz_def_reading.proofs.ListFacts.{get_first, got_below, got_in, got_there, in_right, same_got}
use Rattle.dwz_def_reading.specs.Documents.{unit_map}
use Rattle.dwz_def_tops.specs.Spots.{EntryName, Top, Within, in_file, tops_among, tops_of}
use Rattle.dwz_def_tops.proofs.Tops.{one_top}
use Rattle.dwz_graph.specs.declared.index.TopEntry.{TopEntry}
use Rattle.dwz_graph.specs.Index.{Index}
use Rattle.dwz_graph.specs.Names.{top_in}
use Rattle.dwz_graph.proofs.TopLemmas.{many}
use Rattle.dwz_graph.specs.Indexed.{first_starts}
use Rattle.dwz_def_images.specs.Homes.{Local}
use Rattle.dwz_def_images.specs.Units.{changes, common_units, kept_unit, kept_units, out_units, partial_units}
use Rattle.dwz_def_readback.proofs.WithinLemmas.{kept_to}
use Rattle.dwz_unit.specs.Rows.{EntryRow, rows_of, units_of as raw_units}
use Rattle.dwz_graph.specs.Resolved.{place_at}
use Rattle.dwz_unit.proofs.RowsFound.{row_there}
use Rattle.dwz_graph.specs.declared.file.File.{File}
use Rattle.dwz_graph.proofs.FileCounts.{are_many}
use Rattle.dwz_graph.proofs.FileEntries.{all_entries, gives_top}
use Rattle.dwz_graph.proofs.OwnNames.{Own, names_own}
use Rattle.dwz_graph.specs.EntryCounts.{starts_from}
use Rattle.dwz_graph.specs.AllNames.{all_names}
use Rattle.dwz_layout_numbers.specs.Owners.{StandsIn, files_written as units_after}
use Rattle.dwz_layout_numbers.proofs.OnceNames.{one_entry}
use Rattle.dwz_layout_numbers.proofs.OwnerKeys.{unit_kept}
use Rattle.dwz_layout_numbers.proofs.OwnerLemmas.{own_name}
use Rattle.dwz_layout_numbers.proofs.Paths.{paths_of}
use Rattle.dwz_layout.specs.declared.known.EntryTable.{EntryTable}
use Rattle.dwz_layout.specs.Known.{owner_of}
use Rattle.dwz_law_layout.specs.Facts.{AreFacts, RunFacts, docs, every, move, owners_beside, units, units_written, written}
use Rattle.dwz_law_layout.specs.Listed.{AreListed, TextsAt}
use Rattle.dwz_law_layout.proofs.FileEntries.{IsHere, here, name_there, named, named_all, named_every, names}
use Rattle.dwz_law_layout.proofs.ImagesStand.{IsNear, in_units, moved_near, old, spot_cases, top_changes}
use Rattle.dwz_law_layout.proofs.OwnedEntries.{entry_owned, found_names, name, names_same, unit_there}
use Rattle.dwz_law_layout.proofs.Walks.{behind_owner, in_file as file_in}
use Rattle.dwz_law_layout.specs.Beside.{Beside}
use Rattle.dwz_law_layout.proofs.EveryNames.{IsBehind, every_cases}
use Rattle.dwz_def_images.specs.Moves.{image_in}

-- ---- the file of a top

-- a top that an entry of the file is in, by its name, is of the file
top_file : {beside : Beside} (f : RunFacts beside) (k : EntryTable) (n : ℕ) (x : File) (index : Index) (o : IsHere f k n x index) → (i top : ℕ) (path : List ℕ) → named f k n x index o i ≡ Within top path
    → (t : Top) → In t (tops_of (units f)) → t.number ≡ top → t.file ≡ n
top_file f k n x index o i top path e t is number =
    let doc = o.among.kept.read.doc in
    let first = index.starts.top in
    let own : Own index.starts.unit (length doc.units) index.starts.top (tops_among doc.units) (Within top path) =
    subst (Own index.starts.unit (length doc.units) index.starts.top (tops_among doc.units)) e (names_own index.starts.unit index.starts.top doc.units (place_at (raw_units x.units) i)) in
    let low = own.0 in
    let high = own.1 in
    let count : length index.tops ≡ tops_among doc.units = ap (λ (w : List TopEntry). length w) o.among.index.tops.tops_are ∙ many index.starts 0 doc.units in
    let entry = got_there index.tops (top - first) (omega (arith, low, high, count)) in
    let g = gives_top f.contents n o.bytes x index o.among (top - first) entry.0 entry.1 in
    let its = g.top_is.number in
    let same : t ≡ g.top = one_top (units f) t g.top is (got_in (tops_of (units f)) (first + (top - first)) g.top g.top_is.there) (omega (arith, number, its, low)) in
    subst (λ (w : Top). w.file ≡ n) (sym same) g.top_is.file_is

-- ---- an entry of a file that is written

module _ {beside : Beside} (f : RunFacts beside) (t : TextsAt) (k : EntryTable) (facts : AreFacts f) (listed : AreListed f t k) where
  -- the name stands in the unit that owns the entry with that number, and in the file, or in the common one
  pub record Reaches (n : ℕ) (s : EntryName) (number : ℕ) : Type 0 where
    pub stands : StandsIn (units_written f) s (owner_of k number)
    pub near : IsNear f facts n s

  module _ (n : ℕ) (x : File) (index : Index) (o : IsHere f k n x index) (changed : changes (move f) (units f) n ≡ true) where
    abbrev raw : List RawUnit
    raw = raw_units x.units

    abbrev Stays : EntryName → Type 0
    Stays s = (v : Top) (path : List ℕ) → In v (tops_of (units f)) → s ≡ Within v.number path → In path (paths_of v.below) × ((move f).gone v.number ≡ false)

    kept_near : (i : ℕ) (r : EntryRow) (s : EntryName) → slice_get (rows_of raw) i ≡ Some r → slice_get (names f k n x index o) i ≡ Some s → image_in (move f) s ≡ s → Stays s
        → IsNear f facts n s
    unfolding out_units
    kept_near i r s row_is name_is fixed stays =
        let m = move f in
        let name_found : slice_get (found_names f t k facts listed n x index o) i ≡ Some s = ap (λ (w : List EntryName). slice_get w i) (names_same f t k facts listed n x index o) ∙ name_is in
        let u = unit_there f t k facts listed n x index o i r s row_is name_found in
        let w = u.its in
        let unit = in_file n (unit_map (name f t k facts listed n x index o) w.v) in
        let has = unit_kept (units f) m (old f facts) n (name f t k facts listed n x index o) u.number w.first w.v u.nth (λ v is. o.found.tops v (w.tops v is)) s fixed stays w.own in
        inr (in_units (kept_unit m (units f) u.number unit) (out_units m (units f) n) s
        (in_right (kept_unit m (units f) u.number unit) (partial_units m (Local n) 0 m.parts) (kept_units m (units f) n 0 (units f)) (kept_to m (units f) n 0 (units f) u.number unit u.nth refl)) has)

    -- what stands for the entry with that number, by its name
    abbrev After : ℕ → EntryName
    After i = image_in (move f) (named f k n x index o i)

    -- an entry that stays
    itself : (i : ℕ) → i < entries_in raw → After i ≡ named f k n x index o i → Stays (named f k n x index o i)
        → (number : ℕ) → slice_get (all_names (every f)) number ≡ Some (After i) → Reaches n (After i) number
    itself i lt fixed stays number e =
        let s = named f k n x index o i in
        let r = row_there raw i lt in
        let there = name_there f k n x index o i lt in
        let here_it : number ≡ o.start + i = one_entry (every f) s number (o.start + i) (e ∙ ap (λ (w : EntryName). Some w) fixed) (named_every f k n x index o i lt) in
        let stands = entry_owned f t k facts listed n x index o changed i r.0 s r.1 there fixed in
        record {
          stands = subst (λ (w : ℕ). StandsIn (units_written f) (After i) (owner_of k w)) (sym here_it)
              (subst (λ (w : EntryName). StandsIn (units_written f) w (owner_of k (o.start + i))) (sym fixed) stands);
          near = subst (IsNear f facts n) (sym fixed) (kept_near i r.0 s r.1 there fixed stays);
        }

    -- what stands for an entry of a top that moves has its owner in its own file, if it is of a file
    moved_owned : (u : Top) → In u (tops_of (units f)) → (move f).gone u.number ≡ true → (path : List ℕ) (number : ℕ)
        → slice_get (all_names (docs f)) number ≡ Some (Within ((move f).stand u.number) path)
        → StandsIn (units_written f) (Within ((move f).stand u.number) path) (owner_of k number)
    moved_owned u is gone path number e =
        let stand = (move f).stand in
        let s = Within (stand u.number) path in
        let w = file_in first_starts (docs f) f.indexes facts.indexed.end facts.indexed.are 0 number s e in
        let many = are_many f.contents f.files f.indexes facts.kept facts.indexed in
        let files = many.0 in
        let indexes = many.1 in
        let low = got_below f.indexes w.file w.index w.index_is in
        let y = got_there f.files w.file (omega (arith, files, indexes, low)) in
        let p = here f t k facts listed w.file y.0 w.index y.1 w.index_is in
        let begins : p.start ≡ w.start = same_got (starts_from 0 f.indexes) w.file p.start w.start p.start_is w.start_is in
        let at = w.is in
        let number_is : number ≡ p.start + w.entry = omega (arith, at, begins) in
        let within = w.within in
        let entries = all_entries f.contents w.file p.bytes y.0 w.index p.among in
        let lt : w.entry < entries_in (raw_units y.0.units) = omega (arith, within, entries) in
        let own = named_all f k w.file y.0 w.index p w.entry lt in
        let its = named f k w.file y.0 w.index p w.entry in
        let again = ap (slice_get (all_names (docs f))) (sym number_is) ∙ e in
        let is_s : its ≡ s = same_got (all_names (docs f)) (p.start + w.entry) its s own again in
        let r = own_name (docs f) number (stand u.number) path e in
        let its_file : r.0.file ≡ w.file = top_file f k w.file y.0 w.index p w.entry (stand u.number) path is_s r.0 r.1 r.2 in
        let goes : (move f).gone r.0.number ≡ true = facts.goes.leaves u r.0 is r.1 r.2 gone in
        let is_changed : changes (move f) (units f) w.file ≡ true = ap (changes (move f) (units f)) (sym its_file) ∙ top_changes f facts r.0 r.1 goes in
        let fixed : image_in (move f) s ≡ s = ap (λ (v : ℕ). Within v path) (facts.goes.twice u is gone) in
        let row = row_there (raw_units y.0.units) w.entry lt in
        let stands = entry_owned f t k facts listed w.file y.0 w.index p is_changed w.entry row.0 s row.1 (name_there f k w.file y.0 w.index p w.entry lt
        ∙ ap (λ (v : EntryName). Some v) is_s) fixed in
        subst (λ (v : ℕ). StandsIn (units_written f) s (owner_of k v)) (sym number_is) stands

    -- and in the common file, if it is of that
    behind_reached : (file number top : ℕ) (path : List ℕ) → IsBehind f number (Within top path) → Reaches file (Within top path) number
    behind_reached file number top path b =
        let s = Within top path in
        let own = facts.behind.stand b.j top path b.is in
        let owner : owner_of k number ≡ slice_index_or (owners_beside f) b.j 0 = ap (owner_of k) b.at ∙ behind_owner f t k facts listed b.j in
        record {
          stands = subst (StandsIn (units_written f) s) (sym owner) (record {
            unit = own.unit;
            is = get_first (common_units (move f)) (units_after (move f) (units f) 0 (written f)) (slice_index_or (owners_beside f) b.j 0) own.unit own.is;
            has = own.has;
          });
          near = inl (in_units own.unit (common_units (move f)) s (got_in (common_units (move f)) (slice_index_or (owners_beside f) b.j 0) own.unit own.is) own.has);
        }

    pub reached : (i : ℕ) → i < entries_in raw → (number : ℕ) → slice_get (all_names (every f)) number ≡ Some (image_in (move f) (named f k n x index o i))
        → Reaches n (image_in (move f) (named f k n x index o i)) number
    reached i lt number e = elim (spot_cases (named f k n x index o i)) [
      | inl c ↦ in_top c.0 c.1 c.2
      | inr c ↦ itself i lt (c.1 (move f)) (λ v path is e'. absurd (let no : None ≡ Some v.number = sym c.0 ∙ ap top_in e' in cc)) number e
    ]
      where
        in_top : (top : ℕ) (path : List ℕ) → named f k n x index o i ≡ Within top path → Reaches n (After i) number
        in_top top path is = by ((move f).gone own.0.number) refl where
          own : (u : Top) × In u (tops_of (units f)) × (u.number ≡ top) × In path (paths_of u.below)
          own = own_name (docs f) (o.start + i) top path (named_all f k n x index o i lt ∙ ap (λ (v : EntryName). Some v) is)

          is_own : named f k n x index o i ≡ Within own.0.number path
          is_own = is ∙ ap (λ (v : ℕ). Within v path) (sym own.2)

          image_is : After i ≡ Within ((move f).stand own.0.number) path
          image_is = ap (image_in (move f)) is_own

          at : slice_get (all_names (every f)) number ≡ Some (Within ((move f).stand own.0.number) path)
          at = e ∙ ap (λ (v : EntryName). Some v) image_is

          moved : (move f).gone own.0.number ≡ true → Reaches n (Within ((move f).stand own.0.number) path) number
          moved gone = elim (every_cases f number (Within ((move f).stand own.0.number) path) at) [
            | inl mine ↦
                (let r = own_name (docs f) number ((move f).stand own.0.number) path mine in
                let file = top_file f k n x index o i top path is own.0 own.1 own.2 in
                record {
                  stands = moved_owned own.0 own.1 gone path number mine;
                  near = subst (λ (w : ℕ). IsNear f facts w (Within ((move f).stand own.0.number) path)) file (moved_near f facts own.0 own.1 gone r.0 r.1 r.2 path r.3);
                })
            | inr b ↦ behind_reached n number ((move f).stand own.0.number) path b
          ]

          by : (b : Bool) → (move f).gone own.0.number ≡ b → Reaches n (After i) number
          by false stays =
              itself i lt (image_is ∙ ap (λ (v : ℕ). Within v path) (facts.goes.stays own.0.number stays) ∙ sym is_own) (λ v p is_v e'. (
              let both : Within own.0.number path ≡ Within v.number p = sym is_own ∙ e' in
              let one : own.0.number ≡ v.number = cc in
              let paths : path ≡ p = cc in
              let same : own.0 ≡ v = one_top (units f) own.0 v own.1 is_v one in (
                subst (λ (w : Top). In p (paths_of w.below)) same (subst (λ (w : List ℕ). In w (paths_of own.0.below)) paths own.3),
                ap (move f).gone (sym one) ∙ stays,
              ))) number e
          by true gone = subst (λ (v : EntryName). Reaches n v number) (sym image_is) (moved gone)
