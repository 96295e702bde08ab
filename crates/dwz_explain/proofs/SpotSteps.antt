-- Where tops stand: in the file of their row, at the entry that the file's index gives them.
use Rattle.std.proofs.Common.{◌≡◌, ℕ, suc, ◌+◌, ◌-◌, ◌<◌, List, [], ◌∷◌, ◌++◌, length, drop, get_or, Some, slice_get, refl, sym, ap, subst, ◌∙◌, arith}
use Rattle.std.proofs.lemmas.Option.{slice_get-get_or}
use Rattle.dwz_def_reading.specs.Documents.{Doc, DwUnit, Entries, entries_map}
use Rattle.dwz_def_reading.specs.Files.{around_of}
use Rattle.dwz_def_reading.specs.Lists.{In}
use Rattle.dwz_def_reading.specs.Meanings.{scope_of}
use Rattle.dwz_def_reading.specs.Trees.{End, Entry}
use Rattle.dwz_def_reading.specs.Units.{RawUnit}
use Rattle.dwz_def_reading.proofs.ListFacts.{got_below, got_in, got_there, same_got}
use Rattle.dwz_def_reading.proofs.MeaningUnits.{entries_agree}
use Rattle.dwz_model.proofs.Members.{each_in}
use Rattle.dwz_model.specs.Lists.{NoneTwice}
use Rattle.dwz_def_tops.specs.Seen.{IsPartial}
use Rattle.dwz_def_tops.specs.Spots.{EntryName, Labelled, LabelledTop, Top, Within, spots_from, tops_of, units_of}
use Rattle.dwz_def_tops.proofs.NameLists.{spots_firsts}
use Rattle.dwz_def_tops.proofs.TopNumbers.{top_at, top_there, tops_numbers}
use Rattle.dwz_def_tops.specs.UnitNames.{name_of_place}
use Rattle.dwz_def_reading.specs.Places.{Place, at_file}
use Rattle.dwz_def_tops.proofs.OldNames.{tops_labelled}
use Rattle.dwz_def_explain.specs.Texts.{place_of_name}
use Rattle.dwz_def_explain.specs.What.{whole_top}
use Rattle.dwz_graph.specs.declared.file.File.{File}
use Rattle.dwz_graph.specs.declared.index.TopEntry.{TopEntry}
use Rattle.dwz_graph.specs.Files.{AreKept, docs_of}
use Rattle.dwz_graph.specs.Index.{Index}
use Rattle.dwz_graph.specs.Indexed.{AreIndexes}
use Rattle.dwz_graph.proofs.TopNameLemmas.{read_whole}
use Rattle.dwz_groups.specs.declared.tops.TopRow.{TopRow}
use Rattle.dwz_groups.specs.declared.tops.Tops.{Tops}
use Rattle.dwz_label_differences.specs.Told.{EachNode}
use Rattle.dwz_graph.specs.Across.{IsFileAmong, IsTopOf, file_tops, name_at}
use Rattle.dwz_graph.proofs.FileCounts.{found}
use Rattle.dwz_graph.proofs.FileEntries.{gives_top}
use Rattle.dwz_graph.proofs.FileWalk.{is_among}
use Rattle.dwz_graph.specs.Standing.{StandsAt}
use Rattle.dwz_move_files.specs.Outlines.{IsOutline}
use Rattle.dwz_unit.specs.Rows.{rows_below, rows_of, units_of as raw_units}
use Rattle.dwz_explain.specs.Reached.{HasEntry, HoldsTop, IsEntryName, Shows}
use Rattle.dwz_explain.specs.Shown.{HasSubtree, MeansSubtree}
use Rattle.dwz_explain.proofs.ChildSteps.{shown_there}
use Rattle.dwz_explain.proofs.PlaceNames.{one_place, place_is, within_entry}
use Rattle.dwz_explain.proofs.RowPlaces.{place_of_row, row_of_top, rows_many}

-- ---- names of the entries of a top

labelled_names : (n : ℕ) (path : List ℕ) (i : ℕ) (f : Entries EntryName) → Labelled (Within n) path i f → EachNode (λ e. IsEntryName e.at) f
labelled_names n path i End h = tt
labelled_names n path i (Entry e f k) h =
    ((λ j q. within_entry n (i ∷ path) j (sym h.0 ∙ q)), labelled_names n (i ∷ path) 0 f h.1, labelled_names n path (suc i) k h.2)

module _ (contents : List (List ℕ)) (file : ℕ) (bytes : List ℕ) (f : File) (x : Index) (among : IsFileAmong contents file bytes f x) where
  abbrev raw : List RawUnit
  raw = raw_units f.units

  abbrev doc : Doc ℕ
  doc = among.kept.read.doc

  abbrev name : ℕ → EntryName
  name = name_at x.starts doc

  -- a top has its own name, as have all entries below it
  labelled : (t : Top) → In t (file_tops x.starts file doc) → LabelledTop t
  labelled t there =
      let whole = read_whole among.kept.limits bytes raw doc among.kept.read.means in
      let kinds = λ (u : DwUnit ℕ) (is : In u doc.units). each_in (λ (v : DwUnit ℕ). IsPartial v.kind → ⊥) u doc.units whole is in
      let spots = spots_from x.starts.unit x.starts.top doc.units in
      let once = subst NoneTwice (sym (spots_firsts x.starts.unit x.starts.top doc.units kinds)) among.once in
      tops_labelled spots once file x.starts.unit x.starts.top doc.units kinds (λ y is. is) t there

  -- the entries of a top, from its own on
  top_list : (t : Top) (first end : ℕ) → StandsAt (around_of bytes raw) name raw doc.units file x.starts.unit t first end → (s : HasSubtree raw first) × (s.end ≡ end)
  top_list t first end s =
      let h = s.stands.top in
      let to = s.to in (
        record {
          end = end;
          top = h.e;
          children = h.c;
          is = record {
            unit = s.stands.n;
            depth = h.p.depth;
            after = h.after;
            rows = subst (λ (k : ℕ). drop k (rows_of raw) ≡ rows_below (Entry h.e h.c End) s.stands.n (record { before = k; depth = h.p.depth }) ++ h.after) s.from h.stand;
            ends = omega arith;
          };
        },
        refl,
      )

  top_means : (t : Top) (first end : ℕ) (s : StandsAt (around_of bytes raw) name raw doc.units file x.starts.unit t first end)
      → MeansSubtree (scope_of (around_of bytes raw) s.stands.u) name raw first (whole_top t)
  unfolding entries_map top_list
  top_means t first end s =
      let h = s.stands.top in
      let l = top_list t first end s in
      record {
        end = end;
        is = record {
          list = Entry h.e h.c End;
          meant = Entry h.d h.g End;
          stands = l.0.is;
          means = ((entries_agree (scope_of (around_of bytes raw) s.stands.u) (Entry h.e h.c End)).ok (Entry h.d h.g End)).0 h.means;
          are = λ i. Entry (h.node i) (h.below i) End;
        };
      }

-- ---- a top of the files

module _ (contents : List (List ℕ)) (files : List File) (indexes : List Index) (kept : AreKept contents files) (indexed : AreIndexes (docs_of contents) indexes) where
  abbrev docs : List (Doc ℕ)
  docs = docs_of contents

  abbrev all : List Top
  all = tops_of (units_of docs)

  -- the top with a number, and what the index of its file gives it
  pub record OfFile (file n : ℕ) (t : Top) : Type 0 where
    pub bytes : List ℕ
    pub f : File
    pub x : Index
    pub e : TopEntry
    pub got : slice_get files file ≡ Some f
    pub index : slice_get indexes file ≡ Some x
    pub entry : slice_get x.tops (n - x.starts.top) ≡ Some e
    pub among : IsFileAmong contents file bytes f x
    pub is : IsTopOf contents file bytes f x among.kept.read.doc (n - x.starts.top) e t

  pub of_file : (file n : ℕ) (t : Top) → In t all → t.number ≡ n → HoldsTop files indexes file n → OfFile file n t
  of_file file n t there number h =
      let k = n - h.x.starts.top in
      let e = got_there h.x.tops k h.to in
      let a = is_among contents files indexes file h.f h.x kept indexed h.got h.index in
      let g = gives_top contents file a.bytes h.f h.x a.is k e.0 e.1 in
      let from = h.from in
      let count : h.x.starts.top + k ≡ t.number = omega arith in
      let same : g.top ≡ t = same_got all t.number g.top t (ap (slice_get all) (sym count) ∙ g.top_is.there) (top_there (units_of docs) t there) in
      record {
        bytes = a.bytes;
        f = h.f;
        x = h.x;
        e = e.0;
        got = h.got;
        index = h.index;
        entry = e.1;
        among = a.is;
        is = subst (λ (w : Top). IsTopOf contents file a.bytes h.f h.x a.is.kept.read.doc k e.0 w) same g.top_is;
      }

  top_label : (file n : ℕ) (t : Top) → OfFile file n t → LabelledTop t
  top_label file n t o = labelled contents file o.bytes o.f o.x o.among t (got_in (file_tops o.x.starts file o.among.kept.read.doc) (n - o.x.starts.top) t o.is.of_file)

  -- ---- by its row

  module _ (tops : Tops) (o : IsOutline docs tops) where
    pub row_got : (rows : List TopRow) (n : ℕ) (d : TopRow) → rows ≡ tops.rows → n < length all → slice_get tops.rows n ≡ Some (get_or rows n d)
    row_got rows n d same lt =
        let many = rows_many docs tops o in
        let long = ap (λ (w : List TopRow). length w) same in
        ap (λ (w : List TopRow). slice_get w n) (sym same) ∙ slice_get-get_or rows n d (omega (arith, many, long, lt))

    -- some file holds it, and there it stands at the place of its row
    held : (n : ℕ) → n < length all → (file : ℕ) × HoldsTop files indexes file n
    held n lt =
        let w = found contents files indexes n kept indexed lt in
        let low = got_below w.x.tops w.k w.e w.top_is in
        let number = w.number in
        (w.file, record { f = w.f; x = w.x; got = w.file_is; index = w.index_is; from = omega arith; to = omega arith })

    row_there : (file n : ℕ) (t : Top) (row : TopRow) → In t all → t.number ≡ n → HoldsTop files indexes file n → slice_get tops.rows n ≡ Some row → row.place.file ≡ file
    row_there file n t row there number h got =
        let w = of_file file n t there number h in
        let raw = raw_units w.f.units in
        let r = shown_there raw w.e.entry w.is.within in
        let here : name_of_place docs (at_file file r.0.at) ≡ Within t.number [] = w.among.names r.0.at ∙ w.is.named r.0 r.1 in
        let own = row_of_top docs tops o t there in
        let same_row : own.row ≡ row = same_got tops.rows n own.row row (ap (slice_get tops.rows) (sym number) ∙ own.there) got in
        let same = one_place docs (place_of_row own.row) (at_file file r.0.at) (Within t.number []) (within_entry t.number []) own.named here in
        ap (λ (y : TopRow). y.place.file) (sym same_row) ∙ ap (λ (p : Place). p.file) same

    pub row_holds : (n : ℕ) (row : TopRow) → n < length all → slice_get tops.rows n ≡ Some row → HoldsTop files indexes row.place.file n
    row_holds n row lt got =
        let h = held n lt in
        let t = top_at 0 all n (tops_numbers (units_of docs)) (omega arith) (omega arith) in
        subst (λ (k : ℕ). HoldsTop files indexes k n) (sym (row_there h.0 n t.0 row t.1 t.2 h.1 got)) h.1

    pub row_place : (n : ℕ) (row : TopRow) → slice_get tops.rows n ≡ Some row → (t : Top) → In t all → t.number ≡ n → place_of_name docs t.node.at ≡ row.place.offset
    row_place n row got t there number =
        let lt : n < length all = subst (λ (k : ℕ). k < length all) number (got_below all t.number t (top_there (units_of docs) t there)) in
        let h = held n lt in
        let label = top_label h.0 n t (of_file h.0 n t there number h.1) in
        let own = row_of_top docs tops o t there in
        let same_row : own.row ≡ row = same_got tops.rows n own.row row (ap (slice_get tops.rows) (sym number) ∙ own.there) got in
        ap (place_of_name docs) label.0 ∙ place_is docs (place_of_row own.row) (Within t.number []) (within_entry t.number []) own.named ∙ ap (λ (y : TopRow). y.place.offset) same_row

  -- ---- its entry

  abbrev pub GivesEntry : ℕ → ℕ → TopEntry → Type 0
  GivesEntry file n e = (x : Index) → slice_get indexes file ≡ Some x → slice_get x.tops (n - x.starts.top) ≡ Some e

  pub top_shows : (file n : ℕ) (e : TopEntry) → HoldsTop files indexes file n → GivesEntry file n e → (t : Top) → In t all → t.number ≡ n
      → Shows contents files (record { file = file; entry = e.entry }) (whole_top t)
  top_shows file n e h gives t there number =
      let w = of_file file n t there number h in
      let raw = raw_units w.f.units in
      let same : w.e ≡ e = same_got w.x.tops (n - w.x.starts.top) w.e e w.entry (gives w.x w.index) in
      let r = shown_there raw w.e.entry w.is.within in
      let s = w.is.stands r.0 r.1 in
      let label = top_label file n t w in
      subst (λ (y : TopEntry). Shows contents files (record { file = file; entry = y.entry }) (whole_top t)) same (record {
        bytes = w.bytes;
        f = w.f;
        index = w.x;
        got = w.got;
        among = w.among;
        unit = s.stands.u;
        means = top_means contents file w.bytes w.f w.x w.among t w.e.entry r.0.end s;
        named = ((λ j q. within_entry t.number [] j (sym label.0 ∙ q)), labelled_names t.number [] 0 t.below label.1);
      })

  pub top_has : (file n : ℕ) (e : TopEntry) → n < length all → HoldsTop files indexes file n → GivesEntry file n e → HasEntry files (record { file = file; entry = e.entry })
  top_has file n e lt h gives =
      let t = top_at 0 all n (tops_numbers (units_of docs)) (omega arith) (omega arith) in
      let w = of_file file n t.0 t.1 t.2 h in
      let raw = raw_units w.f.units in
      let same : w.e ≡ e = same_got w.x.tops (n - w.x.starts.top) w.e e w.entry (gives w.x w.index) in
      let r = shown_there raw w.e.entry w.is.within in
      let s = w.is.stands r.0 r.1 in
      subst (λ (y : TopEntry). HasEntry files (record { file = file; entry = y.entry })) same
      (record { f = w.f; got = w.got; has = (top_list contents file w.bytes w.f w.x w.among t.0 w.e.entry r.0.end s).0 })
