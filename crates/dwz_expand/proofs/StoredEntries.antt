-- What is stored of the entry with a number: its place, and its attributes.
use Rattle.std.proofs.Common.{◌≡◌, ℕ, ◌-◌, ◌<◌, ◌≤◌, List, [], ◌∷◌, length, Option, Some, None, Ok, slice_get, refl, sym, ap, subst, ◌∙◌, arith, inl, inr}
use Rattle.std.specs.Prelude.{unwrap_or}
use Rattle.std.proofs.lemmas.List.{length-map}
use Rattle.dwz_model.specs.Lists.{In}
use Rattle.dwz_model.proofs.ListFacts.{got_in, in_cases, in_left, in_right}
use Rattle.dwz_def_reading.specs.Documents.{Attr, DwUnit, Node, attr_map, node_map}
use Rattle.dwz_def_reading.specs.Entries.{RawAttr, RawEntry}
use Rattle.dwz_def_reading.specs.Meanings.{Around, MeaningContext, places_in, places_of, scope_of, without_siblings}
use Rattle.dwz_def_reading.specs.Meant.{attr_with, attrs_meaning, meaning, units_meaning, with_attr}
use Rattle.dwz_def_reading.specs.Reading.{◌>>=◌}
use Rattle.dwz_def_reading.specs.Places.{Place, at_file}
use Rattle.dwz_def_reading.specs.Trees.{End, Entry, Forest}
use Rattle.dwz_def_reading.specs.Units.{RawUnit, entries_in}
use Rattle.dwz_def_reading.proofs.PartLemmas.{bind_ok}
use Rattle.dwz_def_expand.specs.OneFile.{FileRead, IsStoredAmong, IsStoredIn, OneFile, around, part, stored_attr, with_scope}
use Rattle.dwz_def_expand.proofs.StoredLemmas.{attr_stored}
use Rattle.dwz_expand_sources.specs.Index.{ListedEntry, listed_units}
use Rattle.dwz_check_labels.proofs.EntryLemmas.{row_of}
use Rattle.dwz_graph.specs.Named.{entries_of, preorder}
use Rattle.dwz_graph.specs.Surroundings.{behind_own}
use Rattle.dwz_graph.proofs.TreeLemmas.{node_attrs}
use Rattle.dwz_label_entries.proofs.AttrsLemmas.{entry_in}
use Rattle.dwz_unit.specs.Rows.{EntryRow, rows_of}
use Rattle.dwz_expand_layout.specs.Lines.{Line}
use Rattle.dwz_expand_passes.specs.declared.files.SourceFile.{SourceFile}
use Rattle.dwz_expand_passes.specs.Files.{KnowsCommon, around_beside, common_of, raw_in}
use Rattle.dwz_expand_passes.proofs.EntrySteps.{row_place}
use Rattle.dwz_expand_passes.proofs.FitLemmas.{common_source, got_first_entry, got_second_entry}
use Rattle.dwz_expand_passes.proofs.PlacesSaid.{place_said}
use Rattle.dwz_expand_passes.proofs.LineSteps.{node_there}
use Rattle.dwz_expand_passes.specs.declared.new_file.NewFile.{NewFile}
use Rattle.dwz_expand_passes.specs.Lined.{all_lines}
use Rattle.dwz_expand.specs.OneKnown.{stands_of}
use Rattle.dwz_expand.specs.Units.{HasRaw, IsOfOne}
use Rattle.dwz_expand.proofs.EntryPlaces.{common_at, own_at, unit_place}

-- The entry of a line is stored in that row and that unit of the file with a number; it has as many values as attributes.
pub record IsEntryOf (f : OneFile) (place : ℕ → Place) (number : ℕ) (l : Line ℕ) (row : EntryRow) (u : RawUnit) : Type 0 where
  pub at : place l.node.at ≡ at_file number row.entry.at
  pub stored : (index : ℕ) → stored_attr f (place l.node.at) index ≡ with_scope (scope_of (around f number) u) (slice_get (without_siblings row.entry.attrs) index)
  pub many : length l.node.attrs ≡ length (without_siblings row.entry.attrs)

-- ---- entries of units

among_stored : (g : Forest RawEntry) (e : RawEntry) → In e (preorder g) → IsStoredAmong e g
unfolding preorder
among_stored End e h = absurd h
among_stored (Entry d c n) e (inl h) = inl h
among_stored (Entry d c n) e (inr h) = elim (in_cases e (preorder c) (preorder n) h) [ inl a ↦ inr (inl (among_stored c e a)) | inr b ↦ inr (inr (among_stored n e b)) ]

is_stored : (u : RawUnit) (e : RawEntry) → In e (entries_of u) → IsStoredIn e u
is_stored u e (inl h) = inl h
is_stored u e (inr h) = inr (among_stored u.below e h)

place_among : (g : Forest RawEntry) (e : RawEntry) → IsStoredAmong e g → In e.at (places_in g)
unfolding places_in
place_among End e h = absurd h
place_among (Entry d c n) e (inl h) = inl (ap (λ (w : RawEntry). w.at) h)
place_among (Entry d c n) e (inr (inl h)) = inr (in_left e.at (places_in c) (places_in n) (place_among c e h))
place_among (Entry d c n) e (inr (inr h)) = inr (in_right e.at (places_in c) (places_in n) (place_among n e h))

place_in : (u : RawUnit) (e : RawEntry) → IsStoredIn e u → In e.at (places_of u)
place_in u e (inl h) = inl (ap (λ (w : RawEntry). w.at) h)
place_in u e (inr h) = inr (place_among u.below e h)

as_many : (s : MeaningContext ℕ) (raw : List RawAttr) (attrs : List (Attr ℕ)) → attrs_meaning s raw ≡ Ok attrs → length attrs ≡ length raw
unfolding attrs_meaning
as_many s [] attrs e = let z : [] ≡ attrs = cc in sym (ap (λ (w : List (Attr ℕ)). length w) z)
as_many s (a ∷ raw) attrs e =
    let x = bind_ok (meaning s a) (λ v. attrs_meaning s raw >>= with_attr a v) attrs e in
    let y = bind_ok (attrs_meaning s raw) (with_attr a x.0) attrs x.2 in
    let z : attr_with a x.0 ∷ y.0 ≡ attrs = cc in
    let l : length (attr_with a x.0 ∷ y.0) ≡ length attrs = ap (λ (w : List (Attr ℕ)). length w) z in
    omega (arith, l, as_many s raw y.0 y.1)

-- the values of a row that is said
row_many : (a : Around ℕ) (raw : List RawUnit) (said : List (DwUnit ℕ)) (i : ℕ) (d : ListedEntry ℕ) (row : EntryRow) → units_meaning a raw ≡ Ok said
    → slice_get (listed_units said) i ≡ Some d → slice_get (rows_of raw) i ≡ Some row → length d.0.attrs ≡ length (without_siblings row.entry.attrs)
row_many a raw said i d row means there found =
    let o = row_of a raw said i d means there in
    let same : o.row ≡ row = (let both : Some o.row ≡ Some row = sym o.found ∙ found in cc) in
    let attrs = node_attrs (scope_of a o.u) o.row.entry d.0 o.means in
    as_many (scope_of a o.u) (without_siblings o.row.entry.attrs) d.0.attrs attrs.0 ∙ ap (λ (r : EntryRow). length (without_siblings r.entry.attrs)) same

-- ---- entries of the file and of its common one

module _ (f : OneFile) (x : NewFile) (k : IsOfOne f x) (i : ℕ) (l : Line ℕ) (found : slice_get (all_lines k.w) i ≡ Some l) where
  stored_at : (number : ℕ) (raw : List RawUnit) (row : EntryRow) (u : RawUnit) → raw ≡ (part f number).raw → In u raw → In row.entry (entries_of u)
      → k.place l.node.at ≡ at_file number row.entry.at → (index : ℕ)
      → stored_attr f (k.place l.node.at) index ≡ with_scope (scope_of (around f number) u) (slice_get (without_siblings row.entry.attrs) index)
  stored_at number raw row u is there entry at index =
      ap (λ (p : Place). stored_attr f p index) at
      ∙ attr_stored f k.reads number u row.entry (subst (λ (us : List RawUnit). In u us) is there) (is_stored u row.entry entry) index

  pub own_entry : (row : EntryRow) (u : RawUnit) → i < entries_in (raw_in x.own) → slice_get (rows_of (raw_in x.own)) i ≡ Some row → slice_get (raw_in x.own) row.unit ≡ Some u
      → IsEntryOf f k.place 0 l row u
  own_entry row u lt got is_unit =
      let raw = raw_in x.own in
      let around = around_beside x.own (common_of x.common) in
      let means = k.says.own.means in
      let d = node_there k.w i l found in
      let listed : slice_get (listed_units k.w.own) i ≡ Some d.0 = got_first_entry k.w.own k.w.common raw around means i d.0 lt d.1 in
      let entry : In row.entry (entries_of u) = entry_in raw i row.unit row u got refl is_unit in
      let there : In u raw = got_in raw row.unit u is_unit in
      let place : l.node.at ≡ row.entry.at =
      sym (ap (λ (n : Node ℕ). n.at) d.2) ∙ place_said around raw k.w.own means i d.0 listed ∙ row_place raw i row got in
      let at : k.place l.node.at ≡ at_file 0 row.entry.at =
      ap k.place place ∙ own_at f x k row.entry.at (unit_place raw u row.entry.at there (place_in u row.entry (is_stored u row.entry entry))) in
      record {
        at = at;
        stored = stored_at 0 raw row u (sym k.own_raw) there entry at;
        many = sym (ap (λ (n : Node ℕ). length n.attrs) d.2) ∙ row_many around raw k.w.own i d.0 row means listed got;
      }

  pub part_raw : (o : Option FileRead) (c : SourceFile) → f.common ≡ o → HasRaw o (Some c) → raw_in c ≡ (part f 1).raw
  part_raw None c is has = absurd has
  part_raw (Some d) c is has = sym has ∙ sym (ap (λ (o : Option FileRead). (unwrap_or o f.file).raw) is)

  pub common_entry : (c : SourceFile) (row : EntryRow) (u : RawUnit) → x.common ≡ Some c → entries_in (raw_in x.own) ≤ i
      → slice_get (rows_of (raw_in c)) (i - entries_in (raw_in x.own)) ≡ Some row → slice_get (raw_in c) row.unit ≡ Some u
      → IsEntryOf f k.place 1 l row u
  common_entry c row u is le got is_unit =
      let raw = raw_in c in
      let around = around_beside c None in
      let first = entries_in (raw_in x.own) in
      let knows : KnowsCommon (Some c) k.w.common (stands_of f k.place) = subst (λ (o : Option SourceFile). KnowsCommon o k.w.common (stands_of f k.place)) is k.says.common in
      let has : HasRaw f.common (Some c) = subst (λ (o : Option SourceFile). HasRaw f.common o) is k.common_raw in
      let means = knows.1.means in
      let d = node_there k.w i l found in
      let listed : slice_get (listed_units k.w.common) (i - first) ≡ Some d.0 =
      got_second_entry k.w.own k.w.common (raw_in x.own) (around_beside x.own (common_of x.common)) k.says.own.means i d.0 le d.1 in
      let e = common_source knows.0 k.w.common knows.2 (i - first) d.0 listed in
      let entry : In row.entry (entries_of u) = entry_in raw (i - first) row.unit row u got refl is_unit in
      let there : In u raw = got_in raw row.unit u is_unit in
      let node : l.node ≡ node_map behind_own e.0.0 = sym d.2 ∙ e.2 in
      let place : l.node.at ≡ behind_own row.entry.at =
      ap (λ (n : Node ℕ). n.at) node ∙ ap behind_own (place_said around raw knows.0 means (i - first) e.0 e.1 ∙ row_place raw (i - first) row got) in
      let at : k.place l.node.at ≡ at_file 1 row.entry.at =
      ap k.place place ∙ common_at f x k c is row.entry.at (unit_place raw u row.entry.at there (place_in u row.entry (is_stored u row.entry entry))) in
      record {
        at = at;
        stored = stored_at 1 raw row u (part_raw f.common c refl has) there entry at;
        many = ap (λ (n : Node ℕ). length n.attrs) node ∙ length-map e.0.0.attrs (attr_map behind_own) ∙ row_many around raw knows.0 (i - first) e.0 row means e.1 got;
      }
