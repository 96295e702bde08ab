-- Attributes of an entry by their numbers, among all its values.
use Rattle.std.proofs.Common.{◌≡◌, ℕ, ℤ, zero, suc, ◌+◌, ◌-◌, ◌<◌, ◌≤◌, ◌==◌, ◌^◌, Bool, true, false, List, [], ◌∷◌, drop, get_or, length, map, Option, Some, None, slice_get, refl, sym, ap, subst, ◌∙◌, inl, inr, arith}
use Rattle.std.specs.Prelude.{◌&&◌, nat_lt, if◌then◌else◌}
use Rattle.std.specs.List.{list_all}
use Rattle.std.specs.Option.{option_and_then, option_map, option_map_or}
use Rattle.std.proofs.lemmas.Bool.{cases_lt, ltb-true, ne_eqb}
use Rattle.std.proofs.lemmas.List.{drop_all, length-map}
use Rattle.std.proofs.lemmas.Option.{get_or_from_slice_get}
use Rattle.dwz_model.specs.declared.place.Pair.{Pair}
use Rattle.dwz_model.specs.declared.place.Place.{Place}
use Rattle.dwz_def_reading.specs.Classes.{Class, ClassRow, Unread, class_in, class_rows}
use Rattle.dwz_def_reading.specs.Documents.{Attr}
use Rattle.dwz_def_reading.specs.Files.{around_of}
use Rattle.dwz_def_reading.specs.Entries.{RawAttr}
use Rattle.dwz_def_reading.specs.Input.{Input}
use Rattle.dwz_def_reading.specs.Meanings.{MeanAttrs, MeaningContext, MeansAs, MeansAttr, number_of, scope_of, without_siblings}
use Rattle.dwz_def_reading.specs.Units.{RawUnit}
use Rattle.dwz_def_reading.proofs.AttrPairs.{read_pairs}
use Rattle.dwz_def_reading.proofs.ListFacts.{drop_here, got_there}
use Rattle.dwz_graph.specs.declared.file.File.{File}
use Rattle.dwz_graph.specs.Files.{AreKept, docs_of}
use Rattle.dwz_unit.proofs.RowsFound.{attr_there, found_in_map}
use Rattle.dwz_unit.specs.Rows.{EntryRow, attr_count, attr_of, rows_of, units_of}
use Rattle.dwz_unit.specs.Values.{Reads}
use Rattle.dwz_graph_view.specs.AttrViews.{attr_at, form_view}
use Rattle.dwz_graph_view.specs.EntryRows.{IsNumberAt, IsRowOf}
use Rattle.dwz_graph_view.specs.EntryViews.{EntrySpot, entry_at, units_before}

-- ---- one after the other

passed : (a : RawAttr) (raw : List RawAttr) → (a.pair.name == 0x01) ≡ true → without_siblings (a ∷ raw) ≡ without_siblings raw
unfolding without_siblings
passed a raw e = ap (λ (b : Bool). if b then without_siblings raw else a ∷ without_siblings raw) e

counted : (a : RawAttr) (raw : List RawAttr) → (a.pair.name == 0x01) ≡ false → without_siblings (a ∷ raw) ≡ a ∷ without_siblings raw
unfolding without_siblings
counted a raw e = ap (λ (b : Bool). if b then without_siblings raw else a ∷ without_siblings raw) e

none_left : (index : ℕ) → slice_get (without_siblings []) index ≡ None
unfolding without_siblings
none_left index = refl

-- the values of a row, whose pairs these are
abbrev pub HasPairs : List RawUnit → ℕ → List Pair → EntryRow → Type 0
HasPairs raw entry pairs row = (slice_get (rows_of raw) entry ≡ Some row) × (map (λ (a : RawAttr). a.pair) row.entry.attrs ≡ pairs)

pub has_pairs : (raw : List RawUnit) (entry : ℕ) (pairs : List Pair) (at : Input) (row : EntryRow)
    → ((r : EntryRow) → slice_get (rows_of raw) entry ≡ Some r → Reads r.entry.at pairs at r.entry.attrs) → slice_get (rows_of raw) entry ≡ Some row → HasPairs raw entry pairs row
has_pairs raw entry pairs at row read found =
    let reads = read row found in
    (found, sym (read_pairs row.entry.at pairs at reads.behind row.entry.attrs reads.read))

-- the attribute is there, where as many that count come before it
pub record Seeks (raw : List RawUnit) (entry : ℕ) (pairs : List Pair) (index k left : ℕ) : Type 0 where
  pub same : (row : EntryRow) → HasPairs raw entry pairs row → slice_get (without_siblings row.entry.attrs) index ≡ slice_get (without_siblings (drop k row.entry.attrs)) left

module _ (raw : List RawUnit) (entry : ℕ) (pairs : List Pair) (index : ℕ) where
  pub seeks_begin : Seeks raw entry pairs index 0 index
  seeks_begin = record { same = λ row h. refl }

  -- the value with a number, whose pair this is
  value_there : (row : EntryRow) (k : ℕ) (pair : Pair) → HasPairs raw entry pairs row → slice_get pairs k ≡ Some pair → (a : RawAttr) × (slice_get row.entry.attrs k ≡ Some a) × (a.pair ≡ pair)
  value_there row k pair h got = found_in_map (λ (a : RawAttr). a.pair) row.entry.attrs k pair (ap (λ (w : List Pair). slice_get w k) h.1 ∙ got)

  pub seeks_pass : (k left : ℕ) (pair : Pair) → slice_get pairs k ≡ Some pair → (pair.name == 0x01) ≡ true → Seeks raw entry pairs index k left → Seeks raw entry pairs index (k + 1) left
  seeks_pass k left pair got e s = record {
    same = λ row h. (
        let a = value_there row k pair h got in
        let name = ap (λ (w : Pair). w.name == 0x01) a.2 ∙ e in
        s.same row h ∙ ap (λ (w : List RawAttr). slice_get (without_siblings w) left) (drop_here row.entry.attrs k a.0 a.1)
        ∙ ap (λ (w : List RawAttr). slice_get w left) (passed a.0 (drop (k + 1) row.entry.attrs) name));
  }

  pub seeks_count : (k left : ℕ) (pair : Pair) → slice_get pairs k ≡ Some pair → (pair.name == 0x01) ≡ false → 0 < left → Seeks raw entry pairs index k left → Seeks raw entry pairs index (k + 1) (left - 1)
  seeks_count k left pair got e more s = record {
    same = λ row h. (
        let a = value_there row k pair h got in
        let name = ap (λ (w : Pair). w.name == 0x01) a.2 ∙ e in
        let one : left ≡ suc (left - 1) = omega arith in
        s.same row h ∙ (λ i. slice_get (without_siblings (drop_here row.entry.attrs k a.0 a.1 i)) (one i))
        ∙ ap (λ (w : List RawAttr). slice_get w (suc (left - 1))) (counted a.0 (drop (k + 1) row.entry.attrs) name));
  }

  pub seeks_found : (k left : ℕ) (pair : Pair) → slice_get pairs k ≡ Some pair → (pair.name == 0x01) ≡ false → left ≡ 0 → Seeks raw entry pairs index k left
      → (row : EntryRow) → HasPairs raw entry pairs row → slice_get (without_siblings row.entry.attrs) index ≡ slice_get row.entry.attrs k
  seeks_found k left pair got e none s row h =
      let a = value_there row k pair h got in
      let name = ap (λ (w : Pair). w.name == 0x01) a.2 ∙ e in
      s.same row h ∙ (λ i. slice_get (without_siblings (drop_here row.entry.attrs k a.0 a.1 i)) (none i))
      ∙ ap (λ (w : List RawAttr). slice_get w 0) (counted a.0 (drop (k + 1) row.entry.attrs) name) ∙ sym a.1

  pub seeks_end : (k left : ℕ) → length pairs ≤ k → Seeks raw entry pairs index k left → (row : EntryRow) → HasPairs raw entry pairs row → slice_get (without_siblings row.entry.attrs) index ≡ None
  seeks_end k left le s row h =
      let long = length-map row.entry.attrs (λ (a : RawAttr). a.pair) in
      let many = ap (λ (w : List Pair). length w) h.1 in
      s.same row h ∙ ap (λ (w : List RawAttr). slice_get (without_siblings w) left) (drop_all k row.entry.attrs (omega arith)) ∙ none_left left

  -- as many values as pairs
  pub values_many : (row : EntryRow) (many : ℕ) → HasPairs raw entry pairs row → attr_count raw entry ≡ many → length pairs ≡ many
  values_many row many h count =
      let long = length-map row.entry.attrs (λ (a : RawAttr). a.pair) in
      let same = ap (λ (w : List Pair). length w) h.1 in
      let here : attr_count raw entry ≡ length row.entry.attrs = ap (λ (w : Option EntryRow). option_map_or (λ (r : EntryRow). length r.entry.attrs) w 0) h.0 in
      omega arith

-- the pair at an index, as goals write it
pub pair_at : (pairs : List Pair) (k : ℕ) (d : Pair) → k < length pairs → slice_get pairs k ≡ Some (get_or pairs k d)
pair_at pairs k d lt =
    let x = got_there pairs k lt in
    x.1 ∙ ap Some (sym (get_or_from_slice_get pairs k x.0 d x.1))

-- ---- what it means

attr_means : (s : MeaningContext ℕ) (raw : List RawAttr) (attrs : List (Attr ℕ)) (i : ℕ) (a : RawAttr) → MeanAttrs s raw attrs → slice_get raw i ≡ Some a
    → (b : Attr ℕ) × (slice_get attrs i ≡ Some b) × MeansAttr s a b
attr_means s [] attrs i a h e = absurd cc
attr_means s (c ∷ raw) [] i a h e = absurd h
attr_means s (c ∷ raw) (b ∷ attrs) zero a h e = let same : c ≡ a = cc in (b, refl, subst (λ (w : RawAttr). MeansAttr s w b) same h.0)
attr_means s (c ∷ raw) (b ∷ attrs) (suc i) a h e = attr_means s raw attrs i a h.1 e

attr_none : (s : MeaningContext ℕ) (raw : List RawAttr) (attrs : List (Attr ℕ)) (i : ℕ) → MeanAttrs s raw attrs → slice_get raw i ≡ None → slice_get attrs i ≡ None
attr_none s [] [] i h e = refl
attr_none s [] (b ∷ attrs) i h e = absurd h
attr_none s (c ∷ raw) [] i h e = absurd h
attr_none s (c ∷ raw) (b ∷ attrs) zero h e = absurd cc
attr_none s (c ∷ raw) (b ∷ attrs) (suc i) h e = attr_none s raw attrs i h.1 e

-- no form that is read is greater than the greatest that there is
abbrev small : ClassRow → Bool
small r = nat_lt r.form 65536

all_small : list_all small class_rows ≡ true
unfolding class_rows
all_small = refl

unread : (rows : List ClassRow) (form : ℕ) → list_all small rows ≡ true → 65536 ≤ form → class_in rows form ≡ Unread
unfolding class_in
unread [] form e ge = refl
unread (r ∷ rows) form e ge = by (small r) refl e (λ more. unread rows form more ge) where
  by : (b : Bool) → small r ≡ b → (b && list_all small rows) ≡ true → (list_all small rows ≡ true → class_in rows form ≡ Unread) → (if r.form == form then r.class else class_in rows form) ≡ Unread
  by true is more rest =
      let low = ltb-true r.form 65536 is in
      ap (λ (b : Bool). if b then r.class else class_in rows form) (ne_eqb r.form form (λ same. omega (arith, low, same, ge))) ∙ rest more
  by false is more rest = absurd cc

form_small : (s : MeaningContext ℕ) (a : RawAttr) (b : Attr ℕ) → MeansAttr s a b → a.pair.form < 65536
form_small s a b h = elim (cases_lt a.pair.form 65536) [
  | inl lt ↦ lt
  | inr ge ↦ absurd (subst (λ (k : Class). MeansAs k s a b.value) (unread class_rows a.pair.form all_small ge) h.value)
]

-- ---- of an entry that was found

module _ (contents : List (List ℕ)) (files : List File) (p : Place) (i : ℕ) (f : File) (n : IsNumberAt contents p i) (kept : AreKept contents files) (got : slice_get files p.file ≡ Some f) (index : ℕ) where
  abbrev raw : List RawUnit
  raw = units_of f.units

  pub is : IsRowOf raw (around_of n.bytes raw) (units_before (docs_of contents) p.file) i n.spot
  is = (n.means files f kept got).1

  abbrev pub scope : MeaningContext ℕ
  scope = scope_of (around_of n.bytes raw) is.u

  pub there : attr_at (docs_of contents) p index ≡ slice_get n.spot.node.attrs index
  there = ap (option_and_then (λ (e : EntrySpot). slice_get e.node.attrs index)) n.there

  -- the value that is its attribute with that number
  pub meant : (k : ℕ) (a : RawAttr) → ((row : EntryRow) → slice_get (rows_of raw) i ≡ Some row → slice_get (without_siblings row.entry.attrs) index ≡ slice_get row.entry.attrs k) → attr_of raw i k ≡ Some a
      → (b : Attr ℕ) × (slice_get n.spot.node.attrs index ≡ Some b) × MeansAttr scope a b
  meant k a same e =
      attr_means scope (without_siblings is.row.entry.attrs) n.spot.node.attrs index a is.attrs_mean (same is.row is.found ∙ attr_there raw i k is.row a is.found e)

  pub form_fits : (k : ℕ) (a : RawAttr) → ((row : EntryRow) → slice_get (rows_of raw) i ≡ Some row → slice_get (without_siblings row.entry.attrs) index ≡ slice_get row.entry.attrs k) → attr_of raw i k ≡ Some a
      → a.pair.form < 2 ^ 16
  form_fits k a same e = let m = meant k a same e in let small_form = form_small scope a m.0 m.2 in omega arith

  pub attr_shown : (k : ℕ) (a : RawAttr) (number : ℤ) → ((row : EntryRow) → slice_get (rows_of raw) i ≡ Some row → slice_get (without_siblings row.entry.attrs) index ≡ slice_get row.entry.attrs k)
      → attr_of raw i k ≡ Some a → number ≡ number_of a.raw
      → Some (record { name = a.pair.name; form = a.pair.form; raw = number }) ≡ option_map form_view (attr_at (docs_of contents) p index)
  attr_shown k a number same e is_number =
      let m = meant k a same e in
      let shown : record { name = a.pair.name; form = a.pair.form; raw = number } ≡ form_view m.0
      = (λ j. record { name = sym m.2.name j; form = sym m.2.form j; raw = (is_number ∙ sym m.2.raw) j }) in
      ap Some shown ∙ ap (option_map form_view) (sym (there ∙ m.1))

  pub attr_missing : ((row : EntryRow) → slice_get (rows_of raw) i ≡ Some row → slice_get (without_siblings row.entry.attrs) index ≡ None) → None ≡ option_map form_view (attr_at (docs_of contents) p index)
  attr_missing none =
      ap (option_map form_view) (sym (there ∙ attr_none scope (without_siblings is.row.entry.attrs) n.spot.node.attrs index is.attrs_mean (none is.row is.found)))

pub entry_missing : (contents : List (List ℕ)) (p : Place) (index : ℕ) → entry_at (docs_of contents) p ≡ None → None ≡ option_map form_view (attr_at (docs_of contents) p index)
entry_missing contents p index none = ap (λ (w : Option EntrySpot). option_map form_view (option_and_then (λ (e : EntrySpot). slice_get e.node.attrs index) w)) (sym none)
