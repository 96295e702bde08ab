-- An entry that is in the lists has a number among all entries that no other one has, since files follow one another.
use Rattle.std.proofs.Common.{◌≡◌, ℕ, zero, suc, ◌+◌, ◌<◌, List, [], ◌∷◌, length, Option, Some, None, slice_get, refl, sym, ap, subst}
use Rattle.std.proofs.Common.{◌∙◌, arith}
use Rattle.std.specs.Option.{option_map_or}
use Rattle.dwz_def_reading.proofs.ListFacts.{got_below}
use Rattle.dwz_unit.specs.Rows.{EntryRow, Source, rows_of, units_of}
use Rattle.dwz_unit.proofs.RowsFound.{rows-length}
use Rattle.dwz_graph.specs.declared.file.File.{File}
use Rattle.dwz_graph.specs.Index.{Index}
use Rattle.dwz_graph.proofs.FileEntries.{all_entries}
use Rattle.dwz_graph.proofs.FileWalk.{is_among}
use Rattle.dwz_graph.specs.EntryCounts.{starts_from}
use Rattle.dwz_layout_numbers.proofs.StartLemmas.{files_apart}
use Rattle.dwz_layout.specs.declared.known.FileRows.{FileRows}
use Rattle.dwz_layout.specs.declared.known.EntryTable.{EntryTable}
use Rattle.dwz_layout.specs.declared.known.Row.{Row}
use Rattle.dwz_layout.specs.declared.known.TextAt.{TextAt}
use Rattle.dwz_layout.specs.Known.{number_of, row_at}
use Rattle.dwz_law_layout.specs.Beside.{Beside}
use Rattle.dwz_law_layout.specs.Facts.{AreFacts, RunFacts}
use Rattle.dwz_law_layout.specs.Listed.{AreListed, AreRows, IsListed, TextsAt}

-- ---- the file that a list of rows is of

record FileAt {beside : Beside} (f : RunFacts beside) (files : List File) (indexes : List Index) (starts : List ℕ) (rows : FileRows) (n : ℕ) : Type 0 where
  x : File
  index : Index
  start : ℕ
  texts : List TextAt
  file_is : slice_get files n ≡ Some x
  index_is : slice_get indexes n ≡ Some index
  start_is : slice_get starts n ≡ Some start
  listed : IsListed f x index start texts rows

file_at : {beside : Beside} (f : RunFacts beside) (files : List File) (indexes : List Index) (starts : List ℕ) (texts : List (List TextAt)) (rows : List FileRows)
    → AreRows f files indexes starts texts rows
    → (n : ℕ) (r : FileRows) → slice_get rows n ≡ Some r → FileAt f files indexes starts r n
file_at f files indexes starts texts [] h n r e = absurd cc
file_at f [] [] [] [] (s ∷ rows) h n r e = absurd h
file_at f [] [] [] (t ∷ texts) (s ∷ rows) h n r e = absurd h
file_at f [] [] (c ∷ starts) texts (s ∷ rows) h n r e = absurd h
file_at f [] (y ∷ indexes) starts texts (s ∷ rows) h n r e = absurd h
file_at f (x ∷ files) [] starts texts (s ∷ rows) h n r e = absurd h
file_at f (x ∷ files) (y ∷ indexes) [] texts (s ∷ rows) h n r e = absurd h
file_at f (x ∷ files) (y ∷ indexes) (c ∷ starts) [] (s ∷ rows) h n r e = absurd h
file_at f (x ∷ files) (y ∷ indexes) (c ∷ starts) (t ∷ texts) (s ∷ rows) h zero r e =
    let same : s ≡ r = cc in
    record {
      x = x;
      index = y;
      start = c;
      texts = t;
      file_is = refl;
      index_is = refl;
      start_is = refl;
      listed = subst (λ (w : FileRows). IsListed f x y c t w) same h.0;
    }
file_at f (x ∷ files) (y ∷ indexes) (c ∷ starts) (t ∷ texts) (s ∷ rows) h (suc n) r e =
    let o = file_at f files indexes starts texts rows h.1 n r e in
    record {
      x = o.x;
      index = o.index;
      start = o.start;
      texts = o.texts;
      file_is = o.file_is;
      index_is = o.index_is;
      start_is = o.start_is;
      listed = o.listed;
    }

-- ---- entries

-- the entry is one of a file with this index, whose first entry has that number
pub record IsEntry {beside : Beside} (f : RunFacts beside) (k : EntryTable) (r : Row) : Type 0 where
  pub index : Index
  pub start : ℕ
  pub index_is : slice_get f.indexes r.file ≡ Some index
  pub start_is : slice_get (starts_from 0 f.indexes) r.file ≡ Some start
  pub within : r.entry < length index.steps
  pub number : number_of k r ≡ start + r.entry

-- what stands in the lists is such an entry
pub entry_there : {beside : Beside} (f : RunFacts beside) (t : TextsAt) (k : EntryTable) → AreFacts f → AreListed f t k → (r : Row) (x : EntryRow) → row_at k r ≡ Some x
    → IsEntry f k r
entry_there f t k facts listed r x e = by (slice_get k.files.items r.file) refl e where
  by : (o : Option FileRows) → slice_get k.files.items r.file ≡ o
      → slice_get (option_map_or (λ (w : FileRows). rows_of (units_of w.units.now)) o []) r.entry ≡ Some x → IsEntry f k r
  by None at e = absurd cc
  by (Some rows) at e =
      let o = file_at f f.files f.indexes (starts_from 0 f.indexes) t.files k.files.items listed.rows r.file rows at in
      let a = is_among f.contents f.files f.indexes r.file o.x o.index facts.kept facts.indexed o.file_is o.index_is in
      let many = all_entries f.contents r.file a.bytes o.x o.index a.is in
      let low = got_below (rows_of (units_of rows.units.now)) r.entry x e in
      let long = rows-length (units_of o.x.units) in
      let same = ap (λ (w : Source). length (rows_of (units_of w))) o.listed.units in
      record {
        index = o.index;
        start = o.start;
        index_is = o.index_is;
        start_is = o.start_is;
        within = omega (arith, many, low, long, same);
        number = ap (λ (w : Option FileRows). option_map_or (λ (u : FileRows). u.start) w 0 + r.entry) at
            ∙ ap (λ (w : ℕ). w + r.entry) o.listed.start_is;
      }

pub one_entry : {beside : Beside} (f : RunFacts beside) (k : EntryTable) (a b : Row) → IsEntry f k a → IsEntry f k b → number_of k a ≡ number_of k b → a ≡ b
one_entry f k a b p q same =
    let sums : p.start + a.entry ≡ q.start + b.entry = sym p.number ∙ same ∙ q.number in
    let o = files_apart 0 f.indexes a.file b.file p.index q.index p.start q.start a.entry b.entry p.index_is q.index_is p.start_is
    q.start_is p.within q.within sums in
    (λ i. let r : Row = record { file = o.0 i; entry = o.1 i } in r)
