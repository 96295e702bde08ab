-- The lists are still those of the files once texts have moved: just the places of texts are others.
use Rattle.std.proofs.Common.{◌≡◌, ℕ, suc, List, [], ◌∷◌, length, map, slice_get, Option, refl, sym, ap, subst, ◌∙◌}
use Rattle.std.proofs.lemmas.List.{length-map}
use Rattle.dwz_graph.specs.declared.file.File.{File}
use Rattle.dwz_graph.specs.Index.{Index}
use Rattle.dwz_layout_numbers.specs.Images.{AreImages}
use Rattle.dwz_graph.specs.EntryCounts.{starts_from}
use Rattle.dwz_layout.specs.declared.known.FileRows.{FileRows}
use Rattle.dwz_layout.specs.declared.known.ValueCounts.{ValueCounts}
use Rattle.dwz_layout.specs.declared.known.EntryTable.{EntryTable}
use Rattle.dwz_layout.specs.declared.known.Row.{Row}
use Rattle.dwz_layout.specs.declared.known.SpaceRow.{SpaceRow}
use Rattle.dwz_layout.specs.declared.known.TextAt.{TextAt}
use Rattle.dwz_law_layout.specs.Beside.{Beside}
use Rattle.dwz_law_layout.specs.Facts.{RunFacts, every, move}
use Rattle.dwz_law_layout.specs.Listed.{AreAllOwners, AreListed, AreRows, IsListed, TextsAt, space_entries, space_rows}
use Rattle.dwz_layout_input.proofs.TextSteps.{names_many}
use Rattle.dwz_encode_texts.specs.declared.pruning.PrunedFile.{PrunedFile}
use Rattle.dwz_run_files.specs.Moved.{AreMoved, RowMoved, RowsMoved, moved_space, pruned_at}

-- where the texts are written that lists have
abbrev row_texts : FileRows → List TextAt
row_texts r = r.texts.items

abbrev pub texts_in : EntryTable → TextsAt
texts_in k = record {
  files = map row_texts k.files.items;
  spaces = map (λ (s : SpaceRow). s.text) k.spaces.items;
  commons = map (λ (s : SpaceRow). s.common) k.spaces.items;
  numbers = map (λ (r : FileRows). r.files.items) k.files.items;
}

-- ---- files

row_listed : {beside : Beside} (f : RunFacts beside) (x : File) (index : Index) (start : ℕ) (texts : List TextAt) (p : Option PrunedFile) (old new : FileRows)
    → IsListed f x index start texts old → RowMoved p old new
    → IsListed f x index start (row_texts new) new
row_listed f x index start texts p old new h moved = record {
  units = (λ i. (moved.units i).now) ∙ h.units;
  start_is = moved.start ∙ h.start_is;
  firsts = λ i b e. ap (λ (w : List ValueCounts). slice_get w i) (λ j. (moved.firsts j).items) ∙ h.firsts i b e;
  references = λ names is. subst (λ (w : List ℕ). AreImages (every f) (move f) names x.resolved.refs.items w)
      (λ j. (sym moved.references j).items) (h.references names is);
  texts_are = refl;
}

rows_listed : {beside : Beside} (f : RunFacts beside) (pruned : List (Option PrunedFile)) (c : ℕ) (files : List File) (indexes : List Index) (starts : List ℕ)
    (texts : List (List TextAt)) (rows moved : List FileRows)
    → AreRows f files indexes starts texts rows → RowsMoved pruned c rows moved → AreRows f files indexes starts (map row_texts moved) moved
rows_listed f pruned c [] [] [] [] [] [] h are = tt
rows_listed f pruned c [] [] [] [] [] (m ∷ moved) h are = absurd are
rows_listed f pruned c [] [] [] [] (r ∷ rows) moved h are = absurd h
rows_listed f pruned c [] [] [] (t ∷ texts) rows moved h are = absurd h
rows_listed f pruned c [] [] (s ∷ starts) texts rows moved h are = absurd h
rows_listed f pruned c [] (y ∷ indexes) starts texts rows moved h are = absurd h
rows_listed f pruned c (x ∷ files) [] starts texts rows moved h are = absurd h
rows_listed f pruned c (x ∷ files) (y ∷ indexes) [] texts rows moved h are = absurd h
rows_listed f pruned c (x ∷ files) (y ∷ indexes) (s ∷ starts) [] rows moved h are = absurd h
rows_listed f pruned c (x ∷ files) (y ∷ indexes) (s ∷ starts) (t ∷ texts) [] moved h are = absurd h
rows_listed f pruned c (x ∷ files) (y ∷ indexes) (s ∷ starts) (t ∷ texts) (r ∷ rows) [] h are = absurd are
rows_listed f pruned c (x ∷ files) (y ∷ indexes) (s ∷ starts) (t ∷ texts) (r ∷ rows) (m ∷ moved) h are =
    (row_listed f x y s t (pruned_at pruned c) r m h.0 are.0, rows_listed f pruned (suc c) files indexes starts texts rows moved h.1 are.1)

-- ---- spaces

spaces_listed : (pruned : List (Option PrunedFile)) (rows : List Row) (texts commons : List TextAt)
    → map (moved_space pruned) (space_rows rows texts commons) ≡ space_rows rows
    (map (λ (s : SpaceRow). s.text) (map (moved_space pruned) (space_rows rows texts commons)))
    (map (λ (s : SpaceRow). s.common) (map (moved_space pruned) (space_rows rows texts commons)))
spaces_listed pruned [] texts commons = refl
spaces_listed pruned (r ∷ rows) [] commons = refl
spaces_listed pruned (r ∷ rows) (t ∷ texts) [] = refl
spaces_listed pruned (r ∷ rows) (t ∷ texts) (c ∷ commons) =
    ap (λ (w : List SpaceRow). moved_space pruned (record { row = r; text = t; common = c }) ∷ w) (spaces_listed pruned rows texts commons)

-- ---- all

pub lists_moved : {beside : Beside} (f : RunFacts beside) (t : TextsAt) (k : EntryTable) → AreListed f t k → (pruned : List (Option PrunedFile)) (m : EntryTable)
    → AreMoved pruned k m → AreListed f (texts_in m) m
lists_moved f t k listed pruned m h =
    let entries = space_entries 0 f.indexes in
    let text : SpaceRow → TextAt = λ s. s.text in
    let common : SpaceRow → TextAt = λ s. s.common in
    let old = space_rows entries t.spaces t.commons in
    let spaces : m.spaces.items ≡ map (moved_space pruned) old = h.spaces ∙ ap (map (moved_space pruned)) listed.spaces in
    let many : length m.spaces.items ≡ length entries =
    ap (λ (w : List SpaceRow). length w) spaces
    ∙ length-map old (moved_space pruned)
    ∙ names_many entries t.spaces t.commons listed.many_spaces listed.many_commons in
    record {
      rows = rows_listed f pruned 0 f.files f.indexes (starts_from 0 f.indexes) t.files k.files.items m.files.items listed.rows h.files;
      owners = subst (AreAllOwners f f.files f.indexes) (λ i. (sym h.owners i).items) listed.owners;
      tops = (λ i. (h.tops i).items) ∙ listed.tops;
      numbers = refl;
      spaces = spaces ∙ spaces_listed pruned entries t.spaces t.commons
          ∙ ap (λ (w : List SpaceRow). space_rows entries (map text w) (map common w)) (sym spaces);
      many_spaces = length-map m.spaces.items text ∙ many;
      many_commons = length-map m.spaces.items common ∙ many;
      parts = (λ i. (h.parts i).items) ∙ listed.parts;
      commons = h.commons ∙ listed.commons;
    }
