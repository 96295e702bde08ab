-- The lists with texts and numbers of paths are lists of the same files, plan and places of texts.
use Rattle.std.proofs.Common.{◌≡◌, ℕ, Bool, List, [], ◌∷◌, length, map, refl, sym, ap, subst, ◌∙◌, arith}
use Rattle.std.specs.Global.{Vec}
use Rattle.std.proofs.lemmas.List.{length-map}
use Rattle.dwz_graph.specs.declared.file.File.{File}
use Rattle.dwz_graph.specs.Index.{Index}
use Rattle.dwz_graph.specs.EntryCounts.{starts_from}
use Rattle.dwz_layout.specs.declared.known.FileRows.{FileRows}
use Rattle.dwz_layout.specs.declared.known.EntryTable.{EntryTable}
use Rattle.dwz_layout.specs.declared.known.Row.{Row}
use Rattle.dwz_layout.specs.declared.known.SpaceRow.{SpaceRow}
use Rattle.dwz_layout.specs.declared.known.TextAt.{TextAt}
use Rattle.dwz_law_layout.specs.Beside.{Beside}
use Rattle.dwz_law_layout.specs.Facts.{RunFacts}
use Rattle.dwz_law_layout.specs.Listed.{AreAllOwners, AreListed, AreRows, TextsAt, space_entries, space_rows}
use Rattle.dwz_encode_common.specs.Placed.{space_placed}
use Rattle.dwz_encode_common.specs.WithCommon.{IsWithTexts, files_with, texts_held}
use Rattle.dwz_encode_common.proofs.WithLists.{numbers_many, places_many}

abbrev texts_of : FileRows → List TextAt
texts_of r = r.texts.items

rows_with : {beside : Beside} (f : RunFacts beside) (files : List File) (indexes : List Index) (starts : List ℕ) (old : List (List TextAt)) (rows : List FileRows)
    (places : List (Vec TextAt)) (numbers : List (Vec ℕ)) → AreRows f files indexes starts old rows → length places ≡ length rows
    → length numbers ≡ length rows
    → AreRows f files indexes starts (map texts_of (files_with rows places numbers)) (files_with rows places numbers)
unfolding files_with
rows_with f [] [] [] [] [] places numbers h e g = tt
rows_with f [] [] [] [] (r ∷ rows) places numbers h e g = absurd h
rows_with f [] [] [] (o ∷ old) rows places numbers h e g = absurd h
rows_with f [] [] (s ∷ starts) old rows places numbers h e g = absurd h
rows_with f [] (y ∷ indexes) starts old rows places numbers h e g = absurd h
rows_with f (x ∷ files) [] starts old rows places numbers h e g = absurd h
rows_with f (x ∷ files) (y ∷ indexes) [] old rows places numbers h e g = absurd h
rows_with f (x ∷ files) (y ∷ indexes) (s ∷ starts) [] rows places numbers h e g = absurd h
rows_with f (x ∷ files) (y ∷ indexes) (s ∷ starts) (o ∷ old) [] places numbers h e g = absurd h
rows_with f (x ∷ files) (y ∷ indexes) (s ∷ starts) (o ∷ old) (r ∷ rows) [] numbers h e g = absurd (omega arith)
rows_with f (x ∷ files) (y ∷ indexes) (s ∷ starts) (o ∷ old) (r ∷ rows) (t ∷ places) [] h e g = absurd (omega arith)
rows_with f (x ∷ files) (y ∷ indexes) (s ∷ starts) (o ∷ old) (r ∷ rows) (t ∷ places) (m ∷ numbers) h e g = (
  record { units = h.0.units; start_is = h.0.start_is; firsts = h.0.firsts; references = h.0.references; texts_are = refl },
  rows_with f files indexes starts old rows places numbers h.1 (omega arith) (omega arith),
)

-- ---- spaces

abbrev rows_in : List SpaceRow → List Row
rows_in spaces = map (λ (s : SpaceRow). s.row) spaces

abbrev own_in : List SpaceRow → List TextAt
own_in spaces = map (λ (s : SpaceRow). s.text) spaces

abbrev commons_in : List SpaceRow → List TextAt
commons_in spaces = map (λ (s : SpaceRow). s.common) spaces

spaces_are : (spaces : List SpaceRow) → spaces ≡ space_rows (rows_in spaces) (own_in spaces) (commons_in spaces)
spaces_are [] = refl
spaces_are (s ∷ spaces) = ap (λ (w : List SpaceRow). s ∷ w) (spaces_are spaces)

rows_listed : (rows : List Row) (own commons : List TextAt) → length own ≡ length rows → length commons ≡ length rows
    → rows_in (space_rows rows own commons) ≡ rows
rows_listed [] own commons p q = refl
rows_listed (r ∷ rows) [] commons p q = absurd (omega arith)
rows_listed (r ∷ rows) (t ∷ own) [] p q = absurd (omega arith)
rows_listed (r ∷ rows) (t ∷ own) (c ∷ commons) p q = ap (λ (w : List Row). r ∷ w) (rows_listed rows own commons (omega arith) (omega arith))

rows_placed : (files : List File) (texts : List (List ℕ)) (sharing : _) (spaces : List SpaceRow)
    → rows_in (map (space_placed files texts sharing) spaces) ≡ rows_in spaces
rows_placed files texts sharing [] = refl
rows_placed files texts sharing (s ∷ spaces) = ap (λ (w : List Row). s.row ∷ w) (rows_placed files texts sharing spaces)

-- ---- all

pub listed_with : {beside : Beside} (f : RunFacts beside) (t : TextsAt) (made : Bool) (files : List File) (texts : List (List ℕ)) (sharing : List Bool)
    (before k : EntryTable) → IsWithTexts made files texts sharing before k → length before.files.items ≡ length files → AreListed f t before
    → AreListed f (texts_held k) k
listed_with f t made files texts sharing before k w many h =
    let entries = space_entries 0 f.indexes in
    let rows : rows_in k.spaces.items ≡ entries =
    ap rows_in w.spaces_are ∙ rows_placed files texts sharing before.spaces.items
    ∙ ap rows_in h.spaces ∙ rows_listed entries t.spaces t.commons h.many_spaces h.many_commons in
    let long : length k.spaces.items ≡ length entries =
    sym (length-map k.spaces.items (λ (s : SpaceRow). s.row)) ∙ ap (λ (l : List Row). length l) rows in
    let starts = starts_from 0 f.indexes in
    record {
      rows = subst (λ (l : List FileRows). AreRows f f.files f.indexes starts (map texts_of l) l) (sym w.files_are)
          (rows_with f f.files f.indexes starts t.files before.files.items w.places w.numbers h.rows
          (places_many made files texts sharing before k w many) (numbers_many made files texts sharing before k w many));
      owners = subst (λ (l : Vec ℕ). AreAllOwners f f.files f.indexes l.items) (sym w.owners_are) h.owners;
      tops = ap (λ (l : Vec Row). l.items) w.tops_are ∙ h.tops;
      numbers = refl;
      spaces = spaces_are k.spaces.items ∙ ap (λ (l : List Row). space_rows l (own_in k.spaces.items) (commons_in k.spaces.items)) rows;
      many_spaces = length-map k.spaces.items (λ (s : SpaceRow). s.text) ∙ long;
      many_commons = length-map k.spaces.items (λ (s : SpaceRow). s.common) ∙ long;
      parts = ap (λ (l : Vec ℕ). l.items) w.parts_are ∙ h.parts;
      commons = w.commons_are ∙ h.commons;
    }
