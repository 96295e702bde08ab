-- Places of texts and numbers of files are put in lists one after the other, and what is shown by the lists that have them.
use Rattle.std.proofs.Common.{◌≡◌, ℕ, zero, suc, ◌+◌, ◌<◌, ◌≤◌, List, [], ◌∷◌, ◌++◌, Global, Vec, length, drop, get_or, map, set, take, refl, sym, ap, subst, ◌∙◌, arith}
use Rattle.std.proofs.lemmas.List.{append-nil, append_assoc, drop_all, take_all}
use Rattle.dwz_graph.specs.declared.file.File.{File}
use Rattle.dwz_graph.specs.Index.{Index}
use Rattle.dwz_graph.specs.EntryCounts.{starts_from}
use Rattle.dwz_layout.specs.declared.known.FileRows.{FileRows}
use Rattle.dwz_layout.specs.declared.known.EntryTable.{EntryTable}
use Rattle.dwz_layout.specs.declared.known.Row.{Row}
use Rattle.dwz_layout.specs.declared.known.SpaceRow.{SpaceRow}
use Rattle.dwz_layout.specs.declared.known.TextAt.{TextAt}
use Rattle.dwz_law_layout.specs.Beside.{Beside}
use Rattle.dwz_law_layout.specs.Facts.{RunFacts}
use Rattle.dwz_law_layout.specs.Listed.{AreAllOwners, AreListed, AreRows, TextsAt, space_entries, space_rows}
use Rattle.dwz_layout_input.specs.declared.listing.FileTexts.{FileTexts}
use Rattle.dwz_layout_input.specs.Shown.{texts_shown, spaces_with, files_with}
use Rattle.dwz_layout_input.proofs.RowSteps.{numbers_shown, row_numbers, shown}

-- ---- spaces

-- the first so many have their names
abbrev pub named_to : List SpaceRow → (texts commons : List TextAt) → ℕ → List SpaceRow
named_to spaces texts commons k = spaces_with (take k spaces) (take k texts) (take k commons) ++ drop k spaces

pub names_none : (spaces : List SpaceRow) (texts commons : List TextAt) → spaces ≡ named_to spaces texts commons 0
unfolding spaces_with
names_none spaces texts commons = refl

-- the space with that number gets one place of its name, and then the other
abbrev pub with_own : List SpaceRow → ℕ → SpaceRow → TextAt → List SpaceRow
with_own spaces k d t = set spaces k (record (get_or spaces k d) { text = t })

abbrev pub with_common : List SpaceRow → ℕ → SpaceRow → TextAt → List SpaceRow
with_common spaces k d t = set spaces k (record (get_or spaces k d) { common = t })

abbrev pub with_both : List SpaceRow → ℕ → SpaceRow → (text common : TextAt) → List SpaceRow
with_both spaces k d t c = with_common (with_own spaces k d t) k d c

one_name : (spaces : List SpaceRow) (texts commons : List TextAt) (k : ℕ) (d : SpaceRow) (e : TextAt) → k < length spaces → k < length texts → k < length commons
    → with_both (named_to spaces texts commons k) k d (get_or texts k e) (get_or commons k e) ≡ named_to spaces texts commons (suc k)
unfolding spaces_with
one_name [] texts commons k d e lt le lc = absurd (omega arith)
one_name (s ∷ spaces) [] commons k d e lt le lc = absurd (omega arith)
one_name (s ∷ spaces) (t ∷ texts) [] k d e lt le lc = absurd (omega arith)
one_name (s ∷ spaces) (t ∷ texts) (c ∷ commons) zero d e lt le lc = refl
one_name (s ∷ spaces) (t ∷ texts) (c ∷ commons) (suc k) d e lt le lc =
    ap (λ (w : List SpaceRow). record s { text = t; common = c } ∷ w) (one_name spaces texts commons k d e (omega arith) (omega arith) (omega arith))

pub name_more : (spaces : List SpaceRow) (texts commons : List TextAt) (k : ℕ) (d : SpaceRow) (e : TextAt) (now : List SpaceRow) → k < length spaces → k < length texts → k < length commons
    → now ≡ named_to spaces texts commons k → with_both now k d (get_or texts k e) (get_or commons k e) ≡ named_to spaces texts commons (k + 1)
name_more spaces texts commons k d e now lt le lc is =
    let one : suc k ≡ k + 1 = omega arith in
    ap (λ (w : List SpaceRow). with_both w k d (get_or texts k e) (get_or commons k e)) is
    ∙ one_name spaces texts commons k d e lt le lc
    ∙ ap (named_to spaces texts commons) one

pub names_all : (spaces : List SpaceRow) (texts commons : List TextAt) (k : ℕ) → length spaces ≤ k → length texts ≤ k → length commons ≤ k
    → named_to spaces texts commons k ≡ spaces_with spaces texts commons
names_all spaces texts commons k le lf lc =
    (λ i. spaces_with (take_all k spaces le i) (take_all k texts lf i) (take_all k commons lc i) ++ drop_all k spaces le i)
    ∙ append-nil (spaces_with spaces texts commons)

-- ---- files

pub files_next : (left less : List FileRows) (all more : List (Vec TextAt Global)) (numbers fewer : List (Vec ℕ Global)) (old new whole : List FileRows)
    (r x : FileRows) (t : Vec TextAt Global) (n : Vec ℕ Global) → old ++ files_with left all numbers ≡ whole
    → left ≡ r ∷ less → all ≡ t ∷ more → numbers ≡ n ∷ fewer → new ≡ old ++ x ∷ [] → x ≡ record r { texts = t; files = n } → new ++ files_with less more fewer ≡ whole
unfolding files_with
files_next left less all more numbers fewer old new whole r x t n h rows texts numbered push is =
    ap (λ (w : List FileRows). w ++ files_with less more fewer) push
    ∙ append_assoc old (x ∷ []) (files_with less more fewer)
    ∙ ap (λ (w : FileRows). old ++ (w ∷ files_with less more fewer)) is
    ∙ (λ i. old ++ files_with (sym rows i) (sym texts i) (sym numbered i))
    ∙ h

module _ (made whole : List FileRows) where
  pub files_out : (left : List FileRows) (all : List (Vec TextAt Global)) (numbers : List (Vec ℕ Global)) → length left ≡ 0 → made ++ files_with left all numbers ≡ whole → made ≡ whole
  unfolding files_with
  files_out [] all numbers none h = sym (append-nil made) ∙ h
  files_out (r ∷ left) all numbers none h = absurd (omega arith)

  pub texts_out : (left : List FileRows) (all : List (Vec TextAt Global)) (numbers : List (Vec ℕ Global)) → length all ≡ 0 → made ++ files_with left all numbers ≡ whole → made ≡ whole
  unfolding files_with
  texts_out [] [] numbers none h = sym (append-nil made) ∙ h
  texts_out (r ∷ left) [] numbers none h = sym (append-nil made) ∙ h
  texts_out left (t ∷ all) numbers none h = absurd (omega arith)

  pub numbers_out : (left : List FileRows) (all : List (Vec TextAt Global)) (numbers : List (Vec ℕ Global)) → length numbers ≡ 0 → made ++ files_with left all numbers ≡ whole → made ≡ whole
  unfolding files_with
  numbers_out [] all [] none h = sym (append-nil made) ∙ h
  numbers_out (r ∷ left) [] [] none h = sym (append-nil made) ∙ h
  numbers_out (r ∷ left) (t ∷ all) [] none h = sym (append-nil made) ∙ h
  numbers_out left all (n ∷ numbers) none h = absurd (omega arith)

-- ---- what they show

module _ {beside : Beside} (f : RunFacts beside) where
  rows_with : (files : List File) (indexes : List Index) (starts : List ℕ) (old : List (List TextAt)) (rows : List FileRows) (new : List (Vec TextAt Global)) (numbers : List (Vec ℕ Global))
      → AreRows f files indexes starts old rows → length new ≡ length rows → length numbers ≡ length rows → AreRows f files indexes starts (map shown new) (files_with rows new numbers)
  unfolding files_with
  rows_with [] [] [] [] [] [] numbers h e n = tt
  rows_with [] [] [] [] [] (t ∷ new) numbers h e n = absurd (omega arith)
  rows_with [] [] [] [] (r ∷ rows) new numbers h e n = absurd h
  rows_with [] [] [] (o ∷ old) rows new numbers h e n = absurd h
  rows_with [] [] (s ∷ starts) old rows new numbers h e n = absurd h
  rows_with [] (x ∷ indexes) starts old rows new numbers h e n = absurd h
  rows_with (x ∷ files) [] starts old rows new numbers h e n = absurd h
  rows_with (x ∷ files) (y ∷ indexes) [] old rows new numbers h e n = absurd h
  rows_with (x ∷ files) (y ∷ indexes) (s ∷ starts) [] rows new numbers h e n = absurd h
  rows_with (x ∷ files) (y ∷ indexes) (s ∷ starts) (o ∷ old) [] new numbers h e n = absurd h
  rows_with (x ∷ files) (y ∷ indexes) (s ∷ starts) (o ∷ old) (r ∷ rows) [] numbers h e n = absurd (omega arith)
  rows_with (x ∷ files) (y ∷ indexes) (s ∷ starts) (o ∷ old) (r ∷ rows) (t ∷ new) [] h e n = absurd (omega arith)
  rows_with (x ∷ files) (y ∷ indexes) (s ∷ starts) (o ∷ old) (r ∷ rows) (t ∷ new) (m ∷ numbers) h e n = (
    record { units = h.0.units; start_is = h.0.start_is; firsts = h.0.firsts; references = h.0.references; texts_are = refl },
    rows_with files indexes starts old rows new numbers h.1 (omega arith) (omega arith),
  )

numbers_with : (rows : List FileRows) (texts : List (Vec TextAt Global)) (numbers : List (Vec ℕ Global)) → length texts ≡ length rows → length numbers ≡ length rows
    → map row_numbers (files_with rows texts numbers) ≡ map numbers_shown numbers
unfolding files_with
numbers_with [] texts [] e n = refl
numbers_with [] texts (m ∷ numbers) e n = absurd (omega arith)
numbers_with (r ∷ rows) [] numbers e n = absurd (omega arith)
numbers_with (r ∷ rows) (t ∷ texts) [] e n = absurd (omega arith)
numbers_with (r ∷ rows) (t ∷ texts) (m ∷ numbers) e n = ap (λ (w : List (List ℕ)). m.items ∷ w) (numbers_with rows texts numbers (omega arith) (omega arith))

names_with : (rows : List Row) (old old_commons new commons : List TextAt) → length old ≡ length rows → length old_commons ≡ length rows → length new ≡ length rows → length commons ≡ length rows
    → spaces_with (space_rows rows old old_commons) new commons ≡ space_rows rows new commons
unfolding spaces_with
names_with [] old old_commons new commons e f n m = refl
names_with (r ∷ rows) [] old_commons new commons e f n m = absurd (omega arith)
names_with (r ∷ rows) (o ∷ old) [] new commons e f n m = absurd (omega arith)
names_with (r ∷ rows) (o ∷ old) (p ∷ old_commons) [] commons e f n m = absurd (omega arith)
names_with (r ∷ rows) (o ∷ old) (p ∷ old_commons) (t ∷ new) [] e f n m = absurd (omega arith)
names_with (r ∷ rows) (o ∷ old) (p ∷ old_commons) (t ∷ new) (c ∷ commons) e f n m =
    ap (λ (w : List SpaceRow). record { row = r; text = t; common = c } ∷ w) (names_with rows old old_commons new commons (omega arith) (omega arith) (omega arith) (omega arith))

pub names_many : (rows : List Row) (texts commons : List TextAt) → length texts ≡ length rows → length commons ≡ length rows → length (space_rows rows texts commons) ≡ length rows
names_many [] texts commons e f = refl
names_many (r ∷ rows) [] commons e f = absurd (omega arith)
names_many (r ∷ rows) (t ∷ texts) [] e f = absurd (omega arith)
names_many (r ∷ rows) (t ∷ texts) (c ∷ commons) e f = ap suc (names_many rows texts commons (omega arith) (omega arith))

-- as many as there are files and spaces
pub record AreMany (old : EntryTable) (texts : FileTexts) : Type 0 where
  pub files : length texts.files.items ≡ length old.files.items
  pub spaces : length texts.spaces.items ≡ length old.spaces.items
  pub commons : length texts.commons.items ≡ length old.spaces.items
  pub numbers : length texts.numbers.items ≡ length old.files.items

pub listed_with : {beside : Beside} (f : RunFacts beside) (before : TextsAt) (old new : EntryTable) (texts : FileTexts) → AreMany old texts → new.files.items ≡ files_with old.files.items texts.files.items texts.numbers.items
    → new.spaces.items ≡ spaces_with old.spaces.items texts.spaces.items texts.commons.items → new.owners ≡ old.owners → new.tops ≡ old.tops → new.parts ≡ old.parts → new.commons ≡ old.commons
    → AreListed f before old → AreListed f (texts_shown texts) new
listed_with f before old new texts many files spaces owners tops parts commons h =
    let entries = space_entries 0 f.indexes in
    let long = names_many entries before.spaces before.commons h.many_spaces h.many_commons in
    let held = ap (λ (w : List SpaceRow). length w) h.spaces in
    let some = many.spaces in
    let some_common = many.commons in
    let all : length texts.spaces.items ≡ length entries = omega arith in
    let all_common : length texts.commons.items ≡ length entries = omega arith in
    record {
      rows =
          subst (λ (w : List FileRows). AreRows f f.files f.indexes (starts_from 0 f.indexes) (map shown texts.files.items) w) (sym files)
          (rows_with f f.files f.indexes (starts_from 0 f.indexes) before.files old.files.items texts.files.items texts.numbers.items h.rows many.files many.numbers);
      owners = subst (λ (w : Vec ℕ Global). AreAllOwners f f.files f.indexes w.items) (sym owners) h.owners;
      tops = ap (λ (w : Vec Row Global). w.items) tops ∙ h.tops;
      numbers = ap (map row_numbers) files ∙ numbers_with old.files.items texts.files.items texts.numbers.items many.files many.numbers;
      spaces =
          spaces
          ∙ ap (λ (w : List SpaceRow). spaces_with w texts.spaces.items texts.commons.items) h.spaces
          ∙ names_with entries before.spaces before.commons texts.spaces.items texts.commons.items h.many_spaces h.many_commons all all_common;
      many_spaces = all;
      many_commons = all_common;
      parts = ap (λ (w : Vec ℕ Global). w.items) parts ∙ h.parts;
      commons = commons ∙ h.commons;
    }
