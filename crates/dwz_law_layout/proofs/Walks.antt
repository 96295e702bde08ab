-- What stands at a place in lists that are made file by file, and entry by entry.
use Rattle.std.proofs.Common.{◌≡◌, ℕ, zero, suc, ◌+◌, ◌-◌, ◌<◌, ◌≤◌, List, [], ◌∷◌, ◌++◌, length, Some, slice_get, slice_index_or, refl, sym, ap, subst, ◌∙◌, inl, inr, arith}
use Rattle.std.proofs.lemmas.List.{append_assoc, length-append}
use Rattle.dwz_def_reading.proofs.ListFacts.{get_first, got_below}
use Rattle.dwz_def_reading.specs.Documents.{Doc}
use Rattle.dwz_def_tops.specs.Spots.{EntryName}
use Rattle.dwz_graph.specs.declared.file.File.{File}
use Rattle.dwz_graph.specs.declared.index.Starts.{Starts}
use Rattle.dwz_graph.specs.Index.{Index, IsIndex}
use Rattle.dwz_graph.specs.Names.{names_from, top_in}
use Rattle.dwz_graph.proofs.TopLemmas.{get_cases, get_later}
use Rattle.dwz_graph.specs.Indexed.{AreIndexed, first_starts, starts_behind}
use Rattle.dwz_plan.specs.Planned.{Planned}
use Rattle.dwz_unit.specs.Rows.{EntryRow, rows_of, units_of}
use Rattle.dwz_layout_numbers.specs.declared.firsts.CountsBefore.{CountsBefore}
use Rattle.dwz_layout_numbers.specs.Befores.{befores_from, behind}
use Rattle.dwz_graph.specs.EntryCounts.{starts_from}
use Rattle.dwz_graph.specs.AllNames.{all_names, names_of_files}
use Rattle.dwz_layout_numbers.specs.Owners.{AreOwners, owner_by}
use Rattle.dwz_layout.specs.declared.known.FileRows.{FileRows}
use Rattle.dwz_layout.specs.declared.known.EntryTable.{EntryTable}
use Rattle.dwz_layout.specs.declared.known.TextAt.{TextAt}
use Rattle.dwz_layout.specs.Known.{owner_of}
use Rattle.dwz_law_layout.specs.Knows.{EachFrom}
use Rattle.dwz_law_layout.specs.Beside.{Beside}
use Rattle.dwz_law_layout.specs.Facts.{AreFacts, RunFacts, docs, owners_beside}
use Rattle.dwz_law_layout.specs.Listed.{AreAllOwners, AreListed, AreRows, IsListed, TextsAt}

-- ---- entries

pub each_from : {X : Type 0} (P : ℕ → X → Type 0) (n : ℕ) (xs : List X) → ((j : ℕ) (x : X) → slice_get xs j ≡ Some x → P (n + j) x) → EachFrom P n xs
each_from P n [] h = tt
each_from {X} P n (x ∷ xs) h =
    let here : n + 0 ≡ n = omega arith in (
      subst (λ (w : ℕ). P w x) here (h 0 x refl),
      each_from P (n + 1) xs (λ j y e. (let far : n + suc j ≡ n + 1 + j = omega arith in subst (λ (w : ℕ). P w y) far (h (suc j) y e))),
    )

pub before_at : (b : CountsBefore) (rows : List EntryRow) (i : ℕ) (r : EntryRow) → slice_get rows i ≡ Some r → (c : CountsBefore) × (slice_get (befores_from b rows) i ≡ Some c)
unfolding befores_from
before_at b [] i r e = absurd cc
before_at b (row ∷ rows) zero r e = (b, refl)
before_at b (row ∷ rows) (suc i) r e = before_at (behind b row) rows i r e

-- ---- rows of files

-- those of the file with a number
pub record RowsAt {beside : Beside} (f : RunFacts beside) (x : File) (index : Index) (starts : List ℕ) (rows : List FileRows) (n : ℕ) : Type 0 where
  pub start : ℕ
  pub texts : List TextAt
  pub rows_there : FileRows
  pub start_is : slice_get starts n ≡ Some start
  pub rows_are : slice_get rows n ≡ Some rows_there
  pub listed : IsListed f x index start texts rows_there

pub rows_at : {beside : Beside} (f : RunFacts beside) (files : List File) (indexes : List Index) (starts : List ℕ) (texts : List (List TextAt)) (rows : List FileRows) → AreRows f files indexes starts texts rows
    → (n : ℕ) (x : File) (index : Index) → slice_get files n ≡ Some x → slice_get indexes n ≡ Some index → RowsAt f x index starts rows n
rows_at f [] indexes starts texts rows h n x index e g = absurd cc
rows_at f (y ∷ files) [] starts texts rows h n x index e g = absurd h
rows_at f (y ∷ files) (z ∷ indexes) [] texts rows h n x index e g = absurd h
rows_at f (y ∷ files) (z ∷ indexes) (s ∷ starts) [] rows h n x index e g = absurd h
rows_at f (y ∷ files) (z ∷ indexes) (s ∷ starts) (t ∷ texts) [] h n x index e g = absurd h
rows_at f (y ∷ files) (z ∷ indexes) (s ∷ starts) (t ∷ texts) (r ∷ rows) h zero x index e g =
    let file : y ≡ x = cc in
    let own : z ≡ index = cc in
    record {
      start = s;
      texts = t;
      rows_there = r;
      start_is = refl;
      rows_are = refl;
      listed = subst (λ (w : Index). IsListed f x w s t r) own (subst (λ (w : File). IsListed f w z s t r) file h.0);
    }
rows_at f (y ∷ files) (z ∷ indexes) (s ∷ starts) (t ∷ texts) (r ∷ rows) h (suc n) x index e g =
    let o = rows_at f files indexes starts texts rows h.1 n x index e g in
    record { start = o.start; texts = o.texts; rows_there = o.rows_there; start_is = o.start_is; rows_are = o.rows_are; listed = o.listed }

-- ---- owners

-- the owner at that place is that of an entry with this row and this name
pub record OwnerAt (plan : Planned) (parts olds : List ℕ) (unit : ℕ) (row : EntryRow) (s : EntryName) (owners : List ℕ) (i : ℕ) : Type 0 where
  pub owner : ℕ
  pub there : slice_get owners i ≡ Some owner
  pub is : (kept : ℕ) → slice_get olds (unit + row.unit) ≡ Some kept → owner ≡ owner_by plan parts kept (top_in s)

module _ (plan : Planned) (parts olds : List ℕ) (unit : ℕ) where
  one_owner : (rows : List EntryRow) (names : List EntryName) (owners : List ℕ) → AreOwners plan parts olds unit rows names owners
      → (i : ℕ) (row : EntryRow) (s : EntryName) → slice_get rows i ≡ Some row → slice_get names i ≡ Some s → OwnerAt plan parts olds unit row s owners i
  one_owner [] names owners h i row s e g = absurd cc
  one_owner (r ∷ rows) [] owners h i row s e g = absurd h
  one_owner (r ∷ rows) (m ∷ names) [] h i row s e g = absurd h
  one_owner (r ∷ rows) (m ∷ names) (o ∷ owners) h zero row s e g =
      let own : r ≡ row = cc in
      let named : m ≡ s = cc in
      record {
        owner = o;
        there = refl;
        is = λ kept k. h.0 kept (ap (λ (w : EntryRow). slice_get olds (unit + w.unit)) own ∙ k) ∙ ap (λ (w : EntryName). owner_by plan parts kept (top_in w)) named;
      }
  one_owner (r ∷ rows) (m ∷ names) (o ∷ owners) h (suc i) row s e g =
      let w = one_owner rows names owners h.1 i row s e g in
      record { owner = w.owner; there = w.there; is = w.is }

  owners_many : (rows : List EntryRow) (names : List EntryName) (owners : List ℕ) → AreOwners plan parts olds unit rows names owners → length owners ≡ length names
  owners_many [] [] [] h = refl
  owners_many [] [] (o ∷ owners) h = absurd h
  owners_many [] (m ∷ names) owners h = absurd h
  owners_many (r ∷ rows) [] owners h = absurd h
  owners_many (r ∷ rows) (m ∷ names) [] h = absurd h
  owners_many (r ∷ rows) (m ∷ names) (o ∷ owners) h = ap suc (owners_many rows names owners h.1)

at_first : (all more rest : List ℕ) (k i v : ℕ) → all ≡ more ++ rest → k ≡ i → slice_get more i ≡ Some v → slice_get all k ≡ Some v
at_first all more rest k i v e n h = (λ j. slice_get (e j) (n j)) ∙ get_first more rest i v h

at_later : (all more rest : List ℕ) (k i v : ℕ) → all ≡ more ++ rest → k ≡ length more + i → slice_get rest i ≡ Some v → slice_get all k ≡ Some v
at_later all more rest k i v e n h = (λ j. slice_get (e j) (n j)) ∙ get_later more rest i v h

-- Where the first file begins with number c, the owner of each entry of the file with a number is so far behind as the file begins.
pub owners_at : {beside : Beside} (f : RunFacts beside) (s : Starts) (docs : List (Doc ℕ)) (indexes : List Index) (end : Starts) → AreIndexed s docs indexes end
    → (files : List File) (owners : List ℕ) → AreAllOwners f files indexes owners
    → (c n start : ℕ) (x : File) (index : Index) (names : List EntryName) → slice_get files n ≡ Some x → slice_get indexes n ≡ Some index → slice_get (starts_from c indexes) n ≡ Some start
    → IsIndex names index → (i : ℕ) (row : EntryRow) (m : EntryName) → slice_get (rows_of (units_of x.units)) i ≡ Some row → slice_get names i ≡ Some m
    → (c ≤ start) × OwnerAt f.planned f.parts f.olds index.starts.unit row m owners ((start - c) + i)
unfolding starts_from
owners_at f s docs [] end are files owners h c n start x index names e g b shows i row m er em = absurd cc
owners_at f s [] (z ∷ indexes) end are files owners h c n start x index names e g b shows i row m er em = absurd are
owners_at f s (doc ∷ docs) (z ∷ indexes) end are [] owners h c n start x index names e g b shows i row m er em = absurd h
owners_at f s (doc ∷ docs) (z ∷ indexes) end are (y ∷ files) owners h c zero start x index names e g b shows i row m er em =
    let file : y ≡ x = cc in
    let own : z ≡ index = cc in
    let here : c ≡ start = cc in
    let more = h.0 in
    let rest = h.1 in
    let mine : AreOwners f.planned f.parts f.olds index.starts.unit (rows_of (units_of x.units)) names more =
    subst (λ (w : File). AreOwners f.planned f.parts f.olds index.starts.unit (rows_of (units_of w.units)) names more) file
    (subst (λ (w : Index). AreOwners f.planned f.parts f.olds w.starts.unit (rows_of (units_of y.units)) names more) own (h.3 names (subst (IsIndex names) (sym own) shows))) in
    let o = one_owner f.planned f.parts f.olds index.starts.unit (rows_of (units_of x.units)) names more mine i row m er em in
    let near : (start - c) + i ≡ i = omega (arith, here) in (
      omega (arith, here),
      record {
        owner = o.owner;
        there = at_first owners more rest ((start - c) + i) i o.owner h.2 near o.there;
        is = o.is;
      },
    )
owners_at f s (doc ∷ docs) (z ∷ indexes) end are (y ∷ files) owners h c (suc n) start x index names e g b shows i row m er em =
    let more = h.0 in
    let rest = h.1 in
    let first = names_from s.unit s.top doc.units in
    let many = owners_many f.planned f.parts f.olds z.starts.unit (rows_of (units_of y.units)) first more (h.3 first are.0.names) in
    let len = are.0.names.len in
    let r = owners_at f (starts_behind s doc z) docs indexes end are.1 files rest h.4 (c + length z.steps) n start x index names e g b shows i row m er em in
    let le = r.0 in
    let o = r.1 in
    let far : (start - c) + i ≡ length more + ((start - (c + length z.steps)) + i) = omega (arith, le, many, len) in (
      omega (arith, le),
      record {
        owner = o.owner;
        there = at_later owners more rest ((start - c) + i) ((start - (c + length z.steps)) + i) o.owner h.2 far o.there;
        is = o.is;
      },
    )

-- The owners of the entries of files come first, and behind them those of the entries of the common file.
pub record OwnersSplit {beside : Beside} (f : RunFacts beside) (owners : List ℕ) (count : ℕ) : Type 0 where
  pub own : List ℕ
  pub many : length own ≡ count
  pub are : owners ≡ own ++ owners_beside f

owners_from : {beside : Beside} (f : RunFacts beside) (s : Starts) (said : List (Doc ℕ)) (indexes : List Index) (end : Starts) → AreIndexed s said indexes end
    → (files : List File) (owners : List ℕ) → AreAllOwners f files indexes owners → OwnersSplit f owners (length (names_of_files s.unit s.top said))
unfolding names_of_files
owners_from f s [] [] end are [] owners h = record { own = []; many = refl; are = h }
owners_from f s [] [] end are (y ∷ files) owners h = absurd h
owners_from f s [] (z ∷ indexes) end are files owners h = absurd are
owners_from f s (doc ∷ said) [] end are files owners h = absurd are
owners_from f s (doc ∷ said) (z ∷ indexes) end are [] owners h = absurd h
owners_from f s (doc ∷ said) (z ∷ indexes) end are (y ∷ files) owners h =
    let first = names_from s.unit s.top doc.units in
    let next = starts_behind s doc z in
    let rest = names_of_files next.unit next.top said in
    let own = owners_many f.planned f.parts f.olds z.starts.unit (rows_of (units_of y.units)) first h.0 (h.3 first are.0.names) in
    let r = owners_from f next said indexes end are.1 files h.1 h.4 in
    let more = r.many in
    let one = length-append h.0 r.own in
    let two = length-append first rest in
    record {
      own = h.0 ++ r.own;
      many = omega (arith, own, more, one, two);
      are = h.2 ∙ ap (λ (w : List ℕ). h.0 ++ w) r.are ∙ sym (append_assoc h.0 r.own (owners_beside f));
    }

pub owners_split : {beside : Beside} (f : RunFacts beside) (t : TextsAt) (k : EntryTable) → AreFacts f → AreListed f t k → OwnersSplit f k.owners.items (length (all_names (docs f)))
owners_split f t k facts listed = owners_from f first_starts (docs f) f.indexes facts.indexed.end facts.indexed.are f.files k.owners.items listed.owners

or_later : (xs ys : List ℕ) (j : ℕ) → slice_index_or (xs ++ ys) (length xs + j) 0 ≡ slice_index_or ys j 0
or_later [] ys j = ap (λ (n : ℕ). slice_index_or ys n 0) (let none : 0 + j ≡ j = omega arith in none)
or_later (x ∷ xs) ys j = ap (λ (n : ℕ). slice_index_or (x ∷ (xs ++ ys)) n 0) (let next : suc (length xs) + j ≡ suc (length xs + j) = omega arith in next) ∙ or_later xs ys j

-- the owner of an entry of the common file
pub behind_owner : {beside : Beside} (f : RunFacts beside) (t : TextsAt) (k : EntryTable) → AreFacts f → AreListed f t k → (j : ℕ)
    → owner_of k (length (all_names (docs f)) + j) ≡ slice_index_or (owners_beside f) j 0
behind_owner f t k facts listed j =
    let o = owners_split f t k facts listed in
    (λ i. slice_index_or (o.are i) (sym o.many i + j) 0) ∙ or_later o.own (owners_beside f) j

-- ---- of which file an entry is

-- the entry with that number among all is one of a file
pub record InFile (indexes : List Index) (c number : ℕ) : Type 0 where
  pub file : ℕ
  pub index : Index
  pub start : ℕ
  pub entry : ℕ
  pub index_is : slice_get indexes file ≡ Some index
  pub start_is : slice_get (starts_from c indexes) file ≡ Some start
  pub is : c + number ≡ start + entry
  pub within : entry < length index.steps

pub in_file : (s : Starts) (docs : List (Doc ℕ)) (indexes : List Index) (end : Starts) → AreIndexed s docs indexes end
    → (c number : ℕ) (m : EntryName) → slice_get (names_of_files s.unit s.top docs) number ≡ Some m → InFile indexes c number
unfolding starts_from names_of_files
in_file s [] indexes end are c number m e = absurd cc
in_file s (doc ∷ docs) [] end are c number m e = absurd are
in_file s (doc ∷ docs) (z ∷ indexes) end are c number m e =
    let first = names_from s.unit s.top doc.units in
    let next = starts_behind s doc z in
    let rest = names_of_files next.unit next.top docs in
    let len = are.0.names.len in
    elim (get_cases first rest number m e) [
      | inl a ↦ (let low = got_below first number m a in
          record { file = 0; index = z; start = c; entry = number; index_is = refl; start_is = refl; is = refl; within = omega (arith, low, len) })
      | inr b ↦
          (let o = in_file next docs indexes end are.1 (c + length z.steps) b.0 m b.2 in
          let at = b.1 in
          let is = o.is in
          record {
            file = suc o.file;
            index = o.index;
            start = o.start;
            entry = o.entry;
            index_is = o.index_is;
            start_is = o.start_is;
            is = omega (arith, at, is, len);
            within = o.within;
          })
    ]
