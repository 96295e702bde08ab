-- Places of texts are appended, one value, entry and file after the other.
use Rattle.std.proofs.Common.{◌≡◌, ℕ, suc, ◌+◌, ◌<◌, ◌≤◌, Bool, true, false, List, [], ◌∷◌, ◌++◌, length, map, take, Some, slice_get, refl, sym, ap, ◌∙◌, arith}
use Rattle.std.specs.Prelude.{nat_lt}
use Rattle.std.specs.Global.{Vec}
use Rattle.std.specs.List.{flat_map}
use Rattle.std.proofs.lemmas.Bool.{ltb-false, ltb-true}
use Rattle.std.proofs.lemmas.List.{append-nil, append_assoc, length-append, length-map, map-append, take_all}
use Rattle.std.proofs.lemmas.List.Concat.{flat_map-cons}
use Rattle.dwz_def_reading.proofs.ListFacts.{get_first, got_below, same_got}
use Rattle.dwz_unit.specs.Rows.{EntryRow}
use Rattle.dwz_graph.specs.declared.file.File.{File}
use Rattle.dwz_unit.proofs.RowsFound.{take_here}
use Rattle.dwz_graph.proofs.TopLemmas.{get_later}
use Rattle.dwz_layout.specs.declared.known.EntryTable.{EntryTable}
use Rattle.dwz_layout.specs.declared.known.TextAt.{TextAt}
use Rattle.dwz_layout.specs.Known.{text_at}
use Rattle.dwz_encode_texts.proofs.TextSteps.{flat_more}
use Rattle.dwz_encode_common.specs.Placed.{HavePlaces, entry_places, file_places, rows_places, shares_in, written_there}
use Rattle.dwz_encode_common.specs.Shared.{placed_text}

-- ---- values

module _ (is_common shares : Bool) (texts : List (List ℕ)) (k : EntryTable) (n : ℕ) where
  abbrev Places : ℕ → List (List ℕ) → List TextAt
  Places first said = entry_places is_common shares texts k n first said

  pub places-length : (first : ℕ) (said : List (List ℕ)) → length (Places first said) ≡ length said
  places-length first [] = refl
  places-length first (text ∷ said) = ap suc (places-length (suc first) said)

  pub places-append : (first : ℕ) (xs ys : List (List ℕ)) → Places first (xs ++ ys) ≡ Places first xs ++ Places (first + length xs) ys
  places-append first [] ys = ap (λ (m : ℕ). Places m ys) (let e : first ≡ first + 0 = omega arith in e)
  places-append first (x ∷ xs) ys =
      let e : suc first + length xs ≡ first + length (x ∷ xs) = omega arith in
      ap (λ (w : List TextAt). placed_text is_common shares texts x (text_at k n first) ∷ w)
      (places-append (suc first) xs ys ∙ ap (λ (m : ℕ). Places (suc first) xs ++ Places m ys) e)

  -- behind those that are there
  pub places_more : (old now new : List TextAt) (xs ys zs : List (List ℕ)) → zs ≡ xs ++ ys → now ≡ old ++ Places (length old) xs
      → new ≡ now ++ Places (length now) ys → new ≡ old ++ Places (length old) zs
  places_more old now new xs ys zs both is step =
      let many : length now ≡ length old + length xs =
      ap (λ (w : List TextAt). length w) is ∙ length-append old (Places (length old) xs)
      ∙ ap (λ (m : ℕ). length old + m) (places-length (length old) xs) in
      step
      ∙ (λ i. is i ++ Places (many i) ys)
      ∙ append_assoc old (Places (length old) xs) (Places (length old + length xs) ys)
      ∙ ap (λ (w : List TextAt). old ++ w) (sym (places-append (length old) xs ys))
      ∙ ap (λ (w : List (List ℕ)). old ++ Places (length old) w) (sym both)

  pub values_placed : {X : Type 0} (f : X → List (List ℕ)) (xs : List X) (j : ℕ) (x : X) (old now new : List TextAt) → slice_get xs j ≡ Some x
      → now ≡ old ++ Places (length old) (flat_map f (take j xs)) → new ≡ now ++ Places (length now) (f x)
      → new ≡ old ++ Places (length old) (flat_map f (take (j + 1) xs))
  values_placed f xs j x old now new at is step = places_more old now new (flat_map f (take j xs)) (f x) (flat_map f (take (j + 1) xs))
      (flat_more f xs j x at) is step

  pub all_placed : {X : Type 0} (f : X → List (List ℕ)) (xs : List X) (j : ℕ) (old now : List TextAt) → length xs ≤ j
      → now ≡ old ++ Places (length old) (flat_map f (take j xs)) → now ≡ old ++ Places (length old) (flat_map f xs)
  all_placed {X} f xs j old now le is = is ∙ ap (λ (w : List X). old ++ Places (length old) (flat_map f w)) (take_all j xs le)

-- ---- entries

module _ (made shares : Bool) (texts : List (List ℕ)) (k : EntryTable) (n : ℕ) (said : EntryRow → List (List ℕ)) where
  abbrev Rows : (i first : ℕ) → List EntryRow → List TextAt
  Rows i first rows = rows_places made shares texts k n said i first rows

  abbrev Own : (i first : ℕ) → EntryRow → List TextAt
  Own i first r = entry_places (written_there made k n i) shares texts k n first (said r)

  pub rows-length : (i first : ℕ) (rows : List EntryRow) → length (Rows i first rows) ≡ length (flat_map said rows)
  rows-length i first [] = refl
  rows-length i first (r ∷ rows) =
      length-append (Own i first r) (Rows (suc i) (first + length (said r)) rows)
      ∙ (λ j. places-length (written_there made k n i) shares texts k n first (said r) j + rows-length (suc i) (first + length (said r)) rows j)
      ∙ sym (length-append (said r) (flat_map said rows))
      ∙ ap (λ (w : List (List ℕ)). length w) (sym (flat_map-cons said r rows))

  rows-last : (i first : ℕ) (rows : List EntryRow) (r : EntryRow)
      → Rows i first (rows ++ r ∷ []) ≡ Rows i first rows ++ Own (i + length rows) (first + length (flat_map said rows)) r
  rows-last i first [] r =
      let a : i ≡ i + 0 = omega arith in
      let b : first ≡ first + 0 = omega arith in
      append-nil (Own i first r) ∙ (λ j. Own (a j) (b j) r)
  rows-last i first (x ∷ rows) r =
      let more = first + length (said x) in
      let many : length (flat_map said (x ∷ rows)) ≡ length (said x) + length (flat_map said rows) =
      ap (λ (w : List (List ℕ)). length w) (flat_map-cons said x rows) ∙ length-append (said x) (flat_map said rows) in
      let a : suc i + length rows ≡ i + length (x ∷ rows) = omega arith in
      let b : more + length (flat_map said rows) ≡ first + length (flat_map said (x ∷ rows)) = omega arith in
      ap (λ (w : List TextAt). Own i first x ++ w) (rows-last (suc i) more rows r)
      ∙ sym (append_assoc (Own i first x) (Rows (suc i) more rows) (Own (suc i + length rows) (more + length (flat_map said rows)) r))
      ∙ (λ j. (Own i first x ++ Rows (suc i) more rows) ++ Own (a j) (b j) r)

  -- one entry more
  pub rows_placed : (rows : List EntryRow) (i : ℕ) (r : EntryRow) (now new : List TextAt) → slice_get rows i ≡ Some r
      → length (take i rows) ≡ i → now ≡ Rows 0 0 (take i rows) → new ≡ now ++ Own i (length now) r → new ≡ Rows 0 0 (take (i + 1) rows)
  rows_placed rows i r now new at many is step =
      let count : length now ≡ 0 + length (flat_map said (take i rows)) =
      ap (λ (w : List TextAt). length w) is ∙ rows-length 0 0 (take i rows) ∙ (let z : length (flat_map said (take i rows)) ≡ 0 + length (flat_map said (take i rows)) = omega arith in z) in
      let number : i ≡ 0 + length (take i rows) = omega arith in
      step
      ∙ (λ j. is j ++ Own (number j) (count j) r)
      ∙ sym (rows-last 0 0 (take i rows) r)
      ∙ ap (Rows 0 0) (sym (take_here rows i r at))

  pub rows_all : (rows : List EntryRow) (i : ℕ) (now : List TextAt) → length rows ≤ i → now ≡ Rows 0 0 (take i rows) → now ≡ Rows 0 0 rows
  rows_all rows i now le is = is ∙ ap (Rows 0 0) (take_all i rows le)

-- ---- files

abbrev pub shown : Vec TextAt → List TextAt
shown v = v.items

-- those of the first so many
pub record PlacesTo (made : Bool) (files : List File) (texts : List (List ℕ)) (sharing : List Bool) (k : EntryTable) (all : List (Vec TextAt)) (n : ℕ) : Type 0 where
  pub many : length all ≡ n
  pub each : (m : ℕ) (x : File) → m < n → slice_get files m ≡ Some x
      → slice_get (map shown all) m ≡ Some (file_places made (shares_in sharing m) texts k m x)

module _ (made : Bool) (files : List File) (texts : List (List ℕ)) (sharing : List Bool) (k : EntryTable) where
  abbrev Own_of : ℕ → File → List TextAt
  Own_of m x = file_places made (shares_in sharing m) texts k m x

  pub places_none : (all : List (Vec TextAt)) → all ≡ [] → PlacesTo made files texts sharing k all 0
  places_none all none = record { many = ap (λ (w : List (Vec TextAt)). length w) none; each = λ m x lt at. absurd (omega arith) }

  last : (m n : ℕ) (y x : File) (v : Vec TextAt) → m ≡ n → slice_get files m ≡ Some y → slice_get files n ≡ Some x → v.items ≡ Own_of n x
      → Some v.items ≡ Some (Own_of m y)
  last m n y x v same there at is =
      let one : x ≡ y = same_got files n x y at (ap (slice_get files) (sym same) ∙ there) in
      (λ i. Some (is i)) ∙ (λ i. Some (Own_of (sym same i) (one i)))

  pub one_more : (n : ℕ) (x : File) (all new : List (Vec TextAt)) (v : Vec TextAt) → slice_get files n ≡ Some x
      → PlacesTo made files texts sharing k all n → v.items ≡ Own_of n x → new ≡ all ++ v ∷ [] → PlacesTo made files texts sharing k new (n + 1)
  one_more n x all new v at h is push = record {
    many = (
        let a = ap (λ (w : List (Vec TextAt)). length w) push in
        let b = length-append all (v ∷ []) in
        let c = h.many in
        omega arith);
    each = λ m y lt there. ap (λ (w : List (List TextAt)). slice_get w m) split ∙ by m y lt there (nat_lt m n) refl;
  } where
    split : map shown new ≡ map shown all ++ v.items ∷ []
    split = ap (map shown) push ∙ map-append shown all (v ∷ [])

    by : (m : ℕ) (y : File) → m < n + 1 → slice_get files m ≡ Some y → (b : Bool) → nat_lt m n ≡ b
        → slice_get (map shown all ++ v.items ∷ []) m ≡ Some (Own_of m y)
    by m y lt there true b = get_first (map shown all) (v.items ∷ []) m (Own_of m y) (h.each m y (ltb-true m n b) there)
    by m y lt there false b =
        let low = ltb-false m n b in
        let same : m ≡ n = omega arith in
        let count : length (map shown all) ≡ n = length-map all shown ∙ h.many in
        let place : m ≡ length (map shown all) + 0 = omega arith in
        ap (slice_get (map shown all ++ v.items ∷ [])) place
        ∙ get_later (map shown all) (v.items ∷ []) 0 v.items refl
        ∙ last m n y x v same there at is

  pub places_all : (n : ℕ) (all : List (Vec TextAt)) → n ≡ length files → PlacesTo made files texts sharing k all n
      → HavePlaces made files texts sharing k (map shown all)
  places_all n all whole h = record {
    many = length-map all shown ∙ h.many ∙ whole;
    each = λ m x at. (let lt = got_below files m x at in h.each m x (omega arith) at);
  }
