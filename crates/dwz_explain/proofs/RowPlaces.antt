-- Places of tops by their rows: a top begins at the place of its row, and nowhere else.
use Rattle.std.proofs.Common.{◌≡◌, ℕ, zero, suc, ◌+◌, Bool, true, false, List, [], ◌∷◌, length, map, Some, slice_get, refl, sym, ap, subst, ◌∙◌, arith}
use Rattle.std.specs.Prelude.{slice_index_or}
use Rattle.dwz_def_reading.specs.Documents.{Doc}
use Rattle.dwz_def_reading.specs.Lists.{In}
use Rattle.dwz_def_reading.proofs.ListFacts.{got_in, got_index_or, got_map, same_got}
use Rattle.dwz_def_tops.specs.Alike.{Movable}
use Rattle.dwz_def_tops.specs.Spots.{Top, Within, tops_of, units_of}
use Rattle.dwz_def_tops.specs.Deciding.{is_movable}
use Rattle.dwz_def_tops.proofs.AlikeBound.{movable_decides}
use Rattle.dwz_def_tops.proofs.TopNumbers.{Numbered, top_there, tops_numbers}
use Rattle.dwz_def_tops.specs.UnitNames.{name_of_place}
use Rattle.dwz_def_reading.specs.Places.{Place, at_file}
use Rattle.dwz_def_explain.specs.Places.{IsMovableAt, NoneMovableAt}
use Rattle.dwz_groups.specs.declared.tops.TopRow.{TopRow}
use Rattle.dwz_groups.specs.declared.tops.Tops.{Tops}
use Rattle.dwz_model.specs.declared.place.Place.{Place as PlaceOfCode}
use Rattle.dwz_move_files.specs.Outlines.{IsOutline, StandsFor}
use Rattle.dwz_explain.specs.Found.{HasRowAt, NoRowAt}
use Rattle.dwz_explain.proofs.PlaceNames.{one_place, within_entry}

-- the place of a row
abbrev pub place_of_row : TopRow → Place
place_of_row row = at_file row.place.file row.place.offset

-- the row with a number stands for the top with that number
pub record IsRowFor (docs : List (Doc ℕ)) (rows : List TopRow) (k : ℕ) (t : Top) : Type 0 where
  pub row : TopRow
  pub there : slice_get rows k ≡ Some row
  pub named : name_of_place docs (place_of_row row) ≡ Within t.number []

row_for : (docs : List (Doc ℕ)) (rows : List TopRow) (tops : List Top) → StandsFor docs rows tops → (k : ℕ) (t : Top) → slice_get tops k ≡ Some t → IsRowFor docs rows k t
row_for docs [] [] h k t e = absurd cc
row_for docs [] (u ∷ tops) h k t e = absurd h
row_for docs (row ∷ rows) [] h k t e = absurd h
row_for docs (row ∷ rows) (u ∷ tops) h zero t e =
    record { row = row; there = refl; named = h.0 ∙ (let same : u ≡ t = cc in ap (λ (w : Top). Within w.number []) same) }
row_for docs (row ∷ rows) (u ∷ tops) h (suc k) t e = let r = row_for docs rows tops h.1 k t e in record { row = r.row; there = r.there; named = r.named }

top_for : (docs : List (Doc ℕ)) (rows : List TopRow) (tops : List Top) → StandsFor docs rows tops → (k : ℕ) (row : TopRow) → slice_get rows k ≡ Some row
    → (t : Top) × (slice_get tops k ≡ Some t)
top_for docs [] [] h k row e = absurd cc
top_for docs [] (u ∷ tops) h k row e = absurd h
top_for docs (x ∷ rows) [] h k row e = absurd h
top_for docs (x ∷ rows) (u ∷ tops) h zero row e = (u, refl)
top_for docs (x ∷ rows) (u ∷ tops) h (suc k) row e = top_for docs rows tops h.1 k row e

pub rows_long : (docs : List (Doc ℕ)) (rows : List TopRow) (tops : List Top) → StandsFor docs rows tops → length rows ≡ length tops
rows_long docs [] [] h = refl
rows_long docs [] (u ∷ tops) h = absurd h
rows_long docs (row ∷ rows) [] h = absurd h
rows_long docs (row ∷ rows) (u ∷ tops) h = ap suc (rows_long docs rows tops h.1)

-- the top at an index has that number
numbered_at : (n : ℕ) (tops : List Top) → Numbered n tops → (k : ℕ) (t : Top) → slice_get tops k ≡ Some t → t.number ≡ n + k
numbered_at n [] h k t e = absurd cc
numbered_at n (u ∷ tops) h zero t e = let same : u ≡ t = cc in let number = h.0 in ap (λ (w : Top). w.number) (sym same) ∙ (let z : u.number ≡ n + 0 = omega arith in z)
numbered_at n (u ∷ tops) h (suc k) t e = let r = numbered_at (suc n) tops h.1 k t e in omega arith

pub number_is : (docs : List (Doc ℕ)) (k : ℕ) (t : Top) → slice_get (tops_of (units_of docs)) k ≡ Some t → t.number ≡ k
number_is docs k t e = let r = numbered_at 0 (tops_of (units_of docs)) (tops_numbers (units_of docs)) k t e in omega arith

module _ (docs : List (Doc ℕ)) (tops : Tops) (o : IsOutline docs tops) where
  abbrev all : List Top
  all = tops_of (units_of docs)

  pub rows_many : length tops.rows ≡ length all
  rows_many = rows_long docs tops.rows all o.places

  -- the row for a top
  pub row_of_top : (t : Top) → In t all → IsRowFor docs tops.rows t.number t
  row_of_top t there = row_for docs tops.rows all o.places t.number t (top_there (units_of docs) t there)

  abbrev flags : List Bool
  flags = map (λ (row : TopRow). row.movable) tops.rows

  -- a top may move just where its row says so
  flag_is : (k : ℕ) (row : TopRow) (t : Top) → In t all → t.number ≡ k → slice_get tops.rows k ≡ Some row → row.movable ≡ is_movable (units_of docs) t
  flag_is k row t there number e =
      sym (got_index_or flags k row.movable false (got_map (λ (r : TopRow). r.movable) tops.rows k row e)) ∙ ap (λ (n : ℕ). slice_index_or flags n false) (sym number) ∙ o.movable.each t there

  -- at the place of a row whose top may move
  pub movable_here : (p : PlaceOfCode) (k : ℕ) → HasRowAt tops.rows p k → IsMovableAt docs (at_file p.file p.offset) k
  movable_here p k h =
      let x = top_for docs tops.rows all o.places k h.row h.there in
      let t = x.0 in
      let there = got_in all k t x.1 in
      let number : t.number ≡ k = number_is docs k t x.1 in
      let r = row_for docs tops.rows all o.places k t x.1 in
      let same : r.row ≡ h.row = same_got tops.rows k r.row h.row r.there h.there in
      let here : place_of_row r.row ≡ at_file p.file p.offset = ap place_of_row same ∙ (λ i. at_file (h.is.1 i) (h.is.2 i)) in
      let free : is_movable (units_of docs) t ≡ true = sym (flag_is k h.row t there number h.there) ∙ h.is.0 in
      record {
        named = ap (name_of_place docs) (sym here) ∙ r.named ∙ ap (λ (n : ℕ). Within n []) number;
        movable = subst (Movable (units_of docs)) number ((movable_decides (units_of docs) t there).0 free);
      }

  -- where no row is found, no top that may move begins
  pub none_here : (p : PlaceOfCode) → NoRowAt tops.rows p → NoneMovableAt docs (at_file p.file p.offset)
  none_here p none n is =
      let m = is.movable in
      let t = m.top in
      let r = row_of_top t m.is_top in
      let named : name_of_place docs (place_of_row r.row) ≡ Within n [] = r.named ∙ ap (λ (k : ℕ). Within k []) m.number in
      let same : place_of_row r.row ≡ at_file p.file p.offset = one_place docs (place_of_row r.row) (at_file p.file p.offset) (Within n []) (within_entry n []) named is.named in
      let flag : is_movable (units_of docs) t ≡ true = (movable_decides (units_of docs) t m.is_top).1 (subst (Movable (units_of docs)) (sym m.number) m) in
      none t.number r.row r.there (flag_is t.number r.row t m.is_top refl r.there ∙ flag, ap (λ (w : Place). w.file) same, ap (λ (w : Place). w.at) same)
