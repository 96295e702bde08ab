-- A file has its flag exactly where one of its tops leaves its unit: top by top, and then by the plan.
use Rattle.std.proofs.Common.{◌≡◌, ◌↔◌, ◌⊎◌, ℕ, zero, suc, ◌+◌, ◌<◌, ◌≤◌, ◌++◌, ◌==◌, ◌&&◌, not, Bool, true, false, List, [], ◌∷◌, Option, Some, length, map, get_or, slice_get, refl, sym, ap, subst, ◌∙◌, inl}
use Rattle.std.proofs.Common.{inr, ⊎_elim, arith, eqb-true, eq-eqb}
use Rattle.std.specs.Prelude.{replicate, slice_index_or}
use Rattle.std.proofs.lemmas.Bool.{and_from, and_parts}
use Rattle.std.proofs.lemmas.Option.{slice_get-get_or}
use Rattle.dwz_def_reading.specs.Lists.{In}
use Rattle.dwz_def_reading.proofs.ListFacts.{get_first, got_below, replicate_long}
use Rattle.dwz_def_reading.proofs.CaseFacts.{same_test}
use Rattle.dwz_def_reading.specs.Documents.{Doc}
use Rattle.dwz_def_tops.proofs.Members.{any_from, any_true}
use Rattle.dwz_def_tops.specs.Spots.{EntryName, FileUnit, Top, file_numbers, tops_of, units_of}
use Rattle.dwz_def_tops.proofs.TopNumbers.{Numbered, tops_numbers}
use Rattle.dwz_def_tops.proofs.TopOrder.{unit_file}
use Rattle.dwz_groups.specs.declared.tops.TopRow.{TopRow}
use Rattle.dwz_groups.specs.declared.tops.Tops.{Tops}
use Rattle.dwz_def_images.specs.Moves.{Move}
use Rattle.dwz_plan.specs.declared.plan.Home.{Home as Place}
use Rattle.dwz_plan.specs.declared.plan.Home.TheVariants.{Common as InCommon, Local as InFile, Stay as InUnit}
use Rattle.dwz_plan.specs.Planned.{Planned}
use Rattle.dwz_plan.specs.Shows.{ShowsRows}
use Rattle.dwz_plan.specs.ShowsMove.{IsPlaceIn}
use Rattle.dwz_def_images.specs.Units.{changes}
use Rattle.dwz_groups.specs.Spreading.{IsMarked}
use Rattle.dwz_move.specs.Marked.{Marks, if_asked}
use Rattle.dwz_layout_order.specs.Behind.{ArePlannedFirst, StandFirst}
use Rattle.dwz_layout_order.specs.Marks.{stays_in}

-- ---- the top before that number leaves its unit, which is of the file

pub record Leaves (rows : List TopRow) (homes : List Place) (files : List ℕ) (k file : ℕ) : Type 0 where
  pub row : TopRow
  pub there : slice_get rows k ≡ Some row
  pub gone : not (stays_in (slice_index_or homes k InUnit)) ≡ true
  pub file_is : slice_get files row.unit ≡ Some file

abbrev pub Before : List TopRow → List Place → List ℕ → (i file : ℕ) → Type 0
Before rows homes files i file = (k : ℕ) × (k < i) × Leaves rows homes files k file

-- of the first so many tops
pub record Flagged (rows : List TopRow) (homes : List Place) (files : List ℕ) (count i : ℕ) (flags : List Bool) : Type 0 where
  pub len : length flags ≡ count
  pub each : (file : ℕ) → file < count → IsMarked flags file ↔ Before rows homes files i file

pub none_set : (n k : ℕ) → slice_index_or (replicate n false) k false ≡ true → ⊥
none_set zero k e = cc
none_set (suc n) zero e = cc
none_set (suc n) (suc k) e = none_set n k e

pub none_flagged : (rows : List TopRow) (homes : List Place) (files : List ℕ) (count : ℕ) (flags : List Bool) → flags ≡ replicate count false → Flagged rows homes files count 0 flags
none_flagged rows homes files count flags e =
    subst (λ (w : List Bool). Flagged rows homes files count 0 w) (sym e) (record {
      len = replicate_long count;
      each = λ file lt. (λ h. absurd (none_set count file h), λ b. absurd (let low = b.1 in omega arith));
    })

some_is : (m n : ℕ) → Some m ≡ Some n → m ≡ n
some_is m n e = cc

-- what was asked of the mark
asked : (b : Bool) (o : Option ℕ) (n : ℕ) → In (Some n) (if_asked b o) → (b ≡ true) × (o ≡ Some n)
asked true o n (inl e) = (refl, e)
asked true o n (inr later) = absurd later
asked false o n h = absurd h

was_asked : (b : Bool) (o : Option ℕ) (n : ℕ) → b ≡ true → o ≡ Some n → In (Some n) (if_asked b o)
was_asked true o n e f = inl f
was_asked false o n e f = absurd cc

pub flag_more : (rows : List TopRow) (homes : List Place) (files : List ℕ) (count i : ℕ) (d : TopRow) (b : Bool) (o : Option ℕ) (old new : List Bool) → i < length rows
    → b ≡ not (stays_in (slice_index_or homes i InUnit)) → o ≡ slice_get files (get_or rows i d).unit → Flagged rows homes files count i old → Marks (if_asked b o) old new
    → Flagged rows homes files count (i + 1) new
flag_more rows homes files count i d b o old new lt b_is o_is h m =
    let here = slice_get-get_or rows i d lt in
    record {
      len = m.len ∙ h.len;
      each = λ file low. (
          let within : file < length old = (let long = h.len in omega arith) in (
            λ mark. ⊎_elim
                (λ was. (let r = (h.each file low).0 was in let below = r.1 in (r.0, omega arith, r.2)))
                (λ asks. (let a = asked b o file asks in (i, omega arith, record { row = get_or rows i d; there = here; gone = sym b_is ∙ a.0; file_is = sym o_is ∙ a.1 })))
                ((m.each file within).0 mark),
            λ before. (m.each file within).1 (by file low before (cases before.0 before.1)),
          ));
    }
  where
    cases : (k : ℕ) → k < i + 1 → (k < i) ⊎ (k ≡ i)
    cases k low = grind arith

    by : (file : ℕ) → file < count → (before : Before rows homes files (i + 1) file) → (before.0 < i) ⊎ (before.0 ≡ i) → IsMarked old file ⊎ In (Some file) (if_asked b o)
    by file low before (inl less) = inl ((h.each file low).1 (before.0, less, before.2))
    by file low before (inr same) =
        let l = before.2 in
        let at : slice_get rows i ≡ Some l.row = ap (slice_get rows) (sym same) ∙ l.there in
        let row_is : get_or rows i d ≡ l.row = (let both = sym (slice_get-get_or rows i d lt) ∙ at in cc) in
        inr (was_asked b o file
        (b_is ∙ ap (λ (k : ℕ). not (stays_in (slice_index_or homes k InUnit))) (sym same) ∙ l.gone)
        (o_is ∙ ap (λ (w : TopRow). slice_get files w.unit) row_is ∙ l.file_is))

-- ---- by the plan

place_gone : (m : Move) (n : ℕ) (p : Place) → IsPlaceIn m n p → not (stays_in p) ≡ m.gone n
place_gone m n (InCommon p) is = sym is.0
place_gone m n (InFile p) is = sym is.1
place_gone m n InUnit is = sym is

-- the row of a top, and the top of a row
row_there : (units : List (FileUnit EntryName)) (n : ℕ) (rows : List TopRow) (tops : List Top) → ShowsRows units rows tops → Numbered n tops → (t : Top) → In t tops
    → (k : ℕ) × (t.number ≡ n + k) × ((row : TopRow) × (slice_get rows k ≡ Some row) × (row.unit ≡ t.unit))
row_there units n [] [] h m t there = absurd there
row_there units n [] (u ∷ tops) h m t there = absurd h
row_there units n (row ∷ rows) [] h m t there = absurd there
row_there units n (row ∷ rows) (u ∷ tops) h m t (inl e) =
    let first = m.0 in
    let same = ap (λ (w : Top). w.number) e in
    (0, omega arith, (row, refl, h.0.unit ∙ ap (λ (w : Top). w.unit) e))
row_there units n (row ∷ rows) (u ∷ tops) h m t (inr later) =
    let r = row_there units (suc n) rows tops h.1 m.1 t later in
    let at = r.1 in
    (suc r.0, omega arith, r.2)

top_there : (units : List (FileUnit EntryName)) (n : ℕ) (rows : List TopRow) (tops : List Top) → ShowsRows units rows tops → Numbered n tops → (k : ℕ) (row : TopRow) → slice_get rows k ≡ Some row
    → (t : Top) × In t tops × (t.number ≡ n + k) × (row.unit ≡ t.unit)
top_there units n [] [] h m k row e = absurd cc
top_there units n [] (u ∷ tops) h m k row e = absurd h
top_there units n (x ∷ rows) [] h m k row e = absurd h
top_there units n (x ∷ rows) (u ∷ tops) h m zero row e = (u, inl refl, (let first = m.0 in omega arith), ap (λ (w : TopRow). w.unit) (let same : row ≡ x = cc in same) ∙ h.0.unit)
top_there units n (x ∷ rows) (u ∷ tops) h m (suc k) row e =
    let r = top_there units (suc n) rows tops h.1 m.1 k row e in
    let at = r.2 in
    (r.0, inr r.1, omega arith, r.3)

pub flags_are : (f : ℕ → Bool) (flags : List Bool) (s : ℕ) (docs : List (Doc ℕ)) → length flags ≡ length docs → ((k : ℕ) → k < length docs → slice_index_or flags k false ≡ f (s + k))
    → flags ≡ map f (file_numbers s docs)
unfolding file_numbers
flags_are f [] s [] len h = refl
flags_are f [] s (d ∷ docs) len h = absurd (omega arith)
flags_are f (b ∷ flags) s [] len h = absurd (omega arith)
flags_are f (b ∷ flags) s (d ∷ docs) len h =
    let first : b ≡ f s = h 0 (omega arith) ∙ (let z : s + 0 ≡ s = omega arith in ap f z) in
    let more = flags_are f flags (suc s) docs (omega arith) (λ k lt. h (suc k) (omega arith) ∙ (let z : s + suc k ≡ suc s + k = omega arith in ap f z)) in
    (λ i. first i ∷ more i)

-- it is one of the first, or behind these
first_or_behind : {X : Type 0} (xs ys : List X) (k : ℕ) (x : X) → slice_get (xs ++ ys) k ≡ Some x → (slice_get xs k ≡ Some x) ⊎ (length xs ≤ k)
first_or_behind [] ys k x e = inr (omega arith)
first_or_behind (z ∷ xs) ys zero x e = inl e
first_or_behind (z ∷ xs) ys (suc k) x e = elim (first_or_behind xs ys k x e) [ inl a ↦ inl a | inr b ↦ inr (omega arith) ]

module _ (docs : List (Doc ℕ)) (m : Move) (tops : Tops) (plan : Planned) (planned : ArePlannedFirst m (units_of docs) (length docs) tops plan) where
  abbrev units : List (FileUnit EntryName)
  units = units_of docs

  abbrev first : StandFirst (units_of docs) tops
  first = planned.rows

  gone_at : (t : Top) → In t (tops_of (units_of docs)) → (k : ℕ) → t.number ≡ k → not (stays_in (slice_index_or plan.homes k InUnit)) ≡ m.gone t.number
  gone_at t there k at =
      ap (λ (n : ℕ). not (stays_in (slice_index_or plan.homes n InUnit))) (sym at)
      ∙ place_gone m t.number (slice_index_or plan.homes t.number InUnit) (planned.moves.homes t there)

  file_at : (t : Top) → In t (tops_of (units_of docs)) → (row : TopRow) → row.unit ≡ t.unit → slice_get tops.files_of_units row.unit ≡ Some t.file
  file_at t there row same =
      ap (λ (fs : List ℕ). slice_get fs row.unit) first.files_of_units
      ∙ get_first first.own.files_of_units first.files_behind row.unit t.file
      (ap (slice_get first.own.files_of_units) same
      ∙ ap (λ (fs : List ℕ). slice_get fs t.unit) first.shows.files_of_units
      ∙ unit_file units t there)

  -- a row whose top leaves its unit is one of the first
  own_row : (k file : ℕ) → (l : Leaves tops.rows plan.homes tops.files_of_units k file) → slice_get first.own.rows k ≡ Some l.row
  own_row k file l =
      elim (first_or_behind first.own.rows first.rows_behind k l.row (sym (ap (λ (rs : List TopRow). slice_get rs k) first.rows) ∙ l.there)) [
        | inl own ↦ own
        | inr behind ↦ absurd (let no : false ≡ true = ap (λ (p : Place). not (stays_in p)) (sym (planned.stay k behind)) ∙ l.gone in cc)
      ]

  changes_so : (file : ℕ) → Before tops.rows plan.homes tops.files_of_units (length tops.rows) file → changes m (units_of docs) file ≡ true
  unfolding changes
  changes_so file b =
      let l = b.2 in
      let r = top_there units 0 first.own.rows (tops_of units) first.shows.rows (tops_numbers units) b.0 l.row (own_row b.0 file l) in
      let t = r.0 in
      let at : t.number ≡ b.0 = (let e = r.2 in omega arith) in
      let leaves : m.gone t.number ≡ true = sym (gone_at t r.1 b.0 at) ∙ l.gone in
      let same : t.file ≡ file = (let both = sym (file_at t r.1 l.row r.3) ∙ l.file_is in cc) in
      any_true (λ u. u.file == file && m.gone u.number) t (tops_of units) r.1 (and_from (t.file == file) (m.gone t.number) (eq-eqb t.file file same) leaves)

  so_changes : (file : ℕ) → changes m (units_of docs) file ≡ true → Before tops.rows plan.homes tops.files_of_units (length tops.rows) file
  unfolding changes
  so_changes file e =
      let p = any_from (λ u. u.file == file && m.gone u.number) (tops_of units) e in
      let t = p.one in
      let both = and_parts (t.file == file) (m.gone t.number) p.passes in
      let r = row_there units 0 first.own.rows (tops_of units) first.shows.rows (tops_numbers units) t p.there in
      let at : t.number ≡ r.0 = (let e = r.1 in omega arith) in
      let row = r.2 in
      let there : slice_get tops.rows r.0 ≡ Some row.0 = ap (λ (rs : List TopRow). slice_get rs r.0) first.rows ∙ get_first first.own.rows first.rows_behind r.0 row.0 row.1 in (
        r.0,
        got_below tops.rows r.0 row.0 there,
        record {
          row = row.0;
          there = there;
          gone = gone_at t p.there r.0 at ∙ both.1;
          file_is = file_at t p.there row.0 row.2 ∙ ap (λ (k : ℕ). Some k) (eqb-true t.file file both.0);
        },
      )

  pub flags_so : (count i : ℕ) (flags : List Bool) → length docs ≡ count → length tops.rows ≡ i → Flagged tops.rows plan.homes tops.files_of_units count i flags
      → flags ≡ map (changes m (units_of docs)) (file_numbers 0 docs)
  flags_so count i flags many all h =
      flags_are (changes m units) flags 0 docs (h.len ∙ sym many) (λ k lt.
      let each = h.each k (omega arith) in
      let at : k ≡ 0 + k = omega arith in
      same_test (slice_index_or flags k false) (changes m units k)
      (λ w. changes_so k (subst (λ (n : ℕ). Before tops.rows plan.homes tops.files_of_units n k) (sym all) (each.0 w)))
      (λ c. each.1 (subst (λ (n : ℕ). Before tops.rows plan.homes tops.files_of_units n k) all (so_changes k c)))
      ∙ ap (changes m units) at)
