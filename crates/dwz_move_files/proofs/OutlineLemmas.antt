-- What is gathered of all tops shows them, also with the flags of those that may move.
use Rattle.std.proofs.Common.{◌≡◌, ◌↔◌, ℕ, zero, suc, ◌<◌, ◌≤◌, ◌^◌, Bool, true, false, All, List, [], ◌∷◌, length, map, Some, Result, Ok, Err, slice_get, refl}
use Rattle.std.proofs.Common.{sym, ap, subst, ◌∙◌, inl, inr, ⊎_elim, arith}
use Rattle.std.specs.Prelude.{IfOk, slice_index_or}
use Rattle.std.proofs.lemmas.Bool.{cases_lt, false≢true}
use Rattle.dwz_def_tops.specs.Alike.{binds_itself, refers_to}
use Rattle.dwz_def_tops.specs.Deciding.{AreMovable}
use Rattle.dwz_def_tops.specs.Spots.{EntryName, FileUnit, Top, Within, tops_of, units_of}
use Rattle.dwz_def_tops.specs.Targets.{targets_of}
use Rattle.dwz_def_tops.proofs.IntoLemmas.{targets_find, targets_found}
use Rattle.dwz_def_tops.proofs.TopNumbers.{top_there}
use Rattle.dwz_def_tops.proofs.Targets.{binds_false}
use Rattle.dwz_def_reading.specs.Lists.{In}
use Rattle.dwz_def_reading.proofs.ListFacts.{got_below, got_index_or, got_there}
use Rattle.dwz_plan.specs.Gaining.{weight_at, weights_of}
use Rattle.dwz_plan.specs.Groups.{IsWeight}
use Rattle.dwz_groups.specs.declared.groups.Edge.{Edge}
use Rattle.dwz_groups.specs.declared.tops.TopRow.{TopRow}
use Rattle.dwz_groups.specs.declared.tops.Tops.{Tops}
use Rattle.dwz_groups.specs.Groups.{grouped}
use Rattle.dwz_def_reading.specs.Documents.{Doc}
use Rattle.dwz_model.specs.declared.place.Place.{Place}
use Rattle.dwz_move.specs.BoundTops.{AreSeeds, ShowTargets}
use Rattle.dwz_move.proofs.MovableLemmas.{flag_movable}
use Rattle.dwz_def_plan.specs.Gain.{top_weight}
use Rattle.dwz_plan.specs.Shows.{ShowsRows, ShowsTop, ShowsTops, may_move}
use Rattle.dwz_def_tops.specs.UnitNames.{name_of_place}
use Rattle.dwz_def_reading.specs.Places.{at_file}
use Rattle.dwz_groups.specs.Spreading.{AreInside}
use Rattle.dwz_groups.proofs.MarkLemmas.{grouped_length}
use Rattle.dwz_move_files.specs.declared.draft.Draft.{Draft}
use Rattle.dwz_move_files.specs.Drafts.{IsDraft, IsGathered}
use Rattle.dwz_move_files.specs.Outlines.{AreTops, IsOutline, StandsFor}
use Rattle.dwz_move_files.specs.Rows.{with_flags}
use Rattle.dwz_move_files.proofs.FilesLow.{files_low}
use Rattle.dwz_move_files.proofs.ListParts.{all_after}
use Rattle.dwz_move_files.proofs.PairLemmas.{grouped_at, keys_low}

-- ---- items by their numbers

none_index : {X : Type 0} (xs : List X) (i : ℕ) (d : X) → length xs ≤ i → slice_index_or xs i d ≡ d
none_index [] i d le = refl
none_index (y ∷ xs) zero d le = absurd (omega arith)
none_index (y ∷ xs) (suc i) d le = none_index xs i d (omega arith)

all_in : (m : ℕ) (ns : List ℕ) → All (λ n. n < m) ns → (n : ℕ) → In n ns → n < m
all_in m [] h n there = absurd there
all_in m (k ∷ ns) h n (inl e) = (let lt = h 0 k (omega arith) in omega (arith, e))
all_in m (k ∷ ns) h n (inr later) = all_in m ns (all_after (λ (n : ℕ). n < m) k ns h) n later

-- ---- rows with flags

flags_long : (rows : List TopRow) (flags : List Bool) → length flags ≡ length rows → length (with_flags rows flags) ≡ length rows
unfolding with_flags
flags_long [] [] e = refl
flags_long [] (b ∷ flags) e = absurd (omega (arith, e))
flags_long (row ∷ rows) [] e = absurd (omega (arith, e))
flags_long (row ∷ rows) (b ∷ flags) e = ap suc (flags_long rows flags (omega (arith, e)))

flags_back : (rows : List TopRow) (flags : List Bool) → length flags ≡ length rows → map (λ row. row.movable) (with_flags rows flags) ≡ flags
unfolding with_flags
flags_back [] [] e = refl
flags_back [] (b ∷ flags) e = absurd (omega (arith, e))
flags_back (row ∷ rows) [] e = absurd (omega (arith, e))
flags_back (row ∷ rows) (b ∷ flags) e = ap (λ (w : List Bool). b ∷ w) (flags_back rows flags (omega (arith, e)))

-- but for the flag a row is as it was
record SameRow (rows : List TopRow) (k : ℕ) (row : TopRow) : Type 0 where
  old : TopRow
  there : slice_get rows k ≡ Some old
  place : row.place ≡ old.place
  unit : row.unit ≡ old.unit
  weight : row.weight ≡ old.weight
  pinned : row.pinned ≡ old.pinned

flags_row : (rows : List TopRow) (flags : List Bool) (k : ℕ) (row : TopRow) → slice_get (with_flags rows flags) k ≡ Some row → SameRow rows k row
unfolding with_flags
flags_row [] flags k row e = absurd cc
flags_row (old ∷ rows) [] k row e = absurd cc
flags_row (old ∷ rows) (b ∷ flags) zero row e =
    let same : row ≡ record old { movable = b } = (let back : record old { movable = b } ≡ row = cc in sym back) in
    record {
      old = old;
      there = refl;
      place = ap (λ (w : TopRow). w.place) same;
      unit = ap (λ (w : TopRow). w.unit) same;
      weight = ap (λ (w : TopRow). w.weight) same;
      pinned =
          ap (λ (w : TopRow). w.pinned) same;
    }
flags_row (old ∷ rows) (b ∷ flags) (suc k) row e = let r = flags_row rows flags k row e in record { old = r.old; there = r.there; place = r.place; unit = r.unit; weight = r.weight; pinned = r.pinned }

own_row : (rows : List TopRow) (k : ℕ) (row : TopRow) → slice_get rows k ≡ Some row → SameRow rows k row
own_row rows k row e = record { old = row; there = e; place = refl; unit = refl; weight = refl; pinned = refl }

all_still : (rows : List TopRow) (n : ℕ) → All (λ row. row.movable ≡ false) rows → may_move rows n ≡ false
all_still [] n h = refl
all_still (row ∷ rows) zero h = h 0 row (omega arith)
all_still (row ∷ rows) (suc n) h = all_still rows n (all_after (λ (r : TopRow). r.movable ≡ false) row rows h)

-- ---- one row for each top

shows_rows : (units : List (FileUnit EntryName)) (rows : List TopRow) (tops : List Top) → length rows ≡ length tops
    → ((k : ℕ) (row : TopRow) (t : Top) → slice_get rows k ≡ Some row → slice_get tops k ≡ Some t → ShowsTop units row t) → ShowsRows units rows tops
shows_rows units [] [] e h = tt
shows_rows units [] (t ∷ tops) e h = absurd (omega (arith, e))
shows_rows units (row ∷ rows) [] e h = absurd (omega (arith, e))
shows_rows units (row ∷ rows) (t ∷ tops) e h = (h 0 row t refl refl, shows_rows units rows tops (omega (arith, e)) (λ k r s p q. h (suc k) r s p q))

stands_for : (docs : List (Doc ℕ)) (rows : List TopRow) (tops : List Top) → length rows ≡ length tops
    → ((k : ℕ) (row : TopRow) (t : Top) → slice_get rows k ≡ Some row → slice_get tops k ≡ Some t → name_of_place docs (at_file row.place.file row.place.offset) ≡ Within t.number [])
    → StandsFor docs rows tops
stands_for docs [] [] e h = tt
stands_for docs [] (t ∷ tops) e h = absurd (omega (arith, e))
stands_for docs (row ∷ rows) [] e h = absurd (omega (arith, e))
stands_for docs (row ∷ rows) (t ∷ tops) e h = (h 0 row t refl refl, stands_for docs rows tops (omega (arith, e)) (λ k r s p q. h (suc k) r s p q))

weight_got : (rows : List TopRow) (k : ℕ) (row : TopRow) → slice_get rows k ≡ Some row → weight_at (weights_of rows) k ≡ row.weight
weight_got [] k row e = absurd cc
weight_got (r ∷ rows) zero row e = ap (λ (w : TopRow). w.weight) (let same : r ≡ row = cc in same)
weight_got (r ∷ rows) (suc k) row e = weight_got rows k row e

-- ---- all tops are gathered

pub few_rows : {E : Type 0} (docs : List (Doc ℕ)) (r : Result Draft E) → IfOk r (IsDraft docs 0 (length (tops_of (units_of docs)))) → IfOk r (λ draft. length (tops_of (units_of docs)) < 2 ^ 32)
    → IfOk r (λ draft. length draft.rows.items < 2 ^ 32)
few_rows docs (Ok draft) d few = (let e = d.rows_len in omega arith)
few_rows docs (Err e) d few = tt

module _ (docs : List (Doc ℕ)) (draft : Draft) (d : IsDraft docs 0 (length (tops_of (units_of docs))) draft) where
  abbrev units : List (FileUnit EntryName)
  units = units_of docs

  abbrev tops : List Top
  tops = tops_of (units_of docs)

  abbrev count : ℕ
  count = length (tops_of (units_of docs))

  -- what is gathered of a top
  record Of (n : ℕ) (t : Top) : Type 0 where
    row : TopRow
    binds : Bool
    ts : List ℕ
    row_there : slice_get draft.rows.items n ≡ Some row
    binds_there : slice_get draft.binds.items n ≡ Some binds
    ts_there : slice_get d.targets n ≡ Some ts
    is : IsGathered docs row binds ts t

  of_number : (n : ℕ) (t : Top) → slice_get tops n ≡ Some t → Of n t
  of_number n t e =
      let lt = got_below tops n t e in
      let a = d.rows_len in
      let b = d.binds_len in
      let c = d.targets_len in
      let row = got_there draft.rows.items n (omega arith) in
      let binds = got_there draft.binds.items n (omega arith) in
      let ts = got_there d.targets n (omega arith) in
      record { row = row.0; binds = binds.0; ts = ts.0; row_there = row.1; binds_there = binds.1; ts_there = ts.1; is = d.each n n t row.0 binds.0 ts.0 (omega arith) e row.1 binds.1 ts.1 }

  of_top : (t : Top) → In t tops → Of t.number t
  of_top t there = of_number t.number t (top_there units t there)

  are_seeds : AreSeeds units draft.binds.items
  are_seeds = record {
    len = d.binds_len;
    each = λ t there. (let o = of_top t there in got_index_or draft.binds.items t.number o.binds false o.binds_there ∙ o.is.binds_is);
  }

  pub keys_within : All (λ p. p.key < length draft.rows.items) draft.pairs.items
  keys_within =
      let a = d.rows_len in
      let b = d.targets_len in
      subst (λ (w : List Edge). All (λ p. p.key < length draft.rows.items) w) (sym d.pairs_are) (keys_low (length draft.rows.items) 0 d.targets (omega arith))

  still : All (λ row. row.movable ≡ false) draft.rows.items
  still k e lt =
      let a = d.rows_len in
      let t = got_there tops k (omega arith) in
      let o = of_number k t.0 t.1 in
      subst (λ (w : TopRow). w.movable ≡ false) (sym (got_index_or draft.rows.items k o.row e o.row_there)) o.is.row_is.still

  module _ (targets : List (List ℕ)) (grouped_is : targets ≡ grouped (length draft.rows.items) draft.pairs.items) where
    pub long : length targets ≡ count
    long = ap (λ (w : List (List ℕ)). length w) grouped_is ∙ grouped_length (length draft.rows.items) draft.pairs.items ∙ d.rows_len

    under : (n : ℕ) → n < count → slice_index_or targets n [] ≡ slice_index_or d.targets n []
    under n lt =
        let a = d.rows_len in
        ap (λ (w : List (List ℕ)). slice_index_or w n []) (grouped_is ∙ ap (grouped (length draft.rows.items)) d.pairs_are)
        ∙ grouped_at (length draft.rows.items) n d.targets (omega arith)

    targets_are : (t : Top) → In t tops → binds_itself units t ≡ false → slice_index_or targets t.number [] ≡ targets_of t
    targets_are t there free =
        let o = of_top t there in
        let lt = got_below tops t.number t (top_there units t there) in
        under t.number lt ∙ got_index_or d.targets t.number o.ts [] o.ts_there ∙ o.is.targets_are (o.is.binds_is ∙ free)

    none_are : (t : Top) → In t tops → binds_itself units t ≡ true → slice_index_or targets t.number [] ≡ []
    none_are t there bound =
        let o = of_top t there in
        let lt = got_below tops t.number t (top_there units t there) in
        under t.number lt ∙ got_index_or d.targets t.number o.ts [] o.ts_there ∙ o.is.none (o.is.binds_is ∙ bound)

    shown_targets : ShowTargets units targets
    shown_targets = record {
      len = long;
      each = λ t there free n. (
          let same = targets_are t there free in
          (λ h. targets_find n t (subst (λ (w : List ℕ). In n w) same h), λ h. subst (λ (w : List ℕ). In n w) (sym same) (targets_found n t h)));
    }

    pub inside : AreInside targets
    inside m n there = ⊎_elim
        (λ lt. (
        let t = got_there tops m lt in
        let o = of_number m t.0 t.1 in
        let here : In n o.ts = subst (λ (w : List ℕ). In n w) (under m lt ∙ got_index_or d.targets m o.ts [] o.ts_there) there in
        let low = all_in count o.ts o.is.inside n here in
        let len = long in
        omega arith))
        (λ ge. absurd (let len = long in let none : slice_index_or targets m [] ≡ [] = none_index targets m [] (omega arith) in subst (λ (w : List ℕ). In n w) none there))
        (cases_lt m count)

    -- what is asked where flags are made, and what they say
    module _ (seeds : List Bool) (seeds_are : seeds ≡ draft.binds.items) where
      pub seeds_many : length seeds ≡ length targets
      seeds_many = ap (λ (w : List Bool). length w) seeds_are ∙ d.binds_len ∙ sym long

      pub are_movable : (flags : List Bool) → ((us : List (FileUnit EntryName)) → ShowTargets us targets → AreSeeds us seeds → AreMovable us flags) → AreMovable units flags
      are_movable flags gives = gives units shown_targets (subst (AreSeeds units) (sym seeds_are) are_seeds)

    -- rows of which each is that of its top but for the flag, which is set of no top that binds itself
    module _ (rows : List TopRow) (rows_len : length rows ≡ count) (same : (k : ℕ) (row : TopRow) → slice_get rows k ≡ Some row → SameRow draft.rows.items k row)
        (free : (t : Top) → In t tops → may_move rows t.number ≡ true → binds_itself units t ≡ false) where
      -- a row that shows its top
      record Shown (n : ℕ) (row : TopRow) (t : Top) : Type 0 where
        from : SameRow draft.rows.items n row
        binds : Bool
        ts : List ℕ
        is : IsGathered docs from.old binds ts t

      shown : (n : ℕ) (row : TopRow) (t : Top) → slice_get rows n ≡ Some row → slice_get tops n ≡ Some t → Shown n row t
      shown n row t e there =
          let r = same n row e in
          let o = of_number n t there in
          let own : o.row ≡ r.old = (let both : Some o.row ≡ Some r.old = sym o.row_there ∙ r.there in cc) in
          record { from = r; binds = o.binds; ts = o.ts; is = subst (λ (w : TopRow). IsGathered docs w o.binds o.ts t) own o.is }

      row_shows : (k : ℕ) (row : TopRow) (t : Top) → slice_get rows k ≡ Some row → slice_get tops k ≡ Some t → ShowsTop units row t
      row_shows k row t e there = let s = shown k row t e there in record { unit = s.from.unit ∙ s.is.row_is.unit; pinned = s.from.pinned ∙ s.is.row_is.pinned }

      row_stands : (k : ℕ) (row : TopRow) (t : Top) → slice_get rows k ≡ Some row → slice_get tops k ≡ Some t → name_of_place docs (at_file row.place.file row.place.offset) ≡ Within t.number []
      row_stands k row t e there = let s = shown k row t e there in ap (λ (p : Place). name_of_place docs (at_file p.file p.offset)) s.from.place ∙ s.is.row_is.place

      row_weighs : (t : Top) → In t tops → IsWeight (weight_at (weights_of rows) t.number) (top_weight t)
      row_weighs t there =
          let here = top_there units t there in
          let lt = got_below tops t.number t here in
          let len = rows_len in
          let row = got_there rows t.number (omega arith) in
          let s = shown t.number row.0 t row.1 here in
          subst (λ (w : ℕ). IsWeight w (top_weight t)) (sym (weight_got rows t.number row.0 row.1 ∙ s.from.weight)) s.is.row_is.weight

      shows : (x : Tops) → x.rows ≡ rows → x.targets ≡ targets → x.files_of_units ≡ map (λ f. f.file) units → x.files ≡ length docs → ShowsTops units x
      shows x rows_are targets_so units_are files_are = record {
        rows = subst (λ (w : List TopRow). ShowsRows units w tops) (sym rows_are) (shows_rows units rows tops rows_len row_shows);
        weights = λ t there. subst (λ (w : List TopRow). IsWeight (weight_at (weights_of w) t.number) (top_weight t)) (sym rows_are) (row_weighs t there);
        len = ap (λ (w : List (List ℕ)). length w) targets_so ∙ long;
        targets = λ t there e n.
            subst (λ (w : List (List ℕ)). In n (slice_index_or w t.number []) ↔ (refers_to n t ≡ true)) (sym targets_so)
            (shown_targets.each t there (free t there (ap (λ (w : List TopRow). may_move w t.number) (sym rows_are) ∙ e)) n);
        files_of_units = units_are;
        files = subst (λ (w : List ℕ). All (λ file. file < x.files) w) (sym units_are) (files_low docs x.files (omega (arith, files_are)));
      }

      places : (x : Tops) → x.rows ≡ rows → StandsFor docs x.rows tops
      places x rows_are = subst (λ (w : List TopRow). StandsFor docs w tops) (sym rows_are) (stands_for docs rows tops rows_len row_stands)

    -- none is said to move
    unset : (t : Top) → In t tops → may_move draft.rows.items t.number ≡ true → binds_itself units t ≡ false
    unset t there e = absurd (false≢true (sym (all_still draft.rows.items t.number still) ∙ e))

    tops_are : (x : Tops) → x.rows ≡ draft.rows.items → x.targets ≡ targets → x.files_of_units ≡ map (λ f. f.file) units → x.files ≡ length docs → AreTops docs x
    tops_are x rows_are targets_so units_are files_are = record {
      shows = shows draft.rows.items d.rows_len (own_row draft.rows.items) unset x rows_are targets_so units_are files_are;
      places = places draft.rows.items d.rows_len (own_row draft.rows.items) unset x rows_are;
      still = subst (λ (w : List TopRow). All (λ row. row.movable ≡ false) w) (sym rows_are) still;
      targets = λ t there e. ap (λ (w : List (List ℕ)). slice_index_or w t.number []) targets_so ∙ targets_are t there e;
      bound = λ t there e. ap (λ (w : List (List ℕ)). slice_index_or w t.number []) targets_so ∙ none_are t there e;
      inside = subst AreInside (sym targets_so) inside;
      files = files_are;
    }

    pub all_tops : {E : Type 0} (r : Result Tops E) → IfOk r (λ x. x.rows ≡ draft.rows.items) → IfOk r (λ x. x.targets ≡ targets) → IfOk r (λ x. x.files_of_units ≡ map (λ f. f.file) units)
        → IfOk r (λ x. x.files ≡ length docs) → IfOk r (AreTops docs)
    all_tops (Ok x) rows_are targets_so units_are files_are = tops_are x rows_are targets_so units_are files_are
    all_tops (Err e) rows_are targets_so units_are files_are = tt

    -- those are that may
    module _ (flags : List Bool) (movable : AreMovable units flags) where
      flags_len : length flags ≡ length draft.rows.items
      flags_len = movable.len ∙ sym d.rows_len

      rows_len : length (with_flags draft.rows.items flags) ≡ count
      rows_len = flags_long draft.rows.items flags flags_len ∙ d.rows_len

      -- a top that may move doesn't bind itself
      free : (t : Top) → In t tops → may_move (with_flags draft.rows.items flags) t.number ≡ true → binds_itself units t ≡ false
      free t there e =
          let moves_so : slice_index_or flags t.number false ≡ true = ap (λ (w : List Bool). slice_index_or w t.number false) (sym (flags_back draft.rows.items flags flags_len)) ∙ e in
          binds_false units t there ((flag_movable units flags movable t there).0 moves_so)

      pub outline_is : (x : Tops) → x.rows ≡ with_flags draft.rows.items flags → x.targets ≡ targets → x.files_of_units ≡ map (λ f. f.file) units → x.files ≡ length docs → IsOutline docs x
      outline_is x rows_are targets_so units_are files_are = record {
        shows = shows (with_flags draft.rows.items flags) rows_len (flags_row draft.rows.items flags) free x rows_are targets_so units_are files_are;
        places = places (with_flags draft.rows.items flags) rows_len (flags_row draft.rows.items flags) free x rows_are;
        movable = subst (λ (w : List TopRow). AreMovable units (map (λ row. row.movable) w)) (sym rows_are) (subst (AreMovable units) (sym (flags_back draft.rows.items flags flags_len)) movable);
        targets = λ t there e. ap (λ (w : List (List ℕ)). slice_index_or w t.number []) targets_so ∙ targets_are t there e;
        inside = subst AreInside (sym targets_so) inside;
      }
