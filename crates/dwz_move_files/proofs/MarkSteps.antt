-- What is marked after one step more.
use Rattle.std.proofs.Common.{◌≡◌, ◌↔◌, ◌⊎◌, ℕ, zero, suc, ◌+◌, ◌<◌, ◌≤◌, Bool, true, false, List, [], ◌∷◌, ◌++◌, length, map, take, get_or, Option, Some, None, Ok, slice_get, refl, sym, ap, subst}
use Rattle.std.proofs.Common.{◌∙◌, inl, inr, ⊎_elim, arith, if◌then◌else◌}
use Rattle.std.specs.Prelude.{◌||◌, replicate, slice_index_or}
use Rattle.std.specs.List.{list_any}
use Rattle.std.proofs.lemmas.Bool.{false≢true, or_cases}
use Rattle.std.proofs.lemmas.List.{append_assoc, map-append, replicate-append-replicate, take_all, take_more}
use Rattle.std.proofs.lemmas.List.Folds.{list_any-append}
use Rattle.std.proofs.lemmas.Option.{get_or_from_slice_get}
use Rattle.dwz_def_tops.specs.Alike.{any_attr}
use Rattle.dwz_def_tops.specs.Spots.{EntryName, FileUnit, tops_of}
use Rattle.dwz_def_tops.proofs.Targets.{or_first, or_second}
use Rattle.dwz_def_reading.specs.Units.{RawUnit}
use Rattle.dwz_def_reading.specs.Documents.{Attr, Doc, DwUnit, unit_map}
use Rattle.dwz_def_reading.specs.Meanings.{Around, MeanUnits}
use Rattle.dwz_def_reading.specs.Meant.{unit_meaning, units_meaning}
use Rattle.dwz_def_reading.proofs.MeaningUnits.{units_agree}
use Rattle.dwz_def_reading.proofs.UnitMeans.{unit_meant}
use Rattle.dwz_graph.specs.Across.{IsPart, starts_at, starts_from}
use Rattle.dwz_graph.specs.Index.{Index}
use Rattle.dwz_graph.specs.Indexed.{first_starts}
use Rattle.dwz_graph.proofs.ListGets.{take_part}
use Rattle.dwz_move_files.specs.Named.{AreFlags}
use Rattle.dwz_move.specs.Known.{in_unit, tops_of_refs}
use Rattle.dwz_def_reading.specs.Lists.{In}
use Rattle.dwz_def_reading.proofs.ListFacts.{got_below, got_there, in_cases, in_left, in_right, replicate_long}
use Rattle.dwz_def_reading.proofs.CaseFacts.{same_bool}
use Rattle.dwz_graph.specs.ListOperand.{ListOperand}
use Rattle.dwz_move.specs.Marked.{Marks, MarksIf, if_asked}
use Rattle.dwz_groups.specs.Spreading.{IsMarked}
use Rattle.dwz_move_files.specs.Lists.{entries_of, uleb_tops}

-- ---- none, one after the other, and by another name

pub marks_none : (Is : ℕ → Type 0) → ((n : ℕ) → Is n → ⊥) → (marks : List Bool) → MarksIf Is marks marks
marks_none Is none marks = record { len = refl; each = λ n lt. (λ h. inl h, λ h. ⊎_elim (λ x. x) (λ x. absurd (none n x)) h) }

pub marks_then : (Is Next All : ℕ → Type 0) (old now new : List Bool) → MarksIf Is old now → MarksIf Next now new → ((n : ℕ) → All n ↔ (Is n ⊎ Next n)) → MarksIf All old new
marks_then Is Next All old now new a b all = record {
  len = b.len ∙ a.len;
  each = λ n lt. (
      let p = a.each n lt in
      let same = a.len in
      let q = b.each n (omega arith) in
      let r = all n in (
        λ h. ⊎_elim (λ x. ⊎_elim (λ y. inl y) (λ y. inr (r.1 (inl y))) (p.0 x)) (λ x. inr (r.1 (inr x))) (q.0 h),
        λ h. ⊎_elim (λ x. q.1 (inl (p.1 (inl x)))) (λ x. ⊎_elim (λ y. q.1 (inl (p.1 (inr y)))) (λ y. q.1 (inr y)) (r.0 x)) h,
      ));
}

pub marks_same : (Is All : ℕ → Type 0) (old new : List Bool) → MarksIf Is old new → ((n : ℕ) → All n ↔ Is n) → MarksIf All old new
marks_same Is All old new a all = record {
  len = a.len;
  each = λ n lt. (
      let p = a.each n lt in
      let r = all n in
      (λ h. ⊎_elim (λ x. inl x) (λ x. inr (r.1 x)) (p.0 h), λ h. ⊎_elim (λ x. p.1 (inl x)) (λ x. p.1 (inr (r.0 x))) h));
}

-- ---- what passes among the first so many

pub any_more : {X : Type 0} (test : X → Bool) (xs ys zs : List X) → zs ≡ xs ++ ys → (list_any test zs ≡ true) ↔ ((list_any test xs ≡ true) ⊎ (list_any test ys ≡ true))
any_more test xs ys zs e =
    let same = ap (list_any test) e ∙ list_any-append test xs ys in (
      λ h. or_cases (list_any test xs) (list_any test ys) (sym same ∙ h),
      λ h. ⊎_elim (λ x. same ∙ or_first (list_any test xs) (list_any test ys) x)
          (λ x. same ∙ or_second (list_any test xs) (list_any test ys) x) h,
    )

pub any_one : (b : Bool) → ((b || false) ≡ true) ↔ (b ≡ true)
any_one true = (λ h. h, λ h. h)
any_one false = (λ h. h, λ h. h)

pub in_more : {X : Type 0} (x : X) (xs ys zs : List X) → zs ≡ xs ++ ys → In x zs ↔ (In x xs ⊎ In x ys)
in_more {X} x xs ys zs e = (λ h. in_cases x xs ys (subst (λ (w : List X). In x w) e h), λ h. subst (λ (w : List X). In x w) (sym e) (⊎_elim (λ a. in_left x xs ys a) (λ b. in_right x xs ys b) h))

-- ---- operands of lists, one after the other

pub ulebs_more : (rows : List ListOperand) (tops : List (Option ℕ)) (k : ℕ) (row : ListOperand) (t : Option ℕ) → slice_get rows k ≡ Some row → slice_get tops k ≡ Some t
    → uleb_tops (take (suc k) rows) (take (suc k) tops) ≡ uleb_tops (take k rows) (take k tops) ++ if_asked row.uleb t
ulebs_more [] tops k row t e f = absurd cc
ulebs_more (r ∷ rows) [] k row t e f = absurd cc
ulebs_more (r ∷ rows) (s ∷ tops) zero row t e f =
    let a : r ≡ row = cc in
    let b : s ≡ t = cc in
    by r.uleb ∙ (λ i. if_asked (a i).uleb (b i))
  where
    by : (x : Bool) → (if x then s ∷ [] else []) ≡ if_asked x s
    by true = refl
    by false = refl
ulebs_more (r ∷ rows) (s ∷ tops) (suc k) row t e f = by r.uleb (ulebs_more rows tops k row t e f) where
  by : (x : Bool) → uleb_tops (take (suc k) rows) (take (suc k) tops) ≡ uleb_tops (take k rows) (take k tops) ++ if_asked row.uleb t
      → (if x then s ∷ uleb_tops (take (suc k) rows) (take (suc k) tops) else uleb_tops (take (suc k) rows) (take (suc k) tops))
      ≡ (if x then s ∷ uleb_tops (take k rows) (take k tops) else uleb_tops (take k rows) (take k tops)) ++ if_asked row.uleb t
  by true h = ap (λ (w : List (Option ℕ)). s ∷ w) h
  by false h = h

pub first_any : (tops : List (Option ℕ)) (marks : List Bool) → Marks (take 0 tops) marks marks
first_any tops marks = marks_none (λ n. In (Some n) (take 0 tops)) (λ n h. h) marks

pub first_uleb : (rows : List ListOperand) (tops : List (Option ℕ)) (marks : List Bool) → Marks (uleb_tops (take 0 rows) (take 0 tops)) marks marks
first_uleb rows tops marks = marks_none (λ n. In (Some n) (uleb_tops (take 0 rows) (take 0 tops))) (λ n h. h) marks

pub next_any : (tops : List (Option ℕ)) (k : ℕ) (t : Option ℕ) → k < length tops → t ≡ slice_index_or tops k None → (old now new : List Bool) → Marks (take k tops) old now
    → Marks (if_asked true t) now new → Marks (take (k + 1) tops) old new
next_any tops k t lt e old now new a b =
    let more = take_more tops k None lt ∙ ap (λ (w : Option ℕ). take k tops ++ w ∷ []) (sym e) in
    marks_then (λ n. In (Some n) (take k tops)) (λ n. In (Some n) (t ∷ [])) (λ n. In (Some n) (take (k + 1) tops)) old now new a b
    (λ n. in_more (Some n) (take k tops) (t ∷ []) (take (k + 1) tops) more)

pub next_uleb : (rows : List ListOperand) (tops : List (Option ℕ)) (k : ℕ) (d : ListOperand) (t : Option ℕ) → k < length rows → k < length tops → t ≡ slice_index_or tops k None
    → (old now new : List Bool) → Marks (uleb_tops (take k rows) (take k tops)) old now → Marks (if_asked (get_or rows k d).uleb t) now new
    → Marks (uleb_tops (take (k + 1) rows) (take (k + 1) tops)) old new
next_uleb rows tops k d t low lt e old now new a b =
    let here = got_there rows k low in
    let row = get_or rows k d in
    let is = get_or_from_slice_get rows k here.0 d here.1 in
    let there = got_there tops k lt in
    let same = e ∙ get_or_from_slice_get tops k there.0 None there.1 in
    let one : k + 1 ≡ suc k = omega arith in
    let more = (λ i. uleb_tops (take (one i) rows) (take (one i) tops)) ∙ ulebs_more rows tops k row t (here.1 ∙ ap (λ (o : ListOperand). Some o) (sym is)) (there.1 ∙ ap Some (sym same)) in
    marks_then (λ n. In (Some n) (uleb_tops (take k rows) (take k tops))) (λ n. In (Some n) (if_asked row.uleb t)) (λ n. In (Some n) (uleb_tops (take (k + 1) rows) (take (k + 1) tops))) old now new a
    b
    (λ n. in_more (Some n) (uleb_tops (take k rows) (take k tops)) (if_asked row.uleb t) (uleb_tops (take (k + 1) rows) (take (k + 1) tops)) more)

pub last_any : (tops : List (Option ℕ)) (k : ℕ) → length tops ≤ k → (old new : List Bool) → Marks (take k tops) old new → Marks tops old new
last_any tops k le old new h = subst (λ (w : List (Option ℕ)). Marks w old new) (take_all k tops le) h

pub last_uleb : (rows : List ListOperand) (tops : List (Option ℕ)) (k : ℕ) → length rows ≤ k → length tops ≤ k → (old new : List Bool) → Marks (uleb_tops (take k rows) (take k tops)) old new
    → Marks (uleb_tops rows tops) old new
last_uleb rows tops k low le old new h = subst (λ (w : List (Option ℕ)). Marks w old new) (λ i. uleb_tops (take_all k rows low i) (take_all k tops le i)) h

pub tops_long : (rows : List ListOperand) (name : ℕ → EntryName) (raw : List RawUnit) → length (tops_of_refs name raw (entries_of rows)) ≡ length rows
tops_long [] name raw = refl
tops_long (o ∷ rows) name raw = ap suc (tops_long rows name raw)

-- ---- units, one after the other

module _ (around : Around ℕ) (raw : List RawUnit) (said : List (DwUnit ℕ)) (means : units_meaning around raw ≡ Ok said) (name : ℕ → EntryName) (test : ℕ → Attr EntryName → Bool) where
  -- in the first so many units an attribute passes the test
  abbrev pub InUnits : ℕ → ℕ → Type 0
  InUnits k t = list_any (in_unit (any_attr (test t))) (map (unit_map name) (take k said)) ≡ true

  are : MeanUnits around raw said
  are = ((units_agree around raw).ok said).0 means

  pub units_first : (marks : List Bool) → MarksIf (InUnits 0) marks marks
  units_first marks = marks_none (InUnits 0) (λ n e. false≢true e) marks

  pub units_next : (k : ℕ) → k < length raw → (old now new : List Bool) → MarksIf (InUnits k) old now
      → ((u : RawUnit) (v : DwUnit ℕ) → slice_get raw k ≡ Some u → unit_meaning around u ≡ Ok v → MarksIf (λ t. in_unit (any_attr (test t)) (unit_map name v) ≡ true) now new)
      → MarksIf (InUnits (k + 1)) old new
  units_next k lt old now new h one =
      let u = got_there raw k lt in
      let v = unit_meant around raw said are k u.0 u.1 in
      marks_then (InUnits k) (λ t. in_unit (any_attr (test t)) (unit_map name v.0) ≡ true) (InUnits (k + 1)) old now new h (one u.0 v.0 u.1 v.1) (λ t. split t v.0 v.2)
    where
      taken : (v : DwUnit ℕ) → slice_get said k ≡ Some v → map (unit_map name) (take (k + 1) said) ≡ map (unit_map name) (take k said) ++ unit_map name v ∷ []
      taken v e =
          ap (map (unit_map name)) (take_more said k v (got_below said k v e) ∙ ap (λ (w : DwUnit ℕ). take k said ++ w ∷ []) (get_or_from_slice_get said k v v e))
          ∙ map-append (unit_map name) (take k said) (v ∷ [])

      split : (t : ℕ) (v : DwUnit ℕ) → slice_get said k ≡ Some v → InUnits (k + 1) t ↔ (InUnits k t ⊎ (in_unit (any_attr (test t)) (unit_map name v) ≡ true))
      split t v e =
          let more = any_more (in_unit (any_attr (test t))) (map (unit_map name) (take k said)) (unit_map name v ∷ []) (map (unit_map name) (take (k + 1) said)) (taken v e) in
          let last = any_one (in_unit (any_attr (test t)) (unit_map name v)) in
          (λ h. ⊎_elim (λ x. inl x) (λ x. inr (last.0 x)) (more.0 h), λ h. more.1 (⊎_elim (λ x. inl x) (λ x. inr (last.1 x)) h))

  pub units_last : (k : ℕ) → length raw ≤ k → (old new : List Bool) → MarksIf (InUnits k) old new → MarksIf (λ t. list_any (in_unit (any_attr (test t))) (map (unit_map name) said) ≡ true) old new
  units_last k le old new h =
      let long = as_long raw said are in
      let all : take k said ≡ said = take_all k said (omega arith) in
      subst (λ (w : List (DwUnit ℕ)). MarksIf (λ t. list_any (in_unit (any_attr (test t))) (map (unit_map name) w) ≡ true) old new) all h
    where
      as_long : (us : List RawUnit) (vs : List (DwUnit ℕ)) → MeanUnits around us vs → length vs ≡ length us
      as_long [] [] m = refl
      as_long [] (v ∷ vs) m = absurd m
      as_long (u ∷ us) [] m = absurd m
      as_long (u ∷ us) (v ∷ vs) m = ap suc (as_long us vs m.1)

-- ---- files, one after the other

-- a flag says of each number whether the test of it holds of one of the first so many units
pub record MarkedBy (units : List (FileUnit EntryName)) (test : ℕ → FileUnit EntryName → Bool) (count upto : ℕ) (marks : List Bool) : Type 0 where
  pub len : length marks ≡ count
  pub each : (n : ℕ) → n < count → IsMarked marks n ↔ (list_any (test n) (take upto units) ≡ true)

none_set : (count n : ℕ) → slice_index_or (replicate count false) n false ≡ false
none_set zero n = refl
none_set (suc count) zero = refl
none_set (suc count) (suc n) = none_set count n

pub unset_more : (old now new : List Bool) (k : ℕ) → now ≡ old ++ replicate k false → new ≡ now ++ false ∷ [] → new ≡ old ++ replicate (k + 1) false
unset_more old now new k e f =
    f ∙ ap (λ (w : List Bool). w ++ false ∷ []) e ∙ append_assoc old (replicate k false) (false ∷ []) ∙ ap (λ (w : List Bool). old ++ w) (replicate-append-replicate k 1 false)

pub starts_zero : (docs : List (Doc ℕ)) (indexes : List Index) → starts_at docs indexes 0 ≡ first_starts
unfolding starts_from
starts_zero docs indexes = refl

pub set_both : (m n : ℕ) → replicate m false ++ replicate n false ≡ replicate (m + n) false
set_both m n = replicate-append-replicate m n false

pub files_first : (units : List (FileUnit EntryName)) (test : ℕ → FileUnit EntryName → Bool) (count : ℕ) (marks : List Bool) → marks ≡ replicate count false → MarkedBy units test count 0 marks
files_first units test count marks e = record {
  len = ap (λ (w : List Bool). length w) e ∙ replicate_long count;
  each = λ n lt. (
    λ h. absurd (false≢true (sym (none_set count n) ∙ ap (λ (w : List Bool). slice_index_or w n false) (sym e) ∙ h)),
    λ h. absurd (false≢true h),
  );
}

pub files_next : (units own : List (FileUnit EntryName)) (test : ℕ → FileUnit EntryName → Bool) (count upto : ℕ) (old new : List Bool) → IsPart units upto own → MarkedBy units test count upto old
    → MarksIf (λ t. list_any (test t) own ≡ true) old new → MarkedBy units test count (upto + length own) new
files_next units own test count upto old new part h m = record {
  len = m.len ∙ h.len;
  each = λ n lt. (
      let len = h.len in
      let a = m.each n (omega arith) in
      let b = h.each n lt in
      let c = any_more (test n) (take upto units) own (take (upto + length own) units) (take_part units own upto part) in (
        λ x. c.1 (⊎_elim (λ y. inl (b.0 y)) (λ y. inr y) (a.0 x)),
        λ x. a.1 (⊎_elim (λ y. inl (b.1 y)) (λ y. inr y) (c.0 x)),
      ));
}

pub files_last : (units : List (FileUnit EntryName)) (test : ℕ → FileUnit EntryName → Bool) (count upto : ℕ) (marks : List Bool) → upto ≡ length units → count ≡ length (tops_of units)
    → MarkedBy units test count upto marks
    → AreFlags units (λ n. list_any (test n) units) marks
files_last units test count upto marks e many h = record {
  len = h.len ∙ many;
  each = λ n lt. (
      let low : n < count = omega arith in
      let all : take upto units ≡ units = take_all upto units (omega arith) in
      let r = h.each n low in
      same_bool (slice_index_or marks n false) (list_any (test n) units) (
        λ x. sym (ap (list_any (test n)) all) ∙ r.0 x,
        λ x. r.1 (ap (list_any (test n)) all ∙ x),
      ));
}

-- flags for the tops of one file more
pub put_more : {X : Type 0} (a b : ℕ) (xs : List X) (now new : List Bool) (ys : List X) → now ≡ replicate a false → ys ≡ xs → b ≡ a + length xs → new ≡ now ++ replicate (length ys) false
    → new ≡ replicate b false
put_more {X} a b xs now new ys e same at f =
    f
    ∙ (λ i. e i ++ replicate (length (same i)) false)
    ∙ set_both a (length xs)
    ∙ ap (λ (n : ℕ). replicate n false) (sym at)
