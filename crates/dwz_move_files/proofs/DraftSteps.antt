-- What is known of the tops that are gathered, after one more.
use Rattle.std.proofs.Common.{◌≡◌, ◌⊎◌, ℕ, zero, suc, ◌+◌, ◌<◌, ◌≤◌, Bool, true, false, All, List, [], ◌∷◌, ◌++◌, length, map, Option, Some, None, Result, Ok, Err, slice_get, refl, sym, ap}
use Rattle.std.proofs.Common.{subst, ◌∙◌, inl, inr, ⊎_elim, arith}
use Rattle.std.specs.Prelude.{◌||◌, OnOk, slice_index, slice_range}
use Rattle.std.proofs.lemmas.Bool.{cases_lt, false≢true}
use Rattle.std.proofs.lemmas.List.{append-nil, length-append, length-map}
use Rattle.dwz_def_tops.specs.Alike.{any_in, binds_itself, entry_binds, is_named}
use Rattle.dwz_def_tops.specs.Spots.{EntryName, Top, Within, tops_among, tops_of, units_of}
use Rattle.dwz_def_tops.specs.Targets.{targets_of}
use Rattle.dwz_def_tops.proofs.Targets.{or_second}
use Rattle.dwz_def_reading.specs.Units.{RawUnit, entries_in}
use Rattle.dwz_def_reading.proofs.ListFacts.{all_more, got_below, got_there}
use Rattle.dwz_def_reading.proofs.CaseFacts.{or_left}
use Rattle.dwz_plan.specs.Groups.{IsWeight}
use Rattle.dwz_graph.specs.declared.file.File.{File}
use Rattle.dwz_graph.specs.Files.{docs_of}
use Rattle.dwz_groups.specs.declared.tops.TopRow.{TopRow}
use Rattle.dwz_graph.specs.declared.index.TopEntry.{TopEntry}
use Rattle.dwz_graph.specs.Index.{Index}
use Rattle.dwz_graph.specs.Names.{top_in}
use Rattle.dwz_graph.proofs.TopLemmas.{get_cases}
use Rattle.dwz_def_reading.specs.Documents.{Doc}
use Rattle.dwz_def_reading.specs.Files.{around_of}
use Rattle.dwz_def_plan.specs.Gain.{top_weight}
use Rattle.dwz_graph.specs.Parts.{AreParted}
use Rattle.dwz_graph.specs.Resolved.{place_at}
use Rattle.dwz_unit.proofs.RowsFound.{rows-length}
use Rattle.dwz_def_tops.specs.UnitNames.{name_of_place}
use Rattle.dwz_def_reading.specs.Places.{at_file}
use Rattle.dwz_move.specs.Bound.{some_of, somes, target_of}
use Rattle.dwz_move.specs.Known.{KnowsRefs, tops_of_refs}
use Rattle.dwz_graph.specs.Standing.{StandsAt}
use Rattle.dwz_move.specs.Weights.{capped}
use Rattle.dwz_unit.specs.declared.rows.RawEntry.{RawEntry}
use Rattle.dwz_unit.specs.Rows.{entry_shown, rows_of, shown_entries, units_of as raw_units}
use Rattle.dwz_graph.specs.Across.{IsFileAmong, IsTopOf, file_tops, name_at}
use Rattle.dwz_graph.proofs.TopRows.{file_many}
use Rattle.dwz_move_files.specs.declared.draft.Draft.{Draft}
use Rattle.dwz_move_files.specs.Drafts.{AreInto, IsDraft, IsGathered, IsRowOf, pairs_from}
use Rattle.dwz_move_files.proofs.ListParts.{all_none, range_map}
use Rattle.dwz_graph.proofs.OwnNames.{Own, names_own}
use Rattle.dwz_move_files.proofs.PairLemmas.{pairs_more}
use Rattle.dwz_move_files.proofs.TargetLemmas.{starts_end, starts_rise, targets_there}

-- ---- one more item

pub pushed : {X : Type 0} (xs : List X) (y : X) (m : ℕ) (z : X) → slice_get (xs ++ y ∷ []) m ≡ Some z → ((slice_get xs m ≡ Some z) × (m < length xs)) ⊎ ((m ≡ length xs) × (y ≡ z))
pushed xs y m z e = ⊎_elim
    (λ a. inl (a, got_below xs m z a))
    (λ b. inr (last b.0 b.1 b.2))
    (get_cases xs (y ∷ []) m z e)
  where
    last : (j : ℕ) → m ≡ length xs + j → slice_get (y ∷ []) j ≡ Some z → (m ≡ length xs) × (y ≡ z)
    last zero at q = (omega arith, (let same : y ≡ z = cc in same))
    last (suc j) at q = absurd cc

pub none_yet : (docs : List (Doc ℕ)) (first : ℕ) (draft : Draft) → draft.rows.items ≡ [] → draft.binds.items ≡ [] → draft.pairs.items ≡ [] → IsDraft docs first 0 draft
unfolding pairs_from
none_yet docs first draft rows binds pairs = record {
  targets = [];
  rows_len = ap (λ (w : List TopRow). length w) rows;
  binds_len = ap (λ (w : List Bool). length w) binds;
  targets_len = refl;
  pairs_are = pairs;
  each = λ k n t row b ts at e p q r. absurd cc;
}

pub one_more : (docs : List (Doc ℕ)) (first count n : ℕ) (old new : Draft) (t : Top) (row : TopRow) (b : Bool) (ts : List ℕ) → first + count ≡ n
    → slice_get (tops_of (units_of docs)) n ≡ Some t → IsGathered docs row b ts t → IsDraft docs first count old
    → new.rows.items ≡ old.rows.items ++ row ∷ [] → new.binds.items ≡ old.binds.items ++ b ∷ [] → new.pairs.items ≡ old.pairs.items ++ map (target_of n) ts → IsDraft docs first (count + 1) new
one_more docs first count n old new t row b ts sum there is d rows binds pairs =
    let rows_len = d.rows_len in
    let binds_len = d.binds_len in
    let targets_len = d.targets_len in
    record {
      targets = d.targets ++ ts ∷ [];
      rows_len = ap (λ (w : List TopRow). length w) rows ∙ length-append old.rows.items (row ∷ []) ∙ ap (λ (k : ℕ). k + 1) rows_len;
      binds_len = ap (λ (w : List Bool). length w) binds ∙ length-append old.binds.items (b ∷ []) ∙ ap (λ (k : ℕ). k + 1) binds_len;
      targets_len = length-append d.targets (ts ∷ []) ∙ ap (λ (k : ℕ). k + 1) targets_len;
      pairs_are =
          let at : n ≡ first + length d.targets = omega arith in
          pairs ∙ (λ i. d.pairs_are i ++ map (target_of (at i)) ts) ∙ sym (pairs_more first d.targets ts);
      each = λ m o u x c us at e p q r.
          by m o u x c us at e
          (pushed old.rows.items row m x (sym (ap (λ (w : List TopRow). slice_get w m) rows) ∙ p))
          (pushed old.binds.items b m c (sym (ap (λ (w : List Bool). slice_get w m) binds) ∙ q))
          (pushed d.targets ts m us r);
    }
  where
    by : (m o : ℕ) (u : Top) (x : TopRow) (c : Bool) (us : List ℕ) → first + m ≡ o → slice_get (tops_of (units_of docs)) o ≡ Some u
        → ((slice_get old.rows.items m ≡ Some x) × (m < length old.rows.items)) ⊎ ((m ≡ length old.rows.items) × (row ≡ x))
        → ((slice_get old.binds.items m ≡ Some c) × (m < length old.binds.items)) ⊎ ((m ≡ length old.binds.items) × (b ≡ c))
        → ((slice_get d.targets m ≡ Some us) × (m < length d.targets)) ⊎ ((m ≡ length d.targets) × (ts ≡ us)) → IsGathered docs x c us u
    by m o u x c us is_at e (inl p) (inl q) (inl r) = d.each m o u x c us is_at e p.0 q.0 r.0
    by m o u x c us is_at e (inr p) (inr q) (inr r) =
        let at : o ≡ n = (let len = d.rows_len in let here = p.0 in omega arith) in
        let same : t ≡ u = (let both : Some t ≡ Some u = sym there ∙ ap (slice_get (tops_of (units_of docs))) (sym at) ∙ e in cc) in
        subst (λ (w : Top). IsGathered docs x c us w) same
        (subst (λ (w : List ℕ). IsGathered docs x c w t) r.1
        (subst (λ (w : Bool). IsGathered docs x w ts t) q.1
        (subst (λ (w : TopRow). IsGathered docs w b ts t) p.1 is)))
    by m o u x c us is_at e (inl p) (inr q) r = absurd (let a = d.rows_len in let z = d.binds_len in let lt = p.1 in let at = q.0 in omega arith)
    by m o u x c us is_at e (inr p) (inl q) r = absurd (let a = d.rows_len in let z = d.binds_len in let lt = q.1 in let at = p.0 in omega arith)
    by m o u x c us is_at e (inl p) (inl q) (inr r) = absurd (let a = d.rows_len in let z = d.targets_len in let lt = p.1 in let at = r.0 in omega arith)
    by m o u x c us is_at e (inr p) (inr q) (inl r) = absurd (let a = d.rows_len in let z = d.targets_len in let lt = r.1 in let at = p.0 in omega arith)

-- ---- a top of a file

-- whichever it is
pub either : {X E : Type 0} (r : Result X E) (b : Bool) (A B G : Type 0) → (b ≡ true → OnOk r A) → (b ≡ false → OnOk r B) → (b ≡ true → A → G) → (b ≡ false → B → G) → OnOk r G
either (Ok x) true A B G h k f g = f refl (h refl)
either (Ok x) false A B G h k f g = g refl (k refl)
either (Err e) b A B G h k f g = tt

weight_is : (w exact : ℕ) → w ≡ capped exact → IsWeight w exact
weight_is w exact e = ⊎_elim (λ lt. inl (omega arith)) (λ ge. inr (omega arith, ge)) (cases_lt exact 64)

or_none : (b c : Bool) → c ≡ false → b ≡ (b || c)
or_none true c e = refl
or_none false c e = sym e

module _ (contents : List (List ℕ)) (number : ℕ) (bytes : List ℕ) (f : File) (x : Index) (is : IsFileAmong contents number bytes f x) where
  abbrev docs : List (Doc ℕ)
  docs = docs_of contents

  abbrev raw : List RawUnit
  raw = raw_units f.units

  abbrev doc : Doc ℕ
  doc = is.kept.read.doc

  abbrev name : ℕ → EntryName
  name = name_at x.starts doc

  pub knows : (into : List (Option ℕ)) → AreInto contents number bytes f x is into → KnowsRefs (around_of bytes raw) raw name f.resolved.refs.items f.resolved.starts.items into
  knows into e = record { parted = is.kept.read.parts; entries = is.kept.read.within; into_are = e }

  pub knows_at : (into : List (Option ℕ)) → AreInto contents number bytes f x is into → (starts : List ℕ) → starts ≡ f.resolved.starts.items
      → KnowsRefs (around_of bytes raw) raw name f.resolved.refs.items starts into
  knows_at into e starts same = record {
    parted = subst (λ (w : List ℕ). AreParted (around_of bytes raw) raw (entries_in raw) f.resolved.refs.items w) (sym same) is.kept.read.parts;
    entries =
        is.kept.read.within;
    into_are = e;
  }

  pub knows_own : KnowsRefs (around_of bytes raw) raw name f.resolved.refs.items f.resolved.starts.items (tops_of_refs name raw f.resolved.refs.items)
  knows_own = knows (tops_of_refs name raw f.resolved.refs.items) refl

  -- the tops that references go into are tops of the file
  file_within : x.starts.top + tops_among doc.units ≤ length (tops_of (units_of docs))
  file_within =
      let len = ap (λ (w : List Top). length w) is.tops.all_are in
      let before = is.tops.many in
      let own = file_many x.starts number doc in
      let part = file_tops x.starts number doc in
      omega (arith, length-append is.tops.front (part ++ is.tops.back), length-append part is.tops.back)

  own_top : (p n : ℕ) → top_in (name p) ≡ Some n → n < length (tops_of (units_of docs))
  own_top p n e = by (name p) (names_own x.starts.unit x.starts.top doc.units p) e where
    by : (s : EntryName) → Own x.starts.unit (length doc.units) x.starts.top (tops_among doc.units) s → top_in s ≡ Some n → n < length (tops_of (units_of docs))
    by (Within m path) h q = (let same : m ≡ n = cc in let high = h.1 in let room = file_within in omega arith)
    by _ h q = absurd cc

  module _ (k : ℕ) (top : TopEntry) (t : Top) (top_is : IsTopOf contents number bytes f x doc k top t) where
    pub weighs : (r : RawEntry) (w : ℕ) → slice_get (shown_entries raw) top.entry ≡ Some r → w ≡ capped (top_weight t) → IsWeight w (top_weight t)
    weighs r w shown e = weight_is w (top_weight t) e

    pub stands_so : (r : RawEntry) (end : ℕ) → slice_get (shown_entries raw) top.entry ≡ Some r → r.end ≡ end → StandsAt (around_of bytes raw) name raw doc.units number x.starts.unit t top.entry end
    stands_so r end shown e = subst (λ (n : ℕ). StandsAt (around_of bytes raw) name raw doc.units number x.starts.unit t top.entry n) e (top_is.stands r shown)

    pub stands_end : (end : ℕ) → ((r : RawEntry) → slice_get (shown_entries raw) top.entry ≡ Some r → r.end ≡ end)
        → StandsAt (around_of bytes raw) name raw doc.units number x.starts.unit t top.entry end
    stands_end end ends =
        let len = length-map (rows_of raw) entry_shown ∙ rows-length raw in
        let low = top_is.within in
        let r = got_there (shown_entries raw) top.entry (omega arith) in
        stands_so r.0 end r.1 (ends r.0 r.1)

    pub number_low : t.number < length (tops_of (units_of docs))
    number_low = (let lt = got_below (tops_of (units_of docs)) (x.starts.top + k) t top_is.there in let e = top_is.number in omega arith)

    pub place_named : (r : RawEntry) → slice_get (shown_entries raw) top.entry ≡ Some r → name_of_place docs (at_file number r.at) ≡ Within t.number []
    place_named r shown = is.names r.at ∙ top_is.named r shown

    -- ---- whether it binds itself

    pub binds_named : is_named (units_of docs) t.number ≡ true → true ≡ binds_itself (units_of docs) t
    binds_named e = sym (or_second (any_in (entry_binds (tops_of (units_of docs)) t.unit) t) (is_named (units_of docs) t.number) e)

    pub binds_so : (b : Bool) → b ≡ any_in (entry_binds (tops_of (units_of docs)) t.unit) t → is_named (units_of docs) t.number ≡ false → b ≡ binds_itself (units_of docs) t
    binds_so b e none = e ∙ or_none (any_in (entry_binds (tops_of (units_of docs)) t.unit) t) (is_named (units_of docs) t.number) none

    -- ---- its targets

    free_so : binds_itself (units_of docs) t ≡ false → any_in (entry_binds (tops_of (units_of docs)) t.unit) t ≡ false
    free_so e = or_left (any_in (entry_binds (tops_of (units_of docs)) t.unit) t) _ e

    -- one that binds itself is put with no targets
    pub put_bound : (first count n : ℕ) → first + count ≡ n → n ≡ t.number → (row : TopRow) → IsRowOf docs row t → (b : Bool) → b ≡ true → b ≡ binds_itself (units_of docs) t → (old new : Draft)
        → IsDraft docs first count old
        → new.rows.items ≡ old.rows.items ++ row ∷ [] → new.binds.items ≡ old.binds.items ++ b ∷ [] → new.pairs.items ≡ old.pairs.items → IsDraft docs first (count + 1) new
    put_bound first count n sum at row row_is b bound binds_is old new d rows binds pairs =
        let here : slice_get (tops_of (units_of docs)) n ≡ Some t = ap (slice_get (tops_of (units_of docs))) (at ∙ top_is.number) ∙ top_is.there in
        one_more docs first count n old new t row b [] sum here
        (record { row_is = row_is; binds_is = binds_is; targets_are = λ e. absurd (false≢true (sym e ∙ bound)); none = λ e. refl; inside = all_none (λ (n : ℕ). n < length (tops_of (units_of docs))) })
        d rows binds (pairs ∙ sym (append-nil old.pairs.items))

    module _ (into : List (Option ℕ)) (into_is : AreInto contents number bytes f x is into) (r : RawEntry) (shown : slice_get (shown_entries raw) top.entry ≡ Some r) where
      abbrev start : ℕ → ℕ
      start i = slice_index f.resolved.starts.items i

      pub rise : start top.entry ≤ start r.end
      rise = starts_rise (around_of bytes raw) raw name f.resolved.refs.items f.resolved.starts.items into (knows into into_is) doc.units number x.starts.unit t top.entry r.end (top_is.stands r shown)

      pub within : start r.end ≤ length into
      within = starts_end (around_of bytes raw) raw name f.resolved.refs.items f.resolved.starts.items into (knows into into_is) doc.units number x.starts.unit t top.entry r.end
          (top_is.stands r shown) (top_is.ends r shown)

      pub targets_so : binds_itself (units_of docs) t ≡ false → somes (slice_range into (start top.entry) (start r.end)) ≡ targets_of t
      targets_so free = targets_there (around_of bytes raw) raw name f.resolved.refs.items f.resolved.starts.items into (knows into into_is) doc.units number x.starts.unit t top.entry r.end
          (top_is.stands r shown) (tops_of (units_of docs)) (free_so free)

      inside_some : (numbers : List ℕ) → All (λ n. n < length (tops_of (units_of docs))) (somes (tops_of_refs name raw numbers))
      inside_some [] = all_none (λ (n : ℕ). n < length (tops_of (units_of docs)))
      inside_some (i ∷ numbers) = by (top_in (name (place_at raw i))) refl (inside_some numbers) where
        by : (o : Option ℕ) → top_in (name (place_at raw i)) ≡ o → All (λ n. n < length (tops_of (units_of docs))) (somes (tops_of_refs name raw numbers))
            → All (λ n. n < length (tops_of (units_of docs))) (some_of o ++ somes (tops_of_refs name raw numbers))
        by None e h = h
        by (Some n) e h = all_more (λ (n : ℕ). n < length (tops_of (units_of docs))) n (somes (tops_of_refs name raw numbers)) (own_top (place_at raw i) n e) h

      pub targets_low : (a b : ℕ) → All (λ n. n < length (tops_of (units_of docs))) (somes (slice_range into a b))
      targets_low a b =
          subst (λ (w : List (Option ℕ)). All (λ n. n < length (tops_of (units_of docs))) (somes w))
          (sym (ap (λ (w : List (Option ℕ)). slice_range w a b) into_is ∙ range_map (λ (i : ℕ). top_in (name (place_at raw i))) f.resolved.refs.items a b))
          (inside_some (slice_range f.resolved.refs.items a b))

      -- one that doesn't is put with the tops that its references go into
      pub put_free : (first count n : ℕ) → first + count ≡ n → n ≡ t.number → (row : TopRow) → IsRowOf docs row t → (b : Bool) → b ≡ false → b ≡ binds_itself (units_of docs) t → (old new : Draft)
          → IsDraft docs first count old
          → new.rows.items ≡ old.rows.items ++ row ∷ [] → new.binds.items ≡ old.binds.items ++ b ∷ [] → (part : List (Option ℕ)) → part ≡ slice_range into (start top.entry) (start r.end)
          → new.pairs.items ≡ old.pairs.items ++ map (target_of n) (somes part)
          → IsDraft docs first (count + 1) new
      put_free first count n sum at row row_is b unbound binds_is old new d rows binds part part_is pairs =
          let here : slice_get (tops_of (units_of docs)) n ≡ Some t = ap (slice_get (tops_of (units_of docs))) (at ∙ top_is.number) ∙ top_is.there in
          one_more docs first count n old new t row b (somes (slice_range into (start top.entry) (start r.end))) sum here
          (record {
            row_is = row_is;
            binds_is = binds_is;
            targets_are = λ e. targets_so (sym binds_is ∙ unbound);
            none = λ e. absurd (false≢true (sym unbound ∙ e));
            inside = targets_low (start top.entry) (start r.end);
          })
          d rows binds (pairs ∙ ap (λ (w : List (Option ℕ)). old.pairs.items ++ map (target_of n) (somes w)) part_is)
