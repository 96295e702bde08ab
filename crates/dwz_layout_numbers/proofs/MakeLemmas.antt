-- File by file the numbers of the units that are written: what was numbered, and what is left.
use Rattle.std.proofs.Common.{◌≡◌, ℕ, zero, suc, ◌+◌, ◌<◌, ◌≤◌, Bool, true, false, List, [], ◌∷◌, ◌++◌, drop, get_or, length, map, Some, slice_get, cond, refl, sym, ap, subst, ◌∙◌}
use Rattle.std.proofs.Common.{inl, inr, arith, drop-cons, if◌then◌else◌}
use Rattle.std.specs.Prelude.{replicate, slice_index_or}
use Rattle.std.specs.List.{filter, range_with_len}
use Rattle.std.proofs.lemmas.List.{append-nil, append_assoc, drop_all, drop_at, length-append, length-map, map-append}
use Rattle.std.proofs.lemmas.List.FromFn.{length-range_with_len}
use Rattle.dwz_def_reading.proofs.ListFacts.{drop_next, get_first, got_below, got_in, got_there as there}
use Rattle.dwz_def_reading.specs.Documents.{Doc, DwUnit}
use Rattle.dwz_def_tops.specs.Lists.{Nth}
use Rattle.dwz_def_reading.specs.Lists.{Each}
use Rattle.dwz_def_tops.proofs.Members.{each_append, each_in, each_more, nth_of}
use Rattle.dwz_def_tops.specs.Spots.{EntryName, FileUnit, named_files, spot_in, spots_from, tops_among, units_of}
use Rattle.dwz_graph.proofs.TopLemmas.{get_cases, get_later}
use Rattle.dwz_def_images.specs.Homes.{Common, Home, Local, same_home}
use Rattle.dwz_def_images.specs.Moves.{Move}
use Rattle.dwz_def_images.specs.Plan.{PartialUnit}
use Rattle.dwz_plan.specs.declared.plan.Partial.{Partial}
use Rattle.dwz_plan.specs.Planned.{file_of_home}
use Rattle.dwz_plan.specs.Shows.{shown_part}
use Rattle.dwz_def_images.specs.Units.{changes, common_units, kept_unit, kept_units, out_units, partial_unit, partial_units}
use Rattle.dwz_layout_numbers.specs.Numbering.{HaveUnits, leading, numbers_of, parts_at, parts_of_files}
use Rattle.dwz_layout_numbers.specs.Owners.{AreUnitNumbers, IsFileWritten, IsNumber, all_written, file_written, files_written}
use Rattle.dwz_layout_numbers.proofs.OwnerSteps.{got}
use Rattle.dwz_layout_numbers.proofs.FileRuns.{filed, filed_length}
use Rattle.dwz_layout_numbers.proofs.NumberingLemmas.{IsLater, at_home, files_later, kept_at, kept_length, kept_list, kept_mid, later_common, later_not, leading_at, nth_get, numbered, numbered_at}
use Rattle.dwz_layout_numbers.proofs.NumberingLemmas.{numbered_length, parts_mid, range_at}

-- ---- how many partial units a home has

units_many : (m : Move) (h : Home) (s : ℕ) (xs : List PartialUnit) → length (partial_units m h s xs) ≡ length (filter (λ p. same_home p.home h) xs)
unfolding partial_units
units_many m h s [] = refl
units_many m h s (p ∷ xs) = go (units_many m h (suc s) xs) (same_home p.home h) where
  go : length (partial_units m h (suc s) xs) ≡ length (filter (λ (q : PartialUnit). same_home q.home h) xs) → (b : Bool)
      → length (elim b as (λ _. List (DwUnit EntryName)) [ true ↦ partial_unit m s ∷ partial_units m h (suc s) xs | false ↦ partial_units m h (suc s) xs ])
      ≡ length (cond b (p ∷ filter (λ (q : PartialUnit). same_home q.home h) xs) (filter (λ (q : PartialUnit). same_home q.home h) xs))
  go e true = ap suc e
  go e false = e

-- ---- file by file

filed_files : (file : ℕ) (name : ℕ → EntryName) (units : List (DwUnit ℕ)) → Each (λ u. u.file ≡ file) (filed file name units)
filed_files file name [] = tt
filed_files file name (v ∷ units) = (refl, filed_files file name units)

named_later : (file unit top : ℕ) (docs : List (Doc ℕ)) → Each (λ u. file ≤ u.file) (named_files file unit top docs)
unfolding named_files
named_later file unit top [] = tt
named_later file unit top (doc ∷ docs) =
    let name = spot_in (spots_from unit top doc.units) in
    let rest = named_files (suc file) (unit + length doc.units) (top + tops_among doc.units) docs in
    each_append (λ (u : FileUnit EntryName). file ≤ u.file) (filed file name doc.units) rest
    (each_more (λ (u : FileUnit EntryName). u.file ≡ file) (λ (u : FileUnit EntryName). file ≤ u.file) (filed file name doc.units) (λ u e. omega (arith, e)) (filed_files file name doc.units))
    (each_more (λ (u : FileUnit EntryName). suc file ≤ u.file) (λ (u : FileUnit EntryName). file ≤ u.file) rest (λ u le. omega (arith, le))
    (named_later (suc file) (unit + length doc.units) (top + tops_among doc.units) docs))

files_not : (file low : ℕ) (units : List (FileUnit EntryName)) → file < low → Each (λ u. low ≤ u.file) units → Each (λ u. u.file ≡ file → ⊥) units
files_not file low units lt all = each_more (λ (u : FileUnit EntryName). low ≤ u.file) (λ (u : FileUnit EntryName). u.file ≡ file → ⊥) units (λ u le e. omega (arith, le, lt, e)) all

numbers_long : (first count : ℕ) (w : Bool) → length (numbers_of first count w) ≡ count
numbers_long first count true = length-range_with_len first count
numbers_long first count false = zeros count where
  zeros : (n : ℕ) → length (replicate {A = ℕ} n 0) ≡ n
  zeros zero = refl
  zeros (suc n) = ap suc (zeros n)

built_sum : (next k : ℕ) (w : Bool) (own : List (FileUnit EntryName)) (units : List (DwUnit ℕ)) → length own ≡ length units → (after : ℕ) → after ≡ next + k + (if w then length units else 0)
    → next + (k + (if w then length own else 0)) ≡ after
built_sum next k true own units e after is = omega (arith, e, is)
built_sum next k false own units e after is = omega (arith, is)

module _ (docs : List (Doc ℕ)) (m : Move) (shown : List Partial) (counts : List ℕ) (written : List Bool) (h : HaveUnits docs m shown counts written) where
  abbrev units : List (FileUnit EntryName)
  units = units_of docs

  abbrev all : List (DwUnit EntryName)
  all = all_written m (units_of docs) written

  abbrev BeforeParts : ℕ → List PartialUnit → Type 0
  BeforeParts file done = (g : ℕ) → file ≤ g → Each (λ p. p.home ≡ Local g → ⊥) done

  abbrev BeforeUnits : ℕ → List (FileUnit EntryName) → Type 0
  BeforeUnits file done = (g : ℕ) → file ≤ g → Each (λ u. u.file ≡ g → ⊥) done

  -- the partial units and the old units before a file were numbered, and so many units are there
  pub record Going (file next : ℕ) (rest : List (Doc ℕ)) (flags : List Bool) (parts olds : List ℕ) : Type 0 where
    pub last : file + length rest ≡ length docs
    pub done : List PartialUnit
    pub parts_are : m.parts ≡ done ++ parts_of_files m (range_with_len file (length rest))
    pub parts_many : length done ≡ length parts
    pub parts_before : (g : ℕ) → file ≤ g → Each (λ p. p.home ≡ Local g → ⊥) done
    pub old : List (FileUnit EntryName)
    pub unit : ℕ
    pub top : ℕ
    pub units_are : units_of docs ≡ old ++ named_files file unit top rest
    pub olds_many : length old ≡ length olds
    pub olds_before : (g : ℕ) → file ≤ g → Each (λ u. u.file ≡ g → ⊥) old
    pub built : List (DwUnit EntryName)
    pub all_are : all_written m (units_of docs) written ≡ built ++ files_written m (units_of docs) file flags
    pub built_many : length built ≡ next
    pub parts_ok : (n : ℕ) (part : PartialUnit) → Nth 0 done n part → IsNumber (all_written m (units_of docs) written) parts n (partial_unit m n)
    pub olds_ok : (i : ℕ) (u : FileUnit EntryName) → Nth 0 old i u → IsFileWritten written u.file
        → IsNumber (all_written m (units_of docs) written) olds i (kept_unit m (units_of docs) i u)

  -- the numbers of partial units that stand one behind the other
  parts_more : (done mid : List PartialUnit) (parts : List ℕ) (first : ℕ) → length done ≡ length parts → ((n : ℕ) (part : PartialUnit) → Nth 0 done n part → IsNumber all parts n (partial_unit m n))
      → ((j : ℕ) → j < length mid → slice_get all (first + j) ≡ Some (partial_unit m (length done + j))) → (n : ℕ) (part : PartialUnit) → Nth 0 (done ++ mid) n part
      → IsNumber all (parts ++ range_with_len first (length mid)) n (partial_unit m n)
  parts_more done mid parts first many ok at n part nth =
      let g = nth_get 0 (done ++ mid) n part nth in
      let same : n ≡ g.0 = (let q = g.1 in omega arith) in
      elim (get_cases done mid g.0 part g.2) [
        | inl a ↦
            let o = ok n part (subst (λ (w : ℕ). Nth 0 done w part) (let q = g.1 in let z : 0 + g.0 ≡ n = omega arith in z) (nth_of 0 done g.0 part a)) in
            (o.0, get_first parts (range_with_len first (length mid)) n o.0 o.1, o.2)
        | inr b ↦
            let lt = got_below mid b.0 part b.2 in
            let here : n ≡ length parts + b.0 = (let q = b.1 in omega arith) in
            let far : length done + b.0 ≡ n = omega arith in (
              first + b.0,
              ap (slice_get (parts ++ range_with_len first (length mid))) here
                  ∙ get_later parts (range_with_len first (length mid)) b.0 (first + b.0) (range_at first (length mid) b.0 lt),
              at b.0 lt ∙ ap (λ (w : ℕ). Some (partial_unit m w)) far,
            )
      ]

  olds_more : (file : ℕ) (done own : List (FileUnit EntryName)) (olds : List ℕ) (first : ℕ) (w : Bool) → length done ≡ length olds
      → ((i : ℕ) (u : FileUnit EntryName) → Nth 0 done i u → IsFileWritten written u.file → IsNumber all olds i (kept_unit m units i u))
      → Each (λ u. u.file ≡ file) own → slice_index_or written file false ≡ w
      → (w ≡ true → (j : ℕ) (u : FileUnit EntryName) → slice_get own j ≡ Some u → slice_get all (first + j) ≡ Some (kept_unit m units (length done + j) u)) → (i : ℕ) (u : FileUnit EntryName)
      → Nth 0 (done ++ own) i u → IsFileWritten written u.file
      → IsNumber all (olds ++ numbers_of first (length own) w) i (kept_unit m units i u)
  olds_more file done own olds first w many ok files flag at i u nth is =
      let g = nth_get 0 (done ++ own) i u nth in
      let z : 0 + g.0 ≡ i = (let q = g.1 in omega arith) in
      elim (get_cases done own g.0 u g.2) [
        | inl a ↦
            let o = ok i u (subst (λ (w : ℕ). Nth 0 done w u) z (nth_of 0 done g.0 u a)) is in
            (o.0, get_first olds (numbers_of first (length own) w) i o.0 o.1, o.2)
        | inr b ↦ written_case b.0 (let q = b.1 in omega arith) b.2 w refl (at_w b.0 b.2)
      ]
    where
      at_w : (j : ℕ) → slice_get own j ≡ Some u → w ≡ true
      at_w j e = sym flag ∙ ap (λ (n : ℕ). slice_index_or written n false) (sym (each_in (λ (v : FileUnit EntryName). v.file ≡ file) u own files (got_in own j u e))) ∙ is

      written_case : (j : ℕ) → i ≡ length done + j → slice_get own j ≡ Some u → (b : Bool) → w ≡ b → w ≡ true → IsNumber all (olds ++ numbers_of first (length own) w) i (kept_unit m units i u)
      written_case j e got b q t =
          let lt = got_below own j u got in
          let here : i ≡ length olds + j = omega arith in
          let far : length done + j ≡ i = omega arith in
          let added : slice_get (numbers_of first (length own) w) j ≡ Some (first + j) = ap (λ (v : Bool). slice_get (numbers_of first (length own) v) j) t ∙ range_at first (length own) j lt in (
            first + j,
            ap (slice_get (olds ++ numbers_of first (length own) w)) here ∙ get_later olds (numbers_of first (length own) w) j (first + j) added,
            at t j u got
                ∙ ap (λ (n : ℕ). Some (kept_unit m units n u)) far,
          )

  -- the partial units as the code sees them
  shown_are : map (shown_part (length docs)) m.parts ≡ shown
  shown_are = h.parts_are

  lead : (file : ℕ) (done mid rest : List PartialUnit) (parts : List ℕ) → m.parts ≡ done ++ (mid ++ rest) → length done ≡ length parts
      → Each (λ p. (shown_part (length docs) p).file ≡ file) mid → Each (λ p. (shown_part (length docs) p).file ≡ file → ⊥) rest
      → leading file (drop (length parts) shown) ≡ length mid
  lead file done mid rest parts are many is not =
      let sh = shown_part (length docs) in
      ap (λ (w : List Partial). leading file (drop (length parts) w)) (sym shown_are ∙ ap (map sh) are ∙ map-append sh done (mid ++ rest))
      ∙ ap (leading file) (drop_at (map sh done) (map sh (mid ++ rest)) (length parts) (length-map done sh ∙ many))
      ∙ leading_at (length docs) file mid rest is not

  later_shown : (low high file : ℕ) (xs : List PartialUnit) → file < low → Each (IsLater low high) xs → Each (λ p. (shown_part (length docs) p).file ≡ file → ⊥) xs
  later_shown low high file xs lt l = each_more (IsLater low high) (λ (p : PartialUnit). (shown_part (length docs) p).file ≡ file → ⊥) xs
      (λ p q e. (let le = q.2 in let is : (shown_part (length docs) p).file ≡ q.0 = ap (λ (g : Home). file_of_home (length docs) g) q.1 in omega (arith, le, lt, is, e))) l

  -- of a file of which nothing moves
  none_local : (file : ℕ) → changes m units file ≡ false → length (partial_units m (Local file) 0 m.parts) ≡ 0
  none_local file c = units_many m (Local file) 0 m.parts ∙ ap (λ (w : List PartialUnit). length w) (h.still file c)

  -- what is written of a file, of whose partial units and old units so many are known
  file_units : (file k d o : ℕ) (own : List (FileUnit EntryName)) (w : Bool) → slice_index_or written file false ≡ w → partial_units m (Local file) 0 m.parts ≡ numbered m d k
      → kept_units m units file 0 units ≡ kept_list m units o own
      → (length (file_written m units file w) ≡ k + (if w then length own else 0)) × ((j : ℕ) → j < k → slice_get (file_written m units file w) j ≡ Some (partial_unit m (d + j)))
      × (w ≡ true → (j : ℕ) (u : FileUnit EntryName) → slice_get own j ≡ Some u → slice_get (file_written m units file w) (k + j) ≡ Some (kept_unit m units (o + j) u))
  unfolding out_units
  file_units file k d o own true flag parts kept =
      let both : out_units m units file ≡ numbered m d k ++ kept_list m units o own = (λ j. parts j ++ kept j) in
      let long = numbered_length m d k in (
        ap (λ (w : List (DwUnit EntryName)). length w) both ∙ length-append (numbered m d k) (kept_list m units o own) ∙ (λ j. long j + kept_length m units o own j),
        (λ j lt. ap (λ (w : List (DwUnit EntryName)). slice_get w j) both ∙ get_first (numbered m d k) (kept_list m units o own) j (partial_unit m (d + j)) (numbered_at m d k j lt)),
        (λ t j u e. (λ i. slice_get (both i) (sym long i + j)) ∙ get_later (numbered m d k) (kept_list m units o own) j (kept_unit m units (o + j) u) (kept_at m units o own j u e)),
      )
  file_units file k d o own false flag parts kept =
      let none : changes m units file ≡ false = still_file (changes m units file) refl in
      let zero_long : k ≡ 0 = sym (numbered_length m d k) ∙ ap (λ (w : List (DwUnit EntryName)). length w) (sym parts) ∙ none_local file none in
      (omega (arith, zero_long), (λ j lt. absurd (omega (arith, lt, zero_long))), (λ t j u e. absurd cc))
    where
      still_file : (b : Bool) → changes m units file ≡ b → b ≡ false
      still_file true e = absurd (let x = h.changed file e in cc)
      still_file false e = refl

  -- the next file
  pub going_next : (file next k after : ℕ) (doc : Doc ℕ) (rest : List (Doc ℕ)) (w : Bool) (flags : List Bool) (parts more olds others : List ℕ)
      → Going file next (doc ∷ rest) (w ∷ flags) parts olds → slice_index_or written file false ≡ w
      → k ≡ leading file (drop (length parts) shown) → more ≡ parts ++ range_with_len next k → others ≡ olds ++ numbers_of (next + k) (length doc.units) w
      → after ≡ next + k + (if w then length doc.units else 0) → Going (file + 1) after rest flags more others
  unfolding parts_of_files named_files files_written
  going_next file next k after doc rest w flags parts more olds others g flag count more_is others_is after_is =
      let mid = parts_at m (Local file) in
      let left = parts_of_files m (range_with_len (file + 1) (length rest)) in
      let at_mid = at_home (Local file) m.parts in
      let last = g.last in
      let laters : Each (IsLater (file + 1) (length docs)) left = files_later m (file + 1) (length rest) (length docs) (omega arith) in
      let shown_mid = each_more (λ (p : PartialUnit). p.home ≡ Local file) (λ (p : PartialUnit). (shown_part (length docs) p).file ≡ file) mid
      (λ p e. ap (λ (hm : Home). file_of_home (length docs) hm) e) at_mid in
      let lead_is : k ≡ length mid = count ∙ lead file g.done mid left parts g.parts_are g.parts_many shown_mid (later_shown (file + 1) (length docs) file left (omega arith) laters) in
      let name = spot_in (spots_from g.unit g.top doc.units) in
      let own = filed file name doc.units in
      let others_left = named_files (suc file) (g.unit + length doc.units) (g.top + tops_among doc.units) rest in
      let own_long = filed_length file name doc.units in
      let own_files : Each (λ u. u.file ≡ file) own = filed_files file name doc.units in
      let left_files = named_later (suc file) (g.unit + length doc.units) (g.top + tops_among doc.units) rest in
      let parts_here : partial_units m (Local file) 0 m.parts ≡ numbered m (length g.done) k = ap (partial_units m (Local file) 0) g.parts_are
      ∙ parts_mid m (Local file) g.done mid left (g.parts_before file (omega arith)) at_mid (later_not (file + 1) (length docs) file left (omega arith) laters)
      ∙ ap (numbered m (length g.done)) (sym lead_is) in
      let olds_here : kept_units m units file 0 units ≡ kept_list m units (length g.old) own = ap (kept_units m units file 0) g.units_are
      ∙ kept_mid m units file g.old own others_left (g.olds_before file (omega arith)) own_files (files_not file (suc file) others_left (omega arith) left_files) in
      let f = file_units file k (length g.done) (length g.old) own w flag parts_here olds_here in
      let here = file_written m units file w in
      let tail = files_written m units (suc file) flags in
      let stands : (j : ℕ) (u : DwUnit EntryName) → slice_get here j ≡ Some u
      → slice_get all (next + j) ≡ Some u = λ j u e. ((λ i. slice_get (g.all_are i) (sym g.built_many i + j)) ∙ get_later g.built (here ++ tail) j u (get_first here tail j u e)) in
      let add : next + k + 0 ≡ next + k = omega arith in
      record {
        last = omega arith;
        done = g.done ++ mid;
        parts_are = g.parts_are ∙ sym (append_assoc g.done mid left);
        parts_many = length-append g.done mid ∙ (λ j. g.parts_many j + sym lead_is j)
            ∙ sym (ap (λ (x : List ℕ). length x) more_is ∙ length-append parts (range_with_len next k) ∙ ap (λ (n : ℕ). length parts + n) (length-range_with_len next k));
        parts_before = λ q le. each_append (λ (p : PartialUnit). p.home ≡ Local q
            → ⊥) g.done mid (g.parts_before q (omega (arith, le))) (each_more (λ (p : PartialUnit). p.home ≡ Local file) (λ (p : PartialUnit). p.home ≡ Local q
            → ⊥) mid (λ p e e'. (let z : Local file ≡ Local q = sym e ∙ e' in let n : file ≡ q = cc in omega (arith, le, n))) at_mid);
        old = g.old ++ own;
        unit = g.unit + length doc.units;
        top = g.top + tops_among doc.units;
        units_are = g.units_are ∙ sym (append_assoc g.old own others_left)
            ∙ ap (λ (n : ℕ). (g.old ++ own) ++ named_files n (g.unit + length doc.units) (g.top + tops_among doc.units) rest) (let one : suc file ≡ file + 1 = omega arith in one);
        olds_many = length-append g.old own ∙ (λ j. g.olds_many j + own_long j)
            ∙ sym (ap (λ (x : List ℕ). length x) others_is ∙ length-append olds (numbers_of (next + k) (length doc.units) w)
            ∙ ap (λ (n : ℕ). length olds + n) (numbers_long (next + k) (length doc.units) w));
        olds_before = λ q le. each_append (λ (u : FileUnit EntryName). u.file ≡ q
            → ⊥) g.old own (g.olds_before q (omega (arith, le))) (each_more (λ (u : FileUnit EntryName). u.file ≡ file) (λ (u : FileUnit EntryName). u.file ≡ q
            → ⊥) own (λ u e e'. omega (arith, le, e, e')) own_files);
        built = g.built ++ here;
        all_are = g.all_are ∙ sym (append_assoc g.built here tail) ∙ ap (λ (n : ℕ). (g.built ++ here) ++ files_written m units n flags) (let one : suc file ≡ file + 1 = omega arith in one);
        built_many = length-append g.built here ∙ (λ j. g.built_many j + f.0 j) ∙ built_sum next k w own doc.units own_long after after_is;
        parts_ok = λ n part nth. subst (λ (x : List ℕ). IsNumber all x n (partial_unit m n)) (ap (λ (c : ℕ). parts ++ range_with_len next c) (sym lead_is) ∙ sym more_is)
            (parts_more g.done mid parts next g.parts_many g.parts_ok (λ j lt. stands j (partial_unit m (length g.done + j)) (f.1 j (omega (arith, lt, lead_is)))) n part nth);
        olds_ok = λ i u nth is. subst (λ (x : List ℕ). IsNumber all x i (kept_unit m units i u)) (ap (λ (c : ℕ). olds ++ numbers_of (next + k) c w) own_long ∙ sym others_is)
            (olds_more file g.old own olds (next + k) w g.olds_many g.olds_ok own_files flag
            (λ t j v e. (let far : next + k + j ≡ next + (k + j) = omega arith in ap (slice_get all) far ∙ stands (k + j) (kept_unit m units (length g.old + j) v) (f.2 t j v e))) i u nth is);
      }

  -- the common file comes first
  pub going_first : (k : ℕ) (parts : List ℕ) → k ≡ leading (length docs) (drop 0 shown) → parts ≡ range_with_len 0 k → (length written ≡ length docs)
      → Going 0 k docs written parts [] × (k ≡ length (common_units m))
  unfolding common_units
  going_first k parts count parts_is flags =
      let mid = parts_at m Common in
      let left = parts_of_files m (range_with_len 0 (length docs)) in
      let at_mid = at_home Common m.parts in
      let laters : Each (IsLater 0 (length docs)) left = files_later m 0 (length docs) (length docs) (omega arith) in
      let are : m.parts ≡ mid ++ left = h.order in
      let shown_mid = each_more (λ (p : PartialUnit). p.home ≡ Common) (λ (p : PartialUnit). (shown_part (length docs) p).file ≡ length docs) mid
      (λ p e. ap (λ (hm : Home). file_of_home (length docs) hm) e) at_mid in
      let not_left = each_more (IsLater 0 (length docs)) (λ (p : PartialUnit). (shown_part (length docs) p).file ≡ length docs → ⊥) left
      (λ p q e. (let lt = q.3 in let is : (shown_part (length docs) p).file ≡ q.0 = ap (λ (hm : Home). file_of_home (length docs) hm) q.1 in omega (arith, lt, is, e))) laters in
      let lead_is : k ≡ length mid = count ∙ lead (length docs) [] mid left [] are refl shown_mid not_left in
      let commons : common_units m ≡ numbered m 0 k = ap (partial_units m Common 0) are ∙ parts_mid m Common [] mid left tt at_mid (later_common 0 (length docs) left laters)
      ∙ ap (numbered m 0) (sym lead_is) in
      let long : length (common_units m) ≡ k = ap (λ (w : List (DwUnit EntryName)). length w) commons ∙ numbered_length m 0 k in
      let stands : (j : ℕ) → j < length mid → slice_get all (0 + j) ≡ Some (partial_unit m (0 + j)) = λ j lt. (
      let e : slice_get (common_units m) j ≡ Some (partial_unit m (0 + j)) = ap (λ (w : List (DwUnit EntryName)). slice_get w j) commons ∙ numbered_at m 0 k j (omega (arith, lt, lead_is)) in
      let z : 0 + j ≡ j = omega arith in
      ap (slice_get all) z ∙ get_first (common_units m) (files_written m units 0 written) j (partial_unit m (0 + j)) e) in (
        record {
          last = omega arith;
          done = mid;
          parts_are = are;
          parts_many = sym (ap (λ (w : List ℕ). length w) parts_is ∙ length-range_with_len 0 k ∙ lead_is);
          parts_before = λ g le. each_more (λ (p : PartialUnit). p.home ≡ Common) (λ (p : PartialUnit). p.home ≡ Local g → ⊥) mid (λ p e e'. (let z : Common ≡ Local g = sym e ∙ e' in cc)) at_mid;
          old = [];
          unit = 0;
          top = 0;
          units_are = refl;
          olds_many = refl;
          olds_before = λ g le. tt;
          built = common_units m;
          all_are = refl;
          built_many = long;
          parts_ok = λ n part nth. subst (λ (x : List ℕ). IsNumber all x n (partial_unit m n)) (ap (range_with_len 0) (sym lead_is)
              ∙ sym parts_is) (parts_more [] mid [] 0 refl (λ i p none. absurd none) stands n part nth);
          olds_ok = λ i u nth is. absurd nth;
        },
        sym long,
      )

  -- all are numbered
  pub going_end : (file next commons : ℕ) (flags : List Bool) (parts olds : List ℕ) → Going file next [] flags parts olds → commons ≡ length (common_units m)
      → AreUnitNumbers m units written commons parts olds
  unfolding parts_of_files named_files
  going_end file next commons flags parts olds g is =
      let done : m.parts ≡ g.done = g.parts_are ∙ append-nil g.done in
      let old : units ≡ g.old = g.units_are ∙ append-nil g.old in
      record {
        commons_are = is;
        changed = h.changed;
        parts_are = λ n part nth. g.parts_ok n part (subst (λ (w : List PartialUnit). Nth 0 w n part) done nth);
        olds_are = λ i u nth there. g.olds_ok i u (subst (λ (w : List (FileUnit EntryName)). Nth 0 w i u) old nth) there;
      }

  -- ---- as the code goes

  counts_many : length counts ≡ length docs
  counts_many = ap (λ (w : List ℕ). length w) h.counts_are ∙ length-map docs (λ (doc : Doc ℕ). length doc.units)

  pub begins : (k : ℕ) (before parts olds : List ℕ) → before ≡ [] → olds ≡ [] → k ≡ 0 + leading (length counts) (drop (length before) shown)
      → parts ≡ before ++ range_with_len 0 (leading (length counts) (drop (length before) shown)) → length written ≡ length counts
      → Going 0 k docs written parts olds × (k ≡ length (common_units m))
  begins k before parts olds none no_olds count is flags =
      let same : leading (length counts) (drop (length before) shown) ≡ leading (length docs) (drop 0 shown) = (λ j. leading (counts_many j) (drop (length (none j)) shown)) in
      let zero_k : k ≡ leading (length docs) (drop 0 shown) = omega (arith, count, same) in
      let are : parts ≡ range_with_len 0 k = is ∙ (λ j. none j ++ range_with_len 0 (same j)) ∙ ap (range_with_len 0) (sym zero_k) in
      let r = going_first k parts zero_k are (flags ∙ counts_many) in
      (subst (λ (w : List ℕ). Going 0 k docs written parts w) (sym no_olds) r.0, r.1)

  count_at : (xs : List (Doc ℕ)) (i : ℕ) (doc : Doc ℕ) → slice_get xs i ≡ Some doc → get_or (map (λ (d : Doc ℕ). length d.units) xs) i 0 ≡ length doc.units
  count_at [] i doc e = absurd cc
  count_at (d ∷ xs) zero doc e = (let same : d ≡ doc = cc in ap (λ (w : Doc ℕ). length w.units) same)
  count_at (d ∷ xs) (suc i) doc e = count_at xs i doc e

  pub goes_on : (file next first after : ℕ) (parts more olds others : List ℕ) → file < length counts → length written ≡ length counts → Going file next (drop file docs) (drop file written) parts olds
      → first ≡ next + leading file (drop (length parts) shown) → more ≡ parts ++ range_with_len next (leading file (drop (length parts) shown))
      → others ≡ olds ++ numbers_of first (get_or counts file 0) (get_or written file false)
      → after ≡ first + (if get_or written file false then get_or counts file 0 else 0) → Going (file + 1) after (drop (file + 1) docs) (drop (file + 1) written) more others
  goes_on file next first after parts more olds others lt flags g first_is more_is others_is after_is =
      let k = leading file (drop (length parts) shown) in
      let w = get_or written file false in
      let low : file < length docs = (let e = counts_many in omega (arith, lt, e)) in
      let d = there docs file low in
      let doc = d.0 in
      let docs_are : drop file docs ≡ doc ∷ drop (file + 1) docs = drop_next docs file doc low (sym (got docs file doc d.1)) in
      let one : suc file ≡ file + 1 = omega arith in
      let flags_are : drop file written ≡ w ∷ drop (file + 1) written = drop-cons written file false (omega (arith, lt, flags)) ∙ ap (λ (n : ℕ). w ∷ drop n written) one in
      let count : get_or counts file 0 ≡ length doc.units = ap (λ (x : List ℕ). get_or x file 0) h.counts_are ∙ count_at docs file doc d.1 in
      let g' : Going file next (doc ∷ drop (file + 1) docs) (w ∷ drop (file + 1) written) parts olds = subst
      (λ (x : List (Doc ℕ)). Going file next x (w ∷ drop (file + 1) written) parts olds) docs_are (subst (λ (x : List Bool). Going file next (drop file docs) x parts olds) flags_are g) in
      going_next file next k after doc (drop (file + 1) docs) w (drop (file + 1) written) parts more olds others g' refl refl more_is
      (others_is ∙ (λ j. olds ++ numbers_of (first_is j) (count j) w)) (after_is ∙ (λ j. first_is j + (if w then count j else 0)))

  pub ends : (file next commons : ℕ) (parts olds : List ℕ) → length counts ≤ file → Going file next (drop file docs) (drop file written) parts olds → commons ≡ length (common_units m)
      → AreUnitNumbers m units written commons parts olds
  ends file next commons parts olds le g is =
      let none : drop file docs ≡ [] = drop_all file docs (let e = counts_many in omega (arith, le, e)) in
      going_end file next commons (drop file written) parts olds (subst (λ (x : List (Doc ℕ)). Going file next x (drop file written) parts olds) none g) is
