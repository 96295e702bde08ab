-- A file imports from the common file exactly where one of its units uses a partial unit there: part by part, and then by the plan.
use Rattle.std.proofs.Common.{◌≡◌, ◌↔◌, ◌⊎◌, ℕ, zero, suc, ◌+◌, ◌<◌, ◌≤◌, ◌==◌, ◌&&◌, Bool, true, false, List, [], ◌∷◌, ◌++◌}
use Rattle.std.proofs.Common.{Option, Some, length, map, take, get_or, slice_get, refl, sym, ap, subst, ◌∙◌, inl, inr, ⊎_elim, arith, eqb-true, eq-eqb}
use Rattle.std.specs.Prelude.{replicate, slice_index_or}
use Rattle.std.specs.List.{list_any}
use Rattle.std.proofs.lemmas.Bool.{and_from, and_parts}
use Rattle.std.proofs.lemmas.List.{take_all}
use Rattle.std.proofs.lemmas.Option.{get_or_from_slice_get}
use Rattle.dwz_def_reading.specs.Lists.{In}
use Rattle.dwz_def_reading.proofs.ListFacts.{get_first, got_map, got_there, in_cases, in_left, in_map, in_right, replicate_long}
use Rattle.dwz_def_reading.proofs.CaseFacts.{same_test}
use Rattle.dwz_def_reading.specs.Documents.{Doc}
use Rattle.dwz_def_tops.proofs.Members.{any_from, any_true, in_map_from}
use Rattle.dwz_def_tops.specs.Spots.{EntryName, FileUnit, file_numbers, units_of}
use Rattle.dwz_groups.specs.declared.tops.Tops.{Tops}
use Rattle.dwz_def_images.specs.Homes.{Common, Home, Local, file_of, same_home}
use Rattle.dwz_def_images.specs.Moves.{Move}
use Rattle.dwz_def_images.specs.Plan.{PartialUnit}
use Rattle.dwz_def_images.proofs.PlanLemmas.{home_true}
use Rattle.dwz_def_readback.specs.Files.{imports_common}
use Rattle.dwz_plan.specs.declared.plan.Partial.{Partial}
use Rattle.dwz_plan.specs.Planned.{Planned, file_of_home}
use Rattle.dwz_plan.specs.Shows.{shown_part}
use Rattle.dwz_plan.proofs.BridgeLemmas.{file_is}
use Rattle.dwz_groups.specs.Spreading.{IsMarked}
use Rattle.dwz_move.specs.Marked.{Marks, if_asked}
use Rattle.dwz_layout_order.specs.Behind.{ArePlannedFirst, StandFirst}
use Rattle.dwz_layout_order.proofs.ChangedLemmas.{flags_are, none_set}
use Rattle.dwz_move.proofs.MarkLemmas.{marks_append, marks_empty}

-- ---- the files of units, one after the other

files_next : (files units : List ℕ) (k : ℕ) → k < length units
    → map (slice_get files) (take (suc k) units) ≡ map (slice_get files) (take k units) ++ slice_get files (get_or units k 0) ∷ []
files_next files [] k lt = absurd (omega arith)
files_next files (u ∷ units) zero lt = refl
files_next files (u ∷ units) (suc k) lt = ap (λ (os : List (Option ℕ)). slice_get files u ∷ os) (files_next files units k (omega arith))

pub no_files : (files units : List ℕ) (old : List Bool) → Marks (map (slice_get files) (take 0 units)) old old
no_files files units old = marks_empty old

pub files_more : (files units : List ℕ) (k : ℕ) (o : Option ℕ) (old now new : List Bool) → k < length units → o ≡ slice_get files (get_or units k 0)
    → Marks (map (slice_get files) (take k units)) old now → Marks (if_asked true o) now new
    → Marks (map (slice_get files) (take (k + 1) units)) old new
files_more files units k o old now new lt is before more =
    let one : suc k ≡ k + 1 = omega arith in
    let all : map (slice_get files) (take k units) ++ o ∷ [] ≡ map (slice_get files) (take (k + 1) units) =
    ap (λ (w : Option ℕ). map (slice_get files) (take k units) ++ w ∷ []) is ∙ sym (files_next files units k lt) ∙ ap (λ (j : ℕ). map (slice_get files) (take j units)) one in
    subst (λ (os : List (Option ℕ)). Marks os old new) all (marks_append (map (slice_get files) (take k units)) (o ∷ []) old now new before more)

pub files_all : (files units : List ℕ) (k : ℕ) (old now : List Bool) → length units ≤ k → Marks (map (slice_get files) (take k units)) old now → Marks (map (slice_get files) units) old now
files_all files units k old now le marks = subst (λ (us : List ℕ). Marks (map (slice_get files) us) old now) (take_all k units le) marks

-- ---- part by part

-- a unit of that file uses the partial unit, which is of the common file
pub record Uses (count : ℕ) (files : List ℕ) (part : Partial) (file : ℕ) : Type 0 where
  pub common : part.file ≡ count
  pub user : ℕ
  pub there : In user part.users
  pub file_is : slice_get files user ≡ Some file

abbrev pub UsesOne : (count : ℕ) (files : List ℕ) → List Partial → ℕ → Type 0
UsesOne count files parts file = (part : Partial) × In part parts × Uses count files part file

-- by these partial units
pub record Flagged (count : ℕ) (files : List ℕ) (parts : List Partial) (flags : List Bool) : Type 0 where
  pub len : length flags ≡ count
  pub each : (file : ℕ) → file < count → IsMarked flags file ↔ UsesOne count files parts file

pub none_flagged : (count : ℕ) (files : List ℕ) (parts : List Partial) (flags : List Bool) → flags ≡ replicate count false → Flagged count files (take 0 parts) flags
none_flagged count files parts flags e =
    subst (λ (w : List Bool). Flagged count files [] w) (sym e)
    (record { len = replicate_long count; each = λ file lt. (λ h. absurd (none_set count file h), λ u. absurd u.1) })

parts_next : (parts : List Partial) (k : ℕ) (d : Partial) → k < length parts → take (suc k) parts ≡ take k parts ++ get_or parts k d ∷ []
parts_next [] k d lt = absurd (omega arith)
parts_next (p ∷ parts) zero d lt = refl
parts_next (p ∷ parts) (suc k) d lt = ap (λ (ps : List Partial). p ∷ ps) (parts_next parts k d (omega arith))

module _ (count : ℕ) (files : List ℕ) (parts : List Partial) (k : ℕ) (x : Partial) (lt : k < length parts) (x_is : x ≡ get_or parts k x)
    (old new : List Bool) (h : Flagged count files (take k parts) old) where
  abbrev front : List Partial
  front = take k parts

  all_are : front ++ x ∷ [] ≡ take (k + 1) parts
  all_are =
      let one : suc k ≡ k + 1 = omega arith in
      ap (λ (w : Partial). front ++ w ∷ []) x_is ∙ sym (parts_next parts k x lt) ∙ ap (λ (j : ℕ). take j parts) one

  found : (file : ℕ) → UsesOne count files front file ⊎ Uses count files x file → UsesOne count files (front ++ x ∷ []) file
  found file (inl u) = (u.0, in_left u.0 front (x ∷ []) u.1, u.2)
  found file (inr u) = (x, in_right x front (x ∷ []) (inl refl), u)

  cases : (file : ℕ) → UsesOne count files (front ++ x ∷ []) file → UsesOne count files front file ⊎ Uses count files x file
  cases file u = elim (in_cases u.0 front (x ∷ []) u.1) [
    | inl a ↦ inl (u.0, a, u.2)
    | inr b ↦ inr (⊎_elim (λ (e : x ≡ u.0). subst (λ (w : Partial). Uses count files w file) (sym e) u.2) (λ no. absurd no) b)
  ]

  more : length new ≡ length old → ((file : ℕ) → file < count → IsMarked new file ↔ (IsMarked old file ⊎ Uses count files x file)) → Flagged count files (take (k + 1) parts) new
  more len each =
      subst (λ (ps : List Partial). Flagged count files ps new) all_are (record {
        len = len ∙ h.len;
        each = λ file low. (
          λ m. found file (⊎_elim (λ o. inl ((h.each file low).0 o)) (λ u. inr u) ((each file low).0 m)),
          λ u. (each file low).1 (⊎_elim (λ o. inl ((h.each file low).1 o)) (λ b. inr b) (cases file u)),
        );
      })

  -- it is of the common file
  pub part_marked : x.file ≡ count → Marks (map (slice_get files) x.users) old new → Flagged count files (take (k + 1) parts) new
  part_marked common m = more m.len (λ file low. (
      let within : file < length old = (let long = h.len in omega arith) in (
        λ marked. ⊎_elim (λ o. inl o) (λ there. (
            let o = in_map_from (slice_get files) (Some file) x.users there in
            inr (record { common = common; user = o.source; there = o.there; file_is = o.is }))) ((m.each file within).0 marked),
        λ is. ⊎_elim (λ o. (m.each file within).1 (inl o)) (λ (u : Uses count files x file). (
            let there = in_map (slice_get files) u.user x.users u.there in
            (m.each file within).1 (inr (subst (λ (w : Option ℕ). In w (map (slice_get files) x.users)) u.file_is there)))) is,
      )))

  -- it isn't
  pub part_passed : (x.file ≡ count → ⊥) → new ≡ old → Flagged count files (take (k + 1) parts) new
  part_passed other same = more (ap (λ (w : List Bool). length w) same) (λ file low. (
    λ marked. inl (subst (λ (w : List Bool). IsMarked w file) same marked),
    λ is. ⊎_elim (λ o. subst (λ (w : List Bool). IsMarked w file) (sym same) o) (λ (u : Uses count files x file). absurd (other u.common)) is,
  ))

-- ---- by the move

file_got : (units : List (FileUnit EntryName)) (u : ℕ) → u < length units → slice_get (map (λ (f : FileUnit EntryName). f.file) units) u ≡ Some (file_of units u)
file_got units u lt =
    let one = got_there units u lt in
    let got = got_map (λ (f : FileUnit EntryName). f.file) units u one.0 one.1 in
    got ∙ ap (λ (k : ℕ). Some k) (sym (file_is units u ∙ get_or_from_slice_get (map (λ (f : FileUnit EntryName). f.file) units) u one.0.file 0 got))

some_same : (m n : ℕ) → Some m ≡ Some n → m ≡ n
some_same m n e = cc

common_home : (count : ℕ) (h : Home) → (h ≡ Common) ⊎ ((file : ℕ) × (file < count) × (h ≡ Local file)) → file_of_home count h ≡ count → h ≡ Common
common_home count h (inl e) same = e
common_home count h (inr o) same = absurd (let low = o.1 in let is : o.0 ≡ count = sym (ap (file_of_home count) o.2) ∙ same in omega arith)

module _ (docs : List (Doc ℕ)) (m : Move) (tops : Tops) (plan : Planned) (planned : ArePlannedFirst m (units_of docs) (length docs) tops plan) where
  abbrev units : List (FileUnit EntryName)
  units = units_of docs

  abbrev count : ℕ
  count = length docs

  abbrev first : StandFirst (units_of docs) tops
  first = planned.rows

  abbrev is_user : ℕ → PartialUnit → Bool
  is_user file part = list_any (λ i. file_of units i == file) part.users

  abbrev test : ℕ → PartialUnit → Bool
  test file part = same_home part.home Common && is_user file part

  file_at : (p : PartialUnit) → In p m.parts → (u : ℕ) → In u p.users → slice_get tops.files_of_units u ≡ Some (file_of units u)
  file_at p there u is =
      ap (λ (fs : List ℕ). slice_get fs u) first.files_of_units
      ∙ get_first first.own.files_of_units first.files_behind u (file_of units u)
      (ap (λ (fs : List ℕ). slice_get fs u) first.shows.files_of_units ∙ file_got units u (planned.users p there u is))

  imports_so : (file : ℕ) → UsesOne count tops.files_of_units plan.partials file → imports_common m units file ≡ true
  unfolding imports_common
  imports_so file u =
      let o = in_map_from (shown_part count) u.0 m.parts (subst (In u.0) (sym planned.moves.partials) u.1) in
      let p = o.source in
      let common : p.home ≡ Common = common_home count p.home (planned.homes p o.there) (ap (λ (w : Partial). w.file) o.is ∙ u.2.common) in
      let user = u.2.user in
      let uses : In user p.users = subst (In user) (sym (ap (λ (w : Partial). w.users) o.is)) u.2.there in
      let same : file_of units user ≡ file = some_same (file_of units user) file (sym (file_at p o.there user uses) ∙ u.2.file_is) in
      let by_user : is_user file p ≡ true = any_true (λ i. file_of units i == file) user p.users uses (eq-eqb (file_of units user) file same) in
      let passes = and_from (same_home p.home Common) (is_user file p) (ap (λ (h : Home). same_home h Common) common) by_user in
      any_true (test file) p m.parts o.there passes

  so_imports : (file : ℕ) → imports_common m units file ≡ true → UsesOne count tops.files_of_units plan.partials file
  unfolding imports_common
  so_imports file e =
      let o = any_from (test file) m.parts e in
      let p = o.one in
      let both = and_parts (same_home p.home Common) (is_user file p) o.passes in
      let user = any_from (λ i. file_of units i == file) p.users both.1 in (
        shown_part count p,
        subst (In (shown_part count p)) planned.moves.partials (in_map (shown_part count) p m.parts o.there),
        record {
          common = ap (file_of_home count) (home_true p.home Common both.0);
          user = user.one;
          there = user.there;
          file_is = file_at p o.there user.one user.there ∙ ap (λ (k : ℕ). Some k) (eqb-true (file_of units user.one) file user.passes);
        },
      )

  pub flags_so : (files : ℕ) (flags : List Bool) → length docs ≡ files → Flagged files tops.files_of_units plan.partials flags
      → flags ≡ map (imports_common m (units_of docs)) (file_numbers 0 docs)
  flags_so files flags many flagged =
      let h = subst (λ (n : ℕ). Flagged n tops.files_of_units plan.partials flags) (sym many) flagged in
      flags_are (imports_common m units) flags 0 docs h.len (λ k lt.
      let each = h.each k lt in
      let at : k ≡ 0 + k = omega arith in
      same_test (slice_index_or flags k false) (imports_common m units k) (λ w. imports_so k (each.0 w)) (λ c. each.1 (so_imports k c))
      ∙ ap (imports_common m units) at)
