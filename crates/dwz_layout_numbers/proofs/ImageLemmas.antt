-- The image of an entry stands as far behind the top that stands for its own as the entry behind its own top.
use Rattle.std.proofs.Common.{◌≡◌, ℕ, zero, suc, ◌+◌, ◌-◌, ◌<◌, ◌≤◌, List, [], ◌∷◌, ◌++◌, length, map, Some, slice_get, refl, sym, ap, subst, ◌∙◌, inl, inr, arith}
use Rattle.dwz_def_reading.specs.Lists.{In}
use Rattle.dwz_def_reading.specs.Trees.{End, Entry}
use Rattle.dwz_def_reading.proofs.ListFacts.{get_first, got_in}
use Rattle.dwz_def_reading.specs.Documents.{Doc, Entries}
use Rattle.dwz_def_tops.proofs.Members.{each_in}
use Rattle.dwz_def_tops.specs.Spots.{EntryName, Top, Within, tops_of, units_of}
use Rattle.dwz_def_tops.proofs.TopNumbers.{number_below, top_at, tops_numbers}
use Rattle.dwz_def_images.specs.Moves.{Move, image_in}
use Rattle.dwz_graph.proofs.TopLemmas.{get_cases, get_later}
use Rattle.dwz_layout_numbers.specs.Images.{HasStandIn, HaveStandIns}
use Rattle.dwz_graph.specs.AllNames.{all_names}
use Rattle.dwz_layout_numbers.proofs.FileRuns.{files_between, files_run, many_tops, tops_in_all}
use Rattle.dwz_layout_numbers.proofs.Paths.{paths_in, paths_of, shape_paths}
use Rattle.dwz_layout_numbers.proofs.Runs.{Between, Run}

-- ---- where the names of a run are

get_path : (n : ℕ) (paths : List (List ℕ)) (k : ℕ) (path : List ℕ) → slice_get (map (Within n) paths) k ≡ Some (Within n path) → slice_get paths k ≡ Some path
get_path n [] k path e = absurd cc
get_path n (p ∷ paths) zero path e = (let same : p ≡ path = cc in ap (λ (w : List ℕ). Some w) same)
get_path n (p ∷ paths) (suc k) path e = get_path n paths k path e

get_name : (n : ℕ) (paths : List (List ℕ)) (k : ℕ) (path : List ℕ) → slice_get paths k ≡ Some path → slice_get (map (Within n) paths) k ≡ Some (Within n path)
get_name n [] k path e = absurd cc
get_name n (p ∷ paths) zero path e = (let same : p ≡ path = cc in ap (λ (w : List ℕ). Some (Within n w)) same)
get_name n (p ∷ paths) (suc k) path e = get_name n paths k path e

module _ (low high n : ℕ) (names : List EntryName) (paths : List (List ℕ)) (r : Run low high names n paths) where
  pub located : (i : ℕ) (path : List ℕ) → slice_get names i ≡ Some (Within n path) → (k : ℕ) × (i ≡ length r.before + k) × (slice_get paths k ≡ Some path)
  located i path e = elim (get_cases r.before (map (Within n) paths ++ r.after) i (Within n path) (ap (λ (w : List EntryName). slice_get w i) (sym r.is) ∙ e)) [
    | inl a ↦ absurd (let h = each_in (Between low n) (Within n path) r.before r.less (got_in r.before i (Within n path) a) in omega (arith, h.1))
    | inr b ↦ (elim (get_cases (map (Within n) paths) r.after b.0 (Within n path) b.2) [
      | inl c ↦ (b.0, b.1, get_path n paths b.0 path c)
      | inr d ↦ absurd (let h = each_in (Between (suc n) high) (Within n path) r.after r.more (got_in r.after d.0 (Within n path) d.2) in omega (arith, h.0))
    ])
  ]

  pub placed : (k : ℕ) (path : List ℕ) → slice_get paths k ≡ Some path → slice_get names (length r.before + k) ≡ Some (Within n path)
  placed k path e =
      ap (λ (w : List EntryName). slice_get w (length r.before + k)) r.is
      ∙ get_later r.before (map (Within n) paths ++ r.after) k (Within n path) (get_first (map (Within n) paths) r.after k (Within n path) (get_name n paths k path e))

none_empty : (path : List ℕ) (i : ℕ) (f : Entries EntryName) (k : ℕ) → slice_get (paths_in path i f) k ≡ Some [] → ⊥
unfolding paths_in
none_empty path i End k e = absurd cc
none_empty path i (Entry d c n) zero e = cc
none_empty path i (Entry d c n) (suc k) e = elim (get_cases (paths_in (i ∷ path) 0 c) (paths_in path (suc i) n) k [] e) [
  | inl a ↦ none_empty (i ∷ path) 0 c k a
  | inr b ↦ none_empty path (suc i) n b.0 b.2
]

first_only : (f : Entries EntryName) (k : ℕ) → slice_get (paths_of f) k ≡ Some [] → k ≡ 0
first_only f zero e = refl
first_only f (suc k) e = absurd (none_empty [] 0 f k e)

-- the same place behind another top whose entries have the same paths
pub moved : (low high m n : ℕ) (names : List EntryName) (f g : Entries EntryName) → Run low high names m (paths_of f) → Run low high names n (paths_of g) → paths_in [] 0 f ≡ paths_in [] 0 g
    → (path : List ℕ) (i from to : ℕ)
    → slice_get names i ≡ Some (Within m path) → slice_get names from ≡ Some (Within m []) → slice_get names to ≡ Some (Within n [])
    → (from ≤ i) × (slice_get names (to + (i - from)) ≡ Some (Within n path))
moved low high m n names f g a b same path i from to e e' e'' =
    let x = located low high m names (paths_of f) a i path e in
    let y = located low high m names (paths_of f) a from [] e' in
    let z = located low high n names (paths_of g) b to [] e'' in
    let first = first_only f y.0 y.2 in
    let other = first_only g z.0 z.2 in
    let at_x = x.1 in
    let at_y = y.1 in
    let at_z = z.1 in
    let far : length b.before + x.0 ≡ to + (i - from) = omega arith in
    (omega arith, ap (λ (w : ℕ). slice_get names w) (sym far) ∙ placed low high n names (paths_of g) b x.0 path (ap (λ (w : List (List ℕ)). slice_get ([] ∷ w) x.0) (sym same) ∙ x.2))

-- ---- the tops of names

pub top_inside : (docs : List (Doc ℕ)) (top : ℕ) (path : List ℕ) (n : ℕ) → slice_get (all_names docs) n ≡ Some (Within top path) → top < length (tops_of (units_of docs))
top_inside docs top path n e =
    let many = many_tops docs in
    let h = each_in (Between 0 (tops_in_all docs)) (Within top path) (all_names docs) (files_between 0 0 (tops_in_all docs) docs (omega arith)) (got_in (all_names docs) n (Within top path) e) in
    omega (arith, many, h.1)

-- ---- the top that stands for one

module _ (docs : List (Doc ℕ)) (m : Move) (h : HaveStandIns docs m) where
  -- what stands for the top with that number
  stand_of : (top : ℕ) → top < length (tops_of (units_of docs)) → (t : Top) × In t (tops_of (units_of docs)) × (t.number ≡ top) × HasStandIn (tops_of (units_of docs)) m t
  stand_of top lt = (let a = top_at 0 (tops_of (units_of docs)) top (tops_numbers (units_of docs)) (omega arith) (omega (arith, lt)) in (a.0, a.1, a.2, h a.0 a.1))

  -- it is a top
  pub stand_inside : (top : ℕ) → top < length (tops_of (units_of docs)) → m.stand top < length (tops_of (units_of docs))
  stand_inside top lt =
      let a = stand_of top lt in
      let b = number_below 0 (tops_of (units_of docs)) a.3.top (tops_numbers (units_of docs)) a.3.there in
      let e : a.3.top.number ≡ m.stand top = a.3.number ∙ ap m.stand a.2 in
      omega (arith, b, e)

  pub image_there : (top : ℕ) (path : List ℕ) (n from to : ℕ)
      → slice_get (all_names docs) n ≡ Some (Within top path) → slice_get (all_names docs) from ≡ Some (Within top [])
      → slice_get (all_names docs) to ≡ Some (Within (m.stand top) [])
      → (from ≤ n) × (slice_get (all_names docs) (to + (n - from)) ≡ Some (image_in m (Within top path)))
  image_there top path n from to e e' e'' =
      let names = all_names docs in
      let high = tops_in_all docs in
      let a = stand_of top (top_inside docs top path n e) in
      let b = a.3 in
      let at : b.top.number ≡ m.stand top = b.number ∙ ap m.stand a.2 in
      let run : (t : Top) → In t (tops_of (units_of docs)) → Run 0 high names t.number (paths_of t.below) = λ t is. files_run 0 0 0 high docs (omega arith) t is in
      let run_a : Run 0 high names top (paths_of a.0.below) = subst (λ (w : ℕ). Run 0 high names w (paths_of a.0.below)) a.2 (run a.0 a.1) in
      let run_b : Run 0 high names (m.stand top) (paths_of b.top.below) = subst (λ (w : ℕ). Run 0 high names w (paths_of b.top.below)) at (run b.top b.there) in
      moved 0 high top (m.stand top) names a.0.below b.top.below run_a run_b (shape_paths [] 0 a.0.below b.top.below b.shape) path n from to e e' e''
