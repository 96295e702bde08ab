-- Tops one by one: whether an entry of one of them has a path.
use Rattle.std.proofs.Common.{◌≡◌, ℕ, zero, suc, ◌+◌, ◌<◌, ◌≤◌, ◌||◌, Bool, true, false, List, [], ◌∷◌, length, take, get_or, Some, slice_get, refl, sym, ap, subst, ◌∙◌, arith}
use Rattle.std.specs.List.{list_any}
use Rattle.std.proofs.lemmas.List.{take_all}
use Rattle.dwz_def_reading.specs.Lists.{In}
use Rattle.dwz_def_reading.proofs.ListFacts.{got_in}
use Rattle.dwz_def_tops.proofs.Members.{any_true, each_in}
use Rattle.dwz_def_tops.specs.Spots.{EntryName, FileUnit, Top, tops_of}
use Rattle.dwz_layout_input.specs.Roots.{path_in, root_line}
use Rattle.dwz_layout_input.specs.Steps.{AreTops, HaveLine, SaysLine}

pub tops_many : (units : List (FileUnit EntryName)) (ts : List Top) (numbers : List ℕ) → AreTops units ts numbers → length ts ≡ length numbers
tops_many units [] [] h = refl
tops_many units [] (n ∷ numbers) h = absurd h
tops_many units (t ∷ ts) [] h = absurd h
tops_many units (t ∷ ts) (n ∷ numbers) h = ap suc (tops_many units ts numbers h.1)

pub top_at : (units : List (FileUnit EntryName)) (ts : List Top) (numbers : List ℕ) (i : ℕ) → AreTops units ts numbers → i < length numbers
    → (t : Top) × (slice_get ts i ≡ Some t) × (slice_get (tops_of units) (get_or numbers i 0) ≡ Some t)
top_at units [] [] i h lt = absurd (omega arith)
top_at units [] (n ∷ numbers) i h lt = absurd h
top_at units (t ∷ ts) [] i h lt = absurd h
top_at units (t ∷ ts) (n ∷ numbers) zero h lt = (t, refl, h.0)
top_at units (t ∷ ts) (n ∷ numbers) (suc i) h lt = top_at units ts numbers i h.1 (omega arith)

take_next : (ts : List Top) (i : ℕ) (t : Top) → slice_get ts i ≡ Some t → path_in t ≡ false → list_any path_in (take i ts) ≡ false → list_any path_in (take (suc i) ts) ≡ false
take_next [] i t e none h = absurd cc
take_next (u ∷ ts) zero t e none h = (let same : u ≡ t = cc in λ j. (ap path_in same ∙ none) j || false)
take_next (u ∷ ts) (suc i) t e none h = by (path_in u) (take_next ts i t e none) h where
  by : (b : Bool) → (list_any path_in (take i ts) ≡ false → list_any path_in (take (suc i) ts) ≡ false) → (b || list_any path_in (take i ts)) ≡ false
      → (b || list_any path_in (take (suc i) ts)) ≡ false
  by true more k = absurd cc
  by false more k = more k

module _ (units : List (FileUnit EntryName)) (ts : List Top) (numbers : List ℕ) (are : AreTops units ts numbers) (i : ℕ) where
  module _ (lt : i < length numbers) (b : Bool)
      (says : (t : Top) → In t ts → slice_get (tops_of units) (get_or numbers i 0) ≡ Some t → path_in t ≡ b) where
    pub none_more : b ≡ false → list_any path_in (take i ts) ≡ false → list_any path_in (take (i + 1) ts) ≡ false
    none_more e h =
        let o = top_at units ts numbers i are lt in
        let one : suc i ≡ i + 1 = omega arith in
        subst (λ (k : ℕ). list_any path_in (take k ts) ≡ false) one (take_next ts i o.0 o.1 (says o.0 (got_in ts i o.0 o.1) o.2 ∙ e) h)

    pub one_found : b ≡ true → list_any path_in ts ≡ true
    one_found e =
        let o = top_at units ts numbers i are lt in
        let there = got_in ts i o.0 o.1 in
        any_true path_in o.0 ts there (says o.0 there o.2 ∙ e)

  pub none_found : length numbers ≤ i → list_any path_in (take i ts) ≡ false → list_any path_in ts ≡ false
  none_found le h =
      let long = tops_many units ts numbers are in
      sym (ap (list_any path_in) (take_all i ts (omega arith))) ∙ h

-- all have that root
pub line_of_each : (units : List (FileUnit EntryName)) (ts : List Top) (line : ℕ) → HaveLine units ts (Some line) → (t : Top) → In t ts → SaysLine (root_line units t) (Some line)
line_of_each units ts line h t there = each_in (λ (x : Top). SaysLine (root_line units x) (Some line)) t ts h there
