-- Lists of labels and targets that stand in the order of the numbers of tops, roots and spaces have each at its number.
use Rattle.std.proofs.Common.{◌≡◌, ℕ, suc, ◌<◌, List, [], ◌∷◌, ◌++◌, length, map, inl, inr, refl, sym, ap, ◌∙◌, arith}
use Rattle.std.specs.Prelude.{slice_index_or}
use Rattle.std.proofs.lemmas.List.{append_assoc, length-append}
use Rattle.dwz_def_reading.specs.Documents.{Node, node_map}
use Rattle.dwz_def_tops.specs.Lists.{Nth}
use Rattle.dwz_label.specs.Shown.{nth_label}
use Rattle.dwz_def_cross.specs.Tops.{CrossTop}
use Rattle.dwz_def_check.specs.CrossLabels.{cross_label, cross_targets, cross_top_map, lone_label, lone_targets}
use Rattle.dwz_def_check.specs.CrossNames.{Side, cross_tops}
use Rattle.dwz_def_check.specs.CrossNodes.{AreInLists, IsShownAs, lone_entries}

abbrev Lists : Type 0
Lists = List (List ℕ)

at_front : (front : Lists) (y : List ℕ) (back : Lists) → slice_index_or (front ++ y ∷ back) (length front) [] ≡ y
at_front [] y back = refl
at_front (z ∷ front) y back = at_front front y back

-- the n-th of some things, which have these labels in the list
abbrev HasAt : Lists → ℕ → List ℕ → Type 0
HasAt all n x = (n < length all) × (slice_index_or all n [] ≡ x)

nth_in : {X : Type 0} (f : X → List ℕ) (xs : List X) (s n : ℕ) (x : X) (all front back : Lists) → Nth s xs n x → length front ≡ s → all ≡ front ++ (map f xs ++ back) → HasAt all n (f x)
nth_in f [] s n x all front back h long are = absurd h
nth_in {X} f (y ∷ ys) s n x all front back (inl here) long are =
    let rest = map f ys ++ back in
    let at : length front ≡ n = long ∙ here.0 in
    let many = ap (λ (w : Lists). length w) are ∙ length-append front (f y ∷ rest) in (
      omega (arith, at, many),
      ap (λ (w : Lists). slice_index_or w n []) are ∙ ap (λ (k : ℕ). slice_index_or (front ++ f y ∷ rest) k []) (sym at) ∙ at_front front (f y) rest ∙ ap f here.1,
    )
nth_in f (y ∷ ys) s n x all front back (inr later) long are =
    nth_in f ys (suc s) n x all (front ++ f y ∷ []) back later (length-append front (f y ∷ []) ∙ (omega (arith, long)))
    (are ∙ sym (append_assoc front (f y ∷ []) (map f ys ++ back)))

-- ---- a side of which labels and targets stand in the lists

pub record SideLists {P : Type 0} (s : Side P) (top : CrossTop P → List ℕ) (lone : Node P → List ℕ) (all : Lists) : Type 0 where
  pub before_own : Lists
  pub behind_own : Lists
  pub own : all ≡ before_own ++ (map top (cross_tops s.files.own) ++ behind_own)
  pub own_long : length before_own ≡ s.own
  pub before_common : Lists
  pub behind_common : Lists
  pub common : all ≡ before_common ++ (map top (cross_tops s.files.common) ++ behind_common)
  pub common_long : length before_common ≡ s.common
  pub before_lone : Lists
  pub behind_lone : Lists
  pub of_lone : all ≡ before_lone ++ (map lone (lone_entries s.files.own) ++ behind_lone)
  pub lone_long : length before_lone ≡ s.lone

abbrev pub top_label_of : {P : Type 0} → Side P → CrossTop P → List ℕ
top_label_of s t = cross_label (cross_top_map s.name t)

abbrev pub top_targets_of : {P : Type 0} → Side P → CrossTop P → List ℕ
top_targets_of s t = cross_targets (cross_top_map s.name t)

abbrev pub lone_label_of : {P : Type 0} → Side P → Node P → List ℕ
lone_label_of s e = lone_label (node_map s.name e)

abbrev pub lone_targets_of : {P : Type 0} → Side P → Node P → List ℕ
lone_targets_of s e = lone_targets (node_map s.name e)

pub in_lists : {P : Type 0} (s : Side P) (labels targets : Lists) → SideLists s (top_label_of s) (lone_label_of s) labels → SideLists s (top_targets_of s) (lone_targets_of s) targets
    → AreInLists s labels targets
in_lists {P} s labels targets ls ts n label into shown = by shown where
  of_top : (t : CrossTop P) → Nth s.own (cross_tops s.files.own) n t → HasAt labels n (top_label_of s t) × HasAt targets n (top_targets_of s t)
  of_top t h = (
    nth_in (top_label_of s) (cross_tops s.files.own) s.own n t labels ls.before_own ls.behind_own h ls.own_long ls.own,
    nth_in (top_targets_of s) (cross_tops s.files.own) s.own n t targets ts.before_own ts.behind_own h ts.own_long ts.own,
  )

  of_common : (t : CrossTop P) → Nth s.common (cross_tops s.files.common) n t → HasAt labels n (top_label_of s t) × HasAt targets n (top_targets_of s t)
  of_common t h = (
    nth_in (top_label_of s) (cross_tops s.files.common) s.common n t labels ls.before_common ls.behind_common h ls.common_long ls.common,
    nth_in (top_targets_of s) (cross_tops s.files.common) s.common n t targets ts.before_common ts.behind_common h ts.common_long ts.common,
  )

  of_lone : (e : Node P) → Nth s.lone (lone_entries s.files.own) n e → HasAt labels n (lone_label_of s e) × HasAt targets n (lone_targets_of s e)
  of_lone e h = (
    nth_in (lone_label_of s) (lone_entries s.files.own) s.lone n e labels ls.before_lone ls.behind_lone h ls.lone_long ls.of_lone,
    nth_in (lone_targets_of s) (lone_entries s.files.own) s.lone n e targets ts.before_lone ts.behind_lone h ts.lone_long ts.of_lone,
  )

  so : (x y : List ℕ) → HasAt labels n x × HasAt targets n y → x ≡ label → y ≡ into → (n < length labels) × (nth_label labels n ≡ label) × (slice_index_or targets n [] ≡ into)
  so x y h e f = (h.0.0, h.0.1 ∙ e, h.1.1 ∙ f)

  by : IsShownAs s n label into → (n < length labels) × (nth_label labels n ≡ label) × (slice_index_or targets n [] ≡ into)
  by (inl (t, inl h, e, f)) = so _ _ (of_top t h) e f
  by (inl (t, inr h, e, f)) = so _ _ (of_common t h) e f
  by (inr (e, h, p, q)) = so _ _ (of_lone e h) p q
