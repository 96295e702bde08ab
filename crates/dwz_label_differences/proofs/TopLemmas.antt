-- Two tops by themselves: where they stand, and their entries.
use Rattle.std.proofs.Common.{◌≡◌, ◌≢◌, ℕ, ℤ, pos, negsuc, zero, suc, ◌-◌, ◌<◌, List, [], ◌∷◌, ◌++◌, length, Option, Some, None, refl, sym, ap, subst, ◌∙◌, arith}
use Rattle.std.proofs.lemmas.List.{append_assoc}
use Rattle.dwz_model.specs.Lists.{Each}
use Rattle.dwz_model.proofs.Members.{each_append}
use Rattle.dwz_def_reading.specs.Documents.{Entries}
use Rattle.dwz_def_reading.specs.Trees.{End, Entry, size}
use Rattle.dwz_def_tops.specs.Alike.{SameTop}
use Rattle.dwz_def_tops.specs.Spots.{EntryName, Top, name_list}
use Rattle.dwz_def_explain.specs.Chain.{Whichever}
use Rattle.dwz_def_explain.specs.What.{FirstDiffer, IsWhat, SameSurroundings, Subtree, whole_top}
use Rattle.dwz_label.specs.Labels.{counted, each_counted, label_of, language_label, number}
use Rattle.dwz_label.proofs.Codes.{heads, tails}
use Rattle.dwz_label_differences.specs.declared.differences.Difference.{Difference}
use Rattle.dwz_label_differences.specs.declared.differences.Difference.TheVariants.{Attribute, Children, Tag}
use Rattle.dwz_label_differences.specs.declared.entries.EntryLabel.{EntryLabel}
use Rattle.dwz_label_differences.specs.Labels.{Agree, AreEntryLabels, FirstAt, FlatEntry, flat, path_of, way, what_of, whole, whole_label}
use Rattle.dwz_label_differences.specs.Told.{EachNode, HasFewAttributes, IsShort}
use Rattle.dwz_label_differences.proofs.AttributeLemmas.{TellsSame}
use Rattle.dwz_label_differences.proofs.Flats.{flat_size}
use Rattle.dwz_label_differences.proofs.Numbers.{IsAfter}
use Rattle.dwz_label_differences.proofs.SamePieces.{languages_of, names_of}
use Rattle.dwz_label_differences.proofs.Trees.{Differ, agree_below, first_differ}

-- ---- languages

pub language_none : (l : Option ℤ) (kind : ℕ) (others rest : List ℕ) → kind ∷ others ≡ language_label l ++ rest → kind ≡ 0 → others ≡ rest
language_none None kind others rest e none = tails e
language_none (Some (pos n)) kind others rest e none = absurd (let h = heads e in omega (arith, h, none))
language_none (Some (negsuc n)) kind others rest e none = absurd (let h = heads e in omega (arith, h, none))

pub language_some : (l : Option ℤ) (kind : ℕ) (others rest : List ℕ) → kind ∷ others ≡ language_label l ++ rest → kind ≢ 0 → (n : ℕ) × (others ≡ number n ++ rest)
language_some None kind others rest e some = absurd (some (heads e))
language_some (Some (pos n)) kind others rest e some = (n, tails e)
language_some (Some (negsuc n)) kind others rest e some = (n, tails e)

pub no_language : (l : Option ℤ) (rest : List ℕ) → [] ≡ language_label l ++ rest → ⊥
no_language None rest e = absurd cc
no_language (Some (pos n)) rest e = absurd cc
no_language (Some (negsuc n)) rest e = absurd cc

-- ---- where a top stands

pub label_parts : (t : Top) (label : List ℕ) → label ≡ label_of t → label ≡ language_label t.language ++ (each_counted counted (name_list t) ++ whole_label (whole_top t))
unfolding label_of
label_parts t label e = e ∙ append_assoc (language_label t.language) (each_counted counted (name_list t)) (whole_label (whole_top t))

module _ (x y : Top) (a b a_place b_place : List ℕ) (a_is : a ≡ label_of x) (b_is : b ≡ label_of y) (a_after : IsAfter language_label a a_place) (b_after : IsAfter language_label b b_place) where
  pub place_first : a_place ≡ each_counted counted (name_list x) ++ whole_label (whole_top x)
  place_first = a_after x.language (each_counted counted (name_list x) ++ whole_label (whole_top x)) (label_parts x a a_is)

  pub place_second : b_place ≡ each_counted counted (name_list y) ++ whole_label (whole_top y)
  place_second = b_after y.language (each_counted counted (name_list y) ++ whole_label (whole_top y)) (label_parts y b b_is)

  pub languages_told : (T : Type 0) → TellsSame a a_place b b_place T → (T → x.language ≡ y.language) × (x.language ≡ y.language → T)
  languages_told T tells =
      let t = tells (language_label x.language) (language_label y.language) (label_parts x a a_is ∙ ap (λ (w : List ℕ). language_label x.language ++ w) (sym place_first))
      (label_parts y b b_is ∙ ap (λ (w : List ℕ). language_label y.language ++ w) (sym place_second)) in
      ((λ is. languages_of x.language y.language (t.0 is)), (λ same. t.1 (ap language_label same)))

  module _ (a_entries b_entries : List ℕ) (a_behind : IsAfter (each_counted counted) a_place a_entries) (b_behind : IsAfter (each_counted counted) b_place b_entries) where
    pub entries_first : a_entries ≡ whole_label (whole_top x)
    entries_first = a_behind (name_list x) (whole_label (whole_top x)) place_first

    pub entries_second : b_entries ≡ whole_label (whole_top y)
    entries_second = b_behind (name_list y) (whole_label (whole_top y)) place_second

    pub names_told : (T : Type 0) → TellsSame a_place a_entries b_place b_entries T → (T → name_list x ≡ name_list y) × (name_list x ≡ name_list y → T)
    names_told T tells =
        let t = tells (each_counted counted (name_list x)) (each_counted counted (name_list y)) (place_first ∙ ap (λ (w : List ℕ). each_counted counted (name_list x) ++ w) (sym entries_first))
        (place_second ∙ ap (λ (w : List ℕ). each_counted counted (name_list y) ++ w) (sym entries_second)) in
        ((λ is. names_of x.spaces y.spaces (t.0 is)), (λ same. t.1 (ap (λ (names : List (List ℕ)). each_counted counted names) same)))

-- ---- few attributes

abbrev IsFew : FlatEntry → Type 0
IsFew d = HasFewAttributes d.node

few_flat : (f : Entries EntryName) → EachNode HasFewAttributes f → Each IsFew (flat f)
unfolding flat
few_flat End h = tt
few_flat (Entry e c n) h = (h.0, each_append IsFew (flat c) (flat n) (few_flat c h.1) (few_flat n h.2))

pub few_whole : (x : Top) → IsShort x → Each IsFew (whole (whole_top x))
few_whole x h = (h.attributes, few_flat x.below h.attributes_below)

-- ---- paths

pub path_far : (x : Subtree) (rows : List EntryLabel) (row : EntryLabel) (others : List EntryLabel) (k : ℕ) → (k ≡ 0 → ⊥) → rows ≡ row ∷ others → AreEntryLabels (whole x) rows
    → k < length (whole x) → AreEntryLabels (flat x.below) others × (k - 1 < size x.below) × (way 0 x.below (k - 1) ≡ path_of x k)
path_far x rows row others zero some is h l = absurd (some refl)
path_far x rows row others (suc k) some is h l = (
  (subst (λ (rs : List EntryLabel). AreEntryLabels (whole x) rs) is h).1,
  (let n = flat_size x.below in omega (arith, l, n)),
  ap (λ (j : ℕ). way 0 x.below j) (let e : suc k - 1 ≡ k = omega arith in e),
)

pub path_near : (x : Subtree) (k : ℕ) → k ≡ 0 → [] ≡ path_of x k
path_near x zero e = refl
path_near x (suc k) e = absurd (omega (arith, e))

-- ---- entries

pub all_same : (x y : Top) → SameSurroundings x y → Agree (whole (whole_top x)) (whole (whole_top y)) → SameTop Whichever x y
all_same x y s a = (s.0, s.1, a.0.0, agree_below x.below y.below a.0.1 a.1)

what_is : (by : Difference) (path : List ℕ) (x y : Top) → SameSurroundings x y → FirstDiffer (Differ by) path (whole_top x) (whole_top y) → IsWhat x y (what_of path by)
what_is Tag path x y s f = (s, f)
what_is (Attribute i) path x y s f = (s, f)
what_is Children path x y s f = (s, f)

pub what_found : (by : Difference) (k : ℕ) (x y : Top) → SameSurroundings x y → FirstAt by k (whole (whole_top x)) (whole (whole_top y)) → IsWhat x y (what_of (path_of (whole_top x) k) by)
what_found by k x y s f = what_is by (path_of (whole_top x) k) x y s (first_differ by k (whole_top x) (whole_top y) f)
