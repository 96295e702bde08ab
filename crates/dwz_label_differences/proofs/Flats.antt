-- Entries in preorder: their labels one behind the other, and behind each entry those below it.
use Rattle.std.proofs.Common.{◌≡◌, ℕ, zero, suc, ◌≤◌, List, [], ◌∷◌, ◌++◌, length, drop, take, Some, slice_get, refl, sym, ap, subst, ◌∙◌, arith}
use Rattle.std.specs.List.{flat_map}
use Rattle.std.proofs.lemmas.List.{append-nil, append_assoc, length-append}
use Rattle.std.proofs.lemmas.Grind.{flat_map-append}
use Rattle.std.proofs.Math.Seq.{drop-append_seam, take-append_seam}
use Rattle.dwz_def_reading.specs.Documents.{Entries}
use Rattle.dwz_def_reading.specs.Trees.{End, Entry, size}
use Rattle.dwz_def_tops.specs.Seen.{heads}
use Rattle.dwz_def_tops.specs.Spots.{EntryName}
use Rattle.dwz_def_explain.specs.What.{Subtree}
use Rattle.dwz_label.specs.Labels.{entries_label, node_label}
use Rattle.dwz_label_differences.specs.declared.entries.EntryLabel.{EntryLabel}
use Rattle.dwz_label_differences.specs.Labels.{AreEntryLabels, FlatEntry, IsEntryLabel, flat, whole, whole_label}

abbrev pub flat_label : FlatEntry → List ℕ
flat_label e = node_label e.below e.node

pub flat_size : (f : Entries EntryName) → length (flat f) ≡ size f
unfolding flat
flat_size End = refl
flat_size (Entry e c n) =
    let a = length-append (flat c) (flat n) in
    let b = flat_size c in
    let d = flat_size n in
    omega (arith, a, b, d)

pub flat_spelled : (f : Entries EntryName) → entries_label f ≡ flat_map flat_label (flat f)
unfolding flat entries_label
flat_spelled End = refl
flat_spelled (Entry e c n) =
    ap (λ (w : List ℕ). node_label (size c) e ++ w) ((λ i. flat_spelled c i ++ flat_spelled n i) ∙ sym (flat_map-append flat_label (flat c) (flat n)))

pub whole_spelled : (x : Subtree) → whole_label x ≡ flat_map flat_label (whole x)
whole_spelled x = ap (λ (w : List ℕ). node_label (size x.below) x.node ++ w) (flat_spelled x.below)

-- ---- behind each entry stand those below it

pub record HasBelow (e : FlatEntry) (es : List FlatEntry) : Type 0 where
  pub children : Entries EntryName
  pub more : List FlatEntry
  pub is : es ≡ flat children ++ more
  pub below : size children ≡ e.below
  pub many : length (heads children) ≡ e.children

abbrev pub Nested : List FlatEntry → Type 0
Nested [] = Unit {0}
Nested (e ∷ es) = HasBelow e es × Nested es

nested : (f : Entries EntryName) (more : List FlatEntry) → Nested more → Nested (flat f ++ more)
unfolding flat
nested End more h = h
nested (Entry e c n) more h =
    let assoc = append_assoc (flat c) (flat n) more in (
      record { children = c; more = flat n ++ more; is = assoc; below = refl; many = refl },
      subst Nested (sym assoc) (nested c (flat n ++ more) (nested n more h)),
    )

pub nested_whole : (x : Subtree) → Nested (whole x)
nested_whole x = (
  record { children = x.below; more = []; is = sym (append-nil (flat x.below)); below = refl; many = refl },
  subst Nested (append-nil (flat x.below)) (nested x.below [] tt),
)

pub nested_at : (es : List FlatEntry) (k : ℕ) (e : FlatEntry) → Nested es → slice_get es k ≡ Some e → HasBelow e (drop (suc k) es)
nested_at [] k e h g = absurd cc
nested_at (d ∷ es) zero e h g = let same : d ≡ e = cc in subst (λ (y : FlatEntry). HasBelow y es) same h.0
nested_at (d ∷ es) (suc k) e h g = nested_at es k e h.1 g

pub below_within : (e : FlatEntry) (es : List FlatEntry) → HasBelow e es → e.below ≤ length es
below_within e es h =
    let a = ap length h.is in
    let b = length-append (flat h.children) h.more in
    let c = flat_size h.children in
    let d = h.below in
    omega (arith, a, b, c, d)

-- ---- rows of labels

pub labels_long : (es : List FlatEntry) (rows : List EntryLabel) → AreEntryLabels es rows → length rows ≡ length es
labels_long [] [] h = refl
labels_long (e ∷ es) (r ∷ rows) h = ap suc (labels_long es rows h.1)
labels_long [] (r ∷ rows) h = absurd h
labels_long (e ∷ es) [] h = absurd h

pub labels_at : (es : List FlatEntry) (rows : List EntryLabel) (k : ℕ) (e : FlatEntry) (row : EntryLabel) → AreEntryLabels es rows → slice_get es k ≡ Some e → slice_get rows k ≡ Some row → IsEntryLabel e row
labels_at (d ∷ es) (r ∷ rows) zero e row h g s =
    let a : d ≡ e = cc in
    let b : r ≡ row = cc in
    subst (λ (y : FlatEntry). IsEntryLabel y row) a (subst (λ (y : EntryLabel). IsEntryLabel d y) b h.0)
labels_at (d ∷ es) (r ∷ rows) (suc k) e row h g s = labels_at es rows k e row h.1 g s
labels_at [] rows k e row h g s = absurd cc
labels_at (d ∷ es) [] k e row h g s = absurd h

pub labels_behind : (n : ℕ) (es : List FlatEntry) (rows : List EntryLabel) → AreEntryLabels es rows → AreEntryLabels (drop n es) (drop n rows)
labels_behind zero es rows h = h
labels_behind (suc n) [] [] h = h
labels_behind (suc n) (e ∷ es) (r ∷ rows) h = labels_behind n es rows h.1
labels_behind (suc n) [] (r ∷ rows) h = absurd h
labels_behind (suc n) (e ∷ es) [] h = absurd h

pub labels_front : (n : ℕ) (es : List FlatEntry) (rows : List EntryLabel) → AreEntryLabels es rows → AreEntryLabels (take n es) (take n rows)
labels_front zero es rows h = tt
labels_front (suc n) [] [] h = h
labels_front (suc n) (e ∷ es) (r ∷ rows) h = (h.0, labels_front n es rows h.1)
labels_front (suc n) [] (r ∷ rows) h = absurd h
labels_front (suc n) (e ∷ es) [] h = absurd h

pub labels_more : (es : List FlatEntry) (rows : List EntryLabel) (e : FlatEntry) (row : EntryLabel) → AreEntryLabels es rows → IsEntryLabel e row → AreEntryLabels (es ++ e ∷ []) (rows ++ row ∷ [])
labels_more [] [] e row h is = (is, tt)
labels_more (d ∷ es) (r ∷ rows) e row h is = (h.0, labels_more es rows e row h.1 is)
labels_more [] (r ∷ rows) e row h is = absurd h
labels_more (d ∷ es) [] e row h is = absurd h

-- those of entries below one, and of those behind it
pub labels_below : (c : Entries EntryName) (more : List FlatEntry) (below : ℕ) (rows : List EntryLabel) → AreEntryLabels (flat c ++ more) rows → below ≡ size c → AreEntryLabels (flat c) (take below rows)
labels_below c more below rows h is =
    let n : length (flat c) ≡ below = flat_size c ∙ sym is in
    subst (λ (k : ℕ). AreEntryLabels (flat c) (take k rows)) n
    (subst (λ (es : List FlatEntry). AreEntryLabels es (take (length (flat c)) rows)) (take-append_seam (flat c) more) (labels_front (length (flat c)) (flat c ++ more) rows h))

pub labels_beside : (c : Entries EntryName) (more : List FlatEntry) (below : ℕ) (rows : List EntryLabel) → AreEntryLabels (flat c ++ more) rows → below ≡ size c → AreEntryLabels more (drop below rows)
labels_beside c more below rows h is =
    let n : length (flat c) ≡ below = flat_size c ∙ sym is in
    subst (λ (k : ℕ). AreEntryLabels more (drop k rows)) n
    (subst (λ (es : List FlatEntry). AreEntryLabels es (drop (length (flat c)) rows)) (drop-append_seam (flat c) more) (labels_behind (length (flat c)) (flat c ++ more) rows h))
