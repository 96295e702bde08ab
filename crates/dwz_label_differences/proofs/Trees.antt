-- From entries in preorder to trees: where all agree the trees are the same, and the first that differ stand at the way's end.
use Rattle.std.proofs.Common.{◌≡◌, ℕ, zero, suc, ◌+◌, ◌-◌, ◌<◌, ◌≤◌, Bool, true, false, List, [], ◌∷◌, ◌++◌, length, refl, sym, ap, subst, ◌∙◌, ⊎_elim, arith}
use Rattle.std.proofs.lemmas.Bool.{cases_lt, le-ltb, lt-ltb}
use Rattle.std.proofs.lemmas.List.{append-nil, append_assoc}
use Rattle.dwz_def_reading.specs.Documents.{Entries, Node}
use Rattle.dwz_def_reading.specs.Trees.{End, Entry, size}
use Rattle.dwz_def_tops.specs.Alike.{SameEntries}
use Rattle.dwz_def_tops.specs.Seen.{heads}
use Rattle.dwz_def_tops.specs.Spots.{EntryName}
use Rattle.dwz_def_explain.specs.Chain.{Whichever}
use Rattle.dwz_def_explain.specs.What.{EquallyMany, FirstAmong, FirstDiffer, Subtree}
use Rattle.dwz_label_differences.specs.declared.differences.Difference.{Difference}
use Rattle.dwz_label_differences.specs.Labels.{Agree, DifferBy, FirstAt, FlatEntry, flat, flat_entry, path_of, way, whole}
use Rattle.dwz_label_differences.proofs.Flats.{flat_size}

-- ---- ways

pub way_here : (m : ℕ) (e : Node EntryName) (c n : Entries EntryName) → way m (Entry e c n) 0 ≡ m ∷ []
unfolding way
way_here m e c n = refl

abbrev by_size : ℕ → ℕ → Entries EntryName → Entries EntryName → Bool → List ℕ
by_size m k c n inside = elim inside as (λ _. List ℕ) [ true ↦ m ∷ way 0 c k | false ↦ way (suc m) n (k - size c) ]

pub way_inside : (m k : ℕ) (e : Node EntryName) (c n : Entries EntryName) → k < size c → way m (Entry e c n) (suc k) ≡ m ∷ way 0 c k
unfolding way
way_inside m k e c n l = ap (by_size m k c n) (lt-ltb k (size c) l)

pub way_beside : (m k : ℕ) (e : Node EntryName) (c n : Entries EntryName) → size c ≤ k → way m (Entry e c n) (suc k) ≡ way (suc m) n (k - size c)
unfolding way
way_beside m k e c n l = ap (by_size m k c n) (le-ltb k (size c) l)

-- ---- where all agree

agree_all : (f g : Entries EntryName) (r s : List FlatEntry) → EquallyMany f g → Agree (flat f ++ r) (flat g ++ s) → SameEntries Whichever f g × Agree r s
unfolding flat heads
agree_all End End r s m a = (tt, a)
agree_all End (Entry e c' n') r s m a = absurd (omega (arith, m))
agree_all (Entry d c n) End r s m a = absurd (omega (arith, m))
agree_all (Entry d c n) (Entry e c' n') r s m a =
    let left = append_assoc (flat c) (flat n) r in
    let right = append_assoc (flat c') (flat n') s in
    let tail : Agree (flat c ++ (flat n ++ r)) (flat c' ++ (flat n' ++ s)) =
    subst (λ (w : List FlatEntry). Agree w (flat c' ++ (flat n' ++ s))) left (subst (λ (w : List FlatEntry). Agree ((flat c ++ flat n) ++ r) w) right a.1) in
    let x = agree_all c c' (flat n ++ r) (flat n' ++ s) a.0.1 tail in
    let y = agree_all n n' r s (omega (arith, m)) x.1 in
    ((a.0.0, x.0, y.0), y.1)

pub agree_below : (f g : Entries EntryName) → EquallyMany f g → Agree (flat f) (flat g) → SameEntries Whichever f g
agree_below f g m a =
    (agree_all f g [] [] m
    (subst (λ (w : List FlatEntry). Agree w (flat g ++ [])) (sym (append-nil (flat f))) (subst (λ (w : List FlatEntry). Agree (flat f) w) (sym (append-nil (flat g))) a))).0

-- ---- the first that differ

both_same : (m a : ℕ) (ps qs : List ℕ) → m ≡ a → ps ≡ qs → m ∷ ps ≡ a ∷ qs
both_same m a ps qs e h = λ i. e i ∷ h i

module _ (by : Difference) where
  abbrev pub Differ : Subtree → Subtree → Type 0
  Differ x y = DifferBy by (flat_entry x.node x.below) (flat_entry y.node y.below)

  first_passed : (k : ℕ) (f g : Entries EntryName) (r s : List FlatEntry) → EquallyMany f g → size f ≤ k → FirstAt by k (flat f ++ r) (flat g ++ s) → SameEntries Whichever f g × FirstAt by (k - size f) r s
  unfolding flat heads
  first_passed k End End r s m l h = (tt, subst (λ (j : ℕ). FirstAt by j r s) (let e : k ≡ k - 0 = omega arith in e) h)
  first_passed k End (Entry e c' n') r s m l h = absurd (omega (arith, m))
  first_passed k (Entry d c n) End r s m l h = absurd (omega (arith, m))
  first_passed zero (Entry d c n) (Entry e c' n') r s m l h = absurd (omega (arith, l))
  first_passed (suc j) (Entry d c n) (Entry e c' n') r s m l h =
      let left = append_assoc (flat c) (flat n) r in
      let right = append_assoc (flat c') (flat n') s in
      let tail : FirstAt by j (flat c ++ (flat n ++ r)) (flat c' ++ (flat n' ++ s)) =
      subst (λ (w : List FlatEntry). FirstAt by j w (flat c' ++ (flat n' ++ s))) left (subst (λ (w : List FlatEntry). FirstAt by j ((flat c ++ flat n) ++ r) w) right h.1) in
      let x = first_passed j c c' (flat n ++ r) (flat n' ++ s) h.0.1 (omega (arith, l)) tail in
      let y = first_passed (j - size c) n n' r s (omega (arith, m)) (omega (arith, l)) x.1 in
      let e : j - size c - size n ≡ suc j - (size c + size n + 1) = omega (arith, l) in
      ((h.0.0, x.0, y.0), subst (λ (i : ℕ). FirstAt by i r s) e y.1)

  -- where they stand, where the first entry has that index
  pub record Located (m k : ℕ) (f g : Entries EntryName) : Type 0 where
    pub index : ℕ
    pub path : List ℕ
    pub way_is : way m f k ≡ (m + index) ∷ path
    pub first : FirstAmong (FirstDiffer Differ path) index f g

  located : (m k : ℕ) (f g : Entries EntryName) (r s : List FlatEntry) → EquallyMany f g → k < size f → FirstAt by k (flat f ++ r) (flat g ++ s) → Located m k f g
  unfolding flat heads
  located m k End g r s e l h = absurd (omega (arith, l))
  located m k (Entry d c n) End r s e l h = absurd (omega (arith, e))
  located m zero (Entry d c n) (Entry d' c' n') r s e l h = record {
    index = 0;
    path = [];
    way_is = way_here m d c n ∙ ap (λ (i : ℕ). i ∷ []) (let z : m ≡ m + 0 = omega arith in z);
    first = h;
  }
  located m (suc j) (Entry d c n) (Entry d' c' n') r s e l h =
      let left = append_assoc (flat c) (flat n) r in
      let right = append_assoc (flat c') (flat n') s in
      let tail : FirstAt by j (flat c ++ (flat n ++ r)) (flat c' ++ (flat n' ++ s)) =
      subst (λ (w : List FlatEntry). FirstAt by j w (flat c' ++ (flat n' ++ s))) left (subst (λ (w : List FlatEntry). FirstAt by j ((flat c ++ flat n) ++ r) w) right h.1) in
      ⊎_elim
      (λ (lt : j < size c). (
      let q = located 0 j c c' (flat n ++ r) (flat n' ++ s) h.0.1 lt tail in
      let z : 0 + q.index ≡ q.index = omega arith in
      record {
        index = 0;
        path = q.index ∷ q.path;
        way_is = way_inside m j d c n lt ∙ both_same m (m + 0) (way 0 c j) (q.index ∷ q.path) (omega arith) (q.way_is ∙ ap (λ (a : ℕ). a ∷ q.path) z);
        first = (h.0, q.first);
      }))
      (λ (ge : size c ≤ j). (
      let p = first_passed j c c' (flat n ++ r) (flat n' ++ s) h.0.1 ge tail in
      let q = located (suc m) (j - size c) n n' r s (omega (arith, e)) (omega (arith, l, ge)) p.1 in
      let z : suc m + q.index ≡ m + suc q.index = omega arith in
      record {
        index = suc q.index;
        path = q.path;
        way_is = way_beside m j d c n ge ∙ q.way_is ∙ ap (λ (a : ℕ). a ∷ q.path) z;
        first = ((h.0.0, p.0), q.first);
      }))
      (cases_lt j (size c))

  first_there : (k : ℕ) (ds es : List FlatEntry) → FirstAt by k ds es → k < length ds
  first_there zero (d ∷ ds) (e ∷ es) h = omega arith
  first_there (suc k) (d ∷ ds) (e ∷ es) h = let l = first_there k ds es h.1 in omega (arith, l)
  first_there zero [] es h = absurd h
  first_there zero (d ∷ ds) [] h = absurd h
  first_there (suc k) [] es h = absurd h
  first_there (suc k) (d ∷ ds) [] h = absurd h

  pub first_differ : (k : ℕ) (x y : Subtree) → FirstAt by k (whole x) (whole y) → FirstDiffer Differ (path_of x k) x y
  first_differ zero x y h = h
  first_differ (suc k) x y h =
      let l = first_there k (flat x.below) (flat y.below) h.1 in
      let n = flat_size x.below in
      let with_ends : FirstAt by k (flat x.below ++ []) (flat y.below ++ []) =
      subst (λ (w : List FlatEntry). FirstAt by k w (flat y.below ++ [])) (sym (append-nil (flat x.below)))
      (subst (λ (w : List FlatEntry). FirstAt by k (flat x.below) w) (sym (append-nil (flat y.below))) h.1) in
      let q = located 0 k x.below y.below [] [] h.0.1 (omega (arith, l, n)) with_ends in
      let z : 0 + q.index ≡ q.index = omega arith in
      subst (λ (path : List ℕ). FirstDiffer Differ path x y) (sym (q.way_is ∙ ap (λ (a : ℕ). a ∷ q.path) z)) (h.0, q.first)
