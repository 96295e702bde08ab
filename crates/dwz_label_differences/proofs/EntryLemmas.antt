-- The entries of a top, one by one: in its label, beside each other, and on the way to one of them.
use Rattle.std.proofs.Common.{◌≡◌, ℕ, zero, suc, ◌+◌, ◌-◌, ◌^◌, ◌<◌, ◌≤◌, List, [], ◌∷◌, ◌++◌, length, drop, take, Some, slice_get, refl, sym, ap, subst, ◌∙◌, arith}
use Rattle.std.specs.List.{flat_map}
use Rattle.std.proofs.lemmas.List.{append-nil, append_assoc, length-append, length-drop}
use Rattle.dwz_model.proofs.ListFacts.{drop_here, got_below, got_there}
use Rattle.dwz_def_reading.specs.Documents.{Entries}
use Rattle.dwz_def_reading.specs.Trees.{End, Entry, size}
use Rattle.dwz_def_tops.specs.Seen.{heads}
use Rattle.dwz_def_tops.specs.Spots.{EntryName}
use Rattle.dwz_def_explain.specs.What.{Subtree}
use Rattle.dwz_label.specs.Labels.{attr_label, each_counted, number}
use Rattle.dwz_label_differences.specs.declared.entries.EntryLabel.{EntryLabel}
use Rattle.dwz_label_differences.specs.Labels.{AreEntryLabels, FlatEntry, IsEntryLabel, flat, way, whole, whole_label}
use Rattle.dwz_label_differences.proofs.Flats.{below_within, flat_label, flat_size, labels_behind, labels_below, labels_beside, labels_long, labels_more}
use Rattle.dwz_label_differences.proofs.Flats.{nested_at, nested_whole, whole_spelled}
use Rattle.dwz_label_differences.proofs.Numbers.{IsAfter, IsAfterNumber, IsCount, TakesBytes, many_bytes, number_some}
use Rattle.dwz_label_differences.proofs.Trees.{way_beside, way_here, way_inside}

-- ---- in the label

flat_some : TakesBytes flat_label
flat_some e =
    let l = length-append (number e.below) (number e.node.tag ++ each_counted attr_label e.node.attrs) in
    let s = number_some e.below in
    omega (arith, l, s)

-- the first ones are read, and the others are left
pub record AreReadTo (x : Subtree) (rows : List EntryLabel) (left : List ℕ) (i : ℕ) : Type 0 where
  pub left_is : left ≡ flat_map flat_label (drop i (whole x))
  pub rows_are : AreEntryLabels (take i (whole x)) rows

pub none_read : (label : List ℕ) (rows : List EntryLabel) → rows ≡ [] → (x : Subtree) → label ≡ whole_label x → AreReadTo x rows label 0
none_read label rows none x e = record { left_is = e ∙ whole_spelled x; rows_are = subst (λ (rs : List EntryLabel). AreEntryLabels [] rs) (sym none) tt }

take_next : {X : Type 0} (xs : List X) (i : ℕ) (x : X) → slice_get xs i ≡ Some x → take (i + 1) xs ≡ take i xs ++ x ∷ []
take_next xs i x g = (let one : suc i ≡ i + 1 = omega arith in ap (λ (k : ℕ). take k xs) (sym one)) ∙ go xs i x g where
  go : {X : Type 0} (xs : List X) (i : ℕ) (x : X) → slice_get xs i ≡ Some x → take (suc i) xs ≡ take i xs ++ x ∷ []
  go [] i x g = absurd cc
  go (y ∷ ys) zero x g = let same : y ≡ x = cc in ap (λ z. z ∷ []) same
  go (y ∷ ys) (suc i) x g = ap (λ zs. y ∷ zs) (go ys i x g)

-- an entry at the front of what is left
front_entry : (x : Subtree) (left : List ℕ) (i : ℕ) → i < length (whole x) → left ≡ flat_map flat_label (drop i (whole x))
    → (e : FlatEntry) × (slice_get (whole x) i ≡ Some e) × (left ≡ flat_label e ++ flat_map flat_label (drop (i + 1) (whole x)))
front_entry x left i l h =
    let got = got_there (whole x) i l in
    (got.0, got.1, h ∙ ap (λ es. flat_map flat_label es) (drop_here (whole x) i got.0 got.1))

-- how many there are
pub many_read : (label : List ℕ) (count : ℕ) → IsCount label count → (x : Subtree) → label ≡ whole_label x → count + 1 ≡ length (whole x)
many_read label count is x e =
    let tail = number x.node.tag ++ each_counted attr_label x.node.attrs in
    let rest = flat_map flat_label (flat x.below) in
    let parts = e ∙ whole_spelled x ∙ append_assoc (number (size x.below)) tail rest in
    let m = many_bytes flat_label flat_some (flat x.below) in
    let n = flat_size x.below in
    let a : length label ≡ length (number (size x.below) ++ (tail ++ rest)) = ap length parts in
    let b = length-append (number (size x.below)) (tail ++ rest) in
    let d = length-append tail rest in
    let k = is (size x.below) (tail ++ rest) parts (omega (arith, m, n, a, b, d)) in
    omega (arith, k, n)

pub one_read : (x : Subtree) (rows rows' : List EntryLabel) (left label tag_behind next : List ℕ) (below i : ℕ) (row : EntryLabel) → i < length (whole x)
    → IsCount left below → IsAfterNumber left label → IsAfterNumber label tag_behind → IsAfter (each_counted attr_label) tag_behind next
    → row.below ≡ below → row.label.now ≡ label → rows' ≡ rows ++ row ∷ [] → AreReadTo x rows left i → AreReadTo x rows' next (i + 1)
one_read x rows rows' left label tag_behind next below i row l count after_below after_tag after_attrs row_below row_label more h =
    let f = front_entry x left i l h.left_is in
    let e = f.0 in
    let rest = flat_map flat_label (drop (i + 1) (whole x)) in
    let attrs = each_counted attr_label e.node.attrs in
    let parts : left ≡ number e.below ++ ((number e.node.tag ++ attrs) ++ rest) = f.2 ∙ append_assoc (number e.below) (number e.node.tag ++ attrs) rest in
    let tag_parts : label ≡ number e.node.tag ++ (attrs ++ rest) = after_below e.below ((number e.node.tag ++ attrs) ++ rest) parts ∙ append_assoc (number e.node.tag) attrs rest in
    let attr_parts : tag_behind ≡ attrs ++ rest = after_tag e.node.tag (attrs ++ rest) tag_parts in
    let one : suc i ≡ i + 1 = omega arith in
    let under = below_within e (drop (suc i) (whole x)) (nested_at (whole x) i e (nested_whole x) f.1) in
    let fewer : e.below ≤ length (drop (i + 1) (whole x)) = subst (λ (k : ℕ). e.below ≤ length (drop k (whole x))) one under in
    let m = many_bytes flat_label flat_some (drop (i + 1) (whole x)) in
    let a : length left ≡ length (number e.below ++ ((number e.node.tag ++ attrs) ++ rest)) = ap length parts in
    let b = length-append (number e.below) ((number e.node.tag ++ attrs) ++ rest) in
    let d = length-append (number e.node.tag ++ attrs) rest in
    let is : below ≡ e.below = count e.below ((number e.node.tag ++ attrs) ++ rest) parts (omega (arith, fewer, m, a, b, d)) in
    let here : IsEntryLabel e row = record { below = row_below ∙ is; rest = rest; label = row_label ∙ tag_parts } in
    record {
      left_is = after_attrs e.node.attrs rest attr_parts;
      rows_are =
          subst (λ (es : List FlatEntry). AreEntryLabels es rows') (sym (take_next (whole x) i e f.1))
          (subst (λ (rs : List EntryLabel). AreEntryLabels (take i (whole x) ++ e ∷ []) rs) (sym more) (labels_more (take i (whole x)) rows e row h.rows_are here));
    }

take_whole : {X : Type 0} (n : ℕ) (xs : List X) → length xs ≤ n → take n xs ≡ xs
take_whole zero [] l = refl
take_whole zero (x ∷ xs) l = absurd (omega (arith, l))
take_whole (suc n) [] l = refl
take_whole (suc n) (x ∷ xs) l = ap (λ ys. x ∷ ys) (take_whole n xs (omega (arith, l)))

pub all_read : (x : Subtree) (rows : List EntryLabel) (left : List ℕ) (i : ℕ) → length (whole x) ≤ i → AreReadTo x rows left i → AreEntryLabels (whole x) rows
all_read x rows left i l h = subst (λ (es : List FlatEntry). AreEntryLabels es rows) (take_whole i (whole x) l) h.rows_are

-- ---- beside each other

pub record AreBeside (f : Entries EntryName) (left : List EntryLabel) (count : ℕ) : Type 0 where
  pub others : Entries EntryName
  pub labels : AreEntryLabels (flat others) left
  pub many : count + length (heads others) ≡ length (heads f)

pub one_beside : (f : Entries EntryName) (row : EntryLabel) (rows next : List EntryLabel) (count : ℕ) → next ≡ drop row.below rows → AreBeside f (row ∷ rows) count → AreBeside f next (count + 1)
unfolding flat heads
one_beside f row rows next count is h = go h.others h.labels h.many where
  go : (g : Entries EntryName) → AreEntryLabels (flat g) (row ∷ rows) → count + length (heads g) ≡ length (heads f) → AreBeside f next (count + 1)
  go End labels many = absurd labels
  go (Entry e c n) labels many = record {
    others = n;
    labels = subst (λ (rs : List EntryLabel). AreEntryLabels (flat n) rs) (sym is) (labels_beside c (flat n) row.below rows labels.1 labels.0.below);
    many = omega (arith, many);
  }

none_left : (rows : List EntryLabel) → length rows ≡ 0 → rows ≡ []
none_left [] e = refl
none_left (r ∷ rows) e = absurd (omega (arith, e))

pub all_beside : (f : Entries EntryName) (left : List EntryLabel) (count : ℕ) → length left ≡ 0 → AreBeside f left count → count ≡ length (heads f)
unfolding flat heads
all_beside f left count none h = go h.others (subst (λ (rs : List EntryLabel). AreEntryLabels (flat h.others) rs) (none_left left none) h.labels) h.many where
  go : (g : Entries EntryName) → AreEntryLabels (flat g) [] → count + length (heads g) ≡ length (heads f) → count ≡ length (heads f)
  go End labels many = omega (arith, many)
  go (Entry e c n) labels many = absurd labels

-- those below an entry
pub all_below : (x : Subtree) (e : FlatEntry) (rows : List EntryLabel) (k : ℕ) (row : EntryLabel) (others : List EntryLabel) → AreEntryLabels (whole x) rows → slice_get (whole x) k ≡ Some e
    → drop k rows ≡ row ∷ others → (c : Entries EntryName) × AreEntryLabels (flat c) (take row.below others) × (length (heads c) ≡ e.children)
all_below x e rows k row others h g s =
    let b = nested_at (whole x) k e (nested_whole x) g in
    let one : suc k ≡ k + 1 = omega arith in
    let es : drop k (whole x) ≡ e ∷ drop (suc k) (whole x) = drop_here (whole x) k e g ∙ ap (λ (j : ℕ). e ∷ drop j (whole x)) (sym one) in
    let there : AreEntryLabels (e ∷ drop (suc k) (whole x)) (row ∷ others) =
    subst (λ (ds : List FlatEntry). AreEntryLabels ds (row ∷ others)) es (subst (λ (rs : List EntryLabel). AreEntryLabels (drop k (whole x)) rs) s (labels_behind k (whole x) rows h)) in
    let behind : AreEntryLabels (flat b.children ++ b.more) others = subst (λ (ds : List FlatEntry). AreEntryLabels ds others) b.is there.1 in
    (b.children, labels_below b.children b.more row.below others behind (there.0.below ∙ sym b.below), b.many)

pub none_below : (x : Subtree) (e : FlatEntry) (rows left : List EntryLabel) (k : ℕ) → AreEntryLabels (whole x) rows → slice_get (whole x) k ≡ Some e → left ≡ drop k rows → length left ≡ 0 → ⊥
none_below x e rows left k h g is none =
    let n : length left ≡ length (drop k rows) = ap length is in
    let m = length-drop k rows in
    let l = labels_long (whole x) rows h in
    let i = got_below (whole x) k e g in
    omega (arith, n, m, l, i, none)

-- ---- on the way

pub record IsOnWay (f : Entries EntryName) (k : ℕ) (left : List EntryLabel) (number index : ℕ) (path : List ℕ) : Type 0 where
  pub others : Entries EntryName
  pub more : List FlatEntry
  pub labels : AreEntryLabels (flat others ++ more) left
  pub inside : number < size others
  pub small : index + size others ≤ size f
  pub leads : path ++ way index others number ≡ way 0 f k

pub way_begins : (f : Entries EntryName) (k : ℕ) (rows : List EntryLabel) (path : List ℕ) → path ≡ [] → k < size f → AreEntryLabels (flat f) rows → IsOnWay f k rows k 0 path
way_begins f k rows path none l h = record {
  others = f;
  more = [];
  labels = subst (λ (es : List FlatEntry). AreEntryLabels es rows) (sym (append-nil (flat f))) h;
  inside = l;
  small = omega arith;
  leads = ap (λ (w : List ℕ). w ++ way 0 f k) none;
}

pub way_there : (f : Entries EntryName) (k number index : ℕ) (left : List EntryLabel) (path : List ℕ) → length left ≡ 0 → IsOnWay f k left number index path → ⊥
unfolding flat
way_there f k number index left path none h = go h.others (subst (λ (rs : List EntryLabel). AreEntryLabels (flat h.others ++ h.more) rs) (none_left left none) h.labels) h.inside where
  go : (g : Entries EntryName) → AreEntryLabels (flat g ++ h.more) [] → number < size g → ⊥
  go End labels inside = absurd (omega (arith, inside))
  go (Entry e c n) labels inside = labels

module _ (f : Entries EntryName) (k : ℕ) (row : EntryLabel) (rows : List EntryLabel) (index : ℕ) (path : List ℕ) where
  pub way_goes_in : (number : ℕ) (next : List EntryLabel) (path' : List ℕ) → number < row.below → next ≡ take row.below rows → path' ≡ path ++ index ∷ [] → IsOnWay f k (row ∷ rows) (suc number) index path
      → IsOnWay f k next number 0 path'
  unfolding flat
  way_goes_in number next path' l is more h = go h.others h.labels h.inside h.small h.leads where
    go : (g : Entries EntryName) → AreEntryLabels (flat g ++ h.more) (row ∷ rows) → suc number < size g → index + size g ≤ size f → path ++ way index g (suc number) ≡ way 0 f k
        → IsOnWay f k next number 0 path'
    go End labels inside small leads = absurd (omega (arith, inside))
    go (Entry e c n) labels inside small leads =
        let b = labels.0.below in
        let own = labels_below c (flat n ++ h.more) row.below rows (subst (λ (es : List FlatEntry). AreEntryLabels es rows) (append_assoc (flat c) (flat n) h.more) labels.1) b in
        record {
          others = c;
          more = [];
          labels = subst (λ (es : List FlatEntry). AreEntryLabels es next) (sym (append-nil (flat c))) (subst (λ (rs : List EntryLabel). AreEntryLabels (flat c) rs) (sym is) own);
          inside = omega (arith, l, b);
          small = omega (arith, small);
          leads =
              ap (λ (w : List ℕ). w ++ way 0 c number) more
              ∙ append_assoc path (index ∷ []) (way 0 c number)
              ∙ ap (λ (w : List ℕ). path ++ w) (sym (way_inside index number e c n (omega (arith, l, b))))
              ∙ leads;
        }

  pub way_goes_on : (number : ℕ) (next : List EntryLabel) → row.below ≤ number → next ≡ drop row.below rows → IsOnWay f k (row ∷ rows) (suc number) index path → IsOnWay f k next (number - row.below) (index + 1) path
  unfolding flat
  way_goes_on number next l is h = go h.others h.labels h.inside h.small h.leads where
    go : (g : Entries EntryName) → AreEntryLabels (flat g ++ h.more) (row ∷ rows) → suc number < size g → index + size g ≤ size f → path ++ way index g (suc number) ≡ way 0 f k
        → IsOnWay f k next (number - row.below) (index + 1) path
    go End labels inside small leads = absurd (omega (arith, inside))
    go (Entry e c n) labels inside small leads =
        let b = labels.0.below in
        let assoc = append_assoc (flat c) (flat n) h.more in
        let one : suc index ≡ index + 1 = omega arith in
        let same : number - size c ≡ number - row.below = ap (λ (j : ℕ). number - j) (sym b) in
        record {
          others = n;
          more = h.more;
          labels = subst (λ (rs : List EntryLabel). AreEntryLabels (flat n ++ h.more) rs) (sym is)
              (labels_beside c (flat n ++ h.more) row.below rows (subst (λ (es : List FlatEntry). AreEntryLabels es rows) assoc labels.1) b);
          inside = omega (arith, inside, b, l);
          small = omega (arith, small);
          leads = ap (λ (w : List ℕ). path ++ w) ((λ i. way (sym one i) n (sym same i)) ∙ sym (way_beside index number e c n (omega (arith, l, b)))) ∙ leads;
        }

pub way_ends : (f : Entries EntryName) (k : ℕ) (left : List EntryLabel) (number index : ℕ) (path path' : List ℕ) → number ≡ 0 → path' ≡ path ++ index ∷ [] → IsOnWay f k left number index path → path' ≡ way 0 f k
way_ends f k left number index path path' none more h =
    go h.others h.inside (subst (λ (j : ℕ). path ++ way index h.others j ≡ way 0 f k) none h.leads) where
      go : (g : Entries EntryName) → number < size g → path ++ way index g 0 ≡ way 0 f k → path' ≡ way 0 f k
      go End inside leads = absurd (omega (arith, inside))
      go (Entry e c n) inside leads = more ∙ ap (λ (w : List ℕ). path ++ w) (sym (way_here index e c n)) ∙ leads

pub way_small : (f : Entries EntryName) (k : ℕ) (left : List EntryLabel) (number index : ℕ) (path : List ℕ) → size f < 2 ^ 32 → (number ≡ 0 → ⊥) → IsOnWay f k left number index path → index + 2 < 2 ^ 32
way_small f k left number index path l some h =
    let s = h.small in
    let i = h.inside in
    omega (arith, l, s, i, some)

module _ (f : Entries EntryName) (k : ℕ) (left : List EntryLabel) (row : EntryLabel) (rows : List EntryLabel) (shape : left ≡ row ∷ rows) (index : ℕ) (path : List ℕ) where
  pub goes_in : (number : ℕ) (next : List EntryLabel) (path' : List ℕ) → (number ≡ 0 → ⊥) → number - 1 < row.below → next ≡ take row.below rows → path' ≡ path ++ index ∷ []
      → IsOnWay f k left number index path → IsOnWay f k next (number - 1) 0 path'
  goes_in zero next path' some l is more h = absurd (some refl)
  goes_in (suc j) next path' some l is more h =
      let e : j ≡ suc j - 1 = omega arith in
      subst (λ (i : ℕ). IsOnWay f k next i 0 path') e
      (way_goes_in f k row rows index path j next path' (omega (arith, l)) is more (subst (λ (rs : List EntryLabel). IsOnWay f k rs (suc j) index path) shape h))

  pub goes_on : (number next_index : ℕ) (next : List EntryLabel) → (number ≡ 0 → ⊥) → row.below ≤ number - 1 → next ≡ drop row.below rows → next_index ≡ index + 1 → IsOnWay f k left number index path
      → IsOnWay f k next (number - 1 - row.below) next_index path
  goes_on zero next_index next some l is one h = absurd (some refl)
  goes_on (suc j) next_index next some l is one h =
      let e : j - row.below ≡ suc j - 1 - row.below = omega arith in
      let on = way_goes_on f k row rows index path j next (omega (arith, l)) is (subst (λ (rs : List EntryLabel). IsOnWay f k rs (suc j) index path) shape h) in
      subst (λ (i : ℕ). IsOnWay f k next i next_index path) e (subst (λ (i : ℕ). IsOnWay f k next (j - row.below) i path) (sym one) on)
