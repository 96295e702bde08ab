-- The names that stand for the places of several files are as they are asked for.
use Rattle.std.proofs.Common.{◌≡◌, ℕ, suc, ◌+◌, ◌≤◌, ◌⊎◌, List, [], ◌∷◌, ◌++◌, length, map, refl, sym, ap, subst, ◌∙◌, arith, inl, inr, eq-eqb, append_assoc}
use Rattle.std.proofs.lemmas.Bool.{ne_eqb}
use Rattle.std.proofs.lemmas.List.{map-append}
use Rattle.dwz_def_reading.specs.Documents.{Attr, Compile, Doc, DwUnit, Entries, Kind, Node, OfType, Partial, attr_map, entries_map, kind_map, node_map, unit_map}
use Rattle.dwz_def_reading.specs.Lists.{Each, In}
use Rattle.dwz_def_reading.specs.Trees.{End, Entry}
use Rattle.dwz_def_reading.proofs.ListFacts.{in_cases, in_left, in_right}
use Rattle.dwz_def_tops.specs.Lists.{NoneTwice, Nth}
use Rattle.dwz_def_tops.specs.Seen.{Closed, IsShown, Named, Seen, all_seen, named_map, named_value, seen_below, seen_roots}
use Rattle.dwz_def_tops.specs.Shown.{AreShown, HaveMains, UnitsShown}
use Rattle.dwz_def_tops.proofs.MainLemmas.{mains_map}
use Rattle.dwz_def_tops.proofs.Members.{nth_from}
use Rattle.dwz_def_tops.proofs.ShownLemmas.{closed_shown, map_shown}
use Rattle.dwz_def_tops.specs.Spots.{EntryName, FileUnit, LabelledTop, Row, Top, in_file, named_files, named_in, row_below, row_from, row_tops, spot_in, spots_from, top_count, tops_among, tops_from}
use Rattle.dwz_def_tops.specs.Spots.{units_of}
use Rattle.dwz_def_tops.proofs.NameLists.{firsts, spots_firsts}
use Rattle.dwz_def_tops.proofs.RowLemmas.{behind, row_here, row_later}
use Rattle.dwz_def_images.specs.After.{AreOld, ArePlaced, units_placed_from}
use Rattle.dwz_def_tops.specs.UnitNames.{IsNamedUnit, name_from}
use Rattle.dwz_def_reading.specs.Places.{Place, at_file}
use Rattle.dwz_def_images.specs.Images.{units_in}
use Rattle.dwz_def_tops.proofs.OldNames.{tops_labelled, units_named_at}
use Rattle.dwz_def_tops.proofs.FiledTops.{nth_cases, counted, filed_length, filed_count}

row_first : (s n : ℕ) (xs ys : List (FileUnit EntryName)) (i : ℕ) (x : FileUnit EntryName) → Nth s xs i x → row_from s n (xs ++ ys) i ≡ row_from s n xs i
row_first s n [] ys i x h = absurd h
row_first s n (f ∷ xs) ys i x (inl e) = row_here s n f (xs ++ ys) i e.0 ∙ sym (row_here s n f xs i e.0)
row_first s n (f ∷ xs) ys i x (inr r) =
    let later : s ≡ i → ⊥ = λ e. omega (arith, e, nth_from (suc s) xs i x r) in
    row_later s n f (xs ++ ys) i later ∙ row_first (suc s) (behind n f) xs ys i x r ∙ sym (row_later s n f xs i later)

row_second : (s n : ℕ) (xs ys : List (FileUnit EntryName)) (i : ℕ) → s + length xs ≤ i → row_from s n (xs ++ ys) i ≡ row_from (s + length xs) (n + counted xs) ys i
unfolding counted
row_second s n [] ys i h = (let e : s + 0 ≡ s = omega arith in let k : n + 0 ≡ n = omega arith in rw (e, k) refl)
row_second s n (f ∷ xs) ys i h =
    let later : s ≡ i → ⊥ = λ e. omega (arith, e, h) in
    let e : suc s + length xs ≡ s + suc (length xs) = omega arith in
    let k : behind n f + counted xs ≡ n + (top_count f.unit.kind f.unit.below + counted xs) = omega arith in
    row_later s n f (xs ++ ys) i later ∙ row_second (suc s) (behind n f) xs ys i (omega (arith, h))
    ∙ ap (λ (w : ℕ). row_from w (behind n f + counted xs) ys i) e ∙ ap (λ (w : ℕ). row_from (s + suc (length xs)) w ys i) k

tops_cases : (s n : ℕ) (xs ys : List (FileUnit EntryName)) (t : Top) → In t (tops_from s n (xs ++ ys)) → In t (tops_from s n xs) ⊎ In t (tops_from (s + length xs) (n + counted xs) ys)
unfolding tops_from counted
tops_cases s n [] ys t h = (let e : s + 0 ≡ s = omega arith in let k : n + 0 ≡ n = omega arith in inr (rw (e, k) h))
tops_cases s n (f ∷ xs) ys t h =
    let count = top_count f.unit.kind f.unit.below in
    let first = row_tops (row_below f.file s n f.unit f.unit.kind) in
    elim (in_cases t first (tops_from (suc s) (n + count) (xs ++ ys)) h) [
      | inl a ↦ inl (in_left t first (tops_from (suc s) (n + count) xs) a)
      | inr b ↦ (elim (tops_cases (suc s) (n + count) xs ys t b) [
        | inl c ↦ inl (in_right t first (tops_from (suc s) (n + count) xs) c)
        | inr d ↦
            let e : suc s + length xs ≡ s + suc (length xs) = omega arith in
            let k : n + count + counted xs ≡ n + (count + counted xs) = omega arith in
            inr (subst (λ (w : ℕ). In t (tops_from w (n + (count + counted xs)) ys)) e (subst (λ (w : ℕ). In t (tops_from (suc s + length xs) w ys)) k d))
      ])
    ]

abbrev ArePlacedAll : List (Doc ℕ) → Type 0
ArePlacedAll docs = Each (λ doc. ArePlaced doc.units) docs

once_in : (unit top : ℕ) (units : List (DwUnit ℕ)) → ArePlaced units → NoneTwice (firsts (spots_from unit top units))
once_in unit top units p = subst NoneTwice (sym (spots_firsts unit top units p.kinds)) p.apart

files_tops : (file unit top : ℕ) (docs : List (Doc ℕ)) → ArePlacedAll docs → (t : Top) → In t (tops_from unit top (named_files file unit top docs)) → LabelledTop t
unfolding named_files tops_from
files_tops file unit top [] p t h = absurd h
files_tops file unit top (doc ∷ docs) p t h =
    let spots = spots_from unit top doc.units in
    let own = map (in_file file) (named_in spots doc.units) in
    let rest = named_files (suc file) (unit + length doc.units) (top + tops_among doc.units) docs in
    elim (tops_cases unit top own rest t h) [
      | inl a ↦ tops_labelled spots (once_in unit top doc.units p.0) file unit top doc.units p.0.kinds (λ x is. is) t a
      | inr b ↦
          files_tops (suc file) (unit + length doc.units) (top + tops_among doc.units) docs p.1 t
          (subst (λ (w : ℕ). In t (tops_from (unit + length doc.units) (top + w) rest)) (filed_count spots file doc.units)
          (subst (λ (w : ℕ). In t (tops_from (unit + w) (top + counted own) rest)) (filed_length spots file doc.units) b))
    ]

files_units : (file unit top : ℕ) (docs : List (Doc ℕ)) → ArePlacedAll docs → (i : ℕ) (u : FileUnit EntryName) → Nth unit (named_files file unit top docs) i u
    → IsNamedUnit i (row_from unit top (named_files file unit top docs) i) u.unit
unfolding named_files
files_units file unit top [] p i u h = absurd h
files_units file unit top (doc ∷ docs) p i u h =
    let spots = spots_from unit top doc.units in
    let own = map (in_file file) (named_in spots doc.units) in
    let rest = named_files (suc file) (unit + length doc.units) (top + tops_among doc.units) docs in
    elim (nth_cases unit own rest i u h) [
      | inl a ↦ subst (λ (w : Row). IsNamedUnit i w u.unit) (sym (row_first unit top own rest i u a))
          (units_named_at spots (once_in unit top doc.units p.0) file unit top doc.units p.0.kinds (λ x is. is) i u a)
      | inr b ↦
          let long = filed_length spots file doc.units in
          let more = files_units (suc file) (unit + length doc.units) (top + tops_among doc.units) docs p.1 i u (subst (λ (w : ℕ). Nth (unit + w) rest i u) long b) in
          let at = subst (λ (w : ℕ). IsNamedUnit i (row_from (unit + w) (top + tops_among doc.units) rest i) u.unit) (sym long) more in
          let count = subst (λ (w : ℕ). IsNamedUnit i (row_from (unit + length own) (top + w) rest i) u.unit) (sym (filed_count spots file doc.units)) at in
          subst (λ (w : Row). IsNamedUnit i w u.unit) (sym (row_second unit top own rest i (nth_from (unit + length own) rest i u b))) count
    ]

-- ---- references

pub units_append : (xs ys : List (FileUnit EntryName)) → units_in (xs ++ ys) ≡ units_in xs ++ units_in ys
units_append xs ys = map-append (λ f. f.unit) xs ys

pub filed_units : (file : ℕ) (units : List (DwUnit EntryName)) → units_in (map (in_file file) units) ≡ units
filed_units file [] = refl
filed_units file (u ∷ units) = ap (λ (w : List (DwUnit EntryName)). u ∷ w) (filed_units file units)

roots_append : (xs ys : List (DwUnit EntryName)) → seen_roots (xs ++ ys) ≡ seen_roots xs ++ seen_roots ys
unfolding seen_roots
roots_append [] ys = refl
roots_append (u ∷ xs) ys = rw (roots_append xs ys) refl

below_append : (xs ys : List (DwUnit EntryName)) → seen_below (xs ++ ys) ≡ seen_below xs ++ seen_below ys
unfolding seen_below
below_append [] ys = refl
below_append (u ∷ xs) ys = rw (below_append xs ys) (sym (append_assoc _ (seen_below xs) (seen_below ys)))

all_cases : (xs ys : List (DwUnit EntryName)) (e : Seen EntryName) → In e (all_seen (xs ++ ys)) → In e (all_seen xs) ⊎ In e (all_seen ys)
all_cases xs ys e h = elim (in_cases e (seen_roots (xs ++ ys)) (seen_below (xs ++ ys)) h) [
  | inl a ↦ (elim (in_cases e (seen_roots xs) (seen_roots ys) (subst (In e) (roots_append xs ys) a)) [
    | inl x ↦ inl (in_left e (seen_roots xs) (seen_below xs) x)
    | inr y ↦ inr (in_left e (seen_roots ys) (seen_below ys) y)
  ])
  | inr b ↦ (elim (in_cases e (seen_below xs) (seen_below ys) (subst (In e) (below_append xs ys) b)) [
    | inl x ↦ inl (in_right e (seen_roots xs) (seen_below xs) x)
    | inr y ↦ inr (in_right e (seen_roots ys) (seen_below ys) y)
  ])
]

all_left : (xs ys : List (DwUnit EntryName)) (e : Seen EntryName) → In e (all_seen xs) → In e (all_seen (xs ++ ys))
all_left xs ys e h = elim (in_cases e (seen_roots xs) (seen_below xs) h) [
  | inl a ↦ in_left e (seen_roots (xs ++ ys)) (seen_below (xs ++ ys)) (subst (In e) (sym (roots_append xs ys)) (in_left e (seen_roots xs) (seen_roots ys) a))
  | inr b ↦ in_right e (seen_roots (xs ++ ys)) (seen_below (xs ++ ys)) (subst (In e) (sym (below_append xs ys)) (in_left e (seen_below xs) (seen_below ys) b))
]

all_right : (xs ys : List (DwUnit EntryName)) (e : Seen EntryName) → In e (all_seen ys) → In e (all_seen (xs ++ ys))
all_right xs ys e h = elim (in_cases e (seen_roots ys) (seen_below ys) h) [
  | inl a ↦ in_left e (seen_roots (xs ++ ys)) (seen_below (xs ++ ys)) (subst (In e) (sym (roots_append xs ys)) (in_right e (seen_roots xs) (seen_roots ys) a))
  | inr b ↦ in_right e (seen_roots (xs ++ ys)) (seen_below (xs ++ ys)) (subst (In e) (sym (below_append xs ys)) (in_right e (seen_below xs) (seen_below ys) b))
]

pub closed_append : (xs ys : List (DwUnit EntryName)) → Closed xs → Closed ys → Closed (xs ++ ys)
closed_append xs ys h k = λ e a p is attr ref. elim (all_cases xs ys e is) [
  | inl x ↦ (let d = h e a p x attr ref in (d.0, all_left xs ys d.0 d.1, d.2))
  | inr y ↦ (let d = k e a p y attr ref in (d.0, all_right xs ys d.0 d.1, d.2))
]

none_closed : Closed {P = EntryName} []
unfolding seen_roots seen_below
none_closed = λ e a q is attr ref. absurd is

files_closed : (file unit top : ℕ) (docs : List (Doc ℕ)) → ArePlacedAll docs → Closed (units_in (named_files file unit top docs))
unfolding named_files
files_closed file unit top [] p = none_closed
files_closed file unit top (doc ∷ docs) p =
    let spots = spots_from unit top doc.units in
    let names = named_in spots doc.units in
    let rest = named_files (suc file) (unit + length doc.units) (top + tops_among doc.units) docs in
    let own = closed_shown (spot_in spots) doc.units names (map_shown (spot_in spots) doc.units) p.0.closed in
    let others = files_closed (suc file) (unit + length doc.units) (top + tops_among doc.units) docs p.1 in
    subst Closed (sym (units_append (map (in_file file) names) rest ∙ ap (λ (w : List (DwUnit EntryName)). w
    ++ units_in rest) (filed_units file names))) (closed_append names (units_in rest) own others)

-- ---- the types of type units

files_mains : (file unit top : ℕ) (docs : List (Doc ℕ)) → ArePlacedAll docs → HaveMains (units_in (named_files file unit top docs))
unfolding named_files
files_mains file unit top [] p = λ u is. absurd is
files_mains file unit top (doc ∷ docs) p =
    let spots = spots_from unit top doc.units in
    let names = named_in spots doc.units in
    let rest = named_files (suc file) (unit + length doc.units) (top + tops_among doc.units) docs in
    let own = mains_map (spot_in spots) doc.units p.0.mains in
    let others = files_mains (suc file) (unit + length doc.units) (top + tops_among doc.units) docs p.1 in
    subst (λ (w : List (DwUnit EntryName)). HaveMains w) (sym (units_append (map (in_file file) names) rest ∙ ap (λ (w : List (DwUnit EntryName)). w ++ units_in rest) (filed_units file names)))
    (λ u is. elim (in_cases u names (units_in rest) is) [ inl a ↦ own u a | inr b ↦ others u b ])

-- the units of files whose places differ are at their names
pub files_old : (docs : List (Doc ℕ)) → Each (λ doc. ArePlaced doc.units) docs → AreOld (named_files 0 0 0 docs)
files_old docs p = record {
  units_named = files_units 0 0 0 docs p;
  tops_named = files_tops 0 0 0 docs p;
  closed = files_closed 0 0 0 docs p;
  mains = files_mains 0 0 0 docs p;
}

-- ---- places of several files

names_by : {P Q R : Type 0} (g : P → Q) (h : P → R) (k : Q → R) → ((x : P) → k (g x) ≡ h x) → (attrs : List (Attr P))
    → map named_value (map (attr_map h) attrs) ≡ map (named_map k) (map named_value (map (attr_map g) attrs))
names_by g h k same [] = refl
names_by {P} {Q} {R} g h k same (a ∷ attrs) =
    ap (λ (w : List R). record { name = a.name; value = record { plain = a.value.plain; refs = w; address = a.value.address } } ∷ map named_value (map (attr_map h) attrs)) (refs_by a.value.refs)
    ∙ ap (λ (w : List (Named R)). named_map k (named_map g (named_value a)) ∷ w) (names_by g h k same attrs)
  where
    refs_by : (xs : List P) → map h xs ≡ map k (map g xs)
    refs_by [] = refl
    refs_by (x ∷ xs) = ap (λ (w : R). w ∷ map h xs) (sym (same x)) ∙ ap (λ (w : List R). k (g x) ∷ w) (refs_by xs)

node_by : {P Q R : Type 0} (g : P → Q) (h : P → R) (k : Q → R) → ((x : P) → k (g x) ≡ h x) → (e : Node P) → IsShown k (node_map g e) (node_map h e)
node_by g h k same e = record { at = sym (same e.at); tag = refl; attrs = names_by g h k same e.attrs }

entries_by : {P Q R : Type 0} (g : P → Q) (h : P → R) (k : Q → R) → ((x : P) → k (g x) ≡ h x) → (f : Entries P) → AreShown k (entries_map g f) (entries_map h f)
unfolding entries_map
entries_by g h k same End = tt
entries_by g h k same (Entry e f n) = (node_by g h k same e, entries_by g h k same f, entries_by g h k same n)

kind_by : {P Q R : Type 0} (g : P → Q) (h : P → R) (k : Q → R) → ((x : P) → k (g x) ≡ h x) → (c : Kind P) → kind_map h c ≡ kind_map k (kind_map g c)
kind_by g h k same Compile = refl
kind_by g h k same (OfType signature main) = ap (OfType signature) (sym (same main))
kind_by g h k same Partial = refl

units_by : {P Q R : Type 0} (g : P → Q) (h : P → R) (k : Q → R) → ((x : P) → k (g x) ≡ h x) → (units : List (DwUnit P)) → UnitsShown k (map (unit_map g) units) (map (unit_map h) units)
units_by g h k same [] = tt
units_by g h k same (u ∷ units) = (record { kind = kind_by g h k same u.kind; root = node_by g h k same u.root; below = entries_by g h k same u.below }, units_by g h k same units)

pub shown_append : {P Q : Type 0} (g : P → Q) (us us' : List (DwUnit P)) (vs vs' : List (DwUnit Q)) → UnitsShown g us vs → UnitsShown g us' vs' → UnitsShown g (us ++ us') (vs ++ vs')
shown_append g [] us' [] vs' h k = k
shown_append g (u ∷ us) us' (v ∷ vs) vs' h k = (h.0, shown_append g us us' vs vs' h.1 k)
shown_append g [] us' (v ∷ vs) vs' h k = absurd h
shown_append g (u ∷ us) us' [] vs' h k = absurd h

-- a function that gives the places of these files their names shows them
shown_from : (name : Place → EntryName) (file unit top : ℕ) (docs : List (Doc ℕ)) → ((f x : ℕ) → file ≤ f → name (at_file f x) ≡ name_from file unit top docs (at_file f x))
    → UnitsShown name (units_placed_from file docs) (units_in (named_files file unit top docs))
unfolding named_files units_placed_from name_from
shown_from name file unit top [] h = tt
shown_from name file unit top (doc ∷ docs) h =
    let spots = spots_from unit top doc.units in
    let named = named_in spots doc.units in
    let rest = named_files (suc file) (unit + length doc.units) (top + tops_among doc.units) docs in
    let here : (f : ℕ) (x : ℕ) → file ≡ f → name_from file unit top (doc ∷ docs) (at_file f x) ≡ spot_in spots x = λ f x e. rw (eq-eqb file f e, name_from) refl in
    let later : (f : ℕ) (x : ℕ) → (file ≡ f → ⊥) → name_from file unit top (doc ∷ docs) (at_file f x) ≡ name_from (suc file) (unit + length doc.units) (top + tops_among doc.units) docs (at_file f x) =
    λ f x ne. rw (ne_eqb file f ne, name_from) refl in
    subst (UnitsShown name (map (unit_map (at_file file)) doc.units ++ units_placed_from (suc file) docs))
    (sym (units_append (map (in_file file) named) rest ∙ ap (λ (w : List (DwUnit EntryName)). w ++ units_in rest) (filed_units file named)))
    (shown_append name (map (unit_map (at_file file)) doc.units) (units_placed_from (suc file) docs) named (units_in rest)
    (units_by (at_file file) (spot_in spots) name (λ x. h file x (omega arith) ∙ here file x refl) doc.units)
    (shown_from name (suc file) (unit + length doc.units) (top + tops_among doc.units) docs (λ f x le. h f x (omega (arith, le)) ∙ later f x (λ e. omega (arith, e, le)))))

pub files_shown : (docs : List (Doc ℕ)) → UnitsShown (name_from 0 0 0 docs) (units_placed_from 0 docs) (units_in (units_of docs))
files_shown docs = shown_from (name_from 0 0 0 docs) 0 0 0 docs (λ f x le. refl)
