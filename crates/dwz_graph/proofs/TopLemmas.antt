-- Tops by their numbers: each has its name, and no other entry has such a name.
use Rattle.std.proofs.Common.{◌≡◌, ℕ, zero, suc, ◌+◌, ◌⊎◌, List, [], ◌∷◌, ◌++◌, length, map, Option, Some, None, slice_get, refl, sym, ap, subst, ◌∙◌, inl, inr, arith}
use Rattle.std.specs.Option.{is_some}
use Rattle.std.proofs.lemmas.List.{append-nil, length-append, map-append}
use Rattle.dwz_def_reading.specs.Trees.{End, Entry, size}
use Rattle.dwz_def_reading.proofs.ListFacts.{get_first}
use Rattle.dwz_def_reading.specs.Documents.{Compile, DwUnit, Entries, Kind, OfType, Partial}
use Rattle.dwz_def_reading.specs.Lists.{Each}
use Rattle.dwz_def_tops.specs.Seen.{IsPartial}
use Rattle.dwz_def_tops.specs.Spaces.{space_text, tops_under}
use Rattle.dwz_def_tops.specs.Spots.{EntryName, InType, RootOf, SpaceAt, Within, below_spots, entry_spots, top_count, top_spots, tops_among as tops_in}
use Rattle.dwz_def_tops.proofs.NameLists.{spots_space, spots_top}
use Rattle.dwz_graph.specs.declared.index.Starts.{Starts}
use Rattle.dwz_graph.specs.declared.index.TopEntry.{TopEntry}
use Rattle.dwz_graph.specs.Names.{names_from}
use Rattle.dwz_graph.specs.Steps.{all_tops, below_root, is_compile, is_space, spaces_by, starts_behind, top_entries, top_entry, tops_among, tops_of_list}
use Rattle.dwz_graph.specs.Tops.{IsTopAt}
use Rattle.dwz_graph.proofs.AmongLemmas.{tops_many, tops_space, tops_top}
use Rattle.dwz_graph.proofs.ShowLemmas.{At, at_here, at_left as from_left, at_right as from_right, counted, many_names, many_tops}

abbrev name_of : ℕ × EntryName → EntryName
name_of x = x.1

-- ---- an item of one list behind another

pub get_later : {X : Type 0} (xs ys : List X) (k : ℕ) (x : X) → slice_get ys k ≡ Some x → slice_get (xs ++ ys) (length xs + k) ≡ Some x
get_later [] ys k x e = let n : 0 + k ≡ k = omega arith in ap (slice_get ys) n ∙ e
get_later (z ∷ xs) ys k x e = let n : suc (length xs) + k ≡ suc (length xs + k) = omega arith in ap (slice_get (z ∷ (xs ++ ys))) n ∙ get_later xs ys k x e

pub get_cases : {X : Type 0} (xs ys : List X) (k : ℕ) (x : X) → slice_get (xs ++ ys) k ≡ Some x → (slice_get xs k ≡ Some x) ⊎ ((j : ℕ) × (k ≡ length xs + j) × (slice_get ys j ≡ Some x))
get_cases [] ys k x e = inr (k, (let n : k ≡ 0 + k = omega arith in n), e)
get_cases (z ∷ xs) ys zero x e = inl e
get_cases (z ∷ xs) ys (suc k) x e = elim (get_cases xs ys k x e) [
  | inl a ↦ inl a
  | inr b ↦ inr (b.0, (let h = b.1 in omega arith), b.2)
]

-- ---- only tops have such names

-- a path goes down from each of these names
abbrev Goes : (List ℕ → EntryName) → Type 0
Goes name = (k : ℕ) (path : List ℕ) (n : ℕ) → name (k ∷ path) ≡ Within n [] → ⊥

none_below : (name : List ℕ → EntryName) → Goes name → (path : List ℕ) (i : ℕ) (f : Entries ℕ) (j n : ℕ) → slice_get (map name_of (entry_spots name path i f)) j ≡ Some (Within n []) → ⊥
unfolding entry_spots
none_below name goes path i End j n e = absurd cc
none_below name goes path i (Entry d c m) zero n e = goes i path n (let same : name (i ∷ path) ≡ Within n [] = cc in same)
none_below name goes path i (Entry d c m) (suc j) n e =
    let a = entry_spots name (i ∷ path) 0 c in
    let b = entry_spots name path (suc i) m in
    let both = ap (λ (w : List EntryName). slice_get w j) (sym (map-append name_of a b)) ∙ e in
    elim (get_cases (map name_of a) (map name_of b) j (Within n []) both) [
      | inl x ↦ none_below name goes (i ∷ path) 0 c j n x
      | inr y ↦ none_below name goes path (suc i) m y.0 n y.2
    ]

within_goes : (top : ℕ) → Goes (Within top)
within_goes top k path n e = cc

type_goes : (unit : ℕ) → Goes (InType unit)
type_goes unit k path n e = cc

-- where a top is found among others
at_first : (first n : ℕ) (x : TopEntry) (tops : List TopEntry) (i m : ℕ) → IsTopAt (suc n) tops i m → IsTopAt n (x ∷ tops) i m
at_first first n x tops i m h = let e = h.number in record { behind = suc h.behind; top = h.top; found = h.found; number = omega arith; entry = h.entry }

at_left : (n : ℕ) (a b : List TopEntry) (i m : ℕ) → IsTopAt n a i m → IsTopAt n (a ++ b) i m
at_left n a b i m h = record { behind = h.behind; top = h.top; found = get_first a b h.behind h.top h.found; number = h.number; entry = h.entry }

at_right : (n k : ℕ) (a b : List TopEntry) (i m : ℕ) → length a ≡ k → IsTopAt (n + k) b i m → IsTopAt n (a ++ b) i m
at_right n k a b i m len h =
    let e = h.number in
    record { behind = length a + h.behind; top = h.top; found = get_later a b h.behind h.top h.found; number = omega arith; entry = h.entry }

moved : (n : ℕ) (tops : List TopEntry) (i i' m : ℕ) → i ≡ i' → IsTopAt n tops i m → IsTopAt n tops i' m
moved n tops i i' m e h = subst (λ (k : ℕ). IsTopAt n tops k m) e h

-- in a list whose first entry has that number
among_found : (unit inner k : ℕ) (at : ℕ) (path : List ℕ) (i n first : ℕ) (f : Entries ℕ) (j m : ℕ) → slice_get (map name_of (top_spots at path i n f)) j ≡ Some (Within m [])
    → IsTopAt n (tops_among is_space unit inner k first f) (first + j) m
unfolding top_spots
among_found unit inner k at path i n first End j m e = absurd cc
among_found unit inner k at path i n first (Entry d c r) j m e =
    by (λ l q. among_found unit inner k at path (suc i) (suc n) (first + 1 + size c) r l m q)
    (λ l q. among_found unit (suc k) (suc k) at (i ∷ path) 0 n (first + 1) c l m q)
    (λ w l q. among_found unit inner w at path (suc i) (n + tops_under c) (first + 1 + size c) r l m q)
    j e (space_text d) refl
  where
    top : ℕ → List (ℕ × EntryName)
    top w = top_spots at path (suc i) w r

    inside : List (ℕ × EntryName)
    inside = top_spots at (i ∷ path) 0 n c

    by : ((l : ℕ) → slice_get (map name_of (top (suc n))) l ≡ Some (Within m []) → IsTopAt (suc n) (tops_among is_space unit inner k (first + 1 + size c) r) (first + 1 + size c + l) m)
        → ((l : ℕ) → slice_get (map name_of inside) l ≡ Some (Within m []) → IsTopAt n (tops_among is_space unit (suc k) (suc k) (first + 1) c) (first + 1 + l) m)
        → ((w l : ℕ) → slice_get (map name_of (top (n + tops_under c))) l ≡ Some (Within m [])
        → IsTopAt (n + tops_under c) (tops_among is_space unit inner w (first + 1 + size c) r) (first + 1 + size c + l) m)
        → (j : ℕ) → slice_get (map name_of (top_spots at path i n (Entry d c r))) j ≡ Some (Within m []) → (o : Option (List ℕ)) → space_text d ≡ o
        → IsTopAt n (tops_among is_space unit inner k first (Entry d c r)) (first + j) m
    by p q s j e None h =
        subst (λ (w : List TopEntry). IsTopAt n w (first + j) m) (sym (tops_top is_space d c r unit inner k first (ap is_some h)))
        (go j (ap (λ (w : List (ℕ × EntryName)). slice_get (map name_of w) j) (sym (spots_top at path i n d c r h)) ∙ e))
      where
        own : List (ℕ × EntryName)
        own = entry_spots (Within n) [] 0 c

        rest : List TopEntry
        rest = tops_among is_space unit inner k (first + 1 + size c) r

        go : (j : ℕ) → slice_get (Within n [] ∷ map name_of (own ++ top (suc n))) j ≡ Some (Within m []) → IsTopAt n (top_entry first unit inner ∷ rest) (first + j) m
        go zero e = record { behind = 0; top = top_entry first unit inner; found = refl; number = (let same : n ≡ m = cc in omega arith); entry = (let same : first ≡ first + 0 = omega arith in same) }
        go (suc j) e = elim (get_cases (map name_of own) (map name_of (top (suc n))) j (Within m []) (ap (λ (w : List EntryName). slice_get w j) (sym (map-append name_of own (top (suc n)))) ∙ e)) [
          | inl x ↦ absurd (none_below (Within n) (within_goes n) [] 0 c j m x)
          | inr y ↦
              let many = many_names (Within n) [] 0 c in
              let at_j = y.1 in
              moved n (top_entry first unit inner ∷ rest) (first + 1 + size c + y.0) (first + suc j) m (omega arith)
              (at_first first n (top_entry first unit inner) rest (first + 1 + size c + y.0) m (p y.0 y.2))
        ]
    by p q s j e (Some text) h =
        subst (λ (w : List TopEntry). IsTopAt n w (first + j) m) (sym (tops_space is_space d c r unit inner k first (ap is_some h)))
        (go j (ap (λ (w : List (ℕ × EntryName)). slice_get (map name_of w) j) (sym (spots_space at path i n d c r text h)) ∙ e))
      where
        a : List TopEntry
        a = tops_among is_space unit (suc k) (suc k) (first + 1) c

        next : ℕ
        next = suc k + spaces_by is_space c

        b : List TopEntry
        b = tops_among is_space unit inner next (first + 1 + size c) r

        go : (j : ℕ) → slice_get (SpaceAt at (i ∷ path) ∷ map name_of (inside ++ top (n + tops_under c))) j ≡ Some (Within m []) → IsTopAt n (a ++ b) (first + j) m
        go zero e = absurd cc
        go (suc j) e = elim (get_cases (map name_of inside) (map name_of (top (n + tops_under c))) j (Within m [])
            (ap (λ (w : List EntryName). slice_get w j) (sym (map-append name_of inside (top (n + tops_under c)))) ∙ e)) [
              | inl x ↦ moved n (a ++ b) (first + 1 + j) (first + suc j) m (omega arith) (at_left n a b (first + 1 + j) m (q j x))
              | inr y ↦
                  let many = many_tops at (i ∷ path) 0 n c in
                  let at_j = y.1 in
                  moved n (a ++ b) (first + 1 + size c + y.0) (first + suc j) m (omega arith)
                  (at_right n (tops_under c) a b (first + 1 + size c + y.0) m (tops_many is_space unit (suc k) (suc k) (first + 1) c ∙ counted c) (s next y.0 y.2))
            ]

-- ---- unit by unit

abbrev pub below_names : ℕ → ℕ → Kind ℕ → Entries ℕ → List EntryName
below_names unit top kind f = map name_of (below_spots unit top kind f)

abbrev pub entries_of : ℕ → ℕ → ℕ → Kind ℕ → Entries ℕ → List TopEntry
entries_of unit k first kind f = top_entries is_space unit k first (record { compile = is_compile kind; list = f })

below_found : (unit k : ℕ) (at top first : ℕ) (kind : Kind ℕ) (f : Entries ℕ) (j m : ℕ) → slice_get (below_names at top kind f) j ≡ Some (Within m [])
    → IsTopAt top (entries_of unit k first kind f) (first + 1 + j) m
below_found unit k at top first Compile f j m e = among_found unit 0 k at [] 0 top (first + 1) f j m e
below_found unit k at top first (OfType signature main) f j m e = absurd (none_below (InType at) (type_goes at) [] 0 f j m e)
below_found unit k at top first Partial f j m e = absurd cc

pub many_below : (unit k first : ℕ) (kind : Kind ℕ) (f : Entries ℕ) → length (entries_of unit k first kind f) ≡ top_count kind f
many_below unit k first Compile f = tops_many is_space unit 0 k (first + 1) f ∙ counted f
many_below unit k first (OfType signature main) f = refl
many_below unit k first Partial f = refl

pub names_many : (at top : ℕ) (kind : Kind ℕ) (f : Entries ℕ) → (IsPartial kind → ⊥) → length (below_names at top kind f) ≡ size f
names_many at top Compile f h = many_tops at [] 0 top f
names_many at top (OfType signature main) f h = many_names (InType at) [] 0 f
names_many at top Partial f h = absurd (h tt)

pub counts_same : (v : DwUnit ℕ) → tops_of_list is_space (below_root v) ≡ top_count v.kind v.below
counts_same v = by v.kind where
  by : (kind : Kind ℕ) → tops_of_list is_space (record { compile = is_compile kind; list = v.below }) ≡ top_count kind v.below
  by Compile = counted v.below
  by (OfType signature main) = refl
  by Partial = refl

all_found : (s : Starts) (first : ℕ) (said : List (DwUnit ℕ)) → Each (λ v. IsPartial v.kind → ⊥) said → (j m : ℕ) → slice_get (names_from s.unit s.top said) j ≡ Some (Within m [])
    → IsTopAt s.top (all_tops is_space s first (map below_root said)) (first + j) m
unfolding names_from all_tops
all_found s first [] whole j m e = absurd cc
all_found s first (v ∷ said) whole zero m e = absurd cc
all_found s first (v ∷ said) whole (suc j) m e =
    let own = below_names s.unit s.top v.kind v.below in
    let next = starts_behind is_space s (below_root v) in
    let one : s.unit + 1 ≡ suc s.unit = omega arith in
    let count = counts_same v in
    let a = entries_of s.unit s.space first v.kind v.below in
    let b = all_tops is_space next (first + 1 + size v.below) (map below_root said) in
    elim (get_cases own (names_from (suc s.unit) (s.top + top_count v.kind v.below) said) j (Within m []) e) [
      | inl x ↦ moved s.top (a ++ b) (first + 1 + j) (first + suc j) m (omega arith) (at_left s.top a b (first + 1 + j) m (below_found s.unit s.space s.unit s.top first v.kind v.below j m x))
      | inr y ↦
          let many = names_many s.unit s.top v.kind v.below whole.0 in
          let at_j = y.1 in
          let same = ap (λ (w : List EntryName). slice_get w y.0) (λ i. names_from (one i) (s.top + count i) said) ∙ y.2 in
          moved s.top (a ++ b) (first + 1 + size v.below + y.0) (first + suc j) m (omega arith)
          (at_right s.top (tops_of_list is_space (below_root v)) a b (first + 1 + size v.below + y.0) m (many_below s.unit s.space first v.kind v.below ∙ sym count)
          (all_found next (first + 1 + size v.below) said whole.1 y.0 m same))
    ]

pub found : (s : Starts) (said : List (DwUnit ℕ)) → Each (λ v. IsPartial v.kind → ⊥) said → (i n : ℕ) → slice_get (names_from s.unit s.top said) i ≡ Some (Within n [])
    → IsTopAt s.top (all_tops is_space s 0 (map below_root said)) i n
found s said whole i n e = let same : 0 + i ≡ i = omega arith in moved s.top (all_tops is_space s 0 (map below_root said)) (0 + i) i n same (all_found s 0 said whole i n e)

-- there are as many as the units have
pub many : (s : Starts) (first : ℕ) (said : List (DwUnit ℕ)) → length (all_tops is_space s first (map below_root said)) ≡ tops_in said
unfolding all_tops tops_in
many s first [] = refl
many s first (v ∷ said) =
    let a = entries_of s.unit s.space first v.kind v.below in
    let next = starts_behind is_space s (below_root v) in
    length-append a (all_tops is_space next (first + 1 + size v.below) (map below_root said))
    ∙ (λ i. many_below s.unit s.space first v.kind v.below i + many next (first + 1 + size v.below) said i)

-- ---- each top has its name

-- the entries have the names of tops with these numbers
abbrev AreNamed : List EntryName → ℕ → List TopEntry → Type 0
AreNamed names n [] = Unit {0}
AreNamed names n (x ∷ tops) = (slice_get names x.entry ≡ Some (Within n [])) × AreNamed names (suc n) tops

named_append : (names : List EntryName) (n m : ℕ) (xs ys : List TopEntry) → AreNamed names n xs → m ≡ n + length xs → AreNamed names m ys → AreNamed names n (xs ++ ys)
named_append names n m [] ys h e k = let same : m ≡ n = omega arith in subst (λ (w : ℕ). AreNamed names w ys) same k
named_append names n m (x ∷ xs) ys h e k = (h.0, named_append names (suc n) m xs ys h.1 (omega arith) k)

named_at : (names : List EntryName) (n : ℕ) (tops : List TopEntry) → AreNamed names n tops → (k : ℕ) (x : TopEntry) → slice_get tops k ≡ Some x → slice_get names x.entry ≡ Some (Within (n + k) [])
named_at names n [] h k x e = absurd cc
named_at names n (y ∷ tops) h zero x e =
    let same : y ≡ x = cc in
    let none : n ≡ n + 0 = omega arith in
    ap (λ (w : TopEntry). slice_get names w.entry) (sym same) ∙ h.0 ∙ ap (λ (w : ℕ). Some (Within w [])) none
named_at names n (y ∷ tops) h (suc k) x e = let one : suc n + k ≡ n + suc k = omega arith in named_at names (suc n) tops h.1 k x e ∙ ap (λ (w : ℕ). Some (Within w [])) one

among_named : (names : List EntryName) (unit inner k at : ℕ) (path : List ℕ) (i n first : ℕ) (f : Entries ℕ) → At names first (map name_of (top_spots at path i n f))
    → AreNamed names n (tops_among is_space unit inner k first f)
unfolding top_spots tops_among
among_named names unit inner k at path i n first End here = tt
among_named names unit inner k at path i n first (Entry d c r) here =
    by (λ w q. among_named names unit inner w at path (suc i) (suc n) (first + 1 + size c) r q)
    (λ q. among_named names unit (suc k) (suc k) at (i ∷ path) 0 n (first + 1) c q)
    (λ w q. among_named names unit inner w at path (suc i) (n + tops_under c) (first + 1 + size c) r q)
    (space_text d) refl
  where
    top : ℕ → List (ℕ × EntryName)
    top w = top_spots at path (suc i) w r

    inside : List (ℕ × EntryName)
    inside = top_spots at (i ∷ path) 0 n c

    parted : (s : EntryName) (a b : List (ℕ × EntryName)) → At names first (s ∷ map name_of (a ++ b)) → (slice_get names first ≡ Some s) × At names (first + 1) (map name_of a ++ map name_of b)
    parted s a b h = let x = at_here names first s (map name_of (a ++ b)) h in (x.0, subst (At names (first + 1)) (map-append name_of a b) x.1)

    by : ((w : ℕ) → At names (first + 1 + size c) (map name_of (top (suc n))) → AreNamed names (suc n) (tops_among is_space unit inner w (first + 1 + size c) r))
        → (At names (first + 1) (map name_of inside) → AreNamed names n (tops_among is_space unit (suc k) (suc k) (first + 1) c))
        → ((w : ℕ) → At names (first + 1 + size c) (map name_of (top (n + tops_under c))) → AreNamed names (n + tops_under c) (tops_among is_space unit inner w (first + 1 + size c) r))
        → (o : Option (List ℕ)) → space_text d ≡ o → AreNamed names n (tops_among is_space unit inner k first (Entry d c r))
    by p q s None h =
        let own = entry_spots (Within n) [] 0 c in
        let x = parted (Within n []) own (top (suc n)) (subst (λ (w : List (ℕ × EntryName)). At names first (map name_of w)) (spots_top at path i n d c r h) here) in
        subst (AreNamed names n) (sym (tops_top is_space d c r unit inner k first (ap is_some h)))
        (x.0, p k (from_right names (first + 1) (size c) (map name_of own) (map name_of (top (suc n))) (many_names (Within n) [] 0 c) x.1))
    by p q s (Some text) h =
        let x = parted (SpaceAt at (i ∷ path)) inside (top (n + tops_under c)) (subst (λ (w : List (ℕ × EntryName)). At names first (map name_of w)) (spots_space at path i n d c r text h) here) in
        let a = tops_among is_space unit (suc k) (suc k) (first + 1) c in
        let b = tops_among is_space unit inner (suc k + spaces_by is_space c) (first + 1 + size c) r in
        subst (AreNamed names n) (sym (tops_space is_space d c r unit inner k first (ap is_some h)))
        (named_append names n (n + tops_under c) a b (q (from_left names (first + 1) (map name_of inside) (map name_of (top (n + tops_under c))) x.1))
        (ap (λ (w : ℕ). n + w) (sym (tops_many is_space unit (suc k) (suc k) (first + 1) c ∙ counted c)))
        (s (suc k + spaces_by is_space c) (from_right names (first + 1) (size c) (map name_of inside) (map name_of (top (n + tops_under c))) (many_tops at (i ∷ path) 0 n c) x.1)))

below_named : (names : List EntryName) (unit k at top first : ℕ) (kind : Kind ℕ) (f : Entries ℕ) → At names (first + 1) (below_names at top kind f)
    → AreNamed names top (entries_of unit k first kind f)
below_named names unit k at top first Compile f h = among_named names unit 0 k at [] 0 top (first + 1) f h
below_named names unit k at top first (OfType signature main) f h = tt
below_named names unit k at top first Partial f h = tt

all_named : (names : List EntryName) (s : Starts) (first : ℕ) (said : List (DwUnit ℕ)) → Each (λ v. IsPartial v.kind → ⊥) said → At names first (names_from s.unit s.top said)
    → AreNamed names s.top (all_tops is_space s first (map below_root said))
unfolding names_from all_tops
all_named names s first [] whole h = tt
all_named names s first (v ∷ said) whole h =
    let own = below_names s.unit s.top v.kind v.below in
    let next = starts_behind is_space s (below_root v) in
    let one : s.unit + 1 ≡ suc s.unit = omega arith in
    let count = counts_same v in
    let others = names_from (suc s.unit) (s.top + top_count v.kind v.below) said in
    let x = at_here names first (RootOf s.unit) (own ++ others) h in
    let rest = from_right names (first + 1) (size v.below) own others (names_many s.unit s.top v.kind v.below whole.0) x.1 in
    let a = entries_of s.unit s.space first v.kind v.below in
    named_append names s.top next.top a (all_tops is_space next (first + 1 + size v.below) (map below_root said))
    (below_named names s.unit s.space s.unit s.top first v.kind v.below (from_left names (first + 1) own others x.1))
    (ap (λ (w : ℕ). s.top + w) (count ∙ sym (many_below s.unit s.space first v.kind v.below)))
    (all_named names next (first + 1 + size v.below) said whole.1 (subst (At names (first + 1 + size v.below)) (sym (λ i. names_from (one i) (s.top + count i) said)) rest))

pub named : (s : Starts) (said : List (DwUnit ℕ)) → Each (λ v. IsPartial v.kind → ⊥) said → (k : ℕ) (x : TopEntry) → slice_get (all_tops is_space s 0 (map below_root said)) k ≡ Some x
    → slice_get (names_from s.unit s.top said) x.entry ≡ Some (Within (s.top + k) [])
named s said whole k x e =
    let names = names_from s.unit s.top said in
    named_at names s.top (all_tops is_space s 0 (map below_root said)) (all_named names s 0 said whole (record { after = []; rest = sym (append-nil names) })) k x e
