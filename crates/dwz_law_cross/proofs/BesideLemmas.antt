-- What is read back of a file means what the file meant.
use Rattle.std.proofs.Common.{◌≡◌, ◌⊎◌, ℕ, List, [], ◌∷◌, ◌++◌, map, refl, sym, ap, subst, ◌∙◌, inl, inr}
use Rattle.std.proofs.lemmas.List.{map-append}
use Rattle.dwz_def_reading.specs.Lists.{Each, In, NoneTwice, Nth}
use Rattle.dwz_def_reading.specs.Trees.{End, Entry}
use Rattle.dwz_def_reading.proofs.ListFacts.{in_cases, in_left, in_right}
use Rattle.dwz_def_reading.specs.Documents.{Doc, DwUnit, Entries}
use Rattle.dwz_def_tops.specs.Seen.{Closed, Seen, all_seen, see, seen, seen_below, seen_roots}
use Rattle.dwz_def_tops.specs.Shown.{OnePlace, keys, unit_keys, units_keys}
use Rattle.dwz_def_reading.proofs.Members.{in_map_from}
use Rattle.dwz_def_reading.proofs.OnceLemmas.{none_append, none_both, none_left, none_right}
use Rattle.dwz_def_tops.specs.Alike.{IsAlike, TopScope}
use Rattle.dwz_def_tops.specs.Spots.{EntryName, units_of}
use Rattle.dwz_def_images.specs.Homes.{IsChoice, Rule}
use Rattle.dwz_def_images.specs.After.{ArePlaced}
use Rattle.dwz_def_reading.specs.Places.{Place}
use Rattle.dwz_def_images.specs.Units.{all_units, common_units, file_units, out_units}
use Rattle.dwz_def_tops.proofs.UnitKeys.{keys_joined}
use Rattle.dwz_def_images.proofs.FileLemmas.{files_same}
use Rattle.dwz_def_encoding.specs.Meant.{all_entry_keys, placed_entries, placed_unit, placed_units}
use Rattle.dwz_def_encoding.specs.Writing.{Numbering}
use Rattle.dwz_def_readback.specs.Back.{run_of}
use Rattle.dwz_def_readback.specs.Files.{Made, Run, Stored, common_fitted, fitted, places}
use Rattle.dwz_def_readback.proofs.CommonLemmas.{common_within}
use Rattle.dwz_def_readback.proofs.NameLemmas.{common_entries, common_names, fitted_entries, fitted_names}
use Rattle.dwz_def_readback.proofs.ReadPlaces.{key_seen}
use Rattle.dwz_def_readback.proofs.SameLemmas.{beside_one, common_shown_by, file_shown_by}
use Rattle.dwz_def_readback.proofs.StillPlaces.{nth_number}
use Rattle.dwz_def_readback.proofs.WithinLemmas.{within}
use Rattle.dwz_law_cross.specs.PairLaws.{AreAt, plan_of}
use Rattle.dwz_law_cross.proofs.PairLemmas.{same_meaning}
use Rattle.dwz_law_cross.specs.BesideLaws.{BackSameLaw}

-- ---- lists of entries

roots_joined : {P : Type 0} (xs ys : List (DwUnit P)) → (e : Seen P) → In e (seen_roots xs) ⊎ In e (seen_roots ys) → In e (seen_roots (xs ++ ys))
unfolding seen_roots
roots_joined [] ys e (inl a) = absurd a
roots_joined [] ys e (inr b) = b
roots_joined (u ∷ xs) ys e (inl (inl a)) = inl a
roots_joined (u ∷ xs) ys e (inl (inr a)) = inr (roots_joined xs ys e (inl a))
roots_joined (u ∷ xs) ys e (inr b) = inr (roots_joined xs ys e (inr b))

below_joined : {P : Type 0} (xs ys : List (DwUnit P)) → (e : Seen P) → In e (seen_below xs) ⊎ In e (seen_below ys) → In e (seen_below (xs ++ ys))
unfolding seen_below
below_joined [] ys e (inl a) = absurd a
below_joined [] ys e (inr b) = b
below_joined (u ∷ xs) ys e (inl a) = elim (in_cases e (seen u.below) (seen_below xs) a) [
  | inl b ↦ in_left e (seen u.below) (seen_below (xs ++ ys)) b
  | inr b ↦ in_right e (seen u.below) (seen_below (xs ++ ys)) (below_joined xs ys e (inl b))
]
below_joined (u ∷ xs) ys e (inr b) = in_right e (seen u.below) (seen_below (xs ++ ys)) (below_joined xs ys e (inr b))

roots_cases : {P : Type 0} (xs ys : List (DwUnit P)) → (e : Seen P) → In e (seen_roots (xs ++ ys)) → In e (seen_roots xs) ⊎ In e (seen_roots ys)
unfolding seen_roots
roots_cases [] ys e h = inr h
roots_cases (u ∷ xs) ys e (inl a) = inl (inl a)
roots_cases (u ∷ xs) ys e (inr r) = elim (roots_cases xs ys e r) [ inl a ↦ inl (inr a) | inr b ↦ inr b ]

below_cases : {P : Type 0} (xs ys : List (DwUnit P)) → (e : Seen P) → In e (seen_below (xs ++ ys)) → In e (seen_below xs) ⊎ In e (seen_below ys)
unfolding seen_below
below_cases [] ys e h = inr h
below_cases (u ∷ xs) ys e h = elim (in_cases e (seen u.below) (seen_below (xs ++ ys)) h) [
  | inl a ↦ inl (in_left e (seen u.below) (seen_below xs) a)
  | inr r ↦ elim (below_cases xs ys e r) [ inl a ↦ inl (in_right e (seen u.below) (seen_below xs) a) | inr b ↦ inr b ]
]

all_joined : {P : Type 0} (xs ys : List (DwUnit P)) (e : Seen P) → In e (all_seen xs) ⊎ In e (all_seen ys) → In e (all_seen (xs ++ ys))
all_joined xs ys e (inl a) = elim (in_cases e (seen_roots xs) (seen_below xs) a) [
  | inl p ↦ in_left e (seen_roots (xs ++ ys)) (seen_below (xs ++ ys)) (roots_joined xs ys e (inl p))
  | inr p ↦ in_right e (seen_roots (xs ++ ys)) (seen_below (xs ++ ys)) (below_joined xs ys e (inl p))
]
all_joined xs ys e (inr a) = elim (in_cases e (seen_roots ys) (seen_below ys) a) [
  | inl p ↦ in_left e (seen_roots (xs ++ ys)) (seen_below (xs ++ ys)) (roots_joined xs ys e (inr p))
  | inr p ↦ in_right e (seen_roots (xs ++ ys)) (seen_below (xs ++ ys)) (below_joined xs ys e (inr p))
]

all_split : {P : Type 0} (xs ys : List (DwUnit P)) (e : Seen P) → In e (all_seen (xs ++ ys)) → In e (all_seen xs) ⊎ In e (all_seen ys)
all_split xs ys e h = elim (in_cases e (seen_roots (xs ++ ys)) (seen_below (xs ++ ys)) h) [
  | inl a ↦ elim (roots_cases xs ys e a) [ inl p ↦ inl (in_left e (seen_roots xs) (seen_below xs) p) | inr p ↦ inr (in_left e (seen_roots ys) (seen_below ys) p) ]
  | inr a ↦ elim (below_cases xs ys e a) [ inl p ↦ inl (in_right e (seen_roots xs) (seen_below xs) p) | inr p ↦ inr (in_right e (seen_roots ys) (seen_below ys) p) ]
]

-- an entry stands for each key
abbrev Stands : {P : Type 0} → List (DwUnit P) → P → Type 0
Stands {P} units k = (d : Seen P) × In d (all_seen units) × (d.at ≡ k)

seen_key : {P : Type 0} (units : List (DwUnit P)) (k : P) → In k (all_entry_keys units) → Stands units k
unfolding all_entry_keys seen_roots seen_below
seen_key [] k h = absurd h
seen_key {P} (u ∷ units) k (inl e) = (see u.root u.below, inl refl, e)
seen_key {P} (u ∷ units) k (inr r) = elim (in_cases k (keys u.below) (all_entry_keys units) r) [
  | inl a ↦ (let o = key_seen u.below k a in (o.0, in_right o.0 (seen_roots (u ∷ units)) (seen_below (u ∷ units)) (in_left o.0 (seen u.below) (seen_below units) o.1), o.2))
  | inr b ↦ (let o = seen_key units k b in (o.0, all_joined (u ∷ []) units o.0 (inr o.1), o.2))
]

-- ---- names that stand once have places that do

pub none_in : {X Y : Type 0} (f : X → Y) (xs : List X) → ((a b : X) → In a xs → In b xs → f a ≡ f b → a ≡ b) → NoneTwice xs → NoneTwice (map f xs)
none_in f [] one h = tt
none_in {X} f (x ∷ xs) one h = (
  (λ is. let o = in_map_from f (f x) xs is in h.0 (subst (λ (w : X). In w xs) (one o.source x (inr o.there) (inl refl) o.is) o.there)),
  none_in f xs (λ a b p q. one a b (inr p) (inr q)) h.1,
)

module _ {K P : Type 0} (n : Numbering K) (g : K → P) where
  entries_at : (unit : ℕ) (f : Entries K) → keys (placed_entries n g unit f) ≡ map g (keys f)
  unfolding keys placed_entries
  entries_at unit End = refl
  entries_at unit (Entry e children next) =
      ap (λ (w : List P). g e.at ∷ w)
      (ap (λ (w : List P). w ++ keys (placed_entries n g unit next)) (entries_at unit children)
      ∙ ap (λ (w : List P). map g (keys children) ++ w) (entries_at unit next)
      ∙ sym (map-append g (keys children) (keys next)))

  unit_at : (u : DwUnit K) → unit_keys (placed_unit n g u) ≡ map g (unit_keys u)
  unfolding unit_keys
  unit_at u = ap (λ (w : List P). g u.at ∷ g u.root.at ∷ w) (entries_at (n.place u.at) u.below)

  pub placed_keys : (units : List (DwUnit K)) → units_keys (placed_units n g units) ≡ map g (units_keys units)
  unfolding units_keys
  placed_keys [] = refl
  placed_keys (u ∷ units) =
      ap (λ (w : List P). w ++ units_keys (placed_units n g units)) (unit_at u)
      ∙ ap (λ (w : List P). map g (unit_keys u) ++ w) (placed_keys units)
      ∙ sym (map-append g (unit_keys u) (units_keys units))

-- ---- the files of a run

module _ (scope : TopScope) (docs : List (Doc ℕ)) (rule : Rule) (placed : Each (λ doc. ArePlaced doc.units) docs) (is : IsAlike scope (units_of docs) rule.alike)
    (choice : IsChoice (units_of docs) rule) (input : Stored) (file : ℕ) (doc : Doc ℕ) (nth : Nth 0 docs file doc) where
  abbrev r : Run
  r = run_of rule docs input

  abbrev outs : List (DwUnit EntryName)
  outs = out_units r.move r.units file

  abbrev shared : List (DwUnit EntryName)
  shared = common_units r.move

  pub there : In file r.files
  there = nth_number 0 docs file doc nth

  pub closed : Closed (outs ++ shared)
  closed e a k e_in a_in k_in = elim (all_split outs shared e e_in) [
    | inl x ↦ elim (within scope docs rule placed is choice input file e a k x a_in k_in) [
      | inl y ↦ (let o = seen_key outs k (subst (In k) (fitted_entries r file) y) in (o.0, all_joined outs shared o.0 (inl o.1), o.2))
      | inr y ↦ (let o = seen_key shared k (subst (In k) (common_entries r) y) in (o.0, all_joined outs shared o.0 (inr o.1), o.2))
    ]
    | inr x ↦ elim (common_within scope docs rule placed is choice input e a k x a_in k_in) [
      | inl y ↦ (let o = seen_key shared k (subst (In k) (common_entries r) y) in (o.0, all_joined outs shared o.0 (inr o.1), o.2))
      | inr y ↦ absurd y
    ]
  ]

  -- names of the file are among those of all
  among : (files : List ℕ) → In file files → (k : EntryName) → In k (units_keys outs) → In k (units_keys (file_units r.move r.units files))
  unfolding file_units units_keys
  among [] h k k_in = absurd h
  among (f ∷ files) (inl e) k k_in =
      subst (In k) (sym (keys_joined (out_units r.move r.units f) (file_units r.move r.units files)))
      (in_left k (units_keys (out_units r.move r.units f)) (units_keys (file_units r.move r.units files)) (subst (λ (n : ℕ). In k (units_keys (out_units r.move r.units n))) (sym e) k_in))
  among (f ∷ files) (inr h) k k_in =
      subst (In k) (sym (keys_joined (out_units r.move r.units f) (file_units r.move r.units files)))
      (in_right k (units_keys (out_units r.move r.units f)) (units_keys (file_units r.move r.units files)) (among files h k k_in))

  one_file : (files : List ℕ) → In file files → NoneTwice (units_keys (file_units r.move r.units files)) → NoneTwice (units_keys outs)
  unfolding file_units units_keys
  one_file [] h apart = absurd h
  one_file (f ∷ files) (inl e) apart =
      subst (λ (n : ℕ). NoneTwice (units_keys (out_units r.move r.units n))) e
      (none_left (units_keys (out_units r.move r.units f)) (units_keys (file_units r.move r.units files)) (subst NoneTwice (keys_joined (out_units r.move r.units f) (file_units r.move r.units files)) apart))
  one_file (f ∷ files) (inr h) apart =
      one_file files h
      (none_right (units_keys (out_units r.move r.units f)) (units_keys (file_units r.move r.units files)) (subst NoneTwice (keys_joined (out_units r.move r.units f) (file_units r.move r.units files)) apart))

  pub once : NoneTwice (units_keys (all_units r.move r.units r.files))
  once = (files_same scope docs rule placed is choice).apart

  all_apart : NoneTwice (units_keys shared ++ units_keys (file_units r.move r.units r.files))
  all_apart = subst NoneTwice (keys_joined shared (file_units r.move r.units r.files)) once

  pub names_apart : NoneTwice (units_keys outs ++ units_keys shared)
  names_apart =
      none_append (units_keys outs) (units_keys shared)
      (one_file r.files there (none_right (units_keys shared) (units_keys (file_units r.move r.units r.files)) all_apart))
      (none_left (units_keys shared) (units_keys (file_units r.move r.units r.files)) all_apart)
      (λ k a b. none_both (units_keys shared) (units_keys (file_units r.move r.units r.files)) all_apart k b (among r.files there k a))

  -- shown at places of which no two names have one
  module _ (g : EntryName → Place) (one : OnePlace g (outs ++ shared)) where
    abbrev own : List (DwUnit Place)
    own = placed_units (places r) g (fitted r file)

    abbrev common : List (DwUnit Place)
    common = placed_units (places r) g (common_fitted r)

    own_keys : units_keys own ≡ map g (units_keys outs)
    own_keys = placed_keys (places r) g (fitted r file) ∙ ap (map g) (fitted_names r file)

    common_keys : units_keys common ≡ map g (units_keys shared)
    common_keys = placed_keys (places r) g (common_fitted r) ∙ ap (map g) (common_names r)

    places_apart : NoneTwice (units_keys (own ++ common))
    places_apart =
        let joined : units_keys (own ++ common) ≡ map g (units_keys outs ++ units_keys shared) =
        keys_joined own common ∙ ap (λ (w : List Place). w ++ units_keys common) own_keys ∙ ap (λ (w : List Place). map g (units_keys outs) ++ w) common_keys
        ∙ sym (map-append g (units_keys outs) (units_keys shared)) in
        let whole : (k : EntryName) → In k (units_keys outs ++ units_keys shared) → In k (units_keys (outs ++ shared)) = λ k h. subst (In k) (sym (keys_joined outs shared)) h in
        subst NoneTwice (sym joined) (none_in g (units_keys outs ++ units_keys shared) (λ a b p q e. one a b (whole a p) (whole b q) e) names_apart)

    pub at : AreAt (plan_of rule docs) docs file g own common
    at = record {
      own_shown = file_shown_by Made r g file;
      common_shown = common_shown_by r g;
      one = one;
      closed = closed;
      apart = places_apart;
    }

pub back_same : BackSameLaw
back_same scope docs rule placed is choice input g ok old file doc nth =
    let r = run_of rule docs input in
    let one = beside_one scope docs rule placed is choice input g ok old file (nth_number 0 docs file doc nth) in
    same_meaning scope docs rule placed is choice file doc nth g (placed_units (places r) g (fitted r file)) (placed_units (places r) g (common_fitted r))
    (at scope docs rule placed is choice input file doc nth g one)
