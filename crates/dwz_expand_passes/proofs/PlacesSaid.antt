-- The places of entries, as they are said, by their numbers.
use Rattle.std.proofs.Common.{◌≡◌, ℕ, zero, suc, ◌+◌, ◌<◌, ◌≤◌, ◌-◌, List, [], ◌∷◌, ◌++◌, length, map, Some, Ok, slice_get, refl, sym, ap, subst, ◌∙◌, arith, inl, inr}
use Rattle.std.proofs.lemmas.List.{append_assoc, length-map, map-append}
use Rattle.dwz_model.specs.Lists.{In}
use Rattle.dwz_model.proofs.ListFacts.{got_below, got_index_or, got_map, got_there, in_cases, in_left, in_map, in_right}
use Rattle.dwz_def_reading.specs.Documents.{DwUnit, Entries, entries_map, node_map, unit_map}
use Rattle.dwz_def_reading.specs.Entries.{RawEntry}
use Rattle.dwz_def_reading.specs.Meanings.{Around, MeanEntries, MeanUnits, MeaningContext, MeansUnit, all_places, places_in, places_of, scope_of}
use Rattle.dwz_def_reading.specs.Meant.{units_meaning}
use Rattle.dwz_def_reading.specs.Trees.{End, Entry, Forest}
use Rattle.dwz_def_reading.specs.Units.{RawUnit, entries_in}
use Rattle.dwz_def_reading.proofs.MeaningUnits.{units_agree}
use Rattle.dwz_def_tops.specs.Shown.{keys}
use Rattle.dwz_def_encoding.specs.Meant.{entry_keys}
use Rattle.dwz_graph.specs.Named.{entries_of, preorder}
use Rattle.dwz_graph.specs.Places.{place_at, places}
use Rattle.dwz_graph.proofs.PlaceLemmas.{places_are, places_many}
use Rattle.dwz_expand_sources.specs.Index.{ListedEntry, listed, listed_units}

abbrev pub place_in : ListedEntry ℕ → ℕ
place_in d = d.0.at

-- ---- one file

below_places : (s : MeaningContext ℕ) (f : Forest RawEntry) (g : Entries ℕ) → MeanEntries s f g → map place_in (listed g) ≡ map s.around.place (places_in f)
unfolding listed places_in
below_places s End End h = refl
below_places s End (Entry d c n) h = absurd h
below_places s (Entry e c n) End h = absurd h
below_places s (Entry e c n) (Entry d c' n') h =
    (λ i. h.0.place i ∷ map-append place_in (listed c') (listed n') i)
    ∙ (λ i. s.around.place e.at ∷ (below_places s c c' h.1 i ++ below_places s n n' h.2 i))
    ∙ ap (λ (w : List ℕ). s.around.place e.at ∷ w) (sym (map-append s.around.place (places_in c) (places_in n)))

units_places : (around : Around ℕ) (raw : List RawUnit) (said : List (DwUnit ℕ)) → MeanUnits around raw said → map place_in (listed_units said) ≡ map around.place (all_places raw)
unfolding listed_units all_places
units_places around [] [] h = refl
units_places around [] (v ∷ said) h = absurd h
units_places around (u ∷ raw) [] h = absurd h
units_places around (u ∷ raw) (v ∷ said) h =
    (λ i. h.0.root.place i ∷ map-append place_in (listed v.below) (listed_units said) i)
    ∙ (λ i. around.place u.root.at ∷ (below_places (scope_of around u) u.below v.below h.0.below i ++ units_places around raw said h.1 i))
    ∙ ap (λ (w : List ℕ). around.place u.root.at ∷ w) (sym (map-append around.place (places_in u.below) (all_places raw)))

module _ (around : Around ℕ) (raw : List RawUnit) (said : List (DwUnit ℕ)) (means : units_meaning around raw ≡ Ok said) where
  pub units_mean : MeanUnits around raw said
  units_mean = ((units_agree around raw).ok said).0 means

  all_said : map place_in (listed_units said) ≡ map around.place (places raw)
  all_said = units_places around raw said units_mean ∙ ap (map around.place) (sym (places_are raw))

  pub said_many : length (listed_units said) ≡ entries_in raw
  said_many =
      sym (length-map (listed_units said) place_in) ∙ ap (λ (w : List ℕ). length w) all_said ∙ length-map (places raw) around.place ∙ places_many raw

  -- an entry has its place
  pub place_said : (i : ℕ) (d : ListedEntry ℕ) → slice_get (listed_units said) i ≡ Some d → d.0.at ≡ around.place (place_at raw i)
  place_said i d found =
      let lt = got_below (listed_units said) i d found in
      let many = said_many in
      let there = got_there (places raw) i (omega (arith, lt, many, places_many raw)) in
      let one : slice_get (map around.place (places raw)) i ≡ Some (around.place there.0) = got_map around.place (places raw) i there.0 there.1 in
      let two : slice_get (map around.place (places raw)) i ≡ Some d.0.at = ap (λ (w : List ℕ). slice_get w i) (sym all_said) ∙ got_map place_in (listed_units said) i d found in
      let both : Some d.0.at ≡ Some (around.place there.0) = sym two ∙ one in
      let same : d.0.at ≡ around.place there.0 = cc in
      same ∙ ap around.place (sym (got_index_or (places raw) i there.0 0 there.1))

  pub entry_said : (i : ℕ) → i < entries_in raw → (d : ListedEntry ℕ) × (slice_get (listed_units said) i ≡ Some d) × (d.0.at ≡ around.place (place_at raw i))
  entry_said i lt =
      let there = got_there (listed_units said) i (let many = said_many in omega arith) in
      (there.0, there.1, place_said i there.0 there.1)

-- ---- units

-- a unit says one of the units
pub unit_said : (around : Around ℕ) (raw : List RawUnit) (said : List (DwUnit ℕ)) → MeanUnits around raw said → (n : ℕ) (u : RawUnit) → slice_get raw n ≡ Some u
    → (v : DwUnit ℕ) × (slice_get said n ≡ Some v) × MeansUnit around u v
unit_said around [] said h n u e = absurd cc
unit_said around (x ∷ raw) [] h n u e = absurd h
unit_said around (x ∷ raw) (v ∷ said) h zero u e = (let same : x ≡ u = cc in (v, refl, subst (λ (w : RawUnit). MeansUnit around w v) same h.0))
unit_said around (x ∷ raw) (v ∷ said) h (suc n) u e = unit_said around raw said h.1 n u e

below_keys : (s : MeaningContext ℕ) (f : Forest RawEntry) (g : Entries ℕ) → MeanEntries s f g → keys g ≡ map s.around.place (places_in f)
unfolding keys places_in
below_keys s End End h = refl
below_keys s End (Entry d c n) h = absurd h
below_keys s (Entry e c n) End h = absurd h
below_keys s (Entry e c n) (Entry d c' n') h =
    (λ i. h.0.place i ∷ (below_keys s c c' h.1 i ++ below_keys s n n' h.2 i)) ∙ ap (λ (w : List ℕ). s.around.place e.at ∷ w) (sym (map-append s.around.place (places_in c) (places_in n)))

below_place : (f : Forest RawEntry) (e : RawEntry) → In e (preorder f) → In e.at (places_in f)
unfolding preorder places_in
below_place End e h = absurd h
below_place (Entry x c n) e (inl same) = inl (ap (λ (w : RawEntry). w.at) same)
below_place (Entry x c n) e (inr later) = elim (in_cases e (preorder c) (preorder n) later) [
  | inl a ↦ inr (in_left e.at (places_in c) (places_in n) (below_place c e a))
  | inr b ↦ inr (in_right e.at (places_in c) (places_in n) (below_place n e b))
]

-- the place of an entry is one of its unit's
pub key_said : (around : Around ℕ) (u : RawUnit) (v : DwUnit ℕ) (e : RawEntry) → MeansUnit around u v → In e (entries_of u) → In (around.place e.at) (entry_keys v)
key_said around u v e h is =
    let same : map around.place (places_of u) ≡ entry_keys v = sym (λ i. h.root.place i ∷ below_keys (scope_of around u) u.below v.below h.below i) in
    subst (λ (w : List ℕ). In (around.place e.at) w) same (in_map around.place e.at (places_of u) (by is)) where
      by : In e (u.root ∷ preorder u.below) → In e.at (u.root.at ∷ places_in u.below)
      by (inl root) = inl (ap (λ (w : RawEntry). w.at) root)
      by (inr below) = inr (below_place u.below e below)

-- ---- with other places, and behind others

below_mapped : (g : ℕ → ℕ) (f : Entries ℕ) → listed (entries_map g f) ≡ map (λ (d : ListedEntry ℕ). (node_map g d.0, entries_map g d.1)) (listed f)
unfolding listed entries_map
below_mapped g End = refl
below_mapped g (Entry d c n) =
    let one : ListedEntry ℕ → ListedEntry ℕ = λ (x : ListedEntry ℕ). (node_map g x.0, entries_map g x.1) in
    ap (λ (w : List (ListedEntry ℕ)). one (d, c) ∷ w) ((λ i. below_mapped g c i ++ below_mapped g n i) ∙ sym (map-append one (listed c) (listed n)))

pub units_mapped : (g : ℕ → ℕ) (units : List (DwUnit ℕ)) → listed_units (map (unit_map g) units) ≡ map (λ (d : ListedEntry ℕ). (node_map g d.0, entries_map g d.1)) (listed_units units)
unfolding listed_units
units_mapped g [] = refl
units_mapped g (u ∷ units) =
    let one : ListedEntry ℕ → ListedEntry ℕ = λ (x : ListedEntry ℕ). (node_map g x.0, entries_map g x.1) in
    ap (λ (w : List (ListedEntry ℕ)). one (u.root, u.below) ∷ w) ((λ i. below_mapped g u.below i ++ units_mapped g units i) ∙ sym (map-append one (listed u.below) (listed_units units)))

pub units_joined : (us vs : List (DwUnit ℕ)) → listed_units (us ++ vs) ≡ listed_units us ++ listed_units vs
unfolding listed_units
units_joined [] vs = refl
units_joined (u ∷ us) vs =
    ap (λ (w : List (ListedEntry ℕ)). (u.root, u.below) ∷ w)
    (ap (λ (w : List (ListedEntry ℕ)). listed u.below ++ w) (units_joined us vs) ∙ sym (append_assoc (listed u.below) (listed_units us) (listed_units vs)))

-- an item of the second of two lists
pub got_second : {X : Type 0} (xs ys : List X) (i : ℕ) (x : X) → slice_get ys i ≡ Some x → slice_get (xs ++ ys) (length xs + i) ≡ Some x
got_second [] ys i x e = (let at : 0 + i ≡ i = omega arith in ap (λ (n : ℕ). slice_get ys n) at ∙ e)
got_second {X} (z ∷ xs) ys i x e = (let at : suc (length xs) + i ≡ suc (length xs + i) = omega arith in ap (λ (n : ℕ). slice_get (z ∷ (xs ++ ys)) n) at ∙ got_second xs ys i x e)

-- an item of the first of two lists, and of the second
pub second_got : {X : Type 0} (xs ys : List X) (i : ℕ) (x : X) → length xs ≤ i → slice_get (xs ++ ys) i ≡ Some x → slice_get ys (i - length xs) ≡ Some x
second_got [] ys i x le e = (let at : i - 0 ≡ i = omega arith in ap (λ (n : ℕ). slice_get ys n) at ∙ e)
second_got (z ∷ xs) ys zero x le e = absurd (omega arith)
second_got (z ∷ xs) ys (suc i) x le e =
    let at : suc i - suc (length xs) ≡ i - length xs = omega arith in ap (λ (n : ℕ). slice_get ys n) at ∙ second_got xs ys i x (omega arith) e

pub first_got : {X : Type 0} (xs ys : List X) (i : ℕ) (x : X) → i < length xs → slice_get (xs ++ ys) i ≡ Some x → slice_get xs i ≡ Some x
first_got [] ys i x lt e = absurd (omega arith)
first_got (z ∷ xs) ys zero x lt e = e
first_got (z ∷ xs) ys (suc i) x lt e = first_got xs ys i x (omega arith) e

tree_keys : (g : ℕ → ℕ) (f : Entries ℕ) → map g (keys f) ≡ keys (entries_map g f)
unfolding keys entries_map
tree_keys g End = refl
tree_keys g (Entry d c n) = ap (λ (w : List ℕ). g d.at ∷ w) (map-append g (keys c) (keys n) ∙ (λ i. tree_keys g c i ++ tree_keys g n i))

pub keys_mapped : (g : ℕ → ℕ) (u : DwUnit ℕ) → map g (entry_keys u) ≡ entry_keys (unit_map g u)
keys_mapped g u = ap (λ (w : List ℕ). g u.root.at ∷ w) (tree_keys g u.below)
