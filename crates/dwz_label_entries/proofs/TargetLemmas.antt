-- What is told of an entry that is named, and of several one after the other.
use Rattle.std.proofs.Common.{◌≡◌, ℕ, ◌<◌, List, [], ◌∷◌, ◌++◌, length, map, Some, None, slice_get, refl, sym, ap, subst, ◌∙◌, arith}
use Rattle.std.specs.List.{flat_map}
use Rattle.std.proofs.lemmas.List.{append-nil, append_assoc}
use Rattle.dwz_def_tops.specs.Spots.{EntryName, Import, InChain, InType, PartialOf, PartialRoot, RootOf, SpaceAt, UnitOf, Within}
use Rattle.dwz_label_entries.specs.Targets.{KnowsNames}
use Rattle.dwz_def_reading.specs.Units.{RawUnit, entries_in}
use Rattle.dwz_graph.specs.Rows.{AreTargets}
use Rattle.dwz_graph.specs.Names.{path_in, top_in}
use Rattle.dwz_label.specs.Labels.{each_counted, number, target_label}
use Rattle.dwz_graph.specs.Resolved.{place_at}

pub no_path : (s : EntryName) → top_in s ≡ None → target_label s ≡ 0 ∷ []
no_path (Within top path) e = absurd cc
no_path (UnitOf n) e = refl
no_path (RootOf n) e = refl
no_path (SpaceAt n path) e = refl
no_path (InType n path) e = refl
no_path (PartialOf n) e = refl
no_path (PartialRoot n) e = refl
no_path (InChain part chain depth) e = refl
no_path (Import unit part) e = refl

pub some_path : (s : EntryName) (top : ℕ) → top_in s ≡ Some top → target_label s ≡ 1 ∷ each_counted number (path_in s)
some_path (Within top path) n e = refl
some_path (UnitOf m) n e = absurd cc
some_path (RootOf m) n e = absurd cc
some_path (SpaceAt m path) n e = absurd cc
some_path (InType m path) n e = absurd cc
some_path (PartialOf m) n e = absurd cc
some_path (PartialRoot m) n e = absurd cc
some_path (InChain part chain depth) n e = absurd cc
some_path (Import unit part) n e = absurd cc

-- ---- several

-- places of the numbers that are left
pub record AreLeft (raw : List RawUnit) (name : ℕ → EntryName) (numbers : List ℕ) (out all : List ℕ) : Type 0 where
  pub places : List ℕ
  pub targets : AreTargets raw numbers places
  pub many : length places ≡ length numbers
  pub bytes : out ++ flat_map target_label (map name places) ≡ all

abbrev FirstLeft : List RawUnit → (ℕ → EntryName) → ℕ → List ℕ → List ℕ → List ℕ → Type 0
FirstLeft raw name i numbers out all = (p : ℕ) × (i < entries_in raw) × (place_at raw i ≡ p) × ((new : List ℕ) → new ≡ out ++ target_label (name p) → AreLeft raw name numbers new all)

first_of : (raw : List RawUnit) (name : ℕ → EntryName) (i : ℕ) (numbers places out all : List ℕ) → AreTargets raw (i ∷ numbers) places → length places ≡ length (i ∷ numbers)
    → out ++ flat_map target_label (map name places) ≡ all → FirstLeft raw name i numbers out all
first_of raw name i numbers [] out all h many bytes = absurd (omega (arith, many))
first_of raw name i numbers (p ∷ places) out all h many bytes = (
  p,
  h.0,
  h.1,
  λ new is. record {
    places = places;
    targets = h.2;
    many = omega (arith, many);
    bytes = ap (λ (w : List ℕ). w ++ flat_map target_label (map name places)) is ∙ append_assoc out (target_label (name p)) (flat_map target_label (map name places)) ∙ bytes;
  },
)

pub first_left : (raw : List RawUnit) (name : ℕ → EntryName) (numbers : List ℕ) (i : ℕ) (others out all : List ℕ) → numbers ≡ i ∷ others → AreLeft raw name numbers out all
    → FirstLeft raw name i others out all
first_left raw name numbers i others out all e h =
    first_of raw name i others h.places out all (subst (λ (w : List ℕ). AreTargets raw w h.places) e h.targets) (h.many ∙ ap (λ (w : List ℕ). length w) e) h.bytes

none_of : (raw : List RawUnit) (name : ℕ → EntryName) (places out all : List ℕ) → length places ≡ 0 → out ++ flat_map target_label (map name places) ≡ all → out ≡ all
none_of raw name [] out all many bytes = sym (append-nil out) ∙ bytes
none_of raw name (p ∷ places) out all many bytes = absurd (omega (arith, many))

pub none_left : (raw : List RawUnit) (name : ℕ → EntryName) (numbers : List ℕ) (out all : List ℕ) → length numbers ≡ 0 → AreLeft raw name numbers out all → out ≡ all
none_left raw name numbers out all none h = none_of raw name h.places out all (h.many ∙ none) h.bytes

-- the name of the entry with a number
pub name_there : (raw : List RawUnit) (name : ℕ → EntryName) (x : _) (i p : ℕ) (k : KnowsNames raw name x) → i < entries_in raw → place_at raw i ≡ p → slice_get k.names i ≡ Some (name p)
name_there raw name x i p k lt e = k.named i lt ∙ ap (λ (n : ℕ). Some (name n)) e

-- ---- a path behind the number of its steps

pub way_told : (s : EntryName) (path shown other old a b c : List ℕ) → path ≡ path_in s → shown ≡ path → other ≡ path → a ≡ old ++ 1 ∷ [] → b ≡ a ++ number (length shown) → c ≡ b
    ++ flat_map number other
    → c ≡ old ++ 1 ∷ each_counted number (path_in s)
way_told s path shown other old a b c is one two at_a at_b at_c =
    let steps = flat_map number (path_in s) in
    let count = number (length (path_in s)) in
    at_c ∙ ap (λ (w : List ℕ). b ++ flat_map number w) (two ∙ is)
    ∙ ap (λ (w : List ℕ). w ++ steps) (at_b ∙ ap (λ (w : List ℕ). a ++ number (length w)) (one ∙ is) ∙ ap (λ (w : List ℕ). w ++ count) at_a)
    ∙ append_assoc (old ++ 1 ∷ []) count steps ∙ append_assoc old (1 ∷ []) (count ++ steps)
