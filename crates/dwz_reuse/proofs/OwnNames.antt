-- The names in files are of their own tops: they name none of the common file.
use Rattle.std.proofs.Common.{◌≡◌, ℕ, suc, ◌+◌, ◌<◌, ◌≤◌, ◌==◌, ◌||◌, ◌&&◌, Bool, true, false, List, [], ◌∷◌, length, map, Option, Some, None, refl, ◌∙◌, arith}
use Rattle.std.specs.List.{list_any}
use Rattle.std.proofs.lemmas.Bool.{ne_eqb}
use Rattle.std.proofs.lemmas.List.Folds.{list_any-append}
use Rattle.dwz_model.specs.Lists.{Each}
use Rattle.dwz_model.proofs.Members.{each_append}
use Rattle.dwz_def_reading.specs.Documents.{Attr, Compile, Doc, DwUnit, Entries, Kind, OfType, Partial, attr_map, entries_map, node_map, unit_map}
use Rattle.dwz_def_reading.specs.Trees.{End, Entry}
use Rattle.dwz_def_tops.specs.Alike.{any_attr, any_entry, has_operand, is_in, names_in_unit, operand_names}
use Rattle.dwz_def_tops.specs.Spaces.{space_text, tops_under}
use Rattle.dwz_def_tops.specs.Spots.{EntryName, InType, Standing, Within, below_spots, entry_spots, in_file, named_files, named_in, number_tops, spot_in, spot_numbering, spots_from, top_count, top_spots, tops_among, tops_of, units_of}
use Rattle.dwz_def_tops.proofs.FiledTops.{counted, filed_count, tops_length}
use Rattle.dwz_def_taken.proofs.NamesOver.{counted_append}

-- ---- names

abbrev IsLowName : ℕ → EntryName → Type 0
IsLowName high (Within t path) = t < high
IsLowName high _ = Unit {0}

abbrev LowSpot : ℕ → (ℕ × EntryName) → Type 0
LowSpot high s = IsLowName high s.1

below_low : (high n : ℕ) → n < high → (path : List ℕ) (i : ℕ) (f : Entries ℕ) → Each (LowSpot high) (entry_spots (Within n) path i f)
unfolding entry_spots
below_low high n h path i End = tt
below_low high n h path i (Entry e f g) =
    (h, each_append (LowSpot high) (entry_spots (Within n) (i ∷ path) 0 f) (entry_spots (Within n) path (suc i) g) (below_low high n h (i ∷ path) 0 f) (below_low high n h path (suc i) g))

abbrev at : List ℕ → ℕ → Standing
at path i = record { path = path; index = i }

tops_low : (unit high : ℕ) (path : List ℕ) (i n : ℕ) (f : Entries ℕ) → n + tops_under f ≤ high → Each (LowSpot high) (number_tops (spot_numbering unit) (at path i) n f)
unfolding tops_under
tops_low unit high path i n End h = tt
tops_low unit high path i n (Entry e f g) h =
    go (space_text e) (λ m l. tops_low unit high path (suc i) m g l) (λ m l. tops_low unit high (i ∷ path) 0 m f l) h
  where
    go : (o : Option (List ℕ)) → ((m : ℕ) → m + tops_under g ≤ high → Each (LowSpot high) (number_tops (spot_numbering unit) (at path (suc i)) m g))
        → ((m : ℕ) → m + tops_under f ≤ high → Each (LowSpot high) (number_tops (spot_numbering unit) (at (i ∷ path) 0) m f))
        → n + elim o as (λ _. ℕ) [ None ↦ suc (tops_under g) | Some text ↦ tops_under f + tops_under g ] ≤ high
        → Each (LowSpot high) (elim o as (λ _. List (ℕ × EntryName)) [
          | None ↦ (spot_numbering unit).top (at path i) n e f (number_tops (spot_numbering unit) (at path (suc i)) (suc n) g)
          | Some name ↦ (spot_numbering unit).space (at path i) e (number_tops (spot_numbering unit) (at (i ∷ path) 0) n f)
              (number_tops (spot_numbering unit) (at path (suc i)) (n + tops_under f) g)
        ])
    go None behind inside l = (
      omega (arith, l),
      each_append (LowSpot high) (entry_spots (Within n) [] 0 f) (number_tops (spot_numbering unit) (at path (suc i)) (suc n) g) (below_low high n (omega (arith, l)) [] 0 f)
          (behind (suc n) (omega (arith, l))),
    )
    go (Some name) behind inside l = (
      tt,
      each_append (LowSpot high) (number_tops (spot_numbering unit) (at (i ∷ path) 0) n f) (number_tops (spot_numbering unit) (at path (suc i)) (n + tops_under f) g)
          (inside n (omega (arith, l))) (behind (n + tops_under f) (omega (arith, l))),
    )

type_low : (unit high : ℕ) (path : List ℕ) (i : ℕ) (f : Entries ℕ) → Each (LowSpot high) (entry_spots (λ p. InType unit p) path i f)
unfolding entry_spots
type_low unit high path i End = tt
type_low unit high path i (Entry e f g) =
    (tt, each_append (LowSpot high) (entry_spots (λ p. InType unit p) (i ∷ path) 0 f) (entry_spots (λ p. InType unit p) path (suc i) g) (type_low unit high (i ∷ path) 0 f) (type_low unit high path (suc i) g))

kind_low : (unit high top : ℕ) (k : Kind ℕ) (f : Entries ℕ) → top + top_count k f ≤ high → Each (LowSpot high) (below_spots unit top k f)
unfolding top_spots
kind_low unit high top Compile f h = tops_low unit high [] 0 top f h
kind_low unit high top (OfType signature main) f h = type_low unit high [] 0 f
kind_low unit high top Partial f h = tt

spots_low : (high unit top : ℕ) (units : List (DwUnit ℕ)) → top + tops_among units ≤ high → Each (LowSpot high) (spots_from unit top units)
unfolding spots_from tops_among
spots_low high unit top [] h = tt
spots_low high unit top (u ∷ units) h = (
  tt,
  (
    tt,
    each_append (LowSpot high) (below_spots unit top u.kind u.below) (spots_from (suc unit) (top + top_count u.kind u.below) units)
        (kind_low unit high top u.kind u.below (omega (arith, h)))
        (spots_low high (suc unit) (top + top_count u.kind u.below) units (omega (arith, h))),
  ),
)

spot_low : (high : ℕ) (spots : List (ℕ × EntryName)) (place : ℕ) → Each (LowSpot high) spots → IsLowName high (spot_in spots place)
unfolding spot_in
spot_low high [] place h = tt
spot_low high (s ∷ spots) place h = go (s.0 == place) (spot_low high spots place h.1) where
  go : (b : Bool) → IsLowName high (spot_in spots place) → IsLowName high (elim b as (λ _. EntryName) [ true ↦ s.1 | false ↦ spot_in spots place ])
  go true more = h.0
  go false more = more

-- ---- what operands name

none_or : (a b : Bool) → a ≡ false → b ≡ false → (a || b) ≡ false
none_or a b p q = rw (p, q) refl

none_and : (a b : Bool) → b ≡ false → (a && b) ≡ false
none_and true b e = e
none_and false b e = refl

module _ (high n : ℕ) (above : high ≤ n) (k : ℕ → EntryName) (low : (x : ℕ) → IsLowName high (k x)) where
  spot_not : (s : EntryName) → IsLowName high s → is_in n s ≡ false
  spot_not (Within t path) h = ne_eqb t n (λ e. omega (arith, e, h, above))
  spot_not _ h = refl

  refs_not : (refs : List ℕ) → list_any (is_in n) (map k refs) ≡ false
  refs_not [] = refl
  refs_not (x ∷ refs) = none_or (is_in n (k x)) (list_any (is_in n) (map k refs)) (spot_not (k x) (low x)) (refs_not refs)

  attrs_not : (attrs : List (Attr ℕ)) → list_any (operand_names n) (map (attr_map k) attrs) ≡ false
  attrs_not [] = refl
  attrs_not (a ∷ attrs) =
      none_or (operand_names n (attr_map k a)) (list_any (operand_names n) (map (attr_map k) attrs))
      (none_and (has_operand a.value.plain) (list_any (is_in n) (map k a.value.refs)) (refs_not a.value.refs)) (attrs_not attrs)

  entries_not : (f : Entries ℕ) → any_entry (any_attr (operand_names n)) (entries_map k f) ≡ false
  unfolding any_entry entries_map
  entries_not End = refl
  entries_not (Entry e f g) =
      none_or (any_attr (operand_names n) (node_map k e)) _ (attrs_not e.attrs)
      (none_or (any_entry (any_attr (operand_names n)) (entries_map k f)) (any_entry (any_attr (operand_names n)) (entries_map k g)) (entries_not f) (entries_not g))

  units_not : (file : ℕ) (units : List (DwUnit ℕ)) → list_any (names_in_unit n) (map (in_file file) (map (unit_map k) units)) ≡ false
  units_not file [] = refl
  units_not file (u ∷ units) =
      none_or (names_in_unit n (in_file file (unit_map k u))) (list_any (names_in_unit n) (map (in_file file) (map (unit_map k) units)))
      (none_or (any_attr (operand_names n) (node_map k u.root)) (any_entry (any_attr (operand_names n)) (entries_map k u.below)) (attrs_not u.root.attrs) (entries_not u.below))
      (units_not file units)

files_not : (high n : ℕ) → high ≤ n → (file unit top : ℕ) (docs : List (Doc ℕ)) → top + counted (named_files file unit top docs) ≤ high → list_any (names_in_unit n) (named_files file unit top docs) ≡ false
unfolding named_files counted
files_not high n above file unit top [] h = refl
files_not high n above file unit top (doc ∷ docs) h =
    let spots = spots_from unit top doc.units in
    let own = map (in_file file) (named_in spots doc.units) in
    let rest = named_files (suc file) (unit + length doc.units) (top + tops_among doc.units) docs in
    let count = counted_append own rest in
    let here = filed_count spots file doc.units in
    let low : (x : ℕ) → IsLowName high (spot_in spots x) = λ x. spot_low high spots x (spots_low high unit top doc.units (omega (arith, h, count, here))) in
    list_any-append (names_in_unit n) own rest
    ∙ none_or (list_any (names_in_unit n) own) (list_any (names_in_unit n) rest) (units_not high n above (spot_in spots) low file doc.units)
    (files_not high n above (suc file) (unit + length doc.units) (top + tops_among doc.units) docs (omega (arith, h, count, here)))

-- files name none of the tops behind theirs
pub own_not : (docs : List (Doc ℕ)) (n : ℕ) → length (tops_of (units_of docs)) ≤ n → list_any (names_in_unit n) (units_of docs) ≡ false
own_not docs n above =
    let many = tops_length 0 0 (units_of docs) in
    files_not (length (tops_of (units_of docs))) n above 0 0 0 docs (omega (arith, many))
