-- The sources of units along a function of places.
use Rattle.std.proofs.Common.{◌≡◌, ℕ, zero, suc, Bool, true, false, List, [], ◌∷◌, ◌++◌, ◌==◌, ◌&&◌, cond, get_or, map, not, Option, Some, if◌then◌else◌, refl, sym, ap, ◌∙◌}
use Rattle.std.specs.List.{filter, list_any}
use Rattle.std.specs.Prelude.{unwrap_or}
use Rattle.std.proofs.lemmas.List.{map-append}
use Rattle.dwz_def_cross.specs.Tops.{WithCommon, unless_partial, units_with_common, whole_units}
use Rattle.dwz_def_encoding.specs.Meant.{entry_keys}
use Rattle.dwz_def_encoding.specs.Placing.{has_key}
use Rattle.dwz_def_expand.specs.Source.{copy, copy_for, first_with, followed_by, imported_by, imported_in, inside, is_entry, is_import, is_import_attr, is_partial, once, source_places}
use Rattle.dwz_def_expand.specs.Source.{source_unit, source_units, sources_below, unit_for, unless_import, without_imports}
use Rattle.dwz_def_reading.specs.Documents.{Attr, Compile, DwUnit, Entries, Kind, Node, OfType, Partial, Plain, Ref, attr_map, entries_map, kind_map, node_map, unit_map}
use Rattle.dwz_def_reading.specs.Trees.{End, Entry}
use Rattle.dwz_def_tops.proofs.MainLemmas.{keys_map}
use Rattle.dwz_expand_passes.specs.Renamed.{copy_map, renamed}

filter_mapped : {X Y : Type 0} (g : X → Y) (p : X → Bool) (q : Y → Bool) → ((x : X) → q (g x) ≡ p x) → (xs : List X) → filter q (map g xs) ≡ map g (filter p xs)
filter_mapped g p q alike [] = refl
filter_mapped {X} {Y} g p q alike (x ∷ xs) =
    (λ i. cond (alike x i) (g x ∷ filter_mapped g p q alike xs i) (filter_mapped g p q alike xs i)) ∙ by (p x) where
      by : (b : Bool) → cond b (g x ∷ map g (filter p xs)) (map g (filter p xs)) ≡ map g (cond b (x ∷ filter p xs) (filter p xs))
      by true = refl
      by false = refl

module _ {P Q : Type 0} (f : P → Q) (same : P → P → Bool) (other : Q → Q → Bool) (alike : (p q : P) → other (f p) (f q) ≡ same p q) where
  abbrev Moved : DwUnit P → DwUnit Q
  Moved u = unit_map f u

  -- ---- imports

  entry_mapped : (p : P) (plain : Plain) (refs : List P) (address : Bool) → is_entry other (f p) plain (map f refs) address ≡ is_entry same p plain refs address
  entry_mapped p Ref [] address = refl
  entry_mapped p Ref (q ∷ []) true = refl
  entry_mapped p Ref (q ∷ []) false = alike q p
  entry_mapped p Ref (q ∷ r ∷ refs) address = refl
  entry_mapped p _ refs address = refl

  attr_mapped : (p : P) (a : Attr P) → is_import_attr other (f p) (attr_map f a) ≡ is_import_attr same p a
  attr_mapped p a = ap (λ (b : Bool). (a.name == 0x18) && b) (entry_mapped p a.value.plain a.value.refs a.value.address)

  any_mapped : (p : P) (attrs : List (Attr P)) → list_any (is_import_attr other (f p)) (map (attr_map f) attrs) ≡ list_any (is_import_attr same p) attrs
  any_mapped p [] = refl
  any_mapped p (a ∷ attrs) = rw (attr_mapped p a, any_mapped p attrs) refl

  partial_mapped : (k : Kind P) → is_partial (kind_map f k) ≡ is_partial k
  partial_mapped Compile = refl
  partial_mapped (OfType s t) = refl
  partial_mapped Partial = refl

  import_mapped : (e : Node P) (v : DwUnit P) → (is_partial (Moved v).kind && is_import other (Moved v).root.at (node_map f e)) ≡ (is_partial v.kind && is_import same v.root.at e)
  import_mapped e v = (λ i. partial_mapped v.kind i && ((e.tag == 0x3d) && any_mapped v.root.at e.attrs i))

  pub imported_mapped : (units : List (DwUnit P)) (e : Node P) → imported_by other (map (unit_map f) units) (node_map f e) ≡ map (unit_map f) (imported_by same units e)
  unfolding imported_by
  imported_mapped units e =
      filter_mapped (unit_map f) (λ v. is_partial v.kind && is_import same v.root.at e) (λ v. is_partial v.kind && is_import other v.root.at (node_map f e)) (import_mapped e) units

  all_imported : (units : List (DwUnit P)) (g : Entries P) → imported_in other (map (unit_map f) units) (entries_map f g) ≡ map (unit_map f) (imported_in same units g)
  unfolding imported_in entries_map
  all_imported units End = refl
  all_imported units (Entry e c n) =
      (λ i. imported_mapped units e i ++ all_imported units n i) ∙ sym (map-append (unit_map f) (imported_by same units e) (imported_in same units n))

  once_mapped : (vs : List (DwUnit P)) → once other (map (unit_map f) vs) ≡ map (unit_map f) (once same vs)
  unfolding once
  once_mapped [] = refl
  once_mapped (v ∷ vs) =
      ap (λ (us : List (DwUnit Q)). unit_map f v ∷ filter (λ w. not (other w.at (f v.at))) us) (once_mapped vs)
      ∙ ap (λ (us : List (DwUnit Q)). unit_map f v ∷ us)
      (filter_mapped (unit_map f) (λ w. not (same w.at v.at)) (λ w. not (other w.at (f v.at))) (λ w. ap not (alike w.at v.at)) (once same vs))

  -- ---- sources

  followed_mapped : (g last : Entries P) → followed_by (entries_map f g) (entries_map f last) ≡ entries_map f (followed_by g last)
  unfolding followed_by entries_map
  followed_mapped End last = refl
  followed_mapped (Entry e c n) last = ap (λ (h : Entries Q). Entry (node_map f e) (entries_map f c) h) (followed_mapped n last)

  unless_mapped : (parts : List (DwUnit P)) (e : Node P) (c rest : Entries P)
      → unless_import (map (unit_map f) parts) (node_map f e) (entries_map f c) (entries_map f rest) ≡ entries_map f (unless_import parts e c rest)
  unfolding entries_map
  unless_mapped [] e c rest = refl
  unless_mapped (v ∷ parts) e c rest = refl

  without_mapped : (units : List (DwUnit P)) (g : Entries P) → without_imports other (map (unit_map f) units) (entries_map f g) ≡ entries_map f (without_imports same units g)
  unfolding without_imports entries_map
  without_mapped units End = refl
  without_mapped units (Entry e c n) =
      (λ i. unless_import (imported_mapped units e i) (node_map f e) (entries_map f c) (without_mapped units n i))
      ∙ unless_mapped (imported_by same units e) e c (without_imports same units n)

  inside_mapped : (parts : List (DwUnit P)) → inside (map (unit_map f) parts) ≡ entries_map f (inside parts)
  unfolding inside entries_map
  inside_mapped [] = refl
  inside_mapped (v ∷ parts) = ap (followed_by (entries_map f v.below)) (inside_mapped parts) ∙ followed_mapped v.below (inside parts)

  below_mapped : (units : List (DwUnit P)) (k : Kind P) (g : Entries P) → sources_below other (map (unit_map f) units) (kind_map f k) (entries_map f g) ≡ entries_map f (sources_below same units k g)
  below_mapped units Compile g =
      (λ i. followed_by (without_mapped units g i) (inside (once other (all_imported units g i))))
      ∙ ap (λ (vs : List (DwUnit Q)). followed_by (entries_map f (without_imports same units g)) (inside vs)) (once_mapped (imported_in same units g))
      ∙ ap (followed_by (entries_map f (without_imports same units g))) (inside_mapped (once same (imported_in same units g)))
      ∙ followed_mapped (without_imports same units g) (inside (once same (imported_in same units g)))
  below_mapped units (OfType s t) g = refl
  below_mapped units Partial g = refl

  unit_mapped : (units : List (DwUnit P)) (u : DwUnit P) → source_unit other (map (unit_map f) units) (unit_map f u) ≡ unit_map f (source_unit same units u)
  unit_mapped units u = (λ i. record { at = f u.at; kind = kind_map f u.kind; root = node_map f u.root; below = below_mapped units u.kind u.below i })

  pub whole_mapped : (units : List (DwUnit P)) → whole_units (map (unit_map f) units) ≡ map (unit_map f) (whole_units units)
  unfolding whole_units
  whole_mapped [] = refl
  whole_mapped (u ∷ units) = ap (unless_partial (kind_map f u.kind) (unit_map f u)) (whole_mapped units) ∙ by u.kind where
    by : (k : Kind P) → unless_partial (kind_map f k) (unit_map f u) (map (unit_map f) (whole_units units)) ≡ map (unit_map f) (unless_partial k u (whole_units units))
    by Compile = refl
    by (OfType s t) = refl
    by Partial = refl

  some_mapped : (all some : List (DwUnit P)) → map (source_unit other (map (unit_map f) all)) (map (unit_map f) some) ≡ map (unit_map f) (map (source_unit same all) some)
  some_mapped all [] = refl
  some_mapped all (u ∷ some) = (λ i. unit_mapped all u i ∷ some_mapped all some i)

  pub units_mapped : (w : WithCommon P) → source_units other (renamed f w) ≡ map (unit_map f) (source_units same w)
  units_mapped w =
      (λ i. map (source_unit other (sym (map-append (unit_map f) w.own w.common) i)) (whole_mapped w.own i))
      ∙ some_mapped (units_with_common w) (whole_units w.own)

  -- ---- their places

  keys_mapped : (units : List (DwUnit P)) → map (λ (u : DwUnit Q). entry_keys u) (map (unit_map f) units) ≡ map (λ (places : List P). map f places) (map (λ (u : DwUnit P). entry_keys u) units)
  keys_mapped [] = refl
  keys_mapped (u ∷ units) = (λ i. (f u.root.at ∷ keys_map f u.below i) ∷ keys_mapped units i)

  pub places_mapped : (w : WithCommon P) → source_places other (renamed f w) ≡ map (λ (places : List P). map f places) (source_places same w)
  places_mapped w = ap (λ (us : List (DwUnit Q)). map (λ (u : DwUnit Q). entry_keys u) us) (units_mapped w) ∙ keys_mapped (source_units same w)

  -- ---- which copy is named

  has_mapped : (p : P) (ks : List P) → has_key other (f p) (map f ks) ≡ has_key same p ks
  unfolding has_key
  has_mapped p [] = refl
  has_mapped p (k ∷ ks) = (λ i. elim (alike k p i) as (λ _. Bool) [ true ↦ true | false ↦ has_mapped p ks i ])

  abbrev Lists : List (List P) → List (List Q)
  Lists places = map (λ (list : List P). map f list) places

  got_mapped : (places : List (List P)) (n : ℕ) → get_or (map (λ (list : List P). map f list) places) n [] ≡ map f (get_or places n [])
  got_mapped [] n = refl
  got_mapped (list ∷ places) zero = refl
  got_mapped (list ∷ places) (suc n) = got_mapped places n

  first_mapped : (n : ℕ) (places : List (List P)) (p : P) → first_with other n (map (λ (list : List P). map f list) places) (f p) ≡ first_with same n places p
  unfolding first_with
  first_mapped n [] p = refl
  first_mapped n (list ∷ places) p = (λ i. if has_mapped p list i then Some n else first_mapped (suc n) places p i)

  for_mapped : (places : List (List P)) (n : ℕ) (p : P) → unit_for other (map (λ (list : List P). map f list) places) n (f p) ≡ unit_for same places n p
  unfolding unit_for
  for_mapped places n p =
      (λ i. if (ap (has_key other (f p)) (got_mapped places n) ∙ has_mapped p (get_or places n [])) i then Some n else first_mapped 0 places p i)

  pub copy_mapped : (places : List (List P)) (n : ℕ) (p : P) → copy_for other (map (λ (list : List P). map f list) places) n (f p) ≡ copy_map f (copy_for same places n p)
  copy_mapped places n p = ap (λ (o : Option ℕ). copy (unwrap_or o n) (f p)) (for_mapped places n p)
