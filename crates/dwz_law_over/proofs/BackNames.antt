-- From places back to names: where each name has one place, units at places are shown by these names.
use Rattle.std.proofs.Common.{◌≡◌, ◌&&◌, ◌==◌, Bool, true, false, List, [], ◌∷◌, ◌++◌, map, refl, sym, ap, subst, ◌∙◌, inl, inr, eqb-true, eq-eqb}
use Rattle.std.proofs.lemmas.Bool.{and_from, and_parts}
use Rattle.std.proofs.lemmas.List.{map-append}
use Rattle.dwz_def_reading.specs.Documents.{Compile, DwUnit, Entries, Kind, Node, OfType, Partial, kind_map, unit_map}
use Rattle.dwz_def_reading.specs.Lists.{In}
use Rattle.dwz_def_reading.specs.Places.{Place}
use Rattle.dwz_def_reading.specs.Trees.{End, Entry}
use Rattle.dwz_def_reading.proofs.ListFacts.{in_map}
use Rattle.dwz_def_reading.proofs.Members.{in_map_from}
use Rattle.dwz_def_tops.specs.Seen.{Closed, IsShown, Named, Seen, all_seen, named_map, named_value, seen_map}
use Rattle.dwz_def_tops.specs.Shown.{AreShown, HaveMains, OnePlace, UnitsShown, keys, units_keys}
use Rattle.dwz_def_tops.specs.Spots.{EntryName, no_name}
use Rattle.dwz_def_tops.proofs.ShownLemmas.{all_shown, entry_key, map_shown, shown_from, shown_then}
use Rattle.dwz_def_over.proofs.PlacesOver.{some_as}
use Rattle.dwz_law_over.proofs.CopyImports.{KnownIn}
use Rattle.dwz_law_over.proofs.CopyShown.{type_was}

abbrev same_place : Place → Place → Bool
same_place p q = p.file == q.file && p.at == q.at

place_self : (p : Place) → same_place p p ≡ true
place_self p = and_from (p.file == p.file) (p.at == p.at) (eq-eqb p.file p.file refl) (eq-eqb p.at p.at refl)

place_true : (p q : Place) → same_place p q ≡ true → p ≡ q
place_true p q e =
    let both = and_parts (p.file == q.file) (p.at == q.at) e in
    let f = eqb-true p.file q.file both.0 in
    let a = eqb-true p.at q.at both.1 in
    λ i. record { file = f i; at = a i }

-- the first of these names that has the place
unfoldable pub back_in : (EntryName → Place) → List EntryName → Place → EntryName
back_in g [] p = no_name
back_in g (s ∷ some) p = elim (same_place (g s) p) as (λ _. EntryName) [ true ↦ s | false ↦ back_in g some p ]

found_in : (g : EntryName → Place) (some : List EntryName) → ((s t : EntryName) → In s some → In t some → g s ≡ g t → s ≡ t) → (s : EntryName) → In s some → back_in g some (g s) ≡ s
unfolding back_in
found_in g [] one s is = absurd is
found_in g (t ∷ some) one s is = by (λ later. found_in g some (λ x y a b. one x y (inr a) (inr b)) s later) is (same_place (g t) (g s)) refl where
  by : (In s some → back_in g some (g s) ≡ s) → In s (t ∷ some) → (b : Bool) → same_place (g t) (g s) ≡ b → (elim b as (λ _. EntryName) [ true ↦ t | false ↦ back_in g some (g s) ]) ≡ s
  by more here true e = one t s (inl refl) here (place_true (g t) (g s) e)
  by more (inl here) false e = absurd (let z : true ≡ false = sym (place_self (g s)) ∙ ap (λ (w : EntryName). same_place (g w) (g s)) (sym here) ∙ e in cc)
  by more (inr later) false e = more later

-- ---- what is shown as it is, is so from either side

module _ {K : Type 0} where
  refs_same : (refs : List K) → map (λ s. s) refs ≡ refs
  refs_same [] = refl
  refs_same (s ∷ refs) = ap (λ (w : List K). s ∷ w) (refs_same refs)

  named_same : (attrs : List (Named K)) → map (named_map (λ s. s)) attrs ≡ attrs
  named_same [] = refl
  named_same (a ∷ attrs) =
      ap (λ (w : List K). record { name = a.name; value = record { plain = a.value.plain; refs = w; address = a.value.address } } ∷ map (named_map (λ s. s)) attrs) (refs_same a.value.refs)
      ∙ ap (λ (w : List (Named K)). a ∷ w) (named_same attrs)

  kind_same : (k : Kind K) → kind_map (λ s. s) k ≡ k
  kind_same Compile = refl
  kind_same (OfType s m) = refl
  kind_same Partial = refl

  node_turned : (e d : Node K) → IsShown (λ s. s) e d → IsShown (λ s. s) d e
  node_turned e d h = record {
    at = sym h.at;
    tag = sym h.tag;
    attrs = sym (h.attrs ∙ named_same (map named_value e.attrs)) ∙ sym (named_same (map named_value d.attrs));
  }

  entries_turned : (f h : Entries K) → AreShown (λ s. s) f h → AreShown (λ s. s) h f
  entries_turned End End s = tt
  entries_turned (Entry e f k) (Entry d h l) s = (node_turned e d s.0, entries_turned f h s.1, entries_turned k l s.2)
  entries_turned End (Entry d h l) s = absurd s
  entries_turned (Entry e f k) End s = absurd s

  units_turned : (us vs : List (DwUnit K)) → UnitsShown (λ s. s) us vs → UnitsShown (λ s. s) vs us
  units_turned [] [] s = tt
  units_turned (u ∷ us) (v ∷ vs) s = (
    record {
      kind = sym (s.0.kind ∙ kind_same u.kind) ∙ sym (kind_same v.kind);
      root = node_turned u.root v.root s.0.root;
      below = entries_turned u.below v.below s.0.below;
    },
    units_turned us vs s.1,
  )
  units_turned [] (v ∷ vs) s = absurd s
  units_turned (u ∷ us) [] s = absurd s

-- ---- units at one place each

module _ (g : EntryName → Place) (outs : List (DwUnit EntryName)) (one : OnePlace g outs) (closed : Closed outs) (mains : HaveMains outs) where
  -- the name at a place
  abbrev pub back : Place → EntryName
  back = back_in g (units_keys outs)

  pub back_name : (s : EntryName) → In s (units_keys outs) → back_in g (units_keys outs) (g s) ≡ s
  back_name s is = found_in g (units_keys outs) one s is

  -- some of these units are shown by the names at their places
  pub back_shown : (some : List (DwUnit EntryName)) (others : List (DwUnit Place)) → ((u : DwUnit EntryName) → In u some → In u outs) → UnitsShown g some others
      → UnitsShown (back_in g (units_keys outs)) others some
  back_shown some others there shown =
      let named = map (unit_map back) others in
      let both = shown_then g back some others named shown (map_shown back others) in
      let as_named = some_as (λ s. back (g s)) (λ s. s) outs (λ s is. back_name s is) closed mains some named there both in
      shown_then back (λ s. s) others named some (map_shown back others) (units_turned some named as_named)

  -- a place that is known is that of its name
  pub known_back : (others : List (DwUnit Place)) → UnitsShown g outs others → (q : Place) → KnownIn others q
      → (s : EntryName) × KnownIn outs s × (back_in g (units_keys outs) q ≡ s) × (g s ≡ q)
  known_back others shown q (d, is, at) =
      let o = in_map_from (seen_map g) d (all_seen outs) (subst (In d) (all_shown g outs others shown) is) in
      let name = o.source.at in
      let there : g name ≡ q = ap (λ (w : Seen Place). w.at) o.is ∙ at in
      (name, (o.source, o.there, refl), ap back (sym there) ∙ back_name name (entry_key outs o.source o.there), there)

-- ---- types of type units

keys_shown : {P Q : Type 0} (g : P → Q) (f : Entries P) (h : Entries Q) → AreShown g f h → keys h ≡ map g (keys f)
unfolding keys
keys_shown g End End s = refl
keys_shown {P} {Q} g (Entry e f k) (Entry d h l) s =
    ap (λ (w : Q). w ∷ (keys h ++ keys l)) s.0.at
    ∙ ap (λ (w : List Q). g e.at ∷ (w ++ keys l)) (keys_shown g f h s.1)
    ∙ ap (λ (w : List Q). g e.at ∷ (map g (keys f) ++ w)) (keys_shown g k l s.2)
    ∙ ap (λ (w : List Q). g e.at ∷ w) (sym (map-append g (keys f) (keys k)))
keys_shown g End (Entry d h l) s = absurd s
keys_shown g (Entry e f k) End s = absurd s

pub mains_shown : {P Q : Type 0} (g : P → Q) (units : List (DwUnit P)) (others : List (DwUnit Q)) → UnitsShown g units others → HaveMains units → HaveMains others
mains_shown {P} {Q} g units others shown mains v is signature main kind =
    let o = shown_from g units others shown v is in
    let k = type_was g o.unit.kind signature main (sym o.shown.kind ∙ kind) in
    elim (mains o.unit o.there signature k.0 k.1) [
      | inl r ↦ inl (o.shown.root.at ∙ ap g r ∙ k.2)
      | inr b ↦ inr (subst (λ (w : Q). In w (keys v.below)) k.2 (subst (In (g k.0)) (sym (keys_shown g o.unit.below v.below o.shown.below)) (in_map g k.0 (keys o.unit.below) b)))
    ]
