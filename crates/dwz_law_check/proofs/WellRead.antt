-- Files are well read where they are with other places that are told apart.
use Rattle.std.proofs.Common.{◌≡◌, List, [], ◌∷◌, ◌++◌, map, inl, inr, refl, sym, ap, subst, ◌∙◌}
use Rattle.std.proofs.lemmas.List.{map-append}
use Rattle.dwz_def_reading.specs.Lists.{In, NoneTwice}
use Rattle.dwz_def_reading.proofs.ListFacts.{in_cases, in_map}
use Rattle.dwz_def_reading.proofs.Members.{in_map_from}
use Rattle.dwz_def_reading.specs.Documents.{Compile, DwUnit, Kind, OfType, Partial, kind_map, unit_map}
use Rattle.dwz_def_tops.specs.Seen.{Closed, IsPartial, Seen, all_seen, named_map, see, seen, seen_below, seen_map, seen_roots}
use Rattle.dwz_def_tops.specs.Shown.{HaveMains, keys, unit_keys, units_keys}
use Rattle.dwz_def_tops.proofs.MainLemmas.{keys_map}
use Rattle.dwz_def_tops.proofs.SeenLemmas.{entry_seen, root_from, root_seen, see_map, seen_entries, seen_from}
use Rattle.dwz_def_cross.specs.Tops.{WithCommon, units_with_common}
use Rattle.dwz_def_check.specs.CrossNames.{IsWellRead}
use Rattle.dwz_law_check.specs.MappedRows.{TellsApart, files_map}

none_back : {X Y : Type 0} (f : X → Y) (xs : List X) → NoneTwice (map f xs) → NoneTwice xs
none_back f [] h = tt
none_back f (x ∷ xs) h = ((λ is. h.0 (in_map f x xs is)), none_back f xs h.1)

module _ {P A : Type 0} (f : P → A) (apart : TellsApart f) where
  keys_mapped : (units : List (DwUnit P)) → units_keys (map (unit_map f) units) ≡ map f (units_keys units)
  unfolding units_keys unit_keys
  keys_mapped [] = refl
  keys_mapped (u ∷ units) =
      ap (λ (w : List A). (f u.at ∷ f u.root.at ∷ w) ++ units_keys (map (unit_map f) units)) (keys_map f u.below)
      ∙ ap (λ (w : List A). map f (unit_keys u) ++ w) (keys_mapped units)
      ∙ sym (map-append f (unit_keys u) (units_keys units))

  -- ---- entries

  seen_to : (units : List (DwUnit P)) (e : Seen P) → In e (all_seen units) → In (seen_map f e) (all_seen (map (unit_map f) units))
  seen_to units e is = elim (in_cases e (seen_roots units) (seen_below units) is) [
    | inl x ↦ (let o = root_from units e x in subst (λ (w : Seen A). In w (all_seen (map (unit_map f) units))) (see_map f o.unit.root o.unit.below ∙ ap (seen_map f) o.is)
        (root_seen (map (unit_map f) units) (unit_map f o.unit) (in_map (unit_map f) o.unit units o.there)))
    | inr y ↦ (let o = seen_from units e y in entry_seen (map (unit_map f) units) (unit_map f o.unit) (seen_map f e) (in_map (unit_map f) o.unit units o.there)
        (subst (λ (w : List (Seen A)). In (seen_map f e) w) (sym (seen_entries f o.unit.below)) (in_map (seen_map f) e (seen o.unit.below) o.is)))
  ]

  seen_back : (units : List (DwUnit P)) (d : Seen A) → In d (all_seen (map (unit_map f) units)) → (e : Seen P) × In e (all_seen units) × (seen_map f e ≡ d)
  seen_back units d is = elim (in_cases d (seen_roots (map (unit_map f) units)) (seen_below (map (unit_map f) units)) is) [
    | inl x ↦ (let o = root_from (map (unit_map f) units) d x in let m = in_map_from (unit_map f) o.unit units o.there in (
      see m.source.root m.source.below,
      root_seen units m.source m.there,
      sym (see_map f m.source.root m.source.below) ∙ ap (λ (w : DwUnit A). see w.root w.below) m.is ∙ o.is,
    ))
    | inr y ↦ (let o = seen_from (map (unit_map f) units) d y in let m = in_map_from (unit_map f) o.unit units o.there in
        let there : In d (map (seen_map f) (seen m.source.below)) = subst (λ (w : List (Seen A)). In d w) (seen_entries f m.source.below) (subst (λ (w : DwUnit A). In d (seen w.below)) (sym m.is) o.is) in
        let e = in_map_from (seen_map f) d (seen m.source.below) there in
        (e.source, entry_seen units m.source e.source m.there e.there, e.is))
  ]

  closed_back : (units : List (DwUnit P)) → Closed (map (unit_map f) units) → Closed units
  closed_back units h e a p is attr named =
      let d = h (seen_map f e) (named_map f a) (f p) (seen_to units e is) (in_map (named_map f) a e.attrs attr) (in_map f p a.value.refs named) in
      let o = seen_back units d.0 d.1 in
      (o.0, o.1, apart o.0.at p (ap (λ (w : Seen A). w.at) o.2 ∙ d.2))

  -- ---- units

  mains_back : (units : List (DwUnit P)) → HaveMains (map (unit_map f) units) → HaveMains units
  mains_back units h u is signature main kind =
      let there : In (f main) (map f (u.root.at ∷ keys u.below)) =
      subst (λ (w : List A). In (f main) (f u.root.at ∷ w)) (keys_map f u.below) (h (unit_map f u) (in_map (unit_map f) u units is) signature (f main) (ap (kind_map f) kind)) in
      let o = in_map_from f (f main) (u.root.at ∷ keys u.below) there in
      subst (λ (w : P). In w (u.root.at ∷ keys u.below)) (apart o.source main o.is) o.there

  partial_back : (k : Kind P) → IsPartial (kind_map f k) → IsPartial k
  partial_back Compile h = h
  partial_back (OfType signature main) h = h
  partial_back Partial h = h

  pub well_read_back : (v : WithCommon P) → IsWellRead (files_map f v) → IsWellRead v
  well_read_back v h =
      let together = map-append (unit_map f) v.own v.common in
      record {
        apart = none_back f (units_keys (units_with_common v))
            (subst NoneTwice (ap units_keys (sym together) ∙ keys_mapped (units_with_common v)) h.apart);
        closed = closed_back (units_with_common v) (subst (λ (w : List (DwUnit A)). Closed w) (sym together) h.closed);
        mains = mains_back v.own h.mains;
        partial = λ u is. partial_back u.kind (h.partial (unit_map f u) (in_map (unit_map f) u v.common is));
      }
