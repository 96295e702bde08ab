-- Forms and new numbers change nothing of what is seen of units.
use Rattle.std.proofs.Common.{◌≡◌, ℕ, pos, Bool, true, false, List, [], ◌∷◌, ◌++◌, cond, eqb, map, refl, ap, ◌∙◌}
use Rattle.dwz_def_reading.specs.Spelling.{reach}
use Rattle.dwz_def_reading.specs.Trees.{End, Entry}
use Rattle.dwz_def_reading.specs.Documents.{Attr, DwUnit, Entries, Kind, Node}
use Rattle.dwz_def_tops.specs.Seen.{Named, Seen, all_seen, heads, named_value, see, seen, seen_below, seen_roots}
use Rattle.dwz_def_tops.specs.Shown.{units_keys}
use Rattle.dwz_def_encoding.specs.Placing.{Forms, UnitForms, fit, fit_attr, fit_node, fit_unit, fit_units, unit_forms, with_form, with_keys}
use Rattle.dwz_def_encoding.specs.Pruned.{entries_renumbered, renumbered_attr, renumbered_node, renumbered_unit, renumbered_units}

-- a change of entries that keeps the names and values of attributes
module _ {K : Type 0} where
  -- entries with other attributes, of which the same is seen
  seen_entry : (e d : Node K) (f g f' g' : Entries K) → see e f ≡ see d f' → seen f ≡ seen f' → seen g ≡ seen g' → seen (Entry e f g) ≡ seen (Entry d f' g')
  unfolding seen
  seen_entry e d f g f' g' a b c = ap (λ (s : Seen K). s ∷ (seen f ++ seen g)) a ∙ ap (λ (w : List (Seen K)). see d f' ∷ (w ++ seen g)) b ∙ ap (λ (w : List (Seen K)). see d f' ∷ (seen f' ++ w)) c

  see_same : (e d : Node K) (f g : Entries K) → e.at ≡ d.at → e.tag ≡ d.tag → map named_value e.attrs ≡ map named_value d.attrs → heads f ≡ heads g → see e f ≡ see d g
  see_same e d f g at tag attrs inner =
      ap (λ (k : K). record { at = k; tag = e.tag; attrs = map named_value e.attrs; children = heads f }) at
      ∙ ap (λ (t : ℕ). record { at = d.at; tag = t; attrs = map named_value e.attrs; children = heads f }) tag
      ∙ ap (λ (w : List (Named K)). record { at = d.at; tag = d.tag; attrs = w; children = heads f }) attrs
      ∙ ap (λ (w : List K). record { at = d.at; tag = d.tag; attrs = map named_value d.attrs; children = w }) inner

  -- ---- forms

  module _ (x : UnitForms K) where
    attrs_fit : (attrs : List (Attr K)) → map named_value (map (fit_attr x) attrs) ≡ map named_value attrs
    attrs_fit [] = refl
    attrs_fit (a ∷ attrs) = ap (λ (w : List (Named K)). named_value a ∷ w) (attrs_fit attrs)

    heads_fit : (g : Entries K) → heads (fit x g) ≡ heads g
    unfolding heads fit
    heads_fit End = refl
    heads_fit (Entry e children next) = ap (λ (w : List K). e.at ∷ w) (heads_fit next)

    see_fit : (e : Node K) (g : Entries K) → see (fit_node x e) (fit x g) ≡ see e g
    see_fit e g = see_same (fit_node x e) e (fit x g) g refl refl (attrs_fit e.attrs) (heads_fit g)

    seen_fit : (g : Entries K) → seen (fit x g) ≡ seen g
    unfolding fit
    seen_fit End = refl
    seen_fit (Entry e children next) = seen_entry (fit_node x e) e (fit x children) (fit x next) children next (see_fit e children) (seen_fit children) (seen_fit next)

  -- ---- numbers of texts

  module _ (number : ℕ → ℕ) where
    attr_new : (a : Attr K) → named_value (renumbered_attr number a) ≡ named_value a
    attr_new a = by (eqb a.form 0x0e) where
      by : (b : Bool) → named_value (cond b (with_form a (record { form = 0x0e; raw = pos (number (reach a.raw)) })) a) ≡ named_value a
      by true = refl
      by false = refl

    attrs_new : (attrs : List (Attr K)) → map named_value (map (renumbered_attr number) attrs) ≡ map named_value attrs
    attrs_new [] = refl
    attrs_new (a ∷ attrs) = ap (λ (b : Named K). b ∷ map named_value (map (renumbered_attr number) attrs)) (attr_new a) ∙ ap (λ (w : List (Named K)). named_value a ∷ w) (attrs_new attrs)

    heads_new : (g : Entries K) → heads (entries_renumbered number g) ≡ heads g
    unfolding heads entries_renumbered
    heads_new End = refl
    heads_new (Entry e children next) = ap (λ (w : List K). e.at ∷ w) (heads_new next)

    see_new : (e : Node K) (g : Entries K) → see (renumbered_node number e) (entries_renumbered number g) ≡ see e g
    see_new e g = see_same (renumbered_node number e) e (entries_renumbered number g) g refl refl (attrs_new e.attrs) (heads_new g)

    seen_new : (g : Entries K) → seen (entries_renumbered number g) ≡ seen g
    unfolding entries_renumbered
    seen_new End = refl
    seen_new (Entry e children next) =
        seen_entry (renumbered_node number e) e (entries_renumbered number children) (entries_renumbered number next) children next (see_new e children) (seen_new children) (seen_new next)

  -- ---- units

  -- a change of units by which the same is seen of each, and the kind stays
  module _ (change : DwUnit K → DwUnit K) (root : (u : DwUnit K) → see (change u).root (change u).below ≡ see u.root u.below) (below : (u : DwUnit K) → seen (change u).below ≡ seen u.below) where
    roots_changed : (units : List (DwUnit K)) → seen_roots (map change units) ≡ seen_roots units
    unfolding seen_roots
    roots_changed [] = refl
    roots_changed (u ∷ units) = ap (λ (s : Seen K). s ∷ seen_roots (map change units)) (root u) ∙ ap (λ (w : List (Seen K)). see u.root u.below ∷ w) (roots_changed units)

    below_changed : (units : List (DwUnit K)) → seen_below (map change units) ≡ seen_below units
    unfolding seen_below
    below_changed [] = refl
    below_changed (u ∷ units) = ap (λ (w : List (Seen K)). w ++ seen_below (map change units)) (below u) ∙ ap (λ (w : List (Seen K)). seen u.below ++ w) (below_changed units)

    all_changed : (units : List (DwUnit K)) → all_seen (map change units) ≡ all_seen units
    all_changed units = ap (λ (w : List (Seen K)). w ++ seen_below (map change units)) (roots_changed units) ∙ ap (λ (w : List (Seen K)). seen_roots units ++ w) (below_changed units)

  abbrev kinds : List (DwUnit K) → List (Kind K)
  kinds units = map (λ u. u.kind) units

  kinds_changed : (change : DwUnit K → DwUnit K) → ((u : DwUnit K) → (change u).kind ≡ u.kind) → (units : List (DwUnit K)) → kinds (map change units) ≡ kinds units
  kinds_changed change same [] = refl
  kinds_changed change same (u ∷ units) = ap (λ (k : Kind K). k ∷ kinds (map change units)) (same u) ∙ ap (λ (w : List (Kind K)). u.kind ∷ w) (kinds_changed change same units)

  pub fit_seen : (f : Forms K) (units : List (DwUnit K)) → all_seen (fit_units f units) ≡ all_seen units
  unfolding fit_units
  fit_seen f units =
      let file = with_keys f (units_keys units) in
      all_changed (fit_unit file) (λ u. see_fit (unit_forms file u) u.root u.below) (λ u. seen_fit (unit_forms file u) u.below) units

  pub fit_kinds : (f : Forms K) (units : List (DwUnit K)) → map (λ u. u.kind) (fit_units f units) ≡ map (λ u. u.kind) units
  unfolding fit_units
  fit_kinds f units = kinds_changed (fit_unit (with_keys f (units_keys units))) (λ u. refl) units

  pub new_seen : (number : ℕ → ℕ) (units : List (DwUnit K)) → all_seen (renumbered_units number units) ≡ all_seen units
  unfolding renumbered_units
  new_seen number units = all_changed (renumbered_unit number) (λ u. see_new number u.root u.below) (λ u. seen_new number u.below) units

  pub new_kinds : (number : ℕ → ℕ) (units : List (DwUnit K)) → map (λ u. u.kind) (renumbered_units number units) ≡ map (λ u. u.kind) units
  unfolding renumbered_units
  new_kinds number units = kinds_changed (renumbered_unit number) (λ u. refl) units
