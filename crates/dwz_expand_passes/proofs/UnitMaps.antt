-- The new units along a function of places.
use Rattle.std.proofs.Common.{◌≡◌, ℕ, suc, Bool, true, false, List, [], ◌∷◌, map, Option, refl, sym, ap, ◌∙◌}
use Rattle.dwz_def_cross.specs.Tops.{WithCommon}
use Rattle.dwz_def_encoding.specs.Placing.{Chosen, CommonUnit, NewUnit, OldUnit, UnitRole, with_form}
use Rattle.dwz_def_expand.specs.Chosen.{Choice, chosen_as, chosen_attr, chosen_entries, chosen_node, chosen_unit, chosen_units, copied_constant, copied_entry, copied_file, copied_slot, copied_text}
use Rattle.dwz_def_expand.specs.Source.{Copy, copies, copy_for, expanded, source_places, source_units}
use Rattle.dwz_def_expand.specs.Written.{written}
use Rattle.dwz_def_reading.specs.Classes.{Class, OfCommonEntry, OfConstant, OfInfoEntry, OfTextBySlot, OfTextInLineStr, OfTextInStr, OfUnitEntry, class_of, names_file}
use Rattle.dwz_def_reading.specs.Documents.{Attr, DwUnit, Entries, Node, attr_map, entries_map, node_map, unit_map}
use Rattle.dwz_def_reading.specs.Trees.{End, Entry}
use Rattle.dwz_law_cross.proofs.RenumberLemmas.{units_then}
use Rattle.dwz_expand_passes.proofs.SourceMaps.{copy_mapped, places_mapped, units_mapped}
use Rattle.dwz_expand_passes.specs.Renamed.{SameChoice, copy_map, renamed}

-- ---- forms

module _ {P Q : Type 0} (f : P → Q) (c : Choice P) (d : Choice Q) (alike : SameChoice f c d) where
  abbrev Other : Copy P → Copy Q
  Other k = copy_map f k

  module _ (n : ℕ) (a : Attr (Copy P)) where
    abbrev b : Attr (Copy Q)
    b = attr_map (copy_map f) a

    ref_same : (refs : List (Copy P)) → copied_entry n (map (copy_map f) refs) ≡ copied_entry n refs
    ref_same [] = refl
    ref_same (k ∷ refs) = refl

    text_same : (s : UnitRole) → copied_text s (attr_map (copy_map f) a) ≡ copied_text s a
    text_same OldUnit = refl
    text_same NewUnit = refl
    text_same CommonUnit = refl

    slot_same : (s : UnitRole) (offsets : List ℕ) (base : Option ℕ) → copied_slot s offsets base (attr_map (copy_map f) a) ≡ copied_slot s offsets base a
    slot_same OldUnit offsets base = refl
    slot_same NewUnit offsets base = refl
    slot_same CommonUnit offsets base = refl

    file_same : (s : UnitRole) (paths : _) → copied_file s paths (attr_map (copy_map f) a) ≡ copied_file s paths a
    file_same OldUnit paths = refl
    file_same NewUnit paths = refl
    file_same CommonUnit paths = refl

    constant_same : (t : Bool) (s : UnitRole) (paths : _) → copied_constant t s paths (attr_map (copy_map f) a) ≡ copied_constant t s paths a
    constant_same true s paths = file_same s paths
    constant_same false s paths = refl

    chosen_same : (k : Class) (source : P) → chosen_as k d n (f source) (attr_map (copy_map f) a) ≡ chosen_as k c n source a
    chosen_same OfUnitEntry source = ref_same a.value.refs
    chosen_same OfInfoEntry source = ref_same a.value.refs
    chosen_same OfCommonEntry source = ref_same a.value.refs
    chosen_same OfTextInStr source = ap (λ (s : UnitRole). copied_text s (attr_map (copy_map f) a)) (alike.role source) ∙ text_same (c.role source)
    chosen_same OfTextInLineStr source = ap (λ (s : UnitRole). copied_text s (attr_map (copy_map f) a)) (alike.role source) ∙ text_same (c.role source)
    chosen_same OfTextBySlot source =
        (λ i. copied_slot (alike.role source i) (alike.offsets i) (alike.slots source i) (attr_map (copy_map f) a)) ∙ slot_same (c.role source) c.offsets (c.slots source)
    chosen_same OfConstant source =
        (λ i. copied_constant (names_file a.name) (alike.role source i) (alike.paths n i) (attr_map (copy_map f) a)) ∙ constant_same (names_file a.name) (c.role source) (c.paths n)
    chosen_same _ source = refl

  attr_chosen : (k : Copy P) (a : Attr (Copy P)) → chosen_attr d (copy_map f k) (attr_map (copy_map f) a) ≡ attr_map (copy_map f) (chosen_attr c k a)
  attr_chosen k a = ap (λ (x : Chosen). with_form (attr_map (copy_map f) a) x) (chosen_same k.unit a (class_of a.form) k.source)

  attrs_chosen : (k : Copy P) (attrs : List (Attr (Copy P)))
      → map (chosen_attr d (copy_map f k)) (map (attr_map (copy_map f)) attrs) ≡ map (attr_map (copy_map f)) (map (chosen_attr c k) attrs)
  attrs_chosen k [] = refl
  attrs_chosen k (a ∷ attrs) = (λ i. attr_chosen k a i ∷ attrs_chosen k attrs i)

  node_chosen : (e : Node (Copy P)) → chosen_node d (node_map (copy_map f) e) ≡ node_map (copy_map f) (chosen_node c e)
  node_chosen e = (λ i. record { at = copy_map f e.at; tag = e.tag; attrs = attrs_chosen e.at e.attrs i })

  entries_chosen : (g : Entries (Copy P)) → chosen_entries d (entries_map (copy_map f) g) ≡ entries_map (copy_map f) (chosen_entries c g)
  unfolding chosen_entries entries_map
  entries_chosen End = refl
  entries_chosen (Entry e children next) = (λ i. Entry (node_chosen e i) (entries_chosen children i) (entries_chosen next i))

  unit_chosen : (u : DwUnit (Copy P)) → chosen_unit d (unit_map (copy_map f) u) ≡ unit_map (copy_map f) (chosen_unit c u)
  unit_chosen u = (λ i. record { at = copy_map f u.at; kind = (unit_map (copy_map f) u).kind; root = node_chosen u.root i; below = entries_chosen u.below i })

  pub units_chosen : (units : List (DwUnit (Copy P))) → chosen_units d (map (unit_map (copy_map f)) units) ≡ map (unit_map (copy_map f)) (chosen_units c units)
  units_chosen [] = refl
  units_chosen (u ∷ units) = (λ i. unit_chosen u i ∷ units_chosen units i)

-- ---- copies

module _ {P Q : Type 0} (f : P → Q) (same : P → P → Bool) (other : Q → Q → Bool) (alike : (p q : P) → other (f p) (f q) ≡ same p q) where
  module _ (places : List (List P)) where
    unit_copied : (n : ℕ) (u : DwUnit P)
        → unit_map (copy_for other (map (λ (list : List P). map f list) places) n) (unit_map f u) ≡ unit_map (copy_map f) (unit_map (copy_for same places n) u)
    unit_copied n u =
        let one : (p : P) → copy_for other (map (λ (list : List P). map f list) places) n (f p) ≡ copy_map f (copy_for same places n p) = copy_mapped f same other alike places n in
        let first = units_then f (copy_for other (map (λ (list : List P). map f list) places) n) (λ p. copy_map f (copy_for same places n p)) one (u ∷ []) in
        let second = units_then (copy_for same places n) (copy_map f) (λ p. copy_map f (copy_for same places n p)) (λ p. refl) (u ∷ []) in
        let both : unit_map (copy_for other (map (λ (list : List P). map f list) places) n) (unit_map f u) ∷ [] ≡ unit_map (copy_map f) (unit_map (copy_for same places n) u) ∷ [] =
        first ∙ sym second in
        cc both

    units_copied : (n : ℕ) (units : List (DwUnit P))
        → copies other (map (λ (list : List P). map f list) places) n (map (unit_map f) units) ≡ map (unit_map (copy_map f)) (copies same places n units)
    unfolding copies
    units_copied n [] = refl
    units_copied n (u ∷ units) = (λ i. unit_copied n u i ∷ units_copied (suc n) units i)

  expanded_mapped : (w : WithCommon P) → expanded other (renamed f w) ≡ map (unit_map (copy_map f)) (expanded same w)
  expanded_mapped w =
      (λ i. copies other (places_mapped f same other alike w i) 0 (units_mapped f same other alike w i)) ∙ units_copied (source_places same w) 0 (source_units same w)

  pub written_mapped : (c : Choice P) (d : Choice Q) → SameChoice f c d → (w : WithCommon P) → written other d (renamed f w) ≡ map (unit_map (copy_map f)) (written same c w)
  unfolding written
  written_mapped c d choice w = ap (chosen_units d) (expanded_mapped w) ∙ units_chosen f c d choice (expanded same w)
