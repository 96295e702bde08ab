-- Rows of units are rows of the units with other places.
use Rattle.std.proofs.Common.{◌≡◌, ◌↔◌, ℕ, ◌+◌, List, [], ◌∷◌, length, map, sym, ap, subst, ◌∙◌, inl, inr}
use Rattle.std.proofs.lemmas.List.{length-map, map-append}
use Rattle.dwz_def_reading.specs.Documents.{Compile, DwUnit, Kind, Node, OfType, Partial, kind_map, node_map, unit_map}
use Rattle.dwz_def_tops.specs.Lists.{Nth}
use Rattle.dwz_def_cross.specs.CrossSame.{EachTwo}
use Rattle.dwz_def_cross.specs.Tops.{CrossTop, IsExpanded, type_top, units_with_common, unless_partial, whole_units}
use Rattle.dwz_def_check.specs.CrossLabels.{cross_top_map}
use Rattle.dwz_def_check.specs.CrossNames.{CrossName, IsNthTop, Side, cross_tops}
use Rattle.dwz_def_check.specs.CrossNodes.{IsNthLone, lone_entries, new_side, old_side, tops_before, tops_together}
use Rattle.dwz_def_check.specs.CrossRows.{AreJust, Classed, CompileRow, HasSpaceClass, HasTopClass, IsCrossRow, IsKindRow, TypeRow, UnitRow}
use Rattle.dwz_check_index.proofs.MapLemmas.{mapped}
use Rattle.dwz_law_check.specs.MappedRows.{MappedFilesLaw, MappedRowLaw, TellsApart, files_map, side_map}
use Rattle.dwz_law_check.proofs.Apart.{node_apart, nth_back, nth_to, top_apart}
use Rattle.dwz_law_check.proofs.MappedTops.{along_back, along_to, expanded_back, expanded_to, space_back, space_to}

just_same : {X : Type 0} (Is Are : X → Type 0) (xs : List X) → ((x : X) → Is x ↔ Are x) → AreJust Is xs ↔ AreJust Are xs
just_same Is Are xs same = (
  λ h x. ((λ there. (same x).0 ((h x).0 there)), λ is. (h x).1 ((same x).1 is)),
  λ h x. ((λ there. (same x).1 ((h x).0 there)), λ is. (h x).1 ((same x).0 is)),
)

module _ {P A : Type 0} (f : P → A) (apart : TellsApart f) (s : Side P) (name : A → CrossName) (classes : List ℕ) where
  -- ---- numbers

  lone_to : (n : ℕ) (d : Node P) → IsNthLone s n d → IsNthLone (side_map f name s) n (node_map f d)
  lone_to n d h =
      subst (λ (w : List (Node A)). Nth s.lone w n (node_map f d)) (sym ((mapped f s.files.own).lone)) (nth_to (node_map f) s.lone (lone_entries s.files.own) n d h)

  lone_back : (n : ℕ) (d : Node P) → IsNthLone (side_map f name s) n (node_map f d) → IsNthLone s n d
  lone_back n d h =
      let o = nth_back (node_map f) s.lone (lone_entries s.files.own) n (node_map f d) (subst (λ (w : List (Node A)). Nth s.lone w n (node_map f d)) ((mapped f s.files.own).lone) h) in
      subst (λ (w : Node P). IsNthLone s n w) (node_apart f apart o.0 d o.2) o.1

  nth_top_to : (units : List (DwUnit P)) (k n : ℕ) (a : CrossTop P) → Nth k (cross_tops units) n a → Nth k (cross_tops (map (unit_map f) units)) n (cross_top_map f a)
  nth_top_to units k n a h =
      subst (λ (w : List (CrossTop A)). Nth k w n (cross_top_map f a)) (sym ((mapped f units).tops)) (nth_to (cross_top_map f) k (cross_tops units) n a h)

  nth_top_back : (units : List (DwUnit P)) (k n : ℕ) (a : CrossTop P) → Nth k (cross_tops (map (unit_map f) units)) n (cross_top_map f a) → Nth k (cross_tops units) n a
  nth_top_back units k n a h =
      let o = nth_back (cross_top_map f) k (cross_tops units) n (cross_top_map f a) (subst (λ (w : List (CrossTop A)). Nth k w n (cross_top_map f a)) ((mapped f units).tops) h) in
      subst (λ (w : CrossTop P). Nth k (cross_tops units) n w) (top_apart f apart o.0 a o.2) o.1

  top_to : (n : ℕ) (a : CrossTop P) → IsNthTop s n a → IsNthTop (side_map f name s) n (cross_top_map f a)
  top_to n a (inl h) = inl (nth_top_to s.files.own s.own n a h)
  top_to n a (inr h) = inr (nth_top_to s.files.common s.common n a h)

  top_back : (n : ℕ) (a : CrossTop P) → IsNthTop (side_map f name s) n (cross_top_map f a) → IsNthTop s n a
  top_back n a (inl h) = inl (nth_top_back s.files.own s.own n a h)
  top_back n a (inr h) = inr (nth_top_back s.files.common s.common n a h)

  -- ---- of one unit

  together : units_with_common (files_map f s.files) ≡ map (unit_map f) (units_with_common s.files)
  together = sym (map-append (unit_map f) s.files.own s.files.common)

  spaces_same : (u : DwUnit P) (x : Classed) → HasSpaceClass s classes u x ↔ HasSpaceClass (side_map f name s) classes (unit_map f u) x
  spaces_same u x = (
    λ h. (node_map f h.0, h.1, space_to f x.0 h.0 u.below h.2, lone_to h.1 h.0 h.3, h.4),
    λ h. let o = space_back f x.0 h.0 u.below h.2 in
        (o.0, h.1, o.1, lone_back h.1 o.0 (subst (λ (w : Node A). IsNthLone (side_map f name s) h.1 w) (sym o.2) h.3), h.4),
  )

  tops_same : (u : DwUnit P) (x : Classed) → HasTopClass s classes u x ↔ HasTopClass (side_map f name s) classes (unit_map f u) x
  tops_same u x = (
    λ h. (
      cross_top_map f h.0,
      h.1,
      subst (λ (w : List (DwUnit A)). IsExpanded w (unit_map f u) (cross_top_map f h.0)) (sym together) (expanded_to f apart (units_with_common s.files) u h.0 h.2),
      h.3,
      top_to h.1 h.0 h.4,
      h.5,
    ),
    λ h. let o = expanded_back f apart (units_with_common s.files) u h.0 (subst (λ (w : List (DwUnit A)). IsExpanded w (unit_map f u) h.0) together h.2) in (
      o.0,
      h.1,
      o.1,
      (λ j. (o.2 j).names) ∙ h.3,
      top_back h.1 o.0 (subst (λ (w : CrossTop A). IsNthTop (side_map f name s) h.1 w) (sym o.2) h.4),
      h.5,
    ),
  )

  kind_same : (u : DwUnit P) (k : Kind P) (row : UnitRow) → IsKindRow s classes u k row ↔ IsKindRow (side_map f name s) classes (unit_map f u) (kind_map f k) row
  kind_same u Compile (CompileRow root spaces tops) =
      let inside = just_same (HasSpaceClass s classes u) (HasSpaceClass (side_map f name s) classes (unit_map f u)) spaces (spaces_same u) in
      let below = just_same (HasTopClass s classes u) (HasTopClass (side_map f name s) classes (unit_map f u)) tops (tops_same u) in (
        λ h. ((h.0.0, lone_to h.0.0 u.root h.0.1, h.0.2), inside.0 h.1, below.0 h.2),
        λ h. ((h.0.0, lone_back h.0.0 u.root h.0.1, h.0.2), inside.1 h.1, below.1 h.2),
      )
  kind_same u (OfType signature main) (TypeRow number path top) = (
    λ h. (h.0, along_to f path u.root u.below main h.1, (h.2.0, top_to h.2.0 (type_top u) h.2.1, h.2.2)),
    λ h. (h.0, along_back f apart path u.root u.below main h.1, (h.2.0, top_back h.2.0 (type_top u) h.2.1, h.2.2)),
  )
  kind_same u Compile (TypeRow number path top) = ((λ h. h), λ h. h)
  kind_same u (OfType signature main) (CompileRow root spaces tops) = ((λ h. h), λ h. h)
  kind_same u Partial row = ((λ h. h), λ h. h)

  -- ---- of all units

  each_by : (u : DwUnit P) (k : Kind P) (before : List (DwUnit P)) (after : List (DwUnit A))
      → ((rows : List UnitRow) → EachTwo (IsCrossRow s classes) before rows → EachTwo (IsCrossRow (side_map f name s) classes) after rows)
      → (rows : List UnitRow) → EachTwo (IsCrossRow s classes) (unless_partial k u before) rows
      → EachTwo (IsCrossRow (side_map f name s) classes) (unless_partial (kind_map f k) (unit_map f u) after) rows
  each_by u Partial before after next rows h = next rows h
  each_by u Compile before after next [] h = absurd h
  each_by u Compile before after next (row ∷ rows) h = ((kind_same u u.kind row).0 h.0, next rows h.1)
  each_by u (OfType signature main) before after next [] h = absurd h
  each_by u (OfType signature main) before after next (row ∷ rows) h = ((kind_same u u.kind row).0 h.0, next rows h.1)

  pub each_to : (units : List (DwUnit P)) (rows : List UnitRow) → EachTwo (IsCrossRow s classes) (whole_units units) rows
      → EachTwo (IsCrossRow (side_map f name s) classes) (whole_units (map (unit_map f) units)) rows
  unfolding whole_units
  each_to [] [] h = tt
  each_to [] (row ∷ rows) h = absurd h
  each_to (u ∷ units) rows h = each_by u u.kind (whole_units units) (whole_units (map (unit_map f) units)) (λ rest. each_to units rest) rows h

pub row_mapped : {P A : Type 0} → MappedRowLaw P A
row_mapped f apart s name classes u row = kind_same f apart s name classes u u.kind row

-- ---- two files

tops_many : {P A : Type 0} (f : P → A) (units : List (DwUnit P)) → length (cross_tops (map (unit_map f) units)) ≡ length (cross_tops units)
tops_many {P} {A} f units = ap (λ (w : List (CrossTop A)). length w) ((mapped f units).tops) ∙ length-map (cross_tops units) (cross_top_map f)

lone_many : {P A : Type 0} (f : P → A) (units : List (DwUnit P)) → length (lone_entries (map (unit_map f) units)) ≡ length (lone_entries units)
lone_many {P} {A} f units = ap (λ (w : List (Node A)). length w) ((mapped f units).lone) ∙ length-map (lone_entries units) (node_map f)

pub files_mapped : {P Q A B : Type 0} → MappedFilesLaw P Q A B
files_mapped {P} {Q} {A} {B} f g apart other_apart v w name other first second =
    let old = tops_many f v.own in
    let new = tops_many g w.own in
    let common = tops_many f v.common in
    let old_lone = lone_many f v.own in
    let new_lone = lone_many g w.own in
    let before : tops_before (files_map f v) (files_map g w) ≡ tops_before v w = λ j. old j + new j in
    let both : tops_together (files_map f v) (files_map g w) ≡ tops_together v w = λ j. before j + common j in
    let behind : tops_together (files_map f v) (files_map g w) + length (lone_entries (files_map f v).own) ≡ tops_together v w + length (lone_entries v.own) = λ j. both j + old_lone j in
    let s : side_map f first (old_side v w name) ≡ old_side (files_map f v) (files_map g w) first =
    λ j. record { files = files_map f v; own = 0; common = sym before j; lone = sym both j; name = first } in
    let t : side_map g second (new_side v w other) ≡ new_side (files_map f v) (files_map g w) second =
    λ j. record { files = files_map g w; own = sym old j; common = sym before j; lone = sym behind j; name = second } in (
      (λ j. behind j + new_lone j),
      λ classes rows others h. record {
        old = subst (λ (x : Side A). EachTwo (IsCrossRow x classes) (whole_units (map (unit_map f) v.own)) rows) s (each_to f apart (old_side v w name) first classes v.own rows h.old);
        new = subst (λ (x : Side B). EachTwo (IsCrossRow x classes) (whole_units (map (unit_map g) w.own)) others) t (each_to g other_apart (new_side v w other) second classes w.own others h.new);
      },
    )
