-- Each name is of one unit, and stands there once.
use Rattle.std.proofs.Common.{◌≡◌, ℕ, ◌<◌, Bool, true, false, List, [], ◌∷◌, refl, sym, ap, subst, ◌∙◌, inl, inr}
use Rattle.dwz_def_reading.specs.Documents.{Compile, DwUnit, Entries, Kind, Node, OfType, Partial, entries_map, language}
use Rattle.dwz_def_reading.specs.Lists.{Each, In}
use Rattle.dwz_def_reading.specs.Trees.{End}
use Rattle.dwz_def_tops.specs.Lists.{EachPair, NoneTwice, Nth, Rising}
use Rattle.dwz_def_tops.specs.Shown.{keys, unit_keys}
use Rattle.dwz_def_tops.proofs.Members.{each_in, nth_in}
use Rattle.dwz_def_tops.specs.Spots.{EntryName, FileUnit, Import, InChain, InType, LabelledSpaces, PartialOf, PartialRoot, RootOf, Row, SpaceAt, Top, UnitOf, Within, rows_of_root, tops_of}
use Rattle.dwz_def_tops.proofs.RowLemmas.{row_unit, unit_row}
use Rattle.dwz_def_tops.proofs.Tops.{one_top, row_top}
use Rattle.dwz_def_plan.specs.Homes.{Rule, is_home, moves}
use Rattle.dwz_def_plan.specs.IsPlan.{BelongsTo, Has, IsPart, OfSpace, OfTop, numbers}
use Rattle.dwz_def_plan.specs.Moves.{Move, image_in, plan}
use Rattle.dwz_def_plan.specs.Plan.{PartialUnit, imports, kept_row, part_row, partials, pinned_of, row_staying, stand_in}
use Rattle.dwz_def_images.specs.Held.{Kinded}
use Rattle.dwz_def_images.specs.Units.{changes, kept_unit, partial_root, partial_unit, tree}
use Rattle.dwz_def_images.proofs.HeldLemmas.{row_found}
use Rattle.dwz_def_plan.proofs.PlanLemmas.{are_parts, one_place}
use Rattle.dwz_def_plan.proofs.RowParts.{kept_is}
use Rattle.dwz_def_plan.proofs.PartRows.{part_is}
use Rattle.dwz_def_plan.proofs.UserLemmas.{move_stand, stay_fixed}
use Rattle.dwz_def_images.specs.After.{AreOld}
use Rattle.dwz_def_tops.specs.UnitNames.{IsNamedBelow}
use Rattle.dwz_def_images.proofs.ApartKept.{pinned_none, row_none, staying_none}
use Rattle.dwz_def_images.proofs.ApartParts.{import_key, imports_none, part_none}
use Rattle.dwz_def_images.proofs.ApartTrees.{Fixed, Good, IsImportSpot, IsSpaceSpot, IsWithin, behind, good_of, labelled_map, none_below, row_keys, tree_none, type_path}
use Rattle.dwz_def_images.proofs.EntryLemmas.{kept_compile, kept_still, kept_type, top_changes}
use Rattle.dwz_def_images.proofs.KindLemmas.{kept_kinded, part_row_kinded, top_plain}
use Rattle.dwz_def_images.proofs.OldRows.{row_kinded, space_place, tops_among}
use Rattle.dwz_def_images.proofs.KeyLemmas.{FromSpaceKey, FromTopKey, LastKey, TreeKey, tree_is, tree_key}

-- a unit after: a partial unit, or an old one
pub data UnitNumber : Type 0 where
  New : ℕ → UnitNumber
  Old : ℕ → UnitNumber

no_end : (k : EntryName) → In k (keys End) → ⊥
unfolding keys
no_end k e = e

none_end : NoneTwice (keys {K = EntryName} End)
unfolding keys
none_end = tt

module _ (units : List (FileUnit EntryName)) (rule : Rule) (old : AreOld units) (files : List ℕ) (rises : Rising files) where
  abbrev parts : List PartialUnit
  parts = partials rule units files

  abbrev stand : ℕ → ℕ
  stand = stand_in rule units

  abbrev m : Move
  m = plan rule units files

  abbrev f : EntryName → EntryName
  f = image_in (plan rule units files)

  -- ---- tops of units after

  -- it stands in that partial unit, or is one of that old unit and stays
  abbrev Stands : UnitNumber → Top → Type 0
  Stands (New n) t = (part : PartialUnit) × Nth 0 parts n part × In t part.tops
  Stands (Old i) t = In t (tops_of units) × (t.unit ≡ i) × (moves rule units t.number ≡ false)

  fits : (n : ℕ) (part : PartialUnit) → Nth 0 parts n part → IsPart rule units part
  fits n part nth = each_in (IsPart rule units) part parts (are_parts rule units files) (nth_in 0 parts n part nth)

  part_top : (n : ℕ) (part : PartialUnit) → Nth 0 parts n part → (t : Top) → In t part.tops → BelongsTo rule units part t
  part_top n part nth t is = ((fits n part nth).tops t).0 is

  part_moves : (n : ℕ) (part : PartialUnit) → Nth 0 parts n part → (t : Top) → In t part.tops → moves rule units t.number ≡ true
  part_moves n part nth t is = ap is_home (part_top n part nth t is).home ∙ (fits n part nth).moves

  stands_there : (w : UnitNumber) (t : Top) → Stands w t → In t (tops_of units)
  stands_there (New n) t h = (part_top n h.0 h.1 t h.2).there
  stands_there (Old i) t h = h.0

  stands_fixed : (w : UnitNumber) (t : Top) → Stands w t → Fixed stand t
  stands_fixed (New n) t h =
      let b = part_top n h.0 h.1 t h.2 in
      (old.tops_named t b.there, move_stand units rule t.number (part_moves n h.0 h.1 t h.2) ∙ b.rep)
  stands_fixed (Old i) t h = (old.tops_named t h.0, stay_fixed units rule t.number h.2)

  stands_once : (v w : UnitNumber) (t : Top) → Stands v t → Stands w t → v ≡ w
  stands_once (New m) (New n) t a b = ap (λ (w : ℕ). New w) (one_place rule units files rises m n a.0 b.0 t a.1 b.1 a.2 b.2)
  stands_once (New m) (Old i) t a b = absurd (let x = part_moves m a.0 a.1 t a.2 in let y = b.2 in cc)
  stands_once (Old i) (New n) t a b = absurd (let x = part_moves n b.0 b.1 t b.2 in let y = a.2 in cc)
  stands_once (Old i) (Old j) t a b = ap (λ (w : ℕ). Old w) (sym a.1 ∙ b.1)

  -- ---- the unit of a name

  pub record TopStands (w : UnitNumber) (m : ℕ) : Type 0 where
    pub top : Top
    pub number : top.number ≡ m
    pub stands : Stands w top

  abbrev pub Owns : UnitNumber → EntryName → Type 0
  Owns w (Within m path) = TopStands w m
  Owns w (UnitOf i) = w ≡ Old i
  Owns w (RootOf i) = w ≡ Old i
  Owns w (SpaceAt i path) = w ≡ Old i
  Owns w (InType i path) = w ≡ Old i
  Owns w (PartialOf n) = w ≡ New n
  Owns w (PartialRoot n) = w ≡ New n
  Owns w (InChain n c d) = w ≡ New n
  Owns w (Import i n) = w ≡ Old i

  pub owned_once : (v w : UnitNumber) (k : EntryName) → Owns v k → Owns w k → v ≡ w
  owned_once v w (Within m path) a b =
      let same : a.top ≡ b.top = one_top units a.top b.top (stands_there v a.top a.stands) (stands_there w b.top b.stands) (a.number ∙ sym b.number) in
      stands_once v w b.top (subst (Stands v) same a.stands) b.stands
  owned_once v w (UnitOf i) a b = a ∙ sym b
  owned_once v w (RootOf i) a b = a ∙ sym b
  owned_once v w (SpaceAt i path) a b = a ∙ sym b
  owned_once v w (InType i path) a b = a ∙ sym b
  owned_once v w (PartialOf n) a b = a ∙ sym b
  owned_once v w (PartialRoot n) a b = a ∙ sym b
  owned_once v w (InChain n c d) a b = a ∙ sym b
  owned_once v w (Import i n) a b = a ∙ sym b

  within_owned : (w : UnitNumber) (t : Top) (k : EntryName) → Stands w t → IsWithin t.number k → Owns w k
  within_owned w t k h within = subst (Owns w) (sym within.is) (record { top = t; number = refl; stands = h })

  -- ---- one partial unit

  -- no name stands twice in a unit, and each is its own
  pub record IsOwn (w : UnitNumber) (v : DwUnit EntryName) : Type 0 where
    pub once : NoneTwice (unit_keys v)
    pub owns : (k : EntryName) → In k (unit_keys v) → Owns w k

  -- what is in a tree is neither the unit nor its root
  abbrev IsInner : EntryName → Type 0
  IsInner (UnitOf i) = ⊥
  IsInner (RootOf i) = ⊥
  IsInner (PartialOf n) = ⊥
  IsInner (PartialRoot n) = ⊥
  IsInner _ = Unit {0}

  part_kinded : (n : ℕ) (part : PartialUnit) → Nth 0 parts n part → Kinded (part_row n part)
  part_kinded n part nth = part_row_kinded n part (λ t is. top_plain units t (part_top n part nth t is).there)

  part_space : (n : ℕ) (part : PartialUnit) (names : List (List ℕ)) (e : Node EntryName) → Has names (OfSpace e) (part_row n part) → (c : ℕ) × (d : ℕ) × (e.at ≡ InChain n c d)
  part_space n part names e h = let o = (part_is n part).spaces_are names e h in (o.chain, o.depth, ap (λ (w : Node EntryName). w.at) o.is)

  new_good : (n : ℕ) (part : PartialUnit) → Nth 0 parts n part → Good stand (part_row n part)
  new_good n part nth =
      good_of stand (part_row n part) (part_kinded n part nth)
      (λ names t h. stands_fixed (New n) t (part, nth, (((part_is n part).tops_are names t).0 h).0))
      (λ names e h. let o = part_space n part names e h in subst IsSpaceSpot (sym o.2) tt)

  new_key : (n : ℕ) (part : PartialUnit) → Nth 0 parts n part → (k : EntryName) → In k (keys (tree f (part_row n part) End)) → Owns (New n) k × IsInner k
  new_key n part nth k h = go (tree_key stand (part_row n part) End (part_kinded n part nth) (new_good n part nth) k h) where
    go : TreeKey (part_row n part) End k → Owns (New n) k × IsInner k
    go (FromTopKey names t has w) = (within_owned (New n) t k (part, nth, (((part_is n part).tops_are names t).0 has).0) w, subst IsInner (sym w.is) tt)
    go (FromSpaceKey names d has e) = (let o = part_space n part names d has in let at = e ∙ o.2 in (subst (Owns (New n)) (sym at) refl, subst IsInner (sym at) tt))
    go (LastKey a) = absurd (no_end k a)

  pub new_own : (n : ℕ) (part : PartialUnit) → Nth 0 parts n part → IsOwn (New n) (partial_unit (plan rule units files) n)
  unfolding unit_keys
  new_own n part nth = subst (λ (w : Row). IsOwn (New n) (record { at = PartialOf n; kind = Partial; root = partial_root (plan rule units files) n; below = tree f w End }))
      (sym (row_found rule units files n part nth)) (record {
        once = (
          (λ is. elim is [ inl x ↦ cc | inr r ↦ (new_key n part nth (PartialOf n) r).1 ]),
          (
            (λ is. (new_key n part nth (PartialRoot n) is).1),
            tree_none stand (part_row n part) End (new_good n part nth) (part_none n part (rising_tops part (fits n part nth).rising)) none_end (λ k h. absurd (no_end k h)),
          ),
        );
        owns = λ k is. elim is [
          | inl x ↦ subst (Owns (New n)) x refl
          | inr (inl x) ↦ subst (Owns (New n)) x refl
          | inr (inr r) ↦ (new_key n part nth k r).0
        ];
      })
    where
      rising_row : (tops : List Top) → Rising (numbers tops) → EachPair (λ a b. a.number < b.number) tops
      rising_row [] h = tt
      rising_row (t ∷ tops) h = (each_number t tops h.0, rising_row tops h.1) where
        each_number : (t : Top) (tops : List Top) → Each (λ n. t.number < n) (numbers tops) → Each (λ u. t.number < u.number) tops
        each_number t [] h = tt
        each_number t (u ∷ tops) h = (h.0, each_number t tops h.1)

      rising_tops : (part : PartialUnit) → Rising (numbers part.tops) → EachPair (λ a b. a.number < b.number) part.tops
      rising_tops part h = rising_row part.tops h

  -- ---- one old unit

  module _ (i : ℕ) (u : FileUnit EntryName) (nth : Nth 0 units i u) where
    kept_of : DwUnit EntryName
    kept_of = kept_unit (plan rule units files) units i u

    -- all in it is its own, and is neither the unit nor its root
    pub record BelowOwn (g : Entries EntryName) : Type 0 where
      pub once : NoneTwice (keys g)
      pub owns : (k : EntryName) → In k (keys g) → Owns (Old i) k × IsInner k

    module _ (kind : u.unit.kind ≡ Compile) where
      items_kinded : Kinded (rows_of_root units i)
      items_kinded = let r = unit_row units i u nth kind in row_kinded u.file i (language u.unit) [] r.first (rows_of_root units i) u.unit.below r.is

      spaces_named : LabelledSpaces i [] 0 (rows_of_root units i)
      spaces_named = subst (λ (w : Kind EntryName). IsNamedBelow i w (rows_of_root units i) u.unit.below) kind (old.units_named i u nth).below

      items_once : NoneTwice (row_keys (rows_of_root units i))
      items_once = let r = unit_row units i u nth kind in row_none u.file i (language u.unit) [] r.first (rows_of_root units i) u.unit.below r.is [] 0 spaces_named

      -- a row of tops of the unit that stay, and of its spaces
      row_own : (items : Row) (last : Entries EntryName) → Kinded items → ((names : List (List ℕ)) (t : Top) → Has names (OfTop t) items
          → Has names (OfTop t) (rows_of_root units i) × (moves rule units t.number ≡ false))
          → ((names : List (List ℕ)) (d : Node EntryName) → Has names (OfSpace d) items → Has names (OfSpace d) (rows_of_root units i)) → NoneTwice (row_keys items) → NoneTwice (keys last)
          → ((k : EntryName) → In k (keys last) → (n : ℕ) × (k ≡ Import i n)) → BelowOwn (tree f items last)
      row_own items last kinded tops spaces once rest imported = record {
        once = tree_none stand items last good once rest (λ k h. (let o = imported k h in subst IsImportSpot (sym o.1) tt));
        owns = λ k h. key k (tree_key stand items last kinded good k h);
      }
        where
          stands : (names : List (List ℕ)) (t : Top) → Has names (OfTop t) items → Stands (Old i) t
          stands names t h = (let o = tops names t h in let there = row_top units i t (tops_among (rows_of_root units i) names t o.0) in (there.0, there.1, o.1))

          space_at : (names : List (List ℕ)) (d : Node EntryName) → Has names (OfSpace d) items → (p : List ℕ) × (d.at ≡ SpaceAt i p)
          space_at names d h = space_place i [] 0 (rows_of_root units i) spaces_named names d (spaces names d h)

          good : Good stand items
          good = good_of stand items kinded (λ names t h. stands_fixed (Old i) t (stands names t h)) (λ names d h. let o = space_at names d h in subst IsSpaceSpot (sym o.1) tt)

          key : (k : EntryName) → TreeKey items last k → Owns (Old i) k × IsInner k
          key k (FromTopKey names t has w) = (within_owned (Old i) t k (stands names t has) w, subst IsInner (sym w.is) tt)
          key k (FromSpaceKey names d has e) = (let o = space_at names d has in let at = e ∙ o.1 in (subst (Owns (Old i)) (sym at) refl, subst IsInner (sym at) tt))
          key k (LastKey a) = (let o = imported k a in (subst (Owns (Old i)) (sym o.1) refl, subst IsInner (sym o.1) tt))

      changed_own : BelowOwn (tree f (kept_row (moves rule units) units i) (imports i 0 parts))
      changed_own = row_own (kept_row (moves rule units) units i) (imports i 0 parts) (kept_kinded (moves rule units) units i items_kinded)
          (λ names t h. (kept_is (moves rule units) units i names (OfTop t)).0 h) (λ names d h. ((kept_is (moves rule units) units i names (OfSpace d)).0 h).0)
          (pinned_none (pinned_of units) (row_staying (moves rule units) (rows_of_root units i)) (staying_none (moves rule units) (rows_of_root units i) items_once)) (imports_none i parts)
          (import_key i parts)

      still_own : changes (plan rule units files) units u.file ≡ false → BelowOwn (entries_map f u.unit.below)
      still_own c =
          let r = unit_row units i u nth kind in
          subst BelowOwn (tree_is u.file i (language u.unit) f [] r.first (rows_of_root units i) u.unit.below r.is)
          (row_own (rows_of_root units i) End items_kinded (λ names t h. (h, stays names t h)) (λ names d h. h) items_once none_end (λ k h. absurd (no_end k h)))
        where
          stays : (names : List (List ℕ)) (t : Top) → Has names (OfTop t) (rows_of_root units i) → moves rule units t.number ≡ false
          stays names t h = go (moves rule units t.number) refl where
            go : (b : Bool) → moves rule units t.number ≡ b → b ≡ false
            go true q =
                let r = unit_row units i u nth kind in
                let in_row = tops_among (rows_of_root units i) names t h in
                let file = (row_unit u.file i (language u.unit) [] r.first (rows_of_root units i) u.unit.below r.is t in_row).0 in
                let change : changes (plan rule units files) units u.file ≡ true = ap (changes (plan rule units files) units) (sym file)
                ∙ top_changes (plan rule units files) units t (row_top units i t in_row).0 q in
                absurd (let x = c in cc)
            go false q = refl

    type_own : (signature : ℕ) (main : EntryName) → u.unit.kind ≡ OfType signature main → BelowOwn (entries_map f u.unit.below)
    type_own signature main kind =
        let named = subst (λ (w : Kind EntryName). IsNamedBelow i w (rows_of_root units i) u.unit.below) kind (old.units_named i u nth).below in
        let new = labelled_map f (InType i) (InType i) (λ p. refl) [] 0 u.unit.below named in
        record {
          once = none_below (InType i) (type_path i) [] 0 (entries_map f u.unit.below) new;
          owns = λ k h. (let b = behind (InType i) [] 0 (entries_map f u.unit.below) new k h in (subst (Owns (Old i)) (sym b.is) refl, subst IsInner (sym b.is) tt));
        }

    below_own : (k : Kind EntryName) → u.unit.kind ≡ k → (b : Bool) → changes (plan rule units files) units u.file ≡ b → BelowOwn (kept_unit (plan rule units files) units i u).below
    below_own Compile kind true c = subst BelowOwn (sym (kept_compile (plan rule units files) units i u kind c)) (changed_own kind)
    below_own Compile kind false c = subst BelowOwn (sym (kept_still (plan rule units files) units i u c)) (still_own kind c)
    below_own (OfType signature main) kind b c = subst BelowOwn (sym (kept_type (plan rule units files) units i u signature main kind)) (type_own signature main kind)
    below_own Partial kind b c = absurd (subst (λ (w : Kind EntryName). IsNamedBelow i w (rows_of_root units i) u.unit.below) kind (old.units_named i u nth).below)

    pub kept_own : IsOwn (Old i) (kept_unit (plan rule units files) units i u)
    unfolding unit_keys
    kept_own =
        let unit = (old.units_named i u nth).unit in
        let root : f u.unit.root.at ≡ RootOf i = ap f (old.units_named i u nth).root in
        let below = below_own u.unit.kind refl (changes (plan rule units files) units u.file) refl in
        record {
          once = (
            (λ is. elim is [
              | inl x ↦ (let z : RootOf i ≡ UnitOf i = sym root ∙ x ∙ unit in cc)
              | inr r ↦ subst IsInner unit (below.owns u.unit.at r).1
            ]),
            (
              (λ is. subst IsInner root (below.owns (f u.unit.root.at) is).1),
              below.once,
            ),
          );
          owns = λ k is. elim is [
            | inl x ↦ subst (Owns (Old i)) (sym unit ∙ x) refl
            | inr (inl x) ↦ subst (Owns (Old i)) (sym root ∙ x) refl
            | inr (inr r) ↦ (below.owns k r).0
          ];
        }
