-- Over a finished common file the names in an old unit are its own, and no name stands twice among all units.
use Rattle.std.proofs.Common.{◌≡◌, ℕ, ◌<◌, Bool, true, false, List, [], length, refl, sym, ap, subst, ◌∙◌, inl, inr, arith}
use Rattle.dwz_def_reading.specs.Documents.{Compile, Doc, Entries, Kind, Node, OfType, Partial, entries_map, language}
use Rattle.dwz_def_reading.specs.Lists.{In}
use Rattle.dwz_def_reading.specs.Trees.{End}
use Rattle.dwz_def_tops.specs.Lists.{NoneTwice, Nth}
use Rattle.dwz_def_tops.specs.Shown.{keys, unit_keys, units_keys}
use Rattle.dwz_def_tops.proofs.Members.{nth_below}
use Rattle.dwz_def_tops.specs.Spots.{EntryName, FileUnit, Import, InType, LabelledSpaces, RootOf, Row, SpaceAt, Top, UnitOf, file_numbers, rows_of_root}
use Rattle.dwz_def_tops.proofs.RowLemmas.{row_unit, unit_row}
use Rattle.dwz_def_tops.proofs.Tops.{row_top}
use Rattle.dwz_def_images.specs.IsPlan.{Has, OfSpace, OfTop}
use Rattle.dwz_def_images.specs.Moves.{Move, image_in}
use Rattle.dwz_def_images.specs.Plan.{imports, kept_row, pinned_of, row_staying}
use Rattle.dwz_def_images.proofs.RowParts.{kept_is}
use Rattle.dwz_def_tops.specs.UnitNames.{IsNamedBelow}
use Rattle.dwz_def_images.specs.Held.{Kinded}
use Rattle.dwz_def_images.specs.Units.{all_units, changes, kept_unit, tree}
use Rattle.dwz_def_images.proofs.ApartKept.{pinned_none, row_none, staying_none}
use Rattle.dwz_def_images.proofs.ApartOwn.{Old, UnitNumber}
use Rattle.dwz_def_images.proofs.ApartParts.{import_key, imports_none}
use Rattle.dwz_def_images.proofs.ApartTrees.{Good, IsImportSpot, IsSpaceSpot, behind, good_of, labelled_map, none_below, row_keys, tree_none, type_path}
use Rattle.dwz_def_images.proofs.EntryLemmas.{kept_compile, kept_still, kept_type, top_changes}
use Rattle.dwz_def_images.proofs.FileLemmas.{numbers_rise}
use Rattle.dwz_def_images.proofs.KindLemmas.{kept_kinded}
use Rattle.dwz_def_images.proofs.KeyLemmas.{FromSpaceKey, FromTopKey, LastKey, TreeKey, tree_is, tree_key}
use Rattle.dwz_def_images.proofs.OldRows.{row_kinded, space_place, tops_among}
use Rattle.dwz_def_taken.specs.declared.fixed.Fixed.{Fixed}
use Rattle.dwz_def_taken.specs.Beside.{Reused, reused_of}
use Rattle.dwz_def_taken.specs.Laws.{ArePlacedOver, IsReused}
use Rattle.dwz_def_taken.specs.Over.{move_over}
use Rattle.dwz_def_taken.specs.Takes.{IsFixed}
use Rattle.dwz_def_taken.proofs.NamesOver.{named_over}
use Rattle.dwz_def_taken.proofs.OnceUnits.{IsUnitOwn, all_apart}
use Rattle.dwz_def_taken.proofs.OwnUnits.{IsInner, Owns, Stands, new_own, no_end, none_end, old_space, owned_once, stands_fixed, within_owned}

module _ (docs : List (Doc ℕ)) (common : Doc ℕ) (fixed : Fixed) (p : ArePlacedOver docs common) (fx : IsFixed (reused_of docs common) fixed) where
  abbrev r : Reused
  r = reused_of docs common

  abbrev files : List ℕ
  files = file_numbers 0 docs

  abbrev m : Move
  m = move_over (reused_of docs common) fixed (file_numbers 0 docs)

  abbrev f : EntryName → EntryName
  f = image_in (move_over (reused_of docs common) fixed (file_numbers 0 docs))

  re : IsReused r
  re = named_over docs common p

  abbrev Stay : UnitNumber → Top → Type 0
  Stay = Stands docs common fixed p fx

  abbrev Own : UnitNumber → EntryName → Type 0
  Own = Owns docs common fixed p fx

  abbrev Inner : EntryName → Type 0
  Inner = IsInner docs common fixed p fx

  -- ---- one old unit

  module _ (i : ℕ) (u : FileUnit EntryName) (nth : Nth 0 r.units i u) where
    -- all in it is its own, and is neither the unit nor its root
    record BelowOwn (g : Entries EntryName) : Type 0 where
      once : NoneTwice (keys g)
      owns : (k : EntryName) → In k (keys g) → Own (Old i) k × Inner k

    low : i < length r.units
    low = let h = nth_below 0 r.units i u nth in omega arith

    module _ (kind : u.unit.kind ≡ Compile) where
      items_kinded : Kinded (rows_of_root r.units i)
      items_kinded = let o = unit_row r.units i u nth kind in row_kinded u.file i (language u.unit) [] o.first (rows_of_root r.units i) u.unit.below o.is

      spaces_named : LabelledSpaces i [] 0 (rows_of_root r.units i)
      spaces_named = subst (λ (w : Kind EntryName). IsNamedBelow i w (rows_of_root r.units i) u.unit.below) kind (re.own.units_named i u nth).below

      items_once : NoneTwice (row_keys (rows_of_root r.units i))
      items_once = let o = unit_row r.units i u nth kind in row_none u.file i (language u.unit) [] o.first (rows_of_root r.units i) u.unit.below o.is [] 0 spaces_named

      -- a row of tops of the unit that stay, and of its spaces
      row_own : (items : Row) (last : Entries EntryName) → Kinded items → ((names : List (List ℕ)) (t : Top) → Has names (OfTop t) items
          → Has names (OfTop t) (rows_of_root r.units i) × (m.gone t.number ≡ false))
          → ((names : List (List ℕ)) (d : Node EntryName) → Has names (OfSpace d) items → Has names (OfSpace d) (rows_of_root r.units i)) → NoneTwice (row_keys items) → NoneTwice (keys last)
          → ((k : EntryName) → In k (keys last) → (n : ℕ) × (k ≡ Import i n)) → BelowOwn (tree f items last)
      row_own items last kinded tops spaces once rest imported = record {
        once = tree_none m.stand items last good once rest (λ k h. (let o = imported k h in subst IsImportSpot (sym o.1) tt));
        owns = λ k h. key k (tree_key m.stand items last kinded good k h);
      }
        where
          stay : (names : List (List ℕ)) (t : Top) → Has names (OfTop t) items → Stay (Old i) t
          stay names t h = (let o = tops names t h in let there = row_top r.units i t (tops_among (rows_of_root r.units i) names t o.0) in (there.0, there.1, o.1))

          space_at : (names : List (List ℕ)) (d : Node EntryName) → Has names (OfSpace d) items → (q : List ℕ) × (d.at ≡ SpaceAt i q)
          space_at names d h = space_place i [] 0 (rows_of_root r.units i) spaces_named names d (spaces names d h)

          good : Good m.stand items
          good = good_of m.stand items kinded (λ names t h. stands_fixed docs common fixed p fx (Old i) t (stay names t h)) (λ names d h. let o = space_at names d h in subst IsSpaceSpot (sym o.1) tt)

          key : (k : EntryName) → TreeKey items last k → Own (Old i) k × Inner k
          key k (FromTopKey names t has w) = (within_owned docs common fixed p fx (Old i) t k (stay names t has) w, subst Inner (sym w.is) tt)
          key k (FromSpaceKey names d has e) = (let o = space_at names d has in let at = e ∙ o.1 in (subst (Own (Old i)) (sym at) (old_space docs common fixed p fx i low), subst Inner (sym at) tt))
          key k (LastKey a) = (let o = imported k a in (subst (Own (Old i)) (sym o.1) refl, subst Inner (sym o.1) tt))

      changed_own : BelowOwn (tree f (kept_row m.gone r.units i) (imports i 0 m.parts))
      changed_own = row_own (kept_row m.gone r.units i) (imports i 0 m.parts) (kept_kinded m.gone r.units i items_kinded)
          (λ names t h. (kept_is m.gone r.units i names (OfTop t)).0 h) (λ names d h. ((kept_is m.gone r.units i names (OfSpace d)).0 h).0)
          (pinned_none (pinned_of r.units) (row_staying m.gone (rows_of_root r.units i)) (staying_none m.gone (rows_of_root r.units i) items_once)) (imports_none i m.parts)
          (import_key i m.parts)

      still_own : changes m r.units u.file ≡ false → BelowOwn (entries_map f u.unit.below)
      still_own c =
          let o = unit_row r.units i u nth kind in
          subst BelowOwn (tree_is u.file i (language u.unit) f [] o.first (rows_of_root r.units i) u.unit.below o.is)
          (row_own (rows_of_root r.units i) End items_kinded (λ names t h. (h, stays names t h)) (λ names d h. h) items_once none_end (λ k h. absurd (no_end k h)))
        where
          stays : (names : List (List ℕ)) (t : Top) → Has names (OfTop t) (rows_of_root r.units i) → m.gone t.number ≡ false
          stays names t h = go (m.gone t.number) refl where
            go : (b : Bool) → m.gone t.number ≡ b → b ≡ false
            go true q =
                let o = unit_row r.units i u nth kind in
                let in_row = tops_among (rows_of_root r.units i) names t h in
                let file = (row_unit u.file i (language u.unit) [] o.first (rows_of_root r.units i) u.unit.below o.is t in_row).0 in
                let change : changes m r.units u.file ≡ true = ap (changes m r.units) (sym file) ∙ top_changes m r.units t (row_top r.units i t in_row).0 q in
                absurd (let x = c in cc)
            go false q = refl

    type_own : (signature : ℕ) (main : EntryName) → u.unit.kind ≡ OfType signature main → BelowOwn (entries_map f u.unit.below)
    type_own signature main kind =
        let named = subst (λ (w : Kind EntryName). IsNamedBelow i w (rows_of_root r.units i) u.unit.below) kind (re.own.units_named i u nth).below in
        let new = labelled_map f (InType i) (InType i) (λ q. refl) [] 0 u.unit.below named in
        record {
          once = none_below (InType i) (type_path i) [] 0 (entries_map f u.unit.below) new;
          owns = λ k h. (let b = behind (InType i) [] 0 (entries_map f u.unit.below) new k h in (subst (Own (Old i)) (sym b.is) refl, subst Inner (sym b.is) tt));
        }

    below_own : (k : Kind EntryName) → u.unit.kind ≡ k → (b : Bool) → changes m r.units u.file ≡ b → BelowOwn (kept_unit m r.units i u).below
    below_own Compile kind true c = subst BelowOwn (sym (kept_compile m r.units i u kind c)) (changed_own kind)
    below_own Compile kind false c = subst BelowOwn (sym (kept_still m r.units i u c)) (still_own kind c)
    below_own (OfType signature main) kind b c = subst BelowOwn (sym (kept_type m r.units i u signature main kind)) (type_own signature main kind)
    below_own Partial kind b c = absurd (subst (λ (w : Kind EntryName). IsNamedBelow i w (rows_of_root r.units i) u.unit.below) kind (re.own.units_named i u nth).below)

    kept_own : IsUnitOwn Own (Old i) (kept_unit m r.units i u)
    unfolding unit_keys
    kept_own =
        let unit = (re.own.units_named i u nth).unit in
        let root : f u.unit.root.at ≡ RootOf i = ap f (re.own.units_named i u nth).root in
        let below = below_own u.unit.kind refl (changes m r.units u.file) refl in
        record {
          once = (
            (λ is. elim is [
              | inl x ↦ (let z : RootOf i ≡ UnitOf i = sym root ∙ x ∙ unit in cc)
              | inr y ↦ subst Inner unit (below.owns u.unit.at y).1
            ]),
            (
              (λ is. subst Inner root (below.owns (f u.unit.root.at) is).1),
              below.once,
            ),
          );
          owns = λ k is. elim is [
            | inl x ↦ subst (Own (Old i)) (sym unit ∙ x) refl
            | inr (inl x) ↦ subst (Own (Old i)) (sym root ∙ x) refl
            | inr (inr y) ↦ (below.owns k y).0
          ];
        }

  pub over_apart : NoneTwice (units_keys (all_units m r.units files))
  over_apart = all_apart m r.units Own (owned_once docs common fixed p fx) (new_own docs common fixed p fx) kept_own files (numbers_rise 0 docs)
