-- Over a finished common file the tops and the spaces of units after are at their own names.
use Rattle.std.proofs.Common.{◌≡◌, ◌⊎◌, ℕ, Bool, true, false, List, [], Option, Some, None, refl, sym, ap, subst, ◌∙◌, inl, inr}
use Rattle.dwz_def_reading.specs.Documents.{Compile, Doc, Entries, Kind, Node, OfType, entries_map, language, node_map}
use Rattle.dwz_def_reading.specs.Trees.{End}
use Rattle.dwz_def_tops.specs.Lists.{Nth}
use Rattle.dwz_def_tops.specs.Spaces.{IsSpace, IsUnder, space_text}
use Rattle.dwz_def_tops.proofs.SpaceLemmas.{text_map}
use Rattle.dwz_def_tops.specs.Spots.{EntryName, FileUnit, InType, Labelled, LabelledSpaces, Row, Top, Within, file_numbers, name_list, rows_of_root}
use Rattle.dwz_def_tops.specs.UnitNames.{IsNamedBelow}
use Rattle.dwz_def_tops.proofs.RowLemmas.{row_unit, unit_row}
use Rattle.dwz_def_tops.proofs.Tops.{row_top}
use Rattle.dwz_def_images.specs.Held.{Kinded}
use Rattle.dwz_def_images.specs.IsPlan.{Has, Item, OfSpace, OfTop}
use Rattle.dwz_def_images.specs.Moves.{Move, image_in}
use Rattle.dwz_def_images.specs.Plan.{PartialUnit, imports, kept_row, partials}
use Rattle.dwz_def_images.specs.Units.{changes, kept_unit, tree}
use Rattle.dwz_def_images.proofs.ApartOwn.{Old, UnitNumber}
use Rattle.dwz_def_images.proofs.ApartTrees.{Fixed as StandsFixed, IsImportSpot, IsSpaceSpot, labelled_map, space_image}
use Rattle.dwz_def_images.proofs.EntryLemmas.{kept_compile, kept_still, kept_type, top_changes}
use Rattle.dwz_def_images.proofs.KeyLemmas.{tree_is}
use Rattle.dwz_def_images.proofs.KindLemmas.{kept_kinded}
use Rattle.dwz_def_images.proofs.OldRows.{kind_in, node_of, row_kinded, space_place, top_names, tops_among}
use Rattle.dwz_def_images.proofs.RowParts.{kept_is}
use Rattle.dwz_def_images.proofs.TreeLemmas.{tree_under}
use Rattle.dwz_def_taken.specs.declared.fixed.Fixed.{Fixed}
use Rattle.dwz_def_taken.specs.Beside.{Reused, reused_of}
use Rattle.dwz_def_taken.specs.Laws.{ArePlacedOver, IsReused}
use Rattle.dwz_def_taken.specs.Over.{common_parts, move_over}
use Rattle.dwz_def_taken.specs.Takes.{IsFixed, free_rule}
use Rattle.dwz_def_taken.proofs.NamesOver.{named_over}
use Rattle.dwz_def_taken.proofs.OwnUnits.{Stands, stands_fixed}
use Rattle.dwz_def_cross.specs.Tops.{CrossTop, StandsUnder}
use Rattle.dwz_law_over.proofs.TreeTops.{OfLast, OfRow, TreeTop, import_top, no_import_space, tree_top}

some_none : {X : Type 0} {x : X} (o : Option X) → o ≡ Some x → o ≡ None → ⊥
some_none o a b = cc

module _ (docs : List (Doc ℕ)) (common : Doc ℕ) (fixed : Fixed) (p : ArePlacedOver docs common) (fx : IsFixed (reused_of docs common) fixed) where
  abbrev r : Reused
  r = reused_of docs common

  abbrev files : List ℕ
  files = file_numbers 0 docs

  abbrev m : Move
  m = move_over (reused_of docs common) fixed (file_numbers 0 docs)

  abbrev f : EntryName → EntryName
  f = image_in (move_over (reused_of docs common) fixed (file_numbers 0 docs))

  abbrev firsts : List PartialUnit
  firsts = common_parts (reused_of docs common) fixed 0 (reused_of docs common).commons

  abbrev locals : List PartialUnit
  locals = partials (free_rule (reused_of docs common) fixed) (reused_of docs common).units (file_numbers 0 docs)

  re : IsReused r
  re = named_over docs common p

  abbrev Stay : UnitNumber → Top → Type 0
  Stay = Stands docs common fixed p fx

  -- a top of a unit after is one that stands there
  pub record TopAfter (w : UnitNumber) (names : List (List ℕ)) (b : CrossTop EntryName) : Type 0 where
    pub top : Top
    pub stands_is : Stands docs common fixed p fx w top
    pub at : b.node.at ≡ Within top.number []
    pub labelled : Labelled (Within top.number) [] 0 b.below
    pub names_are : name_list top ≡ names

  -- the tops of these entries stand in that unit, or are imports; and spaces are at names of spaces
  pub record AreTops (w : UnitNumber) (g : Entries EntryName) : Type 0 where
    pub tops : (names : List (List ℕ)) (b : CrossTop EntryName) → StandsUnder names b g → TopAfter w names b ⊎ (IsImportSpot b.node.at × (b.below ≡ End))
    pub spaces : (names : List (List ℕ)) (e : Node EntryName) → IsSpace names e g → IsSpaceSpot e.at

  -- a top of a row, which stands for itself, is one that stands there, by its number
  pub record RowTop (w : UnitNumber) (names : List (List ℕ)) (t : Top) : Type 0 where
    pub top : Top
    pub stands_is : Stands docs common fixed p fx w top
    pub number : top.number ≡ t.number
    pub fixed_is : StandsFixed m.stand t
    pub names_are : name_list top ≡ names

  module _ (w : UnitNumber) (items : Row) (last : Entries EntryName) (kinded : Kinded items) (row_tops : (names : List (List ℕ)) (t : Top) → Has names (OfTop t) items → RowTop w names t)
      (row_spaces : (names : List (List ℕ)) (d : Node EntryName) → Has names (OfSpace d) items → IsSpaceSpot d.at)
      (last_tops : (names : List (List ℕ)) (b : CrossTop EntryName) → StandsUnder names b last → IsImportSpot b.node.at × (b.below ≡ End))
      (last_spaces : (names : List (List ℕ)) (e : Node EntryName) → IsUnder names e last → space_text e ≡ None) where
    tree_tops : (names : List (List ℕ)) (b : CrossTop EntryName) → StandsUnder names b (tree f items last) → TopAfter w names b ⊎ (IsImportSpot b.node.at × (b.below ≡ End))
    tree_tops names b h = by (tree_top f items last kinded names b h) where
      by : TreeTop f items last names b → TopAfter w names b ⊎ (IsImportSpot b.node.at × (b.below ≡ End))
      by (OfLast s) = inr (last_tops names b s)
      by (OfRow t has nd bl) =
          let o = row_tops names t has in
          let at : b.node.at ≡ Within t.number [] = ap (λ (n : Node EntryName). n.at) nd ∙ ap f o.fixed_is.0.0 ∙ ap (λ (n : ℕ). Within n []) o.fixed_is.1 in
          let below : Labelled (Within t.number) [] 0 (entries_map f t.below) =
          labelled_map f (Within t.number) (Within t.number) (λ q. ap (λ (n : ℕ). Within n q) o.fixed_is.1) [] 0 t.below o.fixed_is.0.1 in
          inl (record {
            top = o.top;
            stands_is = o.stands_is;
            at = at ∙ ap (λ (n : ℕ). Within n []) (sym o.number);
            labelled = subst (λ (n : ℕ). Labelled (Within n) [] 0 b.below) (sym o.number) (subst (Labelled (Within t.number) [] 0) (sym bl) below);
            names_are = o.names_are;
          })

    tree_spaces : (names : List (List ℕ)) (e : Node EntryName) → IsSpace names e (tree f items last) → IsSpaceSpot e.at
    tree_spaces names e s = elim (tree_under f items last kinded s.outer e s.under) [ inl o ↦ of_item o.item o.has o.is | inr u ↦ absurd (some_none (space_text e) s.own (last_spaces s.outer e u)) ] where
      of_item : (x : Item) → Has s.outer x items → node_map f (node_of x) ≡ e → IsSpaceSpot e.at
      of_item (OfSpace d) has is =
          let spot = row_spaces s.outer d has in
          subst IsSpaceSpot (sym (space_image m.stand d.at spot) ∙ ap (λ (n : Node EntryName). n.at) is) spot
      of_item (OfTop t) has is =
          absurd (some_none (space_text e) s.own (ap space_text (sym is) ∙ text_map f t.node ∙ kind_in items kinded s.outer (OfTop t) has))

    pub row_named : AreTops w (tree f items last)
    row_named = record { tops = tree_tops; spaces = tree_spaces }

  pub no_last : (names : List (List ℕ)) (b : CrossTop EntryName) → StandsUnder names b End → IsImportSpot b.node.at × (b.below ≡ End)
  no_last names b h = absurd h

  pub no_space : (names : List (List ℕ)) (e : Node EntryName) → IsUnder names e End → space_text e ≡ None
  no_space names e h = absurd h

  -- ---- old units

  module _ (i : ℕ) (u : FileUnit EntryName) (nth : Nth 0 r.units i u) (kind : u.unit.kind ≡ Compile) where
    abbrev items : Row
    items = rows_of_root r.units i

    items_kinded : Kinded (rows_of_root r.units i)
    items_kinded = let o = unit_row r.units i u nth kind in row_kinded u.file i (language u.unit) [] o.first (rows_of_root r.units i) u.unit.below o.is

    spaces_named : LabelledSpaces i [] 0 (rows_of_root r.units i)
    spaces_named = subst (λ (w : Kind EntryName). IsNamedBelow i w (rows_of_root r.units i) u.unit.below) kind (re.own.units_named i u nth).below

    space_spot : (names : List (List ℕ)) (d : Node EntryName) → Has names (OfSpace d) (rows_of_root r.units i) → IsSpaceSpot d.at
    space_spot names d h = let o = space_place i [] 0 (rows_of_root r.units i) spaces_named names d h in subst IsSpaceSpot (sym o.1) tt

    stays_so : (names : List (List ℕ)) (t : Top) → Has names (OfTop t) (rows_of_root r.units i) → m.gone t.number ≡ false → RowTop (Old i) names t
    stays_so names t h stay =
        let row = unit_row r.units i u nth kind in
        let there = row_top r.units i t (tops_among (rows_of_root r.units i) names t h) in
        let s : Stay (Old i) t = (there.0, there.1, stay) in
        record {
          top = t;
          stands_is = s;
          number = refl;
          fixed_is = stands_fixed docs common fixed p fx (Old i) t s;
          names_are = top_names u.file i (language u.unit) [] row.first (rows_of_root r.units i) u.unit.below row.is names t h;
        }

    changed_named : AreTops (Old i) (tree f (kept_row m.gone r.units i) (imports i 0 m.parts))
    changed_named = row_named (Old i) (kept_row m.gone r.units i) (imports i 0 m.parts) (kept_kinded m.gone r.units i items_kinded)
        (λ names t h. (let o = (kept_is m.gone r.units i names (OfTop t)).0 h in stays_so names t o.0 o.1))
        (λ names d h. space_spot names d ((kept_is m.gone r.units i names (OfSpace d)).0 h).0)
        (import_top i 0 m.parts) (no_import_space i 0 m.parts)

    still_named : changes m r.units u.file ≡ false → AreTops (Old i) (entries_map f u.unit.below)
    still_named c =
        let o = unit_row r.units i u nth kind in
        subst (AreTops (Old i)) (tree_is u.file i (language u.unit) f [] o.first (rows_of_root r.units i) u.unit.below o.is)
        (row_named (Old i) (rows_of_root r.units i) End items_kinded (λ names t h. stays_so names t h (stays names t h)) space_spot no_last no_space)
      where
        stays : (names : List (List ℕ)) (t : Top) → Has names (OfTop t) (rows_of_root r.units i) → m.gone t.number ≡ false
        stays names t h = go (m.gone t.number) refl where
          go : (b : Bool) → m.gone t.number ≡ b → b ≡ false
          go true q =
              let o = unit_row r.units i u nth kind in
              let in_row = tops_among (rows_of_root r.units i) names t h in
              let file = (row_unit u.file i (language u.unit) [] o.first (rows_of_root r.units i) u.unit.below o.is t in_row).0 in
              let change : changes m r.units u.file ≡ true = ap (changes m r.units) (sym file) ∙ top_changes m r.units t (row_top r.units i t in_row).0 q in
              absurd (let x = c in cc)
          go false q = refl

    pub kept_named : AreTops (Old i) (kept_unit m r.units i u).below
    kept_named = by (changes m r.units u.file) refl where
      by : (b : Bool) → changes m r.units u.file ≡ b → AreTops (Old i) (kept_unit m r.units i u).below
      by true c = subst (AreTops (Old i)) (sym (kept_compile m r.units i u kind c)) changed_named
      by false c = subst (AreTops (Old i)) (sym (kept_still m r.units i u c)) (still_named c)

  -- the entries of a type unit keep their names
  pub kept_type_named : (i : ℕ) (u : FileUnit EntryName) → Nth 0 r.units i u → (signature : ℕ) (main : EntryName) → u.unit.kind ≡ OfType signature main
      → Labelled (InType i) [] 0 (kept_unit m r.units i u).below
  kept_type_named i u nth signature main kind =
      let named = subst (λ (w : Kind EntryName). IsNamedBelow i w (rows_of_root r.units i) u.unit.below) kind (re.own.units_named i u nth).below in
      subst (Labelled (InType i) [] 0) (sym (kept_type m r.units i u signature main kind)) (labelled_map f (InType i) (InType i) (λ q. refl) [] 0 u.unit.below named)
