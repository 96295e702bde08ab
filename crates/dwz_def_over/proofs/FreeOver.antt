-- Over a finished common file what goes is movable, so no expression of it names an entry; and partial units of files ask for none.
use Rattle.std.proofs.Common.{◌≡◌, ℕ, Bool, true, false, List, [], ◌∷◌, ◌||◌, Option, Some, None, refl, sym, ap, subst, ◌∙◌, arith, inl, inr}
use Rattle.std.specs.List.{list_any}
use Rattle.dwz_def_reading.specs.Lists.{Each, In}
use Rattle.dwz_def_reading.specs.Rows.{has}
use Rattle.dwz_def_reading.specs.Trees.{End}
use Rattle.dwz_def_reading.proofs.CaseFacts.{or_left, or_right}
use Rattle.dwz_def_reading.specs.Documents.{Attr, DwUnit, Loc, Node, Plain, attr_map, first_named, Doc}
use Rattle.dwz_def_reading.specs.Classes.{OfExpression, OfListIndex, OfOffset, class_of, names_list}
use Rattle.dwz_def_tops.proofs.Members.{each_in, each_of}
use Rattle.dwz_def_tops.specs.Alike.{Movable, binding_forms, has_operand, holds_place, is_named, leaves, Apart}
use Rattle.dwz_def_tops.specs.Spots.{EntryName, FileUnit, PartialOf, Top, tops_of, file_numbers, units_of}
use Rattle.dwz_def_tops.proofs.Targets.{free_attr, not_named}
use Rattle.dwz_def_images.specs.Homes.{Common, Home, Local, Stay, moves}
use Rattle.dwz_def_images.specs.IsPlan.{Has, OfSpace, OfTop}
use Rattle.dwz_def_images.specs.Moves.{Move, first_unit, image_in, line_attrs, line_in, line_of, names_path, root_of}
use Rattle.dwz_def_images.specs.Plan.{PartialUnit}
use Rattle.dwz_def_images.proofs.PartRows.{part_is as part_row_is}
use Rattle.dwz_def_images.specs.Units.{partial_unit, partial_units, tree}
use Rattle.dwz_def_images.proofs.NodeLemmas.{EntryOfTop}
use Rattle.dwz_def_encoding.specs.Bases.{Bases}
use Rattle.dwz_def_encoding.specs.Carried.{CarriedAttr, CarriedUnit, From}
use Rattle.dwz_def_encoding.proofs.FormsKnown.{no_list}
use Rattle.dwz_def_encoding.proofs.Chosen.{join_attrs, join_entries}
use Rattle.dwz_def_encoding.proofs.StoredClasses.{list_form, offset_class, offset_form}
use Rattle.dwz_def_readback.specs.Files.{origin_in}
use Rattle.dwz_def_readback.proofs.AttrLemmas.{new_attrs}
use Rattle.dwz_def_readback.proofs.HomeLemmas.{parts_from as found_part}
use Rattle.dwz_def_readback.proofs.FreeOperands.{AsksNone, UnitAsksNone, carried_attrs, free}
use Rattle.dwz_def_tops.proofs.TopNumbers.{top_at, tops_numbers}
use Rattle.dwz_def_taken.proofs.MovableAcross.{across_law}
use Rattle.dwz_def_taken.proofs.OverLemmas.{common_image, free_two, image_is}
use Rattle.dwz_def_images.proofs.UserLemmas.{moves_other}
use Rattle.dwz_def_tops.proofs.AlikeLaws.{alike_decides}
use Rattle.std.proofs.lemmas.Bool.{cases_lt}
use Rattle.std.specs.Option.{is_some}
use Rattle.std.specs.Prelude.{◌≤◌}
use Rattle.dwz_def_taken.specs.Laws.{ArePlacedOver, IsReused}
use Rattle.dwz_def_taken.specs.declared.fixed.Fixed.{Fixed}
use Rattle.dwz_def_taken.specs.Takes.{IsFixed, free_rule, image_at}
use Rattle.dwz_def_over.proofs.LocalParts.{IsLocal, in_part, local_kinds, local_part, top_moves, tops_there}
use Rattle.dwz_def_taken.specs.Beside.{Reused, own_tops, reused_of}
use Rattle.dwz_def_taken.specs.Over.{move_over}
use Rattle.dwz_def_taken.proofs.NamesOver.{named_over}

abbrev is_loc : Plain → Bool
is_loc (Loc exprs) = true
is_loc _ = false

-- an expression of it names no entry by an operand, and it names no location list
record IsFree {K : Type 0} (a : Attr K) : Type 0 where
  expression : class_of a.form ≡ OfExpression → has_operand a.value.plain ≡ false
  offset : class_of a.form ≡ OfOffset → names_list a.name ≡ false
  index : class_of a.form ≡ OfListIndex → is_loc a.value.plain ≡ false

free_map : {K L : Type 0} (f : K → L) (a : Attr K) → IsFree a → IsFree (attr_map f a)
free_map f a is = record { expression = is.expression; offset = is.offset; index = is.index }

no_space_list : names_list 0x03 ≡ false
unfolding has
no_space_list = refl

module _ (docs : List (Doc ℕ)) (common : Doc ℕ) (fixed : Fixed) (p : ArePlacedOver docs common) (fx : IsFixed (reused_of docs common) fixed) where
  abbrev r : Reused
  r = reused_of docs common

  abbrev units : List (FileUnit EntryName)
  units = units_of docs

  abbrev files : List ℕ
  files = file_numbers 0 docs

  abbrev m : Move
  m = move_over (reused_of docs common) fixed (file_numbers 0 docs)

  re : IsReused r
  re = named_over docs common p

  -- ---- what goes is movable

  taken_free : (t : Top) → In t (tops_of units) → (c : ℕ) → image_at fixed t.number ≡ Some c → Movable units t.number
  taken_free t there c e = (across_law docs common p t there).0 (image_is r fixed files re fx t there c e).taken.alike.alike.first

  none_image : (n c : ℕ) → image_at fixed n ≡ Some c → own_tops r ≤ n → ⊥
  none_image n c e low = (let z = common_image r fixed files re fx n low in let y : None ≡ Some c = sym z ∙ e in cc)

  image_free : (n c : ℕ) → image_at fixed n ≡ Some c → Movable units n
  image_free n c e = elim (cases_lt n (own_tops r)) [
    | inl less ↦
        let o = top_at 0 (tops_of units) n (tops_numbers units) (omega arith) (omega arith) in
        subst (Movable units) o.2 (taken_free o.0 o.1 c (ap (image_at fixed) o.2 ∙ e))
    | inr low ↦ absurd (none_image n c e low)
  ]

  moving_free : (n : ℕ) → moves (free_rule r fixed) units n ≡ true → Movable units n
  moving_free n e =
      let o = moves_other units (free_rule r fixed) n 0 e in
      let two = free_two r fixed files re fx n o.used_by.top.number o.used_by.alike_is in
      ((alike_decides Apart units).decides n o.used_by.top.number two.alike_two).first

  gone_free : (n : ℕ) → m.gone n ≡ true → Movable units n
  gone_free n gone = by (image_at fixed n) refl gone where
    by : (o : Option ℕ) → image_at fixed n ≡ o → (is_some (image_at fixed n) || moves (free_rule r fixed) units n) ≡ true → Movable units n
    by (Some c) e h = image_free n c e
    by None e h = moving_free n (subst (λ (o : Option ℕ). (is_some o || moves (free_rule r fixed) units n) ≡ true) e h)

  -- an operand that names an entry of a top keeps the top where it is
  pub named_keeps : (n : ℕ) → is_named units n ≡ true → m.gone n ≡ false
  named_keeps n named = by (m.gone n) refl where
    by : (b : Bool) → m.gone n ≡ b → b ≡ false
    by false e = refl
    by true e =
        let free = gone_free n e in
        let none = not_named units free.top free.is_top (subst (Movable units) (sym free.number) free) in
        absurd (let z : true ≡ false = sym named ∙ ap (is_named units) (sym free.number) ∙ none in cc)

  -- ---- partial units of files

  top_free : (t : Top) → In t (tops_of units) → Movable units t.number → (d : Node EntryName) → EntryOfTop d t → (a : Attr EntryName) → In a d.attrs → IsFree a
  unfolding has
  top_free t there free d x a a_in =
      let one = free_attr units t there free d x a a_in in
      let form = or_left (has a.form binding_forms) (holds_place a.value || list_any (leaves (tops_of units) t.unit) a.value.refs) one in
      let rest = or_right (has a.form binding_forms) (holds_place a.value || list_any (leaves (tops_of units) t.unit) a.value.refs) one in
      record {
        expression = λ c. or_left (has_operand a.value.plain) a.value.address (or_left (holds_place a.value) (list_any (leaves (tops_of units) t.unit) a.value.refs) rest);
        offset = λ c. absurd (bound a.form 0x17 (offset_form a.form c) refl form);
        index = λ c. absurd (bound a.form 0x22 (list_form a.form c) refl form);
      }
    where
      bound : (f g : ℕ) → f ≡ g → has g binding_forms ≡ true → has f binding_forms ≡ false → ⊥
      bound f g same binds none = (let z : true ≡ false = sym binds ∙ ap (λ (x : ℕ). has x binding_forms) (sym same) ∙ none in cc)

  module _ (n : ℕ) (part : PartialUnit) (l : IsLocal docs common fixed p fx n part) where
    tops_free : (names : List (List ℕ)) (t : Top) → Has names (OfTop t) (m.rows n) → (d : Node EntryName) → EntryOfTop d t → (a : Attr EntryName) → In a d.attrs → IsFree a
    tops_free names t h d x a a_in =
        let there = in_part docs common fixed p fx n part l names t h in
        top_free t (tops_there docs common fixed p fx n part l t there) (moving_free t.number (top_moves docs common fixed p fx n part l t there)) d x a a_in

    spaces_free : (names : List (List ℕ)) (d : Node EntryName) → Has names (OfSpace d) (m.rows n) → (a : Attr EntryName) → In a d.attrs → IsFree a
    spaces_free names d h a a_in =
        let o = (part_row_is n part).spaces_are names d (subst (Has names (OfSpace d)) l.rows h) in
        elim (subst (λ (w : Node EntryName). In a w.attrs) o.is a_in) [
          | inl e ↦ subst IsFree e (record { expression = λ c. refl; offset = λ c. no_space_list; index = λ c. refl })
          | inr x ↦ absurd x
        ]

    line_name : (h : Home) → (line_in units h part.tops).name ≡ 0x10
    line_name Common = refl
    line_name (Local file) = by (first_named 0x10 (root_of units (first_unit part.tops))) where
      by : (o : Option (Attr EntryName)) → (line_of o).name ≡ 0x10
      by None = refl
      by (Some a) = refl
    line_name Stay = refl

    line_form : (h : Home) → (line_in units h part.tops).form ≡ 0x17
    line_form Common = refl
    line_form (Local file) = by (first_named 0x10 (root_of units (first_unit part.tops))) where
      by : (o : Option (Attr EntryName)) → (line_of o).form ≡ 0x17
      by None = refl
      by (Some a) = refl
    line_form Stay = refl

    root_free : Each IsFree (m.roots n)
    unfolding line_attrs
    root_free = subst (Each IsFree) (sym l.roots) (by (names_path part)) where
      class : class_of (line_in units part.home part.tops).form ≡ OfOffset
      class = ap class_of (line_form part.home) ∙ offset_class

      by : (b : Bool) → Each IsFree (elim b as (λ _. List (Attr EntryName)) [ true ↦ line_in units part.home part.tops ∷ [] | false ↦ [] ])
      by true = (
        record {
          expression = λ c. absurd (let z : OfExpression ≡ OfOffset = sym c ∙ class in cc);
          offset = λ c. ap names_list (line_name part.home) ∙ no_list;
          index = λ c. absurd (let z : OfListIndex ≡ OfOffset = sym c ∙ class in cc);
        },
        tt,
      )
      by false = tt

    asks : (from : From) (origin : Bases) (a : Attr EntryName) → CarriedAttr from origin a → IsFree a → AsksNone a
    asks from origin a read none = free a from origin read (record { expression = none.expression; offset = none.offset; index = none.index })

    -- none of its attributes asks for an entry or for room
    part_asks : (from : From) (origin : Bases) → CarriedUnit from origin (partial_unit m n) → UnitAsksNone (partial_unit m n)
    part_asks from origin carried =
        let below = tree (image_in m) (m.rows n) End in (
          join_attrs (CarriedAttr from origin) IsFree AsksNone (asks from origin) (m.roots n) carried.root.attrs root_free,
          join_entries (CarriedAttr from origin) IsFree AsksNone (asks from origin) below (carried_attrs from origin below carried.below)
              (new_attrs IsFree m n (local_kinds docs common fixed p fx n part l) (λ names t h d x a a_in. free_map (image_in m) a (tops_free names t h d x a a_in))
              (λ names d h a a_in. free_map (image_in m) a (spaces_free names d h a a_in))),
        )

  -- nor of the partial units of a file
  pub local_asks : (file : ℕ) (from : From) → Each (λ v. CarriedUnit from (origin_in m units v.at) v) (partial_units m (Local file) 0 m.parts) → Each UnitAsksNone (partial_units m (Local file) 0 m.parts)
  local_asks file from carried =
      let new = partial_units m (Local file) 0 m.parts in
      each_of UnitAsksNone new (λ v there.
      (let o = found_part m (Local file) 0 m.parts v there in
      let part = subst (λ (w : DwUnit EntryName). CarriedUnit from (origin_in m units w.at) w) (sym o.is) (each_in (λ w. CarriedUnit from (origin_in m units w.at) w) v new carried there) in
      subst UnitAsksNone o.is
      (part_asks o.number o.part (local_part docs common fixed p fx file o.number o.part o.nth o.home_is) from (origin_in m units (PartialOf o.number)) part)))
