-- What moves has no form that binds: neither tops of partial units, nor their spaces.
use Rattle.std.proofs.Common.{◌≡◌, ◌||◌, ℕ, Bool, true, false, List, Some, None, refl, sym, ap, subst, ◌∙◌, inl, inr}
use Rattle.std.specs.List.{list_any}
use Rattle.dwz_def_reading.specs.Rows.{has}
use Rattle.dwz_def_reading.specs.Lists.{In, Nth}
use Rattle.dwz_def_reading.specs.Classes.{Class, OfAddress, OfBlock, OfCommonEntry, OfCommonText, OfConstant, OfExpression, OfFlag, OfIndex, OfInfoEntry, OfListIndex, OfOffset, OfSignature}
use Rattle.dwz_def_reading.specs.Classes.{OfText, OfTextBySlot, OfTextInLineStr, OfTextInStr, OfUnitEntry, Unread, class_of, names_list}
use Rattle.dwz_def_reading.specs.Documents.{Attr, Node, Sec, Text, Value, only}
use Rattle.dwz_def_reading.specs.Entries.{RawAttr}
use Rattle.dwz_def_reading.specs.Meanings.{IfSo, IsLocList, MeaningContext, MeansAs, offset_of}
use Rattle.dwz_def_reading.specs.Modes.{binding_forms}
use Rattle.dwz_def_reading.proofs.CaseFacts.{or_left}
use Rattle.dwz_def_tops.specs.Alike.{IsAlike, Movable, TopScope, holds_place, leaves}
use Rattle.dwz_def_tops.specs.Spaces.{text_of_plain}
use Rattle.dwz_def_tops.specs.Spots.{EntryName, FileUnit, SpaceName, Top, tops_of}
use Rattle.dwz_def_tops.proofs.Targets.{free_attr}
use Rattle.dwz_def_images.specs.Homes.{IsChoice, Rule, is_home}
use Rattle.dwz_def_images.specs.IsPlan.{Has, OfSpace, OfTop}
use Rattle.dwz_def_images.specs.Moves.{Move, plan}
use Rattle.dwz_def_images.specs.Plan.{PartialUnit, part_row}
use Rattle.dwz_def_images.proofs.PartRows.{part_is as part_row_is}
use Rattle.dwz_def_images.proofs.StandLemmas.{fair}
use Rattle.dwz_def_images.proofs.UserLemmas.{moves_self}
use Rattle.dwz_def_images.specs.Held.{IsHeld, Kinded}
use Rattle.dwz_def_images.specs.Units.{partial_unit}
use Rattle.dwz_def_images.proofs.HeldLemmas.{row_found}
use Rattle.dwz_def_images.proofs.NodeLemmas.{EntryOfTop}
use Rattle.dwz_def_encoding.specs.Bases.{Bases, bases_in}
use Rattle.dwz_def_encoding.specs.Carried.{CarriedUnit, From}
use Rattle.dwz_def_encoding.specs.Fitting.{EachAttr}
use Rattle.dwz_def_readback.specs.Files.{bases_at}
use Rattle.dwz_def_readback.proofs.AttrLemmas.{new_attrs}
use Rattle.dwz_def_readback.proofs.HomeLemmas.{part_is}
use Rattle.dwz_def_readback.proofs.SpaceLemmas.{NameCarried, top_names}
use Rattle.dwz_law_cross.proofs.ChosenForms.{IsUnbound, bound_class, is_binding}

-- ---- the name of a space

module _ {P : Type 0} (s : MeaningContext P) (a : RawAttr) (v : Value P) where
  offset_text : (b : Bool) → IfSo b (IsLocList s (offset_of a) v) (v ≡ only (Sec (offset_of a))) → text_of_plain v.plain ≡ None
  offset_text true h = ap (λ (w : Value P). text_of_plain w.plain) h.value
  offset_text false h = ap (λ (w : Value P). text_of_plain w.plain) h

  no_text : (c : Class) → is_binding c ≡ true → MeansAs c s a v → text_of_plain v.plain ≡ None
  no_text OfAddress is h = ap (λ (w : Value P). text_of_plain w.plain) h
  no_text OfOffset is h = offset_text (names_list a.pair.name) h
  no_text OfListIndex is h = ap (λ (w : Value P). text_of_plain w.plain) h.list.value
  no_text OfIndex is h = ap (λ (w : Value P). text_of_plain w.plain) h
  no_text OfBlock is h = absurd cc
  no_text OfConstant is h = absurd cc
  no_text OfFlag is h = absurd cc
  no_text OfText is h = absurd cc
  no_text OfTextInStr is h = absurd cc
  no_text OfTextInLineStr is h = absurd cc
  no_text OfTextBySlot is h = absurd cc
  no_text OfUnitEntry is h = absurd cc
  no_text OfInfoEntry is h = absurd cc
  no_text OfSignature is h = absurd cc
  no_text OfExpression is h = absurd cc
  no_text OfCommonEntry is h = absurd cc
  no_text OfCommonText is h = absurd cc
  no_text Unread is h = absurd cc

module _ (from : From) (origin : Bases) (s : SpaceName) where
  abbrev named : Attr EntryName
  named = record { name = 0x03; form = s.form; raw = s.raw; value = only (Text s.text) }

  name_free : NameCarried from origin s → (b : Bool) → has s.form binding_forms ≡ b → b ≡ false
  unfolding has
  name_free h false e = refl
  name_free (inl came) true e =
      let w = came.was_read in
      let form : w.old.pair.form ≡ s.form = sym w.means.form ∙ sym (ap (λ (b : Attr EntryName). b.form) w.same) in
      let none = no_text w.scope w.old w.read.value (class_of w.old.pair.form) (ap (λ (n : ℕ). is_binding (class_of n)) form ∙ bound_class s.form e) w.means.value in
      let text : Some s.text ≡ text_of_plain w.read.value.plain = ap (λ (b : Attr EntryName). text_of_plain b.value.plain) w.same in
      absurd (let both : Some s.text ≡ None = text ∙ none in cc)
  name_free (inr (inl i)) true e = (let z : true ≡ false = sym e ∙ ap (λ (n : ℕ). has n binding_forms) i.form in absurd cc)
  name_free (inr (inr l)) true e = absurd (let z : Some s.text ≡ None = ap (λ (v : Value EntryName). text_of_plain v.plain) l.value in cc)

-- ---- partial units

-- a partial unit that holds movable tops
module _ (units : List (FileUnit EntryName)) (m : Move) (n : ℕ) (part : PartialUnit) (kinds : Kinded (m.rows n)) (rows : m.rows n ≡ part_row n part)
    (movable : (t : Top) → In t part.tops → In t (tops_of units) × Movable units t.number)
    (read : (t : Top) → In t part.tops → (from : From) × ((i : ℕ) (u : FileUnit EntryName) → Nth 0 units i u → u.file ≡ t.file → CarriedUnit from (bases_in u.unit) u.unit)) where
  tops_free : (names : List (List ℕ)) (t : Top) → Has names (OfTop t) (m.rows n) → (d : Node EntryName) → EntryOfTop d t → (a : Attr EntryName) → In a d.attrs → IsUnbound a
  tops_free names t h d x a a_in =
      let is = movable t (((part_row_is n part).tops_are names t).0 (subst (Has names (OfTop t)) rows h)).0 in
      or_left (has a.form binding_forms) (holds_place a.value || list_any (leaves (tops_of units) t.unit) a.value.refs) (free_attr units t is.0 is.1 d x a a_in)

  spaces_free : (names : List (List ℕ)) (d : Node EntryName) → Has names (OfSpace d) (m.rows n) → (a : Attr EntryName) → In a d.attrs → IsUnbound a
  spaces_free names d h a a_in =
      let o = (part_row_is n part).spaces_are names d (subst (Has names (OfSpace d)) rows h) in
      let r = read o.top o.there in
      let carried = top_names r.0 units o.top (movable o.top o.there).0 r.1 o.name o.from in
      elim (subst (λ (w : Node EntryName). In a w.attrs) o.is a_in) [
        | inl e ↦ subst (λ (w : Attr EntryName). IsUnbound w) e (name_free r.0 (bases_at units o.top.unit) o.name carried (has o.name.form binding_forms) refl)
        | inr x ↦ absurd x
      ]

  -- none of the attributes below its root binds
  pub held_free : EachAttr IsUnbound (partial_unit m n).below
  held_free = new_attrs IsUnbound m n kinds (λ names t h d x a a_in. tops_free names t h d x a a_in) (λ names d h a a_in. spaces_free names d h a a_in)

-- such are the partial units of a plan
module _ (scope : TopScope) (units : List (FileUnit EntryName)) (rule : Rule) (is : IsAlike scope units rule.alike) (choice : IsChoice units rule) (files : List ℕ)
    (held : IsHeld units (plan rule units files))
    (read : (t : Top) → In t (tops_of units) → (from : From) × ((i : ℕ) (u : FileUnit EntryName) → Nth 0 units i u → u.file ≡ t.file → CarriedUnit from (bases_in u.unit) u.unit)) where
  top_there : (n : ℕ) (part : PartialUnit) → Nth 0 (plan rule units files).parts n part → (t : Top) → In t part.tops → In t (tops_of units) × Movable units t.number
  top_there n part nth t in_tops =
      let p = part_is scope units rule is choice files n part nth in
      let b = (p.tops t).0 in_tops in
      (b.there, (is.decides t.number t.number (moves_self units rule (fair scope units rule is choice) t.number (ap is_home b.home ∙ p.moves))).first)

  pub part_free : (n : ℕ) (part : PartialUnit) → Nth 0 (plan rule units files).parts n part → EachAttr IsUnbound (partial_unit (plan rule units files) n).below
  part_free n part nth =
      held_free units (plan rule units files) n part (held.kinds n part nth) (row_found rule units files n part nth) (top_there n part nth) (λ t in_tops. read t (top_there n part nth t in_tops).0)
