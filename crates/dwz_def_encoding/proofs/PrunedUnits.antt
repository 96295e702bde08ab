-- Units of a file of whose texts only those stay that are used are sound, and say the same.
use Rattle.std.proofs.Common.{◌≡◌, ℕ, pos, suc, ◌<◌, ◌^◌, Bool, true, false, List, [], ◌∷◌, ◌++◌, length, map, Option, Some, None, refl, sym, ap, subst, ◌∙◌, arith, cond, eqb, eqb-true, is_some}
use Rattle.std.proofs.Common.{Contains, inl, inr}
use Rattle.dwz_def_reading.specs.Base.{Base}
use Rattle.dwz_def_reading.specs.Base.TheVariants.{Unit as FromUnit, Info as FromInfo}
use Rattle.dwz_def_reading.specs.Spelling.{SpellsFixed, reach}
use Rattle.dwz_def_reading.specs.Lists.{Each, In}
use Rattle.dwz_def_reading.specs.Parts.{StandsAt}
use Rattle.dwz_def_reading.specs.Pruning.{is_kept, new_number, pruned}
use Rattle.dwz_def_reading.specs.Texts.{IsSlot, IsTextAt, slot, slot_place, text_at}
use Rattle.dwz_def_reading.proofs.PruneLemmas.{length_kept, text_stays}
use Rattle.dwz_def_reading.proofs.TextLemmas.{here_slot, here_text, text_here}
use Rattle.dwz_def_reading.specs.Trees.{End, Entry}
use Rattle.dwz_def_reading.proofs.ListFacts.{in_cases, in_left, in_map, in_right}
use Rattle.dwz_def_reading.specs.Documents.{Attr, DwUnit, Entries, Part, Same}
use Rattle.dwz_def_reading.specs.Documents as document
use Rattle.dwz_def_reading.specs.Exprs.{parts_of}
use Rattle.dwz_def_tops.specs.Alike.{joined_parts}
use Rattle.dwz_def_reading.specs.Meanings.{IfSo}
use Rattle.dwz_def_reading.specs.Classes.{OfConstant, OfExpression, OfListIndex, OfOffset, OfTextBySlot, OfTextInStr, Class, class_of, names_file, names_list}
use Rattle.dwz_def_tops.proofs.Members.{in_filter}
use Rattle.dwz_def_encoding.specs.Fitting.{EachAttr}
use Rattle.dwz_def_encoding.specs.Meant.{AttrSays, EntriesSay, ExprSays, FileSays, KindSays, ListSays, NodeSays, OperandIn, OperandsIn, Own, SaysAs, SlotSays, Tells, UnitSays, UnitsSay, WasRead, own_of}
use Rattle.dwz_def_encoding.specs.Meant.{told_texts}
use Rattle.dwz_def_encoding.specs.Pruned.{AreNewSlots, AttrStays, HasNoStrp, StaysAs, UnitStays, all_uses, attr_uses, attrs_uses, entries_renumbered, entries_uses, number_in_slot, renumbered_attr}
use Rattle.dwz_def_encoding.specs.Pruned.{renumbered_node}
use Rattle.dwz_def_encoding.specs.Pruned.{renumbered_unit, renumbered_units, slot_after, known_slots, slot_uses, units_uses, with_texts}
use Rattle.dwz_def_encoding.specs.Sound.{SoundAttr, SoundEntries, SoundUnit}
use Rattle.dwz_def_encoding.specs.Placing.{with_form}
use Rattle.dwz_def_encoding.proofs.ChosenValues.{str_class}
use Rattle.dwz_def_encoding.proofs.ChosenTexts.{Good, place_less, strp_good}
use Rattle.dwz_def_encoding.proofs.NoStrp.{table_stays}
use Rattle.dwz_def_encoding.proofs.Renumbered.{own_renumbered}
use Rattle.dwz_def_encoding.proofs.StoredClasses.{strp_form}

-- a number that is one of them
pub in_contains : (n : ℕ) (ns : List ℕ) → In n ns → Contains ns n
in_contains n [] there = absurd there
in_contains n (m ∷ ns) (inl e) = (0, omega arith, e)
in_contains n (m ∷ ns) (inr r) = (let c = in_contains n ns r in (suc c.0, omega (arith, c.1), c.2))

yes_some : {A : Type 0} (o : Option A) (x : A) → o ≡ Some x → is_some o ≡ true
yes_some o x e = ap is_some e

-- the offset of a value of form strp is a use
use_of : {K : Type 0} (a : Attr K) → a.form ≡ 0x0e → In (reach a.raw) (attr_uses a)
use_of a e = subst (λ (b : Bool). In (reach a.raw) (cond b (reach a.raw ∷ []) [])) (sym (ap (λ (f : ℕ). eqb f 0x0e) e)) (inl refl)

-- ---- what is said of values that name no use

module _ {K : Type 0} (t : Tells K) (strs offsets : List ℕ) (own : Own K) where
  abbrev after : Tells K
  after = with_texts t strs offsets

  operand_after : (base : Base) (k : K) → OperandIn t own base k → OperandIn after own base k
  operand_after FromUnit k is = is
  operand_after FromInfo k is = is

  operands_after : (parts : List Part) (refs : List K) → OperandsIn t own parts refs → OperandsIn after own parts refs
  operands_after [] [] h = tt
  operands_after [] (k ∷ refs) h = absurd h
  operands_after (Same bytes ∷ parts) refs h = operands_after parts refs h
  operands_after (document.Operand width uleb base ∷ parts) [] h = absurd h
  operands_after (document.Operand width uleb base ∷ parts) (k ∷ refs) h = (operand_after base k h.0, operands_after parts refs h.1)

  expr_after : (a : Attr K) → ExprSays t own a → ExprSays after own a
  expr_after a h = record {
    context = h.context;
    expression = h.expression;
    start = h.start;
    bytes = h.bytes;
    spelled = h.spelled;
    plain = h.plain;
    address = h.address;
    operands = operands_after (parts_of h.expression) a.value.refs h.operands;
  }

  list_after : (a : Attr K) → ListSays t own a → ListSays after own a
  list_after a h = record {
    scope = h.scope;
    section = h.section;
    base = h.base;
    unit = h.unit;
    old = h.old;
    name = h.name;
    form = h.form;
    raw = h.raw;
    list = h.list;
    there = h.there;
    names = h.names;
    plain = h.plain;
    address = h.address;
    refs = h.refs;
    operands = operands_after (joined_parts (map parts_of h.list.list.exprs)) a.value.refs h.operands;
  }

  offset_after : (b : Bool) (a : Attr K) (Q : Type 0) → IfSo b (ListSays t own a) Q → IfSo b (ListSays after own a) Q
  offset_after true a Q h = list_after a h
  offset_after false a Q h = h

  -- a line table that has no text in `.debug_str`
  file_after : (o : Option ℕ) (a : Attr K) → ((place : ℕ) → o ≡ Some place → HasNoStrp (told_texts t) t.line place) → FileSays (told_texts t) t.line o a → FileSays (told_texts after) t.line o a
  file_after None a stays h = h
  file_after (Some place) a stays h = record {
    table = h.table;
    stands = table_stays (told_texts t) strs t.line place h.table h.stands (stays place refl h.table h.stands);
    path = h.path;
    is_path = h.is_path;
    value = h.value;
  }

-- ---- values

module _ {K : Type 0} (t : Tells K) (uses offsets places : List ℕ) (small : length t.strs < 2 ^ 32) (new : AreNewSlots (slot_after t.strs uses) places t.offsets offsets)
    (slots_used : (n : ℕ) → In n (slot_uses t.strs t.offsets places) → In n uses) where
  abbrev moved : Tells K
  moved = with_texts t (pruned t.strs uses) offsets

  abbrev number : ℕ → ℕ
  number = new_number t.strs uses

  few : length (pruned t.strs uses) < 2 ^ 32
  few = (let le = length_kept (is_kept t.strs uses) 0 t.strs in omega (arith, le, small))

  -- a text that is used stands at its new number
  text_moved : (at : ℕ) (text : List ℕ) → In at uses → IsTextAt t.strs at text → IsTextAt (pruned t.strs uses) (number at) text
  text_moved at text used stands =
      let found = here_text t.strs text at stands in
      text_here (pruned t.strs uses) text (number at) (text_stays t.strs uses at (in_contains at uses used) (yes_some (text_at t.strs at) text found) ∙ found)

  -- the number in a slot
  slot_number : (place n : ℕ) → (b : Bool) → cond b None (Some (number_in_slot t.offsets place)) ≡ Some n → number_in_slot t.offsets place ≡ n
  slot_number place n true e = absurd cc
  slot_number place n false e = cc

  slot_used : (base index n : ℕ) (text : List ℕ) → In (slot_place base index) places → IsSlot t.offsets base index n → IsTextAt t.strs n text → In n uses
  unfolding slot_uses
  slot_used base index n text there slot stands =
      let place = slot_place base index in
      let is : number_in_slot t.offsets place ≡ n = slot_number place n _ (here_slot t.offsets base index n slot) in
      let some = yes_some (text_at t.strs n) text (here_text t.strs text n stands) in
      slots_used n (in_filter (λ m. is_some (text_at t.strs m)) n (map (number_in_slot t.offsets) places)
      (subst (λ (m : ℕ). In m (map (number_in_slot t.offsets) places)) is (in_map (number_in_slot t.offsets) place places there)) some)

  module _ (own : Own K) where
    slot_moved : (a : Attr K) → ((base : ℕ) → own.bases.slots ≡ Some base → In (slot_place base (reach a.raw)) places) → SlotSays t own.bases.slots a → SlotSays moved own.bases.slots a
    slot_moved a stays h =
        let there = stays h.base h.is_base in
        let some = yes_some (text_at t.strs h.offset) h.text (here_text t.strs h.text h.offset h.stands) in
        let is : slot_after t.strs uses h.offset ≡ number h.offset = ap (λ (b : Bool). cond b (number h.offset) h.offset) some in
        record {
          base = h.base;
          is_base = h.is_base;
          offset = number h.offset;
          slot = subst (StandsAt (SpellsFixed 4) offsets (slot_place h.base (reach a.raw))) is (new.slots (slot_place h.base (reach a.raw)) h.offset there h.slot);
          text = h.text;
          stands = text_moved h.offset h.text (slot_used h.base (reach a.raw) h.offset h.text there h.slot h.stands) h.stands;
          value = h.value;
        }

    constant_moved : (b : Bool) (a : Attr K) → names_file a.name ≡ b → StaysAs OfConstant (told_texts t) t.line places own.bases a.name (reach a.raw)
        → IfSo b (FileSays (told_texts t) t.line own.bases.line a) (WasRead a) → IfSo b (FileSays (told_texts moved) t.line own.bases.line a) (WasRead a)
    constant_moved true a e stays h = file_after t (pruned t.strs uses) offsets own own.bases.line a (stays e) h
    constant_moved false a e stays h = h

    says_moved : (c : Class) (a : Attr K) → (c ≡ OfTextInStr → ⊥) → StaysAs c (told_texts t) t.line places own.bases a.name (reach a.raw) → SaysAs c t own a → SaysAs c moved own a
    says_moved OfTextInStr a other stays h = absurd (other refl)
    says_moved OfTextBySlot a other stays h = slot_moved a stays h
    says_moved OfExpression a other stays h = expr_after t (pruned t.strs uses) offsets own a h
    says_moved OfOffset a other stays h = offset_after t (pruned t.strs uses) offsets own (names_list a.name) a _ h
    says_moved OfListIndex a other stays h = list_after t (pruned t.strs uses) offsets own a h
    says_moved OfConstant a other stays h = constant_moved (names_file a.name) a refl stays h
    says_moved _ a other stays h = h

    attr_moved : (a : Attr K) → (a.form ≡ 0x0e → In (reach a.raw) uses) → AttrStays (told_texts t) t.line places own.bases a → SoundAttr a → AttrSays t own a
        → Good moved own (renumbered_attr number a)
    attr_moved a used stays sound says = by (eqb a.form 0x0e) refl where
      by : (b : Bool) → eqb a.form 0x0e ≡ b → Good moved own (cond b (with_form a (record { form = 0x0e; raw = pos (number (reach a.raw)) })) a)
      by true e =
          let form = eqb-true a.form 0x0e e in
          let h = subst (λ (c : Class). SaysAs c t own a) (ap class_of form ∙ str_class) says in
          let stands = text_moved (reach a.raw) h.text (used form) h.stands in
          strp_good moved own a h.text h.value sound (number (reach a.raw)) (place_less moved own a h.text h.value sound (pruned t.strs uses) (number (reach a.raw)) few stands) stands
      by false e = record {
        sound = sound;
        says = says_moved (class_of a.form) a (λ c. (let yes : eqb a.form 0x0e ≡ true = ap (λ (f : ℕ). eqb f 0x0e) (strp_form a.form c) in cc)) stays says;
      }

    record GoodAttrs (attrs : List (Attr K)) : Type 0 where
      sound : Each SoundAttr attrs
      says : Each (AttrSays moved own) attrs

    attrs_moved : (attrs : List (Attr K)) → ((n : ℕ) → In n (attrs_uses attrs) → In n uses) → Each (AttrStays (told_texts t) t.line places own.bases) attrs → Each SoundAttr attrs
        → Each (AttrSays t own) attrs
        → GoodAttrs (map (renumbered_attr number) attrs)
    unfolding attrs_uses
    attrs_moved [] used stays sound says = record { sound = tt; says = tt }
    attrs_moved (a ∷ attrs) used stays sound says =
        let one = attr_moved a (λ e. used (reach a.raw) (in_left (reach a.raw) (attr_uses a) (attrs_uses attrs) (use_of a e))) stays.0 sound.0 says.0 in
        let rest = attrs_moved attrs (λ n there. used n (in_right n (attr_uses a) (attrs_uses attrs) there)) stays.1 sound.1 says.1 in
        record { sound = (one.sound, rest.sound); says = (one.says, rest.says) }

    record GoodEntries (g : Entries K) : Type 0 where
      sound : SoundEntries g
      says : EntriesSay moved own g

    entries_moved : (g : Entries K) → ((n : ℕ) → In n (entries_uses g) → In n uses) → EachAttr (AttrStays (told_texts t) t.line places own.bases) g → SoundEntries g
        → EntriesSay t own g → GoodEntries (entries_renumbered number g)
    unfolding entries_uses entries_renumbered
    entries_moved End used stays sound says = record { sound = tt; says = tt }
    entries_moved (Entry e children next) used stays sound says =
        let rest = entries_uses children ++ entries_uses next in
        let one = attrs_moved e.attrs (λ n there. used n (in_left n (attrs_uses e.attrs) rest there)) stays.0 sound.0.attrs says.0 in
        let a = entries_moved children (λ n there. used n (in_right n (attrs_uses e.attrs) rest (in_left n (entries_uses children) (entries_uses next) there))) stays.1 sound.1 says.1 in
        let b = entries_moved next (λ n there. used n (in_right n (attrs_uses e.attrs) rest (in_right n (entries_uses children) (entries_uses next) there))) stays.2 sound.2 says.2 in
        record { sound = (record { some_tag = sound.0.some_tag; tag_fits = sound.0.tag_fits; attrs = one.sound }, a.sound, b.sound); says = (one.says, a.says, b.says) }

  unit_moved : (u : DwUnit K) → ((n : ℕ) → In n (attrs_uses u.root.attrs ++ entries_uses u.below) → In n uses) → UnitStays (told_texts t) t.line places u → SoundUnit u → UnitSays t u
      → SoundUnit (renumbered_unit number u) × UnitSays moved (renumbered_unit number u)
  unit_moved u used stays sound says =
      let same = own_renumbered number u in
      let root = attrs_moved (own_of u) u.root.attrs (λ n there. used n (in_left n (attrs_uses u.root.attrs) (entries_uses u.below) there)) stays.0 sound.root.attrs says.root in
      let below = entries_moved (own_of u) u.below (λ n there. used n (in_right n (attrs_uses u.root.attrs) (entries_uses u.below) there)) stays.1 sound.below says.below in (
        record { kind = sound.kind; root = record { some_tag = sound.root.some_tag; tag_fits = sound.root.tag_fits; attrs = root.sound }; below = below.sound },
        record {
          kind = subst (λ (w : Own K). KindSays w.keys u.kind) same says.kind;
          root = subst (λ (w : Own K). NodeSays moved w (renumbered_node number u.root)) same root.says;
          below = subst (λ (w : Own K). EntriesSay moved w (entries_renumbered number u.below)) same below.says;
        },
      )

  each_moved : (units : List (DwUnit K)) → ((n : ℕ) → In n (units_uses units) → In n uses) → Each (UnitStays (told_texts t) t.line places) units → Each SoundUnit units → UnitsSay t units
      → Each SoundUnit (map (renumbered_unit number) units) × UnitsSay moved (map (renumbered_unit number) units)
  unfolding units_uses
  each_moved [] used stays sound says = (tt, tt)
  each_moved (u ∷ units) used stays sound says =
      let here = attrs_uses u.root.attrs in
      let rest = entries_uses u.below ++ units_uses units in
      let one = unit_moved u (λ n there. used n (elim (in_cases n here (entries_uses u.below) there) [
        | inl a ↦ in_left n here rest a
        | inr b ↦ in_right n here rest (in_left n (entries_uses u.below) (units_uses units) b)
      ])) stays.0 sound.0 says.0 in
      let others = each_moved units (λ n there. used n (in_right n here rest (in_right n (entries_uses u.below) (units_uses units) there))) stays.1 sound.1 says.1 in
      ((one.0, others.0), (one.1, others.1))

-- the units of a file, with all its uses
pub units_pruned : {K : Type 0} (t : Tells K) (units : List (DwUnit K)) (offsets : List ℕ) → length t.strs < 2 ^ 32
    → AreNewSlots (slot_after t.strs (all_uses t.strs t.offsets units)) (known_slots t.offsets) t.offsets offsets → Each (UnitStays (told_texts t) t.line (known_slots t.offsets)) units
    → Each SoundUnit units → UnitsSay t units
    → Each SoundUnit (renumbered_units (new_number t.strs (all_uses t.strs t.offsets units)) units)
    × UnitsSay (with_texts t (pruned t.strs (all_uses t.strs t.offsets units)) offsets) (renumbered_units (new_number t.strs (all_uses t.strs t.offsets units)) units)
unfolding renumbered_units
units_pruned t units offsets small new stays sound says =
    let here = units_uses units in
    let slots = slot_uses t.strs t.offsets (known_slots t.offsets) in
    each_moved t (all_uses t.strs t.offsets units) offsets (known_slots t.offsets) small new (λ n there. in_right n here slots there) units (λ n there. in_left n here slots there) stays sound says
