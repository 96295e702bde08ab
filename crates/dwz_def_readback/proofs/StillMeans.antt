-- Units of a file that means them by itself mean the same with other places, and beside a common file.
use Rattle.std.proofs.Common.{◌≡◌, ℕ, ℤ, Bool, true, false, List, [], ◌∷◌, map, Option, Some, None, refl, sym, ap, subst, ◌∙◌}
use Rattle.dwz_def_reading.specs.Lists.{In}
use Rattle.dwz_def_reading.specs.Base.{Base}
use Rattle.dwz_def_reading.specs.Base.TheVariants.{Unit as FromUnit, Info as FromInfo}
use Rattle.dwz_def_reading.specs.Entries.{RawAttr, RawEntry}
use Rattle.dwz_def_reading.specs.Rows.{has}
use Rattle.dwz_def_reading.specs.Trees.{End, Entry, Forest}
use Rattle.dwz_def_reading.specs.Units.{CompileUnit, PartialUnit, RawKind, RawUnit, TypeUnit}
use Rattle.dwz_def_reading.specs.declared.exprs.Operand.{Operand}
use Rattle.dwz_def_reading.specs.Documents.{Attr, DwUnit, Entries, Expr, File, Kind, Loc, Node, Plain, Sec, Text, Value, attr_map, entries_map, kind_map, node_map, only, ref, unit_map, value_map}
use Rattle.dwz_def_reading.specs.Exprs.{ExprContext, SpellsExpr, parts_of}
use Rattle.dwz_def_reading.specs.LocLists.{SpellsList}
use Rattle.dwz_def_reading.specs.Sequences.{StandsFrom}
use Rattle.dwz_def_reading.specs.Meanings.{Around, Common, IfSo, IsCommonEntry, IsExpression, IsFileBy, IsLocList, IsTextIn, MeanAttrs, MeanEntries, MeanUnits, MeansAs, MeansKind, MeansNode}
use Rattle.dwz_def_reading.specs.Classes.{OfAddress, OfBlock}
use Rattle.dwz_def_reading.specs.Classes.{Class}
use Rattle.dwz_def_reading.specs.Classes.{OfCommonEntry, OfCommonText, OfConstant, OfExpression, OfFlag, OfIndex, OfInfoEntry, OfListIndex, OfOffset, OfSignature, OfText, OfTextBySlot, OfTextInLineStr}
use Rattle.dwz_def_reading.specs.Meanings.{MeaningContext, any_with_address, block_begins, bytes_of, constant_value, entries_for, expr_context, leads_to, number_of}
use Rattle.dwz_def_reading.specs.Classes.{OfTextInStr, OfUnitEntry, Unread}
use Rattle.dwz_def_reading.specs.Classes.{class_of, names_file, names_list}
use Rattle.dwz_def_reading.specs.Meanings.{offset_of, scope_of, stmt_list, target_of, targets, without_siblings}
use Rattle.dwz_def_reading.specs.Shared.{operands_of}
use Rattle.dwz_def_reading.specs.Texts.{IsTextAt}

-- the same sections, with other places, and beside a common file
abbrev pub beside : {P Q : Type 0} → (P → Q) → Option (Common Q) → Around P → Around Q
beside f common around = record { sources = around.sources; all = around.all; place = λ n. f (around.place n); common = common }

-- the one common file gives what the other does, with other places
pub record GivesAs {P Q : Type 0} (f : P → Q) (c : Common P) (d : Common Q) : Type 0 where
  pub entries : d.entries ≡ c.entries
  pub place : (n : ℕ) → d.place n ≡ f (c.place n)
  pub strs : d.strs ≡ c.strs

-- where there was one, there is such a one
abbrev pub GivesStill : {P Q : Type 0} → (P → Q) → Option (Common P) → Option (Common Q) → Type 0
GivesStill {P} {Q} f old new = (c : Common P) → old ≡ Some c → (d : Common Q) × (new ≡ Some d) × GivesAs f c d

pub no_common : {P Q : Type 0} (f : P → Q) (old : Option (Common P)) (new : Option (Common Q)) → old ≡ None → GivesStill f old new
no_common f old new none c e = absurd (let no_ = sym none ∙ e in cc)

module _ {P Q : Type 0} (f : P → Q) (common : Option (Common Q)) (s : MeaningContext P) (gives : GivesStill f s.around.common common) where
  abbrev pub there : MeaningContext Q
  there = record { around = beside f common s.around; unit = s.unit; root = s.root; own = s.own }

  entry_there : (p : ℕ) (v : Value P) → IsCommonEntry s p v → IsCommonEntry there p (value_map f v)
  entry_there p v h =
      let o = gives h.0 h.1 in (o.0, o.1, (subst (In p) (sym o.2.entries) h.2.0, ap (λ (w : Value P). value_map f w) h.2.1 ∙ ap (λ (q : Q). ref q) (sym (o.2.place p))))

  only_there : (p : Plain) (v : Value P) → v ≡ only p → value_map f v ≡ only p
  only_there p v e = ap (λ (w : Value P). value_map f w) e

  same_leads : (base : Base) (n : ℕ) → leads_to s base n ≡ leads_to there base n
  same_leads FromUnit n = refl
  same_leads FromInfo n = refl

  same_entries : (base : Base) → entries_for s base ≡ entries_for there base
  same_entries FromUnit = refl
  same_entries FromInfo = refl

  same_context : (section : ℕ) → expr_context s section ≡ expr_context there section
  same_context section = λ i. record { section = section; names = λ o. has (same_leads o.base o.number i) (same_entries o.base i) }

  same_targets : (os : List Operand) → targets there os ≡ map f (targets s os)
  same_targets [] = refl
  same_targets (o ∷ os) =
      ap (λ (n : ℕ). f (s.around.place n) ∷ targets there os) (sym (same_leads o.base o.number)) ∙ ap (λ (w : List Q). f (s.around.place (target_of s o)) ∷ w) (same_targets os)

  expr_there : (a : RawAttr) (v : Value P) → IsExpression s a v → IsExpression there a (value_map f v)
  expr_there a v h =
      let plain : Plain = Expr (parts_of h.expression) in
      record {
        expression = h.expression;
        spelled = subst (λ (c : ExprContext). SpellsExpr c h.expression (block_begins a) (bytes_of a.raw)) (same_context 1) h.spelled;
        value = ap (λ (w : Value P). value_map f w) h.value ∙ sym (ap (λ (w : List Q). record { plain = plain; refs = w; address = h.expression.address }) (same_targets h.expression.operands));
      }

  list_there : (place : ℕ) (v : Value P) → IsLocList s place v → IsLocList there place (value_map f v)
  list_there place v h =
      let plain : Plain = Loc (map parts_of h.list.exprs) in
      record {
        list = h.list;
        within = h.within;
        stands = subst (λ (c : ExprContext). StandsFrom (SpellsList c) s.around.sources.lists place h.list) (same_context 7) h.stands;
        value = ap (λ (w : Value P). value_map f w) h.value ∙ sym (ap (λ (w : List Q). record { plain = plain; refs = w; address = any_with_address h.list.exprs }) (same_targets (operands_of h.list.exprs)));
      }

  text_there : (section : List ℕ) (offset : ℕ) (v : Value P) → IsTextIn section offset v → IsTextIn section offset (value_map f v)
  text_there section offset v h = record { text = h.text; stands = h.stands; value = only_there (Text h.text) v h.value }

  file_there : (o : Option ℕ) (number : ℤ) (v : Value P) → IsFileBy o s number v → IsFileBy o there number (value_map f v)
  file_there None number v h = (h.0, only_there (File None) v h.1)
  file_there (Some place) number v h = record { table = h.table; stands = h.stands; path = h.path; is_path = h.is_path; value = only_there (File (Some h.path)) v h.value }

  constant_there : (b : Bool) (a : RawAttr) (v : Value P) → IfSo b (IsFileBy (stmt_list s) s (number_of a.raw) v) (v ≡ constant_value a)
      → IfSo b (IsFileBy (stmt_list s) there (number_of a.raw) (value_map f v)) (value_map f v ≡ constant_value a)
  constant_there true a v h = file_there (stmt_list s) (number_of a.raw) v h
  constant_there false a v h = ap (λ (w : Value P). value_map f w) h

  offset_there : (b : Bool) (a : RawAttr) (v : Value P) → IfSo b (IsLocList s (offset_of a) v) (v ≡ only (Sec (offset_of a)))
      → IfSo b (IsLocList there (offset_of a) (value_map f v)) (value_map f v ≡ only (Sec (offset_of a)))
  offset_there true a v h = list_there (offset_of a) v h
  offset_there false a v h = ap (λ (w : Value P). value_map f w) h

  pub as_there : (c : Class) (a : RawAttr) (v : Value P) → MeansAs c s a v → MeansAs c there a (value_map f v)
  as_there OfAddress a v h = ap (λ (w : Value P). value_map f w) h
  as_there OfBlock a v h = ap (λ (w : Value P). value_map f w) h
  as_there OfConstant a v h = constant_there (names_file a.pair.name) a v h
  as_there OfFlag a v h = ap (λ (w : Value P). value_map f w) h
  as_there OfText a v h = ap (λ (w : Value P). value_map f w) h
  as_there OfTextInStr a v h = text_there s.around.sources.strs (offset_of a) v h
  as_there OfTextInLineStr a v h = text_there s.around.sources.line_strs (offset_of a) v h
  as_there OfTextBySlot a v h = record { base = h.base; is_base = h.is_base; offset = h.offset; slot = h.slot; text = text_there s.around.sources.strs h.offset v h.text }
  as_there OfUnitEntry a v h = (h.0, ap (λ (w : Value P). value_map f w) h.1)
  as_there OfInfoEntry a v h = (h.0, ap (λ (w : Value P). value_map f w) h.1)
  as_there OfSignature a v h = ap (λ (w : Value P). value_map f w) h
  as_there OfOffset a v h = offset_there (names_list a.pair.name) a v h
  as_there OfExpression a v h = expr_there a v h
  as_there OfListIndex a v h = record { base = h.base; is_base = h.is_base; offset = h.offset; slot = h.slot; list = list_there _ v h.list }
  as_there OfIndex a v h = ap (λ (w : Value P). value_map f w) h
  as_there OfCommonEntry a v h = entry_there (offset_of a) v h
  as_there OfCommonText a v h =
      let o = gives h.0 h.1 in
      (o.0, o.1, record { text = h.2.text; stands = subst (λ (w : List ℕ). IsTextAt w (offset_of a) h.2.text) (sym o.2.strs) h.2.stands; value = only_there (Text h.2.text) v h.2.value })
  as_there Unread a v h = absurd h

  attrs_there : (raw : List RawAttr) (attrs : List (Attr P)) → MeanAttrs s raw attrs → MeanAttrs there raw (map (attr_map f) attrs)
  attrs_there [] [] h = tt
  attrs_there (a ∷ raw) (b ∷ attrs) h = (record { name = h.0.name; form = h.0.form; raw = h.0.raw; value = as_there (class_of a.pair.form) a b.value h.0.value }, attrs_there raw attrs h.1)
  attrs_there [] (b ∷ attrs) h = absurd h
  attrs_there (a ∷ raw) [] h = absurd h

  node_there : (e : RawEntry) (d : Node P) → MeansNode s e d → MeansNode there e (node_map f d)
  node_there e d h = record { place = ap f h.place; tag = h.tag; attrs = attrs_there (without_siblings e.attrs) d.attrs h.attrs }

  entries_there : (k : Forest RawEntry) (g : Entries P) → MeanEntries s k g → MeanEntries there k (entries_map f g)
  unfolding entries_map
  entries_there End End h = tt
  entries_there (Entry e k k') (Entry d g g') h = (node_there e d h.0, entries_there k g h.1, entries_there k' g' h.2)
  entries_there End (Entry d g g') h = absurd h
  entries_there (Entry e k k') End h = absurd h

  kind_there : (k : RawKind) (m : Kind P) → MeansKind s k m → MeansKind there k (kind_map f m)
  kind_there CompileUnit m h = ap (kind_map f) h
  kind_there PartialUnit m h = ap (kind_map f) h
  kind_there (TypeUnit signature type_offset) m h = (h.0, ap (kind_map f) h.1)

pub units_there : {P Q : Type 0} (f : P → Q) (common : Option (Common Q)) (around : Around P) → around.common ≡ None → (raw : List RawUnit) (units : List (DwUnit P)) → MeanUnits around raw units
    → MeanUnits (beside f common around) raw (map (unit_map f) units)
units_there f common around none [] [] h = tt
units_there f common around none (u ∷ raw) (v ∷ units) h =
    let s = scope_of around u in
    let gives = no_common f around.common common none in (
      record {
        place = ap f h.0.place;
        kind = kind_there f common s gives u.kind v.kind h.0.kind;
        root = node_there f common s gives u.root v.root h.0.root;
        below = entries_there f common s gives u.below v.below h.0.below;
      },
      units_there f common around none raw units h.1,
    )
units_there f common around none [] (v ∷ units) h = absurd h
units_there f common around none (u ∷ raw) [] h = absurd h
