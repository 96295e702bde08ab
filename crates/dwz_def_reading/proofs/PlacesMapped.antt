-- What units mean doesn't depend on what stands for places: with other places they mean the same with these.
use Rattle.std.proofs.Common.{◌≡◌, ℕ, ◌+◌, ◌<◌, Bool, true, false, cond, ltb, List, [], ◌∷◌, length, map, Option, Some, None, Result, Ok, Err, refl, ap, ◌∙◌, arith, inl, inr}
use Rattle.std.proofs.lemmas.Bool.{ltb-true}
use Rattle.dwz_model.specs.declared.fault.Fault.{Fault}
use Rattle.dwz_model.specs.declared.fault.Reason.TheVariants.{BadFile, BadList, BadReference}
use Rattle.dwz_model.specs.declared.place.Base.{Base}
use Rattle.dwz_model.specs.declared.place.Base.TheVariants.{Unit as FromUnit, Info as FromInfo}
use Rattle.dwz_model.specs.Lists.{Each, In}
use Rattle.dwz_model.proofs.ListFacts.{in_left, in_right}
use Rattle.dwz_bytes.specs.Input.{Input}
use Rattle.dwz_bytes.specs.Reading.{◌>>=◌}
use Rattle.dwz_def_reading.specs.declared.exprs.Operand.{Operand}
use Rattle.dwz_def_reading.specs.Classes.{Class, class_of, names_file, names_list}
use Rattle.dwz_def_reading.specs.Classes.{OfAddress, OfBlock, OfCommonEntry, OfCommonText, OfConstant, OfExpression, OfFlag, OfIndex, OfInfoEntry, OfListIndex, OfOffset, OfSignature, OfText, OfTextBySlot}
use Rattle.dwz_def_reading.specs.Classes.{OfTextInLineStr, OfTextInStr, OfUnitEntry, Unread}
use Rattle.dwz_def_reading.specs.Documents.{Expr, File, Loc, OfType, Plain, Sec, attr_map, entries_map, kind_map, node_map, only, ref, unit_map, value_map}
use Rattle.dwz_def_reading.specs.Entries.{RawAttr, RawEntry}
use Rattle.dwz_def_reading.specs.Exprs.{AreNamed, ExprContext, Expression, expr_at, parts_of}
use Rattle.dwz_def_reading.specs.Faults.{info_fault, map_ok}
use Rattle.dwz_def_reading.specs.LineTables.{FileTable, file_table_at}
use Rattle.dwz_def_reading.specs.LocLists.{LocList, list_at}
use Rattle.dwz_def_reading.specs.Meanings.{Around, Common, MeaningContext, any_with_address, block_begins, bytes_of, constant_value, entries_for, expr_context, has, leads_to}
use Rattle.dwz_def_reading.specs.Meanings.{loclists_base, number_of, offset_of, path_by, places_in, places_of, scope_of, stmt_list, str_offsets_base, target_of, targets, text_sections_of, without_siblings}
use Rattle.dwz_def_reading.specs.Meant.{as_class, attrs_meaning, common_entry, common_text, entries_meaning, entry_among, expr_meaning, expr_said, file_by, is_zero, kind_meaning, list_by, list_from}
use Rattle.dwz_def_reading.specs.Meant.{list_meaning, list_read, loc_said, meaning, node_meaning, path_or, row_of_table, text_by, text_from, text_or, type_offset_at, unit_meaning, units_meaning}
use Rattle.dwz_def_reading.specs.OtherPlaces.{AreCommonMapped, AreMapped, LiesBelow}
use Rattle.dwz_def_reading.specs.Sequences.{read_from}
use Rattle.dwz_def_reading.specs.Shared.{operands_of}
use Rattle.dwz_def_reading.specs.Texts.{slot, text_at}
use Rattle.dwz_def_reading.specs.Trees.{End, Entry, Forest}
use Rattle.dwz_def_reading.specs.Units.{CompileUnit, PartialUnit, RawKind, RawUnit, TypeUnit}
use Rattle.dwz_def_reading.proofs.ExprLemmas.{expr_agrees}
use Rattle.dwz_def_reading.proofs.LocListLemmas.{list_reads, stands_agree}
use Rattle.dwz_def_reading.proofs.MeaningLemmas.{has_in}
use Rattle.dwz_def_reading.proofs.ReadNamed.{expr_named, list_named}

-- ---- steps one behind the other

-- a step that answers the same with another value, and then one that does
then_over : {X X' Y Y' : Type 0} (g : X → X') (h : Y → Y') (r : Result X Fault) (s : Result X' Fault) (k : X → Result Y Fault) (l : X' → Result Y' Fault)
    → s ≡ map_ok g r → ((x : X) → r ≡ Ok x → l (g x) ≡ map_ok h (k x)) → (s >>= l) ≡ map_ok h (r >>= k)
then_over g h (Ok x) s k l e f = rw e (f x refl)
then_over g h (Err d) s k l e f = rw e refl

-- the same of either case
if_over : {X Y : Type 0} (g : X → Y) (b : Bool) (r s : Result X Fault) (r' s' : Result Y Fault) → r' ≡ map_ok g r → s' ≡ map_ok g s → cond b r' s' ≡ map_ok g (cond b r s)
if_over g true r s r' s' e f = e
if_over g false r s r' s' e f = f

-- ---- what the places don't touch

text_over : {P Q : Type 0} (f : P → Q) (a : RawAttr) (o : Option (List ℕ)) → text_or a o ≡ map_ok (value_map f) (text_or a o)
text_over f a None = refl
text_over f a (Some text) = refl

path_over : {P Q : Type 0} (f : P → Q) (a : RawAttr) (o : Option (List ℕ)) → path_or a o ≡ map_ok (value_map f) (path_or a o)
path_over f a None = refl
path_over f a (Some path) = refl

table_over : {P Q : Type 0} (f : P → Q) (a : RawAttr) (r : Result FileTable Fault) → (r >>= row_of_table a) ≡ map_ok (value_map f) (r >>= row_of_table a)
table_over f a (Ok t) = path_over f a (path_by t (number_of a.raw))
table_over f a (Err d) = refl

-- the bytes of a block
abbrev block : RawAttr → Input
block a = record { at = block_begins a; rest = bytes_of a.raw }

-- an entry is there or not, whatever stands for it
among_over : {P Q : Type 0} (f : P → Q) (place : ℕ → P) (other : ℕ → Q) (places : List ℕ) (at p : ℕ) → (In p places → other p ≡ f (place p))
    → entry_among other places at p ≡ map_ok (value_map f) (entry_among place places at p)
among_over {P} {Q} f place other places at p same = by (has p places) refl where
  by : (b : Bool) → has p places ≡ b → cond b (Ok (ref (other p))) (Err (info_fault at BadReference)) ≡ map_ok (value_map f) (cond b (Ok (ref (place p))) (Err (info_fault at BadReference)))
  by true e = ap (λ (q : Q). Ok (ref q)) (same (has_in p places e))
  by false e = refl

common_entry_over : {P Q : Type 0} (f : P → Q) (a : RawAttr) (c : Option (Common P)) (d : Option (Common Q)) → AreCommonMapped f c d → common_entry a d ≡ map_ok (value_map f) (common_entry a c)
common_entry_over f a None None h = refl
common_entry_over f a (Some c) (Some d) h = ap (λ (w : List ℕ). entry_among d.place w a.at (offset_of a)) h.entries ∙ among_over f c.place d.place c.entries a.at (offset_of a) (h.place (offset_of a))
common_entry_over f a None (Some d) h = absurd h
common_entry_over f a (Some c) None h = absurd h

common_text_over : {P Q : Type 0} (f : P → Q) (a : RawAttr) (c : Option (Common P)) (d : Option (Common Q)) → AreCommonMapped f c d → common_text a d ≡ map_ok (value_map f) (common_text a c)
common_text_over f a None None h = refl
common_text_over f a (Some c) (Some d) h = ap (λ (w : List ℕ). text_or a (text_at w (offset_of a))) h.strs ∙ text_over f a (text_at c.strs (offset_of a))
common_text_over f a None (Some d) h = absurd h
common_text_over f a (Some c) None h = absurd h

-- ---- in a unit, with other places and another supplementary file

module _ {P Q : Type 0} (place : ℕ → Q) (common : Option (Common Q)) (s : MeaningContext P) where
  abbrev pub there : MeaningContext Q
  there = record { around = record { sources = s.around.sources; all = s.around.all; place = place; common = common }; unit = s.unit; root = s.root; own = s.own }

  same_leads : (base : Base) (n : ℕ) → leads_to there base n ≡ leads_to s base n
  same_leads FromUnit n = refl
  same_leads FromInfo n = refl

  same_entries : (base : Base) → entries_for there base ≡ entries_for s base
  same_entries FromUnit = refl
  same_entries FromInfo = refl

  same_context : (section : ℕ) → expr_context there section ≡ expr_context s section
  same_context section = λ i. record { section = section; names = λ o. has (same_leads o.base o.number i) (same_entries o.base i) }

  pub same_list : (at : ℕ) → list_read there at ≡ list_read s at
  same_list at = ap (λ (c : ExprContext). read_from (list_at c) s.around.sources.lists at) (same_context 7)

  module _ (f : P → Q) (own : (n : ℕ) → In n s.own → place n ≡ f (s.around.place n)) (all : (n : ℕ) → In n s.around.all → place n ≡ f (s.around.place n)) (commons : AreCommonMapped f s.around.common common) where
    -- ---- operands

    target_over : (base : Base) (n : ℕ) → has (leads_to s base n) (entries_for s base) ≡ true → place (leads_to s base n) ≡ f (s.around.place (leads_to s base n))
    target_over FromUnit n h = own (s.unit + n) (has_in (s.unit + n) s.own h)
    target_over FromInfo n h = all n (has_in n s.around.all h)

    targets_over : (os : List Operand) → AreNamed (λ o. has (target_of s o) (entries_for s o.base)) os → targets there os ≡ map f (targets s os)
    targets_over [] h = refl
    targets_over (o ∷ os) h =
        ap (λ (n : ℕ). place n ∷ targets there os) (same_leads o.base o.number) ∙ ap (λ (q : Q). q ∷ targets there os) (target_over o.base o.number h.0)
        ∙ ap (λ (w : List Q). f (s.around.place (target_of s o)) ∷ w) (targets_over os h.1)

    expr_over : (a : RawAttr) → expr_meaning there a ≡ map_ok (value_map f) (expr_meaning s a)
    expr_over a = ap (λ (c : ExprContext). expr_at c (block a) >>= expr_said there) (same_context 1) ∙ by (expr_at (expr_context s 1) (block a)) refl where
      by : (r : Result Expression Fault) → expr_at (expr_context s 1) (block a) ≡ r → (r >>= expr_said there) ≡ map_ok (value_map f) (r >>= expr_said s)
      by (Ok e) is =
          let plain : Plain = Expr (parts_of e) in
          let named = expr_named (expr_context s 1) e (block_begins a) (bytes_of a.raw) (((expr_agrees (expr_context s 1) (block a)).ok e).0 is) in
          ap (λ (w : List Q). Ok (record { plain = plain; refs = w; address = e.address })) (targets_over e.operands named)
      by (Err d) is = refl

    -- ---- location lists

    list_over : (a : RawAttr) (at : ℕ) → list_meaning there a at ≡ map_ok (value_map f) (list_meaning s a at)
    list_over a at = by (ltb at (length s.around.sources.lists)) refl where
      read : at < length s.around.sources.lists → (r : Result LocList Fault) → list_read s at ≡ r → (r >>= loc_said there) ≡ map_ok (value_map f) (r >>= loc_said s)
      read within (Ok l) is =
          let plain : Plain = Loc (map parts_of l.exprs) in
          let stands = ((stands_agree (list_reads (expr_context s 7)) s.around.sources.lists at (omega (arith, within))).ok l).0 is in
          let named = list_named (expr_context s 7) l at stands.front stands.spelled in
          ap (λ (w : List Q). Ok (record { plain = plain; refs = w; address = any_with_address l.exprs })) (targets_over (operands_of l.exprs) named)
      read within (Err d) is = refl

      by : (b : Bool) → ltb at (length s.around.sources.lists) ≡ b
          → cond b (list_read there at >>= loc_said there) (Err (info_fault a.at BadList)) ≡ map_ok (value_map f) (cond b (list_read s at >>= loc_said s) (Err (info_fault a.at BadList)))
      by true e = ap (λ (r : Result LocList Fault). r >>= loc_said there) (same_list at) ∙ read (ltb-true at (length s.around.sources.lists) e) (list_read s at) refl
      by false e = refl

    list_by_over : (a : RawAttr) (base : ℕ) (o : Option ℕ) → list_by there a base o ≡ map_ok (value_map f) (list_by s a base o)
    list_by_over a base None = refl
    list_by_over a base (Some offset) = list_over a (base + offset)

    list_from_over : (a : RawAttr) (o : Option ℕ) → list_from there a o ≡ map_ok (value_map f) (list_from s a o)
    list_from_over a None = refl
    list_from_over a (Some base) = list_by_over a base (slot s.around.sources.lists base (offset_of a))

    -- ---- texts and files

    text_by_over : (a : RawAttr) (o : Option ℕ) → text_by there a o ≡ map_ok (value_map f) (text_by s a o)
    text_by_over a None = refl
    text_by_over a (Some offset) = text_over f a (text_at s.around.sources.strs offset)

    text_from_over : (a : RawAttr) (o : Option ℕ) → text_from there a o ≡ map_ok (value_map f) (text_from s a o)
    text_from_over a None = refl
    text_from_over a (Some base) = text_by_over a (slot s.around.sources.offsets base (offset_of a))

    file_over : (o : Option ℕ) (a : RawAttr) → file_by o there a ≡ map_ok (value_map f) (file_by o s a)
    file_over None a = if_over (value_map f) (is_zero (number_of a.raw)) (Ok (only (File None))) (Err (info_fault a.at BadFile)) (Ok (only (File None))) (Err (info_fault a.at BadFile)) refl refl
    file_over (Some line) a = table_over f a (file_table_at (text_sections_of s.around.sources) s.around.sources.line line)

    -- ---- values, class by class

    class_over : (c : Class) (a : RawAttr) → as_class c there a ≡ map_ok (value_map f) (as_class c s a)
    class_over OfAddress a = refl
    class_over OfBlock a = refl
    class_over OfConstant a = if_over (value_map f) (names_file a.pair.name) (file_by (stmt_list s) s a) (Ok (constant_value a)) (file_by (stmt_list s) there a) (Ok (constant_value a)) (file_over (stmt_list s) a) refl
    class_over OfFlag a = refl
    class_over OfText a = refl
    class_over OfTextInStr a = text_over f a (text_at s.around.sources.strs (offset_of a))
    class_over OfTextInLineStr a = text_over f a (text_at s.around.sources.line_strs (offset_of a))
    class_over OfTextBySlot a = text_from_over a (str_offsets_base s)
    class_over OfUnitEntry a = among_over f s.around.place place s.own a.at (s.unit + offset_of a) (own (s.unit + offset_of a))
    class_over OfInfoEntry a = among_over f s.around.place place s.around.all a.at (offset_of a) (all (offset_of a))
    class_over OfSignature a = refl
    class_over OfOffset a = if_over (value_map f) (names_list a.pair.name) (list_meaning s a (offset_of a)) (Ok (only (Sec (offset_of a)))) (list_meaning there a (offset_of a)) (Ok (only (Sec (offset_of a))))
        (list_over a (offset_of a)) refl
    class_over OfExpression a = expr_over a
    class_over OfListIndex a = list_from_over a (loclists_base s)
    class_over OfIndex a = refl
    class_over OfCommonEntry a = common_entry_over f a s.around.common common commons
    class_over OfCommonText a = common_text_over f a s.around.common common commons
    class_over Unread a = refl

    attrs_over : (attrs : List RawAttr) → attrs_meaning there attrs ≡ map_ok (map (attr_map f)) (attrs_meaning s attrs)
    unfolding attrs_meaning meaning
    attrs_over [] = refl
    attrs_over (a ∷ attrs) = then_over (value_map f) (map (attr_map f)) (meaning s a) (meaning there a) _ _ (class_over (class_of a.pair.form) a)
        (λ v is. then_over (map (attr_map f)) (map (attr_map f)) (attrs_meaning s attrs) (attrs_meaning there attrs) _ _ (attrs_over attrs) (λ bs some. refl))

    -- ---- entries

    node_over : (e : RawEntry) → place e.at ≡ f (s.around.place e.at) → node_meaning there e ≡ map_ok (node_map f) (node_meaning s e)
    node_over e same = then_over (map (attr_map f)) (node_map f) (attrs_meaning s (without_siblings e.attrs)) (attrs_meaning there (without_siblings e.attrs)) _ _ (attrs_over (without_siblings e.attrs))
        (λ bs is. ap (λ (q : Q). Ok (record { at = q; tag = e.tag; attrs = map (attr_map f) bs })) same)

    entries_over : (g : Forest RawEntry) → ((n : ℕ) → In n (places_in g) → place n ≡ f (s.around.place n)) → entries_meaning there g ≡ map_ok (entries_map f) (entries_meaning s g)
    unfolding entries_meaning entries_map places_in
    entries_over End here = refl
    entries_over (Entry e children next) here =
        let below = entries_over children (λ n is. here n (inr (in_left n (places_in children) (places_in next) is))) in
        let behind = entries_over next (λ n is. here n (inr (in_right n (places_in children) (places_in next) is))) in
        then_over (node_map f) (entries_map f) (node_meaning s e) (node_meaning there e) _ _ (node_over e (here e.at (inl refl)))
        (λ d is. then_over (entries_map f) (entries_map f) (entries_meaning s children) (entries_meaning there children) _ _ below
        (λ k some. then_over (entries_map f) (entries_map f) (entries_meaning s next) (entries_meaning there next) _ _ behind (λ k' more. refl)))

    kind_over : (k : RawKind) → kind_meaning there k ≡ map_ok (kind_map f) (kind_meaning s k)
    kind_over CompileUnit = refl
    kind_over PartialUnit = refl
    kind_over (TypeUnit signature type_offset) = by (has (s.unit + type_offset) s.own) refl where
      by : (b : Bool) → has (s.unit + type_offset) s.own ≡ b
          → cond b (Ok (OfType signature (place (s.unit + type_offset)))) (Err (info_fault (type_offset_at s.unit) BadReference))
          ≡ map_ok (kind_map f) (cond b (Ok (OfType signature (s.around.place (s.unit + type_offset)))) (Err (info_fault (type_offset_at s.unit) BadReference)))
      by true e = ap (λ (q : Q). Ok (OfType signature q)) (own (s.unit + type_offset) (has_in (s.unit + type_offset) s.own e))
      by false e = refl

-- ---- units

module _ {P Q : Type 0} (f : P → Q) (bound : ℕ) (a : Around P) (place : ℕ → Q) (common : Option (Common Q)) (below : (n : ℕ) → In n a.all → n < bound)
    (same : (n : ℕ) → n < bound → place n ≡ f (a.place n)) (commons : AreCommonMapped f a.common common) where
  abbrev around : Around Q
  around = record { sources = a.sources; all = a.all; place = place; common = common }

  unit_over : (u : RawUnit) → LiesBelow bound u → unit_meaning around u ≡ map_ok (unit_map f) (unit_meaning a u)
  unit_over u lies =
      let s = scope_of a u in
      let own = λ (n : ℕ) (is : In n (places_of u)). same n (lies n (inr is)) in
      let all = λ (n : ℕ) (is : In n a.all). same n (below n is) in
      then_over (kind_map f) (unit_map f) (kind_meaning s u.kind) (kind_meaning (scope_of around u) u.kind) _ _ (kind_over place common s f own all commons u.kind)
      (λ k is. then_over (node_map f) (unit_map f) (node_meaning s u.root) (node_meaning (scope_of around u) u.root) _ _ (node_over place common s f own all commons u.root (own u.root.at (inl refl)))
      (λ d some. then_over (entries_map f) (unit_map f) (entries_meaning s u.below) (entries_meaning (scope_of around u) u.below) _ _ (entries_over place common s f own all commons u.below (λ n there. own n (inr there)))
      (λ g more. ap (λ (q : Q). Ok (record { at = q; kind = kind_map f k; root = node_map f d; below = entries_map f g })) (same u.at (lies u.at (inl refl))))))

  units_over : (units : List RawUnit) → Each (LiesBelow bound) units → units_meaning around units ≡ map_ok (map (unit_map f)) (units_meaning a units)
  unfolding units_meaning
  units_over [] lie = refl
  units_over (u ∷ units) lie = then_over (unit_map f) (map (unit_map f)) (unit_meaning a u) (unit_meaning around u) _ _ (unit_over u lie.0)
      (λ v is. then_over (map (unit_map f)) (map (unit_map f)) (units_meaning a units) (units_meaning around units) _ _ (units_over units lie.1) (λ vs some. refl))

-- units with other places mean the same with these
pub units_mapped : {P Q : Type 0} (f : P → Q) (bound : ℕ) (a : Around P) (b : Around Q) → AreMapped f bound a b → (units : List RawUnit) → Each (LiesBelow bound) units
    → units_meaning b units ≡ map_ok (map (unit_map f)) (units_meaning a units)
units_mapped {P} {Q} f bound a b h units lie =
    let same : b ≡ record { sources = a.sources; all = a.all; place = b.place; common = b.common } = λ i. record { sources = h.sources i; all = h.all i; place = b.place; common = b.common } in
    ap (λ (c : Around Q). units_meaning c units) same ∙ units_over f bound a b.place b.common h.below h.place h.common units lie
