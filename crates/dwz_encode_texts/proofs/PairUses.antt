-- The texts of an entry follow from the names and forms of its values alone: what is written as it was read has no DW_FORM_strp.
use Rattle.std.proofs.Common.{◌≡◌, ℕ, Bool, true, false, List, [], ◌∷◌, ◌++◌, map, Option, None, refl, sym, ap, ◌∙◌, cond, eqb, eqb-true}
use Rattle.std.specs.List.{flat_map}
use Rattle.std.specs.Option.{option_map_or}
use Rattle.std.proofs.lemmas.List.Concat.{flat_map-append}
use Rattle.dwz_def_reading.specs.Input.{Input}
use Rattle.dwz_def_reading.specs.Spelling.{reach}
use Rattle.dwz_def_reading.specs.Entries.{RawAttr}
use Rattle.dwz_def_reading.specs.Values.{Bytes, Number, Raw}
use Rattle.dwz_def_reading.proofs.AttrPairs.{read_pairs}
use Rattle.dwz_def_reading.specs.Classes.{names_file}
use Rattle.dwz_model.specs.declared.place.Pair.{Pair}
use Rattle.dwz_unit.specs.Rows.{EntryRow}
use Rattle.dwz_def_encoding.specs.Placing.{CommonUnit, NewUnit, OldUnit, UnitRole}
use Rattle.dwz_layout.specs.declared.known.ValueCounts.{ValueCounts}
use Rattle.dwz_layout.specs.declared.known.EntryTable.{EntryTable}
use Rattle.dwz_layout.specs.declared.known.Row.{Row}
use Rattle.dwz_layout.specs.declared.known.SpaceRow.{SpaceRow}
use Rattle.dwz_layout.specs.declared.known.TextAt.{TextAt}
use Rattle.dwz_layout.specs.declared.known.TextAt.TheVariants.{Own, Pooled, Shared}
use Rattle.dwz_layout.specs.declared.walk.Origin.TheVariants.{Read as OfRow}
use Rattle.dwz_layout.specs.declared.ways.Rewrite.{Rewrite}
use Rattle.dwz_layout.specs.declared.ways.Rewrite.TheVariants.{AsEntry, AsExpression, AsFile, AsRead, AsText, Dropped, KeepsText}
use Rattle.dwz_layout.specs.Attributes.{WritingContext, after, after_by, name_attrs, name_by, out_attr, out_attrs, out_by, row_attrs, space_attrs, text_attr}
use Rattle.dwz_layout.specs.Known.{HasValues, firsts_of, row_at, text_at, text_held}
use Rattle.dwz_layout.specs.Ways.{if_file, rewrite_of, way_in, way_rows}
use Rattle.dwz_encode_texts.specs.Used.{origin_uses, out_uses, raw_uses}
use Rattle.dwz_encode_texts.specs.Steps.{text_behind, text_uses, way_uses}

-- ---- DW_FORM_strp is never kept

strp_in : (h : UnitRole) → way_in h 0x0e way_rows ≡ AsText
unfolding way_in
strp_in OldUnit = refl
strp_in NewUnit = refl
strp_in CommonUnit = refl

strp_if : (b : Bool) → if_file b AsText ≡ AsText
strp_if true = refl
strp_if false = refl

strp_text : (h : UnitRole) (p : Pair) → p.form ≡ 0x0e → eqb p.name 0x01 ≡ false → rewrite_of h p ≡ AsText
strp_text h p e n =
    ap (λ (b : Bool). cond b Dropped (if_file (names_file p.name) (way_in h p.form way_rows))) n
    ∙ ap (λ (f : ℕ). if_file (names_file p.name) (way_in h f way_rows)) e
    ∙ ap (if_file (names_file p.name)) (strp_in h)
    ∙ strp_if (names_file p.name)

strp_dropped : (h : UnitRole) (p : Pair) → eqb p.name 0x01 ≡ true → rewrite_of h p ≡ Dropped
strp_dropped h p n = ap (λ (b : Bool). cond b Dropped (if_file (names_file p.name) (way_in h p.form way_rows))) n

-- a value whose form isn't that
unlike : (form : ℕ) → (form ≡ 0x0e → ⊥) → (raw : Raw) → raw_uses form raw ≡ []
unlike form other (Bytes bytes) = refl
unlike form other (Number n) = go (eqb form 0x0e) refl where
  go : (b : Bool) → eqb form 0x0e ≡ b → cond b (reach n ∷ []) [] ≡ []
  go true e = absurd (other (eqb-true form 0x0e e))
  go false e = refl

-- a value that is written as it was read
kept_none : (h : UnitRole) (p : Pair) (w : Rewrite) → rewrite_of h p ≡ w → (w ≡ Dropped → ⊥) → (w ≡ AsText → ⊥) → (raw : Raw) → raw_uses p.form raw ≡ []
kept_none h p w is some other raw = unlike p.form (λ e. go e (eqb p.name 0x01) refl) raw where
  go : p.form ≡ 0x0e → (b : Bool) → eqb p.name 0x01 ≡ b → ⊥
  go e true n = some (sym is ∙ strp_dropped h p n)
  go e false n = other (sym is ∙ strp_text h p e n)

-- so a name
name_none : (h : UnitRole) (p : Pair) (w : Rewrite) → rewrite_of h p ≡ w → eqb p.name 0x01 ≡ false → (w ≡ AsText → ⊥) → (raw : Raw) → raw_uses p.form raw ≡ []
name_none h p w is named other raw = unlike p.form (λ e. other (sym is ∙ strp_text h p e named)) raw

-- ---- value by value

text_one : (name : ℕ) (t : TextAt) → flat_map out_uses (text_attr name t ∷ []) ≡ text_uses t
text_one name (Own offset) = refl
text_one name (Shared offset) = refl
text_one name (Pooled offset) = refl

one_uses : (k : EntryTable) (file unit : ℕ) (next : ValueCounts) (a : RawAttr) (h : UnitRole) (w : Rewrite) → rewrite_of h a.pair ≡ w
    → flat_map out_uses (out_by k file unit next a w) ≡ way_uses k file next.text w
one_uses k file unit next a h AsText is = text_one a.pair.name (text_at k file next.text)
one_uses k file unit next a h Dropped is = refl
one_uses k file unit next a h AsRead is = ap (λ (w : List ℕ). w ++ []) (kept_none h a.pair AsRead is (λ e. cc) (λ e. cc) a.raw)
one_uses k file unit next a h KeepsText is = ap (λ (w : List ℕ). w ++ []) (kept_none h a.pair KeepsText is (λ e. cc) (λ e. cc) a.raw)
one_uses k file unit next a h AsFile is = refl
one_uses k file unit next a h AsEntry is = refl
one_uses k file unit next a h AsExpression is = refl

text_after : (next : ValueCounts) (a : RawAttr) (w : Rewrite) → (after_by next a w).text ≡ text_behind next.text w
text_after next a AsText = refl
text_after next a Dropped = refl
text_after next a AsRead = refl
text_after next a KeepsText = refl
text_after next a AsFile = refl
text_after next a AsEntry = refl
text_after next a AsExpression = refl

-- of values with these names and forms, the first text of which has that number in the file
abbrev pub pairs_uses : EntryTable → ℕ → UnitRole → ℕ → List Pair → List ℕ
pairs_uses k file h next [] = []
pairs_uses k file h next (p ∷ pairs) = way_uses k file next (rewrite_of h p) ++ pairs_uses k file h (text_behind next (rewrite_of h p)) pairs

abbrev pub pairs : List RawAttr → List Pair
pairs attrs = map (λ (a : RawAttr). a.pair) attrs

pub attrs_are : (k : EntryTable) (file : ℕ) (here : WritingContext) (next : ValueCounts) (attrs : List RawAttr)
    → flat_map out_uses (out_attrs k file here next attrs) ≡ pairs_uses k file here.holder next.text (pairs attrs)
unfolding out_attrs
attrs_are k file here next [] = refl
attrs_are k file here next (a ∷ attrs) =
    let w = rewrite_of here.holder a.pair in
    flat_map-append out_uses (out_attr k file here next a) (out_attrs k file here (after here next a) attrs)
    ∙ (λ i. one_uses k file here.unit next a here.holder w refl i ++ attrs_are k file here (after here next a) attrs i)
    ∙ ap (λ (t : ℕ). way_uses k file next.text w ++ pairs_uses k file here.holder t (pairs attrs)) (text_after next a w)

pub row_uses : (k : EntryTable) (here : WritingContext) (r : Row) (some : List Pair) (at : Input) → HasValues k r some at
    → origin_uses k here (OfRow r) ≡ pairs_uses k r.file here.holder (firsts_of k r).text some
row_uses k here r some at has =
    ap (λ (o : Option EntryRow). flat_map out_uses (option_map_or (row_attrs k here (OfRow r)) o [])) has.is
    ∙ attrs_are k r.file here (firsts_of k r) has.entry.entry.attrs
    ∙ ap (pairs_uses k r.file here.holder (firsts_of k r).text) (sym (read_pairs has.entry.entry.at some at has.reads.behind has.entry.entry.attrs has.reads.read))

pub row_none : (k : EntryTable) (here : WritingContext) (r : Row) → row_at k r ≡ None → origin_uses k here (OfRow r) ≡ []
row_none k here r none = ap (λ (o : Option EntryRow). flat_map out_uses (option_map_or (row_attrs k here (OfRow r)) o [])) none

-- ---- names

-- of the name of a space
abbrev pub name_uses : TextAt → Rewrite → List ℕ
name_uses text AsText = text_uses text
name_uses text Dropped = []
name_uses text AsRead = []
name_uses text KeepsText = []
name_uses text AsFile = []
name_uses text AsEntry = []
name_uses text AsExpression = []

pub name_other : (text : TextAt) (w : Rewrite) → (w ≡ AsText → ⊥) → name_uses text w ≡ []
name_other text AsText other = absurd (other refl)
name_other text Dropped other = refl
name_other text AsRead other = refl
name_other text KeepsText other = refl
name_other text AsFile other = refl
name_other text AsEntry other = refl
name_other text AsExpression other = refl

name_one : (text : TextAt) (a : RawAttr) (h : UnitRole) (w : Rewrite) → rewrite_of h a.pair ≡ w → eqb a.pair.name 0x01 ≡ false → flat_map out_uses (name_by text a w ∷ []) ≡ name_uses text w
name_one text a h AsText is named = text_one 0x03 text
name_one text a h Dropped is named = ap (λ (w : List ℕ). w ++ []) (name_none h a.pair Dropped is named (λ e. cc) a.raw)
name_one text a h AsRead is named = ap (λ (w : List ℕ). w ++ []) (name_none h a.pair AsRead is named (λ e. cc) a.raw)
name_one text a h KeepsText is named = ap (λ (w : List ℕ). w ++ []) (name_none h a.pair KeepsText is named (λ e. cc) a.raw)
name_one text a h AsFile is named = ap (λ (w : List ℕ). w ++ []) (name_none h a.pair AsFile is named (λ e. cc) a.raw)
name_one text a h AsEntry is named = ap (λ (w : List ℕ). w ++ []) (name_none h a.pair AsEntry is named (λ e. cc) a.raw)
name_one text a h AsExpression is named = ap (λ (w : List ℕ). w ++ []) (name_none h a.pair AsExpression is named (λ e. cc) a.raw)

-- the first DW_AT_name (3) among values with these names and forms
abbrev pub names_uses : UnitRole → TextAt → List Pair → List ℕ
names_uses h text [] = []
names_uses h text (p ∷ pairs) = cond (eqb p.name 0x03) (name_uses text (rewrite_of h p)) (names_uses h text pairs)

pub names_are : (h : UnitRole) (text : TextAt) (attrs : List RawAttr) → flat_map out_uses (name_attrs h text attrs) ≡ names_uses h text (pairs attrs)
unfolding name_attrs
names_are h text [] = refl
names_are h text (a ∷ attrs) = go (names_are h text attrs) (eqb a.pair.name 0x03) refl where
  go : flat_map out_uses (name_attrs h text attrs) ≡ names_uses h text (pairs attrs) → (b : Bool) → eqb a.pair.name 0x03 ≡ b
      → flat_map out_uses (cond b (name_by text a (rewrite_of h a.pair) ∷ []) (name_attrs h text attrs)) ≡ cond b (name_uses text (rewrite_of h a.pair)) (names_uses h text (pairs attrs))
  go rest true e = (let named : eqb a.pair.name 0x01 ≡ false = ap (λ (n : ℕ). eqb n 0x01) (eqb-true a.pair.name 0x03 e) in name_one text a h (rewrite_of h a.pair) refl named)
  go rest false e = rest

pub space_uses : (k : EntryTable) (h : UnitRole) (s : SpaceRow) (some : List Pair) (at : Input) → HasValues k s.row some at → flat_map out_uses (space_attrs k h s) ≡ names_uses h (text_held h s) some
space_uses k h s some at has =
    ap (λ (o : Option EntryRow). flat_map out_uses (option_map_or (λ (r : EntryRow). name_attrs h (text_held h s) r.entry.attrs) o [])) has.is
    ∙ names_are h (text_held h s) has.entry.entry.attrs
    ∙ ap (names_uses h (text_held h s)) (sym (read_pairs has.entry.entry.at some at has.reads.behind has.entry.entry.attrs has.reads.read))

pub space_none : (k : EntryTable) (h : UnitRole) (s : SpaceRow) → row_at k s.row ≡ None → flat_map out_uses (space_attrs k h s) ≡ []
space_none k h s none = ap (λ (o : Option EntryRow). flat_map out_uses (option_map_or (λ (r : EntryRow). name_attrs h (text_held h s) r.entry.attrs) o [])) none
