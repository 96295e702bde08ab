-- What items show: an attribute that stores a number of DW_FORM_strp uses that text, attribute by attribute and entry by entry.
use Rattle.std.proofs.Common.{◌≡◌, ℕ, suc, Bool, true, false, List, [], ◌∷◌, ◌++◌, cond, eqb, eqb-true, map, refl, sym, ap, ◌∙◌, append_assoc}
use Rattle.std.specs.List.{flat_map}
use Rattle.std.proofs.lemmas.List.{map-append}
use Rattle.std.proofs.lemmas.List.Concat.{flat_map-append}
use Rattle.dwz_def_reading.specs.Spelling.{reach}
use Rattle.dwz_def_reading.specs.Trees.{End, Entry}
use Rattle.dwz_def_reading.specs.Values.{Bytes, Number}
use Rattle.dwz_def_reading.specs.Documents.{Attr, DwUnit, Entries}
use Rattle.dwz_def_reading.specs.Classes as classes
use Rattle.dwz_def_reading.specs.Classes.{OfTextInStr}
use Rattle.dwz_def_reading.specs.Classes.{Class, class_of, class_rows}
use Rattle.dwz_def_tops.specs.Spots.{EntryName}
use Rattle.dwz_layout_items.specs.Lines.{lines, unit_lines}
use Rattle.dwz_def_encoding.specs.Pruned.{attr_uses, attrs_uses, units_uses}
use Rattle.dwz_def_encoding.specs.Pruned as pruned
use Rattle.dwz_layout.specs.declared.known.EntryTable.{EntryTable}
use Rattle.dwz_layout.specs.declared.order.UnitItems.{UnitItems}
use Rattle.dwz_layout.specs.declared.walk.Slot.{Slot}
use Rattle.dwz_layout.specs.Attributes.{Content, OfEntry, OfParts, OfRoot, OutAttr, Read, WritingContext, attrs_of, here_of}
use Rattle.dwz_layout.specs.Entries.{items_slots}
use Rattle.dwz_encode.specs.Shown.{Held, HeldAttr, HeldLine, Key, Keys, Parts, ShowsUnit, Value, attr_held, content_held, held_as, held_of, line_held, slot_held}
use Rattle.dwz_encode_texts.specs.Used.{content_uses, items_uses, order_uses, origin_uses, out_uses, raw_uses}
use Rattle.dwz_encode_texts.specs.UseLaws.{ShownLaw}

abbrev value_uses : ℕ → Held EntryName → List ℕ
value_uses form (Value raw) = raw_uses form raw
value_uses form (Key key) = []
value_uses form (Parts parts keys) = []

abbrev held_uses : HeldAttr EntryName → List ℕ
held_uses a = value_uses a.pair.form a.held

abbrev line_uses : HeldLine EntryName → List ℕ
line_uses l = flat_map held_uses l.attrs

-- ---- what is written

content_are : (keys : Keys EntryName) (form : ℕ) (c : Content) → content_uses form c ≡ value_uses form (content_held keys c)
content_are keys form (Read raw) = refl
content_are keys form (OfEntry number) = refl
content_are keys form (OfRoot unit) = refl
content_are keys form (OfParts parts numbers) = refl

outs_are : (keys : Keys EntryName) (attrs : List OutAttr) → flat_map out_uses attrs ≡ flat_map held_uses (map (attr_held keys) attrs)
outs_are keys [] = refl
outs_are keys (a ∷ attrs) = (λ i. content_are keys a.pair.form a.content i ++ outs_are keys attrs i)

slots_are : (keys : Keys EntryName) (k : EntryTable) (here : WritingContext) (slots : List Slot)
    → flat_map (λ (s : Slot). origin_uses k here s.origin) slots ≡ flat_map line_uses (map (slot_held keys k here) slots)
slots_are keys k here [] = refl
slots_are keys k here (s ∷ slots) = (λ i. outs_are keys (attrs_of k here s.origin) i ++ slots_are keys k here slots i)

-- ---- what is shown

pub strp_class : class_of 0x0e ≡ OfTextInStr
unfolding class_rows classes.class_in
strp_class = refl

other_none : (form : ℕ) → eqb form 0x0e ≡ false → (h : Held EntryName) → value_uses form h ≡ []
other_none form e (Value (Number n)) = ap (λ (b : Bool). cond b (reach n ∷ []) []) e
other_none form e (Value (Bytes bytes)) = refl
other_none form e (Key key) = refl
other_none form e (Parts parts keys) = refl

attr_are : (a : Attr EntryName) → attr_uses a ≡ held_uses (held_of a)
attr_are a = go (eqb a.form 0x0e) refl where
  go : (b : Bool) → eqb a.form 0x0e ≡ b → attr_uses a ≡ held_uses (held_of a)
  go true e =
      (let class : class_of a.form ≡ OfTextInStr = ap class_of (eqb-true a.form 0x0e e) ∙ strp_class in
      sym (ap (λ (c : Class). value_uses a.form (held_as c a)) class))
  go false e = ap (λ (b : Bool). cond b (reach a.raw ∷ []) []) e ∙ sym (other_none a.form e (held_as (class_of a.form) a))

attrs_are : (attrs : List (Attr EntryName)) → attrs_uses attrs ≡ flat_map held_uses (map held_of attrs)
unfolding attrs_uses
attrs_are [] = refl
attrs_are (a ∷ attrs) = (λ i. attr_are a i ++ attrs_are attrs i)

lines_are : (depth : ℕ) (e : Entries EntryName) → pruned.entries_uses e ≡ flat_map line_uses (map line_held (lines depth e))
unfolding pruned.entries_uses lines
lines_are depth End = refl
lines_are depth (Entry e children next) =
    (λ i. attrs_are e.attrs i ++ (lines_are (suc depth) children i ++ lines_are depth next i))
    ∙ ap (λ (w : List ℕ). flat_map held_uses (map held_of e.attrs) ++ w) (
    sym (flat_map-append line_uses (map line_held (lines (suc depth) children)) (map line_held (lines depth next)))
    ∙ ap (flat_map line_uses) (sym (map-append line_held (lines (suc depth) children) (lines depth next)))
    )

unit_are : (u : DwUnit EntryName) → attrs_uses u.root.attrs ++ pruned.entries_uses u.below ≡ flat_map line_uses (map line_held (unit_lines u))
unit_are u = (λ i. attrs_are u.root.attrs i ++ lines_are 2 u.below i)

shown_unit : (keys : Keys EntryName) (k : EntryTable) (unit : ℕ) (o : UnitItems) (u : DwUnit EntryName) → ShowsUnit keys k unit o u → items_uses k unit o ≡ attrs_uses u.root.attrs
    ++ pruned.entries_uses u.below
shown_unit keys k unit o u shows =
    slots_are keys k (here_of k unit o.sort) (items_slots k o.sort o.items) ∙ ap (flat_map line_uses) shows.lines ∙ sym (unit_are u)

pub shown_uses : ShownLaw
unfolding order_uses units_uses
shown_uses keys k first [] [] shows = refl
shown_uses keys k first (o ∷ order) (u ∷ units) shows =
    (λ i. shown_unit keys k first o u shows.0 i ++ shown_uses keys k (suc first) order units shows.1 i)
    ∙ append_assoc (attrs_uses u.root.attrs) (pruned.entries_uses u.below) (units_uses units)
shown_uses keys k first [] (u ∷ units) shows = absurd shows
shown_uses keys k first (o ∷ order) [] shows = absurd shows
