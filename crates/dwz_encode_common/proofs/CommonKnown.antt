-- What is written of the common file is known once the lists have its texts and paths: where its entries are owned by its units, each text
-- and path that they name is among them.
use Rattle.std.proofs.Common.{◌≡◌, ℕ, ◌+◌, Bool, true, false, List, [], ◌∷◌, cond, length, map, None, Option, Some, slice_get, refl, sym, ap, subst, ◌∙◌, inl, inr, arith}
use Rattle.dwz_def_reading.specs.Lists.{In}
use Rattle.dwz_def_reading.proofs.ListFacts.{got_in, got_map, in_left, in_right}
use Rattle.dwz_def_reading.specs.Documents.{Attr, DwUnit, Node}
use Rattle.dwz_def_reading.specs.Meanings.{scope_of}
use Rattle.dwz_def_reading.specs.Classes.{OfTextBySlot, OfTextInLineStr, OfTextInStr}
use Rattle.dwz_def_reading.specs.Classes.{Class, class_of, names_file}
use Rattle.dwz_def_reading.specs.Files.{around_of}
use Rattle.dwz_def_tops.specs.Spaces.{space_text}
use Rattle.dwz_def_tops.specs.Spots.{EntryName, name_by, name_of}
use Rattle.dwz_layout_items.specs.declared.order.Item.{Item}
use Rattle.dwz_layout_items.specs.declared.order.ItemKind.{ItemKind}
use Rattle.dwz_layout_items.specs.declared.order.ItemKind.TheVariants.{Import, InChain, Root, Space, Top, Whole}
use Rattle.dwz_def_images.specs.Units.{common_units}
use Rattle.dwz_unit.specs.Rows.{EntryRow, units_of as raw_units}
use Rattle.dwz_graph.specs.declared.file.File.{File}
use Rattle.dwz_graph.specs.Index.{Index}
use Rattle.dwz_def_encoding.specs.Placing.{CommonUnit, UnitForms, has_text}
use Rattle.dwz_def_readback.specs.Files.{texts}
use Rattle.dwz_layout.specs.declared.known.EntryTable.{EntryTable}
use Rattle.dwz_layout.specs.declared.known.SpaceRow.{SpaceRow}
use Rattle.dwz_layout.specs.declared.known.TextAt.{TextAt}
use Rattle.dwz_layout.specs.declared.order.Sort.{Sort}
use Rattle.dwz_layout.specs.declared.order.UnitItems.{UnitItems}
use Rattle.dwz_layout.specs.declared.walk.Origin.{Origin}
use Rattle.dwz_layout.specs.declared.walk.Origin.TheVariants.{Chained, Imported, OwnRoot, Read as OfRow}
use Rattle.dwz_layout.specs.declared.walk.Slot.{Slot}
use Rattle.dwz_layout.specs.declared.ways.Rewrite.{Rewrite}
use Rattle.dwz_layout.specs.declared.ways.Rewrite.TheVariants.{AsText}
use Rattle.dwz_layout.specs.Attributes.{plain_pair}
use Rattle.dwz_layout.specs.Entries.{items_slots, row, slot, what_slots}
use Rattle.dwz_layout.specs.Known.{number_of, space_at, text_at, text_held}
use Rattle.dwz_layout.specs.Ways.{if_file, rewrite_of}
use Rattle.dwz_encode.specs.Shown.{HasRow, IsRow}
use Rattle.dwz_law_layout.specs.Knows.{FileRead, IsRead, IsText, KnowsTexts, Writes, is_placed, name_attr, texts_in}
use Rattle.dwz_law_layout.proofs.FormWays.{class_way, is_read, way_is}
use Rattle.dwz_law_layout.specs.Beside.{Alone}
use Rattle.dwz_law_layout.specs.Facts.{AreFacts, HasFile, RunFacts, file_read, move, run}
use Rattle.dwz_law_layout.specs.Listed.{AreListed, TextsAt, entry_row, space_entries}
use Rattle.dwz_law_layout.specs.Unfitted.{HasChained, KnowsTextsOf, NamesChained, common_unit_forms}
use Rattle.dwz_encode_texts.proofs.SpaceNames.{has_stored_name}
use Rattle.dwz_encode_common.specs.Gathered.{text_by, text_said, with_all}
use Rattle.dwz_encode_common.specs.Placed.{in_common_file, name_place, shares_in}
use Rattle.dwz_encode_common.specs.Shared.{in_common, placed_text}
use Rattle.dwz_encode_common.specs.SharedLaws.{HasCommon}
use Rattle.dwz_encode_common.specs.Stored.{items_give, order_texts, origin_texts}
use Rattle.dwz_encode_common.proofs.EntryPlaces.{meant, placed_in, texts_meant}
use Rattle.dwz_encode_common.proofs.SharedEntries.{attrs, each_now, files_many, space_before, space_now, space_there, stands, text_is}
use Rattle.dwz_encode_common.proofs.SharedTexts.{in_common_law}
use Rattle.dwz_encode_common.proofs.StoredTexts.{name_says, row_says}
use Rattle.dwz_encode_common.proofs.TextsThere.{in_all, in_flat}
use Rattle.dwz_encode_common.proofs.WithLists.{items_kept, number_kept}

-- ---- what is owned

-- an entry of the file that is written in this unit is owned by one of the common file, and is one of the unit's
pub record IsInCommon (k : EntryTable) (o : UnitItems) (n i : ℕ) : Type 0 where
  pub owned : in_common_file k n i ≡ true
  pub slot : Slot
  pub there : In slot (items_slots k o.sort o.items)
  pub is : slot.origin ≡ OfRow (row n i)

pub record AreInCommon (f : RunFacts Alone) (k : EntryTable) (order : List UnitItems) : Type 0 where
  pub many : length order ≡ length (common_units (move f))
  pub each : (o : UnitItems) → In o order → (n : ℕ) (bytes : List ℕ) (x : File) (index : Index) → HasFile f n bytes x index
      → (i : ℕ) (r : EntryRow) (d : Node ℕ) → IsRead (file_read f n bytes x) i r d → Writes k o (file_read f n bytes x) i → IsInCommon k o n i

-- ---- slots

-- the same entry is there, where numbers are the same
has_row : (before k : EntryTable) → ((r : _) → number_of k r ≡ number_of before r) → (m : ℕ) (slots : List Slot) → HasRow k m slots
    → HasRow before m slots
has_row before k same m [] h = absurd h
has_row before k same m (s ∷ slots) (inr h) = inr (has_row before k same m slots h)
has_row before k same m (s ∷ slots) (inl is) = inl (by s.origin is) where
  by : (origin : Origin) → IsRow k m origin → IsRow before m origin
  by (OfRow r) is = sym (same r) ∙ is
  by (OwnRoot line) is = absurd is
  by (Chained chain space) is = absurd is
  by (Imported part) is = absurd is

-- a space of a chain is one of the unit's
pub record HasSlot (k : EntryTable) (sort : Sort) (items : List Item) (space : ℕ) : Type 0 where
  pub chain : ℕ
  pub slot : Slot
  pub there : In slot (items_slots k sort items)
  pub is : slot.origin ≡ Chained chain space

of_what : (k : EntryTable) (sort : Sort) (depth space : ℕ) (what : ItemKind) → NamesChained space what
    → (chain : ℕ) × (In (slot depth (Chained chain space)) (what_slots k sort depth what))
of_what k sort depth space (InChain chain other) names = (chain, inl (ap (λ (w : ℕ). slot depth (Chained chain w)) names))
of_what k sort depth space Root names = absurd names
of_what k sort depth space Whole names = absurd names
of_what k sort depth space (Top top) names = absurd names
of_what k sort depth space (Space own) names = absurd names
of_what k sort depth space (Import part) names = absurd names

chained : (k : EntryTable) (sort : Sort) (items : List Item) (space : ℕ) (y : Item) → In y items → NamesChained space y.what
    → HasSlot k sort items space
unfolding items_slots
chained k sort [] space y h names = absurd h
chained k sort (z ∷ items) space y (inr h) names =
    let q = chained k sort items space y h names in
    record {
      chain = q.chain;
      slot = q.slot;
      there = in_right q.slot (what_slots k sort z.depth z.what) (items_slots k sort items) q.there;
      is = q.is;
    }
chained k sort (z ∷ items) space y (inl same) names =
    let own = of_what k sort z.depth space z.what (subst (λ (w : Item). NamesChained space w.what) (sym same) names) in
    record {
      chain = own.0;
      slot = slot z.depth (Chained own.0 space);
      there = in_left (slot z.depth (Chained own.0 space)) (what_slots k sort z.depth z.what) (items_slots k sort items) own.1;
      is = refl;
    }

-- ---- a name in a unit of the common file

-- a value that is no such text isn't written as one
abbrev is_text : Rewrite → Bool
is_text AsText = true
is_text _ = false

other_way : (c : Class) → is_placed c ≡ false → is_text (if_file (names_file 0x03) (class_way CommonUnit c)) ≡ false
other_way OfTextInStr p = absurd cc
other_way OfTextInLineStr p = absurd cc
other_way OfTextBySlot p = absurd cc
other_way _ p = refl

no_way : (form : ℕ) (c : Class) → class_of form ≡ c → is_read c ≡ true → is_placed c ≡ false
    → rewrite_of CommonUnit (plain_pair 0x03 form) ≡ AsText → ⊥
no_way form c e some p way =
    let is = way_is CommonUnit (plain_pair 0x03 form) c (λ z. omega (arith, z)) e some in
    let no : is_text AsText ≡ false = ap is_text (sym way ∙ is) ∙ other_way c p in
    cc

module _ (ft : UnitForms EntryName) (holder : ft.holder ≡ CommonUnit) (a : Attr EntryName) (name : a.name ≡ 0x03) (own : TextAt)
    (there : (t : List ℕ) → In t (text_said a) → has_text ft.texts t ≡ true) where
  goes : (c : Class) → class_of a.form ≡ c → is_placed c ≡ true → has_text ft.texts (meant a) ≡ true
      → IsText ft None a (placed_text true false ft.texts (meant a) own)
  goes c e p has =
      subst (λ (w : TextAt). IsText ft None a w) (ap (λ (b : Bool). cond b (in_common ft.texts (meant a)) own) (sym has))
      (in_common_law ft a holder (ap is_placed e ∙ p))

  stays : (c : Class) → class_of a.form ≡ c → is_read c ≡ true → is_placed c ≡ false → IsText ft None a own
  stays c e some p = λ way. absurd (no_way a.form c e some p (
      (λ i. rewrite_of (sym holder i) (plain_pair (sym name i) a.form)) ∙ way))

  by_class : (c : Class) → class_of a.form ≡ c → is_read c ≡ true → ((t : List ℕ) → In t (text_by c a) → has_text ft.texts t ≡ true)
      → IsText ft None a (name_place true false ft.texts (text_by c a) own)
  by_class OfTextInStr e some has = goes OfTextInStr e refl (has (meant a) (inl refl))
  by_class OfTextInLineStr e some has = goes OfTextInLineStr e refl (has (meant a) (inl refl))
  by_class OfTextBySlot e some has = goes OfTextBySlot e refl (has (meant a) (inl refl))
  by_class _ e some has = stays _ e some refl

  pub name_goes : is_read (class_of a.form) ≡ true → IsText ft None a (name_place true false ft.texts (text_said a) own)
  name_goes some = by_class (class_of a.form) refl some there

-- ---- texts

module _ (f : RunFacts Alone) (t : TextsAt) (sharing : List Bool) (before k : EntryTable) (facts : AreFacts f) (listed : AreListed f t before)
    (has : HasCommon f sharing before k) (order : List UnitItems) (owned : AreInCommon f before order)
    (found : with_all [] (order_texts f.contents before order) ≡ texts (run f)) where
  abbrev give : Origin → List (List ℕ)
  give = origin_texts f.contents before

  there : (o : UnitItems) → In o order → (s : Slot) → In s (items_slots before o.sort o.items) → (text : List ℕ) → In text (give s.origin)
      → has_text (texts (run f)) text ≡ true
  there o o_in s s_in text h =
      subst (λ (w : List (List ℕ)). has_text w text ≡ true) found
      (in_all (order_texts f.contents before order) [] text
      (in_flat (items_give give before) order o text o_in
      (in_flat (λ (w : Slot). give w.origin) (items_slots before o.sort o.items) s text s_in h)))

  pub writes_before : (o : UnitItems) (F : FileRead) (i : ℕ) → Writes k o F i → Writes before o F i
  writes_before o F i h =
      let T = texts (run f) in
      let many = files_many f t sharing before k facts listed has.with_texts in
      let number = number_kept true f.files T sharing before k has.with_texts many in
      subst (λ (w : List Slot). HasRow before (number_of before (row F.number i)) w)
      (items_kept true f.files T sharing before k has.with_texts many o.sort o.items)
      (subst (λ (m : ℕ). HasRow before m (items_slots k o.sort o.items)) (number (row F.number i))
      (has_row before k number (number_of k (row F.number i)) (items_slots k o.sort o.items) h))

  -- ---- a unit of the order

  module _ (o : UnitItems) (o_in : In o order) (n : ℕ) (bytes : List ℕ) (x : File) (index : Index) (h : HasFile f n bytes x index) where
    -- where each text of an entry stands that it writes
    module _ (i : ℕ) (r : EntryRow) (d : Node ℕ) (read : IsRead (file_read f n bytes x) i r d) (writes : Writes k o (file_read f n bytes x) i) where
      pub text_there : (j : ℕ) (a : Attr EntryName) → slice_get (texts_in (attrs f t sharing before k facts listed has.with_texts n bytes x index h i r d read)) j ≡ Some a
          → text_at k n ((stands f t sharing before k facts listed has.with_texts n bytes x index h i r d read).from + j) ≡ in_common (texts (run f)) (meant a)
      text_there j a e =
          let T = texts (run f) in
          let own = owned.each o o_in n bytes x index h i r d read (writes_before o (file_read f n bytes x) i writes) in
          let list = attrs f t sharing before k facts listed has.with_texts n bytes x index h i r d read in
          let from = (stands f t sharing before k facts listed has.with_texts n bytes x index h i r d read).from in
          let said : give own.slot.origin ≡ map meant (texts_in list) =
          ap give own.is ∙ row_says f t before listed n bytes x index h i r d read ∙ texts_meant list in
          let place = text_at before n (from + j) in
          let among : In (meant a) (give own.slot.origin) =
          subst (λ (w : List (List ℕ)). In (meant a) w) (sym said) (got_in (map meant (texts_in list)) j (meant a) (got_map meant (texts_in list) j a e)) in
          let yes = there o o_in own.slot own.there (meant a) among in
          text_is f t sharing before k facts listed has.with_texts n bytes x index h i r d read j a e
          ∙ ap (λ (b : Bool). placed_text b (shares_in sharing n) T (meant a) place) own.owned
          ∙ ap (λ (b : Bool). cond b (in_common T (meant a)) place) yes

    -- where the name of a space stands that is in one of its chains
    module _ (s i : ℕ) (r : EntryRow) (d : Node ℕ) (text : List ℕ) (chain : HasChained s o.items)
        (at : slice_get (space_entries 0 f.indexes) s ≡ Some (entry_row n i)) (read : IsRead (file_read f n bytes x) i r d)
        (is : space_text d ≡ Some text) where
      abbrev own : TextAt
      own = (space_there f t sharing before k facts listed has.with_texts n bytes x index h s i r d text at read is).space.common

      pub name_stands : (space_at k s).common ≡ name_place true false (texts (run f)) (text_said (name_attr (name_of text d)))
          (space_there f t sharing before k facts listed has.with_texts n bytes x index h s i r d text at read is).space.common
      name_stands = ap (λ (w : SpaceRow). w.common) (space_now f t sharing before k facts listed has.with_texts n bytes x index h s i r d text at read is)

      pub name_among : (w : List ℕ) → In w (text_said (name_attr (name_of text d))) → has_text (texts (run f)) w ≡ true
      name_among w w_in =
          let slot = chained before o.sort o.items s chain.item chain.there chain.names in
          let row_is = ap (λ (w : SpaceRow). w.row) (space_before f t sharing before k facts listed has.with_texts n bytes x index h s i r d text at read is)
          ∙ (space_there f t sharing before k facts listed has.with_texts n bytes x index h s i r d text at read is).row_is in
          let said : give slot.slot.origin ≡ text_said (name_attr (name_of text d)) =
          ap give slot.is ∙ name_says f t before listed n bytes x index h i r d read slot.chain s text row_is is in
          there o o_in slot.slot slot.there w (subst (λ (l : List (List ℕ)). In w l) (sym said) w_in)

    module _ (u : DwUnit EntryName) where
      abbrev ft : UnitForms EntryName
      ft = common_unit_forms f u

      entries : KnowsTexts k (file_read f n bytes x) o (common_unit_forms f u) None
      entries = record {
        are = λ i r d read writes. (
            let list = attrs f t sharing before k facts listed has.with_texts n bytes x index h i r d read in
            each_now f t sharing before k facts listed has.with_texts n bytes x index h i r d read (λ j a. IsText ft None a (text_at k n j)) (λ j a e. (
            subst (λ (w : TextAt). IsText ft None a w) (sym (text_there i r d read writes j a e)) (in_common_law ft a refl (placed_in list j a e)))));
      }

      spaces : (s i : ℕ) (r : EntryRow) (d : Node ℕ) (text : List ℕ) → HasChained s o.items
          → slice_get (space_entries 0 f.indexes) s ≡ Some (entry_row n i) → IsRead (file_read f n bytes x) i r d → space_text d ≡ Some text
          → IsText (common_unit_forms f u) None (name_attr (name_of text d)) (text_held (common_unit_forms f u).holder (space_at k s))
      spaces s i r d text chain at read is =
          let a = name_attr (name_of text d) in
          let stored = has_stored_name (scope_of (around_of bytes (raw_units x.units)) read.unit) r.entry d text read.means is in
          let some : is_read (class_of a.form) ≡ true =
          ap (λ (w : Option (Attr ℕ)). is_read (class_of (name_by text w).form)) stored.named
          ∙ ap (λ (w : ℕ). is_read (class_of w)) stored.stored.form ∙ stored.stored.read in
          subst (λ (w : TextAt). IsText ft None a w) (sym (name_stands s i r d text chain at read is))
          (name_goes ft refl a refl (own s i r d text chain at read is) (name_among s i r d text chain at read is) some)

  pub texts_known : (o : UnitItems) → In o order → (u : DwUnit EntryName) (n : ℕ) → KnowsTextsOf f k (common_unit_forms f u) None n o
  texts_known o o_in u n = record {
    entries = λ bytes x index h. entries o o_in n bytes x index h u;
    spaces = λ bytes x index h s i r d text chain at read is. spaces o o_in n bytes x index h u s i r d text chain at read is;
  }
