-- Texts and numbers of files whose forms are chosen are sound, and say what their forms say.
use Rattle.std.proofs.Common.{◌≡◌, ℕ, pos, ◌<◌, ◌^◌, List, ◌++◌, length, Option, Some, None, refl, sym, ap, subst, ◌∙◌, arith, Bool, true, false, suc}
use Rattle.std.proofs.Math.Logic.{inl, inr}
use Rattle.dwz_def_reading.specs.Documents.{Attr, File, Plain, Text, Value, only}
use Rattle.dwz_def_reading.specs.Lists.{In}
use Rattle.dwz_def_reading.specs.Meanings.{MeaningContext}
use Rattle.dwz_def_reading.specs.Classes.{OfCommonText, OfConstant, OfTextInLineStr, OfTextInStr, Unread}
use Rattle.dwz_def_reading.specs.Classes.{Class, class_of}
use Rattle.dwz_def_reading.specs.Meanings.{text_sections_of}
use Rattle.dwz_def_reading.specs.Classes.{names_file}
use Rattle.dwz_def_reading.specs.Entries.{RawAttr}
use Rattle.dwz_def_reading.specs.Spelling.{reach}
use Rattle.dwz_def_reading.specs.Texts.{IsSlot, IsTextAt, NoZero}
use Rattle.dwz_def_reading.proofs.TextLemmas.{here_slot}
use Rattle.dwz_def_reading.specs.LineTables.{IsFileTable, nth_path}
use Rattle.dwz_def_encoding.proofs.ValuesMean.{so_yes}
use Rattle.dwz_def_encoding.specs.Bases.{Bases}
use Rattle.dwz_def_encoding.specs.Carried.{AttrPaths, AttrTexts, ComesFromItself, FileStands, From, IsOf, LineFor, PathAs, TextAs}
use Rattle.dwz_def_encoding.specs.Meant.{AttrSays, FileSays, Own, SaysAs, Tells, told_texts}
use Rattle.dwz_def_encoding.specs.Placing.{CommonUnit, NewUnit, OldUnit, UnitForms, UnitRole, as_common, as_file, as_line_text, as_slot, as_strp, as_strp_if, as_text, file_number}
use Rattle.dwz_def_encoding.specs.Placing.{fit_as, fit_attr, has_text, lines_bytes, path_index, slot_number, text_place, texts_bytes, with_form}
use Rattle.dwz_def_encoding.specs.Sound.{SoundAttr, StoresAs}
use Rattle.dwz_def_encoding.proofs.Carrying.{Filed, Placed, Slotted}
use Rattle.dwz_def_reading.specs.LinesWritten.{AreTexts}
use Rattle.dwz_def_reading.specs.ElfLayout.{too_large}
use Rattle.dwz_def_encoding.specs.Writing.{or_zero, text_or_empty}
use Rattle.dwz_def_encoding.proofs.PoolLemmas.{path_numbered, pool_stands, text_has}
use Rattle.std.proofs.lemmas.List.{length-append}
use Rattle.dwz_def_encoding.proofs.ChosenValues.{common_text_class, pool_table, str_class, strp_bytes, sup_bytes, udata_bytes, udata_class}

-- the sections of the file are those that were read
abbrev pub SourcesAt : {K : Type 0} → From → List ℕ → Tells K → Type 0
SourcesAt from offsets t = (s : MeaningContext ℕ) (a : RawAttr) → from s a → IsOf offsets t s.around.sources

-- those of the common file have its texts, and its paths
pub record CommonAt {K : Type 0} (f : UnitForms K) (t : Tells K) : Type 0 where
  pub strs : t.strs ≡ texts_bytes f.texts
  pub line : t.line ≡ lines_bytes f.paths
  pub few : length t.line < too_large
  pub are_texts : AreTexts f.paths

-- what is asked of sections, of a unit, and of an attribute, by what holds it
-- those of any other file, which shares these texts of the common file
pub record FileAt {K : Type 0} (from : From) (f : UnitForms K) (t : Tells K) : Type 0 where
  pub sources : SourcesAt from f.offsets t
  pub shared : t.common_strs ≡ texts_bytes f.shared
  pub few : length t.common_strs < 2 ^ 32

abbrev pub SectionsAt : {K : Type 0} → UnitRole → From → UnitForms K → Tells K → Type 0
SectionsAt CommonUnit from f t = CommonAt f t
SectionsAt _ from f t = FileAt from f t

abbrev pub TextFor : {K : Type 0} → UnitRole → (texts paths : List (List ℕ)) → Attr K → Type 0
TextFor CommonUnit texts paths a = AttrTexts texts a × AttrPaths paths a
TextFor _ texts paths a = Unit {0}

abbrev pub AttrAt : {K : Type 0} → UnitRole → (texts paths : List (List ℕ)) → (line origin : Option ℕ) → Attr K → Type 0
AttrAt h texts paths line origin a = TextFor h texts paths a × FileStands h line origin a

pub record Good {K : Type 0} (t : Tells K) (own : Own K) (a : Attr K) : Type 0 where
  pub sound : SoundAttr a
  pub says : AttrSays t own a

-- ---- a text in DW_FORM_strp

module _ {K : Type 0} (t : Tells K) (own : Own K) (a : Attr K) (text : List ℕ) (value : a.value ≡ only (Text text)) (sound : SoundAttr a) where
  abbrev pub in_strs : ℕ → Attr K
  in_strs at = with_form a (record { form = 0x0e; raw = pos at })

  -- that stands at a place
  pub strp_good : (at : ℕ) → at < 2 ^ 32 → IsTextAt t.strs at text → Good t own (in_strs at)
  strp_good at less stands = record {
    sound = record {
      some_name = sound.some_name;
      name_fits = sound.name_fits;
      no_sibling = sound.no_sibling;
      known = λ u. (let no : OfTextInStr ≡ Unread = sym str_class ∙ u in cc);
      constant = λ e. absurd (omega (arith, e));
      value = subst (λ (d : Class). StoresAs d (in_strs at)) (sym str_class) (strp_bytes (in_strs at) at refl less);
    };
    says = subst (λ (d : Class). SaysAs d t own (in_strs at)) (sym str_class) (record { text = text; stands = stands; value = value });
  }

  -- a place in a section of fewer than 2^32 bytes
  pub place_less : (section : List ℕ) (at : ℕ) → length section < 2 ^ 32 → IsTextAt section at text → at < 2 ^ 32
  place_less section at small stands = omega (arith, small, ap length stands.parts, stands.length_before, length-append stands.before (stands.front ++ stands.after))

  -- among the texts of the common file
  pooled_good : (texts : List (List ℕ)) → length t.strs < 2 ^ 32 → t.strs ≡ texts_bytes texts → NoZero text → In text texts → Good t own (in_strs (text_place texts (text_or_empty a.value.plain)))
  pooled_good texts small same none there =
      let is : text_or_empty a.value.plain ≡ text = ap (λ (v : Value K). text_or_empty v.plain) value in
      let stands = subst (λ (w : List ℕ). IsTextAt w (text_place texts text) text) (sym same) (pool_stands texts text there none) in
      subst (λ (x : List ℕ). Good t own (in_strs (text_place texts x))) (sym is) (strp_good (text_place texts text) (place_less t.strs (text_place texts text) small stands) stands)

  abbrev in_common : ℕ → Attr K
  in_common at = with_form a (record { form = 0x1d; raw = pos at })

  -- in DW_FORM_strp_sup, where it stands in the common file
  sup_good : (at : ℕ) → at < 2 ^ 32 → IsTextAt t.common_strs at text → Good t own (in_common at)
  sup_good at less stands = record {
    sound = record {
      some_name = sound.some_name;
      name_fits = sound.name_fits;
      no_sibling = sound.no_sibling;
      known = λ u. (let no : OfCommonText ≡ Unread = sym common_text_class ∙ u in cc);
      constant = λ e. absurd (omega (arith, e));
      value = subst (λ (d : Class). StoresAs d (in_common at)) (sym common_text_class) (sup_bytes (in_common at) at refl less);
    };
    says = subst (λ (d : Class). SaysAs d t own (in_common at)) (sym common_text_class) (record { text = text; stands = stands; value = value });
  }

  -- one that stands at a place is shared, or not
  pub shared_good : {from : From} (f : UnitForms K) → FileAt from f t → NoZero text → (at : ℕ) → at < 2 ^ 32 → IsTextAt t.strs at text → Good t own (with_form a (as_strp f a at))
  shared_good f file none at less stands = by (has_text f.shared (text_or_empty a.value.plain)) refl where
    is : text_or_empty a.value.plain ≡ text
    is = ap (λ (v : Value K). text_or_empty v.plain) value

    by : (b : Bool) → has_text f.shared (text_or_empty a.value.plain) ≡ b → Good t own (with_form a (as_strp_if b f a at))
    by true e =
        let there : In text f.shared = text_has f.shared text (sym (ap (has_text f.shared) is) ∙ e) in
        let there_at = subst (λ (w : List ℕ). IsTextAt w (text_place f.shared text) text) (sym file.shared) (pool_stands f.shared text there none) in
        subst (λ (x : List ℕ). Good t own (in_common (text_place f.shared x))) (sym is)
        (sup_good (text_place f.shared text) (place_less t.common_strs (text_place f.shared text) file.few there_at) there_at)
    by false e = strp_good at less stands

  -- the text is one of these
  one_of : (texts : List (List ℕ)) → In (text_or_empty a.value.plain) texts → In text texts
  one_of texts there = subst (λ (x : List ℕ). In x texts) (ap (λ (v : Value K). text_or_empty v.plain) value) there

-- ---- texts in a section

module _ {K : Type 0} (from : From) (t : Tells K) (small : length t.strs < 2 ^ 32) (own : Own K) (a : Attr K) (p : Placed from a) where
  -- in `.debug_line_str` it is as it was
  pub kept_good : (offsets : List ℕ) → SourcesAt from offsets t → class_of a.form ≡ OfTextInLineStr → IsTextAt p.scope.around.sources.line_strs (reach a.raw) p.text → Good t own a
  kept_good offsets same c stands =
      let e = same p.scope p.old p.file in
      record {
        sound = p.sound;
        says = subst (λ (d : Class). SaysAs d t own a) (sym c) (record { text = p.text; stands = subst (λ (w : List ℕ). IsTextAt w (reach a.raw) p.text) (sym e.line_strs) stands; value = p.value });
      }

  -- in `.debug_str` it may be shared
  strs_good : (f : UnitForms K) → FileAt from f t → IsTextAt p.scope.around.sources.strs (reach a.raw) p.text → Good t own (with_form a (as_strp f a (reach a.raw)))
  strs_good f at stands =
      let there = subst (λ (w : List ℕ). IsTextAt w (reach a.raw) p.text) (sym (at.sources p.scope p.old p.file).strs) stands in
      shared_good t own a p.text p.value p.sound f at stands.spelled.no_zero (reach a.raw) (place_less t own a p.text p.value p.sound t.strs (reach a.raw) small there) there

  text_there : (texts : List (List ℕ)) → AttrTexts texts a → In (text_or_empty a.value.plain) texts
  text_there texts there = elim p.class [
    | inl c ↦ subst (λ (d : Class). TextAs d texts a) c.0 there
    | inr c ↦ subst (λ (d : Class). TextAs d texts a) c.0 there
  ]

  no_zero : NoZero p.text
  no_zero = elim p.class [ inl c ↦ c.1.spelled.no_zero | inr c ↦ c.1.spelled.no_zero ]

  as_text_is : (h : UnitRole) (f : UnitForms K) → f.holder ≡ h → class_of a.form ≡ OfTextInStr → fit_attr f a ≡ with_form a (as_text h f a)
  as_text_is h f e c = ap (λ (d : Class). with_form a (fit_as d f a)) c ∙ ap (λ (x : UnitRole). with_form a (as_text x f a)) e

  as_line_text_is : (h : UnitRole) (f : UnitForms K) → f.holder ≡ h → class_of a.form ≡ OfTextInLineStr → fit_attr f a ≡ with_form a (as_line_text h f a)
  as_line_text_is h f e c = ap (λ (d : Class). with_form a (fit_as d f a)) c ∙ ap (λ (x : UnitRole). with_form a (as_line_text x f a)) e

  -- in the common file
  placed_good : (f : UnitForms K) → CommonAt f t → TextFor CommonUnit f.texts f.paths a → Good t own (with_form a (as_common f a))
  placed_good f at there = pooled_good t own a p.text p.value p.sound f.texts small at.strs no_zero (one_of t own a p.text p.value p.sound f.texts (text_there f.texts there.0))

  pub text_good : (h : UnitRole) (f : UnitForms K) → f.holder ≡ h → SectionsAt h from f t → TextFor h f.texts f.paths a → Good t own (fit_attr f a)
  text_good CommonUnit f e at there = elim p.class [
    | inl c ↦ subst (Good t own) (sym (as_text_is CommonUnit f e c.0)) (placed_good f at there)
    | inr c ↦ subst (Good t own) (sym (as_line_text_is CommonUnit f e c.0)) (placed_good f at there)
  ]
  text_good OldUnit f e at there = elim p.class [
    | inl c ↦ subst (Good t own) (sym (as_text_is OldUnit f e c.0)) (strs_good f at c.1)
    | inr c ↦ subst (Good t own) (sym (as_line_text_is OldUnit f e c.0)) (kept_good f.offsets at.sources c.0 c.1)
  ]
  text_good NewUnit f e at there = elim p.class [
    | inl c ↦ subst (Good t own) (sym (as_text_is NewUnit f e c.0)) (strs_good f at c.1)
    | inr c ↦ subst (Good t own) (sym (as_line_text_is NewUnit f e c.0)) (kept_good f.offsets at.sources c.0 c.1)
  ]

-- ---- texts by slots

module _ {K : Type 0} (from : From) (origin : Bases) (t : Tells K) (small : length t.strs < 2 ^ 32) (own : Own K) (a : Attr K) (p : Slotted from origin a) where
  as_slot_is : (h : UnitRole) (f : UnitForms K) → f.holder ≡ h → fit_attr f a ≡ with_form a (as_slot h f a)
  as_slot_is h f e = ap (λ (d : Class). with_form a (fit_as d f a)) p.class ∙ ap (λ (x : UnitRole). with_form a (as_slot x f a)) e

  stands_there : (offsets : List ℕ) → SourcesAt from offsets t → IsTextAt t.strs p.offset p.text
  stands_there offsets same = subst (λ (w : List ℕ). IsTextAt w p.offset p.text) (sym (same p.scope p.old p.file).strs) p.stands

  pub kept_slot : (offsets : List ℕ) → SourcesAt from offsets t → own.bases ≡ origin → Good t own a
  kept_slot offsets same itself = record {
    sound = p.sound;
    says = subst (λ (d : Class). SaysAs d t own a) (sym p.class) (record {
      base = p.base;
      is_base = ap (λ (b : Bases). b.slots) itself ∙ p.is_base;
      offset = p.offset;
      slot = subst (λ (w : List ℕ). IsSlot w p.base (reach a.raw) p.offset) (sym (same p.scope p.old p.file).offsets) p.slot;
      text = p.text;
      stands = stands_there offsets same;
      value = p.value;
    });
  }

  number_is : (f : UnitForms K) → f.origin_bases ≡ origin → SourcesAt from f.offsets t → slot_number f.offsets f.origin_bases.slots (reach a.raw) ≡ p.offset
  number_is f here same =
      let base : f.origin_bases.slots ≡ Some p.base = ap (λ (b : Bases). b.slots) here ∙ p.is_base in
      let slot = here_slot f.offsets p.base (reach a.raw) p.offset (subst (λ (w : List ℕ). IsSlot w p.base (reach a.raw) p.offset) (sym (same p.scope p.old p.file).slots) p.slot) in
      ap (λ (o : Option ℕ). slot_number f.offsets o (reach a.raw)) base ∙ ap or_zero slot

  pub slot_good : (h : UnitRole) (f : UnitForms K) → f.holder ≡ h → f.origin_bases ≡ origin → ComesFromItself h own.bases origin → SectionsAt h from f t → TextFor h f.texts f.paths a → Good t own (fit_attr f a)
  slot_good OldUnit f e here itself at there = subst (Good t own) (sym (as_slot_is OldUnit f e)) (kept_slot f.offsets at.sources itself)
  slot_good NewUnit f e here itself at there =
      let stands = stands_there f.offsets at.sources in
      subst (Good t own) (sym (as_slot_is NewUnit f e)) (subst (λ (n : ℕ). Good t own (with_form a (as_strp f a n))) (sym (number_is f here at.sources))
      (shared_good t own a p.text p.value p.sound f at p.stands.spelled.no_zero p.offset (place_less t own a p.text p.value p.sound t.strs p.offset small stands) stands))
  slot_good CommonUnit f e here itself at there =
      subst (Good t own) (sym (as_slot_is CommonUnit f e)) (pooled_good t own a p.text p.value p.sound f.texts small at.strs p.stands.spelled.no_zero
      (one_of t own a p.text p.value p.sound f.texts (subst (λ (d : Class). TextAs d f.texts a) p.class there.0)))

-- ---- files

module _ {K : Type 0} (from : From) (origin : Bases) (t : Tells K) (own : Own K) (a : Attr K) (p : Filed from origin a) where
  told : (offsets : List ℕ) → SourcesAt from offsets t → (o : Option ℕ) → FileSays (text_sections_of p.scope.around.sources) p.scope.around.sources.line o a → FileSays (told_texts t) t.line o a
  told offsets same None says = says
  told offsets same (Some place) says =
      let e = same p.scope p.old p.file in
      record {
        table = says.table;
        stands = subst (λ (w : List ℕ). IsFileTable (record { strs = w; line_strs = t.line_strs }) t.line place says.table) (sym e.strs)
            (subst (λ (w : List ℕ). IsFileTable (record { strs = p.scope.around.sources.strs; line_strs = w }) t.line place says.table) (sym e.line_strs)
            (subst (λ (w : List ℕ). IsFileTable (record { strs = p.scope.around.sources.strs; line_strs = p.scope.around.sources.line_strs }) w place says.table) (sym e.line) says.stands));
        path = says.path;
        is_path = says.is_path;
        value = says.value;
      }

  pub file_told : (offsets : List ℕ) → SourcesAt from offsets t → own.bases.line ≡ origin.line → Good t own a
  file_told offsets same line = record {
    sound = p.sound;
    says = subst (λ (d : Class). SaysAs d t own a) (sym p.numbers.0) (so_yes (names_file a.name) _ _ p.numbers.1
        (subst (λ (o : Option ℕ). FileSays (told_texts t) t.line o a) (sym line) (told offsets same origin.line p.says)));
  }

  as_file_is : (h : UnitRole) (f : UnitForms K) → f.holder ≡ h → fit_attr f a ≡ with_form a (as_file h f a)
  as_file_is h f e = p.chosen f ∙ ap (λ (x : UnitRole). with_form a (as_file x f a)) e

  -- ---- in the common file

  abbrev pub numbered : ℕ → Attr K
  numbered n = with_form a (record { form = 0x0f; raw = pos n })

  pub numbered_good : (n : ℕ) → n < 2 ^ 64 → FileSays (told_texts t) t.line own.bases.line (numbered n) → Good t own (numbered n)
  numbered_good n few says = record {
    sound = record {
      some_name = p.sound.some_name;
      name_fits = p.sound.name_fits;
      no_sibling = p.sound.no_sibling;
      known = λ u. (let no : OfConstant ≡ Unread = sym udata_class ∙ u in cc);
      constant = λ e. absurd (omega (arith, e));
      value = subst (λ (d : Class). StoresAs d (numbered n)) (sym udata_class) (udata_bytes (numbered n) n refl few);
    };
    says = subst (λ (d : Class). SaysAs d t own (numbered n)) (sym udata_class) (so_yes (names_file a.name) _ _ p.numbers.1 says);
  }

  none_good : (paths : List (List ℕ)) → a.value ≡ only (File None) → LineFor own.bases.line a.value.plain → Good t own (numbered (file_number paths a.value.plain))
  none_good paths value line =
      let plain : a.value.plain ≡ File None = ap (λ (v : Value K). v.plain) value in
      let none : own.bases.line ≡ None = subst (LineFor own.bases.line) plain line in
      subst (λ (q : Plain). Good t own (numbered (file_number paths q))) (sym plain)
      (numbered_good 0 (omega arith) (subst (λ (o : Option ℕ). FileSays (told_texts t) t.line o (numbered 0)) (sym none) (refl, value)))

  some_good : (f : UnitForms K) → CommonAt f t → (path : List ℕ) → a.value ≡ only (File (Some path)) → AttrPaths f.paths a → LineFor own.bases.line a.value.plain
      → Good t own (numbered (file_number f.paths a.value.plain))
  some_good f at path value among line =
      let plain : a.value.plain ≡ File (Some path) = ap (λ (v : Value K). v.plain) value in
      let zero_line : own.bases.line ≡ Some 0 = subst (LineFor own.bases.line) plain line in
      let there : In path f.paths = subst (λ (q : Plain). PathAs q f.paths) plain among in
      let table = pool_table f.paths path there at.are_texts (subst (λ (w : List ℕ). length w < too_large) at.line at.few) (told_texts t) in
      let number = suc (path_index f.paths path) in
      let says : FileSays (told_texts t) t.line (Some 0) (numbered number) = record {
        table = table.0;
        stands = subst (λ (w : List ℕ). IsFileTable (told_texts t) w 0 table.0) (sym at.line) table.1;
        path = path;
        is_path = ap (λ (w : List (List ℕ)). nth_path w number) table.2.0 ∙ path_numbered f.paths path there;
        value = value;
      } in
      let few = table.2.1 in
      subst (λ (q : Plain). Good t own (numbered (file_number f.paths q))) (sym plain)
      (numbered_good number (omega (arith, few)) (subst (λ (o : Option ℕ). FileSays (told_texts t) t.line o (numbered number)) (sym zero_line) says))

  common_good : (f : UnitForms K) → CommonAt f t → AttrPaths f.paths a → LineFor own.bases.line a.value.plain → (o : Option ℕ)
      → FileSays (text_sections_of p.scope.around.sources) p.scope.around.sources.line o a
      → Good t own (numbered (file_number f.paths a.value.plain))
  common_good f at among line None says = none_good f.paths says.1 line
  common_good f at among line (Some place) says = some_good f at says.path says.value among line

  pub file_good : (h : UnitRole) (f : UnitForms K) → f.holder ≡ h → ComesFromItself h own.bases origin → SectionsAt h from f t → TextFor h f.texts f.paths a → FileStands h own.bases.line origin.line a
      → Good t own (fit_attr f a)
  file_good OldUnit f e itself at there file = subst (Good t own) (sym (as_file_is OldUnit f e)) (file_told f.offsets at.sources (ap (λ (b : Bases). b.line) itself))
  file_good NewUnit f e itself at there file = subst (Good t own) (sym (as_file_is NewUnit f e)) (file_told f.offsets at.sources (file p.numbers))
  file_good CommonUnit f e itself at there file = subst (Good t own) (sym (as_file_is CommonUnit f e)) (common_good f at there.1 (file p.numbers) origin.line p.says)
