-- A value with its chosen form is sound, and says what its form says, whatever held its source.
use Rattle.std.proofs.Common.{◌≡◌, ◌≢◌, ◌⊎◌, ℕ, ℤ, pos, ◌<◌, ◌≤◌, ◌^◌, Bool, true, false, List, [], ◌∷◌, ◌++◌, ◌==◌, if◌then◌else◌, length, Option, Some, None, Result, Ok, Err, refl, sym, ap, subst, ◌∙◌, arith, inl, inr}
use Rattle.std.specs.Prelude.{unwrap_or}
use Rattle.std.proofs.lemmas.Bool.{eqb-true}
use Rattle.dwz_def_reading.specs.Forms.{form_rows}
use Rattle.dwz_def_reading.specs.Rows.{shape_of}
use Rattle.dwz_def_reading.specs.Fault.{Fault}
use Rattle.dwz_def_reading.specs.Lists.{Each, In}
use Rattle.dwz_def_reading.specs.Classes.{Class, OfAddress, OfBlock, OfCommonEntry, OfCommonText, OfConstant, OfExpression, OfFlag, OfIndex, OfInfoEntry, OfListIndex, OfOffset, OfSignature, OfText, OfTextBySlot, OfTextInLineStr, OfTextInStr, OfUnitEntry, Unread, class_in, class_of, class_rows, names_file, names_list}
use Rattle.dwz_def_reading.specs.Documents.{Attr, File, Plain, Text, Value, only, ref}
use Rattle.dwz_def_reading.specs.Exprs.{parts_of}
use Rattle.dwz_def_reading.specs.LineTables.{FileTable, IsFileTable, TextSections, file_table_at}
use Rattle.dwz_def_reading.specs.Meanings.{MeaningContext, MeansAs, Sources, path_by, text_sections_of}
use Rattle.dwz_def_reading.specs.Entries.{RawAttr}
use Rattle.dwz_def_reading.specs.Spelling.{reach}
use Rattle.dwz_def_reading.specs.Texts.{IsSlot, IsTextAt, NoZero}
use Rattle.dwz_def_reading.specs.Values.{AreBytes, Bytes, SpellsShape, constant_of, written_rows}
use Rattle.dwz_def_reading.proofs.LineTableLemmas.{file_table_agrees}
use Rattle.dwz_def_reading.proofs.StandLemmas.{bytes_right}
use Rattle.dwz_def_reading.proofs.TextLemmas.{here_slot}
use Rattle.dwz_def_reading.proofs.WrittenLemmas.{front_bytes}
use Rattle.dwz_def_encoding.specs.Bases.{Bases}
use Rattle.dwz_def_encoding.specs.Carried.{OfFile}
use Rattle.dwz_def_encoding.specs.Meant.{AttrSays, FileSays, ListSays, OperandsIn, Own, SaysAs, Tells, WasRead, told_texts}
use Rattle.dwz_def_encoding.specs.Placing.{Chosen, CommonUnit, NewUnit, OldUnit, UnitRole, as_read, slot_number, with_form}
use Rattle.dwz_def_encoding.specs.Sound.{SoundAttr, StoresAs}
use Rattle.dwz_def_encoding.specs.Writing.{or_zero, pair_of, text_or_empty}
use Rattle.dwz_def_encoding.proofs.Carrying.{Computed, Filed, IsEntryClass, KeepsForm, Listed, Other, Placed, Reference, Slotted}
use Rattle.dwz_def_encoding.proofs.ChosenTexts.{Good, SourcesAt, file_told, kept_slot, numbered_good, place_less, strp_good}
use Rattle.dwz_def_encoding.proofs.ValuesMean.{so_yes}
use Rattle.dwz_def_expand.specs.Chosen.{Choice, chosen_as, copied_constant, copied_entry, copied_file, copied_slot, copied_string, copied_text, paths_at, paths_read, row_for, row_of_path}
use Rattle.dwz_def_expand.specs.Refusals.{is_copied}
use Rattle.dwz_def_expand.specs.Source.{Copy}
use Rattle.dwz_law_expand.proofs.RowLemmas.{row_found, rows_few}

-- ---- classes of the forms that are chosen

unit_class : class_of 0x13 ≡ OfUnitEntry
unfolding class_rows class_in
unit_class = refl

info_class : class_of 0x10 ≡ OfInfoEntry
unfolding class_rows class_in
info_class = refl

string_class : class_of 0x08 ≡ OfText
unfolding class_rows class_in
string_class = refl

-- ---- the text of a section of bytes

pub text_bytes : (section : List ℕ) → AreBytes section → (at : ℕ) (text : List ℕ) → IsTextAt section at text → AreBytes text
text_bytes section are at text stands =
    let all = bytes_right stands.before (stands.front ++ stands.after) (subst AreBytes stands.parts are) in
    front_bytes text (0 ∷ []) (subst AreBytes stands.spelled.parts (front_bytes stands.front stands.after all))

module _ {K : Type 0} (t : Tells K) (own : Own K) (a : Attr K) where
  pub record GoodName : Type 0 where
    pub some : 0 < a.name
    pub fits : a.name ≤ 0xffff
    pub other : a.name ≢ 0x01

  abbrev with : ℕ → ℤ → Attr K
  with form raw = with_form a (record { form = form; raw = raw })

  good_as : GoodName → (form : ℕ) (raw : ℤ) (c : Class) → class_of form ≡ c → (form ≡ 0x21 → ⊥) → (c ≡ Unread → ⊥) → StoresAs c (with form raw) → SaysAs c t own (with form raw) → Good t own (with form raw)
  good_as g form raw c e plain known stores says = record {
    sound = record {
      some_name = g.some;
      name_fits = g.fits;
      no_sibling = g.other;
      known = λ u. known (sym e ∙ u);
      constant = λ is. absurd (plain is);
      value = subst (λ (d : Class). StoresAs d (with form raw)) (sym e) stores;
    };
    says = subst (λ (d : Class). SaysAs d t own (with form raw)) (sym e) says;
  }

  -- ---- references

  refs_are : (k : K) → a.value ≡ ref k → a.value.refs ≡ k ∷ []
  refs_are k value = ap (λ (v : Value K). v.refs) value

  pub unit_good : GoodName → (k : K) → a.value ≡ ref k → In k own.keys → Good t own (with 0x13 (pos 0))
  unit_good g k value there =
      good_as g 0x13 (pos 0) OfUnitEntry unit_class (λ e. omega (arith, e)) (λ u. cc) (record { form = refl; target = k; value = value }) (subst (Each (λ j. In j own.keys)) (sym (refs_are k value)) (there, tt))

  pub info_good : GoodName → (k : K) → a.value ≡ ref k → In k t.all → Good t own (with 0x10 (pos 0))
  info_good g k value there =
      good_as g 0x10 (pos 0) OfInfoEntry info_class (λ e. omega (arith, e)) (λ u. cc) (record { form = refl; target = k; value = value }) (subst (Each (λ j. In j t.all)) (sym (refs_are k value)) (there, tt))

  -- ---- a text that stands in the value itself

  string_spelled : (z : ℤ) (text : List ℕ) (plain : Plain) → text_or_empty plain ≡ text → NoZero text → SpellsShape (shape_of written_rows 0x08) z (text ++ 0 ∷ []) (Bytes (text_or_empty plain))
  unfolding form_rows
  string_spelled z text plain same none = record { content = text; spelled = record { no_zero = none; parts = refl }; value = ap Bytes same }

  zero_behind : (text : List ℕ) → AreBytes text → AreBytes (text ++ 0 ∷ [])
  zero_behind [] are = (omega arith, tt)
  zero_behind (b ∷ text) are = (are.0, zero_behind text are.1)

  pub string_good : GoodName → (text : List ℕ) → a.value ≡ only (Text text) → NoZero text → AreBytes text → MeaningContext ℕ → Good t own (with_form a copied_string)
  string_good g text value none are scope =
      let x = with_form a copied_string in
      let same : text_or_empty a.value.plain ≡ text = ap (λ (v : Value K). text_or_empty v.plain) value in
      let old : RawAttr = record { at = 0; end = 0; pair = record { name = a.name; form = 0x08; constant = pos 0 }; raw = Bytes text } in
      let read : Attr ℕ = record { name = a.name; form = 0x08; raw = pos 0; value = only (Text text) } in
      let was : WasRead x = record {
        scope = scope;
        old = old;
        read = read;
        means = record { name = refl; form = refl; raw = refl; value = subst (λ (c : Class). MeansAs c scope old read.value) (sym string_class) refl };
        name = λ n. own.at;
        same = ap (λ (v : Value K). record { name = a.name; form = 0x08; raw = pos 0; value = v }) value;
      } in
      good_as g 0x08 (pos 0) OfText string_class (λ e. omega (arith, e)) (λ u. cc)
      (record { bytes = text ++ 0 ∷ []; are_bytes = zero_behind text are; spelled = string_spelled (constant_of (pair_of x)) text a.value.plain same none }) was

  -- ---- what stays

  pub name_of : SoundAttr a → GoodName
  name_of s = record { some = s.some_name; fits = s.name_fits; other = s.no_sibling }

  pub computed_good : (k : Computed a) → OperandsIn t own (parts_of k.expression) a.value.refs → Good t own a
  computed_good k operands = record {
    sound = k.sound;
    says = subst (λ (c : Class). SaysAs c t own a) (sym k.class)
        (record { context = k.context; expression = k.expression; start = k.start; bytes = k.bytes; spelled = k.spelled; plain = k.plain; address = k.address; operands = operands });
  }

  pub listed_good : (k : Listed a) → ListSays t own a → Good t own a
  listed_good k says = record { sound = k.sound; says = by k.class } where
    by : ((class_of a.form ≡ OfOffset) × (names_list a.name ≡ true)) ⊎ (class_of a.form ≡ OfListIndex) → AttrSays t own a
    by (inl c) = subst (λ (d : Class). SaysAs d t own a) (sym c.0) (so_yes (names_list a.name) _ _ c.1 says)
    by (inr c) = subst (λ (d : Class). SaysAs d t own a) (sym c) says

-- ---- by what held the source

-- the sections that are told are those of the source's file, and texts stand below 2^32
pub record ToldOf {K : Type 0} (t : Tells K) (src : Sources) : Type 0 where
  pub strs : t.strs ≡ src.strs
  pub line_strs : t.line_strs ≡ src.line_strs
  pub offsets : t.offsets ≡ src.offsets
  pub line : t.line ≡ src.line
  pub small : length t.strs < 2 ^ 32

-- an entry of the unit, or of a partial unit of the file; or of the common file
abbrev pub RoleFacts : {P : Type 0} → UnitRole → Choice P → Tells (Copy P) → Own (Copy P) → P → Sources → Bases → Type 0
RoleFacts OldUnit c t own source src origin = ToldOf t src × (own.bases ≡ origin)
RoleFacts NewUnit c t own source src origin = ToldOf t src × (c.slots source ≡ origin.slots) × (c.offsets ≡ src.offsets)
RoleFacts CommonUnit c t own source src origin = AreBytes src.strs × AreBytes src.line_strs

module _ {P : Type 0} (c : Choice P) (n : ℕ) (source : P) (t : Tells (Copy P)) (own : Own (Copy P)) (a : Attr (Copy P)) (src : Sources) (origin : Bases) where
  abbrev Facts : UnitRole → Type 0
  Facts role = RoleFacts role c t own source src origin

  sources_at : ToldOf t src → SourcesAt (OfFile src) src.offsets t
  sources_at told s r e = record {
    strs = told.strs ∙ sym (ap (λ (w : Sources). w.strs) e);
    line_strs = told.line_strs ∙ sym (ap (λ (w : Sources). w.line_strs) e);
    offsets = told.offsets ∙ sym (ap (λ (w : Sources). w.offsets) e);
    line = told.line ∙ sym (ap (λ (w : Sources). w.line) e);
    slots = sym (ap (λ (w : Sources). w.offsets) e);
  }

  -- ---- texts

  text_kept : (p : Placed (OfFile src) a) → ToldOf t src → Good t own a
  text_kept p told = by p.class where
    by : ((class_of a.form ≡ OfTextInStr) × IsTextAt p.scope.around.sources.strs (reach a.raw) p.text) ⊎ ((class_of a.form ≡ OfTextInLineStr) × IsTextAt p.scope.around.sources.line_strs (reach a.raw) p.text) → Good t own a
    by (inl x) = record {
      sound = p.sound;
      says = subst (λ (d : Class). SaysAs d t own a) (sym x.0)
          (record { text = p.text; stands = subst (λ (w : List ℕ). IsTextAt w (reach a.raw) p.text) (ap (λ (w : Sources). w.strs) p.file ∙ sym told.strs) x.1; value = p.value });
    }
    by (inr x) = record {
      sound = p.sound;
      says = subst (λ (d : Class). SaysAs d t own a) (sym x.0)
          (record { text = p.text; stands = subst (λ (w : List ℕ). IsTextAt w (reach a.raw) p.text) (ap (λ (w : Sources). w.line_strs) p.file ∙ sym told.line_strs) x.1; value = p.value });
    }

  text_copied : (p : Placed (OfFile src) a) → AreBytes src.strs → AreBytes src.line_strs → Good t own (with_form a copied_string)
  text_copied p strs line_strs = by p.class where
    by : ((class_of a.form ≡ OfTextInStr) × IsTextAt p.scope.around.sources.strs (reach a.raw) p.text) ⊎ ((class_of a.form ≡ OfTextInLineStr) × IsTextAt p.scope.around.sources.line_strs (reach a.raw) p.text)
        → Good t own (with_form a copied_string)
    by (inl x) = string_good t own a (name_of t own a p.sound) p.text p.value x.1.spelled.no_zero (text_bytes src.strs strs (reach a.raw) p.text (subst (λ (w : Sources). IsTextAt w.strs (reach a.raw) p.text) p.file x.1)) p.scope
    by (inr x) =
        string_good t own a (name_of t own a p.sound) p.text p.value x.1.spelled.no_zero (text_bytes src.line_strs line_strs (reach a.raw) p.text (subst (λ (w : Sources). IsTextAt w.line_strs (reach a.raw) p.text) p.file x.1)) p.scope

  text_by : (role : UnitRole) → Facts role → Placed (OfFile src) a → Good t own (with_form a (copied_text role a))
  text_by OldUnit h p = text_kept p h.0
  text_by NewUnit h p = text_kept p h.0
  text_by CommonUnit h p = text_copied p h.0 h.1

  -- ---- texts by slots

  slot_by : (role : UnitRole) → Facts role → Slotted (OfFile src) origin a → Good t own (with_form a (copied_slot role c.offsets (c.slots source) a))
  slot_by OldUnit h p = kept_slot (OfFile src) origin t h.0.small own a p src.offsets (sources_at h.0) h.1
  slot_by NewUnit h p =
      let base : c.slots source ≡ Some p.base = h.1 ∙ p.is_base in
      let there : IsSlot src.offsets p.base (reach a.raw) p.offset = subst (λ (w : Sources). IsSlot w.offsets p.base (reach a.raw) p.offset) p.file p.slot in
      let slot = here_slot c.offsets p.base (reach a.raw) p.offset (subst (λ (w : List ℕ). IsSlot w p.base (reach a.raw) p.offset) (sym h.2) there) in
      let number : slot_number c.offsets (c.slots source) (reach a.raw) ≡ p.offset = ap (λ (o : Option ℕ). slot_number c.offsets o (reach a.raw)) base ∙ ap or_zero slot in
      let stands = subst (λ (w : List ℕ). IsTextAt w p.offset p.text) (ap (λ (w : Sources). w.strs) p.file ∙ sym h.0.strs) p.stands in
      subst (λ (k : ℕ). Good t own (with_form a (record { form = 0x0e; raw = pos k }))) (sym number)
      (strp_good t own a p.text p.value p.sound p.offset (place_less t own a p.text p.value p.sound t.strs p.offset h.0.small stands) stands)
  slot_by CommonUnit h p =
      string_good t own a (name_of t own a p.sound) p.text p.value p.stands.spelled.no_zero (text_bytes src.strs h.0 p.offset p.text (subst (λ (w : Sources). IsTextAt w.strs p.offset p.text) p.file p.stands)) p.scope

  -- ---- files

  -- the new unit's paths are those of its line table
  pub record PathsOf (s : Sources) : Type 0 where
    pub texts : told_texts t ≡ text_sections_of s
    pub line : t.line ≡ s.line
    pub paths : c.paths n ≡ paths_at s own.bases.line

  abbrev number_for : Option (List (List ℕ)) → Plain → ℕ
  number_for paths plain = unwrap_or (row_for paths plain) 0

  numbered_at : (p : Filed (OfFile src) origin a) (k : ℕ) → k < 2 ^ 64 → FileSays (told_texts t) t.line own.bases.line (with_form a (record { form = 0x0f; raw = pos k }))
      → Good t own (with_form a (record { form = 0x0f; raw = pos k }))
  numbered_at p k few says = numbered_good (OfFile src) origin t own a p k few says

  -- the value is no file, or the file with a path
  abbrev IsFile : Type 0
  IsFile = (a.value ≡ only (File None)) ⊎ ((path : List ℕ) × (a.value ≡ only (File (Some path))))

  is_file : (p : Filed (OfFile src) origin a) → IsFile
  is_file p = by origin.line p.says where
    by : (o : Option ℕ) → FileSays (text_sections_of p.scope.around.sources) p.scope.around.sources.line o a → IsFile
    by None says = inl says.1
    by (Some place) says = inr (says.path, says.value)

  no_row : (path : List ℕ) (m : ℕ) → row_of_path 0 [] path ≡ Some m → ⊥
  unfolding row_of_path
  no_row path m e = cc

  Numbered : (paths : Option (List (List ℕ))) → Type 0
  Numbered paths = Good t own (with_form a (record { form = 0x0f; raw = pos (number_for paths a.value.plain) }))

  file_numbered : (s : Sources) → PathsOf s → (p : Filed (OfFile src) origin a) → ¬ (row_for (c.paths n) a.value.plain ≡ None) → Numbered (c.paths n)
  unfolding Numbered
  file_numbered s of p some = subst Numbered (sym of.paths) (by own.bases.line refl (is_file p) (λ e. some (ap (λ (o : Option (List (List ℕ))). row_for o a.value.plain) of.paths ∙ e))) where
    plain_of : (q : Plain) → a.value ≡ only q → a.value.plain ≡ q
    plain_of q e = ap (λ (v : Value (Copy P)). v.plain) e

    in_table : (place : ℕ) (r : Result FileTable Fault) → file_table_at (text_sections_of s) s.line place ≡ r → own.bases.line ≡ Some place → (path : List ℕ) → a.value ≡ only (File (Some path))
        → (o : Option ℕ) → row_of_path 0 (paths_read r) path ≡ o → (o ≡ None → ⊥) → Good t own (with_form a (record { form = 0x0f; raw = pos (unwrap_or o 0) }))
    in_table place r is line path value None row none = absurd (none refl)
    in_table place (Err f) is line path value (Some m) row none = absurd (no_row path m row)
    in_table place (Ok table) is line path value (Some m) row none =
        let found = row_found 0 table.paths path m row in
        let same : m ≡ found.0 = (let z = found.1 in omega (arith, z)) in
        let stands = ((file_table_agrees (text_sections_of s) s.line place).ok table).0 is in
        let few = rows_few (text_sections_of s) s.line place table stands in
        let less = found.2.less in
        let stands_told = subst (λ (w : TextSections). IsFileTable w t.line place table) (sym of.texts)
        (subst (λ (w : List ℕ). IsFileTable (text_sections_of s) w place table) (sym of.line) stands) in
        numbered_at p m (omega (arith, same, few, less)) (subst (λ (o : Option ℕ). FileSays (told_texts t) t.line o (with_form a (record { form = 0x0f; raw = pos m }))) (sym line)
        (record { table = table; stands = stands_told; path = path; is_path = ap (λ (k : ℕ). path_by table (pos k)) same ∙ found.2.is_path; value = value }))

    by : (o : Option ℕ) → own.bases.line ≡ o → IsFile → ¬ (row_for (paths_at s o) a.value.plain ≡ None) → Numbered (paths_at s o)
    by None e (inl value) none =
        subst (λ (q : Plain). Good t own (with_form a (record { form = 0x0f; raw = pos (number_for None q) }))) (sym (plain_of (File None) value))
        (numbered_at p 0 (omega arith) (subst (λ (o : Option ℕ). FileSays (told_texts t) t.line o (with_form a (record { form = 0x0f; raw = pos 0 }))) (sym e) (refl, value)))
    by None e (inr value) none = absurd (none (ap (row_for None) (plain_of (File (Some value.0)) value.1)))
    by (Some place) e (inl value) none = absurd (none (ap (row_for (paths_at s (Some place))) (plain_of (File None) value)))
    by (Some place) e (inr value) none =
        let plain = plain_of (File (Some value.0)) value.1 in
        subst (λ (q : Plain). Good t own (with_form a (record { form = 0x0f; raw = pos (number_for (paths_at s (Some place)) q) }))) (sym plain)
        (in_table place (file_table_at (text_sections_of s) s.line place) refl e value.0 value.1 (row_of_path 0 (paths_read (file_table_at (text_sections_of s) s.line place)) value.0) refl
        (λ x. none (ap (row_for (paths_at s (Some place))) plain ∙ x)))

  file_by : (role : UnitRole) → Facts role → (s : Sources) → PathsOf s → (p : Filed (OfFile src) origin a) → (is_copied role ≡ true → row_for (c.paths n) a.value.plain ≡ None → ⊥)
      → Good t own (with_form a (copied_file role (c.paths n) a))
  unfolding Numbered
  file_by OldUnit h s of p some = file_told (OfFile src) origin t own a p src.offsets (sources_at h.0) (ap (λ (b : Bases). b.line) h.1)
  file_by NewUnit h s of p some = file_numbered s of p (some refl)
  file_by CommonUnit h s of p some = file_numbered s of p (some refl)

-- ---- a value that leads to no supplementary file

-- what a reference names stands in the new file, and in the unit if it has its number
pub record StandsThere {P : Type 0} (n : ℕ) (t : Tells (Copy P)) (own : Own (Copy P)) (k : Copy P) : Type 0 where
  pub in_file : In k t.all
  pub in_unit : k.unit ≡ n → In k own.keys

module _ {P : Type 0} (c : Choice P) (n : ℕ) (source : P) (t : Tells (Copy P)) (own : Own (Copy P)) (a : Attr (Copy P)) where
  abbrev pub Chosen_good : Class → Type 0
  Chosen_good k = Good t own (with_form a (chosen_as k c n source a))

  -- a reference
  pub entry_good : GoodName t own a → (k : Copy P) → a.value ≡ ref k → StandsThere n t own k → Good t own (with_form a (copied_entry n a.value.refs))
  entry_good g k value there = subst (λ (ks : List (Copy P)). Good t own (with_form a (copied_entry n ks))) (sym (ap (λ (v : Value (Copy P)). v.refs) value)) (by (k.unit == n) refl) where
    by : (b : Bool) → (k.unit == n) ≡ b → Good t own (with_form a (record { form = if b then 0x13 else 0x10; raw = pos 0 }))
    by true e = unit_good t own a g k value (there.in_unit (eqb-true k.unit n e))
    by false e = info_good t own a g k value there.in_file

  entry_class : (k : Class) → IsEntryClass k → Good t own (with_form a (copied_entry n a.value.refs)) → Chosen_good k
  entry_class OfUnitEntry is h = h
  entry_class OfInfoEntry is h = h
  entry_class OfCommonEntry is h = h
  entry_class OfAddress is h = absurd is
  entry_class OfBlock is h = absurd is
  entry_class OfConstant is h = absurd is
  entry_class OfFlag is h = absurd is
  entry_class OfText is h = absurd is
  entry_class OfTextInStr is h = absurd is
  entry_class OfTextInLineStr is h = absurd is
  entry_class OfTextBySlot is h = absurd is
  entry_class OfSignature is h = absurd is
  entry_class OfOffset is h = absurd is
  entry_class OfExpression is h = absurd is
  entry_class OfListIndex is h = absurd is
  entry_class OfIndex is h = absurd is
  entry_class OfCommonText is h = absurd is
  entry_class Unread is h = absurd is

  -- one whose form stays
  kept_class : (k : Class) → KeepsForm k (names_file a.name) → chosen_as k c n source a ≡ as_read a
  kept_class OfConstant is = ap (λ (b : Bool). copied_constant b (c.role source) (c.paths n) a) is
  kept_class OfUnitEntry is = absurd is
  kept_class OfInfoEntry is = absurd is
  kept_class OfCommonEntry is = absurd is
  kept_class OfTextInStr is = absurd is
  kept_class OfTextInLineStr is = absurd is
  kept_class OfTextBySlot is = absurd is
  kept_class OfCommonText is = absurd is
  kept_class OfAddress is = refl
  kept_class OfBlock is = refl
  kept_class OfFlag is = refl
  kept_class OfText is = refl
  kept_class OfSignature is = refl
  kept_class OfOffset is = refl
  kept_class OfExpression is = refl
  kept_class OfListIndex is = refl
  kept_class OfIndex is = refl
  kept_class Unread is = refl

  module _ (src : Sources) (origin : Bases) (h : RoleFacts (c.role source) c t own source src origin) where
    abbrev Result_good : Type 0
    Result_good = Good t own (with_form a (chosen_as (class_of a.form) c n source a))

    -- what is asked of references, of files, and of operands
    pub record Asked : Type 0 where
      pub entry : (k : Copy P) → a.value ≡ ref k → StandsThere n t own k
      pub sources : Sources
      pub paths : PathsOf c n source t own a src origin sources
      pub row : names_file a.name ≡ true → class_of a.form ≡ OfConstant → is_copied (c.role source) ≡ true → row_for (c.paths n) a.value.plain ≡ None → ⊥
      pub expression : (k : Computed a) → OperandsIn t own (parts_of k.expression) a.value.refs
      pub list : Listed a → ListSays t own a

    by_form : (k : Class) → class_of a.form ≡ k → Chosen_good k → Result_good
    by_form k e good = subst Chosen_good (sym e) good

    pub kind_good : Asked → Reference a ⊎ (Placed (OfFile src) a ⊎ (Slotted (OfFile src) origin a ⊎ (Filed (OfFile src) origin a ⊎ (Computed a ⊎ (Listed a ⊎ Other a))))) → Result_good
    kind_good asked (inl r) =
        entry_class (class_of a.form) r.class (entry_good (record { some = r.some_name; fits = r.name_fits; other = r.no_sibling }) r.target r.value (asked.entry r.target r.value))
    kind_good asked (inr (inl p)) = by p.class where
      by : ((class_of a.form ≡ OfTextInStr) × IsTextAt p.scope.around.sources.strs (reach a.raw) p.text) ⊎ ((class_of a.form ≡ OfTextInLineStr) × IsTextAt p.scope.around.sources.line_strs (reach a.raw) p.text) → Result_good
      by (inl x) = by_form OfTextInStr x.0 (text_by c n source t own a src origin (c.role source) h p)
      by (inr x) = by_form OfTextInLineStr x.0 (text_by c n source t own a src origin (c.role source) h p)
    kind_good asked (inr (inr (inl p))) = by_form OfTextBySlot p.class (slot_by c n source t own a src origin (c.role source) h p)
    kind_good asked (inr (inr (inr (inl p)))) =
        by_form OfConstant p.numbers.0 (subst (λ (b : Bool). Good t own (with_form a (copied_constant b (c.role source) (c.paths n) a))) (sym p.numbers.1)
        (file_by c n source t own a src origin (c.role source) h asked.sources asked.paths p (asked.row p.numbers.1 p.numbers.0)))
    kind_good asked (inr (inr (inr (inr (inl k))))) = by_form OfExpression k.class (computed_good t own a k (asked.expression k))
    kind_good asked (inr (inr (inr (inr (inr (inl k)))))) = by k.class where
      good : Good t own a
      good = listed_good t own a k (asked.list k)

      by : ((class_of a.form ≡ OfOffset) × (names_list a.name ≡ true)) ⊎ (class_of a.form ≡ OfListIndex) → Result_good
      by (inl x) = by_form OfOffset x.0 good
      by (inr x) = by_form OfListIndex x good
    kind_good asked (inr (inr (inr (inr (inr (inr o)))))) =
        subst (λ (x : Chosen). Good t own (with_form a x)) (sym (kept_class (class_of a.form) o.keeps)) (record { sound = o.sound; says = o.says t own })
