-- What an attribute stores means its value, form by form.
use Rattle.std.proofs.Common.{◌≡◌, ℕ, ℤ, ◌+◌, ◌-◌, Bool, true, false, List, [], ◌∷◌, map, Option, Some, None, refl, sym, ap, subst, ◌∙◌, arith, eqb, ◌||◌, not}
use Rattle.dwz_def_reading.specs.Spelling.{reach}
use Rattle.dwz_def_reading.specs.Documents.{Addr, Attr, Block, Flag, Index, Num, Plain, Sec, Sig, Text, Value, only, ref, value_map}
use Rattle.dwz_def_reading.specs.Entries.{RawAttr}
use Rattle.dwz_def_reading.specs.Lists.{Each, In}
use Rattle.dwz_def_reading.specs.Meanings.{IfSo, IsCommonText, IsEntryAmong, IsFileBy, IsLocList, IsTextBySlot, IsTextIn, MeansAs}
use Rattle.dwz_def_reading.specs.Classes.{OfAddress, OfBlock, OfCommonEntry, OfCommonText, OfConstant}
use Rattle.dwz_def_reading.specs.Classes.{Class}
use Rattle.dwz_def_reading.specs.Meanings.{MeaningContext}
use Rattle.dwz_def_reading.specs.Classes.{OfExpression, OfFlag, OfIndex, OfInfoEntry, OfListIndex, OfOffset, OfSignature, OfText, OfTextBySlot, OfTextInLineStr, OfTextInStr, OfUnitEntry, Unread}
use Rattle.dwz_def_reading.specs.Meanings.{bytes_of, number_of, stmt_list}
use Rattle.dwz_def_reading.specs.Classes.{class_of, kept_width, names_file, names_list}
use Rattle.dwz_def_reading.specs.LineTables.{IsFileTable}
use Rattle.dwz_def_reading.proofs.DecideLemmas.{if_false, if_true}
use Rattle.dwz_def_reading.specs.Texts.{IsSlot, IsTextAt}
use Rattle.dwz_def_reading.proofs.ListFacts.{in_map}
use Rattle.dwz_def_encoding.specs.Fitting.{FitsAs, FitsUnit}
use Rattle.dwz_def_encoding.specs.Meant.{FileSays, ListSays, Own, SaysAs, SlotSays, Tells, TextSays, WasRead, told_texts}
use Rattle.dwz_def_encoding.specs.Sound.{StoresAs}
use Rattle.dwz_def_encoding.specs.Writing.{Numbering, block_in, first_place, pair_of, stored_as, text_or_empty}
use Rattle.dwz_def_encoding.proofs.ExprMeans.{expr_means}
use Rattle.dwz_def_encoding.proofs.ListMeans.{list_means}
use Rattle.dwz_def_encoding.proofs.ScopeIs.{IsScope}

-- an attribute as it was read, whose form has that class
pub record Read {K : Type 0} (c : Class) (a : Attr K) : Type 0 where
  pub scope : MeaningContext ℕ
  pub old : RawAttr
  pub value : Value ℕ
  pub means : MeansAs c scope old value
  pub name : old.pair.name ≡ a.name
  pub form : old.pair.form ≡ a.form
  pub number : number_of old.raw ≡ a.raw
  pub named : ℕ → K
  pub same : a.value ≡ value_map named value

pub read_of : {K : Type 0} (c : Class) (a : Attr K) → class_of a.form ≡ c → WasRead a → Read c a
read_of c a e w =
    let form : w.old.pair.form ≡ a.form = sym w.means.form ∙ sym (ap (λ (b : Attr _). b.form) w.same) in
    record {
      scope = w.scope;
      old = w.old;
      value = w.read.value;
      means = subst (λ (d : Class). MeansAs d w.scope w.old w.read.value) (ap class_of form ∙ e) w.means.value;
      name = sym w.means.name ∙ sym (ap (λ (b : Attr _). b.name) w.same);
      form = form;
      number = sym w.means.raw ∙ sym (ap (λ (b : Attr _). b.raw) w.same);
      named = w.name;
      same = ap (λ (b : Attr _). b.value) w.same;
    }

pub so_yes : (b : Bool) (P Q : Type 0) → b ≡ true → P → IfSo b P Q
so_yes true P Q e h = h
so_yes false P Q e h = absurd cc

pub so_not : (b : Bool) (P Q : Type 0) → b ≡ false → Q → IfSo b P Q
so_not true P Q e h = absurd cc
so_not false P Q e h = h

abbrev stored_at : {K : Type 0} → Class → Numbering K → ℕ → Attr K → ℕ → ℕ → RawAttr
stored_at c n unit a at end = record { at = at; end = end; pair = pair_of a; raw = stored_as c n unit a }

-- what stands in for a value that names no entry
abbrev Kept : {K P : Type 0} → (K → P) → Attr K → Value P → Type 0
Kept g a v = value_map g a.value ≡ v

kept : {K P : Type 0} (g : K → P) (a : Attr K) (named : ℕ → K) (v : Value ℕ) (p : Plain) → a.value ≡ value_map named v → v ≡ only p → Kept g a (only p)
kept {K} g a named v p same is = ap (λ (w : Value K). value_map g w) same ∙ ap (λ (w : Value ℕ). value_map g (value_map named w)) is

pub plain_is : {K : Type 0} (a : Attr K) (named : ℕ → K) (v : Value ℕ) (p : Plain) → a.value ≡ value_map named v → v ≡ only p → a.value.plain ≡ p
plain_is {K} a named v p same is = ap (λ (w : Value K). w.plain) same ∙ ap (λ (w : Value ℕ). w.plain) is

abbrev number_by : ℕ → ℕ → ℤ → Plain
number_by name form z = Num (kept_width name form (reach z)) z

same_number : (name name' form form' : ℕ) (z z' : ℤ) → name ≡ name' → form ≡ form' → z ≡ z' → number_by name form z ≡ number_by name' form' z'
same_number name name' form form' z z' p q r = ap (λ (x : ℕ). number_by x form z) p ∙ ap (λ (x : ℕ). number_by name' x z) q ∙ ap (λ (x : ℤ). number_by name' form' x) r

abbrev flag_by : ℕ → ℤ → Plain
flag_by form z = Flag (eqb form 0x19 || not (eqb (reach z) 0))

same_flag : (form form' : ℕ) (z z' : ℤ) → form ≡ form' → z ≡ z' → flag_by form z ≡ flag_by form' z'
same_flag form form' z z' p q = ap (λ (x : ℕ). flag_by x z) p ∙ ap (λ (x : ℤ). flag_by form' x) q

module _ {K P : Type 0} (n : Numbering K) (g : K → P) (unit : ℕ) (t : Tells K) (own : Own K) (s : MeaningContext P) (is : IsScope n g unit t own s) where
  -- a text in a section of the sources
  text_means : (section there : List ℕ) (a : Attr K) → there ≡ section → TextSays section a → IsTextIn there (reach a.raw) (value_map g a.value)
  text_means section there a same says = record {
    text = says.text;
    stands = subst (λ (w : List ℕ). IsTextAt w (reach a.raw) says.text) (sym same) says.stands;
    value = ap (λ (w : Value K). value_map g w) says.value;
  }

  slot_means : (a : Attr K) → SlotSays t own.bases.slots a → IsTextBySlot s (reach a.raw) (value_map g a.value)
  slot_means a says = record {
    base = says.base;
    is_base = is.slots ∙ says.is_base;
    offset = says.offset;
    slot = subst (λ (w : List ℕ). IsSlot w says.base (reach a.raw) says.offset) (sym is.offsets) says.slot;
    text = record {
      text = says.text;
      stands = subst (λ (w : List ℕ). IsTextAt w says.offset says.text) (sym is.strs) says.stands;
      value = ap (λ (w : Value K). value_map g w) says.value;
    };
  }

  -- a text of the common file
  common_text_means : (a : Attr K) → TextSays t.common_strs a → IsCommonText s (reach a.raw) (value_map g a.value)
  common_text_means a says =
      let there = is.common_strs (reach a.raw) says.text says.stands in
      (there.0, there.1, record { text = says.text; stands = there.2; value = ap (λ (w : Value K). value_map g w) says.value })

  -- a file, by the line table of the unit
  file_means : (a : Attr K) → FileSays (told_texts t) t.line own.bases.line a → IsFileBy (stmt_list s) s a.raw (value_map g a.value)
  file_means a says = subst (λ (o : Option ℕ). IsFileBy o s a.raw (value_map g a.value)) (sym is.table) (by own.bases.line says) where
    by : (o : Option ℕ) → FileSays (told_texts t) t.line o a → IsFileBy o s a.raw (value_map g a.value)
    by None f = (f.0, ap (λ (w : Value K). value_map g w) f.1)
    by (Some place) f = record {
      table = f.table;
      stands = subst (λ (w : List ℕ). IsFileTable (record { strs = w; line_strs = s.around.sources.line_strs }) s.around.sources.line place f.table) (sym is.strs)
          (subst (λ (w : List ℕ). IsFileTable (record { strs = t.strs; line_strs = w }) s.around.sources.line place f.table) (sym is.line_strs)
          (subst (λ (w : List ℕ). IsFileTable (record { strs = t.strs; line_strs = t.line_strs }) w place f.table) (sym is.line) f.stands));
      path = f.path;
      is_path = f.is_path;
      value = ap (λ (w : Value K). value_map g w) f.value;
    }

  -- one entry is named, and it is among these
  names : (place : ℕ → P) (a : Attr K) (k : K) (keys : List K) (places : List ℕ) (p : ℕ) → a.value ≡ ref k → In k keys → places ≡ map n.place keys → n.place k ≡ p → place (n.place k) ≡ g k
      → IsEntryAmong place places p (value_map g a.value)
  names place a k keys places p value there same here at =
      let among : In (n.place k) places = subst (In (n.place k)) (sym same) (in_map n.place k keys there) in
      let value' : value_map g a.value ≡ ref (g k) = ap (λ (w : Value K). value_map g w) value in
      (subst (λ (q : ℕ). In q places) here among, value' ∙ ap (λ (q : P). ref q) (sym at) ∙ ap (λ (q : ℕ). ref (place q)) here)

  pub as_means : (c : Class) (a : Attr K) (at end : ℕ) → class_of a.form ≡ c → (class_of a.form ≡ Unread → ⊥) → StoresAs c a → FitsAs c n unit a → SaysAs c t own a
      → MeansAs c s (stored_at c n unit a at end) (value_map g a.value)
  as_means OfAddress a at end e known stores fits says = (let r = read_of OfAddress a e says in kept g a r.named r.value _ r.same r.means ∙ ap (λ (z : ℤ). only (Addr (reach z))) r.number)
  as_means OfBlock a at end e known stores fits says =
      let r = read_of OfBlock a e says in
      let p : Plain = Block (bytes_of r.old.raw) in
      kept g a r.named r.value p r.same r.means ∙ ap (λ (q : Plain). only (Block (block_in q))) (sym (plain_is a r.named r.value p r.same r.means))
  as_means OfConstant a at end e known stores fits says = by (names_file a.name) refl says where
    by : (b : Bool) → names_file a.name ≡ b → IfSo b (FileSays (told_texts t) t.line own.bases.line a) (WasRead a)
        → IfSo b (IsFileBy (stmt_list s) s a.raw (value_map g a.value)) (value_map g a.value ≡ only (Num (kept_width a.name a.form (reach a.raw)) a.raw))
    by true names f = file_means a f
    by false names w =
        let r = read_of OfConstant a e w in
        let means = if_false (names_file r.old.pair.name) _ _ (ap names_file r.name ∙ names) r.means in
        kept g a r.named r.value _ r.same means ∙ ap (λ (p : Plain). only p) (same_number _ _ _ _ _ _ r.name r.form r.number)
  as_means OfFlag a at end e known stores fits says = (let r = read_of OfFlag a e says in kept g a r.named r.value _ r.same r.means ∙ ap (λ (p : Plain). only p) (same_flag _ _ _ _ r.form r.number))
  as_means OfText a at end e known stores fits says =
      let r = read_of OfText a e says in
      let p : Plain = Text (bytes_of r.old.raw) in
      kept g a r.named r.value p r.same r.means ∙ ap (λ (q : Plain). only (Text (text_or_empty q))) (sym (plain_is a r.named r.value p r.same r.means))
  as_means OfTextInStr a at end e known stores fits says = text_means t.strs s.around.sources.strs a is.strs says
  as_means OfTextInLineStr a at end e known stores fits says = text_means t.line_strs s.around.sources.line_strs a is.line_strs says
  as_means OfTextBySlot a at end e known stores fits says = slot_means a says
  as_means OfUnitEntry a at end e known stores fits says =
      let refs : a.value.refs ≡ stores.target ∷ [] = ap (λ (w : Value K). w.refs) stores.value in
      let f = (subst (Each (FitsUnit n unit)) refs fits).0 in
      let there = (subst (Each (λ k. In k own.keys)) refs says).0 in
      let first : first_place n a.value.refs ≡ n.place stores.target = ap (first_place n) refs in
      let place : n.place stores.target ≡ s.unit + (first_place n a.value.refs - unit) = omega (arith, first, is.unit, f.0) in
      names s.around.place a stores.target own.keys s.own _ stores.value there is.own_are place (is.place_own stores.target there)
  as_means OfInfoEntry a at end e known stores fits says =
      let refs : a.value.refs ≡ stores.target ∷ [] = ap (λ (w : Value K). w.refs) stores.value in
      let there = (subst (Each (λ k. In k t.all)) refs says).0 in
      names s.around.place a stores.target t.all s.around.all _ stores.value there is.all_are (sym (ap (first_place n) refs)) (is.place_all stores.target there)
  as_means OfCommonEntry a at end e known stores fits says =
      let refs : a.value.refs ≡ stores.target ∷ [] = ap (λ (w : Value K). w.refs) stores.value in
      let there = (subst (Each (λ k. In k t.common)) refs says).0 in
      let c = is.common stores.target there in
      let at : n.place stores.target ≡ first_place n a.value.refs = sym (ap (first_place n) refs) in
      let value : value_map g a.value ≡ ref (g stores.target) = ap (λ (w : Value K). value_map g w) stores.value in
      let among : In (first_place n a.value.refs) c.0.entries = subst (λ (q : ℕ). In q c.0.entries) at c.2 in
      (c.0, c.1, (among, value ∙ ap (λ (q : P). ref q) (sym c.3) ∙ ap (λ (q : ℕ). ref (c.0.place q)) at))
  as_means OfSignature a at end e known stores fits says = (let r = read_of OfSignature a e says in kept g a r.named r.value _ r.same r.means ∙ ap (λ (z : ℤ). only (Sig (reach z))) r.number)
  as_means OfOffset a at end e known stores fits says = by (names_list a.name) refl says where
    by : (b : Bool) → names_list a.name ≡ b → IfSo b (ListSays t own a) (a.value ≡ only (Sec (reach a.raw)))
        → IfSo b (IsLocList s (reach a.raw) (value_map g a.value)) (value_map g a.value ≡ only (Sec (reach a.raw)))
    by true names says =
        (let means = list_means n g unit t own s is a says fits (stored_at OfOffset n unit a at end) refl refl refl in
        let as_offset = subst (λ (c : Class). MeansAs c s (stored_at OfOffset n unit a at end) (value_map g a.value)) e means in
        if_true (names_list a.name) _ _ names as_offset)
    by false names says = ap (λ (w : Value K). value_map g w) says
  as_means OfExpression a at end e known stores fits says = expr_means n g unit t own s is a at end fits says
  as_means OfListIndex a at end e known stores fits says =
      subst (λ (c : Class). MeansAs c s (stored_at OfListIndex n unit a at end) (value_map g a.value)) e
      (list_means n g unit t own s is a says fits (stored_at OfListIndex n unit a at end) refl refl refl)
  as_means OfIndex a at end e known stores fits says = (let r = read_of OfIndex a e says in kept g a r.named r.value _ r.same r.means ∙ ap (λ (z : ℤ). only (Index (reach z))) r.number)
  as_means OfCommonText a at end e known stores fits says = common_text_means a says
  as_means Unread a at end e known stores fits says = absurd (known e)
