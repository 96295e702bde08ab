-- What is read of a file is carried: its attributes are stored there, and mean what was read.
use Rattle.std.proofs.Common.{◌≡◌, ◌≢◌, ℕ, ℤ, zero, suc, ◌+◌, ◌<◌, ◌≤◌, ◌^◌, Bool, true, false, List, [], ◌∷◌, ◌++◌, length, take, drop, map, Option, Some, None, refl, sym, ap, subst, ◌∙◌, arith}
use Rattle.std.proofs.Common.{cond, eqb, eqb-true}
use Rattle.std.proofs.lemmas.Bool.{eqb-false}
use Rattle.std.proofs.Math.Logic.{inl}
use Rattle.std.proofs.lemmas.List.{length-drop, length-take, map-append}
use Rattle.dwz_def_reading.specs.Pair.{Pair}
use Rattle.dwz_def_reading.specs.Spelling.{le_value, reach}
use Rattle.std.specs.Prelude.{◌==◌}
use Rattle.dwz_def_reading.specs.Forms.{form_rows}
use Rattle.dwz_def_reading.specs.Rows.{RowView}
use Rattle.dwz_def_reading.specs.Abbrevs.{Declaration, EndsPairs, EndsTable, IsDeclared, IsPair, SpellsDeclaration, SpellsPair, SpellsTable, find_decl}
use Rattle.dwz_def_reading.specs.Documents.{Attr, DwUnit, Entries, Kind, Node, attr_map, first_named}
use Rattle.dwz_def_reading.specs.Entries.{Mode, RawAttr, RawEntry, SpellsAttrs, SpellsEntry, SpellsFront, UnitContext, own_forms}
use Rattle.dwz_def_reading.specs.Lists.{Each}
use Rattle.dwz_def_reading.specs.Items.{SpellsItems}
use Rattle.dwz_def_reading.specs.Meanings.{Around, MeanAttrs, MeanEntries, MeanUnits, MeaningContext, MeansAttr, MeansKind, MeansNode, MeansUnit, base_in, first_raw, number_of, places_in, scope_of}
use Rattle.dwz_def_reading.specs.Meanings.{without_siblings}
use Rattle.dwz_def_reading.proofs.StandLemmas.{bytes_right}
use Rattle.dwz_def_reading.specs.Files.{section_of}
use Rattle.dwz_def_encoding.specs.Bases.{Bases, bases_in, bases_of, offset_in}
use Rattle.dwz_def_reading.specs.Trees.{End, Entry, Forest, IfChildren, Position, SpellsForest}
use Rattle.dwz_def_reading.specs.Units.{CompileUnit, PartialUnit, RawKind, RawUnit, SpellsUnit, SpellsUnits, TypeUnit, header_size, kind_by, root_tag}
use Rattle.dwz_def_reading.specs.Values.{AreBytes, SpellsValue}
use Rattle.dwz_def_reading.proofs.WrittenLemmas.{drop_bytes, front_bytes, le_value-less}
use Rattle.dwz_def_reading.proofs.ListFacts.{in_map}
use Rattle.dwz_def_reading.specs.ElfReading.{bytes_in, section_range}
use Rattle.dwz_def_reading.specs.ElfNames.{sections_in}
use Rattle.dwz_def_encoding.specs.Carried.{BuiltAttr, BuiltEntries, BuiltUnit, CarriedAttr, CarriedEntries, CarriedNode, CarriedUnit, From, IsStored}
use Rattle.dwz_def_encoding.specs.Meant.{KindSays, entry_keys}
use Rattle.dwz_def_tops.specs.Shown.{keys}
use Rattle.dwz_def_encoding.specs.Sound.{SoundKind}

-- ---- declarations that are found

abbrev pub HasPair : Pair → Type 0
HasPair pair = (bytes : List ℕ) × SpellsPair bytes pair

-- a declaration that can be spelled
pub record HasDeclaration (d : Declaration) : Type 0 where
  pub some_tag : 0 < d.tag
  pub tag_fits : d.tag ≤ 0xffff
  pub pairs : Each HasPair d.pairs

pub have_pairs : (pairs earlier : List Pair) (bytes : List ℕ) → SpellsItems IsPair EndsPairs earlier pairs bytes → Each HasPair pairs
have_pairs [] earlier bytes is = tt
have_pairs (p ∷ pairs) earlier bytes is = ((is.front, is.first), have_pairs pairs (earlier ++ p ∷ []) is.back is.second)

has_declaration : (bytes : List ℕ) (d : Declaration) → SpellsDeclaration bytes d → HasDeclaration d
has_declaration bytes d is = record { some_tag = is.some_tag; tag_fits = is.tag_fits; pairs = have_pairs d.pairs [] is.pairs_bytes is.pairs }

pub found_declaration : (table earlier : List Declaration) (bytes : List ℕ) (code : ℕ) (d : Declaration) → SpellsItems IsDeclared EndsTable earlier table bytes → find_decl table code ≡ Some d
    → HasDeclaration d
found_declaration [] earlier bytes code d is e = absurd cc
found_declaration (t ∷ table) earlier bytes code d is e = go (found_declaration table (earlier ++ t ∷ []) is.back code d is.second) (eqb t.code code) e where
  go : (find_decl table code ≡ Some d → HasDeclaration d) → (b : Bool) → cond b (Some t) (find_decl table code) ≡ Some d → HasDeclaration d
  go rest true r = let same : t ≡ d = cc in subst HasDeclaration same (has_declaration is.front t is.first.spelled)
  go rest false r = rest r

-- ---- attributes

-- a stored attribute, DW_AT_sibling too
record IsHeld (old : RawAttr) : Type 0 where
  has_pair : HasPair old.pair
  bytes : List ℕ
  are_bytes : AreBytes bytes
  spelled : SpellsValue form_rows old.pair bytes old.raw

are_held : (pairs : List Pair) (attrs : List RawAttr) (start : ℕ) (bytes : List ℕ) → SpellsAttrs form_rows pairs attrs start bytes → Each HasPair pairs → AreBytes bytes → Each IsHeld attrs
are_held [] [] start bytes is have are = tt
are_held [] (a ∷ attrs) start bytes is have are = absurd is
are_held (p ∷ pairs) [] start bytes is have are = absurd is
are_held (p ∷ pairs) (a ∷ attrs) start bytes is have are =
    let all = subst AreBytes is.parts are in
    let first = is.first in
    let same = first.same in (
      record {
        has_pair = subst HasPair (sym same) have.0;
        bytes = is.first_bytes;
        are_bytes = front_bytes is.first_bytes is.second_bytes all;
        spelled = subst (λ (q : Pair). SpellsValue form_rows q is.first_bytes a.raw) (sym same) first.value;
      },
      are_held pairs attrs (start + length is.first_bytes) is.second_bytes is.second have.1 (bytes_right is.first_bytes is.second_bytes all),
    )

stored_of : (a : RawAttr) → IsHeld a → a.pair.name ≢ 0x01 → IsStored a
stored_of a h other = record { pair_bytes = h.has_pair.0; pair = h.has_pair.1; no_sibling = other; bytes = h.bytes; are_bytes = h.are_bytes; spelled = h.spelled }

are_stored : (attrs : List RawAttr) → Each IsHeld attrs → Each IsStored (without_siblings attrs)
unfolding without_siblings
are_stored [] held = tt
are_stored (a ∷ attrs) held = go (are_stored attrs held.1) (eqb a.pair.name 0x01) refl where
  go : Each IsStored (without_siblings attrs) → (t : Bool) → eqb a.pair.name 0x01 ≡ t → Each IsStored (cond t (without_siblings attrs) (a ∷ without_siblings attrs))
  go rest true e = rest
  go rest false e = (stored_of a held.0 (eqb-false a.pair.name 0x01 e), rest)

map_same : (ps : List ℕ) → ps ≡ map (λ p. p) ps
map_same [] = refl
map_same (p ∷ ps) = ap (λ (w : List ℕ). p ∷ w) (map_same ps)

attr_same : (b : Attr ℕ) → b ≡ attr_map (λ p. p) b
attr_same b = ap (λ (w : List ℕ). record { name = b.name; form = b.form; raw = b.raw; value = record { plain = b.value.plain; refs = w; address = b.value.address } }) (map_same b.value.refs)

module _ (from : From) (origin : Bases) (s : MeaningContext ℕ) (same : (a : RawAttr) → from s a) (unit : bases_of s ≡ origin) where
  attrs_carried : (raw : List RawAttr) (attrs : List (Attr ℕ)) → MeanAttrs s raw attrs → Each IsStored raw → Each BuiltAttr attrs → Each (CarriedAttr from origin) attrs
  attrs_carried [] [] means stored built = tt
  attrs_carried [] (b ∷ attrs) means stored built = absurd means
  attrs_carried (a ∷ raw) [] means stored built = absurd means
  attrs_carried (a ∷ raw) (b ∷ attrs) means stored built = (
    inl (record { was_read = record { scope = s; old = a; read = b; means = means.0; name = λ p. p; same = attr_same b }; file = same a; unit = unit; stored = stored.0; built = built.0 }),
    attrs_carried raw attrs means.1 stored.1 built.1,
  )

-- ---- what a root says

-- the first attribute of another name than DW_AT_sibling
first_stays : (name : ℕ) (attrs : List RawAttr) → eqb 0x01 name ≡ false → first_raw name (without_siblings attrs) ≡ first_raw name attrs
unfolding first_raw without_siblings
first_stays name [] other = refl
first_stays name (a ∷ attrs) other = by (first_stays name attrs other) (eqb a.pair.name 0x01) refl where
  by : first_raw name (without_siblings attrs) ≡ first_raw name attrs → (b : Bool) → eqb a.pair.name 0x01 ≡ b → first_raw name (cond b (without_siblings attrs) (a ∷ without_siblings attrs))
      ≡ cond (eqb a.pair.name name) (Some a) (first_raw name attrs)
  by rest true e =
      let not : eqb a.pair.name name ≡ false = ap (λ (n : ℕ). eqb n name) (eqb-true a.pair.name 0x01 e) ∙ other in
      rest ∙ ap (λ (b : Bool). cond b (Some a) (first_raw name attrs)) (sym not)
  by rest false e = ap (λ (o : Option RawAttr). cond (eqb a.pair.name name) (Some a) o) rest

offset_read : {P : Type 0} (s : MeaningContext P) (a : RawAttr) (b : Attr P) → MeansAttr s a b → base_in (Some a) ≡ offset_in (Some b)
offset_read s a b means =
    ap (λ (n : ℕ). cond (eqb n 0x17) (Some (reach (number_of a.raw))) None) (sym means.form) ∙ ap (λ (z : ℤ). cond (eqb b.form 0x17) (Some (reach z)) None) (sym means.raw)

base_read : {P : Type 0} (s : MeaningContext P) (name : ℕ) (raw : List RawAttr) (attrs : List (Attr P)) → MeanAttrs s raw attrs → base_in (first_raw name raw) ≡ offset_in (first_named name attrs)
unfolding first_raw first_named
base_read s name [] [] means = refl
base_read s name [] (b ∷ attrs) means = absurd means
base_read s name (a ∷ raw) [] means = absurd means
base_read s name (a ∷ raw) (b ∷ attrs) means = by (base_read s name raw attrs means.1) (eqb b.name name) refl where
  by : base_in (first_raw name raw) ≡ offset_in (first_named name attrs) → (t : Bool) → eqb b.name name ≡ t → base_in (cond (eqb a.pair.name name) (Some a) (first_raw name raw))
      ≡ offset_in (cond t (Some b) (first_named name attrs))
  by rest true e = (let same : eqb a.pair.name name ≡ true = ap (λ (n : ℕ). eqb n name) (sym means.0.name) ∙ e in ap (λ (t : Bool). base_in (cond t (Some a) (first_raw name raw))) same
      ∙ offset_read s a b means.0)
  by rest false e = (let same : eqb a.pair.name name ≡ false = ap (λ (n : ℕ). eqb n name) (sym means.0.name) ∙ e in ap (λ (t : Bool). base_in (cond t (Some a) (first_raw name raw))) same ∙ rest)

pub same_bases : (a b c d e f : Option ℕ) → a ≡ b → c ≡ d → e ≡ f → (let x : Bases = record { slots = a; line = c; lists = e } in let y : Bases = record { slots = b; line = d; lists = f } in x ≡ y)
same_bases a b c d e f p q r =
    ap (λ (o : Option ℕ). record { slots = o; line = c; lists = e }) p ∙ ap (λ (o : Option ℕ). record { slots = b; line = o; lists = e }) q
    ∙ ap (λ (o : Option ℕ). record { slots = b; line = d; lists = o }) r

pub bases_read : {P : Type 0} (s : MeaningContext P) (attrs : List (Attr P)) → MeanAttrs s (without_siblings s.root.attrs) attrs
    → (let y : Bases = record { slots = offset_in (first_named 0x72 attrs); line = offset_in (first_named 0x10 attrs); lists = offset_in (first_named 0x8c attrs) } in bases_of s ≡ y)
bases_read s attrs means = same_bases _ _ _ _ _ _
    (ap base_in (sym (first_stays 0x72 s.root.attrs refl)) ∙ base_read s 0x72 (without_siblings s.root.attrs) attrs means)
    (ap base_in (sym (first_stays 0x10 s.root.attrs refl)) ∙ base_read s 0x10 (without_siblings s.root.attrs) attrs means)
    (ap base_in (sym (first_stays 0x8c s.root.attrs refl)) ∙ base_read s 0x8c (without_siblings s.root.attrs) attrs means)

-- ---- entries

module _ (from : From) (origin : Bases) (s : MeaningContext ℕ) (same : (a : RawAttr)
    → from s a) (unit : bases_of s ≡ origin) (c : UnitContext) (forms : c.mode.forms ≡ own_forms) (table_bytes : List ℕ)
    (table : SpellsTable table_bytes c.table) where
  node_carried : (p : Position) (e : RawEntry) (d : Node ℕ) (start : ℕ) (bytes : List ℕ) → SpellsEntry c p e start bytes → MeansNode s e d → AreBytes bytes → Each BuiltAttr d.attrs
      → CarriedNode from origin d
  node_carried p e d start bytes is means are built =
      let parts = is.parts in
      let code = parts.first in
      let decl = found_declaration c.table [] table_bytes code.code is.decl table code.declared in
      let all = subst AreBytes parts.parts are in
      let values = subst (λ (f : ℕ → Bool → List RowView). SpellsAttrs (f c.root_tag (p.depth == 1)) is.decl.pairs e.attrs (start + length parts.first_bytes) parts.second_bytes) forms parts.second in
      let held = are_held is.decl.pairs e.attrs (start + length parts.first_bytes) parts.second_bytes values decl.pairs (bytes_right parts.first_bytes parts.second_bytes all) in
      let tag : d.tag ≡ is.decl.tag = means.tag ∙ is.tag in
      record {
        some_tag = subst (λ (t : ℕ). 0 < t) (sym tag) decl.some_tag;
        tag_fits = subst (λ (t : ℕ). t ≤ 0xffff) (sym tag) decl.tag_fits;
        attrs = attrs_carried from origin s same unit (without_siblings e.attrs) d.attrs means.attrs (are_stored e.attrs held) built;
      }

  none_carried : (g : Entries ℕ) → MeanEntries s End g → CarriedEntries from origin g
  none_carried End m = tt
  none_carried (Entry d h k) m = absurd m

  if_carried : (flag : Bool) (f : Forest RawEntry) (g : Entries ℕ) (b : List ℕ) (Spelled : Type 0) → IfChildren flag f Spelled b → (Spelled → CarriedEntries from origin g) → MeanEntries s f g
      → CarriedEntries from origin g
  if_carried true f g b Spelled is deep means = deep is
  if_carried false f g b Spelled is deep means = none_carried g (subst (λ (x : Forest RawEntry). MeanEntries s x g) is.0 means)

  entries_carried : (f : Forest RawEntry) (g : Entries ℕ) (p : Position) (start : ℕ) (bytes : List ℕ) → SpellsForest (λ e. e.children) (SpellsFront c) f p start bytes → MeanEntries s f g
      → AreBytes bytes → BuiltEntries g → CarriedEntries from origin g
  entries_carried End End p start bytes is means are built = tt
  entries_carried End (Entry d below others) p start bytes is means are built = absurd means
  entries_carried (Entry e children next) End p start bytes is means are built = absurd means
  entries_carried (Entry e children next) (Entry d below others) p start bytes is means are built =
      let all = subst AreBytes is.parts are in
      let rest = bytes_right is.first_bytes (is.second_bytes ++ is.third_bytes) all in (
        node_carried p e d start is.first_bytes is.first means.0 (front_bytes is.first_bytes _ all) built.0,
        if_carried e.children children below is.second_bytes _ is.second (λ q. entries_carried children below _ _ is.second_bytes q means.1 (front_bytes is.second_bytes is.third_bytes rest) built.1)
            means.1,
        entries_carried next others _ _ is.third_bytes is.third means.2 (bytes_right is.second_bytes is.third_bytes rest) built.2,
      )

-- ---- units

pub take_bytes : (n : ℕ) (bytes : List ℕ) → AreBytes bytes → AreBytes (take n bytes)
take_bytes zero bytes are = tt
take_bytes (suc n) [] are = tt
take_bytes (suc n) (b ∷ bytes) are = (are.0, take_bytes n bytes are.1)

-- a signature has eight bytes
pub signature_fits : (signature offset : ℕ) (t p : Bool) (bytes : List ℕ) → AreBytes bytes → length bytes ≡ 24 → TypeUnit signature offset ≡ kind_by t p bytes → signature < 2 ^ 64
signature_fits signature offset false true bytes are len e = absurd cc
signature_fits signature offset false false bytes are len e = absurd cc
signature_fits signature offset true p bytes are len e =
    let same : signature ≡ le_value (take 8 (drop 12 bytes)) = cc in
    let less = le_value-less (take 8 (drop 12 bytes)) (take_bytes 8 (drop 12 bytes) (drop_bytes 12 bytes are)) in
    let eight : length (take 8 (drop 12 bytes)) ≡ 8 = omega (arith, len, length-take 8 (drop 12 bytes), length-drop 12 bytes) in
    let less' : le_value (take 8 (drop 12 bytes)) < 256 ^ 8 = subst (λ (k : ℕ). le_value (take 8 (drop 12 bytes)) < 256 ^ k) eight less in
    omega (arith, same, less')

pub keys_read : {P : Type 0} (s : MeaningContext P) (f : Forest RawEntry) (g : Entries P) → MeanEntries s f g → keys g ≡ map s.around.place (places_in f)
unfolding keys places_in
keys_read s End End means = refl
keys_read s End (Entry d h k) means = absurd means
keys_read s (Entry e f f') End means = absurd means
keys_read {P} s (Entry e f f') (Entry d h k) means =
    let place = s.around.place in
    ap (λ (n : P). n ∷ (keys h ++ keys k)) means.0.place
    ∙ ap (λ (w : List P). place e.at ∷ (w ++ keys k)) (keys_read s f h means.1)
    ∙ ap (λ (w : List P). place e.at ∷ (map place (places_in f) ++ w)) (keys_read s f' k means.2)
    ∙ ap (λ (w : List P). place e.at ∷ w) (sym (map-append place (places_in f) (places_in f')))

pub kind_sound : {P : Type 0} (s : MeaningContext P) (k : RawKind) (m : Kind P) (tag : ℕ) → MeansKind s k m → tag ≡ root_tag k → ((signature offset : ℕ) → k ≡ TypeUnit signature offset → signature < 2 ^ 64)
    → SoundKind m tag
kind_sound {P} s CompileUnit m tag means e fits = subst (λ (x : Kind P). SoundKind x tag) (sym means) e
kind_sound {P} s PartialUnit m tag means e fits = subst (λ (x : Kind P). SoundKind x tag) (sym means) e
kind_sound {P} s (TypeUnit signature offset) m tag means e fits = subst (λ (x : Kind P). SoundKind x tag) (sym means.1) (e, fits signature offset refl)

pub kind_says : {P : Type 0} (s : MeaningContext P) (k : RawKind) (m : Kind P) → MeansKind s k m → KindSays (map s.around.place s.own) m
kind_says s CompileUnit m means = subst (KindSays (map s.around.place s.own)) (sym means) tt
kind_says s PartialUnit m means = subst (KindSays (map s.around.place s.own)) (sym means) tt
kind_says s (TypeUnit signature offset) m means = subst (KindSays (map s.around.place s.own)) (sym means.1) (in_map s.around.place (s.unit + offset) s.own means.0)

module _ (abbrevs : List ℕ) (mode : Mode) (forms : mode.forms ≡ own_forms) (from : From) (around : Around ℕ) (same : (s : MeaningContext ℕ) (a : RawAttr) → s.around ≡ around → from s a) where
  unit_carried : (u : RawUnit) (v : DwUnit ℕ) (before start : ℕ) (bytes : List ℕ) → SpellsUnit abbrevs mode before u start bytes → MeansUnit around u v → AreBytes bytes → BuiltUnit v
      → CarriedUnit from (bases_in v) v
  unit_carried u v before start bytes is means are built =
      let s = scope_of around u in
      let c = is.context in
      let at = is.is_context in
      let same_forms : c.mode.forms ≡ own_forms = ap (λ (m : Mode). m.forms) at.same_mode ∙ forms in
      let parts = subst AreBytes is.parts are in
      let head = front_bytes is.header (is.tree ++ is.padding) parts in
      let tree = front_bytes is.tree is.padding (bytes_right is.header (is.tree ++ is.padding) parts) in
      let t = is.is_tree in
      let in_tree = subst AreBytes t.parts tree in
      let first = t.first in
      let h = is.is_header in
      let tag : v.root.tag ≡ root_tag u.kind = means.root.tag ∙ first.tag ∙ first.stands.root refl ∙ at.same_root in
      let fits : (signature offset : ℕ) → u.kind ≡ TypeUnit signature offset → signature < 2 ^ 64 = λ signature offset e.
      signature_fits signature offset _ _ is.header head (h.size ∙ ap header_size e) (sym e ∙ h.of_kind) in
      let unit : bases_of s ≡ bases_in v = bases_read s v.root.attrs means.root.attrs in
      let own : map s.around.place s.own ≡ entry_keys v = ap (λ (n : ℕ). n ∷ map s.around.place (places_in u.below)) (sym means.root.place)
      ∙ ap (λ (w : List ℕ). v.root.at ∷ w) (sym (keys_read s u.below v.below means.below)) in
      record {
        kind = kind_sound s u.kind v.kind v.root.tag means.kind tag fits;
        main = subst (λ (w : List ℕ). KindSays w v.kind) own (kind_says s u.kind v.kind means.kind);
        root = node_carried from (bases_in v) s (λ a. same s a refl) unit c same_forms at.stands.front at.stands.spelled _ u.root v.root _ t.first_bytes first means.root
            (front_bytes t.first_bytes t.second_bytes in_tree) built.0;
        below = if_carried from (bases_in v) s (λ a. same s a refl) unit c same_forms at.stands.front at.stands.spelled u.root.children u.below v.below t.second_bytes _ t.second
            (λ q. entries_carried from (bases_in v) s (λ a. same s a refl) unit c same_forms at.stands.front at.stands.spelled u.below v.below _ _ t.second_bytes q means.below
            (bytes_right t.first_bytes t.second_bytes in_tree) built.1) means.below;
      }

  pub units_carried : (raw : List RawUnit) (units : List (DwUnit ℕ)) (before start : ℕ) (bytes : List ℕ) → SpellsUnits abbrevs mode before raw start bytes → MeanUnits around raw units → AreBytes bytes
      → Each BuiltUnit units → Each (λ v. CarriedUnit from (bases_in v) v) units
  units_carried [] [] before start bytes is means are built = tt
  units_carried [] (v ∷ units) before start bytes is means are built = absurd means
  units_carried (u ∷ raw) [] before start bytes is means are built = absurd means
  units_carried (u ∷ raw) (v ∷ units) before start bytes is means are built =
      let parts = subst AreBytes is.parts are in (
        unit_carried u v before start is.first_bytes is.first means.0 (front_bytes is.first_bytes is.second_bytes parts) built.0,
        units_carried raw units _ _ is.second_bytes is.second means.1 (bytes_right is.first_bytes is.second_bytes parts) built.1,
      )

pub in_bytes : (input : List ℕ) (range : Option (ℕ × ℕ)) → AreBytes input → AreBytes (bytes_in input range)
in_bytes input None are = tt
in_bytes input (Some range) are = take_bytes range.1 (drop range.0 input) (drop_bytes range.0 input are)

pub section_bytes : (input : List ℕ) (code : ℕ) → AreBytes input → AreBytes (section_of input code)
unfolding section_of
section_bytes input code are = in_bytes input (section_range (sections_in input) code) are
