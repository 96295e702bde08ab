-- What is read of a file stores its attributes, with forms of what is written.
use Rattle.std.proofs.Common.{◌≡◌, ℕ, ℤ, ◌+◌, ◌<◌, ◌≤◌, ◌^◌, Bool, true, false, List, [], ◌∷◌, ◌++◌, ◌==◌, cond, length, Some, refl, sym, ap, subst, ◌∙◌, arith, inl, inr}
use Rattle.std.specs.Prelude.{not}
use Rattle.std.specs.List.{filter}
use Rattle.std.proofs.lemmas.Bool.{eqb-true}
use Rattle.dwz_def_reading.specs.Forms.{form_rows}
use Rattle.dwz_def_reading.specs.Rows.{RowView, has, row_of, shape_in, shape_of}
use Rattle.dwz_def_reading.specs.Lists.{Each, In}
use Rattle.dwz_def_reading.specs.Pair.{Pair}
use Rattle.dwz_def_reading.specs.Abbrevs.{SpellsPair, SpellsTable}
use Rattle.dwz_def_reading.specs.Entries.{Mode, RawAttr, RawEntry, SpellsAttrs, SpellsEntry, SpellsFront, UnitContext, codes_of_common, of_common, root_position}
use Rattle.dwz_def_reading.specs.Modes.{binding_forms, forms_with, of_back}
use Rattle.dwz_def_reading.specs.Trees.{End, Entry, Forest, IfChildren, Position, SpellsForest, behind, first_below}
use Rattle.dwz_def_reading.specs.Units.{RawUnit, SpellsUnit, SpellsUnits, TypeUnit, header_size, root_tag}
use Rattle.dwz_def_reading.specs.Values.{AreBytes, Raw, SpellsShape, SpellsValue, constant_of, written_rows}
use Rattle.dwz_def_reading.proofs.StandLemmas.{bytes_right}
use Rattle.dwz_def_reading.proofs.WrittenLemmas.{front_bytes, same_shape}
use Rattle.dwz_def_encoding.proofs.ReadAgain.{HasPair, found_declaration, signature_fits}
use Rattle.dwz_def_expand.specs.OneFile.{IsStoredAmong}

-- ---- forms

-- what is spelled in such a form is so in one of what is written; and what is known of the form
abbrev pub Suits : Mode → (ℕ → Bool → ℕ → Type 0) → Type 0
Suits m May =
    (tag : ℕ) (root : Bool) (form : ℕ) (z : ℤ) (bytes : List ℕ) (raw : Raw) → SpellsShape (shape_of (m.forms tag root) form) z bytes raw
    → SpellsShape (shape_of written_rows form) z bytes raw × May tag root form

-- in rows of which some are left out it is of one that stays
kept_row : (keep : ℕ → Bool) (rows : List RowView) (form : ℕ) (z : ℤ) (bytes : List ℕ) (raw : Raw) → SpellsShape (shape_of (filter (λ row. keep row.code) rows) form) z bytes raw
    → SpellsShape (shape_of rows form) z bytes raw × (keep form ≡ true)
kept_row keep [] form z bytes raw is = absurd is
kept_row keep (r ∷ rows) form z bytes raw is = by (keep r.code) refl is (kept_row keep rows form z bytes raw) where
  left : List RowView
  left = filter (λ row. keep row.code) rows

  Is : List RowView → Type 0
  Is some = SpellsShape (shape_of some form) z bytes raw

  there : (c : Bool) → (r.code == form) ≡ c → keep r.code ≡ true → SpellsShape (shape_in (cond c (Some r) (row_of left form))) z bytes raw → (Is left → Is rows × (keep form ≡ true))
      → SpellsShape (shape_in (cond c (Some r) (row_of rows form))) z bytes raw × (keep form ≡ true)
  there true e k is rest = (is, ap keep (sym (eqb-true r.code form e)) ∙ k)
  there false e k is rest = rest is

  gone : (c : Bool) → (r.code == form) ≡ c → keep r.code ≡ false → Is rows × (keep form ≡ true) → SpellsShape (shape_in (cond c (Some r) (row_of rows form))) z bytes raw × (keep form ≡ true)
  gone true e k is = absurd (let both : true ≡ false = sym is.1 ∙ sym (ap keep (eqb-true r.code form e)) ∙ k in cc)
  gone false e k is = is

  by : (b : Bool) → keep r.code ≡ b → Is (cond b (r ∷ left) left) → (Is left → Is rows × (keep form ≡ true)) → Is (r ∷ rows) × (keep form ≡ true)
  by true k is rest = there (r.code == form) refl k is rest
  by false k is rest = gone (r.code == form) refl k (rest is)

own_row : (form : ℕ) (z : ℤ) (bytes : List ℕ) (raw : Raw) → SpellsShape (shape_of form_rows form) z bytes raw → SpellsShape (shape_of written_rows form) z bytes raw
own_row form z bytes raw is = same_shape form z bytes raw is

with_row : (sup : Bool) (form : ℕ) (z : ℤ) (bytes : List ℕ) (raw : Raw) → SpellsShape (shape_of (forms_with sup) form) z bytes raw → SpellsShape (shape_of written_rows form) z bytes raw
with_row true form z bytes raw is = is
with_row false form z bytes raw is = own_row form z bytes raw is

-- below the root of a partial unit no form binds
abbrev pub IsFree : ℕ → Bool → ℕ → Type 0
IsFree tag root form = tag ≡ 0x3c → root ≡ false → has form binding_forms ≡ false

pub back_suits : (sup : Bool) (entries : ℕ) → Suits (of_back sup entries) IsFree
back_suits sup entries tag true form z bytes raw is = (with_row sup form z bytes raw is, λ t r. absurd (let x : true ≡ false = r in cc))
back_suits sup entries tag false form z bytes raw is = by (tag == 0x3c) refl is where
  not_has : (b : Bool) → not b ≡ true → b ≡ false
  not_has true e = absurd (let x : false ≡ true = e in cc)
  not_has false e = refl

  by : (b : Bool) → (tag == 0x3c) ≡ b → SpellsShape (shape_of (cond b (filter (λ row. not (has row.code binding_forms)) (forms_with sup)) (forms_with sup)) form) z bytes raw
      → SpellsShape (shape_of written_rows form) z bytes raw × IsFree tag false form
  by true e is =
      let o = kept_row (λ n. not (has n binding_forms)) (forms_with sup) form z bytes raw is in (with_row sup form z bytes raw o.0, λ t r. not_has (has form binding_forms) o.1)
  by false e is = (with_row sup form z bytes raw is, λ t r. absurd (let no_ : (tag == 0x3c) ≡ true = ap (λ (n : ℕ). n == 0x3c) t in cc))

-- a finished common file has just such forms, none of which binds below a root
common_free : (codes : List ℕ) → (form : ℕ) → has form codes ≡ true → has 0x01 codes ≡ false → has 0x17 codes ≡ false → has 0x1b codes ≡ false → has 0x22 codes ≡ false → has 0x23 codes ≡ false
    → has 0x29 codes ≡ false → has 0x2a codes ≡ false → has 0x2b codes ≡ false → has 0x2c codes ≡ false → has form binding_forms ≡ false
unfolding has
common_free codes form is a b c d e f g h i =
    rw (other 0x01 a, other 0x17 b, other 0x1b c, other 0x22 d, other 0x23 e, other 0x29 f, other 0x2a g, other 0x2b h, other 0x2c i) refl
  where
    other : (k : ℕ) → has k codes ≡ false → (k == form) ≡ false
    other k none = by (k == form) refl where
      by : (x : Bool) → (k == form) ≡ x → x ≡ false
      by true q = absurd (let both : true ≡ false = sym is ∙ sym (ap (λ (n : ℕ). has n codes) (eqb-true k form q)) ∙ none in cc)
      by false q = refl

none_bind : (form : ℕ) → has form (codes_of_common false) ≡ true → has form binding_forms ≡ false
unfolding has
none_bind form is = common_free (codes_of_common false) form is refl refl refl refl refl refl refl refl refl

pub common_suits : (entries : ℕ) → Suits (of_common entries) IsFree
common_suits entries tag root form z bytes raw is =
    let o = kept_row (λ n. has n (codes_of_common root)) form_rows form z bytes raw is in
    (own_row form z bytes raw o.0, λ t r. none_bind form (subst (λ (b : Bool). has form (codes_of_common b) ≡ true) r o.1))

-- ---- entries that are stored

-- a stored attribute, DW_AT_sibling too
pub record IsHeld (May : ℕ → Type 0) (old : RawAttr) : Type 0 where
  pub pair_bytes : List ℕ
  pub pair : SpellsPair pair_bytes old.pair
  pub bytes : List ℕ
  pub are_bytes : AreBytes bytes
  pub spelled : SpellsValue written_rows old.pair bytes old.raw
  pub may : May old.pair.form

pub record HoldsAll (May : ℕ → Type 0) (e : RawEntry) : Type 0 where
  pub some_tag : 0 < e.tag
  pub tag_fits : e.tag ≤ 0xffff
  pub attrs : Each (IsHeld May) e.attrs

-- a unit whose entries are stored so
pub record UnitHolds (May : ℕ → Bool → ℕ → Type 0) (u : RawUnit) : Type 0 where
  pub tag : u.root.tag ≡ root_tag u.kind
  pub signature : (signature offset : ℕ) → u.kind ≡ TypeUnit signature offset → signature < 2 ^ 64
  pub root : HoldsAll (May (root_tag u.kind) true) u.root
  pub below : (e : RawEntry) → IsStoredAmong e u.below → HoldsAll (May (root_tag u.kind) false) e

module _ (m : Mode) (May : ℕ → Bool → ℕ → Type 0) (suits : Suits m May) where
  attrs_held : (tag : ℕ) (root : Bool) (pairs : List Pair) (attrs : List RawAttr) (start : ℕ) (bytes : List ℕ) → SpellsAttrs (m.forms tag root) pairs attrs start bytes → Each HasPair pairs → AreBytes bytes
      → Each (IsHeld (May tag root)) attrs
  attrs_held tag root [] [] start bytes is have are = tt
  attrs_held tag root [] (a ∷ attrs) start bytes is have are = absurd is
  attrs_held tag root (p ∷ pairs) [] start bytes is have are = absurd is
  attrs_held tag root (p ∷ pairs) (a ∷ attrs) start bytes is have are =
      let all = subst AreBytes is.parts are in
      let same : a.pair ≡ p = is.first.same in
      let value = subst (λ (q : Pair). SpellsValue (m.forms tag root) q is.first_bytes a.raw) (sym same) is.first.value in
      let o = suits tag root a.pair.form (constant_of a.pair) is.first_bytes a.raw value in
      let pair : HasPair a.pair = subst HasPair (sym same) have.0 in (
        record { pair_bytes = pair.0; pair = pair.1; bytes = is.first_bytes; are_bytes = front_bytes is.first_bytes is.second_bytes all; spelled = o.0; may = o.1 },
        attrs_held tag root pairs attrs (start + length is.first_bytes) is.second_bytes is.second have.1 (bytes_right is.first_bytes is.second_bytes all),
      )

  module _ (c : UnitContext) (same_mode : c.mode ≡ m) (table_bytes : List ℕ) (table : SpellsTable table_bytes c.table) where
    abbrev Good : Bool → RawEntry → Type 0
    Good root e = HoldsAll (May c.root_tag root) e

    entry_held : (p : Position) (e : RawEntry) (start : ℕ) (bytes : List ℕ) (root : Bool) → (p.depth == 1) ≡ root → SpellsEntry c p e start bytes → AreBytes bytes → Good root e
    entry_held p e start bytes root at is are =
        let parts = is.parts in
        let code = parts.first in
        let decl = found_declaration c.table [] table_bytes code.code is.decl table code.declared in
        let all = subst AreBytes parts.parts are in
        let values = subst (λ (f : ℕ → Bool → List RowView). SpellsAttrs (f c.root_tag (p.depth == 1)) is.decl.pairs e.attrs (start + length parts.first_bytes) parts.second_bytes)
        (ap (λ (n : Mode). n.forms) same_mode) parts.second in
        let values' = subst (λ (b : Bool). SpellsAttrs (m.forms c.root_tag b) is.decl.pairs e.attrs (start + length parts.first_bytes) parts.second_bytes) at values in
        record {
          some_tag = subst (λ (t : ℕ). 0 < t) (sym is.tag) decl.some_tag;
          tag_fits = subst (λ (t : ℕ). t ≤ 0xffff) (sym is.tag) decl.tag_fits;
          attrs = attrs_held c.root_tag root is.decl.pairs e.attrs _ parts.second_bytes values' decl.pairs (bytes_right parts.first_bytes parts.second_bytes all);
        }

    abbrev AllGood : Forest RawEntry → Type 0
    AllGood f = (e : RawEntry) → IsStoredAmong e f → Good false e

    if_held : (flag : Bool) (f : Forest RawEntry) (b : List ℕ) (Spelled : Type 0) → IfChildren flag f Spelled b → (Spelled → AllGood f) → AllGood f
    if_held true f b Spelled is deep = deep is
    if_held false f b Spelled is deep = λ e there. absurd (subst (λ (g : Forest RawEntry). IsStoredAmong e g) is.0 there)

    deep_not : (d : ℕ) → 1 < d → (d == 1) ≡ false
    deep_not d lt = by (d == 1) refl where
      by : (b : Bool) → (d == 1) ≡ b → b ≡ false
      by true e = absurd (let one : d ≡ 1 = eqb-true d 1 e in omega (arith, one, lt))
      by false e = refl

    list_held : (f : Forest RawEntry) (p : Position) (start : ℕ) (bytes : List ℕ) → 1 < p.depth → SpellsForest (λ e. e.children) (SpellsFront c) f p start bytes → AreBytes bytes → AllGood f
    list_held End p start bytes deep is are e there = absurd there
    list_held (Entry d children next) p start bytes deep is are e (inl x) =
        let all = subst AreBytes is.parts are in subst (λ (w : RawEntry). Good false w) x (entry_held p d start is.first_bytes false (deep_not p.depth deep) is.first (front_bytes is.first_bytes _ all))
    list_held (Entry d children next) p start bytes deep is are e (inr (inl x)) =
        let all = subst AreBytes is.parts are in
        let rest = bytes_right is.first_bytes (is.second_bytes ++ is.third_bytes) all in
        if_held d.children children is.second_bytes _ is.second (λ q. list_held children (first_below p) _ is.second_bytes (omega (arith, deep)) q (front_bytes is.second_bytes is.third_bytes rest)) e x
    list_held (Entry d children next) p start bytes deep is are e (inr (inr x)) =
        let all = subst AreBytes is.parts are in
        let rest = bytes_right is.first_bytes (is.second_bytes ++ is.third_bytes) all in
        list_held next (behind p children) _ is.third_bytes deep is.third (bytes_right is.second_bytes is.third_bytes rest) e x

  unit_held : (abbrevs : List ℕ) (before : ℕ) (u : RawUnit) (start : ℕ) (bytes : List ℕ) → SpellsUnit abbrevs m before u start bytes → AreBytes bytes → UnitHolds May u
  unit_held abbrevs before u start bytes is are =
      let c = is.context in
      let at = is.is_context in
      let parts = subst AreBytes is.parts are in
      let head = front_bytes is.header (is.tree ++ is.padding) parts in
      let tree = front_bytes is.tree is.padding (bytes_right is.header (is.tree ++ is.padding) parts) in
      let t = is.is_tree in
      let in_tree = subst AreBytes t.parts tree in
      let h = is.is_header in
      record {
        tag = t.first.tag ∙ t.first.stands.root refl ∙ at.same_root;
        signature = λ signature offset e. signature_fits signature offset _ _ is.header head (h.size ∙ ap header_size e) (sym e ∙ h.of_kind);
        root = subst (λ (k : ℕ). HoldsAll (May k true) u.root) at.same_root
            (entry_held c at.same_mode at.stands.front at.stands.spelled (root_position before) u.root _ t.first_bytes true refl t.first (front_bytes t.first_bytes t.second_bytes in_tree));
        below = λ e there. subst (λ (k : ℕ). HoldsAll (May k false) e) at.same_root
            (if_held c at.same_mode at.stands.front at.stands.spelled u.root.children u.below t.second_bytes _ t.second
            (λ q. list_held c at.same_mode at.stands.front at.stands.spelled u.below (first_below (root_position before)) _ t.second_bytes (omega arith) q (bytes_right t.first_bytes t.second_bytes in_tree)) e there);
      }

  pub units_held : (abbrevs : List ℕ) (raw : List RawUnit) (before start : ℕ) (bytes : List ℕ) → SpellsUnits abbrevs m before raw start bytes → AreBytes bytes → (u : RawUnit) → In u raw → UnitHolds May u
  units_held abbrevs [] before start bytes is are u there = absurd there
  units_held abbrevs (x ∷ raw) before start bytes is are u (inl e) =
      let parts = subst AreBytes is.parts are in subst (λ (w : RawUnit). UnitHolds May w) e (unit_held abbrevs before x start is.first_bytes is.first (front_bytes is.first_bytes is.second_bytes parts))
  units_held abbrevs (x ∷ raw) before start bytes is are u (inr r) =
      let parts = subst AreBytes is.parts are in units_held abbrevs raw _ _ is.second_bytes is.second (bytes_right is.first_bytes is.second_bytes parts) u r
