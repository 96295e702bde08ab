-- Which forms the attributes of the entries of a file that reads have.
use Rattle.std.proofs.Common.{◌≡◌, ℕ, ◌+◌, ◌<◌, Bool, true, false, List, [], ◌∷◌, ◌==◌, length, Option, Some, None, refl, sym, ap, subst, arith, inl, inr}
use Rattle.std.proofs.lemmas.Bool.{eqb-true}
use Rattle.dwz_codes.specs.Rows.{RowView}
use Rattle.dwz_model.specs.Lists.{Each, In}
use Rattle.dwz_model.specs.declared.place.Pair.{Pair}
use Rattle.dwz_def_reading.specs.Entries.{Mode, RawAttr, RawEntry, SpellsAttrs, SpellsEntry, SpellsFront, UnitContext, root_position}
use Rattle.dwz_def_reading.specs.Files.{debug_abbrev, debug_info}
use Rattle.dwz_def_reading.specs.Modes.{of_back}
use Rattle.dwz_def_reading.specs.Trees.{End, Entry, Forest, IfChildren, Position, SpellsForest, behind, first_below}
use Rattle.dwz_def_reading.specs.Units.{RawUnit, SpellsUnit, SpellsUnits, root_tag}
use Rattle.dwz_def_reading.specs.Values.{SpellsValue, constant_of}
use Rattle.dwz_def_expand.specs.OneFile.{FileRead, IsStoredAmong, ReadsOne, limits_behind}
use Rattle.dwz_law_expand.proofs.HeldLemmas.{IsFree, Suits, back_suits}

module _ (m : Mode) (May : ℕ → Bool → ℕ → Type 0) (suits : Suits m May) where
  abbrev AllMay : ℕ → Bool → List RawAttr → Type 0
  AllMay tag root attrs = Each (λ a. May tag root a.pair.form) attrs

  attrs_may : (tag : ℕ) (root : Bool) (pairs : List Pair) (attrs : List RawAttr) (start : ℕ) (bytes : List ℕ) → SpellsAttrs (m.forms tag root) pairs attrs start bytes → AllMay tag root attrs
  attrs_may tag root [] [] start bytes is = tt
  attrs_may tag root [] (a ∷ attrs) start bytes is = absurd is
  attrs_may tag root (p ∷ pairs) [] start bytes is = absurd is
  attrs_may tag root (p ∷ pairs) (a ∷ attrs) start bytes is =
      let same : a.pair ≡ p = is.first.same in
      let value = subst (λ (q : Pair). SpellsValue (m.forms tag root) q is.first_bytes a.raw) (sym same) is.first.value in
      ((suits tag root a.pair.form (constant_of a.pair) is.first_bytes a.raw value).1, attrs_may tag root pairs attrs (start + length is.first_bytes) is.second_bytes is.second)

  module _ (c : UnitContext) (same_mode : c.mode ≡ m) where
    abbrev Good : Bool → RawEntry → Type 0
    Good root e = AllMay c.root_tag root e.attrs

    entry_may : (p : Position) (e : RawEntry) (start : ℕ) (bytes : List ℕ) (root : Bool) → (p.depth == 1) ≡ root → SpellsEntry c p e start bytes → Good root e
    entry_may p e start bytes root at is =
        let parts = is.parts in
        let values = subst (λ (f : ℕ → Bool → List RowView). SpellsAttrs (f c.root_tag (p.depth == 1)) is.decl.pairs e.attrs (start + length parts.first_bytes) parts.second_bytes)
        (ap (λ (n : Mode). n.forms) same_mode) parts.second in
        let values' = subst (λ (b : Bool). SpellsAttrs (m.forms c.root_tag b) is.decl.pairs e.attrs (start + length parts.first_bytes) parts.second_bytes) at values in
        attrs_may c.root_tag root is.decl.pairs e.attrs _ parts.second_bytes values'

    abbrev AllGood : Forest RawEntry → Type 0
    AllGood f = (e : RawEntry) → IsStoredAmong e f → Good false e

    if_may : (flag : Bool) (f : Forest RawEntry) (b : List ℕ) (Spelled : Type 0) → IfChildren flag f Spelled b → (Spelled → AllGood f) → AllGood f
    if_may true f b Spelled is deep = deep is
    if_may false f b Spelled is deep = λ e there. absurd (subst (λ (g : Forest RawEntry). IsStoredAmong e g) is.0 there)

    deep_not : (d : ℕ) → 1 < d → (d == 1) ≡ false
    deep_not d lt = by (d == 1) refl where
      by : (b : Bool) → (d == 1) ≡ b → b ≡ false
      by true e = absurd (let one : d ≡ 1 = eqb-true d 1 e in omega (arith, one, lt))
      by false e = refl

    list_may : (f : Forest RawEntry) (p : Position) (start : ℕ) (bytes : List ℕ) → 1 < p.depth → SpellsForest (λ e. e.children) (SpellsFront c) f p start bytes → AllGood f
    list_may End p start bytes deep is e there = absurd there
    list_may (Entry d children next) p start bytes deep is e (inl x) =
        subst (λ (w : RawEntry). Good false w) x (entry_may p d start is.first_bytes false (deep_not p.depth deep) is.first)
    list_may (Entry d children next) p start bytes deep is e (inr (inl x)) =
        if_may d.children children is.second_bytes _ is.second (λ q. list_may children (first_below p) _ is.second_bytes (omega (arith, deep)) q) e x
    list_may (Entry d children next) p start bytes deep is e (inr (inr x)) = list_may next (behind p children) _ is.third_bytes deep is.third e x

  unit_may : (abbrevs : List ℕ) (before : ℕ) (u : RawUnit) (start : ℕ) (bytes : List ℕ) → SpellsUnit abbrevs m before u start bytes → (e : RawEntry) → IsStoredAmong e u.below
      → AllMay (root_tag u.kind) false e.attrs
  unit_may abbrevs before u start bytes is e there =
      let c = is.context in
      let at = is.is_context in
      let t = is.is_tree in
      subst (λ (k : ℕ). AllMay k false e.attrs) at.same_root
      (if_may c at.same_mode u.root.children u.below t.second_bytes _ t.second
      (λ q. list_may c at.same_mode u.below (first_below (root_position before)) _ t.second_bytes (omega arith) q) e there)

  units_may : (abbrevs : List ℕ) (raw : List RawUnit) (before start : ℕ) (bytes : List ℕ) → SpellsUnits abbrevs m before raw start bytes → (u : RawUnit) → In u raw → (e : RawEntry)
      → IsStoredAmong e u.below → AllMay (root_tag u.kind) false e.attrs
  units_may abbrevs [] before start bytes is u there = absurd there
  units_may abbrevs (x ∷ raw) before start bytes is u (inl same) =
      subst (λ (w : RawUnit). (e : RawEntry) → IsStoredAmong e w.below → AllMay (root_tag w.kind) false e.attrs) same (unit_may abbrevs before x start is.first_bytes is.first)
  units_may abbrevs (x ∷ raw) before start bytes is u (inr later) = units_may abbrevs raw _ _ is.second_bytes is.second u later

-- those of the file, below the roots of its units
pub file_may : (file : FileRead) (common : Option FileRead) → ReadsOne (record { file = file; common = common }) → (u : RawUnit) → In u file.raw → (e : RawEntry) → IsStoredAmong e u.below
    → Each (λ a. IsFree (root_tag u.kind) false a.pair.form) e.attrs
file_may file None reads =
    units_may (of_back false _) IsFree (back_suits false (limits_behind None).entries) (debug_abbrev file.bytes) file.raw 0 0 (debug_info file.bytes) reads.file.spelled
file_may file (Some c) reads =
    units_may (of_back true _) IsFree (back_suits true (limits_behind (Some c)).entries) (debug_abbrev file.bytes) file.raw 0 0 (debug_info file.bytes) reads.file.spelled
