-- The bytes of entries spell them as they are stored.
use Rattle.std.proofs.Common.{◌≡◌, ℕ, ℤ, pos, suc, ◌+◌, ◌-◌, ◌^◌, ◌<◌, ◌≤◌, Bool, List, [], ◌∷◌, length, map, refl, sym, subst, arith}
use Rattle.std.specs.Prelude.{◌==◌}
use Rattle.dwz_def_reading.specs.Spelling.{SpellsFixed, SpellsUleb, le_bytes, uleb}
use Rattle.dwz_def_reading.proofs.FixedLemmas.{fixed_written}
use Rattle.dwz_def_reading.proofs.PaddedLemmas.{uleb_spells}
use Rattle.dwz_def_reading.specs.Forms.{form_rows}
use Rattle.dwz_def_reading.specs.Rows.{RowView}
use Rattle.dwz_def_reading.specs.Documents.{Attr, Entries, Node}
use Rattle.dwz_def_reading.specs.Entries.{Mode, SpellsAttrs, SpellsCode, SpellsEntry, SpellsFront, UnitContext}
use Rattle.dwz_def_reading.specs.Classes.{OfCommonEntry, OfExpression, OfInfoEntry, OfUnitEntry}
use Rattle.dwz_def_reading.specs.Classes.{Class, class_of}
use Rattle.dwz_def_reading.specs.Trees.{End, Entry, IfChildren, Position, SpellsForest, behind, first_below, size}
use Rattle.dwz_def_reading.specs.Values.{Bytes, Number, Raw, SpellsShape, SpellsValue, shape_of, value_bytes, written_rows}
use Rattle.dwz_def_reading.proofs.WrittenLemmas.{value_written}
use Rattle.dwz_def_reading.specs.Lists.{Each}
use Rattle.dwz_def_encoding.specs.Fitting.{AttrFits, EntriesFit, FitsAs, FitsInfo, FitsUnit, NodeFits, all_forms, depth}
use Rattle.dwz_def_encoding.specs.Placing.{Stands, zeros}
use Rattle.dwz_def_encoding.specs.Sound.{HasBytes, SoundAttr, SoundEntries, SoundNode, StoresAs}
use Rattle.dwz_def_encoding.specs.Writing.{DeclarationShape as TableShape, Numbering, any, attrs_bytes, code_bytes, code_in, coded, declaration_of, expr_bytes, first_place, if_any, node_bytes}
use Rattle.dwz_def_encoding.specs.Writing.{pair_of}
use Rattle.dwz_def_encoding.specs.Writing.{declaration_shape as entry_shape, spelled, stored, stored_as}
use Rattle.dwz_def_encoding.proofs.WriteLengths.{expr_len}
use Rattle.dwz_def_encoding.proofs.RawUnits.{code_of, raw_attrs, raw_entries, raw_entry}
use Rattle.dwz_def_encoding.proofs.WriteCodes.{Covers, Has, code_bounds, code_found}

-- ---- values

-- what has bytes is spelled by what is written
has_spelled : {K : Type 0} (a : Attr K) (raw : Raw) → HasBytes a raw → SpellsValue written_rows (pair_of a) (value_bytes a.form raw) raw
has_spelled a raw h = value_written a.form raw (record { pair = pair_of a; of_form = refl; bytes = h.bytes; are_bytes = h.are_bytes; spelled = h.spelled })

four_spelled : (x : ℕ) → x < 2 ^ 32 → SpellsFixed 4 (le_bytes 4 x) x
four_spelled x lt = fixed_written 4 x (omega (arith, lt))

ref4_spelled : (number : ℤ) (x : ℕ) → x < 2 ^ 32 → SpellsShape (shape_of written_rows 0x13) number (value_bytes 0x13 (Number (pos x))) (Number (pos x))
unfolding form_rows value_bytes
ref4_spelled number x lt = record { content = x; spelled = four_spelled x lt; value = refl }

ref_addr_spelled : (number : ℤ) (x : ℕ) → x < 2 ^ 32 → SpellsShape (shape_of written_rows 0x10) number (value_bytes 0x10 (Number (pos x))) (Number (pos x))
unfolding form_rows value_bytes
ref_addr_spelled number x lt = record { content = x; spelled = four_spelled x lt; value = refl }

ref_sup4_spelled : (number : ℤ) (x : ℕ) → x < 2 ^ 32 → SpellsShape (shape_of written_rows 0x1c) number (value_bytes 0x1c (Number (pos x))) (Number (pos x))
unfolding form_rows value_bytes
ref_sup4_spelled number x lt = record { content = x; spelled = four_spelled x lt; value = refl }

exprloc_spelled : (number : ℤ) (content : List ℕ) → length content < 2 ^ 64 → SpellsShape (shape_of written_rows 0x18) number (value_bytes 0x18 (Bytes content)) (Bytes content)
unfolding form_rows value_bytes
exprloc_spelled number content lt = record { content = content; spelled = record { front = uleb (length content); count = uleb_spells (length content) lt; parts = refl }; value = refl }

module _ {K : Type 0} (n : Numbering K) (unit : ℕ) where
  pub first_unit : (refs : List K) → Each (FitsUnit n unit) refs → first_place n refs - unit < 2 ^ 32
  first_unit [] fits = omega arith
  first_unit (k ∷ refs) fits = fits.0.1

  pub first_info : (refs : List K) → Each (FitsInfo n) refs → first_place n refs < 2 ^ 32
  first_info [] fits = omega arith
  first_info (k ∷ refs) fits = fits.0

  as_spelled : (c : Class) (a : Attr K) → StoresAs c a → FitsAs c n unit a → SpellsValue written_rows (pair_of a) (value_bytes a.form (stored_as c n unit a)) (stored_as c n unit a)
  as_spelled OfUnitEntry a s fits = rw s.form (ref4_spelled _ _ (first_unit a.value.refs fits))
  as_spelled OfInfoEntry a s fits = rw s.form (ref_addr_spelled _ _ (first_info a.value.refs fits))
  as_spelled OfCommonEntry a s fits = rw s.form (ref_sup4_spelled (pos 0) _ (first_info a.value.refs fits))
  as_spelled OfExpression a s fits =
      let same = expr_len zeros n 0 unit a.value.plain a.value.refs in
      let short = s.short in
      rw s.form (exprloc_spelled _ (expr_bytes n unit a.value.plain a.value.refs) (omega (arith, same, short)))
  as_spelled c a s fits = has_spelled a _ s

  pub attrs_spelled : (attrs : List (Attr K)) (at : ℕ) → Each SoundAttr attrs → Each (AttrFits n unit) attrs
      → SpellsAttrs written_rows (map pair_of attrs) (raw_attrs n unit at attrs) at (attrs_bytes n unit attrs)
  unfolding attrs_bytes raw_attrs
  attrs_spelled [] at s fits = refl
  attrs_spelled (a ∷ attrs) at s fits = record {
    first_bytes = value_bytes a.form (stored n unit a);
    first = record { place = refl; end = refl; same = refl; value = as_spelled (class_of a.form) a s.0.value fits.0 };
    second_bytes = attrs_bytes n unit attrs;
    second = attrs_spelled attrs _ s.1 fits.1;
    parts = refl;
  }

-- ---- entries

pub zero_spelled : SpellsUleb (0 ∷ []) 0
zero_spelled = record { groups = omega arith; len = omega arith; value = refl; in_range = refl }

-- what reading a unit needs to know
abbrev pub context : List TableShape → ℕ → ℕ → Mode → UnitContext
context table root_tag end mode = record { table = coded 1 table; root_tag = root_tag; end = end; mode = mode }

-- the code of an entry's shape is spelled
code_spelled : (table : List TableShape) (s : TableShape) (h : Has table s) → length table < 2 ^ 63 → SpellsCode (coded 1 table) (declaration_of h.code s) (code_bytes (code_in 1 table s))
code_spelled table s h few =
    let b = code_bounds 1 table s h.code h.is in
    let fits : h.code < 2 ^ 64 = omega (arith, b.1, few) in
    rw h.is (record { code = h.code; spelled = uleb_spells h.code fits; some_code = omega (arith, b.0); declared = code_found 1 table s h.code h.is })

module _ {K : Type 0} (n : Numbering K) (unit : ℕ) (table : List TableShape) (root_tag end : ℕ) (mode : Mode) (forms : mode.forms ≡ all_forms) where
  pub entry_spelled : (e : Node K) (children : Entries K) (p : Position) (start : ℕ) (h : Has table (entry_shape e children)) → length table < 2 ^ 63 → SoundNode e → NodeFits n unit e
      → n.place e.at ≡ start
      → (p.depth ≡ 1 → e.tag ≡ root_tag) → p.depth ≤ mode.depth → p.before < mode.entries
      → SpellsEntry (context table root_tag end mode) p (raw_entry n unit table e children) start (node_bytes n unit table e children)
  unfolding node_bytes
  entry_spelled e children p start h few s fits place root deep room =
      let c = context table root_tag end mode in
      let one : SpellsEntry c p (raw_entry n unit table e children) (n.place e.at) (node_bytes n unit table e children) = record {
        place = refl;
        decl = declaration_of h.code (entry_shape e children);
        tag = refl;
        children = refl;
        stands = record { root = root; depth = deep; room = room };
        parts = record {
          first_bytes = code_of table e children;
          first = code_spelled table (entry_shape e children) h few;
          second_bytes = attrs_bytes n unit e.attrs;
          second = subst (λ (f : ℕ → Bool → List RowView). SpellsAttrs (f root_tag (p.depth == 1)) (map pair_of e.attrs) (raw_attrs n unit (n.place e.at + length (code_of table e children)) e.attrs)
              (n.place e.at + length (code_of table e children)) (attrs_bytes n unit e.attrs)) (sym forms) (attrs_spelled n unit e.attrs _ s.attrs fits);
          parts = refl;
        };
      } in
      subst (λ (at : ℕ). SpellsEntry c p (raw_entry n unit table e children) at (node_bytes n unit table e children)) place one

  pub size_raw : (f : Entries K) → size (raw_entries n unit table f) ≡ size f
  unfolding raw_entries
  size_raw End = refl
  size_raw (Entry e children next) = (let a = size_raw children in let b = size_raw next in omega (arith, a, b))

  pub if_spelled : (children : Entries K) (bytes : List ℕ) (Spelled : List ℕ → Type 0) → Spelled bytes
      → IfChildren (any children) (raw_entries n unit table children) (Spelled (if_any children bytes)) (if_any children bytes)
  unfolding raw_entries
  if_spelled End bytes Spelled is = (refl, refl)
  if_spelled (Entry e c d) bytes Spelled is = is

  pub forest_spelled : (f : Entries K) (p : Position) (at : ℕ) → length table < 2 ^ 63 → Covers table f → SoundEntries f → EntriesFit n unit f → Stands n unit table at f
      → 1 < p.depth → p.depth + depth f ≤ suc mode.depth → p.before + size f ≤ mode.entries
      → SpellsForest (λ e. e.children) (SpellsFront (context table root_tag end mode)) (raw_entries n unit table f) p at (spelled n unit table f)
  unfolding raw_entries spelled depth
  forest_spelled End p at few covers s fits stands below deep room = ((λ e. omega (arith, e, below)), zero_spelled)
  forest_spelled (Entry e children next) p at few covers s fits stands below deep room =
      let front = node_bytes n unit table e children in
      let inner = if_any children (spelled n unit table children) in
      let children_at = forest_spelled children (first_below p) (at + length front) few covers.1 s.1 fits.1 stands.1 (omega (arith, below)) (omega (arith, deep)) (omega (arith, room)) in
      let next_at = forest_spelled next (behind p (raw_entries n unit table children)) (at + length front + length inner) few covers.2 s.2 fits.2 stands.2 below (omega (arith, deep))
      (omega (arith, room, size_raw children)) in
      record {
        first_bytes = front;
        first = entry_spelled e children p at covers.0 few s.0 fits.0 stands.0 (λ e. absurd (omega (arith, e, below))) (omega (arith, deep)) (omega (arith, room));
        second_bytes = inner;
        second = if_spelled children (spelled n unit table children) (λ b. SpellsForest (λ e. e.children) (SpellsFront (context table root_tag end mode)) (raw_entries n unit table children)
            (first_below p) (at + length front) b) children_at;
        third_bytes = spelled n unit table next;
        third = next_at;
        parts = refl;
      }
