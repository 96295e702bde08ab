-- What was written is read by the rule of files that may have been written, where its entries may stand so.
use Rattle.std.proofs.Common.{◌≡◌, ◌≢◌, ℕ, ◌+◌, ◌<◌, ◌≤◌, Bool, true, false, List, [], ◌∷◌, ◌==◌, cond, Some, None, refl, sym, ap, subst, ◌∙◌, arith}
use Rattle.std.specs.Prelude.{not}
use Rattle.std.specs.List.{filter}
use Rattle.std.proofs.lemmas.Bool.{eqb-true}
use Rattle.dwz_def_reading.specs.Forms.{form_rows}
use Rattle.dwz_def_reading.specs.Rows.{RowView, has, row_of, shape_in, shape_of}
use Rattle.dwz_def_reading.specs.Lists.{Each}
use Rattle.dwz_def_reading.specs.Entries.{Mode, RawAttr, RawEntry, codes_of_common, forms_of_common, of_common, root_position}
use Rattle.dwz_def_reading.specs.Files.{debug_abbrev, debug_info}
use Rattle.dwz_def_reading.specs.Modes.{binding_forms, forms_of_back, forms_with, of_back}
use Rattle.dwz_def_reading.specs.Trees.{EachEntry, End, Entry, Forest, Position, behind, first_below, size}
use Rattle.dwz_def_reading.specs.Units.{CompileUnit, PartialUnit, RawKind, RawUnit, TypeUnit, entries_in, entry_count, root_tag}
use Rattle.dwz_def_reading.specs.Values.{written_rows}
use Rattle.dwz_def_encoding.specs.Fitting.{all_forms}
use Rattle.dwz_def_expand.proofs.AgainLemmas.{EntryMay, KindMay, UnitsMay, units_again}
use Rattle.dwz_law_cross.specs.ReadLaws.{AllMayStand, CommonLaw, IsFormOfBack, IsFormOfCommon, MayStand, WrittenLaw}
use Rattle.dwz_law_cross.proofs.ReadLemmas.{same_shape}

-- ---- forms that are left out of a list

left_shape : (keep : ℕ → Bool) (rows : List RowView) (form : ℕ) → keep form ≡ true → shape_of (filter (λ row. keep row.code) rows) form ≡ shape_of rows form
left_shape keep [] form is = refl
left_shape keep (r ∷ rows) form is = by (keep r.code) refl (left_shape keep rows form is) where
  left : List RowView
  left = filter (λ row. keep row.code) rows

  kept : (c : Bool) → shape_of left form ≡ shape_of rows form → shape_in (cond c (Some r) (row_of left form)) ≡ shape_in (cond c (Some r) (row_of rows form))
  kept true rest = refl
  kept false rest = rest

  gone : (c : Bool) → (r.code == form) ≡ c → keep r.code ≡ false → shape_of left form ≡ shape_of rows form → shape_of left form ≡ shape_in (cond c (Some r) (row_of rows form))
  gone true e no_ rest = absurd (let same : r.code ≡ form = eqb-true r.code form e in let both : true ≡ false = sym is ∙ sym (ap keep same) ∙ no_ in cc)
  gone false e no_ rest = rest

  by : (b : Bool) → keep r.code ≡ b → shape_of left form ≡ shape_of rows form → shape_of (cond b (r ∷ left) left) form ≡ shape_of (r ∷ rows) form
  by true k rest = kept (r.code == form) rest
  by false k rest = gone (r.code == form) refl k rest

with_shape : (sup : Bool) (form : ℕ) → (sup ≡ false → (form ≢ 0x1c) × (form ≢ 0x1d)) → shape_of (forms_with sup) form ≡ shape_of written_rows form
with_shape true form h = refl
with_shape false form h = (let o = h refl in sym (same_shape form o.0 o.1))

back_shape : (sup : Bool) (tag : ℕ) (root : Bool) (form : ℕ) → IsFormOfBack sup tag root form → shape_of (forms_of_back sup tag root) form ≡ shape_of written_rows form
back_shape sup tag true form is = with_shape sup form is.alone
back_shape sup tag false form is = by (tag == 0x3c) refl where
  by : (b : Bool) → (tag == 0x3c) ≡ b → shape_of (cond b (filter (λ row. not (has row.code binding_forms)) (forms_with sup)) (forms_with sup)) form ≡ shape_of written_rows form
  by true e = left_shape (λ n. not (has n binding_forms)) (forms_with sup) form (ap not (is.free (eqb-true tag 0x3c e) refl)) ∙ with_shape sup form is.alone
  by false e = with_shape sup form is.alone

none_leads : (root : Bool) → (has 0x1c (codes_of_common root) ≡ false) × (has 0x1d (codes_of_common root) ≡ false)
unfolding has
none_leads true = (refl, refl)
none_leads false = (refl, refl)

not_it : (codes : List ℕ) (form k : ℕ) → has form codes ≡ true → has k codes ≡ false → form ≢ k
not_it codes form k is no_ e = (let both : true ≡ false = sym is ∙ ap (λ (n : ℕ). has n codes) e ∙ no_ in cc)

common_shape : (tag : ℕ) (root : Bool) (form : ℕ) → IsFormOfCommon tag root form → shape_of (forms_of_common tag root) form ≡ shape_of written_rows form
common_shape tag root form is =
    let o = none_leads root in
    left_shape (λ n. has n (codes_of_common root)) form_rows form is
    ∙ sym (same_shape form (not_it (codes_of_common root) form 0x1c is o.0) (not_it (codes_of_common root) form 0x1d is o.1))

-- ---- from a mode in which all forms are read to one that reads these

module _ (IsForm : ℕ → Bool → ℕ → Type 0) (m n : Mode) (all : m.forms ≡ all_forms) (deep : n.depth ≡ 256)
    (to : (tag : ℕ) (root : Bool) (form : ℕ) → IsForm tag root form → shape_of (n.forms tag root) form ≡ shape_of written_rows form) where
  forms_may : (tag : ℕ) (root : Bool) (attrs : List RawAttr) → Each (λ a. IsForm tag root a.pair.form) attrs
      → Each (λ a. shape_of (n.forms tag root) a.pair.form ≡ shape_of (m.forms tag root) a.pair.form) attrs
  forms_may tag root [] h = tt
  forms_may tag root (a ∷ attrs) h = (
    to tag root a.pair.form h.0 ∙ sym (ap (λ (forms : ℕ → Bool → List RowView). shape_of (forms tag root) a.pair.form) all),
    forms_may tag root attrs h.1,
  )

  entry_may : (tag : ℕ) (p q : Position) (e : RawEntry) → p.depth ≡ q.depth → MayStand IsForm tag q e → p.before < n.entries → EntryMay m n tag p e
  entry_may tag p q e same h fits = record {
    depth = (let low = h.depth in omega (arith, same, low, deep));
    room = fits;
    forms = forms_may tag (p.depth == 1) e.attrs (subst (λ (d : ℕ). Each (λ a. IsForm tag (d == 1) a.pair.form) e.attrs) (sym same) h.forms);
  }

  list_may : (tag : ℕ) (f : Forest RawEntry) (p q : Position) → p.depth ≡ q.depth → EachEntry (MayStand IsForm tag) q f → p.before + size f ≤ n.entries → EachEntry (EntryMay m n tag) p f
  list_may tag End p q same h fits = tt
  list_may tag (Entry e children next) p q same h fits = (
    entry_may tag p q e same h.0 (omega (arith, fits)),
    list_may tag children (first_below p) (first_below q) (omega (arith, same)) h.1 (omega (arith, fits)),
    list_may tag next (behind p children) (behind q children) same h.2 (omega (arith, fits)),
  )

  units_may : (units : List RawUnit) (before : ℕ) → Each (λ u. KindMay n u.kind) units → AllMayStand IsForm units → before + entries_in units ≤ n.entries → UnitsMay m n before units
  unfolding entries_in
  units_may [] before kinds h fits = tt
  units_may (u ∷ units) before kinds h fits = (
    record {
      kind = kinds.0;
      entries = (
        entry_may (root_tag u.kind) (root_position before) (root_position 0) u.root refl h.0.0 (omega (arith, fits)),
        list_may (root_tag u.kind) u.below (first_below (root_position before)) (first_below (root_position 0)) refl h.0.1 (omega (arith, fits)),
      );
    },
    units_may units (before + entry_count u) kinds.1 h.1 (omega (arith, fits)),
  )

kind_back : (sup : Bool) (entries : ℕ) (kind : RawKind) → KindMay (of_back sup entries) kind
kind_back sup entries CompileUnit = refl
kind_back sup entries (TypeUnit s t) = refl
kind_back sup entries PartialUnit = refl

kinds_back : (sup : Bool) (entries : ℕ) (units : List RawUnit) → Each (λ u. KindMay (of_back sup entries) u.kind) units
kinds_back sup entries [] = tt
kinds_back sup entries (u ∷ units) = (kind_back sup entries u.kind, kinds_back sup entries units)

kinds_common : (entries : ℕ) (units : List RawUnit) → Each (λ u. u.kind ≡ PartialUnit) units → Each (λ u. KindMay (of_common entries) u.kind) units
kinds_common entries [] h = tt
kinds_common entries (u ∷ units) h = (subst (KindMay (of_common entries)) (sym h.0) refl, kinds_common entries units h.1)

-- ---- files

pub written_reads : WrittenLaw
written_reads None number m bytes raw units says room sup stand =
    let fits = room.entries in
    let may = units_may (IsFormOfBack false) says.mode (of_back false m.entries) says.forms refl (back_shape false) raw 0 (kinds_back false m.entries raw) stand (omega (arith, fits)) in
    record {
      size = room.size;
      elf = says.elf;
      same_machine = room.machine;
      sup = sup;
      spelled = units_again (debug_abbrev bytes) says.mode (of_back false m.entries) raw 0 0 (debug_info bytes) says.spelled may;
      means = says.means;
      machine = refl;
      ranges = says.ranges;
      lists = says.lists;
    }
written_reads (Some c) number m bytes raw units says room sup stand =
    let fits = room.entries in
    let may = units_may (IsFormOfBack true) says.mode (of_back true m.entries) says.forms refl (back_shape true) raw 0 (kinds_back true m.entries raw) stand (omega (arith, fits)) in
    record {
      size = room.size;
      elf = says.elf;
      same_machine = room.machine;
      sup = sup;
      spelled = units_again (debug_abbrev bytes) says.mode (of_back true m.entries) raw 0 0 (debug_info bytes) says.spelled may;
      means = says.means;
      machine = refl;
      ranges = says.ranges;
      lists = says.lists;
    }

pub common_reads : CommonLaw
common_reads number m bytes raw units says room sup kinds stand =
    let fits = room.entries in
    let may = units_may IsFormOfCommon says.mode (of_common m.entries) says.forms refl common_shape raw 0 (kinds_common m.entries raw kinds) stand (omega (arith, fits)) in
    record {
      size = room.size;
      elf = says.elf;
      same_machine = room.machine;
      sup = sup;
      spelled = units_again (debug_abbrev bytes) says.mode (of_common m.entries) raw 0 0 (debug_info bytes) says.spelled may;
      means = says.means;
      machine = refl;
      ranges = says.ranges;
      lists = says.lists;
    }
