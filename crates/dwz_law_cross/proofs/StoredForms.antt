-- Units whose forms and depth are such as they may be are stored so.
use Rattle.std.proofs.Common.{◌≡◌, ℕ, pos, cond, suc, ◌+◌, ◌<◌, ◌≤◌, Bool, true, false, List, [], ◌∷◌, ◌==◌, map, refl, sym, subst, arith}
use Rattle.std.proofs.lemmas.Bool.{eqb-true}
use Rattle.dwz_def_reading.specs.Lists.{Each}
use Rattle.dwz_def_reading.specs.Spelling.{reach}
use Rattle.dwz_def_reading.specs.Documents.{Attr, Compile, DwUnit, Entries, Kind, OfType, Partial}
use Rattle.dwz_def_reading.specs.Trees.{EachEntry, End, Entry, Position, behind, first_below}
use Rattle.dwz_def_reading.specs.Units.{root_tag}
use Rattle.dwz_def_encoding.specs.Fitting.{EachAttr, depth}
use Rattle.dwz_def_encoding.specs.Placing.{KeyedForms, UnitForms, fit, fit_attr, fit_unit, unit_forms, with_form}
use Rattle.dwz_def_encoding.specs.Pruned.{entries_renumbered, renumbered_attr, renumbered_units}
use Rattle.dwz_def_encoding.specs.Writing.{DeclarationShape, Numbering}
use Rattle.dwz_def_encoding.proofs.RawUnits.{raw_attrs, raw_entries, raw_entry, raw_kind, raw_units}
use Rattle.dwz_law_cross.specs.ReadLaws.{AllMayStand, MayStand}
use Rattle.dwz_law_cross.proofs.ChosenForms.{fit_attrs, fit_each}

-- DW_TAG_compile_unit, DW_TAG_type_unit, DW_TAG_partial_unit
abbrev pub tag_of : {K : Type 0} → Kind K → ℕ
tag_of Compile = 0x11
tag_of (OfType signature main) = 0x41
tag_of Partial = 0x3c

-- forms of the root and of the entries below it, and how deep these are
pub record UnitStandsSo {K : Type 0} (IsForm : ℕ → Bool → ℕ → Type 0) (u : DwUnit K) : Type 0 where
  pub root : Each (λ a. IsForm (tag_of u.kind) true a.form) u.root.attrs
  pub below : EachAttr (λ a. IsForm (tag_of u.kind) false a.form) u.below
  pub deep : suc (depth u.below) ≤ 256

deep_not : (d : ℕ) → 1 < d → (d == 1) ≡ false
deep_not d lt = by (d == 1) refl where
  by : (b : Bool) → (d == 1) ≡ b → b ≡ false
  by true e = absurd (let one : d ≡ 1 = eqb-true d 1 e in omega (arith, one, lt))
  by false e = refl

module _ {K : Type 0} (IsForm : ℕ → Bool → ℕ → Type 0) (n : Numbering K) where
  attrs_stand : (tag : ℕ) (root : Bool) (unit : ℕ) (attrs : List (Attr K)) (at : ℕ) → Each (λ a. IsForm tag root a.form) attrs → Each (λ a. IsForm tag root a.pair.form) (raw_attrs n unit at attrs)
  unfolding raw_attrs
  attrs_stand tag root unit [] at h = tt
  attrs_stand tag root unit (a ∷ attrs) at h = (h.0, attrs_stand tag root unit attrs _ h.1)

  entries_stand : (tag unit : ℕ) (table : List DeclarationShape) (g : Entries K) (p : Position) → 1 < p.depth → p.depth + depth g ≤ 257 → EachAttr (λ a. IsForm tag false a.form) g
      → EachEntry (MayStand IsForm tag) p (raw_entries n unit table g)
  unfolding raw_entries depth
  entries_stand tag unit table End p low deep h = tt
  entries_stand tag unit table (Entry e c k) p low deep h = (
    record {
      depth = omega (arith, deep);
      forms = subst (λ (b : Bool). Each (λ a. IsForm tag b a.pair.form) (raw_entry n unit table e c).attrs) (sym (deep_not p.depth low)) (attrs_stand tag false unit e.attrs _ h.0);
    },
    entries_stand tag unit table c (first_below p) (omega (arith, low)) (omega (arith, deep)) h.1,
    entries_stand tag unit table k (behind p (raw_entries n unit table c)) low (omega (arith, deep)) h.2,
  )

  tag_same : (unit : ℕ) (k : Kind K) → tag_of k ≡ root_tag (raw_kind n unit k)
  tag_same unit Compile = refl
  tag_same unit (OfType signature main) = refl
  tag_same unit Partial = refl

  pub stored_stand : (tables : List (List ℕ)) (units : List (DwUnit K)) → Each (UnitStandsSo IsForm) units → AllMayStand IsForm (raw_units n tables units)
  unfolding raw_units
  stored_stand tables [] h = tt
  stored_stand tables (u ∷ units) h =
      let own = h.0 in
      let same = tag_same (n.place u.at) u.kind in
      let root = subst (λ (tag : ℕ). Each (λ a. IsForm tag true a.form) u.root.attrs) same own.root in
      let below = subst (λ (tag : ℕ). EachAttr (λ a. IsForm tag false a.form) u.below) same own.below in
      let deep = own.deep in (
        (
          record { depth = omega arith; forms = attrs_stand (root_tag (raw_kind n (n.place u.at) u.kind)) true (n.place u.at) u.root.attrs _ root },
          entries_stand (root_tag (raw_kind n (n.place u.at) u.kind)) (n.place u.at) _ u.below (record { before = 1; depth = 2 }) (omega arith) (omega (arith, deep)) below,
        ),
        stored_stand tables units h.1,
      )

-- ---- with their forms

fit_deep : {K : Type 0} (x : UnitForms K) (g : Entries K) → depth (fit x g) ≡ depth g
unfolding depth fit
fit_deep x End = refl
fit_deep x (Entry e c k) = rw (fit_deep x c, fit_deep x k) refl

-- units stand so with their forms where their forms do
pub fit_stands : {K : Type 0} (IsForm : ℕ → Bool → ℕ → Type 0) (Root Below : Attr K → Type 0) (f : KeyedForms K) (u : DwUnit K)
    → ((a : Attr K) → Root a → IsForm (tag_of u.kind) true (fit_attr (unit_forms f u) a).form) → ((a : Attr K) → Below a → IsForm (tag_of u.kind) false (fit_attr (unit_forms f u) a).form)
    → Each Root u.root.attrs → EachAttr Below u.below → suc (depth u.below) ≤ 256 → UnitStandsSo IsForm (fit_unit f u)
fit_stands IsForm Root Below f u of_root of_below root below deep = record {
  root = fit_attrs (unit_forms f u) Root (λ a. IsForm (tag_of u.kind) true a.form) of_root u.root.attrs root;
  below = fit_each (unit_forms f u) Below (λ a. IsForm (tag_of u.kind) false a.form) of_below u.below below;
  deep = (let same = fit_deep (unit_forms f u) u.below in omega (arith, same, deep));
}

-- ---- with new numbers of texts

module _ {K : Type 0} (number : ℕ → ℕ) where
  form_kept : (a : Attr K) → (renumbered_attr number a).form ≡ a.form
  form_kept a = by (a.form == 0x0e) refl where
    by : (b : Bool) → (a.form == 0x0e) ≡ b → (cond b (with_form a (record { form = 0x0e; raw = pos (number (reach a.raw)) })) a).form ≡ a.form
    by true e = sym (eqb-true a.form 0x0e e)
    by false e = refl

  attrs_kept : (P : ℕ → Type 0) (attrs : List (Attr K)) → Each (λ a. P a.form) attrs → Each (λ a. P a.form) (map (renumbered_attr number) attrs)
  attrs_kept P [] h = tt
  attrs_kept P (a ∷ attrs) h = (subst P (sym (form_kept a)) h.0, attrs_kept P attrs h.1)

  entries_kept : (P : ℕ → Type 0) (g : Entries K) → EachAttr (λ a. P a.form) g → EachAttr (λ a. P a.form) (entries_renumbered number g)
  unfolding entries_renumbered
  entries_kept P End h = tt
  entries_kept P (Entry e c k) h = (attrs_kept P e.attrs h.0, entries_kept P c h.1, entries_kept P k h.2)

  deep_kept : (g : Entries K) → depth (entries_renumbered number g) ≡ depth g
  unfolding entries_renumbered depth
  deep_kept End = refl
  deep_kept (Entry e c k) = rw (deep_kept c, deep_kept k) refl

  pub renumbered_stand : (IsForm : ℕ → Bool → ℕ → Type 0) (units : List (DwUnit K)) → Each (UnitStandsSo IsForm) units → Each (UnitStandsSo IsForm) (renumbered_units number units)
  unfolding renumbered_units
  renumbered_stand IsForm [] h = tt
  renumbered_stand IsForm (u ∷ units) h =
      let own = h.0 in (
        record {
          root = attrs_kept (IsForm (tag_of u.kind) true) u.root.attrs own.root;
          below = entries_kept (IsForm (tag_of u.kind) false) u.below own.below;
          deep = (let same = deep_kept u.below in let deep = own.deep in omega (arith, same, deep));
        },
        renumbered_stand IsForm units h.1,
      )
