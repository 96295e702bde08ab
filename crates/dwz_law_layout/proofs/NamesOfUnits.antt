-- A unit that is written is a new one, or what is kept of an old one; forms and numbers of texts change neither names nor kinds.
use Rattle.std.proofs.Common.{◌≡◌, ℕ, Bool, true, false, List, [], ◌∷◌, map, refl, sym, ap, subst, ◌∙◌, inl, inr}
use Rattle.dwz_def_reading.specs.Lists.{Each, In}
use Rattle.dwz_def_reading.specs.Pruning.{new_number}
use Rattle.dwz_def_reading.proofs.ListFacts.{in_left, in_map, in_right}
use Rattle.dwz_def_reading.specs.Documents.{Compile, Doc, DwUnit, Kind, OfType, Partial, kind_map}
use Rattle.dwz_def_tops.specs.Spots.{EntryName, FileUnit, Row, rows_of_root, units_of}
use Rattle.dwz_def_tops.specs.Seen.{IsPartial}
use Rattle.dwz_def_tops.specs.Shown.{units_keys}
use Rattle.dwz_def_tops.proofs.Members.{From, in_map_from}
use Rattle.dwz_def_images.specs.Homes.{Rule}
use Rattle.dwz_def_images.specs.Moves.{Move, image_in}
use Rattle.dwz_def_images.specs.After.{AreAfter, AreOld, ArePlaced, IsKeptUnit, IsNewUnit}
use Rattle.dwz_def_tops.specs.UnitNames.{IsNamedBelow, IsNamedUnit}
use Rattle.dwz_def_images.specs.Units.{all_units, common_units, file_units, out_units}
use Rattle.dwz_def_images.proofs.FileLemmas.{files_are}
use Rattle.dwz_def_images.proofs.OldFiles.{files_old}
use Rattle.dwz_def_images.proofs.OutLemmas.{all_outs}
use Rattle.dwz_def_encoding.specs.Placing.{FileOut, Forms, fit_unit, fit_units, with_keys}
use Rattle.dwz_def_encoding.specs.Pruned.{renumbered_unit, renumbered_units}
use Rattle.dwz_def_readback.specs.Back.{run_of}
use Rattle.dwz_def_readback.specs.Files.{fitted_by, formed_by, Run, Stored, common_fitted, common_forms, file_forms, file_out, files_out, fitted, fitted_if, formed, sources, uses}
use Rattle.dwz_law_layout.specs.Apart.{IsUnitName, UnitNamed}

-- the name of a unit, its kind, and the name of its root
record Head : Type 0 where
  at : EntryName
  kind : Kind EntryName
  root : EntryName

abbrev head : DwUnit EntryName → Head
head u = record { at = u.at; kind = u.kind; root = u.root.at }

heads_same : (change : DwUnit EntryName → DwUnit EntryName) → ((u : DwUnit EntryName) → head (change u) ≡ head u) → (units : List (DwUnit EntryName)) → map head (map change units) ≡ map head units
heads_same change same [] = refl
heads_same change same (u ∷ units) = ap (λ (h : Head). h ∷ map head (map change units)) (same u) ∙ ap (λ (w : List Head). head u ∷ w) (heads_same change same units)

fit_heads : (f : Forms EntryName) (units : List (DwUnit EntryName)) → map head (fit_units f units) ≡ map head units
unfolding fit_units
fit_heads f units = heads_same (fit_unit (with_keys f (units_keys units))) (λ u. refl) units

new_heads : (number : ℕ → ℕ) (units : List (DwUnit EntryName)) → map head (renumbered_units number units) ≡ map head units
unfolding renumbered_units
new_heads number units = heads_same (renumbered_unit number) (λ u. refl) units

module _ (r : Run) where
  fitted_heads : (file : ℕ) → map head (fitted r file) ≡ map head (out_units r.move r.units file)
  unfolding fitted_by formed_by
  fitted_heads file = by (r.input.prunes file) where
    by : (b : Bool) → map head (fitted_if b r file) ≡ map head (out_units r.move r.units file)
    by true = new_heads (new_number (sources r file).strs (uses r file)) (formed r file) ∙ fit_heads (file_forms r file) (out_units r.move r.units file)
    by false = fit_heads (file_forms r file) (out_units r.move r.units file)

  common_heads : map head (common_fitted r) ≡ map head (common_units r.move)
  unfolding common_fitted
  common_heads = fit_heads (common_forms r) (common_units r.move)

  out_in : (files : List ℕ) (file : ℕ) (u : DwUnit EntryName) → In file files → In u (out_units r.move r.units file) → In u (file_units r.move r.units files)
  unfolding file_units
  out_in [] file u there is = absurd there
  out_in (n ∷ files) file u (inl e) is = in_left u (out_units r.move r.units n) (file_units r.move r.units files) (subst (λ (m : ℕ). In u (out_units r.move r.units m)) (sym e) is)
  out_in (n ∷ files) file u (inr later) is = in_right u (out_units r.move r.units n) (file_units r.move r.units files) (out_in files file u later is)

-- ---- units after

not_partial : (i : ℕ) (row : Row) (image : EntryName → EntryName) (u : DwUnit EntryName) → IsNamedUnit i row u → (kind : Kind EntryName) → u.kind ≡ kind → IsPartial (kind_map image kind) → ⊥
not_partial i row image u named Compile e partial = partial
not_partial i row image u named (OfType signature main) e partial = partial
not_partial i row image u named Partial e partial = subst (λ (w : Kind EntryName). IsNamedBelow i w row u.below) e named.below

module _ (units : List (FileUnit EntryName)) (m : Move) (old : AreOld units) where
  new_named : (v : DwUnit EntryName) → IsNewUnit m v → UnitNamed v
  new_named v new = subst UnitNamed new.is (record { at = tt; root = λ p. (new.number, refl) })

  kept_named : (v : DwUnit EntryName) → IsKeptUnit m units v → UnitNamed v
  kept_named v kept =
      let named = old.units_named kept.number kept.unit kept.nth in
      subst UnitNamed kept.is (record {
        at = subst IsUnitName (sym named.unit) tt;
        root = λ p. absurd (not_partial kept.number (rows_of_root units kept.number) (image_in m) kept.unit.unit named kept.unit.unit.kind refl p);
      })

-- units with the heads of others are named as these
named_by : (units outs : List (DwUnit EntryName)) → map head units ≡ map head outs → ((v : DwUnit EntryName) → In v outs → UnitNamed v) → (u : DwUnit EntryName) → In u units → UnitNamed u
named_by units outs same named u there =
    let h : In (head u) (map head outs) = subst (In (head u)) same (in_map head u units there) in
    let o : From head outs (head u) = in_map_from head (head u) outs h in
    let v = named o.source o.there in
    record {
      at = subst IsUnitName (ap (λ (x : Head). x.at) o.is) v.at;
      root = λ p. (let w = v.root (subst IsPartial (sym (ap (λ (x : Head). x.kind) o.is)) p) in (w.0, sym (ap (λ (x : Head). x.root) o.is) ∙ w.1));
    }

module _ (docs : List (Doc ℕ)) (rule : Rule) (placed : Each (λ doc. ArePlaced doc.units) docs)
    (input : Stored) where
  abbrev r : Run
  r = run_of rule docs input

  old : AreOld (units_of docs)
  old = files_old docs placed

  after : AreAfter r.move (units_of docs) (all_units r.move r.units r.files)
  after = all_outs (units_of docs) rule r.files (files_are docs)

  after_named : (v : DwUnit EntryName) → In v (all_units r.move r.units r.files) → UnitNamed v
  after_named v there = elim (after.from v there) [
    | inl new ↦ new_named (units_of docs) r.move old v new
    | inr kept ↦ kept_named (units_of docs) r.move old v kept
  ]

  pub all_named : (f : FileOut EntryName) → In f (files_out r) → (u : DwUnit EntryName) → In u f.units → UnitNamed u
  all_named f (inl e) u there =
      named_by (common_fitted r) (common_units r.move) (common_heads r) (λ v v_in. after_named v (in_left v (common_units r.move) (file_units r.move r.units r.files) v_in)) u
      (subst (λ (g : FileOut EntryName). In u g.units) (sym e) there)
  all_named f (inr later) u there =
      let o = in_map_from (file_out r) f r.files later in
      named_by (fitted r o.source) (out_units r.move r.units o.source) (fitted_heads r o.source)
      (λ v v_in. after_named v (in_right v (common_units r.move) (file_units r.move r.units r.files) (out_in r r.files o.source v o.there v_in))) u
      (subst (λ (g : FileOut EntryName). In u g.units) (sym o.is) there)
