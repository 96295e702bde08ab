-- No entry of a unit after has the name of the first unit: that is another unit's, and no name stands twice.
use Rattle.std.proofs.Common.{◌≡◌, ℕ, List, [], ◌∷◌, refl, sym, ap, subst, ◌∙◌, inl, inr}
use Rattle.dwz_def_reading.specs.Lists.{Each, In}
use Rattle.dwz_def_reading.proofs.ListFacts.{in_cases, in_left, in_right}
use Rattle.dwz_def_reading.specs.Documents.{Doc, DwUnit}
use Rattle.dwz_def_tops.specs.Lists.{NoneTwice, Nth}
use Rattle.dwz_def_tops.specs.Shown.{unit_keys, units_keys}
use Rattle.dwz_def_tops.proofs.Members.{each_in, nth_in}
use Rattle.dwz_def_tops.proofs.OnceLemmas.{none_both, none_right}
use Rattle.dwz_def_tops.specs.Spots.{EntryName, FileUnit, UnitOf, file_numbers, units_of}
use Rattle.dwz_def_tops.proofs.Tops.{unit_of}
use Rattle.dwz_def_images.specs.Homes.{Common, Home, Local, Rule}
use Rattle.dwz_def_images.specs.Moves.{Move, plan}
use Rattle.dwz_def_images.specs.IsPlan.{IsPart}
use Rattle.dwz_def_images.proofs.PlanLemmas.{are_parts}
use Rattle.dwz_def_images.specs.Units.{all_units, common_units, file_units, kept_unit, kept_units, out_units, partial_units}
use Rattle.dwz_def_images.specs.After.{AreOld, ArePlaced}
use Rattle.dwz_def_images.proofs.ApartUnits.{all_apart}
use Rattle.dwz_def_images.proofs.FileLemmas.{files_are, numbers_rise}
use Rattle.dwz_def_images.proofs.OldFiles.{files_old}
use Rattle.dwz_def_encoding.specs.Meant.{entry_keys}
use Rattle.dwz_def_readback.proofs.HomeLemmas.{kept_from, parts_from}
use Rattle.dwz_def_readback.proofs.WithinLemmas.{kept_to}

-- ---- names of units and of entries

pub unit_there : (us : List (DwUnit EntryName)) (w : DwUnit EntryName) → In w us → In w.at (units_keys us)
unfolding units_keys unit_keys
unit_there [] w there = absurd there
unit_there (x ∷ us) w (inl e) = inl (ap (λ (v : DwUnit EntryName). v.at) e)
unit_there (x ∷ us) w (inr later) = in_right w.at (unit_keys x) (units_keys us) (unit_there us w later)

pub entry_there : (us : List (DwUnit EntryName)) (v : DwUnit EntryName) (s : EntryName) → In v us → In s (entry_keys v) → In s (units_keys us)
unfolding units_keys unit_keys
entry_there [] v s there key = absurd there
entry_there (x ∷ us) v s (inl e) key = in_left s (unit_keys x) (units_keys us) (inr (subst (λ (w : DwUnit EntryName). In s (entry_keys w)) (sym e) key))
entry_there (x ∷ us) v s (inr later) key = in_right s (unit_keys x) (units_keys us) (entry_there us v s later key)

pub apart : (us : List (DwUnit EntryName)) (w v : DwUnit EntryName) → NoneTwice (units_keys us) → In w us → In v us → In w.at (entry_keys v) → ⊥
unfolding units_keys unit_keys
apart [] w v once w_in v_in key = absurd w_in
apart (x ∷ us) w v once (inl e) (inl d) key =
    let own : In x.at (entry_keys x) = subst (λ (a : DwUnit EntryName). In x.at (entry_keys a)) (sym d) (subst (λ (a : DwUnit EntryName). In a.at (entry_keys v)) (sym e) key) in
    once.0 (in_left x.at (entry_keys x) (units_keys us) own)
apart (x ∷ us) w v once (inl e) (inr later) key =
    none_both (unit_keys x) (units_keys us) once w.at (inl (ap (λ (a : DwUnit EntryName). a.at) e)) (entry_there us v w.at later key)
apart (x ∷ us) w v once (inr later) (inl d) key =
    none_both (unit_keys x) (units_keys us) once w.at (inr (subst (λ (a : DwUnit EntryName). In w.at (entry_keys a)) (sym d) key)) (unit_there us w later)
apart (x ∷ us) w v once (inr w_in) (inr v_in) key = apart us w v (none_right (unit_keys x) (units_keys us) once) w_in v_in key

first_of : {X : Type 0} (xs : List X) (i : ℕ) (x : X) → Nth 0 xs i x → (y : X) × Nth 0 xs 0 y
first_of [] i x nth = absurd nth
first_of (y ∷ xs) i x nth = (y, inl (refl, refl))

module _ (docs : List (Doc ℕ)) (rule : Rule) (placed : Each (λ doc. ArePlaced doc.units) docs) where
  abbrev us : List (FileUnit EntryName)
  us = units_of docs

  abbrev m : Move
  m = plan rule (units_of docs) (file_numbers 0 docs)

  old : AreOld (units_of docs)
  old = files_old docs placed

  once : NoneTwice (units_keys (all_units m us (file_numbers 0 docs)))
  once = all_apart us rule old (file_numbers 0 docs) (numbers_rise 0 docs)

  abbrev all : List (DwUnit EntryName)
  all = all_units m us (file_numbers 0 docs)

  out_in : (files : List ℕ) (n : ℕ) (v : DwUnit EntryName) → In n files → In v (out_units m us n) → In v (file_units m us files)
  unfolding file_units
  out_in [] n v there is = absurd there
  out_in (file ∷ files) n v (inl e) is =
      in_left v (out_units m us file) (file_units m us files) (subst (λ (w : ℕ). In v (out_units m us w)) (sym e) is)
  out_in (file ∷ files) n v (inr later) is = in_right v (out_units m us file) (file_units m us files) (out_in files n v later is)

  among_all : (n : ℕ) (v : DwUnit EntryName) → In n (file_numbers 0 docs) → In v (out_units m us n) → In v all
  among_all n v there is = in_right v (common_units m) (file_units m us (file_numbers 0 docs)) (out_in (file_numbers 0 docs) n v there is)

  -- ---- there is a first unit

  abbrev HasUnit : Type 0
  HasUnit = (u : FileUnit EntryName) × Nth 0 us 0 u

  part_some : (h : Home) (v : DwUnit EntryName) → In v (partial_units m h 0 m.parts) → HasUnit
  part_some h v is =
      let o = parts_from m h 0 m.parts v is in
      let p = each_in (IsPart rule us) o.part m.parts (are_parts rule us (file_numbers 0 docs)) (nth_in 0 m.parts o.number o.part o.nth) in
      let t = p.some.0 in
      let there = ((p.tops t).0 p.some.1).there in
      let u = unit_of us t there in
      first_of us t.unit u.unit u.nth

  out_some : (n : ℕ) (v : DwUnit EntryName) → In v (out_units m us n) → HasUnit
  unfolding out_units
  out_some n v is = elim (in_cases v (partial_units m (Local n) 0 m.parts) (kept_units m us n 0 us) is) [
    | inl a ↦ part_some (Local n) v a
    | inr b ↦ (let o = kept_from m us n 0 us v b in first_of us o.number o.unit o.nth)
  ]

  files_some : (files : List ℕ) (v : DwUnit EntryName) → In v (file_units m us files) → HasUnit
  unfolding file_units
  files_some [] v is = absurd is
  files_some (n ∷ files) v is = elim (in_cases v (out_units m us n) (file_units m us files) is) [
    | inl a ↦ out_some n v a
    | inr b ↦ files_some files v b
  ]

  all_some : (v : DwUnit EntryName) → In v all → HasUnit
  unfolding common_units
  all_some v is = elim (in_cases v (partial_units m Common 0 m.parts) (file_units m us (file_numbers 0 docs)) is) [
    | inl a ↦ part_some Common v a
    | inr b ↦ files_some (file_numbers 0 docs) v b
  ]

  first_kept : (u : FileUnit EntryName) → Nth 0 us 0 u → In (kept_unit m us 0 u) all
  unfolding out_units
  first_kept u nth =
      among_all u.file (kept_unit m us 0 u) (files_are docs 0 u nth)
      (in_right (kept_unit m us 0 u) (partial_units m (Local u.file) 0 m.parts) (kept_units m us u.file 0 us)
      (kept_to m us u.file 0 us 0 u nth refl))

  pub no_entry : (v : DwUnit EntryName) (s : EntryName) → In v all → In s (entry_keys v) → s ≡ UnitOf 0 → ⊥
  no_entry v s is key e =
      let u = all_some v is in
      let at : u.0.unit.at ≡ UnitOf 0 = (old.units_named 0 u.0 u.1).unit in
      apart all (kept_unit m us 0 u.0) v once (first_kept u.0 u.1) is (subst (λ (w : EntryName). In w (entry_keys v)) (e ∙ sym at) key)
