-- By names: a file before, and what stands after in its place over a finished common file, where copies are one.
use Rattle.std.proofs.Common.{◌≡◌, ◌⊎◌, ℕ, suc, Bool, true, false, List, [], ◌∷◌, ◌++◌, ◌==◌, map, refl, sym, ap, subst, ◌∙◌, inl, inr}
use Rattle.std.proofs.lemmas.List.{map-append}
use Rattle.dwz_def_reading.specs.Documents.{Doc, DwUnit, unit_map}
use Rattle.dwz_def_reading.specs.Lists.{In}
use Rattle.dwz_def_reading.proofs.ListFacts.{in_map}
use Rattle.dwz_def_reading.proofs.Members.{in_map_from, nth_one}
use Rattle.dwz_def_tops.specs.Lists.{Nth}
use Rattle.dwz_def_tops.specs.Seen.{EntriesSame, TypesSame, UnitSame}
use Rattle.dwz_def_tops.specs.Spots.{EntryName, FileUnit, PartialOf, UnitOf, file_numbers, units_of}
use Rattle.dwz_def_images.specs.After.{AreAfterOf, AreOld, IsKeptUnit, IsNewUnit, IsOfFile}
use Rattle.dwz_def_images.specs.Held.{Serves}
use Rattle.dwz_def_images.specs.Homes.{Home, Local, same_home}
use Rattle.dwz_def_images.specs.Moves.{Move, image_in}
use Rattle.dwz_def_images.specs.Plan.{PartialUnit}
use Rattle.dwz_def_images.specs.Units.{all_units, kept_unit, kept_units, out_units, partial_unit, partial_units, units_of_file}
use Rattle.dwz_def_images.proofs.FileLemmas.{files_are}
use Rattle.dwz_def_taken.specs.declared.fixed.Fixed.{Fixed}
use Rattle.dwz_def_taken.specs.Beside.{Reused, reused_of}
use Rattle.dwz_def_taken.specs.Laws.{ArePlacedOver, IsReused}
use Rattle.dwz_def_taken.specs.MoveLaws.{copied}
use Rattle.dwz_def_taken.specs.Over.{copy_of, move_over}
use Rattle.dwz_def_taken.specs.Takes.{IsFixed}
use Rattle.dwz_def_taken.proofs.AfterOver.{after_over}
use Rattle.dwz_def_taken.proofs.CopyAfter.{after_copied, new_copied}
use Rattle.dwz_def_taken.proofs.NamesOver.{named_over}
use Rattle.dwz_def_taken.proofs.ServeOver.{over_serves}
use Rattle.dwz_def_cross.specs.CrossSame.{EachTwo}
use Rattle.dwz_def_cross.specs.Tops.{whole_units}
use Rattle.dwz_law_cross.proofs.NamePairs.{entries_by_name, types_by_name, units_by_name}

module _ (docs : List (Doc ℕ)) (common : Doc ℕ) (fixed : Fixed) (p : ArePlacedOver docs common) (fx : IsFixed (reused_of docs common) fixed) where
  abbrev r : Reused
  r = reused_of docs common

  abbrev units : List (FileUnit EntryName)
  units = units_of docs

  abbrev m : Move
  m = move_over (reused_of docs common) fixed (file_numbers 0 docs)

  abbrev cm : Move
  cm = copied (reused_of docs common) (move_over (reused_of docs common) fixed (file_numbers 0 docs))

  abbrev cp : EntryName → EntryName
  cp = copy_of (reused_of docs common)

  re : IsReused r
  re = named_over docs common p

  old : AreOld units
  old = re.own

  held : Serves units cm
  held = over_serves r fixed (file_numbers 0 docs) re fx (files_are docs)

  -- an old unit after, where copies are one
  kept_copied : (i : ℕ) (u : FileUnit EntryName) → Nth 0 units i u → unit_map cp (kept_unit m units i u) ≡ kept_unit cm units i u
  kept_copied i u nth =
      let all = all_units m units (file_numbers 0 docs) in
      let after = after_over docs common fixed p fx in
      let o = in_map_from (unit_map cp) (kept_unit cm units i u) all ((after_copied r m units old all after).kept i u nth) in
      by o.source o.is (after.from o.source o.there)
    where
      at : u.unit.at ≡ UnitOf i
      at = (old.units_named i u nth).unit

      by : (v : DwUnit EntryName) → unit_map cp v ≡ kept_unit cm units i u → IsNewUnit m v ⊎ IsKeptUnit m units v → unit_map cp (kept_unit m units i u) ≡ kept_unit cm units i u
      by v is (inl n) = absurd (let z : PartialOf n.number ≡ UnitOf i = ap (λ (w : DwUnit EntryName). cp w.at) n.is ∙ ap (λ (w : DwUnit EntryName). w.at) is ∙ at in cc)
      by v is (inr k) =
          let named : cp k.unit.unit.at ≡ UnitOf k.number = ap cp (old.units_named k.number k.unit k.nth).unit in
          let both : UnitOf k.number ≡ UnitOf i = sym named ∙ ap (λ (w : DwUnit EntryName). cp w.at) k.is ∙ ap (λ (w : DwUnit EntryName). w.at) is ∙ at in
          let number : k.number ≡ i = (let z = both in cc) in
          let unit : k.unit ≡ u = nth_one 0 units i k.unit u (subst (λ (n : ℕ). Nth 0 units n k.unit) number k.nth) nth in
          ap (λ (n : ℕ). unit_map cp (kept_unit m units n u)) (sym number) ∙ ap (λ (w : FileUnit EntryName). unit_map cp (kept_unit m units k.number w)) (sym unit) ∙ ap (unit_map cp) k.is ∙ is

  -- what stands after in place of the file, where copies are one
  module _ (file : ℕ) where
    parts_copied : (h : Home) (s : ℕ) (parts : List PartialUnit) → map (unit_map cp) (partial_units m h s parts) ≡ partial_units cm h s parts
    unfolding partial_units
    parts_copied h s [] = refl
    parts_copied h s (part ∷ parts) = by (same_home part.home h) (parts_copied h (suc s) parts) where
      by : (b : Bool) → map (unit_map cp) (partial_units m h (suc s) parts) ≡ partial_units cm h (suc s) parts
          → map (unit_map cp) (elim b as (λ _. List (DwUnit EntryName)) [ true ↦ partial_unit m s ∷ partial_units m h (suc s) parts | false ↦ partial_units m h (suc s) parts ])
          ≡ (elim b as (λ _. List (DwUnit EntryName)) [ true ↦ partial_unit cm s ∷ partial_units cm h (suc s) parts | false ↦ partial_units cm h (suc s) parts ])
      by true e = let x = new_copied r m s in λ i. x i ∷ e i
      by false e = e

    olds_copied : (s : ℕ) (some : List (FileUnit EntryName)) → ((i : ℕ) (u : FileUnit EntryName) → Nth s some i u → Nth 0 units i u)
        → map (unit_map cp) (kept_units m units file s some) ≡ kept_units cm units file s some
    unfolding kept_units
    olds_copied s [] into = refl
    olds_copied s (u ∷ some) into = by (u.file == file) (olds_copied (suc s) some (λ i w nth. into i w (inr nth))) where
      by : (b : Bool) → map (unit_map cp) (kept_units m units file (suc s) some) ≡ kept_units cm units file (suc s) some
          → map (unit_map cp) (elim b as (λ _. List (DwUnit EntryName)) [ true ↦ kept_unit m units s u ∷ kept_units m units file (suc s) some | false ↦ kept_units m units file (suc s) some ])
          ≡ (elim b as (λ _. List (DwUnit EntryName)) [ true ↦ kept_unit cm units s u ∷ kept_units cm units file (suc s) some | false ↦ kept_units cm units file (suc s) some ])
      by true e = let x = kept_copied s u (into s u (inl (refl, refl))) in λ i. x i ∷ e i
      by false e = e

    pub outs_copied : map (unit_map (copy_of (reused_of docs common))) (out_units m (units_of docs) file) ≡ out_units cm (units_of docs) file
    unfolding out_units
    outs_copied =
        map-append (unit_map cp) (partial_units m (Local file) 0 m.parts) (kept_units m units file 0 units)
        ∙ ap (λ (w : List (DwUnit EntryName)). w ++ map (unit_map cp) (kept_units m units file 0 units)) (parts_copied (Local file) 0 m.parts)
        ∙ ap (λ (w : List (DwUnit EntryName)). partial_units cm (Local file) 0 m.parts ++ w) (olds_copied 0 units (λ i u nth. nth))

    module _ (outs : List (DwUnit EntryName)) (after : AreAfterOf (IsOfFile (units_of docs) file) m (units_of docs) outs) where
      abbrev mids : List (DwUnit EntryName)
      mids = map (unit_map (copy_of (reused_of docs common))) outs

      mids_after : AreAfterOf (IsOfFile units file) cm units mids
      mids_after = record {
        new = λ n part nth i user mine. subst (λ (w : DwUnit EntryName). In w mids) (new_copied r m n) (in_map (unit_map cp) (partial_unit m n) outs (after.new n part nth i user mine));
        kept = λ i u nth mine. subst (λ (w : DwUnit EntryName). In w mids) (kept_copied i u nth) (in_map (unit_map cp) (kept_unit m units i u) outs (after.kept i u nth mine));
        from = λ v there. (
            let o = in_map_from (unit_map cp) v outs there in
            elim (after.from o.source o.there) [
              | inl a ↦ inl (record { number = a.number; part = a.part; nth = a.nth; is = sym (new_copied r m a.number) ∙ ap (unit_map cp) a.is ∙ o.is })
              | inr b ↦ inr (record { number = b.number; unit = b.unit; nth = b.nth; is = sym (kept_copied b.number b.unit b.nth) ∙ ap (unit_map cp) b.is ∙ o.is })
            ]);
      }

      pub over_entries : EntriesSame (image_in cm) (units_of_file file (units_of docs)) (map (unit_map (copy_of (reused_of docs common))) outs)
      over_entries = entries_by_name units cm old held file mids mids_after

      pub over_types : TypesSame (image_in cm) (units_of_file file (units_of docs)) (map (unit_map (copy_of (reused_of docs common))) outs)
      over_types = types_by_name units cm old held file mids mids_after

      pub over_units : EachTwo (UnitSame (image_in cm) (map (unit_map (copy_of (reused_of docs common))) outs)) (units_of_file file (units_of docs)) (whole_units (out_units cm (units_of docs) file))
      over_units = units_by_name units cm old held file mids mids_after
