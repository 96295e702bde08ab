-- An old unit that is kept says of slots and of a line table what it said.
use Rattle.std.proofs.Common.{◌≡◌, ℕ, false, refl, sym, ap, subst, ◌∙◌, arith}
use Rattle.dwz_def_reading.specs.Documents.{Compile, Kind, OfType, Partial, kind_map}
use Rattle.dwz_def_tops.specs.Lists.{Nth}
use Rattle.dwz_def_reading.specs.Lists.{Each}
use Rattle.dwz_def_tops.proofs.Members.{each_append, each_of}
use Rattle.dwz_def_tops.specs.Spots.{EntryName, FileUnit, rows_of_root}
use Rattle.dwz_def_images.specs.Homes.{Local}
use Rattle.dwz_def_images.specs.Moves.{Move, image_in}
use Rattle.dwz_def_images.specs.Plan.{PartialUnit}
use Rattle.dwz_def_images.specs.After.{AreOld}
use Rattle.dwz_def_tops.specs.UnitNames.{IsNamedBelow}
use Rattle.dwz_def_images.specs.Units.{kept_unit, kept_units, out_units, partial_unit, partial_units}
use Rattle.dwz_def_encoding.specs.Bases.{bases_in}
use Rattle.dwz_def_encoding.specs.Carried.{BasesStand, ComesFromItself, FileStands}
use Rattle.dwz_def_encoding.specs.Fitting.{EachAttr}
use Rattle.dwz_def_encoding.specs.Placing.{Forms, OldUnit, UnitRole, holder_of}
use Rattle.dwz_def_encoding.proofs.Chosen.{all_attrs, all_entries}
use Rattle.dwz_def_readback.specs.Files.{Run, file_forms, origin_in}
use Rattle.dwz_def_readback.proofs.HomeLemmas.{kept_from, parts_from}
use Rattle.dwz_def_readback.proofs.OriginLemmas.{bases_found, bases_mapped}

module _ (r : Run) (file : ℕ) (old : AreOld r.units) where
  abbrev m : Move
  m = r.move

  abbrev f : Forms EntryName
  f = file_forms r file

  holder_is : (i : ℕ) (u : FileUnit EntryName) → Nth 0 r.units i u → (k : Kind EntryName) → u.unit.kind ≡ k → holder_of false (kind_map (image_in m) k) ≡ OldUnit
  holder_is i u nth Compile e = refl
  holder_is i u nth (OfType signature main) e = refl
  holder_is i u nth Partial e = absurd (subst (λ (w : Kind EntryName). IsNamedBelow i w (rows_of_root r.units i) u.unit.below) e (old.units_named i u nth).below)

  kept_bases : (i : ℕ) (u : FileUnit EntryName) → Nth 0 r.units i u → BasesStand f (kept_unit m r.units i u)
  kept_bases i u nth =
      let v = kept_unit m r.units i u in
      let h = holder_is i u nth u.unit.kind refl in
      let own = bases_in v in
      let origin = origin_in m r.units v.at in
      let known : own ≡ origin = bases_mapped (image_in m) u.unit ∙ sym (ap (origin_in m r.units) (old.units_named i u nth).unit ∙ bases_found r.units 0 i i u nth (omega arith)) in
      record {
        own = subst (λ (x : UnitRole). ComesFromItself x own origin) (sym h) known;
        root = subst (λ (x : UnitRole). Each (FileStands x own.line origin.line) v.root.attrs) (sym h) (all_attrs (FileStands OldUnit own.line origin.line) (λ a. tt) v.root.attrs);
        below = subst (λ (x : UnitRole). EachAttr (FileStands x own.line origin.line) v.below) (sym h) (all_entries (FileStands OldUnit own.line origin.line) (λ a. tt) v.below);
      }

  -- so all units of the file do, where its partial units do
  pub out_bases : ((n : ℕ) (part : PartialUnit) → Nth 0 m.parts n part → part.home ≡ Local file → BasesStand f (partial_unit m n)) → Each (BasesStand f) (out_units m r.units file)
  unfolding out_units
  out_bases parts =
      each_append (BasesStand f) (partial_units m (Local file) 0 m.parts) (kept_units m r.units file 0 r.units)
      (each_of (BasesStand f) (partial_units m (Local file) 0 m.parts)
      (λ v there. (let o = parts_from m (Local file) 0 m.parts v there in subst (BasesStand f) o.is (parts o.number o.part o.nth o.home_is))))
      (each_of (BasesStand f) (kept_units m r.units file 0 r.units) (λ v there. (let o = kept_from m r.units file 0 r.units v there in subst (BasesStand f) o.is (kept_bases o.number o.unit o.nth))))
