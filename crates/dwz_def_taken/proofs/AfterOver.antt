-- The units of a finished common file and those of all files are what stands after.
use Rattle.std.proofs.Common.{◌≡◌, ℕ, ◌⊎◌, List, [], ◌∷◌, refl, sym, ap, subst, ◌∙◌, inl, inr}
use Rattle.dwz_def_reading.specs.Documents.{Doc, DwUnit}
use Rattle.dwz_def_reading.specs.Lists.{In}
use Rattle.dwz_def_reading.proofs.ListFacts.{in_cases, in_left, in_right}
use Rattle.dwz_def_tops.specs.Lists.{Nth}
use Rattle.dwz_def_tops.proofs.Members.{each_in, nth_in}
use Rattle.dwz_def_tops.specs.Spots.{EntryName, FileUnit, file_numbers}
use Rattle.dwz_def_images.specs.Homes.{Common, Home, Local, Stay, is_home}
use Rattle.dwz_def_images.specs.IsPlan.{IsPart}
use Rattle.dwz_def_images.specs.Moves.{Move}
use Rattle.dwz_def_images.specs.Plan.{PartialUnit, local_partials, partials, partials_at}
use Rattle.dwz_def_images.proofs.PlanLemmas.{are_parts, file_from, home_at}
use Rattle.dwz_def_images.specs.After.{AreAfter, IsKeptUnit, IsNewUnit}
use Rattle.dwz_def_images.specs.Units.{all_units, common_units, file_units, kept_unit, kept_units, out_units, partial_unit, partial_units}
use Rattle.dwz_def_images.proofs.FileLemmas.{files_are}
use Rattle.dwz_def_images.proofs.OutLemmas.{kept_from, kept_is, kept_nth, new_unit, part_from, part_nth}
use Rattle.dwz_def_taken.specs.declared.fixed.Fixed.{Fixed}
use Rattle.dwz_def_taken.specs.Beside.{Reused, reused_of}
use Rattle.dwz_def_taken.specs.Laws.{ArePlacedOver}
use Rattle.dwz_def_taken.specs.Over.{common_parts, move_over}
use Rattle.dwz_def_taken.specs.Takes.{IsFixed, free_rule}
use Rattle.dwz_def_taken.proofs.CommonParts.{common_nth}
use Rattle.dwz_def_taken.proofs.CommonUnits.{not_shared}
use Rattle.dwz_def_tops.proofs.FiledTops.{nth_cases}

module _ (m : Move) (units : List (FileUnit EntryName)) where
  file_in : (some : List ℕ) (file : ℕ) → In file some → (v : DwUnit EntryName) → In v (out_units m units file) → In v (file_units m units some)
  unfolding file_units
  file_in [] file h v is = absurd h
  file_in (g ∷ some) file (inl e) v is = in_left v (out_units m units g) (file_units m units some) (subst (λ (w : ℕ). In v (out_units m units w)) (sym e) is)
  file_in (g ∷ some) file (inr r) v is = in_right v (out_units m units g) (file_units m units some) (file_in some file r v is)

  kept_in : (files : List ℕ) (i : ℕ) (u : FileUnit EntryName) → Nth 0 units i u → In u.file files → In (kept_unit m units i u) (all_units m units files)
  unfolding out_units
  kept_in files i u nth there =
      in_right (kept_unit m units i u) (common_units m) (file_units m units files)
      (file_in files u.file there (kept_unit m units i u)
      (in_right (kept_unit m units i u) (partial_units m (Local u.file) 0 m.parts) (kept_units m units u.file 0 units) (kept_nth m units u.file 0 units i u nth refl)))

  local_in : (files : List ℕ) (n : ℕ) (part : PartialUnit) → Nth 0 m.parts n part → (file : ℕ) → part.home ≡ Local file → In file files → In (partial_unit m n) (all_units m units files)
  unfolding out_units
  local_in files n part nth file e there =
      in_right (partial_unit m n) (common_units m) (file_units m units files)
      (file_in files file there (partial_unit m n)
      (in_left (partial_unit m n) (partial_units m (Local file) 0 m.parts) (kept_units m units file 0 units) (part_nth m units (Local file) 0 m.parts n part nth e)))

  common_in : (files : List ℕ) (n : ℕ) (part : PartialUnit) → Nth 0 m.parts n part → part.home ≡ Common → In (partial_unit m n) (all_units m units files)
  unfolding common_units
  common_in files n part nth e = in_left (partial_unit m n) (common_units m) (file_units m units files) (part_nth m units Common 0 m.parts n part nth e)

  of_file : (some : List ℕ) (v : DwUnit EntryName) → In v (file_units m units some) → IsNewUnit m v ⊎ IsKeptUnit m units v
  unfolding file_units out_units
  of_file [] v h = absurd h
  of_file (file ∷ some) v h = elim (in_cases v (out_units m units file) (file_units m units some) h) [
    | inl a ↦ elim (in_cases v (partial_units m (Local file) 0 m.parts) (kept_units m units file 0 units) a) [
      | inl b ↦ inl (new_unit m units v (part_from m units (Local file) 0 m.parts v b))
      | inr c ↦ inr (kept_is m units v (kept_from m units file 0 units v c))
    ]
    | inr b ↦ of_file some v b
  ]

  unit_from : (files : List ℕ) (v : DwUnit EntryName) → In v (all_units m units files) → IsNewUnit m v ⊎ IsKeptUnit m units v
  unfolding common_units
  unit_from files v h = elim (in_cases v (common_units m) (file_units m units files) h) [
    | inl a ↦ inl (new_unit m units v (part_from m units Common 0 m.parts v a))
    | inr b ↦ of_file files v b
  ]

module _ (docs : List (Doc ℕ)) (common : Doc ℕ) (fixed : Fixed) (p : ArePlacedOver docs common) (fx : IsFixed (reused_of docs common) fixed) where
  abbrev r : Reused
  r = reused_of docs common

  abbrev files : List ℕ
  files = file_numbers 0 docs

  abbrev m : Move
  m = move_over (reused_of docs common) fixed (file_numbers 0 docs)

  abbrev locals : List PartialUnit
  locals = partials (free_rule (reused_of docs common) fixed) (reused_of docs common).units (file_numbers 0 docs)

  -- the file of a partial unit of free tops
  local_file : (part : PartialUnit) (file : ℕ) → In part locals → part.home ≡ Local file → In file files
  unfolding partials
  local_file part file is e =
      let rule = free_rule r fixed in
      elim (in_cases part (partials_at rule r.units Common) (local_partials rule r.units files) is) [
        | inl a ↦ absurd (let h = home_at rule r.units Common part a in cc)
        | inr b ↦
            let o = file_from rule r.units files part b in
            let h = home_at rule r.units (Local o.file) part o.is in
            let same : o.file ≡ file = (let z : Local o.file ≡ Local file = sym h ∙ e in cc) in
            subst (λ (w : ℕ). In w files) same o.there
      ]

  new_in : (n : ℕ) (part : PartialUnit) → Nth 0 m.parts n part → In (partial_unit m n) (all_units m r.units files)
  new_in n part nth = elim (nth_cases 0 (common_parts r fixed 0 r.commons) locals n part nth) [
    | inl a ↦ common_in m r.units files n part nth (ap (λ (w : PartialUnit). w.home) (common_nth r fixed 0 r.commons n part a).2)
    | inr b ↦ by (nth_in _ locals n part b) part.home refl
  ]
    where
      by : In part locals → (h : Home) → part.home ≡ h → In (partial_unit m n) (all_units m r.units files)
      by there Common e = absurd (not_shared docs common fixed p fx part there e)
      by there (Local file) e = local_in m r.units files n part nth file e (local_file part file there e)
      by there Stay e =
          let q = each_in (IsPart (free_rule r fixed) r.units) part locals (are_parts (free_rule r fixed) r.units files) there in
          absurd (let no = sym (ap is_home e) ∙ q.moves in cc)

  pub after_over : AreAfter m r.units (all_units m r.units files)
  after_over = record {
    new = new_in;
    kept = λ i u nth. kept_in m r.units files i u nth (files_are docs i u nth);
    from = unit_from m r.units files;
  }
