-- Which units stand after in one file, beside those of the common file.
use Rattle.std.proofs.Common.{◌≡◌, ◌⊎◌, ℕ, ◌++◌, true, List, refl, sym, ap, subst, ◌∙◌, arith, inl, inr}
use Rattle.dwz_def_reading.specs.Documents.{DwUnit}
use Rattle.dwz_def_reading.specs.Lists.{In}
use Rattle.dwz_def_reading.proofs.ListFacts.{in_cases, in_left, in_right}
use Rattle.dwz_def_tops.specs.Lists.{Nth}
use Rattle.dwz_def_tops.proofs.Members.{each_in, nth_in}
use Rattle.dwz_def_tops.specs.Spots.{EntryName, FileUnit}
use Rattle.dwz_def_plan.specs.Homes.{Common, Home, Local, Rule, Stay, file_of, is_home, moves, users}
use Rattle.dwz_def_plan.specs.IsPlan.{IsHome, IsPart}
use Rattle.dwz_def_plan.specs.Moves.{Move, plan}
use Rattle.dwz_def_plan.specs.Plan.{PartialUnit}
use Rattle.dwz_def_plan.proofs.HomeLemmas.{file_at, home_is}
use Rattle.dwz_def_plan.proofs.PlanLemmas.{are_parts}
use Rattle.dwz_def_plan.proofs.UserLemmas.{moving}
use Rattle.dwz_def_images.specs.After.{AreAfterOf, IsKeptUnit, IsNewUnit, IsOfFile}
use Rattle.dwz_def_images.specs.Units.{common_units, kept_unit, kept_units, out_units, partial_unit, partial_units}
use Rattle.dwz_def_images.proofs.OutLemmas.{kept_from, kept_is, kept_nth, new_unit, part_from, part_nth}

module _ (units : List (FileUnit EntryName)) (rule : Rule) (files : List ℕ) (file : ℕ) where
  abbrev m : Move
  m = plan rule units files

  abbrev locals : List (DwUnit EntryName)
  locals = partial_units m (Local file) 0 m.parts

  abbrev kept : List (DwUnit EntryName)
  kept = kept_units m units file 0 units

  -- the home of a partial unit is that of its users
  part_home : (n : ℕ) (part : PartialUnit) → Nth 0 m.parts n part → IsHome units part.users part.home
  part_home n part nth =
      let p = each_in (IsPart rule units) part m.parts (are_parts rule units files) (nth_in 0 m.parts n part nth) in
      let t = p.some.0 in
      let b = (p.tops t).0 p.some.1 in
      let moved : moves rule units t.number ≡ true = ap is_home b.home ∙ p.moves in
      let found = subst (IsHome units (users rule.alike units t.number)) (sym (moving units rule t.number moved).at_home ∙ b.home) (home_is rule.alike units t.number) in
      subst (λ (us : List ℕ). IsHome units us part.home) b.users found

  new_in : (n : ℕ) (part : PartialUnit) → Nth 0 m.parts n part → (i : ℕ) → In i part.users → IsOfFile units file i → In (partial_unit m n) (out_units m units file ++ common_units m)
  unfolding out_units common_units
  new_in n part nth i user mine = by part.home refl (part_home n part nth) where
    of_file : file_of units i ≡ file
    of_file = file_at units 0 i i mine.0 mine.1 (omega arith) ∙ mine.2

    by : (h : Home) → part.home ≡ h → IsHome units part.users h → In (partial_unit m n) (out_units m units file ++ common_units m)
    by Common p is_at = in_right (partial_unit m n) (locals ++ kept) (partial_units m Common 0 m.parts) (part_nth m units Common 0 m.parts n part nth p)
    by (Local own) p is_at =
        (let same : own ≡ file = sym (is_at.5 i user) ∙ of_file in
        in_left (partial_unit m n) (locals ++ kept) (partial_units m Common 0 m.parts)
        (in_left (partial_unit m n) locals kept (part_nth m units (Local file) 0 m.parts n part nth (p ∙ ap (λ (x : ℕ). Local x) same))))
    by Stay p is_at =
        (let q = each_in (IsPart rule units) part m.parts (are_parts rule units files) (nth_in 0 m.parts n part nth) in
        absurd (let no = sym (ap is_home p) ∙ q.moves in cc))

  kept_in : (i : ℕ) (u : FileUnit EntryName) → Nth 0 units i u → IsOfFile units file i → In (kept_unit m units i u) (out_units m units file ++ common_units m)
  unfolding out_units common_units
  kept_in i u nth mine =
      let of_file : u.file ≡ file = sym (file_at units 0 i i u nth (omega arith)) ∙ (file_at units 0 i i mine.0 mine.1 (omega arith) ∙ mine.2) in
      in_left (kept_unit m units i u) (locals ++ kept) (partial_units m Common 0 m.parts) (in_right (kept_unit m units i u) locals kept (kept_nth m units file 0 units i u nth of_file))

  from_in : (v : DwUnit EntryName) → In v (out_units m units file ++ common_units m) → IsNewUnit m v ⊎ IsKeptUnit m units v
  unfolding out_units common_units
  from_in v h = elim (in_cases v (locals ++ kept) (partial_units m Common 0 m.parts) h) [
    | inl a ↦ elim (in_cases v locals kept a) [
      | inl b ↦ inl (new_unit m units v (part_from m units (Local file) 0 m.parts v b))
      | inr b ↦ inr (kept_is m units v (kept_from m units file 0 units v b))
    ]
    | inr a ↦ inl (new_unit m units v (part_from m units Common 0 m.parts v a))
  ]

  pub file_outs : AreAfterOf (IsOfFile units file) m units (out_units m units file ++ common_units m)
  file_outs = record { new = new_in; kept = kept_in; from = from_in }
