-- There is one plan of rows, since what spreads is decided; and it has an answer for each row and each unit.
use Rattle.std.proofs.Common.{◌≡◌, ◌↔◌, ℕ, suc, Bool, List, [], ◌∷◌, length, refl, sym, ap, subst, ◌∙◌, arith}
use Rattle.std.proofs.lemmas.List.{length-map}
use Rattle.std.proofs.lemmas.List.FromFn.{length-map-range_with_len}
use Rattle.dwz_def_reading.proofs.CaseFacts.{same_bool}
use Rattle.dwz_groups.specs.Spreading.{IsMarked, IsSpread}
use Rattle.dwz_plan.specs.Gained.{IsPlanOf, IsWhole, among, gained, home_after, kept_after, stand_after}
use Rattle.dwz_plan.specs.Planned.{Planned, imports_from, partials}
use Rattle.dwz_plan.specs.Rows.{Given}

same_marks : (ms ns : List Bool) → length ms ≡ length ns → ((n : ℕ) → IsMarked ms n ↔ IsMarked ns n) → ms ≡ ns
same_marks [] [] e h = refl
same_marks [] (n ∷ ns) e h = absurd (omega (arith, e))
same_marks (m ∷ ms) [] e h = absurd (omega (arith, e))
same_marks (m ∷ ms) (n ∷ ns) e h = (λ i. same_bool m n (h 0) i ∷ same_marks ms ns (omega (arith, e)) (λ k. h (suc k)) i)

one_spread : (sources : List (List ℕ)) (old new other : List Bool) → IsSpread sources old new → IsSpread sources old other → new ≡ other
one_spread sources old new other a b = same_marks new other (a.len ∙ sym b.len) (λ n. (λ m. (b.each n).1 ((a.each n).0 m), λ m. (a.each n).1 ((b.each n).0 m)))

pub one_plan : (g : Given) (plan other : Planned) → IsPlanOf g plan → IsPlanOf g other → plan ≡ other
one_plan g plan other a b = a.2 ∙ (ap (λ (marks : List Bool). gained marks g) (one_spread _ _ a.0 b.0 a.1 b.1) ∙ sym b.2)

whole : (g : Given) (marks : List Bool) → IsWhole g (gained marks g)
unfolding gained
whole g marks = record {
  homes = length-map g.rows (home_after marks g);
  stand_ins = length-map g.rows (stand_after marks g);
  kept = length-map-range_with_len (kept_after marks g) 0 (length g.files_of_units);
  imports = length-map-range_with_len (λ unit. imports_from unit 0 (among marks (partials g))) 0 (length g.files_of_units);
}

pub whole_plan : (g : Given) (plan : Planned) → IsPlanOf g plan → IsWhole g plan
whole_plan g plan is = subst (λ (p : Planned). IsWhole g p) (sym is.2) (whole g is.0)
