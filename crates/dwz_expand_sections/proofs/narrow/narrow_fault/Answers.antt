use Rattle.std.proofs.Common.{map, refl, subst, Option, ℕ}
use Rattle.dwz_expand_sections.specs.Narrow.{FirstPlace, operand_after}
use Rattle.dwz_expand_sections.proofs.NarrowLemmas.{found_narrow, none_narrow}
use Rattle.dwz_expand_sections.proofs.narrow.narrow_fault.Goals as goal

pub returns-in-None : goal.returns-in-None
returns-in-None c f spoken h = none_narrow f c.args.section spoken (subst (λ (o : Option ℕ). FirstPlace (map (operand_after f) spoken) o) c.in-None.is h)

pub returns-in-Some : goal.returns-in-Some
returns-in-Some c f spoken h =
    found_narrow f c.args.section spoken c.in-Some.at _ refl (subst (λ (o : Option ℕ). FirstPlace (map (operand_after f) spoken) o) c.in-Some.is h)
