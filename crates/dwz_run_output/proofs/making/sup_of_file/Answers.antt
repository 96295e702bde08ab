use Rattle.std.proofs.Common.{Bor, List, ℕ, sym, ap, ◌∙◌}
use Rattle.std.specs.Option.{option_map}
use Rattle.dwz_run_output.proofs.Imports.{sup_none, sup_not}
use Rattle.dwz_run_output.proofs.making.sup_of_file.Goals as goal
use Rattle.dwz_run_output.proofs.making.sup_of_file.Goals.{in_default-via-in-Some+else-imports, in_default-via-in_default}

pub returns-in_default : goal.returns-in_default
returns-in_default c k name r file is same =
    elim c.in_default.branch [
      | in_default-via-in-Some+else-imports w ↦ sup_not k name r file (sym same ∙ w.if-imports.false)
      | in_default-via-in_default w ↦ sup_none k name r file _ is (ap (option_map (λ (s : Bor (List ℕ)). s.now)) w.in_default.is)
    ]
