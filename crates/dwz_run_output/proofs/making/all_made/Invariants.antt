use Rattle.std.proofs.Common.{◌≡◌, ℕ, ◌<◌, ◌≤◌, List, [], None, length, get_or}
use Rattle.std.specs.Option.{option_map}
use Rattle.dwz_def_readback.specs.Files.{CommonFile, Run}
use Rattle.dwz_run_output.specs.Making.{AreMadeSo, CanMake, IsSupOf}
use Rattle.dwz_run_output.proofs.making.all_made.Given as goal

abbrev pub invariant-loop-file : goal.invariant-loop-file
invariant-loop-file l =
    ((n : ℕ) → l.file ≤ n → get_or l.made.items n None ≡ get_or l.initial.made.items n None)
    × ((k : CommonFile) (name : List ℕ) (r : Run) → IsSupOf k name r (option_map (λ s. s.now) l.sup)
    → ((file : ℕ) → file < length l.contents → CanMake k r file (get_or l.graph.given file []) (get_or l.initial.made.items file None))
    → AreMadeSo k name r l.file l.files.items)
