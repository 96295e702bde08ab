use Rattle.std.proofs.Common.{◌∙◌, List, Option, ℕ, ap, sym, subst, length}
use Rattle.dwz_graph.specs.declared.index.Starts.{Starts}
use Rattle.dwz_graph.specs.declared.index.SpaceEntry.{SpaceEntry}
use Rattle.dwz_layout_input.specs.Places.{AreNone, AreSpaceNumbers}
use Rattle.dwz_layout_input.proofs.NumberSteps.{none_at, none_many}
use Rattle.dwz_layout_input.proofs.pinned.space_numbers.Goals as goal

pub returns-clause-len : goal.returns-clause-len
returns-clause-len c = c.set_numbers.ensures.len ∙ ap (λ (w : List (Option ℕ)). length w) c.in_ok-numbers.ensures ∙ none_many c.len.result ∙ c.len.ensures

pub returns-clause-each : goal.returns-clause-each
returns-clause-each c =
    let none : AreNone c.in_ok-numbers.numbers.items = subst AreNone (sym c.in_ok-numbers.ensures) (none_at c.len.result) in
    let set = c.set_numbers.ensures.each none in
    subst (λ (w : List SpaceEntry). AreSpaceNumbers c.args.index.now.starts.space w c.set_numbers.new.numbers.items) c.spaces.ensures
    (subst (λ (s : Starts). AreSpaceNumbers s.space c.spaces.result.now c.set_numbers.new.numbers.items) c.starts.ensures set)
