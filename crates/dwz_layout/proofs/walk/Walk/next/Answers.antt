use Rattle.std.proofs.Common.{◌++◌, ◌∷◌, ◌∙◌, ap, sym, ℕ}
use Rattle.std.specs.Prelude.{nat_lt}
use Rattle.std.specs.Option.{option_to_list}
use Rattle.dwz_layout.specs.declared.walk.Entry.{Entry}
use Rattle.dwz_layout.specs.Entries.{entries_of}
use Rattle.dwz_layout.specs.Walking.{behind}
use Rattle.dwz_layout.proofs.WalkLemmas.{next_entry, none_view, some_view}
use Rattle.dwz_layout.proofs.walk.Walk.next.Goals as goal

pub returns-in_err-slot : goal.returns-in_err-slot
returns-in_err-slot c =
    let w = c.self.inside in
    let none = none_view w.ahead.slot (behind w.known.now w.sort w.ahead) c.args.self.now c.in_err-slot.was c.self.invariant c.self.view_is in
    rw c.from_residual.ensures none

pub returns : goal.returns
returns c =
    let w = c.self.inside in
    let a = c.pull-self-inside.result in
    let s = c.in_ok-slot.slot in
    let rest = behind w.known.now w.sort w.ahead in
    let d = c.depth_ahead-depth.result in
    ap entries_of (some_view w.ahead.slot s rest c.args.self.now c.in_ok-slot.was c.self.view_is)
    ∙ next_entry s rest a.slot (behind w.known.now w.sort a) d c.pull-self-inside.ensures c.depth_ahead-depth.ensures
    ∙ ap (λ (n : ℕ). let e : Entry = record { origin = s.origin; depth = s.depth; children = nat_lt s.depth d; ends = n } in e ∷ entries_of (option_to_list a.slot ++ behind w.known.now w.sort a))
    (sym c.saturating_sub.ensures)
