use Rattle.std.proofs.Common.{◌≡◌, ℕ, ◌<◌, All, List, length, sym, ap, subst, ◌∙◌}
use Rattle.dwz_groups.specs.declared.groups.Edge.{Edge}
use Rattle.dwz_groups.specs.Groups.{grouped}
use Rattle.dwz_takes.specs.Steps.{AreWatchers}
use Rattle.dwz_takes.proofs.WatchFacts.{watched_low, watchers_by}
use Rattle.dwz_takes.proofs.watch.watchers.Goals as goal

pub group-requires : goal.group-requires
group-requires c =
    subst (λ (n : ℕ). All (λ (e : Edge). e.key < n) c.as_slice.result.now) (sym c.len.ensures)
    (subst (λ (es : List Edge). All (λ (e : Edge). e.key < length c.args.rows.now.classes) es) (sym c.as_slice.ensures.value)
    (watched_low c.args.rows.now c.requires.rows c.args.holders.now c.in_ok-edges.edges.items (length c.args.rows.now.part_tops) c.in_ok-edges.ensures))

pub returns : goal.returns
returns c =
    let made : c.in_ok-groups.groups ≡ grouped (length c.args.rows.now.classes) c.in_ok-edges.edges.items =
    c.in_ok-groups.ensures ∙ ap (λ (n : ℕ). grouped n c.as_slice.result.now) c.len.ensures ∙ ap (grouped (length c.args.rows.now.classes)) c.as_slice.ensures.value in
    subst (λ (gs : List (List ℕ)). AreWatchers c.args.rows.now c.args.holders.now gs) (sym made)
    (watchers_by c.args.rows.now c.requires.rows c.args.holders.now c.in_ok-edges.edges.items c.in_ok-edges.ensures)
