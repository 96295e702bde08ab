use Rattle.std.proofs.Common.{ℕ, List, Option, length, sym, ap, subst, ◌∙◌}
use Rattle.dwz_graph.specs.Resolved.{AreEntries}
use Rattle.dwz_move.specs.Known.{tops_of_refs}
use Rattle.dwz_move.specs.Marked.{Marks}
use Rattle.dwz_move_files.specs.Lists.{uleb_tops}
use Rattle.dwz_move_files.proofs.MarkSteps.{tops_long}
use Rattle.dwz_move_files.proofs.lists.mark_lists.Goals as goal

pub returns-clause-any : goal.returns-clause-any
returns-clause-any c = λ raw names name is len each low. (
    let rows = c.args.rows.now in
    let e = c.as_slice.ensures.value ∙ c.in_ok-entries.ensures in
    let t = c.as_slice-2.ensures.value ∙ c.in_ok-tops.ensures raw names name is len each (subst (AreEntries raw) (sym e) low) ∙ ap (tops_of_refs name raw) e in
    subst (λ (w : List (Option ℕ)). Marks w c.args.named.now.by_any.items c.mark_tops.new.named.by_any.items) t
    (c.mark_tops.ensures.any (ap (λ (w : List (Option ℕ)). length w) t ∙ tops_long rows name raw)))

pub returns-clause-uleb : goal.returns-clause-uleb
returns-clause-uleb c = λ raw names name is len each low. (
    let rows = c.args.rows.now in
    let e = c.as_slice.ensures.value ∙ c.in_ok-entries.ensures in
    let t = c.as_slice-2.ensures.value ∙ c.in_ok-tops.ensures raw names name is len each (subst (AreEntries raw) (sym e) low) ∙ ap (tops_of_refs name raw) e in
    subst (λ (w : List (Option ℕ)). Marks (uleb_tops rows w) c.args.named.now.by_uleb.items c.mark_tops.new.named.by_uleb.items) t
    (c.mark_tops.ensures.uleb (ap (λ (w : List (Option ℕ)). length w) t ∙ tops_long rows name raw)))
