use Rattle.std.proofs.Common.{◌≡◌, ℕ, List, sym, subst, ◌∙◌}
use Rattle.std.proofs.lemmas.List.{append-nil}
use Rattle.dwz_graph.specs.EntryCounts.{tops_from}
use Rattle.dwz_graph.specs.AllNames.{AreTopEntries}
use Rattle.dwz_layout_numbers.proofs.WholeLemmas.{top_entries}
use Rattle.dwz_law_layout.specs.Beside.{Alone}
use Rattle.dwz_law_layout.specs.Facts.{docs}
use Rattle.dwz_law_layout.specs.Listed.{AreAllOwners}
use Rattle.dwz_layout_input.proofs.listing.known_of.Goals as goal

pub returns : goal.returns
returns c = λ f made. (
    let indexes = c.args.indexes.now in
    let tops : c.as_slice-2.result.now ≡ tops_from 0 indexes = c.as_slice-2.ensures.value ∙ c.in_ok-tops.ensures in
    c.lists_of.ensures Alone f made (subst (λ (w : List ℕ). AreTopEntries (docs f) w) (sym tops) (top_entries (docs f) indexes made.indexed made.whole))
    (subst (λ (w : List ℕ). AreAllOwners f c.args.files.now indexes w) (append-nil c.in_ok-owners.owners.items) (c.in_ok-owners.ensures Alone f made)))
