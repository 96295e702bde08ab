use Rattle.std.proofs.Common.{ℕ, ◌∷◌, ◌++◌, [], List, sym, subst}
use Rattle.dwz_def_taken.specs.Beside.{compile_doc}
use Rattle.dwz_graph.specs.AllNames.{AreTopEntries}
use Rattle.dwz_law_layout.specs.Beside.{Over}
use Rattle.dwz_law_layout.specs.Facts.{docs}
use Rattle.dwz_layout_input.proofs.listing.known_over.Goals as goal

pub returns : goal.returns
returns c = λ s f made same behind. (
    c.lists_of.ensures (Over s) f made
    (subst (λ (w : List ℕ). AreTopEntries (docs f ++ compile_doc s.doc ∷ []) w) (sym c.as_slice-2.ensures.value) (c.in_ok-tops.ensures.are (docs f) s.doc made.indexed made.whole behind))
    (c.in_ok-owners.ensures s f made same))
