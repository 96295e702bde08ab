-- The rows of a top, with the tops that its references go into.
use Rattle.std.proofs.Common.{◌≡◌, ℕ, ◌+◌, List, [], ◌∷◌, ◌++◌, Option, length, drop, Some, slice_get, refl, sym, ap, subst, ◌∙◌, arith}
use Rattle.std.specs.Prelude.{slice_index}
use Rattle.std.proofs.lemmas.List.{drop-map}
use Rattle.dwz_def_tops.specs.Spots.{EntryName, Top}
use Rattle.dwz_def_reading.specs.Trees.{End, Entry, size}
use Rattle.dwz_def_reading.specs.Units.{RawUnit}
use Rattle.dwz_def_reading.proofs.ListFacts.{drop_first}
use Rattle.dwz_graph.specs.Rows.{AreRowsMeant, AreTargets, RowsMean, node_refs, nodes, nodes_refs}
use Rattle.dwz_graph.specs.FlatTops.{HasTopOfFile}
use Rattle.dwz_graph.proofs.PartLemmas.{part_meant, rows_unit}
use Rattle.dwz_graph.proofs.TreeLemmas.{tree_means}
use Rattle.dwz_def_reading.specs.Documents.{DwUnit, Node}
use Rattle.dwz_def_reading.specs.Meanings.{Around, MeaningContext, scope_of}
use Rattle.dwz_graph.specs.Resolved.{place_at}
use Rattle.dwz_def_reading.specs.Lists.{Each}
use Rattle.dwz_unit.specs.Rows.{EntryRow, rows_below, rows_of}
use Rattle.dwz_unit.proofs.RowLemmas.{shown-length}
use Rattle.dwz_move.specs.Bound.{AreInto, EachInto}
use Rattle.dwz_graph.specs.Names.{top_in}
use Rattle.dwz_move.specs.Known.{KnowsRefs, tops_of_refs}
use Rattle.dwz_graph.specs.Standing.{StandsAt}
use Rattle.dwz_move.proofs.BindSteps.{into_first}

into_targets : (name : ℕ → EntryName) (raw : List RawUnit) (numbers places : List ℕ) → AreTargets raw numbers places → AreInto name (tops_of_refs name raw numbers) places
into_targets name raw numbers [] h = tt
into_targets name raw [] (p ∷ places) h = absurd h
into_targets name raw (i ∷ numbers) (p ∷ places) h = (ap (λ (q : ℕ). top_in (name q)) h.1, into_targets name raw numbers places h.2)

module _ (around : Around ℕ) (raw : List RawUnit) (name : ℕ → EntryName) (refs starts : List ℕ) (into : List (Option ℕ)) (knows : KnowsRefs around raw name refs starts into) where
  -- rows of one unit
  module _ (n : ℕ) (u : _) (is_unit : slice_get raw n ≡ Some u) where
    pub each_into : (i : ℕ) (rows after : List EntryRow) (ds : List (Node ℕ)) → Each (λ row. row.unit ≡ n) rows → drop i (rows_of raw) ≡ rows ++ after → RowsMean (scope_of around u) rows ds
        → EachInto name into starts i ds
    each_into i rows after [] own found means = tt
    each_into i [] after (d ∷ ds) own found means = absurd means
    each_into i (row ∷ rows) after (d ∷ ds) own found means =
        let m = part_meant around raw refs starts knows.parted knows.entries n u is_unit i (i + length (row ∷ rows)) (row ∷ rows) after (d ∷ ds) own found refl means in
        let into_here = into_targets name raw (drop (slice_index starts i) refs) (node_refs d ++ nodes_refs ds) m.targets in
        let same : tops_of_refs name raw (drop (slice_index starts i) refs) ≡ drop (slice_index starts i) into = sym (drop-map (λ (k : ℕ). top_in (name (place_at raw k))) (slice_index starts i) refs)
        ∙ ap (drop (slice_index starts i)) (sym knows.into_are) in (
          into_first name (drop (slice_index starts i) into) (node_refs d) (nodes_refs ds) (subst (λ (w : List (Option ℕ)). AreInto name w (node_refs d ++ nodes_refs ds)) same into_here),
          each_into (i + 1) rows after ds own.1 (drop_first (rows_of raw) i row (rows ++ after) found).1 means.1,
        )

  -- ---- a top

  module _ (said : List (DwUnit ℕ)) (file unit : ℕ) (t : Top) (first end : ℕ) (stands : StandsAt around name raw said file unit t first end) where
    abbrev h : HasTopOfFile around name raw said file unit t
    h = stands.stands

    abbrev s : MeaningContext ℕ
    s = scope_of around h.u

    abbrev rows : List EntryRow
    rows = rows_below (Entry h.top.e h.top.c End) h.n h.top.p

    abbrev ds : List (Node ℕ)
    ds = nodes (Entry h.top.d h.top.g End)

    means : RowsMean s rows ds
    means = tree_means s (Entry h.top.e h.top.c End) (Entry h.top.d h.top.g End) h.n h.top.p h.top.means

    pub rows_meant : AreRowsMeant raw s first end (drop (slice_index starts first) refs) rows h.top.after ds
    rows_meant =
        let count : h.top.p.before + length rows ≡ first + 1 + size h.top.c = (let many = shown-length (Entry h.top.e h.top.c End) h.n h.top.p in let from = stands.from in omega arith) in
        let found : drop first (rows_of raw) ≡ rows ++ h.top.after = ap (λ (k : ℕ). drop k (rows_of raw)) (sym stands.from) ∙ h.top.stand in
        let from = stands.from in
        part_meant around raw refs starts knows.parted knows.entries h.n h.u h.is_unit first end rows h.top.after ds (rows_unit (Entry h.top.e h.top.c End) h.n h.top.p) found
        (let to = stands.to in omega arith) means

    pub into_top : EachInto name into starts first ds
    into_top = each_into h.n h.u h.is_unit first rows h.top.after ds (rows_unit (Entry h.top.e h.top.c End) h.n h.top.p) (ap (λ (k : ℕ). drop k (rows_of raw)) (sym stands.from) ∙ h.top.stand) means
