-- What is known of the spaces of all files, from what is of each.
use Rattle.std.proofs.Common.{◌≡◌, ℕ, zero, suc, ◌+◌, ◌≤◌, ◌^◌, All, List, [], ◌∷◌, ◌++◌, length, map, Some, slice_get, refl, sym, ap, subst, ◌∙◌, arith}
use Rattle.std.proofs.lemmas.List.{append-nil, length-map}
use Rattle.dwz_def_reading.proofs.ListFacts.{got_below}
use Rattle.dwz_def_reading.specs.Documents.{Doc}
use Rattle.dwz_def_tops.specs.Spots.{SpaceName, Top, named_files, tops_from, tops_of, units_of}
use Rattle.dwz_graph.specs.declared.index.SpaceEntry.{SpaceEntry}
use Rattle.dwz_graph.specs.declared.index.Starts.{Starts}
use Rattle.dwz_graph.specs.declared.index.TopEntry.{TopEntry}
use Rattle.dwz_graph.specs.Index.{Index}
use Rattle.dwz_graph.specs.Indexed.{AreIndexed, AreIndexes, first_starts, starts_behind}
use Rattle.dwz_layout_items.specs.declared.partial.SpaceRow.{SpaceRow}
use Rattle.dwz_layout_items.specs.declared.partial.TopSpaces.{TopSpaces}
use Rattle.dwz_layout_items.specs.Chains.{IsRising, Up}
use Rattle.dwz_layout_order.specs.Lists.{AreLists, all_spaces, all_tops, row_from, rows_from, spaces_at}
use Rattle.dwz_layout_order.specs.Shown.{AreOwn, LeadsUp, NumbersTexts, Pairs, RowsFrom, SaidIs}
use Rattle.dwz_layout_order.specs.Spaces.{Numbered, said_of, spaces_of}
use Rattle.dwz_layout_order.proofs.AllShown.{all_said}
use Rattle.dwz_layout_order.proofs.ChainShown.{pairs_append, pairs_long, rows_long, rows_parted}
use Rattle.dwz_layout_order.proofs.FileChains.{file_chain}
use Rattle.dwz_layout_order.proofs.RowLemmas.{numbered_split}
use Rattle.dwz_layout_order.proofs.UnitRows.{spaces_append}
use Rattle.dwz_graph.specs.Across.{file_tops, file_units, name_at}
use Rattle.dwz_graph.proofs.TopRows.{tops_behind}
use Rattle.dwz_layout_input.specs.declared.spaces.Spaces.{Spaces}
use Rattle.dwz_layout_input.specs.Known.{AreSpaces}
use Rattle.dwz_layout_input.proofs.SpaceCounts.{file_count, many_spaces}
use Rattle.dwz_layout_input.proofs.SpaceRises.{OutersLow, low_append, low_at, units_low}

-- ---- rows

rows_at : (n : ℕ) (spaces : List SpaceEntry) (k : ℕ) (row : SpaceRow) → slice_get (rows_from n spaces) k ≡ Some row → (x : SpaceEntry) × (slice_get spaces k ≡ Some x) × (row ≡ row_from (n + k) x)
unfolding rows_from
rows_at n [] k row e = absurd cc
rows_at n (x ∷ spaces) zero row e = (let same : row_from n x ≡ row = cc in let none : n ≡ n + 0 = omega arith in (x, refl, sym same ∙ ap (λ (j : ℕ). row_from j x) none))
rows_at n (x ∷ spaces) (suc k) row e = (let r = rows_at (suc n) spaces k row e in let next : suc n + k ≡ n + suc k = omega arith in (r.0, r.1, r.2 ∙ ap (λ (j : ℕ). row_from j r.0) next))

pub rows_own : (spaces : List SpaceEntry) → AreOwn (rows_from 0 spaces)
rows_own spaces k row e = (let r = rows_at 0 spaces k row e in let none : 0 + k ≡ k = omega arith in ap (λ (w : SpaceRow). w.space) r.2 ∙ none)

files_low : (s end : Starts) (docs : List (Doc ℕ)) (indexes : List Index) → AreIndexed s docs indexes end → OutersLow s.space (all_spaces indexes)
files_low s end [] [] h = tt
files_low s end [] (x ∷ indexes) h = absurd h
files_low s end (d ∷ docs) [] h = absurd h
files_low s end (d ∷ docs) (x ∷ indexes) h =
    low_append s.space (length x.spaces) x.spaces (all_spaces indexes) refl (subst (OutersLow s.space) (sym h.0.tops.spaces_are) (units_low s 0 d.units))
    (files_low (starts_behind s d x) end docs indexes h.1)

pub rows_rise : (docs : List (Doc ℕ)) (indexes : List Index) → AreIndexes docs indexes → IsRising (rows_from 0 (all_spaces indexes))
rows_rise docs indexes is k row e =
    let r = rows_at 0 (all_spaces indexes) k row e in
    let low = low_at 0 (all_spaces indexes) (files_low first_starts is.end docs indexes is.are) k r.0 r.1 in
    let outer = ap (λ (w : SpaceRow). w.outer) r.2 in
    omega arith

-- ---- what tops stand in

leads_from : (rows : List SpaceRow) (said : ℕ → SpaceName) (n : ℕ) (s end : Starts) (docs : List (Doc ℕ)) (indexes : List Index) → AreIndexed s docs indexes end
    → RowsFrom rows s.space (all_spaces indexes) → Numbered (SaidIs said) s.space (spaces_of (named_files n s.unit s.top docs))
    → Pairs (LeadsUp rows said) (all_tops indexes) (tops_from s.unit s.top (named_files n s.unit s.top docs))
unfolding named_files tops_from
leads_from rows said n s end [] [] h from under = tt
leads_from rows said n s end [] (x ∷ indexes) h from under = absurd h
leads_from rows said n s end (d ∷ docs) [] h from under = absurd h
leads_from rows said n s end (d ∷ docs) (x ∷ indexes) h from under =
    let next = starts_behind s d x in
    let own = file_units s n d in
    let others = named_files (suc n) next.unit next.top docs in
    let parts = rows_parted rows s.space (length x.spaces) x.spaces (all_spaces indexes) refl from in
    let halves = numbered_split (SaidIs said) s.space (spaces_of own) (spaces_of others) (subst (Numbered (SaidIs said) s.space) (spaces_append own others) under) in
    let count = file_count s n d x h.0 in
    let first : Pairs (LeadsUp rows said) x.tops (file_tops s n d) = subst (λ (w : List TopEntry). Pairs (LeadsUp rows said) w (file_tops s n d)) (sym h.0.tops.tops_are)
    (file_chain rows said n 0 (name_at s d) s d.units (subst (RowsFrom rows s.space) h.0.tops.spaces_are parts.0) halves.0) in
    let rest = leads_from rows said (suc n) next end docs indexes h.1 parts.1 (subst (λ (j : ℕ). Numbered (SaidIs said) (s.space + j) (spaces_of others)) count halves.1) in
    subst (Pairs (LeadsUp rows said) (x.tops ++ all_tops indexes)) (sym (tops_behind s n d others))
    (pairs_append (LeadsUp rows said) x.tops (all_tops indexes) (file_tops s n d) (tops_from next.unit next.top others) first rest)

pub all_lead : (docs : List (Doc ℕ)) (indexes : List Index) → AreIndexes docs indexes
    → Pairs (LeadsUp (rows_from 0 (all_spaces indexes)) (said_of (units_of docs))) (all_tops indexes) (tops_of (units_of docs))
all_lead docs indexes is =
    leads_from (rows_from 0 (all_spaces indexes)) (said_of (units_of docs)) 0 first_starts is.end docs indexes is.are
    (record { after = []; rest = sym (append-nil (rows_from 0 (all_spaces indexes))) }) (all_said (units_of docs))

up_low : (rows : List SpaceRow) (k : ℕ) (ups : List ℕ) → Up rows k ups → k ≤ length rows
up_low rows k [] h = omega (arith, h)
up_low rows k (s ∷ ups) h = (let lt = got_below rows h.0 h.1 h.3 in let at = h.2 in omega arith)

pub within_rows : (rows : List SpaceRow) (said : ℕ → SpaceName) (lists : List ℕ) (tops : List TopEntry) (ts : List Top) → Pairs (LeadsUp rows said) tops ts
    → All (λ x. x.inner ≤ length rows) (map (spaces_at lists) tops)
within_rows rows said lists [] ts h k d lt = absurd (omega arith)
within_rows rows said lists (x ∷ tops) [] h k d lt = absurd h
within_rows rows said lists (x ∷ tops) (t ∷ ts) h zero d lt = up_low rows x.inner h.0.ups h.0.up
within_rows rows said lists (x ∷ tops) (t ∷ ts) h (suc k) d lt = within_rows rows said lists tops ts h.1 k d (omega arith)

pub tops_many : (rows : List SpaceRow) (said : ℕ → SpaceName) (lists : List ℕ) (tops : List TopEntry) (ts : List Top) → Pairs (LeadsUp rows said) tops ts
    → length (map (spaces_at lists) tops) ≡ length ts
tops_many rows said lists tops ts h = length-map tops (spaces_at lists) ∙ pairs_long (LeadsUp rows said) tops ts h

-- ---- all that is known

pub all_known : (docs : List (Doc ℕ)) (indexes : List Index) → AreIndexes docs indexes → (s : Spaces) (texts lists : List ℕ) → s.rows.items ≡ rows_from 0 (all_spaces indexes)
    → s.of_tops.items ≡ map (spaces_at lists) (all_tops indexes)
    → length (all_spaces indexes) ≤ 2 ^ 29 → NumbersTexts (rows_from 0 (all_spaces indexes)) (said_of (units_of docs)) texts → AreLists s.rows.items texts lists → AreSpaces docs indexes s
all_known docs indexes is s texts lists rows tops few numbers are =
    let spaces = all_spaces indexes in
    let said = said_of (units_of docs) in
    let lead = all_lead docs indexes is in
    let long = ap (λ (w : List SpaceRow). length w) rows ∙ rows_long 0 spaces in
    record {
      texts = texts;
      lists = lists;
      rows_are = rows;
      of_tops_are = tops;
      knows = record {
        own = subst AreOwn (sym rows) (rows_own spaces);
        numbers = subst (λ (w : List SpaceRow). NumbersTexts w said texts) (sym rows) numbers;
        are = are;
        leads = subst (λ (w : List SpaceRow). Pairs (LeadsUp w said) (all_tops indexes) (tops_of (units_of docs))) (sym rows) lead;
      };
      rising = subst IsRising (sym rows) (rows_rise docs indexes is);
      within = subst (λ (w : List SpaceRow). All (λ x. x.inner ≤ length w) s.of_tops.items) (sym rows)
          (subst (λ (w : List TopSpaces). All (λ x. x.inner ≤ length (rows_from 0 spaces)) w) (sym tops)
          (within_rows (rows_from 0 spaces) said lists (all_tops indexes) (tops_of (units_of docs)) lead));
      few = omega arith;
      many = long ∙ sym (many_spaces docs indexes is);
      many_tops = ap (λ (w : List TopSpaces). length w) tops ∙ tops_many (rows_from 0 spaces) said lists (all_tops indexes) (tops_of (units_of docs)) lead;
    }
