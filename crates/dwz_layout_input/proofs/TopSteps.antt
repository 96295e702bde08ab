-- Entries of tops and of spaces, one file after the other: those so far, and those that are left.
use Rattle.std.proofs.Common.{◌≡◌, ℕ, suc, ◌+◌, ◌<◌, ◌≤◌, List, [], ◌∷◌, ◌++◌, length, drop, get_or, map, sym, ap, ◌∙◌, arith}
use Rattle.std.proofs.lemmas.List.{append-nil, append_assoc, drop_all}
use Rattle.dwz_def_reading.proofs.ListFacts.{drop_next}
use Rattle.dwz_graph.specs.declared.index.SpaceEntry.{SpaceEntry}
use Rattle.dwz_graph.specs.declared.index.TopEntry.{TopEntry}
use Rattle.dwz_graph.specs.Index.{Index}
use Rattle.dwz_layout.specs.declared.known.Row.{Row}
use Rattle.dwz_layout.specs.declared.known.SpaceRow.{SpaceRow}
use Rattle.dwz_layout.specs.declared.known.TextAt.{TextAt}
use Rattle.dwz_law_layout.specs.Listed.{entry_row, space_entries, space_rows, top_rows}

abbrev pub own_tops : ℕ → List TopEntry → List Row
own_tops file tops = map (λ (t : TopEntry). entry_row file t.entry) tops

abbrev pub own_spaces : ℕ → List SpaceEntry → List Row
own_spaces file spaces = map (λ (s : SpaceEntry). entry_row file s.entry) spaces

module _ (all : List Index) (i : ℕ) where
  pub tops_first : (rows : List Row) → rows ≡ [] → rows ++ top_rows 0 all ≡ top_rows 0 all
  tops_first rows e = ap (λ (w : List Row). w ++ top_rows 0 all) e

  pub tops_next : (x : Index) (old new : List Row) (tops : List TopEntry) → i < length all → x ≡ get_or all i x → old ++ top_rows i (drop i all) ≡ top_rows 0 all
      → new ≡ old ++ own_tops i tops → tops ≡ x.tops → new ++ top_rows (i + 1) (drop (i + 1) all) ≡ top_rows 0 all
  unfolding top_rows
  tops_next x old new tops lt e h is same =
      let one : suc i ≡ i + 1 = omega arith in
      let rest = top_rows (i + 1) (drop (i + 1) all) in
      ap (λ (w : List Row). w ++ rest) (is ∙ ap (λ (w : List TopEntry). old ++ own_tops i w) same)
      ∙ append_assoc old (own_tops i x.tops) rest
      ∙ ap (λ (n : ℕ). old ++ (own_tops i x.tops ++ top_rows n (drop (i + 1) all))) (sym one)
      ∙ ap (λ (w : List Index). old ++ top_rows i w) (sym (drop_next all i x lt e))
      ∙ h

  pub tops_done : (rows : List Row) → length all ≤ i → rows ++ top_rows i (drop i all) ≡ top_rows 0 all → rows ≡ top_rows 0 all
  unfolding top_rows
  tops_done rows le h = sym (append-nil rows) ∙ ap (λ (w : List Index). rows ++ top_rows i w) (sym (drop_all i all le)) ∙ h

  pub spaces_first : (rows : List Row) → rows ≡ [] → rows ++ space_entries 0 all ≡ space_entries 0 all
  spaces_first rows e = ap (λ (w : List Row). w ++ space_entries 0 all) e

  pub spaces_next : (x : Index) (old new : List Row) (spaces : List SpaceEntry) → i < length all → x ≡ get_or all i x → old ++ space_entries i (drop i all) ≡ space_entries 0 all
      → new ≡ old ++ own_spaces i spaces → spaces ≡ x.spaces → new ++ space_entries (i + 1) (drop (i + 1) all) ≡ space_entries 0 all
  unfolding space_entries
  spaces_next x old new spaces lt e h is same =
      let one : suc i ≡ i + 1 = omega arith in
      let rest = space_entries (i + 1) (drop (i + 1) all) in
      ap (λ (w : List Row). w ++ rest) (is ∙ ap (λ (w : List SpaceEntry). old ++ own_spaces i w) same)
      ∙ append_assoc old (own_spaces i x.spaces) rest
      ∙ ap (λ (n : ℕ). old ++ (own_spaces i x.spaces ++ space_entries n (drop (i + 1) all))) (sym one)
      ∙ ap (λ (w : List Index). old ++ space_entries i w) (sym (drop_next all i x lt e))
      ∙ h

  pub spaces_done : (rows : List Row) → length all ≤ i → rows ++ space_entries i (drop i all) ≡ space_entries 0 all → rows ≡ space_entries 0 all
  unfolding space_entries
  spaces_done rows le h = sym (append-nil rows) ∙ ap (λ (w : List Index). rows ++ space_entries i w) (sym (drop_all i all le)) ∙ h

-- ---- with the places of their names

module _ (rows : List Row) (texts commons : List TextAt) (i : ℕ) where
  pub names_next : (row : Row) (text common : TextAt) (old new : List SpaceRow) → i < length rows → row ≡ get_or rows i row → i < length texts → text ≡ get_or texts i text
      → i < length commons → common ≡ get_or commons i common → old ++ space_rows (drop i rows) (drop i texts) (drop i commons) ≡ space_rows rows texts commons
      → new ≡ old ++ record { row = row; text = text; common = common } ∷ []
      → new ++ space_rows (drop (i + 1) rows) (drop (i + 1) texts) (drop (i + 1) commons) ≡ space_rows rows texts commons
  names_next row text common old new lt e less f few g h is =
      let rest = space_rows (drop (i + 1) rows) (drop (i + 1) texts) (drop (i + 1) commons) in
      let own : SpaceRow = record { row = row; text = text; common = common } in
      ap (λ (w : List SpaceRow). w ++ rest) is
      ∙ append_assoc old (own ∷ []) rest
      ∙ (λ j. old ++ space_rows (sym (drop_next rows i row lt e) j) (sym (drop_next texts i text less f) j) (sym (drop_next commons i common few g) j))
      ∙ h

  pub names_done : (spaces : List SpaceRow) → length rows ≤ i → spaces ++ space_rows (drop i rows) (drop i texts) (drop i commons) ≡ space_rows rows texts commons
      → spaces ≡ space_rows rows texts commons
  names_done spaces le h = sym (append-nil spaces) ∙ ap (λ (w : List Row). spaces ++ space_rows w (drop i texts) (drop i commons)) (sym (drop_all i rows le)) ∙ h
