-- The spaces that are kept of a file are its spaces, one by one: each is an entry that means one.
use Rattle.std.proofs.Common.{◌≡◌, ℕ, suc, ◌+◌, List, [], ◌∷◌, ◌++◌, drop, map, Option, Some, None, Ok, slice_get, refl, sym, ap, subst, ◌∙◌, arith}
use Rattle.std.specs.Option.{is_some}
use Rattle.std.proofs.lemmas.List.{append-nil, append_assoc, drop_at, map-append}
use Rattle.dwz_def_reading.specs.Entries.{RawEntry, root_position}
use Rattle.dwz_def_reading.specs.Trees.{End, Entry, Forest, Position, behind, first_below, size}
use Rattle.dwz_def_reading.specs.Units.{RawUnit, entry_count}
use Rattle.dwz_def_reading.proofs.ListFacts.{drop_first}
use Rattle.dwz_def_reading.specs.Documents.{Compile, Doc, DwUnit, Entries, Kind, Node, OfType, Partial, entries_map, kind_map, node_map, unit_map}
use Rattle.dwz_def_reading.specs.Files.{Limits, around_of, file_meaning}
use Rattle.dwz_def_reading.specs.Meanings.{Around, MeanEntries, MeanUnits, MeansNode, scope_of}
use Rattle.dwz_def_reading.proofs.FileLemmas.{file_agrees}
use Rattle.dwz_def_tops.specs.Spaces.{space_text}
use Rattle.dwz_def_tops.proofs.SpaceLemmas.{text_map}
use Rattle.dwz_def_tops.specs.Spots.{EntryName, in_file}
use Rattle.dwz_unit.specs.Rows.{EntryRow, rows_below, rows_from, rows_in, rows_of}
use Rattle.dwz_unit.proofs.RowLemmas.{shown-length}
use Rattle.dwz_unit.proofs.ShownLemmas.{rows_in-length}
use Rattle.dwz_graph.specs.declared.index.SpaceEntry.{SpaceEntry}
use Rattle.dwz_graph.specs.declared.index.Starts.{Starts}
use Rattle.dwz_graph.specs.Steps.{all_spaces, below_root, is_compile, is_space, space_entries, space_entry, spaces_among, spaces_by, starts_behind}
use Rattle.dwz_graph.proofs.AmongLemmas.{spaces_space, spaces_top}
use Rattle.dwz_graph.proofs.ListLemmas.{drop_more}
use Rattle.dwz_graph.proofs.ListMeans.{means_size}
use Rattle.dwz_layout_order.specs.Shown.{Pairs}
use Rattle.dwz_layout_order.specs.Spaces.{spaces_below, spaces_of, spaces_under}
use Rattle.dwz_layout_order.proofs.ChainShown.{pairs_append}
use Rattle.dwz_layout_order.proofs.RowLemmas.{under_space, under_top}

-- what is kept of a space is of an entry that means it
pub record IsSpaceOf (raw : List RawUnit) (around : Around ℕ) (x : SpaceEntry) (d : Node ℕ) : Type 0 where
  pub u : RawUnit
  pub row : EntryRow
  pub text : List ℕ
  pub found : slice_get (rows_of raw) x.entry ≡ Some row
  pub is_unit : slice_get raw row.unit ≡ Some u
  pub means : MeansNode (scope_of around u) row.entry d
  pub is_space : space_text d ≡ Some text

-- the spaces of units, without names
unfoldable pub said_spaces : {P : Type 0} → List (DwUnit P) → List (Node P)
said_spaces [] = []
said_spaces (v ∷ units) = spaces_below v.kind v.below ++ said_spaces units

-- ---- list by list

module _ (raw : List RawUnit) (around : Around ℕ) (u : RawUnit) (local : ℕ) (is_unit : slice_get raw local ≡ Some u) where
  abbrev Stands : ℕ → ℕ → Forest RawEntry → Type 0
  Stands at depth f = (after : List EntryRow) × (drop at (rows_of raw) ≡ rows_below f local (record { before = at; depth = depth }) ++ after)

  list_spaces : (f : Forest RawEntry) (g : Entries ℕ) (inner k at depth : ℕ) → MeanEntries (scope_of around u) f g → Stands at depth f
      → Pairs (IsSpaceOf raw around) (spaces_among is_space inner k at g) (spaces_under g)
  unfolding rows_below spaces_among spaces_under
  list_spaces End End inner k at depth h stands = tt
  list_spaces End (Entry d c' m') inner k at depth h stands = absurd h
  list_spaces (Entry e c m) End inner k at depth h stands = absurd h
  list_spaces (Entry e c m) (Entry d c' m') inner k at depth h stands =
      by (λ k' q. list_spaces m m' inner k' (at + 1 + size c) depth h.2 q) (λ q. list_spaces c c' (suc k) (suc k) (at + 1) (depth + 1) h.1 q) (space_text d) refl
    where
      p : Position
      p = record { before = at; depth = depth }

      row : EntryRow
      row = record { entry = e; unit = local; depth = depth; end = at + 1 + size c }

      inside : List EntryRow
      inside = rows_below c local (first_below p)

      others : List EntryRow
      others = rows_below m local (behind p c)

      here : (slice_get (rows_of raw) at ≡ Some row) × (drop (at + 1) (rows_of raw) ≡ (inside ++ others) ++ stands.0)
      here = drop_first (rows_of raw) at row ((inside ++ others) ++ stands.0) stands.1

      below_stands : Stands (at + 1) (depth + 1) c
      below_stands = (others ++ stands.0, here.1 ∙ append_assoc inside others stands.0)

      behind_stands : Stands (at + 1 + size c) depth m
      behind_stands = (
        stands.0,
        drop_more (rows_of raw) (at + 1) (size c) ∙ ap (drop (size c)) (here.1 ∙ append_assoc inside others stands.0)
            ∙ drop_at inside (others ++ stands.0) (size c) (shown-length c local (first_below p)),
      )

      len : size c ≡ size c'
      len = means_size (scope_of around u) c c' h.1

      by : ((k' : ℕ) → Stands (at + 1 + size c) depth m → Pairs (IsSpaceOf raw around) (spaces_among is_space inner k' (at + 1 + size c) m') (spaces_under m'))
          → (Stands (at + 1) (depth + 1) c → Pairs (IsSpaceOf raw around) (spaces_among is_space (suc k) (suc k) (at + 1) c') (spaces_under c'))
          → (o : Option (List ℕ)) → space_text d ≡ o → Pairs (IsSpaceOf raw around) (spaces_among is_space inner k at (Entry d c' m')) (spaces_under (Entry d c' m'))
      by q r None plain =
          let kept = spaces_top is_space d c' m' inner k at (ap is_some plain) ∙ ap (λ (z : ℕ). spaces_among is_space inner k (at + 1 + z) m') (sym len) in
          subst (λ (w : List SpaceEntry). Pairs (IsSpaceOf raw around) w (spaces_under (Entry d c' m'))) (sym kept)
          (subst (Pairs (IsSpaceOf raw around) (spaces_among is_space inner k (at + 1 + size c) m')) (sym (under_top d c' m' plain)) (q k behind_stands))
      by q r (Some text) named =
          let a = spaces_among is_space (suc k) (suc k) (at + 1) c' in
          let b = spaces_among is_space inner (suc k + spaces_by is_space c') (at + 1 + size c) m' in
          let kept = spaces_space is_space d c' m' inner k at (ap is_some named)
          ∙ ap (λ (z : ℕ). space_entry at inner ∷ (a ++ spaces_among is_space inner (suc k + spaces_by is_space c') (at + 1 + z) m')) (sym len) in
          let one : IsSpaceOf raw around (space_entry at inner) d = record { u = u; row = row; text = text; found = here.0; is_unit = is_unit; means = h.0; is_space = named } in
          subst (λ (w : List SpaceEntry). Pairs (IsSpaceOf raw around) w (spaces_under (Entry d c' m'))) (sym kept)
          (subst (Pairs (IsSpaceOf raw around) (space_entry at inner ∷ (a ++ b))) (sym (under_space d c' m' text named))
          (one, pairs_append (IsSpaceOf raw around) a b (spaces_under c') (spaces_under m') (r below_stands) (q (suc k + spaces_by is_space c') behind_stands)))

-- ---- unit by unit

module _ (raw : List RawUnit) (around : Around ℕ) where
  unit_spaces : (u : RawUnit) (v : DwUnit ℕ) (local at k : ℕ) (after : List EntryRow) → slice_get raw local ≡ Some u → MeanEntries (scope_of around u) u.below v.below
      → drop at (rows_of raw) ≡ rows_in u local at ++ after
      → Pairs (IsSpaceOf raw around) (space_entries is_space k at (below_root v)) (spaces_below v.kind v.below)
  unfolding rows_below
  unit_spaces u v local at k after is_unit means rows = by v.kind where
    by : (kind : Kind ℕ) → Pairs (IsSpaceOf raw around) (space_entries is_space k at (record { compile = is_compile kind; list = v.below })) (spaces_below kind v.below)
    by Compile =
        let p = root_position at in
        let row : EntryRow = record { entry = u.root; unit = local; depth = 1; end = (behind p u.below).before } in
        let below = rows_below u.below local (first_below p) in
        let d = drop_first (rows_of raw) at row ((below ++ []) ++ after) rows in
        list_spaces raw around u local is_unit u.below v.below 0 k (at + 1) 2 means (after, d.1 ∙ ap (λ (w : List EntryRow). w ++ after) (append-nil below))
    by (OfType signature main) = tt
    by Partial = tt

  units_spaces : (s : Starts) (at local : ℕ) (us : List RawUnit) (said : List (DwUnit ℕ)) → MeanUnits around us said → drop local raw ≡ us → drop at (rows_of raw) ≡ rows_from us local at
      → Pairs (IsSpaceOf raw around) (all_spaces is_space s at (map below_root said)) (said_spaces said)
  unfolding all_spaces said_spaces rows_from
  units_spaces s at local [] [] h here rows = tt
  units_spaces s at local [] (v ∷ said) h here rows = absurd h
  units_spaces s at local (u ∷ us) [] h here rows = absurd h
  units_spaces s at local (u ∷ us) (v ∷ said) h here rows =
      let next = starts_behind is_space s (below_root v) in
      let unit_here = drop_first raw local u us here in
      let len = means_size (scope_of around u) u.below v.below h.0.below in
      let more : at + entry_count u ≡ at + 1 + size v.below = omega arith in
      let first_rows = rows_in u local at in
      let behind_rows : drop (at + 1 + size v.below) (rows_of raw) ≡ rows_from us (local + 1) (at + 1 + size v.below) =
      ap (λ (n : ℕ). drop n (rows_of raw)) (sym more) ∙ drop_more (rows_of raw) at (entry_count u) ∙ ap (drop (entry_count u)) rows
      ∙ drop_at first_rows (rows_from us (local + 1) (at + entry_count u)) (entry_count u) (rows_in-length u local at) ∙ ap (rows_from us (local + 1)) more in
      pairs_append (IsSpaceOf raw around) (space_entries is_space s.space at (below_root v)) (all_spaces is_space next (at + 1 + size v.below) (map below_root said)) (spaces_below v.kind v.below)
      (said_spaces said)
      (unit_spaces u v local at s.space (rows_from us (local + 1) (at + entry_count u)) unit_here.0 h.0.below rows)
      (units_spaces next (at + 1 + size v.below) (local + 1) us said h.1 unit_here.1 behind_rows)

-- those of a file that begins with these numbers
pub file_spaces : (l : Limits) (bytes : List ℕ) (raw : List RawUnit) (doc : Doc ℕ) (s : Starts) → file_meaning l bytes ≡ Ok (raw, doc)
    → Pairs (IsSpaceOf raw (around_of bytes raw)) (all_spaces is_space s 0 (map below_root doc.units)) (said_spaces doc.units)
file_spaces l bytes raw doc s reads =
    let r = ((file_agrees l bytes).ok (raw, doc)).0 reads in
    units_spaces raw (around_of bytes raw) s 0 0 raw doc.units r.means refl refl

-- ---- with names in place of places

under_named : (name : ℕ → EntryName) (f : Entries ℕ) → spaces_under (entries_map name f) ≡ map (node_map name) (spaces_under f)
unfolding entries_map spaces_under
under_named name End = refl
under_named name (Entry d c n) = by (space_text d) refl (under_named name c) (under_named name n) where
  by : (o : Option (List ℕ)) → space_text d ≡ o → spaces_under (entries_map name c) ≡ map (node_map name) (spaces_under c) → spaces_under (entries_map name n) ≡ map (node_map name) (spaces_under n)
      → spaces_under (Entry (node_map name d) (entries_map name c) (entries_map name n)) ≡ map (node_map name) (spaces_under (Entry d c n))
  by None e a b = under_top (node_map name d) (entries_map name c) (entries_map name n) (text_map name d ∙ e) ∙ b ∙ ap (map (node_map name)) (sym (under_top d c n e))
  by (Some text) e a b =
      under_space (node_map name d) (entries_map name c) (entries_map name n) text (text_map name d ∙ e)
      ∙ ap (λ (w : List (Node EntryName)). node_map name d ∷ w) ((λ i. a i ++ b i) ∙ sym (map-append (node_map name) (spaces_under c) (spaces_under n)))
      ∙ ap (map (node_map name)) (sym (under_space d c n text e))

below_named : (name : ℕ → EntryName) (k : Kind ℕ) (f : Entries ℕ) → spaces_below (kind_map name k) (entries_map name f) ≡ map (node_map name) (spaces_below k f)
below_named name Compile f = under_named name f
below_named name (OfType signature main) f = refl
below_named name Partial f = refl

pub spaces_named : (file : ℕ) (name : ℕ → EntryName) (units : List (DwUnit ℕ)) → spaces_of (map (in_file file) (map (unit_map name) units)) ≡ map (node_map name) (said_spaces units)
unfolding spaces_of said_spaces
spaces_named file name [] = refl
spaces_named file name (v ∷ units) =
    (λ i. below_named name v.kind v.below i ++ spaces_named file name units i)
    ∙ sym (map-append (node_map name) (spaces_below v.kind v.below) (said_spaces units))
