-- The tops of a file, and of several, in step with what is kept of them.
use Rattle.std.proofs.Common.{◌≡◌, ℕ, suc, ◌+◌, Bool, true, false, List, [], ◌∷◌, length, map, refl, sym, ap, subst, ◌∙◌, arith}
use Rattle.dwz_def_reading.specs.Trees.{size}
use Rattle.dwz_def_reading.specs.Documents.{Compile, DwUnit, Kind, Node, OfType, Partial, entries_map, kind_map, language, unit_map}
use Rattle.dwz_def_tops.specs.Spots.{EntryName, SpaceName, Top, in_file, row_below, row_tops, top_count, tops_from}
use Rattle.dwz_def_tops.proofs.NameLists.{count_map}
use Rattle.dwz_graph.specs.declared.index.Starts.{Starts}
use Rattle.dwz_graph.specs.Steps.{Below, all_spaces, all_tops, below_root, is_compile, is_space, space_entries, spaces_of_list, starts_behind, top_entries, tops_of_list}
use Rattle.dwz_graph.proofs.AmongLemmas.{spaces_many}
use Rattle.dwz_graph.proofs.TopLemmas.{counts_same}
use Rattle.dwz_layout_items.specs.declared.partial.SpaceRow.{SpaceRow}
use Rattle.dwz_layout_items.specs.Chains.{down}
use Rattle.dwz_layout_order.specs.Shown.{LeadsUp, Pairs, RowsFrom, SaidIs}
use Rattle.dwz_layout_order.specs.Spaces.{Numbered, spaces_below, spaces_of}
use Rattle.dwz_layout_order.proofs.ChainShown.{chain, pairs_append, rows_parted, under_many}
use Rattle.dwz_layout_order.proofs.RowLemmas.{numbered_split}

pub spaces_same : (name : ℕ → EntryName) (v : DwUnit ℕ) → spaces_of_list is_space (below_root v) ≡ length (spaces_below (kind_map name v.kind) (entries_map name v.below))
spaces_same name v = by v.kind where
  by : (kind : Kind ℕ) → spaces_of_list is_space (record { compile = is_compile kind; list = v.below }) ≡ length (spaces_below (kind_map name kind) (entries_map name v.below))
  by Compile = sym (under_many name v.below)
  by (OfType signature main) = refl
  by Partial = refl

pub entries_many : (k first : ℕ) (b : Below (Node ℕ)) → length (space_entries is_space k first b) ≡ spaces_of_list is_space b
entries_many k first b = by b.compile where
  by : (c : Bool) → length (space_entries is_space k first (record { compile = c; list = b.list })) ≡ spaces_of_list is_space (record { compile = c; list = b.list })
  by true = spaces_many is_space 0 k (first + 1) b.list
  by false = refl

module _ (rows : List SpaceRow) (said : ℕ → SpaceName) where
  unit_chain : (file unit n k first : ℕ) (name : ℕ → EntryName) (v : DwUnit ℕ) → RowsFrom rows k (space_entries is_space k first (below_root v))
      → Numbered (SaidIs said) k (spaces_below (kind_map name v.kind) (entries_map name v.below))
      → Pairs (LeadsUp rows said) (top_entries is_space unit k first (below_root v)) (row_tops (row_below file unit n (unit_map name v) (kind_map name v.kind)))
  unfolding row_tops down
  unit_chain file unit n k first name v from under = by v.kind from under where
    by : (kind : Kind ℕ) → RowsFrom rows k (space_entries is_space k first (record { compile = is_compile kind; list = v.below }))
        → Numbered (SaidIs said) k (spaces_below (kind_map name kind) (entries_map name v.below))
        → Pairs (LeadsUp rows said) (top_entries is_space unit k first (record { compile = is_compile kind; list = v.below })) (row_tops (row_below file unit n (unit_map name v) (kind_map name kind)))
    by Compile from under = chain rows said file unit (language (unit_map name v)) name v.below [] [] 0 n k (first + 1) refl refl from under
    by (OfType signature main) from under = tt
    by Partial from under = tt

  pub file_chain : (file first : ℕ) (name : ℕ → EntryName) (s : Starts) (units : List (DwUnit ℕ)) → RowsFrom rows s.space (all_spaces is_space s first (map below_root units))
      → Numbered (SaidIs said) s.space (spaces_of (map (in_file file) (map (unit_map name) units)))
      → Pairs (LeadsUp rows said) (all_tops is_space s first (map below_root units)) (tops_from s.unit s.top (map (in_file file) (map (unit_map name) units)))
  unfolding all_tops all_spaces tops_from spaces_of
  file_chain file first name s [] from under = tt
  file_chain file first name s (v ∷ units) from under =
      let b = below_root v in
      let next = starts_behind is_space s b in
      let own = space_entries is_space s.space first b in
      let others = all_spaces is_space next (first + 1 + size v.below) (map below_root units) in
      let parts = rows_parted rows s.space (spaces_of_list is_space b) own others (entries_many s.space first b) from in
      let kind = kind_map name v.kind in
      let below = entries_map name v.below in
      let halves = numbered_split (SaidIs said) s.space (spaces_below kind below) (spaces_of (map (in_file file) (map (unit_map name) units))) under in
      let many : length (spaces_below kind below) ≡ spaces_of_list is_space b = sym (spaces_same name v) in
      let rest = file_chain file (first + 1 + size v.below) name next units parts.1
      (subst (λ (j : ℕ). Numbered (SaidIs said) (s.space + j) (spaces_of (map (in_file file) (map (unit_map name) units)))) many halves.1) in
      let one : s.unit + 1 ≡ suc s.unit = omega arith in
      let count : s.top + tops_of_list is_space b ≡ s.top + top_count kind below = ap (λ (k : ℕ). s.top + k) (counts_same v ∙ sym (count_map name v.kind v.below)) in
      let tops : List Top = row_tops (row_below file s.unit s.top (unit_map name v) kind) in
      pairs_append (LeadsUp rows said) (top_entries is_space s.unit s.space first b) (all_tops is_space next (first + 1 + size v.below) (map below_root units)) tops
      (tops_from (suc s.unit) (s.top + top_count kind below) (map (in_file file) (map (unit_map name) units)))
      (unit_chain file s.unit s.top s.space first name v parts.0 halves.0)
      (subst (λ (w : List Top). Pairs (LeadsUp rows said) (all_tops is_space next (first + 1 + size v.below) (map below_root units)) w)
      (λ i. tops_from (one i) (count i) (map (in_file file) (map (unit_map name) units))) rest)
