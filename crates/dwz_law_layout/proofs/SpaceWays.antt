-- The spaces that a top stands in are spaces of its unit: rows lead from each top of a unit, and from each space of it, to spaces of it alone.
use Rattle.std.proofs.Common.{◌≡◌, ◌⊎◌, ℕ, zero, suc, ◌+◌, ◌-◌, ◌<◌, ◌≤◌, Bool, true, false, List, [], ◌∷◌, ◌++◌, drop, length, map, Some, slice_get, inl, inr, refl, sym, ap, subst, ◌∙◌, arith}
use Rattle.std.proofs.lemmas.List.{append_assoc, length-append}
use Rattle.dwz_def_reading.specs.Lists.{Each, In}
use Rattle.dwz_def_reading.specs.Trees.{End, Entry, Forest, size}
use Rattle.dwz_def_reading.specs.Documents.{DwUnit, Node, entries_map, kind_map, unit_map}
use Rattle.dwz_def_tops.proofs.Members.{each_append, each_in, each_more}
use Rattle.dwz_def_tops.specs.Spots.{EntryName, FileUnit, Top, in_file, row_below, row_tops, top_count, tops_among as tops_in_units, tops_from}
use Rattle.dwz_def_tops.proofs.NameLists.{count_map}
use Rattle.dwz_def_tops.proofs.TopNumbers.{below_length}
use Rattle.dwz_def_tops.proofs.TopOrder.{here_unit}
use Rattle.dwz_graph.specs.declared.index.SpaceEntry.{SpaceEntry}
use Rattle.dwz_graph.specs.declared.index.Starts.{Starts}
use Rattle.dwz_graph.specs.declared.index.TopEntry.{TopEntry}
use Rattle.dwz_graph.specs.Steps.{Below, all_spaces, all_tops, below_root, is_space, space_entries, spaces_among, spaces_by, spaces_of_list, starts_behind, top_entries, tops_among, tops_of_list}
use Rattle.dwz_graph.proofs.AmongLemmas.{spaces_many, spaces_space, spaces_top, tops_many, tops_space, tops_top}
use Rattle.dwz_graph.proofs.TopLemmas.{counts_same}
use Rattle.dwz_layout_items.specs.declared.partial.SpaceRow.{SpaceRow}
use Rattle.dwz_layout_items.specs.Chains.{Up}
use Rattle.dwz_layout_order.specs.Lists.{row_from, rows_from}
use Rattle.dwz_layout_order.specs.Shown.{Pairs, RowsFrom, named_units}
use Rattle.dwz_layout_order.specs.Spaces.{spaces_below, spaces_of}
use Rattle.dwz_layout_order.proofs.ChainShown.{pairs_append, rows_parted}
use Rattle.dwz_layout_order.proofs.FileChains.{spaces_same}
use Rattle.dwz_layout_order.proofs.OutlineLemmas.{spaces_space as many_space, spaces_top as many_top}
use Rattle.dwz_layout_order.proofs.UnitRows.{spaces_append}
use Rattle.dwz_law_layout.specs.Items.{IsOneOf}
use Rattle.dwz_law_layout.specs.Old.{IsSpaceIn}

-- ---- of one list: of so many spaces, the first of which has that number, one more than the number of one, or 0

abbrev pub Inside : (lo n inner : ℕ) → Type 0
Inside lo n inner = (inner ≡ 0) ⊎ IsOneOf (suc lo) n inner

module _ {E : Type 0} (test : E → Bool) (lo n : ℕ) where
  abbrev TopInside : TopEntry → Type 0
  TopInside x = Inside lo n x.inner

  abbrev SpaceInside : SpaceEntry → Type 0
  SpaceInside x = Inside lo n x.outer

  tops_inside : (unit inner k first : ℕ) (f : Forest E) → Inside lo n inner → lo ≤ k → k + spaces_by test f ≤ lo + n → Each TopInside (tops_among test unit inner k first f)
  unfolding tops_among
  tops_inside unit inner k first End here low high = tt
  tops_inside unit inner k first (Entry e c x) here low high =
      by (test e) refl (λ i j at h a b. tops_inside unit i j at c h a b) (λ j at a b. tops_inside unit inner j at x here a b)
    where
      by : (b : Bool) → test e ≡ b → ((i j at : ℕ) → Inside lo n i → lo ≤ j → j + spaces_by test c ≤ lo + n → Each TopInside (tops_among test unit i j at c))
          → ((j at : ℕ) → lo ≤ j → j + spaces_by test x ≤ lo + n → Each TopInside (tops_among test unit inner j at x)) → Each TopInside (tops_among test unit inner k first (Entry e c x))
      by false is within behind =
          let many = many_top test e c x is in
          subst (Each TopInside) (sym (tops_top test e c x unit inner k first is)) (here, behind k (first + 1 + size c) low (omega arith))
      by true is within behind =
          let many = many_space test e c x is in
          let own : Inside lo n (suc k) = inr (record { low = omega arith; high = omega arith }) in
          subst (Each TopInside) (sym (tops_space test e c x unit inner k first is))
          (each_append TopInside (tops_among test unit (suc k) (suc k) (first + 1) c) (tops_among test unit inner (suc k + spaces_by test c) (first + 1 + size c) x)
          (within (suc k) (suc k) (first + 1) own (omega arith) (omega arith))
          (behind (suc k + spaces_by test c) (first + 1 + size c) (omega arith) (omega arith)))

  spaces_inside : (outer k first : ℕ) (f : Forest E) → Inside lo n outer → lo ≤ k → k + spaces_by test f ≤ lo + n → Each SpaceInside (spaces_among test outer k first f)
  unfolding spaces_among
  spaces_inside outer k first End here low high = tt
  spaces_inside outer k first (Entry e c x) here low high =
      by (test e) refl (λ i j at h a b. spaces_inside i j at c h a b) (λ j at a b. spaces_inside outer j at x here a b)
    where
      by : (b : Bool) → test e ≡ b → ((i j at : ℕ) → Inside lo n i → lo ≤ j → j + spaces_by test c ≤ lo + n → Each SpaceInside (spaces_among test i j at c))
          → ((j at : ℕ) → lo ≤ j → j + spaces_by test x ≤ lo + n → Each SpaceInside (spaces_among test outer j at x)) → Each SpaceInside (spaces_among test outer k first (Entry e c x))
      by false is within behind =
          let many = many_top test e c x is in
          subst (Each SpaceInside) (sym (spaces_top test e c x outer k first is)) (behind k (first + 1 + size c) low (omega arith))
      by true is within behind =
          let many = many_space test e c x is in
          let own : Inside lo n (suc k) = inr (record { low = omega arith; high = omega arith }) in
          subst (Each SpaceInside) (sym (spaces_space test e c x outer k first is)) (
            here,
            each_append SpaceInside (spaces_among test (suc k) (suc k) (first + 1) c) (spaces_among test outer (suc k + spaces_by test c) (first + 1 + size c) x)
                (within (suc k) (suc k) (first + 1) own (omega arith) (omega arith))
                (behind (suc k + spaces_by test c) (first + 1 + size c) (omega arith) (omega arith)),
          )

-- ---- of a unit

module _ {E : Type 0} (test : E → Bool) (k first : ℕ) (b : Below E) where
  unit_tops : (unit : ℕ) → Each (λ (x : TopEntry). Inside k (spaces_of_list test b) x.inner) (top_entries test unit k first b)
  unit_tops unit = by b.compile where
    by : (c : Bool) → Each (λ (x : TopEntry). Inside k (spaces_of_list test (record { compile = c; list = b.list })) x.inner) (top_entries test unit k first (record { compile = c; list = b.list }))
    by true = tops_inside test k (spaces_by test b.list) unit 0 k (first + 1) b.list (inl refl) (omega arith) (omega arith)
    by false = tt

  unit_spaces : Each (λ (x : SpaceEntry). Inside k (spaces_of_list test b) x.outer) (space_entries test k first b)
  unit_spaces = by b.compile where
    by : (c : Bool) → Each (λ (x : SpaceEntry). Inside k (spaces_of_list test (record { compile = c; list = b.list })) x.outer) (space_entries test k first (record { compile = c; list = b.list }))
    by true = spaces_inside test k (spaces_by test b.list) 0 k (first + 1) b.list (inl refl) (omega arith) (omega arith)
    by false = tt

  tops_long : (unit : ℕ) → length (top_entries test unit k first b) ≡ tops_of_list test b
  tops_long unit = by b.compile where
    by : (c : Bool) → length (top_entries test unit k first (record { compile = c; list = b.list })) ≡ tops_of_list test (record { compile = c; list = b.list })
    by true = tops_many test unit 0 k (first + 1) b.list
    by false = refl

  pub spaces_long : length (space_entries test k first b) ≡ spaces_of_list test b
  spaces_long = by b.compile where
    by : (c : Bool) → length (space_entries test k first (record { compile = c; list = b.list })) ≡ spaces_of_list test (record { compile = c; list = b.list })
    by true = spaces_many test 0 k (first + 1) b.list
    by false = refl

-- ---- ways up

get_behind : {X : Type 0} (xs : List X) (k i : ℕ) → slice_get (drop k xs) i ≡ slice_get xs (k + i)
get_behind xs zero i = (let e : i ≡ 0 + i = omega arith in ap (slice_get xs) e)
get_behind [] (suc k) i = refl
get_behind (x ∷ xs) (suc k) i = get_behind xs k i ∙ (let e : suc (k + i) ≡ suc k + i = omega arith in ap (slice_get (x ∷ xs)) e)

row_there : (own : List SpaceEntry) (k i : ℕ) (after : List SpaceRow) (row : SpaceRow) → i < length own → slice_get (rows_from k own ++ after) i ≡ Some row
    → (y : SpaceEntry) × In y own × (row_from (k + i) y ≡ row)
unfolding rows_from
row_there [] k i after row lt e = absurd (omega arith)
row_there (y ∷ own) k zero after row lt e =
    let same : row_from k y ≡ row = cc in
    let none : k + 0 ≡ k = omega arith in
    (y, inl refl, ap (λ (n : ℕ). row_from n y) none ∙ same)
row_there (y ∷ own) k (suc i) after row lt e =
    let r = row_there own (suc k) i after row (omega arith) e in
    let next : k + suc i ≡ suc k + i = omega arith in
    (r.0, inr r.1, ap (λ (n : ℕ). row_from n r.0) next ∙ r.2)

module _ (rows : List SpaceRow) (k n : ℕ) (own : List SpaceEntry) (long : length own ≡ n) (inside : Each (λ (x : SpaceEntry). Inside k n x.outer) own) (from : RowsFrom rows k own) where
  way_inside : (inner : ℕ) (ups : List ℕ) → Inside k n inner → Up rows inner ups → Each (IsOneOf k n) ups
  way_inside inner [] here up = tt
  way_inside inner (s ∷ ups) (inl none) up = absurd (omega (arith, none, up.2))
  way_inside inner (s ∷ ups) (inr one) up =
      let j = up.0 in
      let row = up.1 in
      let is = up.2 in
      let low = one.low in
      let high = one.high in
      let at : (i : ℕ) × (j ≡ k + i) × (i < n) = behind j (omega arith) (omega arith) in
      let found : slice_get (rows_from k own ++ from.after) at.0 ≡ Some row =
      ap (λ (w : List SpaceRow). slice_get w at.0) (sym from.rest) ∙ get_behind rows k at.0 ∙ ap (slice_get rows) (sym at.1) ∙ up.3 in
      let r = row_there own k at.0 from.after row (omega (arith, long, at.2)) found in
      let number : s ≡ j = sym up.4 ∙ ap (λ (w : SpaceRow). w.space) (sym r.2) ∙ sym at.1 in
      let outer : Inside k n row.outer = subst (λ (w : SpaceRow). Inside k n w.outer) r.2 (each_in (λ (x : SpaceEntry). Inside k n x.outer) r.0 own inside r.1) in
      (record { low = omega arith; high = omega arith }, way_inside row.outer ups outer up.5)
    where
      behind : (j : ℕ) → k ≤ j → j < k + n → (i : ℕ) × (j ≡ k + i) × (i < n)
      behind j low high = (j - k, omega arith, omega arith)

-- ---- of the tops of a file, and of those behind it

pairs_of : {X Y : Type 0} (R : X → Y → Type 0) (xs : List X) (ys : List Y) → length xs ≡ length ys → ((x : X) (y : Y) → In x xs → In y ys → R x y) → Pairs R xs ys
pairs_of R [] [] e h = tt
pairs_of R [] (y ∷ ys) e h = absurd (omega arith)
pairs_of R (x ∷ xs) [] e h = absurd (omega arith)
pairs_of R (x ∷ xs) (y ∷ ys) e h = (h x y (inl refl) (inl refl), pairs_of R xs ys (omega arith) (λ a b p q. h a b (inr p) (inr q)))

module _ (rows : List SpaceRow) (units : List (FileUnit EntryName)) where
  -- the way up from what is kept of the top leads to spaces of its unit
  abbrev pub IsWay : TopEntry → Top → Type 0
  IsWay x t = (ups : List ℕ) → Up rows x.inner ups → Each (IsSpaceIn units t.unit) ups

  unit_ways : (s : Starts) (first file : ℕ) (name : ℕ → EntryName) (v : DwUnit ℕ) (before after : List (FileUnit EntryName)) → units ≡ before ++ in_file file (unit_map name v) ∷ after
      → s.unit ≡ length before
      → s.space ≡ length (spaces_of before) → RowsFrom rows s.space (space_entries is_space s.space first (below_root v))
      → Pairs IsWay (top_entries is_space s.unit s.space first (below_root v)) (row_tops (row_below file s.unit s.top (unit_map name v) (kind_map name v.kind)))
  unit_ways s first file name v before after is number space from =
      let b = below_root v in
      let f : FileUnit EntryName = in_file file (unit_map name v) in
      let n = spaces_of_list is_space b in
      let own = space_entries is_space s.space first b in
      let entries = top_entries is_space s.unit s.space first b in
      let tops = row_tops (row_below file s.unit s.top (unit_map name v) (kind_map name v.kind)) in
      let many : length entries ≡ length tops =
      tops_long is_space s.space first b s.unit ∙ counts_same v ∙ sym (count_map name v.kind v.below) ∙ sym (below_length file s.unit s.top (unit_map name v) (kind_map name v.kind)) in
      pairs_of IsWay entries tops many (λ x t a h ups up.
      let inside = each_in (λ (y : TopEntry). Inside s.space n y.inner) x entries (unit_tops is_space s.space first b s.unit) a in
      let each = way_inside rows s.space n own (spaces_long is_space s.space first b) (unit_spaces is_space s.space first b) from x.inner ups inside up in
      let unit : t.unit ≡ s.unit = here_unit s.unit s.top f [] t h in
      let same = spaces_same name v in
      each_more (IsOneOf s.space n) (IsSpaceIn units t.unit) ups (λ j one. (
      let low = one.low in
      let high = one.high in
      record { before = before; unit = f; after = after; units_are = is; number = sym (unit ∙ number); space = record { low = omega arith; high = omega arith } }
      )) each)

  pub file_ways : (file first : ℕ) (name : ℕ → EntryName) (s : Starts) (said : List (DwUnit ℕ)) (before after : List (FileUnit EntryName)) (others : List TopEntry)
      → units ≡ before ++ (named_units file name said ++ after)
      → s.unit ≡ length before → s.space ≡ length (spaces_of before) → RowsFrom rows s.space (all_spaces is_space s first (map below_root said))
      → Pairs IsWay others (tops_from (s.unit + length said) (s.top + tops_in_units said) after)
      → Pairs IsWay (all_tops is_space s first (map below_root said) ++ others) (tops_from s.unit s.top (named_units file name said ++ after))
  unfolding all_tops all_spaces tops_from spaces_of tops_in_units
  file_ways file first name s [] before after others is number space from rest =
      let a : s.unit + 0 ≡ s.unit = omega arith in
      let b : s.top + 0 ≡ s.top = omega arith in
      subst (Pairs IsWay others) (λ i. tops_from (a i) (b i) after) rest
  file_ways file first name s (v ∷ said) before after others is number space from rest =
      let b = below_root v in
      let f : FileUnit EntryName = in_file file (unit_map name v) in
      let next = starts_behind is_space s b in
      let own = space_entries is_space s.space first b in
      let behind = first + 1 + size v.below in
      let parts = rows_parted rows s.space (spaces_of_list is_space b) own (all_spaces is_space next behind (map below_root said)) (spaces_long is_space s.space first b) from in
      let kind = kind_map name v.kind in
      let below = entries_map name v.below in
      let more : units ≡ (before ++ f ∷ []) ++ (named_units file name said ++ after) = is ∙ sym (append_assoc before (f ∷ []) (named_units file name said ++ after)) in
      let long = length-append before (f ∷ []) in
      let joined = ap (λ (w : List (Node EntryName)). length w) (spaces_append before (f ∷ [])) in
      let two = length-append (spaces_of before) (spaces_below kind below ++ []) in
      let three = length-append (spaces_below kind below) [] in
      let same = spaces_same name v in
      let tops = counts_same v in
      let count = count_map name v.kind v.below in
      let space_next : next.space ≡ length (spaces_of (before ++ f ∷ [])) = omega arith in
      let unit_next : next.unit ≡ length (before ++ f ∷ []) = omega arith in
      let unit_is : s.unit + suc (length said) ≡ next.unit + length said = omega arith in
      let top_is : s.top + (top_count v.kind v.below + tops_in_units said) ≡ next.top + tops_in_units said = omega arith in
      let left = subst (Pairs IsWay others) (λ i. tops_from (unit_is i) (top_is i) after) rest in
      let r = file_ways file behind name next said (before ++ f ∷ []) after others more unit_next space_next parts.1 left in
      let one : next.unit ≡ suc s.unit = omega arith in
      let number_is : next.top ≡ s.top + top_count kind below = omega arith in
      let entries = top_entries is_space s.unit s.space first b in
      let mine = row_tops (row_below file s.unit s.top (unit_map name v) kind) in
      subst (λ (w : List TopEntry). Pairs IsWay w (mine ++ tops_from (suc s.unit) (s.top + top_count kind below) (named_units file name said ++ after)))
      (sym (append_assoc entries (all_tops is_space next behind (map below_root said)) others))
      (pairs_append IsWay entries (all_tops is_space next behind (map below_root said) ++ others) mine (tops_from (suc s.unit) (s.top + top_count kind below) (named_units file name said ++ after))
      (unit_ways s first file name v before (named_units file name said ++ after) is number space parts.0)
      (subst (Pairs IsWay (all_tops is_space next behind (map below_root said) ++ others)) (λ i. tops_from (one i) (number_is i) (named_units file name said ++ after)) r))
