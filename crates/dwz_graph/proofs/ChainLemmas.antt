-- The spaces that tops stand in, list by list.
use Rattle.std.proofs.Common.{◌≡◌, ℕ, ℤ, zero, suc, ◌+◌, ◌≤◌, Bool, true, false, List, [], ◌∷◌, ◌++◌, length, drop, map, Option, Some, None, Ok, slice_get, ◌==◌, if◌then◌else◌, refl, sym, ap, subst}
use Rattle.std.proofs.Common.{◌∙◌, arith}
use Rattle.std.specs.Prelude.{reverse}
use Rattle.std.specs.Option.{is_some}
use Rattle.std.proofs.lemmas.List.{append-nil, append_assoc, drop_at, reverse-append}
use Rattle.dwz_def_reading.specs.Entries.{RawEntry, root_position}
use Rattle.dwz_def_reading.specs.Trees.{End, Entry, Forest, Position, behind, first_below, size}
use Rattle.dwz_def_reading.specs.Units.{RawUnit, entry_count}
use Rattle.dwz_def_reading.proofs.ListFacts.{drop_first}
use Rattle.dwz_def_reading.specs.Documents.{Attr, Compile, Doc, DwUnit, Entries, Kind, Node, OfType, Partial, attr_map, entries_map, first_named, kind_map, language, node_map, unit_map}
use Rattle.dwz_def_reading.specs.Files.{Limits, around_of, file_meaning}
use Rattle.dwz_def_reading.specs.Meanings.{Around, MeanEntries, MeanUnits, scope_of}
use Rattle.dwz_def_reading.proofs.FileLemmas.{file_agrees}
use Rattle.dwz_def_tops.specs.Spaces.{space_text, tops_under}
use Rattle.dwz_def_tops.proofs.SpaceLemmas.{text_map}
use Rattle.dwz_def_tops.specs.Spots.{EntryName, FileUnit, SpaceName, Top, in_file, name_by, name_of, number_tops, row_below, row_in, row_tops, top_count, tops_from}
use Rattle.dwz_def_tops.proofs.NameLists.{count_map}
use Rattle.dwz_unit.specs.Rows.{EntryRow, rows_below, rows_from, rows_in, rows_of}
use Rattle.dwz_unit.proofs.RowLemmas.{shown-length}
use Rattle.dwz_unit.proofs.ShownLemmas.{rows_in-length}
use Rattle.dwz_graph.specs.declared.index.SpaceEntry.{SpaceEntry}
use Rattle.dwz_graph.specs.declared.index.Starts.{Starts}
use Rattle.dwz_graph.specs.declared.index.TopEntry.{TopEntry}
use Rattle.dwz_graph.specs.Chains.{AreSpacesAt, IsOut, IsSpaceAt, LeadsOut}
use Rattle.dwz_graph.specs.Steps.{all_spaces, all_tops, below_root, is_compile, is_space, space_entries, space_entry, spaces_among, spaces_by, spaces_of_list, starts_behind, top_entry, tops_among}
use Rattle.dwz_graph.proofs.AmongLemmas.{spaces_many, spaces_space, spaces_top, tops_space, tops_top}
use Rattle.dwz_graph.proofs.ListLemmas.{drop_more}
use Rattle.dwz_graph.proofs.ListMeans.{means_size}
use Rattle.dwz_graph.proofs.TopLemmas.{counts_same, entries_of}

-- ---- names of spaces, with names in place of places

named_same : (name : ℕ → EntryName) (attrs : List (Attr ℕ)) (text : List ℕ) → name_by text (first_named 0x03 (map (attr_map name) attrs)) ≡ name_by text (first_named 0x03 attrs)
unfolding first_named
named_same name [] text = refl
named_same name (a ∷ attrs) text = go (named_same name attrs text) (a.name == 0x03) where
  go : name_by text (first_named 0x03 (map (attr_map name) attrs)) ≡ name_by text (first_named 0x03 attrs) → (b : Bool)
      → name_by text (if b then Some (attr_map name a) else first_named 0x03 (map (attr_map name) attrs)) ≡ name_by text (if b then Some a else first_named 0x03 attrs)
  go more true = refl
  go more false = more

-- ---- pairs of a list of what is kept and a list of tops

abbrev AllTwo : (TopEntry → Top → Type 0) → List TopEntry → List Top → Type 0
AllTwo R [] [] = Unit {0}
AllTwo R (x ∷ xs) (t ∷ ts) = R x t × AllTwo R xs ts
AllTwo R _ _ = ⊥

two_append : (R : TopEntry → Top → Type 0) (xs ys : List TopEntry) (ts us : List Top) → AllTwo R xs ts → AllTwo R ys us → AllTwo R (xs ++ ys) (ts ++ us)
two_append R [] ys [] us h k = k
two_append R [] ys (t ∷ ts) us h k = absurd h
two_append R (x ∷ xs) ys [] us h k = absurd h
two_append R (x ∷ xs) ys (t ∷ ts) us h k = (h.0, two_append R xs ys ts us h.1 k)

pub two_at : (R : TopEntry → Top → Type 0) (xs : List TopEntry) (ts : List Top) → AllTwo R xs ts → (k : ℕ) (x : TopEntry) (t : Top) → slice_get xs k ≡ Some x → slice_get ts k ≡ Some t → R x t
two_at R [] [] h k x t e f = absurd cc
two_at R [] (u ∷ ts) h k x t e f = absurd h
two_at R (y ∷ xs) [] h k x t e f = absurd h
two_at R (y ∷ xs) (u ∷ ts) h zero x t e f =
    let a : y ≡ x = cc in
    let b : u ≡ t = cc in
    subst (R x) b (subst (λ (w : TopEntry). R w u) a h.0)
two_at R (y ∷ xs) (u ∷ ts) h (suc k) x t e f = two_at R xs ts h.1 k x t e f

-- ---- the rows of a list

module _ (file unit : ℕ) (tongue : Option ℤ) where
  tops_first : (spaces : List SpaceName) (n : ℕ) (e : Node EntryName) (c m : Entries EntryName) → space_text e ≡ None
      → row_tops (row_in file unit tongue spaces n (Entry e c m)) ≡ record { file = file; unit = unit; language = tongue; spaces = spaces; number = n; node = e; below = c }
      ∷ row_tops (row_in file unit tongue spaces (suc n) m)
  unfolding row_in row_tops
  tops_first spaces n e c m h = rw (h, number_tops, row_tops) refl

  tops_inside : (spaces : List SpaceName) (n : ℕ) (e : Node EntryName) (c m : Entries EntryName) (text : List ℕ) → space_text e ≡ Some text
      → row_tops (row_in file unit tongue spaces n (Entry e c m)) ≡ row_tops (row_in file unit tongue (spaces ++ name_of text e ∷ []) n c)
      ++ row_tops (row_in file unit tongue spaces (n + tops_under c) m)
  unfolding row_in row_tops
  tops_inside spaces n e c m text h = rw (h, number_tops, row_tops) refl

module _ (raw : List RawUnit) (around : Around ℕ) (origin : Starts) (all : List SpaceEntry) (u : RawUnit) (local : ℕ) (is_unit : slice_get raw local ≡ Some u) (file unit : ℕ)
    (counted : unit ≡ origin.unit + local) (tongue : Option ℤ) (name : ℕ → EntryName) where
  abbrev Leads : TopEntry → Top → Type 0
  Leads x t = LeadsOut raw around origin all x t

  abbrev Stands : ℕ → ℕ → Forest RawEntry → Type 0
  Stands at depth f = (after : List EntryRow) × (drop at (rows_of raw) ≡ rows_below f local (record { before = at; depth = depth }) ++ after)

  abbrev From : ℕ → List SpaceEntry → Type 0
  From j part = (after : List SpaceEntry) × (drop j all ≡ part ++ after)

  chain : (f : Forest RawEntry) (g : Entries ℕ) (spaces : List SpaceName) (entries : List ℕ) (inner n j k at depth : ℕ) → MeanEntries (scope_of around u) f g → inner ≤ k
      → IsOut origin.space all inner entries → AreSpacesAt raw around local (reverse spaces) entries → k ≡ origin.space + j
      → Stands at depth f → From j (spaces_among is_space inner k at g) → AllTwo Leads (tops_among is_space unit inner k at g) (row_tops (row_in file unit tongue spaces n (entries_map name g)))
  unfolding entries_map row_in row_tops tops_among rows_below
  chain End End spaces entries inner n j k at depth h low out named num stands from = tt
  chain End (Entry d c' m') spaces entries inner n j k at depth h low out named num stands from = absurd h
  chain (Entry e c m) End spaces entries inner n j k at depth h low out named num stands from = absurd h
  chain (Entry e c m) (Entry d c' m') spaces entries inner n j k at depth h low out named num stands from =
      by (λ q r. chain m m' spaces entries inner (suc n) j k (at + 1 + size c) depth h.2 low out named num q r)
      (λ text o a q r. chain c c' (spaces ++ name_of text (node_map name d) ∷ []) (at ∷ entries) (suc k) n (j + 1) (suc k) (at + 1) (depth + 1) h.1 (omega arith) o a (omega (arith, num)) q r)
      (λ q r. chain m m' spaces entries inner (n + tops_under (entries_map name c')) (j + 1 + spaces_by is_space c') (suc k + spaces_by is_space c') (at + 1 + size c) depth h.2 (omega (arith, low))
      out named (omega (arith, num)) q r)
      (space_text d) refl
    where
      p : Position
      p = record { before = at; depth = depth }

      row : EntryRow
      row = record { entry = e; unit = local; depth = depth; end = at + 1 + size c }

      inside : List EntryRow
      inside = rows_below c local (first_below p)

      others : List EntryRow
      others = rows_below m local (behind p c)

      here : (slice_get (rows_of raw) at ≡ Some row) × (drop (at + 1) (rows_of raw) ≡ (inside ++ others) ++ stands.0)
      here = drop_first (rows_of raw) at row ((inside ++ others) ++ stands.0) stands.1

      below_stands : Stands (at + 1) (depth + 1) c
      below_stands = (others ++ stands.0, here.1 ∙ append_assoc inside others stands.0)

      behind_stands : Stands (at + 1 + size c) depth m
      behind_stands = (
        stands.0,
        drop_more (rows_of raw) (at + 1) (size c) ∙ ap (drop (size c)) (here.1 ∙ append_assoc inside others stands.0)
            ∙ drop_at inside (others ++ stands.0) (size c) (shown-length c local (first_below p)),
      )

      len : size c ≡ size c'
      len = means_size (scope_of around u) c c' h.1

      tops : ℕ → ℕ → List TopEntry
      tops w z = tops_among is_space unit inner w z m'

      by : (Stands (at + 1 + size c) depth m → From j (spaces_among is_space inner k (at + 1 + size c) m')
          → AllTwo Leads (tops k (at + 1 + size c)) (row_tops (row_in file unit tongue spaces (suc n) (entries_map name m'))))
          → ((text : List ℕ) → IsOut origin.space all (suc k) (at ∷ entries) → AreSpacesAt raw around local (reverse (spaces ++ name_of text (node_map name d) ∷ [])) (at ∷ entries)
          → Stands (at + 1) (depth + 1) c → From (j + 1) (spaces_among is_space (suc k) (suc k) (at + 1) c')
          → AllTwo Leads (tops_among is_space unit (suc k) (suc k) (at + 1) c') (row_tops (row_in file unit tongue (spaces ++ name_of text (node_map name d) ∷ []) n (entries_map name c'))))
          → (Stands (at + 1 + size c) depth m → From (j + 1 + spaces_by is_space c') (spaces_among is_space inner (suc k + spaces_by is_space c') (at + 1 + size c) m')
          → AllTwo Leads (tops (suc k + spaces_by is_space c') (at + 1 + size c)) (row_tops (row_in file unit tongue spaces (n + tops_under (entries_map name c')) (entries_map name m'))))
          → (o : Option (List ℕ)) → space_text d ≡ o → AllTwo Leads (tops_among is_space unit inner k at (Entry d c' m'))
          (row_tops (row_in file unit tongue spaces n (Entry (node_map name d) (entries_map name c') (entries_map name m'))))
      by q r s None plain =
          let rest : From j (spaces_among is_space inner k (at + 1 + size c) m') =
          subst (From j) (spaces_top is_space d c' m' inner k at (ap is_some plain) ∙ ap (λ (z : ℕ). spaces_among is_space inner k (at + 1 + z) m') (sym len)) from in
          let top : Top = record { file = file; unit = unit; language = tongue; spaces = spaces; number = n; node = node_map name d; below = entries_map name c' } in
          let one : Leads (top_entry at unit inner) top = record { n = local; number = counted; entries = entries; out = out; named = named } in
          subst (λ (w : List TopEntry). AllTwo Leads w (row_tops (row_in file unit tongue spaces n (Entry (node_map name d) (entries_map name c') (entries_map name m')))))
          (sym (tops_top is_space d c' m' unit inner k at (ap is_some plain)))
          (subst (AllTwo Leads (top_entry at unit inner ∷ tops k (at + 1 + size c')))
          (sym (tops_first file unit tongue spaces n (node_map name d) (entries_map name c') (entries_map name m') (text_map name d ∙ plain)))
          (one, subst (λ (z : ℕ). AllTwo Leads (tops k (at + 1 + z)) (row_tops (row_in file unit tongue spaces (suc n) (entries_map name m')))) len (q behind_stands rest)))
      by q r s (Some text) named_so =
          let own = space_entry at inner in
          let a = spaces_among is_space (suc k) (suc k) (at + 1) c' in
          let b = spaces_among is_space inner (suc k + spaces_by is_space c') (at + 1 + size c') m' in
          let whole : drop j all ≡ (own ∷ (a ++ b)) ++ from.0 = from.1 ∙ ap (λ (w : List SpaceEntry). w ++ from.0) (spaces_space is_space d c' m' inner k at (ap is_some named_so)) in
          let parts = drop_first all j own ((a ++ b) ++ from.0) whole in
          let both : drop (j + 1) all ≡ a ++ (b ++ from.0) = parts.1 ∙ append_assoc a b from.0 in
          let from_a : From (j + 1) a = (b ++ from.0, both) in
          let from_b : From (j + 1 + spaces_by is_space c') b = (
            from.0,
            drop_more all (j + 1) (spaces_by is_space c') ∙ ap (drop (spaces_by is_space c')) both
                ∙ drop_at a (b ++ from.0) (spaces_by is_space c') (spaces_many is_space (suc k) (suc k) (at + 1) c'),
          ) in
          let next_out : IsOut origin.space all (suc k) (at ∷ entries) = (j, own, ap suc num, parts.0, refl, omega (arith, low), out) in
          let is_at : IsSpaceAt raw around local at (name_of text (node_map name d)) =
          record { u = u; row = row; d = d; text = text; is_unit = is_unit; found = here.0; of_unit = refl; means = h.0; is_space = named_so; is_name = named_same name d.attrs text } in
          let next_named : AreSpacesAt raw around local (reverse (spaces ++ name_of text (node_map name d) ∷ [])) (at ∷ entries) =
          subst (λ (w : List SpaceName). AreSpacesAt raw around local w (at ∷ entries)) (sym (reverse-append spaces (name_of text (node_map name d) ∷ []))) (is_at, named) in
          subst (λ (w : List TopEntry). AllTwo Leads w (row_tops (row_in file unit tongue spaces n (Entry (node_map name d) (entries_map name c') (entries_map name m')))))
          (sym (tops_space is_space d c' m' unit inner k at (ap is_some named_so)))
          (subst (AllTwo Leads (tops_among is_space unit (suc k) (suc k) (at + 1) c' ++ tops (suc k + spaces_by is_space c') (at + 1 + size c')))
          (sym (tops_inside file unit tongue spaces n (node_map name d) (entries_map name c') (entries_map name m') text (text_map name d ∙ named_so)))
          (two_append Leads (tops_among is_space unit (suc k) (suc k) (at + 1) c') (tops (suc k + spaces_by is_space c') (at + 1 + size c'))
          (row_tops (row_in file unit tongue (spaces ++ name_of text (node_map name d) ∷ []) n (entries_map name c')))
          (row_tops (row_in file unit tongue spaces (n + tops_under (entries_map name c')) (entries_map name m')))
          (r text next_out next_named below_stands from_a)
          (subst (λ (z : ℕ). AllTwo Leads (tops (suc k + spaces_by is_space c') (at + 1 + z)) (row_tops (row_in file unit tongue spaces (n + tops_under (entries_map name c')) (entries_map name m'))))
          len
          (s behind_stands (subst (λ (z : ℕ). From (j + 1 + spaces_by is_space c') (spaces_among is_space inner (suc k + spaces_by is_space c') (at + 1 + z) m')) (sym len) from_b)))))

-- ---- unit by unit

module _ (raw : List RawUnit) (around : Around ℕ) (origin : Starts) (all : List SpaceEntry) (file : ℕ) (name : ℕ → EntryName) where
  abbrev LeadsIn : TopEntry → Top → Type 0
  LeadsIn x t = LeadsOut raw around origin all x t

  abbrev filed : List (DwUnit ℕ) → List (FileUnit EntryName)
  filed units = map (in_file file) (map (unit_map name) units)

  abbrev Rest : ℕ → List SpaceEntry → Type 0
  Rest j part = (after : List SpaceEntry) × (drop j all ≡ part ++ after)

  unit_chain : (u : RawUnit) (v : DwUnit ℕ) (local at unit top k j : ℕ) (after : List EntryRow) → slice_get raw local ≡ Some u → unit ≡ origin.unit + local
      → MeanEntries (scope_of around u) u.below v.below → k ≡ origin.space + j
      → drop at (rows_of raw) ≡ rows_in u local at ++ after → (kind : Kind ℕ) → Rest j (space_entries is_space k at (record { compile = is_compile kind; list = v.below }))
      → AllTwo LeadsIn (entries_of unit k at kind v.below) (row_tops (row_below file unit top (unit_map name v) (kind_map name kind)))
  unfolding row_tops rows_below
  unit_chain u v local at unit top k j after is_unit counted means num rows Compile from =
      let p = root_position at in
      let row : EntryRow = record { entry = u.root; unit = local; depth = 1; end = (behind p u.below).before } in
      let below = rows_below u.below local (first_below p) in
      let d = drop_first (rows_of raw) at row ((below ++ []) ++ after) rows in
      chain raw around origin all u local is_unit file unit counted (language (unit_map name v)) name u.below v.below [] [] 0 top j k (at + 1) 2 means (omega arith) refl tt num
      (after, d.1 ∙ ap (λ (w : List EntryRow). w ++ after) (append-nil below)) from
  unit_chain u v local at unit top k j after is_unit counted means num rows (OfType signature main) from = tt
  unit_chain u v local at unit top k j after is_unit counted means num rows Partial from = tt

  many_spaces : (k at : ℕ) (v : DwUnit ℕ) → length (space_entries is_space k at (below_root v)) ≡ spaces_of_list is_space (below_root v)
  many_spaces k at v = by v.kind where
    by : (kind : Kind ℕ) → length (space_entries is_space k at (record { compile = is_compile kind; list = v.below })) ≡ spaces_of_list is_space (record { compile = is_compile kind; list = v.below })
    by Compile = spaces_many is_space 0 k (at + 1) v.below
    by (OfType signature main) = refl
    by Partial = refl

  units_chain : (s : Starts) (at local j : ℕ) (us : List RawUnit) (said : List (DwUnit ℕ)) → MeanUnits around us said → drop local raw ≡ us → drop at (rows_of raw) ≡ rows_from us local at
      → s.unit ≡ origin.unit + local → s.space ≡ origin.space + j
      → Rest j (all_spaces is_space s at (map below_root said)) → AllTwo LeadsIn (all_tops is_space s at (map below_root said)) (tops_from s.unit s.top (filed said))
  unfolding all_tops all_spaces tops_from rows_from
  units_chain s at local j [] [] h here rows counted num from = tt
  units_chain s at local j [] (v ∷ said) h here rows counted num from = absurd h
  units_chain s at local j (u ∷ us) [] h here rows counted num from = absurd h
  units_chain s at local j (u ∷ us) (v ∷ said) h here rows counted num from =
      let next = starts_behind is_space s (below_root v) in
      let w = unit_map name v in
      let own = space_entries is_space s.space at (below_root v) in
      let others = all_spaces is_space next (at + 1 + size v.below) (map below_root said) in
      let unit_here = drop_first raw local u us here in
      let len = means_size (scope_of around u) u.below v.below h.0.below in
      let one : s.unit + 1 ≡ suc s.unit = omega arith in
      let top : s.top + top_count w.kind w.below ≡ next.top = ap (λ (n : ℕ). s.top + n) (count_map name v.kind v.below ∙ sym (counts_same v)) in
      let more : at + entry_count u ≡ at + 1 + size v.below = omega arith in
      let first_rows = rows_in u local at in
      let many = rows_in-length u local at in
      let behind_rows : drop (at + 1 + size v.below) (rows_of raw) ≡ rows_from us (local + 1) (at + 1 + size v.below) =
      ap (λ (n : ℕ). drop n (rows_of raw)) (sym more) ∙ drop_more (rows_of raw) at (entry_count u) ∙ ap (drop (entry_count u)) rows ∙ drop_at first_rows (rows_from us (local + 1) (at + entry_count u))
      (entry_count u) many ∙ ap (rows_from us (local + 1)) more in
      let parted : drop j all ≡ own ++ (others ++ from.0) = from.1 ∙ append_assoc own others from.0 in
      let long = many_spaces s.space at v in
      let rest : Rest (j + spaces_of_list is_space (below_root v)) others = (
        from.0,
        drop_more all j (spaces_of_list is_space (below_root v)) ∙ ap (drop (spaces_of_list is_space (below_root v))) parted
            ∙ drop_at own (others ++ from.0) (spaces_of_list is_space (below_root v)) long,
      ) in
      two_append LeadsIn (entries_of s.unit s.space at v.kind v.below) (all_tops is_space next (at + 1 + size v.below) (map below_root said)) (row_tops (row_below file s.unit s.top w w.kind))
      (tops_from (suc s.unit) (s.top + top_count w.kind w.below) (filed said))
      (unit_chain u v local at s.unit s.top s.space j (rows_from us (local + 1) (at + entry_count u)) unit_here.0 counted h.0.below num rows v.kind (others ++ from.0, parted))
      (subst (AllTwo LeadsIn (all_tops is_space next (at + 1 + size v.below) (map below_root said))) (λ m. tops_from (one m) (sym top m) (filed said))
      (units_chain next (at + 1 + size v.below) (local + 1) (j + spaces_of_list is_space (below_root v)) us said h.1 unit_here.1 behind_rows (omega (arith, counted)) (omega (arith, num)) rest))

pub leads_out : (l : Limits) (bytes : List ℕ) (raw : List RawUnit) (doc : Doc ℕ) (s : Starts) (file : ℕ) (name : ℕ → EntryName) (k : ℕ) (x : TopEntry) (t : Top) → file_meaning l bytes ≡ Ok (raw, doc)
    → slice_get (all_tops is_space s 0 (map below_root doc.units)) k ≡ Some x → slice_get (tops_from s.unit s.top (map (in_file file) (map (unit_map name) doc.units))) k ≡ Some t
    → LeadsOut raw (around_of bytes raw) s (all_spaces is_space s 0 (map below_root doc.units)) x t
leads_out l bytes raw doc s file name k x t reads e f =
    let r = ((file_agrees l bytes).ok (raw, doc)).0 reads in
    let all = all_spaces is_space s 0 (map below_root doc.units) in
    let none : s.space ≡ s.space + 0 = omega arith in
    let first : s.unit ≡ s.unit + 0 = omega arith in
    two_at (LeadsOut raw (around_of bytes raw) s all) (all_tops is_space s 0 (map below_root doc.units)) (tops_from s.unit s.top (map (in_file file) (map (unit_map name) doc.units)))
    (units_chain raw (around_of bytes raw) s all file name s 0 0 0 raw doc.units r.means refl refl first none ([], sym (append-nil all))) k x t e f
