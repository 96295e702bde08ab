-- The spaces of a file's entries, in order, stand at the entries that its index gives them: by induction over sibling lists, then over units.
use Rattle.std.proofs.Common.{◌≡◌, ℕ, suc, ◌+◌, true, false, List, [], ◌∷◌, ◌++◌, map, drop, Option, Some, None, Ok, slice_get, refl, sym, ap, subst, ◌∙◌, arith}
use Rattle.std.specs.Option.{is_some}
use Rattle.std.proofs.lemmas.List.{append-nil, append_assoc}
use Rattle.dwz_def_reading.specs.Entries.{RawEntry, root_position}
use Rattle.dwz_def_reading.specs.Trees.{End, Entry, Forest, Position, behind, first_below, size}
use Rattle.dwz_def_reading.specs.Units.{RawUnit, entry_count}
use Rattle.dwz_def_reading.proofs.ListFacts.{drop_first}
use Rattle.dwz_def_reading.specs.Documents.{Compile, DwUnit, Entries, Kind, Node, OfType, Partial, entries_map, kind_map, node_map, unit_map}
use Rattle.dwz_def_reading.specs.Meanings.{Around, MeanUnits, MeaningContext, scope_of}
use Rattle.dwz_def_reading.specs.Meant.{entries_meaning, node_meaning}
use Rattle.dwz_def_reading.proofs.MeaningUnits.{entries_agree}
use Rattle.dwz_def_tops.specs.Spaces.{space_text}
use Rattle.dwz_def_tops.proofs.SpaceLemmas.{text_map}
use Rattle.dwz_def_tops.specs.Spots.{EntryName, in_file}
use Rattle.dwz_graph.proofs.TopThere.{left_behind}
use Rattle.dwz_graph.proofs.TreeLemmas.{Parts, no_more, parts, same_size}
use Rattle.dwz_graph.specs.declared.index.SpaceEntry.{SpaceEntry}
use Rattle.dwz_graph.specs.declared.index.Starts.{Starts}
use Rattle.dwz_graph.specs.Steps.{all_spaces, below_root, is_compile, is_space, space_entries, space_entry, spaces_among, spaces_by, starts_behind}
use Rattle.dwz_graph.proofs.AmongLemmas.{spaces_space, spaces_top}
use Rattle.dwz_unit.specs.Rows.{EntryRow, rows_below, rows_from, rows_in, rows_of}
use Rattle.dwz_unit.proofs.RowLemmas.{shown-length}
use Rattle.dwz_unit.proofs.ShownLemmas.{rows_in-length}
use Rattle.dwz_layout_order.specs.Shown.{Pairs}
use Rattle.dwz_layout_order.specs.Spaces.{spaces_below, spaces_of, spaces_under}
use Rattle.dwz_layout_order.proofs.ChainShown.{pairs_append}
use Rattle.dwz_layout_order.proofs.RowLemmas.{under_space, under_top}

-- the space that is given that entry is this one
pub record IsHere (s : MeaningContext ℕ) (name : ℕ → EntryName) (rows : List EntryRow) (unit : ℕ) (x : SpaceEntry) (e : Node EntryName) : Type 0 where
  pub row : EntryRow
  pub d : Node ℕ
  pub text : List ℕ
  pub found : slice_get rows x.entry ≡ Some row
  pub of_unit : row.unit ≡ unit
  pub means : node_meaning s row.entry ≡ Ok d
  pub is_space : space_text d ≡ Some text
  pub node : e ≡ node_map name d

-- ---- the rows of an entry, those below it and those behind it

record SplitRow (rows : List EntryRow) (e : RawEntry) (c n : Forest RawEntry) (unit : ℕ) (from : Position) (after : List EntryRow) : Type 0 where
  pub row : EntryRow
  pub entry : row.entry ≡ e
  pub of_unit : row.unit ≡ unit
  pub found : slice_get rows from.before ≡ Some row
  pub below : drop (first_below from).before rows ≡ rows_below c unit (first_below from) ++ (rows_below n unit (behind from c) ++ after)
  pub later : drop (behind from c).before rows ≡ rows_below n unit (behind from c) ++ after

split : (rows : List EntryRow) (e : RawEntry) (c n : Forest RawEntry) (unit : ℕ) (from : Position) (after : List EntryRow) → drop from.before rows ≡ rows_below (Entry e c n) unit from ++ after
    → SplitRow rows e c n unit from after
unfolding rows_below
split rows e c n unit from after h =
    let row : EntryRow = record { entry = e; unit = unit; depth = from.depth; end = (behind from c).before } in
    let inside = rows_below c unit (first_below from) in
    let others = rows_below n unit (behind from c) in
    let f = drop_first rows from.before row ((inside ++ others) ++ after) h in
    let below = f.1 ∙ append_assoc inside others after in
    let long = shown-length c unit (first_below from) in
    record {
      row = row;
      entry = refl;
      of_unit = refl;
      found = f.0;
      below = below;
      later = left_behind rows (from.before + 1) (behind from c).before inside (others ++ after) below (omega (arith, long));
    }

-- ---- a sibling list

module _ (s : MeaningContext ℕ) (name : ℕ → EntryName) (rows : List EntryRow) (unit : ℕ) where
  abbrev pub InStep : List SpaceEntry → Entries EntryName → Type 0
  InStep xs g = Pairs (IsHere s name rows unit) xs (spaces_under g)

  by_parts : (e : RawEntry) (c n : Forest RawEntry) (g : Entries ℕ) (x : Parts s e c n g) (from : Position) (after : List EntryRow) (outer k : ℕ) → SplitRow rows e c n unit from after
      → ((o j : ℕ) → InStep (spaces_among is_space o j (from.before + 1) x.below) (entries_map name x.below))
      → ((j : ℕ) → InStep (spaces_among is_space outer j (from.before + 1 + size x.below) x.next) (entries_map name x.next))
      → (o : Option (List ℕ)) → space_text x.d ≡ o
      → InStep (spaces_among is_space outer k from.before (Entry x.d x.below x.next)) (Entry (node_map name x.d) (entries_map name x.below) (entries_map name x.next))
  by_parts e c n g x from after outer k z deeper further None is =
      let plain : is_space x.d ≡ false = ap (λ (o : Option (List ℕ)). is_some o) is in
      let named : space_text (node_map name x.d) ≡ None = text_map name x.d ∙ is in
      subst (λ (w : List SpaceEntry). Pairs (IsHere s name rows unit) w (spaces_under (Entry (node_map name x.d) (entries_map name x.below) (entries_map name x.next))))
      (sym (spaces_top is_space x.d x.below x.next outer k from.before plain))
      (subst (λ (w : List (Node EntryName)). Pairs (IsHere s name rows unit) (spaces_among is_space outer k (from.before + 1 + size x.below) x.next) w)
      (sym (under_top (node_map name x.d) (entries_map name x.below) (entries_map name x.next) named)) (further k))
  by_parts e c n g x from after outer k z deeper further (Some text) is =
      let space : is_space x.d ≡ true = ap (λ (o : Option (List ℕ)). is_some o) is in
      let named : space_text (node_map name x.d) ≡ Some text = text_map name x.d ∙ is in
      let inside = spaces_among is_space (suc k) (suc k) (from.before + 1) x.below in
      let others = spaces_among is_space outer (suc k + spaces_by is_space x.below) (from.before + 1 + size x.below) x.next in
      let below = spaces_under (entries_map name x.below) in
      let next = spaces_under (entries_map name x.next) in
      let own : IsHere s name rows unit (space_entry from.before outer) (node_map name x.d) = record {
        row = z.row;
        d = x.d;
        text = text;
        found = z.found;
        of_unit = z.of_unit;
        means = ap (node_meaning s) z.entry ∙ x.node;
        is_space = is;
        node = refl;
      } in
      let all : Pairs (IsHere s name rows unit) (space_entry from.before outer ∷ (inside ++ others)) (node_map name x.d ∷ (below ++ next)) =
      (own, pairs_append (IsHere s name rows unit) inside others below next (deeper (suc k) (suc k)) (further (suc k + spaces_by is_space x.below))) in
      subst (λ (w : List SpaceEntry). Pairs (IsHere s name rows unit) w (spaces_under (Entry (node_map name x.d) (entries_map name x.below) (entries_map name x.next))))
      (sym (spaces_space is_space x.d x.below x.next outer k from.before space))
      (subst (λ (w : List (Node EntryName)). Pairs (IsHere s name rows unit) (space_entry from.before outer ∷ (inside ++ others)) w)
      (sym (under_space (node_map name x.d) (entries_map name x.below) (entries_map name x.next) text named)) all)

  pub in_list : (f : Forest RawEntry) (g : Entries ℕ) (from : Position) (after : List EntryRow) (outer k : ℕ) → entries_meaning s f ≡ Ok g → drop from.before rows ≡ rows_below f unit from ++ after
      → InStep (spaces_among is_space outer k from.before g) (entries_map name g)
  unfolding entries_map spaces_among spaces_under
  in_list End g from after outer k means h =
      subst (λ (w : Entries ℕ). InStep (spaces_among is_space outer k from.before w) (entries_map name w)) (no_more s g means) tt
  in_list (Entry e c n) g from after outer k means h =
      let x = parts s e c n g means in
      let z = split rows e c n unit from after h in
      let same = same_size s c x.below x.of_below in
      let place : from.before + 1 + size c ≡ from.before + 1 + size x.below = ap (λ (w : ℕ). from.before + 1 + w) (sym same) in
      subst (λ (w : Entries ℕ). InStep (spaces_among is_space outer k from.before w) (entries_map name w)) x.is
      (by_parts e c n g x from after outer k z
      (λ o j. in_list c x.below (first_below from) (rows_below n unit (behind from c) ++ after) o j x.of_below z.below)
      (λ j. subst (λ (w : ℕ). InStep (spaces_among is_space outer j w x.next) (entries_map name x.next)) place (in_list n x.next (behind from c) after outer j x.of_next z.later))
      (space_text x.d) refl)

-- ---- the units of a file

-- the space that is given that entry of the file is this one
pub record IsInFile (around : Around ℕ) (name : ℕ → EntryName) (raw : List RawUnit) (x : SpaceEntry) (e : Node EntryName) : Type 0 where
  pub row : EntryRow
  pub unit : RawUnit
  pub d : Node ℕ
  pub text : List ℕ
  pub found : slice_get (rows_of raw) x.entry ≡ Some row
  pub is_unit : slice_get raw row.unit ≡ Some unit
  pub means : node_meaning (scope_of around unit) row.entry ≡ Ok d
  pub is_space : space_text d ≡ Some text
  pub node : e ≡ node_map name d

pub pairs_more : {X Y A B : Type 0} (P : X → Y → Type 0) (Q : A → B → Type 0) (f : X → A) (g : Y → B) (xs : List X) (ys : List Y) → ((x : X) (y : Y) → P x y → Q (f x) (g y)) → Pairs P xs ys
    → Pairs Q (map f xs) (map g ys)
pairs_more P Q f g [] [] h k = tt
pairs_more P Q f g [] (y ∷ ys) h k = absurd k
pairs_more P Q f g (x ∷ xs) [] h k = absurd k
pairs_more P Q f g (x ∷ xs) (y ∷ ys) h k = (h x y k.0, pairs_more P Q f g xs ys h k.1)

pairs_same : {X Y : Type 0} (P Q : X → Y → Type 0) (xs : List X) (ys : List Y) → ((x : X) (y : Y) → P x y → Q x y) → Pairs P xs ys → Pairs Q xs ys
pairs_same P Q [] [] h k = tt
pairs_same P Q [] (y ∷ ys) h k = absurd k
pairs_same P Q (x ∷ xs) [] h k = absurd k
pairs_same P Q (x ∷ xs) (y ∷ ys) h k = (h x y k.0, pairs_same P Q xs ys h k.1)

module _ (around : Around ℕ) (name : ℕ → EntryName) (raw : List RawUnit) where
  below_the_root : (u : RawUnit) (j first : ℕ) (rest : List EntryRow) → drop first (rows_of raw) ≡ rows_in u j first ++ rest
      → drop (first + 1) (rows_of raw) ≡ rows_below u.below j (first_below (root_position first)) ++ rest
  unfolding rows_below
  below_the_root u j first rest h =
      let p = root_position first in
      let row : EntryRow = record { entry = u.root; unit = j; depth = p.depth; end = (behind p u.below).before } in
      let f = drop_first (rows_of raw) first row ((rows_below u.below j (first_below p) ++ []) ++ rest) h in
      f.1 ∙ ap (λ (w : List EntryRow). w ++ rest) (append-nil (rows_below u.below j (first_below p)))

  in_unit : (u : RawUnit) (v : DwUnit ℕ) (j k first : ℕ) (rest : List EntryRow) → slice_get raw j ≡ Some u → entries_meaning (scope_of around u) u.below ≡ Ok v.below
      → drop first (rows_of raw) ≡ rows_in u j first ++ rest
      → Pairs (IsInFile around name raw) (space_entries is_space k first (below_root v)) (spaces_below (kind_map name v.kind) (entries_map name v.below))
  in_unit u v j k first rest is_unit means h = by v.kind where
    more : (x : SpaceEntry) (e : Node EntryName) → IsHere (scope_of around u) name (rows_of raw) j x e → IsInFile around name raw x e
    more x e w = record {
      row = w.row;
      unit = u;
      d = w.d;
      text = w.text;
      found = w.found;
      is_unit = ap (slice_get raw) w.of_unit ∙ is_unit;
      means = w.means;
      is_space = w.is_space;
      node = w.node;
    }

    by : (kind : Kind ℕ)
        → Pairs (IsInFile around name raw) (space_entries is_space k first (record { compile = is_compile kind; list = v.below })) (spaces_below (kind_map name kind) (entries_map name v.below))
    by Compile =
        pairs_same (IsHere (scope_of around u) name (rows_of raw) j) (IsInFile around name raw) (spaces_among is_space 0 k (first + 1) v.below) (spaces_under (entries_map name v.below)) more
        (in_list (scope_of around u) name (rows_of raw) j u.below v.below (first_below (root_position first)) rest 0 k means (below_the_root u j first rest h))
    by (OfType signature main) = tt
    by Partial = tt

  pub in_units : (file : ℕ) (us : List RawUnit) (vs : List (DwUnit ℕ)) (j first : ℕ) (s : Starts) → MeanUnits around us vs → drop j raw ≡ us → drop first (rows_of raw) ≡ rows_from us j first
      → Pairs (IsInFile around name raw) (all_spaces is_space s first (map below_root vs)) (spaces_of (map (in_file file) (map (unit_map name) vs)))
  unfolding all_spaces spaces_of rows_from
  in_units file [] [] j first s means at rows = tt
  in_units file [] (v ∷ vs) j first s means at rows = absurd means
  in_units file (u ∷ us) [] j first s means at rows = absurd means
  in_units file (u ∷ us) (v ∷ vs) j first s means at rows =
      let below = ((entries_agree (scope_of around u) u.below).ok v.below).1 means.0.below in
      let same = same_size (scope_of around u) u.below v.below below in
      let g = drop_first raw j u us at in
      let rest = rows_from us (j + 1) (first + entry_count u) in
      let long = rows_in-length u j first in
      let later = left_behind (rows_of raw) first (first + entry_count u) (rows_in u j first) rest rows (ap (λ (w : ℕ). first + w) long) in
      let place : first + entry_count u ≡ first + 1 + size v.below = omega (arith, same) in
      let next = starts_behind is_space s (below_root v) in
      let more = in_units file us vs (j + 1) (first + entry_count u) next means.1 g.1 later in
      pairs_append (IsInFile around name raw) (space_entries is_space s.space first (below_root v)) (all_spaces is_space next (first + 1 + size v.below) (map below_root vs))
      (spaces_below (kind_map name v.kind) (entries_map name v.below)) (spaces_of (map (in_file file) (map (unit_map name) vs)))
      (in_unit u v j s.space first rest g.0 below rows)
      (subst (λ (w : ℕ). Pairs (IsInFile around name raw) (all_spaces is_space next w (map below_root vs)) (spaces_of (map (in_file file) (map (unit_map name) vs)))) place more)
