-- What is built of all units is what the definitions say of the units that they mean; and it shows their names.
use Rattle.std.proofs.Common.{◌≡◌, ℕ, zero, suc, ◌+◌, ◌≤◌, Bool, true, false, List, [], ◌∷◌, ◌++◌, length, map, Some, slice_get, refl, sym, ap, subst, ◌∙◌, arith}
use Rattle.std.proofs.lemmas.List.{append-nil, append_assoc, length-map}
use Rattle.dwz_def_reading.specs.Trees.{size}
use Rattle.dwz_def_reading.specs.Units.{CompileUnit, PartialUnit, RawKind, RawUnit, TypeUnit, entry_count}
use Rattle.dwz_def_reading.specs.Documents.{DwUnit, Kind, Node}
use Rattle.dwz_def_reading.specs.Files.{place_if_whole, unit_places}
use Rattle.dwz_def_reading.specs.Meanings.{Around, MeanUnits, MeaningContext, MeansKind, MeansUnit, scope_of}
use Rattle.dwz_graph_resolve.proofs.UnitStarts.{starts as places_of_units}
use Rattle.dwz_def_reading.specs.Lists.{Each}
use Rattle.dwz_def_tops.specs.Seen.{IsPartial}
use Rattle.dwz_def_tops.specs.Spots.{EntryName, top_count}
use Rattle.dwz_graph.specs.declared.index.Starts.{Starts}
use Rattle.dwz_graph.specs.declared.index.Step.{Step}
use Rattle.dwz_graph.specs.Building.{nothing_yet, with_below, with_steps, with_unit, with_units}
use Rattle.dwz_graph.specs.Index.{HasTops, Index, IsIndex, Shows}
use Rattle.dwz_graph.specs.Names.{names_from}
use Rattle.dwz_graph.specs.Steps.{Below, all_spaces, all_steps, all_tops, below_root, is_compile, is_space, space_entries, spaces_of_list, starts_behind, step, steps_among, steps_below, steps_of_list}
use Rattle.dwz_graph.specs.Steps.{top_entries, tops_of_list}
use Rattle.dwz_graph.proofs.AmongLemmas.{spaces_many, tops_many}
use Rattle.dwz_graph.proofs.ListMeans.{list_means, many_more, means_below, means_size, next_space, next_top}
use Rattle.dwz_graph.proofs.ShowLemmas.{AllShow, At, at_left, at_right, show_append, unit_many, unit_names, unit_shows}
use Rattle.dwz_graph.proofs.TopLemmas.{counts_same}

-- ---- with what a unit adds

abbrev added : (unit first : ℕ) → Below (Node ℕ) → Index → Index
added unit first b x = record {
  steps = x.steps ++ steps_of_list is_space (next_top x) first b;
  tops = x.tops ++ top_entries is_space unit (next_space x) first b;
  spaces = x.spaces ++ space_entries is_space (next_space x) first b;
  starts = x.starts;
}

module _ (around : Around ℕ) where
  unit_means : (unit first : ℕ) (u : RawUnit) (v : DwUnit ℕ) (x : Index) → MeansUnit around u v → with_unit unit first u x ≡ added unit first (below_root v) x
  unit_means unit first u v x h = by u.kind v.kind h.kind where
    s : MeaningContext ℕ
    s = scope_of around u

    root : Step
    root = step first 0 0

    of_kind : Kind ℕ → Index
    of_kind kind = added unit first (record { compile = is_compile kind; list = v.below }) x

    plain : with_steps (steps_below 0 first 0 (first + 1) u.below) (with_steps (root ∷ []) x)
        ≡ record { steps = x.steps ++ (root ∷ steps_below 0 first 0 (first + 1) v.below); tops = x.tops ++ []; spaces = x.spaces ++ []; starts = x.starts }
    plain =
        let steps : (x.steps ++ root ∷ []) ++ steps_below 0 first 0 (first + 1) u.below ≡ x.steps ++ (root ∷ steps_below 0 first 0 (first + 1) v.below)
        = append_assoc x.steps (root ∷ []) (steps_below 0 first 0 (first + 1) u.below) ∙ ap (λ (w : List Step). x.steps ++ (root ∷ w)) (means_below s 0 first 0 (first + 1) u.below v.below h.below) in
        let tops = sym (append-nil x.tops) in
        let spaces = sym (append-nil x.spaces) in
        (λ j. record { steps = steps j; tops = tops j; spaces = spaces j; starts = x.starts })

    by : (k : RawKind) (kind : Kind ℕ) → MeansKind s k kind → with_below unit first k u.below (with_steps (root ∷ []) x) ≡ of_kind kind
    by CompileUnit kind e =
        list_means s unit 0 first 0 (first + 1) u.below v.below (with_steps (root ∷ []) x) h.below
        ∙ (λ j. record {
          steps = append_assoc x.steps (root ∷ []) (steps_among is_space (next_top x) first 0 (first + 1) v.below) j;
          tops = x.tops ++ top_entries is_space unit (next_space x) first (record { compile = true; list = v.below });
          spaces = x.spaces ++ space_entries is_space (next_space x) first (record { compile = true; list = v.below });
          starts = x.starts;
        })
        ∙ ap of_kind (sym e)
    by (TypeUnit signature type_offset) kind e = plain ∙ ap of_kind (sym e.1)
    by PartialUnit kind e = plain ∙ ap of_kind (sym e)

  -- ---- with what all units add

  abbrev starts_at : ℕ → Index → Starts
  starts_at unit x = record { unit = unit; top = next_top x; space = next_space x }

  abbrev all_added : (unit first : ℕ) → List (DwUnit ℕ) → Index → Index
  all_added unit first said x = record {
    steps = x.steps ++ all_steps is_space (starts_at unit x) first (map below_root said);
    tops = x.tops ++ all_tops is_space (starts_at unit x) first (map below_root said);
    spaces = x.spaces ++ all_spaces is_space (starts_at unit x) first (map below_root said);
    starts = x.starts;
  }

  tops_number : (unit k first : ℕ) (b : Below (Node ℕ)) → length (top_entries is_space unit k first b) ≡ tops_of_list is_space b
  tops_number unit k first b = by b.compile where
    by : (c : Bool) → length (top_entries is_space unit k first (record { compile = c; list = b.list })) ≡ tops_of_list is_space (record { compile = c; list = b.list })
    by true = tops_many is_space unit 0 k (first + 1) b.list
    by false = refl

  spaces_number : (k first : ℕ) (b : Below (Node ℕ)) → length (space_entries is_space k first b) ≡ spaces_of_list is_space b
  spaces_number k first b = by b.compile where
    by : (c : Bool) → length (space_entries is_space k first (record { compile = c; list = b.list })) ≡ spaces_of_list is_space (record { compile = c; list = b.list })
    by true = spaces_many is_space 0 k (first + 1) b.list
    by false = refl

  units_mean : (unit first : ℕ) (raw : List RawUnit) (said : List (DwUnit ℕ)) (x : Index) → MeanUnits around raw said → with_units unit first raw x ≡ all_added unit first said x
  unfolding with_units all_steps all_tops all_spaces
  units_mean unit first [] [] x h =
      let steps = sym (append-nil x.steps) in
      let tops = sym (append-nil x.tops) in
      let spaces = sym (append-nil x.spaces) in
      (λ j. record { steps = steps j; tops = tops j; spaces = spaces j; starts = x.starts })
  units_mean unit first [] (v ∷ said) x h = absurd h
  units_mean unit first (u ∷ raw) [] x h = absurd h
  units_mean unit first (u ∷ raw) (v ∷ said) x h =
      let b = below_root v in
      let y = added unit first b x in
      let size_is = means_size (scope_of around u) u.below v.below h.0.below in
      let next : first + entry_count u ≡ first + 1 + size v.below = omega arith in
      let top : next_top y ≡ next_top x + tops_of_list is_space b = many_more x.starts.top x.tops (top_entries is_space unit (next_space x) first b) (tops_of_list is_space b)
      (tops_number unit (next_space x) first b) in
      let space : next_space y ≡ next_space x + spaces_of_list is_space b = many_more x.starts.space x.spaces (space_entries is_space (next_space x) first b) (spaces_of_list is_space b)
      (spaces_number (next_space x) first b) in
      let starts : starts_at (unit + 1) y ≡ starts_behind is_space (starts_at unit x) b = (λ j. record { unit = unit + 1; top = top j; space = space j }) in
      let rest = map below_root said in
      ap (with_units (unit + 1) (first + entry_count u) raw) (unit_means unit first u v x h.0)
      ∙ units_mean (unit + 1) (first + entry_count u) raw said y h.1
      ∙ (λ j. record {
        steps = (x.steps ++ steps_of_list is_space (next_top x) first b) ++ all_steps is_space (starts j) (next j) rest;
        tops = (x.tops ++ top_entries is_space unit (next_space x) first b) ++ all_tops is_space (starts j) (next j) rest;
        spaces = (x.spaces ++ space_entries is_space (next_space x) first b) ++ all_spaces is_space (starts j) (next j) rest;
        starts = x.starts;
      })
      ∙ (λ j. record {
        steps = append_assoc x.steps (steps_of_list is_space (next_top x) first b) (all_steps is_space (starts_behind is_space (starts_at unit x) b) (first + 1 + size v.below) rest) j;
        tops = append_assoc x.tops (top_entries is_space unit (next_space x) first b) (all_tops is_space (starts_behind is_space (starts_at unit x) b) (first + 1 + size v.below) rest) j;
        spaces = append_assoc x.spaces (space_entries is_space (next_space x) first b) (all_spaces is_space (starts_behind is_space (starts_at unit x) b) (first + 1 + size v.below) rest) j;
        starts = x.starts;
      })

  -- from nothing on
  abbrev pub whole : Starts → List (DwUnit ℕ) → Index
  whole s said = record {
    steps = all_steps is_space s 0 (map below_root said);
    tops = all_tops is_space s 0 (map below_root said);
    spaces = all_spaces is_space s 0 (map below_root said);
    starts = s;
  }

  pub all_mean : (s : Starts) (raw : List RawUnit) (said : List (DwUnit ℕ)) → MeanUnits around raw said → with_units s.unit 0 raw (nothing_yet s) ≡ whole s said
  all_mean s raw said h =
      let top : s.top + 0 ≡ s.top = omega arith in
      let space : s.space + 0 ≡ s.space = omega arith in
      let same : starts_at s.unit (nothing_yet s) ≡ s = (λ j. record { unit = s.unit; top = top j; space = space j }) in
      let rest = map below_root said in
      units_mean s.unit 0 raw said (nothing_yet s) h
      ∙ (λ j. record { steps = all_steps is_space (same j) 0 rest; tops = all_tops is_space (same j) 0 rest; spaces = all_spaces is_space (same j) 0 rest; starts = s })

  pub has_tops : (s : Starts) (raw : List RawUnit) (said : List (DwUnit ℕ)) (x : Index) → MeanUnits around raw said → x ≡ with_units s.unit 0 raw (nothing_yet s) → HasTops s said x
  has_tops s raw said x h e =
      let same = e ∙ all_mean s raw said h in
      record {
        starts_are = ap (λ (w : Index). w.starts) same;
        steps_are = ap (λ (w : Index). w.steps) same;
        tops_are = ap (λ (w : Index). w.tops) same;
        spaces_are = ap (λ (w : Index). w.spaces) same;
      }

  -- ---- no unit is partial

  places_few : (raw : List RawUnit) → length (unit_places raw) ≤ length raw
  unfolding unit_places
  places_few [] = omega arith
  places_few (u ∷ raw) = by u.kind (places_few raw) where
    by : (k : RawKind) → length (unit_places raw) ≤ length raw → length (place_if_whole k u.at ++ unit_places raw) ≤ suc (length raw)
    by CompileUnit h = omega arith
    by (TypeUnit signature type_offset) h = omega arith
    by PartialUnit h = omega arith

  abbrev pub NotPartial : DwUnit ℕ → Type 0
  NotPartial v = IsPartial v.kind → ⊥

  pub none_partial : (raw : List RawUnit) (said : List (DwUnit ℕ)) → MeanUnits around raw said → length (unit_places raw) ≡ length raw → Each NotPartial said
  unfolding unit_places
  none_partial [] [] h e = tt
  none_partial [] (v ∷ said) h e = absurd h
  none_partial (u ∷ raw) [] h e = absurd h
  none_partial (u ∷ raw) (v ∷ said) h e = by u.kind v.kind h.0.kind (places_few raw) (λ p. none_partial raw said h.1 p) e where
    by : (k : RawKind) (kind : Kind ℕ) → MeansKind (scope_of around u) k kind → length (unit_places raw) ≤ length raw → (length (unit_places raw) ≡ length raw → Each NotPartial said)
        → length (place_if_whole k u.at ++ unit_places raw) ≡ suc (length raw) → (IsPartial kind → ⊥) × Each NotPartial said
    by CompileUnit kind is few rest many = ((λ p. subst IsPartial is p), rest (omega arith))
    by (TypeUnit signature type_offset) kind is few rest many = ((λ p. subst IsPartial is.1 p), rest (omega arith))
    by PartialUnit kind is few rest many = absurd (omega arith)

-- ---- names

abbrev AreWhole : List (DwUnit ℕ) → Type 0
AreWhole said = Each (λ v. IsPartial v.kind → ⊥) said

all_show : (names : List EntryName) (s : Starts) (first : ℕ) (said : List (DwUnit ℕ)) → AreWhole said → At names first (names_from s.unit s.top said)
    → AllShow names first (all_steps is_space s first (map below_root said)) (names_from s.unit s.top said)
unfolding names_from all_steps
all_show names s first [] h at = tt
all_show names s first (v ∷ said) h at =
    let own = unit_names s.unit s.top v in
    let others = names_from (suc s.unit) (s.top + top_count v.kind v.below) said in
    let next = starts_behind is_space s (below_root v) in
    let one : s.unit + 1 ≡ suc s.unit = omega arith in
    let same : names_from next.unit next.top said ≡ others = (λ j. names_from (one j) (s.top + counts_same v j) said) in
    let many : length own ≡ 1 + size v.below = omega (arith, unit_many s.unit s.top v h.0) in
    let behind : first + (1 + size v.below) ≡ first + 1 + size v.below = omega arith in
    let rest : At names (first + 1 + size v.below) others = subst (λ (n : ℕ). At names n others) behind (at_right names first (1 + size v.below) own others many at) in
    show_append names first (first + 1 + size v.below) (steps_of_list is_space s.top first (below_root v)) (all_steps is_space next (first + 1 + size v.below) (map below_root said)) own others
    (unit_shows names s.unit s.top first v h.0 (at_left names first own others at))
    (omega (arith, many))
    (subst (AllShow names (first + 1 + size v.below) (all_steps is_space next (first + 1 + size v.below) (map below_root said))) same
    (all_show names next (first + 1 + size v.below) said h.1 (subst (At names (first + 1 + size v.below)) (sym same) rest)))

show_many : (names : List EntryName) (i : ℕ) (steps : List Step) (part : List EntryName) → AllShow names i steps part → length steps ≡ length part
show_many names i [] [] h = refl
show_many names i [] (s ∷ part) h = absurd h
show_many names i (x ∷ steps) [] h = absurd h
show_many names i (x ∷ steps) (s ∷ part) h = ap suc (show_many names (i + 1) steps part h.1)

show_at : (names : List EntryName) (i : ℕ) (steps : List Step) (part : List EntryName) → AllShow names i steps part → (k : ℕ) (x : Step) (s : EntryName) → slice_get steps k ≡ Some x
    → slice_get part k ≡ Some s
    → Shows names (i + k) x s
show_at names i [] [] h k x s e f = absurd cc
show_at names i [] (t ∷ part) h k x s e f = absurd h
show_at names i (y ∷ steps) [] h k x s e f = absurd h
show_at names i (y ∷ steps) (t ∷ part) h zero x s e f =
    let a : y ≡ x = cc in
    let b : t ≡ s = cc in
    let n : i ≡ i + 0 = omega arith in
    subst (λ (m : ℕ). Shows names m x s) n (subst (Shows names i x) b (subst (λ (w : Step). Shows names i w t) a h.0))
show_at names i (y ∷ steps) (t ∷ part) h (suc k) x s e f =
    let n : i + 1 + k ≡ i + suc k = omega arith in
    subst (λ (m : ℕ). Shows names m x s) n (show_at names (i + 1) steps part h.1 k x s e f)

pub places_number : (raw : List RawUnit) → unit_places raw ≡ places_of_units raw → length (unit_places raw) ≡ length raw
places_number raw is = ap (λ (w : List ℕ). length w) is ∙ length-map raw (λ (u : RawUnit). u.at)

pub is_index : (around : Around ℕ) (s : Starts) (raw : List RawUnit) (said : List (DwUnit ℕ)) (x : Index) → unit_places raw ≡ places_of_units raw → MeanUnits around raw said
    → x ≡ with_units s.unit 0 raw (nothing_yet s) → IsIndex (names_from s.unit s.top said) x
is_index around s raw said x whole_is h e =
    let names = names_from s.unit s.top said in
    let same : x.steps ≡ all_steps is_space s 0 (map below_root said) = ap (λ (w : Index). w.steps) (e ∙ all_mean around s raw said h) in
    let shows = all_show names s 0 said (none_partial around raw said h (places_number raw whole_is)) (record { after = []; rest = sym (append-nil names) }) in
    let mine : AllShow names 0 x.steps names = subst (λ (w : List Step). AllShow names 0 w names) (sym same) shows in
    record {
      len = show_many names 0 x.steps names mine;
      each = λ i t name found is. (let n : 0 + i ≡ i = omega arith in subst (λ (m : ℕ). Shows names m t name) n (show_at names 0 x.steps names mine i t name found is));
    }
