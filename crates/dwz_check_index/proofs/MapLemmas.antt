-- Names, tops, roots and spaces with other places: by induction over entries and units.
use Rattle.std.proofs.Common.{◌≡◌, ℕ, suc, ◌+◌, List, [], ◌∷◌, ◌++◌, length, map, Option, Some, None, refl, sym, ap, ◌∙◌, arith}
use Rattle.std.proofs.lemmas.List.{length-map, map-append}
use Rattle.dwz_def_reading.specs.Documents.{Compile, DwUnit, Entries, Kind, Node, OfType, Partial, entries_map, kind_map, node_map, unit_map}
use Rattle.dwz_def_reading.specs.Trees.{End, Entry}
use Rattle.dwz_def_tops.specs.Spaces.{space_text, tops_under}
use Rattle.dwz_def_tops.proofs.SpaceLemmas.{text_map, under_count}
use Rattle.dwz_def_cross.specs.Tops.{CrossTop}
use Rattle.dwz_def_check.specs.CrossLabels.{cross_top_map}
use Rattle.dwz_def_check.specs.CrossNames.{AtPath, CrossName, PartRoot, PartSpace, WholeRoot, WholeSpace, cross_names_below, cross_names_from, cross_names_under, cross_tops, cross_tops_in, cross_unit_names, next_whole, unit_tops}
use Rattle.dwz_def_check.specs.CrossNodes.{lone_entries, lone_of, spaces_in}
use Rattle.dwz_def_check.specs.CrossLists.{numbered_units}
use Rattle.dwz_check_index.specs.declared.index.UnitStart.{UnitStart}
use Rattle.dwz_check_index.specs.Index.{start_of}
use Rattle.dwz_check_index.specs.Mapped.{AreMapped, LaterLaw, placed_name}

module _ {P Q : Type 0} (f : P → Q) where
  -- two lists one behind the other
  both : {X Y : Type 0} (g : X → Y) (a' b' : List Y) (a b : List X) → a' ≡ map g a → b' ≡ map g b → a' ++ b' ≡ map g (a ++ b)
  both g a' b' a b p q = (λ j. p j ++ q j) ∙ sym (map-append g a b)

  -- ---- names

  below_map : (top : ℕ) (path : List ℕ) (i : ℕ) (g : Entries P) → cross_names_below top path i (entries_map f g) ≡ map (placed_name f) (cross_names_below top path i g)
  unfolding cross_names_below entries_map
  below_map top path i End = refl
  below_map top path i (Entry e c n) =
      ap (λ (w : List (Q × CrossName)). (f e.at, AtPath top (i ∷ path)) ∷ w)
      (both (placed_name f) (cross_names_below top (i ∷ path) 0 (entries_map f c)) (cross_names_below top path (suc i) (entries_map f n)) (cross_names_below top (i ∷ path) 0 c)
      (cross_names_below top path (suc i) n) (below_map top (i ∷ path) 0 c) (below_map top path (suc i) n))

  under_map : (space : List (List ℕ) → CrossName) (names : List (List ℕ)) (top : ℕ) (g : Entries P)
      → cross_names_under space names top (entries_map f g) ≡ map (placed_name f) (cross_names_under space names top g)
  unfolding cross_names_under entries_map
  under_map space names top End = refl
  under_map space names top (Entry e c n) =
      (λ j. elim (text_map f e j) as (λ _. List (Q × CrossName)) [ None ↦ at_top | Some text ↦ at_space text ])
      ∙ by (under_map space names (suc top) n) (λ text. under_map space (names ++ text ∷ []) top c) (λ m. under_map space names m n) (space_text e)
    where
      c' : Entries Q
      c' = entries_map f c

      n' : Entries Q
      n' = entries_map f n

      at_top : List (Q × CrossName)
      at_top = (f e.at, AtPath top []) ∷ (cross_names_below top [] 0 c' ++ cross_names_under space names (suc top) n')

      at_space : List ℕ → List (Q × CrossName)
      at_space text = (f e.at, space (names ++ text ∷ [])) ∷ (cross_names_under space (names ++ text ∷ []) top c' ++ cross_names_under space names (top + tops_under c') n')

      by : cross_names_under space names (suc top) n' ≡ map (placed_name f) (cross_names_under space names (suc top) n)
          → ((text : List ℕ) → cross_names_under space (names ++ text ∷ []) top c' ≡ map (placed_name f) (cross_names_under space (names ++ text ∷ []) top c))
          → ((m : ℕ) → cross_names_under space names m n' ≡ map (placed_name f) (cross_names_under space names m n))
          → (o : Option (List ℕ)) → (elim o as (λ _. List (Q × CrossName)) [ None ↦ at_top | Some text ↦ at_space text ])
          ≡ map (placed_name f) (elim o as (λ _. List (P × CrossName)) [
            | None ↦ (e.at, AtPath top []) ∷ (cross_names_below top [] 0 c ++ cross_names_under space names (suc top) n)
            | Some text ↦ (e.at, space (names ++ text ∷ [])) ∷ (cross_names_under space (names ++ text ∷ []) top c ++ cross_names_under space names (top + tops_under c) n)
          ])
      by p q r None =
          ap (λ (w : List (Q × CrossName)). (f e.at, AtPath top []) ∷ w)
          (both (placed_name f) (cross_names_below top [] 0 c') (cross_names_under space names (suc top) n') (cross_names_below top [] 0 c) (cross_names_under space names (suc top) n)
          (below_map top [] 0 c) p)
      by p q r (Some text) =
          ap (λ (w : List (Q × CrossName)). (f e.at, space (names ++ text ∷ [])) ∷ w)
          (both (placed_name f) (cross_names_under space (names ++ text ∷ []) top c') (cross_names_under space names (top + tops_under c') n') (cross_names_under space (names ++ text ∷ []) top c)
          (cross_names_under space names (top + tops_under c) n) (q text) (ap (λ (m : ℕ). cross_names_under space names (top + m) n') (under_count f c) ∙ r (top + tops_under c)))

  unit_names_map : (n top : ℕ) (u : DwUnit P) (k : Kind P) → cross_unit_names n top (kind_map f k) (unit_map f u) ≡ map (placed_name f) (cross_unit_names n top k u)
  unit_names_map n top u Compile = ap (λ (w : List (Q × CrossName)). (f u.root.at, WholeRoot n) ∷ w) (under_map (WholeSpace n) [] top u.below)
  unit_names_map n top u (OfType signature main) = ap (λ (w : List (Q × CrossName)). (f u.root.at, AtPath top []) ∷ w) (below_map top [] 0 u.below)
  unit_names_map n top u Partial = ap (λ (w : List (Q × CrossName)). (f u.root.at, PartRoot) ∷ w) (under_map PartSpace [] top u.below)

  -- ---- tops

  tops_in_map : (names : List (List ℕ)) (g : Entries P) → cross_tops_in names (entries_map f g) ≡ map (cross_top_map f) (cross_tops_in names g)
  unfolding cross_tops_in entries_map
  tops_in_map names End = refl
  tops_in_map names (Entry e c n) =
      (λ j. elim (text_map f e j) as (λ _. List (CrossTop Q)) [
        | None ↦ record { names = names; node = node_map f e; below = entries_map f c } ∷ cross_tops_in names (entries_map f n)
        | Some text ↦ cross_tops_in (names ++ text ∷ []) (entries_map f c) ++ cross_tops_in names (entries_map f n)
      ])
      ∙ by (tops_in_map names n) (λ text. tops_in_map (names ++ text ∷ []) c) (space_text e)
    where
      by : cross_tops_in names (entries_map f n) ≡ map (cross_top_map f) (cross_tops_in names n)
          → ((text : List ℕ) → cross_tops_in (names ++ text ∷ []) (entries_map f c) ≡ map (cross_top_map f) (cross_tops_in (names ++ text ∷ []) c))
          → (o : Option (List ℕ)) → (elim o as (λ _. List (CrossTop Q)) [
            | None ↦ record { names = names; node = node_map f e; below = entries_map f c } ∷ cross_tops_in names (entries_map f n)
            | Some text ↦ cross_tops_in (names ++ text ∷ []) (entries_map f c) ++ cross_tops_in names (entries_map f n)
          ]) ≡ map (cross_top_map f) (elim o as (λ _. List (CrossTop P)) [
            | None ↦ record { names = names; node = e; below = c } ∷ cross_tops_in names n
            | Some text ↦ cross_tops_in (names ++ text ∷ []) c ++ cross_tops_in names n
          ])
      by p q None = ap (λ (w : List (CrossTop Q)). record { names = names; node = node_map f e; below = entries_map f c } ∷ w) p
      by p q (Some text) =
          both (cross_top_map f) (cross_tops_in (names ++ text ∷ []) (entries_map f c)) (cross_tops_in names (entries_map f n)) (cross_tops_in (names ++ text ∷ []) c) (cross_tops_in names n) (q text) p

  unit_tops_map : (u : DwUnit P) (k : Kind P) → unit_tops (kind_map f k) (unit_map f u) ≡ map (cross_top_map f) (unit_tops k u)
  unit_tops_map u Compile = tops_in_map [] u.below
  unit_tops_map u (OfType signature main) = refl
  unit_tops_map u Partial = tops_in_map [] u.below

  -- ---- roots and spaces

  spaces_map : (g : Entries P) → spaces_in (entries_map f g) ≡ map (node_map f) (spaces_in g)
  unfolding spaces_in entries_map
  spaces_map End = refl
  spaces_map (Entry e c n) =
      (λ j. elim (text_map f e j) as (λ _. List (Node Q)) [
        | None ↦ spaces_in (entries_map f n)
        | Some text ↦ node_map f e ∷ (spaces_in (entries_map f c) ++ spaces_in (entries_map f n))
      ])
      ∙ by (spaces_map n) (spaces_map c) (space_text e)
    where
      by : spaces_in (entries_map f n) ≡ map (node_map f) (spaces_in n) → spaces_in (entries_map f c) ≡ map (node_map f) (spaces_in c)
          → (o : Option (List ℕ)) → (elim o as (λ _. List (Node Q)) [
            | None ↦ spaces_in (entries_map f n)
            | Some text ↦ node_map f e ∷ (spaces_in (entries_map f c) ++ spaces_in (entries_map f n))
          ]) ≡ map (node_map f) (elim o as (λ _. List (Node P)) [ None ↦ spaces_in n | Some text ↦ e ∷ (spaces_in c ++ spaces_in n) ])
      by p q None = p
      by p q (Some text) =
          ap (λ (w : List (Node Q)). node_map f e ∷ w) (both (node_map f) (spaces_in (entries_map f c)) (spaces_in (entries_map f n)) (spaces_in c) (spaces_in n) q p)

  unit_lone_map : (u : DwUnit P) (k : Kind P) → lone_of (kind_map f k) (unit_map f u) ≡ map (node_map f) (lone_of k u)
  unit_lone_map u Compile = ap (λ (w : List (Node Q)). node_map f u.root ∷ w) (spaces_map u.below)
  unit_lone_map u (OfType signature main) = refl
  unit_lone_map u Partial = refl

  -- ---- units

  next_map : (k : Kind P) (n : ℕ) → next_whole (kind_map f k) n ≡ next_whole k n
  next_map Compile n = refl
  next_map (OfType signature main) n = refl
  next_map Partial n = refl

  names_map : (units : List (DwUnit P)) (n top : ℕ) → cross_names_from n top (map (unit_map f) units) ≡ map (placed_name f) (cross_names_from n top units)
  unfolding cross_names_from
  names_map [] n top = refl
  names_map (u ∷ units) n top =
      let many : length (unit_tops (kind_map f u.kind) (unit_map f u)) ≡ length (unit_tops u.kind u) = ap (λ (w : List (CrossTop Q)). length w) (unit_tops_map u u.kind) ∙ length-map (unit_tops u.kind u) (cross_top_map f) in
      both (placed_name f) (cross_unit_names n top (kind_map f u.kind) (unit_map f u))
      (cross_names_from (next_whole (kind_map f u.kind) n) (top + length (unit_tops (kind_map f u.kind) (unit_map f u))) (map (unit_map f) units)) (cross_unit_names n top u.kind u)
      (cross_names_from (next_whole u.kind n) (top + length (unit_tops u.kind u)) units) (unit_names_map n top u u.kind)
      ((λ j. cross_names_from (next_map u.kind n j) (top + many j) (map (unit_map f) units)) ∙ names_map units (next_whole u.kind n) (top + length (unit_tops u.kind u)))

  tops_map : (units : List (DwUnit P)) → cross_tops (map (unit_map f) units) ≡ map (cross_top_map f) (cross_tops units)
  unfolding cross_tops
  tops_map [] = refl
  tops_map (u ∷ units) =
      both (cross_top_map f) (unit_tops (kind_map f u.kind) (unit_map f u)) (cross_tops (map (unit_map f) units)) (unit_tops u.kind u) (cross_tops units) (unit_tops_map u u.kind) (tops_map units)

  lone_map : (units : List (DwUnit P)) → lone_entries (map (unit_map f) units) ≡ map (node_map f) (lone_entries units)
  unfolding lone_entries
  lone_map [] = refl
  lone_map (u ∷ units) =
      both (node_map f) (lone_of (kind_map f u.kind) (unit_map f u)) (lone_entries (map (unit_map f) units)) (lone_of u.kind u) (lone_entries units) (unit_lone_map u u.kind) (lone_map units)

  units_map : (units : List (DwUnit P)) (top root : ℕ) → map start_of (numbered_units top root (map (unit_map f) units)) ≡ map start_of (numbered_units top root units)
  unfolding numbered_units
  units_map [] top root = refl
  units_map (u ∷ units) top root =
      let tops : length (unit_tops (kind_map f u.kind) (unit_map f u)) ≡ length (unit_tops u.kind u) = ap (λ (w : List (CrossTop Q)). length w) (unit_tops_map u u.kind) ∙ length-map (unit_tops u.kind u) (cross_top_map f) in
      let roots : length (lone_of (kind_map f u.kind) (unit_map f u)) ≡ length (lone_of u.kind u) = ap (λ (w : List (Node Q)). length w) (unit_lone_map u u.kind) ∙ length-map (lone_of u.kind u) (node_map f) in
      let start : UnitStart = record { top = top; lone = root } in
      ap (λ (w : List UnitStart). start ∷ w)
      ((λ j. map start_of (numbered_units (top + tops j) (root + roots j) (map (unit_map f) units))) ∙ units_map units (top + length (unit_tops u.kind u)) (root + length (lone_of u.kind u)))

  pub mapped : (units : List (DwUnit P)) → AreMapped f units
  mapped units = record { names = names_map units; tops = tops_map units; lone = lone_map units; starts = units_map units }

-- ---- roots and spaces behind others

pub all_later : {P : Type 0} → LaterLaw P
unfolding numbered_units
all_later k top root [] = refl
all_later k top root (u ∷ units) =
    let more = length (lone_of u.kind u) in
    let start : UnitStart = record { top = top; lone = k + root } in
    let same : k + root + more ≡ k + (root + more) = omega arith in
    ap (λ (w : List UnitStart). start ∷ w)
    ((λ j. map start_of (numbered_units (top + length (unit_tops u.kind u)) (same j) units)) ∙ all_later k (top + length (unit_tops u.kind u)) (root + more) units)
