-- What is written of the old units of a file, one by one, shows the units after.
use Rattle.std.proofs.Common.{◌≡◌, ℕ, suc, ◌+◌, ◌<◌, true, List, [], ◌∷◌, ◌++◌, length, drop, Some, slice_get, refl, sym, ap, subst, ◌∙◌, arith}
use Rattle.std.proofs.lemmas.List.{append_assoc, drop_at, length-append}
use Rattle.dwz_def_reading.specs.Units.{CompileUnit, PartialUnit, RawKind, RawUnit, TypeUnit, entries_in, entry_count}
use Rattle.dwz_def_reading.proofs.ListFacts.{drop_first}
use Rattle.dwz_def_reading.specs.Documents.{Compile, DwUnit, Entries, Kind, Node, OfType, Partial, entries_map, kind_map, unit_map}
use Rattle.dwz_def_reading.specs.Meanings.{Around, MeanUnits, MeansKind, MeansUnit, places_of, scope_of}
use Rattle.dwz_def_reading.specs.Lists.{Each}
use Rattle.dwz_def_reading.proofs.HasLemmas.{in_has}
use Rattle.dwz_def_tops.specs.Seen.{IsPartial}
use Rattle.dwz_def_tops.specs.Spots.{EntryName, FileUnit, RootOf, in_file, top_count}
use Rattle.dwz_graph.specs.Names.{names_from}
use Rattle.dwz_graph.specs.Spaces.{stored_space}
use Rattle.dwz_graph.specs.Steps.{is_space}
use Rattle.dwz_graph.proofs.ListLemmas.{drop_more}
use Rattle.dwz_graph.proofs.ListMeans.{means_size}
use Rattle.dwz_graph.proofs.ShowLemmas.{unit_many, unit_names}
use Rattle.dwz_layout_items.specs.Order.{Names, ShowsUnit}
use Rattle.dwz_layout_items.specs.Shows.{NamesKept}
use Rattle.dwz_def_images.specs.Moves.{Move, image_in}
use Rattle.dwz_def_images.specs.Plan.{imports}
use Rattle.dwz_layout.specs.declared.order.Sort.{Sort}
use Rattle.dwz_layout.specs.declared.order.Sort.TheVariants.{OfType as TypeSort}
use Rattle.dwz_layout.specs.declared.order.UnitItems.{UnitItems}
use Rattle.dwz_plan.specs.Shows.{import_row}
use Rattle.dwz_graph.specs.Resolved.{place_at}
use Rattle.dwz_def_images.specs.Units.{changes, kept_unit}
use Rattle.dwz_layout_order.specs.declared.marks.Marks.{Marks}
use Rattle.dwz_layout_order.specs.declared.outline.Next.{Next}
use Rattle.dwz_layout_order.specs.Kept.{AreKept, From, IsKept, IsWhole, UnitKept, behind_from, behind_kind, behind_unit}
use Rattle.dwz_layout_order.specs.Named.{MarksAll, NamesAll}
use Rattle.dwz_layout_order.specs.Orders.{Entered, IsNamed, ShowsKept, ShowsSort}
use Rattle.dwz_layout_order.specs.Shown.{IsNext, IsWholeUnit, NamesFile, named_units, tops_in}
use Rattle.dwz_layout_order.specs.Sorts.{SortBy, SortOf, row_of}
use Rattle.dwz_layout_order.specs.Spaces.{spaces_of, spaces_under}
use Rattle.dwz_layout_order.proofs.MeanLemmas.{Agree, means_agree, spaces_agree, tops_agree}
use Rattle.dwz_layout_order.proofs.RowLemmas.{spaces_counted, tops_counted}
use Rattle.dwz_layout_order.proofs.UnitRows.{spaces_append, tops_append}
use Rattle.dwz_layout_order.proofs.UnitShown.{compile_shown, whole_shown}

-- each unit, the first of which has that number, is written so
abbrev pub EachKept : Entered → Move → List (FileUnit EntryName) → ℕ → List (FileUnit EntryName) → List UnitItems → Type 0
EachKept e m all i [] [] = Unit {0}
EachKept e m all i (f ∷ units) (o ∷ order) = ShowsKept e m all i f o × EachKept e m all (suc i) units order
EachKept e m all i _ _ = ⊥

-- ---- the next top and the next space

pub next_behind : (around : Around ℕ) (name : ℕ → EntryName) (before : List (FileUnit EntryName)) (file : ℕ) (u : RawUnit) (v : DwUnit ℕ) (next : Next) → MeansUnit around u v → IsNext before next
    → IsNext (before ++ in_file file (unit_map name v) ∷ []) (behind_unit u next)
unfolding tops_in spaces_of
next_behind around name before file u v next means is = by u.kind v.kind means.kind where
  agree : Agree stored_space is_space u.below (entries_map name v.below)
  agree = means_agree (scope_of around u) name u.below v.below means.below

  below : Entries EntryName
  below = entries_map name v.below

  added : Kind EntryName → List (FileUnit EntryName)
  added k = record { file = file; unit = record { at = name v.at; kind = k; root = (unit_map name v).root; below = below } } ∷ []

  by : (k : RawKind) (kind : Kind ℕ) → MeansKind (scope_of around u) k kind → IsNext (before ++ added (kind_map name kind)) (behind_kind k u.below next)
  by CompileUnit kind e =
      let n = behind_kind CompileUnit u.below next in
      let tops = tops_append before (added Compile) in
      let spaces = ap (λ (w : List (Node EntryName)). length w) (spaces_append before (added Compile)) in
      let long = length-append (spaces_of before) (spaces_under below ++ []) in
      let more = length-append (spaces_under below) [] in
      let a = tops_agree stored_space is_space u.below below agree in
      let b = spaces_agree stored_space is_space u.below below agree in
      let c = tops_counted below in
      let d = spaces_counted below in
      let top = is.top in
      let space = is.space in
      let here : IsNext (before ++ added Compile) n = record { top = omega arith; space = omega arith } in
      subst (λ (w : Kind ℕ). IsNext (before ++ added (kind_map name w)) n) (sym e) here
  by (TypeUnit signature type_offset) kind e =
      let k : Kind EntryName = OfType signature (name ((scope_of around u).around.place (u.at + type_offset))) in
      let tops = tops_append before (added k) in
      let spaces = ap (λ (w : List (Node EntryName)). length w) (spaces_append before (added k)) in
      let long = length-append (spaces_of before) [] in
      let top = is.top in
      let space = is.space in
      let here : IsNext (before ++ added k) next = record { top = omega arith; space = omega arith } in
      subst (λ (w : Kind ℕ). IsNext (before ++ added (kind_map name w)) next) (sym e.1) here
  by PartialUnit kind e =
      let tops = tops_append before (added Partial) in
      let spaces = ap (λ (w : List (Node EntryName)). length w) (spaces_append before (added Partial)) in
      let long = length-append (spaces_of before) [] in
      let top = is.top in
      let space = is.space in
      let here : IsNext (before ++ added Partial) next = record { top = omega arith; space = omega arith } in
      subst (λ (w : Kind ℕ). IsNext (before ++ added (kind_map name w)) next) (sym e) here

-- ---- sorts

names_next : (around : Around ℕ) (e : Entered) (file start : ℕ) (name : ℕ → EntryName) (all : List RawUnit) (first unit top : ℕ) (u : RawUnit) (v : DwUnit ℕ) (said : List (DwUnit ℕ))
    → MeansUnit around u v
    → IsWholeUnit v
    → NamesFile e file start name all first unit top (v ∷ said)
    → (slice_get (e.names file) first ≡ Some (RootOf unit)) × NamesFile e file start name all (first + entry_count u) (suc unit) (top + top_count v.kind v.below) said
unfolding names_from
names_next around e file start name all first unit top u v said means whole h =
    let own = unit_names unit top v in
    let others = names_from (suc unit) (top + top_count v.kind v.below) said in
    let root = drop_first (e.names file) first (RootOf unit) _ h.rest in
    let many = unit_many unit top v whole in
    let same = means_size (scope_of around u) u.below v.below means.below in
    let count : length own ≡ entry_count u = omega (arith, many, same) in (
      root.0,
      record {
        begins = h.begins;
        rest = drop_more (e.names file) first (entry_count u) ∙ ap (drop (entry_count u)) h.rest ∙ drop_at own others (entry_count u) count;
        each = h.each;
      },
    )

-- ---- kinds

kind_back : (name : ℕ → EntryName) (k : Kind ℕ) → kind_map name k ≡ Compile → k ≡ Compile
kind_back name Compile e = refl
kind_back name (OfType signature main) e = absurd cc
kind_back name Partial e = absurd cc

module _ (around : Around ℕ) (plain : (p : ℕ) → around.place p ≡ p) (e : Entered) (m : Move) (raw : List RawUnit) (name : ℕ → EntryName) (file start : ℕ) where
  sort_shown : (first i : ℕ) (u : RawUnit) (v : DwUnit ℕ) (sort : Sort) → MeansUnit around u v → IsWholeUnit v → slice_get (e.names file) first ≡ Some (RootOf i) → e.start file ≡ start
      → ((entry : ℕ) → entry < entries_in raw → IsNamed e file entry (name (place_at raw entry))) → SortOf raw file start first u sort
      → ShowsSort e m i sort (kind_map (image_in m) (kind_map name v.kind))
  sort_shown first i u v sort means whole root from each is = by u.kind v.kind means.kind is whole where
    by : (k : RawKind) (kind : Kind ℕ) → MeansKind (scope_of around u) k kind → SortBy raw file start first u k sort → (IsPartial kind → ⊥)
        → ShowsSort e m i sort (kind_map (image_in m) (kind_map name kind))
    by CompileUnit kind means is whole =
        subst (λ (k : Kind ℕ). ShowsSort e m i sort (kind_map (image_in m) (kind_map name k))) (sym means) (subst (λ (w : Sort). ShowsSort e m i w Compile) (sym is) root)
    by (TypeUnit signature type_offset) kind means is whole =
        let p = u.at + type_offset in
        let main = is.0 in
        let at : place_at raw main ≡ p = is.3 (in_has p (places_of u) means.0) in
        let kind_is : kind ≡ OfType signature p = means.1 ∙ ap (λ (q : ℕ). OfType signature q) (plain p) in
        let number : start + main ≡ e.start file + main = ap (λ (n : ℕ). n + main) (sym from) in
        let key : image_in m (name p) ≡ image_in m (name (place_at raw main)) = ap (λ (q : ℕ). image_in m (name q)) (sym at) in
        let shown : ShowsSort e m i (TypeSort (row_of file first) signature (start + main)) (OfType signature (image_in m (name p))) =
        (root, refl, (main, name (place_at raw main), number, each main is.2, key)) in
        subst (λ (k : Kind ℕ). ShowsSort e m i sort (kind_map (image_in m) (kind_map name k))) (sym kind_is)
        (subst (λ (w : Sort). ShowsSort e m i w (OfType signature (image_in m (name p)))) (sym is.1) shown)
    by PartialUnit kind means is whole = absurd (subst (λ (k : Kind ℕ). IsPartial k → ⊥) means whole tt)

-- ---- unit by unit

module _ (around : Around ℕ) (plain : (p : ℕ) → around.place p ≡ p) (e : Entered) (m : Move) (raw : List RawUnit) (name : ℕ → EntryName) (file : ℕ) (units : List (FileUnit EntryName)) (marks : Marks)
    (known : MarksAll m units marks)
    (moves : changes m units file ≡ true) (parts : ℕ → List ℕ) (imported : (i : ℕ) → i < length units → imports i 0 m.parts ≡ import_row i (parts i)) where
  kept_one : (from : From) (next : Next) (before after : List (FileUnit EntryName)) (u : RawUnit) (v : DwUnit ℕ) (o : UnitItems) → from.unit ≡ length before
      → units ≡ before ++ in_file file (unit_map name v) ∷ after
      → IsNext before next → MeansUnit around u v → UnitKept raw marks parts from next u o → (n : Names EntryName) → NamesAll (image_in m) units n → NamesKept m (length before) (unit_map name v) n
      → ShowsUnit n o.items (kept_unit m units (length before) (in_file file (unit_map name v)))
  kept_one from next before after u v o number is next_is means kept n names mine = by u.kind means.kind kept.items where
    f : FileUnit EntryName
    f = in_file file (unit_map name v)

    there : length before < length units
    there = (let long = ap (λ (w : List (FileUnit EntryName)). length w) is in omega (arith, long, length-append before (f ∷ after)))

    agree : Agree stored_space is_space u.below (entries_map name v.below)
    agree = means_agree (scope_of around u) name u.below v.below means.below

    same : imports (length before) 0 m.parts ≡ import_row (length before) (parts from.unit)
    same = imported (length before) there ∙ ap (λ (j : ℕ). import_row (length before) (parts j)) (sym number)

    Wanted : List (FileUnit EntryName) → Type 0
    Wanted all = MarksAll m all marks → NamesAll (image_in m) all n → changes m all file ≡ true → ShowsUnit n o.items (kept_unit m all (length before) f)

    not_compile : (k : RawKind) → ((k ≡ CompileUnit) → ⊥) → (v.kind ≡ Compile → ⊥) → IsWhole [] o.items → ShowsUnit n o.items (kept_unit m units (length before) f)
    not_compile k other differs whole =
        let all : Wanted (before ++ f ∷ after) = λ known names moves. whole_shown m before f after marks n o.items whole (λ c. absurd (differs (kind_back name v.kind c))) mine in
        subst Wanted (sym is) all known names moves

    by : (k : RawKind) → MeansKind (scope_of around u) k v.kind → IsKept marks k u.below next (parts from.unit) [] o.items → ShowsUnit n o.items (kept_unit m units (length before) f)
    by CompileUnit kind items =
        let all : Wanted (before ++ f ∷ after) = λ known names moves. compile_shown m before f after marks n next u.below (parts from.unit) o.items next_is agree (ap (kind_map name) kind) moves same
        items known names mine in
        subst Wanted (sym is) all known names moves
    by (TypeUnit signature type_offset) kind items = not_compile (TypeUnit signature type_offset) (λ c. cc) (λ c. (let e = sym c ∙ kind.1 in cc)) items
    by PartialUnit kind items = not_compile PartialUnit (λ c. cc) (λ c. (let e = sym c ∙ kind in cc)) items

  pub each_kept : (from : From) (next : Next) (start top : ℕ) (before after : List (FileUnit EntryName)) (us : List RawUnit) (said : List (DwUnit ℕ)) (order : List UnitItems) → from.file ≡ file
      → from.start ≡ start → from.unit ≡ length before
      → units ≡ before ++ (named_units file name said ++ after) → IsNext before next → MeanUnits around us said → Each IsWholeUnit said
      → NamesFile e file start name raw from.first (length before) top said
      → AreKept raw marks parts from next us order → EachKept e m units (length before) (named_units file name said) order
  each_kept from next start top before after [] [] [] own begin number is next_is means whole named kept = tt
  each_kept from next start top before after [] [] (o ∷ order) own begin number is next_is means whole named kept = absurd kept
  each_kept from next start top before after [] (v ∷ said) order own begin number is next_is means whole named kept = absurd means
  each_kept from next start top before after (u ∷ us) [] order own begin number is next_is means whole named kept = absurd means
  each_kept from next start top before after (u ∷ us) (v ∷ said) [] own begin number is next_is means whole named kept = absurd kept
  each_kept from next start top before after (u ∷ us) (v ∷ said) (o ∷ order) own begin number is next_is means whole named kept =
      let f : FileUnit EntryName = in_file file (unit_map name v) in
      let n = names_next around e file start name raw from.first (length before) top u v said means.0 whole.0 named in
      let long : length (before ++ f ∷ []) ≡ suc (length before) = omega (arith, length-append before (f ∷ [])) in
      let parted : units ≡ (before ++ f ∷ []) ++ (named_units file name said ++ after) = is ∙ sym (append_assoc before (f ∷ []) (named_units file name said ++ after)) in
      let sort : SortOf raw file start from.first u o.sort =
      subst (λ (k : ℕ). SortOf raw k start from.first u o.sort) own (subst (λ (k : ℕ). SortOf raw from.file k from.first u o.sort) begin kept.0.sort) in
      let rest = each_kept (behind_from from u) (behind_unit u next) start (top + top_count v.kind v.below) (before ++ f ∷ []) after us said order own begin (ap suc number ∙ sym long) parted
      (next_behind around name before file u v next means.0 next_is) means.1 whole.1
      (subst (λ (k : ℕ). NamesFile e file start name raw (from.first + entry_count u) k (top + top_count v.kind v.below) said) (sym long) n.1) kept.1 in (
        record {
          lines = kept_one from next before (named_units file name said ++ after) u v o number is next_is means.0 kept.0;
          sort = sort_shown around plain e m raw name file start from.first (length before) u v o.sort means.0 whole.0 n.0 named.begins named.each sort;
        },
        subst (λ (k : ℕ). EachKept e m units k (named_units file name said) order) long rest,
      )
