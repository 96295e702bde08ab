-- The own numbers of tops, unit by unit.
use Rattle.std.proofs.Common.{◌≡◌, ℕ, ◌+◌, ◌-◌, ◌<◌, ◌≤◌, ◌^◌, Bool, true, false, List, [], ◌∷◌, ◌++◌, length, map, drop, get_or, Option, Some, None, refl, sym, ap, subst, ◌∙◌, inl, inr, arith}
use Rattle.std.specs.List.{range_with_len}
use Rattle.std.proofs.lemmas.List.{append-nil, append_assoc, drop_all, length-append}
use Rattle.dwz_model.proofs.ListFacts.{drop_pairs}
use Rattle.dwz_def_reading.specs.Documents.{Compile, DwUnit, Kind, OfType, Partial}
use Rattle.dwz_def_reading.specs.Lists.{In}
use Rattle.dwz_def_tops.specs.Seen.{IsPartial}
use Rattle.dwz_def_tops.specs.Spaces.{tops_under}
use Rattle.dwz_def_tops.specs.Spots.{top_count}
use Rattle.dwz_def_check.specs.CrossLists.{numbered_units}
use Rattle.dwz_def_check.specs.CrossNames.{cross_tops, unit_tops}
use Rattle.dwz_def_check.specs.CrossNodes.{lone_of}
use Rattle.dwz_def_check.proofs.TopLists.{tops_count}
use Rattle.dwz_check_rows.specs.declared.columns.RowKind.{RowKind}
use Rattle.dwz_check_rows.specs.declared.columns.RowKind.TheVariants.{Compile as CompileRow, OfType as TypeRow, Partial as PartialRow}
use Rattle.dwz_check_rows.specs.declared.columns.UnitNodes.{UnitNodes}
use Rattle.dwz_check_sides.specs.Units.{meant_kind, nodes_of}
use Rattle.dwz_reuse.specs.Refers.{own_by, own_count, own_in, own_list, own_numbers, own_tops_of, tops_in}

abbrev type_kind : RowKind → Bool
type_kind k = elim k as (λ _. Bool) [ TypeRow signature ↦ true | _ ↦ false ]

-- what is left behind a node, and how many numbers are
pub record Left (top : ℕ) (own : List (Option ℕ)) (nodes : List UnitNodes) (all : List (Option ℕ)) : Type 0 where
  pub room : top + own_count nodes < 2 ^ 32
  pub own_is : own ++ own_by top nodes ≡ all

module _ (nodes : List UnitNodes) (all : List (Option ℕ)) (own new : List (Option ℕ)) (top n : ℕ) where
  abbrev KindLeft : RowKind → Type 0
  KindLeft k = (top + (own_tops_of k n + own_count nodes) < 2 ^ 32) × (own ++ (own_list k top n ++ own_by (top + own_tops_of k n) nodes) ≡ all)

  type_by : (k : RowKind) → type_kind k ≡ true → KindLeft k → new ≡ own ++ None ∷ [] → Left top new nodes all
  type_by (TypeRow signature) e h put =
      let zero_ : top + 0 ≡ top = omega arith in
      record {
        room = (let r = h.0 in omega (arith, r));
        own_is = ap (λ (w : List (Option ℕ)). w ++ own_by top nodes) put ∙ append_assoc own (None ∷ []) (own_by top nodes)
            ∙ ap (λ (m : ℕ). own ++ (None ∷ [] ++ own_by m nodes)) (sym zero_) ∙ h.1;
      }
  type_by (CompileRow root spaces_end) e h put = absurd cc
  type_by PartialRow e h put = absurd cc

  whole_by : (k : RowKind) → type_kind k ≡ false → KindLeft k → new ≡ own ++ map Some (range_with_len top n) → Left (top + n) new nodes all
  whole_by (TypeRow signature) e h put = absurd cc
  whole_by (CompileRow root spaces_end) e h put = record {
    room = (let r = h.0 in omega (arith, r));
    own_is = ap (λ (w : List (Option ℕ)). w ++ own_by (top + n) nodes) put ∙ append_assoc own (map Some (range_with_len top n)) (own_by (top + n) nodes) ∙ h.1;
  }
  whole_by PartialRow e h put = record {
    room = (let r = h.0 in omega (arith, r));
    own_is = ap (λ (w : List (Option ℕ)). w ++ own_by (top + n) nodes) put ∙ append_assoc own (map Some (range_with_len top n)) (own_by (top + n) nodes) ∙ h.1;
  }

  room_by : (k : RowKind) → type_kind k ≡ false → KindLeft k → top + n < 2 ^ 32
  room_by (TypeRow signature) e h = absurd cc
  room_by (CompileRow root spaces_end) e h = (let r = h.0 in omega (arith, r))
  room_by PartialRow e h = (let r = h.0 in omega (arith, r))

module _ (nodes : List UnitNodes) (i : ℕ) (d : UnitNodes) (low : i < length nodes) (all own : List (Option ℕ)) (top : ℕ) (left : Left top own (drop i nodes) all) where
  abbrev here : UnitNodes
  here = get_or nodes i d

  kind_left : KindLeft (drop (i + 1) nodes) all own own top (tops_in here) here.kind
  unfolding own_by own_count
  kind_left =
      let o : Left top own (here ∷ drop (i + 1) nodes) all = subst (λ (w : List UnitNodes). Left top own w all) (drop_pairs nodes i d low) left in
      (o.room, o.own_is)

  pub next_type : (new : List (Option ℕ)) → type_kind here.kind ≡ true → new ≡ own ++ None ∷ [] → Left top new (drop (i + 1) nodes) all
  next_type new e put = type_by (drop (i + 1) nodes) all own new top (tops_in here) here.kind e kind_left put

  pub next_whole : (new : List (Option ℕ)) → type_kind here.kind ≡ false → new ≡ own ++ map Some (range_with_len top (tops_in here)) → Left (top + tops_in here) new (drop (i + 1) nodes) all
  next_whole new e put = whole_by (drop (i + 1) nodes) all own new top (tops_in here) here.kind e kind_left put

  pub next_room : type_kind here.kind ≡ false → top + tops_in here < 2 ^ 32
  next_room e = room_by (drop (i + 1) nodes) all own own top (tops_in here) here.kind e kind_left

pub all_own : (nodes : List UnitNodes) (i top : ℕ) (own all : List (Option ℕ)) → length nodes ≤ i → own ++ own_by top (drop i nodes) ≡ all → own ≡ all
unfolding own_by
all_own nodes i top own all le h = sym (append-nil own) ∙ ap (λ (w : List UnitNodes). own ++ own_by top w) (sym (drop_all i nodes le)) ∙ h

-- ---- the nodes of a document

module _ (before : ℕ) where
  abbrev ListBy : (top : ℕ) → RowKind → ℕ → Kind ℕ → DwUnit ℕ → Type 0
  ListBy top k n kind u = (own_list k top n ≡ own_in top kind u) × (top + own_tops_of k n ≡ top + top_count kind u.below)

  list_by : (top a b cross : ℕ) (u : DwUnit ℕ) (kind : Kind ℕ) → (IsPartial kind → ⊥) → ListBy top (meant_kind a b kind) (cross + length (unit_tops kind u) - cross) kind u
  list_by top a b cross u Compile np =
      let many : cross + length (unit_tops Compile u) - cross ≡ tops_under u.below = (let c = tops_count [] u.below in omega (arith, c)) in
      (ap (λ (n : ℕ). map Some (range_with_len top n)) many, ap (λ (n : ℕ). top + n) many)
  list_by top a b cross u (OfType signature main) np = (refl, refl)
  list_by top a b cross u Partial np = absurd (np tt)

  pub nodes_own : (top cross lone : ℕ) (said : List (DwUnit ℕ)) → ((u : DwUnit ℕ) → In u said → IsPartial u.kind → ⊥) → own_by top (map (nodes_of before) (numbered_units cross lone said)) ≡ own_numbers top said
  unfolding own_by own_numbers numbered_units
  nodes_own top cross lone [] np = refl
  nodes_own top cross lone (u ∷ said) np =
      let h = list_by top (before + lone) (before + (lone + length (lone_of u.kind u))) cross u u.kind (np u (inl refl)) in
      let rest = map (nodes_of before) (numbered_units (cross + length (unit_tops u.kind u)) (lone + length (lone_of u.kind u)) said) in
      (λ i. h.0 i ++ own_by (h.1 i) rest)
      ∙ ap (λ (w : List (Option ℕ)). own_in top u.kind u ++ w) (nodes_own (top + top_count u.kind u.below) (cross + length (unit_tops u.kind u)) (lone + length (lone_of u.kind u)) said (λ v i. np v (inr i)))

  kind_count : (k : RowKind) (n : ℕ) → own_tops_of k n ≤ n
  kind_count (TypeRow signature) n = omega arith
  kind_count (CompileRow root spaces_end) n = omega arith
  kind_count PartialRow n = omega arith

  pub nodes_count : (cross lone : ℕ) (said : List (DwUnit ℕ)) → own_count (map (nodes_of before) (numbered_units cross lone said)) ≤ length (cross_tops said)
  unfolding own_count numbered_units cross_tops
  nodes_count cross lone [] = omega arith
  nodes_count cross lone (u ∷ said) =
      let more = nodes_count (cross + length (unit_tops u.kind u)) (lone + length (lone_of u.kind u)) said in
      let len = length-append (unit_tops u.kind u) (cross_tops said) in
      let k = kind_count (meant_kind (before + lone) (before + (lone + length (lone_of u.kind u))) u.kind) (cross + length (unit_tops u.kind u) - cross) in
      omega (arith, more, len, k)
