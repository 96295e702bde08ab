-- What the tops of files refer into, by the numbers that tops have in looks across files: there the root of a type unit is a top too.
use Rattle.std.specs.Prelude.{◌≡◌, ◌⊎◌, ℕ, ◌+◌, ◌-◌, ◌<◌, Bool, true, false, List, [], ◌∷◌, ◌++◌, map, Option, Some, None, slice_index_or}
use Rattle.std.specs.List.{range_with_len}
use Rattle.dwz_def_reading.specs.Documents.{DwUnit, Kind, OfType}
use Rattle.dwz_def_reading.specs.Lists.{In}
use Rattle.dwz_def_tops.specs.Alike.{refers_to}
use Rattle.dwz_def_tops.specs.Spaces.{tops_under}
use Rattle.dwz_def_tops.specs.Spots.{Top, top_count}
use Rattle.dwz_def_check.specs.CrossNames.{AtPath, CrossName}
use Rattle.dwz_check_rows.specs.declared.columns.RowKind.{RowKind}
use Rattle.dwz_check_rows.specs.declared.columns.RowKind.TheVariants.{OfType as TypeRow}
use Rattle.dwz_check_rows.specs.declared.columns.UnitNodes.{UnitNodes}
use Rattle.dwz_groups.specs.declared.groups.Edge.{Edge}

-- of the tops of a unit, the first of which has that number, their own numbers; a type unit has none of its own
abbrev pub own_in : {P : Type 0} → ℕ → Kind P → DwUnit P → List (Option ℕ)
own_in top (OfType signature main) u = None ∷ []
own_in top _ u = map Some (range_with_len top (tops_under u.below))

-- of those of all units
unfoldable pub own_numbers : {P : Type 0} → ℕ → List (DwUnit P) → List (Option ℕ)
own_numbers top [] = []
own_numbers top (u ∷ units) = own_in top u.kind u ++ own_numbers (top + top_count u.kind u.below) units

abbrev pub own_at : List (Option ℕ) → ℕ → Option ℕ
own_at numbers n = slice_index_or numbers n None

-- of what has that name
abbrev pub own_of : List (Option ℕ) → CrossName → Option ℕ
own_of numbers (AtPath top path) = own_at numbers top
own_of numbers _ = None

-- in looks across files a top that has the one number of its own leads into one that has the other
pub record IsOwnEdge (own : List (Option ℕ)) (targets : List (List ℕ)) (n m : ℕ) : Type 0 where
  pub k : ℕ
  pub t : ℕ
  pub from : own_at own k ≡ Some n
  pub there : In t (slice_index_or targets k [])
  pub to : own_at own t ≡ Some m

-- ---- by the nodes of units

-- of that many tops of a unit those that have numbers of their own
abbrev pub own_tops_of : RowKind → ℕ → ℕ
own_tops_of (TypeRow signature) n = 0
own_tops_of _ n = n

abbrev pub own_list : RowKind → ℕ → ℕ → List (Option ℕ)
own_list (TypeRow signature) top n = None ∷ []
own_list _ top n = map Some (range_with_len top n)

abbrev pub tops_in : UnitNodes → ℕ
tops_in x = x.tops_end - x.top

unfoldable pub own_count : List UnitNodes → ℕ
own_count [] = 0
own_count (x ∷ nodes) = own_tops_of x.kind (tops_in x) + own_count nodes

unfoldable pub own_by : ℕ → List UnitNodes → List (Option ℕ)
own_by top [] = []
own_by top (x ∷ nodes) = own_list x.kind top (tops_in x) ++ own_by (top + own_tops_of x.kind (tops_in x)) nodes

abbrev pub is_type_node : UnitNodes → Bool
is_type_node x = elim x.kind as (λ _. Bool) [ TypeRow signature ↦ true | _ ↦ false ]

-- ---- edges

abbrev pub own_edge : ℕ → ℕ → Edge
own_edge from to = record { key = from; value = to }

-- one of these tops has that number of its own
pub record LeadsTo (own : List (Option ℕ)) (targets : List ℕ) (from : ℕ) (e : Edge) : Type 0 where
  pub t : ℕ
  pub there : In t targets
  pub to : own_at own t ≡ Some e.value
  pub key : from ≡ e.key

-- an edge was put behind others for each of these tops that has a number of its own
pub record PutsList (own : List (Option ℕ)) (targets : List ℕ) (from : ℕ) (old new : List Edge) : Type 0 where
  pub only : (e : Edge) → In e new → In e old ⊎ LeadsTo own targets from e
  pub kept : (e : Edge) → In e old → In e new
  pub found : (t m : ℕ) → In t targets → own_at own t ≡ Some m → In (own_edge from m) new

pub record IsEdgeBefore (own : List (Option ℕ)) (targets : List (List ℕ)) (n : ℕ) (e : Edge) : Type 0 where
  pub edge : IsOwnEdge own targets e.key e.value
  pub low : edge.k < n

-- so for each of the lists before that number whose top has one
pub record PutsLists (own : List (Option ℕ)) (targets : List (List ℕ)) (n : ℕ) (old new : List Edge) : Type 0 where
  pub only : (e : Edge) → In e new → In e old ⊎ IsEdgeBefore own targets n e
  pub kept : (e : Edge) → In e old → In e new
  pub found : (from to : ℕ) (e : IsOwnEdge own targets from to) → e.k < n → In (own_edge from to) new

-- a top refers into another
pub record IsRefersEdge (tops : List Top) (e : Edge) : Type 0 where
  pub top : Top
  pub there : In top tops
  pub from : top.number ≡ e.key
  pub refers : refers_to e.value top ≡ true

-- just that was put behind others, where it leads to numbers below one
pub record PutsRefers (tops : List Top) (high : ℕ) (old new : List Edge) : Type 0 where
  pub only : (e : Edge) → In e new → In e old ⊎ IsRefersEdge tops e
  pub kept : (e : Edge) → In e old → In e new
  pub low : (e : Edge) → In e new → In e old ⊎ (e.value < high)
  pub found : (t : Top) (m : ℕ) → In t tops → refers_to m t ≡ true → In (own_edge t.number m) new

-- Of the tops of units before one, where so many tops are before it, each edge is there, and others are of tops too.
pub record AreRefers (tops : List Top) (unit top : ℕ) (edges : List Edge) : Type 0 where
  pub only : (e : Edge) → In e edges → IsRefersEdge tops e
  pub low : (e : Edge) → In e edges → e.value < top
  pub found : (t : Top) (m : ℕ) → In t tops → t.unit < unit → refers_to m t ≡ true → In (own_edge t.number m) edges
