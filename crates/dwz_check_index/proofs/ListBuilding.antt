-- The entries of a list with tops and spaces: what is built, and what is left.
use Rattle.std.proofs.Common.{◌≡◌, ℕ, suc, ◌+◌, ◌<◌, ◌≤◌, Bool, true, false, List, [], ◌∷◌, ◌++◌, length, Some, slice_get, refl, sym, ap, subst, ◌∙◌, arith}
use Rattle.std.proofs.lemmas.List.{length-append}
use Rattle.dwz_def_reading.specs.Entries.{RawEntry}
use Rattle.dwz_def_reading.specs.Trees.{End, Entry, Forest, size}
use Rattle.dwz_def_reading.specs.Units.{RawUnit}
use Rattle.dwz_unit.specs.declared.rows.RawEntry.{RawEntry as EntryOfCode}
use Rattle.dwz_unit.specs.Rows.{EntryRow, rows_of, shown_entries}
use Rattle.dwz_graph.specs.Building.{HasList, IsList}
use Rattle.dwz_graph.specs.Spaces.{stored_space}
use Rattle.dwz_graph.proofs.BelowLemmas.{next_list}
use Rattle.dwz_graph.proofs.ListLemmas.{Next, list_next, some_entry}
use Rattle.dwz_check_index.specs.declared.index.Stands.{Stands}
use Rattle.dwz_check_index.specs.declared.index.Stands.TheVariants.{InTop, PartialRoot, PartialSpace, UnitRoot, UnitSpace}
use Rattle.dwz_check_index.specs.Building.{IsFew, lone_at, step, top_entry, with_list, with_outer, with_top}
use Rattle.dwz_check_index.specs.Index.{CrossIndex}
use Rattle.dwz_check_index.proofs.BelowBuilding.{steps_long}

-- ---- with a top, or a space, first

module _ {E : Type 0} (space : E → Bool) (unit : ℕ) (stands : Stands) where
  pub list_top : (up i first : ℕ) (e : E) (c n : Forest E) (x : CrossIndex) → space e ≡ false
      → with_list space unit stands up i first (Entry e c n) x ≡ with_list space unit stands up (suc i) (first + 1 + size c) n (with_top unit up first c x)
  unfolding with_list
  list_top up i first e c n x h = rw (h, with_list) refl

  pub list_space : (up i first : ℕ) (e : E) (c n : Forest E) (x : CrossIndex) → space e ≡ true
      → with_list space unit stands up i first (Entry e c n) x
      ≡ with_list space unit stands up (suc i) (first + 1 + size c) n (with_list space unit stands first 0 (first + 1) c (with_outer stands up i first x))
  unfolding with_list
  list_space up i first e c n x h = rw (h, with_list) refl

-- ---- how many tops and roots

pub lone_few : (stands : Stands) (first : ℕ) → length (lone_at stands first) ≤ 1
lone_few (InTop n) first = omega arith
lone_few (UnitRoot n) first = omega arith
lone_few (UnitSpace n) first = omega arith
lone_few PartialRoot first = omega arith
lone_few PartialSpace first = omega arith

pub few_top : (unit outer first : ℕ) (c : Forest RawEntry) (x : CrossIndex) → IsFew x first → IsFew (with_top unit outer first c x) (first + 1)
few_top unit outer first c x h =
    let a = h.tops in
    let b = h.lone in
    let n = length-append x.tops (top_entry first unit outer ∷ []) in
    record { tops = omega arith; lone = omega arith }

pub few_outer : (stands : Stands) (up i first : ℕ) (x : CrossIndex) → IsFew x first → IsFew (with_outer stands up i first x) (first + 1)
few_outer stands up i first x h =
    let a = h.tops in
    let b = h.lone in
    let d = lone_few stands first in
    let n = length-append x.lone (lone_at stands first) in
    record { tops = omega arith; lone = omega arith }

pub few_more : (x : CrossIndex) (m n : ℕ) → m ≤ n → IsFew x m → IsFew x n
few_more x m n le h = let a = h.tops in let b = h.lone in record { tops = omega arith; lone = omega arith }

-- what holds of both holds of the one that is chosen
chosen : (P : CrossIndex → Type 0) (a b : CrossIndex) → P a → P b → (s : Bool) → P (elim s as (λ _. CrossIndex) [ false ↦ a | true ↦ b ])
chosen P a b p q false = p
chosen P a b p q true = q

module _ (space : RawEntry → Bool) (unit : ℕ) (stands : Stands) where
  pub few_list : (up i first : ℕ) (f : Forest RawEntry) (x : CrossIndex) → IsFew x first → IsFew (with_list space unit stands up i first f x) (first + size f)
  unfolding with_list
  few_list up i first End x h = few_more x first (first + 0) (omega arith) h
  few_list up i first (Entry e c n) x h =
      chosen (λ w. IsFew w (first + (size c + size n + 1)))
      (with_list space unit stands up (suc i) (first + 1 + size c) n (with_top unit up first c x))
      (with_list space unit stands up (suc i) (first + 1 + size c) n inside)
      (few_more (with_list space unit stands up (suc i) (first + 1 + size c) n (with_top unit up first c x)) (first + 1 + size c + size n) (first + (size c + size n + 1)) (omega arith)
      (few_list up (suc i) (first + 1 + size c) n (with_top unit up first c x)
      (few_more (with_top unit up first c x) (first + 1) (first + 1 + size c) (omega arith) (few_top unit up first c x h))))
      (few_more (with_list space unit stands up (suc i) (first + 1 + size c) n inside) (first + 1 + size c + size n) (first + (size c + size n + 1)) (omega arith)
      (few_list up (suc i) (first + 1 + size c) n inside (few_list first 0 (first + 1) c (with_outer stands up i first x) (few_outer stands up i first x h))))
      (space e)
    where
      inside : CrossIndex
      inside = with_list space unit stands first 0 (first + 1) c (with_outer stands up i first x)

  -- the numbers that the file begins with stay
  pub starts_kept : (up i first : ℕ) (f : Forest RawEntry) (x : CrossIndex) → (with_list space unit stands up i first f x).starts ≡ x.starts
  unfolding with_list
  starts_kept up i first End x = refl
  starts_kept up i first (Entry e c n) x =
      chosen (λ w. w.starts ≡ x.starts)
      (with_list space unit stands up (suc i) (first + 1 + size c) n (with_top unit up first c x))
      (with_list space unit stands up (suc i) (first + 1 + size c) n inside)
      (starts_kept up (suc i) (first + 1 + size c) n (with_top unit up first c x))
      (starts_kept up (suc i) (first + 1 + size c) n inside ∙ starts_kept first 0 (first + 1) c (with_outer stands up i first x))
      (space e)
    where
      inside : CrossIndex
      inside = with_list space unit stands first 0 (first + 1) c (with_outer stands up i first x)

  -- where units begin stays
  pub units_kept : (up i first : ℕ) (f : Forest RawEntry) (x : CrossIndex) → (with_list space unit stands up i first f x).units ≡ x.units
  unfolding with_list
  units_kept up i first End x = refl
  units_kept up i first (Entry e c n) x =
      chosen (λ w. w.units ≡ x.units)
      (with_list space unit stands up (suc i) (first + 1 + size c) n (with_top unit up first c x))
      (with_list space unit stands up (suc i) (first + 1 + size c) n inside)
      (units_kept up (suc i) (first + 1 + size c) n (with_top unit up first c x))
      (units_kept up (suc i) (first + 1 + size c) n inside ∙ units_kept first 0 (first + 1) c (with_outer stands up i first x))
      (space e)
    where
      inside : CrossIndex
      inside = with_list space unit stands first 0 (first + 1) c (with_outer stands up i first x)

  -- there is one step for each entry
  pub list_long : (up i first : ℕ) (f : Forest RawEntry) (x : CrossIndex) → length (with_list space unit stands up i first f x).steps ≡ length x.steps + size f
  unfolding with_list
  list_long up i first End x = omega arith
  list_long up i first (Entry e c n) x =
      chosen (λ w. length w.steps ≡ length x.steps + (size c + size n + 1))
      (with_list space unit stands up (suc i) (first + 1 + size c) n (with_top unit up first c x))
      (with_list space unit stands up (suc i) (first + 1 + size c) n inside)
      (omega (arith, list_long up (suc i) (first + 1 + size c) n (with_top unit up first c x), top_long unit up first c x))
      (omega (arith, list_long up (suc i) (first + 1 + size c) n inside, list_long first 0 (first + 1) c (with_outer stands up i first x), length-append x.steps (step up i stands ∷ [])))
      (space e)
    where
      inside : CrossIndex
      inside = with_list space unit stands first 0 (first + 1) c (with_outer stands up i first x)

      top_long : (unit outer first : ℕ) (c : Forest RawEntry) (x : CrossIndex) → length (with_top unit outer first c x).steps ≡ length x.steps + size c + 1
      top_long unit outer first c x =
          let s = step first 0 (InTop (x.starts.top + length x.tops)) in
          omega (arith, length-append x.steps (s ∷ []), steps_long (InTop (x.starts.top + length x.tops)) first 0 (first + 1) c (x.steps ++ s ∷ []))

-- ---- the loop

-- a part of the list is left, and with that what is built is what is asked for
pub record Left (raw : List RawUnit) (first end unit up : ℕ) (stands : Stands) (old new : CrossIndex) (entry index : ℕ) (list : Forest RawEntry) : Type 0 where
  pub left : Forest RawEntry
  pub is : IsList raw entry end left
  pub built : with_list stored_space unit stands up index entry left new ≡ with_list stored_space unit stands up 0 first list old

pub record Goes (raw : List RawUnit) (first end unit up : ℕ) (stands : Stands) (old new : CrossIndex) (entry index : ℕ) : Type 0 where
  pub list : HasList raw entry end
  pub low : index + first ≤ entry
  pub few : IsFew new entry
  pub starts : new.starts ≡ old.starts
  pub rest : (list : Forest RawEntry) → IsList raw first end list → Left raw first end unit up stands old new entry index list

pub begins : (raw : List RawUnit) (first end unit up : ℕ) (stands : Stands) (old : CrossIndex) → HasList raw first end → IsFew old first → Goes raw first end unit up stands old old first 0
begins raw first end unit up stands old has few =
    record { list = has; low = omega arith; few = few; starts = refl; rest = λ list is. record { left = list; is = is; built = refl } }

pub ends : (raw : List RawUnit) (first end unit up : ℕ) (stands : Stands) (old new : CrossIndex) (entry index : ℕ) → Goes raw first end unit up stands old new entry index → end ≤ entry
    → (list : Forest RawEntry) → IsList raw first end list → new ≡ with_list stored_space unit stands up 0 first list old
unfolding with_list
ends raw first end unit up stands old new entry index g le list is = (let l = g.rest list is in by l.left l.is l.built) where
  by : (left : Forest RawEntry) → IsList raw entry end left → with_list stored_space unit stands up index entry left new ≡ with_list stored_space unit stands up 0 first list old
      → new ≡ with_list stored_space unit stands up 0 first list old
  by End is e = e
  by (Entry d c n) is e = absurd (let z = is.ends in omega arith)

-- an entry is no space just where the test says so
tested : (raw : List RawUnit) (entry end : ℕ) (x : EntryOfCode) (d : RawEntry) (c n : Forest RawEntry) (b t : Bool) → Next raw entry end x d c n
    → ((row : EntryRow) → slice_get (rows_of raw) entry ≡ Some row → b ≡ stored_space row.entry) → b ≡ t → stored_space d ≡ t
tested raw entry end x d c n b t next says is = ap stored_space (sym next.entry) ∙ sym (says next.row next.found) ∙ is

pub with_one_top : (raw : List RawUnit) (first end unit up : ℕ) (stands : Stands) (old now new : CrossIndex) (entry index : ℕ) (x : EntryOfCode) (b : Bool)
    → Goes raw first end unit up stands old now entry index → entry < end → slice_get (shown_entries raw) entry ≡ Some x
    → ((row : EntryRow) → slice_get (rows_of raw) entry ≡ Some row → b ≡ stored_space row.entry) → b ≡ false
    → ((children : Forest RawEntry) → IsList raw (entry + 1) x.end children → new ≡ with_top unit up entry children now)
    → Goes raw first end unit up stands old new x.end (index + 1)
with_one_top raw first end unit up stands old now new entry index x b g lt shown says is made =
    let h = next_list raw entry end x g.list lt shown in
    let s = some_entry raw entry end g.list lt in
    let n = list_next raw entry end x s.entry s.children s.next s.is shown in
    let low = g.low in
    let less = h.2 in
    let same = made s.children n.children_are in
    record {
      list = h.1;
      low = omega arith;
      few = few_more new (entry + 1) x.end (omega arith) (subst (λ (w : CrossIndex). IsFew w (entry + 1)) (sym same) (few_top unit up entry s.children now g.few));
      starts = ap (λ (w : CrossIndex). w.starts) same ∙ g.starts;
      rest = λ list are. (let l = g.rest list are in by list l.left l.is l.built);
    } where
      by : (list left : Forest RawEntry) → IsList raw entry end left → with_list stored_space unit stands up index entry left now ≡ with_list stored_space unit stands up 0 first list old
          → Left raw first end unit up stands old new x.end (index + 1) list
      by list End is e = absurd (let z = is.ends in omega arith)
      by list (Entry d c n) are e =
          let r = list_next raw entry end x d c n are shown in
          let one : index + 1 ≡ suc index = omega arith in
          record {
            left = n;
            is = r.next_are;
            built = (λ k. with_list stored_space unit stands up (one k) (r.ends k) n (made c r.children_are k))
                ∙ sym (list_top stored_space unit stands up index entry d c n now (tested raw entry end x d c n b false r says is))
                ∙ e;
          }

pub with_one_space : (raw : List RawUnit) (first end unit up : ℕ) (stands : Stands) (old now opened new : CrossIndex) (entry index : ℕ) (x : EntryOfCode) (b : Bool)
    → Goes raw first end unit up stands old now entry index → entry < end → slice_get (shown_entries raw) entry ≡ Some x
    → ((row : EntryRow) → slice_get (rows_of raw) entry ≡ Some row → b ≡ stored_space row.entry) → b ≡ true → opened ≡ with_outer stands up index entry now
    → ((children : Forest RawEntry) → IsList raw (entry + 1) x.end children → new ≡ with_list stored_space unit stands entry 0 (entry + 1) children opened)
    → Goes raw first end unit up stands old new x.end (index + 1)
with_one_space raw first end unit up stands old now opened new entry index x b g lt shown says is open_is made =
    let h = next_list raw entry end x g.list lt shown in
    let s = some_entry raw entry end g.list lt in
    let n = list_next raw entry end x s.entry s.children s.next s.is shown in
    let low = g.low in
    let less = h.2 in
    let same = made s.children n.children_are ∙ ap (with_list stored_space unit stands entry 0 (entry + 1) s.children) open_is in
    record {
      list = h.1;
      low = omega arith;
      few = subst (λ (w : ℕ). IsFew new w) (sym n.ends) (subst (λ (w : CrossIndex). IsFew w (entry + 1 + size s.children)) (sym same)
          (few_list stored_space unit stands entry 0 (entry + 1) s.children (with_outer stands up index entry now) (few_outer stands up index entry now g.few)));
      starts = ap (λ (w : CrossIndex). w.starts) same ∙ starts_kept stored_space unit stands entry 0 (entry + 1) s.children (with_outer stands up index entry now) ∙ g.starts;
      rest = λ list are. (let l = g.rest list are in by list l.left l.is l.built);
    } where
      by : (list left : Forest RawEntry) → IsList raw entry end left → with_list stored_space unit stands up index entry left now ≡ with_list stored_space unit stands up 0 first list old
          → Left raw first end unit up stands old new x.end (index + 1) list
      by list End is e = absurd (let z = is.ends in omega arith)
      by list (Entry d c n) are e =
          let r = list_next raw entry end x d c n are shown in
          let one : index + 1 ≡ suc index = omega arith in
          let same = made c r.children_are ∙ ap (with_list stored_space unit stands entry 0 (entry + 1) c) open_is in
          record {
            left = n;
            is = r.next_are;
            built = (λ k. with_list stored_space unit stands up (one k) (r.ends k) n (same k))
                ∙ sym (list_space stored_space unit stands up index entry d c n now (tested raw entry end x d c n b true r says is)) ∙ e;
          }
