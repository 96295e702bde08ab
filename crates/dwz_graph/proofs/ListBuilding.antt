-- The entries of a list with tops and spaces: what is built, and what is left.
use Rattle.std.proofs.Common.{◌≡◌, ℕ, suc, ◌+◌, ◌<◌, ◌≤◌, Bool, true, false, List, [], ◌∷◌, ◌++◌, length, Some, slice_get, refl, sym, ap, subst, ◌∙◌, arith}
use Rattle.std.proofs.lemmas.List.{length-append}
use Rattle.dwz_def_reading.specs.Entries.{RawEntry}
use Rattle.dwz_def_reading.specs.Trees.{End, Entry, Forest, size}
use Rattle.dwz_def_reading.specs.Units.{RawUnit}
use Rattle.dwz_unit.specs.declared.rows.RawEntry.{RawEntry as EntryOfCode}
use Rattle.dwz_unit.specs.Rows.{EntryRow, rows_of, shown_entries}
use Rattle.dwz_graph.specs.Building.{HasList, IsFew, IsList, space_behind, with_list, with_space, with_top}
use Rattle.dwz_graph.specs.Index.{Index}
use Rattle.dwz_graph.specs.Spaces.{stored_space}
use Rattle.dwz_graph.specs.Steps.{space_entry, step, steps_below, top_entry}
use Rattle.dwz_graph.proofs.BelowLemmas.{next_list}
use Rattle.dwz_graph.proofs.ListLemmas.{Next, list_next, some_entry}

-- ---- with a top, or a space, first

pub list_top : (unit inner up i first : ℕ) (e : RawEntry) (c n : Forest RawEntry) (x : Index) → false ≡ stored_space e
    → with_list unit inner up i first (Entry e c n) x ≡ with_list unit inner up (suc i) (first + 1 + size c) n (with_top unit inner first c x)
unfolding with_list
list_top unit inner up i first e c n x h = rw (sym h, with_list) refl

pub list_space : (unit inner up i first : ℕ) (e : RawEntry) (c n : Forest RawEntry) (x : Index) → true ≡ stored_space e
    → with_list unit inner up i first (Entry e c n) x ≡ with_list unit inner up (suc i) (first + 1 + size c) n (with_list unit (space_behind x) first 0 (first + 1) c (with_space up i inner first x))
unfolding with_list
list_space unit inner up i first e c n x h = rw (sym h, with_list) refl

-- ---- how many tops and spaces

pub few_top : (unit inner first : ℕ) (c : Forest RawEntry) (x : Index) → IsFew x first → IsFew (with_top unit inner first c x) (first + 1)
few_top unit inner first c x h =
    let a = h.tops in
    let b = h.spaces in
    let n = length-append x.tops (top_entry first unit inner ∷ []) in
    record { tops = omega arith; spaces = omega arith }

pub few_space : (up i outer first : ℕ) (x : Index) → IsFew x first → IsFew (with_space up i outer first x) (first + 1)
few_space up i outer first x h =
    let a = h.tops in
    let b = h.spaces in
    let n = length-append x.spaces (space_entry first outer ∷ []) in
    record { tops = omega arith; spaces = omega arith }

pub few_more : (x : Index) (m n : ℕ) → m ≤ n → IsFew x m → IsFew x n
few_more x m n le h = let a = h.tops in let b = h.spaces in record { tops = omega arith; spaces = omega arith }

pub few_list : (unit inner up i first : ℕ) (f : Forest RawEntry) (x : Index) → IsFew x first → IsFew (with_list unit inner up i first f x) (first + size f)
unfolding with_list
few_list unit inner up i first End x h = few_more x first (first + 0) (omega arith) h
few_list unit inner up i first (Entry e c n) x h =
    go (few_list unit inner up (suc i) (first + 1 + size c) n (with_top unit inner first c x)
    (few_more (with_top unit inner first c x) (first + 1) (first + 1 + size c) (omega arith) (few_top unit inner first c x h)))
    (few_list unit inner up (suc i) (first + 1 + size c) n (with_list unit (space_behind x) first 0 (first + 1) c (with_space up i inner first x))
    (few_list unit (space_behind x) first 0 (first + 1) c (with_space up i inner first x) (few_space up i inner first x h)))
    (stored_space e)
  where
    a : Index
    a = with_list unit inner up (suc i) (first + 1 + size c) n (with_top unit inner first c x)

    b : Index
    b = with_list unit inner up (suc i) (first + 1 + size c) n (with_list unit (space_behind x) first 0 (first + 1) c (with_space up i inner first x))

    go : IsFew a (first + 1 + size c + size n) → IsFew b (first + 1 + size c + size n) → (s : Bool) → IsFew (elim s as (λ _. Index) [ false ↦ a | true ↦ b ]) (first + (size c + size n + 1))
    go p q false = few_more a (first + 1 + size c + size n) (first + (size c + size n + 1)) (omega arith) p
    go p q true = few_more b (first + 1 + size c + size n) (first + (size c + size n + 1)) (omega arith) q

-- the numbers that the file begins with stay
pub starts_kept : (unit inner up i first : ℕ) (f : Forest RawEntry) (x : Index) → (with_list unit inner up i first f x).starts ≡ x.starts
unfolding with_list
starts_kept unit inner up i first End x = refl
starts_kept unit inner up i first (Entry e c n) x =
    go (starts_kept unit inner up (suc i) (first + 1 + size c) n (with_top unit inner first c x))
    (starts_kept unit inner up (suc i) (first + 1 + size c) n (with_list unit (space_behind x) first 0 (first + 1) c (with_space up i inner first x))
    ∙ starts_kept unit (space_behind x) first 0 (first + 1) c (with_space up i inner first x))
    (stored_space e)
  where
    a : Index
    a = with_list unit inner up (suc i) (first + 1 + size c) n (with_top unit inner first c x)

    b : Index
    b = with_list unit inner up (suc i) (first + 1 + size c) n (with_list unit (space_behind x) first 0 (first + 1) c (with_space up i inner first x))

    go : a.starts ≡ x.starts → b.starts ≡ x.starts → (s : Bool) → (elim s as (λ _. Index) [ false ↦ a | true ↦ b ]).starts ≡ x.starts
    go p q false = p
    go p q true = q

-- ---- the loop

-- a part of the list is left, and with that what is built is what is asked for
pub record Left (raw : List RawUnit) (first end unit inner up : ℕ) (old new : Index) (entry index : ℕ) (list : Forest RawEntry) : Type 0 where
  pub left : Forest RawEntry
  pub is : IsList raw entry end left
  pub built : with_list unit inner up index entry left new ≡ with_list unit inner up 0 first list old

pub record Goes (raw : List RawUnit) (first end unit inner up : ℕ) (old new : Index) (entry index : ℕ) : Type 0 where
  pub list : HasList raw entry end
  pub low : index + first ≤ entry
  pub few : IsFew new entry
  pub starts : new.starts ≡ old.starts
  pub rest : (list : Forest RawEntry) → IsList raw first end list → Left raw first end unit inner up old new entry index list

pub begins : (raw : List RawUnit) (first end unit inner up : ℕ) (old : Index) → HasList raw first end → IsFew old first → Goes raw first end unit inner up old old first 0
begins raw first end unit inner up old has few = record { list = has; low = omega arith; few = few; starts = refl; rest = λ list is. record { left = list; is = is; built = refl } }

pub ends : (raw : List RawUnit) (first end unit inner up : ℕ) (old new : Index) (entry index : ℕ) → Goes raw first end unit inner up old new entry index → end ≤ entry → (list : Forest RawEntry)
    → IsList raw first end list → new ≡ with_list unit inner up 0 first list old
unfolding with_list
ends raw first end unit inner up old new entry index g le list is = (let l = g.rest list is in by l.left l.is l.built) where
  by : (left : Forest RawEntry) → IsList raw entry end left → with_list unit inner up index entry left new ≡ with_list unit inner up 0 first list old → new ≡ with_list unit inner up 0 first list old
  by End is e = e
  by (Entry d c n) is e = absurd (let z = is.ends in omega arith)

-- an entry is no space just where the test says so
tested : (raw : List RawUnit) (entry end : ℕ) (x : EntryOfCode) (d : RawEntry) (c n : Forest RawEntry) (b t : Bool) → Next raw entry end x d c n
    → ((row : EntryRow) → slice_get (rows_of raw) entry ≡ Some row → b ≡ stored_space row.entry) → b ≡ t → t ≡ stored_space d
tested raw entry end x d c n b t next says is = sym is ∙ says next.row next.found ∙ ap stored_space next.entry

pub with_one_top : (raw : List RawUnit) (first end unit inner up : ℕ) (old now new : Index) (entry index : ℕ) (x : EntryOfCode) (b : Bool) → Goes raw first end unit inner up old now entry index
    → entry < end → slice_get (shown_entries raw) entry ≡ Some x
    → ((row : EntryRow) → slice_get (rows_of raw) entry ≡ Some row → b ≡ stored_space row.entry) → b ≡ false
    → ((children : Forest RawEntry) → IsList raw (entry + 1) x.end children → new ≡ with_top unit inner entry children now) → Goes raw first end unit inner up old new x.end (index + 1)
with_one_top raw first end unit inner up old now new entry index x b g lt shown says is made =
    let h = next_list raw entry end x g.list lt shown in
    let s = some_entry raw entry end g.list lt in
    let n = list_next raw entry end x s.entry s.children s.next s.is shown in
    let low = g.low in
    let less = h.2 in
    let same = made s.children n.children_are in
    record {
      list = h.1;
      low = omega arith;
      few = few_more new (entry + 1) x.end (omega arith) (subst (λ (w : Index). IsFew w (entry + 1)) (sym same) (few_top unit inner entry s.children now g.few));
      starts = ap (λ (w : Index). w.starts) same ∙ g.starts;
      rest = λ list are. (let l = g.rest list are in by list l.left l.is l.built);
    } where
      by : (list left : Forest RawEntry) → IsList raw entry end left → with_list unit inner up index entry left now ≡ with_list unit inner up 0 first list old
          → Left raw first end unit inner up old new x.end (index + 1) list
      by list End is e = absurd (let z = is.ends in omega arith)
      by list (Entry d c n) are e =
          let r = list_next raw entry end x d c n are shown in
          let one : index + 1 ≡ suc index = omega arith in
          record {
            left = n;
            is = r.next_are;
            built = (λ k. with_list unit inner up (one k) (r.ends k) n (made c r.children_are k)) ∙ sym (list_top unit inner up index entry d c n now (tested raw entry end x d c n b false r says is))
                ∙ e;
          }

pub with_one_space : (raw : List RawUnit) (first end unit inner up : ℕ) (old now opened new : Index) (entry index space : ℕ) (x : EntryOfCode) (b : Bool)
    → Goes raw first end unit inner up old now entry index → entry < end → slice_get (shown_entries raw) entry ≡ Some x
    → ((row : EntryRow) → slice_get (rows_of raw) entry ≡ Some row → b ≡ stored_space row.entry) → b ≡ true → opened ≡ with_space up index inner entry now → space ≡ space_behind now
    → ((children : Forest RawEntry) → IsList raw (entry + 1) x.end children → new ≡ with_list unit space entry 0 (entry + 1) children opened)
    → Goes raw first end unit inner up old new x.end (index + 1)
with_one_space raw first end unit inner up old now opened new entry index space x b g lt shown says is open_is number made =
    let h = next_list raw entry end x g.list lt shown in
    let s = some_entry raw entry end g.list lt in
    let n = list_next raw entry end x s.entry s.children s.next s.is shown in
    let low = g.low in
    let less = h.2 in
    let same = made s.children n.children_are ∙ (λ k. with_list unit (number k) entry 0 (entry + 1) s.children (open_is k)) in
    record {
      list = h.1;
      low = omega arith;
      few = subst (λ (w : ℕ). IsFew new w) (sym n.ends) (subst (λ (w : Index). IsFew w (entry + 1 + size s.children)) (sym same)
          (few_list unit (space_behind now) entry 0 (entry + 1) s.children (with_space up index inner entry now) (few_space up index inner entry now g.few)));
      starts = ap (λ (w : Index). w.starts) same ∙ starts_kept unit (space_behind now) entry 0 (entry + 1) s.children (with_space up index inner entry now) ∙ g.starts;
      rest = λ list are. (let l = g.rest list are in by list l.left l.is l.built);
    } where
      by : (list left : Forest RawEntry) → IsList raw entry end left → with_list unit inner up index entry left now ≡ with_list unit inner up 0 first list old
          → Left raw first end unit inner up old new x.end (index + 1) list
      by list End is e = absurd (let z = is.ends in omega arith)
      by list (Entry d c n) are e =
          let r = list_next raw entry end x d c n are shown in
          let one : index + 1 ≡ suc index = omega arith in
          let same = made c r.children_are ∙ (λ k. with_list unit (number k) entry 0 (entry + 1) c (open_is k)) in
          record {
            left = n;
            is = r.next_are;
            built = (λ k. with_list unit inner up (one k) (r.ends k) n (same k)) ∙ sym (list_space unit inner up index entry d c n now (tested raw entry end x d c n b true r says is)) ∙ e;
          }

-- ---- how many ways up

pub below_long : {E : Type 0} (top up i first : ℕ) (f : Forest E) → length (steps_below top up i first f) ≡ size f
unfolding steps_below
below_long top up i first End = refl
below_long top up i first (Entry e c n) =
    let a = steps_below top first 0 (first + 1) c in
    let b = steps_below top up (suc i) (first + 1 + size c) n in
    omega (arith, length-append a b, below_long top first 0 (first + 1) c, below_long top up (suc i) (first + 1 + size c) n)

pub list_long : (unit inner up i first : ℕ) (f : Forest RawEntry) (x : Index) → length (with_list unit inner up i first f x).steps ≡ length x.steps + size f
unfolding with_list
list_long unit inner up i first End x = omega arith
list_long unit inner up i first (Entry e c n) x =
    go (list_long unit inner up (suc i) (first + 1 + size c) n (with_top unit inner first c x))
    (list_long unit inner up (suc i) (first + 1 + size c) n (with_list unit (space_behind x) first 0 (first + 1) c (with_space up i inner first x)))
    (list_long unit (space_behind x) first 0 (first + 1) c (with_space up i inner first x)) (stored_space e)
  where
    top : ℕ
    top = suc (x.starts.top + length x.tops)

    a : Index
    a = with_list unit inner up (suc i) (first + 1 + size c) n (with_top unit inner first c x)

    inside : Index
    inside = with_list unit (space_behind x) first 0 (first + 1) c (with_space up i inner first x)

    b : Index
    b = with_list unit inner up (suc i) (first + 1 + size c) n inside

    go : length a.steps ≡ length (with_top unit inner first c x).steps + size n → length b.steps ≡ length inside.steps + size n → length inside.steps ≡ length (with_space up i inner first x).steps
        + size c → (s : Bool)
        → length (elim s as (λ _. Index) [ false ↦ a | true ↦ b ]).steps ≡ length x.steps + (size c + size n + 1)
    go p q r false =
        let one = length-append x.steps (step first 0 top ∷ []) in
        let two = length-append (x.steps ++ step first 0 top ∷ []) (steps_below top first 0 (first + 1) c) in
        omega (arith, p, one, two, below_long top first 0 (first + 1) c)
    go p q r true = let one = length-append x.steps (step up i 0 ∷ []) in omega (arith, q, r, one)
