-- The ways up of a list in a top, entry by entry: what is put, and what is left.
use Rattle.std.proofs.Common.{◌≡◌, ℕ, suc, ◌+◌, ◌<◌, ◌≤◌, List, [], ◌∷◌, ◌++◌, length, Some, slice_get, refl, ◌∙◌, arith}
use Rattle.std.proofs.lemmas.List.{length-append}
use Rattle.dwz_def_reading.specs.Entries.{RawEntry}
use Rattle.dwz_def_reading.specs.Trees.{End, Entry, Forest, size}
use Rattle.dwz_def_reading.specs.Units.{RawUnit}
use Rattle.dwz_unit.specs.declared.rows.RawEntry.{RawEntry as EntryOfCode}
use Rattle.dwz_unit.specs.Rows.{shown_entries}
use Rattle.dwz_graph.specs.Building.{HasList, IsList}
use Rattle.dwz_graph.proofs.BelowLemmas.{next_list}
use Rattle.dwz_graph.proofs.ListLemmas.{list_next}
use Rattle.dwz_check_index.specs.declared.index.Stands.{Stands}
use Rattle.dwz_check_index.specs.declared.index.Step.{Step}
use Rattle.dwz_check_index.specs.Building.{step, with_steps}

-- a part of the list is left, and what is put with that is all
pub record Left (raw : List RawUnit) (first end up : ℕ) (stands : Stands) (old new : List Step) (entry index : ℕ) (list : Forest RawEntry) : Type 0 where
  pub left : Forest RawEntry
  pub is : IsList raw entry end left
  pub steps : with_steps stands up index entry left new ≡ with_steps stands up 0 first list old

pub record Goes (raw : List RawUnit) (first end up : ℕ) (stands : Stands) (old new : List Step) (entry index : ℕ) : Type 0 where
  pub list : HasList raw entry end
  pub low : index + first ≤ entry
  pub rest : (list : Forest RawEntry) → IsList raw first end list → Left raw first end up stands old new entry index list

pub begins : (raw : List RawUnit) (first end up : ℕ) (stands : Stands) (old : List Step) → HasList raw first end → Goes raw first end up stands old old first 0
begins raw first end up stands old has = record { list = has; low = omega arith; rest = λ list is. record { left = list; is = is; steps = refl } }

pub goes_on : (raw : List RawUnit) (first end up : ℕ) (stands : Stands) (old now pushed new : List Step) (entry index : ℕ) (x : EntryOfCode) → Goes raw first end up stands old now entry index
    → entry < end → slice_get (shown_entries raw) entry ≡ Some x → pushed ≡ now ++ step up index stands ∷ []
    → ((list : Forest RawEntry) → IsList raw (entry + 1) x.end list → new ≡ with_steps stands entry 0 (entry + 1) list pushed)
    → Goes raw first end up stands old new x.end (index + 1)
unfolding with_steps
goes_on raw first end up stands old now pushed new entry index x g lt shown put below =
    let h = next_list raw entry end x g.list lt shown in
    let low = g.low in
    let less = h.2 in
    record {
      list = h.1;
      low = omega arith;
      rest = λ list is. (let l = g.rest list is in by list l.left l.is l.steps);
    } where
      by : (list left : Forest RawEntry) → IsList raw entry end left → with_steps stands up index entry left now ≡ with_steps stands up 0 first list old
          → Left raw first end up stands old new x.end (index + 1) list
      by list End is e = absurd (let z = is.ends in omega arith)
      by list (Entry d c n) is e =
          let r = list_next raw entry end x d c n is shown in
          let one : index + 1 ≡ suc index = omega arith in
          record {
            left = n;
            is = r.next_are;
            steps = (λ k. with_steps stands up (one k) (r.ends k) n (below c r.children_are k))
                ∙ (λ k. with_steps stands up (suc index) (entry + 1 + size c) n (with_steps stands entry 0 (entry + 1) c (put k)))
                ∙ e;
          }

pub ends : (raw : List RawUnit) (first end up : ℕ) (stands : Stands) (old new : List Step) (entry index : ℕ) → Goes raw first end up stands old new entry index → end ≤ entry
    → (list : Forest RawEntry) → IsList raw first end list → new ≡ with_steps stands up 0 first list old
unfolding with_steps
ends raw first end up stands old new entry index g le list is = (let l = g.rest list is in by l.left l.is l.steps) where
  by : (left : Forest RawEntry) → IsList raw entry end left → with_steps stands up index entry left new ≡ with_steps stands up 0 first list old → new ≡ with_steps stands up 0 first list old
  by End is e = e
  by (Entry d c n) is e = absurd (let z = is.ends in omega arith)

-- ---- how many

pub steps_long : {E : Type 0} (stands : Stands) (up i first : ℕ) (f : Forest E) (steps : List Step) → length (with_steps stands up i first f steps) ≡ length steps + size f
unfolding with_steps
steps_long stands up i first End steps = omega arith
steps_long stands up i first (Entry e c n) steps =
    let pushed = steps ++ step up i stands ∷ [] in
    omega (
      arith,
      steps_long stands up (suc i) (first + 1 + size c) n (with_steps stands first 0 (first + 1) c pushed),
      steps_long stands first 0 (first + 1) c pushed,
      length-append steps (step up i stands ∷ []),
    )
