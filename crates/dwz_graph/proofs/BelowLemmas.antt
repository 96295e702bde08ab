-- The ways up of a list, entry by entry: what is put, and what is left.
use Rattle.std.proofs.Common.{◌≡◌, ℕ, suc, ◌+◌, ◌<◌, ◌≤◌, List, [], ◌∷◌, ◌++◌, Some, slice_get, refl, sym, ap, ◌∙◌, arith}
use Rattle.std.proofs.lemmas.List.{append-nil, append_assoc}
use Rattle.dwz_def_reading.specs.Entries.{RawEntry}
use Rattle.dwz_def_reading.specs.Trees.{End, Entry, Forest, size}
use Rattle.dwz_def_reading.specs.Units.{RawUnit}
use Rattle.dwz_unit.specs.declared.rows.RawEntry.{RawEntry as EntryOfCode}
use Rattle.dwz_unit.specs.Rows.{shown_entries}
use Rattle.dwz_graph.specs.declared.index.Step.{Step}
use Rattle.dwz_graph.specs.Building.{HasList, IsList}
use Rattle.dwz_graph.specs.Steps.{step, steps_below}
use Rattle.dwz_graph.proofs.ListLemmas.{list_next, some_entry}

-- a part of the list is left, and what is put and what is left are all
pub record Left (raw : List RawUnit) (first end up top : ℕ) (old new : List Step) (entry index : ℕ) (list : Forest RawEntry) : Type 0 where
  pub left : Forest RawEntry
  pub is : IsList raw entry end left
  pub steps : new ++ steps_below top up index entry left ≡ old ++ steps_below top up 0 first list

pub record Goes (raw : List RawUnit) (first end up top : ℕ) (old new : List Step) (entry index : ℕ) : Type 0 where
  pub list : HasList raw entry end
  pub low : index + first ≤ entry
  pub rest : (list : Forest RawEntry) → IsList raw first end list → Left raw first end up top old new entry index list

pub begins : (raw : List RawUnit) (first end up top : ℕ) (old : List Step) → HasList raw first end → Goes raw first end up top old old first 0
begins raw first end up top old has = record { list = has; low = omega arith; rest = λ list is. record { left = list; is = is; steps = refl } }

pub next_list : (raw : List RawUnit) (entry end : ℕ) (x : EntryOfCode) → HasList raw entry end → entry < end → slice_get (shown_entries raw) entry ≡ Some x
    → HasList raw (entry + 1) x.end × HasList raw x.end end × (entry < x.end) × (x.end ≤ end)
next_list raw entry end x has lt shown =
    let s = some_entry raw entry end has lt in
    let n = list_next raw entry end x s.entry s.children s.next s.is shown in
    let a = n.ends in
    let b = n.next_are.ends in
    (record { list = s.children; is = n.children_are }, record { list = s.next; is = n.next_are }, omega arith, omega arith)

pub goes_on : (raw : List RawUnit) (first end up top : ℕ) (old now pushed new : List Step) (entry index : ℕ) (x : EntryOfCode) → Goes raw first end up top old now entry index → entry < end
    → slice_get (shown_entries raw) entry ≡ Some x
    → pushed ≡ now ++ step up index top ∷ [] → ((list : Forest RawEntry) → IsList raw (entry + 1) x.end list → new ≡ pushed ++ steps_below top entry 0 (entry + 1) list)
    → Goes raw first end up top old new x.end (index + 1)
unfolding steps_below
goes_on raw first end up top old now pushed new entry index x g lt shown put below =
    let h = next_list raw entry end x g.list lt shown in
    let low = g.low in
    let less = h.2 in
    record {
      list = h.1;
      low = omega arith;
      rest = λ list is. (let l = g.rest list is in by list l.left l.is l.steps);
    } where
      by : (list left : Forest RawEntry) → IsList raw entry end left → now ++ steps_below top up index entry left ≡ old ++ steps_below top up 0 first list
          → Left raw first end up top old new x.end (index + 1) list
      by list End is e = absurd (let z = is.ends in omega arith)
      by list (Entry d c n) is e =
          let r = list_next raw entry end x d c n is shown in
          let inner = steps_below top entry 0 (entry + 1) c in
          let outer = steps_below top up (suc index) (entry + 1 + size c) n in
          let one : index + 1 ≡ suc index = omega arith in
          record {
            left = n;
            is = r.next_are;
            steps = (λ k. below c r.children_are k ++ steps_below top up (one k) (r.ends k) n)
                ∙ append_assoc pushed inner outer
                ∙ ap (λ (w : List Step). w ++ (inner ++ outer)) put
                ∙ append_assoc now (step up index top ∷ []) (inner ++ outer)
                ∙ e;
          }

pub ends : (raw : List RawUnit) (first end up top : ℕ) (old new : List Step) (entry index : ℕ) → Goes raw first end up top old new entry index → end ≤ entry → (list : Forest RawEntry)
    → IsList raw first end list → new ≡ old ++ steps_below top up 0 first list
unfolding steps_below
ends raw first end up top old new entry index g le list is = (let l = g.rest list is in by l.left l.is l.steps) where
  by : (left : Forest RawEntry) → IsList raw entry end left → new ++ steps_below top up index entry left ≡ old ++ steps_below top up 0 first list → new ≡ old ++ steps_below top up 0 first list
  by End is e = sym (append-nil new) ∙ e
  by (Entry d c n) is e = absurd (let z = is.ends in omega arith)
