-- The entries of a list, one after the other: what was appended, and what is left.
use Rattle.std.proofs.Common.{◌≡◌, ℕ, ◌+◌, ◌-◌, ◌<◌, ◌≤◌, Bool, true, false, List, [], ◌∷◌, ◌++◌, ◌||◌, ◌&&◌, length, Some, slice_get, refl, sym, ap, subst, ◌∙◌, arith}
use Rattle.std.proofs.lemmas.List.{append-nil, append_assoc, length-append}
use Rattle.dwz_def_reading.specs.Entries.{RawEntry}
use Rattle.dwz_def_reading.specs.Trees.{End, Entry, Forest}
use Rattle.dwz_def_reading.specs.Units.{RawUnit}
use Rattle.dwz_graph.specs.Building.{HasList, IsList}
use Rattle.dwz_graph.specs.Spaces.{stored_space}
use Rattle.dwz_graph.specs.Steps.{spaces_by, tops_by}
use Rattle.dwz_graph.proofs.BelowLemmas.{next_list}
use Rattle.dwz_graph.proofs.ListLemmas.{Next as NextEntry, list_next, some_entry}
use Rattle.dwz_layout_items.specs.declared.order.Outer.{Outer}
use Rattle.dwz_layout_order.specs.declared.marks.Marks.{Marks}
use Rattle.dwz_layout_order.specs.declared.outline.Next.{Next}
use Rattle.dwz_layout_order.specs.Marks.{flag_at, mark_at}
use Rattle.dwz_layout_order.specs.Outline.{HasRoom, behind_list, behind_space, behind_top, closed, outers_in, pinned_in, space_opened, top_outer}
use Rattle.dwz_layout_order.proofs.OutlineLemmas.{behind_one_space, behind_one_top, few, many, or_assoc, or_none, outers_space, outers_top, pinned_space, pinned_top}
use Rattle.dwz_unit.specs.declared.rows.RawEntry.{RawEntry as EntryOfCode}
use Rattle.dwz_unit.specs.Rows.{EntryRow, rows_of, shown_entries}

-- a part of the list is left, and what was appended and what is left are all
pub record Left (raw : List RawUnit) (end : ℕ) (m : Marks) (old new : List Outer) (from next : Next) (pinned : Bool) (entry : ℕ) (list : Forest RawEntry) : Type 0 where
  pub left : Forest RawEntry
  pub is : IsList raw entry end left
  pub outers : new ++ outers_in stored_space m next left ≡ old ++ outers_in stored_space m from list
  pub behind : behind_list stored_space left next ≡ behind_list stored_space list from
  pub any : (pinned || pinned_in stored_space m next left) ≡ pinned_in stored_space m from list

pub record Goes (raw : List RawUnit) (first end : ℕ) (m : Marks) (old new : List Outer) (from next : Next) (pinned : Bool) (entry : ℕ) : Type 0 where
  pub list : HasList raw entry end
  pub low : first ≤ entry
  pub room : HasRoom next entry end
  pub rest : (list : Forest RawEntry) → IsList raw first end list → Left raw end m old new from next pinned entry list

pub begins : (raw : List RawUnit) (first end : ℕ) (m : Marks) (old : List Outer) (from : Next) → HasList raw first end → HasRoom from first end → Goes raw first end m old old from from false first
begins raw first end m old from has room = record { list = has; low = omega arith; room = room; rest = λ list is. record { left = list; is = is; outers = refl; behind = refl; any = refl } }

module _ (raw : List RawUnit) (first end : ℕ) (m : Marks) (old new : List Outer) (from next : Next) (pinned : Bool) (entry : ℕ) (g : Goes raw first end m old new from next pinned entry) where
  pub nothing_left : end ≤ entry → (list : Forest RawEntry) → IsList raw first end list
      → (new ≡ old ++ outers_in stored_space m from list) × (next ≡ behind_list stored_space list from) × (pinned ≡ pinned_in stored_space m from list)
  unfolding outers_in pinned_in tops_by spaces_by
  nothing_left le list is = (let l = g.rest list is in by l.left l.is l.outers l.behind l.any) where
    none : (n : ℕ) → n ≡ n + 0
    none n = omega arith

    by : (left : Forest RawEntry) → IsList raw entry end left → new ++ outers_in stored_space m next left ≡ old ++ outers_in stored_space m from list
        → behind_list stored_space left next ≡ behind_list stored_space list from → (pinned || pinned_in stored_space m next left) ≡ pinned_in stored_space m from list
        → (new ≡ old ++ outers_in stored_space m from list) × (next ≡ behind_list stored_space list from) × (pinned ≡ pinned_in stored_space m from list)
    by End is e b a = (
      sym (append-nil new) ∙ e,
      (let same : next ≡ behind_list stored_space End next = (λ i. record { top = none next.top i; space = none next.space i }) in same ∙ b),
      sym (or_none pinned) ∙ a,
    )
    by (Entry d c n) is e b a = absurd (let z = is.ends in omega arith)

  -- an entry is no space just where the test says so
  tested : (x : EntryOfCode) (d : RawEntry) (c n : Forest RawEntry) (b t : Bool) → NextEntry raw entry end x d c n
      → ((row : EntryRow) → slice_get (rows_of raw) entry ≡ Some row → b ≡ stored_space row.entry) → b ≡ t → stored_space d ≡ t
  tested x d c n b t next says is = sym (ap stored_space next.entry) ∙ sym (says next.row next.found) ∙ is

  module _ (x : EntryOfCode) (b : Bool) (lt : entry < end) (shown : slice_get (shown_entries raw) entry ≡ Some x) (says : (row : EntryRow) → slice_get (rows_of raw) entry ≡ Some row
      → b ≡ stored_space row.entry) where
    pub with_top : (put : List Outer) (after : Next) (found any : Bool) → b ≡ false → put ≡ new ++ top_outer m next.top ∷ [] → after ≡ behind_top next
        → found ≡ ((mark_at m.tops.now next.top).stays && (mark_at m.tops.now next.top).pinned) → any ≡ (pinned || found) → Goes raw first end m old put from after any x.end
    with_top put after found any is put_is after_is found_is any_is =
        let h = next_list raw entry end x g.list lt shown in
        let less = h.2 in
        let low = g.low in
        let tops = g.room.tops in
        let spaces = g.room.spaces in
        record {
          list = h.1;
          low = omega arith;
          room = subst (λ (w : Next). HasRoom w x.end end) (sym after_is) (record { tops = omega arith; spaces = omega arith });
          rest = λ list are. (let l = g.rest list are in by list l.left l.is l.outers l.behind l.any);
        } where
          by : (list left : Forest RawEntry) → IsList raw entry end left → new ++ outers_in stored_space m next left ≡ old ++ outers_in stored_space m from list
              → behind_list stored_space left next ≡ behind_list stored_space list from → (pinned || pinned_in stored_space m next left) ≡ pinned_in stored_space m from list
              → Left raw end m old put from after any x.end list
          by list End is e f a = absurd (let z = is.ends in omega arith)
          by list (Entry d c n) are e f a =
              let r = list_next raw entry end x d c n are shown in
              let plain : stored_space d ≡ false = tested x d c n b false r says is in
              let others = outers_in stored_space m (behind_top next) n in
              record {
                left = n;
                is = r.next_are;
                outers = (λ i. put_is i ++ outers_in stored_space m (after_is i) n) ∙ append_assoc new (top_outer m next.top ∷ []) others
                    ∙ ap (λ (w : List Outer). new ++ w) (sym (outers_top stored_space m d c n next plain)) ∙ e;
                behind = ap (behind_list stored_space n) after_is ∙ behind_one_top stored_space d c n next plain ∙ f;
                any = (λ i. (any_is ∙ ap (λ (w : Bool). pinned || w) found_is) i || pinned_in stored_space m (after_is i) n)
                    ∙ or_assoc pinned _ (pinned_in stored_space m (behind_top next) n)
                    ∙ ap (λ (w : Bool). pinned || w) (sym (pinned_top stored_space m d c n next plain))
                    ∙ a;
              }

    -- what is opened, and then put, and closed
    pub record Spaced (opened put shut : List Outer) (inside after : Next) (inner found any : Bool) : Type 0 where
      pub open_is : opened ≡ new ++ space_opened m next.space ∷ []
      pub inside_is : inside ≡ behind_space next
      pub put_is : (list : Forest RawEntry) → IsList raw (entry + 1) x.end list → put ≡ opened ++ outers_in stored_space m inside list
      pub after_is : (list : Forest RawEntry) → IsList raw (entry + 1) x.end list → after ≡ behind_list stored_space list inside
      pub inner_is : (list : Forest RawEntry) → IsList raw (entry + 1) x.end list → inner ≡ pinned_in stored_space m inside list
      pub shut_is : (before others : List Outer) (y : Outer) → put ≡ before ++ (y ∷ others) → length new ≡ length before → shut ≡ before ++ (closed y (length others) inner ∷ others)
      pub found_is : (before others : List Outer) (y : Outer) → put ≡ before ++ (y ∷ others) → length new ≡ length before → found ≡ (y.pinned || inner)
      pub any_is : any ≡ (pinned || found)

    -- there is room in it
    pub room_inside : (inside : Next) → inside ≡ behind_space next → HasRoom inside (entry + 1) x.end
    room_inside inside is =
        let h = next_list raw entry end x g.list lt shown in
        let less = h.3 in
        let tops = g.room.tops in
        let spaces = g.room.spaces in
        subst (λ (w : Next). HasRoom w (entry + 1) x.end) (sym is) (record { tops = omega arith; spaces = omega arith })

    pub put_long : (opened put : List Outer) (inside : Next) → opened ≡ new ++ space_opened m next.space ∷ []
        → ((list : Forest RawEntry) → IsList raw (entry + 1) x.end list → put ≡ opened ++ outers_in stored_space m inside list)
        → (length new < length put) × (length put ≤ length new + (x.end - entry))
    put_long opened put inside open_is put_is =
        let s = some_entry raw entry end g.list lt in
        let n = list_next raw entry end x s.entry s.children s.next s.is shown in
        let inner = outers_in stored_space m inside s.children in
        let a = ap (λ (w : List Outer). length w) (put_is s.children n.children_are) in
        let b = ap (λ (w : List Outer). length w) open_is in
        let one = length-append new (space_opened m next.space ∷ []) in
        let two = length-append opened inner in
        let long = many stored_space m inside s.children in
        let less = few stored_space s.children in
        let to = n.ends in
        (omega arith, omega arith)

    pub with_space : (opened put shut : List Outer) (inside after : Next) (inner found any : Bool) → b ≡ true → Spaced opened put shut inside after inner found any
        → Goes raw first end m old shut from after any x.end
    with_space opened put shut inside after inner found any is w =
        let h = next_list raw entry end x g.list lt shown in
        let s = some_entry raw entry end g.list lt in
        let n = list_next raw entry end x s.entry s.children s.next s.is shown in
        let to = n.ends in
        let on = h.2 in
        let low = g.low in
        let less = few stored_space s.children in
        let tops = g.room.tops in
        let spaces = g.room.spaces in
        let same : after ≡ behind_list stored_space s.children (behind_space next) = w.after_is s.children n.children_are ∙ ap (behind_list stored_space s.children) w.inside_is in
        record {
          list = h.1;
          low = omega arith;
          room = subst (λ (v : Next). HasRoom v x.end end) (sym same) (record { tops = omega arith; spaces = omega arith });
          rest = λ list are. (let l = g.rest list are in by list l.left l.is l.outers l.behind l.any);
        } where
          by : (list left : Forest RawEntry) → IsList raw entry end left → new ++ outers_in stored_space m next left ≡ old ++ outers_in stored_space m from list
              → behind_list stored_space left next ≡ behind_list stored_space list from → (pinned || pinned_in stored_space m next left) ≡ pinned_in stored_space m from list
              → Left raw end m old shut from after any x.end list
          by list End is e f a = absurd (let z = is.ends in omega arith)
          by list (Entry d c n) are e f a =
              let r = list_next raw entry end x d c n are shown in
              let space : stored_space d ≡ true = tested x d c n b true r says is in
              let in_it : List Outer = outers_in stored_space m (behind_space next) c in
              let next_is : after ≡ behind_list stored_space c (behind_space next) = w.after_is c r.children_are ∙ ap (behind_list stored_space c) w.inside_is in
              let inner_same : inner ≡ pinned_in stored_space m (behind_space next) c = w.inner_is c r.children_are ∙ ap (λ (v : Next). pinned_in stored_space m v c) w.inside_is in
              let put_same : put ≡ new ++ (space_opened m next.space ∷ in_it) =
              w.put_is c r.children_are ∙ (λ i. w.open_is i ++ outers_in stored_space m (w.inside_is i) c) ∙ append_assoc new (space_opened m next.space ∷ []) in_it in
              let shut_same : shut ≡ new ++ (closed (space_opened m next.space) (length in_it) (pinned_in stored_space m (behind_space next) c) ∷ in_it) =
              w.shut_is new in_it (space_opened m next.space) put_same refl ∙ ap (λ (v : Bool). new ++ (closed (space_opened m next.space) (length in_it) v ∷ in_it)) inner_same in
              let found_same : found ≡ (flag_at m.spaces.now next.space || pinned_in stored_space m (behind_space next) c) =
              w.found_is new in_it (space_opened m next.space) put_same refl ∙ ap (λ (v : Bool). flag_at m.spaces.now next.space || v) inner_same in
              let others : List Outer = outers_in stored_space m (behind_list stored_space c (behind_space next)) n in
              record {
                left = n;
                is = r.next_are;
                outers = (λ i. shut_same i ++ outers_in stored_space m (next_is i) n)
                    ∙ append_assoc new (closed (space_opened m next.space) (length in_it) (pinned_in stored_space m (behind_space next) c) ∷ in_it) others
                    ∙ ap (λ (v : List Outer). new ++ v) (sym (outers_space stored_space m d c n next space))
                    ∙ e;
                behind = ap (behind_list stored_space n) next_is ∙ behind_one_space stored_space d c n next space ∙ f;
                any = (λ i. (w.any_is ∙ ap (λ (v : Bool). pinned || v) found_same) i || pinned_in stored_space m (next_is i) n)
                    ∙ or_assoc pinned _ (pinned_in stored_space m (behind_list stored_space c (behind_space next)) n)
                    ∙ ap (λ (v : Bool). pinned || v) (sym (pinned_space stored_space m d c n next space))
                    ∙ a;
              }

-- no more were appended than there are entries
pub long_enough : (raw : List RawUnit) (first end : ℕ) (m : Marks) (old new : List Outer) (from : Next) → HasList raw first end
    → ((list : Forest RawEntry) → IsList raw first end list → new ≡ old ++ outers_in stored_space m from list) → length new + first ≤ length old + end
long_enough raw first end m old new from has put =
    let to = has.is.ends in
    let same = ap (λ (w : List Outer). length w) (put has.list has.is) in
    let long = length-append old (outers_in stored_space m from has.list) in
    let count = many stored_space m from has.list in
    let less = few stored_space has.list in
    omega arith
