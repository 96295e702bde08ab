-- The tops and spaces of a list that are written down show its row.
use Rattle.std.proofs.Common.{◌≡◌, ℕ, ℤ, suc, ◌+◌, ◌≤◌, Bool, true, false, List, [], ◌∷◌, ◌++◌, ◌||◌, ◌&&◌, length, not, Option, Some, None, refl, sym, ap, subst, ◌∙◌, arith}
use Rattle.std.specs.Option.{is_some}
use Rattle.std.proofs.lemmas.List.{drop_at, length-append, take_at}
use Rattle.dwz_def_reading.specs.Trees.{End, Entry}
use Rattle.dwz_def_reading.specs.Documents.{Entries, Node}
use Rattle.dwz_def_reading.specs.Lists.{Each}
use Rattle.dwz_def_tops.specs.Spaces.{space_text, tops_under}
use Rattle.dwz_def_tops.proofs.Members.{each_split}
use Rattle.dwz_def_tops.specs.Spots.{ASpace, ATop, EntryName, Row, SpaceName, Top, name_of, number_tops, row_in, row_tops}
use Rattle.dwz_graph.specs.Steps.{is_space, spaces_by, tops_by}
use Rattle.dwz_layout_items.specs.Outline.{ShowsRow, View}
use Rattle.dwz_def_images.specs.Plan.{row_pinned, row_staying}
use Rattle.dwz_layout_order.specs.declared.marks.Marks.{Marks}
use Rattle.dwz_layout_order.specs.declared.outline.Next.{Next}
use Rattle.dwz_layout_order.specs.Marks.{flag_at, mark_at}
use Rattle.dwz_layout_order.specs.Named.{IsSpace, IsTop}
use Rattle.dwz_layout_order.specs.Outline.{behind_list, behind_space, behind_top, closed, outers_in, pinned_in, space_opened, top_outer}
use Rattle.dwz_layout_order.specs.Spaces.{Numbered, spaces_under}
use Rattle.dwz_layout_order.proofs.OutlineLemmas.{outers_space, outers_top, pinned_space, pinned_top}

-- ---- numbered lists

pub numbered_split : {X : Type 0} (P : ℕ → X → Type 0) (n : ℕ) (xs ys : List X) → Numbered P n (xs ++ ys) → Numbered P n xs × Numbered P (n + length xs) ys
numbered_split P n [] ys h = (let e : n ≡ n + 0 = omega arith in (tt, subst (λ (k : ℕ). Numbered P k ys) e h))
numbered_split P n (x ∷ xs) ys h =
    let r = numbered_split P (suc n) xs ys h.1 in
    let e : suc n + length xs ≡ n + suc (length xs) = omega arith in
    ((h.0, r.0), subst (λ (k : ℕ). Numbered P k ys) e r.1)

-- ---- an entry, whether it is a space

pub under_top : {P : Type 0} (e : Node P) (c x : Entries P) → space_text e ≡ None → spaces_under (Entry e c x) ≡ spaces_under x
unfolding spaces_under
under_top e c x h = rw (h, spaces_under) refl

pub under_space : {P : Type 0} (e : Node P) (c x : Entries P) (text : List ℕ) → space_text e ≡ Some text → spaces_under (Entry e c x) ≡ e ∷ (spaces_under c ++ spaces_under x)
unfolding spaces_under
under_space e c x text h = rw (h, spaces_under) refl

pub tops_counted : {P : Type 0} (f : Entries P) → tops_by is_space f ≡ tops_under f
unfolding tops_by tops_under
tops_counted End = refl
tops_counted (Entry e c n) = go (tops_counted c) (tops_counted n) (space_text e) where
  go : tops_by is_space c ≡ tops_under c → tops_by is_space n ≡ tops_under n → (o : Option (List ℕ))
      → (elim (is_some o) as (λ _. ℕ) [ false ↦ suc (tops_by is_space n) | true ↦ tops_by is_space c + tops_by is_space n ])
      ≡ (elim o as (λ _. ℕ) [ None ↦ suc (tops_under n) | Some text ↦ tops_under c + tops_under n ])
  go p q None = ap suc q
  go p q (Some text) = (λ j. p j + q j)

pub spaces_counted : {P : Type 0} (f : Entries P) → spaces_by is_space f ≡ length (spaces_under f)
unfolding spaces_by spaces_under
spaces_counted End = refl
spaces_counted {P} (Entry e c n) = go (spaces_counted c) (spaces_counted n) (space_text e) where
  go : spaces_by is_space c ≡ length (spaces_under c) → spaces_by is_space n ≡ length (spaces_under n) → (o : Option (List ℕ))
      → (elim (is_some o) as (λ _. ℕ) [ false ↦ spaces_by is_space n | true ↦ suc (spaces_by is_space c + spaces_by is_space n) ])
      ≡ length (elim o as (λ _. List (Node P)) [ None ↦ spaces_under n | Some text ↦ e ∷ (spaces_under c ++ spaces_under n) ])
  go p q None = q
  go p q (Some text) = omega (arith, p, q, length-append (spaces_under c) (spaces_under n))

module _ (file unit : ℕ) (tongue : Option ℤ) where
  abbrev pub the_top : List SpaceName → ℕ → Node EntryName → Entries EntryName → Top
  the_top spaces n e c = record { file = file; unit = unit; language = tongue; spaces = spaces; number = n; node = e; below = c }

  pub row_top : (spaces : List SpaceName) (n : ℕ) (e : Node EntryName) (c x : Entries EntryName) → space_text e ≡ None
      → row_in file unit tongue spaces n (Entry e c x) ≡ ATop (the_top spaces n e c) (row_in file unit tongue spaces (suc n) x)
  unfolding row_in
  row_top spaces n e c x h = rw (h, number_tops) refl

  pub row_space : (spaces : List SpaceName) (n : ℕ) (e : Node EntryName) (c x : Entries EntryName) (text : List ℕ) → space_text e ≡ Some text
      → row_in file unit tongue spaces n (Entry e c x) ≡ ASpace e (row_in file unit tongue (spaces ++ name_of text e ∷ []) n c) (row_in file unit tongue spaces (n + tops_under c) x)
  unfolding row_in
  row_space spaces n e c x text h = rw (h, number_tops) refl

  -- what is shown
  pub record IsShown (v : View) (m : Marks) (spaces : List SpaceName) (n : Next) (f : Entries EntryName) : Type 0 where
    pub row : ShowsRow v (row_in file unit tongue spaces n.top f) (outers_in is_space m n f)
    pub pinned : pinned_in is_space m n f ≡ row_pinned v.pinned (row_staying v.gone (row_in file unit tongue spaces n.top f))

  module _ (v : View) (m : Marks) where
    -- what stays of a top, and whether that is pinned
    top_stays : (t : Top) (next : Row) → (mark_at m.tops.now t.number).stays ≡ not (v.gone t.number) → (mark_at m.tops.now t.number).pinned ≡ v.pinned.top t.number
        → ((mark_at m.tops.now t.number).stays && (mark_at m.tops.now t.number).pinned || row_pinned v.pinned (row_staying v.gone next)) ≡ row_pinned v.pinned (row_staying v.gone (ATop t next))
    unfolding row_pinned row_staying
    top_stays t next s p = (λ i. s i && p i || row_pinned v.pinned (row_staying v.gone next)) ∙ by (v.gone t.number) where
      by : (b : Bool) → (not b && v.pinned.top t.number || row_pinned v.pinned (row_staying v.gone next))
          ≡ row_pinned v.pinned (elim b as (λ _. Row) [ true ↦ row_staying v.gone next | false ↦ ATop t (row_staying v.gone next) ])
      by true = refl
      by false = refl

    space_stays : (e : Node EntryName) (inner next : Row) (a b : Bool) → a ≡ row_pinned v.pinned (row_staying v.gone inner) → b ≡ row_pinned v.pinned (row_staying v.gone next)
        → ((v.pinned.space e.at || a) || b) ≡ row_pinned v.pinned (row_staying v.gone (ASpace e inner next))
    unfolding row_pinned row_staying
    space_stays e inner next a b p q = or_both (v.pinned.space e.at) a b ∙ (λ i. v.pinned.space e.at || (p i || q i)) where
      or_both : (x y z : Bool) → ((x || y) || z) ≡ (x || (y || z))
      or_both true y z = refl
      or_both false y z = refl

    first_top : (t : Top) (next : Row) → Each (IsTop v m) (row_tops (ATop t next)) → IsTop v m t × Each (IsTop v m) (row_tops next)
    unfolding row_tops
    first_top t next h = h

    both_rows : (e : Node EntryName) (inner next : Row) → Each (IsTop v m) (row_tops (ASpace e inner next)) → Each (IsTop v m) (row_tops inner) × Each (IsTop v m) (row_tops next)
    unfolding row_tops
    both_rows e inner next h = each_split (IsTop v m) (row_tops inner) (row_tops next) h

    pub row_shown : (f : Entries EntryName) (spaces : List SpaceName) (n : Next) → Each (IsTop v m) (row_tops (row_in file unit tongue spaces n.top f))
        → Numbered (IsSpace v m) n.space (spaces_under f)
        → IsShown v m spaces n f
    unfolding row_in outers_in pinned_in row_pinned row_staying
    row_shown End spaces n tops under = record { row = refl; pinned = refl }
    row_shown (Entry e c x) spaces n tops under = by (λ k. row_shown x spaces k) (λ more k. row_shown c more k) (space_text e) refl where
      by : ((k : Next) → Each (IsTop v m) (row_tops (row_in file unit tongue spaces k.top x)) → Numbered (IsSpace v m) k.space (spaces_under x) → IsShown v m spaces k x)
          → ((more : List SpaceName) (k : Next) → Each (IsTop v m) (row_tops (row_in file unit tongue more k.top c)) → Numbered (IsSpace v m) k.space (spaces_under c) → IsShown v m more k c)
          → (o : Option (List ℕ)) → space_text e ≡ o → IsShown v m spaces n (Entry e c x)
      by on_next on_inner None is =
          let row = row_top spaces n.top e c x is in
          let plain : is_space e ≡ false = ap (λ (o : Option (List ℕ)). is_some o) is in
          let t = the_top spaces n.top e c in
          let h : Each (IsTop v m) (row_tops (ATop t (row_in file unit tongue spaces (suc n.top) x))) = subst (λ (w : Row). Each (IsTop v m) (row_tops w)) row tops in
          let both = first_top t (row_in file unit tongue spaces (suc n.top) x) h in
          let rest = on_next (behind_top n) both.1 (subst (Numbered (IsSpace v m) n.space) (under_top e c x is) under) in
          let top = both.0 in
          let a = top.names in
          let b = top.marks in
          let one : ShowsRow v (ATop t (row_in file unit tongue spaces (suc n.top) x)) (top_outer m n.top ∷ outers_in is_space m (behind_top n) x) =
          (record { what = refl; node = a.node; below = a.below; inside = refl; stays = b.stays; pinned = b.pinned }, rest.row) in
          record {
            row = subst (λ (w : Row). ShowsRow v w (outers_in is_space m n (Entry e c x))) (sym row)
                (subst (ShowsRow v (ATop t (row_in file unit tongue spaces (suc n.top) x))) (sym (outers_top is_space m e c x n plain)) one);
            pinned = pinned_top is_space m e c x n plain
                ∙ ap (λ (w : Bool). (mark_at m.tops.now n.top).stays && (mark_at m.tops.now n.top).pinned || w) rest.pinned
                ∙ top_stays t (row_in file unit tongue spaces (suc n.top) x) b.stays b.pinned
                ∙ ap (λ (w : Row). row_pinned v.pinned (row_staying v.gone w)) (sym row);
          }
      by on_next on_inner (Some text) is =
          let row = row_space spaces n.top e c x text is in
          let space : is_space e ≡ true = ap (λ (o : Option (List ℕ)). is_some o) is in
          let deeper = spaces ++ name_of text e ∷ [] in
          let inner = row_in file unit tongue deeper n.top c in
          let count : n.top + tops_under c ≡ n.top + tops_by is_space c = ap (λ (k : ℕ). n.top + k) (sym (tops_counted c)) in
          let next = row_in file unit tongue spaces (n.top + tops_by is_space c) x in
          let row_is : row_in file unit tongue spaces n.top (Entry e c x) ≡ ASpace e inner next = row ∙ ap (λ (k : ℕ). ASpace e inner (row_in file unit tongue spaces k x)) count in
          let h : Each (IsTop v m) (row_tops (ASpace e inner next)) = subst (λ (w : Row). Each (IsTop v m) (row_tops w)) row_is tops in
          let both = both_rows e inner next h in
          let numbered : Numbered (IsSpace v m) n.space (e ∷ (spaces_under c ++ spaces_under x)) = subst (Numbered (IsSpace v m) n.space) (under_space e c x text is) under in
          let parts = numbered_split (IsSpace v m) (suc n.space) (spaces_under c) (spaces_under x) numbered.1 in
          let others : Numbered (IsSpace v m) (suc n.space + spaces_by is_space c) (spaces_under x) =
          subst (λ (k : ℕ). Numbered (IsSpace v m) (suc n.space + k) (spaces_under x)) (sym (spaces_counted c)) parts.1 in
          let own = numbered.0 in
          let a = on_inner deeper (behind_space n) both.0 parts.0 in
          let b = on_next (behind_list is_space c (behind_space n)) both.1 others in
          let in_it = outers_in is_space m (behind_space n) c in
          let behind = outers_in is_space m (behind_list is_space c (behind_space n)) x in
          let any = pinned_in is_space m (behind_space n) c in
          let first = closed (space_opened m n.space) (length in_it) any in
          let long = length-append in_it behind in
          let within : length in_it ≤ length (in_it ++ behind) = omega arith in
          let marked : (flag_at m.spaces.now n.space || any) ≡ (v.pinned.space e.at || row_pinned v.pinned (row_staying v.gone inner)) = (λ i. own.marks i || a.pinned i) in
          let one : ShowsRow v (ASpace e inner next) (first ∷ (in_it ++ behind)) = (
            record { number = n.space; what = refl; node = own.names; stays = refl; pinned = marked },
            within,
            subst (ShowsRow v inner) (sym (take_at in_it behind (length in_it) refl)) a.row,
            subst (ShowsRow v next) (sym (drop_at in_it behind (length in_it) refl)) b.row,
          ) in
          record {
            row = subst (λ (w : Row). ShowsRow v w (outers_in is_space m n (Entry e c x))) (sym row_is) (subst (ShowsRow v (ASpace e inner next)) (sym (outers_space is_space m e c x n space)) one);
            pinned = pinned_space is_space m e c x n space
                ∙ (λ i. (own.marks i || any) || pinned_in is_space m (behind_list is_space c (behind_space n)) x)
                ∙ space_stays e inner next any _ a.pinned b.pinned
                ∙ ap (λ (w : Row). row_pinned v.pinned (row_staying v.gone w)) (sym row_is);
          }
