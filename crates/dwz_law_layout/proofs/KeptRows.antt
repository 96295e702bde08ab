-- A row whose tops and spaces are named by their numbers, which a list of tops and spaces shows; and what holds of all that stays of a row.
use Rattle.std.proofs.Common.{◌≡◌, ℕ, suc, ◌+◌, ◌≤◌, Bool, true, false, [], ◌∷◌, ◌++◌, ◌||◌, ◌&&◌, length, not, None, refl, sym, ap, subst, ◌∙◌, arith}
use Rattle.std.proofs.lemmas.List.{drop_at, length-append, take_at}
use Rattle.dwz_def_reading.specs.Trees.{End, Entry, Forest}
use Rattle.dwz_def_reading.specs.Documents.{Node, entries_map, node_map}
use Rattle.dwz_def_reading.specs.Lists.{Each}
use Rattle.dwz_def_tops.proofs.Members.{each_append}
use Rattle.dwz_def_tops.specs.Deciding.{same_bool}
use Rattle.dwz_def_tops.specs.Spots.{ASpace, ATop, EntryName, Nothing, Row, SpaceAt, Top, Within}
use Rattle.dwz_graph.specs.Steps.{spaces_by, tops_by}
use Rattle.dwz_layout_items.specs.Lines.{line, lines, row_lines}
use Rattle.dwz_layout_items.specs.Outline.{ShowsRow, View}
use Rattle.dwz_def_images.specs.Plan.{Pinned, pinned_first, row_part, row_pinned, row_staying}
use Rattle.dwz_layout_order.specs.declared.marks.Marks.{Marks}
use Rattle.dwz_layout_order.specs.declared.outline.Next.{Next}
use Rattle.dwz_layout_order.specs.Marks.{flag_at, mark_at}
use Rattle.dwz_layout_order.specs.Outline.{behind_list, behind_space, behind_top, closed, outers_in, pinned_in, space_opened, top_outer}
use Rattle.dwz_layout_order.proofs.OutlineLemmas.{or_assoc, outers_space, outers_top, pinned_space, pinned_top, spaces_space, spaces_top, tops_space, tops_top}
use Rattle.dwz_law_layout.specs.Items.{IsOneOf}
use Rattle.dwz_law_layout.proofs.Telling.{OfLine, tell, telling}

-- ---- what holds of each top and of each space of a row

abbrev pub RowHas : (Top → Type 0) → (Node EntryName → Type 0) → Row → Type 0
RowHas Q R Nothing = Unit {0}
RowHas Q R (ATop t next) = Q t × RowHas Q R next
RowHas Q R (ASpace e inner next) = R e × RowHas Q R inner × RowHas Q R next

module _ (Q : Top → Type 0) (R : Node EntryName → Type 0) where
  -- what stays of it
  abbrev pub Stays : (ℕ → Bool) → Top → Type 0
  Stays gone t = Q t × (gone t.number ≡ false)

  pub staying_has : (gone : ℕ → Bool) (row : Row) → RowHas Q R row → RowHas (Stays gone) R (row_staying gone row)
  unfolding row_staying
  staying_has gone Nothing h = tt
  staying_has gone (ATop t next) h = by (staying_has gone next h.1) (gone t.number) refl where
    by : RowHas (Stays gone) R (row_staying gone next) → (b : Bool) → gone t.number ≡ b
        → RowHas (Stays gone) R (elim b as (λ _. Row) [ true ↦ row_staying gone next | false ↦ ATop t (row_staying gone next) ])
    by rest true is = rest
    by rest false is = ((h.0, is), rest)
  staying_has gone (ASpace e inner next) h = (h.0, staying_has gone inner h.1, staying_has gone next h.2)

  part_has : (p : Pinned) (want : Bool) (row last : Row) → RowHas Q R row → RowHas Q R last → RowHas Q R (row_part p want row last)
  unfolding row_part
  part_has p want Nothing last h k = k
  part_has p want (ATop t next) last h k = by (part_has p want next last h.1 k) (same_bool (p.top t.number) want) where
    by : RowHas Q R (row_part p want next last) → (b : Bool) → RowHas Q R (elim b as (λ _. Row) [ true ↦ ATop t (row_part p want next last) | false ↦ row_part p want next last ])
    by rest true = (h.0, rest)
    by rest false = rest
  part_has p want (ASpace e inner next) last h k =
      by (part_has p true inner (row_part p false inner Nothing) h.1 (part_has p false inner Nothing h.1 tt)) (part_has p want next last h.2 k) (same_bool (p.space e.at || row_pinned p inner) want)
    where
      by : RowHas Q R (row_part p true inner (row_part p false inner Nothing)) → RowHas Q R (row_part p want next last) → (b : Bool)
          → RowHas Q R (elim b as (λ _. Row) [
            | true ↦ ASpace e (row_part p true inner (row_part p false inner Nothing)) (row_part p want next last)
            | false ↦ row_part p want next last
          ])
      by within rest true = (h.0, within, rest)
      by within rest false = rest

  pub first_has : (p : Pinned) (row : Row) → RowHas Q R row → RowHas Q R (pinned_first p row)
  first_has p row h = part_has p true row (row_part p false row Nothing) h (part_has p false row Nothing h tt)

  -- and so of its lines
  pub lines_have : (P : EntryName → Type 0) (f : EntryName → EntryName) → ((t : Top) (depth : ℕ) → Q t → Each (OfLine P) (line depth (node_map f t.node) ∷ lines (suc depth) (entries_map f t.below)))
      → ((e : Node EntryName) → R e → P (f e.at))
      → (depth : ℕ) (row : Row) → RowHas Q R row → Each (OfLine P) (row_lines f depth row)
  unfolding row_lines
  lines_have P f tops spaces depth Nothing h = tt
  lines_have P f tops spaces depth (ATop t next) h =
      each_append (OfLine P) (line depth (node_map f t.node) ∷ lines (suc depth) (entries_map f t.below)) (row_lines f depth next) (tops t depth h.0) (lines_have P f tops spaces depth next h.1)
  lines_have P f tops spaces depth (ASpace e inner next) h =
      each_append (OfLine P) (line depth (node_map f e) ∷ row_lines f (suc depth) inner) (row_lines f depth next)
      (spaces e h.0, lines_have P f tops spaces (suc depth) inner h.1)
      (lines_have P f tops spaces depth next h.2)

-- ---- the row of numbers

abbrev pub numbered_top : ℕ → Top
numbered_top n = record { file = 0; unit = 0; language = None; spaces = []; number = n; node = tell (Within n []); below = End }

abbrev pub flag_in : Marks → EntryName → Bool
flag_in m (SpaceAt s path) = flag_at m.spaces.now s
flag_in m _ = false

-- places stay, and what is marked so is gone, or pinned
abbrev pub view_by : Marks → View
view_by m = record {
  names = telling;
  image = λ s. s;
  gone = λ t. not (mark_at m.tops.now t).stays;
  pinned = record { top = λ t. (mark_at m.tops.now t).pinned; space = flag_in m };
}

stays_twice : (b : Bool) → b ≡ not (not b)
stays_twice true = refl
stays_twice false = refl

module _ {E : Type 0} (test : E → Bool) (m : Marks) where
  unfoldable pub numbered_row : Next → Forest E → Row
  numbered_row n End = Nothing
  numbered_row n (Entry e children next) = elim (test e) as (λ _. Row) [
    | false ↦ ATop (numbered_top n.top) (numbered_row (behind_top n) next)
    | true ↦ ASpace (tell (SpaceAt n.space [])) (numbered_row (behind_space n) children) (numbered_row (behind_list test children (behind_space n)) next)
  ]

  numbered_as_top : (e : E) (c x : Forest E) (n : Next) → test e ≡ false → numbered_row n (Entry e c x) ≡ ATop (numbered_top n.top) (numbered_row (behind_top n) x)
  unfolding numbered_row
  numbered_as_top e c x n h = rw (h, numbered_row) refl

  numbered_as_space : (e : E) (c x : Forest E) (n : Next) → test e ≡ true
      → numbered_row n (Entry e c x) ≡ ASpace (tell (SpaceAt n.space [])) (numbered_row (behind_space n) c) (numbered_row (behind_list test c (behind_space n)) x)
  unfolding numbered_row
  numbered_as_space e c x n h = rw (h, numbered_row) refl

  -- what is shown
  abbrev v : View
  v = view_by m

  pub record IsShownSo (n : Next) (f : Forest E) : Type 0 where
    pub row : ShowsRow (view_by m) (numbered_row n f) (outers_in test m n f)
    pub pinned : pinned_in test m n f ≡ row_pinned (view_by m).pinned (row_staying (view_by m).gone (numbered_row n f))

  top_stays : (k : ℕ) (next : Row)
      → ((mark_at m.tops.now k).stays && (mark_at m.tops.now k).pinned || row_pinned v.pinned (row_staying v.gone next)) ≡ row_pinned v.pinned (row_staying v.gone (ATop (numbered_top k) next))
  unfolding row_pinned row_staying
  top_stays k next = by (mark_at m.tops.now k).stays where
    by : (b : Bool) → (b && (mark_at m.tops.now k).pinned || row_pinned v.pinned (row_staying v.gone next))
        ≡ row_pinned v.pinned (elim (not b) as (λ _. Row) [ true ↦ row_staying v.gone next | false ↦ ATop (numbered_top k) (row_staying v.gone next) ])
    by true = refl
    by false = refl

  space_stays : (k : ℕ) (inner next : Row) (a b : Bool) → a ≡ row_pinned v.pinned (row_staying v.gone inner) → b ≡ row_pinned v.pinned (row_staying v.gone next)
      → ((flag_at m.spaces.now k || a) || b) ≡ row_pinned v.pinned (row_staying v.gone (ASpace (tell (SpaceAt k [])) inner next))
  unfolding row_pinned row_staying
  space_stays k inner next a b p q = or_assoc (flag_at m.spaces.now k) a b ∙ (λ i. flag_at m.spaces.now k || (p i || q i))

  pub numbered_shown : (f : Forest E) (n : Next) → IsShownSo n f
  unfolding numbered_row outers_in pinned_in row_pinned row_staying entries_map
  numbered_shown End n = record { row = refl; pinned = refl }
  numbered_shown (Entry e c x) n = by (test e) refl (λ k. numbered_shown c k) (λ k. numbered_shown x k) where
    by : (b : Bool) → test e ≡ b → ((k : Next) → IsShownSo k c) → ((k : Next) → IsShownSo k x) → IsShownSo n (Entry e c x)
    by false is on_inner on_next =
        let rest = on_next (behind_top n) in
        let next = numbered_row (behind_top n) x in
        let row = numbered_as_top e c x n is in
        let one : ShowsRow v (ATop (numbered_top n.top) next) (top_outer m n.top ∷ outers_in test m (behind_top n) x) =
        (record { what = refl; node = refl; below = refl; inside = refl; stays = stays_twice (mark_at m.tops.now n.top).stays; pinned = refl }, rest.row) in
        record {
          row = subst (λ (w : Row). ShowsRow v w (outers_in test m n (Entry e c x))) (sym row) (subst (ShowsRow v (ATop (numbered_top n.top) next)) (sym (outers_top test m e c x n is)) one);
          pinned = pinned_top test m e c x n is
              ∙ ap (λ (w : Bool). (mark_at m.tops.now n.top).stays && (mark_at m.tops.now n.top).pinned || w) rest.pinned
              ∙ top_stays n.top next
              ∙ ap (λ (w : Row). row_pinned v.pinned (row_staying v.gone w)) (sym row);
        }
    by true is on_inner on_next =
        let row = numbered_as_space e c x n is in
        let inner = numbered_row (behind_space n) c in
        let next = numbered_row (behind_list test c (behind_space n)) x in
        let a = on_inner (behind_space n) in
        let b = on_next (behind_list test c (behind_space n)) in
        let in_it = outers_in test m (behind_space n) c in
        let behind = outers_in test m (behind_list test c (behind_space n)) x in
        let any = pinned_in test m (behind_space n) c in
        let first = closed (space_opened m n.space) (length in_it) any in
        let long = length-append in_it behind in
        let within : length in_it ≤ length (in_it ++ behind) = omega arith in
        let one : ShowsRow v (ASpace (tell (SpaceAt n.space [])) inner next) (first ∷ (in_it ++ behind)) = (
          record { number = n.space; what = refl; node = refl; stays = refl; pinned = ap (λ (w : Bool). flag_at m.spaces.now n.space || w) a.pinned },
          within,
          subst (ShowsRow v inner) (sym (take_at in_it behind (length in_it) refl)) a.row,
          subst (ShowsRow v next) (sym (drop_at in_it behind (length in_it) refl)) b.row,
        ) in
        record {
          row = subst (λ (w : Row). ShowsRow v w (outers_in test m n (Entry e c x))) (sym row)
              (subst (ShowsRow v (ASpace (tell (SpaceAt n.space [])) inner next)) (sym (outers_space test m e c x n is)) one);
          pinned = pinned_space test m e c x n is
              ∙ space_stays n.space inner next any _ a.pinned b.pinned
              ∙ ap (λ (w : Row). row_pinned v.pinned (row_staying v.gone w)) (sym row);
        }

  -- ---- its numbers

  abbrev pub IsNumberedTop : (first count : ℕ) → Top → Type 0
  IsNumberedTop first count t = (t ≡ numbered_top t.number) × IsOneOf first count t.number

  abbrev pub IsNumberedSpace : (first count : ℕ) → Node EntryName → Type 0
  IsNumberedSpace first count e = (k : ℕ) × (e ≡ tell (SpaceAt k [])) × IsOneOf first count k

  -- all within some
  pub record Inside (first : Next) (tops spaces : ℕ) (n : Next) (f : Forest E) : Type 0 where
    pub top : first.top ≤ n.top
    pub tops_end : n.top + tops_by test f ≤ first.top + tops
    pub space : first.space ≤ n.space
    pub spaces_end : n.space + spaces_by test f ≤ first.space + spaces

  module _ (first : Next) (tops spaces : ℕ) where
    abbrev Has : Row → Type 0
    Has row = RowHas (IsNumberedTop first.top tops) (IsNumberedSpace first.space spaces) row

    pub numbers_within : (f : Forest E) (n : Next) → Inside first tops spaces n f → RowHas (IsNumberedTop first.top tops) (IsNumberedSpace first.space spaces) (numbered_row n f)
    unfolding numbered_row
    numbers_within End n w = tt
    numbers_within (Entry e c x) n w = by (test e) refl (λ k i. numbers_within c k i) (λ k i. numbers_within x k i) where
      by : (b : Bool) → test e ≡ b → ((k : Next) → Inside first tops spaces k c → Has (numbered_row k c)) → ((k : Next) → Inside first tops spaces k x → Has (numbered_row k x))
          → Has (numbered_row n (Entry e c x))
      by false is on_inner on_next =
          let a = tops_top test e c x is in
          let b = spaces_top test e c x is in
          let one = w.top in
          let two = w.tops_end in
          let three = w.space in
          let four = w.spaces_end in
          let own : IsOneOf first.top tops n.top = record { low = omega arith; high = omega arith } in
          let rest = on_next (behind_top n) (record { top = omega arith; tops_end = omega arith; space = omega arith; spaces_end = omega arith }) in
          subst Has (sym (numbered_as_top e c x n is)) ((refl, own), rest)
      by true is on_inner on_next =
          let a = tops_space test e c x is in
          let b = spaces_space test e c x is in
          let one = w.top in
          let two = w.tops_end in
          let three = w.space in
          let four = w.spaces_end in
          let own : IsOneOf first.space spaces n.space = record { low = omega arith; high = omega arith } in
          let inner = on_inner (behind_space n) (record { top = omega arith; tops_end = omega arith; space = omega arith; spaces_end = omega arith }) in
          let rest = on_next (behind_list test c (behind_space n)) (record { top = omega arith; tops_end = omega arith; space = omega arith; spaces_end = omega arith }) in
          subst Has (sym (numbered_as_space e c x n is)) ((n.space, refl, own), inner, rest)
