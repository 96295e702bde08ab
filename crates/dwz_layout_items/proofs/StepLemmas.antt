-- One top or space of a list more.
use Rattle.std.proofs.Common.{◌≡◌, ℕ, suc, ◌+◌, ◌≤◌, ◌||◌, ◌&&◌, not, cond, Bool, true, false, List, [], ◌∷◌, ◌++◌, length, take, drop, refl, sym, ap, subst, ◌∙◌, append_assoc, arith, min}
use Rattle.std.proofs.lemmas.List.{append-nil}
use Rattle.dwz_def_reading.specs.Documents.{entries_map, node_map}
use Rattle.dwz_def_tops.specs.Deciding.{same_bool}
use Rattle.dwz_def_tops.specs.Spots.{ASpace, ATop, EntryName, Nothing, Row}
use Rattle.dwz_def_images.specs.Plan.{row_pinned, row_staying}
use Rattle.dwz_layout_items.specs.declared.order.Outer.{Outer}
use Rattle.dwz_layout_items.specs.Lines.{Line, line, lines}
use Rattle.dwz_layout_items.specs.declared.order.Item.{Item}
use Rattle.dwz_layout_items.specs.Order.{order_lines, what_lines}
use Rattle.dwz_layout_items.proofs.LineLemmas.{order_one}
use Rattle.dwz_layout_items.specs.Outline.{ShowsRow, View}
use Rattle.dwz_layout_items.specs.Parts.{part_lines}

abbrev pub wanted : Outer → Bool → Bool
wanted x want = x.stays && same_bool x.pinned want

-- what it says, with what is in it
abbrev pub here_lines : View → ℕ → Bool → Outer → Row → List (Line EntryName)
here_lines v depth want x inner = cond (wanted x want) (what_lines v.names depth x.what ++ (part_lines v (suc depth) true inner ++ part_lines v (suc depth) false inner)) []

pub record Next (v : View) (depth : ℕ) (want : Bool) (x : Outer) (rest : List Outer) (row : Row) : Type 0 where
  pub inner : Row
  pub next : Row
  pub fits : x.inside ≤ length rest
  pub within : ShowsRow v inner (take x.inside rest)
  pub behind : ShowsRow v next (drop x.inside rest)
  pub is : part_lines v depth want row ≡ here_lines v depth want x inner ++ part_lines v depth want next

abbrev if_here : Bool → List (Line EntryName) → List (Line EntryName)
if_here b ls = cond b ls []

pub next_of : (v : View) (depth : ℕ) (want : Bool) (x : Outer) (rest : List Outer) (row : Row) → ShowsRow v row (x ∷ rest) → Next v depth want x rest row
unfolding part_lines
next_of v depth want x rest Nothing s = absurd cc
next_of v depth want x rest (ATop t next) s =
    let top = s.0 in
    let said : List (Line EntryName) = line depth (v.names.top t.number) ∷ lines (suc depth) (v.names.below t.number) in
    let first : here_lines v depth want x Nothing ≡ if_here (not (v.gone t.number) && same_bool (v.pinned.top t.number) want) (said ++ []) =
    (λ i. if_here (top.stays i && same_bool (top.pinned i) want) (what_lines v.names depth (top.what i) ++ [])) in
    let all : if_here (not (v.gone t.number) && same_bool (v.pinned.top t.number) want) (said ++ [])
    ≡ if_here (not (v.gone t.number) && same_bool (v.pinned.top t.number) want) (line depth (node_map v.image t.node) ∷ lines (suc depth) (entries_map v.image t.below)) =
    ap (if_here (not (v.gone t.number) && same_bool (v.pinned.top t.number) want)) (append-nil said ∙ (λ i. line depth (top.node i) ∷ lines (suc depth) (top.below i))) in
    record {
      inner = Nothing;
      next = next;
      fits = (let z : x.inside ≤ length rest = omega (arith, top.inside) in z);
      within = ap (λ (n : ℕ). take n rest) top.inside;
      behind = subst (λ (n : ℕ). ShowsRow v next (drop n rest)) (sym top.inside) s.1;
      is = ap (λ (w : List (Line EntryName)). w ++ part_lines v depth want next) (sym (first ∙ all));
    }
next_of v depth want x rest (ASpace e inner next) s =
    let space = s.0 in
    let within : List (Line EntryName) = part_lines v (suc depth) true inner ++ part_lines v (suc depth) false inner in
    let first : here_lines v depth want x inner ≡ if_here (same_bool (v.pinned.space e.at || row_pinned v.pinned (row_staying v.gone inner)) want) (line depth (v.names.space space.number) ∷ within) =
    (λ i. if_here (space.stays i && same_bool (space.pinned i) want) (what_lines v.names depth (space.what i) ++ within)) in
    let all : if_here (same_bool (v.pinned.space e.at || row_pinned v.pinned (row_staying v.gone inner)) want) (line depth (v.names.space space.number) ∷ within)
    ≡ if_here (same_bool (v.pinned.space e.at || row_pinned v.pinned (row_staying v.gone inner)) want) (line depth (node_map v.image e) ∷ within) =
    (λ i. if_here (same_bool (v.pinned.space e.at || row_pinned v.pinned (row_staying v.gone inner)) want) (line depth (space.node i) ∷ within)) in
    record { inner = inner; next = next; fits = s.1; within = s.2; behind = s.3; is = ap (λ (w : List (Line EntryName)). w ++ part_lines v depth want next) (sym (first ∙ all)) }

-- ---- what is left of a list

-- the lines so far, with those of what is left, are all
pub record LeftOf (v : View) (depth : ℕ) (want : Bool) (left : List Outer) (so_far total : List (Line EntryName)) : Type 0 where
  pub row : Row
  pub shown : ShowsRow v row left
  pub is : so_far ++ part_lines v depth want row ≡ total

pub begins : (v : View) (depth : ℕ) (want : Bool) (xs : List Outer) (so_far : List (Line EntryName)) (row : Row) → ShowsRow v row xs → LeftOf v depth want xs so_far (so_far
    ++ part_lines v depth want row)
begins v depth want xs so_far row s = record { row = row; shown = s; is = refl }

ends : (v : View) (depth : ℕ) (want : Bool) (so_far total : List (Line EntryName)) → LeftOf v depth want [] so_far total → so_far ≡ total
unfolding part_lines
ends v depth want so_far total l = by l.row l.shown l.is where
  by : (row : Row) → ShowsRow v row [] → so_far ++ part_lines v depth want row ≡ total → so_far ≡ total
  by Nothing s e = sym (append-nil so_far) ∙ e
  by (ATop t next) s e = absurd s
  by (ASpace e inner next) s is = absurd s

pub none_left : (v : View) (depth : ℕ) (want : Bool) (left : List Outer) (so_far total : List (Line EntryName)) → length left ≡ 0 → LeftOf v depth want left so_far total → so_far ≡ total
none_left v depth want [] so_far total none l = ends v depth want so_far total l
none_left v depth want (x ∷ left) so_far total none l = absurd (omega (arith, none))

abbrev fitting : (k n : ℕ) (rest : List Outer) → k ≡ min n (length rest) → n ≤ length rest → k ≡ n
fitting k n rest e h = omega (arith, e)

-- it is passed over with all in it
pub passed : (v : View) (depth : ℕ) (want : Bool) (x : Outer) (rest next : List Outer) (k : ℕ) (so_far total : List (Line EntryName)) → k ≡ min x.inside (length rest) → next ≡ drop k rest
    → wanted x want ≡ false
    → LeftOf v depth want (x ∷ rest) so_far total → LeftOf v depth want next so_far total
passed v depth want x rest next k so_far total count behind not_so l =
    let n = next_of v depth want x rest l.row l.shown in
    let left : drop x.inside rest ≡ next = ap (λ (j : ℕ). drop j rest) (sym (fitting k x.inside rest count n.fits)) ∙ sym behind in
    let none : here_lines v depth want x n.inner ≡ [] = ap (λ (b : Bool). if_here b
    (what_lines v.names depth x.what ++ (part_lines v (suc depth) true n.inner ++ part_lines v (suc depth) false n.inner))) not_so in
    record {
      row = n.next;
      shown = subst (λ (w : List Outer). ShowsRow v n.next w) left n.behind;
      is = ap (λ (w : List (Line EntryName)). so_far ++ (w ++ part_lines v depth want n.next)) (sym none) ∙ ap (λ (w : List (Line EntryName)). so_far ++ w) (sym n.is) ∙ l.is;
    }

-- it is appended, with all in it
abbrev pub Appends : (depth : ℕ) (want : Bool) (xs : List Outer) (old new : List Item) → Type 0
Appends depth want xs old new = (v : View) (row : Row) → ShowsRow v row xs → order_lines v.names new ≡ order_lines v.names old ++ part_lines v depth want row

pub taken : (v : View) (depth : ℕ) (want : Bool) (x : Outer) (rest inner next : List Outer) (k : ℕ) (a b c d : List Item) (total : List (Line EntryName)) → k ≡ min x.inside (length rest)
    → inner ≡ take k rest → next ≡ drop k rest → wanted x want ≡ true
    → b ≡ a ++ (record { what = x.what; depth = depth }) ∷ [] → Appends (depth + 1) true inner b c → Appends (depth + 1) false inner c d → LeftOf v depth want (x ∷ rest) (order_lines v.names a) total
    → LeftOf v depth want next (order_lines v.names d) total
taken v depth want x rest inner next k a b c d total count within behind so pushed first second l =
    let n = next_of v depth want x rest l.row l.shown in
    let same : k ≡ x.inside = fitting k x.inside rest count n.fits in
    let left : drop x.inside rest ≡ next = ap (λ (j : ℕ). drop j rest) (sym same) ∙ sym behind in
    let inside : take x.inside rest ≡ inner = ap (λ (j : ℕ). take j rest) (sym same) ∙ sym within in
    let shown : ShowsRow v n.inner inner = subst (λ (w : List Outer). ShowsRow v n.inner w) inside n.within in
    let one : depth + 1 ≡ suc depth = omega arith in
    let p : List (Line EntryName) = part_lines v (suc depth) true n.inner in
    let q : List (Line EntryName) = part_lines v (suc depth) false n.inner in
    let here : List (Line EntryName) = what_lines v.names depth x.what in
    let old : List (Line EntryName) = order_lines v.names a in
    let with_one : order_lines v.names b ≡ old ++ here = ap (order_lines v.names) pushed ∙ order_one v.names a (record { what = x.what; depth = depth }) in
    let with_first : order_lines v.names c ≡ (old ++ here) ++ p = first v n.inner shown ∙ (λ i. with_one i ++ part_lines v (one i) true n.inner) in
    let with_all : order_lines v.names d ≡ ((old ++ here) ++ p) ++ q = second v n.inner shown ∙ (λ i. with_first i ++ part_lines v (one i) false n.inner) in
    let grouped : ((old ++ here) ++ p) ++ q ≡ old ++ (here ++ (p ++ q)) = simp append_assoc in
    let is_here : here_lines v depth want x n.inner ≡ here ++ (p ++ q) = ap (λ (t : Bool). if_here t (here ++ (p ++ q))) so in
    record {
      row = n.next;
      shown = subst (λ (w : List Outer). ShowsRow v n.next w) left n.behind;
      is = ap (λ (w : List (Line EntryName)). w ++ part_lines v depth want n.next) (with_all ∙ grouped)
          ∙ append_assoc old (here ++ (p ++ q)) (part_lines v depth want n.next)
          ∙ ap (λ (w : List (Line EntryName)). old ++ (w ++ part_lines v depth want n.next)) (sym is_here)
          ∙ ap (λ (w : List (Line EntryName)). old ++ w) (sym n.is)
          ∙ l.is;
    }
