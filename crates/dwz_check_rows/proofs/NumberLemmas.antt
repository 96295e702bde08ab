-- Whatever the numbers of name lists stand for: units whose keys are the same have rows that are the same.
use Rattle.std.proofs.Common.{◌≡◌, ℕ, zero, suc, ◌+◌, ◌*◌, ◌-◌, ◌^◌, ◌<◌, ◌≤◌, cond, false, true, List, [], ◌∷◌, ◌++◌, drop, length, get_or, take, map, refl, sym, ap, subst, ◌∙◌, inl, inr, arith, w32, Fits}
use Rattle.std.specs.Prelude.{◌↔◌}
use Rattle.std.specs.List.{filter, flat_map, range_with_len}
use Rattle.dwz_model.specs.Lists.{In}
use Rattle.dwz_model.proofs.ListFacts.{drop_pairs, in_at, in_cases, in_map}
use Rattle.dwz_model.proofs.Members.{each_in, in_filter_from, in_map_from}
use Rattle.dwz_def_cross.specs.CrossSame.{EachTwo}
use Rattle.dwz_def_check.specs.Answer.{SameBy}
use Rattle.dwz_def_check.specs.CrossRows.{Classed, RowsSame, SameMembers, UnitRow}
use Rattle.dwz_def_check.specs.declared.same.Same.{Same}
use Rattle.dwz_def_check.proofs.AnswerLemmas.{answer_rows}
use Rattle.dwz_check_rows.specs.Keys.{key}
use Rattle.dwz_check_rows.specs.Rows.{IsWholeUnit, KeysSame, KindsSame, UnitsSame, is_whole, whole_between}
use Rattle.dwz_check_rows.specs.UnitRows.{AreColumns, IsInside, IsKindInside, IsNumbering, classed, kind_row, new_rows, no_unit, numbers_between, old_rows, plain_tops, tops_with_imports, unit_at, unit_rows}
use Rattle.dwz_check_rows.specs.declared.columns.Columns.{Columns}
use Rattle.dwz_check_rows.specs.declared.columns.RowKind.{RowKind}
use Rattle.dwz_check_rows.specs.declared.columns.RowKind.TheVariants.{Compile as CompileUnit, Partial, OfType as TypeUnit}
use Rattle.dwz_check_rows.specs.declared.columns.UnitNodes.{UnitNodes}
use Rattle.dwz_check_rows.proofs.ListLemmas.{each_or}
use Rattle.dwz_check_rows.proofs.UnitLemmas.{in_between, whole_each}

-- ---- members

-- what has the same members by one function has them by another one that tells no more
through : {X Y : Type 0} (f : ℕ → X) (g : ℕ → Y) (ms ns : List ℕ) → ((m n : ℕ) → In m ms → In n ns → f m ≡ f n → g m ≡ g n) → SameMembers (map f ms) (map f ns) → SameMembers (map g ms) (map g ns)
through f g ms ns tells same y = (there, back) where
  there : In y (map g ms) → In y (map g ns)
  there h =
      let from = in_map_from g y ms h in
      let to = in_map_from f (f from.source) ns ((same (f from.source)).0 (in_map f from.source ms from.there)) in
      subst (λ z. In z (map g ns)) (sym (tells from.source to.source from.there to.there (sym to.is)) ∙ from.is) (in_map g to.source ns to.there)

  back : In y (map g ns) → In y (map g ms)
  back h =
      let from = in_map_from g y ns h in
      let to = in_map_from f (f from.source) ms ((same (f from.source)).1 (in_map f from.source ns from.there)) in
      subst (λ z. In z (map g ms)) (tells to.source from.source to.there from.there to.is ∙ from.is) (in_map g to.source ms to.there)

key_one : (a b m n : ℕ) → b < 2 ^ 32 → n < 2 ^ 32 → a * 2 ^ 32 + b ≡ m * 2 ^ 32 + n → (a ≡ m) × (b ≡ n)
key_one a b m n l k e = let first : a ≡ m = omega (arith, l, k, e) in (first, omega (arith, l, k, e, first))

flat_each : (P : ℕ → Type 0) (f : ℕ → List ℕ) (ys : List ℕ) → ((y n : ℕ) → In n (f y) → P n) → (n : ℕ) → In n (flat_map f ys) → P n
flat_each P f [] h n is = absurd is
flat_each P f (y ∷ ys) h n is = elim (in_cases n (f y) (flat_map f ys) is) [ inl here ↦ h y n here | inr later ↦ flat_each P f ys h n later ]

-- ---- units

module _ (classes : List ℕ) (c : Columns) (columns : AreColumns (length classes) c) where
  inside : (x : ℕ) → IsInside (length classes) (unit_at c x)
  inside x = each_or (IsInside (length classes)) c.units x no_unit columns.inside (omega arith, tt)

  -- a top of a unit, or of what it imports, is a node
  tops_inside : (x n : ℕ) → In n (tops_with_imports c x) → n < length classes
  tops_inside x =
      flat_each (λ n. n < length classes) (λ y. plain_tops c (unit_at c y)) (x ∷ get_or c.imports x [])
      (λ y n is.
      let low = in_between n (unit_at c y).top (unit_at c y).tops_end (in_filter_from (λ m. get_or c.plain m false) n (numbers_between (unit_at c y).top (unit_at c y).tops_end) is).0 in
      let end = (inside y).0 in omega (arith, low, end))

  module _ (small : (i : ℕ) → Fits w32 (get_or classes i 0)) (lists : ℕ → List (List ℕ)) (numbering : IsNumbering c.names lists) where
    Inside : List ℕ → Type 0
    Inside ns = (n : ℕ) → In n ns → n < length classes

    key_classed : (m n : ℕ) → key classes c.names m ≡ key classes c.names n → classed lists classes c m ≡ classed lists classes c n
    key_classed m n e =
        let both = key_one (get_or c.names m 0) (get_or classes m 0) (get_or c.names n 0) (get_or classes n 0) (small m).fits (small n).fits e in
        λ i. (lists (both.0 i), both.1 i)

    classed_key : (m n : ℕ) → m < length classes → n < length classes → classed lists classes c m ≡ classed lists classes c n → key classes c.names m ≡ key classes c.names n
    classed_key m n l k e =
        let names = columns.names in
        let one : get_or c.names m 0 ≡ get_or c.names n 0 =
        numbering (get_or c.names m 0) (get_or c.names n 0) (in_at c.names m (omega (arith, names, l))) (in_at c.names n (omega (arith, names, k))) (ap (λ (x : Classed). x.0) e) in
        λ i. one i * 2 ^ 32 + (ap (λ (x : Classed). x.1) e) i

    keys_tell : (ms ns : List ℕ) → Inside ms → Inside ns → SameMembers (map (classed lists classes c) ms) (map (classed lists classes c) ns) ↔ KeysSame classes c ms ns
    unfolding Inside
    keys_tell ms ns a b = (
      through (classed lists classes c) (key classes c.names) ms ns (λ m n is js. classed_key m n (a m is) (b n js)),
      through (key classes c.names) (classed lists classes c) ms ns (λ m n is js. key_classed m n),
    )

    -- x has that row
    abbrev HasRow : ℕ → UnitRow → Type 0
    HasRow x row = kind_row lists classes c x (unit_at c x) (unit_at c x).kind ≡ row ∷ []

    first : List UnitRow → UnitRow → UnitRow
    first rows row = get_or rows 0 row

    kinds_tell : (x y : ℕ) (k l : RowKind) (a b : UnitRow) → is_whole k ≡ true → is_whole l ≡ true → IsKindInside (length classes) (unit_at c x).top k → IsKindInside (length classes) (unit_at c y).top l
        → RowsSame (get_or (kind_row lists classes c x (unit_at c x) k) 0 a) (get_or (kind_row lists classes c y (unit_at c y) l) 0 b) ↔ KindsSame classes c x y k l
    unfolding Inside
    kinds_tell x y (CompileUnit root end) (CompileUnit root' end') a b wk wl ik il =
        let spaces = keys_tell (numbers_between (suc root) end) (numbers_between (suc root') end')
        (λ n is. let low = in_between n (suc root) end is in let e = ik.1 in omega (arith, low, e)) (λ n is. let low = in_between n (suc root') end' is in let e = il.1 in omega (arith, low, e)) in
        let tops = keys_tell (tops_with_imports c x) (tops_with_imports c y) (tops_inside x) (tops_inside y) in
        (λ e. (e.0, spaces.0 e.1, tops.0 e.2), λ e. (e.0, spaces.1 e.1, tops.1 e.2))
    kinds_tell x y (CompileUnit root end) (TypeUnit s) a b wk wl ik il = (λ e. e, λ e. e)
    kinds_tell x y (TypeUnit s) (CompileUnit root end) a b wk wl ik il = (λ e. e, λ e. e)
    kinds_tell x y (TypeUnit s) (TypeUnit t) a b wk wl ik il = (λ e. e, λ e. e)
    kinds_tell x y Partial l a b wk wl ik il = absurd cc
    kinds_tell x y (CompileUnit root end) Partial a b wk wl ik il = absurd cc
    kinds_tell x y (TypeUnit s) Partial a b wk wl ik il = absurd cc

    rows_agree : (x y : ℕ) (a b : UnitRow) → IsWholeUnit c x → IsWholeUnit c y → HasRow x a → HasRow y b → RowsSame a b ↔ UnitsSame classes c x y
    rows_agree x y a b wx wy h j =
        let one : get_or (kind_row lists classes c x (unit_at c x) (unit_at c x).kind) 0 a ≡ a = ap (λ (rs : List UnitRow). get_or rs 0 a) h in
        let two : get_or (kind_row lists classes c y (unit_at c y) (unit_at c y).kind) 0 b ≡ b = ap (λ (rs : List UnitRow). get_or rs 0 b) j in
        subst (λ (r : UnitRow). RowsSame r b ↔ UnitsSame classes c x y) one
        (subst (λ (r : UnitRow). RowsSame (get_or (kind_row lists classes c x (unit_at c x) (unit_at c x).kind) 0 a) r ↔ UnitsSame classes c x y) two
        (kinds_tell x y (unit_at c x).kind (unit_at c y).kind a b wx.1 wy.1 (inside x).1 (inside y).1))

    -- ---- rows of units in order

    one_kind : (x : ℕ) (k : RowKind) → (unit_at c x).kind ≡ k → (ms : List ℕ) (rows : List UnitRow) → EachTwo HasRow ms rows
        → EachTwo HasRow (cond (is_whole k) (x ∷ ms) ms) (kind_row lists classes c x (unit_at c x) k ++ rows)
    one_kind x (CompileUnit root end) e ms rows h = (ap (kind_row lists classes c x (unit_at c x)) e, h)
    one_kind x (TypeUnit s) e ms rows h = (ap (kind_row lists classes c x (unit_at c x)) e, h)
    one_kind x Partial e ms rows h = h

    pub rows_two : (n x : ℕ) → x + n ≤ length c.units
        → EachTwo HasRow (filter (λ m. is_whole (unit_at c m).kind) (range_with_len x n)) (unit_rows lists classes c x (take n (drop x c.units)))
    rows_two zero x l = tt
    rows_two (suc n) x l =
        let next : x + 1 ≡ suc x = omega arith in
        let lt : x < length c.units = omega (arith, l) in
        let rest = filter (λ m. is_whole (unit_at c m).kind) (range_with_len (x + 1) n) in
        subst (λ (us : List UnitNodes). EachTwo HasRow (filter (λ m. is_whole (unit_at c m).kind) (range_with_len x (suc n))) (unit_rows lists classes c x (take (suc n) us)))
        (sym (drop_pairs c.units x no_unit lt))
        (one_kind x (unit_at c x).kind refl rest (unit_rows lists classes c (suc x) (take n (drop (x + 1) c.units)))
        (subst (λ k. EachTwo HasRow rest (unit_rows lists classes c k (take n (drop (x + 1) c.units)))) next (rows_two n (x + 1) (omega (arith, l)))))

    -- ---- the answer

    pub answer_of : (same : Same) → SameBy (UnitsSame classes c) (whole_between c 0 c.old) (whole_between c c.old (c.old + c.new)) same
        → SameBy RowsSame (old_rows lists classes c) (new_rows lists classes c) same
    answer_of same h =
        let files = columns.files in
        let whole = whole_each c 0 c.old (omega (arith, files)) in
        let others = whole_each c c.old (c.old + c.new) files in
        let many : c.old + c.new - c.old ≡ c.new = omega arith in
        let none : c.old - 0 ≡ c.old = omega arith in
        (answer_rows (UnitsSame classes c) RowsSame HasRow HasRow (whole_between c 0 c.old) (whole_between c c.old (c.old + c.new)) (old_rows lists classes c) (new_rows lists classes c)
        (λ x y a b is js p q. rows_agree x y a b (each_in (IsWholeUnit c) x (whole_between c 0 c.old) whole is) (each_in (IsWholeUnit c) y (whole_between c c.old (c.old + c.new)) others js) p q)
        (subst (λ k. EachTwo HasRow (filter (λ m. is_whole (unit_at c m).kind) (range_with_len 0 k)) (old_rows lists classes c)) (sym none) (rows_two c.old 0 (omega (arith, files))))
        (subst (λ k. EachTwo HasRow (filter (λ m. is_whole (unit_at c m).kind) (range_with_len c.old k)) (new_rows lists classes c)) (sym many) (rows_two c.new c.old files))
        same).1 h
