-- What two neighbouring stretches of units name, put together: references, line tables, location lists.
use Rattle.std.proofs.Common.{◌≡◌, ◌⊎◌, ℕ, zero, suc, ◌+◌, ◌-◌, ◌<◌, ◌≤◌, ◌^◌, List, [], ◌∷◌, ◌++◌, length, map, take, drop, Option, Some, None, slice_get, refl, sym, ap, subst, ◌∙◌, inl, inr, arith}
use Rattle.std.specs.Prelude.{slice_range}
use Rattle.std.specs.Option.{option_map}
use Rattle.std.proofs.lemmas.Bool.{cases_lt}
use Rattle.std.proofs.lemmas.List.{append-nil, append_assoc, drop-drop, length-append, length-map, map-append, take_all}
use Rattle.std.proofs.lemmas.Option.{slice_get-map}
use Rattle.std.proofs.Math.Seq.{drop-append_seam}
use Rattle.dwz_def_reading.specs.Lists.{In}
use Rattle.dwz_def_reading.specs.LineTables.{FileTable}
use Rattle.dwz_def_reading.specs.LocLists.{LocList}
use Rattle.dwz_def_reading.specs.Meanings.{Around}
use Rattle.dwz_def_reading.specs.Shared.{NamedList, OneOf}
use Rattle.dwz_def_reading.specs.Units.{RawUnit}
use Rattle.dwz_def_reading.specs.declared.exprs.Operand.{Operand}
use Rattle.dwz_def_reading.proofs.ListFacts.{get_first, in_cases, in_left, in_right}
use Rattle.dwz_graph_resolve.specs.declared.lists.ListRow.{ListRow}
use Rattle.dwz_graph_resolve.specs.declared.lists.Lists.{Lists}
use Rattle.dwz_graph_resolve.specs.declared.operands.ListOperand.{ListOperand}
use Rattle.dwz_graph_resolve.specs.Apart.{Rows}
use Rattle.dwz_graph_resolve.specs.ListRows.{AreWithin, HasRow, IsKept, IsPieceOf, IsWithin, Shows, own_rows, raised}
use Rattle.dwz_graph_resolve.specs.Parts.{AreParted, GoesOn, HasLine, HaveLines}
use Rattle.dwz_graph_resolve.specs.Stretches.{JoinsLists}
use Rattle.dwz_graph_resolve.proofs.ListKept.{own_same}
use Rattle.dwz_unit.proofs.RowsFound.{take_here}
use Rattle.dwz_graph_resolve.proofs.SharedLaw.{from_map, in_map}
use Rattle.dwz_unit.proofs.UnitThere.{get_behind, get_front}

-- ---- stretches of a list

abbrev none_of : (X : Type 0) → List X
none_of X = []

take_none : (X : Type 0) (n : ℕ) → take n (none_of X) ≡ none_of X
take_none X zero = refl
take_none X (suc n) = refl

get_none : (X : Type 0) (n : ℕ) → slice_get (none_of X) n ≡ None
get_none X zero = refl
get_none X (suc n) = refl

take_both : {X : Type 0} (a b : ℕ) (xs : List X) → take (a + b) xs ≡ take a xs ++ take b (drop a xs)
take_both zero b xs = let e : 0 + b ≡ b = omega arith in ap (λ n. take n xs) e
take_both {X} (suc a) b [] = take_none X (suc a + b) ∙ sym (take_none X b)
take_both (suc a) b (x ∷ xs) = let e : suc a + b ≡ suc (a + b) = omega arith in ap (λ n. take n (x ∷ xs)) e ∙ ap (λ w. x ∷ w) (take_both a b xs)

pub range_both : {X : Type 0} (xs : List X) (m k n : ℕ) → m ≤ k → k ≤ n → slice_range xs m n ≡ slice_range xs m k ++ slice_range xs k n
range_both xs m k n low high =
    let all : n - m ≡ (k - m) + (n - k) = omega (arith, low, high) in
    let at : m + (k - m) ≡ k = omega (arith, low) in
    ap (λ j. take j (drop m xs)) all ∙ take_both (k - m) (n - k) (drop m xs)
    ∙ ap (λ w. take (k - m) (drop m xs) ++ take (n - k) w) (drop-drop (k - m) m xs ∙ ap (λ j. drop j xs) at)

pub got_drop : {X : Type 0} (xs : List X) (m k : ℕ) → slice_get (drop m xs) k ≡ slice_get xs (m + k)
got_drop xs zero k = let e : k ≡ 0 + k = omega arith in ap (slice_get xs) e
got_drop {X} [] (suc m) k = get_none X k ∙ sym (get_none X (suc m + k))
got_drop (x ∷ xs) (suc m) k = let e : suc (m + k) ≡ suc m + k = omega arith in got_drop xs m k ∙ ap (slice_get (x ∷ xs)) e

got_take : {X : Type 0} (xs : List X) (n k : ℕ) → k < n → slice_get (take n xs) k ≡ slice_get xs k
got_take {X} [] n k low = ap (λ (w : List X). slice_get w k) (take_none X n)
got_take (x ∷ xs) zero k low = absurd (omega arith)
got_take (x ∷ xs) (suc n) zero low = refl
got_take (x ∷ xs) (suc n) (suc k) low = got_take xs n k (omega arith)

pub got_range : {X : Type 0} (xs : List X) (m n k : ℕ) (x : X) → m ≤ k → k < n → slice_get xs k ≡ Some x → slice_get (slice_range xs m n) (k - m) ≡ Some x
got_range xs m n k x low high is =
    let at : m + (k - m) ≡ k = omega (arith, low) in
    got_take (drop m xs) (n - m) (k - m) (omega (arith, low, high)) ∙ got_drop xs m (k - m) ∙ ap (slice_get xs) at ∙ is

take_short : {X : Type 0} (n : ℕ) (xs : List X) → length (take n xs) ≤ n
take_short {X} n [] = let e = ap (λ (w : List X). length w) (take_none X n) in omega (arith, e)
take_short zero (x ∷ xs) = omega arith
take_short (suc n) (x ∷ xs) = let e = take_short n xs in omega (arith, e)

pub range_many : {X : Type 0} (xs : List X) (m n : ℕ) → length (slice_range xs m n) ≤ n - m
range_many xs m n = take_short (n - m) (drop m xs)

-- ---- references

raised_twice : (a b c : ℕ) (xs : List ℕ) → c ≡ a + b → map (λ k. a + k) (map (λ k. b + k) xs) ≡ map (λ k. c + k) xs
raised_twice a b c [] e = refl
raised_twice a b c (x ∷ xs) e = let same : a + (b + x) ≡ c + x = omega (arith, e) in (λ i. same i ∷ raised_twice a b c xs e i)

pub goes_on_both : (around : Around ℕ) (raw : List RawUnit) (from mid to : ℕ) (refs starts more next ends : List ℕ) → starts ≡ ends ++ length refs ∷ [] → GoesOn around raw from mid refs starts
    → GoesOn around raw mid to more next → GoesOn around raw from to (refs ++ more) (ends ++ map (λ k. length refs + k) next)
goes_on_both around raw from mid to refs starts more next ends last g h = λ before front parted small.
    let f : ℕ → ℕ = λ k. length before + k in
    let whole : (before ++ refs) ++ more ≡ before ++ (refs ++ more) = append_assoc before refs more in
    let wide : length (before ++ refs) ≡ length before + length refs = length-append before refs in
    let small' : length ((before ++ refs) ++ more) < 2 ^ 32 = subst (λ (w : List ℕ). length w < 2 ^ 32) (sym whole) small in
    let few : length (before ++ refs) < 2 ^ 32 = omega (arith, small', length-append (before ++ refs) more) in
    let ends' : List ℕ = front ++ map f ends in
    let at : front ++ map f starts ≡ ends' ++ length (before ++ refs) ∷ [] = ap (λ w. front ++ map f w) last ∙ ap (λ w. front ++ w) (map-append f ends (length refs ∷ []))
    ∙ sym (append_assoc front (map f ends) (f (length refs) ∷ [])) ∙ ap (λ (n : ℕ). ends' ++ n ∷ []) (sym wide) in
    let p = subst (λ (w : List ℕ). AreParted around raw mid (before ++ refs) w) at (g before front parted few) in
    let q = h (before ++ refs) ends' p small' in
    let same : ends' ++ map (λ k. length (before ++ refs) + k) next ≡ front ++ map f (ends ++ map (λ k. length refs + k) next) =
    append_assoc front (map f ends) (map (λ k. length (before ++ refs) + k) next)
    ∙ ap (λ w. front ++ (map f ends ++ w)) (sym (raised_twice (length before) (length refs) (length (before ++ refs)) next wide))
    ∙ ap (λ w. front ++ w) (sym (map-append f ends (map (λ k. length refs + k) next))) in
    subst (λ (w : List ℕ). AreParted around raw to w (front ++ map f (ends ++ map (λ k. length refs + k) next))) whole
    (subst (λ (w : List ℕ). AreParted around raw to ((before ++ refs) ++ more) w) same q)

-- ---- line tables

module _ (around : Around ℕ) (u : RawUnit) (tables more : List FileTable) where
  line_front : (number : Option ℕ) → HasLine around u tables number → HasLine around u (tables ++ more) number
  line_front None h = h
  line_front (Some n) h = (h.0, h.1, record { table = h.2.table; there = get_first tables more n h.2.table h.2.there; read = h.2.read })

  line_next : (number : Option ℕ) → HasLine around u more number → HasLine around u (tables ++ more) (option_map (λ k. length tables + k) number)
  line_next None h = h
  line_next (Some n) h = (h.0, h.1, record { table = h.2.table; there = get_behind tables more n ∙ h.2.there; read = h.2.read })

  line_raised : (o : Option (Option ℕ)) (number : Option ℕ) → option_map (option_map (λ k. length tables + k)) o ≡ Some number → ((old : Option ℕ) → o ≡ Some old → HasLine around u more old)
      → HasLine around u (tables ++ more) number
  line_raised None number e h = absurd cc
  line_raised (Some old) number e h =
      let same : option_map (λ k. length tables + k) old ≡ number = cc in
      subst (λ (n : Option ℕ). HasLine around u (tables ++ more) n) same (line_next old (h old refl))

pub lines_both : (around : Around ℕ) (raw : List RawUnit) (m k n : ℕ) (tables more : List FileTable) (lines next : List (Option ℕ)) → m ≤ k → k ≤ n → HaveLines around (drop m raw) (k - m) tables lines
    → HaveLines around (drop k raw) (n - k) more next
    → HaveLines around (drop m raw) (n - m) (tables ++ more) (lines ++ map (option_map (λ j. length tables + j)) next)
lines_both around raw m k n tables more lines next low high g h =
    let f : Option ℕ → Option ℕ = option_map (λ j. length tables + j) in
    record {
      many = omega (arith, length-append lines (map f next), length-map next f, g.many, h.many, low, high);
      line = λ i u number is at. elim (cases_lt i (length lines)) [
        | inl less ↦ line_front around u tables more number (g.line i u number is (sym (get_front lines (map f next) i less) ∙ at))
        | inr ge ↦ (
            let j : ℕ = i - length lines in
            let here : length lines + j ≡ i = omega (arith, ge) in
            let at' : slice_get (map f next) j ≡ Some number = sym (get_behind lines (map f next) j) ∙ ap (slice_get (lines ++ map f next)) here ∙ at in
            let same : k + j ≡ m + i = omega (arith, ge, g.many, low) in
            let is' : slice_get (drop k raw) j ≡ Some u = got_drop raw k j ∙ ap (slice_get raw) same ∙ sym (got_drop raw m i) ∙ is in
            line_raised around u tables more (slice_get next j) number (sym (slice_get-map f next j) ∙ at') (λ old there. h.line j u old is' there))
      ];
    }

-- ---- location lists

module _ (raw : List RawUnit) (front next both : Lists) (j : JoinsLists front next both) (within : AreWithin front) (within' : AreWithin next) where
  -- how many operands stand in front of those of the second
  abbrev n : ℕ
  n = length front.operands.items

  own_front : (w : ListRow) → In w front.rows.items → own_rows both.operands.items w ≡ own_rows front.operands.items w
  own_front w is = own_same front.operands.items both.operands.items next.operands.items w j.operands (within w is)

  own_next : (w : ListRow) → own_rows both.operands.items (raised n w) ≡ own_rows next.operands.items w
  own_next w =
      let xs = front.operands.items in
      let ys = next.operands.items in
      let many : (n + w.last) - (n + w.first) ≡ w.last - w.first = omega arith in
      let at : drop (n + w.first) (xs ++ ys) ≡ drop w.first ys = sym (drop-drop w.first n (xs ++ ys)) ∙ ap (drop w.first) (drop-append_seam xs ys) in
      (λ i. take (many i) (drop (n + w.first) (j.operands i))) ∙ ap (take (w.last - w.first)) at

  row_front : (w : ListRow) → In w front.rows.items → In w both.rows.items
  row_front w is = subst (λ (xs : List ListRow). In w xs) (sym j.rows) (in_left w front.rows.items (map (raised n) next.rows.items) is)

  row_next : (w : ListRow) → In w next.rows.items → In (raised n w) both.rows.items
  row_next w is = subst (λ (xs : List ListRow). In (raised n w) xs) (sym j.rows) (in_right (raised n w) front.rows.items (map (raised n) next.rows.items) (in_map (raised n) next.rows.items w is))

  operand_front : (o : ListOperand) → In o front.operands.items → In o both.operands.items
  operand_front o is = subst (λ (xs : List ListOperand). In o xs) (sym j.operands) (in_left o front.operands.items next.operands.items is)

  operand_next : (o : ListOperand) → In o next.operands.items → In o both.operands.items
  operand_next o is = subst (λ (xs : List ListOperand). In o xs) (sym j.operands) (in_right o front.operands.items next.operands.items is)

  row_from : (w : ListRow) → In w both.rows.items → In w front.rows.items ⊎ OneOf next.rows.items (λ v. raised n v ≡ w)
  row_from w is = elim (in_cases w front.rows.items (map (raised n) next.rows.items) (subst (λ (xs : List ListRow). In w xs) j.rows is)) [
    | inl first ↦ inl first
    | inr later ↦ inr (from_map (raised n) next.rows.items w later)
  ]

  operand_from : (o : ListOperand) → In o both.operands.items → In o front.operands.items ⊎ In o next.operands.items
  operand_from o is = in_cases o front.operands.items next.operands.items (subst (λ (xs : List ListOperand). In o xs) j.operands is)

  has_front : (unit b : ℕ) (own : List Operand) (w : ListRow) → In w front.rows.items → HasRow raw front.operands.items unit own b w → HasRow raw both.operands.items unit own b w
  has_front unit b own w is h = record { low = h.low; high = h.high; others = λ o there has. h.others o (subst (λ (xs : List ListOperand). In o xs) (own_front w is) there) has }

  has_next : (unit b : ℕ) (own : List Operand) (w : ListRow) → HasRow raw next.operands.items unit own b w → HasRow raw both.operands.items unit own b (raised n w)
  has_next unit b own w h = record { low = h.low; high = h.high; others = λ o there has. h.others o (subst (λ (xs : List ListOperand). In o xs) (own_next w) there) has }

  kept_front : (unit from : ℕ) (list : LocList) → IsKept raw front.rows.items front.operands.items unit from list → IsKept raw both.rows.items both.operands.items unit from list
  kept_front unit from list k = record {
    own = λ p is. (let o = k.own p is in (o.0, operand_front o.0 o.1, o.2));
    bytes = λ b low high. (let r = k.bytes b low high in (r.0, row_front r.0 r.1, has_front unit b _ r.0 r.1 r.2));
  }

  kept_next : (unit from : ℕ) (list : LocList) → IsKept raw next.rows.items next.operands.items unit from list → IsKept raw both.rows.items both.operands.items unit from list
  kept_next unit from list k = record {
    own = λ p is. (let o = k.own p is in (o.0, operand_next o.0 o.1, o.2));
    bytes = λ b low high. (let r = k.bytes b low high in (raised n r.0, row_next r.0 r.1, has_next unit b _ r.0 r.2));
  }

  piece_front : (unit place : ℕ) (list : LocList) (w : ListRow) → In w front.rows.items → IsPieceOf raw front.operands.items unit place list w → IsPieceOf raw both.operands.items unit place list w
  piece_front unit place list w is h = record {
    from = h.from;
    end = h.end;
    own = λ p there b has lt. (let o = h.own p there b has lt in (o.0, subst (λ (xs : List ListOperand). In o.0 xs) (sym (own_front w is)) o.1, o.2));
    others = λ o there. h.others o (subst (λ (xs : List ListOperand). In o xs) (own_front w is) there);
  }

  piece_next : (unit place : ℕ) (list : LocList) (w : ListRow) → IsPieceOf raw next.operands.items unit place list w → IsPieceOf raw both.operands.items unit place list (raised n w)
  piece_next unit place list w h = record {
    from = h.from;
    end = h.end;
    own = λ p there b has lt. (let o = h.own p there b has lt in (o.0, subst (λ (xs : List ListOperand). In o.0 xs) (sym (own_next w)) o.1, o.2));
    others = λ o there. h.others o (subst (λ (xs : List ListOperand). In o xs) (own_next w) there);
  }

  -- what holds of the rows of both, raised, holds of all
  every_row : (P : ListRow → Type 0) → ((w : ListRow) → In w front.rows.items → P w) → ((w : ListRow) → In w next.rows.items → P (raised n w)) → (w : ListRow) → In w both.rows.items → P w
  every_row P f g w is = elim (row_from w is) [
    | inl first ↦ f w first
    | inr later ↦ subst P later.2 (g later.0 later.1)
  ]

pub shows_both : (raw : List RawUnit) (file : ℕ) (named more : List NamedList) (front next both : Lists) → JoinsLists front next both → Shows raw file named front → Shows raw file more next
    → Shows raw file (named ++ more) both
shows_both raw file named more front next both j f g =
    let all = every_row raw front next both j f.within g.within in
    let wide : length both.operands.items ≡ length front.operands.items + length next.operands.items = ap (λ (xs : List ListOperand). length xs) j.operands
    ∙ length-append front.operands.items next.operands.items in
    record {
      within = all (IsWithin both.operands.items) (λ w is. (let h = f.within w is in let low = h.0 in let high = h.1 in (omega arith, omega arith)))
          (λ w is. (let h = g.within w is in let low = h.0 in let high = h.1 in (omega arith, omega arith)));
      rows = λ l is. elim (in_cases l named more is) [
        | inl first ↦ kept_front raw front next both j f.within g.within l.unit l.from l.list (f.rows l first)
        | inr later ↦ kept_next raw front next both j f.within g.within l.unit l.from l.list (g.rows l later)
      ];
      lists_of = all (λ w. OneOf (named ++ more) (λ l. IsPieceOf raw both.operands.items l.unit l.from l.list w))
          (λ w is. (let l = f.lists_of w is in (l.0, in_left l.0 named more l.1, piece_front raw front next both j f.within g.within _ _ _ w is l.2)))
          (λ w is. (let l = g.lists_of w is in (l.0, in_right l.0 named more l.1, piece_next raw front next both j f.within g.within _ _ _ w l.2)));
      slots = λ l slot is e. subst (λ (xs : List ℕ). In slot xs) (sym j.slots) (elim (in_cases l named more is) as (λ _. In slot (front.slots.items ++ next.slots.items)) [
        | inl first ↦ in_left slot front.slots.items next.slots.items (f.slots l slot first e)
        | inr later ↦ in_right slot front.slots.items next.slots.items (g.slots l slot later e)
      ]);
      slots_of = λ slot is. elim (in_cases slot front.slots.items next.slots.items (subst (λ (xs : List ℕ). In slot xs) j.slots is)) [
        | inl first ↦ (let l = f.slots_of slot first in (l.0, in_left l.0 named more l.1, l.2))
        | inr later ↦ (let l = g.slots_of slot later in (l.0, in_right l.0 named more l.1, l.2))
      ];
      operands_of = λ o is. elim (operand_from raw front next both j f.within g.within o is) [
        | inl first ↦ (let w = f.operands_of o first in (w.0, row_front raw front next both j f.within g.within w.0 w.1, subst (λ (xs : List ListOperand). In o xs) (sym (own_front raw front next both j f.within g.within w.0 w.1)) w.2))
        | inr later ↦ (let w = g.operands_of o later in (raised (length front.operands.items) w.0, row_next raw front next both j f.within g.within w.0 w.1, subst (λ (xs : List ListOperand). In o xs) (sym (own_next raw front next both j f.within g.within w.0)) w.2))
      ];
      of_file = λ o is. elim (operand_from raw front next both j f.within g.within o is) [
        | inl first ↦ f.of_file o first
        | inr later ↦ g.of_file o later
      ];
      stand = all (λ w. Rows (w.from + 1) (own_rows both.operands.items w) w.end)
          (λ w is. subst (λ (xs : List ListOperand). Rows (w.from + 1) xs w.end) (sym (own_front raw front next both j f.within g.within w is)) (f.stand w is))
          (λ w is. subst (λ (xs : List ListOperand). Rows (w.from + 1) xs w.end) (sym (own_next raw front next both j f.within g.within w)) (g.stand w is));
    }
