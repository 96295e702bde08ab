-- What a pass over rows finds is the least place at which an operand of a list shares a byte.
use Rattle.std.proofs.Common.{◌≡◌, ◌⊎◌, ℕ, zero, suc, ◌+◌, ◌<◌, ◌≤◌, Bool, true, false, List, [], ◌∷◌, map, drop, eqb, ◌-◌, Option, Some, None, Ok, Err, refl, sym, ap, subst, ◌∙◌, inl, inr, arith}
use Rattle.std.specs.List.{Contains, list_any}
use Rattle.std.specs.List.Sorted.{IsPermutation}
use Rattle.std.proofs.lemmas.Bool.{cases_Bool, cases_lt, cond-false, cond-true, eq-eqb, eqb-true, false≢true}
use Rattle.std.proofs.lemmas.List.Sorted.{Contains-permutation, IsPermutation-sym}
use Rattle.dwz_def_reading.specs.Lists.{In}
use Rattle.dwz_def_reading.specs.Rows.{has}
use Rattle.dwz_def_reading.specs.Units.{RawUnit}
use Rattle.dwz_def_reading.proofs.ListFacts.{in_cases, in_left, in_right}
use Rattle.dwz_def_reading.specs.Shared.{AreRows, Ascend, Clashes, HasByte, IsInSlot, IsSame, IsShared, IsSharedAt, ListOperand, NamedList, NoneShared, OneOf, has_byte, none_shared, of_unit}
use Rattle.dwz_def_reading.specs.Shared.{operands_in_lists, own_operands, shared_list}
use Rattle.dwz_def_reading.proofs.SharedLemmas.{has_decides, shared_agrees}
use Rattle.dwz_def_reading.proofs.DecideLemmas.{decides_any}
use Rattle.dwz_def_reading.proofs.FoundLemmas.{lists_in}
use Rattle.dwz_graph_resolve.specs.declared.lists.ListRow.{ListRow}
use Rattle.dwz_graph_resolve.specs.declared.lists.Lists.{Lists}
use Rattle.dwz_graph_resolve.specs.declared.operands.ListOperand.{ListOperand as Row}
use Rattle.dwz_graph_resolve.specs.Apart.{AreWide, Before, Clash, FindsApart, Foreign, HasClash, IsCause, Rise, Rows, Same, Test, Tested, places_of_rows}
use Rattle.dwz_graph_resolve.specs.ListRows.{AreOfFile, AreDistinct, IsPieceOf, Shows, operand_view, own_rows, row_test, slot_test, start_of, tests_of}
use Rattle.dwz_graph_resolve.proofs.ApartLemmas.{each_behind, each_wide, in_take, one_row}
use Rattle.dwz_graph_resolve.proofs.PassLemmas.{same_sym, same_trans}

-- ---- members

pub in_contains : {X : Type 0} (xs : List X) (x : X) → In x xs → Contains xs x
in_contains [] x is = absurd is
in_contains (y ∷ xs) x (inl e) = (0, omega arith, e)
in_contains (y ∷ xs) x (inr later) = let r = in_contains xs x later in let lt = r.1 in (suc r.0, omega arith, r.2)

pub contains_in : {X : Type 0} (xs : List X) (x : X) → Contains xs x → In x xs
contains_in [] x c = absurd (let lt = c.1 in omega arith)
contains_in (y ∷ xs) x (zero, lt, e) = inl e
contains_in (y ∷ xs) x (suc k, lt, e) = inr (contains_in xs x (k, omega arith, e))

pub in_sorted : {X : Type 0} (xs ys : List X) → IsPermutation xs ys → (x : X) → In x xs → In x ys
in_sorted xs ys p x is = contains_in ys x (Contains-permutation xs ys x p (in_contains xs x is))

pub in_unsorted : {X : Type 0} (xs ys : List X) → IsPermutation xs ys → (x : X) → In x ys → In x xs
in_unsorted xs ys p x is = in_sorted ys xs (IsPermutation-sym xs ys p) x is

pub in_map : {X Y : Type 0} (f : X → Y) (xs : List X) (x : X) → In x xs → In (f x) (map f xs)
in_map f [] x is = absurd is
in_map f (y ∷ xs) x (inl e) = inl (ap f e)
in_map f (y ∷ xs) x (inr later) = inr (in_map f xs x later)

pub from_map : {X Y : Type 0} (f : X → Y) (xs : List X) (y : Y) → In y (map f xs) → OneOf xs (λ x. f x ≡ y)
from_map f [] y is = absurd is
from_map f (x ∷ xs) y (inl e) = (x, inl refl, e)
from_map f (x ∷ xs) y (inr later) = let r = from_map f xs y later in (r.0, inr r.1, r.2)

place_in : (rows : List Row) (p : ℕ) → has p (places_of_rows rows) ≡ true → OneOf rows (λ r. r.at ≡ p)
unfolding has
place_in [] p e = absurd (false≢true e)
place_in (r ∷ rows) p e = elim (cases_Bool (eqb r.at p)) [
  | inl t ↦ (r, inl refl, eqb-true r.at p t)
  | inr f ↦ let more = place_in rows p (sym (cond-false (eqb r.at p) true (has p (places_of_rows rows)) f) ∙ e) in (more.0, inr more.1, more.2)
]

in_place : (rows : List Row) (r : Row) (p : ℕ) → In r rows → r.at ≡ p → has p (places_of_rows rows) ≡ true
unfolding has
in_place [] r p is e = absurd is
in_place (q ∷ rows) r p (inl same) e = cond-true (eqb q.at p) true (has p (places_of_rows rows)) (eq-eqb q.at p (ap (λ (w : Row). w.at) same ∙ e))
in_place (q ∷ rows) r p (inr later) e = elim (cases_Bool (eqb q.at p)) [
  | inl t ↦ cond-true (eqb q.at p) true (has p (places_of_rows rows)) t
  | inr f ↦ cond-false (eqb q.at p) true (has p (places_of_rows rows)) f ∙ in_place rows r p later e
]

in_drop : {X : Type 0} (x : X) (xs : List X) (k : ℕ) → In x (drop k xs) → In x xs
in_drop x [] zero is = is
in_drop x [] (suc k) is = absurd is
in_drop x (y ∷ xs) zero is = is
in_drop x (y ∷ xs) (suc k) is = inr (in_drop x xs k is)

own_in_all : (operands : List Row) (w : ListRow) (o : Row) → In o (own_rows operands w) → In o operands
own_in_all operands w o is = in_drop o operands w.first (in_take o (drop w.first operands) (w.last - w.first) is)

rows_order : (rows : List Row) (from to : ℕ) → Rows from rows to → from ≤ to
rows_order [] from to h = h
rows_order (o ∷ rows) from to h = let low = h.0 in let more = rows_order rows (o.at + o.width) to h.2 in omega arith

-- the operand of a list that is named
in_lists : (named : List NamedList) (x : ListOperand) → In x (operands_in_lists named) → OneOf named (λ l. In x (map (of_unit l.unit) (own_operands l)))
unfolding operands_in_lists
in_lists [] x is = absurd is
in_lists (l ∷ named) x is = elim (in_cases x (map (of_unit l.unit) (own_operands l)) (operands_in_lists named) is) [
  | inl own ↦ (l, inl refl, own)
  | inr later ↦ let r = in_lists named x later in (r.0, inr r.1, r.2)
]

byte_same : (x y : ListOperand) (b : ℕ) → x ≡ y → HasByte y.operand b → HasByte x.operand b
byte_same x y b e h = subst (λ (z : ListOperand). HasByte z.operand b) (sym e) h

before_lower : (c : Option ℕ) (m n : ℕ) → m ≤ n → Before c n → Before c m
before_lower None m n le b = tt
before_lower (Some place) m n le b = omega (arith, le, b)

greater : (a b : ℕ) → (c : ℕ) × (a ≤ c) × (b ≤ c) × ((c ≡ a) ⊎ (c ≡ b))
greater a b = elim (cases_lt a b) [
  | inl lt ↦ (b, omega arith, omega arith, inr refl)
  | inr ge ↦ (a, omega arith, omega arith, inl refl)
]

module _ (raw : List RawUnit) (file : ℕ) (named : List NamedList) (lists : Lists) (shows : Shows raw file named lists) where
  abbrev view : Row → ListOperand
  view o = operand_view raw o

  abbrev all : List Row
  all = lists.operands.items

  same_view : (o p : Row) → Same o p → IsSame (view o) (view p)
  same_view o p s = record { unit = ap (start_of raw) s.unit; at = s.at; width = s.width; uleb = s.uleb; base = s.base }

  view_same : AreDistinct raw → (o p : Row) → In o all → In p all → IsSame (view o) (view p) → Same o p
  view_same distinct o p is there s = record { unit = distinct o.unit p.unit (shows.of_file o is).unit (shows.of_file p there).unit s.unit; at = s.at; width = s.width; uleb = s.uleb; base = s.base }

  pub wide : (o : Row) → In o all → 0 < o.width
  wide o is = let w = shows.operands_of o is in each_wide (own_rows all w.0) (w.0.from + 1) w.0.end (shows.stand w.0 w.1) o w.2

  -- an operand of a list is kept
  kept_view : (x : ListOperand) → In x (operands_in_lists named) → OneOf all (λ o. view o ≡ x)
  kept_view x is =
      let l = in_lists named x is in
      let p = from_map (of_unit l.0.unit) (own_operands l.0) x l.2 in
      let o = (shows.rows l.0 l.1).own p.0 p.1 in
      (o.0, o.1, o.2 ∙ p.2)

  -- what is kept is an operand of a list
  view_kept : (o : Row) → In o all → In (view o) (operands_in_lists named)
  view_kept o is =
      let w = shows.operands_of o is in
      let l = shows.lists_of w.0 w.1 in
      let p = l.2.others o w.2 in
      lists_in named l.0 (view o) l.1 (subst (λ (y : ListOperand). In y (map (of_unit l.0.unit) (own_operands l.0))) p.2 (in_map (of_unit l.0.unit) (own_operands l.0) p.0 p.1))

  module _ (distinct : AreDistinct raw) (sorted kept : List Row) (moved : IsPermutation all sorted) (clash : Option ℕ) (apart : FindsApart sorted kept clash) (place : Option ℕ)
      (tested : Tested sorted kept clash (tests_of lists) place) where
    kept_all : (r : Row) → In r kept → In r all
    kept_all r is = in_unsorted all sorted moved r (apart.from r is)

    shared_here : (o : Row) → In o all → IsShared named (view o) → IsSharedAt named o.at
    shared_here o is shared = (view o, view_kept o is, (refl, shared))

    -- ---- each cause is a shared operand

    clash_shared : (q : ℕ) → Clash sorted q → IsSharedAt named q
    clash_shared q c =
        let first = in_unsorted all sorted moved c.first c.is_first in
        let second = in_unsorted all sorted moved c.second c.is_second in
        let some = wide c.second second in
        let order = c.order in
        let reach = c.reach in
        let clashes : Clashes (view c.second) (view c.first) = record {
          later = order;
          shared = (c.second.at, (omega arith, omega arith), (order, reach));
          differ = λ s. c.differ (same_sym c.second c.first (view_same distinct c.second c.first second first s));
        } in
        subst (λ (n : ℕ). IsSharedAt named n) (sym c.at) (shared_here c.second second (inl (view c.first, view_kept c.first first, clashes)))

    list_shared : (w : ListRow) → In w lists.rows.items → (q : ℕ) → Foreign kept (row_test all w) q → IsSharedAt named q
    list_shared w there q f = subst (λ (n : ℕ). IsSharedAt named n) (sym f.at) (shared_here f.row is (by (list_any (has_byte b) (own_operands l.0)) refl)) where
      is : In f.row all
      is = kept_all f.row f.is_row

      l : OneOf named (λ l. IsPieceOf raw all l.unit l.from l.list w)
      l = shows.lists_of w there

      g : (c : ℕ) × (f.row.at ≤ c) × (w.from ≤ c) × ((c ≡ f.row.at) ⊎ (c ≡ w.from))
      g = greater f.row.at w.from

      b : ℕ
      b = g.0

      -- the byte is one of the row and of the list
      of_row : HasByte (view f.row).operand b
      of_row = let some = wide f.row is in let low = f.overlaps.low in let high = f.overlaps.high in let x = g.1 in (x, elim g.3 [ inl e ↦ omega arith | inr e ↦ omega arith ])

      in_list : b < w.end
      in_list = let order = rows_order (own_rows all w) (w.from + 1) w.end (shows.stand w there) in let low = f.overlaps.low in elim g.3 [ inl e ↦ omega arith | inr e ↦ omega arith ]

      by : (t : Bool) → list_any (has_byte b) (own_operands l.0) ≡ t → IsShared named (view f.row)
      by false e =
          let from = l.2.from in
          let end = l.2.end in
          let low = g.2 in
          let to = in_list in
          inr (inl (
            l.0,
            l.1,
            record {
              byte = b;
              has = of_row;
              from = (let r : l.0.from ≤ b = omega arith in r);
              to = (let r : b < l.0.list.end = omega arith in r);
              others = λ p own h. (decides_any (has_byte b) (λ p. HasByte p b) (has_decides b) (own_operands l.0)).no e (p, own, h);
            },
          ))
      by true e =
          let p = (decides_any (has_byte b) (λ p. HasByte p b) (has_decides b) (own_operands l.0)).yes e in
          let o = l.2.own p.0 p.1 b p.2 in_list in
          let mine = own_in_all all w o.0 o.1 in
          let behind = each_behind (own_rows all w) (w.from + 1) w.end (shows.stand w there) o.0 o.1 in
          let h : HasByte (view o.0).operand b = subst (λ (x : ListOperand). HasByte x.operand b) (sym o.2) p.2 in
          let low : o.0.at ≤ b = h.0 in
          let at : b ≡ f.row.at = elim g.3 [ inl same ↦ same | inr same ↦ absurd (omega arith) ] in
          let clashes : Clashes (view f.row) (view o.0) = record {
            later = (let r : o.0.at ≤ f.row.at = omega arith in r);
            shared = (b, of_row, h);
            differ = λ s. false≢true (sym f.other ∙ in_place (own_rows all w) o.0 q o.1 (sym s.at ∙ sym f.at));
          } in
          inl (view o.0, view_kept o.0 mine, clashes)

    slot_shared : (slot : ℕ) → In slot lists.slots.items → (q : ℕ) → Foreign kept (slot_test slot) q → IsSharedAt named q
    slot_shared slot there q f =
        let is = kept_all f.row f.is_row in
        let l = shows.slots_of slot there in
        let g = greater f.row.at slot in
        let some = wide f.row is in
        let low = f.overlaps.low in
        let high = f.overlaps.high in
        let x = g.1 in
        let y = g.2 in
        let end : g.0 < f.row.at + f.row.width = elim g.3 [ inl e ↦ omega arith | inr e ↦ omega arith ] in
        let to : g.0 < slot + 4 = elim g.3 [ inl e ↦ omega arith | inr e ↦ omega arith ] in
        let inside : IsInSlot (view f.row).operand l.0 = record { slot = slot; is_slot = l.2; byte = g.0; has = (x, end); from = y; to = to } in
        subst (λ (n : ℕ). IsSharedAt named n) (sym f.at) (shared_here f.row is (inr (inr (l.0, l.1, inside))))

    cause_shared : (q : ℕ) → IsCause sorted kept (tests_of lists) (Some q) → IsSharedAt named q
    cause_shared q (inl c) = clash_shared q c
    cause_shared q (inr f) = elim (in_cases f.0 (map (row_test all) lists.rows.items) (map slot_test lists.slots.items) f.1) [
      | inl a ↦ let w = from_map (row_test all) lists.rows.items f.0 a in list_shared w.0 w.1 q (subst (λ (t : Test). Foreign kept t q) (sym w.2) f.2)
      | inr b ↦ let slot = from_map slot_test lists.slots.items f.0 b in slot_shared slot.0 slot.1 q (subst (λ (t : Test). Foreign kept t q) (sym slot.2) f.2)
    ]

    -- ---- none is shared before

    kept_for : (o : Row) → In o all → Before place o.at → OneOf kept (λ r. Same r o)
    kept_for o is before = apart.all o (in_sorted all sorted moved o is) (tested.under o.at before)

    byte_of : (r o : Row) (b : ℕ) → Same r o → HasByte (view o).operand b → (r.at ≤ b) × (b < r.at + r.width)
    byte_of r o b s h = let at = s.at in let width = s.width in let low : o.at ≤ b = h.0 in let high : b < o.at + o.width = h.1 in (omega arith, omega arith)

    none_before : (o : Row) → In o all → Before place o.at → IsShared named (view o) → ⊥
    none_before o is before (inl clash) =
        let p = kept_view clash.0 clash.1 in
        let c : Clashes (view o) (view p.0) = subst (λ (x : ListOperand). Clashes (view o) x) (sym p.2) clash.2 in
        let later : p.0.at ≤ o.at = c.later in
        let r = kept_for o is before in
        let q = kept_for p.0 p.1 (before_lower place p.0.at o.at later before) in
        let b = c.shared.0 in
        let x = byte_of r.0 o b r.2 c.shared.1 in
        let y = byte_of q.0 p.0 b q.2 c.shared.2 in
        let one = one_row kept 0 apart.top apart.rows r.0 q.0 r.1 q.1 b x.0 x.1 y.0 y.1 in
        let both : Same r.0 p.0 = subst (λ (w : Row). Same w p.0) (sym one) q.2 in
        c.differ (same_view o p.0 (same_trans o r.0 p.0 (same_sym r.0 o r.2) both))
    none_before o is before (inr (inl inside)) =
        let l = inside.0 in
        let i = inside.2 in
        let w = (shows.rows l inside.1).bytes i.byte i.from i.to in
        let r = kept_for o is before in
        let h = byte_of r.0 o i.byte r.2 i.has in
        let low = h.0 in
        let high = h.1 in
        let begin = w.2.low in
        let end = w.2.high in
        let same = r.2.at in
        let owns = tested.none (row_test all w.0) (in_left (row_test all w.0) (map (row_test all) lists.rows.items) (map slot_test lists.slots.items) (in_map (row_test all) lists.rows.items w.0 w.1))
        r.0 r.1 (subst (λ (n : ℕ). Before place n) (sym same) before) (record { low = omega arith; high = omega arith }) in
        let own = place_in (own_rows all w.0) r.0.at owns in
        let mine = own_in_all all w.0 own.0 own.1 in
        let at : own.0.at ≡ o.at = own.2 ∙ same in
        let q = kept_for own.0 mine (subst (λ (n : ℕ). Before place n) (sym at) before) in
        let wide_r = each_wide kept 0 apart.top apart.rows r.0 r.1 in
        let wide_q = each_wide kept 0 apart.top apart.rows q.0 q.1 in
        let at_q = q.2.at in
        let at_own = own.2 in
        let one = one_row kept 0 apart.top apart.rows r.0 q.0 r.1 q.1 r.0.at (omega arith) (omega arith) (omega arith) (omega arith) in
        let both : Same r.0 own.0 = subst (λ (x : Row). Same x own.0) (sym one) q.2 in
        let wide_own = both.width in
        let has : HasByte (view own.0).operand i.byte = (omega arith, omega arith) in
        let p = w.2.others own.0 own.1 has in
        i.others p.0 p.1 (byte_same (of_unit l.unit p.0) (view own.0) i.byte p.2 has)
    none_before o is before (inr (inr slotted)) =
        let l = slotted.0 in
        let i = slotted.2 in
        let r = kept_for o is before in
        let h = byte_of r.0 o i.byte r.2 i.has in
        let low = h.0 in
        let high = h.1 in
        let from = i.from in
        let to = i.to in
        let same = r.2.at in
        let slot = shows.slots l i.slot slotted.1 i.is_slot in
        let owns = tested.none (slot_test i.slot) (in_right (slot_test i.slot) (map (row_test all) lists.rows.items) (map slot_test lists.slots.items) (in_map slot_test lists.slots.items i.slot slot))
        r.0 r.1 (subst (λ (n : ℕ). Before place n) (sym same) before) (record { low = omega arith; high = omega arith }) in
        let own = place_in [] r.0.at owns in
        absurd own.1

    none_at : (q : ℕ) → Before place q → IsSharedAt named q → ⊥
    none_at q before (x, there, (at, shared)) =
        let o = kept_view x there in
        let same : q ≡ o.0.at = at ∙ ap (λ (y : ListOperand). y.operand.at) (sym o.2) in
        none_before o.0 o.1 (subst (λ (n : ℕ). Before place n) same before) (subst (λ (y : ListOperand). IsShared named y) (sym o.2) shared)

    -- ---- the rows

    kept_ascend : (rows : List Row) (from to : ℕ) → Rows from rows to → Ascend (map view rows)
    kept_ascend [] from to h = tt
    kept_ascend (o ∷ []) from to h = tt
    kept_ascend (o ∷ p ∷ rows) from to h =
        let some = h.1 in
        let low = h.2.0 in
        ((omega arith, (λ s. (let at : o.at ≡ p.at = s.at in omega arith))), kept_ascend (p ∷ rows) (o.at + o.width) to h.2)

    are_rows : clash ≡ None → AreRows named (map view kept)
    are_rows none = record {
      from = λ x is. (let r = from_map view kept x is in subst (λ (y : ListOperand). In y (operands_in_lists named)) r.2 (view_kept r.0 (kept_all r.0 r.1)));
      all = λ x is. (
          let o = kept_view x is in
          let r = apart.all o.0 (in_sorted all sorted moved o.0 o.1) (subst (λ (c : Option ℕ). Before c o.0.at) (sym none) tt) in
          (view r.0, in_map view kept r.0 r.1, subst (λ (y : ListOperand). IsSame (view r.0) y) o.2 (same_view r.0 o.0 r.2)));
      ascend = kept_ascend kept 0 apart.top apart.rows;
      some = λ x is. (let r = from_map view kept x is in subst (λ (y : ListOperand). 0 < y.operand.width) r.2 (each_wide kept 0 apart.top apart.rows r.0 r.1));
    }

-- ---- what is answered

abbrev pub Answered : List RawUnit → ℕ → List NamedList → List Row → Option ℕ → Type 0
Answered raw file named kept None = (none_shared named ≡ Ok tt) × AreRows named (map (operand_view raw) kept) × AreOfFile raw file kept
Answered raw file named kept (Some q) = none_shared named ≡ Err (shared_list q)

no_clash : (place clash : Option ℕ) → ((n : ℕ) → Before place n → Before clash n) → place ≡ None → clash ≡ None
no_clash place None under e = refl
no_clash place (Some c) under e = absurd (let low = under c (subst (λ (p : Option ℕ). Before p c) (sym e) tt) in omega arith)

pub shared_answer : (raw : List RawUnit) (file : ℕ) (named : List NamedList) (lists : Lists) → Shows raw file named lists → AreDistinct raw → (sorted kept : List Row)
    → IsPermutation lists.operands.items sorted → (clash : Option ℕ) → FindsApart sorted kept clash
    → (place : Option ℕ) → Tested sorted kept clash (tests_of lists) place → Answered raw file named kept place
shared_answer raw file named lists shows distinct sorted kept moved clash apart None tested =
    let none : NoneShared named = λ q shared. none_at raw file named lists shows distinct sorted kept moved clash apart None tested q tt shared in (
      ((shared_agrees named).ok tt).1 none,
      are_rows raw file named lists shows distinct sorted kept moved clash apart None tested (no_clash None clash tested.under refl),
      λ o is. shows.of_file o (in_unsorted lists.operands.items sorted moved o (apart.from o is)),
    )
shared_answer raw file named lists shows distinct sorted kept moved clash apart (Some q) tested =
    ((shared_agrees named).err (shared_list q)).1 (record {
      place = q;
      shared = cause_shared raw file named lists shows distinct sorted kept moved clash apart (Some q) tested q tested.cause;
      least = λ other shared. elim (cases_lt other q) [
        | inl lt ↦ absurd (none_at raw file named lists shows distinct sorted kept moved clash apart (Some q) tested other lt shared)
        | inr ge ↦ ge
      ];
      placed = refl;
    })

-- what the calls of the pass say, put together
pub pass_answer : (raw : List RawUnit) (file : ℕ) (named : List NamedList) (lists : Lists) → Shows raw file named lists → AreDistinct raw
    → (operands sorted given begun kept seen : List Row) (clash place : Option ℕ)
    → operands ≡ lists.operands.items → IsPermutation operands sorted → Rise sorted → given ≡ sorted → begun ≡ [] → seen ≡ kept
    → (begun ≡ [] → Rise given → AreWide given → FindsApart given kept clash)
    → ((xs : List Row) (top : ℕ) → Rows 0 seen top → ((w : ListRow) → In w lists.rows.items → Rows (w.from + 1) (own_rows lists.operands.items w) w.end) → HasClash xs clash
    → Tested xs seen clash (tests_of lists) place)
    → Answered raw file named kept place
pass_answer raw file named lists shows distinct operands sorted given begun kept seen clash place are moved rise is none shown pass tests =
    let mine : IsPermutation lists.operands.items sorted = subst (λ (w : List Row). IsPermutation w sorted) are moved in
    let broad : AreWide sorted = λ o there. wide raw file named lists shows o (in_unsorted lists.operands.items sorted mine o there) in
    let apart = pass none (subst (λ (w : List Row). Rise w) (sym is) rise) (subst (λ (w : List Row). AreWide w) (sym is) broad) in
    let apart' : FindsApart sorted kept clash = subst (λ (w : List Row). FindsApart w kept clash) is apart in
    let tested = tests sorted apart'.top (subst (λ (w : List Row). Rows 0 w apart'.top) (sym shown) apart'.rows) shows.stand apart'.clash_is in
    shared_answer raw file named lists shows distinct sorted kept mine clash apart' place (subst (λ (w : List Row). Tested sorted w clash (tests_of lists) place) shown tested)
