-- Where lists share nothing, each list of the section with other numbers is the old one with these numbers, and slots hold what they held.
use Rattle.std.proofs.Common.{◌≡◌, ℕ, suc, ◌+◌, ◌-◌, ◌<◌, ◌≤◌, ◌||◌, Bool, List, [], ◌∷◌, ◌++◌, length, take, drop, get_or, map, Some, refl, sym, ap, subst, ◌∙◌, inl, inr, arith}
use Rattle.std.proofs.lemmas.List.{drop-drop, length-append, length-map, length-take-le, map-append, take-append-drop}
use Rattle.std.proofs.Math.Seq.{drop-append_seam, take-append_seam}
use Rattle.dwz_bytes.specs.Spelling.{SpellsFixed}
use Rattle.dwz_model.specs.Lists.{In}
use Rattle.dwz_def_reading.specs.Texts.{IsSlot, slot_place}
use Rattle.dwz_def_reading.specs.declared.exprs.Operand.{Operand}
use Rattle.dwz_def_reading.specs.Exprs.{AreNamed, ExprContext, Expression, FieldItem, SpellsExpr, expressions_in, joined_items, most_inside, operands_in, parts_from, parts_of}
use Rattle.dwz_def_reading.specs.LocLists.{EndsList, LocList, SpellsList, SpellsListEntry}
use Rattle.dwz_def_reading.specs.Meanings.{any_with_address}
use Rattle.dwz_def_reading.specs.PatchedLists.{CanHave, IsPatched, expr_with, list_with, with_number}
use Rattle.dwz_def_reading.specs.Patching.{AllFit, filled, renumbered}
use Rattle.dwz_def_reading.specs.Sequences.{SpellsRow, StandsFrom}
use Rattle.dwz_def_reading.specs.Shared.{HasByte, NamedList, NoneShared, of_unit, operands_of, own_operands}
use Rattle.dwz_def_reading.proofs.CutLemmas.{Lie, filled_cut, patch}
use Rattle.dwz_def_reading.proofs.FilledLemmas.{GoAlong, Good, exprs_moved, joined_moved, moved_expr, moved_founds, row_moves}
use Rattle.dwz_def_reading.proofs.InPlaceLemmas.{between, between_len, between_same, new_between}
use Rattle.dwz_def_reading.proofs.ListKindLemmas.{EachSpelled, each_spelled, row_only, same_operands}
use Rattle.dwz_def_reading.proofs.PassLemmas.{own_in}
use Rattle.dwz_def_reading.proofs.RenumberLemmas.{parts_moved}
use Rattle.dwz_def_reading.proofs.StandLemmas.{row_stands, within_stands}

-- ---- places that stay

abbrev here : ℕ → ℕ
here = λ n. n

here_along : GoAlong 0 here
here_along s n le = refl

-- ---- expressions with the numbers of places

by_places : (number : ℕ → ℕ) (os : List Operand) → renumbered os (map (λ o. number o.at) os) ≡ map (with_number number) os
unfolding renumbered
by_places number [] = refl
by_places number (o ∷ os) = ap (λ (w : List Operand). with_number number o ∷ w) (by_places number os)

filled_with : (number : ℕ → ℕ) (e : Expression) → filled (parts_of e) (map (λ o. number o.at) e.operands) ≡ patch e.at e.bytes (map (with_number number) e.operands)
filled_with number e = filled_cut e.at e.bytes e.operands (map (λ o. number o.at) e.operands) (length-map e.operands (λ (o : Operand). number o.at))
    ∙ ap (patch e.at e.bytes) (by_places number e.operands)

same_exprs : (number : ℕ → ℕ) (exprs : List Expression) → map (expr_with number) exprs ≡ map (moved_expr 0 here here_along number) exprs
same_exprs number [] = refl
same_exprs number (e ∷ exprs) = λ i. record { at = e.at; bytes = filled_with number e i; operands = map (with_number number) e.operands; address = e.address } ∷ same_exprs number exprs i

good_here : (number : ℕ → ℕ) (c : ExprContext) (os : List Operand) → AllFit (map (with_number number) os) → AreNamed c.names (map (with_number number) os) → Good 0 here here_along number c.names os
good_here number c [] fit named = tt
good_here number c (o ∷ os) fit named = ((fit.0, named.0), good_here number c os fit.1 named.1)

-- the parts stay
expr_parts : (number : ℕ → ℕ) (c : ExprContext) (e : Expression) → SpellsExpr c e e.at e.bytes → parts_of (expr_with number e) ≡ parts_of e
expr_parts number c e s =
    ap (λ (w : List ℕ). parts_from e.at w (map (with_number number) e.operands)) (filled_with number e)
    ∙ parts_moved 0 here here_along number e.at e.bytes e.operands (omega arith) (within_stands c (suc most_inside) e e.at e.bytes s).lie

exprs_parts : (number : ℕ → ℕ) (c : ExprContext) (exprs : List Expression) → EachSpelled c exprs → map parts_of (map (expr_with number) exprs) ≡ map parts_of exprs
exprs_parts number c [] s = refl
exprs_parts number c (e ∷ exprs) s = λ i. expr_parts number c e s.0 i ∷ exprs_parts number c exprs s.1 i

pub list_parts : (number : ℕ → ℕ) (c : ExprContext) (start : ℕ) (bytes : List ℕ) (l : LocList) → SpellsList c l start bytes → map parts_of (list_with number l).exprs ≡ map parts_of l.exprs
list_parts number c start bytes l s =
    exprs_parts number c l.exprs (subst (EachSpelled c) (sym s.exprs) (each_spelled c (joined_items s.entries) (row_only c s.entries start bytes s.spelled)))

pub list_operands : (number : ℕ → ℕ) (exprs : List Expression) → operands_of (map (expr_with number) exprs) ≡ map (with_number number) (operands_of exprs)
unfolding operands_of
list_operands number [] = refl
list_operands number (e ∷ exprs) = ap (λ (w : List Operand). map (with_number number) e.operands ++ w) (list_operands number exprs)
    ∙ sym (map-append (with_number number) e.operands (operands_of exprs))

pub list_addresses : (number : ℕ → ℕ) (exprs : List Expression) → any_with_address (map (expr_with number) exprs) ≡ any_with_address exprs
list_addresses number [] = refl
list_addresses number (e ∷ exprs) = ap (λ (b : Bool). e.address || b) (list_addresses number exprs)

-- ---- a list in its place

pub cut_at : (from to : ℕ) (section : List ℕ) → from ≤ to → section ≡ take from section ++ (between from to section ++ drop to section)
cut_at from to section le =
    let place : from + (to - from) ≡ to = omega (arith, le) in
    sym (take-append-drop from section)
    ∙ ap (λ (w : List ℕ). take from section ++ w) (sym (take-append-drop (to - from) (drop from section))
    ∙ ap (λ (w : List ℕ). between from to section ++ w) (drop-drop (to - from) from section ∙ ap (λ (n : ℕ). drop n section) place))

-- what stands behind some bytes and before others
stood : (section before front after : List ℕ) (place : ℕ) → length before ≡ place → section ≡ before ++ (front ++ after) → between place (place + length front) section ≡ front
stood section before front after place len parts =
    let behind : drop place section ≡ front ++ after = ap (drop place) parts ∙ ap (λ (n : ℕ). drop n (before ++ (front ++ after))) (sym len) ∙ drop-append_seam before (front ++ after) in
    let count : place + length front - place ≡ length front = omega arith in
    ap (λ (n : ℕ). take n (drop place section)) count ∙ ap (take (length front)) behind ∙ take-append_seam front after

pub stood_within : (section before front after : List ℕ) (place : ℕ) → length before ≡ place → section ≡ before ++ (front ++ after) → place + length front ≤ length section
stood_within section before front after place len parts = omega (arith, len, ap length parts, length-append before (front ++ after), length-append front after)

module _ (lists : List NamedList) (number : ℕ → ℕ) (section new : List ℕ) (none : NoneShared lists) (patched : IsPatched lists number section new) where
  -- a byte of a list that is in none of its operands
  byte_stays : (l : NamedList) → In l lists → (b : ℕ) → l.from ≤ b → b < l.list.end → ((o : Operand) → In o (own_operands l) → HasByte o b → ⊥) → get_or new b 0 ≡ get_or section b 0
  byte_stays l there b from to own =
      patched.others b (λ o is has. none o.operand.at (o, is, (refl, inr (inl (l, there, record { byte = b; has = has; from = from; to = to; others = own })))))

  -- a byte of a slot
  slot_byte_stays : (l : NamedList) (slot : ℕ) → In l lists → l.slot ≡ Some slot → (b : ℕ) → slot ≤ b → b < slot + 4 → get_or new b 0 ≡ get_or section b 0
  slot_byte_stays l slot there is_slot b from to =
      patched.others b (λ o is has. none o.operand.at (o, is, (refl, inr (inr (l, there, record { slot = slot; is_slot = is_slot; byte = b; has = has; from = from; to = to })))))

  pub list_stands : (c d : ExprContext) (l : NamedList) → In l lists → StandsFrom (SpellsList c) section l.from l.list → CanHave d number l
      → StandsFrom (SpellsList d) new l.from (list_with number l.list)
  list_stands c d l there s can = record {
    before = take l.from new;
    front = between l.from l.list.end new;
    after = drop l.list.end new;
    length_before = length-take-le l.from new (omega (arith, patched.len, within, le));
    spelled = record {
      entries = map (moved_founds 0 here here_along number) entries;
      spelled = subst (SpellsRow (SpellsListEntry d) EndsList (map (moved_founds 0 here here_along number) entries) l.from) (sym new_front) row;
      exprs = exprs;
      end = omega (arith, between_len l.from l.list.end new le (omega (arith, patched.len, within)), le);
    };
    parts = cut_at l.from l.list.end new le;
  } where
    entries : List (List FieldItem)
    entries = s.spelled.entries

    le : l.from ≤ l.list.end
    le = let end = s.spelled.end in omega (arith, end)

    within : l.list.end ≤ length section
    within = let end = s.spelled.end in omega (arith, end, stood_within section s.before s.front s.after l.from s.length_before s.parts)

    operands : operands_in (joined_items s.spelled.entries) ≡ own_operands l
    operands = same_operands c (joined_items s.spelled.entries) (row_only c s.spelled.entries l.from s.front s.spelled.spelled) ∙ ap operands_of (sym s.spelled.exprs)

    lie : Lie l.from l.list.end (own_operands l)
    lie = subst (Lie l.from l.list.end) operands (subst (λ (n : ℕ). Lie l.from n (operands_in (joined_items s.spelled.entries))) (sym s.spelled.end)
        (row_stands c s.spelled.entries l.from s.front s.spelled.spelled).lie)

    old_front : between l.from l.list.end section ≡ s.front
    old_front = ap (λ (n : ℕ). between l.from n section) s.spelled.end ∙ stood section s.before s.front s.after l.from s.length_before s.parts

    new_front : between l.from l.list.end new ≡ patch l.from s.front (map (with_number number) (operands_in (joined_items s.spelled.entries)))
    new_front =
        new_between section new patched.len number l.from l.list.end (own_operands l) lie within (λ o is. patched.written (of_unit l.unit o) (own_in l o lists there is)) (byte_stays l there)
        ∙ ap (λ (w : List ℕ). patch l.from w (map (with_number number) (own_operands l))) old_front
        ∙ ap (λ (w : List Operand). patch l.from s.front (map (with_number number) w)) (sym operands)

    good : Good 0 here here_along number d.names (operands_in (joined_items s.spelled.entries))
    good = subst (Good 0 here here_along number d.names) (sym operands) (good_here number d (own_operands l) can.fit can.named)

    row : SpellsRow (SpellsListEntry d) EndsList (map (moved_founds 0 here here_along number) s.spelled.entries) l.from
        (patch l.from s.front (map (with_number number) (operands_in (joined_items s.spelled.entries))))
    row = row_moves 0 here here_along number d.names c d refl s.spelled.entries l.from s.front (omega arith) s.spelled.spelled good

    exprs : map (expr_with number) l.list.exprs ≡ expressions_in (joined_items (map (moved_founds 0 here here_along number) s.spelled.entries))
    exprs =
        same_exprs number l.list.exprs
        ∙ ap (map (moved_expr 0 here here_along number)) s.spelled.exprs
        ∙ sym (exprs_moved 0 here here_along number (joined_items s.spelled.entries))
        ∙ ap expressions_in (sym (joined_moved 0 here here_along number s.spelled.entries))

  pub slot_stays : (l : NamedList) (base index offset : ℕ) → In l lists → l.slot ≡ Some (slot_place base index) → IsSlot section base index offset → IsSlot new base index offset
  slot_stays l base index offset there is_slot s =
      let place = slot_place base index in
      let four : place + length s.front ≡ place + 4 = omega (arith, s.spelled.len) in
      let within : place + 4 ≤ length section = omega (arith, four, stood_within section s.before s.front s.after place s.length_before s.parts) in
      let old : between place (place + 4) section ≡ s.front = ap (λ (n : ℕ). between place n section) (sym four) ∙ stood section s.before s.front s.after place s.length_before s.parts in
      let same : between place (place + 4) new ≡ s.front = between_same place (place + 4) section new patched.len (omega arith) within (slot_byte_stays l place there is_slot) ∙ old in
      record {
        before = take place new;
        front = between place (place + 4) new;
        after = drop (place + 4) new;
        spelled = subst (λ (w : List ℕ). SpellsFixed 4 w offset) (sym same) s.spelled;
        length_before = length-take-le place new (omega (arith, patched.len, within));
        parts = cut_at place (place + 4) new (omega arith);
      }
