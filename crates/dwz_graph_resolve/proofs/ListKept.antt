-- What is kept of a list whose first entries were read now, and whose others were read before.
use Rattle.std.proofs.Common.{◌≡◌, ℕ, ◌+◌, ◌-◌, ◌<◌, ◌≤◌, ◌^◌, List, [], ◌∷◌, ◌++◌, length, map, take, drop, Bool, true, false, Some, None, Result, Ok, refl, sym, ap, subst, ◌∙◌, inl, inr, arith}
use Rattle.std.specs.Prelude.{slice_range}
use Rattle.std.proofs.lemmas.Bool.{cases_lt, cond-false, cond-true}
use Rattle.std.proofs.lemmas.List.{drop-append-le, length-append, length-drop, take-append-le, take_all}
use Rattle.std.proofs.Math.Seq.{drop-append_seam}
use Rattle.dwz_model.specs.declared.fault.Fault.{Fault}
use Rattle.dwz_def_reading.specs.Reading.{◌>>=◌}
use Rattle.dwz_def_reading.specs.Lists.{In}
use Rattle.dwz_def_reading.specs.Units.{RawUnit}
use Rattle.dwz_def_reading.proofs.ListFacts.{in_cases, in_left, in_right}
use Rattle.dwz_def_reading.specs.declared.exprs.Operand.{Operand}
use Rattle.dwz_def_reading.specs.Exprs.{first_unnamed}
use Rattle.dwz_def_reading.specs.LocLists.{LocList}
use Rattle.dwz_def_reading.specs.Meanings.{MeaningContext, expr_context}
use Rattle.dwz_def_reading.specs.Meant.{list_read}
use Rattle.dwz_def_reading.specs.Shared.{ListOperand as OperandOfList, OneOf, of_unit, operands_of}
use Rattle.dwz_def_reading.proofs.LocListLemmas.{list_reads, stands_agree}
use Rattle.dwz_expr.specs.FirstFault.{unless_one}
use Rattle.dwz_expr.proofs.AskedLemmas.{asked_none}
use Rattle.dwz_def_reading.specs.LocLists.{list_at}
use Rattle.dwz_def_reading.specs.Sequences.{read_from}
use Rattle.dwz_lists.specs.Entries.{IsEnd, with_before}
use Rattle.dwz_lists.specs.FirstFault.{WalksInto}
use Rattle.dwz_lists.specs.Gathering.{in_lists}
use Rattle.dwz_lists.proofs.AskLemmas.{no_operands, operands_both}
use Rattle.dwz_graph_resolve.specs.declared.lists.ListRow.{ListRow}
use Rattle.dwz_graph_resolve.specs.declared.operands.ListOperand.{ListOperand}
use Rattle.dwz_graph_resolve.specs.Apart.{Rows}
use Rattle.dwz_graph_resolve.specs.ListRows.{HasRow, IsKept, IsPieceOf, IsWithin, operand_view, own_rows}
use Rattle.dwz_graph_resolve.specs.ListParts.{IsPart, Passes}
use Rattle.dwz_graph_resolve.specs.ListSteps.{AreOperands, AreSmall}
use Rattle.dwz_graph_resolve.specs.Operands.{is_named}
use Rattle.dwz_graph_resolve.specs.State.{IsRead}
use Rattle.dwz_graph_resolve.proofs.SharedLaw.{from_map, in_map}
use Rattle.dwz_graph_resolve.proofs.StandLemmas.{Stand, list_stands}

-- ---- operands of a list that was read

pub record StandsHere (list : LocList) (section : List ℕ) (place : ℕ) : Type 0 where
  pub stand : Stand (place + 1) (operands_of list.exprs) list.end
  pub within : list.end ≤ length section

pub stands_here : (s : MeaningContext ℕ) (place : ℕ) (list : LocList) → place ≤ length s.around.sources.lists → list_read s place ≡ Ok list → StandsHere list s.around.sources.lists place
stands_here s place list le e =
    let st = ((stands_agree (list_reads (expr_context s 7)) s.around.sources.lists place le).ok list).0 e in
    record {
      stand = list_stands (expr_context s 7) list place st.front st.spelled;
      within = omega (arith, ap length st.parts, length-append st.before (st.front ++ st.after), length-append st.front st.after, st.length_before, st.spelled.end);
    }

stand_order : (os : List Operand) (from to : ℕ) → Stand from os to → from ≤ to
stand_order [] from to h = h
stand_order (o ∷ os) from to h = let next = stand_order os (o.at + o.width) to h.2 in let low = h.0 in omega arith

stand_low : (os : List Operand) (from to : ℕ) → Stand from os to → (o : Operand) → In o os → from ≤ o.at
stand_low [] from to h o is = absurd is
stand_low (p ∷ os) from to h o (inl same) = subst (λ (x : Operand). from ≤ x.at) same h.0
stand_low (p ∷ os) from to h o (inr is) = let low = h.0 in let next = stand_low os (p.at + p.width) to h.2 o is in omega arith

small_stand : (os : List Operand) (from to : ℕ) → to < 2 ^ 32 → Stand from os to → AreSmall os
small_stand [] from to lt h o is = absurd is
small_stand (p ∷ os) from to lt h o (inl same) =
    let next = stand_order os (p.at + p.width) to h.2 in
    let some = h.1 in
    subst (λ (x : Operand). x.at < 2 ^ 32) same (omega arith)
small_stand (p ∷ os) from to lt h o (inr is) = small_stand os (p.at + p.width) to lt h.2 o is

-- those in front of others, where they end before a place
stand_before : (a b : List Operand) (from to end : ℕ) → from ≤ end → Stand from (a ++ b) to → ((o : Operand) → In o a → o.at + o.width ≤ end) → Stand from a end
stand_before [] b from to end le h ends = le
stand_before (o ∷ a) b from to end le h ends = (h.0, h.1, stand_before a b (o.at + o.width) to end (ends o (inl refl)) h.2 (λ p is. ends p (inr is)))

rows_stand : (raw : List RawUnit) (unit : ℕ) (more : List ListOperand) (operands : List Operand) (from to : ℕ) → map (operand_view raw) more ≡ map (of_unit unit) operands → Stand from operands to
    → Rows from more to
rows_stand raw unit [] [] from to e h = h
rows_stand raw unit [] (o ∷ operands) from to e h = absurd cc
rows_stand raw unit (k ∷ more) [] from to e h = absurd cc
rows_stand raw unit (k ∷ more) (o ∷ operands) from to e h =
    let head : operand_view raw k ≡ of_unit unit o = cc in
    let tail : map (operand_view raw) more ≡ map (of_unit unit) operands = cc in
    let at : k.at ≡ o.at = ap (λ (x : OperandOfList). x.operand.at) head in
    let width : k.width ≡ o.width = ap (λ (x : OperandOfList). x.operand.width) head in
    let low = h.0 in
    let some = h.1 in
    (omega arith, omega arith, subst (λ (n : ℕ). Rows n more to) (λ i. sym at i + sym width i) (rows_stand raw unit more operands (o.at + o.width) to tail h.2))

-- ---- the own operands of rows

pub own_same : (old new more : List ListOperand) (w : ListRow) → new ≡ old ++ more → IsWithin old w → own_rows new w ≡ own_rows old w
own_same old new more w e h =
    let low = h.0 in
    let high = h.1 in
    ap (λ (x : List ListOperand). slice_range x w.first w.last) e ∙ ap (λ (x : List ListOperand). take (w.last - w.first) x) (drop-append-le w.first old more (omega arith))
    ∙ take-append-le (w.last - w.first) (drop w.first old) more (omega (arith, length-drop w.first old))

pub own_new : (old new more : List ListOperand) (w : ListRow) → new ≡ old ++ more → w.first ≡ length old → w.last ≡ length new → own_rows new w ≡ more
own_new old new more w e first last =
    (λ i. take (last i - first i) (drop (first i) (e i))) ∙ ap (λ (x : List ListOperand). take (length new - length old) x) (drop-append_seam old more)
    ∙ take_all (length new - length old) more (omega (arith, ap length e, length-append old more))

-- ---- rows are added

-- rows and operands were added behind those that were there
pub record Grown (rows rows' : List ListRow) (operands operands' : List ListOperand) : Type 0 where
  pub row : ListRow
  pub more : List ListOperand
  pub rows_are : rows' ≡ rows ++ row ∷ []
  pub operands_are : operands' ≡ operands ++ more
  pub within : (w : ListRow) → In w rows → IsWithin operands w

module _ (raw : List RawUnit) (rows rows' : List ListRow) (operands operands' : List ListOperand) (g : Grown rows rows' operands operands') where
  pub old_row : (w : ListRow) → In w rows → In w rows'
  old_row w is = subst (λ (xs : List ListRow). In w xs) (sym g.rows_are) (in_left w rows (g.row ∷ []) is)

  pub old_operand : (o : ListOperand) → In o operands → In o operands'
  old_operand o is = subst (λ (xs : List ListOperand). In o xs) (sym g.operands_are) (in_left o operands g.more is)

  pub old_own : (w : ListRow) → In w rows → own_rows operands' w ≡ own_rows operands w
  old_own w is = own_same operands operands' g.more w g.operands_are (g.within w is)

  pub has_grown : (unit b : ℕ) (own own' : List Operand) (w : ListRow) → ((p : Operand) → In p own → In p own') → In w rows → HasRow raw operands unit own b w → HasRow raw operands' unit own' b w
  has_grown unit b own own' w into is h = record {
    low = h.low;
    high = h.high;
    others = λ o there has. (let x = h.others o (subst (λ (xs : List ListOperand). In o xs) (old_own w is) there) has in (x.0, into x.0 x.1, x.2));
  }

  pub kept_grown : (unit from : ℕ) (list : LocList) → IsKept raw rows operands unit from list → IsKept raw rows' operands' unit from list
  kept_grown unit from list k = record {
    own = λ p is. (let o = k.own p is in (o.0, old_operand o.0 o.1, o.2));
    bytes = λ b low high. (let r = k.bytes b low high in (r.0, old_row r.0 r.1, has_grown unit b (operands_of list.exprs) (operands_of list.exprs) r.0 (λ p is. is) r.1 r.2));
  }

-- ---- the list behind the entries that were read

-- the list at which reading stopped, which was kept but for what is before a place
pub record IsRest (raw : List RawUnit) (s : MeaningContext ℕ) (rows : List ListRow) (operands : List ListOperand) (to end : ℕ) : Type 0 where
  pub list : LocList
  pub read : list_read s to ≡ Ok list
  pub order : to ≤ end
  pub high : end ≤ list.end
  pub beyond : (p : Operand) → In p (operands_of list.exprs) → end ≤ p.at
  pub own : (p : Operand) → In p (operands_of list.exprs) → OneOf operands (λ o. operand_view raw o ≡ of_unit s.unit p)
  pub bytes : (b : ℕ) → end ≤ b → b < list.end → OneOf rows (HasRow raw operands s.unit (operands_of list.exprs) b)

none_in : (os : List Operand) (p : Operand) → os ≡ [] → In p os → ⊥
none_in os p none is = subst (λ (w : List Operand). In p w) none is

module _ (raw : List RawUnit) (s : MeaningContext ℕ) (rows : List ListRow) (operands : List ListOperand) (to : ℕ) where
  pub rest_end : IsEnd s.around.sources.lists to → IsRest raw s rows operands to (to + 1)
  rest_end end = record {
    list = record { exprs = []; end = to + 1 };
    read = end.1 (expr_context s 7);
    order = omega arith;
    high = omega arith;
    beyond = λ p is. absurd (none_in (operands_of []) p no_operands is);
    own = λ p is. absurd (none_in (operands_of []) p no_operands is);
    bytes = λ b low high. absurd (omega (arith, low, high));
  }

  pub rest_plain : (end : ℕ) → to ≤ length s.around.sources.lists → WalksInto s.around.sources.lists to [] (Ok end) → IsRest raw s rows operands to end
  rest_plain end le w =
      let list = w.0.list in
      let read : list_read s to ≡ Ok list = w.1 (expr_context s 7) refl ∙ asked_none (expr_context s 7) (read_from (list_at in_lists) s.around.sources.lists to) ∙ w.0.read in
      let behind = stand_order (operands_of list.exprs) (to + 1) list.end (stands_here s to list le read).stand in
      let ends = w.0.ends in
      record {
        list = list;
        read = read;
        order = omega arith;
        high = omega arith;
        beyond = λ p is. absurd (none_in (operands_of list.exprs) p w.0.has is);
        own = λ p is. absurd (none_in (operands_of list.exprs) p w.0.has is);
        bytes = λ b low high. absurd (omega (arith, low, high, ends));
      }

  pub rest_read : to ≤ length s.around.sources.lists → IsRead raw s rows operands to → IsRest raw s rows operands to to
  rest_read le r =
      let stand = (stands_here s to r.list le r.read).stand in
      let behind = stand_order (operands_of r.list.exprs) (to + 1) r.list.end stand in
      record {
        list = r.list;
        read = r.read;
        order = omega arith;
        high = omega arith;
        beyond = λ p is. (let low = stand_low (operands_of r.list.exprs) (to + 1) r.list.end stand p is in omega arith);
        own = r.kept.own;
        bytes = r.kept.bytes;
      }

-- ---- all of the list

named_behind : (names : Operand → Bool) (a b : List Operand) → first_unnamed names (a ++ b) ≡ None → first_unnamed names b ≡ None
unfolding first_unnamed
named_behind names [] b e = e
named_behind names (o ∷ a) b e = by (names o) refl (λ g. named_behind names a b g) where
  by : (t : Bool) → names o ≡ t → (first_unnamed names (a ++ b) ≡ None → first_unnamed names b ≡ None) → first_unnamed names b ≡ None
  by true is next = next (sym (cond-true (names o) (first_unnamed names (a ++ b)) (Some o) is) ∙ e)
  by false is next = absurd (let bad : Some o ≡ None = sym (cond-false (names o) (first_unnamed names (a ++ b)) (Some o) is) ∙ e in cc)

-- entries from a place to another were read, and their operands and a row were added
pub record Added (raw : List RawUnit) (file : ℕ) (s : MeaningContext ℕ) (rows rows' : List ListRow) (old new : List ListOperand) (from to end : ℕ) (ops : List Operand) (w : ListRow) : Type 0 where
  pub part : IsPart s.around.sources.lists from ops to
  pub rest : IsRest raw s rows old to end
  pub operands : AreOperands raw file s ops old new
  pub begins : w.from ≡ from
  pub ends : w.end ≡ end
  pub above : from < end
  pub first : w.first ≡ length old
  pub last : w.last ≡ length new
  pub rows_are : rows' ≡ rows ++ w ∷ []
  pub within : (x : ListRow) → In x rows → IsWithin old x
  pub short : length s.around.sources.lists < 2 ^ 32

module _ (raw : List RawUnit) (file : ℕ) (s : MeaningContext ℕ) (rows rows' : List ListRow) (old new : List ListOperand) (from to end : ℕ) (ops : List Operand) (w : ListRow)
    (h : Added raw file s rows rows' old new from to end ops w) where
  abbrev section : List ℕ
  section = s.around.sources.lists

  abbrev more : List ListOperand
  more = h.operands.more

  abbrev own_rest : List Operand
  own_rest = operands_of h.rest.list.exprs

  abbrev pub list_from : (place : ℕ) (own : List Operand) → IsPart section place own to → LocList
  list_from place own p = record { exprs = p.exprs ++ h.rest.list.exprs; end = h.rest.list.end }

  pub read_from_there : (place : ℕ) (own : List Operand) (p : IsPart section place own to) → first_unnamed (is_named s) own ≡ None → list_read s place ≡ Ok (list_from place own p)
  read_from_there place own p named =
      p.leads (expr_context s 7) refl
      ∙ ap (unless_one (expr_context s 7) (list_read s to >>= with_before p.exprs)) named
      ∙ ap (λ (r : Result LocList Fault). r >>= with_before p.exprs) h.rest.read

  own_of : (place : ℕ) (own : List Operand) (p : IsPart section place own to) → operands_of (list_from place own p).exprs ≡ own ++ own_rest
  own_of place own p = operands_both p.exprs h.rest.list.exprs ∙ ap (λ (w : List Operand). w ++ own_rest) p.has

  pub read_here : list_read s from ≡ Ok (list_from from ops h.part)
  read_here = read_from_there from ops h.part h.operands.named

  stand_here : StandsHere (list_from from ops h.part) section from
  stand_here = let low = h.part.order in let high = h.part.within in stands_here s from (list_from from ops h.part) (omega arith) read_here

  stand_ops : Stand (from + 1) (ops ++ own_rest) h.rest.list.end
  stand_ops = subst (λ (os : List Operand). Stand (from + 1) os h.rest.list.end) (own_of from ops h.part) stand_here.stand

  are_small : AreSmall ops
  are_small = let low = stand_here.within in let short = h.short in
      λ o is. small_stand (ops ++ own_rest) (from + 1) h.rest.list.end (omega arith) stand_ops o (in_left o ops own_rest is)

  views : map (operand_view raw) more ≡ map (of_unit s.unit) ops
  views = h.operands.views are_small

  -- an operand that was read is kept, and what is kept was read
  more_has : (p : Operand) → In p ops → OneOf more (λ o. operand_view raw o ≡ of_unit s.unit p)
  more_has p is = from_map (operand_view raw) more (of_unit s.unit p) (subst (λ (ys : List OperandOfList). In (of_unit s.unit p) ys) (sym views) (in_map (of_unit s.unit) ops p is))

  ops_have : (o : ListOperand) → In o more → OneOf ops (λ p. of_unit s.unit p ≡ operand_view raw o)
  ops_have o is = from_map (of_unit s.unit) ops (operand_view raw o) (subst (λ (ys : List OperandOfList). In (operand_view raw o) ys) views (in_map (operand_view raw) more o is))

  abbrev pub grown : Grown rows rows' old new
  grown = record { row = w; more = more; rows_are = h.rows_are; operands_are = h.operands.added; within = h.within }

  pub fresh : own_rows new w ≡ more
  fresh = own_new old new more w h.operands.added h.first h.last

  is_row : In w rows'
  is_row = subst (λ (xs : List ListRow). In w xs) (sym h.rows_are) (in_right w rows (w ∷ []) (inl refl))

  pub stands : Rows (w.from + 1) more w.end
  stands =
      let order = h.rest.order in
      let above = h.above in
      subst (λ (n : ℕ). Rows (n + 1) more w.end) (sym h.begins) (subst (λ (n : ℕ). Rows (from + 1) more n) (sym h.ends)
      (rows_stand raw s.unit more ops (from + 1) end views
      (stand_before ops own_rest (from + 1) h.rest.list.end end (omega arith) stand_ops (λ o is. (let last = h.part.inside o is in omega arith)))))

  -- the row is a part of the list from its first entry on
  pub piece : IsPieceOf raw new s.unit from (list_from from ops h.part) w
  piece =
      let high = h.rest.high in
      let ends = h.ends in
      record {
        from = h.begins;
        end = omega arith;
        own = λ p is b has lt. elim (in_cases p ops own_rest (subst (λ (os : List Operand). In p os) (own_of from ops h.part) is)) [
          | inl here ↦ (let o = more_has p here in (o.0, subst (λ (os : List ListOperand). In o.0 os) (sym fresh) o.1, o.2))
          | inr there ↦ absurd (let low = h.rest.beyond p there in let at = has.0 in omega arith)
        ];
        others = λ o is. (let p = ops_have o (subst (λ (os : List ListOperand). In o os) fresh is) in
            (p.0, subst (λ (os : List Operand). In p.0 os) (sym (own_of from ops h.part)) (in_left p.0 ops own_rest p.1), p.2));
      }

  -- and the list is kept from each of these on
  module _ (place : ℕ) (t : Passes section from ops to place) where
    here_or_behind : (p : Operand) → In p (operands_of (list_from place t.own t.part).exprs) → In p (t.own ++ own_rest)
    here_or_behind p is = subst (λ (os : List Operand). In p os) (own_of place t.own t.part) is

    in_own : (p : Operand) → In p (t.own ++ own_rest) → In p (operands_of (list_from place t.own t.part).exprs)
    in_own p is = subst (λ (os : List Operand). In p os) (sym (own_of place t.own t.part)) is

    of_row : (b : ℕ) → place ≤ b → b < end → HasRow raw new s.unit (operands_of (list_from place t.own t.part).exprs) b w
    of_row b low high =
        let begins = h.begins in
        let ends = h.ends in
        let first = t.low in
        record {
          low = omega arith;
          high = omega arith;
          others = λ o is has. (
              let p = ops_have o (subst (λ (os : List ListOperand). In o os) fresh is) in
              elim (in_cases p.0 t.before t.own (subst (λ (os : List Operand). In p.0 os) t.both p.1)) [
                | inl before ↦ absurd (
                    let last = t.apart p.0 before in
                    let at : p.0.at ≡ o.at = ap (λ (x : OperandOfList). x.operand.at) p.2 in
                    let width : p.0.width ≡ o.width = ap (λ (x : OperandOfList). x.operand.width) p.2 in
                    let reach : b < o.at + o.width = has.1 in
                    omega arith)
                | inr own ↦ (p.0, in_own p.0 (in_left p.0 t.own own_rest own), p.2)
              ]);
        }

    pub kept_there : IsKept raw rows' new s.unit place (list_from place t.own t.part)
    kept_there = record {
      own = λ p is. elim (in_cases p t.own own_rest (here_or_behind p is)) [
        | inl own ↦ (let o = more_has p (subst (λ (os : List Operand). In p os) (sym t.both) (in_right p t.before t.own own)) in
            (o.0, subst (λ (os : List ListOperand). In o.0 os) (sym h.operands.added) (in_right o.0 old more o.1), o.2))
        | inr behind ↦ (let o = h.rest.own p behind in (o.0, old_operand raw rows rows' old new grown o.0 o.1, o.2))
      ];
      bytes = λ b low high. elim (cases_lt b end) [
        | inl lt ↦ (w, is_row, of_row b low lt)
        | inr ge ↦ (let r = h.rest.bytes b ge high in (
          r.0,
          old_row raw rows rows' old new grown r.0 r.1,
          has_grown raw rows rows' old new grown s.unit b own_rest (operands_of (list_from place t.own t.part).exprs) r.0 (λ p is. in_own p (in_right p t.own own_rest is)) r.1 r.2,
        ))
      ];
    }

    pub read_there : IsRead raw s rows' new place
    read_there = record {
      list = list_from place t.own t.part;
      read = read_from_there place t.own t.part (named_behind (is_named s) t.before t.own (ap (first_unnamed (is_named s)) (sym t.both) ∙ h.operands.named));
      kept = kept_there;
    }
