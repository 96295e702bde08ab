-- A list is walked entry by entry; the operands of its expressions are looked up one after the other, in each context.
use Rattle.std.proofs.Common.{◌≡◌, ℕ, ◌+◌, ◌≤◌, List, [], ◌∷◌, ◌++◌, length, Result, Ok, Err, refl, sym, ap, ◌∙◌, append_assoc}
use Rattle.std.proofs.lemmas.List.{append-nil}
use Rattle.dwz_model.specs.declared.fault.Fault.{Fault}
use Rattle.dwz_model.specs.declared.fault.ReadErr.{ReadErr}
use Rattle.dwz_model.specs.declared.fault.ReadErr.TheVariants.{NoMemory, Refused}
use Rattle.dwz_bytes.specs.Reading.{◌>>=◌}
use Rattle.dwz_def_reading.specs.declared.exprs.Operand.{Operand}
use Rattle.dwz_def_reading.specs.Exprs.{ExprContext, Expression}
use Rattle.dwz_def_reading.specs.LocLists.{LocList, list_at}
use Rattle.dwz_def_reading.specs.Sequences.{read_from}
use Rattle.dwz_def_reading.specs.Shared.{operands_of}
use Rattle.dwz_expr.specs.FirstFault.{asked}
use Rattle.dwz_expr.specs.Gathering.{Grows, added}
use Rattle.dwz_expr.proofs.AskedLemmas.{asked_any, asked_bind, asked_none, asked_twice}
use Rattle.dwz_expr.proofs.LoopLemmas.{more_added, more_grow, none_added, same_grow}
use Rattle.dwz_lists.specs.Entries.{IsEnd, IsEntry, ReadsEntry, with_before}
use Rattle.dwz_lists.specs.FirstFault.{AreAsked, WalksInto}
use Rattle.dwz_lists.specs.Gathering.{in_lists}

pub operands_both : (xs ys : List Expression) → operands_of (xs ++ ys) ≡ operands_of xs ++ operands_of ys
unfolding operands_of
operands_both [] ys = refl
operands_both (x ∷ xs) ys = ap (λ (w : List Operand). x.operands ++ w) (operands_both xs ys) ∙ sym (append_assoc x.operands (operands_of xs) (operands_of ys))

pub no_operands : operands_of [] ≡ []
unfolding operands_of
no_operands = refl

pub before_none : (r : Result LocList Fault) → r ≡ (r >>= with_before [])
before_none (Ok l) = refl
before_none (Err f) = refl

pub before_both : (xs ys : List Expression) (r : Result LocList Fault) → ((r >>= with_before ys) >>= with_before xs) ≡ (r >>= with_before (xs ++ ys))
before_both xs ys (Ok l) = ap (λ (w : List Expression). Ok (record { exprs = w; end = l.end })) (sym (append_assoc xs ys l.exprs))
before_both xs ys (Err f) = refl

-- the list up to one of its entries
pub record Walked (section : List ℕ) (place : ℕ) (pre ops : List Operand) (here : ℕ) : Type 0 where
  pub within : here ≤ length section
  pub grows : Grows pre ops
  pub exprs : List Expression
  pub has : operands_of exprs ≡ added pre ops
  pub each : (c : ExprContext) → c.section ≡ 7 → read_from (list_at c) section place ≡ asked c (added pre ops) (read_from (list_at c) section here >>= with_before exprs)

pub walk_begins : (section : List ℕ) (place : ℕ) (pre : List Operand) → place ≤ length section → Walked section place pre pre place
walk_begins section place pre within = record {
  within = within;
  grows = same_grow pre;
  exprs = [];
  has = no_operands ∙ sym (none_added pre);
  each = λ c e. (let r = read_from (list_at c) section place in before_none r
      ∙ sym (ap (λ (w : List Operand). asked c w (r >>= with_before [])) (none_added pre) ∙ asked_none c (r >>= with_before [])));
}

module _ (section : List ℕ) (place : ℕ) (pre ops new : List Operand) (here : ℕ) (w : Walked section place pre ops here) (grown : Grows ops new) where
  more : added pre new ≡ added pre ops ++ added ops new
  more = more_added pre ops new (added ops new) w.grows grown

  -- what the list behind says, in front of which that is looked up
  then_asked : (c : ExprContext) → c.section ≡ 7 → (answer : Result LocList Fault) → read_from (list_at c) section here ≡ asked c (added ops new) answer
      → read_from (list_at c) section place ≡ asked c (added pre new) (answer >>= with_before w.exprs)
  then_asked c e answer is =
      w.each c e
      ∙ ap (λ (r : Result LocList Fault). asked c (added pre ops) (r >>= with_before w.exprs)) is
      ∙ ap (asked c (added pre ops)) (asked_bind c (added ops new) answer (with_before w.exprs))
      ∙ asked_twice c (added pre ops) (added ops new) (answer >>= with_before w.exprs)
      ∙ ap (λ (os : List Operand). asked c os (answer >>= with_before w.exprs)) (sym more)

  pub walk_more : (next : ℕ) → IsEntry section here (added ops new) next → Walked section place pre new next
  walk_more next n = record {
    within = n.within;
    grows = more_grow pre ops new (added ops new) w.grows grown;
    exprs = w.exprs ++ n.exprs;
    has = operands_both w.exprs n.exprs ∙ (λ i. w.has i ++ n.has i) ∙ sym more;
    each = λ c e. then_asked c e (read_from (list_at c) section next >>= with_before n.exprs) (n.leads c e)
        ∙ ap (asked c (added pre new)) (before_both w.exprs n.exprs (read_from (list_at c) section next));
  }

  module _ (answer : Result LocList Fault) (each : (c : ExprContext) → c.section ≡ 7 → read_from (list_at c) section place ≡ asked c (added pre new) answer) where
    where_any : read_from (list_at in_lists) section place ≡ answer
    where_any = each in_lists refl ∙ asked_any 7 (added pre new) answer

    are_asked : AreAsked section place (added pre new)
    are_asked c e = each c e ∙ ap (asked c (added pre new)) (sym where_any)

  pub walk_ends : added ops new ≡ [] → IsEnd section here → WalksInto section place (added pre new) (Ok (here + 1))
  walk_ends none end =
      let list : LocList = record { exprs = w.exprs ++ []; end = here + 1 } in
      let each = λ (c : ExprContext) (e : c.section ≡ 7). then_asked c e (Ok (record { exprs = []; end = here + 1 }))
      (end.1 c ∙ sym (ap (λ (os : List Operand). asked c os (Ok (record { exprs = []; end = here + 1 }))) none ∙ asked_none c (Ok (record { exprs = []; end = here + 1 })))) in (
        record {
          list = list;
          read = where_any (Ok list) each;
          ends = refl;
          has = ap operands_of (append-nil w.exprs) ∙ w.has ∙ sym (append-nil (added pre ops)) ∙ ap (λ (os : List Operand). added pre ops ++ os) (sym none) ∙ sym more;
        },
        are_asked (Ok list) each,
      )

  pub walk_fails : (e : ReadErr) → ReadsEntry section here (added ops new) (Err e) → WalksInto section place (added pre new) (Err e)
  walk_fails NoMemory fails = tt
  walk_fails (Refused f) fails = let each = λ (c : ExprContext) (e : c.section ≡ 7). then_asked c e (Err f) (fails c e) in (where_any (Err f) each, are_asked (Err f) each)
