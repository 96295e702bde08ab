-- Entries of a list, one after the other, up to where reading stops.
use Rattle.std.proofs.Common.{◌≡◌, ℕ, ◌+◌, ◌≤◌, true, List, [], ◌∷◌, ◌++◌, length, Result, Ok, Err, refl, sym, ap, subst, ◌∙◌, inl, inr, arith, append_assoc}
use Rattle.std.proofs.lemmas.List.{append-nil}
use Rattle.dwz_model.specs.declared.fault.Fault.{Fault}
use Rattle.dwz_model.specs.declared.fault.ReadErr.{ReadErr}
use Rattle.dwz_model.specs.declared.fault.ReadErr.TheVariants.{NoMemory, Refused}
use Rattle.dwz_def_reading.specs.Reading.{◌>>=◌}
use Rattle.dwz_def_reading.specs.Lists.{In}
use Rattle.dwz_def_reading.proofs.ListFacts.{in_cases}
use Rattle.dwz_def_reading.specs.declared.exprs.Operand.{Operand}
use Rattle.dwz_def_reading.specs.Exprs.{ExprContext}
use Rattle.dwz_def_reading.specs.LocLists.{LocList, list_at}
use Rattle.dwz_def_reading.specs.Sequences.{read_from}
use Rattle.dwz_expr.specs.FirstFault.{asked}
use Rattle.dwz_expr.specs.Gathering.{Grows, added}
use Rattle.dwz_expr.proofs.AskedLemmas.{asked_bind, asked_none, asked_twice}
use Rattle.dwz_lists.specs.Entries.{IsEnd, IsEntry, ReadsEntry, with_before}
use Rattle.dwz_lists.specs.FirstFault.{WalksInto}
use Rattle.dwz_lists.specs.Gathering.{in_lists}
use Rattle.dwz_lists.proofs.AskLemmas.{before_both, before_none, no_operands, operands_both}
use Rattle.dwz_graph_resolve.specs.declared.lists.ListRow.{ListRow}
use Rattle.dwz_graph_resolve.specs.declared.list_parts.Stop.{Stop}
use Rattle.dwz_graph_resolve.specs.ListParts.{IsPart, IsReadUp, IsStop, Passes, ReadsUp, StopsAt}

-- ---- entries

pub part_none : (section : List ℕ) (place : ℕ) → place ≤ length section → IsPart section place [] place
part_none section place within = record {
  exprs = [];
  has = no_operands;
  order = omega arith;
  within = within;
  inside = λ o is. absurd is;
  leads = λ c e. before_none (read_from (list_at c) section place) ∙ sym (asked_none c (read_from (list_at c) section place >>= with_before []));
}

entry_part : (section : List ℕ) (place next : ℕ) (own : List Operand) → IsEntry section place own next → IsPart section place own next
entry_part section place next own n = record { exprs = n.exprs; has = n.has; order = (let up = n.rises in omega arith); within = n.within; inside = n.inside; leads = n.leads }

-- what is said of the list behind entries is said behind their operands
leads_on : (section : List ℕ) (from to : ℕ) (ops own : List Operand) (p : IsPart section from ops to) (c : ExprContext) → c.section ≡ 7 → (answer : Result LocList Fault)
    → read_from (list_at c) section to ≡ asked c own answer → read_from (list_at c) section from ≡ asked c (ops ++ own) (answer >>= with_before p.exprs)
leads_on section from to ops own p c e answer is =
    p.leads c e
    ∙ ap (λ (r : Result LocList Fault). asked c ops (r >>= with_before p.exprs)) is
    ∙ ap (asked c ops) (asked_bind c own answer (with_before p.exprs))
    ∙ asked_twice c ops own (answer >>= with_before p.exprs)

part_more : (section : List ℕ) (from to next : ℕ) (ops own : List Operand) → IsPart section from ops to → IsEntry section to own next → IsPart section from (ops ++ own) next
part_more section from to next ops own p n =
    let low = p.order in
    let up = n.rises in
    record {
      exprs = p.exprs ++ n.exprs;
      has = operands_both p.exprs n.exprs ∙ (λ i. p.has i ++ n.has i);
      order = omega arith;
      within = n.within;
      inside = λ o is. elim (in_cases o ops own is) [
        | inl here ↦ (let end = p.inside o here in omega arith)
        | inr there ↦ n.inside o there
      ];
      leads = λ c e. leads_on section from to ops own p c e (read_from (list_at c) section next >>= with_before n.exprs) (n.leads c e)
          ∙ ap (asked c (ops ++ own)) (before_both p.exprs n.exprs (read_from (list_at c) section next));
    }

-- ---- the places that are passed

-- what was read so far
pub record UpTo (section : List ℕ) (from : ℕ) (ops : List Operand) (places : List ℕ) (to : ℕ) : Type 0 where
  pub part : IsPart section from ops to
  pub passes : (place : ℕ) → In place places → Passes section from ops to place

pub up_begins : (section : List ℕ) (from : ℕ) (ops : List Operand) (places : List ℕ) → ops ≡ [] → places ≡ [] → from ≤ length section → UpTo section from ops places from
up_begins section from ops places none nowhere within =
    let empty : UpTo section from [] [] from = record { part = part_none section from within; passes = λ place is. absurd is } in
    subst (λ (os : List Operand). UpTo section from os places from) (sym none) (subst (λ (xs : List ℕ). UpTo section from [] xs from) (sym nowhere) empty)

abbrev pub passes_from : (section : List ℕ) (from to : ℕ) (ops : List Operand) → IsPart section from ops to → Passes section from ops to from
passes_from section from to ops p = record { before = []; own = ops; both = refl; low = omega arith; apart = λ o is. absurd is; part = p }

module _ (section : List ℕ) (from to : ℕ) (ops : List Operand) (places : List ℕ) (h : UpTo section from ops places to) where
  in_end : {X : Type 0} (x y : X) → In x (y ∷ []) → y ≡ x
  in_end x y (inl same) = same
  in_end x y (inr is) = absurd is

  pub up_more : (own : List Operand) (next : ℕ) → IsEntry section to own next → UpTo section from (ops ++ own) (places ++ to ∷ []) next
  up_more own next n = record {
    part = part_more section from to next ops own h.part n;
    passes = λ place is. elim (in_cases place places (to ∷ []) is) [
      | inl here ↦ (let p = h.passes place here in record {
        before = p.before;
        own = p.own ++ own;
        both = ap (λ (w : List Operand). w ++ own) p.both ∙ append_assoc p.before p.own own;
        low = p.low;
        apart = p.apart;
        part = part_more section place to next p.own own p.part n;
      })
      | inr there ↦ subst (λ (q : ℕ). Passes section from (ops ++ own) next q) (in_end place to there)
          (record { before = ops; own = own; both = refl; low = h.part.order; apart = h.part.inside; part = entry_part section to next own n })
    ];
  }

  pub up_end : UpTo section from ops (places ++ to ∷ []) to
  up_end = record {
    part = h.part;
    passes = λ place is. elim (in_cases place places (to ∷ []) is) [
      | inl here ↦ h.passes place here
      | inr there ↦ subst (λ (q : ℕ). Passes section from ops to q) (in_end place to there)
          (record { before = ops; own = []; both = sym (append-nil ops); low = h.part.order; apart = h.part.inside; part = part_none section to h.part.within })
    ];
  }

  pub up_fails : (rows : List ListRow) (marks : List ℕ) (unit : ℕ) (own : List Operand) (more : List ℕ) (e : ReadErr) → ReadsEntry section to own (Err e)
      → ReadsUp section rows marks unit from (ops ++ own) more (Err e)
  up_fails rows marks unit own more NoMemory fails = tt
  up_fails rows marks unit own more (Refused f) fails = λ c e. leads_on section from to ops own h.part c e (Err f) (fails c e)

  pub up_stops : (rows : List ListRow) (marks : List ℕ) (unit : ℕ) (x : Stop) → IsStop section rows marks unit from to x → IsReadUp section rows marks unit from ops places x
  up_stops rows marks unit x stop = record { to = to; part = h.part; passes = h.passes; stop = stop }

-- ---- a turn of the loop, whose operands are added to a row

module _ (section : List ℕ) (from to : ℕ) (ops new : List Operand) (places more : List ℕ) (h : UpTo section from ops places to) (grows : Grows ops new) (are : more ≡ places ++ to ∷ []) where
  pub turn_more : (next : ℕ) → IsEntry section to (added ops new) next → UpTo section from new more next
  turn_more next n = subst (λ (xs : List ℕ). UpTo section from new xs next) (sym are)
      (subst (λ (os : List Operand). UpTo section from os (places ++ to ∷ []) next) (sym grows) (up_more section from to ops places h (added ops new) next n))

  pub turn_ends : (rows : List ListRow) (marks : List ℕ) (unit : ℕ) → added ops new ≡ [] → IsEnd section to → IsReadUp section rows marks unit from new more (record { end = to + 1; plain = true })
  turn_ends rows marks unit none end =
      let same : new ≡ ops = grows ∙ ap (λ (os : List Operand). ops ++ os) none ∙ append-nil ops in
      up_stops section from to new more
      (subst (λ (xs : List ℕ). UpTo section from new xs to) (sym are) (subst (λ (os : List Operand). UpTo section from os (places ++ to ∷ []) to) (sym same) (up_end section from to ops places h)))
      rows marks unit (record { end = to + 1; plain = true }) (inl (end, refl, refl))

  pub turn_fails : (rows : List ListRow) (marks : List ℕ) (unit : ℕ) (e : ReadErr) → ReadsEntry section to (added ops new) (Err e) → ReadsUp section rows marks unit from new more (Err e)
  turn_fails rows marks unit e fails = subst (λ (os : List Operand). ReadsUp section rows marks unit from os more (Err e)) (sym grows)
      (up_fails section from to ops places h rows marks unit (added ops new) more e fails)

  pub turn_stops : (rows : List ListRow) (marks : List ℕ) (unit next : ℕ) (x : Stop) → IsEntry section to (added ops new) next → StopsAt rows marks unit next x
      → IsReadUp section rows marks unit from new more x
  turn_stops rows marks unit next x n stops =
      let low = h.part.order in
      let up = n.rises in
      up_stops section from next new more (turn_more next n) rows marks unit x (inr (omega arith, stops))

-- ---- lists without operands

pub end_is_plain : (section : List ℕ) (place : ℕ) → IsEnd section place → WalksInto section place [] (Ok (place + 1))
end_is_plain section place end = (
  record { list = record { exprs = []; end = place + 1 }; read = end.1 in_lists; ends = refl; has = no_operands },
  λ c e. end.1 c ∙ sym (end.1 in_lists) ∙ sym (asked_none c (read_from (list_at in_lists) section place)),
)

pub plain_before : (section : List ℕ) (place to end : ℕ) → IsPart section place [] to → WalksInto section to [] (Ok end) → WalksInto section place [] (Ok end)
plain_before section place to end p w =
    let list : LocList = record { exprs = p.exprs ++ w.0.list.exprs; end = w.0.list.end } in
    let each : (c : ExprContext) → c.section ≡ 7 → read_from (list_at c) section place ≡ Ok list
    = λ c e. p.leads c e ∙ asked_none c (read_from (list_at c) section to >>= with_before p.exprs)
    ∙ ap (λ (r : Result LocList Fault). r >>= with_before p.exprs) (w.1 c e ∙ asked_none c (read_from (list_at in_lists) section to) ∙ w.0.read) in (
      record { list = list; read = each in_lists refl; ends = w.0.ends; has = operands_both p.exprs w.0.list.exprs ∙ (λ i. p.has i ++ w.0.has i) },
      λ c e. each c e ∙ sym (each in_lists refl) ∙ sym (asked_none c (read_from (list_at in_lists) section place)),
    )

none_both : (a b : List Operand) → a ++ b ≡ [] → b ≡ []
none_both [] b e = e
none_both (o ∷ a) b e = absurd cc

-- where no operand was read, none is behind a place that was passed
pub plain_there : (section : List ℕ) (from to place end : ℕ) (ops : List Operand) → Passes section from ops to place → ops ≡ [] → WalksInto section to [] (Ok end) → WalksInto section place [] (Ok end)
plain_there section from to place end ops p none w =
    let own : p.own ≡ [] = none_both p.before p.own (sym p.both ∙ none) in
    plain_before section place to end (subst (λ (os : List Operand). IsPart section place os to) own p.part) w
