-- A location list that a value names is the one that is read where nothing is asked of operands.
use Rattle.std.proofs.Common.{◌≡◌, ℕ, ◌<◌, Bool, true, false, List, ◌++◌, length, map, Option, Some, None, Result, Ok, Err, refl, sym, ap, subst, ◌∙◌}
use borrow.Author.Tests.{ltb-true}
use Rattle.std.specs.Prelude.{if◌then◌else◌, nat_lt}
use Rattle.dwz_def_reading.specs.Reading.{◌>>=◌}
use Rattle.dwz_def_reading.specs.Entries.{RawAttr}
use Rattle.dwz_def_reading.specs.Faults.{info_fault}
use Rattle.dwz_def_reading.proofs.PartLemmas.{bind_ok}
use Rattle.dwz_label_entries.specs.declared.named.Named.TheVariants.{Kept}
use Rattle.dwz_label_entries.specs.Plain.{TellsPlain}
use Rattle.dwz_label_entries.proofs.ExprLemmas.{asked_is}
use Rattle.dwz_expr.specs.FirstFault.{unless_one}
use Rattle.dwz_label.specs.Labels.{plain_label}
use Rattle.dwz_lists.specs.FirstFault.{AreAsked, WalksInto}
use Rattle.dwz_lists.specs.Gathering.{in_lists}
use Rattle.dwz_def_reading.specs.declared.exprs.Operand.{Operand}
use Rattle.dwz_def_reading.specs.Documents.{Loc, Value}
use Rattle.dwz_def_reading.specs.Exprs.{ExprContext, first_unnamed, parts_of}
use Rattle.dwz_def_reading.specs.LocLists.{LocList, list_at}
use Rattle.dwz_def_reading.specs.Meanings.{MeaningContext, expr_context, loc_value, targets}
use Rattle.dwz_def_reading.specs.Meant.{list_meaning, list_read, loc_said}
use Rattle.dwz_def_reading.specs.Sequences.{read_from}
use Rattle.dwz_def_reading.specs.Shared.{operands_of}
use Rattle.dwz_model.specs.declared.fault.Fault.{Fault}
use Rattle.dwz_model.specs.declared.fault.ReadErr.TheVariants.{Refused}
use Rattle.dwz_model.specs.declared.fault.Reason.TheVariants.{BadList}
use Rattle.dwz_graph.specs.Operands.{is_named}

-- the list that the value names
within : (s : MeaningContext ℕ) (f : Fault) (v : Value ℕ) (r : Result LocList Fault) (b : Bool) → (if b then (r >>= loc_said s) else Err f) ≡ Ok v → (l : LocList) × (r ≡ Ok l) × (loc_value s l ≡ v)
within s f v r true e =
    let x = bind_ok r (loc_said s) v e in
    let z : loc_value s x.0 ≡ v = (let y = x.2 in cc) in
    (x.0, x.1, z)
within s f v r false e = absurd cc

pub list_named : (s : MeaningContext ℕ) (a : RawAttr) (v : Value ℕ) (place : ℕ) → list_meaning s a place ≡ Ok v → (l : LocList) × (list_read s place ≡ Ok l) × (loc_value s l ≡ v)
list_named s a v place e = within s (info_fault a.at BadList) v (list_read s place) (nat_lt place (length s.around.sources.lists)) e

-- an operand that names no entry would be the answer
asked_none : {X : Type 0} (c : ExprContext) (answer : Result X Fault) (o : Option Operand) (x : X) → unless_one c answer o ≡ Ok x → o ≡ None
asked_none c answer None x e = refl
asked_none c answer (Some o) x e = absurd cc

-- it was read, where its operands were asked for
pub list_there : (s : MeaningContext ℕ) (v : Value ℕ) (lists : List ℕ) (place : ℕ) (operands : List Operand) (l : LocList) → s.around.sources.lists ≡ lists → list_read s place ≡ Ok l
    → AreAsked lists place operands
    → (read_from (list_at in_lists) lists place ≡ Ok l) × (first_unnamed (is_named s) operands ≡ None)
list_there s v lists place operands l of_lists read are =
    let c = expr_context s 7 in
    let there : read_from (list_at c) lists place ≡ Ok l = ap (λ (w : List ℕ). read_from (list_at c) w place) (sym of_lists) ∙ read in
    let o = first_unnamed c.names operands in
    let answer = read_from (list_at in_lists) lists place in
    let both : unless_one c answer o ≡ Ok l = sym (are c refl) ∙ there in
    (asked_is c answer o l both, asked_none c answer o l both)

-- a list that is refused means nothing
pub list_refused : (s : MeaningContext ℕ) (a : RawAttr) (v : Value ℕ) (lists : List ℕ) (place : ℕ) (operands : List Operand) (f : Fault) → s.around.sources.lists ≡ lists
    → list_meaning s a place ≡ Ok v
    → WalksInto lists place operands (Err (Refused f)) → ⊥
list_refused s a v lists place operands f of_lists means walks =
    let n = list_named s a v place means in
    let t = list_there s v lists place operands n.0 of_lists n.1 walks.1 in
    let no : Err f ≡ Ok n.0 = sym walks.0 ∙ t.0 in
    cc

-- nor does one that would begin behind the section
pub list_within : (s : MeaningContext ℕ) (a : RawAttr) (v : Value ℕ) (lists : List ℕ) (place : ℕ) → s.around.sources.lists ≡ lists → list_meaning s a place ≡ Ok v → place < length lists
list_within s a v lists place of_lists means =
    subst (λ (w : List ℕ). place < length w) of_lists (ltb-true place (length s.around.sources.lists) (so (nat_lt place (length s.around.sources.lists)) refl means)) where
      so : (b : Bool) → nat_lt place (length s.around.sources.lists) ≡ b → (if b then (list_read s place >>= loc_said s) else Err (info_fault a.at BadList)) ≡ Ok v
          → nat_lt place (length s.around.sources.lists) ≡ true
      so true is e = is
      so false is e = absurd cc

pub list_told : (s : MeaningContext ℕ) (a : RawAttr) (v : Value ℕ) (lists : List ℕ) (place : ℕ) (operands : List Operand) (end : ℕ) (old new : List ℕ) → s.around.sources.lists ≡ lists
    → list_meaning s a place ≡ Ok v → WalksInto lists place operands (Ok end)
    → ((l : LocList) → read_from (list_at in_lists) lists place ≡ Ok l → new ≡ old ++ plain_label (Loc (map parts_of l.exprs))) → TellsPlain s v operands old new Kept
list_told s a v lists place operands end old new of_lists means walks written =
    let n = list_named s a v place means in
    let t = list_there s v lists place operands n.0 of_lists n.1 walks.1 in
    let both : Ok walks.0.list ≡ Ok n.0 = sym walks.0.read ∙ t.0 in
    let same : walks.0.list ≡ n.0 = cc in
    subst (λ (w : Value ℕ). TellsPlain s w operands old new Kept) n.2 (record {
      bytes = written n.0 t.0;
      names = (refl, ap (λ (w : List Operand). targets s w) (ap (λ (w : LocList). operands_of w.exprs) (sym same) ∙ walks.0.has), t.1);
    })
