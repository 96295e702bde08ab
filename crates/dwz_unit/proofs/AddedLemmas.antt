-- A table that was read is added to those that are kept.
use Rattle.std.proofs.Common.{◌≡◌, ℕ, ◌+◌, List, [], ◌∷◌, ◌++◌, length, Some, sym, ap, subst, ◌∙◌, inl, inr, arith}
use Rattle.std.proofs.lemmas.List.{length-append, length-map}
use Rattle.std.specs.BTreeMap.{BTreeMap, Updates, get}
use Rattle.std.specs.Ordering.{is_eq, nat_cmp}
use Rattle.dwz_bytes.proofs.GroupLemmas.{chosen}
use Rattle.dwz_def_reading.proofs.CaseFacts.{same_number}
use Rattle.dwz_unit.specs.TableViews.{TableView}
use Rattle.dwz_unit.specs.declared.tail.Tail.{Tail}
use Rattle.dwz_def_reading.specs.Abbrevs.{Declaration}
use Rattle.dwz_unit.specs.Found.{all_pairs, each_pairs}
use Rattle.dwz_unit.specs.Tables.{Grows, Stored}
use Rattle.dwz_unit.specs.Tails.{AreJoinedTables, AreTails, BeginsAt, HasTail, IsJoined, read_from, whole_tables}
use Rattle.dwz_unit.proofs.LinkLemmas.{begins_has, known_pushed, pairs_push, reads_grow}
use Rattle.dwz_unit.proofs.TailLemmas.{grows_none, tail_grown}

pub tails_grown : (old new : Stored) (tails : BTreeMap ℕ Tail) → Grows old new → AreTails old tails → AreTails new tails
tails_grown old new tails grows are = λ offset t is. tail_grown old new offset t grows (are offset t is)

pub tails_kept : (s : Stored) (tails others : BTreeMap ℕ Tail) → AreTails s tails → others.entries ≡ tails.entries → AreTails s others
tails_kept s tails others are is = λ offset t e.
    let before : get nat_cmp tails offset ≡ Some t = rw is at e in
    are offset t before

-- the end of a table was asked for
pub tails_added : (s : Stored) (tails others : BTreeMap ℕ Tail) (offset : ℕ) (t : Tail) → AreTails s tails → HasTail s offset t → Updates nat_cmp tails others offset (Some t) → AreTails s others
tails_added s tails others offset t are has updates = λ place u is.
    elim (chosen (is_eq (nat_cmp offset place)) (Some t) (get nat_cmp tails place) (Some u) (sym (updates.0 place) ∙ is)) [
      | inl p ↦
          let same : t ≡ u = cc in
          subst (λ (w : ℕ). HasTail s w u) (same_number offset place p.0) (subst (HasTail s offset) same has)
      | inr p ↦ are place u p.1
    ]

pub bases_pushed : (section : List ℕ) (reads given new : List TableView) (tails : BTreeMap ℕ Tail) (offset count total : ℕ) (r : TableView) → AreJoinedTables section reads tails count → given ≡ reads
    → IsJoined section given (whole_tables given) offset r → r.first ≡ count → total ≡ count + length r.table → new ≡ reads ++ r ∷ [] → AreJoinedTables section new tails total
bases_pushed section reads given new tails offset count total r are same joins first more is = record {
  known = known_pushed section reads new offset r is are.known (subst (λ (w : List TableView). IsJoined section w (whole_tables w) offset r) same joins) (first ∙ are.counted);
  asked = tails_grown (read_from section reads) (read_from section new) tails (reads_grow section reads new r is) are.asked;
  counted = omega (
    arith,
    more,
    are.counted,
    ap length (pairs_push reads new r is),
    length-append (all_pairs reads) (each_pairs r.table),
    length-map r.table (λ (d : Declaration). d.pairs),
  );
}

pub begins_given : (section : List ℕ) (reads given : List TableView) (tails : BTreeMap ℕ Tail) (place count : ℕ) (t : Tail) → AreJoinedTables section reads tails count → given ≡ reads → BeginsAt given place t
    → HasTail (read_from section reads) place t
begins_given section reads given tails place count t are same begins = begins_has section reads place are.known t (subst (λ (w : List TableView). BeginsAt w place t) same begins)

-- the row grew, and no table was added
pub row_grows : (section : List ℕ) (old new : List TableView) (s : Stored) → read_from section old ≡ s → new ≡ old → Grows s (read_from section new)
row_grows section old new s is same =
    subst (λ (w : Stored). Grows w (read_from section new)) is
    (subst (λ (vs : List TableView). Grows (read_from section old) (read_from section vs)) (sym same) (grows_none (read_from section old)))

pub are_kept : (section : List ℕ) (old new : List TableView) (tails : BTreeMap ℕ Tail) (count : ℕ) → AreJoinedTables section old tails count → new ≡ old → AreJoinedTables section new tails count
are_kept section old new tails count are same = subst (λ (vs : List TableView). AreJoinedTables section vs tails count) (sym same) are
