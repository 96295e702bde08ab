-- What is known of the state, as it changes.
use Rattle.std.proofs.Common.{◌≡◌, ℕ, suc, ◌+◌, ◌<◌, ◌≤◌, List, [], None, Some, slice_get, ap, subst, sym, ◌∙◌, arith}
use Rattle.dwz_def_reading.specs.Lists.{In}
use Rattle.dwz_def_reading.specs.Units.{RawUnit}
use Rattle.dwz_def_reading.specs.Meanings.{Around, MeaningContext, scope_of}
use Rattle.dwz_def_reading.specs.Shared.{NamedList}
use Rattle.dwz_graph_resolve.specs.declared.lists.ListRow.{ListRow}
use Rattle.dwz_graph_resolve.specs.declared.operands.ListOperand.{ListOperand}
use Rattle.dwz_graph_resolve.specs.declared.state.State.{State}
use Rattle.dwz_graph_resolve.specs.FileRows.{KnowTables}
use Rattle.dwz_graph_resolve.specs.State.{IsBehind, IsState}

-- numbers of entries change nothing else
pub with_found : (raw : List RawUnit) (s : MeaningContext ℕ) (n : ℕ) (named : List NamedList) (st : State) (refs hints : _) → IsState raw s n named st
    → IsState raw s n named (record st { refs = refs; hints = hints })
with_found raw s n named st refs hints k = record { shows = k.shows; tables = k.tables; marks = k.marks }

pub with_expression : (raw : List RawUnit) (s : MeaningContext ℕ) (n : ℕ) (named : List NamedList) (st : State) (refs operands : _) → IsState raw s n named st
    → IsState raw s n named (record st { refs = refs; operands = operands })
with_expression raw s n named st refs operands k = record { shows = k.shows; tables = k.tables; marks = k.marks }

-- line tables change nothing else
pub with_files : (raw : List RawUnit) (s : MeaningContext ℕ) (n : ℕ) (named : List NamedList) (st : State) (files : _) → KnowTables s.around.sources files → IsState raw s n named st
    → IsState raw s n named (record st { files = files })
with_files raw s n named st files tables k = record { shows = k.shows; tables = tables; marks = k.marks }

-- the next unit begins, and it ends
pub unit_begins : (raw : List RawUnit) (around : Around ℕ) (u : RawUnit) (n : ℕ) (named : List NamedList) (st : State) → slice_get raw n ≡ Some u → IsBehind raw around n named st
    → IsState raw (scope_of around u) n named st
unit_begins raw around u n named st is k = record { shows = k.shows; tables = k.tables; marks = λ place number e. (let r = k.marks place number e in let lt : r.0.unit < n = r.2.1 in (r.0, r.1, (r.2.0, omega arith, λ same. absurd (omega arith)))) }

pub unit_ends : (raw : List RawUnit) (around : Around ℕ) (u : RawUnit) (n : ℕ) (named : List NamedList) (st : State) → slice_get raw n ≡ Some u → IsState raw (scope_of around u) n named st
    → IsBehind raw around (n + 1) named st
unit_ends raw around u n named st is k = record { shows = k.shows; tables = k.tables; marks = λ place number e. (let r = k.marks place number e in let le : r.0.unit ≤ n = r.2.1 in (r.0, r.1, (r.2.0, omega arith))) }

pub none_behind : (raw : List RawUnit) (around : Around ℕ) (n : ℕ) (st : State) → st.lists.rows.items ≡ [] → st.lists.operands.items ≡ [] → st.lists.slots.items ≡ []
    → st.lists.marks.items ≡ [] → KnowTables around.sources st.files → IsBehind raw around n [] st
none_behind raw around n st rows operands slots marks tables =
    let no_row : (w : ListRow) → In w st.lists.rows.items → ⊥ = λ w is. subst (λ (xs : List ListRow). In w xs) rows is in
    let no_operand : (o : ListOperand) → In o st.lists.operands.items → ⊥ = λ o is. subst (λ (xs : List ListOperand). In o xs) operands is in
    let no_slot : (n : ℕ) → In n st.lists.slots.items → ⊥ = λ n is. subst (λ (xs : List ℕ). In n xs) slots is in
    record {
      tables = tables;
      marks = λ place number e. absurd (let both : None ≡ Some (suc number) = ap (λ (xs : List ℕ). slice_get xs place) (sym marks) ∙ e in cc);
      shows = record {
        within = λ w is. absurd (no_row w is);
        rows = λ l is. absurd is;
        lists_of = λ w is. absurd (no_row w is);
        slots = λ l slot is. absurd is;
        slots_of = λ slot is. absurd (no_slot slot is);
        operands_of = λ o is. absurd (no_operand o is);
        of_file = λ o is. absurd (no_operand o is);
        stand = λ w is. absurd (no_row w is);
      };
    }
