-- Operands get their numbers one by one; those of a file's lists end within the section, which is then patched.
use Rattle.std.proofs.Common.{◌≡◌, ℕ, zero, suc, cond, eqb, ◌+◌, ◌<◌, ◌≤◌, false, List, [], ◌∷◌, drop, get_or, length, map, refl, sym, ap, subst, ◌∙◌, arith}
use Rattle.std.proofs.lemmas.List.{drop_all, drop_more, length-map}
use Rattle.dwz_def_reading.specs.Units.{RawUnit}
use Rattle.dwz_model.specs.declared.place.Base.TheVariants.{Unit as FromUnit}
use Rattle.dwz_def_reading.specs.declared.exprs.Operand.{Operand}
use Rattle.dwz_def_reading.specs.PatchedLists.{EndWithin, IsPatched, number_for_place, with_operands}
use Rattle.dwz_def_reading.specs.Patching.{number_in_width, renumbered, written_at}
use Rattle.dwz_def_reading.specs.Shared.{ListOperand as Row, NamedList}
use Rattle.dwz_def_reading.specs.Meanings.{Around}
use Rattle.dwz_def_reading.specs.NamedLists.{lists_of_units}
use Rattle.dwz_def_reading.specs.Shared.{AreRows, NoneShared}
use Rattle.dwz_def_reading.proofs.EndLemmas.{rows_end}
use Rattle.dwz_def_reading.proofs.NamedLemmas.{units_name, units_some}
use Rattle.dwz_def_reading.proofs.PassLemmas.{none_pass}
use Rattle.dwz_def_reading.proofs.WriteOver.{rows_patched, written_len}
use Rattle.dwz_graph_resolve.specs.declared.operands.ListOperand.{ListOperand}
use Rattle.dwz_graph_resolve.specs.ListRows.{operand_view}
use Rattle.dwz_encode_sections.specs.Numbers.{EndIn, spots, with_numbers}

-- ---- one by one

pub record IsLeft (section : List ℕ) (operands : List ListOperand) (numbers out : List ℕ) (i : ℕ) : Type 0 where
  pub same : with_numbers (drop i operands) (drop i numbers) out ≡ with_numbers operands numbers section
  pub size : length out ≡ length section

one_number : (o : ListOperand) (os : List ListOperand) (n : ℕ) (ns out : List ℕ) → with_numbers (o ∷ os) (n ∷ ns) out ≡ with_numbers os ns (written_at o.at (number_in_width o.uleb o.width n) out)
unfolding renumbered with_operands
one_number o os n ns out = refl

no_number : (ns out : List ℕ) → with_numbers [] ns out ≡ out
unfolding renumbered with_operands
no_number ns out = refl

pub list_step : (section : List ℕ) (operands : List ListOperand) (numbers out new : List ℕ) (i : ℕ) (d : ListOperand) → length numbers ≡ length operands → i < length operands
    → new ≡ written_at (get_or operands i d).at (number_in_width (get_or operands i d).uleb (get_or operands i d).width (get_or numbers i 0)) out → IsLeft section operands numbers out i
    → IsLeft section operands numbers new (i + 1)
list_step section operands numbers out new i d many lt written h =
    let o = get_or operands i d in
    let n = get_or numbers i 0 in
    let first : drop i operands ≡ o ∷ drop (i + 1) operands = drop_more operands i d lt in
    let number : drop i numbers ≡ n ∷ drop (i + 1) numbers = drop_more numbers i 0 (omega (arith, many, lt)) in
    record {
      same =
          ap (with_numbers (drop (i + 1) operands) (drop (i + 1) numbers)) written
          ∙ sym (one_number o (drop (i + 1) operands) n (drop (i + 1) numbers) out)
          ∙ sym (λ j. with_numbers (first j) (number j) out)
          ∙ h.same;
      size = ap length written ∙ written_len o.at (number_in_width o.uleb o.width n) out ∙ h.size;
    }

pub list_done : (section : List ℕ) (operands : List ListOperand) (numbers out : List ℕ) (i : ℕ) → length operands ≤ i → IsLeft section operands numbers out i
    → out ≡ with_numbers operands numbers section
list_done section operands numbers out i le h =
    sym (no_number (drop i numbers) out) ∙ sym (ap (λ (os : List ListOperand). with_numbers os (drop i numbers) out) (drop_all i operands le)) ∙ h.same

-- each of them ends there
pub ends_at : (end : ℕ) (operands : List ListOperand) (i : ℕ) (d : ListOperand) → EndIn end operands → i < length operands → (get_or operands i d).at + (get_or operands i d).width ≤ end
ends_at end [] i d h lt = absurd (omega (arith, lt))
ends_at end (o ∷ os) zero d h lt = h.0
ends_at end (o ∷ os) (suc i) d h lt = ends_at end os i d h.1 (omega (arith, lt))

-- what stands for an operand where there is none
abbrev pub no_operand : ListOperand
no_operand = record { at = 0; width = 0; uleb = false; unit = 0; base = FromUnit; entry = 0; place = record { file = 0; offset = 0 } }

-- ---- rows and operands

pub each_end : (raw : List RawUnit) (end : ℕ) (operands : List ListOperand) → EndWithin end (map (operand_view raw) operands) → EndIn end operands
each_end raw end [] h = tt
each_end raw end (o ∷ os) h = (h.0, each_end raw end os h.1)

abbrev row_operands : List RawUnit → List ListOperand → List Operand
row_operands raw operands = map (λ (r : Row). r.operand) (map (operand_view raw) operands)

same_numbers : (raw : List RawUnit) (operands : List ListOperand) (numbers : List ℕ) → renumbered (row_operands raw operands) numbers ≡ renumbered (spots operands) numbers
unfolding renumbered
same_numbers raw [] numbers = refl
same_numbers raw (o ∷ os) [] = refl
same_numbers raw (o ∷ os) (n ∷ ns) = ap (λ (w : List Operand). record { at = o.at; width = o.width; uleb = o.uleb; base = o.base; number = n } ∷ w) (same_numbers raw os ns)

same_places : (raw : List RawUnit) (operands : List ListOperand) (numbers : List ℕ) (place : ℕ)
    → number_for_place (row_operands raw operands) numbers place ≡ number_for_place (spots operands) numbers place
unfolding number_for_place
same_places raw [] numbers place = refl
same_places raw (o ∷ os) [] place = refl
same_places raw (o ∷ os) (n ∷ ns) place = ap (λ (m : ℕ). cond (eqb o.at place) n m) (same_places raw os ns place)

pub spots_patched : (lists : List NamedList) (raw : List RawUnit) (operands : List ListOperand) (numbers section : List ℕ)
    → IsPatched lists (number_for_place (row_operands raw operands) numbers) section (with_operands (renumbered (row_operands raw operands) numbers) section)
    → IsPatched lists (number_for_place (spots operands) numbers) section (with_numbers operands numbers section)
spots_patched lists raw operands numbers section h =
    let places : number_for_place (row_operands raw operands) numbers ≡ number_for_place (spots operands) numbers = (λ j. λ place. same_places raw operands numbers place j) in
    subst (λ (number : ℕ → ℕ). IsPatched lists number section (with_numbers operands numbers section)) places
    (subst (λ (os : List Operand). IsPatched lists (number_for_place (row_operands raw operands) numbers) section (with_operands os section)) (same_numbers raw operands numbers) h)

-- ---- of a file

pub all_end : (around : Around ℕ) (raw : List RawUnit) (operands : List ListOperand) → AreRows (lists_of_units around raw) (map (operand_view raw) operands) → EndIn
    (length around.sources.lists) operands
all_end around raw operands are = each_end raw (length around.sources.lists) operands (rows_end around raw (map (operand_view raw) operands) are)

pub all_patched : (around : Around ℕ) (raw : List RawUnit) (operands : List ListOperand) (numbers : List ℕ) → AreRows (lists_of_units around raw) (map (operand_view raw) operands) → NoneShared
    (lists_of_units around raw) → length numbers ≡ length operands
    → IsPatched (lists_of_units around raw) (number_for_place (spots operands) numbers) around.sources.lists (with_numbers operands numbers around.sources.lists)
all_patched around raw operands numbers are none many =
    let lists = lists_of_units around raw in
    let rows = map (operand_view raw) operands in
    let pass = none_pass lists rows are (λ l there. units_some around raw l ((units_name around raw l).0 there)) none in
    spots_patched lists raw operands numbers around.sources.lists
    (rows_patched lists rows numbers around.sources.lists are pass.apart (many ∙ sym (length-map operands (operand_view raw))) (rows_end around raw rows are))
