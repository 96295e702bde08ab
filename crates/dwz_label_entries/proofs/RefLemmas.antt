-- The entries that values name, one by one.
use Rattle.std.proofs.Common.{◌≡◌, ℕ, zero, suc, ◌+◌, ◌<◌, Bool, true, false, List, [], ◌∷◌, ◌++◌, length, map, take, drop, get_or, Some, None, refl, sym, ap, ◌∙◌, arith}
use Rattle.std.specs.Prelude.{if◌then◌else◌}
use Rattle.std.specs.List.{flat_map}
use Rattle.std.proofs.lemmas.List.{append_assoc, append-nil, length-map}
use Rattle.dwz_def_tops.specs.Spots.{EntryName}
use Rattle.dwz_def_reading.specs.Units.{RawUnit}
use Rattle.dwz_graph.specs.Rows.{AreTargets}
use Rattle.dwz_label.specs.Labels.{each_counted, number, target_label}
use Rattle.dwz_def_reading.specs.declared.exprs.Operand.{Operand}
use Rattle.dwz_def_reading.specs.Exprs.{first_unnamed}
use Rattle.dwz_def_reading.specs.Meanings.{MeaningContext, target_of, targets}

-- ---- operands

abbrev named : MeaningContext ℕ → (ℕ → EntryName) → List Operand → List ℕ
named s name operands = flat_map target_label (map name (targets s operands))

pub next_operand : (s : MeaningContext ℕ) (name : ℕ → EntryName) (operands : List Operand) (k : ℕ) (o : Operand) (p : ℕ) (out new all : List ℕ) → drop k operands ≡ o ∷ drop (k + 1) operands
    → s.around.place (target_of s o) ≡ p → new ≡ out ++ target_label (name p)
    → out ++ named s name (drop k operands) ≡ all → new ++ named s name (drop (k + 1) operands) ≡ all
next_operand s name operands k o p out new all here at is so =
    let rest = named s name (drop (k + 1) operands) in
    ap (λ (w : List ℕ). w ++ rest) (is ∙ ap (λ (n : ℕ). out ++ target_label (name n)) (sym at))
    ∙ append_assoc out (target_label (name (s.around.place (target_of s o)))) rest
    ∙ ap (λ (w : List Operand). out ++ named s name w) (sym here) ∙ so

pub no_operand : (s : MeaningContext ℕ) (name : ℕ → EntryName) (operands : List Operand) (k : ℕ) (out all : List ℕ) → drop k operands ≡ [] → out ++ named s name (drop k operands) ≡ all → out ≡ all
no_operand s name operands k out all none so = sym (append-nil out) ∙ ap (λ (w : List Operand). out ++ named s name w) (sym none) ∙ so

-- where none names no entry, each names one
pub each_named : (named : Operand → Bool) (operands : List Operand) (k : ℕ) (d : Operand) → first_unnamed named operands ≡ None → k < length operands → named (get_or operands k d) ≡ true
unfolding first_unnamed
each_named named [] k d none lt = absurd (omega arith)
each_named named (o ∷ operands) k d none lt = by (named o) refl none (λ rest j less. each_named named operands j d rest less) k lt where
  by : (b : Bool) → named o ≡ b → (if b then first_unnamed named operands else Some o) ≡ None
      → (first_unnamed named operands ≡ None → (j : ℕ) → j < length operands → named (get_or operands j d) ≡ true)
      → (j : ℕ) → j < length (o ∷ operands) → named (get_or (o ∷ operands) j d) ≡ true
  by true is rest more zero less = is
  by true is rest more (suc j) less = more rest j (omega (arith, less))
  by false is rest more j less = absurd cc

-- ---- references

pub take_targets : (raw : List RawUnit) (numbers places : List ℕ) → AreTargets raw numbers places → AreTargets raw (take (length places) numbers) places
take_targets raw numbers [] h = tt
take_targets raw [] (p ∷ places) h = absurd h
take_targets raw (i ∷ numbers) (p ∷ places) h = (h.0, h.1, take_targets raw numbers places h.2)

pub take_many : (raw : List RawUnit) (numbers places : List ℕ) → AreTargets raw numbers places → length places ≡ length (take (length places) numbers)
take_many raw numbers [] h = refl
take_many raw [] (p ∷ places) h = absurd h
take_many raw (i ∷ numbers) (p ∷ places) h = ap suc (take_many raw numbers places h.2)

pub counted_targets : (name : ℕ → EntryName) (places : List ℕ) (count : ℕ) (old one two : List ℕ) → length places ≡ count → one ≡ old ++ number count → two ≡ one
    ++ flat_map target_label (map name places)
    → two ≡ old ++ each_counted target_label (map name places)
counted_targets name places count old one two many is_one is_two =
    let rest = flat_map target_label (map name places) in
    is_two ∙ ap (λ (w : List ℕ). w ++ rest) (is_one ∙ ap (λ (n : ℕ). old ++ number n) (sym many ∙ sym (length-map places name))) ∙ append_assoc old (number (length (map name places))) rest

-- the entries that operands name, behind their number
pub counted_operands : (s : MeaningContext ℕ) (name : ℕ → EntryName) (places : List ℕ) (operands : List Operand) (old one two : List ℕ) → places ≡ targets s operands → one ≡ old
    ++ number (length operands)
    → two ≡ one ++ named s name operands → two ≡ old ++ each_counted target_label (map name places)
counted_operands s name places operands old one two are is_one is_two =
    let many : length (targets s operands) ≡ length operands = length-map operands (λ o. s.around.place (target_of s o)) in
    counted_targets name (targets s operands) (length operands) old one two many is_one is_two ∙ ap (λ (w : List ℕ). old ++ each_counted target_label (map name w)) (sym are)
