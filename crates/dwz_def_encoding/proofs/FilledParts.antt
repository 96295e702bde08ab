-- The bytes that are written of an expression are its parts, filled with the numbers of its entries; and these lead to the entries.
use Rattle.std.proofs.Common.{◌≡◌, ℕ, suc, ◌+◌, ◌-◌, ◌<◌, true, List, [], ◌∷◌, ◌++◌, length, drop, map, refl, sym, ap, subst, ◌∙◌, arith}
use Rattle.dwz_def_reading.specs.Base.{Base}
use Rattle.dwz_def_reading.specs.Base.TheVariants.{Unit as FromUnit, Info as FromInfo}
use Rattle.dwz_def_reading.specs.Lists.{In}
use Rattle.dwz_def_reading.specs.Rows.{has}
use Rattle.dwz_def_reading.proofs.ListFacts.{in_map}
use Rattle.dwz_def_reading.specs.declared.exprs.Operand.{Operand}
use Rattle.dwz_def_reading.specs.Documents.{Part, Same}
use Rattle.dwz_def_reading.specs.Documents as document
use Rattle.dwz_def_reading.specs.Exprs.{ExprContext, Expression, SpellsExpr, parts_from, parts_of}
use Rattle.dwz_def_reading.specs.Meanings.{MeaningContext, entries_for, leads_to}
use Rattle.dwz_def_reading.specs.Patching.{LeadTo, filled, number_in_width}
use Rattle.dwz_def_reading.proofs.PatchedLemmas.{patched_length}
use Rattle.dwz_def_reading.proofs.HasLemmas.{in_has}
use Rattle.dwz_def_encoding.specs.Fitting.{OperandsFit}
use Rattle.dwz_def_encoding.specs.Meant.{OperandIn, OperandsIn, Own, Tells}
use Rattle.dwz_def_encoding.specs.Writing.{Numbering, base_place, parts_bytes}
use Rattle.dwz_def_encoding.proofs.ScopeIs.{IsScope}

-- ---- the bytes

module _ {K : Type 0} (n : Numbering K) (unit : ℕ) where
  -- the numbers of the operands
  unfoldable pub numbers_of : List Part → List K → List ℕ
  numbers_of [] refs = []
  numbers_of (Same bytes ∷ parts) refs = numbers_of parts refs
  numbers_of (document.Operand width uleb base ∷ parts) [] = []
  numbers_of (document.Operand width uleb base ∷ parts) (k ∷ refs) = (n.place k - base_place unit base) ∷ numbers_of parts refs

  pub parts_filled : (parts : List Part) (refs : List K) → parts_bytes n unit parts refs ≡ filled parts (numbers_of parts refs)
  unfolding parts_bytes filled numbers_of
  parts_filled [] refs = refl
  parts_filled (Same bytes ∷ parts) refs = ap (λ (w : List ℕ). bytes ++ w) (parts_filled parts refs)
  parts_filled (document.Operand width uleb base ∷ parts) [] = refl
  parts_filled (document.Operand width uleb base ∷ parts) (k ∷ refs) =
      ap (λ (w : List ℕ). number_in_width uleb width (n.place k - base_place unit base) ++ w) (parts_filled parts refs)

  numbers_many : (at : ℕ) (bytes : List ℕ) (os : List Operand) (refs : List K) → length refs ≡ length os → length (numbers_of (parts_from at bytes os) refs) ≡ length os
  unfolding numbers_of parts_from
  numbers_many at bytes [] refs many = refl
  numbers_many at bytes (o ∷ os) [] many = absurd (omega (arith, many))
  numbers_many at bytes (o ∷ os) (k ∷ refs) many =
      let rest = numbers_many (o.at + o.width) (drop (o.at + o.width - at) bytes) os refs (omega (arith, many)) in ap (λ (m : ℕ). suc m) rest

  -- where as many entries are named as there are operands, what is written is as long as what was read
  pub expr_as_long : (c : ExprContext) (e : Expression) (start : ℕ) (bytes : List ℕ) (refs : List K) → SpellsExpr c e start bytes → length refs ≡ length e.operands
      → length (parts_bytes n unit (parts_of e) refs) ≡ length bytes
  expr_as_long c e start bytes refs spelled many =
      ap length (parts_filled (parts_of e) refs) ∙ patched_length c e start bytes (numbers_of (parts_of e) refs) spelled (numbers_many e.at e.bytes e.operands refs many)

-- ---- the entries

module _ {K P : Type 0} (n : Numbering K) (g : K → P) (unit : ℕ) (t : Tells K) (own : Own K) (s : MeaningContext P) (is : IsScope n g unit t own s) where
  led : (base : Base) (k : K) → 0 < n.place k - base_place unit base → leads_to s base (n.place k - base_place unit base) ≡ n.place k
  led FromUnit k some = omega (arith, is.unit, some)
  led FromInfo k some = omega arith

  named : (base : Base) (k : K) → OperandIn t own base k → has (n.place k) (entries_for s base) ≡ true
  named FromUnit k there = in_has (n.place k) s.own (subst (In (n.place k)) (sym is.own_are) (in_map n.place k own.keys there))
  named FromInfo k there = in_has (n.place k) s.around.all (subst (In (n.place k)) (sym is.all_are) (in_map n.place k t.all there))

  placed : (base : Base) (k : K) → OperandIn t own base k → s.around.place (n.place k) ≡ g k
  placed FromUnit k there = is.place_own k there
  placed FromInfo k there = is.place_all k there

  pub parts_lead : (parts : List Part) (refs : List K) → OperandsFit n unit parts refs → OperandsIn t own parts refs → LeadTo s parts (numbers_of n unit parts refs) (map g refs)
  unfolding numbers_of
  parts_lead [] [] fits there = tt
  parts_lead [] (k ∷ refs) fits there = absurd fits
  parts_lead (Same bytes ∷ parts) refs fits there = parts_lead parts refs fits there
  parts_lead (document.Operand width uleb base ∷ parts) [] fits there = absurd fits
  parts_lead (document.Operand width uleb base ∷ parts) (k ∷ refs) fits there =
      let to = led base k fits.0 in (
        fits.1,
        ap (λ (p : ℕ). has p (entries_for s base)) to ∙ named base k there.0,
        sym (ap s.around.place to ∙ placed base k there.0),
        parts_lead parts refs fits.2 there.1,
      )
