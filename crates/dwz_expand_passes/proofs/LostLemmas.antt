-- The first of what is named that is lost, and whether a value can be copied.
use Rattle.std.proofs.Common.{◌≡◌, ℕ, suc, ◌+◌, true, false, List, [], ◌∷◌, ◌++◌, length, sym, ap, subst, ◌∙◌, arith, inl, inr}
use Rattle.dwz_model.specs.Lists.{Each}
use Rattle.dwz_model.specs.declared.fault.Fault.{Fault}
use Rattle.dwz_def_reading.specs.Documents.{Attr}
use Rattle.dwz_def_reading.specs.Classes.{OfConstant, class_of, names_file}
use Rattle.dwz_def_reading.specs.FirstOf.{OfFirst}
use Rattle.dwz_def_expand.specs.Refusals.{LacksRow, is_copied, not_imported, with_numbers}
use Rattle.dwz_expand_passes.specs.Copied.{FirstLost, Lost, LostAt, Refuses, site}
use Rattle.dwz_expand_passes.specs.Known.{Setting}

-- ---- lists of places

-- those from a number on
abbrev pub LostFrom : Setting → (ℕ → (section : ℕ) × ℕ) → ℕ → List ℕ → Fault → Type 0
LostFrom q at k places = OfFirst (LostAt q at) (with_numbers k places)

pub none_from : (q : Setting) (at : ℕ → (section : ℕ) × ℕ) (k : ℕ) (places : List ℕ) → Each (λ p. ¬ Lost q p) places → (f : Fault) → ¬ LostFrom q at k places f
unfolding with_numbers
none_from q at k [] free f h = h
none_from q at k (p ∷ places) free f (inl one) = free.0 one.0
none_from q at k (p ∷ places) free f (inr later) = none_from q at (suc k) places free.1 f later.1

-- the one behind some that aren't
pub one_from : (q : Setting) (at : ℕ → (section : ℕ) × ℕ) (k : ℕ) (before after : List ℕ) (p : ℕ) → Each (λ r. ¬ Lost q r) before → Lost q p
    → LostFrom q at k (before ++ p ∷ after) (not_imported (at (k + length before)))
unfolding with_numbers
one_from q at k [] after p free lost = inl (lost, (let e : k + 0 ≡ k = omega arith in ap (λ (n : ℕ). not_imported (at n)) e))
one_from q at k (r ∷ before) after p free lost =
    inr (
      (λ y one. free.0 one.0),
      (let e : suc k + length before ≡ k + suc (length before) = omega arith in
          subst (λ (n : ℕ). LostFrom q at (suc k) (before ++ p ∷ after) (not_imported (at n))) e (one_from q at (suc k) before after p free.1 lost)),
    )

-- one alone, and none
pub one_lost : (q : Setting) (at : ℕ → (section : ℕ) × ℕ) (p : ℕ) (f : Fault) → Lost q p → f ≡ not_imported (at 0) → FirstLost q at (p ∷ []) f
unfolding with_numbers
one_lost q at p f lost is = inl (lost, is)

pub none_lost : (q : Setting) (at : ℕ → (section : ℕ) × ℕ) (f : Fault) → FirstLost q at [] f → ⊥
none_lost q at f h = none_from q at 0 [] tt f h

-- the same places, whichever way they are told
pub lost_same : (q : Setting) (at other : ℕ → (section : ℕ) × ℕ) (places : List ℕ) (f : Fault) → ((k : ℕ) → at k ≡ other k) → FirstLost q at places f → FirstLost q other places f
lost_same q at other places f same h = (let e : at ≡ other = λ i k. same k i in subst (λ (g : ℕ → (section : ℕ) × ℕ). FirstLost q g places f) e h)

-- ---- values

module _ (q : Setting) (index : ℕ) (b : Attr ℕ) where
  abbrev at : ℕ → (section : ℕ) × ℕ
  at k = q.stands.named q.source index k

  -- what it names isn't lost, and it isn't the number of a file that lacks a row
  pub not_refused : Each (λ p. ¬ Lost q p) b.value.refs → ¬ LacksRow q.choice (site q index b) → (f : Fault) → ¬ Refuses q (site q index b) f
  not_refused free has f (inl one) = none_from q at 0 b.value.refs free f one
  not_refused free has f (inr row) = has row.1.0

  pub refused_lost : (f : Fault) → FirstLost q at b.value.refs f → Refuses q (site q index b) f
  refused_lost f h = inl h

  pub no_constant : (class_of b.form ≡ OfConstant → ⊥) → ¬ LacksRow q.choice (site q index b)
  no_constant other h = other h.constant

  pub no_file : (names_file b.name ≡ true → ⊥) → ¬ LacksRow q.choice (site q index b)
  no_file other h = other h.file

  pub not_copied : is_copied (q.choice.role q.source) ≡ false → ¬ LacksRow q.choice (site q index b)
  not_copied own h = (let e = h.copied in let z : true ≡ false = sym e ∙ own in cc)
