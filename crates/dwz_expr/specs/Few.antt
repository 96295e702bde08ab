-- Numbers that have few bytes, and operators that name no entry.
use Rattle.std.specs.Prelude.{◌≡◌, ℕ, ◌+◌, ◌<◌, ◌≤◌, Bool, List, [], ◌++◌, ◌||◌, length, drop, Ok}
use Rattle.dwz_bytes.specs.Spelling.{IsGroups}
use Rattle.dwz_def_reading.specs.Exprs.{ExprContext}
use Rattle.dwz_expr.specs.FirstFault.{ReadsInto}
use Rattle.dwz_expr.specs.Gathering.{gathered, ops_into}
use Rattle.dwz_expr.specs.declared.plain.Plain.{Plain}

-- a LEB128 number of so many bytes at most stands between two places
pub record AreFew (most : ℕ) (bytes : List ℕ) (at end : ℕ) : Type 0 where
  pub front : List ℕ
  pub groups : IsGroups front
  pub few : length front ≤ most
  pub parts : drop at bytes ≡ front ++ drop end bytes
  pub place : end ≡ at + length front
  pub within : end ≤ length bytes

-- Operators stand between two places, where so many expressions are one inside another at most: none of them names an entry, and this says
-- whether there is an address among them.
pub record ArePlain (inside : ℕ) (bytes : List ℕ) (at : ℕ) (p : Plain) : Type 0 where
  pub within : p.end ≤ length bytes
  pub skips : (c : ExprContext) (k start : ℕ) (a : Bool) → inside ≤ k
      → ops_into c k (gathered [] a) (record { at = start + at; rest = drop at bytes })
      ≡ ops_into c k (gathered [] (a || p.address)) (record { at = start + p.end; rest = drop p.end bytes })

-- and there is one at least
pub record IsPlain (inside : ℕ) (bytes : List ℕ) (at : ℕ) (p : Plain) : Type 0 where
  pub rises : at < p.end
  pub plain : ArePlain inside bytes at p

-- an expression of these bytes is read wherever it stands, and none of its operands names an entry
abbrev pub NamesNone : List ℕ → Type 0
NamesNone bytes = (section at : ℕ) → (address : Bool) × ReadsInto section (record { at = at; rest = bytes }) [] (Ok address)
