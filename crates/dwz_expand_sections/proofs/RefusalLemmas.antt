-- Refusals of size, one behind the other.
use Rattle.std.proofs.Common.{◌≡◌, ℕ, Option, Some, None, sym, subst, inl, inr}
use Rattle.std.specs.Option.{option_or}
use Rattle.dwz_model.specs.declared.fault.Fault.{Fault}
use Rattle.dwz_model.specs.declared.fault.Refusal.{Refusal}
use Rattle.dwz_def_output.specs.NewFiles.{IsFound}
use Rattle.dwz_def_output.specs.Refusals.{InFile}
use Rattle.dwz_def_reading.specs.FirstOf.{OrElse}

-- the one that is found, or else the other
pub or_else_found : {X : Type 0} (First Then : X → Type 0) (a b r : Option X) → r ≡ option_or a b → IsFound First a → IsFound Then b → IsFound (OrElse First Then) r
or_else_found {X} First Then a b r is first second = subst (IsFound (OrElse First Then)) (sym is) (by a b first second) where
  by : (c d : Option X) → IsFound First c → IsFound Then d → IsFound (OrElse First Then) (option_or c d)
  by (Some x) d here later = inl here
  by None (Some x) none here = inr (none, here)
  by None None none other = λ x has. elim has [ inl here ↦ none x here | inr later ↦ other x later.1 ]

-- a fault of the file with a number
pub in_file_found : (Has : Fault → Type 0) (file : ℕ) (x : Fault) (q : Refusal) → q ≡ record { file = file; section = x.section; at = x.at; reason = x.reason } → Has x
    → InFile (λ (n : ℕ). Has) file q
in_file_found Has file x q is has = (x, has, is)

pub in_file_none : (Has : Fault → Type 0) (file : ℕ) → IsFound Has None → IsFound (InFile (λ (n : ℕ). Has) file) None
in_file_none Has file none q has = none has.0 has.1
