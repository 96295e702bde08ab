-- Attributes that can be stored: as they were read, and those that are chosen.
use Rattle.std.proofs.Common.{◌≡◌, ℕ, ◌^◌, ◌<◌, pos, refl, sym, subst, arith}
use Rattle.std.proofs.lemmas.Int.{ints}
use Rattle.std.specs.Prelude.{ℤ}
use mir.Syntax.{w128}
use mir.Val.{to_z}
use Rattle.dwz_bytes.proofs.FixedLemmas.{fixed_written}
use Rattle.dwz_bytes.specs.Spelling.{le_bytes}
use Rattle.dwz_def_encoding.specs.Placing.{InCommon, InFile, InUnit, Reach, ref_form}
use Rattle.dwz_def_encoding.proofs.PoolLemmas.{le_are}
use Rattle.dwz_def_reading.proofs.WrittenLemmas.{read_writable}
use Rattle.dwz_def_reading.specs.Abbrevs.{IsPlainPair}
use Rattle.dwz_def_reading.specs.Forms.{form_rows}
use Rattle.dwz_def_reading.specs.Values.{HasSpelling, Number}
use Rattle.dwz_forms.specs.RawValues.{raw_view}
use Rattle.dwz_forms.specs.declared.raw.Raw.{Raw as RawOfCode}
use Rattle.dwz_forms.specs.declared.raw.Raw.TheVariants as code
use Rattle.dwz_layout.proofs.NumberLemmas.{wide_code_written}
use Rattle.dwz_layout.specs.Attributes.{plain_pair}
use Rattle.dwz_model.specs.declared.place.Pair.{Pair}
use Rattle.dwz_expand_layout.specs.declared.entries.Content.{Content as ContentOfCode}
use Rattle.dwz_expand_layout.specs.declared.entries.Content.TheVariants.{Expression, OfCopy, Stored}
use Rattle.dwz_expand_layout.specs.declared.entries.NewAttr.{NewAttr}
use Rattle.dwz_expand_layout.specs.declared.entries.NewExpression.{NewExpression}
use Rattle.dwz_expand_layout.specs.Entries.{CanStore}

abbrev attr : Pair → ContentOfCode → NewAttr
attr pair content = record { pair = pair; content = content }

plain_is : (name form : ℕ) → 0 < name → 0 < form → IsPlainPair (plain_pair name form)
plain_is name form some known = record { some_name = some; some_form = known; no_constant = λ other. refl }

-- a value as it was read
pub can_keep : (pair : Pair) (raw : RawOfCode) → IsPlainPair pair → HasSpelling pair.form (raw_view raw) → CanStore (attr pair (Stored raw))
can_keep pair raw plain spelled = record { declared = plain; fits = λ other. spelled }

some_form : (r : Reach) → 0 < ref_form r
some_form InUnit = omega arith
some_form InFile = omega arith
some_form InCommon = omega arith

-- a copy
pub can_name : (name copy : ℕ) (r : Reach) → 0 < name → CanStore (attr (plain_pair name (ref_form r)) (OfCopy copy))
can_name name copy r some = record { declared = plain_is name (ref_form r) some (some_form r); fits = (r, refl) }

-- an expression
pub can_express : (pair : Pair) (e : NewExpression) → IsPlainPair pair → pair.form ≡ 0x18 → CanStore (attr pair (Expression e))
can_express pair e plain form = record { declared = plain; fits = form }

-- a text, in DW_FORM_string
pub can_text : (name : ℕ) (raw : RawOfCode) → 0 < name → CanStore (attr (plain_pair name 0x08) (Stored raw))
can_text name raw some = record { declared = plain_is name 0x08 some (omega arith); fits = λ other. absurd (other refl) }

-- a number, in DW_FORM_udata
pub can_number : (name number : ℕ) → 0 < name → number < 2 ^ 64 → CanStore (attr (plain_pair name 0x0f) (Stored (code.Number (to_z w128 number))))
can_number name number some small = record { declared = plain_is name 0x0f some (omega arith); fits = λ other. wide_code_written number small }

offset_written : (number : ℕ) → number < 2 ^ 32 → HasSpelling 0x0e (Number (pos number))
unfolding form_rows
offset_written number small =
    let lt : number < 256 ^ 4 = omega (arith, small) in
    read_writable (plain_pair 1 0x0e) (le_bytes 4 number) (Number (pos number)) (le_are 4 number) (record { content = number; spelled = fixed_written 4 number lt; value = refl })

-- an offset, in DW_FORM_strp
pub can_offset : (name number : ℕ) → 0 < name → number < 2 ^ 32 → CanStore (attr (plain_pair name 0x0e) (Stored (code.Number (to_z w128 number))))
can_offset name number some small =
    let wide : to_z w128 number ≡ pos number = omega (arith, ints, small) in
    record {
      declared = plain_is name 0x0e some (omega arith);
      fits = λ other. subst (λ (z : ℤ). HasSpelling 0x0e (Number z)) (sym wide) (offset_written number small);
    }
