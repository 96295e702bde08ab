-- Where an expression isn't read, in each context.
use Rattle.std.proofs.Common.{◌≡◌, ℕ, Bool, false, List, [], ◌++◌, Result, Ok, Err, sym, ap, ◌∙◌}
use Rattle.dwz_model.specs.declared.fault.Fault.{Fault}
use Rattle.dwz_model.specs.declared.fault.ReadErr.{ReadErr}
use Rattle.dwz_model.specs.declared.fault.ReadErr.TheVariants.{NoMemory, Refused}
use Rattle.dwz_bytes.specs.Input.{Input}
use Rattle.dwz_bytes.specs.Reading.{◌>>=◌, take_at, uleb_at}
use Rattle.dwz_def_reading.specs.Faults.{Fails}
use Rattle.dwz_def_reading.specs.declared.exprs.Operand.{Operand}
use Rattle.dwz_def_reading.specs.Exprs.{ExprContext, any_operands, bad_expr, or_fault}
use Rattle.dwz_expr.specs.FirstFault.{ReadsInto, asked}
use Rattle.dwz_expr.specs.Gathering.{Gathered, Grows, InEach, Stopped, added, content_into, counted_into, gathered, nested_into, ops_into}
use Rattle.dwz_expr.proofs.AskedLemmas.{asked_none}
use Rattle.dwz_expr.proofs.LoopLemmas.{Halt, bad_same, none_added}
use Rattle.dwz_expr.proofs.OperatorLemmas.{stopped}
use Rattle.dwz_expr.proofs.ReadLemmas.{are_asked, where_any}

-- ---- in the loop

module _ (section k : ℕ) (a0 : Bool) (i0 : Input) (pre ops new : List Operand) where
  -- at an operator without an expression, which leaves the operands as they were
  pub flat_stops : new ≡ ops → Grows pre ops → (e : ReadErr) (r : Result (Gathered × Input) Fault) → Fails e r → ((f : Fault) → r ≡ Err f → Halt section k a0 i0 pre ops f)
      → Stopped section (λ c. ops_into c k (gathered [] a0) i0) (added pre new) e
  flat_stops same grows NoMemory r fails halt = tt
  flat_stops same grows (Refused f) r fails halt =
      let h = halt f fails in λ c e. h.stops c e ∙ ap (λ (w : List Operand). asked c (added pre w) (Err f)) (sym same)

  pub flat_grows : new ≡ ops → Grows pre ops → Grows pre new
  flat_grows same grows = same ∙ grows ∙ ap (λ (w : List Operand). pre ++ added pre w) (sym same)

  -- at one with an expression
  pub nested_stops : {Y : Type 0} (read : ExprContext → Result Y Fault) (e : ReadErr) → Stopped section read (added ops new) e
      → ((f : Fault) → InEach section read (added ops new) (Err f) → Halt section k a0 i0 pre new f)
      → Stopped section (λ c. ops_into c k (gathered [] a0) i0) (added pre new) e
  nested_stops {Y} read NoMemory gathers halt = tt
  nested_stops {Y} read (Refused f) gathers halt = (halt f gathers).stops

-- ---- before the expression in an operator

module _ (section k at : ℕ) (a : Bool) (i : Input) (ops : List Operand) (bad : Fault) (is_bad : bad ≡ bad_expr (any_operands section) at) where
  abbrev nested_of : ExprContext → Result (Gathered × Input) Fault
  nested_of c = nested_into c k (bad_expr c at) (gathered [] a) i

  bad_of : (c : ExprContext) → c.section ≡ section → bad ≡ bad_expr c at
  bad_of c e = is_bad ∙ bad_same c section at e

  none_looked_up : (f : Fault) → ((c : ExprContext) → c.section ≡ section → nested_of c ≡ stopped f) → InEach section (λ c. nested_into c k (bad_expr c at) (gathered [] a) i) (added ops ops) (Err f)
  none_looked_up f each = λ c e. each c e ∙ sym (ap (λ (w : List Operand). asked c w (stopped f)) (none_added ops) ∙ asked_none c (stopped f))

  pub count_stops : (e : ReadErr) → Fails e (or_fault bad (uleb_at i)) → Stopped section (λ c. nested_into c k (bad_expr c at) (gathered [] a) i) (added ops ops) e
  count_stops NoMemory fails = tt
  count_stops (Refused f) fails =
      none_looked_up f (λ c e. ap (λ (r : Result (ℕ × Input) Fault). r >>= counted_into c k (bad_expr c at) (gathered [] a)) (ap (λ (g : Fault). or_fault g (uleb_at i)) (sym (bad_of c e)) ∙ fails))

  module _ (n : ℕ) (j : Input) (count : or_fault bad (uleb_at i) ≡ Ok (n, j)) where
    counted : (c : ExprContext) → c.section ≡ section → nested_of c ≡ (or_fault bad (take_at n j) >>= content_into c k (bad_expr c at) (gathered [] a) j.at)
    counted c e =
        ap (λ (r : Result (ℕ × Input) Fault). r >>= counted_into c k (bad_expr c at) (gathered [] a)) (ap (λ (g : Fault). or_fault g (uleb_at i)) (sym (bad_of c e)) ∙ count)
        ∙ ap (λ (g : Fault). or_fault g (take_at n j) >>= content_into c k (bad_expr c at) (gathered [] a) j.at) (sym (bad_of c e))

    pub content_stops : (e : ReadErr) → Fails e (or_fault bad (take_at n j)) → Stopped section (λ c. nested_into c k (bad_expr c at) (gathered [] a) i) (added ops ops) e
    content_stops NoMemory fails = tt
    content_stops (Refused f) fails =
        none_looked_up f (λ c e. counted c e ∙ ap (λ (r : Result (List ℕ × Input) Fault). r >>= content_into c k (bad_expr c at) (gathered [] a) j.at) fails)

    pub depth_stops : k ≡ 0 → (content : List ℕ) (m : Input) → or_fault bad (take_at n j) ≡ Ok (content, m)
        → InEach section (λ c. nested_into c k (bad_expr c at) (gathered [] a) i) (added ops ops) (Err bad)
    depth_stops zero_left content m taken =
        none_looked_up bad (λ c e.
        counted c e
        ∙ ap (λ (r : Result (List ℕ × Input) Fault). r >>= content_into c k (bad_expr c at) (gathered [] a) j.at) taken
        ∙ ap (λ (d : ℕ). content_into c d (bad_expr c at) (gathered [] a) j.at (content, m)) zero_left
        ∙ ap (λ (g : Fault). stopped g) (sym (bad_of c e)))

-- ---- a whole expression

pub into_fails : (section : ℕ) (i : Input) (operands : List Operand) (e : ReadErr) → Stopped section (λ c. ops_into c 8 (gathered [] false) i) operands e → ReadsInto section i operands (Err e)
into_fails section i operands NoMemory is = tt
into_fails section i operands (Refused f) is = (where_any section i operands (Err f) is, are_asked section i operands (Err f) is)

pub into_gives : (section : ℕ) (i : Input) (operands : List Operand) (address : Bool) → InEach section (λ c. ops_into c 8 (gathered [] false) i) operands (Ok (gathered operands address))
    → ReadsInto section i operands (Ok address)
into_gives section i operands address is = (where_any section i operands (Ok (gathered operands address)) is, are_asked section i operands (Ok (gathered operands address)) is)
