-- Fronts of entries fail with the faults that they have.
use Rattle.std.proofs.Common.{◌≡◌, ℕ, ◌+◌, ◌<◌, inl, inr, Bool, true, cond, eqb, ltb, List, length, Option, None, Result, Ok, Err, refl, sym, ap}
use Rattle.std.proofs.Common.{subst, ◌∙◌, arith}
use Rattle.std.proofs.lemmas.Bool.{eq-eqb, eqb-false, eqb-true, le-ltb, lt-ltb}
use Rattle.dwz_model.specs.declared.fault.Fault.{Fault}
use Rattle.dwz_model.specs.declared.fault.Reason.TheVariants.{BadNumber, BadRoot, TooDeep, TooMany}
use Rattle.dwz_bytes.specs.declared.error.ByteErr.{ByteErr}
use Rattle.dwz_bytes.specs.declared.error.ByteErr.TheVariants.{Short, Wide}
use Rattle.dwz_bytes.specs.Input.{Input}
use Rattle.dwz_bytes.specs.Reading.{◌>>=◌, uleb_at}
use Rattle.dwz_bytes.specs.Spelling.{SpellsUleb}
use Rattle.dwz_bytes.proofs.GroupLemmas.{chosen}
use Rattle.dwz_def_reading.specs.Abbrevs.{Declaration, find_decl}
use Rattle.dwz_def_reading.specs.Entries.{BeginsWithZero, HasDeclaredCode, IsDeclaredFault, IsFrontFault, RawAttr, RawEntry, SpellsCode}
use Rattle.dwz_def_reading.specs.Entries.{UnitContext, after_code, after_decl, after_zero, code_fault, code_or_fault, declared_at, entry_of, forms_at, front_at}
use Rattle.dwz_def_reading.specs.Entries.{unless_so}
use Rattle.dwz_def_reading.specs.Faults.{info_fault}
use Rattle.dwz_def_reading.specs.Trees.{FailsAs, Position}
use Rattle.dwz_def_reading.proofs.PartLemmas.{bind_err, same_error}
use Rattle.dwz_def_reading.proofs.ReadLemmas.{uleb_reads}
use Rattle.dwz_def_reading.proofs.TreeLemmas.{Takes, input_at}
use Rattle.dwz_def_reading.proofs.EntryLemmas.{above_zero, behind_depth, behind_room, behind_root, coded_err, coded_ok, decl_again, decl_fault, declared_err, declared_ok, front_of_code, front_of_decl}
use Rattle.dwz_def_reading.proofs.EntryLemmas.{not_wrong, not_zero, root_wrong, uleb_short, uleb_wide}
use Rattle.dwz_def_reading.proofs.AttrReads.{attrs_fault_again}

after_code_fault : (c : UnitContext) (p : Position) (i : Input) (n : ℕ × Input) (front : List ℕ) (f : Fault) → SpellsUleb front n.0 → Takes i front n.1
    → after_code c p i.at n ≡ Err f → IsFrontFault c p i.at i.rest f
after_code_fault c p i n front f is takes e =
    elim (chosen (eqb n.0 0) (after_zero p i.at n.1) (declared_at i.at (find_decl c.table n.0) >>= after_decl c p i.at n.1) (Err f) e) [
      | inl z ↦
          elim (chosen (eqb p.depth 1) (Err (info_fault i.at BadRoot)) (Ok (None, n.1)) (Err f) z.1) [
            | inl r ↦
                let zero_there : BeginsWithZero i.rest = record { front = front; zero = subst (λ (m : ℕ). SpellsUleb front m) (eqb-true n.0 0 z.0) is; rest = n.1.rest; parts = takes.parts } in
                let answer : Result (Option RawEntry × Input) Fault = Err f in
                inr (inr (inl (same_error f (info_fault i.at BadRoot) answer refl (sym r.1), eqb-true p.depth 1 r.0, zero_there)))
            | inr r ↦ absurd cc
          ]
      | inr z ↦
          let some : 0 < n.0 = above_zero n.0 (eqb-false n.0 0 z.0) in
          elim (bind_err (declared_at i.at (find_decl c.table n.0)) (after_decl c p i.at n.1) f z.1) [
            | inl d ↦
                let t = declared_err i.at (find_decl c.table n.0) f d in
                inr (inr (inr (inl (t.1, record { code = n.0; front = front; spelled = is; some_code = some; undeclared = t.0; rest = n.1.rest; parts = takes.parts }))))
            | inr d ↦
                let code : SpellsCode c.table d.0 front = record { code = n.0; spelled = is; some_code = some; declared = declared_ok i.at (find_decl c.table n.0) d.0 d.1 } in
                let there : HasDeclaredCode c.table i.rest = record { decl = d.0; front = front; code = code; rest = n.1.rest; parts = takes.parts } in
                inr (inr (inr (inr (there, subst (λ (at : ℕ). IsDeclaredFault c p d.0 i.at at n.1.rest f) takes.place (decl_fault c p i.at n.1 d.0 f d.2)))))
          ]
    ]

code_fault_found : (c : UnitContext) (p : Position) (i : Input) (d : ByteErr) (f : Fault) → uleb_at i ≡ Err d → f ≡ code_fault c d → IsFrontFault c p i.at i.rest f
code_fault_found c p i (Short at) f e is = inl (is, ((uleb_short i at).0 e).1)
code_fault_found c p i (Wide at) f e is =
    let t = (uleb_wide i at).0 e in
    inr (inl (is ∙ ap (λ (n : ℕ). info_fault n BadNumber) t.0, t.1))

pub front_fault : (c : UnitContext) (p : Position) (i : Input) (f : Fault) → front_at c p i ≡ Err f → IsFrontFault c p i.at i.rest f
unfolding front_at
front_fault c p i f e =
    elim (bind_err (code_or_fault c (uleb_at i)) (after_code c p i.at) f e) [
      | inl h ↦ let t = coded_err c (uleb_at i) f h in code_fault_found c p i t.0 f t.1 t.2
      | inr h ↦
          let t = uleb_reads.found i h.0.1 h.0.0 (coded_ok c (uleb_at i) h.0 h.1) in
          after_code_fault c p i h.0 t.front f t.spelled (record { parts = t.parts; place = t.place }) h.2
    ]

-- ---- fronts: what has a fault fails

decl_fails : (c : UnitContext) (p : Position) (d : Declaration) (at start : ℕ) (bytes : List ℕ) (f : Fault) → IsDeclaredFault c p d at start bytes f
    → after_decl c p at (input_at start bytes) d ≡ Err f
decl_fails c p d at start bytes f is =
    elim is [
      | inl r ↦
          ap (λ (b : Bool). unless_so b (info_fault at BadRoot) >>= behind_root c p at (input_at start bytes) d) (root_wrong c p d r.1 r.2)
          ∙ ap (λ (g : Fault). Err g) (sym r.0)
      | inr r ↦ elim r [
        | inl s ↦
            ap (λ (b : Bool). unless_so b (info_fault at BadRoot) >>= behind_root c p at (input_at start bytes) d) (not_wrong c p d s.1)
            ∙ ap (λ (b : Bool). unless_so b (info_fault at TooDeep) >>= behind_depth c p at (input_at start bytes) d) (lt-ltb c.mode.depth p.depth s.2)
            ∙ ap (λ (g : Fault). Err g) (sym s.0)
        | inr s ↦ elim s [
          | inl t ↦
              let full : ltb c.mode.entries (p.before + 1) ≡ true = lt-ltb c.mode.entries (p.before + 1) (omega (arith, t.3)) in
              ap (λ (b : Bool). unless_so b (info_fault at BadRoot) >>= behind_root c p at (input_at start bytes) d) (not_wrong c p d t.1)
              ∙ ap (λ (b : Bool). unless_so b (info_fault at TooDeep) >>= behind_depth c p at (input_at start bytes) d) (le-ltb c.mode.depth p.depth t.2)
              ∙ ap (λ (b : Bool). unless_so b (info_fault at TooMany) >>= behind_room (forms_at c p) at d (input_at start bytes)) full
              ∙ ap (λ (g : Fault). Err g) (sym t.0)
          | inr t ↦
              decl_again c p at (input_at start bytes) d t.0
              ∙ ap (λ (r : Result (List RawAttr × Input) Fault). r >>= entry_of at d) (attrs_fault_again (forms_at c p) at d.pairs start bytes f t.1)
        ]
      ]
    ]

-- a code that can't be read
code_fails : (c : UnitContext) (p : Position) (i : Input) (d : ByteErr) → uleb_at i ≡ Err d → front_at c p i ≡ Err (code_fault c d)
unfolding front_at
code_fails c p i d e = ap (λ (r : Result (ℕ × Input) ByteErr). code_or_fault c r >>= after_code c p i.at) e

pub front_fails_so : (c : UnitContext) (p : Position) (start : ℕ) (bytes : List ℕ) (f : Fault) → IsFrontFault c p start bytes f → front_at c p (input_at start bytes) ≡ Err f
front_fails_so c p start bytes f is =
    elim is [
      | inl r ↦
          code_fails c p (input_at start bytes) (Short start) ((uleb_short (input_at start bytes) start).1 (refl, r.1))
          ∙ ap (λ (g : Fault). Err g) (sym r.0)
      | inr r ↦ elim r [
        | inl s ↦
            code_fails c p (input_at start bytes) (Wide start) ((uleb_wide (input_at start bytes) start).1 (refl, s.1))
            ∙ ap (λ (g : Fault). Err g) (sym s.0)
        | inr s ↦ elim s [
          | inl t ↦
              let z = t.2 in
              ap (λ (w : List ℕ). front_at c p (input_at start w)) z.parts
              ∙ front_of_code c p start 0 z.front z.rest z.zero
              ∙ ap (λ (b : Bool). cond b (Err (info_fault start BadRoot)) (Ok (None, input_at (start + length z.front) z.rest))) (eq-eqb p.depth 1 t.1)
              ∙ ap (λ (g : Fault). Err g) (sym t.0)
          | inr t ↦ elim t [
            | inl u ↦
                let n = u.1 in
                ap (λ (w : List ℕ). front_at c p (input_at start w)) n.parts
                ∙ front_of_code c p start n.code n.front n.rest n.spelled
                ∙ ap (λ (b : Bool). cond b (after_zero p start (input_at (start + length n.front) n.rest))
                (declared_at start (find_decl c.table n.code) >>= after_decl c p start (input_at (start + length n.front) n.rest))) (not_zero n.code n.some_code)
                ∙ ap (λ (o : Option Declaration). declared_at start o >>= after_decl c p start (input_at (start + length n.front) n.rest)) n.undeclared
                ∙ ap (λ (g : Fault). Err g) (sym u.0)
            | inr u ↦
                let h = u.0 in
                ap (λ (w : List ℕ). front_at c p (input_at start w)) h.parts
                ∙ front_of_decl c p start h.decl h.front h.rest h.code
                ∙ decl_fails c p h.decl start (start + length h.front) h.rest f u.1
          ]
        ]
      ]
    ]

pub front_fails : (c : UnitContext) → FailsAs (front_at c) (IsFrontFault c)
front_fails c = (front_fault c, front_fails_so c)
