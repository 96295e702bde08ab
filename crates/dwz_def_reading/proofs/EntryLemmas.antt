-- Attributes and fronts of entries are read as they are spelled, and fail with the faults that they have.
use Rattle.std.proofs.Common.{◌≡◌, ◌≢◌, ℕ, zero, suc, ◌+◌, ◌<◌, ◌≤◌, inl, inr, Bool, true, false, cond, eqb, ltb, List, ◌++◌, length, Option, Some, None, Result, Ok, Err, refl, sym, ap}
use Rattle.std.proofs.Common.{subst, ◌∙◌, arith}
use Rattle.std.specs.Prelude.{◌&&◌, not}
use Rattle.std.proofs.lemmas.Bool.{and_from, and_parts, eq-eqb, eqb-false, eqb-true, le-ltb, ltb-false, ltb-true, ne_eqb, not-false, not-true}
use Rattle.std.proofs.lemmas.List.{length-append}
use Rattle.dwz_model.specs.declared.fault.Fault.{Fault}
use Rattle.dwz_model.specs.declared.fault.Reason.TheVariants.{BadRoot, NoSuchCode, TooDeep, TooMany}
use Rattle.dwz_bytes.specs.declared.error.ByteErr.{ByteErr}
use Rattle.dwz_bytes.specs.Input.{Input}
use Rattle.dwz_bytes.specs.Laws.{IsCutShort, IsShortAt, IsWideAt}
use Rattle.dwz_bytes.specs.Reading.{◌>>=◌, uleb_at}
use Rattle.dwz_bytes.specs.Spelling.{SpellsUleb, fits_u64, groups_value}
use Rattle.dwz_bytes.proofs.LebLemmas.{leb_short, leb_wide}
use Rattle.dwz_bytes.proofs.PaddedLemmas.{some_groups}
use Rattle.dwz_bytes.proofs.GroupLemmas.{chosen}
use Rattle.dwz_codes.specs.Rows.{RowView}
use Rattle.dwz_def_reading.specs.Abbrevs.{Declaration, find_decl}
use Rattle.dwz_def_reading.specs.Entries.{IsDeclaredFault, MayStand, RawAttr, RawEntry, SpellsAttrs, SpellsCode, SpellsEntry, SpellsFront}
use Rattle.dwz_def_reading.specs.Entries.{UnitContext, after_code, after_decl, after_zero, attrs_at, code_fault, code_or_fault, declared_at, entry_of, forms_at, front_at, is_wrong_root}
use Rattle.dwz_def_reading.specs.Entries.{unless_so}
use Rattle.dwz_def_reading.specs.Faults.{info_fault}
use Rattle.dwz_def_reading.specs.Trees.{AreFronts, Position}
use Rattle.dwz_def_reading.proofs.PartLemmas.{bind_err, bind_ok, same_error, same_input, same_value}
use Rattle.dwz_def_reading.proofs.ReadLemmas.{regrouped, uleb_reads}
use Rattle.dwz_def_reading.proofs.TreeLemmas.{Takes, Takes-then, input_at}
use Rattle.dwz_def_reading.proofs.AttrReads.{attrs_again, attrs_fault, attrs_found, place_behind}

-- ---- codes

pub uleb_short : IsShortAt IsCutShort uleb_at
unfolding uleb_at
uleb_short = leb_short groups_value fits_u64

pub uleb_wide : IsWideAt groups_value fits_u64 uleb_at
unfolding uleb_at
uleb_wide = leb_wide groups_value fits_u64

pub coded_ok : {X : Type 0} (c : UnitContext) (r : Result X ByteErr) (x : X) → code_or_fault c r ≡ Ok x → r ≡ Ok x
coded_ok {X} c (Ok y) x e = let same : y ≡ x = cc in ap (λ (w : X). Ok w) same
coded_ok c (Err d) x e = absurd cc

pub coded_err : {X : Type 0} (c : UnitContext) (r : Result X ByteErr) (f : Fault) → code_or_fault c r ≡ Err f → (d : ByteErr) × (r ≡ Err d) × (f ≡ code_fault c d)
coded_err c (Ok y) f e = absurd cc
coded_err c (Err d) f e = (d, refl, same_error f (code_fault c d) (Err f) refl (sym e))

coded_again : (c : UnitContext) (start n : ℕ) (front rest : List ℕ) → SpellsUleb front n → code_or_fault c (uleb_at (input_at start (front ++ rest))) ≡ Ok (n, input_at (start + length front) rest)
coded_again c start n front rest is = ap (code_or_fault c) (uleb_reads.again start n front rest is)

pub above_zero : (n : ℕ) → (n ≡ 0 → ⊥) → 0 < n
above_zero zero some = absurd (some refl)
above_zero (suc n) some = omega arith

pub not_zero : (n : ℕ) → 0 < n → eqb n 0 ≡ false
not_zero n lt = ne_eqb n 0 (λ same. omega (arith, same, lt))

-- ---- whether an entry may stand there

pub unless_ok : (test : Bool) (f : Fault) (u : Unit {0}) → unless_so test f ≡ Ok u → test ≡ false
unless_ok true f u e = absurd cc
unless_ok false f u e = refl

pub unless_err : (test : Bool) (f g : Fault) → unless_so test f ≡ Err g → (test ≡ true) × (g ≡ f)
unless_err true f g e = (refl, same_error g f (Err g) refl (sym e))
unless_err false f g e = absurd cc

pub second_false : (a b : Bool) → (a && b) ≡ false → a ≡ true → b ≡ false
second_false true b e t = e
second_false false b e t = absurd cc

right_root : (c : UnitContext) (p : Position) (d : Declaration) → is_wrong_root c p d ≡ false → p.depth ≡ 1 → d.tag ≡ c.root_tag
right_root c p d e root = eqb-true d.tag c.root_tag (not-false (eqb d.tag c.root_tag) (second_false (eqb p.depth 1) (not (eqb d.tag c.root_tag)) e (eq-eqb p.depth 1 root)))

pub not_wrong : (c : UnitContext) (p : Position) (d : Declaration) → (p.depth ≡ 1 → d.tag ≡ c.root_tag) → is_wrong_root c p d ≡ false
not_wrong c p d right = by_depth (eqb p.depth 1) refl where
  by_depth : (b : Bool) → eqb p.depth 1 ≡ b → (b && not (eqb d.tag c.root_tag)) ≡ false
  by_depth false e = refl
  by_depth true e = ap not (eq-eqb d.tag c.root_tag (right (eqb-true p.depth 1 e)))

wrong_root : (c : UnitContext) (p : Position) (d : Declaration) → is_wrong_root c p d ≡ true → (p.depth ≡ 1) × (d.tag ≢ c.root_tag)
wrong_root c p d e =
    let b = and_parts (eqb p.depth 1) (not (eqb d.tag c.root_tag)) e in
    (eqb-true p.depth 1 b.0, eqb-false d.tag c.root_tag (not-true (eqb d.tag c.root_tag) b.1))

pub root_wrong : (c : UnitContext) (p : Position) (d : Declaration) → p.depth ≡ 1 → d.tag ≢ c.root_tag → is_wrong_root c p d ≡ true
root_wrong c p d root other = and_from (eqb p.depth 1) (not (eqb d.tag c.root_tag)) (eq-eqb p.depth 1 root) (ap not (ne_eqb d.tag c.root_tag other))

-- the tests in their order, and what comes behind each
abbrev pub behind_room : List RowView → ℕ → Declaration → Input → Unit {0} → Result (Option RawEntry × Input) Fault
behind_room rows at d i room = attrs_at rows at d.pairs i >>= entry_of at d

abbrev pub behind_depth : UnitContext → Position → ℕ → Input → Declaration → Unit {0} → Result (Option RawEntry × Input) Fault
behind_depth c p at i d depth = unless_so (ltb c.mode.entries (p.before + 1)) (info_fault at TooMany) >>= behind_room (forms_at c p) at d i

abbrev pub behind_root : UnitContext → Position → ℕ → Input → Declaration → Unit {0} → Result (Option RawEntry × Input) Fault
behind_root c p at i d root = unless_so (ltb c.mode.depth p.depth) (info_fault at TooDeep) >>= behind_depth c p at i d

-- ---- fronts: what is read is spelled

pub record FrontRead (c : UnitContext) (p : Position) (i : Input) (o : Option RawEntry) (j : Input) : Type 0 where
  pub bytes : List ℕ
  pub spelled : SpellsFront c p i.at o bytes
  pub takes : Takes i bytes j

-- an entry of a declaration whose code was read
decl_found : (c : UnitContext) (p : Position) (i k j : Input) (d : Declaration) (o : Option RawEntry) (front : List ℕ) → SpellsCode c.table d front → Takes i front k
    → after_decl c p i.at k d ≡ Ok (o, j) → FrontRead c p i o j
decl_found c p i k j d o front code takes e =
    let at = i.at in
    let root = bind_ok (unless_so (is_wrong_root c p d) (info_fault at BadRoot)) (behind_root c p at k d) (o, j) e in
    let depth = bind_ok (unless_so (ltb c.mode.depth p.depth) (info_fault at TooDeep)) (behind_depth c p at k d) (o, j) root.2 in
    let room = bind_ok (unless_so (ltb c.mode.entries (p.before + 1)) (info_fault at TooMany)) (behind_room (forms_at c p) at d k) (o, j) depth.2 in
    let a = bind_ok (attrs_at (forms_at c p) at d.pairs k) (entry_of at d) (o, j) room.2 in
    let t = attrs_found (forms_at c p) d.pairs at k a.0.1 a.0.0 a.1 in
    let stands : MayStand c p d = record {
      root = right_root c p d (unless_ok _ _ _ root.1);
      depth = ltb-false c.mode.depth p.depth (unless_ok _ _ _ depth.1);
      room = omega (arith, ltb-false c.mode.entries (p.before + 1) (unless_ok _ _ _ room.1));
    } in
    let entry : RawEntry = record { at = at; tag = d.tag; children = d.children; attrs = a.0.0 } in
    let same : Some entry ≡ o = same_value (Some entry) o a.0.1 j (entry_of at d a.0) refl a.2 in
    let to : a.0.1 ≡ j = same_input (Some entry) o a.0.1 j (entry_of at d a.0) refl a.2 in
    let one : FrontRead c p i (Some entry) a.0.1 = record {
      bytes = front ++ t.bytes;
      spelled = record {
        place = refl;
        decl = d;
        tag = refl;
        children = refl;
        stands = stands;
        parts = record {
          first_bytes = front;
          first = code;
          second_bytes = t.bytes;
          second = subst (λ (n : ℕ). SpellsAttrs (forms_at c p) d.pairs a.0.0 n t.bytes) takes.place t.spelled;
          parts = refl;
        };
      };
      takes = Takes-then i k a.0.1 front t.bytes takes t.takes;
    } in
    subst (λ (w : Option RawEntry). FrontRead c p i w j) same (subst (λ (w : Input). FrontRead c p i (Some entry) w) to one)

pub declared_ok : (at : ℕ) (o : Option Declaration) (d : Declaration) → declared_at at o ≡ Ok d → o ≡ Some d
declared_ok at None d e = absurd cc
declared_ok at (Some h) d e = let same : h ≡ d = cc in ap (λ (w : Declaration). Some w) same

code_found : (c : UnitContext) (p : Position) (i j : Input) (n : ℕ × Input) (o : Option RawEntry) (front : List ℕ) → SpellsUleb front n.0 → Takes i front n.1
    → after_code c p i.at n ≡ Ok (o, j) → FrontRead c p i o j
code_found c p i j n o front is takes e =
    elim (chosen (eqb n.0 0) (after_zero p i.at n.1) (declared_at i.at (find_decl c.table n.0) >>= after_decl c p i.at n.1) (Ok (o, j)) e) [
      | inl z ↦
          elim (chosen (eqb p.depth 1) (Err (info_fault i.at BadRoot)) (Ok (None, n.1)) (Ok (o, j)) z.1) [
            | inl r ↦ absurd cc
            | inr r ↦
                let same : None ≡ o = same_value None o n.1 j (Ok (None, n.1)) refl r.1 in
                let to : n.1 ≡ j = same_input None o n.1 j (Ok (None, n.1)) refl r.1 in
                let one : FrontRead c p i None n.1 = record { bytes = front; spelled = (eqb-false p.depth 1 r.0, subst (λ (m : ℕ). SpellsUleb front m) (eqb-true n.0 0 z.0) is); takes = takes } in
                subst (λ (w : Option RawEntry). FrontRead c p i w j) same (subst (λ (w : Input). FrontRead c p i None w) to one)
          ]
      | inr z ↦
          let d = bind_ok (declared_at i.at (find_decl c.table n.0)) (after_decl c p i.at n.1) (o, j) z.1 in
          let code : SpellsCode c.table d.0 front =
          record { code = n.0; spelled = is; some_code = above_zero n.0 (eqb-false n.0 0 z.0); declared = declared_ok i.at (find_decl c.table n.0) d.0 d.1 } in
          decl_found c p i n.1 j d.0 o front code takes d.2
    ]

pub front_found : (c : UnitContext) (p : Position) (i j : Input) (o : Option RawEntry) → front_at c p i ≡ Ok (o, j) → FrontRead c p i o j
unfolding front_at
front_found c p i j o e =
    let a = bind_ok (code_or_fault c (uleb_at i)) (after_code c p i.at) (o, j) e in
    let t = uleb_reads.found i a.0.1 a.0.0 (coded_ok c (uleb_at i) a.0 a.1) in
    code_found c p i j a.0 o t.front t.spelled (record { parts = t.parts; place = t.place }) a.2

-- ---- fronts: what is spelled is read

-- what is made of an entry behind its code
pub decl_again : (c : UnitContext) (p : Position) (at : ℕ) (k : Input) (d : Declaration) → MayStand c p d → after_decl c p at k d ≡ (attrs_at (forms_at c p) at d.pairs k >>= entry_of at d)
decl_again c p at k d stands =
    let root : is_wrong_root c p d ≡ false = not_wrong c p d stands.root in
    let depth : ltb c.mode.depth p.depth ≡ false = le-ltb c.mode.depth p.depth stands.depth in
    let room : ltb c.mode.entries (p.before + 1) ≡ false = le-ltb c.mode.entries (p.before + 1) (omega (arith, stands.room)) in
    ap (λ (b : Bool). unless_so b (info_fault at BadRoot) >>= behind_root c p at k d) root
    ∙ ap (λ (b : Bool). unless_so b (info_fault at TooDeep) >>= behind_depth c p at k d) depth
    ∙ ap (λ (b : Bool). unless_so b (info_fault at TooMany) >>= behind_room (forms_at c p) at d k) room

-- what is made of a code that some declaration has
code_again : (c : UnitContext) (p : Position) (at : ℕ) (k : Input) (d : Declaration) (n : ℕ) → 0 < n → find_decl c.table n ≡ Some d → after_code c p at (n, k) ≡ after_decl c p at k d
code_again c p at k d n some declared =
    ap (λ (b : Bool). cond b (after_zero p at k) (declared_at at (find_decl c.table n) >>= after_decl c p at k)) (not_zero n some)
    ∙ ap (λ (o : Option Declaration). declared_at at o >>= after_decl c p at k) declared

-- the code of a declaration is read
pub front_of_code : (c : UnitContext) (p : Position) (start n : ℕ) (front rest : List ℕ) → SpellsUleb front n
    → front_at c p (input_at start (front ++ rest)) ≡ after_code c p start (n, input_at (start + length front) rest)
unfolding front_at
front_of_code c p start n front rest is = ap (λ (r : Result (ℕ × Input) Fault). r >>= after_code c p start) (coded_again c start n front rest is)

pub front_of_decl : (c : UnitContext) (p : Position) (start : ℕ) (d : Declaration) (front rest : List ℕ) → SpellsCode c.table d front
    → front_at c p (input_at start (front ++ rest)) ≡ after_decl c p start (input_at (start + length front) rest) d
front_of_decl c p start d front rest is =
    front_of_code c p start is.code front rest is.spelled ∙ code_again c p start (input_at (start + length front) rest) d is.code is.some_code is.declared

end_again : (c : UnitContext) (p : Position) (start : ℕ) (bytes rest : List ℕ) → p.depth ≢ 1 → SpellsUleb bytes 0
    → front_at c p (input_at start (bytes ++ rest)) ≡ Ok (None, input_at (start + length bytes) rest)
end_again c p start bytes rest below is =
    front_of_code c p start 0 bytes rest is
    ∙ ap (λ (b : Bool). cond b (Err (info_fault start BadRoot)) (Ok (None, input_at (start + length bytes) rest))) (ne_eqb p.depth 1 below)

-- an entry is what is read of its parts
same_entry : (c : UnitContext) (p : Position) (e : RawEntry) (start : ℕ) (bytes : List ℕ) (is : SpellsEntry c p e start bytes)
    → record { at = start; tag = is.decl.tag; children = is.decl.children; attrs = e.attrs } ≡ e
same_entry c p e start bytes is =
    ap (λ (n : ℕ). record { at = n; tag = is.decl.tag; children = is.decl.children; attrs = e.attrs }) (sym is.place)
    ∙ ap (λ (n : ℕ). record { at = e.at; tag = n; children = is.decl.children; attrs = e.attrs }) (sym is.tag)
    ∙ ap (λ (b : Bool). record { at = e.at; tag = e.tag; children = b; attrs = e.attrs }) (sym is.children)

abbrev answered : RawEntry → Input → Result (Option RawEntry × Input) Fault
answered e j = Ok (Some e, j)

entry_again : (c : UnitContext) (p : Position) (e : RawEntry) (start : ℕ) (bytes rest : List ℕ) → SpellsEntry c p e start bytes
    → front_at c p (input_at start (bytes ++ rest)) ≡ Ok (Some e, input_at (start + length bytes) rest)
entry_again c p e start bytes rest is =
    let a = is.parts in
    let more = attrs_again (forms_at c p) is.decl.pairs e.attrs start (start + length a.first_bytes) a.second_bytes rest a.second in
    ap (λ (w : List ℕ). front_at c p (input_at start w)) (regrouped bytes a.first_bytes a.second_bytes rest a.parts)
    ∙ front_of_decl c p start is.decl a.first_bytes (a.second_bytes ++ rest) a.first
    ∙ decl_again c p start (input_at (start + length a.first_bytes) (a.second_bytes ++ rest)) is.decl is.stands
    ∙ ap (λ (r : Result (List RawAttr × Input) Fault). r >>= entry_of start is.decl) more
    ∙ ap (λ (w : RawEntry). answered w (input_at (start + length a.first_bytes + length a.second_bytes) rest)) (same_entry c p e start bytes is)
    ∙ ap (λ (n : ℕ). answered e (input_at n rest)) (place_behind start bytes a.first_bytes a.second_bytes a.parts)

pub front_again : (c : UnitContext) (p : Position) (start : ℕ) (o : Option RawEntry) (bytes rest : List ℕ) → SpellsFront c p start o bytes
    → front_at c p (input_at start (bytes ++ rest)) ≡ Ok (o, input_at (start + length bytes) rest)
front_again c p start None bytes rest is = end_again c p start bytes rest is.0 is.1
front_again c p start (Some e) bytes rest is = entry_again c p e start bytes rest is

pub some_front : (c : UnitContext) (p : Position) (start : ℕ) (o : Option RawEntry) (bytes : List ℕ) → SpellsFront c p start o bytes → 0 < length bytes
some_front c p start None bytes is = some_groups bytes is.1.groups
some_front c p start (Some e) bytes is =
    let a = is.parts in
    let some = some_groups a.first_bytes a.first.spelled.groups in
    omega (arith, some, ap length a.parts, length-append a.first_bytes a.second_bytes)

pub front_laws : (c : UnitContext) → AreFronts (front_at c) (SpellsFront c)
front_laws c = record {
  found = λ p i j o e. let t = front_found c p i j o e in (t.bytes, t.spelled, t.takes.parts, t.takes.place);
  again = front_again c;
  some = some_front c;
}

-- ---- fronts: faults

pub decl_fault : (c : UnitContext) (p : Position) (at : ℕ) (k : Input) (d : Declaration) (f : Fault) → after_decl c p at k d ≡ Err f → IsDeclaredFault c p d at k.at k.rest f
decl_fault c p at k d f e =
    elim (bind_err (unless_so (is_wrong_root c p d) (info_fault at BadRoot)) (behind_root c p at k d) f e) [
      | inl r ↦ let t = unless_err _ _ f r in let w = wrong_root c p d t.0 in inl (t.1, w.0, w.1)
      | inr r ↦
          elim (bind_err (unless_so (ltb c.mode.depth p.depth) (info_fault at TooDeep)) (behind_depth c p at k d) f r.2) [
            | inl s ↦ let t = unless_err _ _ f s in inr (inl (t.1, right_root c p d (unless_ok _ _ _ r.1), ltb-true c.mode.depth p.depth t.0))
            | inr s ↦
                let root = right_root c p d (unless_ok _ _ _ r.1) in
                let depth : p.depth ≤ c.mode.depth = ltb-false c.mode.depth p.depth (unless_ok _ _ _ s.1) in
                elim (bind_err (unless_so (ltb c.mode.entries (p.before + 1)) (info_fault at TooMany)) (behind_room (forms_at c p) at d k) f s.2) [
                  | inl t ↦ let u = unless_err _ _ f t in inr (inr (inl (u.1, root, depth, omega (arith, ltb-true c.mode.entries (p.before + 1) u.0))))
                  | inr t ↦
                      let stands : MayStand c p d = record { root = root; depth = depth; room = omega (arith, ltb-false c.mode.entries (p.before + 1) (unless_ok _ _ _ t.1)) } in
                      let attrs : attrs_at (forms_at c p) at d.pairs k ≡ Err f = elim (bind_err (attrs_at (forms_at c p) at d.pairs k) (entry_of at d) f t.2) [ inl u ↦ u | inr u ↦ absurd cc ] in
                      inr (inr (inr (stands, attrs_fault (forms_at c p) d.pairs at k f attrs)))
                ]
          ]
    ]

pub declared_err : (at : ℕ) (o : Option Declaration) (f : Fault) → declared_at at o ≡ Err f → (o ≡ None) × (f ≡ info_fault at NoSuchCode)
declared_err at None f e = (refl, same_error f (info_fault at NoSuchCode) (Err f) refl (sym e))
declared_err at (Some d) f e = absurd cc
