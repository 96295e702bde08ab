-- Lanes that have their turns, each of every so many files, have what is new in all files.
use Rattle.std.proofs.Common.{◌≡◌, ℕ, suc, ◌+◌, ◌<◌, ◌≤◌, List, [], ◌∷◌, ◌++◌, length, get_or, map, Option, Vec, Global, sym, ap, subst, ◌∙◌, inl}
use Rattle.std.specs.Prelude.{Result, Ok, Err, IfOk}
use Rattle.std.proofs.Common.{inr, arith}
use Rattle.std.proofs.lemmas.List.{length_push, length-map, map-append}
use Rattle.dwz_def_output.specs.declared.new_file.NewFile.{NewFile}
use Rattle.dwz_def_readback.specs.Files.{CommonFile, Run}
use Rattle.dwz_def_output.specs.NewFiles.{IsNewOrOldBy}
use Rattle.dwz_run_files.specs.Works.{AreNewFiles}
use Rattle.dwz_run_files.proofs.FilesMade.{EachIs, each_push}
use Rattle.dwz_run_files.specs.Lanes.{AreEvery, AreLanes}

-- ---- turns

-- so many files were dealt, and the lanes have all others
pub record Dealt (c : CommonFile) (r : Run) (step number : ℕ) (made : List (Option NewFile)) (lanes : List (List (Option NewFile))) : Type 0 where
  pub many : length made ≡ number
  pub each : EachIs c r 0 made
  pub later : AreLanes c r step number lanes

-- a lane behind the others
lanes_push : (c : CommonFile) (r : Run) (step n : ℕ) (lanes : List (List (Option NewFile))) (lane : List (Option NewFile)) → AreLanes c r step n lanes
    → AreEvery c r step (n + length lanes) lane → AreLanes c r step n (lanes ++ lane ∷ [])
lanes_push c r step n [] lane are last = (subst (λ (k : ℕ). AreEvery c r step k lane) (omega arith) last, tt)
lanes_push c r step n (x ∷ lanes) lane are last =
    (are.0, lanes_push c r step (suc n) lanes lane are.1 (subst (λ (k : ℕ). AreEvery c r step k lane) (omega arith) last))

-- the first lane has its turn, and goes behind the others
turn : (c : CommonFile) (r : Run) (step n : ℕ) (new : Option NewFile) (made lane : List (Option NewFile)) (lanes : List (List (Option NewFile)))
    → suc (length lanes) ≡ step → Dealt c r step n made ((new ∷ lane) ∷ lanes) → Dealt c r step (n + 1) (made ++ new ∷ []) (lanes ++ lane ∷ [])
turn c r step n new made lane lanes long d =
    let front = d.later.0 in
    let many = d.many in
    let next : n + 1 ≡ suc n = omega arith in
    let last : AreEvery c r step (suc n + length lanes) lane = subst (λ (k : ℕ). AreEvery c r step k lane) (omega (arith, long)) front.2 in
    record {
      many = length_push made new ∙ ap (λ (k : ℕ). k + 1) many;
      each = each_push c r 0 made new n d.each (omega (arith, many)) front.1;
      later = subst (λ (k : ℕ). AreLanes c r step k (lanes ++ lane ∷ [])) (sym next) (lanes_push c r step (suc n) lanes lane d.later.1 last);
    }

module _ {L : Type 0} (items : L → List (Option NewFile)) where
  pub dealt_turn : (c : CommonFile) (r : Run) (step n : ℕ) (new : Option NewFile) (made made' : List (Option NewFile)) (lane lane' : L) (old lanes lanes' : List L)
      → length old ≡ step → old ≡ lane ∷ lanes → items lane ≡ new ∷ items lane' → lanes' ≡ lanes ++ lane' ∷ [] → made' ≡ made ++ new ∷ []
      → Dealt c r step n made (map items old)
      → Dealt c r step (n + 1) made' (map items lanes')
  dealt_turn c r step n new made made' lane lane' old lanes lanes' long first took behind more d =
      let length_old = ap (λ (xs : List L). length xs) first in
      let length_map : length (map items lanes) ≡ length lanes = omega (arith, length-map lanes items) in
      let rest = ap (λ (xs : List L). map items xs) behind ∙ map-append items lanes (lane' ∷ []) in
      let front = ap (λ (xs : List L). map items xs) first ∙ ap (λ (xs : List (Option NewFile)). xs ∷ map items lanes) took in
      let made_so =
      turn c r step n new made (items lane') (map items lanes) (omega (arith, length_old, length_map, long))
      (subst (λ (ls : List (List (Option NewFile))). Dealt c r step n made ls) front d) in
      subst (λ (ls : List (List (Option NewFile))). Dealt c r step (n + 1) made' ls) (sym rest)
      (subst (λ (ms : List (Option NewFile)). Dealt c r step (n + 1) ms (map items lanes ++ items lane' ∷ [])) (sym more) made_so)

-- ---- lanes one after another

-- the results of so many threads, the first of which has every so many files from that one on
abbrev pub AreMade : {E : Type 0} → CommonFile → Run → ℕ → ℕ → ℕ → List (Result (Vec (Option NewFile) Global) E) → Type 0
AreMade {E} c r step first count results =
    (k : ℕ) (d : Result (Vec (Option NewFile) Global) E) → k < count
    → IfOk (get_or results k d) (λ made. AreEvery c r step (first + k) made.items)

-- that of the first, and the others
pub made_first : {E : Type 0} (c : CommonFile) (r : Run) (step first count : ℕ) (results later : List (Result (Vec (Option NewFile) Global) E))
    (x : Result (Vec (Option NewFile) Global) E) (lane : Vec (Option NewFile) Global) → results ≡ x ∷ later → x ≡ Ok lane → 0 < count
    → AreMade c r step first count results → AreEvery c r step first lane.items
made_first {E} c r step first count results later x lane cons ok some are =
    let there = cons ∙ ap (λ (y : Result (Vec (Option NewFile) Global) E). y ∷ later) ok in
    subst (λ (k : ℕ). AreEvery c r step k lane.items) (omega arith)
    (subst (λ (rs : List (Result (Vec (Option NewFile) Global) E)). IfOk (get_or rs 0 (Ok lane)) (λ made. AreEvery c r step (first + 0) made.items))
    there
    (are 0 (Ok lane) some))

pub made_later : {E : Type 0} (c : CommonFile) (r : Run) (step first count less : ℕ) (results later : List (Result (Vec (Option NewFile) Global) E))
    (x : Result (Vec (Option NewFile) Global) E) → results ≡ x ∷ later → less + 1 ≡ count → AreMade c r step first count results
    → AreMade c r step (first + 1) less later
made_later {E} c r step first count less results later x cons one are k d below =
    subst (λ (n : ℕ). IfOk (get_or later k d) (λ made. AreEvery c r step n made.items)) (omega arith)
    (subst (λ (rs : List (Result (Vec (Option NewFile) Global) E)). IfOk (get_or rs (suc k) d) (λ made. AreEvery c r step (first + suc k) made.items))
    cons
    (are (suc k) d (omega (arith, one))))

-- a lane behind the others
pub lanes_long : {L : Type 0} (lanes lanes' : List L) (lane : L) → lanes' ≡ lanes ++ lane ∷ [] → length lanes' ≡ length lanes + 1
lanes_long {L} lanes lanes' lane behind = ap (λ (xs : List L). length xs) behind ∙ length_push lanes lane

module _ {L : Type 0} (items : L → List (Option NewFile)) where
  pub lanes_more : (c : CommonFile) (r : Run) (step : ℕ) (lanes lanes' : List L) (lane : L) (made : List (Option NewFile)) → items lane ≡ made
      → lanes' ≡ lanes ++ lane ∷ [] → AreLanes c r step 0 (map items lanes) → AreEvery c r step (length lanes) made
      → AreLanes c r step 0 (map items lanes')
  lanes_more c r step lanes lanes' lane made same behind are every =
      let long : length lanes ≡ 0 + length (map items lanes) = omega (arith, length-map lanes items) in
      let rest = ap (λ (xs : List L). map items xs) behind ∙ map-append items lanes (lane ∷ []) in
      subst (λ (ls : List (List (Option NewFile))). AreLanes c r step 0 ls) (sym rest)
      (lanes_push c r step 0 (map items lanes) (items lane) are
      (subst (λ (made : List (Option NewFile)). AreEvery c r step (0 + length (map items lanes)) made) (sym same)
      (subst (λ (k : ℕ). AreEvery c r step k made) long every)))

-- ---- one lane

every_many : (c : CommonFile) (r : Run) (n : ℕ) (made : List (Option NewFile)) → AreEvery c r 1 n made → n ≤ length r.files → n + length made ≡ length r.files
every_many c r n [] are within = (let end : length r.files ≤ n = are in omega arith)
every_many c r n (new ∷ made) are within = (let later = every_many c r (n + 1) made are.2 (omega (arith, are.0)) in omega (arith, later))

every_each : (c : CommonFile) (r : Run) (n : ℕ) (made : List (Option NewFile)) → AreEvery c r 1 n made → EachIs c r n made
every_each c r n [] are file new nth = absurd nth
every_each c r n (x ∷ made) are file new (inl here) =
    subst (λ (o : Option NewFile). IsNewOrOldBy c r file o) here.1 (subst (λ (k : ℕ). IsNewOrOldBy c r k x) here.0 are.1)
every_each c r n (x ∷ made) are file new (inr later) =
    every_each c r (suc n) made (subst (λ (k : ℕ). AreEvery c r 1 k made) (omega arith) are.2) file new later

-- what is new in every file is what is new in all of them
pub all_new : {E : Type 0} (c : CommonFile) (r : Run) (made : Result (Vec (Option NewFile) Global) E) → IfOk made (λ m. AreEvery c r 1 0 m.items)
    → IfOk made (λ m. AreNewFiles c r m.items)
all_new c r (Ok made) are =
    let many = every_many c r 0 made.items are (omega arith) in
    record { many = omega (arith, many); each = every_each c r 0 made.items are }
all_new c r (Err e) are = tt
