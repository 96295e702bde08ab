-- How `clap` walks over the words of one argument: it names no fault.
--
-- The walk takes the words one by one. The values of the argument that it is at are pending: they become a row of the
-- matches only when the next argument begins. Between two arguments the walk is `between rows pending waiting`, and
-- `full_rows rows pending` are the rows that it would have if the pending argument were used at once.
use Rattle.std.proofs.Common.{◌≡◌, ◌∙◌, ◌∷◌, [], ◌++◌, refl, ap, Bool, true, false, List, Option, Some, None, codes}
use Rattle.std.specs.Prelude.{fold}
use Rattle.std.specs.Str.{bytes_eq}
use Rattle.clap.specs.Words.{Row, Rule, Text, Kinds, built}
use Rattle.clap.specs.Lexer.{long_of, short_of}
use Rattle.clap.specs.Kinds.{or_else}
use Rattle.clap.specs.Simple.{Shape, filled, with_index}
use Rattle.clap.specs.Walk.{Held, Waiting, Walk, idle, option, positional, settled_rows, used, has_row, walked}
use Rattle.clap.specs.Faults.{settle_fault, turn_fault, walk_fault}
use Rattle.clap.proofs.OnLiterals.{clap_on_literals}
use Rattle.dwz_words.specs.Command.{batch_rule, check_rule, common_rule, demo_rule, dwarf_rule, dwz_command, expand_rule, explain_rule, file_rule, name_rule, out_rule, quiet_rule, reuse_rule, sup_rule, workers_rule}
use Rattle.dwz_words.specs.Plain.{Argument, batch, begins_with_dash, check, common, demo, dwarf, expand, explain, file, name, out, quiet, reuse, sup, workers}

-- ---- the command

-- the command as `clap` reads it, with what it fills in by itself
abbrev pub top : Shape
top = (built dwz_command).top

abbrev pub rules : List Rule
rules = top.rules

abbrev pub built_rule : Rule → Rule
built_rule r = with_index 1 (filled r)

-- the rule of an argument
abbrev pub rule_for : Argument → Rule
rule_for quiet = built_rule quiet_rule
rule_for dwarf = built_rule dwarf_rule
rule_for (common text) = built_rule common_rule
rule_for (name text) = built_rule name_rule
rule_for (out text) = built_rule out_rule
rule_for (workers text) = built_rule workers_rule
rule_for (demo text) = built_rule demo_rule
rule_for explain = built_rule explain_rule
rule_for check = built_rule check_rule
rule_for expand = built_rule expand_rule
rule_for (reuse text) = built_rule reuse_rule
rule_for (batch text) = built_rule batch_rule
rule_for (sup text) = built_rule sup_rule
rule_for (file text) = built_rule file_rule

-- the values that the words give it
abbrev pub values_for : Argument → List Text
values_for quiet = []
values_for dwarf = []
values_for (common text) = text ∷ []
values_for (name text) = text ∷ []
values_for (out text) = text ∷ []
values_for (workers text) = text ∷ []
values_for (demo text) = text ∷ []
values_for explain = []
values_for check = []
values_for expand = []
values_for (reuse text) = text ∷ []
values_for (batch text) = text ∷ []
values_for (sup text) = text ∷ []
values_for (file text) = text ∷ []

-- the rows after one argument, and after all
abbrev pub row_after : Argument → List Row → List Row
row_after p rows = used (rule_for p) (values_for p) rows

abbrev pub all_after : List Argument → List Row → List Row
all_after [] rows = rows
all_after (p ∷ ps) rows = all_after ps (row_after p rows)

-- ---- where the walk stands between two arguments

-- the id of an argument, and its values so far
abbrev pub Pending : Type 0
Pending = Option (Text × List Text)

abbrev pub held : List Row → Pending → Held
held rows pending = record { rows = rows; pending = pending; skip = 0 }

abbrev pub between : List Row → Pending → Waiting → Walk
between rows pending waiting = record {
  held = held rows pending;
  waiting = waiting;
  position = 1;
  is_trailing = false;
  stopped = None;
}

-- no option waits for its value
abbrev pub is_ready : Waiting → Bool
is_ready (option id) = false
is_ready _ = true

-- the rows once the pending argument is used
abbrev pub full_rows : List Row → Pending → List Row
full_rows rows pending = settled_rows rules pending rows

-- the words lead from one state to the other, with no fault
pub record Leads (w : Walk) (words : List Text) (w' : Walk) : Type 0 where
  pub fault : (rest : List Text) → walk_fault top [] w (words ++ rest) ≡ walk_fault top [] w' rest
  pub walk : (rest : List Text) → fold (walked rules []) w (words ++ rest) ≡ fold (walked rules []) w' rest

pub leads_by : (w w' : Walk) (word : Text) → turn_fault top [] w word ≡ [] → walked rules [] w word ≡ w' → Leads w (word ∷ []) w'
unfolding clap_on_literals
leads_by w w' word none to = record {
  fault = λ rest. ap (λ (k : Kinds). or_else k (walk_fault top [] (walked rules [] w word) rest)) none ∙ ap (λ (v : Walk). walk_fault top [] v rest) to;
  walk = λ rest. ap (λ (v : Walk). fold (walked rules []) v rest) to;
}

pub leads_on : (w w' w'' : Walk) (a b : Text) → Leads w (a ∷ []) w' → Leads w' (b ∷ []) w'' → Leads w (a ∷ b ∷ []) w''
leads_on w w' w'' a b f g = record {
  fault = λ rest. f.fault (b ∷ rest) ∙ g.fault rest;
  walk = λ rest. f.walk (b ∷ rest) ∙ g.walk rest;
}

-- ---- a word that is no flag

pub record IsNoFlag (text : Text) : Type 0 where
  pub no_dashes : bytes_eq text (45 ∷ 45 ∷ []) ≡ false
  pub no_long : long_of text ≡ None
  pub no_short : short_of text ≡ None

pub no_dash_no_flag : (text : Text) → begins_with_dash text ≡ false → IsNoFlag text
no_dash_no_flag [] dash = record { no_dashes = refl; no_long = refl; no_short = refl }
no_dash_no_flag (x ∷ xs) dash = record { no_dashes = rw dash refl; no_long = rw dash refl; no_short = rw dash refl }

-- the option waits for its value
abbrev pub awaiting : List Row → Text → Walk
awaiting rows id = record {
  held = held rows (Some (id, []));
  waiting = option id;
  position = 1;
  is_trailing = false;
  stopped = None;
}

-- the value of an option
module _ (rows : List Row) (text : Text) (v : IsNoFlag text) where
  pub common_value : Leads (awaiting rows (codes "m")) (text ∷ []) (between rows (Some (codes "m", text ∷ [])) idle)
  unfolding clap_on_literals
  common_value = leads_by _ _ text (rw (v.no_dashes, v.no_long, v.no_short) refl) (rw (v.no_dashes, v.no_long, v.no_short) refl)

  pub name_value : Leads (awaiting rows (codes "M")) (text ∷ []) (between rows (Some (codes "M", text ∷ [])) idle)
  unfolding clap_on_literals
  name_value = leads_by _ _ text (rw (v.no_dashes, v.no_long, v.no_short) refl) (rw (v.no_dashes, v.no_long, v.no_short) refl)

  pub out_value : Leads (awaiting rows (codes "o")) (text ∷ []) (between rows (Some (codes "o", text ∷ [])) idle)
  unfolding clap_on_literals
  out_value = leads_by _ _ text (rw (v.no_dashes, v.no_long, v.no_short) refl) (rw (v.no_dashes, v.no_long, v.no_short) refl)

  pub workers_value : Leads (awaiting rows (codes "j")) (text ∷ []) (between rows (Some (codes "j", text ∷ [])) idle)
  unfolding clap_on_literals
  workers_value = leads_by _ _ text (rw (v.no_dashes, v.no_long, v.no_short) refl) (rw (v.no_dashes, v.no_long, v.no_short) refl)

  pub demo_value : Leads (awaiting rows (codes "demo")) (text ∷ []) (between rows (Some (codes "demo", text ∷ [])) idle)
  unfolding clap_on_literals
  demo_value = leads_by _ _ text (rw (v.no_dashes, v.no_long, v.no_short) refl) (rw (v.no_dashes, v.no_long, v.no_short) refl)

  pub reuse_value : Leads (awaiting rows (codes "reuse")) (text ∷ []) (between rows (Some (codes "reuse", text ∷ [])) idle)
  unfolding clap_on_literals
  reuse_value = leads_by _ _ text (rw (v.no_dashes, v.no_long, v.no_short) refl) (rw (v.no_dashes, v.no_long, v.no_short) refl)

  pub batch_value : Leads (awaiting rows (codes "batch")) (text ∷ []) (between rows (Some (codes "batch", text ∷ [])) idle)
  unfolding clap_on_literals
  batch_value = leads_by _ _ text (rw (v.no_dashes, v.no_long, v.no_short) refl) (rw (v.no_dashes, v.no_long, v.no_short) refl)

  pub sup_value : Leads (awaiting rows (codes "sup")) (text ∷ []) (between rows (Some (codes "sup", text ∷ [])) idle)
  unfolding clap_on_literals
  sup_value = leads_by _ _ text (rw (v.no_dashes, v.no_long, v.no_short) refl) (rw (v.no_dashes, v.no_long, v.no_short) refl)

-- a flag, and the word of an option
module _ (rows : List Row) (pending : Pending) (settles : settle_fault rules false (held rows pending) ≡ []) where
  pub quiet_leads : (waiting : Waiting) → is_ready waiting ≡ true → has_row (codes "q") (full_rows rows pending) ≡ false
      → Leads (between rows pending waiting) (codes "-q" ∷ []) (between (row_after quiet (full_rows rows pending)) None idle)
  unfolding clap_on_literals
  quiet_leads idle e fresh = leads_by _ _ _ (rw (settles, fresh) refl) refl
  quiet_leads positional e fresh = leads_by _ _ _ (rw (settles, fresh) refl) refl
  quiet_leads (option id) e fresh = cc

  pub dwarf_leads : (waiting : Waiting) → is_ready waiting ≡ true → has_row (codes "dwarf-5") (full_rows rows pending) ≡ false
      → Leads (between rows pending waiting) (codes "--dwarf-5" ∷ []) (between (row_after dwarf (full_rows rows pending)) None idle)
  unfolding clap_on_literals
  dwarf_leads idle e fresh = leads_by _ _ _ (rw (settles, fresh) refl) refl
  dwarf_leads positional e fresh = leads_by _ _ _ (rw (settles, fresh) refl) refl
  dwarf_leads (option id) e fresh = cc

  pub explain_leads : (waiting : Waiting) → is_ready waiting ≡ true → has_row (codes "explain") (full_rows rows pending) ≡ false
      → Leads (between rows pending waiting) (codes "--explain" ∷ []) (between (row_after explain (full_rows rows pending)) None idle)
  unfolding clap_on_literals
  explain_leads idle e fresh = leads_by _ _ _ (rw (settles, fresh) refl) refl
  explain_leads positional e fresh = leads_by _ _ _ (rw (settles, fresh) refl) refl
  explain_leads (option id) e fresh = cc

  pub check_leads : (waiting : Waiting) → is_ready waiting ≡ true → has_row (codes "check") (full_rows rows pending) ≡ false
      → Leads (between rows pending waiting) (codes "--check" ∷ []) (between (row_after check (full_rows rows pending)) None idle)
  unfolding clap_on_literals
  check_leads idle e fresh = leads_by _ _ _ (rw (settles, fresh) refl) refl
  check_leads positional e fresh = leads_by _ _ _ (rw (settles, fresh) refl) refl
  check_leads (option id) e fresh = cc

  pub expand_leads : (waiting : Waiting) → is_ready waiting ≡ true → has_row (codes "expand") (full_rows rows pending) ≡ false
      → Leads (between rows pending waiting) (codes "--expand" ∷ []) (between (row_after expand (full_rows rows pending)) None idle)
  unfolding clap_on_literals
  expand_leads idle e fresh = leads_by _ _ _ (rw (settles, fresh) refl) refl
  expand_leads positional e fresh = leads_by _ _ _ (rw (settles, fresh) refl) refl
  expand_leads (option id) e fresh = cc

  pub common_word : (waiting : Waiting) → is_ready waiting ≡ true
      → Leads (between rows pending waiting) (codes "-m" ∷ []) (awaiting (full_rows rows pending) (codes "m"))
  unfolding clap_on_literals
  common_word idle e = leads_by _ _ _ (rw settles refl) refl
  common_word positional e = leads_by _ _ _ (rw settles refl) refl
  common_word (option id) e = cc

  pub name_word : (waiting : Waiting) → is_ready waiting ≡ true
      → Leads (between rows pending waiting) (codes "-M" ∷ []) (awaiting (full_rows rows pending) (codes "M"))
  unfolding clap_on_literals
  name_word idle e = leads_by _ _ _ (rw settles refl) refl
  name_word positional e = leads_by _ _ _ (rw settles refl) refl
  name_word (option id) e = cc

  pub out_word : (waiting : Waiting) → is_ready waiting ≡ true
      → Leads (between rows pending waiting) (codes "-o" ∷ []) (awaiting (full_rows rows pending) (codes "o"))
  unfolding clap_on_literals
  out_word idle e = leads_by _ _ _ (rw settles refl) refl
  out_word positional e = leads_by _ _ _ (rw settles refl) refl
  out_word (option id) e = cc

  pub workers_word : (waiting : Waiting) → is_ready waiting ≡ true
      → Leads (between rows pending waiting) (codes "-j" ∷ []) (awaiting (full_rows rows pending) (codes "j"))
  unfolding clap_on_literals
  workers_word idle e = leads_by _ _ _ (rw settles refl) refl
  workers_word positional e = leads_by _ _ _ (rw settles refl) refl
  workers_word (option id) e = cc

  pub demo_word : (waiting : Waiting) → is_ready waiting ≡ true
      → Leads (between rows pending waiting) (codes "--demo" ∷ []) (awaiting (full_rows rows pending) (codes "demo"))
  unfolding clap_on_literals
  demo_word idle e = leads_by _ _ _ (rw settles refl) refl
  demo_word positional e = leads_by _ _ _ (rw settles refl) refl
  demo_word (option id) e = cc

  pub reuse_word : (waiting : Waiting) → is_ready waiting ≡ true
      → Leads (between rows pending waiting) (codes "--reuse" ∷ []) (awaiting (full_rows rows pending) (codes "reuse"))
  unfolding clap_on_literals
  reuse_word idle e = leads_by _ _ _ (rw settles refl) refl
  reuse_word positional e = leads_by _ _ _ (rw settles refl) refl
  reuse_word (option id) e = cc

  pub batch_word : (waiting : Waiting) → is_ready waiting ≡ true
      → Leads (between rows pending waiting) (codes "--batch" ∷ []) (awaiting (full_rows rows pending) (codes "batch"))
  unfolding clap_on_literals
  batch_word idle e = leads_by _ _ _ (rw settles refl) refl
  batch_word positional e = leads_by _ _ _ (rw settles refl) refl
  batch_word (option id) e = cc

  pub sup_word : (waiting : Waiting) → is_ready waiting ≡ true
      → Leads (between rows pending waiting) (codes "--sup" ∷ []) (awaiting (full_rows rows pending) (codes "sup"))
  unfolding clap_on_literals
  sup_word idle e = leads_by _ _ _ (rw settles refl) refl
  sup_word positional e = leads_by _ _ _ (rw settles refl) refl
  sup_word (option id) e = cc
