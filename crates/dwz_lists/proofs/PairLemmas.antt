-- A pair of offsets is an entry.
use Rattle.std.proofs.Common.{◌≡◌, ℕ, Bool, ◌+◌, ◌-◌, ◌<◌, ◌≤◌, List, [], ◌∷◌, length, get_or, drop, Option, Some, None, Ok, Err, refl, sym, ap, ◌∙◌, arith}
use Rattle.std.specs.Prelude.{IfSome}
use Rattle.std.proofs.lemmas.Bool.{le-ltb}
use Rattle.std.proofs.lemmas.List.{drop-drop, drop_more, length-drop}
use Rattle.dwz_model.specs.declared.fault.Fault.{Fault}
use Rattle.dwz_model.specs.declared.fault.ReadErr.{ReadErr}
use Rattle.dwz_bytes.specs.Input.{input}
use Rattle.dwz_bytes.proofs.LebLemmas.{one_byte}
use Rattle.dwz_codes.specs.ListKinds.{list_kind_rows}
use Rattle.dwz_def_reading.specs.declared.exprs.Operand.{Operand}
use Rattle.dwz_def_reading.specs.Exprs.{Field, Inside, Unsigned, fields_of}
use Rattle.dwz_def_reading.specs.LocLists.{bad_list}
use Rattle.dwz_def_reading.specs.Values.{shape_of}
use Rattle.dwz_expr.specs.Few.{AreFew}
use Rattle.dwz_expr.specs.FirstFault.{ReadsInto}
use Rattle.dwz_expr.proofs.FewLemmas.{few_read}
use Rattle.dwz_lists.specs.Entries.{IsEntry, ReadsEntry}
use Rattle.dwz_lists.specs.Gathering.{front_at, kind_front}
use Rattle.dwz_lists.specs.Pairs.{IsCounted, IsPair, span_input}
use Rattle.dwz_lists.specs.declared.pair.Span.{Span}
use Rattle.dwz_lists.proofs.EntryLemmas.{entry_read, expr_bad}

pub counted_there : (section : List ℕ) (at : ℕ) (s : Span) → at < length section → get_or section at 0 < 128 → s.from ≡ at + 1 → s.end ≡ at + 1 + get_or section at 0 → s.end ≤ length section → IsCounted section at s
counted_there section at s there low from end within =
    let count : get_or section at 0 ≡ s.end - s.from = omega (arith, from, end) in
    record {
      order = omega (arith, from, end);
      within = within;
      count = one_byte section at there low ∙ (λ n. Ok (count n, input section (sym from n)));
    }

pair_laid : fields_of (shape_of list_kind_rows 4) ≡ Some (Unsigned ∷ Unsigned ∷ Inside ∷ [])
unfolding list_kind_rows
pair_laid = refl

module _ (section : List ℕ) (place second third : ℕ) (s : Span) (first : AreFew 3 section (place + 1) second) (other : AreFew 3 section second third) (content : IsCounted section third s) where
  pair_front : (bad : Fault) → front_at bad (Unsigned ∷ Unsigned ∷ Inside ∷ []) (input section (place + 1)) ≡ Ok (Some (span_input section s), input section s.end)
  unfolding front_at
  pair_front bad =
      let at : s.from + (s.end - s.from) ≡ s.end = omega (arith, content.order) in
      let behind : drop (s.end - s.from) (drop s.from section) ≡ drop s.end section = drop-drop (s.end - s.from) s.from section ∙ ap (λ (n : ℕ). drop n section) at in
      let enough = le-ltb (length (drop s.from section)) (s.end - s.from) (omega (arith, content.within, length-drop s.from section)) in
      rw (few_read section (place + 1) second first, few_read section second third other, content.count, enough)
      (λ n. Ok (Some (span_input section s), record { at = at n; rest = behind n }))

  pair_is : place < length section → get_or section place 0 ≡ 4 → IsPair section place s
  pair_is there is = record {
    order = content.order;
    within = content.within;
    kind = drop_more section place 0 there ∙ ap (λ (n : ℕ). n ∷ drop (place + 1) section) is;
    front = ap (λ (o : Option (List Field)). kind_front place o (input section (place + 1))) pair_laid ∙ pair_front (bad_list place);
  }

pub pair_found : (section : List ℕ) (place second third : ℕ) (o : Option Span) → place < length section → get_or section place 0 ≡ 4 → AreFew 3 section (place + 1) second → AreFew 3 section second third
    → IfSome o (λ s. IsCounted section third s) → IfSome o (λ s. IsPair section place s)
pair_found section place second third None there is first other content = tt
pair_found section place second third (Some s) there is first other content = pair_is section place second third s first other content there is

module _ (section : List ℕ) (place : ℕ) (s : Span) (is : IsPair section place s) (own : List Operand) where
  pub pair_read : (address : Bool) → ReadsInto 7 (span_input section s) own (Ok address) → IsEntry section place own s.end
  pair_read address read =
      entry_read section place (input section (place + 1)) 4 (record { rest = is.kind; at = refl }) (λ e. absurd (omega arith)) (input section s.end) (Some (span_input section s)) own is.front
      (address, read)

  pub pair_bad : (e : ReadErr) → ReadsInto 7 (span_input section s) own (Err e) → ReadsEntry section place own (Err e)
  pair_bad e read =
      expr_bad section place (input section (place + 1)) 4 (record { rest = is.kind; at = refl }) (λ e. absurd (omega arith)) (input section s.end) (Some (span_input section s)) own e is.front read
